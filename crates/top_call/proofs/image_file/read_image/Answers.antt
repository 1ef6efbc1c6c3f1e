-- A file that is too long is refused, also where the files do not tell its bytes.
use Rattle.std.proofs.Common.{refl}
use Rattle.top_call.proofs.Files.{too_long}
use Rattle.top_call.proofs.image_file.read_image.Goals as goal

pub returns-in-Err-TooLong-clause-reads : goal.returns-in-Err-TooLong-clause-reads
returns-in-Err-TooLong-clause-reads g c =
    too_long (g.F.Files.bytes c.args.files.now c.args.file.now) ((rw c.in-Err-TooLong.field-0-is at c.in-Err-TooLong.ensures.too_long) refl)
