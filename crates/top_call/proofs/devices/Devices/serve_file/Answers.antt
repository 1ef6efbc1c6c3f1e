use Rattle.std.proofs.Common.{◌∙◌, ap}
use Rattle.discard_io.specs.Streams.{appended}
use Rattle.top_call.proofs.devices.Devices.serve_file.Goals as goal

-- the replies were written, and they are the definition's
pub returns-in-Ok-write_all-clause-ends : goal.returns-in-Ok-write_all-clause-ends
returns-in-Ok-write_all-clause-ends g c =
    let right = c.in-Ok-served.ensures.right in
    record {
      image = c.in-Ok.image;
      requests = c.in-Ok-read_input.requests;
      work = record { file = c.in-Ok.ensures.reads; input = c.in-Ok-read_input.ensures.reads };
      right = right;
      written = c.in-Ok-write_all.ensures.all ∙ ap (appended _) (c.as_slice.ensures ∙ right.replies);
    }
