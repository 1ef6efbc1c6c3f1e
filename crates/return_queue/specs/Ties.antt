-- When a pass is a giving pass of a queue, or its taker.
use Rattle.std.specs.Prelude.{◌≡◌, Bool, true, false, [], Option, Some, IfSome}
use Rattle.crossbeam_queue.specs.declared.array_queue.Doing.{Doing}
use Rattle.crossbeam_queue.specs.declared.array_queue.Slotted.{Slotted}
use Rattle.crossbeam_queue.specs.Passes.{Pass, view, ruled_capacity}
use Rattle.return_queue.specs.declared.note.Note.{Note}
use Rattle.return_queue.specs.declared.rule.View.{View}
use Rattle.return_queue.specs.Name.{QueueName}

-- the name of a queue on a table
abbrev pub name_of : {Q A : Type 0} → Slotted (Option Note) (Doing Note View) Q A → QueueName
name_of line = record { table = Some line.table.shared.table_id; most = ruled_capacity line }

-- it is a pass of the queue of this name, and no slot is out with it
abbrev pub IsOf : QueueName → Pass Note View → Type 0
IsOf name p = IfSome name.table (λ table. p.table_id ≡ table) × (p.me.1 ≡ [])

abbrev pub IsGivingPass : QueueName → Pass Note View → Type 0
IsGivingPass name p = IsOf name p × ((view p).gives ≡ true) × ((view p).takes ≡ false) × ((view p).cap ≡ name.most)

abbrev pub IsTakingPass : QueueName → Pass Note View → Type 0
IsTakingPass name p = IsOf name p × ((view p).gives ≡ false) × ((view p).takes ≡ true) × ((view p).cap ≡ name.most)
