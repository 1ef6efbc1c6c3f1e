-- How bytes are written to a sink.
use Rattle.std.specs.Prelude.{◌≡◌, Result, IsOk}

-- nothing was to be written: that went well, and no call was made of the sink, so it is as it was
pub record WritesNothing {O E : Type 0} (answer : Result Unit E) (before after : O) : Type 0 where
  pub ok : IsOk answer
  pub same : after ≡ before
