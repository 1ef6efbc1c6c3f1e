-- A refused input: what was taken is refused, and so is all that was left.
use Rattle.std.proofs.Common.{refl, arith}
use Rattle.replay_run.specs.Ending.{Devices, devices}
use Rattle.replay_run.proofs.Refusals.{whole_refused, front_refused, ends_refused}
use Rattle.replay_run.proofs.replaying.replay.Goals as goal

pub returns-in-Err-TooLong : goal.returns-in-Err-TooLong
returns-in-Err-TooLong g c =
    let before : Devices = devices (g.S.Source.left c.args.source.now) (g.S.Source.faults c.args.source.now) (g.O.Sink.written c.args.sink.now) (g.O.Sink.faults c.args.sink.now) in
    let after : Devices = devices (g.S.Source.left c.read_to_end.new.source) (g.S.Source.faults c.read_to_end.new.source) (g.O.Sink.written c.args.sink.now) (g.O.Sink.faults c.args.sink.now) in
    record {
      ends = ends_refused c.args.cfg.now c.refused.result before after _ c.number.result c.refused.ensures
          (front_refused before after c.number.result c.number.ensures (rw c.in-Err-TooLong.field-0-is at c.in-Err-TooLong.ensures.took) refl)
          c.in-Err-TooLong.ensures.later (omega arith);
    }

pub returns-in-Err-Bad : goal.returns-in-Err-Bad
returns-in-Err-Bad g c =
    let before : Devices = devices (g.S.Source.left c.args.source.now) (g.S.Source.faults c.args.source.now) (g.O.Sink.written c.args.sink.now) (g.O.Sink.faults c.args.sink.now) in
    let after : Devices = devices (g.S.Source.left c.read_to_end.new.source) (g.S.Source.faults c.read_to_end.new.source) (g.O.Sink.written c.args.sink.now) (g.O.Sink.faults c.args.sink.now) in
    let within = c.in-Ok.ensures.within in
    let sized = c.in-Ok.bytes.ok.0 in
    record {
      ends = ends_refused c.args.cfg.now c.refused-in-Err-Bad.result before after c.in-Err-Bad.place c.in-Err-Bad.cause c.refused-in-Err-Bad.ensures
          (whole_refused before after c.in-Ok.bytes.items c.in-Err-Bad.place c.in-Err-Bad.cause c.in-Ok.ensures.took (omega arith)
          (rw c.in-Err-Bad.field-0-is at c.in-Err-Bad.ensures) refl)
          c.in-Ok.ensures.later (omega arith);
    }
