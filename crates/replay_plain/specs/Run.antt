-- What a run keeps.
use Rattle.std.specs.Prelude.{◌≡◌}
use Rattle.machine.specs.Segments.{StandsFor}
use Rattle.script_heaps.specs.Showing.{Shows}
use Rattle.replay_plain.specs.declared.run.PlainRun.{PlainRun}
use Rattle.replay_plain.specs.State.{ReplayState}
use Rattle.replay_plain.specs.Known.{TellsAll}

-- the run stands for this state
pub record RunStandsFor (run : PlainRun) (state : ReplayState) : Type 0 where
  pub segments : StandsFor run.segments state.events
  pub known : TellsAll state.events run.known
  pub entries : run.entries.items ≡ state.entries
  pub limit : run.limit ≡ state.limit
  pub standard : run.standard ≡ state.standard
  pub heaps : Shows run.heaps state.heaps
