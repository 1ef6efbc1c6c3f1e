use Rattle.std.proofs.Common.{refl, subst, Option}
use Rattle.machine.specs.declared.event.Event.TheVariants.{Write}
use Rattle.machine.specs.KeptSegment.{KeptSegment}
use Rattle.machine.proofs.Whole.{at_misuse}
use Rattle.replay_real.specs.Owners.{ShowsAt}
use Rattle.replay_real.proofs.TableSteps.{misused}
use Rattle.replay_real.proofs.owners.Given.write.Goals as goal

pub returns-in-None-clause-answer : goal.returns-in-None-clause-answer
returns-in-None-clause-answer c = λ h id w. misused h (Write id c.args.place c.args.bytes.now) id refl refl (subst (λ (o : Option KeptSegment). ShowsAt h id o) c.in-None.is w)

pub returns-in-None-clause-after : goal.returns-in-None-clause-after
returns-in-None-clause-after c = λ h id w. at_misuse h (Write id c.args.place c.args.bytes.now) id c.args.self.now.owner w
