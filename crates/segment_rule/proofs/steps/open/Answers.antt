use Rattle.segment_rule.proofs.StepsKeepTheRule.{begins}
use Rattle.segment_rule.proofs.steps.open.Goals as goal

pub vacant-requires : goal.vacant-requires
vacant-requires c = begins c.args.id c.args.pages
