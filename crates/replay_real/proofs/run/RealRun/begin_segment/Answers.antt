use Rattle.std.proofs.Common.{◌∙◌, ℕ, subst}
use Rattle.std.proofs.lemmas.Result.{IfOk-weaker}
use Rattle.replay_real.specs.Acts.{GrantsPiece}
use Rattle.replay_real.proofs.OnPieces.{standard_kept}
use Rattle.replay_real.proofs.run.RealRun.begin_segment.Goals as goal

pub returns-clause-begins : goal.returns-clause-begins
returns-clause-begins c = IfOk-weaker c.adopt.result _ _ (λ run grants. record {
  count = c.sweep.result;
  swept = c.sweep.new.self;
  sweeps = c.sweep.ensures;
  listed = c.tell.new.state;
  told = c.tell.new.self;
  tells = c.tell.ensures.tells;
  grants = subst (λ (n : ℕ). GrantsPiece c.args.client c.args.pages c.args.now n run c.tell.new.state c.adopt.new.self.state)
      (standard_kept c.args.client _ _ c.sweep.new.self c.tell.new.self c.tell.ensures.tells
      ∙ standard_kept c.args.client _ _ c.args.self.now.heaps c.sweep.new.self c.sweep.ensures)
      grants;
}) c.adopt.ensures.grants
