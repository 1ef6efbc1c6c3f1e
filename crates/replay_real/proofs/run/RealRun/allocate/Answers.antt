use Rattle.std.proofs.Common.{◌≡◌, ◌∙◌, ◌++◌, ℕ, Option, Some, IfSome, true, false, refl, ap, subst}
use Rattle.span_heap.specs.declared.run.Run.{Run}
use Rattle.replay_plain.specs.Replies.{piece_words}
use Rattle.replay_real.specs.Acts.{BeginsPiece}
use Rattle.std.proofs.lemmas.Result.{on_ok_weaker}
use Rattle.replay_real.proofs.OneLine.{appends, piece_line}
use Rattle.replay_real.proofs.run.RealRun.allocate.Goals as goal

pub returns-in-Some-clause-words : goal.returns-in-Some-clause-words
returns-in-Some-clause-words c = on_ok_weaker c.push_piece.result (λ is. appends _ _ _ is (piece_line c.last_piece.result true c.in-Some.run')) c.push_piece.ensures

pub returns-in_ok-run-in-None-clause-words : goal.returns-in_ok-run-in-None-clause-words
returns-in_ok-run-in-None-clause-words c = on_ok_weaker c.push_piece-in-None.result (λ is. appends _ _ _ is (piece_line c.last_piece-in-None.result false c.in_ok-run-in-None.run')) c.push_piece-in-None.ensures

pub returns-in-Some-clause-tells : goal.returns-in-Some-clause-tells
returns-in-Some-clause-tells c = on_ok_weaker c.push_piece.result (λ is. record {
  run = c.in-Some.run';
  served = true;
  sized = some_sized c.in_ok-run.field-0 c.in-Some.run' c.pages_for-pages.result (let e = c.in-Some.is in cc) c.in_ok-run.ensures.sized ∙ c.pages_for-pages.ensures.value;
  found = c.find.new.self;
  standard = c.in_ok-run.ensures.standard;
  manager = refl;
  words = is ∙ ap (λ (n : ℕ). c.args.reply.now.items ++ piece_words n true c.in-Some.run') c.last_piece.ensures;
}) c.push_piece.ensures
  where
    some_sized : (found : Option Run) (run : Run) (n : ℕ) → found ≡ Some run → IfSome found (λ r. r.pages ≡ n) → run.pages ≡ n
    some_sized found run n is sized = subst (λ (o : Option Run). IfSome o (λ r. r.pages ≡ n)) is sized

pub returns-in_ok-run-in-None-clause-tells : goal.returns-in_ok-run-in-None-clause-tells
returns-in_ok-run-in-None-clause-tells c = on_ok_weaker c.push_piece-in-None.result (λ is. record {
  run = c.in_ok-run-in-None.run';
  served = false;
  sized = ap (λ (r : Run). r.pages) c.in_ok-run-in-None.ensures.begins.grants.front ∙ c.pages_for-pages.ensures.value;
  found = c.find.new.self;
  standard = c.in_ok-run.ensures.standard;
  manager = subst (λ (n : ℕ). BeginsPiece c.args.client n c.args.now c.in_ok-run-in-None.run' (record c.args.self.now { heaps = c.find.new.self }) c.begin_segment.new.self)
      c.pages_for-pages.ensures.value c.in_ok-run-in-None.ensures.begins;
  words = is ∙ ap (λ (n : ℕ). c.args.reply.now.items ++ piece_words n false c.in_ok-run-in-None.run') c.last_piece-in-None.ensures;
}) c.push_piece-in-None.ensures
