use Rattle.std.proofs.Common.{ap, ◌∙◌, ◌++◌, List, ℕ, Option}
use Rattle.replay_real.specs.Acts.{shown_words}
use Rattle.std.proofs.lemmas.Result.{on_ok_weaker}
use Rattle.replay_real.proofs.OneLine.{appends, hex_line}
use Rattle.replay_real.proofs.run.RealRun.read_piece.Goals as goal

pub returns-in-Some-clause-words : goal.returns-in-Some-clause-words
returns-in-Some-clause-words c = on_ok_weaker c.push_hex.result (λ is. appends _ _ _ is (hex_line c.in-Some.bytes.now)) c.push_hex.ensures

pub returns-in-Some-clause-tells : goal.returns-in-Some-clause-tells
returns-in-Some-clause-tells c = on_ok_weaker c.push_hex.result (λ is. is ∙ ap (λ (o : Option (List ℕ)). c.args.reply.now.items ++ shown_words o) c.in-Some.ensures.shown) c.push_hex.ensures

pub returns-in-None-clause-tells : goal.returns-in-None-clause-tells
returns-in-None-clause-tells c = on_ok_weaker c.push_answer.result (λ is. is ∙ ap (λ (o : Option (List ℕ)). c.args.reply.now.items ++ shown_words o) c.in-None.ensures.shown) c.push_answer.ensures
