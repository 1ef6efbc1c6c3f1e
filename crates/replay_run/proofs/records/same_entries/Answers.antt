use Rattle.std.proofs.Common.{◌≡◌, true, List, rules, sym, ◌∙◌, subst}
use Rattle.std.specs.Cmp.Lexicographic.{pointwise}
use Rattle.discard_book.specs.declared.entry.Entry.{Entry}
use Rattle.discard_book.specs.contracts.entry.EntryPartialEq.TheImpl
use Rattle.replay_run.proofs.SameLists.{to_same, of_same}
use Rattle.replay_run.proofs.records.same_entries.Goals as goal

tells : (a b : Entry) → TheImpl.eq-value.it a b ≡ true → a ≡ b
tells a b e = search rules

same : (a : Entry) → TheImpl.eq-value.it a a ≡ true
same a = search rules

pub returns : goal.returns
returns c = (
  λ e. to_same TheImpl.eq-value.it tells c.args.some.now c.args.others.now (sym c.eq.ensures ∙ e),
  λ e. c.eq.ensures ∙ subst (λ (ys : List Entry). pointwise TheImpl.eq-value.it c.args.some.now ys ≡ true) e (of_same TheImpl.eq-value.it same c.args.some.now),
)
