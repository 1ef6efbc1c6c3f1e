use Rattle.std.proofs.Common.{ℕ, max, min, sym, ap, ◌∙◌, subst}
use Rattle.line_text.specs.declared.limits.TheConstants.{MOST_SEGMENT_PAGES}
use Rattle.replay_plain.specs.Reductions.{with_room}
use Rattle.replay_plain.specs.Pieces.{after_sweep, after_telling, next_run, with_new_piece}
use Rattle.replay_plain.specs.Run.{RunStandsFor}
use Rattle.replay_plain.proofs.Allocating.{standard_before}
use Rattle.replay_plain.proofs.run.PlainRun.begin_segment.Goals as goal

pub returns-clause-run : goal.returns-clause-run
returns-clause-run c = λ state w.
    let whole_is = c.new_pages-whole.ensures.value state w in
    let swept = c.in_ok-sweep.ensures.state state w in
    let told = c.in_ok-tell.ensures.state _ swept in
    let same = ap (λ (s : ℕ). max c.args.pages (min s MOST_SEGMENT_PAGES)) (sym (standard_before state c.args.client c.new_pages-whole.result c.args.at)) in
    c.in_ok-run.ensures.run _ (c.in_ok-make_room.ensures.state _ told) (whole_is ∙ same)
    ∙ ap (λ (m : ℕ). next_run (with_room (after_telling (after_sweep state c.args.client) c.args.client) m c.args.at) c.args.pages) whole_is

pub returns-clause-state : goal.returns-clause-state
returns-clause-state c = λ state w.
    let whole_is = c.new_pages-whole.ensures.value state w in
    let swept = c.in_ok-sweep.ensures.state state w in
    let told = c.in_ok-tell.ensures.state _ swept in
    let same = ap (λ (s : ℕ). max c.args.pages (min s MOST_SEGMENT_PAGES)) (sym (standard_before state c.args.client c.new_pages-whole.result c.args.at)) in
    subst (λ (m : ℕ). RunStandsFor c.adopt.new.self (with_new_piece (with_room (after_telling (after_sweep state c.args.client) c.args.client) m c.args.at) c.args.client c.args.pages c.args.at)) whole_is
    (c.in_ok-run.ensures.state _ (c.in_ok-make_room.ensures.state _ told) (whole_is ∙ same))
