use Rattle.std.proofs.Common.{◌≡◌, ℕ, ◌+◌, ◌*◌, ◌≤◌, length, ap, sym, subst, ◌∙◌, arith}
use Rattle.tile_source.specs.declared.limits.TheConstants.{MOST_MAXVAL}
use Rattle.tile_source.specs.Pgm.{head}
use Rattle.serve_session.proofs.Replies.{length_reply, side_low, square_low, square_some, head_short}
use Rattle.serve_session.proofs.tiling.Tiling.reply_len.Goals as goal

pub returns-clause-every : goal.returns-clause-every
returns-clause-every c asked =
    let t = c.args.self.now in
    let side : c.self.inside.side ≡ t.side = ap (λ v. v.side) c.self.view_is in
    let len : length c.head.result.now ≡ length (head t.side t.side t.image.maxval) = ap length c.head.ensures in
    length_reply t asked ∙ (ap (λ (n : ℕ). n + t.side * t.side) (sym len) ∙ ap (λ (s : ℕ). length c.head.result.now + s * s) (sym side))

pub returns-clause-short : goal.returns-clause-short
returns-clause-short c =
    let t = c.args.self.now in
    let side : c.self.inside.side ≡ t.side = ap (λ v. v.side) c.self.view_is in
    let low : c.self.inside.side ≤ 256 = side_low c.self.inside.side c.self.invariant.0 in
    let square : c.self.inside.side * c.self.inside.side ≤ 65536 = square_low c.self.inside.side c.self.invariant.0 in
    let len : length c.head.result.now ≡ length (head t.side t.side t.image.maxval) = ap length c.head.ensures in
    let deep : t.image.maxval ≤ MOST_MAXVAL = subst (λ v. v.image.maxval ≤ MOST_MAXVAL) c.self.view_is c.self.invariant.1 in
    let short : length (head t.side t.side t.image.maxval) ≤ 15 = head_short t.side t.image.maxval (omega arith) (omega arith) in
    omega arith

pub returns-clause-some : goal.returns-clause-some
returns-clause-some c =
    let t = c.args.self.now in
    let side : c.self.inside.side ≡ t.side = ap (λ v. v.side) c.self.view_is in
    let high : 1 ≤ c.self.inside.side * c.self.inside.side = square_some c.self.inside.side c.self.invariant.0 in
    omega arith
