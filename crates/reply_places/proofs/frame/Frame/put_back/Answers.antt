use Rattle.std.proofs.Common.{◌≡◌, ℕ, ◌+◌, ◌*◌, ◌∙◌, ap, ap₂, sym, arith, length}
use denote.RawPtr.{◌+ₚ◌}
use Rattle.reply_places.proofs.Places.{front_more, front_alone}
use Rattle.reply_places.proofs.frame.Frame.put_back.Goals as goal
use Rattle.reply_places.proofs.frame.Frame.put_back.Goals.{in-Some, in-None}

pub invariant_of-result : goal.invariant_of-result
invariant_of-result g c =
    let i = c.self.invariant in
    let f = c.self.inside in
    let number : ℕ = c.into_filled-number.result.0 in
    let filled = c.into_filled-number.ensures.filled in
    let next : number + 1 ≡ f.from = ap (λ n. n + 1) c.into_filled-number.ensures.number ∙ c.requires ∙ sym (ap (λ v. v.from) c.self.view_is) in
    let long : length c.into_filled-number.result.1.items ≡ f.size = c.into_filled-number.ensures.long ∙ sym i.1 in
    let here : c.into_filled-number.result.1.ptr ≡ f.base +ₚ number * f.size =
    filled.0 ∙ ap₂ (λ b n. b +ₚ n) (sym i.0) (ap₂ (λ n s. n * s) (sym c.into_filled-number.ensures.number) (sym i.1)) in
    elim c.match-filled.branch [
      | in-Some w ↦
          let behind = rw w.in-Some.is at i.8 in
          let low = i.6 in (
            i.0,
            i.1,
            i.2,
            i.3,
            i.4,
            i.5,
            omega (arith, next, low),
            i.7,
            (
              ap (λ r. r.ptr) w.joined-is ∙ w.join-joined.ensures.0 ∙ here,
              front_more number f.from f.size (f.count * f.size) c.into_filled-number.result.1.items w.in-Some.behind.items c.match-filled.joined.items next long
                  (ap (λ r. r.items) w.joined-is ∙ w.join-joined.ensures.1) behind.1,
              omega (arith, next, low),
            ),
            i.9,
          )
      | in-None w ↦
          let last = rw w.in-None.is at i.8 in
          let low = i.6 in (
            i.0,
            i.1,
            i.2,
            i.3,
            i.4,
            i.5,
            omega (arith, next, low),
            i.7,
            (
              ap (λ r. r.ptr) w.joined-is ∙ here,
              front_alone number f.from f.size f.count c.into_filled-number.result.1.items c.match-filled.joined.items next long (ap (λ r. r.items) w.joined-is) last,
              omega (arith, next, low),
            ),
            i.9,
          )
    ]
