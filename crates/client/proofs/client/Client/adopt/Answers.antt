use Rattle.std.proofs.Common.{sym, ap, ◌∙◌, arith, ◌++◌, ◌∷◌, [], length}
use Rattle.client.specs.Lease.{Lease}
use Rattle.client.proofs.ComingAndKept.{not_in_heap, kept_adopted, adopted, same_seen}
use Rattle.client.proofs.client.Client.adopt.Goals as goal

pub grow_front-requires-clause-fresh : goal.grow_front-requires-clause-fresh
grow_front-requires-clause-fresh c =
    let unknown = rw (← c.self.view_is) at c.requires.unknown in
    rw c.id.ensures (not_in_heap _ c.args.side.id c.self.invariant.sound unknown)

pub grow_front-requires-clause-small : goal.grow_front-requires-clause-small
grow_front-requires-clause-small c = rw (← c.self.view_is, ← c.pages-whole.ensures.value) at c.requires.small

pub invariant_of-self-2 : goal.invariant_of-self-2
invariant_of-self-2 c =
    let small = rw (← c.self.view_is, ← c.pages-whole.ensures.value) at c.requires.small in
    let side = c.args.side in
    let locks = c.in-Ok.locks in
    let span = c.in-Ok-grow_front.span in
    let whole = c.pages-whole.result in
    let unknown = rw (← c.self.view_is) at c.requires.unknown in
    let grows = rw c.id.ensures at c.in-Ok-grow_front.ensures.grown in
    let leases = c.push_reserved.ensures.items ∙ (ap (λ ls. ls ++ c.new.result ∷ []) c.make_room.ensures.leases ∙ ap (λ (l : Lease). c.self.inside.leases.items ++ l ∷ []) c.new.ensures) in
    let less = rw (← c.pages-whole.ensures.value) at c.requires.pages.1 in
    rw (c.make_room.ensures.sides, c.make_room.ensures.told)
    (kept_adopted _ c.grow_front.new.self side locks c.push_reserved.new.self.items span whole c.args.pages c.self.inside.pages c.self.inside.gone.room c.make_room.new.gone.room c.self.invariant c.requires.held (sym c.pages-whole.ensures.value) unknown c.requires.pages.0 less c.in-Ok.ensures grows c.in-Ok-grow_front.ensures.partition leases
    (omega (arith, c.in-Ok-make_room.ensures.room, ap length c.make_room.ensures.leases)) (c.make_room.ensures.full c.self.invariant.full) small
    (λ on. (c.rise_to-rising.ensures.rising on, rw c.as_slice.ensures.value at (c.rise_to-rising.ensures.below on))))

pub returns-clause-adopts : goal.returns-clause-adopts
returns-clause-adopts c =
    let side = c.args.side in
    let locks = c.in-Ok.locks in
    let span = c.in-Ok-grow_front.span in
    let whole = c.pages-whole.result in
    let unknown = rw (← c.self.view_is) at c.requires.unknown in
    let grows = rw c.id.ensures at c.in-Ok-grow_front.ensures.grown in
    let leases = c.push_reserved.ensures.items ∙ (ap (λ ls. ls ++ c.new.result ∷ []) c.make_room.ensures.leases ∙ ap (λ (l : Lease). c.self.inside.leases.items ++ l ∷ []) c.new.ensures) in
    let same = same_seen c.self.inside.number c.self.inside.standard _ _ c.self.inside.taken _ _ c.grow_front.new.self _ _ leases c.make_room.ensures.sides c.make_room.ensures.told in
    let less = rw (← c.pages-whole.ensures.value) at c.requires.pages.1 in
    rw (← c.self.view_is) (adopted _ _ side locks span whole c.args.pages c.locked_piece.result (sym c.pages-whole.ensures.value) unknown c.requires.pages.0 less c.in-Ok.ensures grows same c.locked_piece.ensures).0

pub returns-clause-piece : goal.returns-clause-piece
returns-clause-piece c =
    let side = c.args.side in
    let locks = c.in-Ok.locks in
    let span = c.in-Ok-grow_front.span in
    let whole = c.pages-whole.result in
    let unknown = rw (← c.self.view_is) at c.requires.unknown in
    let grows = rw c.id.ensures at c.in-Ok-grow_front.ensures.grown in
    let leases = c.push_reserved.ensures.items ∙ (ap (λ ls. ls ++ c.new.result ∷ []) c.make_room.ensures.leases ∙ ap (λ (l : Lease). c.self.inside.leases.items ++ l ∷ []) c.new.ensures) in
    let same = same_seen c.self.inside.number c.self.inside.standard _ _ c.self.inside.taken _ _ c.grow_front.new.self _ _ leases c.make_room.ensures.sides c.make_room.ensures.told in
    let less = rw (← c.pages-whole.ensures.value) at c.requires.pages.1 in
    rw (← c.self.view_is) (adopted _ _ side locks span whole c.args.pages c.locked_piece.result (sym c.pages-whole.ensures.value) unknown c.requires.pages.0 less c.in-Ok.ensures grows same c.locked_piece.ensures).1

pub returns-clause-stay : goal.returns-clause-stay
returns-clause-stay c =
    let side = c.args.side in
    let locks = c.in-Ok.locks in
    let span = c.in-Ok-grow_front.span in
    let whole = c.pages-whole.result in
    let unknown = rw (← c.self.view_is) at c.requires.unknown in
    let grows = rw c.id.ensures at c.in-Ok-grow_front.ensures.grown in
    let leases = c.push_reserved.ensures.items ∙ (ap (λ ls. ls ++ c.new.result ∷ []) c.make_room.ensures.leases ∙ ap (λ (l : Lease). c.self.inside.leases.items ++ l ∷ []) c.new.ensures) in
    let same = same_seen c.self.inside.number c.self.inside.standard _ _ c.self.inside.taken _ _ c.grow_front.new.self _ _ leases c.make_room.ensures.sides c.make_room.ensures.told in
    let less = rw (← c.pages-whole.ensures.value) at c.requires.pages.1 in
    rw (← c.self.view_is) (adopted _ _ side locks span whole c.args.pages c.locked_piece.result (sym c.pages-whole.ensures.value) unknown c.requires.pages.0 less c.in-Ok.ensures grows same c.locked_piece.ensures).2
