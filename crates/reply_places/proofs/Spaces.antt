-- Steps on spaces and runs. Assumes `Logic`.
use Rattle.std.proofs.Common.{◌≡◌, ℕ, ◌+◌, ◌-◌, ◌*◌, ◌<◌, ◌≤◌, List, [], ◌∷◌, ◌++◌, length, true, refl, sym, ap, ◌∙◌, subst, arith, Vec}
use Rattle.std.proofs.lemmas.Bool.{ne_eqb, not_from_false}
use Rattle.std.proofs.lemmas.List.{length-append}
use seplogic.Ra.Ura.{Ura}
use mir.Syntax.{w8, ty_int, ty_array}
use mir.Val.{Val}
use base.Fraction.{full_share}
use base.Logic.{ent, sep, wand, never, never_e, id⊢, via, fst∗}
use base.Fml.{ftrue, fsep, feq, fwand, froom}
use types.Logic.{Logic, sem}
use types.Kit.{‵, ◌⊛◌, ◌$◌, ◌∵◌, !, qed, by, move, frame, assume, show, use1, use2, split, drop, fsplit, fjoin, feq_l, feq_i, rewrite, done}
use denote.RattleType.{RattleType}
use denote.Builtin.{u8}
use denote.Array.{Array}
use denote.RawPtr.{Ptr, block_ptr, null_ptr, lies_at, in_block, in_a_block, ◌+ₚ◌}
use denote.RawPtr.Room.{room_cut, past_bytes}
use denote.RawPtr.Bytes.{bytes, bytes_apart, bytes_whole, bytes_glue, bytes-room}
use Rattle.std.specs.declared.alloc.Allocator.{Ghosts}
use Rattle.std.specs.Allocator.{block_with_items}
use Rattle.std_alloc.specs.Vec.Ownership.{owns_if, has_block}
use Rattle.std_alloc.specs.contracts.vec.Vec as V
use Rattle.reply_places.specs.Ownership.{filled_owns, space_owns}
use Rattle.reply_places.specs.contracts.block.Sole as Sole
use Rattle.reply_places.proofs.Walks.{plainly, one, one_made}

module _ {M : Type 1} {𝓤 : Ura M} (𝓛 : Logic 𝓤) where
  pub cut_space : (p : Ptr) (n m : ℕ) → ent 𝓤 (sem 𝓛 (space_owns p (n + m))) (sep 𝓤 (sem 𝓛 (space_owns p n)) (sem 𝓛 (space_owns (p +ₚ n) m)))
  cut_space (block_ptr b o) n m =
      subst (λ k. ent 𝓤 (sem 𝓛 (space_owns (block_ptr b o) (n + m))) (sep 𝓤 (sem 𝓛 (space_owns (block_ptr b o) n)) (sem 𝓛 (space_owns (block_ptr b k) m)))) (past_bytes n o) (room_cut 𝓛 (ty_int w8) n m b o)
  cut_space null_ptr n m = never_e 𝓤 _

  pub join_filled : (p : Ptr) (xs ys : List ℕ) → ent 𝓤 (sep 𝓤 (sem 𝓛 (filled_owns p xs)) (sem 𝓛 (filled_owns (p +ₚ length xs) ys))) (sem 𝓛 (filled_owns p (xs ++ ys)))
  join_filled (block_ptr b o) xs ys =
      qed 𝓛 ((‵ (filled_owns (block_ptr b o) xs) ⊛ ‵ (filled_owns (block_ptr b (o + length xs)) ys)) ∷ []) ∵ split ! $
      use1 𝓛 (‵ (fsep (feq ℕ (length xs) (length xs)) (bytes full_share xs b o))) (bytes_apart 𝓛 full_share (length xs) xs b o) $ fsplit ! $ drop ! $
      move ! (1 ∷ 0 ∷ []) $
      use1 𝓛 (‵ (fsep (feq ℕ (length ys) (length ys)) (bytes full_share ys b (o + length xs)))) (bytes_apart 𝓛 full_share (length ys) ys b (o + length xs)) $ fsplit ! $ drop ! $
      move ! (1 ∷ 0 ∷ []) $
      use2 𝓛 (‵ (bytes full_share (xs ++ ys) b o)) (bytes_glue 𝓛 full_share xs ys b o) $
      feq_i ! ℕ (length (xs ++ ys)) (length (xs ++ ys)) refl $ fjoin ! $ by ! (bytes_whole 𝓛 full_share (length (xs ++ ys)) (xs ++ ys) b o)
  join_filled null_ptr xs ys = via 𝓤 _ (fst∗ 𝓤 (sem 𝓛 (filled_owns null_ptr xs)) (sem 𝓛 (filled_owns (null_ptr +ₚ length xs) ys))) (never_e 𝓤 _)

  pub empty_filled : (p : Ptr) (xs : List ℕ) → ent 𝓤 (sem 𝓛 (filled_owns p xs)) (sem 𝓛 (space_owns p (length xs)))
  empty_filled (block_ptr b o) xs =
      qed 𝓛 (‵ (filled_owns (block_ptr b o) xs) ∷ []) ∵
      use1 𝓛 (‵ (fsep (feq ℕ (length xs) (length xs)) (bytes full_share xs b o))) (bytes_apart 𝓛 full_share (length xs) xs b o) $ fsplit ! $ drop ! $
      by ! (bytes-room 𝓛 xs b o)
  empty_filled null_ptr xs = never_e 𝓤 _

module _ (P : RattleType) (g : Ghosts P.Denot) {M : Type 1} {𝓤 : Ura M} (𝓛 : Logic 𝓤) (v : Vec ℕ P.Denot) (u : Val) where
  pub carve : v.len ≡ 0 → 0 < v.cap → ent 𝓤 (sem 𝓛 ((V.the_row u8 P g).own_val v (u ∷ []))) (sep 𝓤 (sem 𝓛 (space_owns v.ptr v.cap)) (sem 𝓛 (Sole.the_own P g (record { ptr = v.ptr; len = v.cap }) (one u ∷ []))))
  carve none some =
      let live : has_block v.cap ≡ true = not_from_false _ (ne_eqb v.cap 0 (λ e. omega arith)) in
      let t = g.dealloc_token v.alloc in
      let Blk = λ (p : Ptr). block_with_items t u8 p v.len v.cap v.items in
      let Whole = (plainly (V.the_row u8 P g ∷ [])).own_val (v, tt) (one u ∷ []) in
      let same : v.cap - v.len ≡ v.cap = omega arith in
      qed 𝓛 (‵ ((V.the_row u8 P g).own_val v (u ∷ [])) ∷ []) ∵ fsplit ! $ move ! (1 ∷ []) $ fsplit ! $ move ! (1 ∷ []) $
      in_a_block ! v.ptr (λ p. in_block p (owns_if (has_block v.cap) (Blk p))) (id⊢ 𝓤 (never 𝓤)) (λ b o at.
      let here : o + v.len * 1 ≡ o = omega arith in
      rewrite ! 0 (λ y. ‵ (owns_if y (Blk (block_ptr b o)))) live refl $ fsplit ! $ move ! (1 ∷ []) $ fsplit ! $
      -- [the room; the right to free; no byte; the bound; the fields]
      rewrite ! 0 (λ k. ‵ (froom (ty_array (ty_int w8) k) b (o + v.len * 1))) same refl $
      rewrite ! 0 (λ k. ‵ (froom (ty_array (ty_int w8) v.cap) b k)) here refl $
      rewrite ! 0 (λ p. ‵ (space_owns p v.cap)) (sym at) refl $ frame ! $
      show ! (λ i. sem 𝓛 (fsep (feq ℕ i.vec.len 0) (fwand (space_owns v.ptr v.cap) ((plainly (V.the_row u8 P g ∷ [])).own_val (i.vec, tt) (one u ∷ []))))) (record { vec = v }) $
      feq_i ! ℕ v.len 0 none $ frame ! $ assume ! (‵ (space_owns v.ptr v.cap)) $
      rewrite ! 0 (λ p. ‵ (space_owns p v.cap)) at refl $
      rewrite ! 0 (λ k. ‵ (froom (ty_array (ty_int w8) v.cap) b k)) (sym here) refl $
      rewrite ! 0 (λ k. ‵ (froom (ty_array (ty_int w8) k) b (o + v.len * 1))) (sym same) refl $
      fjoin ! $ move ! (1 ∷ 0 ∷ []) $ fjoin ! $ rewrite ! 0 (λ y. ‵ (owns_if y (Blk (block_ptr b o)))) (sym live) refl $
      rewrite ! 0 (λ p. ‵ (in_block p (owns_if (has_block v.cap) (Blk p)))) (sym at) refl $
      move ! (1 ∷ 0 ∷ []) $ fjoin ! $ move ! (1 ∷ 0 ∷ []) $ fjoin ! $ one_made ! (V.the_row u8 P g) v u $ done !)
