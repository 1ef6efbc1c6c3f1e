-- A client's segments are given up one by one.
use Rattle.std.proofs.Common.{◌≡◌, ◌≢◌, ℕ, ◌+◌, ◌≤◌, List, length, None, refl, sym, ap, ◌∙◌, subst, ⊎_elim, arith}
use Rattle.std.proofs.lemmas.Bool.{cases_eq, cases_lt}
use Rattle.std.proofs.lemmas.List.{get_or_past}
use Rattle.replay_real.specs.declared.owners.Given.{Given}
use Rattle.replay_real.specs.Owners.{nobody, given_at}
use Rattle.replay_real.specs.declared.run.RealRun.{RealRun}
use Rattle.replay_real.specs.Standing.{Grows}
use Rattle.replay_real.specs.Acts.{Releases, ReleasesBelow}

pub released_none : (client : ℕ) (old : List Given) → ReleasesBelow client 0 old old
released_none client old = record { ended = λ id low. absurd (omega arith); others = λ id _. refl; clients = λ id. refl; places = refl }

pub released_more : (client id : ℕ) (old mid new : List Given) → ReleasesBelow client id old mid
    → ((given_at mid id).client ≡ client → (given_at new id).owner ≡ None)
    → ((given_at mid id).client ≢ client → given_at new id ≡ given_at mid id)
    → ((n : ℕ) → n ≢ id → given_at new n ≡ given_at mid n)
    → (given_at new id).client ≡ (given_at mid id).client → length new ≡ length mid → ReleasesBelow client (id + 1) old new
released_more client id old mid new w ended same others kept places =
    record {
      ended = λ n low is. ⊎_elim
          (λ here. subst (λ (k : ℕ). (given_at new k).owner ≡ None) (sym here)
          (ended (w.clients id ∙ subst (λ (k : ℕ). (given_at old k).client ≡ client) here is)))
          (λ there. ap (λ (g : Given). g.owner) (others n there) ∙ w.ended n (omega (arith, there)) is)
          (cases_eq n id);
      others = λ n is_not. ⊎_elim
          (λ here. subst (λ (k : ℕ). given_at new k ≡ given_at old k) (sym here)
          (let not_here = subst (λ (k : ℕ). (given_at old k).client ≢ client) here is_not in
          same (λ e. not_here (sym (w.clients id) ∙ e)) ∙ w.others id not_here))
          (λ there. others n there ∙ w.others n is_not)
          (cases_eq n id);
      clients = λ n. ⊎_elim
          (λ here. subst (λ (k : ℕ). (given_at new k).client ≡ (given_at old k).client) (sym here) (kept ∙ w.clients id))
          (λ there. ap (λ (g : Given). g.client) (others n there) ∙ w.clients n)
          (cases_eq n id);
      places = places ∙ w.places;
    }

pub released_all : (client end : ℕ) (old new : List Given) → length old ≤ end → ReleasesBelow client end old new → Releases client old new
released_all client end old new far w =
    let places = w.places in
    record {
      ended = λ id is. ⊎_elim (λ near. w.ended id near is)
          (λ past. ap (λ (g : Given). g.owner) (get_or_past new id nobody (omega arith)))
          (cases_lt id end);
      others = w.others;
    }

-- what is kept while a client's segments are given up
pub record Keeps (client id : ℕ) (old new : RealRun) : Type 0 where
  pub released : ReleasesBelow client id old.owners new.owners
  pub book : Grows old.state.entries new.state.entries
