-- What holds at each place of a list, and of one element more at its end.
use Rattle.std.proofs.Common.{◌≡◌, ℕ, ◌+◌, ◌<◌, ◌≤◌, List, [], ◌∷◌, ◌++◌, length, get_or, refl, sym, ap, ◌∙◌, subst, arith, inl, inr}
use Rattle.std.proofs.lemmas.Bool.{cases_eq}
use Rattle.std.proofs.Math.ListN.{get_or-append}
use Rattle.std.proofs.Math.Seq.{get_or-append_seam}
use Rattle.std.proofs.lemmas.List.{length_push}
use Rattle.std.proofs.lemmas.List.Sums.{sum_by_push}
use Rattle.request_text.specs.declared.limits.TheConstants.{MOST_REQUESTS}
use Rattle.manager.specs.Tokens.{Tokens}
use Rattle.serve_session.specs.declared.served.ServedClient.{ServedClient}
use Rattle.serve_session.specs.Running.{ServingValue}
use Rattle.serve_session.specs.Served.{IsServed, all_grants}
use Rattle.serve_session.specs.Places.{numbers_of}
use Rattle.reply_places.specs.Framed.{Placed}
use Rattle.request_text.specs.declared.request.Request.{Request}
use Rattle.serve_run.specs.Dealing.{numbers_for}
use Rattle.serve_run.specs.Working.{HasTaken}

-- so many workers were made: none has a place yet, and each has room for those of its client's requests
pub record HasWorkers {D : Type 0} (places : D → List Placed) (capacity : D → ℕ) (requests : List Request) (n : ℕ) (workers : List D) : Type 0 where
  pub all : length workers ≡ n
  pub none : (i : ℕ) (d : D) → i < n → numbers_of (places (get_or workers i d)) ≡ []
  pub room : (i : ℕ) (d : D) → i < n → length (numbers_for requests (i + 1) (length requests)) ≤ capacity (get_or workers i d)

pub each_more : {A : Type 0} (P : ℕ → A → Type 0) (xs ys : List A) (x : A) (n : ℕ) → ys ≡ xs ++ x ∷ [] → length xs ≡ n
    → ((i : ℕ) (d : A) → i < n → P i (get_or xs i d)) → P n x → (i : ℕ) (d : A) → i < n + 1 → P i (get_or ys i d)
each_more {A} P xs ys x n is long so_far last i d low =
    let whole : (i : ℕ) (d : A) → i < n + 1 → P i (get_or (xs ++ x ∷ []) i d) = λ k e less.
    elim (cases_eq k n) [
      | inl here ↦
          subst (λ m. P m (get_or (xs ++ x ∷ []) m e)) (sym here)
          (subst (λ y. P n y) (sym (ap (λ m. get_or (xs ++ x ∷ []) m e) (sym long) ∙ get_or-append_seam xs x [] e)) last)
      | inr before ↦
          subst (P k) (sym (get_or-append xs (x ∷ []) e k (omega arith))) (so_far k e (omega arith))
    ] in
    subst (λ zs. P i (get_or zs i d)) (sym is) (whole i d low)

-- no end was taken in yet
pub none_taken : (run : ServingValue) (start : Tokens) (clients : List ServedClient) → clients ≡ [] → HasTaken run 0 start start clients
none_taken run start clients none = subst (HasTaken run 0 start start) (sym none) (record {
  clients_are = refl;
  served = λ i d low. absurd (omega arith);
  parts = omega arith;
  grants = omega arith;
  few = omega arith;
  rounds = refl;
})

-- the end of one client more was taken in
pub taken_more : (run : ServingValue) (n : ℕ) (start before after : Tokens) (clients clients' : List ServedClient) (served : ServedClient)
    → clients' ≡ clients ++ served ∷ []
    → after.parts ≡ before.parts + 1 → after.grants ≡ before.grants + served.tally.grants → after.rounds ≡ before.rounds + 0
    → served.tally.grants ≤ MOST_REQUESTS → HasTaken run n start before clients → IsServed run.cfg (n + 1) run.requests served
    → HasTaken run (n + 1) start after clients'
taken_more run n start before after clients clients' served is_served parts grants rounds few so_far this =
    let all : all_grants clients' ≡ all_grants clients + served.tally.grants =
    ap all_grants is_served ∙ sum_by_push (λ (c : ServedClient). c.tally.grants) clients served in
    record {
      clients_are = ap length is_served ∙ length_push clients served ∙ omega (arith, so_far.clients_are);
      served = each_more (λ i s. IsServed run.cfg (i + 1) run.requests s) clients clients' served n is_served so_far.clients_are so_far.served this;
      parts = omega (arith, parts, so_far.parts);
      grants = omega (arith, grants, so_far.grants, all);
      few = omega (arith, all, so_far.few, few);
      rounds = omega (arith, rounds, so_far.rounds);
    }

-- no worker was made yet
pub no_workers : {D : Type 0} (places : D → List Placed) (capacity : D → ℕ) (requests : List Request) (workers : List D) → workers ≡ [] → HasWorkers places capacity requests 0 workers
no_workers places capacity requests workers none = record {
  all = ap length none;
  none = λ i d low. absurd (omega arith);
  room = λ i d low. absurd (omega arith);
}

-- one worker more, for the next client
pub workers_more : {D : Type 0} (places : D → List Placed) (room : D → ℕ) (requests : List Request) (n : ℕ) (xs ys : List D) (x : D)
    → HasWorkers places room requests n xs → ys ≡ xs ++ x ∷ []
    → numbers_of (places x) ≡ [] → length (numbers_for requests (n + 1) (length requests)) ≤ room x → HasWorkers places room requests (n + 1) ys
workers_more places room requests n xs ys x so_far is none fits = record {
  all = ap length is ∙ length_push xs x ∙ omega (arith, so_far.all);
  none = each_more (λ i worker. numbers_of (places worker) ≡ []) xs ys x n is so_far.all so_far.none none;
  room = each_more (λ i worker. length (numbers_for requests (i + 1) (length requests)) ≤ room worker) xs ys x n is so_far.all so_far.room fits;
}
