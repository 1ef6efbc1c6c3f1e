-- The place of a request is dealt to its client, and taken back.
use Rattle.std.proofs.Common.{◌≡◌, ℕ, zero, suc, ◌+◌, ◌-◌, ◌==◌, ◌<◌, ◌≤◌, Bool, true, false, cond, List, [], ◌∷◌, ◌++◌, take, drop, map, length, Option, Some, None, IfSome, IsSome, get_or, set, refl, sym, ap, ap₂, ◌∙◌, subst, arith, eq-eqb, length-append, append-nil, replicate, inl, inr}
use Rattle.std.specs.List.{All, filter}
use Rattle.std.proofs.lemmas.Bool.{ne_eqb, cases_eq, false≢true}
use Rattle.std.proofs.lemmas.List.{map-append, length-map, take_all, drop_more, get_or-set_same, get_or-set_other, length-set}
use Rattle.std.proofs.Math.ListN.{get_or-append}
use Rattle.std.proofs.Math.Seq.{get_or-append_seam}
use Rattle.std.proofs.lemmas.List.Elements.{filter_more, All-get_or}
use Rattle.reply_places.specs.Framed.{Placed, filled_up}
use Rattle.request_text.specs.declared.request.Request.{Request}
use Rattle.request_text.specs.Requests.{AreRequests}
use Rattle.request_text.specs.declared.limits.TheConstants.{MOST_REQUESTS}
use Rattle.tile_source.specs.declared.tile.Tile.{Tile}
use Rattle.manager.specs.Standing.{Held}
use Rattle.serve_texts.specs.Reply.{tiles_of}
use Rattle.serve_session.specs.declared.served.ServedClient.{ServedClient}
use Rattle.serve_session.specs.Places.{numbers_of, tiles_at, AreEmpty, AreOfClient, AreAnswered, IsAnswered}
use Rattle.serve_session.specs.Running.{ServingValue}
use Rattle.serve_session.specs.Served.{IsServed}
use Rattle.serve_session.specs.Tiling.{TilingValue, HoldReplies, asked_by, no_request, tile_at, reply_of, replies_to}
use Rattle.serve_run.specs.Dealing.{AreOf, AreDealt, AllAnswer, AllKeep, HaveRoom, numbers_for}
use Rattle.serve_run.specs.Working.{enforced, AllReady, AllServed, AreComplete, CanServe, HasWorked, HaveEnded, HaveServed}

same_element : {A : Type 0} (xs : List A) (n : ℕ) (d e : A) → n < length xs → get_or xs n d ≡ get_or xs n e
same_element [] n d e within = absurd (omega arith)
same_element (x ∷ xs) zero d e within = refl
same_element (x ∷ xs) (suc n) d e within = same_element xs n d e (omega arith)

-- ---- the numbers of a client's requests

-- one more request, of the client or of another
abbrev is_mine : List Request → ℕ → ℕ → Bool
is_mine requests client k = (get_or requests k no_request).client == client

pub numbers_more : (requests : List Request) (client k : ℕ) (mine : Bool) → is_mine requests client k ≡ mine
    → numbers_for requests client (k + 1) ≡ cond mine (numbers_for requests client k ++ k ∷ []) (numbers_for requests client k)
numbers_more requests client k mine is =
    let e : k + 1 ≡ suc k = omega arith in
    ap (numbers_for requests client) e ∙ ap (λ (b : Bool). cond b (numbers_for requests client k ++ k ∷ []) (numbers_for requests client k)) is

pub numbers_mine : (requests : List Request) (client k : ℕ) → (get_or requests k no_request).client ≡ client
    → numbers_for requests client (k + 1) ≡ numbers_for requests client k ++ k ∷ []
numbers_mine requests client k mine = numbers_more requests client k true (eq-eqb _ _ mine)

pub numbers_other : (requests : List Request) (client k : ℕ) → ((get_or requests k no_request).client ≡ client → ⊥)
    → numbers_for requests client (k + 1) ≡ numbers_for requests client k
numbers_other requests client k other = numbers_more requests client k false (ne_eqb _ _ other)

-- more requests are not fewer numbers
long_more : (b : Bool) (xs : List ℕ) (k : ℕ) → length xs ≤ length (cond b (xs ++ k ∷ []) xs)
long_more true xs k = omega (arith, length-append xs (k ∷ []))
long_more false xs k = omega arith

few_cond : (b : Bool) (xs : List ℕ) (k : ℕ) → length xs ≤ k → length (cond b (xs ++ k ∷ []) xs) ≤ suc k
few_cond true xs k low = omega (arith, length-append xs (k ∷ []), low)
few_cond false xs k low = omega (arith, low)

numbers_grow : (requests : List Request) (client k n : ℕ) → length (numbers_for requests client k) ≤ length (numbers_for requests client (n + k))
numbers_grow requests client k zero =
    let none : 0 + k ≡ k = omega arith in
    let same : length (numbers_for requests client (0 + k)) ≡ length (numbers_for requests client k) = ap (λ (n : ℕ). length (numbers_for requests client n)) none in
    omega (arith, same)
numbers_grow requests client k (suc n) =
    let before = numbers_grow requests client k n in
    let more = long_more (is_mine requests client (n + k)) (numbers_for requests client (n + k)) (n + k) in
    let next : suc n + k ≡ suc (n + k) = omega arith in
    let same : length (numbers_for requests client (suc n + k)) ≡ length (numbers_for requests client (suc (n + k))) = ap (λ (m : ℕ). length (numbers_for requests client m)) next in
    omega (arith, before, more, same)

-- there is room for one more of the client, where there is room for all
pub numbers_fit : (requests : List Request) (client k n : ℕ) → k < n → (get_or requests k no_request).client ≡ client
    → length (numbers_for requests client k) < length (numbers_for requests client n)
numbers_fit requests client k n low mine =
    let grow = numbers_grow requests client (k + 1) (n - (k + 1)) in
    let whole : n - (k + 1) + (k + 1) ≡ n = omega arith in
    let one : length (numbers_for requests client (k + 1)) ≡ length (numbers_for requests client k) + 1 =
    ap length (numbers_mine requests client k mine) ∙ length-append (numbers_for requests client k) (k ∷ []) in
    let all : length (numbers_for requests client (n - (k + 1) + (k + 1))) ≡ length (numbers_for requests client n) = ap (λ (m : ℕ). length (numbers_for requests client m)) whole in
    omega (arith, grow, one, all)

pub all_more : {X : Type 0} (P : X → Type 0) (xs : List X) (x : X) → All P xs → P x → All P (xs ++ x ∷ [])
all_more P [] x all is zero d h = is
all_more P [] x all is (suc k) d h = absurd (omega arith)
all_more P (y ∷ ys) x all is zero d h = all 0 d (omega arith)
all_more P (y ∷ ys) x all is (suc k) d h = all_more P ys x (λ i e g. all (suc i) e (omega arith)) is k d (omega arith)

all_cond : (P : ℕ → Type 0) (b : Bool) (xs : List ℕ) (x : ℕ) → All P xs → P x → All P (cond b (xs ++ x ∷ []) xs)
all_cond P true xs x all is = all_more P xs x all is
all_cond P false xs x all is = all

-- the numbers of the first k are below k
numbers_below : (requests : List Request) (client k : ℕ) → All (λ n. n < k) (numbers_for requests client k)
numbers_below requests client zero = λ i d h. absurd (omega arith)
numbers_below requests client (suc k) =
    all_cond (λ n. n < suc k) (is_mine requests client k) (numbers_for requests client k) k
    (λ i d h. let low = numbers_below requests client k i d h in omega (arith, low)) (omega arith)

tiles_cond : (requests : List Request) (b : Bool) (xs : List ℕ) (k : ℕ)
    → tiles_at requests (cond b (xs ++ k ∷ []) xs) ≡ tiles_at requests xs ++ map (λ (r : Request). r.tile) (cond b (get_or requests k no_request ∷ []) [])
tiles_cond requests true xs k = map-append (tile_at requests) xs (k ∷ [])
tiles_cond requests false xs k = sym (append-nil (tiles_at requests xs))

-- and no more than k
numbers_few : (requests : List Request) (client k : ℕ) → length (numbers_for requests client k) ≤ k
numbers_few requests client zero = omega arith
numbers_few requests client (suc k) = few_cond (is_mine requests client k) (numbers_for requests client k) k (numbers_few requests client k)

-- what the first k requests ask of a client
numbers_ask : (requests : List Request) (client k : ℕ) → k ≤ length requests → tiles_at requests (numbers_for requests client k) ≡ asked_by client (take k requests)
numbers_ask requests client zero low = refl
numbers_ask requests client (suc k) low =
    let before = numbers_ask requests client k (omega arith) in
    let more : suc k ≡ k + 1 = omega arith in
    let whole : filter (λ r. r.client == client) (take (k + 1) requests) ≡ filter (λ r. r.client == client) (take k requests) ++ cond (is_mine requests client k) (get_or requests k no_request ∷ []) [] =
    filter_more (λ (r : Request). r.client == client) requests k no_request (omega arith) in
    tiles_cond requests (is_mine requests client k) (numbers_for requests client k) k
    ∙ ap (λ (ts : List Tile). ts ++ map (λ (r : Request). r.tile) (cond (is_mine requests client k) (get_or requests k no_request ∷ []) [])) before
    ∙ sym (map-append (λ (r : Request). r.tile) (filter (λ r. r.client == client) (take k requests)) (cond (is_mine requests client k) (get_or requests k no_request ∷ []) []))
    ∙ ap (map (λ (r : Request). r.tile)) (sym whole)
    ∙ ap (λ (m : ℕ). asked_by client (take m requests)) (sym more)

-- the numbers of all requests of a client are of the client
pub numbers_of_client : (run : ServingValue) (client : ℕ) → length run.requests ≤ MOST_REQUESTS → AreOfClient run client (numbers_for run.requests client (length run.requests))
numbers_of_client run client few = record {
  few = let low = numbers_few run.requests client (length run.requests) in omega (arith, low, few);
  within = numbers_below run.requests client (length run.requests);
  asked = numbers_ask run.requests client (length run.requests) (omega arith) ∙ ap (asked_by client) (take_all (length run.requests) run.requests (omega arith));
}

-- ---- places are dealt and taken back

-- what holds of each element and of a new one holds of each after the change
pub each_set : {D : Type 0} (P : ℕ → D → Type 0) (workers : List D) (c : ℕ) (worker : D) → c < length workers
    → ((i : ℕ) (d : D) → i < length workers → (i ≡ c → ⊥) → P i (get_or workers i d)) → P c worker
    → (i : ℕ) (d : D) → i < length (set workers c worker) → P i (get_or (set workers c worker) i d)
each_set P workers c worker within others this i d low =
    elim (cases_eq i c) [
      | inl here ↦ subst (λ (k : ℕ). P k (get_or (set workers c worker) k d)) (sym here) (subst (P c) (sym (get_or-set_same workers c worker d within)) this)
      | inr there ↦ subst (P i) (sym (get_or-set_other workers c i worker d there)) (others i d (omega (arith, low, length-set workers c worker)) there)
    ]

module _ {D : Type 0} (places : D → List Placed) (requests : List Request) (k : ℕ) (workers : List D) (c : ℕ) (worker d : D)
    (within : c < length workers) (whose : (get_or requests k no_request).client ≡ c + 1) where
  other_client : (i : ℕ) → (i ≡ c → ⊥) → (get_or requests k no_request).client ≡ i + 1 → ⊥
  other_client i there same = there (omega (arith, same, whose))

  pub dealt_more : AreDealt places requests k workers → numbers_of (places worker) ≡ numbers_of (places (get_or workers c d)) ++ k ∷ []
      → AreDealt places requests (k + 1) (set workers c worker)
  dealt_more dealt is = each_set (λ i e. numbers_of (places e) ≡ numbers_for requests (i + 1) (k + 1)) workers c worker within
      (λ i e low there. dealt i e low ∙ sym (numbers_other requests (i + 1) k (other_client i there)))
      (is ∙ ap (λ (ns : List ℕ). ns ++ k ∷ []) (dealt c d within) ∙ sym (numbers_mine requests (c + 1) k whose))

  pub dealt_last : AreDealt places requests (k + 1) workers → numbers_of (places (get_or workers c d)) ≡ numbers_for requests (c + 1) k ++ k ∷ []
  dealt_last dealt = dealt c d within ∙ numbers_mine requests (c + 1) k whose

  pub dealt_less : AreDealt places requests (k + 1) workers → numbers_of (places worker) ≡ numbers_for requests (c + 1) k
      → AreDealt places requests k (set workers c worker)
  dealt_less dealt is = each_set (λ i e. numbers_of (places e) ≡ numbers_for requests (i + 1) k) workers c worker within
      (λ i e low there. dealt i e low ∙ numbers_other requests (i + 1) k (other_client i there)) is

-- two lists that end in one element each are the same, and so are these
pub last_same : (xs ys : List ℕ) (x y : ℕ) → xs ++ x ∷ [] ≡ ys ++ y ∷ [] → (xs ≡ ys) × (x ≡ y)
last_same [] [] x y e = (refl, ap (λ zs. get_or zs 0 0) e)
last_same (a ∷ xs) (b ∷ ys) x y e = let t = last_same xs ys x y (ap (drop 1) e) in (ap₂ (λ z zs. z ∷ zs) (ap (λ zs. get_or zs 0 0) e) t.0, t.1)
last_same [] (b ∷ ys) x y e = absurd (omega (arith, ap length e, length-append ys (y ∷ [])))
last_same (a ∷ xs) [] x y e = absurd (omega (arith, ap length e, length-append xs (x ∷ [])))

-- the workers have what they need
pub all_ready : {D : Type 0} (places : D → List Placed) (run : ServingValue) (size : ℕ) (workers : List D) → CanServe places run size workers → AllReady places run workers
all_ready places run size workers can c d low = record {
  of_client = subst (AreOfClient run (c + 1)) (sym (can.dealt c d low)) (numbers_of_client run (c + 1) can.few);
  empty = can.empty c d low;
}

-- the requests of a run are of its clients, whose workers stand before one more
pub of_clients : (clients : ℕ) (requests : List Request) → AreRequests clients requests → AreOf (clients + 1) requests
of_clients clients requests are = λ k d within. let given = are.each k d within in (given.0, omega (arith, given.1))

-- no request is of a client that there is not
none_for : (clients : ℕ) (requests : List Request) (k : ℕ) → AreRequests clients requests → k ≤ length requests → numbers_for requests (clients + 1) k ≡ []
none_for clients requests zero are low = refl
none_for clients requests (suc k) are low =
    let given = are.each k no_request (omega arith) in
    ap (λ (b : Bool). cond b (numbers_for requests (clients + 1) k ++ k ∷ []) (numbers_for requests (clients + 1) k)) (ne_eqb (get_or requests k no_request).client (clients + 1) (λ same. omega (arith, same, given.1)))
    ∙ none_for clients requests k are (omega arith)

-- the request at a place is of one of the clients
pub client_at : (clients : ℕ) (requests : List Request) (k : ℕ) (d : Request) → AreOf clients requests → k < length requests
    → (1 ≤ (get_or requests k d).client) × ((get_or requests k d).client ≤ clients)
client_at clients requests k d known within = All-get_or (λ (r : Request). (1 ≤ r.client) × (r.client ≤ clients)) requests k d within known

-- the replies to the requests from a place on
pub replies_from : (t : TilingValue) (requests : List Request) (k : ℕ) → k < length requests
    → replies_to t (tiles_of (drop k requests)) ≡ reply_of t (tile_at requests k) ++ replies_to t (tiles_of (drop (k + 1) requests))
replies_from t requests k within = ap (λ (rs : List Request). replies_to t (tiles_of rs)) (drop_more requests k no_request within)

-- ---- what is counted, and what is left of a list without its last element

pub count_mine : (requests : List Request) (client k count : ℕ) (d : Request) → k < length requests → (get_or requests k d).client ≡ client
    → count ≡ length (numbers_for requests client k) → count + 1 ≡ length (numbers_for requests client (k + 1))
count_mine requests client k count d within mine is =
    let same : (get_or requests k no_request).client ≡ client = ap (λ (r : Request). r.client) (same_element requests k no_request d within) ∙ mine in
    let one : length (numbers_for requests client (k + 1)) ≡ length (numbers_for requests client k) + 1 =
    ap length (numbers_mine requests client k same) ∙ length-append (numbers_for requests client k) (k ∷ []) in
    omega (arith, is, one)

pub count_other : (requests : List Request) (client k count : ℕ) (d : Request) → k < length requests → ((get_or requests k d).client ≡ client → ⊥)
    → count ≡ length (numbers_for requests client k) → count ≡ length (numbers_for requests client (k + 1))
count_other requests client k count d within other is =
    is ∙ ap length (sym (numbers_other requests client k (λ mine. other (ap (λ (r : Request). r.client) (same_element requests k d no_request within) ∙ mine))))

-- places without a number are none, and nothing was written to them
pub none_empty : (places : List Placed) → numbers_of places ≡ [] → AreEmpty places
none_empty [] none = λ k d h. absurd (omega arith)
none_empty (p ∷ places) none = absurd (omega (arith, ap length none))

-- a reply that fills its place has no zeros behind it
pub filled_whole : (size : ℕ) (xs : List ℕ) → length xs ≡ size → filled_up size xs ≡ xs
filled_whole size xs whole = let none : size - length xs ≡ 0 = omega arith in ap (λ (n : ℕ). xs ++ replicate n 0) none ∙ append-nil xs

pub front_holds : {X : Type 0} (P : X → Type 0) (xs : List X) (x : X) → All P (xs ++ x ∷ []) → All P xs
front_holds P xs x all k d low = subst P (get_or-append xs (x ∷ []) d k low) (all k d (omega (arith, length-append xs (x ∷ []))))

pub last_holds : {X : Type 0} (P : X → Type 0) (xs : List X) (x : X) → All P (xs ++ x ∷ []) → P x
last_holds P xs x all = subst P (get_or-append_seam xs x [] x) (all (length xs) x (omega (arith, length-append xs (x ∷ []))))

-- what is seen of each stays where one that is changed keeps it
pub keep_set : {D A B : Type 0} (one : D → A) (other : D → B) (workers : List D) (c : ℕ) (worker d : D) → c < length workers → one worker ≡ one (get_or workers c d) → other worker ≡ other (get_or workers c d)
    → AllKeep one other workers (set workers c worker)
keep_set one other workers c worker d within same same' = (
  length-set workers c worker,
  λ i e low. elim (cases_eq i c) [
    | inl here ↦
        let at = ap (λ (k : ℕ). get_or (set workers c worker) k e) here ∙ get_or-set_same workers c worker e within in
        let was = same_element workers c d e within ∙ ap (λ (k : ℕ). get_or workers k e) (sym here) in
        (ap one at ∙ same ∙ ap one was, ap other at ∙ same' ∙ ap other was)
    | inr there ↦ (ap one (get_or-set_other workers c i worker e there), ap other (get_or-set_other workers c i worker e there))
  ],
)

pub keep_more : {D A B : Type 0} (one : D → A) (other : D → B) (first next last : List D) → AllKeep one other first next → AllKeep one other next last → AllKeep one other first last
keep_more one other first next last k l =
    (l.0 ∙ k.0, λ c d low. let within : c < length next = omega (arith, k.0, low) in ((l.1 c d within).0 ∙ (k.1 c d low).0, (l.1 c d within).1 ∙ (k.1 c d low).1))

-- the workers ended, each at its worker
pub all_ended : {D A : Type 0} (served : A → ServedClient) (places : D → List Placed) (ended : D → Option A) (handle : D → Option Held) (run : ServingValue) (size : ℕ) (before after : List D)
    → CanServe places run size before → length after ≡ length before
    → ((c : ℕ) (d : D) → c < length before → HasWorked served run c (places (get_or before c d)) (places (get_or after c d)) (ended (get_or after c d)) (handle (get_or after c d)))
    → HaveEnded served places ended handle run after
all_ended served places ended handle run size before after can many worked = record {
  all = many ∙ can.all;
  dealt = λ c d low. let within : c < length before = omega (arith, low, many) in (worked c d within).numbers_are ∙ can.dealt c d within;
  ends = λ c d low. (worked c d (omega (arith, low, can.all))).ended_is low;
  enforced_is = λ d. (worked run.cfg.clients d (omega (arith, can.all))).enforced_is refl;
}

-- what an end says of itself alone, and what it says of other things
end_alone : {A : Type 0} (P : A → Type 0) (Q : Type 0) (end : Option A) → IfSome end (λ e. P e × Q) → IfSome end P
end_alone P Q None is = is
end_alone P Q (Some e) is = is.0

end_beside : {A : Type 0} (P : A → Type 0) (Q : Type 0) (end : Option A) → IfSome end (λ e. P e × Q) → IsSome end → Q
end_beside P Q (Some e) is some = is.1
end_beside P Q None is some = absurd (false≢true some)

none_answered : (t : TilingValue) (requests : List Request) (places : List Placed) → numbers_of places ≡ [] → AreAnswered t requests places
none_answered t requests [] none = λ k d h. absurd (omega arith)
none_answered t requests (p ∷ places) none = absurd (omega (arith, ap length none))

module _ {D A : Type 0} (served : A → ServedClient) (places : D → List Placed) (ended : D → Option A) (handle : D → Option Held) (run : ServingValue) (workers after : List D)
    (have : HaveEnded served places ended handle run workers) (keep : AllKeep ended handle workers after) where
  -- where no client's worker was out of memory, each place has its reply
  pub all_answer : AreRequests run.cfg.clients run.requests → AreComplete ended run.cfg.clients after → AllAnswer places run.tiling run.requests workers
  all_answer are complete c d low = elim (cases_eq c run.cfg.clients) [
    | inl here ↦
        none_answered run.tiling run.requests (places (get_or workers c d))
        (have.dealt c d low ∙ ap (λ (k : ℕ). numbers_for run.requests (k + 1) (length run.requests)) here ∙ none_for run.cfg.clients run.requests (length run.requests) are (omega arith))
    | inr there ↦
        let client : c < run.cfg.clients = omega (arith, low, have.all, there) in
        end_beside (λ e. IsServed run.cfg (c + 1) run.requests (served e)) (AreAnswered run.tiling run.requests (places (get_or workers c d))) (ended (get_or workers c d))
        (have.ends c d client) (subst IsSome (keep.1 c d low).0 (complete c d client))
  ]

  -- each client that was not out of memory was served, and stays so where its end does
  pub all_served : HaveServed served ended handle run after
  all_served = record {
    all = keep.0 ∙ have.all;
    served_is = λ c d low.
        let within : c < length workers = omega (arith, low, have.all) in
        subst (λ (end : Option A). IfSome end (λ e. IsServed run.cfg (c + 1) run.requests (served e))) (sym (keep.1 c d within).0)
        (end_alone (λ e. IsServed run.cfg (c + 1) run.requests (served e)) (AreAnswered run.tiling run.requests (places (get_or workers c d))) (ended (get_or workers c d)) (have.ends c d low));
    enforced_is = λ d.
        subst (λ (h : Option Held). IfSome h (λ v. v ≡ enforced run.cfg.rounds)) (sym (keep.1 run.cfg.clients d (omega (arith, have.all))).1) (have.enforced_is d);
  }

drop_whole : {X : Type 0} (xs : List X) → drop (length xs) xs ≡ []
drop_whole [] = refl
drop_whole (x ∷ xs) = drop_whole xs

take_whole : {X : Type 0} (xs : List X) → take (length xs) (xs ++ []) ≡ xs
take_whole [] = refl
take_whole (x ∷ xs) = ap (λ ys. x ∷ ys) (take_whole xs)

-- what was written to a whole slice of a vector is all of it
pub written_whole : {X : Type 0} (xs ys : List X) (n : ℕ) → length ys ≡ length xs → n ≡ length xs → take n (ys ++ drop (length ys) xs) ≡ ys
written_whole xs ys n many is =
    ap (λ k. take n (ys ++ drop k xs)) many ∙ (ap (λ zs. take n (ys ++ zs)) (drop_whole xs) ∙ (ap (λ k. take k (ys ++ [])) (is ∙ sym many) ∙ take_whole ys))

-- the workers of all clients, without the last one
pub clients_left : {D A : Type 0} (served : A → ServedClient) (ended : D → Option A) (handle : D → Option Held) (run : ServingValue) (workers left : List D) (last : D)
    → HaveServed served ended handle run workers → workers ≡ left ++ last ∷ []
    → (length left ≡ run.cfg.clients) × AllServed served ended run left × IfSome (handle last) (λ h. h ≡ enforced run.cfg.rounds)
clients_left served ended handle run workers left last have is =
    let many : length left + 1 ≡ run.cfg.clients + 1 = sym (length-append left (last ∷ [])) ∙ ap length (sym is) ∙ have.all in
    let all : length left ≡ run.cfg.clients = omega (arith, many) in (
      all,
      (λ c d low.
          subst (λ worker. IfSome (ended worker) (λ e. IsServed run.cfg (c + 1) run.requests (served e)))
          (ap (λ ds. get_or ds c d) is ∙ get_or-append left (last ∷ []) d c low) (have.served_is c d (omega (arith, low, all)))),
      subst (λ worker. IfSome (handle worker) (λ h. h ≡ enforced run.cfg.rounds))
          (ap (λ ds. get_or ds run.cfg.clients last) is ∙ ap (λ (k : ℕ). get_or (left ++ last ∷ []) k last) (sym all) ∙ get_or-append_seam left last [] last) (have.enforced_is last),
    )

-- where the ends of these are there, they are in the list with one more
pub complete_left : {D A : Type 0} (ended : D → Option A) (n : ℕ) (workers left : List D) (last : D) → workers ≡ left ++ last ∷ [] → length left ≡ n
    → All (λ worker. IsSome (ended worker)) left → AreComplete ended n workers
complete_left ended n workers left last is all complete c d low =
    let within : c < length left = omega (arith, low, all) in
    subst (λ worker. IsSome (ended worker)) (sym (ap (λ ds. get_or ds c d) is ∙ get_or-append left (last ∷ []) d c within)) (complete c d within)

-- ---- a step of dealing, and of joining

-- there is room for the place that is dealt next
pub room_left : {D : Type 0} (places : D → List Placed) (room : D → ℕ) (requests : List Request) (k : ℕ) (workers : List D) (c : ℕ) (d : D)
    → k < length requests → c < length workers → c + 1 ≡ (get_or requests k no_request).client → HaveRoom room requests workers → AreDealt places requests k workers
    → length (places (get_or workers c d)) < room (get_or workers c d)
room_left places room requests k workers c d low within whose has dealt =
    let numbers : length (numbers_of (places (get_or workers c d))) ≡ length (numbers_for requests (c + 1) k) = ap length (dealt c d within) in
    omega (arith, numbers, length-map (places (get_or workers c d)) (λ (p : Placed). p.number), numbers_fit requests (c + 1) k (length requests) low (sym whose), has c d within)

-- there is a place to take back
pub some_left : {D : Type 0} (places : D → List Placed) (requests : List Request) (k : ℕ) (workers : List D) (c : ℕ) (d : D)
    → c < length workers → c + 1 ≡ (get_or requests k no_request).client → AreDealt places requests (k + 1) workers
    → 0 < length (places (get_or workers c d))
some_left places requests k workers c d within whose dealt =
    let numbers : length (numbers_of (places (get_or workers c d))) ≡ length (numbers_for requests (c + 1) k ++ k ∷ []) =
    ap length (dealt_last places requests k workers c d d within (sym whose) dealt) in
    omega (arith, numbers, length-map (places (get_or workers c d)) (λ (p : Placed). p.number), length-append (numbers_for requests (c + 1) k) (k ∷ []))

-- what is left of a worker's places without the last one, and the number of that one
pub last_left : {D : Type 0} (places : D → List Placed) (requests : List Request) (k : ℕ) (workers : List D) (c : ℕ) (d : D) (left : List Placed) (place : Placed)
    → c < length workers → c + 1 ≡ (get_or requests k no_request).client → AreDealt places requests (k + 1) workers
    → places (get_or workers c d) ≡ left ++ place ∷ []
    → (numbers_of left ≡ numbers_for requests (c + 1) k) × (place.number ≡ k)
last_left places requests k workers c d left place within whose dealt is =
    last_same (numbers_of left) (numbers_for requests (c + 1) k) place.number k
    (sym (map-append (λ (p : Placed). p.number) left (place ∷ [])) ∙ sym (ap numbers_of is) ∙ dealt_last places requests k workers c d d within (sym whose) dealt)

-- the reply that is joined to those behind it
pub reply_joined : (t : TilingValue) (requests : List Request) (size : ℕ) (place : Placed) (k : ℕ) (behind : List ℕ)
    → HoldReplies t size → IsAnswered t requests place → place.number ≡ k
    → filled_up size place.bytes ++ behind ≡ reply_of t (tile_at requests k) ++ behind
reply_joined t requests size place k behind hold answered is =
    ap (λ (xs : List ℕ). xs ++ behind)
    (filled_whole size place.bytes (ap length answered ∙ hold (tile_at requests place.number)) ∙ answered ∙ ap (λ (n : ℕ). reply_of t (tile_at requests n)) is)
