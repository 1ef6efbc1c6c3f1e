-- What the workers of a run are given, what they end with, and what is taken in of their ends.
use Rattle.std.specs.Prelude.{◌≡◌, ℕ, ◌+◌, ◌*◌, ◌<◌, ◌≤◌, List, [], get_or, length, Some, Option, IfSome, IsSome}
use Rattle.request_text.specs.declared.limits.TheConstants.{MOST_REQUESTS}
use Rattle.reply_places.specs.Framed.{Placed}
use Rattle.manager.specs.Tokens.{Tokens}
use Rattle.manager.specs.Standing.{Held, none_direct}
use Rattle.serve_session.specs.declared.served.ServedClient.{ServedClient}
use Rattle.serve_session.specs.Places.{numbers_of, AreEmpty, AreOfClient, AreAnswered}
use Rattle.serve_session.specs.Running.{ServingValue}
use Rattle.serve_session.specs.Served.{IsServed, all_grants}
use Rattle.serve_session.specs.Tiling.{HoldReplies}
use Rattle.serve_run.specs.Dealing.{AreDealt, AllEmpty}

-- one part of the shares, which counts so many grants and enforcements
abbrev pub one_part : ℕ → ℕ → Tokens
one_part grants rounds = record { parts = 1; grants = grants; rounds = rounds }

-- a handle through which nothing was granted and nothing came back, and so many enforcements were made
abbrev pub enforced : ℕ → Held
enforced rounds = record {
  shares = Some (one_part 0 rounds);
  base = 0;
  grants = 0;
  returns = 0;
  greatest = 0;
  queued = [];
  direct = none_direct;
}

-- a client's places are those of its requests, and nothing was written to them
pub record IsReady (run : ServingValue) (client : ℕ) (places : List Placed) : Type 0 where
  pub of_client : AreOfClient run client (numbers_of places)
  pub empty : AreEmpty places

-- the worker at a worker can begin: its client's places are ready, and each holds a reply
pub record CanWork (run : ServingValue) (size at : ℕ) (places : List Placed) : Type 0 where
  pub few : at ≤ run.cfg.clients
  pub sized : HoldReplies run.tiling size
  pub ready : IsReady run (at + 1) places

-- What a client's worker came to, unless it was out of memory: the client was served, and its places have the replies to its requests.
abbrev pub HasEnded : {A : Type 0} → (A → ServedClient) → ServingValue → ℕ → List Placed → Option A → Type 0
HasEnded served run client places ended =
    IfSome ended (λ e. IsServed run.cfg client run.requests (served e) × AreAnswered run.tiling run.requests places)

-- What the worker at a worker leaves there: the places are the same, and this is what it came to.
pub record HasWorked {A : Type 0} (served : A → ServedClient) (run : ServingValue) (at : ℕ) (before after : List Placed) (ended : Option A) (handle : Option Held) : Type 0 where
  pub numbers_are : numbers_of after ≡ numbers_of before
  pub ended_is : at < run.cfg.clients → HasEnded served run (at + 1) after ended
  pub enforced_is : at ≡ run.cfg.clients → IfSome handle (λ h. h ≡ enforced run.cfg.rounds)

-- each client's places are those of its requests, and nothing was written to them
abbrev pub AllReady : {D : Type 0} → (D → List Placed) → ServingValue → List D → Type 0
AllReady {D} places run workers = (c : ℕ) (d : D) → c < length workers → IsReady run (c + 1) (places (get_or workers c d))

-- The workers can begin: each client's places are dealt, nothing was written to them, and each holds a reply.
pub record CanServe {D : Type 0} (places : D → List Placed) (run : ServingValue) (size : ℕ) (workers : List D) : Type 0 where
  pub all : length workers ≡ run.cfg.clients + 1
  pub few : length run.requests ≤ MOST_REQUESTS
  pub sized : HoldReplies run.tiling size
  pub dealt : AreDealt places run.requests (length run.requests) workers
  pub empty : AllEmpty places workers

-- The workers have ended, and each client still has its places. Worker 0 made all enforcements, unless it was out of memory.
pub record HaveEnded {D A : Type 0} (served : A → ServedClient) (places : D → List Placed) (ended : D → Option A) (handle : D → Option Held) (run : ServingValue) (workers : List D) : Type 0 where
  pub all : length workers ≡ run.cfg.clients + 1
  pub dealt : AreDealt places run.requests (length run.requests) workers
  pub ends : (c : ℕ) (d : D) → c < run.cfg.clients → HasEnded served run (c + 1) (places (get_or workers c d)) (ended (get_or workers c d))
  pub enforced_is : (d : D) → IfSome (handle (get_or workers run.cfg.clients d)) (λ h. h ≡ enforced run.cfg.rounds)

-- each client that was not out of memory was served
abbrev pub AllServed : {D A : Type 0} → (A → ServedClient) → (D → Option A) → ServingValue → List D → Type 0
AllServed {D} served ended run workers = (c : ℕ) (d : D) → c < length workers
    → IfSome (ended (get_or workers c d)) (λ e. IsServed run.cfg (c + 1) run.requests (served e))

-- the workers of the first n workers ended, and none was out of memory
abbrev pub AreComplete : {D A : Type 0} → (D → Option A) → ℕ → List D → Type 0
AreComplete {D} ended n workers = (c : ℕ) (d : D) → c < n → IsSome (ended (get_or workers c d))

-- Each client that was not out of memory was served, and worker 0 made all enforcements, unless it was out of memory.
pub record HaveServed {D A : Type 0} (served : A → ServedClient) (ended : D → Option A) (handle : D → Option Held) (run : ServingValue) (workers : List D) : Type 0 where
  pub all : length workers ≡ run.cfg.clients + 1
  pub served_is : (c : ℕ) (d : D) → c < run.cfg.clients → IfSome (ended (get_or workers c d)) (λ e. IsServed run.cfg (c + 1) run.requests (served e))
  pub enforced_is : (d : D) → IfSome (handle (get_or workers run.cfg.clients d)) (λ h. h ≡ enforced run.cfg.rounds)

-- What the ends of the first n clients came to, when they were taken in: each was served, and its share was put to those that were there.
pub record HasTaken (run : ServingValue) (n : ℕ) (start now : Tokens) (clients : List ServedClient) : Type 0 where
  pub clients_are : length clients ≡ n
  pub served : (i : ℕ) (d : ServedClient) → i < n → IsServed run.cfg (i + 1) run.requests (get_or clients i d)
  pub parts : now.parts ≡ start.parts + n
  pub grants : now.grants ≡ start.grants + all_grants clients
  pub few : all_grants clients ≤ n * MOST_REQUESTS
  pub rounds : now.rounds ≡ start.rounds
