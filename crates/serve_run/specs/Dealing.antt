-- Which place of the replies is whose: the place of each request is dealt to the client that asks.
use Rattle.std.specs.Prelude.{◌≡◌, ℕ, zero, suc, ◌+◌, ◌==◌, ◌<◌, ◌≤◌, cond, List, [], ◌∷◌, ◌++◌, get_or, length}
use Rattle.std.specs.List.{All}
use Rattle.reply_places.specs.Framed.{Placed}
use Rattle.request_text.specs.declared.request.Request.{Request}
use Rattle.serve_session.specs.Places.{numbers_of, AreEmpty, AreAnswered}
use Rattle.serve_session.specs.Tiling.{TilingValue, no_request}

-- each request is of one of so many clients, numbered from 1
abbrev pub AreOf : ℕ → List Request → Type 0
AreOf clients requests = All (λ (r : Request). (1 ≤ r.client) × (r.client ≤ clients)) requests

-- the numbers of a client's requests among the first k, in their order
abbrev pub numbers_for : List Request → ℕ → ℕ → List ℕ
numbers_for requests client zero = []
numbers_for requests client (suc k) =
    cond ((get_or requests k no_request).client == client) (numbers_for requests client k ++ k ∷ []) (numbers_for requests client k)

-- Each client, the first of which stands first, has the places of its requests among the first k.
abbrev pub AreDealt : {D : Type 0} → (D → List Placed) → List Request → ℕ → List D → Type 0
AreDealt {D} places requests k workers = (c : ℕ) (d : D) → c < length workers
    → numbers_of (places (get_or workers c d)) ≡ numbers_for requests (c + 1) k

-- each client has room for the places of all its requests
abbrev pub HaveRoom : {D : Type 0} → (D → ℕ) → List Request → List D → Type 0
HaveRoom {D} room requests workers = (c : ℕ) (d : D) → c < length workers
    → length (numbers_for requests (c + 1) (length requests)) ≤ room (get_or workers c d)

-- nothing was written to the places of any client
abbrev pub AllEmpty : {D : Type 0} → (D → List Placed) → List D → Type 0
AllEmpty {D} places workers = (c : ℕ) (d : D) → c < length workers → AreEmpty (places (get_or workers c d))

-- each place of each client has the reply to its request
abbrev pub AllAnswer : {D : Type 0} → (D → List Placed) → TilingValue → List Request → List D → Type 0
AllAnswer {D} places tiling requests workers = (c : ℕ) (d : D) → c < length workers → AreAnswered tiling requests (places (get_or workers c d))

-- as many as before, and two things that are seen of each are the same
abbrev pub AllKeep : {D A B : Type 0} → (D → A) → (D → B) → List D → List D → Type 0
AllKeep {D} one other old new = (length new ≡ length old)
    × ((c : ℕ) (d : D) → c < length old → (one (get_or new c d) ≡ one (get_or old c d)) × (other (get_or new c d) ≡ other (get_or old c d)))
