-- What the laws of request files say.
use Rattle.std.specs.Prelude.{◌≡◌, ◌<◌, ◌^◌, ℕ, List, ◌↔◌, Ok, Err}
use Rattle.request_text.specs.declared.request.Request.{Request}
use Rattle.request_text.specs.Requests.{requests_of}
use Rattle.request_text.specs.Grammar.{IsSpelled, IsFaulty}

-- a text is a file of some requests exactly where the plain grammar spells them
abbrev pub RequestsAreSpelled : Type 0
RequestsAreSpelled = (clients : ℕ) (text : List ℕ) (requests : List Request) → clients < 2 ^ 32
    → ((requests_of clients text ≡ Ok requests) ↔ IsSpelled clients text requests)

-- a text is refused exactly where it is too long or has a first line that is refused
abbrev pub RefusedAreFaulty : Type 0
RefusedAreFaulty = (clients : ℕ) (text : List ℕ) (place told : ℕ) → clients < 2 ^ 32
    → ((requests_of clients text ≡ Err (record { place = place; cause = told }))
    ↔ IsFaulty clients text place told)
