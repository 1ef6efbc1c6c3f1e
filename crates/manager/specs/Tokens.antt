-- What shares of a manager's ledgers, and their totals, count.
use Rattle.std.specs.Prelude.{ℕ, ◌+◌, Option, option_map}

-- how many parts of the whole they have, and the grants and the enforcements that they count
pub record Tokens : Type 0 where
  pub parts : ℕ
  pub grants : ℕ
  pub rounds : ℕ

-- one grant more is counted
abbrev pub with_grant : Tokens → Tokens
with_grant t = record t { grants = t.grants + 1 }

-- one enforcement more is counted
abbrev pub with_round : Tokens → Tokens
with_round t = record t { rounds = t.rounds + 1 }

-- the same shares, where they count so many grants
abbrev pub with_grants : ℕ → Tokens → Tokens
with_grants n t = record t { grants = n }

-- What a handle keeps for as long as it only grants and takes back: its shares as they were when it was made, or None where it has
-- none.
abbrev pub standing_of : ℕ → Option Tokens → Option Tokens
standing_of base shares = option_map (with_grants base) shares
