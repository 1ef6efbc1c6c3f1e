-- The options: their names, ranges and defaults.
use Rattle.std.specs.Prelude.{ℕ, ◌==◌, ◌||◌, if◌then◌else◌, List, codes, Option, Some, None}
use Rattle.line_text.specs.declared.limits.TheConstants.{MOST_LIMIT, MOST_CLIENTS, MOST_SEGMENT_PAGES}
use Rattle.line_text.specs.Number.{number_in}
use Rattle.serve_texts.specs.declared.limits.TheConstants.{MOST_ENTRIES, MOST_ROUNDS, MOST_KEPT}
use Rattle.command_line.specs.Words.{GivenWords, value_of}

-- an option whose value is a number: its name, its range, and its number where it is not given
pub record SettingValue : Type 0 where
  pub name : List ℕ
  pub least : ℕ
  pub most : ℕ
  pub default : ℕ

-- `--limit`: the number of granted pages that the manager tries not to exceed
abbrev pub replay_limit : SettingValue
replay_limit = record { name = codes "limit"; least = 0; most = MOST_LIMIT; default = MOST_LIMIT }

abbrev pub serve_limit : SettingValue
serve_limit = record { name = codes "limit"; least = 0; most = MOST_LIMIT; default = 16384 }

-- `--standard`: how many pages a standard segment has
abbrev pub standard_setting : SettingValue
standard_setting = record { name = codes "standard"; least = 1; most = MOST_SEGMENT_PAGES; default = 64 }

-- `--keep`: how many blocks the pool keeps
abbrev pub keep_setting : SettingValue
keep_setting = record { name = codes "keep"; least = 0; most = MOST_KEPT; default = 16 }

-- `--clients`: how many clients there are
abbrev pub clients_setting : SettingValue
clients_setting = record { name = codes "clients"; least = 1; most = MOST_CLIENTS; default = 4 }

-- `--side`: how many pixels a tile's side has
abbrev pub side_setting : SettingValue
side_setting = record { name = codes "side"; least = 64; most = 256; default = 256 }

-- `--entries`: how many tiles a client's cache has
abbrev pub entries_setting : SettingValue
entries_setting = record { name = codes "entries"; least = 1; most = MOST_ENTRIES; default = 256 }

-- `--rounds`: how often the limit is enforced beside the clients
abbrev pub rounds_setting : SettingValue
rounds_setting = record { name = codes "rounds"; least = 0; most = MOST_ROUNDS; default = 0 }

-- the number that a value is, or the default where there is no value; None where the value is not a number in the range
abbrev pub number_or : ℕ → ℕ → ℕ → Option (List ℕ) → Option ℕ
number_or least most default None = Some default
number_or least most default (Some value) = number_in value least most

-- the number that an option is set to, if it is set to one in its range
abbrev pub set_to : SettingValue → GivenWords → Option ℕ
set_to setting given = number_or setting.least setting.most setting.default (value_of setting.name given.options)

-- a side is 64, 128 or 256
abbrev pub allowed_side : ℕ → Option ℕ
allowed_side side = if side == 64 || side == 128 || side == 256 then Some side else None
