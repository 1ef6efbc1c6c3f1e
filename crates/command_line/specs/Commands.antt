-- The commands: which words each takes, and what they ask for.
use Rattle.std.specs.Prelude.{ℕ, if◌then◌else◌, List, [], ◌∷◌, codes, bytes_eq, Option, Some, None, option_and_then}
use Rattle.line_text.specs.Number.{number_in}
use Rattle.replay_plain.specs.declared.config.ReplayCfg.{ReplayCfg}
use Rattle.serve_texts.specs.declared.config.ServeCfg.{ServeCfg}
use Rattle.tile_source.specs.declared.limits.TheConstants.{MOST_ZOOM, LAST_TILE}
use Rattle.tile_source.specs.declared.tile.Tile.{Tile}
use Rattle.command_line.specs.Settings.{replay_limit, serve_limit, standard_setting, keep_setting, clients_setting, side_setting, entries_setting, rounds_setting, set_to, allowed_side}
use Rattle.command_line.specs.Words.{GivenWords, words_given}

-- the second step, if the first gave a value
infixl 10 ◌>>=◌
abbrev pub ◌>>=◌ : {A B : Type 0} → Option A → (A → Option B) → Option B
o >>= f = option_and_then f o

-- what the words of the command line ask for: a replay with these settings, a tile of the image in a file, with a side, a run
-- that serves tiles of the image in a file, with these settings, or a workload that is drawn from a number
pub data OrderValue : Type 0 where
  Replay : (cfg : ReplayCfg) → OrderValue
  WriteTile : (file : List ℕ) (tile : Tile) (side : ℕ) → OrderValue
  Serve : (file : List ℕ) (cfg : ServeCfg) → OrderValue
  Generate : (n : ℕ) → OrderValue

-- a word that is not empty
abbrev pub named : List ℕ → Option (List ℕ)
named [] = None
named (byte ∷ bytes) = Some (byte ∷ bytes)

-- the side that `--side` asks for
abbrev pub side_of : GivenWords → Option ℕ
side_of given = set_to side_setting given >>= allowed_side

-- ---- replay

-- its options
abbrev pub replay_options : List (List ℕ)
replay_options = replay_limit.name ∷ standard_setting.name ∷ keep_setting.name ∷ []

-- it has no positional word
abbrev pub replay_of : GivenWords → Option OrderValue
replay_of given = none given.positional
  where
    none : List (List ℕ) → Option OrderValue
    none [] = do
      limit ← set_to replay_limit given
      standard ← set_to standard_setting given
      keep ← set_to keep_setting given
      Some (Replay (record { limit = limit; standard = standard; keep = keep }))
    none _ = None

-- ---- tile

-- its option
abbrev pub tile_options : List (List ℕ)
tile_options = side_setting.name ∷ []

-- it has four positional words: a file with a name, a zoom, a column and a row
abbrev pub tile_of : GivenWords → Option OrderValue
tile_of given = four given.positional
  where
    four : List (List ℕ) → Option OrderValue
    four (file ∷ z ∷ x ∷ y ∷ []) = do
      name ← named file
      zoom ← number_in z 0 MOST_ZOOM
      column ← number_in x 0 LAST_TILE
      row ← number_in y 0 LAST_TILE
      side ← side_of given
      Some (WriteTile name (record { z = zoom; x = column; y = row }) side)
    four _ = None

-- ---- serve

-- its options
abbrev pub serve_options : List (List ℕ)
serve_options =
    clients_setting.name ∷ serve_limit.name ∷ side_setting.name ∷ entries_setting.name ∷ rounds_setting.name ∷ standard_setting.name ∷ keep_setting.name ∷ []

-- the settings that its options ask for
abbrev pub serve_cfg : GivenWords → Option ServeCfg
serve_cfg given = do
  clients ← set_to clients_setting given
  limit ← set_to serve_limit given
  side ← side_of given
  entries ← set_to entries_setting given
  rounds ← set_to rounds_setting given
  standard ← set_to standard_setting given
  keep ← set_to keep_setting given
  Some (record { clients = clients; limit = limit; side = side; entries = entries; rounds = rounds; standard = standard; keep = keep })

-- it has one positional word: a file with a name
abbrev pub serve_of : GivenWords → Option OrderValue
serve_of given = one given.positional
  where
    one : List (List ℕ) → Option OrderValue
    one (file ∷ []) = do
      name ← named file
      cfg ← serve_cfg given
      Some (Serve name cfg)
    one _ = None

-- ---- gen

-- it has no options
abbrev pub gen_options : List (List ℕ)
gen_options = []

-- it has one positional word: a number
abbrev pub gen_of : GivenWords → Option OrderValue
gen_of given = one given.positional
  where
    one : List (List ℕ) → Option OrderValue
    one (n ∷ []) = do
      number ← number_in n 0 999999
      Some (Generate number)
    one _ = None

-- ---- all words

-- what the words after each command ask for
abbrev pub replay_order : List (List ℕ) → Option OrderValue
replay_order words = words_given replay_options words >>= replay_of

abbrev pub tile_order : List (List ℕ) → Option OrderValue
tile_order words = words_given tile_options words >>= tile_of

abbrev pub serve_order : List (List ℕ) → Option OrderValue
serve_order words = words_given serve_options words >>= serve_of

abbrev pub gen_order : List (List ℕ) → Option OrderValue
gen_order words = words_given gen_options words >>= gen_of

-- what the words of the command line ask for, or None where they are not lawful: the first word is the command
abbrev pub order_of : List (List ℕ) → Option OrderValue
order_of [] = None
order_of (command ∷ words) =
    if bytes_eq command (codes "replay") then replay_order words
    else if bytes_eq command (codes "tile") then tile_order words
    else if bytes_eq command (codes "serve") then serve_order words
    else if bytes_eq command (codes "gen") then gen_order words
    else None
