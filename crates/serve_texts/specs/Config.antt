-- The settings of a served run.
use Rattle.std.specs.Prelude.{◌≡◌, ℕ, ◌≤◌, ◌⊎◌}
use Rattle.line_text.specs.declared.limits.TheConstants.{MOST_LIMIT, MOST_CLIENTS, MOST_SEGMENT_PAGES}
use Rattle.serve_texts.specs.declared.config.ServeCfg.{ServeCfg}
use Rattle.serve_texts.specs.declared.limits.TheConstants.{MOST_ENTRIES, MOST_ROUNDS, MOST_KEPT}

-- the settings of a run whose words name none
abbrev pub default_settings : ServeCfg
default_settings = record {
  clients = 4;
  limit = 16384;
  side = 256;
  entries = 256;
  rounds = 0;
  standard = 64;
  keep = 16;
}

-- the settings are these
abbrev pub HoldsDefaults : ServeCfg → Type 0
HoldsDefaults cfg = cfg ≡ default_settings

-- a side of tiles
abbrev pub IsSide : ℕ → Type 0
IsSide side = (side ≡ 64) ⊎ (side ≡ 128) ⊎ (side ≡ 256)

-- each setting is in its range
pub record IsServeCfg (cfg : ServeCfg) : Type 0 where
  pub clients : (1 ≤ cfg.clients) × (cfg.clients ≤ MOST_CLIENTS)
  pub limit : cfg.limit ≤ MOST_LIMIT
  pub side : IsSide cfg.side
  pub entries : (1 ≤ cfg.entries) × (cfg.entries ≤ MOST_ENTRIES)
  pub rounds : cfg.rounds ≤ MOST_ROUNDS
  pub standard : (1 ≤ cfg.standard) × (cfg.standard ≤ MOST_SEGMENT_PAGES)
  pub keep : cfg.keep ≤ MOST_KEPT
