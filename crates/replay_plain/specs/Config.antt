-- The settings of a replay.
use Rattle.std.specs.Prelude.{◌≡◌}
use Rattle.line_text.specs.declared.limits.TheConstants.{MOST_LIMIT}
use Rattle.replay_plain.specs.declared.config.ReplayCfg.{ReplayCfg}

-- the settings of a replay whose words name none
abbrev pub default_settings : ReplayCfg
default_settings = record { limit = MOST_LIMIT; standard = 64; keep = 16 }

-- the settings are these
abbrev pub HoldsDefaults : ReplayCfg → Type 0
HoldsDefaults cfg = cfg ≡ default_settings
