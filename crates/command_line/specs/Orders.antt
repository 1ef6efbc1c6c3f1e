-- How the code has what the words ask for.
use Rattle.std.specs.Prelude.{◌≤◌}
use Rattle.line_text.specs.declared.limits.TheConstants.{MOST_LIMIT, MOST_SEGMENT_PAGES}
use Rattle.replay_plain.specs.declared.config.ReplayCfg.{ReplayCfg}
use Rattle.serve_texts.specs.declared.limits.TheConstants.{MOST_KEPT}
use Rattle.serve_texts.specs.Config.{IsSide, IsServeCfg}
use Rattle.tile_source.specs.Tile.{IsTile}
use Rattle.command_line.specs.declared.order.Order.{Order}
use Rattle.command_line.specs.declared.order.Order.TheVariants as order
use Rattle.command_line.specs.declared.setting.Setting.{Setting}
use Rattle.command_line.specs.Settings.{SettingValue}
use Rattle.command_line.specs.Commands.{OrderValue, Replay, WriteTile, Serve, Generate}

-- an option, as the definitions have it
abbrev pub setting_value : Setting → SettingValue
setting_value setting = record { name = setting.name.now; least = setting.least; most = setting.most; default = setting.default }

-- what is asked for, as the definitions have it
abbrev pub order_value : Order → OrderValue
order_value (order.Replay cfg) = Replay cfg
order_value (order.Tile file tile side) = WriteTile file.now tile side
order_value (order.Serve file cfg) = Serve file.now cfg
order_value (order.Gen n) = Generate n

-- each setting of a replay is in its range
pub record IsReplayCfg (cfg : ReplayCfg) : Type 0 where
  pub limit : cfg.limit ≤ MOST_LIMIT
  pub standard : (1 ≤ cfg.standard) × (cfg.standard ≤ MOST_SEGMENT_PAGES)
  pub keep : cfg.keep ≤ MOST_KEPT

-- each number is in its range
abbrev pub IsLawful : Order → Type 0
IsLawful (order.Replay cfg) = IsReplayCfg cfg
IsLawful (order.Tile file tile side) = IsTile tile × IsSide side
IsLawful (order.Serve file cfg) = IsServeCfg cfg
IsLawful (order.Gen n) = n ≤ 999999
