-- What serving a run comes to.
use Rattle.std.specs.Prelude.{◌≡◌, ℕ, List, []}
use Rattle.discard_book.specs.Live.{granted}
use Rattle.discard_book.specs.Legal.{IsLegal}
use Rattle.request_text.specs.declared.request.Request.{Request}
use Rattle.tile_source.specs.Image.{ImageValue}
use Rattle.manager.specs.Grows.{Grows}
use Rattle.serve_texts.specs.declared.config.ServeCfg.{ServeCfg}
use Rattle.serve_texts.specs.Reply.{reply_to}
use Rattle.serve_texts.specs.Report.{report}
use Rattle.serve_session.specs.Served.{AreServed, tallies_of, all_grants}
use Rattle.serve_run.specs.declared.served.Served.{Served}
use Rattle.serve_run.specs.Ending.{EndEachOnce}

-- A run was served. The replies are those to its requests, and each client was served its own. The manager's book is legal; it has as
-- many Grants as all clients count together, each with the run's limit, and at least as many reductions to this limit as enforcements
-- were asked for. At the end nothing is granted, and each Grant has exactly one later Purge or Back of its number.
pub record Serves (cfg : ServeCfg) (image : ImageValue) (requests : List Request) (served : Served) : Type 0 where
  pub replies : served.replies ≡ reply_to image cfg.side requests
  pub clients : AreServed cfg requests served.clients
  pub limit : served.state.limit ≡ cfg.limit
  pub legal : IsLegal served.state.entries
  pub grown : Grows cfg.limit (all_grants served.clients) cfg.rounds [] served.state.entries
  pub none : granted served.state.entries ≡ 0
  pub once : EndEachOnce served.state.entries

-- the report of a served run: its book, the tallies of its clients, and what is granted
abbrev pub report_of : Served → List ℕ
report_of served = report served.state.entries (tallies_of served.clients) (granted served.state.entries)
