-- A workload that is drawn is served as it is drawn.
use Rattle.std.proofs.Common.{◌≡◌, ℕ, List, ap, ◌∙◌, subst}
use Rattle.request_text.specs.declared.request.Request.{Request}
use Rattle.drawn_workload.specs.Draws.{drawn_image}
use Rattle.tile_source.specs.Image.{ImageValue}
use Rattle.serve_texts.specs.declared.config.ServeCfg.{ServeCfg}
use Rattle.drawn_workload.specs.Generated.{gen_cfg, gen_requests, gen_line}
use Rattle.serve_run.specs.declared.served.Served.{Served}
use Rattle.serve_run.specs.Served.{Serves}
use Rattle.top_call.specs.ServeRun.{ServesDrawn, drawn_line}

pub serves_drawn : (n : ℕ) (cfg : ServeCfg) (image : ImageValue) (requests : List Request) (served : Served) → cfg ≡ gen_cfg → image ≡ drawn_image n → requests ≡ gen_requests n
    → Serves cfg image requests served → ServesDrawn n served
unfolding ServesDrawn
serves_drawn n cfg image requests served is_cfg is_image is_requests serves =
    let settings : Serves gen_cfg image requests served = subst (λ (c : ServeCfg). Serves c image requests served) is_cfg serves in
    let drawn : Serves gen_cfg (drawn_image n) requests served = subst (λ (i : ImageValue). Serves gen_cfg i requests served) is_image settings in
    subst (λ (r : List Request). Serves gen_cfg (drawn_image n) r served) is_requests drawn

pub tells_drawn : (n : ℕ) (served : Served) (line : List ℕ) → ServesDrawn n served → line ≡ gen_line n served.replies → line ≡ drawn_line n
unfolding ServesDrawn drawn_line
tells_drawn n served line serves is = is ∙ ap (gen_line n) serves.replies
