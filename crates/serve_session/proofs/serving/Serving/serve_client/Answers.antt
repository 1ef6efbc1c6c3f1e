use Rattle.std.proofs.Common.{◌≤◌, ◌∙◌, ℕ, List, length, sym, ap, subst}
use Rattle.std.proofs.lemmas.List.{length-map}
use Rattle.reply_places.specs.Framed.{Placed}
use Rattle.request_text.specs.declared.limits.TheConstants.{MOST_REQUESTS}
use Rattle.tile_source.specs.declared.tile.Tile.{Tile}
use Rattle.serve_session.specs.declared.served.ServedClient.{ServedClient}
use Rattle.serve_session.specs.Tiling.{asked_by}
use Rattle.serve_session.specs.Served.{IsServed}
use Rattle.serve_session.specs.Running.{HasServed}
use Rattle.serve_session.proofs.PlacesAreServed.{places_many}
use Rattle.serve_session.proofs.Session.{TalliesEnd, served_closed, few_granted, rose_from_none}
use Rattle.serve_session.proofs.serving.Serving.serve_client.Goals as goal

pub serve_places-requires-clause-few : goal.serve_places-requires-clause-few
serve_places-requires-clause-few g c κs within =
    subst (λ (n : ℕ). n ≤ MOST_REQUESTS) (length-map c.args.places.now (λ (p : Placed). p.number)) c.requires.places.few

pub returns : goal.returns
returns g c =
    let run = c.args.self.now in
    let asked = asked_by c.args.client run.requests in
    let served : ServedClient = record { tally = c.tally_of-tally.result; end = c.close_with-end.result.0 } in
    let few : length asked ≤ MOST_REQUESTS =
    subst (λ (n : ℕ). n ≤ MOST_REQUESTS) (length-map c.args.places.now (λ (p : Placed). p.number) ∙ places_many run c.args.client c.args.places.now c.requires.places) c.requires.places.few in
    let has : HasServed run asked c.args.granter c.serve_places.new.cache =
    subst (λ (ts : List Tile). HasServed run ts c.args.granter c.serve_places.new.cache) c.requires.places.asked (c.in_ok-serve_places.ensures.served c.args.granter c.in_ok-cache.ensures) in
    let tallies : TalliesEnd c.args.client asked served = record {
      client = c.tally_of-tally.ensures.client;
      requests = c.tally_of-tally.ensures.requests ∙ places_many run c.args.client c.args.places.now c.requires.places;
      counts = c.tally_of-tally.ensures.counts;
      grants = c.tally_of-tally.ensures.grants;
    } in
    let closes = c.close_with-end.ensures.closes in
    let is : IsServed run.cfg c.args.client run.requests served =
    served_closed run c.args.client c.args.granter c.serve_places.new.cache served few has closes c.close_with-end.ensures.bounded tallies in
    record {
      numbers = c.serve_places.ensures.numbers;
      replies = c.in_ok-serve_places.ensures.replies;
      client = is;
      grants = rose_from_none _ _ _ (ap g.G.Granter.grants has.over ∙ c.requires.fresh) c.close_with-end.ensures.within c.close_with-end.ensures.exact ∙ sym tallies.grants;
      few = few_granted run asked c.args.granter c.serve_places.new.cache served few has closes tallies.counts is.bounded;
      standing = c.close_with-end.ensures.standing ∙ ap g.G.Granter.standing has.over;
    }
