use Rattle.std.proofs.Common.{◌≡◌, ℕ, ◌<◌, ◌≤◌, ◌∙◌, [], ◌∷◌, ◌++◌, List, length, take, arith, ap, subst, sym}
use Rattle.std.proofs.lemmas.List.{take_all, length-take, length-map}
use Rattle.reply_places.specs.Framed.{Placed}
use Rattle.request_text.specs.declared.limits.TheConstants.{MOST_REQUESTS}
use Rattle.tile_source.specs.declared.tile.Tile.{Tile}
use Rattle.serve_session.specs.Tiling.{tile_at}
use Rattle.serve_session.specs.Places.{numbers_of, tiles_at, IsAnswered}
use Rattle.serve_session.specs.Running.{HasServed}
use Rattle.serve_session.proofs.PlacesAreServed.{numbers_set, number_at, front_more, rest_stays, one_more_tile}
use Rattle.serve_session.proofs.serving.Serving.serve_places.Goals as goal

pub serve_place-requires-clause-within : goal.serve_place-requires-clause-within
serve_place-requires-clause-within g c κs within =
    let same = number_at c.loop-count.places (numbers_of c.args.places.now) c.loop-count.count c.index-places-count.result c.loop-count.invariant.numbers (omega (arith, c.loop-count-test.true)) in
    subst (λ (n : ℕ). n < length c.args.self.now.requests) (sym same)
    (c.requires.within c.loop-count.count c.index-places-count.result.number (omega (arith, length-map c.args.places.now (λ (p : Placed). p.number), c.loop-count-test.true)))

pub serve_place-requires-clause-used : goal.serve_place-requires-clause-used
serve_place-requires-clause-used g c κs within = (c.loop-count.invariant.served c.requires.begun.0 c.requires.begun.1).used

pub serve_place-requires-clause-small : goal.serve_place-requires-clause-small
serve_place-requires-clause-small g c κs within =
    let has = c.loop-count.invariant.served c.requires.begun.0 c.requires.begun.1 in
    let few : length (tiles_at c.args.self.now.requests (take c.loop-count.count (numbers_of c.args.places.now))) ≤ MOST_REQUESTS =
    omega (arith, length-map (take c.loop-count.count (numbers_of c.args.places.now)) (tile_at c.args.self.now.requests), length-take {A = ℕ}, length-map c.args.places.now (λ (p : Placed). p.number), c.requires.few) in
    omega (arith, few, has.pages)

pub returns-in_err-serve_place-clause-numbers : goal.returns-in_err-serve_place-clause-numbers
returns-in_err-serve_place-clause-numbers g c =
    numbers_set c.loop-count.places c.loop-count.count c.serve_place.new.place c.index-places-count.result c.serve_place.ensures.number ∙ c.loop-count.invariant.numbers

pub loop-count-preserved : goal.loop-count-preserved
loop-count-preserved g c =
    let run = c.args.self.now in
    let numbers = numbers_of c.args.places.now in
    let place = c.serve_place.new.place in
    let low : c.loop-count.count < length c.loop-count.places = omega (arith, c.loop-count.auto.places, c.loop-count-test.true) in
    let same = number_at c.loop-count.places numbers c.loop-count.count c.index-places-count.result c.loop-count.invariant.numbers low in
    record {
      maker = c.serve_place.ensures.maker;
      numbers = numbers_set c.loop-count.places c.loop-count.count place c.index-places-count.result c.serve_place.ensures.number ∙ c.loop-count.invariant.numbers;
      answered = front_more c.loop-count.places c.loop-count.count place low (IsAnswered run.tiling run.requests) c.loop-count.invariant.answered c.in_ok-serve_place.ensures.reply;
      empty = rest_stays c.loop-count.places c.loop-count.count place low (λ p. p.bytes ≡ []) c.loop-count.invariant.empty;
      served = λ granter has.
          let few : length (tiles_at run.requests (take c.loop-count.count numbers)) < MOST_REQUESTS =
          omega (arith, length-map (take c.loop-count.count numbers) (tile_at run.requests), length-take {A = ℕ}, length-map c.args.places.now (λ (p : Placed). p.number), c.requires.few, c.loop-count-test.true) in
          subst (λ (asked : List Tile). HasServed run asked granter c.serve_place.new.cache)
          (ap (λ (n : ℕ). tiles_at run.requests (take c.loop-count.count numbers) ++ tile_at run.requests n ∷ []) same
          ∙ sym (one_more_tile run.requests numbers c.loop-count.count c.index-places-count.result.number (omega (arith, length-map c.args.places.now (λ (p : Placed). p.number), c.loop-count-test.true))))
          (c.in_ok-serve_place.ensures.served (tiles_at run.requests (take c.loop-count.count numbers)) granter few (c.loop-count.invariant.served granter has));
    }

pub returns-clause-served : goal.returns-clause-served
returns-clause-served g c granter has =
    subst (λ (ns : List ℕ). HasServed c.args.self.now (tiles_at c.args.self.now.requests ns) granter c.loop-count.cache)
    (take_all c.loop-count.count (numbers_of c.args.places.now) (omega (arith, length-map c.args.places.now (λ (p : Placed). p.number), c.loop-count-test.false)))
    (c.loop-count.invariant.served granter has)
