use Rattle.std.proofs.Common.{◌≡◌, ℕ, ◌+◌, ◌≤◌, ◌∷◌, ◌++◌, ◌∙◌, [], length, get_or, ap, sym, subst, vec_capacity}
use Rattle.std.proofs.lemmas.List.{map-append}
use Rattle.reply_places.specs.Framed.{Placed}
use Rattle.serve_session.specs.Places.{numbers_of, AreEmpty}
use Rattle.serve_run.specs.Dealing.{numbers_for}
use Rattle.serve_run.proofs.PlacesAreDealt.{all_more, dealt_more, each_set, room_left}
use Rattle.serve_run.proofs.dealing.hand_on.Goals as goal

pub add_place-requires : goal.add_place-requires
add_place-requires g c = record {
  room = room_left (λ worker. worker.places.items) (λ worker. vec_capacity worker.places) c.args.requests.now c.args.number c.args.workers.now c.worker_of-at.result c.index-workers-at.result
      c.requires.within c.worker_of-at.ensures.within c.worker_of-at.ensures.client c.requires.room c.requires.dealt;
}

pub returns-clause-room : goal.returns-clause-room
returns-clause-room g c =
    each_set (λ i worker. length (numbers_for c.args.requests.now (i + 1) (length c.args.requests.now)) ≤ vec_capacity worker.places) c.args.workers.now c.worker_of-at.result c.add_place.new.worker
    c.worker_of-at.ensures.within (λ i e low there. c.requires.room i e low)
    (subst (λ (n : ℕ). length (numbers_for c.args.requests.now (c.worker_of-at.result + 1) (length c.args.requests.now)) ≤ n) (sym c.add_place.ensures.capacity)
    (c.requires.room c.worker_of-at.result c.index-workers-at.result c.worker_of-at.ensures.within))

pub returns-clause-dealt : goal.returns-clause-dealt
returns-clause-dealt g c =
    let old = (get_or c.args.workers.now c.worker_of-at.result c.index-workers-at.result).places.items in
    dealt_more (λ worker. worker.places.items) c.args.requests.now c.args.number c.args.workers.now c.worker_of-at.result c.add_place.new.worker c.index-workers-at.result
    c.worker_of-at.ensures.within (sym c.worker_of-at.ensures.client) c.requires.dealt
    (ap numbers_of c.add_place.ensures.places ∙ map-append (λ (p : Placed). p.number) old (c.args.place ∷ []) ∙ ap (λ (n : ℕ). numbers_of old ++ n ∷ []) c.requires.place.0)

pub returns-clause-empty : goal.returns-clause-empty
returns-clause-empty g c =
    each_set (λ i worker. AreEmpty worker.places.items) c.args.workers.now c.worker_of-at.result c.add_place.new.worker
    c.worker_of-at.ensures.within (λ i e low there. c.requires.empty i e low)
    (subst AreEmpty (sym c.add_place.ensures.places)
    (all_more (λ (p : Placed). p.bytes ≡ []) _ c.args.place (c.requires.empty c.worker_of-at.result c.index-workers-at.result c.worker_of-at.ensures.within) c.requires.place.1))
