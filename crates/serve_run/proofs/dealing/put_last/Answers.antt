use Rattle.std.proofs.Common.{◌∷◌, ◌++◌, ◌∙◌, [], ap, sym, subst, arith}
use Rattle.reply_places.specs.Framed.{Framed}
use Rattle.serve_session.specs.Places.{AreAnswered, IsAnswered}
use Rattle.serve_run.proofs.PlacesAreDealt.{dealt_less, each_set, front_holds, keep_set, last_holds, last_left, reply_joined, some_left}
use Rattle.serve_run.proofs.dealing.put_last.Goals as goal

pub take_last-place-requires : goal.take_last-place-requires
take_last-place-requires g c = record {
  some = some_left (λ worker. worker.places.items) c.args.requests.now c.args.number c.args.workers.now c.worker_of-at.result c.index-workers-at.result
      c.worker_of-at.ensures.within c.worker_of-at.ensures.client c.requires.dealt;
}

pub put_back-requires : goal.put_back-requires
put_back-requires g c =
    let left = last_left (λ worker. worker.places.items) c.args.requests.now c.args.number c.args.workers.now c.worker_of-at.result c.index-workers-at.result c.take_last-place.new.worker.places.items c.take_last-place.result
    c.worker_of-at.ensures.within c.worker_of-at.ensures.client c.requires.dealt c.take_last-place.ensures.places in
    omega (arith, left.1, c.requires.next)

pub returns-clause-from : goal.returns-clause-from
returns-clause-from g c =
    let left = last_left (λ worker. worker.places.items) c.args.requests.now c.args.number c.args.workers.now c.worker_of-at.result c.index-workers-at.result c.take_last-place.new.worker.places.items c.take_last-place.result
    c.worker_of-at.ensures.within c.worker_of-at.ensures.client c.requires.dealt c.take_last-place.ensures.places in
    ap (λ (f : Framed). f.from) c.put_back.ensures ∙ left.1

pub returns-clause-dealt : goal.returns-clause-dealt
returns-clause-dealt g c =
    let left = last_left (λ worker. worker.places.items) c.args.requests.now c.args.number c.args.workers.now c.worker_of-at.result c.index-workers-at.result c.take_last-place.new.worker.places.items c.take_last-place.result
    c.worker_of-at.ensures.within c.worker_of-at.ensures.client c.requires.dealt c.take_last-place.ensures.places in
    dealt_less (λ worker. worker.places.items) c.args.requests.now c.args.number c.args.workers.now c.worker_of-at.result c.take_last-place.new.worker c.index-workers-at.result
    c.worker_of-at.ensures.within (sym c.worker_of-at.ensures.client) c.requires.dealt left.0

pub returns-clause-ended : goal.returns-clause-ended
returns-clause-ended g c =
    keep_set (λ worker. worker.ended) (λ worker. worker.settled) c.args.workers.now c.worker_of-at.result c.take_last-place.new.worker c.index-workers-at.result c.worker_of-at.ensures.within c.take_last-place.ensures.ended c.take_last-place.ensures.settled

pub returns-clause-reply : goal.returns-clause-reply
returns-clause-reply g c tiling hold all =
    let requests = c.args.requests.now in
    let left = last_left (λ worker. worker.places.items) requests c.args.number c.args.workers.now c.worker_of-at.result c.index-workers-at.result c.take_last-place.new.worker.places.items c.take_last-place.result
    c.worker_of-at.ensures.within c.worker_of-at.ensures.client c.requires.dealt c.take_last-place.ensures.places in
    let these : AreAnswered tiling requests (c.take_last-place.new.worker.places.items ++ c.take_last-place.result ∷ []) =
    subst (AreAnswered tiling requests) c.take_last-place.ensures.places (all c.worker_of-at.result c.index-workers-at.result c.worker_of-at.ensures.within) in (
      each_set (λ i worker. AreAnswered tiling requests worker.places.items) c.args.workers.now c.worker_of-at.result c.take_last-place.new.worker
          c.worker_of-at.ensures.within (λ i e low there. all i e low)
          (front_holds (IsAnswered tiling requests) c.take_last-place.new.worker.places.items c.take_last-place.result these),
      ap (λ (f : Framed). f.bytes) c.put_back.ensures
          ∙ reply_joined tiling requests _ c.take_last-place.result c.args.number c.args.frame.bytes hold
          (last_holds (IsAnswered tiling requests) c.take_last-place.new.worker.places.items c.take_last-place.result these) left.1,
    )
