use Rattle.std.proofs.Common.{◌≡◌, ℕ, ◌<◌, ◌≤◌, [], take, length, get_or}
use Rattle.reply_places.specs.Framed.{Placed}
use Rattle.serve_session.specs.Tiling.{Makes}
use Rattle.serve_session.specs.Places.{numbers_of, tiles_at, IsAnswered}
use Rattle.serve_session.specs.Running.{HasServed}
use Rattle.serve_session.proofs.serving.Serving.serve_places.Given as goal

-- the places so far were served
abbrev pub invariant-loop-count : goal.invariant-loop-count
invariant-loop-count g l = record {
  maker : Makes l.fn.self.tiling l.maker;
  numbers : numbers_of l.places ≡ numbers_of l.fn.places;
  answered : (i : ℕ) (d : Placed) → i < l.count → IsAnswered l.fn.self.tiling l.fn.self.requests (get_or l.places i d);
  empty : (i : ℕ) (d : Placed) → l.count ≤ i → i < length l.places → (get_or l.places i d).bytes ≡ [];
  served : (granter : g.row.G.Denot) → HasServed l.fn.self [] granter l.fn.cache → HasServed l.fn.self (tiles_at l.fn.self.requests (take l.count (numbers_of l.fn.places))) granter l.cache;
}
