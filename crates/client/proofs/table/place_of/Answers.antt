use Rattle.std.proofs.Common.{rules}
use Rattle.std.proofs.lemmas.List.Sorted.{answers_always}
use Rattle.client.specs.Lease.{Lease}
use Rattle.client.proofs.PlacesFound.{place_found, halves_found}
use Rattle.client.proofs.table.place_of.Goals as goal

pub returns : goal.returns
returns c = place_found c.args.leases.now c.args.id c.find_row.result c.find_row.ensures

-- the closure gives a segment's number
pub returns-then-rising : goal.returns-then-rising
returns-then-rising c =
    let facts = c.binary_search_by_key.ensures in
    let by_number = facts.position (λ (lease : Lease). lease.side.id) (answers_always _ _ _ (λ f a r g called. search rules)) in
    halves_found c.args.leases.now c.args.id c.binary_search_by_key.result c.ok.result (c.requires c.if-rising.true) facts.bound by_number c.ok.ensures.value
