use Rattle.std.proofs.Common.{◌≡◌, [], rules}
use Rattle.std.proofs.lemmas.List.{nil_from_length}
use Rattle.piles.proofs.order.under_none.Goals as goal

pub returns-then-is_empty-clause-output : goal.returns-then-is_empty-clause-output
returns-then-is_empty-clause-output g c =
    λ held counts.
    let none : c.args.caches.now ≡ [] = nil_from_length c.args.caches.now (search rules) in
    rw none (c.run.ensures held counts)
