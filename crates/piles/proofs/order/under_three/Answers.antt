use Rattle.std.proofs.Common.{◌≡◌, [], rules}
use Rattle.std.proofs.lemmas.List.{nil_from_length}
use Rattle.piles.proofs.order.under_three.Goals as goal

pub returns-in_default-clause-output : goal.returns-in_default-clause-output
returns-in_default-clause-output g c =
    λ held counts.
    let none : c.args.caches.now ≡ [] = nil_from_length c.args.caches.now (search rules) in
    rw none (c.run.ensures held counts)
