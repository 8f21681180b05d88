use Rattle.std.proofs.Common.{refl}
use Rattle.log_pile.proofs.card.erased_card.Goals as goal

pub returns : goal.returns
returns c =
    let made = c.in_ok-new.ensures.medium in
    rw (made.0, made.1, made.2, made.3, c.in_ok-memory.ensures.items_if_clones_equal (λ y same. same)) refl
