-- The medium at the bottom of a pile: what stands on it.
use Rattle.std.specs.Prelude.{◌≡◌, ℕ, ◌+◌, ◌*◌, ◌<◌, min, replicate, Ok}
use Rattle.store.specs.Steps.{Content, Answer}
use Rattle.store.specs.Meaning.{Meaning}
use Rattle.medium.specs.Medium.{medium_meaning}
use Rattle.flat_medium.specs.Flat.{flat}
use Rattle.flat_medium.specs.Modeled.{flat_model}
use Rattle.flash_card.specs.Card.{card}
use Rattle.flash_card.specs.Modeled.{card_model}
use Rattle.piles.specs.declared.made.MediumKind.{MediumKind}
use Rattle.piles.specs.declared.made.MediumKind.TheVariants as kinds
use Rattle.piles.specs.declared.bottom.Bottom.{Bottom}
use Rattle.piles.specs.declared.bottom.Bottom.TheVariants.{Flat, Card}

abbrev pub bottom_meaning : Bottom → Meaning
bottom_meaning (Flat m) = medium_meaning flat (flat_model m.layout m.count m.grant)
bottom_meaning (Card c) = medium_meaning card (card_model c.layout c.count c.grant)

abbrev pub granted : Bottom → ℕ
granted m = (bottom_meaning m).grant

abbrev pub counted : Bottom → ℕ
counted m = (bottom_meaning m).count

-- on the medium stands the first content of each line
abbrev pub Stands : Meaning → Bottom → Type 0
Stands m medium = (b : ℕ) → b < m.count → ((bottom_meaning medium).line b).first ≡ (m.line b).first

-- the sum of two counts, as far as a usize goes
abbrev pub sum_up : ℕ → ℕ → ℕ
sum_up m n = min (n + m) 18446744073709551615

-- so many blocks: flat memory of zeros, or a card of FFh bytes
abbrev pub IsNew : MediumKind → ℕ → ℕ → Bottom → Type 0
IsNew kinds.Flat blocks grant (Flat m) = flat_model m.layout m.count m.grant ≡ record { bytes = replicate (blocks * 512) 0; count = blocks; grant = grant }
IsNew (kinds.Card pages) blocks grant (Card c) = card_model c.layout c.count c.grant ≡ record { bytes = replicate (pages * 516) 0xff; count = blocks; grant = grant; hand = 0 }
IsNew _ blocks grant _ = ⊥

-- so many blocks have room on the medium: a card has a page more
abbrev pub HasRoom : MediumKind → ℕ → Type 0
HasRoom kinds.Flat blocks = Unit {0}
HasRoom (kinds.Card pages) blocks = blocks < pages

-- the medium at the next power-on, with one store granted
abbrev pub Reopened : Bottom → Bottom → Type 0
Reopened m m' =
    let before = bottom_meaning m in
    bottom_meaning m' ≡ record { count = before.count; grant = 1; line = before.line }

-- a read of a block, with power on, gives what stands there; the medium stays as it is
abbrev pub Shows : Bottom → ℕ → Answer Content → Bottom → Type 0
Shows m b r m' = (0 < granted m → b < counted m → r ≡ Ok ((bottom_meaning m).line b).first) × (bottom_meaning m' ≡ bottom_meaning m)
