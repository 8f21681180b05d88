-- The law of a put on the card, page by page.
use Rattle.std.specs.Prelude.{◌≡◌, ℕ, ◌+◌, ◌*◌, ◌<◌, true, false, cond, length, drop, ◌==◌, ◌≢◌}
use Rattle.store.specs.Steps.{Content}
use Rattle.medium.specs.Medium.{Stores}
use Rattle.flash_card.specs.Card.{CardModel, card, pages, owner, page_content, nobody, free, round, skipped, free_page}

-- Block b was put with content x: where it went, what became of every other page and of the bytes past the
-- last one, where the hand is, and what each block then shows.
pub record PutPages (b : ℕ) (x : Content) (s s' : CardModel) : Type 0 where
  -- the page taken is free, and no page from the hand round to it is
  pub inside : free_page s < pages s.bytes
  pub taken_free : free s.bytes s.count (free_page s) ≡ true
  pub skipped_full : (k : ℕ) → k < skipped s → free s.bytes s.count (round (pages s.bytes) (s.hand + k)) ≡ false
  pub taken_owner : owner s'.bytes (free_page s) ≡ b
  pub taken_content : page_content s'.bytes (free_page s) ≡ x
  -- every other page keeps its content, and its owner unless that was b
  pub other_owner : (j : ℕ) → j < pages s.bytes → (j ≢ free_page s) → owner s'.bytes j ≡ cond (owner s.bytes j == b) nobody (owner s.bytes j)
  pub other_content : (j : ℕ) → j < pages s.bytes → (j ≢ free_page s) → page_content s'.bytes j ≡ page_content s.bytes j
  pub size : length s'.bytes ≡ length s.bytes
  pub past : drop (pages s.bytes * 516) s'.bytes ≡ drop (pages s.bytes * 516) s.bytes
  pub hand : s'.hand ≡ round (pages s.bytes) (free_page s + 1)
  -- b shows x, the other blocks what they showed, and the grant fell by 1
  pub stores : Stores card b x s s'
