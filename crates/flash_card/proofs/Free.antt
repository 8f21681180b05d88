-- The page that a search of the table of free pages finds.
use Rattle.std.specs.Prelude.{◌≡◌, ℕ, ◌+◌, ◌-◌, ◌*◌, ◌<◌, ◌≤◌, Bool, true, false, List, length, Some, None, nat_lt, slice_index_or}
use Rattle.std.proofs.Common.{ap, sym, ◌∙◌, get_or, arith, ⊎_elim}
use Rattle.std.proofs.lemmas.Bool.{true≢false, cond-true, cond-false, lt-ltb, le-ltb, cases_lt}
use Rattle.flash_card.specs.Card.{CardModel, pages, free, round, skipped, free_page}
use Rattle.flash_card.specs.CardKeeps.{free_in, free_free}
use Rattle.flash_card.specs.Search.{first_is}
use Rattle.flash_card.specs.Tables.{FirstMarked}

module _
    (s : CardModel) (vacant : List Bool) (hand : s.hand < pages s.bytes)
    (frees : (i : ℕ) → i < pages s.bytes → get_or vacant i false ≡ free s.bytes s.count i) where
  abbrev n : ℕ
  n = pages s.bytes

  abbrev test : ℕ → Bool
  test k = free s.bytes s.count (round n (s.hand + k))

  -- the k-th page from the hand on is page i
  at_place : (k i : ℕ) → i < n → round n (s.hand + k) ≡ i → test k ≡ get_or vacant i false
  at_place k i l e = ap (free s.bytes s.count) e ∙ sym (frees i l)

  straight : (k i : ℕ) → s.hand + k ≡ i → i < n → round n (s.hand + k) ≡ i
  straight k i e l = cond-true (nat_lt (s.hand + k) n) (s.hand + k) ((s.hand + k) - n) (lt-ltb (s.hand + k) n (omega arith)) ∙ e

  wrapped : (k i : ℕ) → s.hand + k ≡ n + i → round n (s.hand + k) ≡ i
  wrapped k i e =
      cond-false (nat_lt (s.hand + k) n) (s.hand + k) ((s.hand + k) - n) (le-ltb (s.hand + k) n (omega arith))
      ∙ (let z : (s.hand + k) - n ≡ i = omega arith in z)

  -- after k places that are not free the next one, page p, is
  reached :
      (k p : ℕ) → k < n → p < n → round n (s.hand + k) ≡ p → get_or vacant p false ≡ true → ((j : ℕ) → j < k → test j ≡ false) → p ≡ free_page s
  reached k p a l e t none =
      let skip : skipped s ≡ k = first_is test n k a (at_place k p l e ∙ t) none in
      sym (ap (λ k. round n (s.hand + k)) skip ∙ e)

  pub found_ahead : (p : ℕ) → FirstMarked vacant s.hand n (Some p) → p ≡ free_page s
  found_ahead p f =
      let low : s.hand ≤ p = f.0 in
      let high : p < n = f.1 in
      let k : ℕ = p - s.hand in
      reached k p (omega arith) high (straight k p (omega arith) high) f.2
      (λ j l. at_place j (s.hand + j) (omega arith) (straight j (s.hand + j) (omega arith) (omega arith)) ∙ f.3 (s.hand + j) (omega arith) (omega arith))

  pub found_behind : (p : ℕ) → FirstMarked vacant s.hand n None → FirstMarked vacant 0 s.hand (Some p) → p ≡ free_page s
  found_behind p none f =
      let high : p < s.hand = f.1 in
      let k : ℕ = (n + p) - s.hand in
      reached k p (omega arith) (omega arith) (wrapped k p (omega arith)) f.2
      (λ j l.
      ⊎_elim
      (λ (a : s.hand + j < n).
      at_place j (s.hand + j) a (straight j (s.hand + j) (omega arith) a) ∙ none (s.hand + j) (omega arith) a)
      (λ (a : n ≤ s.hand + j).
      let i : ℕ = (s.hand + j) - n in
      at_place j i (omega arith) (wrapped j i (omega arith)) ∙ f.3 i (omega arith) (omega arith))
      (cases_lt (s.hand + j) n))

  pub found_none :
      (s.count + 1) * 516 ≤ length s.bytes → FirstMarked vacant s.hand n None
      → ((k : ℕ) → 0 ≤ k → k < s.hand → slice_index_or vacant k false ≡ false) → ⊥
  found_none room ahead behind =
      let p = free_page s in
      let l : p < n = free_in s room hand in
      let t : get_or vacant p false ≡ true = frees p l ∙ free_free s room hand in
      ⊎_elim
      (λ (a : p < s.hand). true≢false (sym t ∙ behind p (omega arith) a))
      (λ (a : s.hand ≤ p). true≢false (sym t ∙ ahead p a l))
      (cases_lt p s.hand)
