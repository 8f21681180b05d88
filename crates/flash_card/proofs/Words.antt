-- A row of bits: what is read of its words, and what is written to them.
use Rattle.std.proofs.Common.{◌≡◌, ◌≢◌, ℕ, ◌+◌, ◌-◌, ◌*◌, ◌/◌, ◌%◌, ◌^◌, ◌<◌, ◌≤◌, min, Bool, true, false, eqb, List, length, replicate, get_or, set, Some, None, bit_and, bit_or, w64, sym, ap, ◌∙◌, arith, ⊎_elim}
use Rattle.std.specs.Int.{bit_at, bit_not, trailing_zeros}
use Rattle.std.proofs.lemmas.Bool.{true≢false, eq-eqb, ne_eqb, cases_eq, cases_lt}
use Rattle.std.proofs.lemmas.List.{ext_get_or, length-set, length-replicate, get_or-set_same, get_or-set_other, get_or-replicate, get_or_past, get_or_read}
use Rattle.std.proofs.lemmas.List.FromFn.{length-map-range_with_len, get_or-map-range_with_len}
use Rattle.std.proofs.lemmas.Nat.{shr-shr, shr_le}
use Rattle.std.proofs.lemmas.Nat.Bits.{bit_at-zero, bit_at_above, bit_at-trailing_zeros, bit_at_set_same, bit_at_set_other, bit_at_clear_same, bit_at_clear_other}
use Rattle.flash_card.specs.Bits.{is_set, row, Holds}
use Rattle.flash_card.specs.Tables.{FirstMarked, HasMark}

pub length-row : (n : ℕ) (words : List ℕ) → length (row n words) ≡ n
unfolding row
length-row n words = length-map-range_with_len (is_set words) 0 n

get_or-row : (n : ℕ) (words : List ℕ) (i : ℕ) → i < n → get_or (row n words) i false ≡ is_set words i
unfolding row
get_or-row n words i h = get_or-map-range_with_len (is_set words) 0 n i i false h (omega arith)

-- a bit as a mark
marked : (b : ℕ) → b ≡ 1 → eqb b 1 ≡ true
marked b e = eq-eqb b 1 e

unmarked : (b : ℕ) → b ≡ 0 → eqb b 1 ≡ false
unmarked b e = ne_eqb b 1 (λ (o : b ≡ 1). omega arith)

abbrev zeros : ℕ → List ℕ
zeros m = replicate m 0

-- each word is zero, and so is what is read past the words
zero_at : (m j : ℕ) → get_or (zeros m) j 0 ≡ 0
zero_at m j =
    ⊎_elim
    (λ (l : j < m). get_or-replicate {A = ℕ} m j 0 0 l)
    (λ (l : m ≤ j). get_or_past (zeros m) j 0 (let e : length (zeros m) ≡ m = length-replicate {A = ℕ} m 0 in omega arith))
    (cases_lt j m)

-- no bit of words that are zero is set
none_set : (m i : ℕ) → is_set (zeros m) i ≡ false
none_set m i = unmarked (bit_at (get_or (zeros m) (i / 64) 0) (i % 64)) (ap (λ w. bit_at w (i % 64)) (zero_at m (i / 64)) ∙ bit_at-zero (i % 64))

pub row_none : (n m : ℕ) → row n (replicate m 0) ≡ replicate n false
row_none n m =
    ext_get_or false (row n (zeros m)) (replicate n false)
    (length-row n (zeros m) ∙ sym (length-replicate n false))
    (λ i l.
    let h : i < n = (let e = length-row n (zeros m) in omega arith) in
    get_or-row n (zeros m) i h
    ∙ none_set m i
    ∙ sym (get_or-replicate n i false false h))

-- one word is replaced, whose other bits stay
module _
    (n : ℕ) (words : List ℕ) (place word : ℕ) (here : place < n) (room : n ≤ length words * 64)
    (kept : (i : ℕ) → i < 64 → i ≢ place % 64 → bit_at word i ≡ bit_at (get_or words (place / 64) 0) i) where
  within : place / 64 < length words
  within = omega arith

  same_bit : is_set (set words (place / 64) word) place ≡ eqb (bit_at word (place % 64)) 1
  same_bit = ap (λ w. eqb (bit_at w (place % 64)) 1) (get_or-set_same words (place / 64) word 0 within)

  other_bit : (i : ℕ) → i ≢ place → is_set (set words (place / 64) word) i ≡ is_set words i
  other_bit i differs =
      ⊎_elim
      (λ (same : i / 64 ≡ place / 64).
      let low : i % 64 < 64 = omega arith in
      let apart : i % 64 ≡ place % 64 → ⊥ = λ (o : i % 64 ≡ place % 64). differs (omega arith) in
      ap (λ k. eqb (bit_at (get_or (set words (place / 64) word) k 0) (i % 64)) 1) same
      ∙ ap (λ w. eqb (bit_at w (i % 64)) 1) (get_or-set_same words (place / 64) word 0 within)
      ∙ ap (λ b. eqb b 1) (kept (i % 64) low apart)
      ∙ sym (ap (λ k. eqb (bit_at (get_or words k 0) (i % 64)) 1) same))
      (λ (apart : i / 64 ≡ place / 64 → ⊥).
      ap (λ w. eqb (bit_at w (i % 64)) 1) (get_or-set_other words (place / 64) (i / 64) word 0 apart))
      (cases_eq (i / 64) (place / 64))

  holds_set : Holds n words → Holds n (set words (place / 64) word)
  holds_set held =
      record {
        room = let e = length-set words (place / 64) word in omega arith;
        unset = λ i past. other_bit i (λ (e : i ≡ place). omega arith) ∙ held.unset i past;
      }

  row_set : (mark : Bool) → eqb (bit_at word (place % 64)) 1 ≡ mark → row n (set words (place / 64) word) ≡ set (row n words) place mark
  row_set mark now =
      ext_get_or false (row n (set words (place / 64) word)) (set (row n words) place mark)
      (length-row n (set words (place / 64) word) ∙ sym (length-set (row n words) place mark ∙ length-row n words))
      (λ i l.
      let h : i < n = (let e = length-row n (set words (place / 64) word) in omega arith) in
      get_or-row n (set words (place / 64) word) i h
      ∙ ⊎_elim
      (λ (e : i ≡ place).
      ap (is_set (set words (place / 64) word)) e
      ∙ same_bit
      ∙ now
      ∙ sym (ap (λ k. get_or (set (row n words) place mark) k false) e ∙ get_or-set_same (row n words) place mark false (let e = length-row n words in omega arith)))
      (λ (e : i ≡ place → ⊥).
      other_bit i e ∙ sym (get_or-set_other (row n words) place i mark false e ∙ get_or-row n words i h))
      (cases_eq i place))

-- marks that are the first n bits of words, and one place among them
module _
    (n : ℕ) (words : List ℕ) (marks : List Bool) (place : ℕ) (view : row n words ≡ marks) (room : n ≤ length words * 64)
    (within : place < length marks) where
  here : place < n
  here = let e = length-row n words in let f = ap length view in omega arith

  pub word_within : place / 64 < length words
  word_within = let h = here in omega arith

  -- the word of the place was read as v
  module _ (v : ℕ) (found : v ≡ get_or words (place / 64) v) where
    read : v ≡ get_or words (place / 64) 0
    read = get_or_read words (place / 64) v word_within found 0

    index : place % 64 < 64
    index = omega arith

    pub holds_marked : Holds n words → Holds n (set words (place / 64) (bit_or v (1 * 2 ^ (place % 64) % 2 ^ 64)))
    holds_marked =
        holds_set n words place (bit_or v (1 * 2 ^ (place % 64) % 2 ^ 64)) here room
        (λ i l differs. bit_at_set_other w64 v (place % 64) index i differs ∙ ap (λ w. bit_at w i) read)

    pub holds_cleared : Holds n words → Holds n (set words (place / 64) (bit_and v (bit_not w64 (1 * 2 ^ (place % 64) % 2 ^ 64))))
    holds_cleared =
        holds_set n words place (bit_and v (bit_not w64 (1 * 2 ^ (place % 64) % 2 ^ 64))) here room
        (λ i l differs. bit_at_clear_other w64 v (place % 64) index i l differs ∙ ap (λ w. bit_at w i) read)

    pub row_marked : row n (set words (place / 64) (bit_or v (1 * 2 ^ (place % 64) % 2 ^ 64))) ≡ set marks place true
    row_marked =
        row_set n words place (bit_or v (1 * 2 ^ (place % 64) % 2 ^ 64)) here room
        (λ i l differs. bit_at_set_other w64 v (place % 64) index i differs ∙ ap (λ w. bit_at w i) read)
        true
        (marked (bit_at (bit_or v (1 * 2 ^ (place % 64) % 2 ^ 64)) (place % 64)) (bit_at_set_same w64 v (place % 64) index))
        ∙ ap (λ m. set m place true) view

    pub row_cleared : row n (set words (place / 64) (bit_and v (bit_not w64 (1 * 2 ^ (place % 64) % 2 ^ 64)))) ≡ set marks place false
    row_cleared =
        row_set n words place (bit_and v (bit_not w64 (1 * 2 ^ (place % 64) % 2 ^ 64))) here room
        (λ i l differs. bit_at_clear_other w64 v (place % 64) index i l differs ∙ ap (λ w. bit_at w i) read)
        false
        (unmarked (bit_at (bit_and v (bit_not w64 (1 * 2 ^ (place % 64) % 2 ^ 64))) (place % 64)) (bit_at_clear_same w64 v (place % 64) index))
        ∙ ap (λ m. set m place false) view

    -- no bit of a word that is zero is set
    pub empty_word : v ≡ 0 → (k : ℕ) → k / 64 ≡ place / 64 → get_or marks k false ≡ false
    empty_word empty k same =
        ap (λ m. get_or m k false) (sym view)
        ∙ ⊎_elim
        (λ (l : k < n).
        get_or-row n words k l
        ∙ unmarked (bit_at (get_or words (k / 64) 0) (k % 64))
        (ap (λ j. bit_at (get_or words j 0) (k % 64)) same ∙ ap (λ w. bit_at w (k % 64)) (sym read ∙ empty) ∙ bit_at-zero (k % 64)))
        (λ (l : n ≤ k). get_or_past (row n words) k false (let e = length-row n words in omega arith))
        (cases_lt k n)

    -- some bit of a word that is not zero is set
    pub some_in_word : Holds n words → v < 2 ^ 64 → (v ≢ 0) → HasMark marks (place / 64)
    some_in_word held small some =
        let lowest = bit_at-trailing_zeros w64 v (omega arith) small in
        let k = place / 64 * 64 + trailing_zeros w64 v in
        let same : k / 64 ≡ place / 64 = (let l = lowest.0 in omega arith) in
        let bit : k % 64 ≡ trailing_zeros w64 v = (let l = lowest.0 in omega arith) in
        let on : is_set words k ≡ true =
        ap (λ j. eqb (bit_at (get_or words j 0) (k % 64)) 1) same
        ∙ ap (λ w. eqb (bit_at w (k % 64)) 1) (sym read)
        ∙ ap (λ i. eqb (bit_at v i) 1) bit
        ∙ marked (bit_at v (trailing_zeros w64 v)) lowest.1 in
        let inside : k < n = ⊎_elim (λ (l : k < n). l) (λ (l : n ≤ k). absurd (true≢false (sym on ∙ held.unset k l))) (cases_lt k n) in
        record { place = k; inside = same; marked = ap (λ m. get_or m k false) (sym view) ∙ get_or-row n words k inside ∙ on }

-- A search from place `start`, whose word was read as v and is shifted down so that this place's bit is the lowest.
module _
    (n : ℕ) (words : List ℕ) (marks : List Bool) (start end v : ℕ) (view : row n words ≡ marks) (room : n ≤ length words * 64)
    (some : start < end) (within : end ≤ length marks) (found : v ≡ get_or words (start / 64) v) (small : v < 2 ^ 64) where
  abbrev rest : ℕ
  rest = v / 2 ^ (start % 64)

  abbrev word_end : ℕ
  word_end = start / 64 * 64 + 64

  below : end ≤ n
  below = let e = length-row n words in let f = ap length view in omega arith

  known : v ≡ get_or words (start / 64) 0
  known = read n words marks start view room (omega arith) v found

  shifted : (j : ℕ) → bit_at rest j ≡ bit_at v (start % 64 + j)
  shifted j = ap (λ m. m % 2) (shr-shr v (start % 64) j)

  mark_at : (k : ℕ) → start ≤ k → k < min end word_end → get_or marks k false ≡ eqb (bit_at rest (k - start)) 1
  mark_at k a b =
      let e = below in
      let h : k < n = omega arith in
      let same : k / 64 ≡ start / 64 = omega arith in
      let place : k % 64 ≡ start % 64 + (k - start) = omega arith in
      ap (λ m. get_or m k false) (sym view)
      ∙ get_or-row n words k h
      ∙ ap (λ j. eqb (bit_at (get_or words j 0) (k % 64)) 1) same
      ∙ ap (λ w. eqb (bit_at w (k % 64)) 1) (sym known)
      ∙ ap (λ i. eqb (bit_at v i) 1) place
      ∙ sym (ap (λ b. eqb b 1) (shifted (k - start)))

  clear_at : (k : ℕ) → start ≤ k → k < min end word_end → bit_at rest (k - start) ≡ 0 → get_or marks k false ≡ false
  clear_at k a b e = mark_at k a b ∙ unmarked (bit_at rest (k - start)) e

  pub none_in_word : rest ≡ 0 → FirstMarked marks start (min end word_end) None
  none_in_word empty k a b = clear_at k a b (ap (λ w. bit_at w (k - start)) empty ∙ bit_at-zero (k - start))

  module _ (nonzero : 0 < rest) where
    abbrev t : ℕ
    t = trailing_zeros w64 rest

    fits : rest < 2 ^ 64
    fits = let l = shr_le v (start % 64) in omega arith

    bit_here : bit_at rest t ≡ 1
    bit_here = (bit_at-trailing_zeros w64 rest nonzero fits).1

    bits_before : (j : ℕ) → j < t → bit_at rest j ≡ 0
    bits_before = (bit_at-trailing_zeros w64 rest nonzero fits).2

    pub in_word : start + t < word_end
    in_word =
        ⊎_elim
        (λ (l : start % 64 + t < 64). let m : start + t < word_end = omega arith in m)
        (λ (l : 64 ≤ start % 64 + t).
        let one : bit_at v (start % 64 + t) ≡ 1 = sym (shifted t) ∙ bit_here in
        let none : bit_at v (start % 64 + t) ≡ 0 = bit_at_above v 64 (start % 64 + t) small l in
        absurd (omega arith))
        (cases_lt (start % 64 + t) 64)

    pub found_in_word : start + t < end → FirstMarked marks start (min end word_end) (Some (start + t))
    found_in_word before =
        let low : start + t < word_end = in_word in
        let here : (start + t) - start ≡ t = omega arith in (
          omega arith,
          omega arith,
          mark_at (start + t) (omega arith) (omega arith) ∙ marked (bit_at rest ((start + t) - start)) (ap (bit_at rest) here ∙ bit_here),
          λ k a b. clear_at k a (omega arith) (bits_before (k - start) (omega arith)),
        )

    pub found_past : end ≤ start + t → FirstMarked marks start (min end word_end) None
    found_past past k a b = clear_at k a b (bits_before (k - start) (omega arith))
