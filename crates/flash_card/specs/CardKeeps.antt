-- The flash card keeps a store's meaning. It stands in specs/, since an impl takes the proof of a law from there.
use Rattle.std.specs.Prelude.{◌≡◌, ℕ, ◌+◌, ◌-◌, ◌*◌, ◌/◌, ◌<◌, ◌≤◌, Bool, true, false, cond, List, length, ◌==◌, ◌≢◌, nat_eq, nat_lt, refl}
use Rattle.std.proofs.Math.Path.{sym, ap}
use Rattle.std.proofs.Common.{◌∙◌}
use Rattle.std.proofs.Math.Logic.{⊎_elim}
use native.Mathlib.Omega.{arith}
use Rattle.std.proofs.lemmas.List.{length-replicate}
use Rattle.std.proofs.lemmas.Bool.{cond-true, cond-false, cond_both, eq-eqb, ne_eqb, eqb-true, eqb-false, lt-ltb, le-ltb, ltb-true, ltb-false, cases_eq, cases_lt, true≢false}
use Rattle.store.specs.Steps.{Content}
use Rattle.store.specs.Keeps.{Keeps}
use Rattle.store.proofs.Bytes.{length_part}
use Rattle.medium.specs.Medium.{Stores, medium_steps, medium_meaning}
use Rattle.medium.proofs.MediumKeeps.{medium_keeps}
use Rattle.flash_card.specs.Card.{CardModel, CardGood, card, pages, owner, page_content, nobody, first_from, first_page, free, round, skipped, free_page, zeros, shown, card_put}
use Rattle.flash_card.specs.PageLaw.{PutPages}
use Rattle.flash_card.specs.Search.{first_within, first_passes, first_least, first_is, first_none, pigeons}
use Rattle.flash_card.specs.PageWrites.{length_after, owner_after, others_after, content_after, contents_after, past_after}

-- where each block's first page is once page p, which was free, is block b's
module _
    (o o' : ℕ → ℕ) (n p b count : ℕ) (here : p < n) (small : b < count) (few : count ≤ 4294967295) (own : o' p ≡ b)
    (others : (j : ℕ) → j < n → (j ≢ p) → o' j ≡ cond (o j == b) nobody (o j))
    (freed : o p < count → first_from (λ j. nat_eq (o j) (o p)) 0 p < p) where
  pub given_up : (j : ℕ) → j < n → (j ≢ p) → o j ≡ b → o' j ≡ nobody
  given_up j l m e = others j l m ∙ cond-true (o j == b) nobody (o j) (eq-eqb (o j) b e)

  pub kept : (j : ℕ) → j < n → (j ≢ p) → (o j ≢ b) → o' j ≡ o j
  kept j l m e = others j l m ∙ cond-false (o j == b) nobody (o j) (ne_eqb (o j) b e)

  pub not_mine : (j : ℕ) → j < n → (j ≢ p) → o' j ≢ b
  not_mine j l m e =
      ⊎_elim
      (λ (x : o j ≡ b). let g = given_up j l m x in omega arith)
      (λ (x : o j ≡ b → ⊥). x (sym (kept j l m x) ∙ e))
      (cases_eq (o j) b)

  pub alike : (k j : ℕ) → k < count → (k ≢ b) → j < n → (j ≢ p) → (o' j == k) ≡ (o j == k)
  alike k j s ne l m =
      ⊎_elim
      (λ (x : o j ≡ b).
      let g = given_up j l m x in
      ne_eqb (o' j) k (omega arith) ∙ sym (ne_eqb (o j) k (λ (y : o j ≡ k). ne (sym y ∙ x))))
      (λ (x : o j ≡ b → ⊥). ap (λ v. nat_eq v k) (kept j l m x))
      (cases_eq (o j) b)

  pub first_own : first_from (λ i. nat_eq (o' i) b) 0 n ≡ p
  first_own = first_is (λ i. nat_eq (o' i) b) n p here (eq-eqb (o' p) b own) (λ j l. ne_eqb (o' j) b (not_mine j (omega arith) (omega arith)))

  module _ (k : ℕ) (s : k < count) (ne : k ≡ b → ⊥) where
    f : ℕ
    f = first_from (λ i. nat_eq (o i) k) 0 n

    before : (j : ℕ) → j < n → j < f → (o' j == k) ≡ false
    unfolding f
    before j l h =
        ⊎_elim
        (λ (x : j ≡ p). ne_eqb (o' j) k (λ (y : o' j ≡ k). ne (sym y ∙ ap o' x ∙ own)))
        (λ (x : j ≡ p → ⊥). alike k j s ne l x ∙ first_least (λ i. nat_eq (o i) k) 0 n j (omega arith) h)
        (cases_eq j p)

    pub first_aside : first_from (λ i. nat_eq (o i) k) 0 n < n → first_from (λ i. nat_eq (o i) k) 0 n ≢ p
    first_aside h e =
        let found : o p ≡ k = sym (ap o e) ∙ eqb-true (o (first_from (λ i. nat_eq (o i) k) 0 n)) k (first_passes (λ i. nat_eq (o i) k) 0 n (omega arith)) in
        let r = first_from (λ j. nat_eq (o j) (o p)) 0 p in
        let l : r < p = freed (omega arith) in
        let same : o r ≡ o p = eqb-true (o r) (o p) (first_passes (λ j. nat_eq (o j) (o p)) 0 p (omega arith)) in
        eqb-false (o r) k (first_least (λ i. nat_eq (o i) k) 0 n r (omega arith) (omega arith)) (same ∙ found)

    pub first_other : first_from (λ i. nat_eq (o' i) k) 0 n ≡ first_from (λ i. nat_eq (o i) k) 0 n
    unfolding f
    first_other =
        ⊎_elim
        (λ (h : f < n).
        first_is (λ i. nat_eq (o' i) k) n f h
        (alike k f s ne h (first_aside h) ∙ first_passes (λ i. nat_eq (o i) k) 0 n (omega arith))
        (λ j l. before j (omega arith) l))
        (λ (h : n ≤ f).
        first_none (λ i. nat_eq (o' i) k) n (λ j l. before j l (omega arith))
        ∙ (let w = (first_within (λ i. nat_eq (o i) k) 0 n).1 in let z : n ≡ f = omega arith in z))
        (cases_lt f n)

module _ (bytes : List ℕ) (count i : ℕ) where
  taken : free bytes count i ≡ false → (owner bytes i < count) × (i ≤ first_page bytes (owner bytes i) i)
  taken h = go (nat_lt (owner bytes i) count) refl h
    where
      go :
          (t : Bool) → nat_lt (owner bytes i) count ≡ t → cond t (nat_lt (first_page bytes (owner bytes i) i) i) true ≡ false
          → (owner bytes i < count) × (i ≤ first_page bytes (owner bytes i) i)
      go true e h = (ltb-true (owner bytes i) count e, ltb-false (first_page bytes (owner bytes i) i) i h)
      go false e h = absurd (true≢false h)

  pub freed : free bytes count i ≡ true → owner bytes i < count → first_page bytes (owner bytes i) i < i
  freed h l =
      ltb-true (first_page bytes (owner bytes i) i) i
      (sym (cond-true (nat_lt (owner bytes i) count) (nat_lt (first_page bytes (owner bytes i) i) i) true (lt-ltb (owner bytes i) count l)) ∙ h)

round_in : (n i : ℕ) → i < n + n → round n i < n
round_in n i h = cond_both (nat_lt i n) i (i - n) (λ k. k < n) (λ l. ltb-true i n l) (λ l. let m = ltb-false i n l in omega arith)

module _ (s : CardModel) (room : (s.count + 1) * 516 ≤ length s.bytes) (hand : s.hand < pages s.bytes) where
  test : ℕ → Bool
  test k = free s.bytes s.count (round (pages s.bytes) (s.hand + k))

  -- some page is free, since the card has more pages than blocks
  crowded : ((i : ℕ) → i < pages s.bytes → free s.bytes s.count i ≡ false) → ⊥
  crowded none =
      pigeons s.count (pages s.bytes) (owner s.bytes)
      (omega arith)
      (λ i l. (taken s.bytes s.count i (none i l)).0)
      (λ i j l m e.
      let t = (taken s.bytes s.count j (none j m)).1 in
      eqb-false (owner s.bytes i) (owner s.bytes j)
      (first_least (λ k. nat_eq (owner s.bytes k) (owner s.bytes j)) 0 j i (omega arith) (omega arith)) e)

  found : first_from test 0 (pages s.bytes) < pages s.bytes
  unfolding test
  found =
      ⊎_elim
      (λ (l : q < m). l)
      (λ (l : m ≤ q).
      absurd
      (crowded
      (λ i h.
      ⊎_elim
      (λ (a : i < s.hand).
      let k = (i + m) - s.hand in
      let e : round m (s.hand + k) ≡ i = cond-false (nat_lt (s.hand + k) m) (s.hand + k) ((s.hand + k) - m) (le-ltb (s.hand + k) m (omega arith)) ∙ (let z : (s.hand + k) - m ≡ i = omega arith in z) in
      ap (free s.bytes s.count) (sym e) ∙ first_least test 0 m k (omega arith) (omega arith))
      (λ (a : s.hand ≤ i).
      let k = i - s.hand in
      let e : round m (s.hand + k) ≡ i = cond-true (nat_lt (s.hand + k) m) (s.hand + k) ((s.hand + k) - m) (lt-ltb (s.hand + k) m (omega arith)) ∙ (let z : s.hand + k ≡ i = omega arith in z) in
      ap (free s.bytes s.count) (sym e) ∙ first_least test 0 m k (omega arith) (omega arith))
      (cases_lt i s.hand))))
      (cases_lt q m)
    where
      m : ℕ
      m = pages s.bytes

      q : ℕ
      q = first_from test 0 m

  pub free_in : free_page s < pages s.bytes
  unfolding test
  free_in = let l = found in round_in (pages s.bytes) (s.hand + first_from test 0 (pages s.bytes)) (omega arith)

  pub free_free : free s.bytes s.count (free_page s) ≡ true
  unfolding test
  free_free = first_passes test 0 (pages s.bytes) (let l = found in omega arith)

  pub skipped_in : skipped s < pages s.bytes
  unfolding test
  skipped_in = found

length_zeros : length zeros ≡ 512
unfolding zeros
length_zeros = length-replicate {A = ℕ} 512 0

content_sized : (bytes : List ℕ) (b : ℕ) → length (shown bytes b) ≡ 512
unfolding page_content
content_sized bytes b =
    let i = first_page bytes b (pages bytes) in
    cond_both (nat_lt i (pages bytes)) (page_content bytes i) zeros (λ x. length x ≡ 512)
    (λ l. let h = ltb-true i (pages bytes) l in length_part bytes (i * 516 + 4) 512 (omega arith))
    (λ _. length_zeros)

-- what the first of n pages shows
shown_at : List ℕ → ℕ → ℕ → Content
shown_at bytes n i = cond (nat_lt i n) (page_content bytes i) zeros

-- what block b shows, by its first page
module _ (bytes : List ℕ) (b n i : ℕ) (all : n ≡ pages bytes) (first : i ≡ first_page bytes b n) where
  shows : shown_at bytes n i ≡ shown bytes b
  unfolding shown_at
  shows = ap (shown_at bytes n) first ∙ ap (λ m. shown_at bytes m (first_page bytes b m)) all

  pub shown_page : i < n → page_content bytes i ≡ shown bytes b
  unfolding shown_at
  shown_page l = sym (cond-true (nat_lt i n) (page_content bytes i) zeros (lt-ltb i n l)) ∙ shows

  pub shown_none : n ≤ i → zeros ≡ shown bytes b
  unfolding shown_at
  shown_none l = sym (cond-false (nat_lt i n) (page_content bytes i) zeros (le-ltb i n l)) ∙ shows

-- the free page, from the number of pages
pub free_page_is :
    (s : CardModel) (n k : ℕ) → n ≡ pages s.bytes
    → first_from (λ k. free s.bytes s.count (round n (s.hand + k))) 0 n ≡ k
    → round n (s.hand + k) ≡ free_page s
free_page_is s n k all found =
    ap (λ k. round n (s.hand + k)) (sym found)
    ∙ ap (λ n. round n (s.hand + first_from (λ k. free s.bytes s.count (round n (s.hand + k))) 0 n)) all

module _ (s : CardModel) (b : ℕ) (x : Content) (ok : CardGood s) (z : length x ≡ 512) where
  length_put : length (card_put s b x).bytes ≡ length s.bytes
  length_put = length_after s.bytes b (free_page s) x z (free_in s ok.fit.room ok.hand)

  same_pages : pages (card_put s b x).bytes ≡ pages s.bytes
  same_pages = ap (λ l. l / 516) length_put

  card_put_good : CardGood (card_put s b x)
  card_put_good =
      record {
        fit =
            record {
              some = ok.fit.some;
              few = ok.fit.few;
              granted = let g = ok.fit.granted in omega arith;
              room = rw length_put ok.fit.room;
            };
        hand = rw same_pages (round_in (pages s.bytes) (free_page s + 1) (let l = free_in s ok.fit.room ok.hand in omega arith));
      }

  shown_put : b < s.count → (k : ℕ) → k < s.count → shown (card_put s b x).bytes k ≡ cond (k == b) x (shown s.bytes k)
  unfolding shown_at
  shown_put h k l =
      ap (λ n. shown_at (card_put s b x).bytes n (first_page (card_put s b x).bytes k n)) same_pages
      ∙ ⊎_elim mine other (cases_eq k b)
    where
      p : ℕ
      p = free_page s

      n : ℕ
      n = pages s.bytes

      o : ℕ → ℕ
      o = owner s.bytes

      after : List ℕ
      after = (card_put s b x).bytes

      in_n : p < n
      in_n = free_in s ok.fit.room ok.hand

      few : s.count ≤ 4294967295
      few = let f = ok.fit.few in omega arith

      owns : owner after p ≡ b
      owns = owner_after s.bytes b p x z in_n (let f = ok.fit.few in omega arith)

      rest : (j : ℕ) → j < n → (j ≢ p) → owner after j ≡ cond (o j == b) nobody (o j)
      rest = others_after s.bytes b p x z in_n

      was_free : o p < s.count → first_page s.bytes (o p) p < p
      was_free = freed s.bytes s.count p (free_free s ok.fit.room ok.hand)

      mine : k ≡ b → shown_at after n (first_page after k n) ≡ cond (k == b) x (shown s.bytes k)
      mine e =
          ap (λ k. shown_at after n (first_page after k n)) e
          ∙ ap (shown_at after n) (first_own o (owner after) n p b s.count in_n h few owns rest was_free)
          ∙ cond-true (nat_lt p n) (page_content after p) zeros (lt-ltb p n in_n)
          ∙ content_after s.bytes b p x z in_n
          ∙ sym (cond-true (k == b) x (shown s.bytes k) (eq-eqb k b e))

      other : (k ≢ b) → shown_at after n (first_page after k n) ≡ cond (k == b) x (shown s.bytes k)
      other e =
          let f = first_page s.bytes k n in
          let same : shown_at after n f ≡ shown_at s.bytes n f =
          ⊎_elim
          (λ (a : f < n).
          ap (λ c. cond (nat_lt f n) c zeros)
          (contents_after s.bytes b p x z in_n f (first_aside o (owner after) n p b s.count in_n h few owns rest was_free k l e a)))
          (λ (a : n ≤ f).
          cond-false (nat_lt f n) (page_content after f) zeros (le-ltb f n a)
          ∙ sym (cond-false (nat_lt f n) (page_content s.bytes f) zeros (le-ltb f n a)))
          (cases_lt f n) in
          ap (shown_at after n) (first_other o (owner after) n p b s.count in_n h few owns rest was_free k l e)
          ∙ same
          ∙ sym (cond-false (k == b) x (shown s.bytes k) (ne_eqb k b e))

pub card_stores :
    (s : CardModel) (b : ℕ) (x : Content) → CardGood s → length x ≡ 512 → b < s.count → Stores card b x s (card_put s b x)
card_stores s b x ok z h = record { count = refl; grant = refl; shown = shown_put s b x ok z h }

pub card_keeps : Keeps (medium_steps card) (medium_meaning card) CardGood
card_keeps =
    medium_keeps card CardGood
    (record {
      some = λ s ok. ok.fit.some;
      few = λ s ok. ok.fit.few;
      granted = λ s ok. ok.fit.granted;
      sized = λ s b ok _. content_sized s.bytes b;
      stores = card_stores;
      put_good = λ s b x ok z _. card_put_good s b x ok z;
    })

pub card_put_pages :
    (s : CardModel) (b : ℕ) (x : Content) → CardGood s → length x ≡ 512 → b < s.count → PutPages b x s (card_put s b x)
unfolding test
card_put_pages s b x ok z h =
    let p = free_page s in
    let l = free_in s ok.fit.room ok.hand in
    record {
      inside = l;
      taken_free = free_free s ok.fit.room ok.hand;
      skipped_full = λ k m. first_least (test s ok.fit.room ok.hand) 0 (pages s.bytes) k (omega arith) m;
      taken_owner = owner_after s.bytes b p x z l (let f = ok.fit.few in omega arith);
      taken_content = content_after s.bytes b p x z l;
      other_owner = others_after s.bytes b p x z l;
      other_content = λ j _ n. contents_after s.bytes b p x z l j n;
      size = length_after s.bytes b p x z l;
      past = past_after s.bytes b p x z l;
      hand = refl;
      stores = card_stores s b x ok z h;
    }
