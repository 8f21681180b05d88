-- One page more is entered in the tables.
use Rattle.std.specs.Prelude.{◌≡◌, ℕ, ◌+◌, ◌<◌, ◌≤◌, Bool, true, false, cond, ◌⊎◌, List, length, replicate, ◌≢◌, nat_eq, nat_lt}
use Rattle.std.proofs.Common.{ap, sym, ◌∙◌, subst, inl, inr, get_or, set, arith, ⊎_elim}
use Rattle.std.proofs.lemmas.Bool.{true≢false, cond-true, cond-false, eq-eqb, ne_eqb, eqb-false, lt-ltb, le-ltb, cases_eq, cases_lt}
use Rattle.std.proofs.lemmas.List.{get_or-set_same, get_or-set_other, length-set, get_or-replicate, length-replicate}
use Rattle.flash_card.specs.Card.{pages, owner, first_from, first_page, free}
use Rattle.flash_card.specs.Search.{first_passes, first_least, first_is, first_none}
use Rattle.flash_card.specs.Tables.{Entered, Further, Unmarked}

-- the first place below i that passes the test, or n
module _ (test : ℕ → Bool) (n : ℕ) where
  abbrev pub entry : ℕ → ℕ
  entry i = cond (nat_lt (first_from test 0 i) i) (first_from test 0 i) n

  entry_here : (i : ℕ) → first_from test 0 i < i → entry i ≡ first_from test 0 i
  entry_here i h = cond-true (nat_lt (first_from test 0 i) i) (first_from test 0 i) n (lt-ltb (first_from test 0 i) i h)

  entry_none : (i : ℕ) → i ≤ first_from test 0 i → entry i ≡ n
  entry_none i h = cond-false (nat_lt (first_from test 0 i) i) (first_from test 0 i) n (le-ltb (first_from test 0 i) i h)

  pub entry_met : (i : ℕ) → i ≤ n → entry i < i → first_from test 0 i < i
  entry_met i h l =
      ⊎_elim (λ (a : first_from test 0 i < i). a) (λ (a : i ≤ first_from test 0 i). let e = entry_none i a in absurd (omega arith))
      (cases_lt (first_from test 0 i) i)

  pub entry_unmet : (i : ℕ) → i ≤ entry i → i ≤ first_from test 0 i
  entry_unmet i h =
      ⊎_elim (λ (a : first_from test 0 i < i). let e = entry_here i a in absurd (omega arith)) (λ (a : i ≤ first_from test 0 i). a)
      (cases_lt (first_from test 0 i) i)

  pub entry_new : (m : ℕ) → test m ≡ true → m ≤ first_from test 0 m → entry (m + 1) ≡ m
  entry_new m t h =
      let f : first_from test 0 (m + 1) ≡ m = first_is test (m + 1) m (omega arith) t (λ j l. first_least test 0 m j (omega arith) (omega arith)) in
      entry_here (m + 1) (omega arith) ∙ f

  pub entry_kept : (m : ℕ) → (test m ≡ false) ⊎ (first_from test 0 m < m) → entry (m + 1) ≡ entry m
  entry_kept m why =
      ⊎_elim
      (λ (h : first_from test 0 m < m).
      let f : first_from test 0 (m + 1) ≡ first_from test 0 m =
      first_is test (m + 1) (first_from test 0 m) (omega arith)
      (first_passes test 0 m (omega arith))
      (λ j l. first_least test 0 m j (omega arith) l) in
      entry_here (m + 1) (omega arith) ∙ f ∙ sym (entry_here m h))
      (λ (h : m ≤ first_from test 0 m).
      let t : test m ≡ false = ⊎_elim (λ (t : test m ≡ false). t) (λ (l : first_from test 0 m < m). absurd (omega arith)) why in
      let f : first_from test 0 (m + 1) ≡ m + 1 =
      first_none test (m + 1)
      (λ j l.
      ⊎_elim
      (λ (e : j ≡ m). ap test e ∙ t)
      (λ (e : j ≡ m → ⊥). first_least test 0 m j (omega arith) (omega arith))
      (cases_eq j m)) in
      entry_none (m + 1) (omega arith) ∙ sym (entry_none m h))
      (cases_lt (first_from test 0 m) m)

-- no page is entered
pub entered_none :
    (bytes : List ℕ) (count : ℕ) → Entered bytes 0 (replicate count (pages bytes)) (replicate count false) (replicate (pages bytes) false)
entered_none bytes count =
    let all : length (replicate count (pages bytes)) ≡ count = length-replicate count (pages bytes) in
    record {
      marks = length-replicate count false ∙ sym all;
      room = length-replicate (pages bytes) false;
      first = λ b l.
          get_or-replicate count b (pages bytes) 0 (omega arith)
          ∙ sym (entry_none (λ i. nat_eq (owner bytes i) b) (pages bytes) 0 (omega arith));
      single = λ b i l mark h e. absurd (omega arith);
      frees = λ i h. absurd (omega arith);
    }

pub further_none : (bytes : List ℕ) (count : ℕ) → Further bytes 0 (replicate count (pages bytes)) (replicate count false)
further_none bytes count b l mark =
    let n = length-replicate count (pages bytes) in
    absurd (true≢false (sym mark ∙ get_or-replicate count b false false (omega arith)))

-- page m, whose owner is block k, is the next one to be entered
module _ (bytes shown : List ℕ) (stale : List Bool) (m k : ℕ) (ok : Further bytes m shown stale) where
  pub further_first : m ≤ get_or shown k 0 → Further bytes (m + 1) (set shown k m) stale
  further_first unmet b l mark =
      let count = length-set shown k m in
      let w = ok b (omega arith) mark in
      ⊎_elim
      (λ (y : b ≡ k).
      let e : get_or shown b 0 ≡ get_or shown k 0 = ap (λ v. get_or shown v 0) y in
      let low = w.1 in
      let behind = w.3 in
      absurd (omega arith))
      (λ (y : b ≡ k → ⊥). (w.0, omega (arith, w.1), w.2, subst (λ v. v < w.0) (sym (get_or-set_other shown k b m 0 y)) w.3))
      (cases_eq b k)

  pub further_stale : owner bytes m ≡ k → get_or shown k 0 < m → Further bytes (m + 1) shown (set stale k true)
  further_stale own met b l mark =
      ⊎_elim
      (λ (y : b ≡ k). (m, omega arith, own ∙ sym y, subst (λ v. get_or shown v 0 < m) (sym y) met))
      (λ (y : b ≡ k → ⊥).
      let w = ok b l (sym (get_or-set_other stale k b true false y) ∙ mark) in
      (w.0, omega (arith, w.1), w.2, w.3))
      (cases_eq b k)

module _
    (bytes shown : List ℕ) (stale vacant : List Bool) (m k : ℕ) (ok : Entered bytes m shown stale vacant) (next : m < pages bytes)
    (own : owner bytes m ≡ k) where
  -- before page m every page of block b is one of those entered
  earlier : (b i : ℕ) → (b ≢ k) → i < m + 1 → owner bytes i ≡ b → i < m
  earlier b i ne h e =
      ⊎_elim (λ (y : i ≡ m). absurd (ne (sym e ∙ ap (owner bytes) y ∙ own))) (λ (y : i ≡ m → ⊥). omega arith) (cases_eq i m)

  first_kept :
      (b : ℕ) → b < length shown → (b ≢ k) ⊎ (first_page bytes b m < m)
      → get_or shown b 0 ≡ entry (λ i. nat_eq (owner bytes i) b) (pages bytes) (m + 1)
  first_kept b l why =
      ok.first b l
      ∙ sym (entry_kept (λ i. nat_eq (owner bytes i) b) (pages bytes) m
      (⊎_elim
      (λ (ne : b ≢ k). inl (ne_eqb (owner bytes m) b (λ (e : owner bytes m ≡ b). ne (sym e ∙ own))))
      (λ (f : first_page bytes b m < m). inr f) why))

  -- its owner is no block
  module _ (none : length shown ≤ k) where
    pub entered_free : Entered bytes (m + 1) shown stale (set vacant m true)
    entered_free =
        record {
          marks = ok.marks;
          room = length-set vacant m true ∙ ok.room;
          first = λ b l. first_kept b l (inl (λ (e : b ≡ k). omega arith));
          single = λ b i l mark h e. ok.single b i l mark (earlier b i (λ (e : b ≡ k). omega arith) h e) e;
          frees = λ i h.
              ⊎_elim
              (λ (y : i ≡ m).
              subst (λ v. get_or (set vacant m true) v false ≡ free bytes (length shown) v) (sym y)
              (get_or-set_same vacant m true false (let r = ok.room in omega arith)
              ∙ sym (cond-false (nat_lt (owner bytes m) (length shown)) (nat_lt (first_page bytes (owner bytes m) m) m) true
              (le-ltb (owner bytes m) (length shown) (omega arith)))))
              (λ (y : i ≡ m → ⊥). get_or-set_other vacant m i true false y ∙ ok.frees i (omega arith))
              (cases_eq i m);
        }

  -- its owner is block k
  module _ (small : k < length shown) where
    at_page : free bytes (length shown) m ≡ nat_lt (first_page bytes k m) m
    at_page =
        ap (λ v. cond (nat_lt v (length shown)) (nat_lt (first_page bytes v m) m) true) own
        ∙ cond-true (nat_lt k (length shown)) (nat_lt (first_page bytes k m) m) true (lt-ltb k (length shown) small)

    pub entered_first : m ≤ get_or shown k 0 → Unmarked m vacant → Entered bytes (m + 1) (set shown k m) stale vacant
    entered_first unmet later =
        let first : get_or shown k 0 ≡ entry (λ i. nat_eq (owner bytes i) k) (pages bytes) m = ok.first k small in
        let f : m ≤ first_page bytes k m = entry_unmet (λ i. nat_eq (owner bytes i) k) (pages bytes) m (omega arith) in
        let count : length (set shown k m) ≡ length shown = length-set shown k m in
        record {
          marks = ok.marks ∙ sym count;
          room = ok.room;
          first = λ b l.
              ⊎_elim
              (λ (y : b ≡ k).
              subst (λ v. get_or (set shown k m) v 0 ≡ entry (λ i. nat_eq (owner bytes i) v) (pages bytes) (m + 1)) (sym y)
              (get_or-set_same shown k m 0 small
              ∙ sym (entry_new (λ i. nat_eq (owner bytes i) k) (pages bytes) m (eq-eqb (owner bytes m) k own) f)))
              (λ (y : b ≡ k → ⊥). get_or-set_other shown k b m 0 y ∙ first_kept b (omega arith) (inl y))
              (cases_eq b k);
          single = λ b i l mark h e.
              ⊎_elim
              (λ (y : b ≡ k).
              ⊎_elim
              (λ (w : i < m).
              absurd (eqb-false (owner bytes i) k (first_least (λ i. nat_eq (owner bytes i) k) 0 m i (omega arith) (omega arith)) (e ∙ y)))
              (λ (w : m ≤ i).
              let here : i ≡ m = omega arith in
              here ∙ sym (get_or-set_same shown k m 0 small) ∙ ap (λ v. get_or (set shown k m) v 0) (sym y))
              (cases_lt i m))
              (λ (y : b ≡ k → ⊥). ok.single b i (omega arith) mark (earlier b i y h e) e ∙ sym (get_or-set_other shown k b m 0 y))
              (cases_eq b k);
          frees = λ i h.
              ⊎_elim
              (λ (y : i ≡ m).
              subst (λ v. get_or vacant v false ≡ free bytes (length shown) v) (sym y)
              (later m (omega arith) ∙ sym (at_page ∙ le-ltb (first_page bytes k m) m f)))
              (λ (y : i ≡ m → ⊥). ok.frees i (omega arith))
              (cases_eq i m)
              ∙ ap (λ n. free bytes n i) (sym count);
        }

    pub entered_stale :
        get_or shown k 0 < m → Entered bytes (m + 1) shown (set stale k true) (set vacant m true)
    entered_stale met =
        let first : get_or shown k 0 ≡ entry (λ i. nat_eq (owner bytes i) k) (pages bytes) m = ok.first k small in
        let f : first_page bytes k m < m = entry_met (λ i. nat_eq (owner bytes i) k) (pages bytes) m (omega arith) (omega arith) in
        record {
          marks = length-set stale k true ∙ ok.marks;
          room = length-set vacant m true ∙ ok.room;
          first = λ b l.
              ⊎_elim
              (λ (y : b ≡ k). first_kept b l (inr (subst (λ v. first_page bytes v m < m) (sym y) f)))
              (λ (y : b ≡ k → ⊥). first_kept b l (inl y))
              (cases_eq b k);
          single = λ b i l mark h e.
              ⊎_elim
              (λ (y : b ≡ k).
              absurd
              (true≢false
              (sym (get_or-set_same stale k true false (let r = ok.marks in omega arith))
              ∙ ap (λ v. get_or (set stale k true) v false) (sym y)
              ∙ mark)))
              (λ (y : b ≡ k → ⊥). ok.single b i l (sym (get_or-set_other stale k b true false y) ∙ mark) (earlier b i y h e) e)
              (cases_eq b k);
          frees = λ i h.
              ⊎_elim
              (λ (y : i ≡ m).
              subst (λ v. get_or (set vacant m true) v false ≡ free bytes (length shown) v) (sym y)
              (get_or-set_same vacant m true false (let r = ok.room in omega arith)
              ∙ sym (at_page ∙ lt-ltb (first_page bytes k m) m f)))
              (λ (y : i ≡ m → ⊥). get_or-set_other vacant m i true false y ∙ ok.frees i (omega arith))
              (cases_eq i m);
        }
