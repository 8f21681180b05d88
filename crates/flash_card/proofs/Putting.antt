-- The tables after a put.
use Rattle.std.specs.Prelude.{◌≡◌, ℕ, ◌+◌, ◌-◌, ◌*◌, ◌/◌, ◌<◌, ◌≤◌, Bool, true, false, cond, List, length, ◌==◌, ◌≢◌, nat_eq, nat_lt, refl}
use Rattle.std.proofs.Common.{sym, ap, ◌∙◌, subst, get_or, set, arith, ⊎_elim}
use Rattle.std.proofs.lemmas.Bool.{cond-true, cond-false, cond_both, eq-eqb, ne_eqb, eqb-true, eqb-false, lt-ltb, le-ltb, ltb-false, cases_eq, cases_lt}
use Rattle.std.proofs.lemmas.List.{get_or-set_same, get_or-set_other, length-set}
use Rattle.store.specs.Bytes.{placed}
use Rattle.store.specs.Steps.{Content}
use Rattle.flash_card.specs.Card.{CardModel, pages, owner, nobody, first_from, first_page, free, round, free_page, disown_first, write_page, card_put}
use Rattle.flash_card.specs.CardKeeps.{given_up, kept, not_mine, alike, first_own, first_other, freed}
use Rattle.flash_card.specs.PageWrites.{length_owned, length_stored, owner_elsewhere, owner_stored, length_after, owner_after, others_after}
use Rattle.flash_card.specs.Search.{first_within, first_passes, first_least, first_is, first_none}
use Rattle.flash_card.specs.Tables.{Entered}

-- tests that agree on the places below n find the same first one
pub first_alike :
    (test test' : ℕ → Bool) (n : ℕ) → ((j : ℕ) → j < n → test' j ≡ test j) → first_from test' 0 n ≡ first_from test 0 n
first_alike test test' n same =
    ⊎_elim
    (λ (h : q < n).
    first_is test' n q h
    (same q h ∙ first_passes test 0 n (omega arith))
    (λ j l. same j (omega arith) ∙ first_least test 0 n j (omega arith) l))
    (λ (h : n ≤ q).
    first_none test' n (λ j l. same j l ∙ first_least test 0 n j (omega arith) (omega arith))
    ∙ (let w = (first_within test 0 n).1 in let e : n ≡ q = omega arith in e))
    (cases_lt q n)
  where
    q : ℕ
    q = first_from test 0 n

-- the first page that a block has among the first m, when page p, which was free, is block b's
module _
    (o o' : ℕ → ℕ) (n p b count : ℕ) (here : p < n) (small : b < count) (few : count ≤ 4294967295) (own : o' p ≡ b)
    (others : (j : ℕ) → j < n → (j ≢ p) → o' j ≡ cond (o j == b) nobody (o j))
    (was_free : o p < count → first_from (λ j. nat_eq (o j) (o p)) 0 p < p) where
  pub first_prefix :
      (k m : ℕ) → k < count → (k ≢ b) → m ≤ n → first_from (λ i. nat_eq (o' i) k) 0 m ≡ first_from (λ i. nat_eq (o i) k) 0 m
  first_prefix k m s ne l =
      ⊎_elim
      (λ (h : p < m). first_other o o' m p b count h small few own (λ j a. others j (omega arith)) was_free k s ne)
      (λ (h : m ≤ p).
      first_alike (λ i. nat_eq (o i) k) (λ i. nat_eq (o' i) k) m
      (λ j a. alike o o' n p b count here small few own others was_free k j s ne (omega arith) (omega arith)))
      (cases_lt p m)

clamped : (n f : ℕ) → f ≤ n → cond (nat_lt f n) f n ≡ f
clamped n f h = cond_both (nat_lt f n) f n (λ v. v ≡ f) (λ _. refl) (λ e. let l = ltb-false f n e in omega arith)

-- with all pages entered the table gives the first page itself
pub first_shown :
    (bytes shown : List ℕ) (stale vacant : List Bool) (k : ℕ) → Entered bytes (pages bytes) shown stale vacant
    → k < length shown → get_or shown k 0 ≡ first_page bytes k (pages bytes)
first_shown bytes shown stale vacant k ok l =
    let w = (first_within (λ i. nat_eq (owner bytes i) k) 0 (pages bytes)).1 in
    ok.first k l ∙ clamped (pages bytes) (first_page bytes k (pages bytes)) (omega arith)

-- block b was put with content x, and page p, the free one, was taken
module _
    (bytes shown : List ℕ) (stale vacant vacant' : List Bool) (b p : ℕ) (x : Content)
    (ok : Entered bytes (pages bytes) shown stale vacant) (small : b < length shown) (few : length shown ≤ 4294967295)
    (z : length x ≡ 512) (here : p < pages bytes) (was_free : free bytes (length shown) p ≡ true)
    (size : length vacant' ≡ pages bytes) (taken : get_or vacant' p false ≡ false)
    (rest : (j : ℕ) → j < pages bytes → (j ≢ p) → get_or vacant' j false ≡ cond (owner bytes j == b) true (get_or vacant j false)) where
  abbrev after : List ℕ
  after = disown_first (write_page bytes p b x) b p (pages bytes)

  same : pages after ≡ pages bytes
  same = ap (λ l. l / 516) (length_after bytes b p x z here)

  owns : owner after p ≡ b
  owns = owner_after bytes b p x z here (omega arith)

  others : (j : ℕ) → j < pages bytes → (j ≢ p) → owner after j ≡ cond (owner bytes j == b) nobody (owner bytes j)
  others = others_after bytes b p x z here

  behind : owner bytes p < length shown → first_page bytes (owner bytes p) p < p
  behind = freed bytes (length shown) p was_free

  alone : (j : ℕ) → j < pages bytes → owner after j ≡ b → j ≡ p
  alone j l e =
      ⊎_elim
      (λ (y : j ≡ p). y)
      (λ (y : j ≡ p → ⊥).
      absurd (not_mine (owner bytes) (owner after) (pages bytes) p b (length shown) here small few owns others behind j l y e))
      (cases_eq j p)

  pages_before : (k m : ℕ) → k < length shown → (k ≢ b) → m ≤ pages bytes → first_page after k m ≡ first_page bytes k m
  pages_before = first_prefix (owner bytes) (owner after) (pages bytes) p b (length shown) here small few owns others behind

  first_after : (k : ℕ) → k < length shown → get_or (set shown b p) k 0 ≡ first_page after k (pages bytes)
  first_after k l =
      ⊎_elim
      (λ (e : k ≡ b).
      subst (λ v. get_or (set shown b p) v 0 ≡ first_page after v (pages bytes)) (sym e)
      (get_or-set_same shown b p 0 small
      ∙ sym (first_own (owner bytes) (owner after) (pages bytes) p b (length shown) here small few owns others behind)))
      (λ (e : k ≡ b → ⊥).
      get_or-set_other shown b k p 0 e
      ∙ first_shown bytes shown stale vacant k ok l
      ∙ sym (pages_before k (pages bytes) l e (omega arith)))
      (cases_eq k b)

  single_after :
      (k i : ℕ) → k < length shown → get_or (set stale b false) k false ≡ false → i < pages bytes → owner after i ≡ k
      → i ≡ get_or (set shown b p) k 0
  single_after k i l mark h e =
      ⊎_elim
      (λ (y : k ≡ b).
      alone i h (e ∙ y) ∙ sym (get_or-set_same shown b p 0 small) ∙ ap (λ v. get_or (set shown b p) v 0) (sym y))
      (λ (y : k ≡ b → ⊥).
      let aside : i ≡ p → ⊥ = λ (w : i ≡ p). y (sym e ∙ ap (owner after) w ∙ owns) in
      ok.single k i l (sym (get_or-set_other stale b k false false y) ∙ mark) h (was k i l y h aside e)
      ∙ sym (get_or-set_other shown b k p 0 y))
      (cases_eq k b)
    where
      was : (k i : ℕ) → k < length shown → (k ≢ b) → i < pages bytes → (i ≢ p) → owner after i ≡ k → owner bytes i ≡ k
      was k i l ne h aside e =
          ⊎_elim
          (λ (y : owner bytes i ≡ b).
          let g = given_up (owner bytes) (owner after) (pages bytes) p b (length shown) here small few owns others behind i h aside y in
          absurd (omega arith))
          (λ (y : owner bytes i ≡ b → ⊥).
          sym (kept (owner bytes) (owner after) (pages bytes) p b (length shown) here small few owns others behind i h aside y) ∙ e)
          (cases_eq (owner bytes i) b)

  frees_after : (i : ℕ) → i < pages bytes → get_or vacant' i false ≡ free after (length shown) i
  frees_after i h =
      ⊎_elim
      (λ (y : i ≡ p). subst (λ v. get_or vacant' v false ≡ free after (length shown) v) (sym y) (taken ∙ sym full))
      (λ (y : i ≡ p → ⊥).
      rest i h y
      ∙ ⊎_elim
      (λ (w : owner bytes i ≡ b). cond-true (owner bytes i == b) true (get_or vacant i false) (eq-eqb (owner bytes i) b w) ∙ sym (spare i h y w))
      (λ (w : owner bytes i ≡ b → ⊥).
      cond-false (owner bytes i == b) true (get_or vacant i false) (ne_eqb (owner bytes i) b w) ∙ ok.frees i h ∙ sym (like i h y w))
      (cases_eq (owner bytes i) b))
      (cases_eq i p)
    where
      full : free after (length shown) p ≡ false
      full =
          let f : first_page after b p ≡ p =
          first_none (λ i. nat_eq (owner after i) b) p (λ j l. ne_eqb (owner after j) b (λ (e : owner after j ≡ b). let q = alone j (omega arith) e in omega arith)) in
          ap (λ v. cond (nat_lt v (length shown)) (nat_lt (first_page after v p) p) true) owns
          ∙ cond-true (nat_lt b (length shown)) (nat_lt (first_page after b p) p) true (lt-ltb b (length shown) small)
          ∙ le-ltb (first_page after b p) p (omega arith)

      spare : (i : ℕ) → i < pages bytes → (i ≢ p) → owner bytes i ≡ b → free after (length shown) i ≡ true
      spare i h y w =
          let g = given_up (owner bytes) (owner after) (pages bytes) p b (length shown) here small few owns others behind i h y w in
          cond-false (nat_lt (owner after i) (length shown)) (nat_lt (first_page after (owner after i) i) i) true
          (le-ltb (owner after i) (length shown) (omega arith))

      like : (i : ℕ) → i < pages bytes → (i ≢ p) → (owner bytes i ≢ b) → free after (length shown) i ≡ free bytes (length shown) i
      like i h y w =
          ap (λ v. cond (nat_lt v (length shown)) (nat_lt (first_page after v i) i) true)
          (kept (owner bytes) (owner after) (pages bytes) p b (length shown) here small few owns others behind i h y w)
          ∙ ⊎_elim
          (λ (l : owner bytes i < length shown).
          ap (λ f. cond (nat_lt (owner bytes i) (length shown)) (nat_lt f i) true) (pages_before (owner bytes i) i l w (omega arith)))
          (λ (l : length shown ≤ owner bytes i).
          cond-false (nat_lt (owner bytes i) (length shown)) (nat_lt (first_page after (owner bytes i) i) i) true (le-ltb (owner bytes i) (length shown) l)
          ∙ sym (cond-false (nat_lt (owner bytes i) (length shown)) (nat_lt (first_page bytes (owner bytes i) i) i) true (le-ltb (owner bytes i) (length shown) l)))
          (cases_lt (owner bytes i) (length shown))

  pub put_entered : Entered after (pages after) (set shown b p) (set stale b false) vacant'
  put_entered =
      let count : length (set shown b p) ≡ length shown = length-set shown b p in
      let all : pages after ≡ pages bytes = same in
      record {
        marks = length-set stale b false ∙ ok.marks ∙ sym count;
        room = size ∙ sym same;
        first = λ k l.
            subst (λ m. get_or (set shown b p) k 0 ≡ cond (nat_lt (first_page after k m) m) (first_page after k m) m) (sym same)
            (let w = (first_within (λ i. nat_eq (owner after i) k) 0 (pages bytes)).1 in
            first_after k (omega arith) ∙ sym (clamped (pages bytes) (first_page after k (pages bytes)) (omega arith)));
        single = λ k i l mark h e. single_after k i (omega arith) mark (omega arith) e;
        frees = λ i h. frees_after i (omega arith) ∙ ap (λ n. free after n i) (sym count);
      }

-- page p was written for block b
module _
    (bytes : List ℕ) (b p : ℕ) (x : Content) (z : length x ≡ 512) (here : p < pages bytes) (xs : List ℕ) (written : xs ≡ write_page bytes p b x) where
  stored : List ℕ
  stored = placed bytes (p * 516 + 4) x

  length_s : length stored ≡ length bytes
  unfolding stored
  length_s = length_stored bytes p here x z

  in_s : p < pages stored
  in_s = let l = length_s in omega arith

  length_written : length xs ≡ length bytes
  unfolding stored
  length_written = ap length written ∙ length_owned stored p in_s b ∙ length_s

  owner_written : (j : ℕ) → (j ≢ p) → owner xs j ≡ owner bytes j
  unfolding stored
  owner_written j m =
      ap (λ v. owner v j) written ∙ owner_elsewhere stored p in_s b j m ∙ owner_stored bytes p here x z j

  pub put_bytes :
      (ys : List ℕ) → ys ≡ disown_first xs b p (pages xs) → ys ≡ disown_first (write_page bytes p b x) b p (pages bytes)
  put_bytes ys others =
      others
      ∙ ap (λ n. disown_first xs b p (n / 516)) length_written
      ∙ ap (λ v. disown_first v b p (pages bytes)) written

  -- and was free before
  module _
      (shown : List ℕ) (stale vacant : List Bool) (ok : Entered bytes (pages bytes) shown stale vacant) (small : b < length shown)
      (few : length shown ≤ 4294967295) (was_free : free bytes (length shown) p ≡ true) where
    f : ℕ
    f = first_page bytes b (pages bytes)

    aside : f < pages bytes → f ≢ p
    unfolding f
    aside l e =
        let own : owner bytes p ≡ b = ap (owner bytes) (sym e) ∙ eqb-true (owner bytes f) b (first_passes (λ i. nat_eq (owner bytes i) b) 0 (pages bytes) (omega arith)) in
        let r = first_page bytes (owner bytes p) p in
        let low : r < p = freed bytes (length shown) p was_free (omega arith) in
        let same : owner bytes r ≡ owner bytes p = eqb-true (owner bytes r) (owner bytes p) (first_passes (λ i. nat_eq (owner bytes i) (owner bytes p)) 0 p (omega arith)) in
        eqb-false (owner bytes r) b (first_least (λ i. nat_eq (owner bytes i) b) 0 (pages bytes) r (omega arith) (omega arith)) (same ∙ own)

    -- the page that the block showed is not page p
    pub first_written : get_or shown b 0 < pages xs → (get_or shown b 0 ≢ p) × (owner xs (get_or shown b 0) ≡ b)
    unfolding f
    first_written l =
        let e : get_or shown b 0 ≡ f = first_shown bytes shown stale vacant b ok small in
        let all = length_written in
        let m : f ≢ p = aside (omega arith) in (
          λ (o : get_or shown b 0 ≡ p). m (sym e ∙ o),
          ap (owner xs) e ∙ owner_written f m
              ∙ eqb-true (owner bytes f) b (first_passes (λ i. nat_eq (owner bytes i) b) 0 (pages bytes) (omega arith)),
        )

    pub single_written :
        get_or stale b false ≡ false → (j : ℕ) → j < pages xs → (j ≢ p) → owner xs j ≡ b → j ≡ get_or shown b 0
    single_written mark j l m e =
        let all = length_written in ok.single b j small mark (omega arith) (sym (owner_written j m) ∙ e)

    -- the tables once the block's other pages are given up and it has taken page p
    pub put_tables :
        (ys shown' : List ℕ) (stale' given vacant' : List Bool) → ys ≡ disown_first xs b p (pages xs)
        → shown' ≡ set shown b p → stale' ≡ set stale b false → vacant' ≡ set given p false → length given ≡ length vacant
        → ((j : ℕ) → j < pages xs → (j ≢ p) → get_or given j false ≡ cond (owner xs j == b) true (get_or vacant j false))
        → Entered ys (pages ys) shown' stale' vacant'
    put_tables ys shown' stale' given vacant' others shows clears takes room frees =
        let all = length_written in
        let whole = ok.room in
        let done : Entered (disown_first (write_page bytes p b x) b p (pages bytes)) (pages (disown_first (write_page bytes p b x) b p (pages bytes))) (set shown b p) (set stale b false) (set given p false) =
        put_entered bytes shown stale vacant (set given p false) b p x ok small few z here was_free
        (length-set given p false ∙ room ∙ ok.room)
        (get_or-set_same given p false false (omega arith))
        (λ j l m.
        get_or-set_other given p j false false m
        ∙ frees j (omega arith) m
        ∙ ap (λ o. cond (o == b) true (get_or vacant j false)) (owner_written j m)) in
        rw (put_bytes ys others, shows, clears, takes) done

-- the card once block b was put to its free page
pub put_model :
    (s : CardModel) (b : ℕ) (x : Content) (ys : List ℕ) (p hand : ℕ) → p ≡ free_page s
    → ys ≡ disown_first (write_page s.bytes p b x) b p (pages s.bytes)
    → hand ≡ round (pages s.bytes) (p + 1)
    → ◌≡◌ {A = CardModel} (record { bytes = ys; count = s.count; grant = s.grant - 1; hand = hand }) (card_put s b x)
put_model s b x ys p hand at bytes next =
    let build : List ℕ → ℕ → CardModel = λ v h. record { bytes = v; count = s.count; grant = s.grant - 1; hand = h } in
    ap (λ v. build v hand) bytes
    ∙ ap (build (disown_first (write_page s.bytes p b x) b p (pages s.bytes))) next
    ∙ ap (λ q. build (disown_first (write_page s.bytes q b x) b q (pages s.bytes)) (round (pages s.bytes) (q + 1))) at
