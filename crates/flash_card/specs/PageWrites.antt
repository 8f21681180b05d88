-- The pages of a card, and what a write to one leaves of the others. A proof of the card's law, which is taken from specs/.
use Rattle.std.specs.Prelude.{◌≡◌, ℕ, zero, suc, ◌+◌, ◌*◌, ◌<◌, ◌≤◌, true, false, cond, List, length, drop, ◌==◌, ◌≢◌}
use Rattle.std.proofs.Math.Path.{refl, ap, subst}
use Rattle.std.proofs.Common.{sym, ◌∙◌, arith, lit<}
use Rattle.std.proofs.Math.Logic.{inl, inr, ⊎_elim}
use Rattle.std.proofs.lemmas.Bool.{cond-true, cond-false, cond_both, eq-eqb, ne_eqb, cases_eq, cases_lt}
use Rattle.store.specs.Steps.{Content}
use Rattle.store.specs.Bytes.{placed, from_be32, to_be32}
use Rattle.flash_card.specs.Card.{pages, owner, page_content, nobody, disown, disown_first, write_page}
use Rattle.store.proofs.Bytes.{from_to_be32, part_here, part_elsewhere, length_placed, drop_behind}

module _ (bytes : List ℕ) (i : ℕ) (h : i < pages bytes) where
  page_fits : i * 516 + 516 ≤ length bytes
  page_fits = omega arith

  module _ (b : ℕ) where
    fits : i * 516 + 4 ≤ length bytes
    fits = let p = page_fits in omega arith

    pub length_owned : length (placed bytes (i * 516) (to_be32 b)) ≡ length bytes
    length_owned = length_placed bytes (to_be32 b) (i * 516) fits

    pub owner_here : b < 4294967296 → owner (placed bytes (i * 516) (to_be32 b)) i ≡ b
    unfolding owner
    owner_here l = ap from_be32 (part_here bytes (to_be32 b) (i * 516) fits 4 refl) ∙ from_to_be32 b l

    pub owner_elsewhere : (j : ℕ) → (j ≢ i) → owner (placed bytes (i * 516) (to_be32 b)) j ≡ owner bytes j
    unfolding owner
    owner_elsewhere j n =
        ap from_be32
        (part_elsewhere bytes (to_be32 b) (i * 516) fits (j * 516) 4
        (⊎_elim (λ (l : j < i). inl (omega arith)) (λ (l : i ≤ j). inr (omega arith)) (cases_lt j i)))

    pub past_owned : (a : ℕ) → i * 516 + 516 ≤ a → drop a (placed bytes (i * 516) (to_be32 b)) ≡ drop a bytes
    past_owned a l = drop_behind bytes (to_be32 b) (i * 516) fits a (omega arith)

    pub content_owned : (j : ℕ) → page_content (placed bytes (i * 516) (to_be32 b)) j ≡ page_content bytes j
    unfolding page_content
    content_owned j =
        part_elsewhere bytes (to_be32 b) (i * 516) fits (j * 516 + 4) 512
        (⊎_elim (λ (l : j < i). inl (omega arith)) (λ (l : i ≤ j). inr (omega arith)) (cases_lt j i))

  module _ (x : Content) (z : length x ≡ 512) where
    room : i * 516 + 4 + length x ≤ length bytes
    room = let p = page_fits in omega arith

    pub length_stored : length (placed bytes (i * 516 + 4) x) ≡ length bytes
    length_stored = length_placed bytes x (i * 516 + 4) room

    pub content_here : page_content (placed bytes (i * 516 + 4) x) i ≡ x
    unfolding page_content
    content_here = part_here bytes x (i * 516 + 4) room 512 (sym z)

    pub content_elsewhere : (j : ℕ) → (j ≢ i) → page_content (placed bytes (i * 516 + 4) x) j ≡ page_content bytes j
    unfolding page_content
    content_elsewhere j n =
        part_elsewhere bytes x (i * 516 + 4) room (j * 516 + 4) 512
        (⊎_elim (λ (l : j < i). inl (omega arith)) (λ (l : i ≤ j). inr (omega arith)) (cases_lt j i))

    pub past_stored : (a : ℕ) → i * 516 + 516 ≤ a → drop a (placed bytes (i * 516 + 4) x) ≡ drop a bytes
    past_stored a l = drop_behind bytes x (i * 516 + 4) room a (omega arith)

    pub owner_stored : (j : ℕ) → owner (placed bytes (i * 516 + 4) x) j ≡ owner bytes j
    unfolding owner
    owner_stored j =
        ap from_be32
        (part_elsewhere bytes x (i * 516 + 4) room (j * 516) 4
        (⊎_elim (λ (l : i < j). inr (omega arith)) (λ (l : j ≤ i). inl (omega arith)) (cases_lt i j)))

-- one page given to nobody, if block b owns it and it is not page p
module _ (bytes : List ℕ) (b p i : ℕ) (h : i < pages bytes) where
  -- what holds of the bytes, and of them with the page given up, holds after
  disown_both : (P : List ℕ → Type 0) → P bytes → P (placed bytes (i * 516) (to_be32 nobody)) → P (disown bytes b p i)
  disown_both P same given =
      cond_both (i == p) bytes (cond (owner bytes i == b) (placed bytes (i * 516) (to_be32 nobody)) bytes) P
      (λ _. same)
      (λ _. cond_both (owner bytes i == b) (placed bytes (i * 516) (to_be32 nobody)) bytes P (λ _. given) (λ _. same))

  length_disown : length (disown bytes b p i) ≡ length bytes
  length_disown = disown_both (λ xs. length xs ≡ length bytes) refl (length_owned bytes i h nobody)

  disown_elsewhere : (j : ℕ) → (j ≢ i) → owner (disown bytes b p i) j ≡ owner bytes j
  disown_elsewhere j n = disown_both (λ xs. owner xs j ≡ owner bytes j) refl (owner_elsewhere bytes i h nobody j n)

  disown_content : (j : ℕ) → page_content (disown bytes b p i) j ≡ page_content bytes j
  disown_content j = disown_both (λ xs. page_content xs j ≡ page_content bytes j) refl (content_owned bytes i h nobody j)

  disown_past : (a : ℕ) → i * 516 + 516 ≤ a → drop a (disown bytes b p i) ≡ drop a bytes
  disown_past a l = disown_both (λ xs. drop a xs ≡ drop a bytes) refl (past_owned bytes i h nobody a l)

  disown_kept : i ≡ p → owner (disown bytes b p i) i ≡ owner bytes i
  disown_kept e =
      ap (λ xs. owner xs i)
      (cond-true (i == p) bytes (cond (owner bytes i == b) (placed bytes (i * 516) (to_be32 nobody)) bytes) (eq-eqb i p e))

  disown_here : (i ≢ p) → owner (disown bytes b p i) i ≡ cond (owner bytes i == b) nobody (owner bytes i)
  disown_here n =
      ap (λ xs. owner xs i)
      (cond-false (i == p) bytes (cond (owner bytes i == b) (placed bytes (i * 516) (to_be32 nobody)) bytes) (ne_eqb i p n))
      ∙ elim (owner bytes i == b) as (λ t. owner (cond t (placed bytes (i * 516) (to_be32 nobody)) bytes) i ≡ cond t nobody (owner bytes i))
      [ true ↦ owner_here bytes i h nobody (lit< tt) | false ↦ refl ]

-- the first n pages, likewise
module _ (bytes : List ℕ) (b p : ℕ) where
  pub length_disowned : (n : ℕ) → n ≤ pages bytes → length (disown_first bytes b p n) ≡ length bytes
  unfolding disown_first
  length_disowned zero h = refl
  length_disowned (suc n) h =
      let l = length_disowned n (omega arith) in
      length_disown (disown_first bytes b p n) b p n (omega arith) ∙ l

  pub content_disowned : (n : ℕ) → n ≤ pages bytes → (j : ℕ) → page_content (disown_first bytes b p n) j ≡ page_content bytes j
  unfolding disown_first
  content_disowned zero h j = refl
  content_disowned (suc n) h j =
      let l = length_disowned n (omega arith) in
      disown_content (disown_first bytes b p n) b p n (omega arith) j ∙ content_disowned n (omega arith) j

  pub past_disowned : (n : ℕ) → n ≤ pages bytes → (a : ℕ) → n * 516 ≤ a → drop a (disown_first bytes b p n) ≡ drop a bytes
  unfolding disown_first
  past_disowned zero h a l = refl
  past_disowned (suc n) h a l =
      let d = length_disowned n (omega arith) in
      disown_past (disown_first bytes b p n) b p n (omega arith) a (omega arith) ∙ past_disowned n (omega arith) a (omega arith)

  pub not_yet : (n : ℕ) → n ≤ pages bytes → (j : ℕ) → n ≤ j → owner (disown_first bytes b p n) j ≡ owner bytes j
  unfolding disown_first
  not_yet zero h j l = refl
  not_yet (suc n) h j l =
      let d = length_disowned n (omega arith) in
      disown_elsewhere (disown_first bytes b p n) b p n (omega arith) j (omega arith) ∙ not_yet n (omega arith) j (omega arith)

  pub owner_kept : (n : ℕ) → n ≤ pages bytes → owner (disown_first bytes b p n) p ≡ owner bytes p
  unfolding disown_first
  owner_kept zero h = refl
  owner_kept (suc n) h =
      let d = length_disowned n (omega arith) in
      ⊎_elim
      (λ (e : n ≡ p).
      subst (λ q. owner (disown (disown_first bytes b p n) b p n) q ≡ owner bytes q) e
      (disown_kept (disown_first bytes b p n) b p n (omega arith) e ∙ not_yet n (omega arith) n (omega arith)))
      (λ (e : n ≡ p → ⊥).
      disown_elsewhere (disown_first bytes b p n) b p n (omega arith) p (λ (o : p ≡ n). e (sym o)) ∙ owner_kept n (omega arith))
      (cases_eq n p)

  pub owner_disowned :
      (n : ℕ) → n ≤ pages bytes → (j : ℕ) → j < n → (j ≢ p)
      → owner (disown_first bytes b p n) j ≡ cond (owner bytes j == b) nobody (owner bytes j)
  unfolding disown_first
  owner_disowned zero h j l m = absurd (omega arith)
  owner_disowned (suc n) h j l m =
      let d = length_disowned n (omega arith) in
      ⊎_elim
      (λ (e : j ≡ n).
      rw e
      (disown_here (disown_first bytes b p n) b p n (omega arith) (λ (o : n ≡ p). m (e ∙ o))
      ∙ ap (λ o. cond (o == b) nobody o) (not_yet n (omega arith) n (omega arith))))
      (λ (e : j ≡ n → ⊥).
      disown_elsewhere (disown_first bytes b p n) b p n (omega arith) j e ∙ owner_disowned n (omega arith) j (omega arith) m)
      (cases_eq j n)

-- the whole put: who owns each page then, and what it holds
module _ (bytes : List ℕ) (b p : ℕ) (x : Content) (z : length x ≡ 512) (h : p < pages bytes) where
  -- the bytes with the content, and then with the owner too
  c : List ℕ
  c = placed bytes (p * 516 + 4) x

  w : List ℕ
  w = placed c (p * 516) (to_be32 b)

  length_c : length c ≡ length bytes
  unfolding c
  length_c = length_stored bytes p h x z

  in_c : p < pages c
  in_c = let l = length_c in omega arith

  length_w : length w ≡ length bytes
  unfolding w
  length_w = length_owned c p in_c b ∙ length_c

  all : pages bytes ≤ pages w
  all = let l = length_w in omega arith

  pub length_after : length (disown_first (write_page bytes p b x) b p (pages bytes)) ≡ length bytes
  unfolding c w
  length_after = length_disowned w b p (pages bytes) all ∙ length_w

  pub owner_after : b < 4294967296 → owner (disown_first (write_page bytes p b x) b p (pages bytes)) p ≡ b
  unfolding c w
  owner_after small = owner_kept w b p (pages bytes) all ∙ owner_here c p in_c b small

  pub others_after :
      (j : ℕ) → j < pages bytes → (j ≢ p)
      → owner (disown_first (write_page bytes p b x) b p (pages bytes)) j ≡ cond (owner bytes j == b) nobody (owner bytes j)
  unfolding c w
  others_after j l n =
      owner_disowned w b p (pages bytes) all j l n
      ∙ ap (λ o. cond (o == b) nobody o) (owner_elsewhere c p in_c b j n ∙ owner_stored bytes p h x z j)

  pub content_after : page_content (disown_first (write_page bytes p b x) b p (pages bytes)) p ≡ x
  unfolding c w
  content_after = content_disowned w b p (pages bytes) all p ∙ content_owned c p in_c b p ∙ content_here bytes p h x z

  pub contents_after :
      (j : ℕ) → (j ≢ p) → page_content (disown_first (write_page bytes p b x) b p (pages bytes)) j ≡ page_content bytes j
  unfolding c w
  contents_after j n =
      content_disowned w b p (pages bytes) all j ∙ content_owned c p in_c b j ∙ content_elsewhere bytes p h x z j n

  -- the bytes past the last page
  pub past_after : drop (pages bytes * 516) (disown_first (write_page bytes p b x) b p (pages bytes)) ≡ drop (pages bytes * 516) bytes
  unfolding c w
  past_after =
      past_disowned w b p (pages bytes) all (pages bytes * 516) (omega arith)
      ∙ past_owned c p in_c b (pages bytes * 516) (omega arith)
      ∙ past_stored bytes p h x z (pages bytes * 516) (omega arith)
