-- Giving up a block's pages where but one page, or none, is its.
use Rattle.std.specs.Prelude.{◌≡◌, ℕ, zero, suc, ◌+◌, ◌*◌, ◌<◌, ◌≤◌, Bool, true, false, cond, List, length, ◌==◌, ◌≢◌, refl}
use Rattle.std.proofs.Common.{ap, sym, ◌∙◌, subst, get_or, set, arith, ⊎_elim}
use Rattle.std.proofs.lemmas.Bool.{cond-true, cond-false, cond_both, eq-eqb, ne_eqb, cases_eq, cases_lt}
use Rattle.std.proofs.lemmas.List.{get_or-set_same, get_or-set_other, length-set}
use Rattle.store.specs.Bytes.{placed, to_be32}
use Rattle.flash_card.specs.Card.{pages, owner, nobody, disown, disown_first}
use Rattle.flash_card.specs.PageWrites.{owner_elsewhere, not_yet}
use Rattle.flash_card.specs.Tables.{GivenUp}

module _ (bytes : List ℕ) (b p : ℕ) where
  disown_passed : (xs : List ℕ) (i : ℕ) → ((i ≢ p) → owner xs i ≢ b) → disown xs b p i ≡ xs
  disown_passed xs i other =
      ⊎_elim
      (λ (e : i ≡ p). cond-true (i == p) xs (cond (owner xs i == b) (placed xs (i * 516) (to_be32 nobody)) xs) (eq-eqb i p e))
      (λ (e : i ≡ p → ⊥).
      cond-false (i == p) xs (cond (owner xs i == b) (placed xs (i * 516) (to_be32 nobody)) xs) (ne_eqb i p e)
      ∙ cond-false (owner xs i == b) (placed xs (i * 516) (to_be32 nobody)) xs (ne_eqb (owner xs i) b (other e)))
      (cases_eq i p)

  pub disown_none : (n : ℕ) → ((j : ℕ) → j < n → (j ≢ p) → owner bytes j ≢ b) → disown_first bytes b p n ≡ bytes
  unfolding disown_first
  disown_none zero none = refl
  disown_none (suc n) none =
      ap (λ xs. disown xs b p n) (disown_none n (λ j l. none j (omega arith))) ∙ disown_passed bytes n (none n (omega arith))

  pub disown_one :
      (f n : ℕ) → (f ≢ p) → owner bytes f ≡ b → n ≤ pages bytes → f < n
      → ((j : ℕ) → j < n → (j ≢ p) → owner bytes j ≡ b → j ≡ f)
      → disown_first bytes b p n ≡ placed bytes (f * 516) (to_be32 nobody)
  unfolding disown_first
  disown_one f zero aside own h l alone = absurd (omega arith)
  disown_one f (suc n) aside own h l alone =
      ⊎_elim
      (λ (e : f < n).
      ap (λ xs. disown xs b p n) (disown_one f n aside own (omega arith) e (λ j a. alone j (omega arith)))
      ∙ disown_passed (placed bytes (f * 516) (to_be32 nobody)) n
      (λ m y.
      let a = alone n (omega arith) m (sym (owner_elsewhere bytes f (omega arith) nobody n (λ (o : n ≡ f). omega arith)) ∙ y) in
      omega arith))
      (λ (e : n ≤ f).
      let here : n ≡ f = omega arith in
      ap (λ xs. disown xs b p n)
      (disown_none n (λ j a m y. let w = alone j (omega arith) m y in omega arith))
      ∙ cond-false (n == p) bytes (cond (owner bytes n == b) (placed bytes (n * 516) (to_be32 nobody)) bytes)
      (ne_eqb n p (λ (o : n ≡ p). aside (sym here ∙ o)))
      ∙ cond-true (owner bytes n == b) (placed bytes (n * 516) (to_be32 nobody)) bytes (eq-eqb (owner bytes n) b (ap (owner bytes) here ∙ own))
      ∙ ap (λ i. placed bytes (i * 516) (to_be32 nobody)) here)
      (cases_lt f n)

-- which pages are free then
module _ (bytes : List ℕ) (vacant : List Bool) (b p : ℕ) where
  pub frees_none :
      (n : ℕ) → ((j : ℕ) → j < n → (j ≢ p) → owner bytes j ≢ b)
      → (j : ℕ) → j < n → (j ≢ p) → get_or vacant j false ≡ cond (owner bytes j == b) true (get_or vacant j false)
  frees_none n none j l m = sym (cond-false (owner bytes j == b) true (get_or vacant j false) (ne_eqb (owner bytes j) b (none j l m)))

  pub frees_one :
      (f n : ℕ) → (f ≢ p) → owner bytes f ≡ b → f < length vacant
      → ((j : ℕ) → j < n → (j ≢ p) → owner bytes j ≡ b → j ≡ f)
      → (j : ℕ) → j < n → (j ≢ p) → get_or (set vacant f true) j false ≡ cond (owner bytes j == b) true (get_or vacant j false)
  frees_one f n aside own h alone j l m =
      ⊎_elim
      (λ (e : owner bytes j ≡ b).
      ap (λ i. get_or (set vacant f true) i false) (alone j l m e)
      ∙ get_or-set_same vacant f true false h
      ∙ sym (cond-true (owner bytes j == b) true (get_or vacant j false) (eq-eqb (owner bytes j) b e)))
      (λ (e : owner bytes j ≡ b → ⊥).
      get_or-set_other vacant f j true false (λ (o : j ≡ f). e (ap (owner bytes) o ∙ own))
      ∙ sym (cond-false (owner bytes j == b) true (get_or vacant j false) (ne_eqb (owner bytes j) b e)))
      (cases_eq (owner bytes j) b)

pub given_up_none : (bytes : List ℕ) (b p : ℕ) (vacant : List Bool) → GivenUp bytes bytes b p 0 vacant vacant
unfolding disown_first
given_up_none bytes b p vacant = record { items = refl; room = refl; below = λ j l m. absurd (omega arith); above = λ j l. refl }

module _
    (bytes xs : List ℕ) (b p n : ℕ) (vacant marks : List Bool) (ok : GivenUp bytes xs b p n vacant marks) (h : n < pages bytes)
    (room : n < length vacant) where
  abbrev marks' : List Bool
  marks' = cond (n == p) marks (cond (owner xs n == b) (set marks n true) marks)

  both : (P : List Bool → Type 0) → P marks → P (set marks n true) → P marks'
  both P same marked =
      cond_both (n == p) marks (cond (owner xs n == b) (set marks n true) marks) P
      (λ _. same)
      (λ _. cond_both (owner xs n == b) (set marks n true) marks P (λ _. marked) (λ _. same))

  elsewhere : (j : ℕ) → (j ≢ n) → get_or marks' j false ≡ get_or marks j false
  elsewhere j ne = both (λ v. get_or v j false ≡ get_or marks j false) refl (get_or-set_other marks n j true false ne)

  here : (n ≢ p) → get_or marks' n false ≡ cond (owner bytes n == b) true (get_or vacant n false)
  here m =
      ap (λ v. get_or v n false) (cond-false (n == p) marks (cond (owner xs n == b) (set marks n true) marks) (ne_eqb n p m))
      ∙ ap (λ o. get_or (cond (o == b) (set marks n true) marks) n false)
      (ap (λ v. owner v n) ok.items ∙ not_yet bytes b p n (omega arith) n (omega arith))
      ∙ elim (owner bytes n == b) as (λ t. get_or (cond t (set marks n true) marks) n false ≡ cond t true (get_or vacant n false))
      [ true ↦ get_or-set_same marks n true false (let r = ok.room in omega arith) | false ↦ ok.above n (omega arith) ]

  pub given_up_more : GivenUp bytes (disown xs b p n) b p (n + 1) vacant marks'
  unfolding disown_first
  given_up_more =
      let one : n + 1 ≡ suc n = omega arith in
      record {
        items = ap (λ v. disown v b p n) ok.items ∙ sym (ap (disown_first bytes b p) one);
        room = both (λ v. length v ≡ length vacant) ok.room (length-set marks n true ∙ ok.room);
        below = λ j l m.
            ⊎_elim
            (λ (e : j ≡ n).
            subst (λ i. get_or marks' i false ≡ cond (owner bytes i == b) true (get_or vacant i false)) (sym e)
            (here (λ (o : n ≡ p). m (e ∙ o))))
            (λ (e : j ≡ n → ⊥). elsewhere j e ∙ ok.below j (omega arith) m)
            (cases_eq j n);
        above = λ j l. elsewhere j (λ (e : j ≡ n). omega arith) ∙ ok.above j (omega arith);
      }
