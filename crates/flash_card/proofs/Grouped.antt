-- The groups of 64 marks, as a mark is set or cleared, and as a search passes over groups.
use Rattle.std.proofs.Common.{◌≡◌, ◌≢◌, ℕ, ◌+◌, ◌*◌, ◌/◌, ◌<◌, ◌≤◌, min, Bool, true, false, List, length, get_or, set, sym, ap, ◌∙◌, subst, arith, ⊎_elim}
use Rattle.std.proofs.Math.Logic.{∥∥₁_map}
use Rattle.std.proofs.lemmas.Bool.{true≢false, false_from_ne_true, cases_eq, cases_lt}
use Rattle.std.proofs.lemmas.List.{get_or-set_same, get_or-set_other, get_or_past, length-set}
use Rattle.flash_card.specs.Tables.{Grouped, HasMark}

-- a mark that was cleared, also past the end
cleared : (xs : List Bool) (i : ℕ) → get_or (set xs i false) i false ≡ false
cleared xs i =
    ⊎_elim
    (λ (l : i < length xs). get_or-set_same xs i false false l)
    (λ (l : length xs ≤ i). get_or_past (set xs i false) i false (let e = length-set xs i false in omega arith))
    (cases_lt i (length xs))

module _ (marks groups : List Bool) (p : ℕ) (ok : Grouped marks groups) where
  -- a mark of another group stays as it was
  elsewhere : (mark : Bool) (i : ℕ) → (i / 64 ≢ p / 64) → get_or (set marks p mark) i false ≡ get_or marks i false
  elsewhere mark i y = get_or-set_other marks p i mark false (λ (o : i ≡ p). y (ap (λ v. v / 64) o))

  -- another group that had a mark has it still
  still_has : (mark : Bool) (g : ℕ) → (g ≢ p / 64) → HasMark marks g → HasMark (set marks p mark) g
  still_has mark g y m =
      record {
        place = m.place;
        inside = m.inside;
        marked = elsewhere mark m.place (λ (o : m.place / 64 ≡ p / 64). y (sym m.inside ∙ o)) ∙ m.marked;
      }

  pub grouped_set : p < length marks → Grouped (set marks p true) (set groups (p / 64) true)
  grouped_set here =
      record {
        enough = let a = length-set marks p true in let b = length-set groups (p / 64) true in let c = ok.enough in omega arith;
        covered = λ i h.
            ⊎_elim
            (λ (y : i / 64 ≡ p / 64).
            ap (λ k. get_or (set groups (p / 64) true) k false) y
            ∙ get_or-set_same groups (p / 64) true false (let c = ok.enough in omega arith))
            (λ (y : i / 64 ≡ p / 64 → ⊥).
            get_or-set_other groups (p / 64) (i / 64) true false y ∙ ok.covered i (sym (elsewhere true i y) ∙ h))
            (cases_eq (i / 64) (p / 64));
        needed = λ g h.
            ⊎_elim
            (λ (y : g ≡ p / 64). ∣ record { place = p; inside = sym y; marked = get_or-set_same marks p true false here } ∣₁)
            (λ (y : g ≡ p / 64 → ⊥). ∥∥₁_map (ok.needed g (sym (get_or-set_other groups (p / 64) g true false y) ∙ h)) (still_has true g y))
            (cases_eq g (p / 64));
      }

  -- some other mark of the group is set
  pub grouped_clear : HasMark (set marks p false) (p / 64) → Grouped (set marks p false) groups
  grouped_clear some =
      record {
        enough = let a = length-set marks p false in let c = ok.enough in omega arith;
        covered = λ i h.
            ⊎_elim
            (λ (y : i ≡ p). absurd (true≢false (sym h ∙ ap (λ k. get_or (set marks p false) k false) y ∙ cleared marks p)))
            (λ (y : i ≡ p → ⊥). ok.covered i (sym (get_or-set_other marks p i false false y) ∙ h))
            (cases_eq i p);
        needed = λ g h.
            ⊎_elim
            (λ (y : g ≡ p / 64). ∣ subst (HasMark (set marks p false)) (sym y) some ∣₁)
            (λ (y : g ≡ p / 64 → ⊥). ∥∥₁_map (ok.needed g h) (still_has false g y))
            (cases_eq g (p / 64));
      }

  -- no mark of the group is set
  pub grouped_empty :
      ((k : ℕ) → k / 64 ≡ p / 64 → get_or (set marks p false) k false ≡ false) → Grouped (set marks p false) (set groups (p / 64) false)
  grouped_empty none =
      record {
        enough = let a = length-set marks p false in let b = length-set groups (p / 64) false in let c = ok.enough in omega arith;
        covered = λ i h.
            ⊎_elim
            (λ (y : i / 64 ≡ p / 64). absurd (true≢false (sym h ∙ none i y)))
            (λ (y : i / 64 ≡ p / 64 → ⊥).
            get_or-set_other groups (p / 64) (i / 64) false false y ∙ ok.covered i (sym (elsewhere false i y) ∙ h))
            (cases_eq (i / 64) (p / 64));
        needed = λ g h.
            ⊎_elim
            (λ (y : g ≡ p / 64).
            absurd (true≢false (sym h ∙ ap (λ k. get_or (set groups (p / 64) false) k false) y ∙ cleared groups (p / 64))))
            (λ (y : g ≡ p / 64 → ⊥). ∥∥₁_map (ok.needed g (sym (get_or-set_other groups (p / 64) g false false y) ∙ h)) (still_has false g y))
            (cases_eq g (p / 64));
      }

-- A search went from place p to the end of its group, and over the groups before group m.
pub passed :
    (marks groups : List Bool) (p e m : ℕ) → Grouped marks groups
    → ((k : ℕ) → p ≤ k → k < min e (p / 64 * 64 + 64) → get_or marks k false ≡ false)
    → ((j : ℕ) → p / 64 + 1 ≤ j → j < m → get_or groups j false ≡ false)
    → (k : ℕ) → p ≤ k → k < e → k < m * 64 → get_or marks k false ≡ false
passed marks groups p e m ok near far k a b c =
    ⊎_elim
    (λ (l : k < p / 64 * 64 + 64). near k a (omega arith))
    (λ (l : p / 64 * 64 + 64 ≤ k).
    false_from_ne_true (get_or marks k false)
    (λ (t : get_or marks k false ≡ true). true≢false (sym (ok.covered k t) ∙ far (k / 64) (omega arith) (omega arith))))
    (cases_lt k (p / 64 * 64 + 64))
