-- The slots of a table: what is held once one of them is emptied or filled.
use Rattle.std.proofs.Common.{◌≡◌, ℕ, zero, suc, ◌+◌, ◌<◌, ◌≤◌, Bool, true, false, cond, eqb, ltb, ◌⊎◌, List, [], ◌∷◌, ◌++◌, length, get_or, set, filter, is_some, Some, None, Option, sym, refl, ap, ◌∙◌, subst, inl, inr, ⊎_elim, append-nil, arith, length-append, length-set}
use native.Mathlib.Numerals.{one-add}
use Rattle.std.proofs.lemmas.Bool.{cond-true, cond-false, cond_both, eq-eqb, ne_eqb, ltb-true, ltb-false, cases_eq, cases_Bool}
use Rattle.std.specs.List.{list_all}
use Rattle.store.specs.Steps.{Content}
use Rattle.cache.specs.declared.Entry.{Entry}
use Rattle.cache.specs.Entries.{waiting, sized}
use Rattle.slot_table.specs.Slots.{Slots, full, slot_of, empty_slot, place_for, Apart}
use Rattle.store.proofs.Lines.{thinned_refl, thinned_length}
use Rattle.cache.proofs.Over.{Leaves, SizedEntry, Joined, Struck, struck_left}
use Rattle.cache.proofs.Entries.{none_left, passes, every_head, every_tail, every_cons, fits, sized_entry}

abbrev pub found : Slots → ℕ → List Content
found slots = waiting (full slots)

abbrev pub Free : Option Entry → Type 0
Free None = Unit {0}
Free (Some e) = ⊥

-- a slot that can take a content for block b, of which xs are held: its own, or an empty one if it has none
abbrev pub Ready : List Content → ℕ → Option Entry → Type 0
Ready xs b None = xs ≡ []
Ready xs b (Some e) = e.block ≡ b

held_less : (e : Entry) (es : List Entry) (k : ℕ) → length (waiting es k) ≤ length (waiting (e ∷ es) k)
held_less e es k =
    elim (eqb k e.block) as (λ t. length (waiting es k) ≤ length (cond t (e.content ∷ waiting es k) (waiting es k)))
    [ true ↦ omega arith | false ↦ omega arith ]

held_own : (e : Entry) (es : List Entry) → waiting (e ∷ es) e.block ≡ e.content ∷ waiting es e.block
held_own e es = cond-true (eqb e.block e.block) (e.content ∷ waiting es e.block) (waiting es e.block) (eq-eqb e.block e.block refl)

apart_rest : (e : Entry) (slots : Slots) → Apart (Some e ∷ slots) → Apart slots
apart_rest e slots apart k = let h = held_less e (full slots) k in let a = apart k in omega arith

apart_own : (e : Entry) (slots : Slots) → Apart (Some e ∷ slots) → found slots e.block ≡ []
apart_own e slots apart =
    none_left (found slots e.block)
    (let a = apart e.block in let o = ap length (held_own e (full slots)) in omega arith)

-- behind an entry of another block, the contents leave in the same way
behind :
    (e : Entry) (slot : Option Entry) (extra extra' : ℕ → List Content) → extra e.block ≡ [] → Leaves extra slot extra'
    → Leaves (λ k. cond (eqb k e.block) (e.content ∷ extra k) (extra k)) slot (λ k. cond (eqb k e.block) (e.content ∷ extra' k) (extra' k))
behind e None extra extra' none same = λ k. rw (same k)
behind e (Some f) extra extra' none left = λ k.
    ⊎_elim
    (λ (o : k ≡ e.block).
    let z : eqb k f.block ≡ false =
    ⊎_elim
    (λ (t : eqb k f.block ≡ true).
    absurd
    (let a = ap length (left k) in
    let b = ap length (cond-true (eqb k f.block) (f.content ∷ extra' k) (extra' k) t) in
    let c = ap length (ap extra o ∙ none) in
    omega arith))
    (λ t. t)
    (cases_Bool (eqb k f.block)) in
    let s : extra k ≡ extra' k = left k ∙ cond-false (eqb k f.block) (f.content ∷ extra' k) (extra' k) z in
    rw (z, s))
    (λ (n : k ≡ e.block → ⊥). rw (ne_eqb k e.block n) (left k))
    (cases_eq k e.block)

pub emptied : (slots : Slots) (i : ℕ) → Apart slots → Leaves (found slots) (get_or slots i None) (found (set slots i None))
emptied [] i apart = λ k. refl
emptied (None ∷ slots) zero apart = λ k. refl
emptied (Some e ∷ slots) zero apart = λ k. refl
emptied (None ∷ slots) (suc i) apart = emptied slots i apart
emptied (Some e ∷ slots) (suc i) apart =
    behind e (get_or slots i None) (found slots) (found (set slots i None)) (apart_own e slots apart) (emptied slots i (apart_rest e slots apart))

pub filled :
    (slots : Slots) (i : ℕ) (e : Entry) → i < length slots → Free (get_or slots i None) → found slots e.block ≡ []
    → Joined (found slots) e.block e.content (found (set slots i (Some e)))
filled [] i e h free none k = absurd (omega arith)
filled (None ∷ slots) zero e h free none k =
    ⊎_elim
    (λ (o : k ≡ e.block).
    let z : found slots k ≡ [] = ap (found slots) o ∙ none in
    rw (eq-eqb k e.block o, z))
    (λ (n : k ≡ e.block → ⊥). rw (ne_eqb k e.block n, append-nil (found slots k)))
    (cases_eq k e.block)
filled (Some f ∷ slots) zero e h free none k = absurd free
filled (None ∷ slots) (suc i) e h free none k = filled slots i e (omega arith) free none k
filled (Some f ∷ slots) (suc i) e h free none k =
    let ih = filled slots i e (omega arith) free
    (none_left (found slots e.block) (let a = held_less f (full slots) e.block in let b = ap length none in omega arith)) k in
    rw ih
    (elim (eqb k f.block) as
    (λ t. cond t (f.content ∷ (found slots k ++ cond (eqb k e.block) (e.content ∷ []) [])) (found slots k ++ cond (eqb k e.block) (e.content ∷ []) [])
    ≡ cond t (f.content ∷ found slots k) (found slots k) ++ cond (eqb k e.block) (e.content ∷ []) [])
    [ true ↦ refl | false ↦ refl ])

pub free_emptied : (slots : Slots) (i : ℕ) → Free (get_or (set slots i None) i None)
free_emptied [] i = tt
free_emptied (slot ∷ slots) zero = tt
free_emptied (slot ∷ slots) (suc i) = free_emptied slots i

set_twice : (slots : Slots) (i : ℕ) (s t : Option Entry) → set (set slots i s) i t ≡ set slots i t
set_twice [] i s t = refl
set_twice (slot ∷ slots) zero s t = refl
set_twice (slot ∷ slots) (suc i) s t = ap (λ r. slot ∷ r) (set_twice slots i s t)

pub shorter : (extra : ℕ → List Content) (slot : Option Entry) (extra' : ℕ → List Content) → Leaves extra slot extra' → (k : ℕ) → length (extra' k) ≤ length (extra k)
shorter extra None extra' same k = let e = ap length (same k) in omega arith
shorter extra (Some e) extra' left k = thinned_length ((struck_left extra extra' e.block e.content left).thinned k)

pub apart_emptied : (slots : Slots) (i : ℕ) → Apart slots → Apart (set slots i None)
apart_emptied slots i apart k =
    let a = apart k in
    let b = shorter (found slots) (get_or slots i None) (found (set slots i None)) (emptied slots i apart) k in
    omega arith

-- once its slot is emptied, no content of block b is held
pub vacated : (b : ℕ) (slots slots' : Slots) (slot : Option Entry) → Apart slots → Leaves (found slots) slot (found slots') → Ready (found slots b) b slot → found slots' b ≡ []
vacated b slots slots' None apart same ready = sym (same b) ∙ ready
vacated b slots slots' (Some e) apart left own =
    none_left (found slots' b)
    (let a = apart b in
    let l = ap length (left b ∙ cond-true (eqb b e.block) (e.content ∷ found slots' b) (found slots' b) (eq-eqb b e.block (sym own))) in
    omega arith)

module _ (slots : Slots) (i : ℕ) (e : Entry) (h : i < length slots) (apart : Apart slots) (ready : Ready (found slots e.block) e.block (get_or slots i None)) where
  pub joined : Joined (found (set slots i None)) e.block e.content (found (set slots i (Some e)))
  joined =
      rw (← set_twice slots i None (Some e))
      (filled (set slots i None) i e (rw length-set h) (free_emptied slots i)
      (vacated e.block slots (set slots i None) (get_or slots i None) apart (emptied slots i apart) ready))

  pub apart_joined : Apart (set slots i (Some e))
  apart_joined k =
      ⊎_elim
      (λ (o : k ≡ e.block).
      rw (joined k, length-append, eq-eqb k e.block o)
      (let z : found (set slots i None) k ≡ [] =
      ap (found (set slots i None)) o
      ∙ vacated e.block slots (set slots i None) (get_or slots i None) apart (emptied slots i apart) ready in
      rw z (omega arith)))
      (λ (n : k ≡ e.block → ⊥).
      rw (joined k, length-append, ne_eqb k e.block n) (let a = apart_emptied slots i apart k in omega arith))
      (cases_eq k e.block)

  pub struck : Struck (found slots) e.block (found (set slots i None))
  struck = go (get_or slots i None) ready (emptied slots i apart)
    where
      go : (slot : Option Entry) → Ready (found slots e.block) e.block slot → Leaves (found slots) slot (found (set slots i None)) → Struck (found slots) e.block (found (set slots i None))
      go None _ same =
          record {
            thinned = λ k. rw (same k) (thinned_refl (found (set slots i None) k));
            elsewhere = λ k _. sym (same k);
          }
      go (Some f) own left = rw (← own) (struck_left (found slots) (found (set slots i None)) f.block f.content left)

behind_one : (slot : Option Entry) (slots : Slots) (n : ℕ) → get_or (slot ∷ slots) (1 + n) None ≡ get_or slots n None
behind_one slot slots n = ap (λ i. get_or (slot ∷ slots) i None) (one-add n)

-- where the search for block b ends
pub sought : (slots : Slots) (b : ℕ) → Ready (found slots b) b (get_or slots (slot_of slots b) None)
sought [] b = refl
sought (None ∷ slots) b = subst (Ready (found slots b) b) (sym (behind_one None slots (slot_of slots b))) (sought slots b)
sought (Some e ∷ slots) b =
    ⊎_elim
    (λ (o : b ≡ e.block). rw (eq-eqb b e.block o) (sym o))
    (λ (n : b ≡ e.block → ⊥).
    rw (ne_eqb b e.block n)
    (subst (Ready (found slots b) b) (sym (behind_one (Some e) slots (slot_of slots b))) (sought slots b)))
    (cases_eq b e.block)

missing : (slots : Slots) (b : ℕ) → length slots ≤ slot_of slots b → found slots b ≡ []
missing [] b h = refl
missing (None ∷ slots) b h = missing slots b (omega arith)
missing (Some e ∷ slots) b h =
    ⊎_elim
    (λ (o : b ≡ e.block). absurd (let z : slot_of (Some e ∷ slots) b ≡ 0 = rw (eq-eqb b e.block o) in omega arith))
    (λ (n : b ≡ e.block → ⊥).
    rw (ne_eqb b e.block n)
    (missing slots b (let z : slot_of (Some e ∷ slots) b ≡ 1 + slot_of slots b = rw (ne_eqb b e.block n) in omega arith)))
    (cases_eq b e.block)

ready_free : (slot : Option Entry) (xs : List Content) (b : ℕ) → Free slot → xs ≡ [] → Ready xs b slot
ready_free None xs b free none = none
ready_free (Some e) xs b free none = absurd free

empty_free : (slots : Slots) → Free (get_or slots (empty_slot slots) None)
empty_free [] = tt
empty_free (None ∷ slots) = tt
empty_free (Some e ∷ slots) = subst Free (sym (behind_one (Some e) slots (empty_slot slots))) (empty_free slots)

pub place_ready : (slots : Slots) (b : ℕ) → Ready (found slots b) b (get_or slots (place_for slots b) None)
place_ready slots b =
    cond_both (ltb (slot_of slots b) (length slots)) (slot_of slots b) (empty_slot slots) (λ i. Ready (found slots b) b (get_or slots i None))
    (λ _. sought slots b)
    (λ f. ready_free (get_or slots (empty_slot slots) None) (found slots b) b (empty_free slots) (missing slots b (ltb-false (slot_of slots b) (length slots) f)))

pub emptied_ready : (slots : Slots) (i b : ℕ) → Apart slots → found slots b ≡ [] → Ready (found (set slots i None) b) b (get_or (set slots i None) i None)
emptied_ready slots i b apart none =
    ready_free (get_or (set slots i None) i None) (found (set slots i None) b) b (free_emptied slots i)
    (none_left (found (set slots i None) b)
    (let a = shorter (found slots) (get_or slots i None) (found (set slots i None)) (emptied slots i apart) b in
    let c = ap length none in
    omega arith))

-- a full table has no empty slot, so that a block with no place is not held
pub placeless : (slots : Slots) (b : ℕ) → length slots ≤ place_for slots b → found slots b ≡ []
placeless slots b h = missing slots b (le (cases_Bool (ltb (slot_of slots b) (length slots))))
  where
    le : (ltb (slot_of slots b) (length slots) ≡ true) ⊎ (ltb (slot_of slots b) (length slots) ≡ false) → length slots ≤ slot_of slots b
    le (inl t) = absurd (let c = cond-true (ltb (slot_of slots b) (length slots)) (slot_of slots b) (empty_slot slots) t in let l = ltb-true (slot_of slots b) (length slots) t in omega arith)
    le (inr f) = ltb-false (slot_of slots b) (length slots) f

module _ (test : Entry → Bool) where
  pub every_at : (slots : Slots) (i : ℕ) → list_all test (full slots) ≡ true → passes test (get_or slots i None) ≡ true
  every_at [] i h = refl
  every_at (None ∷ slots) zero h = refl
  every_at (Some e ∷ slots) zero h = every_head test e (full slots) h
  every_at (None ∷ slots) (suc i) h = every_at slots i h
  every_at (Some e ∷ slots) (suc i) h = every_at slots i (every_tail test e (full slots) h)

  pub every_set : (slots : Slots) (i : ℕ) (slot : Option Entry) → list_all test (full slots) ≡ true → passes test slot ≡ true → list_all test (full (set slots i slot)) ≡ true
  every_set [] i slot h t = refl
  every_set (None ∷ slots) zero None h t = h
  every_set (None ∷ slots) zero (Some e) h t = every_cons test e (full slots) t h
  every_set (Some f ∷ slots) zero None h t = every_tail test f (full slots) h
  every_set (Some f ∷ slots) zero (Some e) h t = every_cons test e (full slots) t (every_tail test f (full slots) h)
  every_set (None ∷ slots) (suc i) slot h t = every_set slots i slot h t
  every_set (Some f ∷ slots) (suc i) slot h t =
      every_cons test f (full (set slots i slot)) (every_head test f (full slots) h) (every_set slots i slot (every_tail test f (full slots) h) t)

pub sized_at : (slots : Slots) (i : ℕ) → sized (full slots) ≡ true → SizedEntry (get_or slots i None)
sized_at slots i h = sized_entry (get_or slots i None) (every_at fits slots i h)

pub free_set : (slots : Slots) (i j : ℕ) → Free (get_or slots j None) → Free (get_or (set slots i None) j None)
free_set [] i j h = h
free_set (slot ∷ slots) zero zero h = tt
free_set (slot ∷ slots) zero (suc j) h = h
free_set (slot ∷ slots) (suc i) zero h = h
free_set (slot ∷ slots) (suc i) (suc j) h = free_set slots i j h

pub all_free : (slots : Slots) → ((j : ℕ) → j < length slots → Free (get_or slots j None)) → (k : ℕ) → found slots k ≡ []
all_free [] h k = refl
all_free (None ∷ slots) h k = all_free slots (λ j l. h (suc j) (omega arith)) k
all_free (Some e ∷ slots) h k = absurd (h 0 (omega arith))

-- the full slots are those with an entry
pub full_count : (slots : Slots) → length (filter is_some slots) ≡ length (full slots)
full_count [] = refl
full_count (None ∷ slots) = full_count slots
full_count (Some e ∷ slots) = ap suc (full_count slots)
