-- The table cache keeps a store's meaning over every store that does, and its slots hold only blocks below the count.
-- It stands in specs/ since the laws of an impl take their proofs from there.
use Rattle.std.specs.Prelude.{◌≡◌, ℕ, zero, suc, ◌<◌, ◌≤◌, false, ltb, ◌∷◌, length, set, Some, None, Ok, Option, ◌==◌, nat_lt, slice_index_or, slice_set, refl}
use Rattle.std.proofs.Common.{sym, ◌∙◌, ap, length-set}
use Rattle.std.proofs.Math.Logic.{⊎_elim}
use Rattle.std.specs.Option.{option_map}
use native.Mathlib.Omega.{arith}
use Rattle.std.proofs.lemmas.Bool.{cond_both, cond-true, eq-eqb, lt-ltb, ltb-true, ltb-false, cases_lt}
use Rattle.store.specs.Steps.{Steps, Stepped, stepped, next}
use Rattle.store.specs.Meaning.{Meaning, last_of, added}
use Rattle.store.specs.Keeps.{Keeps, Moves}
use Rattle.store.proofs.Moving.{next_ok}
use Rattle.cache.specs.declared.Entry.{Entry}
use Rattle.cache.specs.Kinds.{holding, BlocksWithin}
use Rattle.cache.specs.Preserves.{Preserves}
use Rattle.table_cache.specs.Table.{Table, TableModel, TableFits, TableGood, turned, with_slot, replaced, table_lookup, evict, evict_first, table_put, table_kind, table_steps, table_meaning}
use Rattle.slot_table.specs.Slots.{place_for, slot_of}
use Rattle.slot_table.proofs.Slots.{found, Free, Ready, emptied, apart_emptied, free_emptied, free_set, all_free, joined, apart_joined, struck, sought, place_ready, emptied_ready, placeless, vacated, every_set, sized_at}
use Rattle.cache.proofs.Entries.{fits, fits_from}
use Rattle.cache.proofs.Over.{Leaves}
use Rattle.cache.proofs.Working.{Newest, LeftBehind, CameIn, Evicts, Puts, Works, evicts_none, evicts_next, evicts_entry, puts_in, puts_next, works_keeps, works_preserve}

pub left_behind : (t : Table) (i : ℕ) → TableFits t → LeftBehind table_kind t (slice_index_or t.slots i None) (with_slot t i None)
left_behind t i ok =
    record {
      fits = record {
        eight = length-set t.slots i None ∙ ok.eight;
        apart = apart_emptied t.slots i ok.apart;
        sized = every_set fits t.slots i None ok.sized refl;
        hand = ok.hand;
      };
      entry = sized_at t.slots i ok.sized;
      leaves = emptied t.slots i ok.apart;
      within = λ count w. every_set (λ e. ltb e.block count) t.slots i None w refl;
    }

-- a content goes into a slot that is ready for it
pub came_in :
    (t : Table) (i hand : ℕ) (e : Entry) → TableFits t → hand < 8
    → i < length t.slots → Ready (found t.slots e.block) e.block (slice_index_or t.slots i None)
    → CameIn table_kind t e (record { slots = slice_set t.slots i (Some e); hand = hand })
came_in t i hand e ok h l ready =
    record {
      fits = λ z.
          record {
            eight = length-set t.slots i (Some e) ∙ ok.eight;
            apart = apart_joined t.slots i e l ok.apart ready;
            sized = every_set fits t.slots i (Some e) ok.sized (fits_from e z);
            hand = h;
          };
      kept = found (slice_set t.slots i None);
      struck = struck t.slots i e l ok.apart ready;
      joined = joined t.slots i e l ok.apart ready;
      within = λ count b w. every_set (λ e. ltb e.block count) t.slots i (Some e) w (lt-ltb e.block count b);
    }

newest_found : (t : Table) (b : ℕ) → TableFits t → Newest (found t.slots b) (table_lookup t b)
newest_found t b ok = go (slice_index_or t.slots i None) (emptied t.slots i ok.apart) (sought t.slots b)
  where
    i : ℕ
    i = slot_of t.slots b

    go :
        (slot : Option Entry) → Leaves (found t.slots) slot (found (slice_set t.slots i None)) → Ready (found t.slots b) b slot
        → Newest (found t.slots b) (option_map (λ (e : Entry). e.content) slot)
    go None leaves none = none
    go (Some e) leaves own = λ x.
        let none = vacated b t.slots (slice_set t.slots i None) (Some e) ok.apart leaves own in
        ap (last_of x)
        (leaves b
        ∙ cond-true (b == e.block) (e.content ∷ found (slice_set t.slots i None) b) (found (slice_set t.slots i None) b) (eq-eqb b e.block (sym own))
        ∙ ap (λ xs. e.content ∷ xs) none)

-- the slots before place i are empty
Emptied : ℕ → Table → Type 0
Emptied i t = (j : ℕ) → j < i → Free (slice_index_or t.slots j None)

emptied_more : (t : Table) (i : ℕ) → Emptied i t → Emptied (suc i) (with_slot t i None)
unfolding Emptied
emptied_more t i e j h =
    ⊎_elim
    (λ (l : j < i). free_set t.slots i j (e j l))
    (λ (l : i ≤ j). let o : j ≡ i = omega arith in rw o (free_emptied t.slots i))
    (cases_lt j i)

turned_in : (hand : ℕ) → turned hand < 8
turned_in hand = cond_both (nat_lt hand 7) (suc hand) 0 (λ n. n < 8) (λ l. let h = ltb-true hand 7 l in omega arith) (λ _. omega arith)

hand_in : (t : Table) → TableFits t → t.hand < length (slice_set t.slots t.hand None)
hand_in t ok = let l = length-set t.slots t.hand None in let e = ok.eight in let h = ok.hand in omega arith

hand_ready :
    (t : Table) (e : Entry) → TableFits t → nat_lt (place_for t.slots e.block) (length t.slots) ≡ false
    → let slots = set t.slots t.hand None in Ready (found slots e.block) e.block (slice_index_or slots t.hand None)
hand_ready t e ok f =
    emptied_ready t.slots t.hand e.block ok.apart
    (placeless t.slots e.block (ltb-false (place_for t.slots e.block) (length t.slots) f))

module _ {B : Type 0} (steps : Steps B) (meaning : B → Meaning) (good : B → Type 0) (K : Keeps steps meaning good) where
  evicts : (t : TableModel B) (i : ℕ) → TableGood good t → Evicts table_kind meaning good t (evict steps t i)
  evicts t i ok =
      evicts_entry table_kind meaning good steps K t (slice_index_or t.held.slots i None) (with_slot t.held i None) ok (left_behind t.held i ok.held)

  pub evict_good : (t : TableModel B) (i : ℕ) → TableGood good t → TableGood good (evict steps t i).after
  evict_good t i ok = (evicts t i ok).ends_good

  evicts_first : (n : ℕ) (t : TableModel B) → TableGood good t → Evicts table_kind meaning good t (evict_first steps n t)
  unfolding evict_first
  evicts_first zero t ok = evicts_none table_kind meaning good t ok
  evicts_first (suc n) t ok =
      let p = evicts_first n t ok in
      let c = evict_first steps n t in
      evicts_next table_kind meaning good t c (λ _ u. evict steps u n) p (evicts c.after n p.ends_good)

  pub evict_first_good : (n : ℕ) (t : TableModel B) → TableGood good t → TableGood good (evict_first steps n t).after
  evict_first_good n t ok = (evicts_first n t ok).ends_good

  evict_first_empties : (n : ℕ) (t : TableModel B) → (evict_first steps n t).answer ≡ Ok tt → Emptied n (evict_first steps n t).after.held
  unfolding evict_first Emptied
  evict_first_empties zero t ok = λ j h. absurd (omega arith)
  evict_first_empties (suc n) t ok =
      let c = evict_first steps n t in
      next_ok (λ u. Emptied (suc n) u.held) c (λ _ u. evict steps u n)
      (λ first _. emptied_more c.after.held n (evict_first_empties n t first))
      ok

  place_moves :
      (t : TableModel B) (i : ℕ) (e : Entry) → TableGood good t → 0 < (meaning t.below).grant → e.block < (meaning t.below).count
      → i < length t.held.slots → Ready (found t.held.slots e.block) e.block (slice_index_or t.held.slots i None)
      → let m = table_meaning meaning t in
      Moves m (added m.line e.block e.content) 1 (λ k. ⊥) (Ok tt) (table_meaning meaning (holding (with_slot t.held i (Some e)) t.below))
  place_moves t i e ok g h l ready =
      (puts_in table_kind meaning good t e (with_slot t.held i (Some e)) ok (came_in t.held i t.held.hand e ok.held ok.held.hand l ready)).moves h g

  place_good :
      (t : TableModel B) (i hand : ℕ) (e : Entry) → TableGood good t → length e.content ≡ 512 → hand < 8
      → i < length t.held.slots → Ready (found t.held.slots e.block) e.block (slice_index_or t.held.slots i None)
      → TableGood good (holding (record { slots = slice_set t.held.slots i (Some e); hand = hand }) t.below)
  place_good t i hand e ok z h l ready = record { below = ok.below; held = (came_in t.held i hand e ok.held h l ready).fits z }

  puts : (t : TableModel B) (e : Entry) → TableGood good t → Puts table_kind meaning good t e (table_put steps t e)
  puts t e ok =
      let i = place_for t.held.slots e.block in
      let c = evict steps t t.held.hand in
      let go : Unit {0} → TableModel B → Stepped (Unit {0}) (TableModel B) = λ _ u. stepped (Ok tt) (holding (replaced u.held e) u.below) in
      cond_both (nat_lt i (length t.held.slots))
      (stepped (Ok tt) (holding (with_slot t.held i (Some e)) t.below))
      (next c go)
      (Puts table_kind meaning good t e)
      (λ l.
      puts_in table_kind meaning good t e (with_slot t.held i (Some e)) ok
      (came_in t.held i t.held.hand e ok.held ok.held.hand (ltb-true i (length t.held.slots) l) (place_ready t.held.slots e.block)))
      (λ f.
      let p = evicts t t.held.hand ok in
      puts_next table_kind meaning good t c go p e
      (puts_in table_kind meaning good c.after e (replaced c.after.held e) p.ends_good
      (came_in c.after.held t.held.hand (turned t.held.hand) e p.ends_good.held (turned_in t.held.hand) (hand_in t.held ok.held) (hand_ready t.held e ok.held f))))

  table_put_moves :
      (t : TableModel B) (e : Entry) → TableGood good t → e.block < (meaning t.below).count → 0 < (meaning t.below).grant
      → let c = table_put steps t e in let m = table_meaning meaning t in
      Moves m (added m.line e.block e.content) 1 (λ k. ⊥) c.answer (table_meaning meaning c.after)
  table_put_moves t e ok h g = (puts t e ok).moves h g

  table_put_good : (t : TableModel B) (e : Entry) → TableGood good t → length e.content ≡ 512 → TableGood good (table_put steps t e).after
  table_put_good t e ok z = (puts t e ok).ends_good z

  works : Works table_kind meaning good steps K
  unfolding Emptied
  works =
      record {
        sized = λ t ok. ok.sized;
        newest = newest_found;
        puts = λ t e ok z. puts t e ok;
        evicts = λ t b ok. evicts t (slot_of t.held.slots b) ok;
        evicted = λ t b ok _.
            let i = slot_of t.held.slots b in
            vacated b t.held.slots (slice_set t.held.slots i None) (slice_index_or t.held.slots i None) ok.held.apart
            (emptied t.held.slots i ok.held.apart) (sought t.held.slots b);
        evicts_all = λ t ok. evicts_first 8 t ok;
        all_evicted = λ t ok w.
            let c = evict_first steps 8 t in
            all_free c.after.held.slots
            (λ j l. evict_first_empties 8 t w j (let e = (evicts_first 8 t ok).ends_good.held.eight in omega arith));
      }

  pub table_keeps : Keeps (table_steps steps) (table_meaning meaning) (TableGood good)
  table_keeps = works_keeps table_kind meaning good steps K works

  pub table_within : Preserves (table_steps steps) (TableGood good) (BlocksWithin table_kind meaning)
  table_within = works_preserve table_kind meaning good steps K works
