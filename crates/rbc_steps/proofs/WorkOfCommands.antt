-- What each command does to the store is its work, and moves the store so.
use Rattle.std.proofs.Common.{◌≡◌, ℕ, zero, suc, ◌+◌, ◌*◌, ◌<◌, ◌≤◌, Bool, true, false, not, ◌&&◌, ◌||◌, leb, List, [], ◌∷◌, length, get_or, drop, Some, None, Ok, Err, Option, sym, refl, ap, ◌∙◌, subst, arith}
use mathlib.Core.Path.{fun_ext}
use Rattle.std.proofs.lemmas.Bool.{leb-true, eqb-true}
use Rattle.std.proofs.lemmas.List.{length-take, length-drop}
use Rattle.std.specs.Simd.{first_chunks}
use Rattle.store.specs.Steps.{Content, Steps, Stepped, stepped, next, Answer as Outcome}
use Rattle.store.specs.Sequence.{in_turn}
use Rattle.store.specs.Meaning.{Meaning, Line, contents, followed, Same}
use Rattle.store.specs.Keeps.{Keeps, Moves}
use Rattle.store.proofs.Guards.{same_refl}
use Rattle.commands.specs.Order.{Order, test_unit_ready, inquiry, mode_select, reserve, release, mode_sense, start_stop, prevent_allow, read_capacity, read, write, verify, synchronize_cache}
use Rattle.commands.specs.Requirements.{in_range, supplied}
use Rattle.logical_unit.specs.declared.LogicalUnit.{LogicalUnit}
use Rattle.logical_unit.specs.declared.Settings.{Settings}
use Rattle.logical_unit.specs.ModePage.{selected}
use Rattle.logical_unit.specs.State.{started, settings_changed, flushes_first}
use Rattle.transfer.specs.Transfer.{buffered, put_forced, read_blocks, write_blocks, verify_block, verify_blocks}
use Rattle.rbc_steps.specs.Module.{ModuleModel, joined, Exchange, exchange, on_store, then_unit, returning, flushed_if, run_select, run}
use Rattle.rbc_steps.specs.Writes.{Rows, piece}
use Rattle.rbc_steps.specs.Work.{Work, no_work, one_flush, flush_if, writing, verifying, sets_wcd, work}
use Rattle.rbc_steps.specs.Limits.{Moved}
use Rattle.rbc_steps.proofs.Growth.{grown_none, length_chunked, chunk}
use Rattle.rbc_steps.proofs.Lines.{Picked, only, kept}
use Rattle.rbc_steps.proofs.Stores.{Tracked, Live, reads_run}
use Rattle.rbc_steps.proofs.Turns.{returned_unit}
use Rattle.rbc_steps.proofs.Works.{upto, followed_none, moved_none, Reached, reached, reaches}
use Rattle.rbc_steps.proofs.WorkTurns.{marked_none, write_turn, verify_turn, flush_turn, write_moves, verify_moves}

picked_all : (x : Content) (xs : List Content) → Picked 0 (x ∷ xs) (x ∷ xs)
picked_all x [] = only
picked_all x (y ∷ ys) = kept (picked_all y ys)

unit_left : {M : Type 0} (r : Stepped (Unit {0}) (ModuleModel M)) (f : LogicalUnit → LogicalUnit) → (then_unit r f).after.store ≡ r.after.store
unit_left r f = go r.answer
  where
    go : (o : Outcome (Unit {0})) → (then_unit (stepped o r.after) f).after.store ≡ r.after.store
    go (Ok u) = refl
    go (Err e) = refl

store_left : {M : Type 0} (k : ℕ) (d : List ℕ) (r : Stepped (Unit {0}) (ModuleModel M)) → (returning k d r).after.target.store ≡ r.after.store
store_left {M} k d r = ap (λ (y : Exchange M). y.target.store) (returned_unit k d r)

module _ {M : Type 0} (steps : Steps M) (meaning : M → Meaning) (good : M → Type 0) (K : Keeps steps meaning good) where
  pub unmoved : (w : Work) (s s' : M) → (0 < (meaning s').grant → w.turns ≡ 0) → ((b : ℕ) → w.written 0 b ≡ []) → ((b : ℕ) → w.clean 0 b ≡ false) → good s' → Same (meaning s) (meaning s') → Moved (meaning s) w (meaning s')
  unmoved w s s' none unwritten unclean g same = moved_none w none unwritten unclean (λ b z h. (K.sound s' g).off z b h) same

  pub stands : (s : M) → good s → Moved (meaning s) no_work (meaning s)
  stands s g = unmoved no_work s s (λ _. refl) (λ b. refl) (λ b. refl) g (same_refl (meaning s))

  module _ (s : M) (g : good s) (on : 0 < (meaning s).grant) where
    begins : (w : Work) → ((b : ℕ) → w.written 0 b ≡ []) → ((b : ℕ) → w.clean 0 b ≡ false) → Reached meaning good w 0 (meaning s) (stepped (Ok tt) s)
    begins w unwritten unclean =
        record {
          safe = g;
          moved = unmoved (upto 0 w) s s (λ _. refl) unwritten unclean g (same_refl (meaning s));
          on = λ _ _. on;
          lost = λ e p. let z : ◌≡◌ {A = ℕ} 0 1 = cc in absurd (omega arith);
        }

    nothing_after : (meaning s).line ≡ (λ b. followed ((meaning s).line b) [])
    nothing_after = fun_ext (λ b. sym (followed_none ((meaning s).line b)))

    pub flush_reaches : Reached meaning good one_flush 1 (meaning s) (steps.flush s)
    flush_reaches =
        reached meaning good flush_turn s (steps.flush s) (begins one_flush (λ b. refl) (λ b. refl)).moved on
        (K.flush_good s g, subst (λ (line : ℕ → Line). Moves (meaning s) line 0 (λ b. Unit {0}) (steps.flush s).answer (meaning (steps.flush s).after)) nothing_after ((K.flushes s g).on on))

    verifies_reach : (a n k : ℕ) → a + k ≤ (meaning s).count → Reached meaning good (verifying a n) k (meaning s) (verify_blocks steps a k s)
    verifies_reach a n zero h = begins (verifying a n) (λ b. refl) (marked_none true a)
    verifies_reach a n (suc k) h =
        reaches meaning good (verify_turn a n k) (verify_blocks steps a k s) (verify_block steps (a + k)) (verifies_reach a n k (omega arith))
        (λ g' on' same.
        let s' = (verify_blocks steps a k s).after in
        let v = verify_moves steps meaning good K s' (a + k) g' (omega (arith, same)) on' in
        (v.0, subst (λ (line : ℕ → Line). Moves (meaning s') line 0 (λ b. b ≡ a + k) (verify_block steps (a + k) s').answer (meaning (verify_block steps (a + k) s').after)) (fun_ext (λ b. sym (followed_none ((meaning s').line b)))) v.1))

    -- blocks xs, which are those of the bytes
    writes_reach :
        (v : Bool) (a n : ℕ) (bytes : List ℕ) (xs : List Content) (k : ℕ) → ((i : ℕ) → i < k → get_or xs i [] ≡ piece bytes i) → a + k ≤ (meaning s).count → 512 * k ≤ length bytes
        → Reached meaning good (writing v a n bytes) k (meaning s) (in_turn k (λ i. put_forced steps v (a + i) (get_or xs i [])) s)
    writes_reach v a n bytes xs zero same h i = begins (writing v a n bytes) (λ b. sym (grown_none (λ _. []) a bytes b)) (marked_none v a)
    writes_reach v a n bytes xs (suc k) same h i =
        let x = piece bytes k in
        let before = in_turn k (λ i. put_forced steps v (a + i) (get_or xs i [])) s in
        let e : length x ≡ 512 = length-take 512 (drop (512 * k) bytes) ∙ omega (arith, length-drop (512 * k) bytes) in
        subst (λ (y : Content). Reached meaning good (writing v a n bytes) (suc k) (meaning s) (next before (λ _ s'. put_forced steps v (a + k) y s'))) (sym (same k (omega arith)))
        (reaches meaning good (write_turn v a n k bytes) before (put_forced steps v (a + k) x) (writes_reach v a n bytes xs k (λ i h. same i (omega arith)) (omega arith) (omega arith))
        (λ g' on' c. write_moves steps meaning good K before.after v (a + k) x g' (omega (arith, c)) on' e))

  module _ (w : ModuleModel M) where
    abbrev m : Meaning
    m = meaning w.store

    -- each line is its own row
    abbrev pub own : Rows
    own b = contents (m.line b)

    pub itself : Tracked m.count own m
    itself = record { number = λ b. 0; tracks = λ b h. record { stands = refl; picked = λ _. picked_all (m.line b).first (m.line b).later } }

    module _ (l : Live meaning good m.count w.store) (h : ℕ) (d : List ℕ) where
      abbrev after : Order → Exchange M
      after o = (run steps h o (exchange w d)).after

      abbrev Goes : Work → M → Type 0
      Goes v s = Moved m v (meaning s)

      flushes : (v : Bool) → Goes (flush_if v) (flushed_if steps v w).after.store
      flushes true = (flush_reaches w.store l.safe l.on).moved
      flushes false = stands w.store l.safe

      selects : (p : Option Settings) → Goes (flush_if (sets_wcd w.unit p)) (run_select steps h p w).after.store
      selects None = stands w.store l.safe
      selects (Some p) =
          let v = p.wcd && not w.unit.settings.wcd in
          subst (Goes (flush_if v)) (sym (unit_left (flushed_if steps v w) (settings_changed h p))) (flushes v)

      writes : (v : Bool) (a n : ℕ) (bytes : List ℕ) → a + n ≤ m.count → length bytes ≡ 512 * n → Goes (writing v a n bytes) (write_blocks steps v a (first_chunks 512 n bytes) w.store).after
      writes v a n bytes i e =
          subst (λ (j : ℕ). Goes (writing v a n bytes) (in_turn j (λ i. put_forced steps v (a + i) (get_or (first_chunks 512 n bytes) i [])) w.store).after)
          (sym (length_chunked n bytes))
          (writes_reach w.store l.safe l.on v a n bytes (first_chunks 512 n bytes) n (λ j. chunk n j bytes) i (omega (arith, e))).moved

      in_count : (a n : ℕ) → leb (a + n) (steps.count w.store) ≡ true → a + n ≤ m.count
      in_count a n i = omega (arith, leb-true (a + n) (steps.count w.store) i, K.counts w.store l.safe)

      pub goes : (o : Order) → in_range (steps.count w.store) o ≡ true → supplied o ≡ true → Goes (work w.unit o) (after o).target.store
      goes test_unit_ready i g = stands w.store l.safe
      goes (inquiry v p a) i g = stands w.store l.safe
      goes (mode_select n list) i g =
          subst (Goes (work w.unit (mode_select n list))) (sym (store_left 0 d (run_select steps h (selected list) w))) (selects (selected list))
      goes reserve i g = stands w.store l.safe
      goes release i g = stands w.store l.safe
      goes (mode_sense c p a) i g = stands w.store l.safe
      goes (start_stop p s e) i g =
          let v = flushes_first p s in
          subst (Goes (flush_if v)) (sym (store_left 0 d (then_unit (flushed_if steps v w) (started p s e)) ∙ unit_left (flushed_if steps v w) (started p s e))) (flushes v)
      goes (prevent_allow p) i g = stands w.store l.safe
      goes read_capacity i g = stands w.store l.safe
      goes (read r a n) i g =
          let r = read_blocks steps a n (buffered w.store d) in
          let v = reads_run steps meaning good K m.count own w.store itself a l n d (in_count a n i) in
          subst (Goes no_work) (sym (store_left (512 * n) r.after.data_in (stepped r.answer (joined r.after.store w.unit))))
          (unmoved no_work w.store r.after.store (λ _. refl) (λ b. refl) (λ b. refl) v.runs.safe v.same)
      goes (write r f a n bytes) i g =
          let v = f || w.unit.settings.wcd in
          subst (Goes (writing v a n bytes)) (sym (store_left 0 d (on_store (write_blocks steps v a (first_chunks 512 n bytes) w.store) w.unit)))
          (writes v a n bytes (in_count a n i) (eqb-true (length bytes) (512 * n) g))
      goes (verify r a n) i g =
          subst (Goes (verifying a n)) (sym (store_left 0 d (on_store (verify_blocks steps a n w.store) w.unit)))
          (verifies_reach w.store l.safe l.on a n n (in_count a n i)).moved
      goes synchronize_cache i g = subst (Goes one_flush) (sym (store_left 0 d (flushed_if steps true w))) (flushes true)
