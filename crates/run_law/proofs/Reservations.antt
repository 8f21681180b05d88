-- The reservation's holder along the calls, and what it stops.
use Rattle.std.proofs.Common.{◌≡◌, ℕ, ◌*◌, Bool, true, false, cond, not, ◌&&◌, ◌||◌, eqb, List, [], ◌++◌, length, Some, None, Ok, Err, Option, Result, sym, refl, ap, ◌∙◌, subst, inl, inr}
use Rattle.std.proofs.lemmas.List.{append-nil}
use Rattle.std.proofs.lemmas.Bool.{eqb-true, both_ways}
use Rattle.store.specs.Steps.{Steps, Stepped, stepped, Answer as Outcome}
use Rattle.store.specs.Meaning.{Meaning}
use Rattle.sense.specs.declared.CommandError.{CommandError}
use Rattle.sense.specs.declared.CommandError.TheVariants.{PowerOff}
use Rattle.sense.specs.declared.Attention.TheVariants.{MediumChanged, ParametersChanged}
use Rattle.logical_unit.specs.declared.Settings.{Settings}
use Rattle.logical_unit.specs.declared.LogicalUnit.{LogicalUnit}
use Rattle.commands.specs.Order.{Order, test_unit_ready, inquiry, mode_select, reserve, release, mode_sense, start_stop, prevent_allow, read_capacity, read, write, verify, synchronize_cache, on_write}
use Rattle.cdb.specs.Decoding.{decoded}
use Rattle.commands.specs.Requirements.{passes_reservation}
use Rattle.ladder.specs.Ladder.{held_by_other, judged}
use Rattle.ladder.proofs.Judging.{Passes, judged_no, judged_yes}
use Rattle.sense.specs.Report.{Answer, number, Refused}
use Rattle.logical_unit.specs.ModePage.{selected}
use Rattle.logical_unit.specs.State.{cleared, raised_all, raised_others, with_holder, held_by, next_loaded, flushes_first, started, same_settings, settings_changed, unit_reset}
use Rattle.transfer.specs.Transfer.{buffered, read_blocks}
use Rattle.rbc_steps.specs.Module.{ModuleModel, joined, Exchange, exchange, then_unit, returning, flushed_if, run_select, run, Reply, replied, refused, replied_to}
use Rattle.rbc_steps.specs.Calls.{Request, Call, Command, Reset, Event, called, seen, event, Good}
use Rattle.rbc_steps.specs.Writes.{Rows, carried_out, of_write, added_to, adds, entered}
use Rattle.run_law.specs.Law.{Frees}
use Rattle.rbc_steps.proofs.Turns.{returned_unit, not_carried, not_command}

-- either way the holder is the same
either_holder : (v : Bool) (t t' : LogicalUnit) (h : Option ℕ) → t.holder ≡ h → t'.holder ≡ h → (cond v t t').holder ≡ h
either_holder true t t' h e e' = e
either_holder false t t' h e e' = e'

refused_holder : (h : ℕ) (a : Answer) (t : LogicalUnit) → (refused h a t).holder ≡ t.holder
refused_holder h a t = either_holder (eqb (number a) 6) (cleared h t) t t.holder refl refl

selected_holder : (h : ℕ) (p : Settings) (t : LogicalUnit) → (settings_changed h p t).holder ≡ t.holder
selected_holder h p t = either_holder (same_settings p t.settings) t (raised_others h ParametersChanged t) t.holder refl refl

started_holder : (p : ℕ) (s l : Bool) (t : LogicalUnit) → (started p s l t).holder ≡ t.holder
started_holder p s l t = either_holder (next_loaded p s l t.loaded && not t.loaded) (raised_all MediumChanged t) t t.holder refl refl

module _ {M : Type 0} (steps : Steps M) (meaning : M → Meaning) (w : ModuleModel M) where
  abbrev power : Bool
  power = steps.power w.store

  abbrev Sees : Call → Reply (Exchange M) → Event
  Sees c r = seen meaning c power r

  abbrev Passing : Request → Order → Type 0
  Passing q o = Passes w.unit q.host power (steps.count w.store) q.cdb q.data_out (length q.data_in) o

  abbrev performed : Request → Order → Reply (Exchange M)
  performed q o = replied_to steps q.host (Ok o) (exchange w q.data_in)

  -- a command is refused by a question, or it is performed
  by_answer :
      (q : Request) (P : Reply (Exchange M) → Type 0)
      → ((a : CommandError) → Refused power (Err a) → P (replied_to steps q.host (Err a) (exchange w q.data_in)))
      → ((o : Order) → Passing q o → P (performed q o)) → P (called steps w (Command q))
  by_answer q P no-case yes-case = go (judged w.unit q.host power (steps.count w.store) q.cdb q.data_out (length q.data_in)) refl
    where
      go : (j : Result Order CommandError) → judged w.unit q.host power (steps.count w.store) q.cdb q.data_out (length q.data_in) ≡ j → P (replied_to steps q.host j (exchange w q.data_in))
      go (Ok o) e = yes-case o (judged_yes w.unit q.host power (steps.count w.store) q.cdb q.data_out (length q.data_in) o e)
      go (Err a) e = no-case a (judged_no w.unit q.host power (steps.count w.store) q.cdb q.data_out (length q.data_in) a e)

  module _ (h : ℕ) (e : w.unit.holder ≡ Some h) where
    abbrev Held : ModuleModel M → Type 0
    Held w' = w'.unit.holder ≡ Some h

    held_returning : (k : ℕ) (d : List ℕ) (r : Stepped (Unit {0}) (ModuleModel M)) → Held r.after → Held (returning k d r).after.target
    held_returning k d r f = ap (λ (x : Exchange M). x.target.unit.holder) (returned_unit k d r) ∙ f

    held_flushed : (v : Bool) → Held (flushed_if steps v w).after
    held_flushed true = e
    held_flushed false = e

    held_changed : (r : Stepped (Unit {0}) (ModuleModel M)) (f : LogicalUnit → LogicalUnit) → Held r.after → (f r.after.unit).holder ≡ r.after.unit.holder → Held (then_unit r f).after
    held_changed r f held same = go r.answer
      where
        go : (o : Outcome (Unit {0})) → Held (then_unit (stepped o r.after) f).after
        go (Ok u) = same ∙ held
        go (Err x) = held

    held_selected : (host : ℕ) (p : Option Settings) → Held (run_select steps host p w).after
    held_selected host None = e
    held_selected host (Some p) =
        let v = p.wcd && not w.unit.settings.wcd in
        held_changed (flushed_if steps v w) (settings_changed host p) (held_flushed v) (selected_holder host p (flushed_if steps v w).after.unit)

    -- another host's command, but for those that pass, finds the reservation in its way
    holder_only : (q : Request) (o : Order) → Passing q o → passes_reservation o ≡ false → h ≡ q.host
    holder_only q o p d = eqb-true h q.host (go (eqb h q.host) (passes_reservation o) d (ap (λ (k : Option ℕ). not (held_by_other k q.host) || passes_reservation o) (sym e) ∙ p.free))
      where
        go : (v u : Bool) → u ≡ false → (not (not v) || u) ≡ true → v ≡ true
        go true u d f = refl
        go false u d f = absurd (both_ways u d f)

    held_released : (host : ℕ) (v : Bool) → eqb h host ≡ v → (h ≡ host → ⊥) → (cond v (with_holder None w.unit) w.unit).holder ≡ Some h
    held_released host true d f = absurd (f (eqb-true h host d))
    held_released host false d f = e

    held_performed : (q : Request) (o : Order) → Passing q o → (Frees h (Sees (Command q) (performed q o)) → ⊥) → Held (run steps q.host o (exchange w q.data_in)).after.target
    held_performed q test_unit_ready p f = e
    held_performed q (inquiry v g a) p f = e
    held_performed q (mode_select k list) p f = held_returning 0 q.data_in (run_select steps q.host (selected list) w) (held_selected q.host (selected list))
    held_performed q reserve p f = ap Some (sym (holder_only q reserve p refl))
    held_performed q release p f =
        ap (λ (o : Option ℕ). (cond (held_by o q.host) (with_holder None w.unit) w.unit).holder) e
        ∙ held_released q.host (eqb h q.host) refl (λ i. f (inl (q, record { call = refl; order = p.decodes; good = refl }, sym i)))
    held_performed q (mode_sense c g a) p f = e
    held_performed q (start_stop c s l) p f =
        held_returning 0 q.data_in (then_unit (flushed_if steps (flushes_first c s) w) (started c s l))
        (held_changed (flushed_if steps (flushes_first c s) w) (started c s l) (held_flushed (flushes_first c s)) (started_holder c s l (flushed_if steps (flushes_first c s) w).after.unit))
    held_performed q (prevent_allow v) p f = e
    held_performed q read_capacity p f = e
    held_performed q (read r a k) p f = held_returning (512 * k) (read_blocks steps a k (buffered w.store q.data_in)).after.data_in _ e
    held_performed q (write r u a k d) p f = held_returning 0 q.data_in _ e
    held_performed q (verify r a k) p f = held_returning 0 q.data_in _ e
    held_performed q synchronize_cache p f = held_returning 0 q.data_in (flushed_if steps true w) e

    held_reset : (v : Bool) → (Frees h (let r = cond v (replied (Ok 0) (joined w.store (unit_reset w.unit))) (replied (Err PowerOff) w) in Sees Reset (replied r.answer (exchange r.after []))) → ⊥)
        → Held (cond v (replied (Ok 0) (joined w.store (unit_reset w.unit))) (replied (Err PowerOff) w)).after
    held_reset true f = absurd (f (inr (refl, refl)))
    held_reset false f = e

    pub stays_held : (c : Call) → (Frees h (event steps meaning w c) → ⊥) → (called steps w c).after.target.unit.holder ≡ Some h
    stays_held (Command q) =
        by_answer q (λ r. (Frees h (Sees (Command q) r) → ⊥) → Held r.after.target) (λ a _ _. refused_holder q.host (Err a) w.unit ∙ e) (held_performed q)
    stays_held Reset = held_reset power

    pub writes_nothing : (rows : Rows) (q : Request) → (q.host ≡ h → ⊥) → (b : ℕ) → entered rows (event steps meaning w (Command q)) b ≡ rows b
    writes_nothing rows q other b =
        by_answer q (λ r. entered rows (Sees (Command q) r) b ≡ rows b)
        (λ a f. ap (λ (v : Bool). rows b ++ cond v (adds (Command q) b) []) (not_carried (number (Err a)) power f.not_good f.not_lost) ∙ append-nil (rows b))
        (λ o p. none (carried_out (performed q o).answer power) (adds (Command q) b) (ap (of_write [] (added_to b)) p.decodes ∙ not_write o p))
      where
        none : (v : Bool) (xs : List (List ℕ)) → xs ≡ [] → rows b ++ cond v xs [] ≡ rows b
        none true xs i = ap (λ (ys : List (List ℕ)). rows b ++ ys) i ∙ append-nil (rows b)
        none false xs i = append-nil (rows b)

        not_write : (o : Order) → Passing q o → on_write [] (added_to b) o ≡ []
        not_write test_unit_ready p = refl
        not_write (inquiry v g a) p = refl
        not_write (mode_select k list) p = refl
        not_write reserve p = refl
        not_write release p = refl
        not_write (mode_sense c g a) p = refl
        not_write (start_stop c s l) p = refl
        not_write (prevent_allow v) p = refl
        not_write read_capacity p = refl
        not_write (read r a k) p = refl
        not_write (write r u a k d) p = absurd (other (sym (holder_only q (write r u a k d) p refl)))
        not_write (verify r a k) p = refl
        not_write synchronize_cache p = refl

  pub reserves : (c : Call) (q : Request) → Good reserve q (event steps meaning w c) → (called steps w c).after.target.unit.holder ≡ Some q.host
  reserves (Command q') q g =
      let i : q' ≡ q = let k = g.call in cc in
      by_answer q' (λ r. number r.answer ≡ 0 → r.after.target.unit.holder ≡ Some q.host) (λ a f z. absurd (f.not_good z))
      (λ o p _.
      let d : ◌≡◌ {A = Result Order CommandError} (Ok o) (Ok reserve) = sym p.decodes ∙ ap (λ (z : Request). decoded z.cdb z.data_out) i ∙ g.order in
      let same : o ≡ reserve = cc in
      subst (λ (x : Order). (run steps q'.host x (exchange w q'.data_in)).after.target.unit.holder ≡ Some q.host) (sym same) (ap (λ (z : Request). Some z.host) i))
      g.good
  reserves Reset q g = absurd (not_command q g.call)
