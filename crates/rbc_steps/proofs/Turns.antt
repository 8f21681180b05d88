-- What one call does: the rows that it enters, what it shows, and what it costs.
use Rattle.std.proofs.Common.{◌≡◌, ℕ, suc, ◌+◌, ◌*◌, ◌<◌, ◌≤◌, min, Bool, true, false, cond, not, ◌&&◌, ◌||◌, eqb, List, [], ◌++◌, length, get_or, drop, Some, None, Ok, Err, Option, Result, sym, refl, ap, ◌∙◌, subst, ap₂, zero-le, le_of_eq, arith}
use Rattle.std.proofs.lemmas.List.{append-nil}
use Rattle.std.proofs.lemmas.Bool.{ltb-true, leb-true, eqb-true, ne_eqb, or_from, and_left, and_right}
use Rattle.std.specs.Simd.{first_chunks}
use Rattle.store.specs.Steps.{Steps, Stepped, stepped, Answer as Outcome}
use Rattle.store.specs.Sequence.{in_turn}
use Rattle.store.specs.Meaning.{Meaning}
use Rattle.store.specs.Keeps.{Keeps}
use Rattle.store.proofs.Guards.{same_refl}
use Rattle.sense.specs.declared.CommandError.{CommandError}
use Rattle.sense.specs.declared.CommandError.TheVariants.{PowerOff}
use Rattle.logical_unit.specs.declared.LogicalUnit.{LogicalUnit}
use Rattle.logical_unit.specs.declared.Settings.{Settings}
use Rattle.logical_unit.specs.ModePage.{selected}
use Rattle.logical_unit.specs.State.{started, settings_changed, flushes_first, unit_reset}
use Rattle.commands.specs.Order.{Order, test_unit_ready, inquiry, mode_select, reserve, release, mode_sense, start_stop, prevent_allow, read_capacity, read, write, verify, synchronize_cache, on_write}
use Rattle.cdb.specs.Decoding.{decoded}
use Rattle.commands.specs.Requirements.{in_range, supplied}
use Rattle.sense.specs.Report.{Answer, number, Refused}
use Rattle.ladder.specs.Ladder.{judged}
use Rattle.ladder.proofs.Judging.{Passes, judged_no, judged_yes}
use Rattle.transfer.specs.Transfer.{buffered, put_forced, read_blocks, verify_blocks, write_blocks}
use Rattle.rbc_steps.specs.Module.{ModuleModel, joined, Exchange, exchange, on_store, then_unit, returning, flushed_if, run_select, run, Reply, replied, answer_of, refused, replied_to}
use Rattle.rbc_steps.specs.Calls.{Request, Call, Command, Reset, Event, called, seen, event, Good}
use Rattle.rbc_steps.specs.Writes.{Rows, carried_out, of_write, added_to, adds, entered, cost, latest_of}
use Rattle.rbc_steps.proofs.Growth.{grown, length_chunked, chunk}
use Rattle.rbc_steps.proofs.Stores.{Tracked, Carried, carried_same, carried_along, last_alone, Ran, ran_along, ran_still, Live, ran_flush, writes_run, Reads, reads_run, verifies_run}

pub record Turn {M : Type 0} (good : M → Type 0) (n : ℕ) (rows : Rows) (m : Meaning) (t : Tracked n rows m) (e : Event) (after : M) : Type 0 where
  pub safe : good after
  pub carried : Carried n rows m t (entered rows e) e.meaning (cost e)
  pub synchronized : (q : Request) → Good synchronize_cache q e → (b : ℕ) → b < n → suc (carried.tracked.number b) ≡ length (entered rows e b)
  pub shown : (relative : Bool) (a k : ℕ) (q : Request) → Good (read relative a k) q e → e.data_in ≡ latest_of rows a k ++ drop (512 * k) q.data_in

pub not_carried : (k : ℕ) (on : Bool) → (k ≡ 0 → ⊥) → (k ≡ 2 → on ≡ false) → (eqb k 0 || (eqb k 2 && on)) ≡ false
not_carried k on d f = go (eqb k 2) refl
  where
    go : (v : Bool) → eqb k 2 ≡ v → (eqb k 0 || (eqb k 2 && on)) ≡ false
    go true e = or_from (eqb k 0) (eqb k 2 && on) (ne_eqb k 0 d) (and_right (eqb k 2) on (f (eqb-true k 2 e)))
    go false e = or_from (eqb k 0) (eqb k 2 && on) (ne_eqb k 0 d) (and_left (eqb k 2) on e)

pub not_command : (q : Request) → Reset ≡ Command q → ⊥
not_command q e = let z : ◌≡◌ {A = ℕ} 0 1 = cc in omega arith

-- the rows and the cost of a command that is carried out
abbrev rows_of : Rows → Order → Rows
rows_of rows o b = rows b ++ on_write [] (added_to b) o

abbrev puts_of : Order → ℕ
puts_of o = on_write 0 (λ a n bytes. n) o

pub returned_unit : {M : Type 0} (k : ℕ) (d : List ℕ) (r : Stepped (Unit {0}) (ModuleModel M)) → (returning k d r).after ≡ exchange r.after d
returned_unit k d r = go r.answer
  where
    go : (o : Outcome (Unit {0})) → (returning k d (stepped o r.after)).after ≡ exchange r.after d
    go (Ok u) = refl
    go (Err e) = refl

module _ {M : Type 0} (steps : Steps M) (meaning : M → Meaning) (good : M → Type 0) (K : Keeps steps meaning good) (n : ℕ) (rows : Rows) where
  -- what the module's calls do to its store
  abbrev unit_means : ModuleModel M → Meaning
  unit_means w = meaning w.store

  abbrev unit_good : ModuleModel M → Type 0
  unit_good w = good w.store

  abbrev means : Exchange M → Meaning
  means x = meaning x.target.store

  abbrev safe_in : Exchange M → Type 0
  safe_in x = good x.target.store

  module _ (w : ModuleModel M) (t : Tracked n rows (meaning w.store)) (l : Live meaning good n w.store) where
    abbrev UnitRan : Rows → ℕ → Stepped (Unit {0}) (ModuleModel M) → Type 0
    UnitRan rows' puts r = Ran unit_means unit_good n rows (meaning w.store) t rows' puts r

    abbrev RanIn : Rows → ℕ → Stepped ℕ (Exchange M) → Type 0
    RanIn rows' puts r = Ran means safe_in n rows (meaning w.store) t rows' puts r

    unit_still : (t' : LogicalUnit) → UnitRan rows 0 (stepped (Ok tt) (joined w.store t'))
    unit_still t' = ran_still t (stepped (Ok tt) (joined w.store t')) (tt {0}) l.count l.on l.safe refl (same_refl (meaning w.store))

    still : (k : ℕ) (t' : LogicalUnit) (d : List ℕ) → RanIn rows 0 (stepped (Ok k) (exchange (joined w.store t') d))
    still k t' d = ran_still t (stepped (Ok k) (exchange (joined w.store t') d)) k l.count l.on l.safe refl (same_refl (meaning w.store))

    unit_flushed : (v : Bool) → UnitRan rows 0 (flushed_if steps v w)
    unit_flushed true = let r = ran_flush steps meaning good K n t l in record { safe = r.safe; carried = r.carried; on = r.on; lost = r.lost }
    unit_flushed false = unit_still w.unit

    unit_changed : (r : Stepped (Unit {0}) (ModuleModel M)) (f : LogicalUnit → LogicalUnit) → UnitRan rows 0 r → UnitRan rows 0 (then_unit r f)
    unit_changed r f = go r.answer
      where
        go : (o : Outcome (Unit {0})) → UnitRan rows 0 (stepped o r.after) → UnitRan rows 0 (then_unit (stepped o r.after) f)
        go (Ok u) d = record { safe = d.safe; carried = d.carried; on = λ _ _. d.on u refl; lost = λ e p. let z : ◌≡◌ {A = ℕ} 0 1 = cc in absurd (omega arith) }
        go (Err e) d = d

    ran_returning : {rows' : Rows} {puts : ℕ} (k : ℕ) (d : List ℕ) (r : Stepped (Unit {0}) (ModuleModel M)) → UnitRan rows' puts r → RanIn rows' puts (returning k d r)
    ran_returning {rows'} {puts} k d r = go r.answer
      where
        go : (o : Outcome (Unit {0})) → UnitRan rows' puts (stepped o r.after) → RanIn rows' puts (returning k d (stepped o r.after))
        go (Ok u) v = record { safe = v.safe; carried = v.carried; on = λ _ _. v.on u refl; lost = λ e p. let z : ◌≡◌ {A = ℕ} 0 1 = cc in absurd (omega arith) }
        go (Err e) v = record { safe = v.safe; carried = v.carried; on = λ _ p. let z : ◌≡◌ {A = ℕ} 0 1 = cc in absurd (omega arith); lost = λ _ _. v.lost e refl }

    -- a command that writes nothing
    unwritten : (r : Stepped ℕ (Exchange M)) → RanIn rows 0 r → RanIn (λ b. rows b ++ []) 0 r
    unwritten r d = ran_along (λ b. sym (append-nil (rows b))) refl d

    unit_selected : (h : ℕ) (p : Option Settings) → UnitRan rows 0 (run_select steps h p w)
    unit_selected h None = unit_still w.unit
    unit_selected h (Some p) =
        let v = p.wcd && not w.unit.settings.wcd in
        unit_changed (flushed_if steps v w) (settings_changed h p) (unit_flushed v)

    module _ (h : ℕ) (d : List ℕ) where
      abbrev x : Exchange M
      x = exchange w d

      read_ran : (a k : ℕ) → a + k ≤ n → Reads steps meaning good K n rows w.store t a l k d (read_blocks steps a k (buffered w.store d))
      read_ran a k i = reads_run steps meaning good K n rows w.store t a l k d i

      unit_written : (force : Bool) (a k : ℕ) (bytes : List ℕ) → a + k ≤ n → length bytes ≡ 512 * k
          → UnitRan (grown rows a k bytes) k (on_store (write_blocks steps force a (first_chunks 512 k bytes) w.store) w.unit)
      unit_written force a k bytes i e =
          let r = writes_run steps meaning good K n rows w.store t a l force bytes (first_chunks 512 k bytes) k (λ j. chunk k j bytes) i (omega (arith, e)) in
          subst (λ (j : ℕ). UnitRan (grown rows a k bytes) k (on_store (in_turn j (λ i. put_forced steps force (a + i) (get_or (first_chunks 512 k bytes) i [])) w.store) w.unit))
          (sym (length_chunked k bytes)) (record { safe = r.safe; carried = r.carried; on = r.on; lost = r.lost })

      unit_read : (a k : ℕ) → a + k ≤ n
          → UnitRan rows 0 (stepped (read_blocks steps a k (buffered w.store d)).answer (joined (read_blocks steps a k (buffered w.store d)).after.store w.unit))
      unit_read a k i =
          let r = read_ran a k i in
          let v = r.runs in
          record {
            safe = v.safe;
            carried = v.carried;
            on = λ _ _. v.on tt refl;
            lost = λ e p. let q = r.done in let z : ◌≡◌ {A = ℕ} 0 1 = cc in absurd (omega arith);
          }

      pub ran : (o : Order) → in_range (steps.count w.store) o ≡ true → supplied o ≡ true → RanIn (rows_of rows o) (puts_of o) (run steps h o x)
      ran test_unit_ready i g = unwritten (run steps h test_unit_ready x) (still 0 w.unit d)
      ran (inquiry v p a) i g = unwritten (run steps h (inquiry v p a) x) (still (min a 36) w.unit (run steps h (inquiry v p a) x).after.data_in)
      ran (mode_select k list) i g = unwritten (run steps h (mode_select k list) x) (ran_returning 0 d (run_select steps h (selected list) w) (unit_selected h (selected list)))
      ran reserve i g = unwritten (run steps h reserve x) (still 0 (run steps h reserve x).after.target.unit d)
      ran release i g = unwritten (run steps h release x) (still 0 (run steps h release x).after.target.unit d)
      ran (mode_sense c p a) i g = unwritten (run steps h (mode_sense c p a) x) (still (min a 17) w.unit (run steps h (mode_sense c p a) x).after.data_in)
      ran (start_stop p s m) i g =
          unwritten (run steps h (start_stop p s m) x)
          (ran_returning 0 d (then_unit (flushed_if steps (flushes_first p s) w) (started p s m)) (unit_changed (flushed_if steps (flushes_first p s) w) (started p s m) (unit_flushed (flushes_first p s))))
      ran (prevent_allow p) i g = unwritten (run steps h (prevent_allow p) x) (still 0 (run steps h (prevent_allow p) x).after.target.unit d)
      ran read_capacity i g = unwritten (run steps h read_capacity x) (still 8 w.unit (run steps h read_capacity x).after.data_in)
      ran (read r a k) i g =
          unwritten (run steps h (read r a k) x)
          (ran_returning (512 * k) (read_blocks steps a k (buffered w.store d)).after.data_in _ (unit_read a k (omega (arith, leb-true (a + k) (steps.count w.store) i, K.counts w.store l.safe, l.count))))
      ran (write r f a k bytes) i g =
          ran_returning 0 d _
          (unit_written (f || w.unit.settings.wcd) a k bytes (omega (arith, leb-true (a + k) (steps.count w.store) i, K.counts w.store l.safe, l.count))
          (eqb-true (length bytes) (512 * k) g))
      ran (verify r a k) i g =
          let v = verifies_run steps meaning good K n rows w.store t a l k (omega (arith, leb-true (a + k) (steps.count w.store) i, K.counts w.store l.safe, l.count)) in
          unwritten (run steps h (verify r a k) x)
          (ran_returning 0 d (on_store (verify_blocks steps a k w.store) w.unit) (record { safe = v.safe; carried = v.carried; on = v.on; lost = v.lost }))
      ran synchronize_cache i g = unwritten (run steps h synchronize_cache x) (ran_returning 0 d (flushed_if steps true w) (unit_flushed true))

      -- SYNCHRONIZE CACHE leaves each block one content
      alone : 0 < (means (run steps h synchronize_cache x).after).grant → (b : ℕ) → b < n → ((means (run steps h synchronize_cache x).after).line b).later ≡ []
      alone =
          subst (λ (y : Exchange M). 0 < (means y).grant → (b : ℕ) → b < n → ((means y).line b).later ≡ []) (sym (returned_unit 0 d (flushed_if steps true w)))
          (λ g b i. ((K.flushes w.store l.safe).on l.on).cleans g b (omega (arith, l.count)) tt)

      -- READ gives the latest contents
      shows : (r : Bool) (a k : ℕ) → in_range (steps.count w.store) (read r a k) ≡ true
          → (run steps h (read r a k) x).after.data_in ≡ latest_of rows a k ++ drop (512 * k) d
      shows r a k i =
          let v = read_blocks steps a k (buffered w.store d) in
          ap (λ (y : Exchange M). y.data_in) (returned_unit (512 * k) v.after.data_in (stepped v.answer (joined v.after.store w.unit)))
          ∙ (read_ran a k (omega (arith, leb-true (a + k) (steps.count w.store) i, K.counts w.store l.safe, l.count))).bytes

  -- a call that enters no row
  turn_none :
      (w : ModuleModel M) (t : Tracked n rows (meaning w.store)) (e : Event) (after : M) → good w.store → (meaning w.store).count ≡ n → after ≡ w.store
      → e.meaning ≡ meaning w.store → ((b : ℕ) → rows b ≡ entered rows e b) → ((o : Order) (q : Request) → Good o q e → ⊥) → Turn good n rows (meaning w.store) t e after
  turn_none w t e after g c p m same none =
      record {
        safe = subst good (sym p) g;
        carried =
            carried_along (cost e) same zero-le
            (subst (λ (m' : Meaning). Carried n rows (meaning w.store) t rows m' 0) (sym m) (carried_same t c (same_refl (meaning w.store))));
        synchronized = λ q k. absurd (none synchronize_cache q k);
        shown = λ r a k q v. absurd (none (read r a k) q v);
      }

  module _ (w : ModuleModel M) (t : Tracked n rows (meaning w.store)) (g : good w.store) (c : (meaning w.store).count ≡ n) where
    abbrev power : Bool
    power = steps.power w.store

    abbrev Turns : Call → Reply (Exchange M) → Type 0
    Turns call r = Turn good n rows (meaning w.store) t (seen meaning call power r) r.after.target.store

    turn_refused : (q : Request) (a : Answer) → Refused power a → Turns (Command q) (replied a (exchange (joined w.store (refused q.host a w.unit)) q.data_in))
    turn_refused q a f =
        turn_none w t (seen meaning (Command q) power (replied a (exchange (joined w.store (refused q.host a w.unit)) q.data_in))) w.store g c refl refl
        (λ b. sym (ap (λ (v : Bool). rows b ++ cond v (adds (Command q) b) []) (not_carried (number a) power f.not_good f.not_lost) ∙ append-nil (rows b)))
        (λ o q' k. f.not_good k.good)

    turn_reset : (v : Bool) → Turns Reset (let r = cond v (replied (Ok 0) (joined w.store (unit_reset w.unit))) (replied (Err PowerOff) w) in replied r.answer (exchange r.after []))
    turn_reset true = turn_none w t (seen meaning Reset power (replied (Ok 0) (exchange (joined w.store (unit_reset w.unit)) []))) w.store g c refl refl (λ b. sym (append-nil (rows b))) (λ o q k. not_command q k.call)
    turn_reset false = turn_none w t (seen meaning Reset power (replied (Err PowerOff) (exchange w []))) w.store g c refl refl (λ b. none b power) (λ o q k. not_command q k.call)
      where
        none : (b : ℕ) (v : Bool) → rows b ≡ rows b ++ cond (eqb 2 0 || (eqb 2 2 && v)) [] []
        none b true = sym (append-nil (rows b))
        none b false = sym (append-nil (rows b))

    module _ (q : Request) (o : Order) (p : Passes w.unit q.host power (steps.count w.store) q.cdb q.data_out (length q.data_in) o) where
      live : Live meaning good n w.store
      live = record { safe = g; count = c; on = ltb-true 0 (meaning w.store).grant (sym (K.powers w.store g) ∙ p.powered) }

      abbrev result : Stepped ℕ (Exchange M)
      result = run steps q.host o (exchange w q.data_in)

      abbrev seen_in : Outcome ℕ → Event
      seen_in r = seen meaning (Command q) power (replied (answer_of r) result.after)

      -- carried out, whether power was lost or not
      carries : (r : Outcome ℕ) → carried_out (seen_in r).answer (seen_in r).powered ≡ true
      carries (Ok k) = refl
      carries (Err x) = p.powered

      good_ok : (r : Outcome ℕ) → number (seen_in r).answer ≡ 0 → (k : ℕ) × (r ≡ Ok k)
      good_ok (Ok k) e = (k, refl)
      good_ok (Err x) e = absurd (omega arith)

      -- a good command of this call is this one
      only_order : {o' : Order} {q' : Request} (r : Outcome ℕ) → Good o' q' (seen_in r) → o ≡ o'
      only_order {o'} {q'} r k =
          let i : q ≡ q' = let e = k.call in cc in
          let e : ◌≡◌ {A = Result Order CommandError} (Ok o) (Ok o') = sym p.decodes ∙ ap (λ (z : Request). decoded z.cdb z.data_out) i ∙ k.order in
          cc

      turn_passed : Turns (Command q) (replied (answer_of result.answer) result.after)
      turn_passed =
          let d = ran w t live q.host q.data_in o p.ranged p.given in
          let e = seen_in result.answer in
          let on = carries result.answer in
          let enters : (b : ℕ) → rows_of rows o b ≡ entered rows e b =
          λ b. sym (ap₂ (λ (v : Bool) (j : Result Order CommandError). rows b ++ cond v (of_write [] (added_to b) j) []) on p.decodes) in
          let pays : puts_of o ≡ cost e = sym (ap₂ (λ (v : Bool) (j : Result Order CommandError). cond v (of_write 0 (λ a n bytes. n) j) 0) on p.decodes) in
          let v = carried_along (cost e) enters (le_of_eq pays) d.carried in
          record {
            safe = d.safe;
            carried = v;
            synchronized =
                λ q' k b h.
                let good = good_ok result.answer k.good in
                let on = d.on good.0 good.1 in
                last_alone ((means result.after).line b) (v.tracked.tracks b h) on
                (subst (λ (o' : Order). 0 < (means (run steps q.host o' (exchange w q.data_in)).after).grant → ((means (run steps q.host o' (exchange w q.data_in)).after).line b).later ≡ [])
                (sym (only_order result.answer k)) (λ g. alone w t live q.host q.data_in g b h) on);
            shown =
                λ r a k q' f.
                let same : o ≡ read r a k = only_order result.answer f in
                let i : q ≡ q' = let e = f.call in cc in
                ap (λ (o' : Order). (run steps q.host o' (exchange w q.data_in)).after.data_in) same
                ∙ shows w t live q.host q.data_in r a k (sym (ap (in_range (steps.count w.store)) same) ∙ p.ranged)
                ∙ ap (λ (z : Request). latest_of rows a k ++ drop (512 * k) z.data_in) i;
          }

    pub turn : (call : Call) → Turn good n rows (meaning w.store) t (event steps meaning w call) (called steps w call).after.target.store
    turn (Command q) = go (judged w.unit q.host power (steps.count w.store) q.cdb q.data_out (length q.data_in)) refl
      where
        go : (j : Result Order CommandError) → judged w.unit q.host power (steps.count w.store) q.cdb q.data_out (length q.data_in) ≡ j
            → Turns (Command q) (replied_to steps q.host j (exchange w q.data_in))
        go (Ok o) e = turn_passed q o (judged_yes w.unit q.host power (steps.count w.store) q.cdb q.data_out (length q.data_in) o e)
        go (Err a) e = turn_refused q (Err a) (judged_no w.unit q.host power (steps.count w.store) q.cdb q.data_out (length q.data_in) a e)
    turn Reset = turn_reset power
