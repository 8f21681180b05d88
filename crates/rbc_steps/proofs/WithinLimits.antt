-- Each command moves the store within its limits, and MAKE flushes it.
use Rattle.std.proofs.Common.{◌≡◌, ℕ, ◌<◌, ◌≢◌, Bool, true, false, cond, List, [], ◌++◌, ltb, length, Ok, Err, Result, sym, refl, ap, ap₂, ◌∙◌, subst, arith}
use native.Mathlib.Decide.{dec_lt}
use Rattle.std.proofs.lemmas.Bool.{ltb-true, ltb-false, lt-ltb}
use Rattle.store.specs.declared.StoreError.{StoreError}
use Rattle.store.specs.Steps.{Steps, Answer as Outcome, Stepped}
use Rattle.store.specs.Meaning.{Meaning}
use Rattle.store.specs.Keeps.{Keeps}
use Rattle.sense.specs.declared.CommandError.{CommandError}
use Rattle.sense.specs.declared.CommandError.TheVariants.{NoSuchHost, PowerOff}
use Rattle.sense.specs.Ladder.{first_no, unless_refused}
use Rattle.sense.specs.Report.{number}
use Rattle.commands.specs.Order.{Order}
use Rattle.cdb.specs.Decoding.{decoded, opcode_of, order_by, cdb_rungs}
use Rattle.logical_unit.specs.declared.LogicalUnit.{LogicalUnit}
use Rattle.ladder.specs.Ladder.{command_rungs, judged}
use Rattle.ladder.proofs.Judging.{Passes, judged_no, judged_yes}
use Rattle.rbc_steps.specs.Module.{ModuleModel, Exchange, exchange, Reply, answer_of, run, replied_to, commanded}
use Rattle.rbc_steps.specs.Writes.{carried_out}
use Rattle.rbc_steps.specs.Work.{Work, no_work, one_flush, work_of, work_done}
use Rattle.rbc_steps.specs.Limits.{Moved, Limits, Flushed}
use Rattle.rbc_steps.proofs.Stores.{Live}
use Rattle.rbc_steps.proofs.Turns.{ran, not_carried}
use Rattle.rbc_steps.proofs.WorkOfCommands.{own, itself, unmoved, stands, flush_reaches, goes}

-- a command of a known host that is not told of lost power has power
powered_unless :
    (u : LogicalUnit) (h : ℕ) (power : Bool) (count : ℕ) (cdb out : List ℕ) (room : ℕ) (a : CommandError) → judged u h power count cdb out room ≡ Err a
    → number (Err a) ≢ 1 → number (Err a) ≢ 2 → power ≡ true
powered_unless u h power count cdb out room a = go (ltb h 4) power
  where
    go :
        (known on : Bool) → unless_refused (cond known (cond on (first_no (cdb_rungs (opcode_of cdb) cdb ++ command_rungs u h count room (order_by (opcode_of cdb) cdb out))) (Err PowerOff)) (Err NoSuchHost)) (order_by (opcode_of cdb) cdb out) ≡ Err a
        → number (Err a) ≢ 1 → number (Err a) ≢ 2 → on ≡ true
    go known true e d d' = refl
    go true false e d d' = let i : PowerOff ≡ a = cc in absurd (d' (ap (λ (b : CommandError). number (Err b)) (sym i)))
    go false false e d d' = let i : NoSuchHost ≡ a = cc in absurd (d (ap (λ (b : CommandError). number (Err b)) (sym i)))

module _ {M : Type 0} (steps : Steps M) (meaning : M → Meaning) (good : M → Type 0) (K : Keeps steps meaning good) where
  module _ (w : ModuleModel M) (g : good w.store) (h : ℕ) (cdb out d : List ℕ) where
    abbrev power : Bool
    power = steps.power w.store

    abbrev m : Meaning
    m = meaning w.store

    abbrev Within : Reply (Exchange M) → Type 0
    Within r = Limits m (work_done w.unit cdb out r.answer power) r.answer (meaning r.after.target.store)

    lit : power ≡ true → 0 < m.grant
    lit e = ltb-true 0 m.grant (sym (K.powers w.store g) ∙ e)

    unlit : power ≡ false → m.grant ≡ 0
    unlit e = let i = ltb-false 0 m.grant (sym (K.powers w.store g) ∙ e) in omega arith

    within_refused : (a : CommandError) → judged w.unit h power (steps.count w.store) cdb out (length d) ≡ Err a → Within (replied_to steps h (Err a) (exchange w d))
    within_refused a e =
        let f = judged_no w.unit h power (steps.count w.store) cdb out (length d) a e in
        record {
          moved =
              subst (λ (v : Bool). Moved m (cond v (work_of w.unit (decoded cdb out)) no_work) m) (sym (not_carried (number (Err a)) power f.not_good f.not_lost))
              (stands steps meaning good K w.store g);
          lost = λ i. unlit (f.not_lost i);
          on = λ i j. lit (powered_unless w.unit h power (steps.count w.store) cdb out (length d) a e i j);
        }

    module _ (o : Order) (p : Passes w.unit h power (steps.count w.store) cdb out (length d) o) where
      live : Live meaning good m.count w.store
      live = record { safe = g; count = refl; on = lit p.powered }

      abbrev result : Stepped ℕ (Exchange M)
      result = run steps h o (exchange w d)

      carries : (r : Outcome ℕ) → carried_out (answer_of r) power ≡ true
      carries (Ok k) = refl
      carries (Err e) = p.powered

      within_passed : Within (replied_to steps h (Ok o) (exchange w d))
      within_passed =
          let r = ran steps meaning good K m.count (own steps meaning good K w) w (itself steps meaning good K w) live h d o p.ranged p.given in
          record {
            moved =
                subst (λ (v : Work). Moved m v (meaning result.after.target.store))
                (sym (ap₂ (λ (v : Bool) (j : Result Order CommandError). cond v (work_of w.unit j) no_work) (carries result.answer) p.decodes))
                (goes steps meaning good K w live h d o p.ranged p.given);
            lost = lost result.answer r.lost;
            on = on result.answer r.on;
          }
        where
          after : Meaning
          after = meaning result.after.target.store

          lost : (r : Outcome ℕ) → ((e : StoreError) → r ≡ Err e → after.grant ≡ 0) → number (answer_of r) ≡ 2 → after.grant ≡ 0
          lost (Ok k) f e = absurd (omega arith)
          lost (Err x) f e = f x refl

          on : (r : Outcome ℕ) → ((k : ℕ) → r ≡ Ok k → 0 < after.grant) → number (answer_of r) ≢ 1 → number (answer_of r) ≢ 2 → 0 < after.grant
          on (Ok k) f i j = f k refl
          on (Err x) f i j = absurd (j refl)

    pub within_limits : Within (commanded steps h cdb out (exchange w d))
    within_limits = go (judged w.unit h power (steps.count w.store) cdb out (length d)) refl
      where
        go : (j : Result Order CommandError) → judged w.unit h power (steps.count w.store) cdb out (length d) ≡ j → Within (replied_to steps h j (exchange w d))
        go (Ok o) e = within_passed o (judged_yes w.unit h power (steps.count w.store) cdb out (length d) o e)
        go (Err a) e = within_refused a e

  module _ (s : M) (g : good s) where
    abbrev before : Meaning
    before = meaning s

    abbrev after : Meaning
    after = meaning (steps.flush s).after

    flush_moved : Dec (0 < before.grant) → Moved before one_flush after
    flush_moved (yes on) = (flush_reaches steps meaning good K s g on).moved
    flush_moved (no off) =
        let same = ((K.flushes s g).off (omega arith)).1 in
        unmoved steps meaning good K one_flush s (steps.flush s).after (λ on. absurd (omega (arith, same.grant))) (λ b. refl) (λ b. refl) (K.flush_good s g) same

    flush_single : Moved before one_flush after → Dec (0 < after.grant) → (b : ℕ) → b < before.count → (after.line b).later ≡ []
    flush_single d (no off) b h = (d.survives (omega arith) b h).single
    flush_single d (yes on) b h =
        let e = d.cleans b h (lt-ltb 0 d.ended (omega (arith, d.all on))) in
        let i : (after.line b).later ≡ [] = cc in i

    pub make_flushes : Flushed before after
    make_flushes = let d = flush_moved (dec_lt 0 before.grant) in record { moved = d; single = flush_single d (dec_lt 0 after.grant) }
