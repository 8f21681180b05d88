-- The rows by which the found blocks are numbered are those of the law.
use Rattle.std.proofs.Common.{◌≡◌, ℕ, Bool, ltb, List, [], ◌∷◌, ◌++◌, map, length, drop, vec_items, sym, refl, ap, ap₂, ◌∙◌}
use mathlib.Core.List.{map-map}
use Rattle.std.specs.Prelude.{nat_lt}
use Rattle.store.specs.Steps.{Content, Steps}
use Rattle.store.specs.Meaning.{Meaning}
use Rattle.store.specs.Keeps.{Keeps}
use Rattle.sense.specs.Report.{Answer, number}
use Rattle.rbc_steps.specs.Module.{ModuleModel, made_over}
use Rattle.rbc_steps.specs.Calls.{Call, Event, called, event}
use Rattle.rbc_steps.specs.Writes.{Rows, added, entered}
use Rattle.run_law.specs.Runs.{run}
use Rattle.run_law.specs.Book.{first_rows, rows_at}
use Rattle.session.specs.declared.Reply.{Reply}
use Rattle.session.specs.Sessions.{Told, told_by, told_of}
use Rattle.recorder_options.specs.declared.options.Options.{Options}
use Rattle.piles.specs.Orders.{Start, bottom, under_caches}
use Rattle.pile_runs.specs.declared.run.Run.{Run}
use Rattle.pile_runs.specs.Runs.{RunOf}
use Rattle.pile_runs.specs.Setups.{kind_of, RunWith}
use Rattle.outcomes.specs.Found.{rows_after}
use Rattle.outcomes.specs.Views.{answer_of_reply}
use Rattle.outcomes.specs.LawRows.{law_rows}
use Rattle.run_law.proofs.Powers.{told_on, stays_good, call_told_on, made_on}
use Rattle.piles.proofs.Empty.{Empty, empty_caches, only_medium, new_grant}

abbrev seen_answer : Event → Answer
seen_answer e = e.answer

abbrev told_answer : Told → Answer
told_answer t = t.answer

-- what was told has the answers that were seen
answers_told : (replies : List Reply) (events : List Event) → map told_by replies ≡ map told_of events → map answer_of_reply replies ≡ map seen_answer events
answers_told replies events same = sym (map-map told_answer told_by replies) ∙ ap (map told_answer) same ∙ map-map told_answer told_of events

module _ {M : Type 0} (steps : Steps M) (meaning : M → Meaning) (good : M → Type 0) (K : Keeps steps meaning good) where
  -- a row of the law goes on as the row by the answers does, behind the content x that stood there
  rows_go_on :
      (calls : List Call) (w : ModuleModel M) (rows rows' : Rows) (power : Bool) (b : ℕ) (x : Content) → good w.store → steps.power w.store ≡ power → rows' b ≡ x ∷ rows b
      → rows_at rows' (run steps meaning w calls) (length calls) b ≡ x ∷ rows_after rows power calls (map seen_answer (run steps meaning w calls)) b
  rows_go_on [] w rows rows' power b x g on same = same
  rows_go_on (c ∷ cs) w rows rows' power b x g on same =
      let r = called steps w c in
      rows_go_on cs r.after.target (λ k. rows k ++ added c r.answer power k) (entered rows' (event steps meaning w c)) (told_on power (number r.answer)) b x
      (stays_good steps meaning good K w g c)
      (call_told_on steps meaning good K w g c ∙ ap (λ (v : Bool). told_on v (number r.answer)) on)
      (ap₂ (λ (row : List Content) (v : Bool). row ++ added c r.answer v b) same on)

-- a run over a pile of empty caches
module _ {grant : ℕ} (p : Start) (e : Empty grant p) (calls : List Call) (r : Run) (o : RunOf p.steps p.meaning p.held p.state calls r) where
  rows_of_run : (b : ℕ) → rows_after (λ _. []) (nat_lt 0 grant) calls (map answer_of_reply (vec_items r.replies)) b ≡ drop 1 (law_rows p.steps p.meaning p.state calls b)
  rows_of_run b =
      let w = made_over p.steps p.state in
      let m = p.meaning w.store in
      let on = made_on p.steps p.meaning e.good e.keeps p.state e.safe e.none ∙ ap (ltb 0) e.grants in
      ap (λ (answers : List Answer). rows_after (λ _. []) (nat_lt 0 grant) calls answers b) (answers_told (vec_items r.replies) (run p.steps p.meaning w calls) o.replies)
      ∙ ap (drop 1)
      (sym (rows_go_on p.steps p.meaning e.good e.keeps calls w (λ _. []) (first_rows m) (nat_lt 0 grant) b (m.line b).first (e.keeps.flush_good p.state e.safe) on refl))

pub rows_by_law :
    (options : Options) (grant : ℕ) (calls : List Call) (r : Run) (w : RunWith options grant calls r) (b : ℕ)
    → let p = under_caches (vec_items options.caches) (bottom w.0) in
    rows_after (λ _. []) (nat_lt 0 grant) calls (map answer_of_reply (vec_items r.replies)) b ≡ drop 1 (law_rows p.steps p.meaning p.state calls b)
rows_by_law options grant calls r w b =
    let caches = vec_items options.caches in
    let medium = only_medium w.0 (new_grant (kind_of options.medium options.pages) options.blocks grant w.0 w.1) in
    rows_of_run (under_caches caches (bottom w.0)) (empty_caches caches (bottom w.0) medium) calls r w.2 b
