-- The numbers of the found blocks, by the rows of the law over runs.
use Rattle.std.specs.Prelude.{◌≡◌, ℕ, List, map, length, drop, vec_items}
use Rattle.store.specs.Steps.{Steps}
use Rattle.store.specs.Meaning.{Meaning}
use Rattle.rbc_steps.specs.Module.{made_over}
use Rattle.rbc_steps.specs.Calls.{Call}
use Rattle.rbc_steps.specs.Writes.{Rows}
use Rattle.run_law.specs.Runs.{run}
use Rattle.run_law.specs.Book.{first_rows, rows_at}
use Rattle.recorder_options.specs.declared.options.Options.{Options}
use Rattle.piles.specs.Bottoms.{bottom_meaning, counted}
use Rattle.piles.specs.Orders.{bottom, under_caches}
use Rattle.pile_runs.specs.declared.run.Run.{Run}
use Rattle.pile_runs.specs.Setups.{RunWith}
use Rattle.outcomes.specs.declared.outcome.Outcome.{Outcome}
use Rattle.outcomes.specs.Found.{found_below}
use Rattle.outcomes.specs.Views.{found_view}

-- the law's rows when these calls on a module made over m are over
abbrev pub law_rows : {M : Type 0} → Steps M → (M → Meaning) → M → List Call → Rows
law_rows steps meaning m calls = rows_at (first_rows (meaning (made_over steps m).store)) (run steps meaning (made_over steps m) calls) (length calls)

-- Whichever options the run was made with, each written block is told by its row of the law. Number 0 of a row is what
-- stood there when MAKE ended; the contents that were written follow it, from number 1 on.
pub record NumberedByLaw (grant : ℕ) (calls : List Call) (r : Run) (o : Outcome) : Type 0 where
  pub numbered :
      (options : Options) (w : RunWith options grant calls r)
      → let p = under_caches (vec_items options.caches) (bottom w.0) in
      map found_view (vec_items o.blocks)
      ≡ found_below (λ b. ((bottom_meaning r.bottom).line b).first) (λ b. drop 1 (law_rows p.steps p.meaning p.state calls b)) (counted r.bottom)
