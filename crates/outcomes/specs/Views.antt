-- An outcome, by what its run left.
use Rattle.std.specs.Prelude.{◌≡◌, ℕ, [], List, map, nat_lt, vec_items}
use Rattle.sense.specs.Report.{Answer}
use Rattle.session.specs.declared.Reply.{Reply}
use Rattle.rbc_steps.specs.Calls.{Call}
use Rattle.piles.specs.Bottoms.{bottom_meaning, counted, granted}
use Rattle.pile_runs.specs.declared.run.Run.{Run}
use Rattle.outcomes.specs.declared.block.FoundBlock.{FoundBlock}
use Rattle.outcomes.specs.declared.outcome.Outcome.{Outcome}
use Rattle.outcomes.specs.Found.{Found, rows_after, found_below}
use Rattle.outcomes.specs.Totals.{totals}

abbrev pub answer_of_reply : Reply → Answer
answer_of_reply r = r.answer

abbrev pub found_view : FoundBlock → Found
found_view f = record { block = f.block; content = f.content; found = f.numbers.found; latest = f.numbers.latest }

-- the replies, the totals, and each block that was written, with what the next power-on finds there
pub record OutcomeOf (grant : ℕ) (calls : List Call) (run : Run) (o : Outcome) : Type 0 where
  pub replies : o.replies ≡ run.replies
  pub totals : o.totals ≡ totals grant (granted run.bottom) run.pending
  pub blocks :
      map found_view (vec_items o.blocks)
      ≡ found_below (λ b. ((bottom_meaning run.bottom).line b).first) (rows_after (λ _. []) (nat_lt 0 grant) calls (map answer_of_reply (vec_items run.replies))) (counted run.bottom)
