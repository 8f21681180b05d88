-- A run over a store in state m: the replies, the law, what is found on the medium, and what the caches hold.
use Rattle.std.specs.Prelude.{◌≡◌, ℕ, List, map, length, vec_items}
use Rattle.store.specs.Steps.{Steps}
use Rattle.store.specs.Meaning.{Meaning}
use Rattle.rbc_steps.specs.Module.{made_over}
use Rattle.rbc_steps.specs.Calls.{Call}
use Rattle.run_law.specs.Runs.{run, meaning_at}
use Rattle.run_law.specs.Law.{Safe}
use Rattle.session.specs.Sessions.{told_of, told_by, left_by}
use Rattle.piles.specs.Bottoms.{granted, counted, Stands}
use Rattle.pile_runs.specs.declared.run.Run.{Run}

module _ {M : Type 0} (steps : Steps M) (meaning : M → Meaning) (held : M → ℕ) (m : M) (calls : List Call) where
  -- what the store means when the making is over, and at the end of the calls
  abbrev pub made : Meaning
  made = meaning (made_over steps m).store

  abbrev pub end : Meaning
  end = meaning_at made (run steps meaning (made_over steps m) calls) (length calls)

  pub record RunOf (r : Run) : Type 0 where
    pub replies : map told_by (vec_items r.replies) ≡ map told_of (run steps meaning (made_over steps m) calls)
    pub safe : Safe made (run steps meaning (made_over steps m) calls)
    -- each block of the medium is the first content of its line at the end
    pub stands : Stands end r.bottom
    pub count : counted r.bottom ≡ end.count
    pub grant : granted r.bottom ≡ end.grant
    -- so many contents the caches hold after the calls
    pub pending : r.pending ≡ held (left_by steps (made_over steps m) calls).store
