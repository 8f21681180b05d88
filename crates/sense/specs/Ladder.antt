-- A ladder of tests: the first that fails gives the answer.
use Rattle.std.specs.Prelude.{Bool, cond, List, [], ◌∷◌, Ok, Err, Result}
use Rattle.sense.specs.declared.CommandError.{CommandError}

pub record Rung : Type 0 where
  pub holds : Bool
  pub refusal : CommandError

abbrev pub rung : Bool → CommandError → Rung
rung holds refusal = record { holds = holds; refusal = refusal }

abbrev pub first_no : List Rung → Result (Unit {0}) CommandError
first_no [] = Ok tt
first_no (r ∷ rs) = cond r.holds (first_no rs) (Err r.refusal)

-- a, unless there was a refusal
abbrev pub unless_refused : {A : Type 0} → Result (Unit {0}) CommandError → A → Result A CommandError
unless_refused (Ok u) a = Ok a
unless_refused (Err e) a = Err e
