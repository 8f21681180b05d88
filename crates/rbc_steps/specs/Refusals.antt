-- A refused command changes nothing but the attention that it tells.
use Rattle.std.specs.Prelude.{◌≡◌, ℕ, ◌≢◌}
use Rattle.store.specs.Steps.{Steps}
use Rattle.sense.specs.Report.{number, Refused}
use Rattle.logical_unit.specs.State.{cleared}
use Rattle.rbc_steps.specs.Module.{Exchange, Reply}

pub record Unchanged {M : Type 0} (h : ℕ) (x : Exchange M) (r : Reply (Exchange M)) : Type 0 where
  pub store : r.after.target.store ≡ x.target.store
  pub data_in : r.after.data_in ≡ x.data_in
  -- number 6 tells the host its attention; no other number changes the logical unit
  pub told : number r.answer ≡ 6 → r.after.target.unit ≡ cleared h x.target.unit
  pub unit : (number r.answer ≢ 6) → r.after.target.unit ≡ x.target.unit

-- if the reply to host h is a refusal
abbrev pub RefusalKeeps : {M : Type 0} → Steps M → ℕ → Exchange M → Reply (Exchange M) → Type 0
RefusalKeeps s h x r = Refused (s.power x.target.store) r.answer → Unchanged h x r
