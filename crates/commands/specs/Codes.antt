-- The codes of what the fields of commands ask for.
use Rattle.std.specs.Prelude.{ℕ, Bool, false, cond, ◌||◌, List, [], ◌∷◌, ◌==◌}
use Rattle.commands.specs.declared.fields.PowerCondition.{PowerCondition}
use Rattle.commands.specs.declared.fields.PowerCondition.TheVariants as power
use Rattle.commands.specs.declared.fields.PageControl.{PageControl}
use Rattle.commands.specs.declared.fields.PageControl.TheVariants as control
use Rattle.commands.specs.declared.fields.Removal.{Removal}
use Rattle.commands.specs.declared.fields.Removal.TheVariants as removal

abbrev pub one_of : ℕ → List ℕ → Bool
one_of n [] = false
one_of n (m ∷ ms) = n == m || one_of n ms

-- A reserved code is none that has a name: one that is counts as 255, which has none in any field.
abbrev pub reserved : ℕ → List ℕ → ℕ
reserved n named = cond (one_of n named) 255 n

abbrev pub power_code : PowerCondition → ℕ
power_code power.NoChange = 0
power_code power.Active = 1
power_code power.Idle = 2
power_code power.Standby = 3
power_code power.Sleep = 5
power_code power.DeviceControl = 7
power_code (power.Reserved n) = reserved n (0 ∷ 1 ∷ 2 ∷ 3 ∷ 5 ∷ 7 ∷ [])

abbrev pub control_code : PageControl → ℕ
control_code control.Current = 0
control_code control.Changeable = 1
control_code control.Defaults = 2
control_code control.Saved = 3
control_code (control.Reserved n) = reserved n (0 ∷ 1 ∷ 2 ∷ 3 ∷ [])

abbrev pub prevent_code : Removal → ℕ
prevent_code removal.Allowed = 0
prevent_code removal.Prevented = 1
prevent_code (removal.Reserved n) = reserved n (0 ∷ 1 ∷ [])
