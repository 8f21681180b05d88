-- Whether memory and a block count make a medium.
use Rattle.std.specs.Prelude.{ℕ, cond, ◌&&◌, Ok, Err, Result, nat_le}
use Rattle.medium.specs.declared.Unfit.{Unfit}
use Rattle.medium.specs.declared.Unfit.TheVariants.{Count, Memory}

-- the number of each answer
abbrev pub check_number : Result (Unit {0}) Unfit → ℕ
check_number (Ok u) = 0
check_number (Err Count) = 17
check_number (Err Memory) = 18

-- is the count in range, and does the memory of `size` bytes hold those that it needs?
abbrev pub checked : ℕ → ℕ → ℕ → Result (Unit {0}) Unfit
checked count needed size = cond (nat_le 1 count && nat_le count 16777216) (cond (nat_le needed size) (Ok tt) (Err Memory)) (Err Count)
