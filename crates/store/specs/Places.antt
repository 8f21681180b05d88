-- The place where a search ends, if it is one of n.
use Rattle.std.specs.Prelude.{ℕ, cond, Some, None, Option, nat_lt}

-- i, if it is below n
abbrev pub if_below : ℕ → ℕ → Option ℕ
if_below n i = cond (nat_lt i n) (Some i) None
