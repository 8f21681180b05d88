-- How many block stores were made, and what is held.
use Rattle.std.specs.Prelude.{ℕ, ◌-◌, cond, nat_lt}
use Rattle.outcomes.specs.declared.totals.Totals.{Totals}

-- Of a grant of which so many are left, with so many contents in the caches; without power none is held.
abbrev pub totals : ℕ → ℕ → ℕ → Totals
totals grant left pending =
    let power = nat_lt 0 left in
    record { stores = grant - left; held = cond power pending 0; power = power }
