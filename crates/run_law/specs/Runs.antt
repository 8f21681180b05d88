-- A run: calls one after the other, and what is seen of each.
use Rattle.std.specs.Prelude.{ℕ, zero, suc, List, [], ◌∷◌}
use Rattle.store.specs.Steps.{Steps}
use Rattle.store.specs.Meaning.{Meaning}
use Rattle.rbc_steps.specs.Module.{ModuleModel}
use Rattle.rbc_steps.specs.Calls.{Call, Event, called, event}

abbrev pub run : {M : Type 0} → Steps M → (M → Meaning) → ModuleModel M → List Call → List Event
run steps meaning w [] = []
run steps meaning w (c ∷ cs) = event steps meaning w c ∷ run steps meaning (called steps w c).after.target cs

-- What the store means at a time: time 0 is when the making is over, and time k + 1 when call k is; past the last call
-- nothing changes.
abbrev pub meaning_at : Meaning → List Event → ℕ → Meaning
meaning_at m es zero = m
meaning_at m [] (suc k) = m
meaning_at m (e ∷ es) (suc k) = meaning_at e.meaning es k
