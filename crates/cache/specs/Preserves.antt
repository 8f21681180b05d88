-- A property of a store's model that no call ends.
use Rattle.std.specs.Prelude.{◌≡◌, ℕ, length}
use Rattle.store.specs.Steps.{Content, Steps}

-- every call that starts where P holds ends there
pub record Preserves {M : Type 0} (steps : Steps M) (good P : M → Type 0) : Type 0 where
  pub reads : (s : M) (b : ℕ) → good s → P s → P (steps.read s b).after
  pub puts : (s : M) (b : ℕ) (x : Content) → good s → length x ≡ 512 → P s → P (steps.put s b x).after
  pub forces : (s : M) (b : ℕ) → good s → P s → P (steps.force s b).after
  pub flushes : (s : M) → good s → P s → P (steps.flush s).after
