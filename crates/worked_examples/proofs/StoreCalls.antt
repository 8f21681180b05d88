-- What calls on a store preserve, a list of them does.
use Rattle.std.proofs.Common.{List, [], ◌∷◌}
use Rattle.store.specs.Steps.{Steps}
use Rattle.store.specs.Meaning.{Meaning}
use Rattle.store.specs.Keeps.{Keeps}
use Rattle.cache.specs.Preserves.{Preserves}
use Rattle.worked_examples.specs.StoreCalls.{StoreCall, reading, putting, forcing, flushing, PutsBlocks, left_by_all}

module _ {M : Type 0} (steps : Steps M) (meaning : M → Meaning) (good P : M → Type 0) (K : Keeps steps meaning good) (V : Preserves steps good P) where
  pub preserved : (s : M) → good s → P s → (calls : List StoreCall) → PutsBlocks calls → P (left_by_all steps calls s)
  preserved s g p [] z = p
  preserved s g p (reading b ∷ calls) z = preserved (steps.read s b).after (K.read_good s b g) (V.reads s b g p) calls z
  preserved s g p (putting b x ∷ calls) z = preserved (steps.put s b x).after (K.put_good s b x g z.0) (V.puts s b x g z.0 p) calls z.1
  preserved s g p (forcing b ∷ calls) z = preserved (steps.force s b).after (K.force_good s b g) (V.forces s b g p) calls z
  preserved s g p (flushing ∷ calls) z = preserved (steps.flush s).after (K.flush_good s g) (V.flushes s g p) calls z
