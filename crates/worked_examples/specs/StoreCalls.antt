-- Lists of calls on a store; and what no list of calls on a cache ends.
use Rattle.std.specs.Prelude.{◌≡◌, ℕ, List, [], ◌∷◌, length}
use Rattle.store.specs.Steps.{Content, Steps}
use Rattle.store.specs.Meaning.{Meaning}
use Rattle.cache.specs.Kinds.{CacheModel, CacheKind, cache_steps, CacheGood, BlocksWithin}

pub data StoreCall : Type 0 where
  reading : ℕ → StoreCall
  putting : ℕ → Content → StoreCall
  forcing : ℕ → StoreCall
  flushing : StoreCall

-- each content that is put has the size of a block
abbrev pub PutsBlocks : List StoreCall → Type 0
PutsBlocks [] = Unit {0}
PutsBlocks (putting b x ∷ calls) = (length x ≡ 512) × PutsBlocks calls
PutsBlocks (_ ∷ calls) = PutsBlocks calls

-- what a call leaves
abbrev pub left_by : {M : Type 0} → Steps M → StoreCall → M → M
left_by steps (reading b) s = (steps.read s b).after
left_by steps (putting b x) s = (steps.put s b x).after
left_by steps (forcing b) s = (steps.force s b).after
left_by steps flushing s = (steps.flush s).after

-- what calls leave, one after the other
abbrev pub left_by_all : {M : Type 0} → Steps M → List StoreCall → M → M
left_by_all steps [] s = s
left_by_all steps (call ∷ calls) s = left_by_all steps calls (left_by steps call s)

-- A cache of this kind that holds only blocks below the count, as a new one does, holds only such blocks after any calls.
abbrev pub StaysWithin : (kind : CacheKind) {B : Type 0} → Steps B → (B → Meaning) → (B → Type 0) → Type 0
StaysWithin kind {B} steps meaning good =
    (c : CacheModel kind.Held B) → CacheGood kind good c → BlocksWithin kind meaning c → (calls : List StoreCall) → PutsBlocks calls
    → BlocksWithin kind meaning (left_by_all (cache_steps kind steps) calls c)
