-- The queue cache: at most sixteen entries over the store below, in order of arrival.
use Rattle.std.specs.Prelude.{◌≡◌, ℕ, ◌≤◌, Bool, true, cond, List, [], ◌∷◌, ◌++◌, length, drop, is_some, Some, None, Ok, Option, ◌==◌, nat_lt}
use Rattle.store.specs.Steps.{Content, Steps, Stepped, stepped, next}
use Rattle.store.specs.Meaning.{Meaning}
use Rattle.cache.specs.declared.Entry.{Entry}
use Rattle.cache.specs.Entries.{sized}
use Rattle.cache.specs.Kinds.{CacheModel, CacheKind, holding, cache_steps, cache_meaning, CacheGood}
use Rattle.cache.specs.WriteBack.{write_back, raised}

abbrev pub QueueModel : Type 0 → Type 0
QueueModel B = CacheModel (List Entry) B

abbrev pub queued : {B : Type 0} → List Entry → B → QueueModel B
queued entries s = holding entries s

-- what is true of every queue
pub record QueueFits (es : List Entry) : Type 0 where
  pub few : length es ≤ 16
  pub sized : sized es ≡ true

-- the newest content of block b, or that of `found`
abbrev pub latest : Option Content → List Entry → ℕ → Option Content
latest found [] b = found
latest found (e ∷ es) b = latest (cond (b == e.block) (Some e.content) found) es b

-- is a content of block b held?
abbrev pub holds : ℕ → List Entry → Bool
holds b es = is_some (latest None es b)

-- is any content held?
abbrev pub any : List Entry → Bool
any es = nat_lt 0 (length es)

abbrev pub oldest : List Entry → Option Entry
oldest [] = None
oldest (e ∷ es) = Some e

-- the oldest entry, if there is one, is written back
abbrev pub evict_oldest : {B : Type 0} → Steps B → B → List Entry → Stepped (Unit {0}) (QueueModel B)
evict_oldest steps s es = raised (queued (drop 1 es)) (write_back steps s (oldest es))

-- while `wanted` says so, the oldest entry is written back
unfoldable pub drain : {B : Type 0} → Steps B → (List Entry → Bool) → B → List Entry → Stepped (Unit {0}) (QueueModel B)
drain steps wanted s [] = stepped (Ok tt) (queued [] s)
drain steps wanted s (e ∷ es) =
    cond (wanted (e ∷ es))
    (next (evict_oldest steps s (e ∷ es)) (λ _ u. drain steps wanted u.below es))
    (stepped (Ok tt) (queued (e ∷ es) s))

abbrev pub drained : {B : Type 0} → Steps B → (List Entry → Bool) → QueueModel B → Stepped (Unit {0}) (QueueModel B)
drained steps wanted q = drain steps wanted q.below q.held

-- to the end; if all sixteen places are taken, the oldest is written back first
abbrev pub queue_put : {B : Type 0} → Steps B → QueueModel B → Entry → Stepped (Unit {0}) (QueueModel B)
queue_put steps q e =
    next (cond (nat_lt (length q.held) 16) (stepped (Ok tt) q) (evict_oldest steps q.below q.held))
    (λ _ u. stepped (Ok tt) (queued (u.held ++ (e ∷ [])) u.below))

abbrev pub queue_kind : CacheKind
queue_kind =
    record {
      Held = List Entry;
      empty = [];
      entries = λ es. es;
      fits = QueueFits;
      lookup = latest None;
      put = queue_put;
      -- the oldest are written back until none of the block remains
      evict = λ steps q b. drained steps (holds b) q;
      -- oldest first
      evict_all = λ steps q. drained steps any q;
    }

abbrev pub queue_steps : {B : Type 0} → Steps B → Steps (QueueModel B)
queue_steps steps = cache_steps queue_kind steps

abbrev pub queue_meaning : {B : Type 0} → (B → Meaning) → QueueModel B → Meaning
queue_meaning meaning q = cache_meaning queue_kind meaning q

abbrev pub QueueGood : {B : Type 0} → (B → Type 0) → QueueModel B → Type 0
QueueGood good q = CacheGood queue_kind good q
