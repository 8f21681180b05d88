-- A pile of empty caches keeps the law of stores, and holds nothing.
use Rattle.std.proofs.Common.{◌≡◌, ℕ, ◌+◌, ◌*◌, ◌≤◌, Bool, true, false, cond, ltb, List, [], ◌∷◌, ◌++◌, vec_len, refl, ap, ◌∙◌, arith}
use Rattle.store.specs.Steps.{Steps}
use Rattle.store.specs.Meaning.{Meaning, followed}
use Rattle.store.specs.Keeps.{Keeps}
use Rattle.flat_medium.specs.Flat.{FlatModel, FlatGood}
use Rattle.flat_medium.specs.FlatKeeps.{flat_keeps}
use Rattle.flash_card.specs.Card.{CardModel, CardGood}
use Rattle.flash_card.specs.CardKeeps.{card_keeps}
use Rattle.cache.specs.declared.Entry.{Entry}
use Rattle.cache.specs.Entries.{waiting, over}
use Rattle.cache.specs.Kinds.{CacheKind, cache_steps, cache_meaning, CacheGood}
use Rattle.table_cache.specs.Table.{table_kind, empty_table, TableFits}
use Rattle.table_cache.specs.TableKeeps.{table_keeps}
use Rattle.queue_cache.specs.Queue.{queue_kind, QueueFits}
use Rattle.queue_cache.specs.QueueKeeps.{queue_keeps}
use Rattle.recorder_options.specs.declared.kinds.CacheKind.{CacheKind as Kind}
use Rattle.recorder_options.specs.declared.kinds.CacheKind.TheVariants.{Table, Queue}
use Rattle.piles.specs.declared.made.MediumKind.{MediumKind}
use Rattle.piles.specs.declared.made.MediumKind.TheVariants as kinds
use Rattle.piles.specs.declared.bottom.Bottom.{Bottom}
use Rattle.piles.specs.declared.bottom.Bottom.TheVariants.{Flat, Card}
use Rattle.piles.specs.Bottoms.{granted, IsNew}
use Rattle.piles.specs.Orders.{Start, bottom, under_cache, under_caches}

-- a pile that holds nothing, with this grant
pub record Empty (grant : ℕ) (p : Start) : Type 1 where
  pub good : p.Model → Type 0
  pub keeps : Keeps p.steps p.meaning good
  pub safe : good p.state
  pub grants : (p.meaning p.state).grant ≡ grant
  pub none : (b : ℕ) → ((p.meaning p.state).line b).later ≡ []

none_over : (m : Meaning) (es : List Entry) → es ≡ [] → ((b : ℕ) → (m.line b).later ≡ []) → (b : ℕ) → ((over m (waiting es)).line b).later ≡ []
none_over m es e none b = ap (λ (xs : List Entry). ((over m (waiting xs)).line b).later) e ∙ go (ltb 0 m.grant)
  where
    go : (v : Bool) → (cond v (followed (m.line b) []) (m.line b)).later ≡ []
    go true = ap (λ (xs : List (List ℕ)). xs ++ []) (none b)
    go false = none b

-- the law, of a cache of this kind over every store
abbrev KeptOver : CacheKind → Type 1
KeptOver kind =
    (B : Type 0) (steps : Steps B) (meaning : B → Meaning) (good : B → Type 0) → Keeps steps meaning good
    → Keeps (cache_steps kind steps) (cache_meaning kind meaning) (CacheGood kind good)

-- an empty cache over such a pile
module _ (kind : CacheKind) (keeps : KeptOver kind) (fits : kind.fits kind.empty) (nothing : kind.entries kind.empty ≡ []) where
  empty_cache : {grant : ℕ} (p : Start) → Empty grant p → Empty grant (under_cache kind p)
  empty_cache p e =
      record {
        good = CacheGood kind e.good;
        keeps = keeps p.Model p.steps p.meaning e.good e.keeps;
        safe = record { below = e.safe; held = fits };
        grants = e.grants;
        none = none_over (p.meaning p.state) (kind.entries kind.empty) nothing e.none;
      }

table_fits : TableFits empty_table
table_fits = record { eight = refl; apart = λ b. omega arith; sized = refl; hand = omega arith }

queue_fits : QueueFits []
queue_fits = record { few = omega arith; sized = refl }

pub empty_caches : {grant : ℕ} (caches : List Kind) (p : Start) → Empty grant p → Empty grant (under_caches caches p)
empty_caches [] p e = e
empty_caches (Table ∷ caches) p e =
    empty_caches caches (under_cache table_kind p)
    (empty_cache table_kind (λ B steps meaning good K. table_keeps steps meaning good K) table_fits refl p e)
empty_caches (Queue ∷ caches) p e =
    empty_caches caches (under_cache queue_kind p)
    (empty_cache queue_kind (λ B steps meaning good K. queue_keeps steps meaning good K) queue_fits refl p e)

-- a medium by itself
pub only_medium : {grant : ℕ} (m : Bottom) → granted m ≡ grant → Empty grant (bottom m)
only_medium (Flat m) e =
    let room : m.count * 512 ≤ vec_len m.layout.memory = m.room in
    let size = m.layout.memory.ok.0 in
    record {
      good = FlatGood;
      keeps = flat_keeps;
      safe = record { some = m.some; few = m.few; granted = m.granted; room = omega arith };
      grants = e;
      none = λ b. refl;
    }
only_medium (Card c) e =
    let room : (c.count + 1) * 516 ≤ vec_len c.layout.pages.memory = c.room in
    let size = c.layout.pages.memory.ok.0 in
    let hand = c.layout.within in
    record {
      good = CardGood;
      keeps = card_keeps;
      safe = record { fit = record { some = c.some; few = c.few; granted = c.granted; room = omega arith }; hand = omega arith };
      grants = e;
      none = λ b. refl;
    }

pub new_grant : (kind : MediumKind) (blocks grant : ℕ) (m : Bottom) → IsNew kind blocks grant m → granted m ≡ grant
new_grant kinds.Flat blocks grant (Flat m) e = ap (λ (s : FlatModel). s.grant) e
new_grant kinds.Flat blocks grant (Card c) e = absurd e
new_grant (kinds.Card pages) blocks grant (Flat m) e = absurd e
new_grant (kinds.Card pages) blocks grant (Card c) e = ap (λ (s : CardModel). s.grant) e
