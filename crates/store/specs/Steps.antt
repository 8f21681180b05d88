-- A store by its steps: for each call, what it answers and the model that it leaves.
use Rattle.std.specs.Prelude.{ℕ, Bool, cond, List, Ok, Err, Result, nat_lt}
use Rattle.store.specs.declared.StoreError.{StoreError}
use Rattle.store.specs.declared.StoreError.TheVariants.{PowerOff, NoSuchBlock}

-- the bytes of one block
abbrev pub Content : Type 0
Content = List ℕ

abbrev pub Answer : Type 0 → Type 0
Answer A = Result A StoreError

-- the number of an answer: 0 good, 1 power off or lost, 2 no such block
abbrev pub number : {A : Type 0} → Answer A → ℕ
number (Ok a) = 0
number (Err PowerOff) = 1
number (Err NoSuchBlock) = 2

-- what a call answered, and the model that it left
pub record Stepped (A M : Type 0) : Type 0 where
  pub answer : Answer A
  pub after : M

abbrev pub stepped : {A M : Type 0} → Answer A → M → Stepped A M
stepped r s = record { answer = r; after = s }

pub record Steps (M : Type 0) : Type 0 where
  pub count : M → ℕ
  pub power : M → Bool
  pub read : M → ℕ → Stepped Content M
  pub put : M → ℕ → Content → Stepped (Unit {0}) M
  pub force : M → ℕ → Stepped (Unit {0}) M
  pub flush : M → Stepped (Unit {0}) M

-- a call, and, unless it failed, a second one from what it left
abbrev pub next : {A B M : Type 0} → Stepped A M → (A → M → Stepped B M) → Stepped B M
next c go = elim c.answer [ Ok a ↦ go a c.after | Err e ↦ stepped (Err e) c.after ]

-- good while there is power
abbrev pub if_power : Bool → Answer (Unit {0})
if_power power = cond power (Ok tt) (Err PowerOff)

-- the refusals of a call on block b, in their order
abbrev pub admitted : ℕ → ℕ → Bool → Answer (Unit {0})
admitted b count power = cond (nat_lt b count) (if_power power) (Err NoSuchBlock)

-- what runs if there is power
abbrev pub powered : {A M : Type 0} → Bool → M → Stepped A M → Stepped A M
powered power s run = next (stepped (if_power power) s) (λ _ _. run)

-- what runs if nothing refuses it
abbrev pub guarded : {A M : Type 0} → ℕ → Bool → ℕ → M → Stepped A M → Stepped A M
guarded count power b s run = next (stepped (admitted b count power) s) (λ _ _. run)

-- a store by what its calls run once nothing refuses them
abbrev pub guarding : {M : Type 0} → Steps M → Steps M
guarding runs =
    record {
      count = runs.count;
      power = runs.power;
      read = λ s b. guarded (runs.count s) (runs.power s) b s (runs.read s b);
      put = λ s b x. guarded (runs.count s) (runs.power s) b s (runs.put s b x);
      force = λ s b. guarded (runs.count s) (runs.power s) b s (runs.force s b);
      flush = λ s. powered (runs.power s) s (runs.flush s);
    }
