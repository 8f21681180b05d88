-- A medium: each block has the one content that stands there, a put is one store, and force and flush do nothing.
use Rattle.std.specs.Prelude.{◌≡◌, ℕ, ◌-◌, ◌<◌, ◌≤◌, cond, [], Ok, ◌==◌, nat_lt}
use Rattle.store.specs.Steps.{Content, Answer, Steps, stepped, if_power, guarding}
use Rattle.store.specs.Meaning.{Meaning}

-- a medium by what each block shows, and by what a store of a block leaves
pub record Medium (M : Type 0) : Type 0 where
  pub count : M → ℕ
  pub grant : M → ℕ
  pub shown : M → ℕ → Content
  pub put : M → ℕ → Content → M

-- the answer to a store that leaves this grant
abbrev pub stored : ℕ → Answer (Unit {0})
stored grant = if_power (nat_lt 0 grant)

abbrev pub medium_runs : {M : Type 0} → Medium M → Steps M
medium_runs medium =
    record {
      count = medium.count;
      power = λ s. nat_lt 0 (medium.grant s);
      read = λ s b. stepped (Ok (medium.shown s b)) s;
      put = λ s b x. stepped (stored (medium.grant s - 1)) (medium.put s b x);
      force = λ s b. stepped (Ok tt) s;
      flush = λ s. stepped (Ok tt) s;
    }

abbrev pub medium_steps : {M : Type 0} → Medium M → Steps M
medium_steps medium = guarding (medium_runs medium)

abbrev pub medium_meaning : {M : Type 0} → Medium M → M → Meaning
medium_meaning medium s =
    record { count = medium.count s; grant = medium.grant s; line = λ b. record { first = medium.shown s b; later = [] } }

-- the count and the grant are in range, and `size` bytes of memory hold those that are needed
pub record Fit (count grant needed size : ℕ) : Type 0 where
  pub some : 1 ≤ count
  pub few : count ≤ 16777216
  pub granted : grant ≤ 4294967295
  pub room : needed ≤ size

-- The law of a store of one block: it shows its new content, every other block shows what it showed, and the
-- grant falls by exactly 1.
pub record Stores {M : Type 0} (medium : Medium M) (b : ℕ) (x : Content) (s s' : M) : Type 0 where
  pub count : medium.count s' ≡ medium.count s
  pub grant : medium.grant s' ≡ medium.grant s - 1
  pub shown : (k : ℕ) → k < medium.count s → medium.shown s' k ≡ cond (k == b) x (medium.shown s k)
