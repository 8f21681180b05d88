-- The entries of a cache, and the meaning that they give to the store below.
use Rattle.std.specs.Prelude.{ℕ, Bool, cond, List, [], ◌∷◌, length, ◌==◌, nat_eq, nat_lt}
use Rattle.std.specs.List.{list_all}
use Rattle.store.specs.Steps.{Content}
use Rattle.store.specs.Meaning.{Meaning, followed}
use Rattle.cache.specs.declared.Entry.{Entry}

-- the contents held for block b, in order
abbrev pub waiting : List Entry → ℕ → List Content
waiting [] b = []
waiting (e ∷ es) b = cond (b == e.block) (e.content ∷ waiting es b) (waiting es b)

-- The meaning of a cache over a store that means m: each line goes on with what the cache holds; without
-- power the lines are those below.
abbrev pub over : Meaning → (ℕ → List Content) → Meaning
over m extra =
    record {
      count = m.count;
      grant = m.grant;
      line = λ b. cond (nat_lt 0 m.grant) (followed (m.line b) (extra b)) (m.line b);
    }

-- each content has the size of a block
abbrev pub sized : List Entry → Bool
sized es = list_all (λ e. nat_eq (length e.content) 512) es

-- each block is below the count
abbrev pub within : ℕ → List Entry → Bool
within count es = list_all (λ e. nat_lt e.block count) es
