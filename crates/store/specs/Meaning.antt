-- What a store means: its block count, how many block stores the medium will still make, and a line of contents for each block.
use Rattle.std.specs.Prelude.{◌≡◌, ℕ, zero, suc, ◌+◌, ◌<◌, ◌≤◌, cond, ◌⊎◌, List, [], ◌∷◌, ◌++◌, length, ◌==◌}
use Rattle.store.specs.Steps.{Content}

-- the contents of one block, oldest first: the first stands on the medium, the last is what reading shows
pub record Line : Type 0 where
  pub first : Content
  pub later : List Content

abbrev pub contents : Line → List Content
contents l = l.first ∷ l.later

abbrev pub last_of : Content → List Content → Content
last_of x [] = x
last_of x (y ∷ ys) = last_of y ys

abbrev pub newest : Line → Content
newest l = last_of l.first l.later

-- the line, and these contents after it
abbrev pub followed : Line → List Content → Line
followed l xs = record { first = l.first; later = l.later ++ xs }

abbrev pub extended : Line → Content → Line
extended l x = followed l (x ∷ [])

-- the lines with x put at block b
abbrev pub added : (ℕ → Line) → ℕ → Content → ℕ → Line
added line b x k = cond (k == b) (extended (line k) x) (line k)

-- the grant is how many block stores the medium will still make; power is on while it is above 0
pub record Meaning : Type 0 where
  pub count : ℕ
  pub grant : ℕ
  pub line : ℕ → Line

abbrev pub sum_below : ℕ → (ℕ → ℕ) → ℕ
sum_below zero f = zero
sum_below (suc n) f = sum_below n f + f n

-- how many contents are held beyond those on the medium
abbrev pub held : Meaning → ℕ
held m = sum_below m.count (λ b. length (m.line b).later)

-- ys is xs with some contents struck out
pub data Thinned : List Content → List Content → Type 0 where
  none : Thinned [] []
  keep : {x : Content} {xs ys : List Content} → Thinned xs ys → Thinned (x ∷ xs) (x ∷ ys)
  strike : {x : Content} {xs ys : List Content} → Thinned xs ys → Thinned (x ∷ xs) ys

-- thinned, and the last content is still there
pub record Thins (l l' : Line) : Type 0 where
  pub thinned : Thinned (contents l) (contents l')
  pub shown : newest l' ≡ newest l

abbrev pub Among : Content → List Content → Type 0
Among x [] = ⊥
Among x (y ∷ ys) = (x ≡ y) ⊎ Among x ys

-- one content of the line is left, whichever it is
pub record Survives (l l' : Line) : Type 0 where
  pub single : l'.later ≡ []
  pub among : Among l'.first (contents l)

-- each content has the size of a block
abbrev pub Sized : List Content → Type 0
Sized [] = Unit {0}
Sized (x ∷ xs) = (length x ≡ 512) × Sized xs

-- what every meaning has, whatever was called
pub record Sound (m : Meaning) : Type 0 where
  pub some : 1 ≤ m.count
  pub few : m.count ≤ 16777216
  pub bounded : m.grant ≤ 4294967295
  pub sized : (b : ℕ) → b < m.count → Sized (contents (m.line b))
  -- a store without power has one content a block
  pub off : m.grant ≡ 0 → (b : ℕ) → b < m.count → (m.line b).later ≡ []

pub record Same (m m' : Meaning) : Type 0 where
  pub count : m'.count ≡ m.count
  pub grant : m'.grant ≡ m.grant
  pub line : (b : ℕ) → b < m.count → m'.line b ≡ m.line b
