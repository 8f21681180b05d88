-- What the card keeps beside its bytes, and how it follows from them.
use Rattle.std.specs.Prelude.{◌≡◌, ℕ, ◌*◌, ◌/◌, ◌<◌, ◌≤◌, Bool, true, false, cond, List, length, Option, MatchOption, ◌==◌, ◌≢◌, nat_lt, slice_index_or}
use Rattle.flash_card.specs.Card.{pages, owner, first_page, free, disown_first}

-- of the marks from place i to n, the one at r is the first that is set
abbrev pub FirstMarked : List Bool → ℕ → ℕ → Option ℕ → Type 0
FirstMarked marks i n r =
    MatchOption r ((k : ℕ) → i ≤ k → k < n → slice_index_or marks k false ≡ false)
    (λ p. (i ≤ p) × (p < n) × (slice_index_or marks p false ≡ true) × ((k : ℕ) → i ≤ k → k < p → slice_index_or marks k false ≡ false))

-- of the marks, some one of group g is set
pub record HasMark (marks : List Bool) (g : ℕ) : Type 0 where
  pub place : ℕ
  pub inside : place / 64 ≡ g
  pub marked : slice_index_or marks place false ≡ true

-- The groups of 64 places that a search for a mark goes into: those with a mark, and no others.
pub record Grouped (marks groups : List Bool) : Type 0 where
  pub enough : length marks < length groups * 64
  pub covered : (i : ℕ) → slice_index_or marks i false ≡ true → slice_index_or groups (i / 64) false ≡ true
  pub needed : (g : ℕ) → slice_index_or groups g false ≡ true → ∥ HasMark marks g ∥₁

-- The tables of a card, of whose pages the first m are entered.
pub record Entered (bytes : List ℕ) (m : ℕ) (shown : List ℕ) (stale vacant : List Bool) : Type 0 where
  pub marks : length stale ≡ length shown
  pub room : length vacant ≡ pages bytes
  -- each block's first page, or the number of pages if it has none
  pub first :
      (b : ℕ) → b < length shown → slice_index_or shown b 0 ≡ cond (nat_lt (first_page bytes b m) m) (first_page bytes b m) (pages bytes)
  -- a block with no mark has no other page
  pub single :
      (b i : ℕ) → b < length shown → slice_index_or stale b false ≡ false → i < m → owner bytes i ≡ b → i ≡ slice_index_or shown b 0
  pub frees : (i : ℕ) → i < m → slice_index_or vacant i false ≡ free bytes (length shown) i

-- each marked block has, among the first m pages, one behind its first
abbrev pub Further : List ℕ → ℕ → List ℕ → List Bool → Type 0
Further bytes m shown stale =
    (b : ℕ) → b < length shown → slice_index_or stale b false ≡ true → (i : ℕ) × (i < m) × (owner bytes i ≡ b) × (slice_index_or shown b 0 < i)

-- no page from page m on is marked as free
abbrev pub Unmarked : ℕ → List Bool → Type 0
Unmarked m vacant = (i : ℕ) → m ≤ i → slice_index_or vacant i false ≡ false

-- the first n pages are given up where block b owned them, but for page p, and are then free
pub record GivenUp (bytes bytes' : List ℕ) (b p n : ℕ) (vacant vacant' : List Bool) : Type 0 where
  pub items : bytes' ≡ disown_first bytes b p n
  pub room : length vacant' ≡ length vacant
  pub below :
      (j : ℕ) → j < n → (j ≢ p) → slice_index_or vacant' j false ≡ cond (owner bytes j == b) true (slice_index_or vacant j false)
  pub above : (j : ℕ) → n ≤ j → slice_index_or vacant' j false ≡ slice_index_or vacant j false
