-- A command with its fields and the bytes that it carries.
use Rattle.std.specs.Prelude.{ℕ, Bool, List}

pub data Order : Type 0 where
  test_unit_ready : Order
  -- vital product data, page, allocation length
  inquiry : Bool → ℕ → ℕ → Order
  -- list length, list
  mode_select : ℕ → List ℕ → Order
  reserve : Order
  release : Order
  -- page control, page, allocation length
  mode_sense : ℕ → ℕ → ℕ → Order
  -- power condition, Start, LoEj
  start_stop : ℕ → Bool → Bool → Order
  -- prevent
  prevent_allow : ℕ → Order
  read_capacity : Order
  -- relative address, address, length
  read : Bool → ℕ → ℕ → Order
  -- relative address, FUA, address, length, data
  write : Bool → Bool → ℕ → ℕ → List ℕ → Order
  -- relative address, address, length
  verify : Bool → ℕ → ℕ → Order
  synchronize_cache : Order

-- the operation code
abbrev pub code : Order → ℕ
code test_unit_ready = 0x00
code (inquiry v p a) = 0x12
code (mode_select n l) = 0x15
code reserve = 0x16
code release = 0x17
code (mode_sense c p a) = 0x1a
code (start_stop p s l) = 0x1b
code (prevent_allow p) = 0x1e
code read_capacity = 0x25
code (read r a n) = 0x28
code (write r u a n d) = 0x2a
code (verify r a n) = 0x2f
code synchronize_cache = 0x35

-- What f says of one kind of command, by its fields; of every other command `other`.
abbrev pub on_inquiry : {A : Type 0} → A → (Bool → ℕ → ℕ → A) → Order → A
on_inquiry other f (inquiry v p a) = f v p a
on_inquiry other f _ = other

abbrev pub on_mode_select : {A : Type 0} → A → (ℕ → List ℕ → A) → Order → A
on_mode_select other f (mode_select n l) = f n l
on_mode_select other f _ = other

abbrev pub on_mode_sense : {A : Type 0} → A → (ℕ → ℕ → ℕ → A) → Order → A
on_mode_sense other f (mode_sense c p a) = f c p a
on_mode_sense other f _ = other

abbrev pub on_start_stop : {A : Type 0} → A → (ℕ → Bool → Bool → A) → Order → A
on_start_stop other f (start_stop p s l) = f p s l
on_start_stop other f _ = other

abbrev pub on_prevent_allow : {A : Type 0} → A → (ℕ → A) → Order → A
on_prevent_allow other f (prevent_allow p) = f p
on_prevent_allow other f _ = other

-- READ, WRITE and VERIFY
abbrev pub on_transfer : {A : Type 0} → A → (Bool → ℕ → ℕ → A) → Order → A
on_transfer other f (read r a n) = f r a n
on_transfer other f (write r u a n d) = f r a n
on_transfer other f (verify r a n) = f r a n
on_transfer other f _ = other

abbrev pub on_write : {A : Type 0} → A → (ℕ → ℕ → List ℕ → A) → Order → A
on_write other f (write r u a n d) = f a n d
on_write other f _ = other
