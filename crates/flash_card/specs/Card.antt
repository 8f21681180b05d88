-- The flash card: pages of 516 bytes, each a 4-byte owner and the content of a block.
use Rattle.std.specs.Prelude.{ℕ, zero, suc, ◌+◌, ◌-◌, ◌*◌, ◌/◌, ◌<◌, Bool, true, cond, List, length, replicate, ◌==◌, nat_eq, nat_lt}
use Rattle.store.specs.Bytes.{part, placed, from_be32, to_be32}
use Rattle.store.specs.Steps.{Content}
use Rattle.medium.specs.Medium.{Medium, Fit}

pub record CardModel : Type 0 where
  pub bytes : List ℕ
  pub count : ℕ
  pub grant : ℕ
  pub hand : ℕ

-- as many pages as fit; bytes past the last one belong to none
abbrev pub pages : List ℕ → ℕ
pages bytes = length bytes / 516

-- the owner of page i
unfoldable pub owner : List ℕ → ℕ → ℕ
owner bytes i = from_be32 (part bytes (i * 516) 4)

unfoldable pub page_content : List ℕ → ℕ → Content
page_content bytes i = part bytes (i * 516 + 4) 512

-- the owner of a page that belongs to no block
abbrev pub nobody : ℕ
nobody = 0xFFFF_FFFF

-- of the n places from i on, the first that passes the test, or i + n
unfoldable pub first_from : (ℕ → Bool) → ℕ → ℕ → ℕ
first_from test i zero = i
first_from test i (suc n) = cond (test i) i (first_from test (suc i) n)

-- the first of n pages that block b owns, or n
abbrev pub first_page : List ℕ → ℕ → ℕ → ℕ
first_page bytes b n = first_from (λ i. nat_eq (owner bytes i) b) 0 n

unfoldable pub zeros : Content
zeros = replicate 512 0

-- what block b shows: its first page, or zeros if it has none
abbrev pub shown : List ℕ → ℕ → Content
shown bytes b =
    let n = pages bytes in
    let i = first_page bytes b n in
    cond (nat_lt i n) (page_content bytes i) zeros

-- page i is free: its owner is not below the count, or an earlier page has that owner
abbrev pub free : List ℕ → ℕ → ℕ → Bool
free bytes count i = cond (nat_lt (owner bytes i) count) (nat_lt (first_page bytes (owner bytes i) i) i) true

-- place i, counted round n pages
abbrev pub round : ℕ → ℕ → ℕ
round n i = cond (nat_lt i n) i (i - n)

-- how many pages, counting round from the hand, come before the first free one
abbrev pub skipped : CardModel → ℕ
skipped s =
    let n = pages s.bytes in
    first_from (λ k. free s.bytes s.count (round n (s.hand + k))) 0 n

-- the first free page, counting round from the hand
abbrev pub free_page : CardModel → ℕ
free_page s = round (pages s.bytes) (s.hand + skipped s)

-- page i takes the content, and then block b as its owner
abbrev pub write_page : List ℕ → ℕ → ℕ → Content → List ℕ
write_page bytes i b x = placed (placed bytes (i * 516 + 4) x) (i * 516) (to_be32 b)

-- page i, if block b owns it and it is not page p, is given to nobody
abbrev pub disown : List ℕ → ℕ → ℕ → ℕ → List ℕ
disown bytes b p i = cond (i == p) bytes (cond (owner bytes i == b) (placed bytes (i * 516) (to_be32 nobody)) bytes)

-- so are the first n pages
unfoldable pub disown_first : List ℕ → ℕ → ℕ → ℕ → List ℕ
disown_first bytes b p zero = bytes
disown_first bytes b p (suc n) = disown (disown_first bytes b p n) b p n

-- The first free page takes the content; then every other page of the block is given to nobody.
abbrev pub card_put : CardModel → ℕ → Content → CardModel
card_put s b x =
    let n = pages s.bytes in
    let p = free_page s in
    record {
      bytes = disown_first (write_page s.bytes p b x) b p n;
      count = s.count;
      grant = s.grant - 1;
      hand = round n (p + 1);
    }

abbrev pub card : Medium CardModel
card = record { count = λ s. s.count; grant = λ s. s.grant; shown = λ s b. shown s.bytes b; put = card_put }

pub record CardGood (s : CardModel) : Type 0 where
  pub fit : Fit s.count s.grant ((s.count + 1) * 516) (length s.bytes)
  pub hand : s.hand < pages s.bytes
