-- What a command writes, and the rows of contents that it adds to: a row for each block, numbered from 0, the last
-- being the latest.
use Rattle.std.specs.Prelude.{ℕ, zero, suc, ◌+◌, ◌-◌, ◌*◌, Bool, cond, ◌&&◌, ◌||◌, List, [], ◌∷◌, ◌++◌, take, drop, Ok, Err, Result, ◌==◌, nat_le, nat_lt}
use Rattle.store.specs.Steps.{Content}
use Rattle.store.specs.Meaning.{last_of}
use Rattle.sense.specs.declared.CommandError.{CommandError}
use Rattle.sense.specs.Report.{Answer, number}
use Rattle.commands.specs.Order.{Order, on_write}
use Rattle.cdb.specs.Decoding.{decoded}
use Rattle.rbc_steps.specs.Calls.{Call, Command, Reset, Event}

-- not refused: good, or power was lost on the way
abbrev pub carried_out : Answer → Bool → Bool
carried_out a powered = number a == 0 || (number a == 2 && powered)

-- block i of the bytes that a host sends
abbrev pub piece : List ℕ → ℕ → Content
piece bytes i = take 512 (drop (512 * i) bytes)

-- what f says of a WRITE by its address, length and data; of every other command `other`
abbrev pub of_write : {A : Type 0} → A → (ℕ → ℕ → List ℕ → A) → Result Order CommandError → A
of_write other f (Ok o) = on_write other f o
of_write other f (Err a) = other

-- a WRITE of n blocks from block a on adds one content to block b, if it is among them
abbrev pub added_to : ℕ → ℕ → ℕ → List ℕ → List Content
added_to b a n bytes = cond (nat_le a b && nat_lt b (a + n)) (piece bytes (b - a) ∷ []) []

-- the contents that a call adds to block b if it is carried out
abbrev pub adds : Call → ℕ → List Content
adds Reset b = []
adds (Command q) b = of_write [] (added_to b) (decoded q.cdb q.data_out)

-- how many contents it adds
abbrev pub writes : Call → ℕ
writes Reset = 0
writes (Command q) = of_write 0 (λ a n bytes. n) (decoded q.cdb q.data_out)

-- what was added, and how much, by a call with this answer
abbrev pub added : Call → Answer → Bool → ℕ → List Content
added c a powered b = cond (carried_out a powered) (adds c b) []

abbrev pub added_count : Call → Answer → Bool → ℕ
added_count c a powered = cond (carried_out a powered) (writes c) 0

abbrev pub Rows : Type 0
Rows = ℕ → List Content

abbrev pub entered : Rows → Event → Rows
entered rows e b = rows b ++ added e.call e.answer e.powered b

abbrev pub cost : Event → ℕ
cost e = added_count e.call e.answer e.powered

abbrev pub latest : List Content → Content
latest [] = []
latest (x ∷ xs) = last_of x xs

-- the latest contents of n blocks from block b on
abbrev pub latest_of : Rows → ℕ → ℕ → List ℕ
latest_of rows b zero = []
latest_of rows b (suc n) = latest_of rows b n ++ latest (rows (b + n))
