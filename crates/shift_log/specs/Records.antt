-- Log records: the block that each goes to, and how it stands there.
use Rattle.std.specs.Prelude.{◌≡◌, ℕ, ◌-◌, ◌/◌, ◌%◌, Bool, false, cond, List, [], ◌∷◌, replicate, Some, None, Option, Result, MatchResult, ◌==◌}
use Rattle.store.specs.Bytes.{from_be32}
use Rattle.store.specs.Steps.{Content}
use Rattle.shift_log.specs.declared.kind.Kind.{Kind}
use Rattle.shift_log.specs.declared.kind.Kind.TheVariants.{Encoder, BrakeCommand, BrakePressure}
use Rattle.shift_log.specs.declared.kind.UnknownKind.{UnknownKind}
use Rattle.shift_log.specs.declared.record.Record.{Record}

-- the brake acts in the last of `every` seconds; 0: never
abbrev pub brakes_at : ℕ → ℕ → Bool
brakes_at every second = cond (every == 0) false (second % every == every - 1)

abbrev pub kind_code : Kind → ℕ
kind_code Encoder = 1
kind_code BrakeCommand = 2
kind_code BrakePressure = 3

-- the encoder's records go round ten blocks; the brake has the next two
abbrev pub block_of_kind : Kind → ℕ → ℕ
block_of_kind Encoder second = second % 10
block_of_kind BrakeCommand second = 10
block_of_kind BrakePressure second = 11

abbrev pub block_of : Record → ℕ
block_of r = block_of_kind r.kind r.second

-- a byte for the kind, four for the second, the highest first, and zeros
abbrev pub encoded : Record → Content
encoded r =
    kind_code r.kind
    ∷ (r.second / 16777216 % 256)
    ∷ (r.second / 65536 % 256)
    ∷ (r.second / 256 % 256)
    ∷ (r.second % 256)
    ∷ replicate 507 0

abbrev pub kind_of : ℕ → Option Kind
kind_of code = cond (code == 1) (Some Encoder) (cond (code == 2) (Some BrakeCommand) (cond (code == 3) (Some BrakePressure) None))

-- the kind with this code, or the code back if no kind has it
abbrev pub IsKindOf : ℕ → Result Kind UnknownKind → Type 0
IsKindOf code r = MatchResult r (λ kind. kind_of code ≡ Some kind) (λ e. (kind_of code ≡ None) × (e.0 ≡ code))

abbrev pub record_of : Option Kind → ℕ → Option Record
record_of None second = None
record_of (Some kind) second = Some (record { kind = kind; second = second })

abbrev pub decoded : List ℕ → Option Record
decoded [] = None
decoded (k ∷ []) = None
decoded (k ∷ a ∷ []) = None
decoded (k ∷ a ∷ b ∷ []) = None
decoded (k ∷ a ∷ b ∷ c ∷ []) = None
decoded (k ∷ a ∷ b ∷ c ∷ d ∷ rest) = record_of (kind_of k) (from_be32 (a ∷ b ∷ c ∷ d ∷ []))
