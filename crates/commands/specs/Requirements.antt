-- What is asked of each command before it runs.
use Rattle.std.specs.Prelude.{ℕ, ◌+◌, ◌*◌, min, Bool, true, false, not, ◌&&◌, ◌||◌, List, [], ◌∷◌, length, ◌==◌, bit_and, nat_eq, nat_le}
use Rattle.commands.specs.Order.{Order, inquiry, mode_sense, read_capacity, read, code, on_inquiry, on_mode_select, on_mode_sense, on_start_stop, on_prevent_allow, on_transfer, on_write}
use Rattle.commands.specs.Codes.{one_of}
use Rattle.host_data.specs.Fields.{byte}

-- is served while a unit attention is pending
abbrev pub is_inquiry : Order → Bool
is_inquiry o = code o == 0x12

-- is served while another host holds the reservation: INQUIRY, RELEASE, READ CAPACITY, PREVENT ALLOW with 0, and
-- START STOP UNIT with Start 1 and power condition 0
abbrev pub passes_reservation : Order → Bool
passes_reservation o =
    one_of (code o) (0x12 ∷ 0x17 ∷ 0x25 ∷ [])
    || (on_prevent_allow false (λ p. nat_eq p 0) o || on_start_stop false (λ p s l. (p == 0) && s) o)

abbrev pub valid_fields : Order → Bool
valid_fields o =
    on_inquiry true (λ v p a. not v && p == 0) o
    && (on_mode_sense true (λ c p a. one_of c (0 ∷ 2 ∷ 3 ∷ []) && one_of p (0x06 ∷ 0x3f ∷ [])) o
    && (on_start_stop true (λ p s l. one_of p (0 ∷ 1 ∷ 2 ∷ 3 ∷ 5 ∷ 7 ∷ [])) o
    && (on_prevent_allow true (λ p. one_of p (0 ∷ 1 ∷ [])) o
    && on_transfer true (λ r a n. not r) o)))

-- needs a medium that is loaded and ready: TEST UNIT READY, READ CAPACITY, READ, WRITE, VERIFY, SYNCHRONIZE CACHE
abbrev pub uses_medium : Order → Bool
uses_medium o = one_of (code o) (0x00 ∷ 0x25 ∷ 0x28 ∷ 0x2a ∷ 0x2f ∷ 0x35 ∷ [])

abbrev pub in_range : ℕ → Order → Bool
in_range count o = on_transfer true (λ r a n. nat_le (a + n) count) o

abbrev pub writes : Order → Bool
writes o = code o == 0x2a

-- START STOP UNIT with power condition 0, Start 0 and LoEj 1
abbrev pub unloads : Order → Bool
unloads o = on_start_stop false (λ p s l. (p == 0) && (not s && l)) o

abbrev pub valid_list_length : Order → Bool
valid_list_length o = on_mode_select true (λ n l. (n == 0) || n == 17) o

-- how many bytes it returns
abbrev pub returned : Order → ℕ
returned (inquiry v p a) = min a 36
returned (mode_sense c p a) = min a 17
returned read_capacity = 8
returned (read r a n) = 512 * n
returned _ = 0

-- the host has sent the bytes that it takes
abbrev pub supplied : Order → Bool
supplied o = on_mode_select true (λ n l. nat_eq (length l) n) o && on_write true (λ a n d. nat_eq (length d) (512 * n)) o

-- an empty list; or bytes 1 to 3 zero, page 06h in the low bits of byte 4, and its length 0Bh in byte 5
abbrev pub mode_list : List ℕ → Bool
mode_list l =
    (length l == 0)
    || (byte l 1 == 0 && (byte l 2 == 0 && (byte l 3 == 0 && (bit_and (byte l 4) 0x3f == 0x06 && byte l 5 == 11))))

abbrev pub valid_parameters : Order → Bool
valid_parameters o = on_mode_select true (λ n l. mode_list l) o
