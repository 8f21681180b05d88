-- The mode page: a header of four bytes, then a page of thirteen.
use Rattle.std.specs.Prelude.{ℕ, ◌+◌, false, cond, List, [], ◌∷◌, ◌++◌, length, Some, None, Option, ◌==◌}
use Rattle.store.specs.Bytes.{to_be32}
use Rattle.host_data.specs.Fields.{byte, bit}
use Rattle.logical_unit.specs.declared.settings.Settings.{Settings}

abbrev pub default_settings : Settings
default_settings = record { wcd = false; performance = 0x80; writed = false }

-- Header; page code and length; WCD in bit 0; block size, 2 bytes; count, 5 bytes; power/performance; WRITED in bit 2,
-- with bit 1 set; and 0.
unfoldable pub mode_data : ℕ → Settings → List ℕ
mode_data count p =
    0x10 ∷ 0 ∷ 0 ∷ 0 ∷ 0x86 ∷ 0x0b ∷ cond p.wcd 1 0 ∷ 2 ∷ 0 ∷ 0 ∷ (to_be32 count ++ (p.performance ∷ (2 + cond p.writed 4 0) ∷ 0 ∷ []))

-- the settings in a list that is laid out so; a list of another length has none
abbrev pub selected : List ℕ → Option Settings
selected l = cond (length l == 17) (Some (record { wcd = bit 1 (byte l 6); performance = byte l 14; writed = bit 4 (byte l 15) })) None
