-- The flat medium: block b stands at bytes 512 × b to 512 × b + 511.
use Rattle.std.specs.Prelude.{ℕ, ◌-◌, ◌*◌, List, length}
use Rattle.store.specs.Bytes.{part, placed}
use Rattle.medium.specs.Medium.{Medium, Fit}

pub record FlatModel : Type 0 where
  pub bytes : List ℕ
  pub count : ℕ
  pub grant : ℕ

abbrev pub flat : Medium FlatModel
flat =
    record {
      count = λ s. s.count;
      grant = λ s. s.grant;
      shown = λ s b. part s.bytes (b * 512) 512;
      put = λ s b x. record { bytes = placed s.bytes (b * 512) x; count = s.count; grant = s.grant - 1 };
    }

abbrev pub FlatGood : FlatModel → Type 0
FlatGood s = Fit s.count s.grant (s.count * 512) (length s.bytes)
