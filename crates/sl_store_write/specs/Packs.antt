-- meaning: the file of a packed specification.
use Rattle.std.specs.Prelude.{◌≡◌, ℕ, List}
use Rattle.sl_store_format.specs.Packed.{Written, Packed, IsPackable, apart, pack}
use Rattle.sl_store_bytes.specs.Verdicts.{Are}

-- The bytes are those of the value with these files, places and items, which may be packed.
pub record IsFileOf (p : Packed) (bytes : List ℕ) : Type 0 where
  pub written : Written
  pub is : apart written ≡ p
  pub are : Are pack IsPackable bytes written
