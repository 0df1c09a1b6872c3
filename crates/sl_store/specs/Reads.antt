-- step: what is read after the mark, and at the end of the bytes.
use Rattle.std.specs.Prelude.{◌≡◌, ℕ, List, Result, Ok, Err}
use Rattle.sl_store.specs.Numbers.{AreNumbered}
use Rattle.sl_store_write.specs.Parts.{packed_of}
use Rattle.sl_store_write.specs.declared.packed.Packed as program
use Rattle.sl_store_format.specs.Packed.{Written, apart}
use Rattle.sl_store_bytes.specs.Reader.{Fault, cut, damaged, Outcome}
use Rattle.sl_store_bytes.specs.Reads.{Stops}
use Rattle.sl_store_bytes.specs.declared.bytes.Stop as s
use Rattle.sl_store_bytes.specs.declared.bytes.Stop.TheVariants as sv

pub record IsRead (outcome : Outcome Written) (p : program.Packed) (left : List ℕ) : Type 0 where
  pub written : Written
  pub reads : outcome ≡ Ok (written, left)
  pub is : apart written ≡ packed_of p
  pub numbers : AreNumbered p

abbrev pub ReadsPacked : Outcome Written → Result program.Packed s.Stop → List ℕ → Type 0
ReadsPacked outcome (Ok p) left = IsRead outcome p left
ReadsPacked outcome (Err e) left = Stops outcome e

pub record IsWhole (outcome : Result Written Fault) (p : program.Packed) : Type 0 where
  pub written : Written
  pub ends : outcome ≡ Ok written
  pub is : apart written ≡ packed_of p
  pub numbers : AreNumbered p

abbrev pub Halts : Result Written Fault → s.Stop → Type 0
Halts outcome sv.NoMemory = Unit {0}
Halts outcome sv.Cut = outcome ≡ Err cut
Halts outcome (sv.Damaged n) = outcome ≡ Err (damaged n)

abbrev pub Ends : Result Written Fault → Result program.Packed s.Stop → Type 0
Ends outcome (Ok p) = IsWhole outcome p
Ends outcome (Err e) = Halts outcome e
