-- law: what `unpack` answers, and when.
use Rattle.std.specs.Prelude.{◌≡◌, ℕ, List, Result, Ok, Err}
use Rattle.sl_store_write.specs.Packs.{IsFileOf}
use Rattle.sl_store_write.specs.Parts.{packed_of}
use Rattle.sl_store_write.specs.declared.packed.Packed as program
use Rattle.sl_store_format.specs.Packed.{Packed, mark}
use Rattle.sl_store_bytes.specs.Verdicts.{HasMark}
use Rattle.sl_store.specs.Damage.{IsCut, IsDamagedAt}
use Rattle.sl_store.specs.declared.opening.UnpackError as u
use Rattle.sl_store.specs.declared.opening.UnpackError.TheVariants as uv

-- Want of memory alone is free.
abbrev pub Refuses : List ℕ → u.UnpackError → Type 0
Refuses bytes uv.NotPacked = HasMark mark bytes → ⊥
Refuses bytes uv.Cut = IsCut bytes
Refuses bytes (uv.Damaged at) = IsDamagedAt bytes at
Refuses bytes uv.NoMemory = Unit {0}

-- A specification is that of the bytes, which are its file.
abbrev pub Answers : List ℕ → Result program.Packed u.UnpackError → Type 0
Answers bytes (Ok p) = IsFileOf (packed_of p) bytes
Answers bytes (Err e) = Refuses bytes e

-- It is opened as this specification, unless memory runs out.
abbrev pub Opens : Packed → Result program.Packed u.UnpackError → Type 0
Opens p (Ok found) = packed_of found ≡ p
Opens p (Err uv.NoMemory) = Unit {0}
Opens p (Err e) = ⊥
