-- law: laws of packing and unpacking.
use Rattle.std.specs.Prelude.{◌≡◌, ℕ, List, Result, Ok, Err}
use Rattle.sl_store_write.specs.Packs.{IsFileOf}
use Rattle.sl_store_write.specs.Parts.{packed_of}
use Rattle.sl_store_write.specs.declared.packed.Packed as program
use Rattle.sl_store_format.specs.Packed.{Packed, IsPacked, mark}
use Rattle.sl_store_bytes.specs.Verdicts.{HasMark}
use Rattle.sl_store.specs.Answers.{Answers}
use Rattle.sl_store.specs.Damage.{IsCut, IsDamagedAt}
use Rattle.sl_store.specs.declared.opening.UnpackError as u
use Rattle.sl_store.specs.declared.opening.UnpackError.TheVariants as uv

pub record HasFile (p : Packed) : Type 0 where
  pub bytes : List ℕ
  pub file : IsFileOf p bytes

-- Each specification that may be packed has one file, and each file has one specification.
pub record AreOneToOne : Type 0 where
  pub some_file : (p : Packed) → IsPacked p → HasFile p
  pub may_be_packed : (p : Packed) (bytes : List ℕ) → IsFileOf p bytes → IsPacked p
  pub one_file : (p : Packed) (bytes others : List ℕ) → IsFileOf p bytes → IsFileOf p others → bytes ≡ others
  pub one_specification : (p q : Packed) (bytes : List ℕ) → IsFileOf p bytes → IsFileOf q bytes → p ≡ q

-- Two answers are the same, unless memory runs out.
abbrev pub Agree : (r s : Result program.Packed u.UnpackError) → Type 0
Agree (Err uv.NoMemory) s = Unit {0}
Agree r (Err uv.NoMemory) = Unit {0}
Agree (Ok p) (Ok q) = packed_of p ≡ packed_of q
Agree (Err uv.NotPacked) (Err uv.NotPacked) = Unit {0}
Agree (Err uv.Cut) (Err uv.Cut) = Unit {0}
Agree (Err (uv.Damaged at)) (Err (uv.Damaged other)) = at ≡ other
Agree r s = ⊥

abbrev pub AnswersAgree : Type 0
AnswersAgree = (bytes : List ℕ) (r s : Result program.Packed u.UnpackError) → Answers bytes r → Answers bytes s → Agree r s

-- What bytes are.
pub data Verdict (bytes : List ℕ) : Type 0 where
  not_packed : (HasMark mark bytes → ⊥) → Verdict bytes
  file_of : (p : Packed) → IsFileOf p bytes → Verdict bytes
  is_cut : IsCut bytes → Verdict bytes
  is_damaged : (at : ℕ) → IsDamagedAt bytes at → Verdict bytes

abbrev pub EachHasAVerdict : Type 0
EachHasAVerdict = (bytes : List ℕ) → Verdict bytes
