-- law: laws of packed specifications.
use Rattle.std.specs.Prelude.{◌≡◌, ℕ, List}
use Rattle.sl_ast.specs.Validity as v
use Rattle.sl_store_format.specs.Packed.{Written, Packed, IsPackable, IsPacked, pack, apart}
use Rattle.sl_store_bytes.specs.Verdicts.{Are, AreCut, AreDamagedAt}

-- The verdicts on a list of bytes exclude each other, and damage is at one place.
pub record ExcludeEachOther (bytes : List ℕ) : Type 0 where
  pub cut_not_damaged : (at : ℕ) → AreCut pack IsPackable bytes → AreDamagedAt pack IsPackable bytes at → ⊥
  pub whole_not_damaged : (w : Written) (at : ℕ) → Are pack IsPackable bytes w → AreDamagedAt pack IsPackable bytes at → ⊥
  pub whole_not_cut : (w : Written) → Are pack IsPackable bytes w → AreCut pack IsPackable bytes → ⊥
  pub one_place : (at other : ℕ) → AreDamagedAt pack IsPackable bytes at → AreDamagedAt pack IsPackable bytes other → at ≡ other

abbrev pub VerdictsExcludeEachOther : Type 0
VerdictsExcludeEachOther = (bytes : List ℕ) → ExcludeEachOther bytes

-- The files' names, the places and the items say which value it is.
abbrev pub PlacesTellTheValue : Type 0
PlacesTellTheValue = (w v : Written) → IsPackable w → IsPackable v → apart w ≡ apart v → w ≡ v

-- The items of what may be packed are those of a specification without a fault.
abbrev pub ItemsHaveNoFault : Type 0
ItemsHaveNoFault = (w : Written) → IsPackable w → v.AreItems (apart w).items

-- A value with its places apart meets the conditions exactly where it is one that may be packed.
pub record MayBePacked (p : Packed) : Type 0 where
  pub written : Written
  pub packable : IsPackable written
  pub is : apart written ≡ p

abbrev pub ConditionsAreExact : Type 0
ConditionsAreExact = ((p : Packed) → IsPacked p → MayBePacked p) × ((p : Packed) → MayBePacked p → IsPacked p)
