-- law: that operands which are fields are read in their patterns (SLEIGH manual, "The Bit
-- Pattern Section", "Attaching Other Integers").
use Rattle.std.specs.Prelude.{◌≡◌, ℕ, ℤ, ⊤, ◌⊎◌, List, Some, slice_get, FitsSigned}
use Rattle.std.specs.Int.{w64}
use Rattle.sl_ast.specs.Trees.{Constructor, Pattern, bare, constraint, group, ellipsis, joined}
use Rattle.sl_ast.specs.Unfolding.{Placed}
use Rattle.sl_spec.specs.Named.{named}
use Rattle.sl_spec.specs.Tables.{Attached, Ctor, Entries, Field, Name, Operand}
use Rattle.sl_spec.specs.Tables.{registers, texts, values}
use Rattle.sl_spec.specs.declared.constructors.Means.TheVariants as means
use Rattle.sl_spec.specs.declared.tables.Tables.{Tables}

-- The name stands alone in the pattern.
abbrev pub IsAlone : Name → Pattern → Type 0
IsAlone name (bare other) = other ≡ name
IsAlone name (constraint other relation e) = ⊥
IsAlone name (group p) = IsAlone name p
IsAlone name (ellipsis p) = IsAlone name p
IsAlone name (joined op p q) = IsAlone name p ⊎ IsAlone name q

-- An operand that is a field is what its name stands for, the name stands alone in the pattern, and
-- there is such a field.
pub record IsRead (fields : List Field) (os : List Operand) (p : Pattern)
    (o : Operand) (id : ℕ) : Type 0 where
  pub field : Field
  pub there : slice_get fields id ≡ Some field
  pub meant : named (λ o. o.name) o.name os ≡ Some o
  pub alone : IsAlone o.name p

-- So is each operand that means a field.
abbrev pub OperandsAreRead : List Field → Ctor → Placed Constructor → Type 0
OperandsAreRead fields c placed = (k id : ℕ) (o : Operand) → slice_get c.operands k ≡ Some o
    → o.means ≡ means.Field id → IsRead fields c.operands placed.1.pattern o id

-- Numbers that are attached have 64 bits in two's complement.
abbrev pub EntriesFit : Entries → Type 0
EntriesFit (registers ids) = ⊤
EntriesFit (texts names) = ⊤
EntriesFit (values numbers) =
    (k : ℕ) (v : ℤ) → slice_get numbers k ≡ Some (Some v) → FitsSigned w64 v

-- In each constructor operands that mean fields are read, and attached numbers fit.
pub record AreRead (t : Tables) (cs : List (Placed Constructor)) : Type 0 where
  pub operands : (i : ℕ) (c : Ctor) (placed : Placed Constructor)
      → slice_get t.constructors i ≡ Some c → slice_get cs i ≡ Some placed
      → OperandsAreRead t.fields c placed
  pub numbers : (i : ℕ) (a : Attached) → slice_get t.attached i ≡ Some a → EntriesFit a.entries
