-- law: what the names of a pattern stand for by where they are (SLEIGH manual, "The Bit Pattern
-- Section").
use Rattle.std.specs.Prelude.{◌≡◌, ℕ, Bool, true, false, List, Option, Some, None, slice_get}
use Rattle.sl_ast.specs.Trees.{Constructor, Pattern, bare, constraint, group, ellipsis, joined}
use Rattle.sl_ast.specs.Unfolding.{Placed}
use Rattle.sl_decode_meaning.specs.Kinds.{kind_of, operand_kind}
use Rattle.sl_decode_meaning.specs.declared.kinds.Kind.{Kind}
use Rattle.sl_decode_meaning.specs.declared.kinds.Kind.TheVariants as k
use Rattle.sl_spec.specs.Named.{index_named, named}
use Rattle.sl_spec.specs.Tables.{Ctor, Name, Operand}
use Rattle.sl_spec.specs.declared.tables.Tables.{Tables}

abbrev pub kind_of_operand : Option Operand → Kind
kind_of_operand None = k.Nothing
kind_of_operand (Some o) = operand_kind o.means

abbrev pub kind_of_field : Option ℕ → Kind
kind_of_field None = k.Nothing
kind_of_field (Some id) = k.Field id

-- what a name stands for where it is alone, and where it is constrained
abbrev pub kind_there : Tables → List Operand → Bool → Name → Kind
kind_there t os true name = kind_of_operand (named (λ o. o.name) name os)
kind_there t os false name = kind_of_field (index_named (λ f. f.name) name t.fields)

-- It holds of each name of a pattern, by whether the name stands alone.
abbrev pub EachName : (Bool → Name → Type 0) → Pattern → Type 0
EachName P (bare name) = P true name
EachName P (constraint name relation e) = P false name
EachName P (group p) = EachName P p
EachName P (ellipsis p) = EachName P p
EachName P (joined op p q) = EachName P p × EachName P q

-- A name stands for what its place says.
abbrev pub Agrees : Tables → List Operand → Bool → Name → Type 0
Agrees t os alone name = kind_of t os name ≡ kind_there t os alone name

-- In each constructor a name that stands alone in the pattern stands for its operand, or as
-- `epsilon` for nothing, and a constrained name for the field of this name.
abbrev pub NamesAgree : Tables → List (Placed Constructor) → Type 0
NamesAgree t cs = (i : ℕ) (c : Ctor) (placed : Placed Constructor)
    → slice_get t.constructors i ≡ Some c → slice_get cs i ≡ Some placed
    → EachName (Agrees t c.operands) placed.1.pattern
