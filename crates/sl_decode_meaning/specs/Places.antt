-- meaning: the length of a pattern in a node, and the places of its names (SLEIGH manual, "The Bit
-- Pattern Section").
use Rattle.std.specs.Prelude.{ℕ, ◌+◌, ◌&&◌, Bool, true, false, List, [], ◌∷◌, ◌++◌, slice_index}
use Rattle.std.specs.Prelude.{Option, None, Some, filter, slice_get, if◌then◌else◌}
use Rattle.std.specs.Str.{bytes_eq}
use Rattle.sl_ast.specs.Trees.{Pattern, bare, constraint, group, ellipsis, joined}
use Rattle.sl_ast.specs.declared.patterns.PatternOp.{PatternOp}
use Rattle.sl_ast.specs.declared.patterns.PatternOp.TheVariants.{And, Then, Or}
use Rattle.sl_decode_meaning.specs.Kinds.{kind_of}
use Rattle.sl_decode_meaning.specs.declared.kinds.Kind.{Kind}
use Rattle.sl_decode_meaning.specs.declared.kinds.Kind.TheVariants as k
use Rattle.sl_spec.specs.Tables.{Name, Operand}
use Rattle.sl_spec.specs.declared.constructors.Means.{Means}
use Rattle.sl_spec.specs.declared.constructors.Means.TheVariants as means
use Rattle.sl_spec.specs.declared.tables.Tables.{Tables}
use Rattle.sl_spec_tables.specs.Lengths.{field_bytes, joined_bytes}

-- ---- the lengths of operands

abbrev pub means_table : Means → Bool
means_table (means.Table id) = true
means_table (means.Field id) = false
means_table (means.Action n) = false

-- the operands that are tables, in pattern order
abbrev pub table_operands : List Operand → List Operand
table_operands os = filter (λ o. means_table o.means) os

abbrev pub next_slot : Means → ℕ → ℕ
next_slot means n = if means_table means then n + 1 else n

-- the number of the table operand of this name among the table operands, counted from n on
abbrev pub slot_from : ℕ → List Operand → Name → Option ℕ
slot_from n [] name = None
slot_from n (o ∷ os) name = if means_table o.means && bytes_eq o.name name then Some n
    else slot_from (next_slot o.means n) os name

abbrev pub length_at : List ℕ → Option ℕ → ℕ
length_at lengths None = 0
length_at lengths (Some number) = slice_index lengths number

-- the length of the table operand of this name, where those of the first ones are known; 0 for
-- each other name
abbrev pub length_of : List Operand → List ℕ → Name → ℕ
length_of os lengths name = length_at lengths (slot_from 0 os name)

-- ---- the length of a pattern

-- a token field covers its token's bytes, a table the bytes of its node, and all else none
abbrev pub covers : Tables → Kind → ℕ → ℕ
covers t (k.Field id) n = field_bytes t (slice_get t.fields id)
covers t (k.Table id) n = n
covers t (k.Action m) n = 0
covers t k.Start n = 0
covers t k.Next n = 0
covers t k.Nothing n = 0

-- the length of a pattern, by the lengths of its operands: `;` adds, `&` and `|` take the greater
abbrev pub length_in : Tables → List Operand → (Name → ℕ) → Pattern → ℕ
length_in t os length (bare name) = covers t (kind_of t os name) (length name)
length_in t os length (constraint name relation e) = covers t (kind_of t os name) (length name)
length_in t os length (group p) = length_in t os length p
length_in t os length (ellipsis p) = length_in t os length p
length_in t os length (joined op p q) =
    joined_bytes op (length_in t os length p) (length_in t os length q)

-- ---- places

-- where the right side of an operator stands: that of `;` behind the left one
abbrev pub place_beside : PatternOp → ℕ → ℕ → ℕ
place_beside Then at length = at + length
place_beside And at length = at
place_beside Or at length = at

-- a name, whether it stands alone, and its place
pub data Leaf : Type 0 where
  leaf : Name → Bool → ℕ → Leaf

-- the names of a pattern that stands at a place, in the order of the text
unfoldable pub leaves : Tables → List Operand → (Name → ℕ) → ℕ → Pattern → List Leaf
leaves t os length at (bare name) = leaf name true at ∷ []
leaves t os length at (constraint name relation e) = leaf name false at ∷ []
leaves t os length at (group p) = leaves t os length at p
leaves t os length at (ellipsis p) = leaves t os length at p
leaves t os length at (joined op p q) = leaves t os length at p
    ++ leaves t os length (place_beside op at (length_in t os length p)) q

-- the place of a name's first occurrence
abbrev pub first_place : Name → List Leaf → Option ℕ
first_place name [] = None
first_place name (leaf other alone at ∷ ls) =
    if bytes_eq other name then Some at else first_place name ls

-- the place where a name stands alone
abbrev pub bare_place : Name → List Leaf → Option ℕ
bare_place name [] = None
bare_place name (leaf other true at ∷ ls) =
    if bytes_eq other name then Some at else bare_place name ls
bare_place name (leaf other false at ∷ ls) = bare_place name ls

abbrev pub or_start : Option ℕ → ℕ
or_start None = 0
or_start (Some at) = at
