-- view: what was made of a block's pattern for one constructor, and for which others it is right.
use Rattle.std.specs.Prelude.{◌≡◌, ◌==◌, ℕ, Bool, true, false, List, Option, None, Some}
use Rattle.std.specs.List.{AllByRecursion, list_all}
use Rattle.sl_ast.specs.Trees.{Head}
use Rattle.sl_decode_meaning.specs.Kinds.{kind_of}
use Rattle.sl_decode_meaning.specs.Places.{covers, length_of}
use Rattle.sl_decode_leaves.specs.Extents.{extent}
use Rattle.sl_decode_leaves.specs.Wholes.{AreLeavesOf}
use Rattle.sl_decode_leaves.specs.declared.blocks.BlockLeaves.{BlockLeaves}
use Rattle.sl_decode_leaves.specs.declared.blocks.Tied.{Tied}
use Rattle.sl_decode_leaves.specs.declared.leaves.Leaf as l
use Rattle.sl_decode_leaves.specs.declared.pattern_leaves.PatternLeaves.{PatternLeaves}
use Rattle.sl_spec.specs.Named.{index_named}
use Rattle.sl_spec.specs.Numbers.{AreMadeFor}
use Rattle.sl_spec.specs.Tables.{Name, Operand}
use Rattle.sl_spec.specs.declared.constructors.Means.{Means}
use Rattle.sl_spec.specs.declared.constructors.Means.TheVariants as means
use Rattle.sl_spec.specs.declared.tables.Tables.{Tables}
use Rattle.sl_spec.specs.declared.unfolded.Around.{Around}

abbrev pub means_field : Option ℕ → Means → Bool
means_field None m = true
means_field (Some id) (means.Field n) = id == n
means_field (Some id) (means.Table n) = false
means_field (Some id) (means.Action n) = false

-- whether an operand that is named like a field means that field
abbrev pub is_plain : Tables → Operand → Bool
is_plain t o = means_field (index_named (λ f. f.name) o.name t.fields) o.means

-- Each field's name stands for that field.
abbrev pub ArePlain : Tables → List Operand → Type 0
ArePlain t os = list_all (is_plain t) os ≡ true

-- A name stands for what it stood for, and covers as much.
abbrev pub StandsAsBefore : Tables → List Operand → Tied → Type 0
StandsAsBefore t os x = (kind_of t os x.name.now ≡ x.kind) × ((lengths : List ℕ)
    → covers t (kind_of t os x.name.now) (length_of os lengths x.name.now) ≡ extent x.length lengths)

abbrev pub StandAsBefore : Tables → List Operand → List Tied → Type 0
StandAsBefore t os tied = AllByRecursion (StandsAsBefore t os) tied

-- A name stands for the same among these operands as among those, and covers as much.
pub record IsSame (t : Tables) (os those : List Operand) (name : Name) : Type 0 where
  pub kind : kind_of t os name ≡ kind_of t those name
  pub covered : (lengths : List ℕ) → covers t (kind_of t os name) (length_of os lengths name)
      ≡ covers t (kind_of t those name) (length_of those lengths name)

-- The names do, among any operands among which the tied ones stand as before.
abbrev pub AreTied : Tables → List Operand → List Tied → List l.Leaf → Type 0
AreTied t os tied leaves = (those : List Operand) → ArePlain t those → StandAsBefore t those tied
    → AllByRecursion (λ x. IsSame t os those x.name.now) leaves

-- One more name does, and the others go on to.
abbrev pub TiesOne : Tables → List Operand → Name → List Tied → List Tied → Type 0
TiesOne t os name old new = (those : List Operand) → ArePlain t those → StandAsBefore t those new
    → StandAsBefore t those old × IsSame t os those name

-- What was made of a block is right for all operands among which the tied names stand as before.
abbrev pub AreLeavesOfHead : Tables → Head → BlockLeaves → Type 0
AreLeavesOfHead t h x = (os : List Operand) → ArePlain t os → StandAsBefore t os x.tied.items
    → AreLeavesOf t os h.pattern x.leaves.value

-- It may be taken for these operands.
abbrev pub MayTake : Tables → List Operand → List Around → List (ℕ × BlockLeaves) → Type 0
MayTake t os blocks made = ArePlain t os × AreMadeFor (AreLeavesOfHead t) blocks made

-- It is what was made of a block, all of whose tied names stand as before.
abbrev pub IsTaken : Tables → List Operand → Option BlockLeaves → PatternLeaves → Type 0
IsTaken t os None leaves = ⊥
IsTaken t os (Some x) leaves = StandAsBefore t os x.tied.items × (leaves ≡ x.leaves.value)
