-- view: numbers of bytes by the lengths of operands.
use Rattle.std.specs.Prelude.{ℕ, ◌+◌, max, List, map, slice_index}
use Rattle.sl_decode_meaning.specs.Places.{Leaf, leaf}
use Rattle.sl_decode_leaves.specs.declared.extents.Extent.{Extent}
use Rattle.sl_decode_leaves.specs.declared.extents.Extent.TheVariants.{Fixed, Operand, Sum', Greater'}
use Rattle.sl_decode_leaves.specs.declared.leaves.Leaf as l

abbrev pub extent : Extent → List ℕ → ℕ
extent (Fixed n) lengths = n
extent (Operand index) lengths = slice_index lengths index
extent (Sum' p a q b) lengths = extent a lengths + extent b lengths
extent (Greater' p a q b) lengths = max (extent a lengths) (extent b lengths)

-- a leaf, by the lengths of the operands
abbrev pub leaf_at : List ℕ → l.Leaf → Leaf
leaf_at lengths x = leaf x.name.now x.alone (extent x.place lengths)

abbrev pub leaves_at : List ℕ → List l.Leaf → List Leaf
leaves_at lengths ls = map (leaf_at lengths) ls
