-- law: what a point picks, as the tree of a chooser finds it.
use Rattle.std.specs.Prelude.{ℕ, ◌==◌, ◌&&◌, Bool, List, Option, bit_and, find, if◌then◌else◌, option_map}
use Rattle.sl_cube.specs.declared.Cube.{Cube}
use Rattle.sl_cube.specs.declared.Point.{Point}
use Rattle.sl_choose.specs.declared.Entry.{Entry}
use Rattle.sl_choose.specs.declared.Node.{Node, Leaf, Test'}
use Rattle.sl_choose.specs.declared.chooser.Chooser.{Chooser}

-- whether the cube has the point
abbrev pub is_in : Point → Cube → Bool
is_in p c = (bit_and p.bytes c.mask == c.value) && (bit_and p.context c.ctx_mask == c.ctx_value)

-- whether the point has none of the bits
abbrev pub lacks : Point → Point → Bool
lacks bits p = (bit_and p.bytes bits.bytes == 0) && (bit_and p.context bits.context == 0)

-- the leaf that the point leads to
abbrev pub leaf_at : Node → Point → List Entry
leaf_at (Leaf es) p = es.items
leaf_at (Test' bits a low b high) p = if lacks bits p then leaf_at low p else leaf_at high p

abbrev pub leaf_in : Chooser → Point → List Entry
leaf_in chooser p = leaf_at chooser.root p

-- the constructor of the first entry there that has the point
abbrev pub picked : Chooser → Point → Option ℕ
picked chooser p = option_map (λ e. e.ctor) (find (λ e. is_in p e.cube) (leaf_in chooser p))
