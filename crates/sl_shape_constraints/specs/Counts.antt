-- meaning: how many cubes a constraint needs.
use Rattle.std.specs.Prelude.{◌≡◌, ℕ, max, List, length}
use Rattle.sl_shape_blocks.specs.Blocks.{IsShortest, block}
use Rattle.sl_shape_blocks.specs.declared.Block.{Block}
use Rattle.sl_shape_constraints.specs.Values.{Constraint, HoldsOf, width}

-- The number is that of the blocks in a shortest cut of the codes for which the constraint holds,
-- and 1 where there is no such code.
abbrev pub HasCount : Constraint → ℕ → Type 0
HasCount c n = (blocks : List Block)
    × IsShortest (HoldsOf c) (block 0 (width c.field)) blocks × (n ≡ max (length blocks) 1)
