use Rattle.std.specs.Prelude.{◌≡◌, ◌≤◌, length, map, take}
use Rattle.sl_spec_actions.specs.Blocks.{numbers_of}
use Rattle.sl_spec_actions.proofs.blocks.JudgedBlocks.front.Given as goal

abbrev pub invariant-levels : goal.invariant-levels
invariant-levels l = (l.index ≤ length l.blocks) × (numbers_of (take l.index l.levels) ≡ map (λ b. b.number) (take l.index l.blocks))
