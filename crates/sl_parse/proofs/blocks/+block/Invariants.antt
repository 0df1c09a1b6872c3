use Rattle.std.proofs.Common.{◌≡◌, ◌+◌, ◌-◌, ◌*◌, map}
use Rattle.sl_ast.specs.Validity.{heaviest}
use Rattle.sl_parse_grammar.specs.Items.{inside, inside_from, constructor_here, block_at}
use Rattle.sl_parse.specs.Blocks.{chain_of}
use Rattle.sl_parse.proofs.Chains.{before}
use Rattle.sl_parse.proofs.Places.{InsideSoFar}
use Rattle.sl_parse.proofs.blocks.+block.Given as goal

abbrev pub decreases-block_at : goal.decreases-block_at
decreases-block_at l = 4 * l.depth

abbrev pub decreases-inner : goal.decreases-inner
decreases-inner l = 4 * l.depth + 1

abbrev pub decreases-inside : goal.decreases-inside
decreases-inside l = 4 * l.depth + 2

abbrev pub invariant-inside-parts : goal.invariant-inside-parts
invariant-inside-parts l = record {
  reads :
      inside (constructor_here heaviest) (block_at heaviest l.depth) l.fn.symbols
      ≡ before (map chain_of l.found.items) (inside_from (constructor_here heaviest) (block_at heaviest l.depth) (l._round-end - l._round) l.symbols);
  places : InsideSoFar l.total l.fn.symbols l.found.items l.symbols;
}
