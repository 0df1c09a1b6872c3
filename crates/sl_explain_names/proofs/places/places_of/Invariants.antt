use Rattle.std.proofs.Common.{◌≡◌, ◌++◌, drop}
use Rattle.sl_explain_names.specs.Places.{places_of_blocks}
use Rattle.sl_lex.specs.Views.{views}
use Rattle.sl_explain_names.proofs.places.places_of.Given as goal

-- the places so far and those of the blocks that are left are those of all blocks
abbrev pub invariant-each : goal.invariant-each
invariant-each l =
    l.out.items ++ places_of_blocks (views l.tokens) (drop l.block-index l.blocks)
    ≡ places_of_blocks (views l.tokens) l.blocks
