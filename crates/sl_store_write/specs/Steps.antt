-- step: what a part of a block writes and leaves, whatever follows it.
use Rattle.std.specs.Prelude.{◌≡◌, ℕ, suc, List, ◌++◌}
use Rattle.sl_ast.specs.Trees.{Inside}
use Rattle.sl_ast.specs.Views.{inner_step}
use Rattle.sl_ast.specs.declared.constructors.Inner.{Inner, fold-Inner}
use Rattle.sl_store_write.specs.Placing.{after_inside, inside_bytes}
use Rattle.sl_store_format.specs.Packed.{chain_length}
use Rattle.sl_preproc.specs.declared.places.Place.{Place}

-- the part before the rest of its block
abbrev pub chain_of : Inner → Inside → Inside
chain_of = fold-Inner (Inside → Inside) inner_step

-- What was written, and what the rest writes, is what the part and the rest write. So it is with the places
-- and with the number of parts.
pub record PutsPart (part : Inside → Inside) (rest : Inside) (old : List ℕ) (before : List Place) (new : List ℕ) (left : List Place) : Type 0 where
  pub bytes : old ++ inside_bytes (part rest) before ≡ new ++ inside_bytes rest left
  pub places : after_inside (part rest) before ≡ after_inside rest left
  pub one : chain_length (part rest) ≡ suc (chain_length rest)
