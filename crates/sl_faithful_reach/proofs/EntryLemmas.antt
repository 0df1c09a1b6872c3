-- Nodes in a row look as far as their trees.
use Rattle.std.proofs.Common.{◌≡◌, ◌+◌, max, List, [], ◌∷◌, ◌++◌, length, refl, ap, ap₂, ◌∙◌, arith}
use Rattle.sl_decode_meaning.specs.Flat.{all_values, entries}
use Rattle.sl_decode_meaning.specs.Trees.{none, tree}
use Rattle.sl_decode_meaning.specs.declared.entries.Entry.{Entry}
use Rattle.sl_faithful_reach.specs.DecodeLaws.{EntriesTell}
use Rattle.sl_faithful_reach.specs.Sight.{reach, sight_in}

both_in : (xs ys : List Entry) → sight_in (xs ++ ys) ≡ max (sight_in xs) (sight_in ys)
both_in [] ys = omega arith
both_in (e ∷ xs) ys = let more = both_in xs ys in omega arith

pub entries_tell : EntriesTell
entries_tell first none = refl
entries_tell first (tree n below behind) =
    let inner = entries (first + length n.values) below in
    let others = entries (first + length n.values + length (all_values below)) behind in
    ap (max (reach n.at n.length)) (both_in inner others
    ∙ ap₂ max (entries_tell (first + length n.values) below)
    (entries_tell (first + length n.values + length (all_values below)) behind))
