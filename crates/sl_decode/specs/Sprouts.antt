-- step: a tree that grows, as it is kept: nodes in a row, and all notes, behind those that stand.
use Rattle.std.specs.Prelude.{ℕ, List, [], ◌∷◌, ◌++◌, length, Result, Ok, Err}
use Rattle.sl_decode.specs.declared.walk.Growth.{Growth}
use Rattle.sl_decode.specs.declared.walk.Sprout.{Sprout}
use Rattle.sl_decode_meaning.specs.Decoding.{Grove, Grown}
use Rattle.sl_decode_meaning.specs.TreeCounts.{count}
use Rattle.sl_decode_meaning.specs.Trees.{Begun, Trees, none, tree}
use Rattle.sl_decode_meaning.specs.declared.faults.Fault.{Fault}
use Rattle.sl_decode_meaning.specs.declared.notes.Noted.{Noted}

abbrev pub sprout_of : Begun → ℕ → Sprout
sprout_of n below = record {
  ctor = n.ctor;
  at = n.at;
  length = n.length;
  context = n.context;
  noted = length n.notes;
  below = below;
}

abbrev pub sprouts : Trees Begun → List Sprout
sprouts none = []
sprouts (tree n below behind) = sprout_of n (count below) ∷ (sprouts below ++ sprouts behind)

abbrev pub all_notes : Trees Begun → List Noted
all_notes none = []
all_notes (tree n below behind) = n.notes ++ (all_notes below ++ all_notes behind)

-- nodes in a row, and their notes
pub data Row : Type 0 where
  row : List Sprout → List Noted → Row

abbrev pub row_of : Growth → Row
row_of g = row g.sprouts.items g.notes.items

-- the trees' nodes and notes behind those of the row
abbrev pub with_trees : Row → Trees Begun → Row
with_trees (row ss ns) trees = row (ss ++ sprouts trees) (ns ++ all_notes trees)

-- a length, the row, and the context that is left
pub data Flat : Type 0 where
  flat : ℕ → Row → ℕ → Flat

abbrev pub alone : Grown → Trees Begun
alone g = tree g.node g.below none

-- a node behind a row
abbrev pub laid : Row → Result Grown Fault → Result Flat Fault
laid r (Ok g) = Ok (flat g.node.length (with_trees r (alone g)) g.after)
laid r (Err fault) = Err fault

-- the same of operands, with their lengths
pub data FlatGrove : Type 0 where
  flat_grove : List ℕ → Row → ℕ → FlatGrove

abbrev pub laid_grove : Row → Result Grove Fault → Result FlatGrove Fault
laid_grove r (Ok g) = Ok (flat_grove g.lengths (with_trees r g.trees) g.after)
laid_grove r (Err fault) = Err fault

-- with the length of the node in place of those of its operands
abbrev pub measured : (List ℕ → ℕ) → Result FlatGrove Fault → Result Flat Fault
measured total (Ok (flat_grove lengths r after)) = Ok (flat (total lengths) r after)
measured total (Err fault) = Err fault
