-- step: the lists of trees, made from the last node of a row to the first.
use Rattle.std.specs.Prelude.{ℕ, zero, suc, ◌+◌, ◌-◌, List, [], ◌∷◌, Option, None, Some, map}
use Rattle.sl_faithful_code.specs.Operations.{Operation}
use Rattle.sl_faithful_code.specs.Statements.{section_code}
use Rattle.sl_decode_meaning.specs.Trees.{Node}
use Rattle.sl_meaning_sections.specs.Nodes.{Section, exported, frame_of, nothing}
use Rattle.sl_meaning_sections.specs.References.{Reference, Setting}
use Rattle.sl_show.specs.Entries.{Row}

-- A tree: how many nodes it has, the length of its root in bytes, what it exports, and its list.
pub record Piece : Type 0 where
  pub nodes : ℕ
  pub length : ℕ
  pub reference : Reference
  pub code : List Operation

abbrev pub lengths_in : List Piece → List ℕ
lengths_in ps = map (λ p. p.length) ps

-- ---- the first trees that have so many nodes together, and those behind them

abbrev pub below_of : (count : ℕ) → List Piece → List Piece
below_of count [] = []
below_of zero (p ∷ ps) = []
below_of (suc k) (p ∷ ps) = p ∷ below_of (suc k - p.nodes) ps

abbrev pub behind_of : (count : ℕ) → List Piece → List Piece
behind_of count [] = []
behind_of zero (p ∷ ps) = p ∷ ps
behind_of (suc k) (p ∷ ps) = behind_of (suc k - p.nodes) ps

-- ---- operands, of which tables are the trees below, in their order

abbrev pub filled_references : List (Option Reference) → List Piece → List Reference
filled_references [] ps = []
filled_references (Some r ∷ rs) ps = r ∷ filled_references rs ps
filled_references (None ∷ rs) (p ∷ ps) = p.reference ∷ filled_references rs ps
filled_references (None ∷ rs) [] = nothing ∷ filled_references rs []

abbrev pub filled_lists : List (Option Reference) → List Piece → List (List Operation)
filled_lists [] ps = []
filled_lists (Some r ∷ rs) ps = [] ∷ filled_lists rs ps
filled_lists (None ∷ rs) (p ∷ ps) = p.code ∷ filled_lists rs ps
filled_lists (None ∷ rs) [] = [] ∷ filled_lists rs []

-- ---- trees

-- the list of a node of a constructor, by its number, what its operands stand for, and their lists
abbrev pub Making : Type 0
Making = (ctor k : ℕ) → List Reference → List (List Operation) → List Operation

-- by sections
abbrev pub section_list : (ℕ → Section) → Setting → (top : ℕ) → Making
section_list section g top ctor k refs lists =
    section_code top g (frame_of k (section ctor) refs) lists (section ctor).steps

module _ (section : ℕ → Section) (g : Setting) (list : Making) where
  -- the tree of a node whose operands stand for these, and have these lists
  abbrev pub piece_with : (k : ℕ) → Row → List Reference → List (List Operation) → Piece
  piece_with k r refs lists = record {
    nodes = r.below + 1;
    length = r.node.length;
    reference = exported g (frame_of k (section r.node.ctor) refs) (section r.node.ctor).steps;
    code = list r.node.ctor k refs lists;
  }

  module _ (gives : Node → List ℕ → List (Option Reference)) where
    -- the tree of a node with these below it
    abbrev pub piece_at : (k : ℕ) → Row → (below : List Piece) → Piece
    piece_at k r below = piece_with k r
        (filled_references (gives r.node (lengths_in below)) below)
        (filled_lists (gives r.node (lengths_in below)) below)

    -- with one node more in front
    abbrev pub piece_before : (k : ℕ) → Row → List Piece → List Piece
    piece_before k r ps = piece_at k r (below_of r.below ps) ∷ behind_of r.below ps

    -- the trees of a row, whose nodes are numbered from k on
    abbrev pub pieces : (k : ℕ) → List Row → List Piece
    pieces k [] = []
    pieces k (r ∷ rs) = piece_before k r (pieces (k + 1) rs)

-- the list of the first tree
abbrev pub first_code : List Piece → List Operation
first_code [] = []
first_code (p ∷ ps) = p.code
