-- The trees of a row, made from its last node to the first, are the nodes of the instruction.
use Rattle.std.proofs.Common.{◌≡◌, ℕ, zero, suc, ◌+◌, ◌-◌, ◌<◌, List, [], ◌∷◌, ◌++◌, length, append-nil, append_assoc, length-append, refl, sym, ap, ◌∙◌, arith, Option, Some, None}
use Rattle.sl_build.specs.Pieces.{Piece, behind_of, filled_lists, filled_references, first_code, below_of, lengths_in, piece_at, piece_before, piece_with, pieces, section_list}
use Rattle.sl_faithful_code.specs.Nodes.{children_code, node_code}
use Rattle.sl_faithful_code.specs.Operations.{Operation}
use Rattle.sl_decode_meaning.specs.TreeCounts.{count}
use Rattle.sl_decode_meaning.specs.Trees.{Node, Trees, none, tree}
use Rattle.sl_meaning_instruction.specs.Instructions.{filled, first_node, lengths_of, nodes_by}
use Rattle.sl_meaning_sections.specs.Nodes as m
use Rattle.sl_meaning_sections.specs.Nodes.{Section, node, nothing, reference_of, references_of}
use Rattle.sl_meaning_sections.specs.References.{Reference, Setting}
use Rattle.sl_show.specs.Entries.{Row, rows}

-- ---- the first trees of some

pub below_none : (ps : List Piece) → below_of 0 ps ≡ []
below_none [] = refl
below_none (p ∷ ps) = refl

pub behind_none : (ps : List Piece) → behind_of 0 ps ≡ ps
behind_none [] = refl
behind_none (p ∷ ps) = refl

pub below_more : (c : ℕ) (p : Piece) (ps : List Piece) → 0 < c → below_of c (p ∷ ps) ≡ p ∷ below_of (c - p.nodes) ps
below_more zero p ps h = absurd (omega (arith, h))
below_more (suc c) p ps h = refl

pub behind_more : (c : ℕ) (p : Piece) (ps : List Piece) → 0 < c → behind_of c (p ∷ ps) ≡ behind_of (c - p.nodes) ps
behind_more zero p ps h = absurd (omega (arith, h))
behind_more (suc c) p ps h = refl

-- ---- rows

pub length_rows : (f : Trees Node) → length (rows f) ≡ count f
unfolding rows
length_rows none = refl
length_rows (tree n below behind) =
    let b = length_rows below in let r = length_rows behind in let a = length-append (rows below) (rows behind) in omega arith

rows_one : (n : Node) (below behind : Trees Node) → rows (tree n below behind) ≡ record { node = n; below = length (rows below) } ∷ (rows below ++ rows behind)
unfolding rows
rows_one n below behind = refl

rows_none : rows none ≡ []
unfolding rows
rows_none = refl

module _ (section : ℕ → Section) (g : Setting) (top : ℕ) (gives : Node → List ℕ → List (Option Reference)) where
  abbrev made : (k : ℕ) → List Row → List Piece
  made k rs = pieces section g (section_list section g top) gives k rs

  abbrev nodes : (k : ℕ) → Trees Node → List m.Node
  nodes k f = nodes_by section gives k f

  abbrev root : (k : ℕ) → Node → Trees Node → m.Node
  root k n below = node k (section n.ctor) (filled (gives n (lengths_of below)) (nodes (k + 1) below))

  -- a tree as the list that it comes to
  abbrev piece : (k : ℕ) → Node → Trees Node → Piece
  piece k n below = record {
    nodes = count below + 1;
    length = n.length;
    reference = reference_of g (root k n below);
    code = node_code top g (root k n below);
  }

  abbrev tree_pieces : (k : ℕ) → Trees Node → List Piece
  tree_pieces k none = []
  tree_pieces k (tree n below behind) = piece k n below ∷ tree_pieces (k + 1 + count below) behind

  lengths_are : (k : ℕ) (f : Trees Node) → lengths_in (tree_pieces k f) ≡ lengths_of f
  lengths_are k none = refl
  lengths_are k (tree n below behind) = ap (λ l. n.length ∷ l) (lengths_are (k + 1 + count below) behind)

  references_are : (rs : List (Option Reference)) (k : ℕ) (f : Trees Node) → filled_references rs (tree_pieces k f) ≡ references_of g (filled rs (nodes k f))
  references_are [] k f = refl
  references_are (Some r ∷ rs) k f = ap (λ l. r ∷ l) (references_are rs k f)
  references_are (None ∷ rs) k none = ap (λ l. nothing ∷ l) (references_are rs k none)
  references_are (None ∷ rs) k (tree n below behind) = ap (λ l. reference_of g (root k n below) ∷ l) (references_are rs (k + 1 + count below) behind)

  lists_are : (rs : List (Option Reference)) (k : ℕ) (f : Trees Node) → filled_lists rs (tree_pieces k f) ≡ children_code top g (filled rs (nodes k f))
  lists_are [] k f = refl
  lists_are (Some r ∷ rs) k f = ap (λ l. [] ∷ l) (lists_are rs k f)
  lists_are (None ∷ rs) k none = ap (λ l. [] ∷ l) (lists_are rs k none)
  lists_are (None ∷ rs) k (tree n below behind) = ap (λ l. node_code top g (root k n below) ∷ l) (lists_are rs (k + 1 + count below) behind)

  -- ---- cuts

  below_is : (k : ℕ) (f : Trees Node) (more : List Piece) → below_of (count f) (tree_pieces k f ++ more) ≡ tree_pieces k f
  below_is k none more = below_none more
  below_is k (tree n below behind) more =
      let rest = tree_pieces (k + 1 + count below) behind in
      let left : 1 + (count below + count behind) - (count below + 1) ≡ count behind = omega arith in
      below_more (1 + (count below + count behind)) (piece k n below) (rest ++ more) (omega arith)
      ∙ ap (λ c. piece k n below ∷ below_of c (rest ++ more)) left
      ∙ ap (λ ps. piece k n below ∷ ps) (below_is (k + 1 + count below) behind more)

  behind_is : (k : ℕ) (f : Trees Node) (more : List Piece) → behind_of (count f) (tree_pieces k f ++ more) ≡ more
  behind_is k none more = behind_none more
  behind_is k (tree n below behind) more =
      let rest = tree_pieces (k + 1 + count below) behind in
      let left : 1 + (count below + count behind) - (count below + 1) ≡ count behind = omega arith in
      behind_more (1 + (count below + count behind)) (piece k n below) (rest ++ more) (omega arith)
      ∙ ap (λ c. behind_of c (rest ++ more)) left
      ∙ behind_is (k + 1 + count below) behind more

  -- ---- one tree

  abbrev row : Node → ℕ → Row
  row n below = record { node = n; below = below }

  -- a node whose operands are filled from the trees below it
  with_operands : (k : ℕ) (n : Node) (below : Trees Node) (refs : List Reference) (lists : List (List Operation))
      → refs ≡ references_of g (filled (gives n (lengths_of below)) (nodes (k + 1) below))
      → lists ≡ children_code top g (filled (gives n (lengths_of below)) (nodes (k + 1) below))
      → piece_with section g (section_list section g top) k (row n (count below)) refs lists ≡ piece k n below
  with_operands k n below refs lists r l =
      ap (λ rs. piece_with section g (section_list section g top) k (row n (count below)) rs lists) r
      ∙ ap (λ ls. piece_with section g (section_list section g top) k (row n (count below)) (references_of g (filled (gives n (lengths_of below)) (nodes (k + 1) below))) ls) l

  root_is : (k : ℕ) (n : Node) (below : Trees Node) → piece_at section g (section_list section g top) gives k (row n (count below)) (tree_pieces (k + 1) below) ≡ piece k n below
  root_is k n below =
      let ps = tree_pieces (k + 1) below in
      with_operands k n below (filled_references (gives n (lengths_in ps)) ps) (filled_lists (gives n (lengths_in ps)) ps)
      (ap (λ ls. filled_references (gives n ls) ps) (lengths_are (k + 1) below) ∙ references_are (gives n (lengths_of below)) (k + 1) below)
      (ap (λ ls. filled_lists (gives n ls) ps) (lengths_are (k + 1) below) ∙ lists_are (gives n (lengths_of below)) (k + 1) below)

  before_is : (k : ℕ) (n : Node) (below : Trees Node) (more : List Piece)
      → piece_before section g (section_list section g top) gives k (row n (count below)) (tree_pieces (k + 1) below ++ more) ≡ piece k n below ∷ more
  before_is k n below more =
      let ps = tree_pieces (k + 1) below in
      ap (λ qs. piece_at section g (section_list section g top) gives k (row n (count below)) qs ∷ behind_of (count below) (ps ++ more)) (below_is (k + 1) below more)
      ∙ ap (λ qs. piece_at section g (section_list section g top) gives k (row n (count below)) ps ∷ qs) (behind_is (k + 1) below more)
      ∙ ap (λ p. p ∷ more) (root_is k n below)

  -- ---- a row

  made_is : (f : Trees Node) (k : ℕ) (more : List Row) → made k (rows f ++ more) ≡ tree_pieces k f ++ made (k + count f) more
  made_is none k more = ap (λ rs. made k (rs ++ more)) rows_none ∙ ap (λ j. made j more) (omega arith)
  made_is (tree n below behind) k more =
      let next = k + 1 + count below in
      let rest = tree_pieces next behind ++ made (next + count behind) more in
      let inner : made (k + 1) ((rows below ++ rows behind) ++ more) ≡ tree_pieces (k + 1) below ++ rest =
      ap (made (k + 1)) (append_assoc (rows below) (rows behind) more) ∙ made_is below (k + 1) (rows behind ++ more)
      ∙ ap (λ ps. tree_pieces (k + 1) below ++ ps) (made_is behind next more) in
      let end : next + count behind ≡ k + (1 + (count below + count behind)) = omega arith in
      ap (λ rs. made k (rs ++ more)) (rows_one n below behind)
      ∙ ap (λ c. piece_before section g (section_list section g top) gives k (row n c) (made (k + 1) ((rows below ++ rows behind) ++ more))) (length_rows below)
      ∙ ap (piece_before section g (section_list section g top) gives k (row n (count below))) inner
      ∙ before_is k n below rest
      ∙ ap (λ j. piece k n below ∷ (tree_pieces next behind ++ made j more)) end

  first_by : (f : Trees Node) → first_code (tree_pieces 0 f ++ []) ≡ node_code top g (first_node (nodes 0 f))
  first_by none = refl
  first_by (tree n below behind) = refl

  -- the list of the first tree is that of the instruction
  pub first_list_is : (f : Trees Node) (rs : List Row) → rs ≡ rows f → first_code (made 0 rs) ≡ node_code top g (first_node (nodes 0 f))
  first_list_is f rs e =
      ap (λ xs. first_code (made 0 xs)) (e ∙ sym (append-nil (rows f))) ∙ ap first_code (made_is f 0 []) ∙ first_by f
