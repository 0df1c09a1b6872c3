-- Loops over trees, over the operands of a node, and over the nodes of a row.
use Rattle.std.proofs.Common.{◌≡◌, ℕ, ℤ, ◌+◌, ◌-◌, ◌<◌, ◌≤◌, suc, List, [], ◌∷◌, ◌++◌, length, map, drop, get_or, add-one, append-nil, append_assoc, sym, ap, ◌∙◌, arith, Option}
use Rattle.std.proofs.Math.Seq.{drop-cons}
use Rattle.std.proofs.lemmas.List.{drop-map, drop_all, length-map, map_push}
use Rattle.sl_build.specs.Pieces.{Making, Piece, behind_of, below_of, filled_lists, filled_references, piece_before, pieces}
use Rattle.sl_build.specs.Views.{piece_of, pieces_of}
use Rattle.sl_build.specs.declared.trees.Tree.{Tree}
use Rattle.sl_build.proofs.TreeLemmas.{behind_more, behind_none, below_more, below_none}
use Rattle.sl_faithful_code.specs.Operations.{Operation}
use Rattle.sl_decode_meaning.specs.Trees.{Node}
use Rattle.sl_decode_meaning.specs.declared.entries.Entry.{Entry}
use Rattle.sl_meaning_sections.specs.Nodes.{Section}
use Rattle.sl_meaning_sections.specs.References.{Reference, Setting}
use Rattle.sl_show.specs.Entries.{row_of, rows_of}

-- what is left from an index on, as it is seen
pub left_map : {A B : Type 0} (f : A → B) (xs : List A) (i : ℕ) (x : A) → i < length xs → x ≡ get_or xs i x → map f (drop i xs) ≡ f x ∷ map f (drop (i + 1) xs)
left_map f xs i x below is =
    ap (map f) (drop-cons xs i x below) ∙ ap (λ y. f y ∷ map f (drop (suc i) xs)) (sym is) ∙ ap (λ k. f x ∷ map f (drop k xs)) (sym (add-one i))

-- ---- trees that are taken

module _ (tree : Tree) (rest done : List Tree) (left next : ℕ) (some : 0 < left) (is : done ≡ tree ∷ rest) (less : next ≡ left - tree.nodes) where
  pub one_taken : (below more : List Tree) (whole : List Piece) → more ≡ below ++ tree ∷ []
      → pieces_of below ++ below_of left (pieces_of done) ≡ whole → pieces_of more ++ below_of next (pieces_of rest) ≡ whole
  one_taken below more whole m so =
      let p = piece_of tree in
      let ps = pieces_of rest in
      ap (λ xs. pieces_of xs ++ below_of next ps) m ∙ ap (λ l. l ++ below_of next ps) (map_push piece_of below tree)
      ∙ append_assoc (pieces_of below) (p ∷ []) (below_of next ps)
      ∙ ap (λ k. pieces_of below ++ (p ∷ below_of k ps)) less
      ∙ ap (λ l. pieces_of below ++ l) (sym (below_more left p ps some))
      ∙ ap (λ xs. pieces_of below ++ below_of left (pieces_of xs)) (sym is)
      ∙ so

  pub one_passed : (whole : List Piece) → behind_of left (pieces_of done) ≡ whole → behind_of next (pieces_of rest) ≡ whole
  one_passed whole so =
      ap (λ k. behind_of k (pieces_of rest)) less ∙ sym (behind_more left (piece_of tree) (pieces_of rest) some)
      ∙ ap (λ xs. behind_of left (pieces_of xs)) (sym is) ∙ so

pub taken_all : (below done : List Tree) (left : ℕ) (whole : List Piece) → left ≡ 0 → pieces_of below ++ below_of left (pieces_of done) ≡ whole → pieces_of below ≡ whole
taken_all below done left whole e so =
    sym (append-nil (pieces_of below)) ∙ ap (λ l. pieces_of below ++ l) (sym (ap (λ k. below_of k (pieces_of done)) e ∙ below_none (pieces_of done))) ∙ so

pub passed_all : (done : List Tree) (left : ℕ) (whole : List Piece) → left ≡ 0 → behind_of left (pieces_of done) ≡ whole → pieces_of done ≡ whole
passed_all done left whole e so = sym (ap (λ k. behind_of k (pieces_of done)) e ∙ behind_none (pieces_of done)) ∙ so

pub taken_out : (below done : List Tree) (left : ℕ) (whole : List Piece) → done ≡ [] → pieces_of below ++ below_of left (pieces_of done) ≡ whole → pieces_of below ≡ whole
taken_out below done left whole e so =
    sym (append-nil (pieces_of below)) ∙ ap (λ xs. pieces_of below ++ below_of left (pieces_of xs)) (sym e) ∙ so

pub passed_out : (done : List Tree) (left : ℕ) (whole : List Piece) → done ≡ [] → behind_of left (pieces_of done) ≡ whole → pieces_of done ≡ whole
passed_out done left whole e so = ap pieces_of e ∙ ap (λ xs. behind_of left (pieces_of xs)) (sym e) ∙ so

-- ---- operands that are filled

module _ {S : Type 0} (given : S → Option Reference) (slots : List S) (i : ℕ) (slot : S) (one : Option Reference) (below : i < length slots) (is : slot ≡ get_or slots i slot) (so : one ≡ given slot) where
  rest : List (Option Reference)
  rest = map given (drop (i + 1) slots)

  left : one ∷ map given (drop (i + 1) slots) ≡ map given (drop i slots)
  left = ap (λ o. o ∷ map given (drop (i + 1) slots)) so ∙ sym (left_map given slots i slot below is)

  pub reference_filled : (old new whole : List Reference) (ps qs : List Piece)
      → new ++ filled_references (map given (drop (i + 1) slots)) qs ≡ old ++ filled_references (one ∷ map given (drop (i + 1) slots)) ps
      → old ++ filled_references (map given (drop i slots)) ps ≡ whole → new ++ filled_references (map given (drop (i + 1) slots)) qs ≡ whole
  reference_filled old new whole ps qs step inv = step ∙ ap (λ rs. old ++ filled_references rs ps) left ∙ inv

  pub list_filled : (old new whole : List (List Operation)) (ps qs : List Piece)
      → new ++ filled_lists (map given (drop (i + 1) slots)) qs ≡ old ++ filled_lists (one ∷ map given (drop (i + 1) slots)) ps
      → old ++ filled_lists (map given (drop i slots)) ps ≡ whole → new ++ filled_lists (map given (drop (i + 1) slots)) qs ≡ whole
  list_filled old new whole ps qs step inv = step ∙ ap (λ rs. old ++ filled_lists rs ps) left ∙ inv

pub references_end : {S : Type 0} (given : S → Option Reference) (slots : List S) (i : ℕ) (now whole : List Reference) (ps : List Piece) → length slots ≤ i
    → now ++ filled_references (map given (drop i slots)) ps ≡ whole → now ≡ whole
references_end given slots i now whole ps past inv =
    sym (append-nil now) ∙ ap (λ xs. now ++ filled_references (map given xs) ps) (sym (drop_all i slots past)) ∙ inv

pub lists_end : {S : Type 0} (given : S → Option Reference) (slots : List S) (i : ℕ) (now whole : List (List Operation)) (ps : List Piece) → length slots ≤ i
    → now ++ filled_lists (map given (drop i slots)) ps ≡ whole → now ≡ whole
lists_end given slots i now whole ps past inv =
    sym (append-nil now) ∙ ap (λ xs. now ++ filled_lists (map given xs) ps) (sym (drop_all i slots past)) ∙ inv

-- ---- nodes of a row, from the last one on

module _ (section : ℕ → Section) (g : Setting) (list : Making) (gives : Node → List ℕ → List (Option Reference)) (values : List ℤ) (nodes : List Entry) where
  abbrev made : ℕ → List Piece
  made j = pieces section g list gives j (drop j (rows_of values nodes))

  pub none_made : (done : List Tree) (j : ℕ) → done ≡ [] → length nodes ≤ j → pieces_of done ≡ made j
  none_made done j e past =
      ap pieces_of e ∙ ap (pieces section g list gives j) (sym (drop_all j (rows_of values nodes) (omega (arith, length-map nodes (row_of values), past))))

  -- one more node in front
  pub one_made : (done new : List Tree) (j next : ℕ) (e : Entry) → next ≡ j + 1 → j < length nodes → e ≡ get_or nodes j e
      → pieces_of done ≡ made next → pieces_of new ≡ piece_before section g list gives j (row_of values e) (pieces_of done) → pieces_of new ≡ made j
  one_made done new j next e n below is so step =
      step ∙ ap (piece_before section g list gives j (row_of values e)) (so ∙ ap made n)
      ∙ ap (pieces section g list gives j) (sym (left_rows j e below is))
    where
      left_rows : (j : ℕ) (e : Entry) → j < length nodes → e ≡ get_or nodes j e → drop j (rows_of values nodes) ≡ row_of values e ∷ drop (j + 1) (rows_of values nodes)
      left_rows j e below is =
          drop-map (row_of values) j nodes ∙ left_map (row_of values) nodes j e below is ∙ ap (λ rs. row_of values e ∷ rs) (sym (drop-map (row_of values) (j + 1) nodes))

  -- one round of the loop, from the last node on
  pub one_round : (done new : List Tree) (round index k : ℕ) (e : Entry) → round < length nodes → index ≡ length nodes - 1 - round → k ≡ index → e ≡ get_or nodes index e
      → pieces_of done ≡ made (length nodes - round) → pieces_of new ≡ piece_before section g list gives k (row_of values e) (pieces_of done)
      → pieces_of new ≡ made (length nodes - (round + 1))
  one_round done new round index k e below at number is so step =
      let j : index ≡ length nodes - (round + 1) = omega (arith, below, at) in
      one_made done new (length nodes - (round + 1)) (length nodes - round) e (omega (arith, below)) (omega (arith, below)) (is ∙ ap (λ i. get_or nodes i e) j) so
      (step ∙ ap (λ i. piece_before section g list gives i (row_of values e) (pieces_of done)) (number ∙ j))
