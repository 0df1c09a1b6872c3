-- Labels that are found one behind the other.
use Rattle.std.proofs.Common.{◌≡◌, ℕ, ◌+◌, ◌<◌, ◌≤◌, ◌&&◌, Bool, true, false, not, List, [], ◌∷◌, ◌++◌, length, drop, get_or, refl, sym, ap, ◌∙◌, append_assoc, append-nil}
use Rattle.std.proofs.lemmas.List.{drop_more}
use Rattle.std.proofs.Math.ListN.{drop_of_length-le}
use Rattle.sl_ast.specs.Views.{statement_of, statements_of}
use Rattle.sl_ast.specs.declared.statements.Stmt.{Stmt}
use Rattle.sl_spec_rules.specs.Gathered.{gathered}
use Rattle.sl_spec_rules.specs.Names.{Name, are_distinct, differ_behind, is_among}
use Rattle.sl_section_forms.specs.Labels.{AddsLabel, label_of, labels}

and-assoc : (a b c : Bool) → (a && (b && c)) ≡ ((a && b) && c)
and-assoc true b c = refl
and-assoc false b c = refl

-- names differ where those of a front do, and those of the rest behind it
differ-append : (before xs ys : List Name) → differ_behind before (xs ++ ys) ≡ (differ_behind before xs && differ_behind (before ++ xs) ys)
differ-append before [] ys = ap (λ (l : List Name). differ_behind l ys) (sym (append-nil before))
differ-append before (x ∷ xs) ys =
    ap (λ (b : Bool). not (is_among before x) && b) (differ-append (before ++ x ∷ []) xs ys)
    ∙ and-assoc (not (is_among before x)) (differ_behind (before ++ x ∷ []) xs) (differ_behind ((before ++ x ∷ []) ++ xs) ys)
    ∙ ap (λ (l : List Name). (not (is_among before x) && differ_behind (before ++ x ∷ []) xs) && differ_behind l ys) (append_assoc before (x ∷ []) xs)

-- the labels that are left from the i-th statement on
abbrev pub left_from : List Stmt → ℕ → List Name
left_from body i = labels (statements_of (drop i body))

-- the labels so far with those that are left are all, and they differ where all do
pub record AreFound (body : List Stmt) (names : List Name) (i : ℕ) : Type 0 where
  pub labels : names ++ left_from body i ≡ left_from body 0
  pub differ : differ_behind names (left_from body i) ≡ are_distinct (left_from body 0)

one_more : (body : List Stmt) (i : ℕ) (x : Stmt) → i < length body → x ≡ get_or body i x → left_from body i ≡ label_of (statement_of x) ++ left_from body (i + 1)
unfolding gathered
one_more body i x below at =
    ap (λ (l : List Stmt). gathered label_of (statements_of l)) (drop_more body i x below ∙ ap (λ (z : Stmt). z ∷ drop (i + 1) body) (sym at))

pub found_goes : (body : List Stmt) (names new : List Name) (i : ℕ) (x : Stmt) → i < length body → x ≡ get_or body i x → AddsLabel names (statement_of x) true new
    → AreFound body names i → AreFound body new (i + 1)
found_goes body names new i x below at adds found =
    let L = label_of (statement_of x) in
    let rest = left_from body (i + 1) in
    let first = one_more body i x below at in
    record {
      labels = ap (λ (l : List Name). l ++ rest) adds.0 ∙ append_assoc names L rest ∙ ap (λ (l : List Name). names ++ l) (sym first) ∙ found.labels;
      differ = ap (λ (l : List Name). differ_behind l rest) adds.0
          ∙ sym (ap (λ (b : Bool). b && differ_behind (names ++ L) rest) adds.1) ∙ sym (differ-append names L rest)
          ∙ ap (λ (l : List Name). differ_behind names l) (sym first) ∙ found.differ;
    }

pub found_stops : (body : List Stmt) (names new : List Name) (i : ℕ) (x : Stmt) → i < length body → x ≡ get_or body i x → AddsLabel names (statement_of x) false new
    → AreFound body names i → are_distinct (left_from body 0) ≡ false
found_stops body names new i x below at twice found =
    let L = label_of (statement_of x) in
    let rest = left_from body (i + 1) in
    sym found.differ ∙ ap (λ (l : List Name). differ_behind names l) (one_more body i x below at) ∙ differ-append names L rest
    ∙ ap (λ (b : Bool). b && differ_behind (names ++ L) rest) twice

none_left : (body : List Stmt) (i : ℕ) → length body ≤ i → left_from body i ≡ []
unfolding gathered
none_left body i end = ap (λ (l : List Stmt). gathered label_of (statements_of l)) (drop_of_length-le body end)

pub found_ends : (body : List Stmt) (names : List Name) (i : ℕ) → length body ≤ i → AreFound body names i
    → (names ≡ left_from body 0) × (are_distinct (left_from body 0) ≡ true)
found_ends body names i end found =
    let none = none_left body i end in
    (sym (ap (λ (l : List Name). names ++ l) none ∙ append-nil names) ∙ found.labels, sym found.differ ∙ ap (λ (l : List Name). differ_behind names l) none)
