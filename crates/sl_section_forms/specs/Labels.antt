-- meaning: labels, rule 28 (SLEIGH manual, "Statements").
use Rattle.std.specs.Prelude.{◌≡◌, ◌&&◌, Bool, true, false, List, [], ◌∷◌, ◌++◌, Option, Some, None}
use Rattle.std.specs.List.{list_all}
use Rattle.sl_ast.specs.Trees.{Direct, to_label, to_operand, Dest, direct, computed}
use Rattle.sl_ast.specs.Trees.{Statement, goto, branch}
use Rattle.sl_ast.specs.Trees.{label}
use Rattle.sl_spec_rules.specs.Gathered.{gathered}
use Rattle.sl_spec_rules.specs.Names.{Name, are_distinct, differ_behind, is_among}

-- the label that a statement is
abbrev pub label_of : Statement → List Name
label_of (label w) = w ∷ []
label_of _ = []

-- the labels that stand in a section or macro
abbrev pub labels : List Statement → List Name
labels body = gathered label_of body

abbrev pub leads : List Name → Direct → Bool
leads names (to_label w) = is_among names w
leads names (to_operand o) = true

abbrev pub dest_leads : List Name → Dest → Bool
dest_leads names (direct to) = leads names to
dest_leads names (computed e) = true

-- a label that a statement uses is among these
abbrev pub statement_leads : List Name → Statement → Bool
statement_leads names (goto to) = dest_leads names to
statement_leads names (branch e to) = leads names to
statement_leads names _ = true

-- 28: each label stands once in its section or macro, and each used one stands there
abbrev pub has_labels : List Statement → Bool
has_labels body = are_distinct (labels body) && list_all (statement_leads (labels body)) body

-- What was found are the labels where no two are the same, and else nothing.
abbrev pub AreLabels : List Statement → Option (List Name) → Type 0
AreLabels body None = are_distinct (labels body) ≡ false
AreLabels body (Some names) = (names ≡ labels body) × (are_distinct (labels body) ≡ true)

-- The label that a statement is, if it is one, was added where it was new.
abbrev pub AddsLabel : (old : List Name) → Statement → (fresh : Bool) → (new : List Name) → Type 0
AddsLabel old x false new = differ_behind old (label_of x) ≡ false
AddsLabel old x true new =
    (new ≡ old ++ label_of x) × (differ_behind old (label_of x) ≡ true)
