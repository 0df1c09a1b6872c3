-- Where the reader finds the fault of symbols with a form that the language leaves out, and how it tells it.
use Rattle.std.proofs.Common.{◌≡◌, ℕ, ◌+◌, ◌<◌, ◌⊎◌, List, [], ◌∷◌, ◌++◌, length, Ok, Err}
use Rattle.sl_ast.specs.Symbols.{Sym}
use Rattle.sl_ast.specs.Trees.{Item}
use Rattle.sl_ast.specs.declared.symbols.Feature.{Feature}
use Rattle.sl_parse_grammar.specs.Items.{specification_within}
use Rattle.sl_parse_grammar.specs.Reader.{unsupported, Fault}

-- It is told as a form that the language leaves out, which began at the first of these symbols.
abbrev pub IsNamed : List Sym → Fault → Type 0
IsNamed symbols e = (feature : Feature) × (back : ℕ) × (e.form ≡ unsupported feature back) × (length symbols ≡ back + e.left)

-- It was found before the form, or it is told as one that began where the form does.
abbrev pub IsEarlyOrNamed : List Sym → List Sym → Fault → Type 0
IsEarlyOrNamed written ys e = (length (written ++ ys) < e.left) ⊎ IsNamed (written ++ ys) e

-- Where some symbols are read that go on with `known`, those with `written` in its place have no other fault that is
-- found before the end of `written`. The first reading has limits as wide, or wider.
abbrev pub NamesForm : List Sym → List Sym → Type 0
NamesForm known written = (most deep more deeper : ℕ) (before zs ys : List Sym) (items : List Item) (e : Fault)
    → specification_within (more + most) (deeper + deep) (before ++ known ++ zs) ≡ Ok items → specification_within most deep (before ++ written ++ ys) ≡ Err e → length ys < e.left
    → IsEarlyOrNamed written ys e

-- The same of a symbol that is refused by name wherever it stands.
abbrev pub NamesSymbol : Sym → Type 0
NamesSymbol x = (most deep : ℕ) (before ys : List Sym) (e : Fault) → specification_within most deep (before ++ x ∷ ys) ≡ Err e → length ys < e.left → IsEarlyOrNamed (x ∷ []) ys e
