-- law: laws of the definitions.
use Rattle.std.specs.Prelude.{◌≡◌, suc, List, ◌∷◌, ◌++◌, length, Ok, Err}
use Rattle.sl_ast.specs.Spelling.{spell}
use Rattle.sl_ast.specs.Symbols.{Sym}
use Rattle.sl_ast.specs.Trees.{Item}
use Rattle.sl_ast.specs.Validity.{AreItems}
use Rattle.sl_parse_grammar.specs.Items.{specification}
use Rattle.sl_parse_grammar.specs.Reader.{Form, fault}

-- Symbols spell at most one tree.
abbrev pub SpellsOneTree : Type 0
SpellsOneTree = (xs ys : List Item) → AreItems xs → AreItems ys → spell xs ≡ spell ys → xs ≡ ys

-- What a tree spells is read as that tree.
abbrev pub EachTreeIsRead : Type 0
EachTreeIsRead = (items : List Item) → AreItems items → specification (spell items) ≡ Ok items

-- What is read is a tree, and has the spelling that it was read from.
abbrev pub OnlySpellingsAreRead : Type 0
OnlySpellingsAreRead = (symbols : List Sym) (items : List Item) → specification symbols ≡ Ok items → (symbols ≡ spell items) × AreItems items

-- A fault that was found at x stays, whatever stands behind x.
abbrev pub FaultsStay : Type 0
FaultsStay = (form : Form) (x : Sym) (xs ys zs : List Sym) → specification (xs ++ x ∷ ys) ≡ Err (fault form (suc (length ys)))
    → specification (xs ++ x ∷ zs) ≡ Err (fault form (suc (length zs)))

-- No tree is spelled with symbols that begin with those up to where a fault was found.
abbrev pub NoneBeginsWithAFault : Type 0
NoneBeginsWithAFault = (form : Form) (x : Sym) (xs ys zs : List Sym) (items : List Item) → specification (xs ++ x ∷ ys) ≡ Err (fault form (suc (length ys)))
    → AreItems items → spell items ≡ xs ++ x ∷ zs → ⊥
