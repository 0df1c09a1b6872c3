-- meaning: where a form that the language leaves out begins. Each such form is known by symbols with which no tree goes on,
-- though one goes on with those of a form of the language in their place.
use Rattle.std.specs.Prelude.{◌≡◌, ℕ, List, [], ◌∷◌, ◌++◌, Some, codes}
use Rattle.sl_ast.specs.Operators.{missing_function, missing_statement}
use Rattle.sl_ast.specs.Spelling.{name, keyword, spell}
use Rattle.sl_ast.specs.Symbols.{plain, quoted, Sym, number, word, mark}
use Rattle.sl_ast.specs.Trees.{Name, Item}
use Rattle.sl_ast.specs.Validity.{AreItemsWithin, heaviest, deepest}
use Rattle.sl_ast.specs.declared.symbols.Feature.{Feature}
use Rattle.sl_ast.specs.declared.symbols.Feature.TheVariants as f
use Rattle.sl_ast.specs.declared.symbols.Keyword.TheVariants as k
use Rattle.sl_ast.specs.declared.symbols.Mark.TheVariants as m

-- ---- beginnings of trees

-- the symbols begin the spelling of a specification within these limits
pub record BeginsWithin (most deep : ℕ) (symbols : List Sym) : Type 0 where
  pub items : List Item
  pub good : AreItemsWithin most deep items
  pub rest : List Sym
  pub spells : spell items ≡ symbols ++ rest

-- within the limits of the language
abbrev pub BeginsATree : List Sym → Type 0
BeginsATree symbols = BeginsWithin heaviest deepest symbols

-- within some limits
abbrev pub BeginsAnyTree : List Sym → Type 0
BeginsAnyTree symbols = (most : ℕ) × (deep : ℕ) × BeginsWithin most deep symbols

-- Behind some symbols no tree goes on with what is written, but one does with what would stand there in its place.
pub record StandsFor (before written known : List Sym) : Type 0 where
  pub fits : BeginsAnyTree (before ++ known)
  pub never : BeginsAnyTree (before ++ written) → ⊥

-- ---- forms that are left out

-- a name that begins no form that is left out
abbrev pub other : Name
other = codes "other"

-- a name, or the word that the language lacks
abbrev pub IsNameLike : Sym → Type 0
IsNameLike (word (plain w)) = Unit {0}
IsNameLike (word (quoted k.InstNext2)) = Unit {0}
IsNameLike x = ⊥

-- Behind `before` an operand of a constraint is due: it may begin with `~`, and no name may stand.
abbrev pub IsInConstraint : List Sym → Type 0
IsInConstraint before = StandsFor before (name other ∷ []) (mark m.Tilde ∷ [])

-- Behind `before` a form of this feature begins, with these symbols.
pub data IsLeftOut (before : List Sym) : Feature → List Sym → Type 0 where
  -- a floating mark, which stands in no tree
  floating_mark : {ys : List Sym} → (BeginsAnyTree (before ++ mark m.Floating ∷ []) → ⊥) → IsLeftOut before f.FloatingPoint (mark m.Floating ∷ ys)
  -- the word `inst_next2`, but for displays and constraints
  lacking_word : {ys : List Sym} → (BeginsAnyTree (before ++ keyword k.InstNext2 ∷ []) → ⊥) → (IsInConstraint before → ⊥)
      → IsLeftOut before f.InstNext2 (keyword k.InstNext2 ∷ ys)
  -- a call of a function, in a section where another could be called
  function : {feature : Feature} {w : Name} {ys : List Sym} → missing_function w ≡ Some feature
      → StandsFor before (name w ∷ mark m.Open ∷ []) (name other ∷ mark m.Open ∷ []) → IsLeftOut before feature (name w ∷ mark m.Open ∷ ys)
  -- a word that begins no statement, where another name could
  statement : {feature : Feature} {w : Name} {ys : List Sym} → missing_statement w ≡ Some feature
      → StandsFor before (name w ∷ []) (name other ∷ []) → IsLeftOut before feature (name w ∷ ys)
  -- `&` where an operand is due, which may begin with `~`
  address : {ys : List Sym} → StandsFor before (mark m.Ampersand ∷ []) (mark m.Tilde ∷ []) → IsLeftOut before f.AddressOf (mark m.Ampersand ∷ ys)
  -- `...` where a part of a pattern is due, which may be a name with `...` behind it
  leading : {ys : List Sym} → StandsFor before (mark m.Ellipsis ∷ []) (name other ∷ mark m.Ellipsis ∷ []) → IsLeftOut before f.LeadingEllipsis (mark m.Ellipsis ∷ ys)
  -- a name, or that word, in a constraint
  constraint : {x : Sym} {ys : List Sym} → IsNameLike x → (BeginsAnyTree (before ++ x ∷ []) → ⊥) → IsInConstraint before
      → IsLeftOut before f.NameInConstraint (x ∷ ys)
  -- a size that is too wide, where another could stand
  width : {n : ℕ} {ys : List Sym} → StandsFor before (number n ∷ []) (number 0 ∷ []) → IsLeftOut before f.WideValue (number n ∷ ys)
  -- another word size than 1
  word_size : {n : ℕ} {ys : List Sym} → StandsFor before (keyword k.WordSize ∷ mark m.Equals ∷ number n ∷ []) (keyword k.WordSize ∷ mark m.Equals ∷ number 1 ∷ [])
      → IsLeftOut before f.WordSize (keyword k.WordSize ∷ mark m.Equals ∷ number n ∷ ys)
