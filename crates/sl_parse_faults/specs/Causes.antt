-- meaning: why symbols spell no specification, and where.
use Rattle.std.specs.Prelude.{◌≡◌, ℕ, ◌<◌, ◌⊎◌, List, [], ◌∷◌, ◌++◌, length}
use Rattle.sl_ast.specs.Spelling.{spell}
use Rattle.sl_ast.specs.Symbols.{Sym}
use Rattle.sl_ast.specs.Trees.{Item}
use Rattle.sl_ast.specs.Validity.{AreItems}
use Rattle.sl_ast.specs.declared.symbols.Feature.{Feature}
pub use Rattle.sl_parse_grammar.specs.Reasons.{Reason, left_out, no_spelling, too_deep}
use Rattle.sl_parse_faults.specs.Forms.{BeginsATree, BeginsAnyTree, IsLeftOut}

-- Behind `before` stands what can be in no tree.
pub data Causes (before : List Sym) : Reason → List Sym → Type 0 where
  -- a form that the language leaves out
  form : {feature : Feature} {after : List Sym} → IsLeftOut before feature after → Causes before (left_out feature) after
  -- a symbol with which no tree goes on, whatever its limits
  symbol : {x : Sym} {after : List Sym} → (BeginsAnyTree (before ++ x ∷ []) → ⊥) → Causes before no_spelling (x ∷ after)
  -- the end of the list, which is too early
  ending : ((items : List Item) → AreItems items → spell items ≡ before → ⊥) → Causes before no_spelling []
  -- a symbol with which trees go on, but none within the limits
  limit : {x : Sym} {after : List Sym} → BeginsAnyTree (before ++ x ∷ []) → (BeginsATree (before ++ x ∷ []) → ⊥) → Causes before too_deep (x ∷ after)

-- the reason is that a form is left out
abbrev pub IsOut : Reason → Type 0
IsOut no_spelling = ⊥
IsOut too_deep = ⊥
IsOut (left_out feature) = Unit {0}

-- No form that is left out begins before the place, and none there unless the reason is one.
abbrev pub ComesFirst : List Sym → Reason → ℕ → Type 0
ComesFirst symbols reason place = (feature : Feature) (front back : List Sym) → symbols ≡ front ++ back → IsLeftOut front feature back
    → (place < length front) ⊎ ((place ≡ length front) × IsOut reason)

-- The symbols have this fault at this place: what stands before it begins a tree within the limits, so that no earlier
-- symbol is at fault.
pub record IsFault (symbols : List Sym) (reason : Reason) (place : ℕ) : Type 0 where
  pub before : List Sym
  pub after : List Sym
  pub parts : symbols ≡ before ++ after
  pub counted : length before ≡ place
  pub cause : Causes before reason after
  pub least : BeginsATree before
  pub comes_first : ComesFirst symbols reason place
