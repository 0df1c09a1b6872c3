-- step: the modes of a text by its terminals, and which terminals the lexer gives in each.
use Rattle.std.specs.Prelude.{ℕ, ◌≤◌, List, [], ◌∷◌, length}
use Rattle.sl_ast.specs.Symbols.{Word, plain, quoted, Sym, number, word, text, mark, blank, caret, char}
use Rattle.sl_ast.specs.Trees.{Name}
use Rattle.sl_ast.specs.declared.symbols.Keyword.{Keyword}
use Rattle.sl_ast.specs.declared.symbols.Keyword.TheVariants as k
use Rattle.sl_ast.specs.declared.symbols.Mark.{Mark}
use Rattle.sl_ast.specs.declared.symbols.Mark.TheVariants as m
use Rattle.sl_lex.specs.declared.mode.Mode.{Mode}
use Rattle.sl_lex.specs.declared.mode.Mode.TheVariants.{Top, Head, Plain, Body, Display, Pattern}
use Rattle.sl_store_bytes.specs.Numbers.{greatest}
use Rattle.sl_store_bytes.specs.Words.{IsName, IsShownName, IsText, IsBlank, IsCaret, IsChar}

-- ---- where a terminal leads

abbrev pub top_word : Keyword → Mode
top_word k.Define = Plain
top_word k.Attach = Plain
top_word k.Macro = Body
top_word k.With = Head
top_word keyword = Top

abbrev pub display_word : Keyword → Mode
display_word k.Is = Pattern
display_word keyword = Display

abbrev pub pattern_word : Keyword → Mode
pattern_word k.Unimpl = Top
pattern_word keyword = Pattern

abbrev pub by_word : Mode → Word → Mode
by_word mode (plain w) = mode
by_word Top (quoted keyword) = top_word keyword
by_word Display (quoted keyword) = display_word keyword
by_word Pattern (quoted keyword) = pattern_word keyword
by_word Head (quoted keyword) = Head
by_word Plain (quoted keyword) = Plain
by_word Body (quoted keyword) = Body

abbrev pub top_mark : Mark → Mode
top_mark m.Colon = Display
top_mark x = Top

abbrev pub head_mark : Mark → Mode
head_mark m.OpenBrace = Top
head_mark x = Head

abbrev pub plain_mark : Mark → Mode
plain_mark m.Semicolon = Top
plain_mark x = Plain

abbrev pub body_mark : Mark → Mode
body_mark m.CloseBrace = Top
body_mark x = Body

abbrev pub pattern_mark : Mark → Mode
pattern_mark m.OpenBrace = Body
pattern_mark x = Pattern

abbrev pub by_mark : Mode → Mark → Mode
by_mark Top x = top_mark x
by_mark Head x = head_mark x
by_mark Plain x = plain_mark x
by_mark Body x = body_mark x
by_mark Display x = Display
by_mark Pattern x = pattern_mark x

-- the mode after a terminal
abbrev pub leads : Mode → Sym → Mode
leads mode (word w) = by_word mode w
leads mode (mark x) = by_mark mode x
leads mode (number n) = mode
leads mode (text t) = mode
leads mode (blank t) = mode
leads mode (caret t) = mode
leads mode (char t) = mode

-- ---- which terminals a mode gives

abbrev pub IsNameIn : Mode → Name → Type 0
IsNameIn Display w = IsShownName w
IsNameIn Top w = IsName w
IsNameIn Head w = IsName w
IsNameIn Plain w = IsName w
IsNameIn Body w = IsName w
IsNameIn Pattern w = IsName w

abbrev pub IsWordIn : Mode → Word → Type 0
IsWordIn mode (plain w) = IsNameIn mode w
IsWordIn mode (quoted keyword) = Unit {0}

abbrev pub IsGiven : Mode → Sym → Type 0
IsGiven mode (word w) = IsWordIn mode w
IsGiven mode (number n) = n ≤ greatest
IsGiven mode (text t) = IsText t
IsGiven mode (mark x) = Unit {0}
IsGiven mode (blank t) = IsBlank t
IsGiven mode (caret t) = IsCaret t
IsGiven mode (char t) = IsChar t

-- Each terminal is one that its mode gives.
abbrev pub AreGiven : Mode → List Sym → Type 0
AreGiven mode [] = Unit {0}
AreGiven mode (s ∷ ss) = IsGiven mode s × AreGiven (leads mode s) ss

-- So are these, and a file can count them.
pub record At (mode : Mode) (ss : List Sym) : Type 0 where
  pub given : AreGiven mode ss
  pub low : length ss ≤ greatest

-- ---- modes in which expressions, patterns and statements lie

-- It leads out of none of these modes.
abbrev pub StaysInside : Sym → Type 0
StaysInside (mark m.OpenBrace) = ⊥
StaysInside (mark m.CloseBrace) = ⊥
StaysInside (word (quoted k.Unimpl)) = ⊥
StaysInside s = Unit {0}
