-- meaning: the marks of the language by their bytes.
use Rattle.std.specs.Prelude.{ℕ, List, [], ◌∷◌, unwrap_or, codes}
use Rattle.sl_ast.specs.Symbols.{find}
use Rattle.sl_ast.specs.declared.symbols.Mark.{Mark}
use Rattle.sl_ast.specs.declared.symbols.Mark.TheVariants as m

-- the bytes of each mark
abbrev pub marks : List (List ℕ × Mark)
marks =
    (codes "...", m.Ellipsis) ∷ (codes "$and", m.WordAnd) ∷ (codes "$or", m.WordOr) ∷ (codes "$xor", m.WordXor) ∷ (codes "<<", m.ShiftLeft) ∷ (codes ">>", m.ShiftRight)
    ∷ (codes "<=", m.LessEqual) ∷ (codes ">=", m.GreaterEqual) ∷ (codes "==", m.EqualEqual) ∷ (codes "!=", m.NotEqual) ∷ (codes "&&", m.AndAnd) ∷ (codes "||", m.BarBar)
    ∷ (codes "^^", m.CaretCaret) ∷ (codes "(", m.Open) ∷ (codes ")", m.Close) ∷ (codes "[", m.OpenBracket) ∷ (codes "]", m.CloseBracket) ∷ (codes "{", m.OpenBrace)
    ∷ (codes "}", m.CloseBrace) ∷ (codes ",", m.Comma) ∷ (codes ";", m.Semicolon) ∷ (codes ":", m.Colon) ∷ (codes "=", m.Equals) ∷ (codes "+", m.Plus) ∷ (codes "-", m.Minus)
    ∷ (codes "*", m.Star) ∷ (codes "/", m.Slash) ∷ (codes "%", m.Percent) ∷ (codes "&", m.Ampersand) ∷ (codes "|", m.Bar) ∷ (codes "^", m.Caret) ∷ (codes "~", m.Tilde)
    ∷ (codes "!", m.Exclamation) ∷ (codes "<", m.Less) ∷ (codes ">", m.Greater) ∷ (codes "s>>", m.SignedShiftRight) ∷ (codes "s<=", m.SignedLessEqual)
    ∷ (codes "s>=", m.SignedGreaterEqual) ∷ (codes "s<", m.SignedLess) ∷ (codes "s>", m.SignedGreater) ∷ (codes "s/", m.SignedSlash) ∷ (codes "s%", m.SignedPercent)
    ∷ (codes "f+", m.Floating) ∷ (codes "f-", m.Floating) ∷ (codes "f*", m.Floating) ∷ (codes "f/", m.Floating) ∷ (codes "f==", m.Floating) ∷ (codes "f!=", m.Floating)
    ∷ (codes "f<", m.Floating) ∷ (codes "f<=", m.Floating) ∷ (codes "f>", m.Floating) ∷ (codes "f>=", m.Floating) ∷ []

-- the mark with these bytes
unfoldable pub mark_of : List ℕ → Mark
mark_of bytes = unwrap_or (find bytes marks) m.Unknown
