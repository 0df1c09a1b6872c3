-- law: how an item is told is one line, whatever bytes its tokens have.
use Rattle.std.specs.Prelude.{ℕ, List}
use Rattle.sl_explain_heads.specs.Heads.{head_line, pattern_line}
use Rattle.sl_explain_lines.specs.Laws.{AreLines}
use Rattle.sl_lex.specs.Reading.{Token}

abbrev pub HeadsAreLines : Type 0
HeadsAreLines = (ts : List Token) (index : ℕ) → AreLines (head_line ts index) × AreLines (pattern_line ts index)
