-- law: the fault of symbols that spell no specification.
use Rattle.std.specs.Prelude.{◌≡◌, ℕ, ◌+◌, List, length, Err}
use Rattle.sl_ast.specs.Symbols.{Sym}
use Rattle.sl_parse_grammar.specs.Items.{specification}
use Rattle.sl_parse_grammar.specs.Reader.{Form, syntax, nesting, unsupported, fault}
use Rattle.sl_parse_grammar.specs.Reasons.{Reason, left_out, no_spelling, too_deep}

abbrev pub reason_of : Form → Reason
reason_of syntax = no_spelling
reason_of nesting = too_deep
reason_of (unsupported feature back) = left_out feature

-- how many symbols before the one that decides it began
abbrev pub back_of : Form → ℕ
back_of syntax = 0
back_of nesting = 0
back_of (unsupported feature back) = back

-- the symbols have this fault, whose place is the index of a symbol, or how many there are
pub record HasFault (symbols : List Sym) (reason : Reason) (place : ℕ) : Type 0 where
  pub form : Form
  pub left : ℕ
  pub found : specification symbols ≡ Err (fault form left)
  pub why : reason_of form ≡ reason
  pub where_it_is : place + (back_of form + left) ≡ length symbols
