-- step: what terminals cost in bytes, in eighths, and which of them are texts.
use Rattle.std.specs.Str.{IsUtf8}
use Rattle.std.specs.Prelude.{ℕ, ◌+◌, ◌*◌, List, [], ◌∷◌, length}
use Rattle.sl_ast.specs.Symbols.{Word, plain, quoted, Sym, number, word, text, mark, blank, caret, char}

abbrev pub word_cost : Word → ℕ
word_cost (plain w) = 1 + 8 * length w
word_cost (quoted keyword) = 1

-- a name with its bytes, and each other terminal as one
abbrev pub cost : Sym → ℕ
cost (word w) = word_cost w
cost (number n) = 1
cost (text t) = 1
cost (mark m) = 1
cost (blank t) = 1
cost (caret t) = 1
cost (char t) = 1

abbrev pub costs : List Sym → ℕ
costs [] = 0
costs (s ∷ ss) = cost s + costs ss

-- a name is UTF-8
abbrev pub IsTerminal : Sym → Type 0
IsTerminal (word (plain w)) = IsUtf8 w
IsTerminal s = Unit {0}
