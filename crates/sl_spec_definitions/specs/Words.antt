-- meaning: the bytes of a tree's words, and of its texts without their quotes.
use Rattle.std.specs.Prelude.{ℕ, ◌-◌, List, [], ◌∷◌, length, take, drop, if◌then◌else◌}
use denote.Enum.Bare.{sameb}
use Rattle.sl_ast.specs.Symbols.{Word, plain, quoted, keywords}
use Rattle.sl_ast.specs.contracts.symbols.Keyword.{the_type}
use Rattle.sl_ast.specs.declared.symbols.Keyword.{Keyword}

-- the bytes of the first row with this keyword
abbrev pub bytes_in : List (List ℕ × Keyword) → Keyword → List ℕ
bytes_in [] keyword = []
bytes_in (row ∷ rows) keyword =
    if sameb the_type row.1 keyword then row.0 else bytes_in rows keyword

-- what a word is spelled with
unfoldable pub word_bytes : Word → List ℕ
word_bytes (plain bytes) = bytes
word_bytes (quoted keyword) = bytes_in keywords keyword

-- a quoted text without its first and its last byte
abbrev pub unquoted : List ℕ → List ℕ
unquoted text = take (length text - 2) (drop 1 text)
