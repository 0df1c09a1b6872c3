-- meaning: what the grammar sees of a token.
use Rattle.std.specs.Prelude.{ℕ, Bool, cond, List, [], ◌∷◌, Option, None, Some, codes, ◌==◌, ◌&&◌, true, false}
use Rattle.sl_ast.specs.declared.symbols.Keyword.{Keyword}
use Rattle.sl_ast.specs.declared.symbols.Keyword.TheVariants as k
use Rattle.sl_ast.specs.declared.symbols.Mark.{Mark}

-- a word, which is a name or one that the grammar quotes
pub data Word : Type 0 where
  plain : List ℕ → Word
  quoted : Keyword → Word

-- a token without its place; an integer by its value
pub data Sym : Type 0 where
  number : ℕ → Sym
  word : Word → Sym
  text : List ℕ → Sym
  mark : Mark → Sym
  blank : List ℕ → Sym
  caret : List ℕ → Sym
  char : List ℕ → Sym

-- the words that the grammar quotes, and the one that the language lacks
abbrev pub keywords : List (List ℕ × Keyword)
keywords =
    (codes "define", k.Define) ∷ (codes "attach", k.Attach) ∷ (codes "endian", k.Endian) ∷ (codes "big", k.Big) ∷ (codes "little", k.Little)
    ∷ (codes "alignment", k.Alignment) ∷ (codes "space", k.Space) ∷ (codes "type", k.Type) ∷ (codes "size", k.Size)
    ∷ (codes "wordsize", k.WordSize) ∷ (codes "default", k.Default) ∷ (codes "bitrange", k.BitRange) ∷ (codes "pcodeop", k.PcodeOp)
    ∷ (codes "token", k.Token) ∷ (codes "context", k.Context) ∷ (codes "offset", k.Offset) ∷ (codes "signed", k.Signed) ∷ (codes "hex", k.Hex)
    ∷ (codes "dec", k.Dec) ∷ (codes "noflow", k.NoFlow) ∷ (codes "variables", k.Variables) ∷ (codes "names", k.Names) ∷ (codes "values", k.Values)
    ∷ (codes "macro", k.Macro) ∷ (codes "with", k.With) ∷ (codes "is", k.Is) ∷ (codes "unimpl", k.Unimpl) ∷ (codes "globalset", k.GlobalSet)
    ∷ (codes "local", k.Local) ∷ (codes "goto", k.Goto) ∷ (codes "if", k.If) ∷ (codes "call", k.Call) ∷ (codes "return", k.Return)
    ∷ (codes "build", k.Build) ∷ (codes "export", k.Export) ∷ (codes "inst_next2", k.InstNext2) ∷ []

abbrev pub same_bytes : List ℕ → List ℕ → Bool
same_bytes [] [] = true
same_bytes [] (b ∷ bs) = false
same_bytes (a ∷ as') [] = false
same_bytes (a ∷ as') (b ∷ bs) = (a == b) && same_bytes as' bs

abbrev pub find : {A : Type 0} → List ℕ → List (List ℕ × A) → Option A
find bytes [] = None
find bytes (row ∷ rows) = cond (same_bytes bytes row.0) (Some row.1) (find bytes rows)

unfoldable pub keyword_of : List ℕ → Option Keyword
keyword_of bytes = find bytes keywords

abbrev pub word_by : Option Keyword → List ℕ → Word
word_by None bytes = plain bytes
word_by (Some keyword) bytes = quoted keyword

-- the word with these bytes
unfoldable pub word_of : List ℕ → Word
word_of bytes = word_by (keyword_of bytes) bytes
