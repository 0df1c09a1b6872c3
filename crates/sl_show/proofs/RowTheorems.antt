-- Texts of small specifications.
use Rattle.std.proofs.Common.{◌≡◌, ℕ, ℤ, true, false, Bool, List, [], ◌∷◌, ◌++◌, pos, negsuc, Some, None, refl}
use Rattle.std.specs.Fmt.{digits}
use Rattle.std.specs.Prelude.{codes}
use Rattle.std.specs.Int.{int_wrap}
use Rattle.sl_ast.specs.Symbols.{plain}
use Rattle.sl_ast.specs.Trees.{Constructor, Name, Pattern, Piece, bare, constraint, ellipsis, integer, joined, piece_blank, piece_caret, piece_char, piece_text, piece_word, unimplemented}
use Rattle.sl_ast.specs.declared.patterns.PatternOp.TheVariants.{And, Then}
use Rattle.sl_ast.specs.declared.patterns.Relation.TheVariants.{Equal}
use Rattle.sl_decode_meaning.specs.Places.{leaves}
use Rattle.sl_decode_meaning.specs.Trees.{Node, none, tree}
use Rattle.sl_spec_definitions.specs.Words.{word_bytes}
use Rattle.sl_show.specs.Numbers.{number_text}
use Rattle.sl_show.specs.Pieces.{display_text}
use Rattle.sl_show.specs.Texts.{shown_text}
use Rattle.sl_spec.specs.FieldValues.{value_of}
use Rattle.sl_spec.specs.Tables as spec
use Rattle.sl_spec.specs.declared.constructors.Means.{Means}
use Rattle.sl_spec.specs.declared.constructors.Means.TheVariants as means
use Rattle.sl_spec.specs.declared.tables.Tables.{Tables}
use Rattle.sl_word.specs.declared.word.Endian.{Endian}
use Rattle.sl_word.specs.declared.word.Endian.TheVariants.{Big, Little}

-- a field of the first token
abbrev field : List ℕ → ℕ → ℕ → Bool → Bool → spec.Field
field name low high signed dec = record { name = name; token = Some 0; low = low; high = high; signed = signed; dec = dec; noflow = false }

abbrev ctor : ℕ → List spec.Operand → spec.Ctor
ctor t os = record { table = t; item = 0; operands = os }

abbrev operand : List ℕ → Means → spec.Operand
operand name m = record { name = name; means = m }

abbrev register : List ℕ → spec.Register
register name = record { name = name; space = 0; offset = 0; size = 1 }

-- one token, registers A to D, these fields, attached lists and constructors
abbrev tables : Endian → ℕ → List spec.Field → List spec.Attached → List spec.Ctor → Tables
tables endian bits fields attached constructors = record {
  endian = endian;
  alignment = 1;
  spaces = [];
  registers = register (codes "A") ∷ register (codes "B") ∷ register (codes "C") ∷ register (codes "D") ∷ [];
  bitranges = [];
  tokens = record { name = codes "t"; bits = bits; endian = endian } ∷ [];
  fields = fields;
  context = None;
  attached = attached;
  tables = [];
  constructors = constructors;
  macros = [];
  userops = [];
}

abbrev written : List Piece → Pattern → ℕ × Constructor
written ps p = (0, record { table = None; display = ps; pattern = p; actions = None; section = unimplemented })

abbrev word : List ℕ → Piece
word name = piece_word (plain name)

abbrev blank : Piece
blank = piece_blank (codes "  ")

abbrev caret : Piece
caret = piece_caret (codes "^")

abbrev comma : Piece
comma = piece_char (codes ",")

abbrev is : List ℕ → ℕ → Pattern
is name n = constraint name Equal (integer n)

abbrev node : ℕ → ℕ → ℕ → List ℤ → Node
node c at n values = record { ctor = c; at = at; length = n; context = 0; values = values }

-- ---- numbers

numbers_are : number_text false (pos 0) ++ number_text false (pos 255) ++ number_text false (negsuc 15) ++ number_text true (negsuc 9) ++ number_text true (pos 0)
    ≡ codes "0x00xff-0x10-100"
unfolding digits
numbers_are = refl

greatest_is : number_text false (negsuc 9223372036854775807) ≡ codes "-0x8000000000000000"
unfolding digits
greatest_is = refl

-- ---- displays

abbrev shouts : Name → List ℕ
shouts name = codes "<" ++ name ++ codes ">"

-- `:add is`
mnemonic_alone : display_text true shouts (word (codes "add") ∷ blank ∷ []) ≡ codes "add"
unfolding display_text word_bytes
mnemonic_alone = refl

-- `: add ^ rd , rd is`
two_blanks : display_text true shouts (blank ∷ word (codes "add") ∷ blank ∷ caret ∷ blank ∷ word (codes "rd") ∷ comma ∷ blank ∷ blank ∷ word (codes "rd") ∷ blank ∷ [])
    ≡ codes "add  <rd>, <rd>"
unfolding display_text word_bytes
two_blanks = refl

-- `:"ad d"rd^rd is`
quoted_mnemonic : display_text true shouts (piece_text (34 ∷ codes "ad d" ++ 34 ∷ []) ∷ word (codes "rd") ∷ caret ∷ word (codes "rd") ∷ [])
    ≡ codes "ad drd<rd>"
unfolding display_text word_bytes
quoted_mnemonic = refl

-- `:  ^rd rs is`
no_mnemonic : display_text true shouts (blank ∷ caret ∷ word (codes "rd") ∷ blank ∷ word (codes "rs") ∷ []) ≡ codes "<rd> <rs>"
unfolding display_text word_bytes
no_mnemonic = refl

-- `tb: rd rs is`, of another table
other_table : display_text false shouts (blank ∷ word (codes "rd") ∷ blank ∷ word (codes "rs") ∷ blank ∷ []) ≡ codes "<rd> <rs>"
unfolding display_text word_bytes
other_table = refl

-- ---- operands

-- `:inc rd,D,x is op=1 & rd & x`, with registers and names attached, and all five kinds of numbers
abbrev kinds : Tables
kinds = tables Big 8 (field (codes "op") 4 7 false false ∷ field (codes "rd") 2 3 false false ∷ field (codes "x") 0 1 false false ∷ field (codes "v") 0 1 false true
    ∷ field (codes "h") 0 3 false false ∷ field (codes "d") 0 3 false true ∷ field (codes "s") 0 3 true false ∷ field (codes "sd") 0 3 true true ∷ [])
    (record { field = 1; entries = spec.registers (Some 0 ∷ Some 1 ∷ None ∷ Some 3 ∷ []) } ∷ record { field = 2; entries = spec.texts (Some (codes "off") ∷ Some (codes "on") ∷ []) }
    ∷ record { field = 3; entries = spec.values (None ∷ Some (negsuc 11) ∷ []) } ∷ [])
    (ctor 0 (operand (codes "rd") (means.Field 1) ∷ operand (codes "x") (means.Field 2) ∷ operand (codes "v") (means.Field 3) ∷ operand (codes "q") (means.Action 0) ∷ [])
    ∷ ctor 0 (operand (codes "h") (means.Field 4) ∷ operand (codes "d") (means.Field 5) ∷ operand (codes "s") (means.Field 6) ∷ operand (codes "sd") (means.Field 7) ∷ []) ∷ [])

abbrev kinds_text : List (ℕ × Constructor)
kinds_text = written (word (codes "inc") ∷ blank ∷ word (codes "rd") ∷ comma ∷ word (codes "D") ∷ comma ∷ word (codes "x") ∷ comma ∷ word (codes "v") ∷ comma ∷ word (codes "q") ∷ blank ∷ [])
    (joined And (joined And (is (codes "op") 1) (bare (codes "rd"))) (joined And (bare (codes "x")) (bare (codes "v"))))
    ∷ written (word (codes "n") ∷ blank ∷ word (codes "h") ∷ comma ∷ word (codes "d") ∷ comma ∷ word (codes "s") ∷ comma ∷ word (codes "sd") ∷ [])
    (joined And (joined And (bare (codes "h")) (bare (codes "d"))) (joined And (bare (codes "s")) (bare (codes "sd")))) ∷ []

attached_are : shown_text kinds kinds_text (21 ∷ []) (tree (node 0 0 1 (negsuc 15 ∷ [])) none none) ≡ codes "inc B,D,on,-12,-0x10"
unfolding shown_text display_text word_bytes leaves value_of int_wrap digits
attached_are = refl

fields_are : shown_text kinds kinds_text (31 ∷ []) (tree (node 1 0 1 []) none none) ≡ codes "n 0xf,15,-0x1,-1"
unfolding shown_text display_text word_bytes leaves value_of int_wrap digits
fields_are = refl

-- `:ld s is op=1 & s`, little-endian
abbrev little : Tables
little = tables Little 16 (field (codes "op") 0 7 false false ∷ field (codes "s") 8 11 true false ∷ []) [] (ctor 0 (operand (codes "s") (means.Field 1) ∷ []) ∷ [])

little_is : shown_text little (written (word (codes "ld") ∷ blank ∷ word (codes "s") ∷ blank ∷ []) (joined And (is (codes "op") 1) (bare (codes "s"))) ∷ [])
    (1 ∷ 8 ∷ []) (tree (node 0 0 2 []) none none) ≡ codes "ld -0x8"
unfolding shown_text display_text word_bytes leaves value_of int_wrap digits
little_is = refl

-- `rm: "["^disp^"]" is reg=0 ; disp`, `rm: "r"^r is r`, `:ldi rm,imm is rm & reg=0 ... ; imm`
abbrev places : Tables
places = tables Big 8 (field (codes "reg") 3 5 false false ∷ field (codes "r") 0 2 false true ∷ field (codes "disp") 0 7 false false ∷ field (codes "imm") 0 7 false false ∷ []) []
    (ctor 1 (operand (codes "r") (means.Field 1) ∷ []) ∷ ctor 1 (operand (codes "disp") (means.Field 2) ∷ [])
    ∷ ctor 0 (operand (codes "rm") (means.Table 1) ∷ operand (codes "imm") (means.Field 3) ∷ []) ∷ [])

abbrev quoted : List ℕ → Piece
quoted text = piece_text (34 ∷ text ++ 34 ∷ [])

abbrev places_text : List (ℕ × Constructor)
places_text = written (quoted (codes "r") ∷ caret ∷ word (codes "r") ∷ blank ∷ []) (bare (codes "r"))
    ∷ written (quoted (codes "[") ∷ caret ∷ word (codes "disp") ∷ caret ∷ quoted (codes "]") ∷ []) (joined Then (is (codes "reg") 0) (bare (codes "disp")))
    ∷ written (word (codes "ldi") ∷ blank ∷ word (codes "rm") ∷ comma ∷ word (codes "imm") ∷ blank ∷ []) (joined Then (joined And (bare (codes "rm")) (ellipsis (is (codes "reg") 0))) (bare (codes "imm"))) ∷ []

short_is : shown_text places places_text (193 ∷ 5 ∷ []) (tree (node 2 0 2 []) (tree (node 0 0 1 []) none none) none) ≡ codes "ldi r1,0x5"
unfolding shown_text display_text word_bytes leaves value_of int_wrap digits
short_is = refl

long_is : shown_text places places_text (2 ∷ 7 ∷ 9 ∷ []) (tree (node 2 0 3 []) (tree (node 1 0 2 []) none none) none) ≡ codes "ldi [0x7],0x9"
unfolding shown_text display_text word_bytes leaves value_of int_wrap digits
long_is = refl
