-- meaning: constructors, rules 3 and 16 to 19 (SLEIGH manual, "Constructors").
use Rattle.std.specs.Prelude.{ℕ, ◌&&◌, ◌||◌, Bool, true, not, nat_le, codes, List, length}
use Rattle.std.specs.List.{list_all}
use Rattle.std.specs.Str.{bytes_eq}
use Rattle.sl_ast.specs.Trees.{Piece, piece_word}
use Rattle.sl_spec_rules.specs.Names.{Name, are_distinct, is_among}
use Rattle.sl_spec.specs.Named.{has_name}
use Rattle.sl_spec.specs.Tables.{Field, Register, Table}
use Rattle.sl_spec.specs.declared.tables.Tables.{Tables}
use Rattle.sl_spec_registers.specs.NewNames.{is_new}
use Rattle.sl_spec_definitions.specs.Words.{word_bytes}
use Rattle.sl_spec_actions.specs.Parts.{Part, is_table}
use Rattle.sl_spec_constructors.specs.Displays.{shown}
use Rattle.sl_spec_constructors.specs.Operands.{is_epsilon}

-- 3, of a table: it has a constructor before, or its name is new and no reserved word
abbrev pub may_begin : Tables → Name → Bool
may_begin t name = has_name (λ b. b.name) name t.tables || is_new t name

-- whether a piece of a display is no word, or that of an operand or a register
abbrev pub is_shown : List Register → List Name → Piece → Bool
is_shown registers names (piece_word w) =
    is_among names (word_bytes w) || has_name (λ r. r.name) (word_bytes w) registers
is_shown registers names _ = true

-- 16: each display word after the mnemonic is an operand or a register
unfoldable pub shows_operands : Tables → List Name → Bool → List Piece → Bool
shows_operands t names has_mnemonic ps =
    list_all (is_shown t.registers names) (shown has_mnemonic ps)

-- 17: a constrained name is a field; a bare name is a field, a table or `epsilon`
abbrev pub is_known : List Field → List Table → Part → Bool
is_known fields tables p = has_name (λ f. f.name) p.name fields
    || (p.bare && (is_table tables p.name || is_epsilon p.name))

-- 18: no name but `epsilon` is bare twice, and there are at most 32 operands
abbrev pub most_operands : ℕ
most_operands = 32

abbrev pub are_few : List Name → List Name → Bool
are_few bare names = are_distinct bare && nat_le (length names) most_operands

-- 19: inside `|` no name but `epsilon` is bare
abbrev pub is_allowed_there : Part → Bool
is_allowed_there p = not p.in_choice || (not p.bare || is_epsilon p.name)

-- whether a constructor is one of `instruction`, whose displays have mnemonics
abbrev pub is_of_root : Name → Bool
is_of_root table = bytes_eq table (codes "instruction")
