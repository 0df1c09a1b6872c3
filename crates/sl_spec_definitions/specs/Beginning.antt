-- meaning: what is there before the first item, the byte order and the alignment, rules 1 and 2
-- (SLEIGH manual, "Endianess Definition" and "Alignment Definition").
use Rattle.std.specs.Prelude.{ℕ, ◌&&◌, Bool, true, false, not, nat_le, if◌then◌else◌}
use Rattle.std.specs.Prelude.{[], ◌∷◌, None, Result, codes}
use Rattle.sl_ast.specs.Trees.{Item, define, endian}
use Rattle.sl_ast.specs.declared.definitions.ByteOrder.{ByteOrder}
use Rattle.sl_spec_rules.specs.Demands.{judged}
use Rattle.sl_spec.specs.declared.tables.Tables.{Tables}
use Rattle.sl_word.specs.declared.word.Endian.TheVariants.{Little}
use Rattle.sl_spec_definitions.specs.FieldRules.{endian_of}
use Rattle.sl_spec_definitions.specs.declared.known.Known.{Known}

-- the table `instruction` without constructors, and nothing else
abbrev pub no_tables : Tables
no_tables = record {
  endian = Little;
  alignment = 1;
  spaces = [];
  registers = [];
  bitranges = [];
  tokens = [];
  fields = [];
  context = None;
  attached = [];
  tables = record { name = codes "instruction"; constructors = [] } ∷ [];
  constructors = [];
  macros = [];
  userops = [];
}

-- what is known before the first item
abbrev pub opening : Known
opening = record { tables = no_tables; begun = false; alignment_stands = false }

-- ---- rule 1

abbrev pub is_endian : Item → Bool
is_endian (define (endian order)) = true
is_endian _ = false

-- 1: `define endian` is the first item and stands once
abbrev pub is_due : Bool → Bool → Bool
is_due begun gives_endian = if begun then not gives_endian else gives_endian

-- an item begins, by whether it is a `define endian`
abbrev pub begin : Known → Bool → Result Known ℕ
begin k gives_endian =
    judged ((1, is_due k.begun gives_endian) ∷ []) (record k { begun = true })

-- the byte order
abbrev pub with_endian : Tables → ByteOrder → Tables
with_endian t order = record t { endian = endian_of order }

-- ---- rule 2

-- 2: `alignment` stands at most once and is 1 to 16
abbrev pub is_alignment : Bool → ℕ → Bool
is_alignment stands n = not stands && (nat_le 1 n && nat_le n 16)

abbrev pub with_alignment : Known → ℕ → Known
with_alignment k n =
    record k { tables = record k.tables { alignment = n }; alignment_stands = true }

abbrev pub alignment_step : Known → ℕ → Result Known ℕ
alignment_step k n = judged ((2, is_alignment k.alignment_stands n) ∷ []) (with_alignment k n)
