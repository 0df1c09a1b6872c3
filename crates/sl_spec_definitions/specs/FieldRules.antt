-- meaning: tokens, fields and the context, rules 9 to 12 (SLEIGH manual, "Defining Tokens and
-- Fields" and "Context Variables").
use Rattle.std.specs.Prelude.{ℕ, ◌*◌, ◌%◌, ◌==◌, ◌&&◌, Bool, true, false, not, nat_le, nat_lt}
use Rattle.std.specs.Prelude.{count_by, List, [], ◌∷◌, ◌++◌, length, map, Option, Some, None, Result}
use Rattle.std.specs.Prelude.{is_none}
use Rattle.std.specs.List.{list_any, list_all}
use Rattle.sl_ast.specs.Trees as tree
use Rattle.sl_ast.specs.declared.definitions.ByteOrder.{ByteOrder}
use Rattle.sl_ast.specs.declared.definitions.ByteOrder.TheVariants as order
use Rattle.sl_ast.specs.declared.definitions.FieldAttribute.{FieldAttribute}
use Rattle.sl_ast.specs.declared.definitions.FieldAttribute.TheVariants as attribute
use Rattle.sl_spec_rules.specs.Demands.{Demand, judged}
use Rattle.sl_spec_rules.specs.Names.{Name}
use Rattle.sl_spec.specs.Named.{index_named, named}
use Rattle.sl_spec.specs.Tables.{Field, Register, Token}
use Rattle.sl_spec.specs.declared.tables.Tables.{Tables}
use Rattle.sl_word.specs.declared.word.Endian.{Endian}
use Rattle.sl_word.specs.declared.word.Endian.TheVariants.{Big, Little}
use Rattle.sl_spec_registers.specs.NewNames.{are_new}

-- ---- fields

abbrev pub is_signed : FieldAttribute → Bool
is_signed attribute.Signed = true
is_signed _ = false

abbrev pub is_hex : FieldAttribute → Bool
is_hex attribute.Hex = true
is_hex _ = false

abbrev pub is_dec : FieldAttribute → Bool
is_dec attribute.Dec = true
is_dec _ = false

abbrev pub is_noflow : FieldAttribute → Bool
is_noflow attribute.NoFlow = true
is_noflow _ = false

abbrev pub has : (FieldAttribute → Bool) → tree.Field → Bool
has is f = list_any is f.attributes

abbrev pub at_most_once : (FieldAttribute → Bool) → tree.Field → Bool
at_most_once is f = nat_le (count_by is f.attributes) 1

-- 10, of any field: low is at most high
abbrev pub is_in_order : tree.Field → Bool
is_in_order f = nat_le f.low f.high

-- 10, of a token's field: high is below the token's bits, and it has no `noflow`
abbrev pub is_token_field : ℕ → tree.Field → Bool
is_token_field bits f = is_in_order f && (nat_lt f.high bits && not (has is_noflow f))

-- 12: no field has both `hex` and `dec`, nor an attribute twice
abbrev pub has_attributes_once : tree.Field → Bool
has_attributes_once f = not (has is_hex f && has is_dec f)
    && (at_most_once is_signed f && (at_most_once is_hex f
    && (at_most_once is_dec f && at_most_once is_noflow f)))

abbrev pub field_of : Option ℕ → tree.Field → Field
field_of token f = record {
  name = f.name;
  token = token;
  low = f.low;
  high = f.high;
  signed = has is_signed f;
  dec = has is_dec f;
  noflow = has is_noflow f;
}

abbrev pub field_names : List tree.Field → List Name
field_names fs = map (λ f. f.name) fs

-- ---- tokens

-- 9: a token has 8 to 64 bits, a multiple of 8
abbrev pub is_width : ℕ → Bool
is_width bits = nat_le 8 bits && (nat_le bits 64 && (bits % 8 == 0))

abbrev pub token_demands : Tables → Name → ℕ → List tree.Field → List Demand
token_demands t name bits fs =
    (3, are_new t (name ∷ field_names fs)) ∷ (9, is_width bits)
    ∷ (10, list_all (is_token_field bits) fs) ∷ (12, list_all has_attributes_once fs) ∷ []

abbrev pub endian_of : ByteOrder → Endian
endian_of order.Big = Big
endian_of order.Little = Little

-- its own byte order, or else that of the specification
abbrev pub token_order : Tables → Option ByteOrder → Endian
token_order t None = t.endian
token_order t (Some own) = endian_of own

abbrev pub with_token : Tables → Token → List Field → Tables
with_token t k fs = record t { tokens = t.tokens ++ k ∷ []; fields = t.fields ++ fs }

abbrev pub token_step : Tables → Name → ℕ → Option ByteOrder → List tree.Field → Result Tables ℕ
token_step t name bits own fs = judged (token_demands t name bits fs)
    (with_token t (record { name = name; bits = bits; endian = token_order t own })
    (map (field_of (Some (length t.tokens))) fs))

-- ---- the context

abbrev pub holds_fields : Option Register → List tree.Field → Bool
holds_fields None fs = false
holds_fields (Some r) fs = nat_le r.size 8 && list_all (λ f. nat_lt f.high (8 * r.size)) fs

-- 11: there is at most one `define context`; its register is defined, with at most 8 bytes; each high
-- is below its bits
abbrev pub is_context : Tables → Name → List tree.Field → Bool
is_context t register fs =
    is_none t.context && holds_fields (named (λ r. r.name) register t.registers) fs

abbrev pub context_demands : Tables → Name → List tree.Field → List Demand
context_demands t register fs =
    (3, are_new t (field_names fs)) ∷ (10, list_all is_in_order fs)
    ∷ (11, is_context t register fs) ∷ (12, list_all has_attributes_once fs) ∷ []

abbrev pub with_context : Tables → Option ℕ → List Field → Tables
with_context t register fs = record t { context = register; fields = t.fields ++ fs }

abbrev pub context_step : Tables → Name → List tree.Field → Result Tables ℕ
context_step t register fs = judged (context_demands t register fs)
    (with_context t (index_named (λ r. r.name) register t.registers) (map (field_of None) fs))
