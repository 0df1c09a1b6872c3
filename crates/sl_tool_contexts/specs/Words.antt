-- meaning: the context that words FIELD=VALUE give, or the first word that is refused.
use Rattle.std.specs.Prelude.{ℕ, ℤ, pos, neg_ℤ, suc, ◌-◌, ◌^◌, ◌&&◌, Bool, int_le}
use Rattle.std.specs.Prelude.{List, Option, None, Some, Result, Ok, Err, if◌then◌else◌}
use Rattle.sl_tool_contexts.specs.declared.words.Cause.{Cause}
use Rattle.sl_tool_contexts.specs.declared.words.Cause.TheVariants.{NoField, OutOfRange}
use Rattle.sl_decode_meaning.specs.Actions.{mask_of, with_bits}
use Rattle.sl_decode_meaning.specs.Kinds.{if_of_context}
use Rattle.sl_spec_operators.specs.Operators.{wrapped}
use Rattle.sl_tool_request.specs.Requests as request
use Rattle.sl_spec_rules.specs.Demands.{run}
use Rattle.sl_spec.specs.Named.{named}
use Rattle.sl_spec.specs.Tables.{Field, Name}
use Rattle.sl_spec.specs.declared.tables.Tables.{Tables}

-- a word that is refused, by the name of its field
pub record Bad : Type 0 where
  pub field : Name
  pub cause : Cause

abbrev pub bad : Name → Cause → Bad
bad name cause = record { field = name; cause = cause }

-- the field of the context of this name
abbrev pub context_field_named : Tables → Name → Option Field
context_field_named t name = if_of_context (named (λ f. f.name) name t.fields)

-- the least value that the bits of a field can stand for, and the greatest: read as unsigned, or in
-- two's complement
abbrev pub least_value : Field → ℤ
least_value f = if f.signed then neg_ℤ (pos (2 ^ (f.high - f.low))) else pos 0

abbrev pub greatest_value : Field → ℤ
greatest_value f =
    if f.signed then pos (2 ^ (f.high - f.low) - 1) else pos (2 ^ (suc f.high - f.low) - 1)

abbrev pub has_value : Field → ℤ → Bool
has_value f n = int_le (least_value f) n && int_le n (greatest_value f)

abbrev pub with_value : Option Field → ℕ → request.Field → Result ℕ Bad
with_value None context word = Err (bad word.name NoField)
with_value (Some f) context word = if has_value f word.value
    then Ok (with_bits f.low (mask_of f) context (wrapped word.value))
    else Err (bad word.name OutOfRange)

-- the context with the value of a word
abbrev pub with_word : Tables → ℕ → request.Field → Result ℕ Bad
with_word t context word = with_value (context_field_named t word.name) context word

-- the context that the words give, one after another, from 0 on
abbrev pub starting_context : Tables → List request.Field → Result ℕ Bad
starting_context t words = run (with_word t) 0 words
