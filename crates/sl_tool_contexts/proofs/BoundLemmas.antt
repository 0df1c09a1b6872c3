-- The context that words give has 64 bits.
use Rattle.std.proofs.Common.{◌≡◌, ℕ, ◌-◌, ◌*◌, ◌%◌, ◌^◌, ◌<◌, Bool, true, false, List, [], ◌∷◌, Option, None, Some, Result, Ok, Err, bit_and, refl, arith}
use Rattle.std.specs.Int.{cast_unsigned, w64}
use Rattle.std.proofs.lemmas.Nat.{and_le_l, mod_below, or_lt, pow_pos}
use Rattle.sl_decode_meaning.specs.Actions.{mask_of, with_bits}
use Rattle.sl_spec.specs.Tables.{Field}
use Rattle.sl_spec.specs.declared.tables.Tables.{Tables}
use Rattle.sl_spec_operators.specs.Operators.{wrapped}
use Rattle.sl_spec_rules.specs.Demands.{◌>>=◌, run}
use Rattle.sl_tool_contexts.specs.Words.{Bad, context_field_named, has_value, starting_context, with_value, with_word}
use Rattle.sl_tool_request.specs.Requests as request

abbrev pub IsBelow : Result ℕ Bad → Type 0
IsBelow (Ok context) = context < 2 ^ 64
IsBelow (Err bad) = Unit {0}

bits_below : (f : Field) (context : ℕ) (word : request.Field) → context < 2 ^ 64 → with_bits f.low (mask_of f) context (wrapped word.value) < 2 ^ 64
bits_below f context word below =
    let moved = cast_unsigned w64 (wrapped word.value) * 2 ^ f.low in
    let old = and_le_l context (2 ^ 64 - 1 - mask_of f) in
    let new = and_le_l (moved % 2 ^ 64) (mask_of f) in
    or_lt 64 (bit_and context (2 ^ 64 - 1 - mask_of f)) (bit_and (moved % 2 ^ 64) (mask_of f)) (omega (arith, old, below))
    (omega (arith, new, mod_below moved (2 ^ 64) (pow_pos 64)))

value_below : (o : Option Field) (context : ℕ) (word : request.Field) → context < 2 ^ 64 → IsBelow (with_value o context word)
value_below None context word below = tt
value_below (Some f) context word below = by_value (has_value f word.value) refl
  where
    by_value : (b : Bool) → has_value f word.value ≡ b → IsBelow (with_value (Some f) context word)
    by_value true is = rw is (bits_below f context word below)
    by_value false is = rw is tt

all_below : (t : Tables) (words : List request.Field) (context : ℕ) → context < 2 ^ 64 → IsBelow (run (with_word t) context words)
unfolding run
all_below t [] context below = below
all_below t (word ∷ words) context below = next (with_word t context word) (value_below (context_field_named t word.name) context word below) (all_below t words)
  where
    next : (r : Result ℕ Bad) → IsBelow r → ((later : ℕ) → later < 2 ^ 64 → IsBelow (run (with_word t) later words)) → IsBelow (r >>= λ later. run (with_word t) later words)
    next (Ok later) is rest = rest later is
    next (Err bad) is rest = tt

pub start_below : (t : Tables) (words : List request.Field) → IsBelow (starting_context t words)
start_below t words = all_below t words 0 (omega arith)
