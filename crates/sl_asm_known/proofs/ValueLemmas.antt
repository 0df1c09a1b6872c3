-- Values of action names, by what is known of each.
use Rattle.std.proofs.Common.{◌≡◌, ℕ, ◌<◌, ◌≤◌, List, length, get_or, Option, Some, subst, sym, arith}
use Rattle.std.specs.Prelude.{ℤ, pos, slice_get}
use Rattle.std.proofs.lemmas.Option.{slice_get-get_or, slice_get_past, slice_get_within}
use Rattle.sl_asm_bits.specs.Known.{HasBits}
use Rattle.sl_asm_bits.specs.declared.Known.{Known}
use Rattle.sl_asm_known.specs.Frames.{AreOf}
use Rattle.sl_decode_meaning.specs.Values.{value_or_zero}

pub name_has : (names : List Known) (values : List ℤ) (i : ℕ) (k : Known) → AreOf names values → slice_get names i ≡ Some k → HasBits k (value_or_zero (slice_get values i))
name_has names values i k are there =
    let below : i < length values = omega (arith, are.long, slice_get_within names i k there) in
    let z : ℤ = get_or values i (pos 0) in
    let value : slice_get values i ≡ Some z = slice_get-get_or values i (pos 0) below in
    subst (λ (o : Option ℤ). HasBits k (value_or_zero o)) (sym value) (are.has i k z there value)

pub no_name : (names : List Known) (values : List ℤ) (i : ℕ) (k : Known) → AreOf names values → length names ≤ i → HasBits k (pos 0) → HasBits k (value_or_zero (slice_get values i))
no_name names values i k are past h =
    let over : length values ≤ i = omega (arith, are.long, past) in
    subst (λ (o : Option ℤ). HasBits k (value_or_zero o)) (sym (slice_get_past values i over)) h
