-- Literals in 64-bit two's complement.
use Rattle.std.proofs.Common.{◌≡◌, ◌<◌, ◌%◌, ℕ, pos, ap, arith}
use Rattle.std.specs.Int.{w64, cast_signed, int_wrap}
use Rattle.sl_spec_operators.specs.Operators.{wrapped}

pub literal_is : (n : ℕ) → n < 18446744073709551616 → cast_signed w64 n ≡ wrapped (pos n)
unfolding int_wrap
literal_is n below =
    let small : n ≡ n % 18446744073709551616 = omega (arith, below) in
    ap (cast_signed w64) small
