-- Each operation's value is in the range of the result's size.
use Rattle.std.proofs.Common.{◌≡◌, ℕ, ◌+◌, ◌-◌, ◌*◌, ◌/◌, ◌%◌, ◌^◌, ◌<◌, ◌≤◌, Bool, true, false, sym, ◌∙◌, arith}
use Rattle.std.specs.Prelude.{ℤ, pos, negsuc, bit_or, bit_xor}
use Rattle.std.specs.Int.{from_bool}
use Rattle.std.proofs.Math.Nat.{div-le_self, mod-le}
use Rattle.std.proofs.lemmas.Nat.{mod_below, and_le_l, leading_le, ones-le}
use Rattle.sl_word.specs.Numbers.{signed_value, residue}
use Rattle.sl_word.specs.Operations.{value1, value2, TakesSizes1, TakesSizes2}
use Rattle.sl_word.specs.declared.operation.Op1.{Op1}
use Rattle.sl_word.specs.declared.operation.Op1.TheVariants.{Copy, IntNegate, Int2Comp, BoolNegate, IntZext, IntSext, PopCount, LzCount}
use Rattle.sl_word.specs.declared.operation.Op2.{Op2}
use Rattle.sl_word.specs.declared.operation.Op2.TheVariants.{IntAdd, IntSub, IntMult, IntDiv, IntRem, IntSdiv, IntSrem, IntLeft, IntRight, IntSright, IntAnd, IntOr, IntXor, IntEqual, IntNotEqual, IntLess, IntLessEqual, IntSless, IntSlessEqual, IntCarry, IntScarry, IntSborrow, BoolAnd, BoolOr, BoolXor, Subpiece}
use Rattle.sl_word.proofs.Powers.{bytes-bits, bytes_pos, bytes_mono, byte_below, or_below, xor_below}

pub residue_below : (n : ℕ) (z : ℤ) → residue n z < 256 ^ n
residue_below n (pos k) = mod_below k (256 ^ n) (bytes_pos n)
residue_below n (negsuc k) = omega (arith, bytes_pos n)

pub truth_below : (test : Bool) (n : ℕ) → 1 ≤ n → from_bool test < 256 ^ n
truth_below false n one = byte_below 0 n (omega arith) one
truth_below true n one = byte_below 1 n (omega arith) one

-- a count of bits fits a byte
count_below : (c size out : ℕ) → c ≤ 8 * size → size ≤ 16 → 1 ≤ out → c < 256 ^ out
count_below c size out h small one = byte_below c out (omega arith) one

bits_below : (a size : ℕ) → a < 256 ^ size → a < 2 ^ (8 * size)
bits_below a size h = rw (← bytes-bits size) h

at_most : (x a size out : ℕ) → x ≤ a → a < 256 ^ size → out ≡ size → x < 256 ^ out
at_most x a size out less h same = rw same (omega arith)

cut : (x size out : ℕ) → out ≡ size → x % 256 ^ size < 256 ^ out
cut x size out same = rw same (mod_below x (256 ^ size) (bytes_pos size))

residue_cut : (z : ℤ) (size out : ℕ) → out ≡ size → residue size z < 256 ^ out
residue_cut z size out same = rw same (residue_below size z)

or_cut : (a b size size_b out : ℕ) → size_b ≡ size → out ≡ size → a < 256 ^ size → b < 256 ^ size_b → bit_or a b < 256 ^ out
or_cut a b size size_b out same_b same ha hb = rw same (or_below size a b ha (rw (← same_b) hb))

xor_cut : (a b size size_b out : ℕ) → size_b ≡ size → out ≡ size → a < 256 ^ size → b < 256 ^ size_b → bit_xor a b < 256 ^ out
xor_cut a b size size_b out same_b same ha hb = rw same (xor_below size a b ha (rw (← same_b) hb))

pub value1_below : (op : Op1) (size out a : ℕ) → size ≤ 16 → 1 ≤ out → TakesSizes1 op size out → a < 256 ^ size → value1 op size out a < 256 ^ out
value1_below Copy size out a small one sizes h = rw sizes h
value1_below IntNegate size out a small one sizes h = rw sizes (omega arith)
value1_below Int2Comp size out a small one sizes h = rw sizes (mod_below (256 ^ size - a) (256 ^ size) (bytes_pos size))
value1_below BoolNegate size out a small one sizes h =
    xor_cut a 1 size 1 out (sym sizes.0) (sizes.1 ∙ sym sizes.0) h (omega arith)
value1_below IntZext size out a small one sizes h = omega (arith, bytes_mono size out sizes)
value1_below IntSext size out a small one sizes h = residue_below out (signed_value size a)
value1_below PopCount size out a small one sizes h = count_below _ size out (ones-le (8 * size) a (bits_below a size h)) small one
value1_below LzCount size out a small one sizes h = count_below _ size out (leading_le (8 * size) a) small one

pub value2_below : (op : Op2) (size size_b out a b : ℕ) → 1 ≤ out → TakesSizes2 op size size_b out b → a < 256 ^ size → b < 256 ^ size_b → value2 op size out a b < 256 ^ out
value2_below IntAdd size size_b out a b one sizes ha hb = cut (a + b) size out sizes.1
value2_below IntSub size size_b out a b one sizes ha hb = residue_cut _ size out sizes.1
value2_below IntMult size size_b out a b one sizes ha hb = cut (a * b) size out sizes.1
value2_below IntDiv size size_b out a b one sizes ha hb = at_most (a / b) a size out (div-le_self a b) ha sizes.1
value2_below IntRem size size_b out a b one sizes ha hb = at_most (a % b) a size out (mod-le a b) ha sizes.1
value2_below IntSdiv size size_b out a b one sizes ha hb = residue_cut _ size out sizes.1
value2_below IntSrem size size_b out a b one sizes ha hb = residue_cut _ size out sizes.1
value2_below IntLeft size size_b out a b one sizes ha hb = cut (a * 2 ^ b) size out sizes
value2_below IntRight size size_b out a b one sizes ha hb = at_most (a / 2 ^ b) a size out (div-le_self a (2 ^ b)) ha sizes
value2_below IntSright size size_b out a b one sizes ha hb = residue_cut _ size out sizes
value2_below IntAnd size size_b out a b one sizes ha hb = at_most _ a size out (and_le_l a b) ha sizes.1
value2_below IntOr size size_b out a b one sizes ha hb = or_cut a b size size_b out sizes.0 sizes.1 ha hb
value2_below IntXor size size_b out a b one sizes ha hb = xor_cut a b size size_b out sizes.0 sizes.1 ha hb
value2_below IntEqual size size_b out a b one sizes ha hb = truth_below _ out one
value2_below IntNotEqual size size_b out a b one sizes ha hb = truth_below _ out one
value2_below IntLess size size_b out a b one sizes ha hb = truth_below _ out one
value2_below IntLessEqual size size_b out a b one sizes ha hb = truth_below _ out one
value2_below IntSless size size_b out a b one sizes ha hb = truth_below _ out one
value2_below IntSlessEqual size size_b out a b one sizes ha hb = truth_below _ out one
value2_below IntCarry size size_b out a b one sizes ha hb = truth_below _ out one
value2_below IntScarry size size_b out a b one sizes ha hb = truth_below _ out one
value2_below IntSborrow size size_b out a b one sizes ha hb = truth_below _ out one
value2_below BoolAnd size size_b out a b one sizes ha hb = at_most _ a size out (and_le_l a b) ha (sizes.2 ∙ sym sizes.0)
value2_below BoolOr size size_b out a b one sizes ha hb = or_cut a b size size_b out (sizes.1 ∙ sym sizes.0) (sizes.2 ∙ sym sizes.0) ha hb
value2_below BoolXor size size_b out a b one sizes ha hb = xor_cut a b size size_b out (sizes.1 ∙ sym sizes.0) (sizes.2 ∙ sym sizes.0) ha hb
value2_below Subpiece size size_b out a b one sizes ha hb = mod_below (a / 256 ^ b) (256 ^ out) (bytes_pos out)
