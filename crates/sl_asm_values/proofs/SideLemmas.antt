-- What a value says of the sides of its operator.
use Rattle.std.proofs.Common.{◌≡◌, ℕ, ℤ, ◌+◌, ◌-◌, ◌*◌, ◌/◌, ◌%◌, ◌^◌, ◌<◌, ◌≤◌, min, max, Bool, bit_and, bit_or, bit_xor, List, Option, Some, None, Ok, Err, MatchOption, Vec, Global, arith, refl, sym, ap, subst, ◌∙◌}
use Rattle.std.specs.Prelude.{FitsSigned, IfOk, IfSome, Result, ◌+ℤ◌, ◌-ℤ◌, pos, if◌then◌else◌}
use Rattle.std.specs.Int.{bit_at, cast_signed, cast_unsigned, int_bit_and, int_bit_or, int_shl, w64}
use Rattle.std.proofs.Math.Facts.{Fits-of_lt, sfits_to_z}
use Rattle.std.proofs.lemmas.Bool.{lt-ltb}
use Rattle.std.proofs.lemmas.Option.{same_Some}
use Rattle.std.proofs.lemmas.Int.{ints, of_z-to_z, to_z-of_z, wrapping_add_is, wrapping_sub_is}
use Rattle.std.proofs.lemmas.Nat.{and_comm, or_comm, or_lt}
use Rattle.std.proofs.lemmas.Nat.Bits.{bit_at_and, bit_at_or, bit_at_xor, bit_at-lt}
use Rattle.sl_asm_bits.proofs.BitLemmas.{at_and, at_or, one_of_64}
use Rattle.sl_asm_bits.proofs.NumberLemmas.{and_fits, unsigned_fits}
use Rattle.sl_asm_bits.proofs.ShiftLemmas.{raised_high, shifted_at}
use Rattle.sl_asm_bits.specs.Known.{Has, HasBits}
use Rattle.sl_asm_bits.specs.declared.Known.{Known}
use Rattle.sl_asm_fit.specs.declared.Cell.{Cell}
use Rattle.sl_asm_known.specs.Frames.{IsSiteOf}
use Rattle.sl_asm_known.specs.declared.Frame.{Frame}
use Rattle.sl_asm_values.proofs.GivingLemmas.{part_more, site_in}
use Rattle.sl_asm_values.specs.Narrowing.{Gives, GivesNone, KeepsGiving}
use Rattle.sl_asm_values.specs.Sides.{AreSides}
use Rattle.sl_ast.specs.declared.expressions.BinaryOp.{BinaryOp}
use Rattle.sl_ast.specs.declared.expressions.BinaryOp.TheVariants as op
use Rattle.sl_cube.specs.Bits.{Agrees}
use Rattle.sl_cube.proofs.BitLemmas.{within_bit}
use Rattle.sl_decode_meaning.specs.Outcomes.{or_fault}
use Rattle.sl_decode_meaning.specs.Values.{Site, operated}
use Rattle.sl_decode_meaning.specs.declared.faults.Fault.{Fault}
use Rattle.sl_decode_meaning.specs.declared.faults.Fault.TheVariants.{ActionDivide}
use Rattle.sl_decode_plan.specs.Values.{value_in}
use Rattle.sl_decode_plan.specs.declared.values.Value.{Value}
use Rattle.sl_spec.specs.declared.tables.Tables.{Tables}
use Rattle.sl_spec_operators.specs.Operators.{left_by, value_of, wrapped}

-- ---- bits

and_side : (m n wm wv om ov : ℕ) → m < 2 → n < 2 → wm < 2 → wv < 2 → om < 2 → ov < 2 → wv ≡ min wv wm → ov ≡ min ov om → (wm ≡ 1 → min m n ≡ wv) → (om ≡ 1 → n ≡ ov)
    → min wm (max wv ov) ≡ 1 → m ≡ wv
and_side m n wm wv om ov a b c d e f g h p q on = grind arith

or_side : (m n wm wv om ov : ℕ) → m < 2 → n < 2 → wm < 2 → wv < 2 → om < 2 → ov < 2 → wv ≡ min wv wm → ov ≡ min ov om → (wm ≡ 1 → max m n ≡ wv) → (om ≡ 1 → n ≡ ov)
    → min wm (max ((wm + wv) % 2) ((om + ov) % 2)) ≡ 1 → m ≡ wv
or_side m n wm wv om ov a b c d e f g h p q on = grind arith

module _ (wm wv om ov m n : ℕ) (ww : bit_and wv wm ≡ wv) (ow : bit_and ov om ≡ ov) (g : Agrees om ov n) where
  and_agrees : Agrees wm wv (bit_and m n) → Agrees (bit_and wm (bit_or wv ov)) wv m
  and_agrees f = λ i on.
      let mask = at_and wm (bit_or wv ov) i (bit_at wm i) (max (bit_at wv i) (bit_at ov i)) (λ j. bit_at wm i) (bit_at_or wv ov i) in
      and_side (bit_at m i) (bit_at n i) (bit_at wm i) (bit_at wv i) (bit_at om i) (bit_at ov i) (bit_at-lt m i) (bit_at-lt n i) (bit_at-lt wm i) (bit_at-lt wv i) (bit_at-lt om i) (bit_at-lt ov i)
      (within_bit wm wv i ww) (within_bit om ov i ow) (λ j. sym (bit_at_and m n i) ∙ f i j) (g i) (sym mask ∙ on)

  or_agrees : Agrees wm wv (bit_or m n) → Agrees (bit_and wm (bit_or (bit_xor wm wv) (bit_xor om ov))) wv m
  or_agrees f = λ i on.
      let zeros = at_or (bit_xor wm wv) (bit_xor om ov) i ((bit_at wm i + bit_at wv i) % 2) ((bit_at om i + bit_at ov i) % 2) (bit_at_xor wm wv i) (bit_at_xor om ov i) in
      let mask = at_and wm (bit_or (bit_xor wm wv) (bit_xor om ov)) i (bit_at wm i) (max ((bit_at wm i + bit_at wv i) % 2) ((bit_at om i + bit_at ov i) % 2)) (λ j. bit_at wm i) zeros in
      or_side (bit_at m i) (bit_at n i) (bit_at wm i) (bit_at wv i) (bit_at om i) (bit_at ov i) (bit_at-lt m i) (bit_at-lt n i) (bit_at-lt wm i) (bit_at-lt wv i) (bit_at-lt om i) (bit_at-lt ov i)
      (within_bit wm wv i ww) (within_bit om ov i ow) (λ j. sym (bit_at_or m n i) ∙ f i j) (g i) (sym mask ∙ on)

module _ (w o k : Known) (x y : ℤ) (fx : FitsSigned w64 x) (h : HasBits o y) where
  abbrev m : ℕ
  m = cast_unsigned w64 x

  abbrev n : ℕ
  n = cast_unsigned w64 y

  pub and_has : (Agrees (bit_and w.mask (bit_or w.value o.value)) w.value m → Has k m) → HasBits w (int_bit_and w64 x y) → HasBits k x
  and_has under f =
      let bits = subst (λ (v : ℕ). Has w v) (of_z-to_z w64 (bit_and m n) (and_fits m n (unsigned_fits x fx) (unsigned_fits y h.fits))) f.bits in
      record { fits = fx; bits = under (and_agrees w.mask w.value o.mask o.value m n w.within o.within h.bits bits) }

  pub or_has : (Agrees (bit_and w.mask (bit_or (bit_xor w.mask w.value) (bit_xor o.mask o.value))) w.value m → Has k m) → HasBits w (int_bit_or w64 x y) → HasBits k x
  or_has under f =
      let bits = subst (λ (v : ℕ). Has w v) (of_z-to_z w64 (bit_or m n) (or_lt 64 m n (unsigned_fits x fx) (unsigned_fits y h.fits))) f.bits in
      record { fits = fx; bits = under (or_agrees w.mask w.value o.mask o.value m n w.within o.within h.bits bits) }

  -- a sum less one side is the other
  pub sum_less : wrapped (wrapped (x +ℤ y) -ℤ y) ≡ x
  sum_less =
      let small : m < 2 ^ 64 = unsigned_fits x fx in
      let low : n < 2 ^ 64 = unsigned_fits y h.fits in
      let sum : ℕ = (m + n) % 2 ^ 64 in
      let below : sum < 2 ^ 64 = omega arith in
      let is : wrapped (x +ℤ y) ≡ cast_signed w64 sum = sym (wrapping_add_is w64 x y fx h.fits) in
      let bits : cast_unsigned w64 (wrapped (x +ℤ y)) ≡ sum = ap (cast_unsigned w64) is ∙ of_z-to_z w64 sum below in
      let fits : FitsSigned w64 (wrapped (x +ℤ y)) = subst (FitsSigned w64) (sym is) (sfits_to_z {w = w64} {n = sum} (Fits-of_lt {w = w64} {n = sum} below)) in
      let back : (cast_unsigned w64 (wrapped (x +ℤ y)) + (2 ^ 64 - n)) % 2 ^ 64 ≡ m = omega (arith, bits, small, low) in
      sym (wrapping_sub_is w64 (wrapped (x +ℤ y)) y fits h.fits) ∙ ap (cast_signed w64) back ∙ to_z-of_z w64 x fx

-- a number moved up by what is known, by its bits that are left
pub shift_has : (w k : Known) (x : ℤ) (n amount : ℕ) → FitsSigned w64 x → n ≡ amount → n < 64 → w.mask < 2 ^ 64
    → (Agrees (w.mask / 2 ^ n) (w.value / 2 ^ n) (cast_unsigned w64 x) → Has k (cast_unsigned w64 x)) → HasBits w (left_by x amount) → HasBits k x
shift_has w k x n amount fx same lt small under f =
    let m : ℕ = cast_unsigned w64 x in
    let up : ℕ = m * 2 ^ n % 2 ^ 64 in
    let low : up < 2 ^ 64 = omega arith in
    let is : left_by x amount ≡ cast_signed w64 up = ap (left_by x) (sym same) ∙ ap (λ (b : Bool). if b then int_shl w64 x n else pos 0) (lt-ltb n 64 lt) in
    let bits : Has w up = subst (λ (v : ℕ). Has w v) (ap (cast_unsigned w64) is ∙ of_z-to_z w64 up low) f.bits in
    record {
      fits = fx;
      bits = under (λ i on.
          let there : bit_at w.mask (n + i) ≡ 1 = sym (shifted_at w.mask n i) ∙ on in
          let inside : n + i < 64 = one_of_64 w.mask (n + i) small there in
          let past : n ≤ n + i = omega arith in
          let back : i ≡ n + i - n = omega arith in
          ap (λ (j : ℕ). bit_at m j) back ∙ sym (raised_high m n (n + i) inside past) ∙ bits (n + i) there ∙ sym (shifted_at w.value n i));
    }

-- ---- operators

turned : (x y : ℤ) → x +ℤ y ≡ y +ℤ x
turned x y = omega (arith, ints)

-- what is told of one side is told of the other, since the sides may be turned round
module _ (w a b one other : Known) where
  pub sides_of_and : ((x y : ℤ) → FitsSigned w64 x → HasBits b y → HasBits w (int_bit_and w64 x y) → HasBits one x)
      → ((x y : ℤ) → FitsSigned w64 x → HasBits a y → HasBits w (int_bit_and w64 x y) → HasBits other x) → AreSides op.And w a b one other
  sides_of_and f g = record {
    left = λ x y z h k is has. f x y h.fits k (subst (HasBits w) (sym (same_Some (int_bit_and w64 x y) z is)) has);
    right = λ x y z h k is has. g y x k.fits h
        (subst (HasBits w) (sym (same_Some (int_bit_and w64 x y) z is) ∙ ap (cast_signed w64) (and_comm (cast_unsigned w64 x) (cast_unsigned w64 y))) has);
  }

  pub sides_of_or : ((x y : ℤ) → FitsSigned w64 x → HasBits b y → HasBits w (int_bit_or w64 x y) → HasBits one x)
      → ((x y : ℤ) → FitsSigned w64 x → HasBits a y → HasBits w (int_bit_or w64 x y) → HasBits other x) → AreSides op.Or w a b one other
  sides_of_or f g = record {
    left = λ x y z h k is has. f x y h.fits k (subst (HasBits w) (sym (same_Some (int_bit_or w64 x y) z is)) has);
    right = λ x y z h k is has. g y x k.fits h
        (subst (HasBits w) (sym (same_Some (int_bit_or w64 x y) z is) ∙ ap (cast_signed w64) (or_comm (cast_unsigned w64 x) (cast_unsigned w64 y))) has);
  }

  pub sides_of_sum : ((x y : ℤ) → FitsSigned w64 x → HasBits b y → HasBits w (wrapped (x +ℤ y)) → HasBits one x)
      → ((x y : ℤ) → FitsSigned w64 x → HasBits a y → HasBits w (wrapped (x +ℤ y)) → HasBits other x) → AreSides op.Add w a b one other
  sides_of_sum f g = record {
    left = λ x y z h k is has. f x y h.fits k (subst (HasBits w) (sym (same_Some (wrapped (x +ℤ y)) z is)) has);
    right = λ x y z h k is has. g y x k.fits h (subst (HasBits w) (sym (same_Some (wrapped (x +ℤ y)) z is) ∙ ap wrapped (turned x y)) has);
  }

  pub sides_of_shift : ((x y : ℤ) → FitsSigned w64 x → HasBits b y → HasBits w (left_by x (cast_unsigned w64 y)) → HasBits one x)
      → ((z : ℤ) → FitsSigned w64 z → HasBits other z) → AreSides op.ShiftLeft w a b one other
  sides_of_shift f g = record {
    left = λ x y z h k is has. f x y h.fits k (subst (HasBits w) (sym (same_Some (left_by x (cast_unsigned w64 y)) z is)) has);
    right = λ x y z h k is has. g y k.fits;
  }

-- the sides of a value, and that it is the operator's
record Sides (sign : BinaryOp) (left right : Result ℤ Fault) (z : ℤ) : Type 0 where
  x : ℤ
  y : ℤ
  left_is : left ≡ Ok x
  right_is : right ≡ Ok y
  is : value_of sign x y ≡ Some z

some_of : (fault : Fault) (o : Option ℤ) (z : ℤ) → or_fault fault o ≡ Ok z → o ≡ Some z
some_of fault None z is = absurd cc
some_of fault (Some x) z is = let same : x ≡ z = cc in ap Some same

sides_of : (ctor : ℕ) (sign : BinaryOp) (left right : Result ℤ Fault) (z : ℤ) → operated ctor sign left right ≡ Ok z → Sides sign left right z
sides_of ctor sign (Err e) right z is = absurd cc
sides_of ctor sign (Ok x) (Err e) z is = absurd cc
sides_of ctor sign (Ok x) (Ok y) z is = record { x = x; y = y; left_is = refl; right_is = refl; is = some_of (ActionDivide ctor) (value_of sign x y) z is }

module _ (t : Tables) (f : Frame) (region : List Cell) (sign : BinaryOp) (v left right : Value) (wanted first second one other : Known)
    (v_is : (s : Site) → value_in t s v ≡ operated s.ctor sign (value_in t s left) (value_in t s right))
    (knows_first : (s : Site) → IsSiteOf f region s → IfOk (value_in t s left) (HasBits first))
    (knows_second : (s : Site) → IsSiteOf f region s → IfOk (value_in t s right) (HasBits second))
    (sides : AreSides sign wanted first second one other) where
  its : (s : Site) → (g : Gives t v wanted s) → Sides sign (value_in t s left) (value_in t s right) g.number
  its s g = sides_of s.ctor sign (value_in t s left) (value_in t s right) g.number (sym (v_is s) ∙ g.is)

  known_by : (r : Result ℤ Fault) (k : Known) (x : ℤ) → r ≡ Ok x → IfOk r (HasBits k) → HasBits k x
  known_by r k x is h = subst (λ (o : Result ℤ Fault). IfOk o (HasBits k)) is h

  pub gives_left : (s : Site) → IsSiteOf f region s → Gives t v wanted s → Gives t left one s
  gives_left s is g =
      let at = its s g in
      let x = known_by (value_in t s left) first at.x at.left_is (knows_first s is) in
      let y = known_by (value_in t s right) second at.y at.right_is (knows_second s is) in
      record { number = at.x; is = at.left_is; has = sides.left at.x at.y g.number x y at.is g.has }

  pub gives_right : (s : Site) → IsSiteOf f region s → Gives t v wanted s → Gives t right other s
  gives_right s is g =
      let at = its s g in
      let x = known_by (value_in t s left) first at.x at.left_is (knows_first s is) in
      let y = known_by (value_in t s right) second at.y at.right_is (knows_second s is) in
      record { number = at.y; is = at.right_is; has = sides.right at.x at.y g.number x y at.is g.has }

  pub none_by_left : GivesNone t f region left one → GivesNone t f region v wanted
  none_by_left none = λ s is g. none s is (gives_left s is g)

  pub by_both : (cells : List Cell) (found : Option (Vec Cell Global)) → KeepsGiving t f region left one cells
      → MatchOption found (GivesNone t f cells right other) (λ narrow. KeepsGiving t f cells right other narrow.items)
      → MatchOption found (GivesNone t f region v wanted) (λ narrow. KeepsGiving t f region v wanted narrow.items)
  by_both cells None a none = λ s is g. none s (site_in f region cells s is (a.stays s is (gives_left s is g))) (gives_right s is g)
  by_both cells (Some narrow) a b = record {
    part = part_more region cells narrow.items a.part b.part;
    stays = λ s is g. b.stays s (site_in f region cells s is (a.stays s is (gives_left s is g))) (gives_right s is g);
  }
