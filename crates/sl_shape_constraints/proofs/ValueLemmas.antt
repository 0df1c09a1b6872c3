-- The value of a field's code, and where a constraint holds.
use Rattle.std.proofs.Common.{◌≡◌, ◌↔◌, ℕ, suc, ◌-◌, ◌*◌, ◌%◌, ◌<◌, ◌≤◌, ◌^◌, List, Bool, true, false, nat_eq, nat_lt, Option, None, Some, drop, refl, sym, ap, subst, ◌∙◌, arith, inl, inr}
use Rattle.std.specs.Prelude.{ℤ, pos, negsuc, ◌-ℤ◌, if◌then◌else◌}
use Rattle.std.specs.Int.{w64, cast_signed, int_wrap}
use Rattle.std.proofs.lemmas.Bool.{cases_lt, cases_eq, eqb-true, ltb-true, lt-ltb, eq-eqb, false≢true}
use Rattle.std.proofs.lemmas.Int.{int_wrap_fits, ints}
use mir.Val.{sel}
use Rattle.std.specs.List.{Any}
use Rattle.std.proofs.Math.Nat.{div-eq_of_lt}
use Rattle.sl_shape_blocks.specs.Blocks.{InBlock, IsShortest, block}
use Rattle.sl_shape_blocks.specs.declared.Block.{Block}
use Rattle.sl_shape_constraints.proofs.CodeLemmas.{any_among, among_any}
use Rattle.sl_shape_constraints.proofs.FieldLemmas.{bits_of-lt}
use Rattle.sl_shape_blocks.proofs.CompareLemmas.{twice_half, half_most}
use Rattle.sl_shape_blocks.specs.Compare.{IsValue}
use Rattle.sl_shape_blocks.specs.Relations.{Stands}
use Rattle.sl_cube.specs.declared.Point.{Point}
use Rattle.sl_spec.specs.FieldValues.{field_value, value_of, number_in, token_of, bits_of, read_as, wrapped}
use Rattle.sl_spec.specs.Tables as spec
use Rattle.sl_shape_constraints.specs.Codes.{AreBitsOf, reads_signed}
use Rattle.sl_shape_constraints.specs.Homes.{home_of, integer, code, HasCodeIn}
use Rattle.sl_shape_constraints.specs.Values.{Constraint, ConstraintHolds, HoldsOf, point_bytes, value_at, width}
use Rattle.sl_shape_constraints.specs.declared.bits.Bits.{Bits}
use Rattle.sl_shape_constraints.specs.declared.homes.Home.{Home}

-- ---- values

cast_is : (n : ℕ) → n < 2 ^ 64 → wrapped (pos n) ≡ cast_signed w64 n
unfolding int_wrap
cast_is n below =
    let small : n % 2 ^ 64 ≡ n = omega (arith, below) in
    ap (cast_signed w64) small

cast_high : (n : ℕ) → 2 ^ 63 ≤ n → cast_signed w64 n ≡ negsuc (2 ^ 64 - suc n)
cast_high n over = by (nat_lt n (2 ^ 63)) refl
  where
    by : (d : Bool) → d ≡ nat_lt n (2 ^ 63) → sel d (pos n) (negsuc (2 ^ 64 - suc n)) ≡ negsuc (2 ^ 64 - suc n)
    by true e = let under = ltb-true n (2 ^ 63) (sym e) in absurd (omega (arith, under, over))
    by false e = refl

wrapped_pos : (n : ℕ) → n < 2 ^ 63 → wrapped (pos n) ≡ pos n
wrapped_pos n below = int_wrap_fits w64 (pos n) (record { sfits = below })

wrapped_negative : (k : ℕ) → k < 2 ^ 63 → wrapped (negsuc k) ≡ negsuc k
wrapped_negative k below = int_wrap_fits w64 (negsuc k) (record { sfits = below })

module _ (size n : ℕ) (some : 1 ≤ size) (most : size ≤ 64) (below : n < 2 ^ size) where
  twice : 2 ^ size ≡ 2 * 2 ^ (size - 1)
  twice = twice_half size (2 ^ (size - 1)) some refl

  half_small : 2 ^ (size - 1) ≤ 2 ^ 63
  half_small = half_most size (2 ^ (size - 1)) 63 most refl

  signed_by : (d : Bool) → d ≡ nat_lt (2 * n) (2 ^ size) → IsValue true size n (wrapped (if d then pos n else negsuc (2 ^ size - 1 - n)))
  signed_by true e =
      let less : 2 * n < 2 ^ size = ltb-true (2 * n) (2 ^ size) (sym e) in
      let under : n < 2 ^ (size - 1) = omega (arith, less, twice) in
      inl (under, wrapped_pos n (omega (arith, under, half_small)))
  signed_by false e =
      let over : 2 ^ (size - 1) ≤ n = elim (cases_lt (2 * n) (2 ^ size)) [
        | inl less ↦ absurd (false≢true (e ∙ lt-ltb (2 * n) (2 ^ size) less))
        | inr ge ↦ omega (arith, ge, twice)
      ] in
      let is : negsuc (2 ^ size - 1 - n) ≡ pos n -ℤ pos (2 ^ size) = omega (arith, ints, below) in
      inr (over, wrapped_negative (2 ^ size - 1 - n) (omega (arith, over, twice, half_small)) ∙ is)

  -- a field of 64 bits counts as signed
  wide_value : size ≡ 64 → IsValue true size n (wrapped (pos n))
  wide_value wide =
      let half_is : 2 ^ (size - 1) ≡ 2 ^ 63 = ap (λ (k : ℕ). 2 ^ (k - 1)) wide in
      let whole_is : 2 ^ size ≡ 2 ^ 64 = ap (λ (k : ℕ). 2 ^ k) wide in
      let small : n < 2 ^ 64 = omega (arith, below, whole_is) in
      elim (cases_lt n (2 ^ 63)) [
        | inl under ↦ inl (omega (arith, under, half_is), wrapped_pos n under)
        | inr over ↦
            let is : negsuc (2 ^ 64 - suc n) ≡ pos n -ℤ pos (2 ^ 64) = omega (arith, ints, small) in
            inr (omega (arith, over, half_is), cast_is n small ∙ cast_high n over ∙ is ∙ ap (λ (k : ℕ). pos n -ℤ pos k) (sym whole_is))
      ]

  unsigned_by : (d : Bool) → d ≡ nat_eq size 64 → IsValue d size n (wrapped (pos n))
  unsigned_by true e = wide_value (eqb-true size 64 (sym e))
  unsigned_by false e =
      let few : size - 1 ≤ 62 = elim (cases_eq size 64) [
        | inl wide ↦ absurd (false≢true (e ∙ eq-eqb size 64 wide))
        | inr ne ↦ omega (arith, most, ne)
      ] in
      let small : 2 ^ (size - 1) ≤ 2 ^ 62 = half_most size (2 ^ (size - 1)) 62 (omega (arith, few)) refl in
      wrapped_pos n (omega (arith, below, twice, small))

  pub is_value : (signed : Bool) → IsValue (reads_signed signed size) size n (wrapped (read_as signed size n))
  is_value true = signed_by (nat_lt (2 * n) (2 ^ size)) refl
  is_value false = unsigned_by (nat_eq size 64) refl

-- ---- bits of a point

number_same : (token : Option spec.Token) (p : Point) → number_in token (drop 0 (point_bytes p)) p.context ≡ integer (home_of token) p
number_same None p = refl
number_same (Some t) p = refl

-- the constraint holds at a point exactly where it holds of the point's code
pub holds_code : (c : Constraint) (bits : Bits) (p : Point) → AreBitsOf c bits → ConstraintHolds c p ↔ HoldsOf c (code bits p)
unfolding field_value value_of
holds_code c bits p are =
    let f = c.field in
    let token = token_of c.tokens f in
    let read : ℕ → ℤ = λ n. wrapped (read_as f.signed (width f) n) in
    let same : value_at c p ≡ read (code bits p) =
    ap (λ (n : ℕ). read (bits_of f.low f.high n)) (number_same token p)
    ∙ ap (λ (h : Home). read (bits_of f.low f.high (integer h p))) (sym are.home)
    ∙ ap (λ (n : ℕ). read (bits_of n f.high (integer bits.home p))) (sym are.low)
    ∙ ap (λ (n : ℕ). read (bits_of bits.low n (integer bits.home p))) (sym are.high) in (
      λ holds. subst (λ (x : ℤ). Stands c.relation x c.number) same holds,
      λ holds. subst (λ (x : ℤ). Stands c.relation x c.number) (sym same) holds,
    )

-- ---- blocks of its codes

module _ (c : Constraint) (bits : Bits) (p : Point) (are : AreBitsOf c bits) where
  code_in_whole : InBlock (block 0 (width c.field)) (code bits p)
  code_in_whole =
      let e : suc bits.high - bits.low ≡ width c.field = omega (arith, are.low, are.high) in
      div-eq_of_lt (subst (λ (k : ℕ). code bits p < 2 ^ k) e (bits_of-lt bits.low bits.high (integer bits.home p)))

  module _ (blocks : List Block) (cut : IsShortest (HoldsOf c) (block 0 (width c.field)) blocks) where
    pub holds_in_block : Any (λ b. HasCodeIn bits b p) blocks → ConstraintHolds c p
    holds_in_block any =
        let one = any_among (λ b. HasCodeIn bits b p) blocks any in
        (holds_code c bits p are).1 (cut.is_cut.cover.only one.0 (code bits p) one.1 one.2).1

    pub block_of_point : ConstraintHolds c p → Any (λ b. HasCodeIn bits b p) blocks
    block_of_point holds =
        let one = cut.is_cut.cover.all (code bits p) code_in_whole ((holds_code c bits p are).0 holds) in
        among_any (λ b. HasCodeIn bits b p) blocks one.0 one.1 one.2
