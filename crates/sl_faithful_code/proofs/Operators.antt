-- Operations have the values of their operators, as a COPY too.
use Rattle.std.proofs.Common.{◌≡◌, ℕ, ◌+◌, ◌*◌, ◌/◌, ◌%◌, ◌^◌, ◌<◌, ◌≤◌, Bool, true, false, List, Some, Ok, Err, refl, sym, ap, ◌∙◌, subst, arith, ◌⊎◌, inl, inr, pos, negsuc}
use Rattle.std.specs.Prelude.{ℤ, if◌then◌else◌, ◌==◌, ◌&&◌, option_map, slice_get}
use Rattle.std.specs.Int.{int_shr}
use Rattle.std.specs.List.{All}
use Rattle.std.proofs.lemmas.Bool.Decides.{nat_tests}
use Rattle.std.proofs.lemmas.Nat.{mod_below}
use Rattle.std.proofs.Math.Nat.{div-one, mod-eq_of_lt}
use Rattle.sl_faithful_code.specs.Operations.{Operation, amount, binary, by_one, by_two, effect, is_zero, is_zero_at, keeps, keeps_first, keeps_second, takes_nothing, temporary, unary}
use Rattle.sl_faithful_code.specs.Runs.{Final, stops}
use Rattle.sl_faithful_code.proofs.Base.{At, formed_at, from, step, with_final}
use Rattle.sl_faithful_code.proofs.Bytes.{Same, put_at, read_at, read_put, same_put}
use Rattle.sl_meaning_sections.specs.References.{Setting}
use Rattle.sl_meaning_sections.specs.Values.{applied, divides_by_zero, has_no_value}
use Rattle.sl_pcode.specs.Effects.{effect_of}
use Rattle.sl_pcode.specs.Machine as machine
use Rattle.sl_pcode.specs.Machine.{Ending, Temporaries, put, value_at, value_of}
use Rattle.sl_pcode.specs.WellFormed.{IsWellFormedOp}
use Rattle.sl_pcode.specs.declared.effect.Effect.TheVariants.{Unary, Binary}
use Rattle.sl_pcode.specs.declared.operation.Op.{Op}
use Rattle.sl_pcode.specs.declared.varnode.Place2.{Place2}
use Rattle.sl_pcode.specs.declared.varnode.Place2.TheVariants.{Const, Unique, In}
use Rattle.sl_pcode.specs.declared.varnode.Varnode.{Varnode}
use Rattle.sl_faithful_code.proofs.Numbers.{no_value_same}
use Rattle.sl_word.specs.Memories.{Memory}
use Rattle.sl_word.specs.Numbers.{residue, signed_value}
use Rattle.sl_word.specs.Operations.{TakesSizes2, value1, value2}
use Rattle.sl_word.specs.declared.operation.Op1.{Op1}
use Rattle.sl_word.specs.declared.operation.Op1.TheVariants as one
use Rattle.sl_word.specs.declared.operation.Op2.{Op2}
use Rattle.sl_word.specs.declared.operation.Op2.TheVariants as two
use Rattle.sl_word.specs.declared.word.Size.{Size}
use Rattle.sl_word.proofs.InRange.{value1_below, value2_below}
use Rattle.sl_word.proofs.Powers.{bytes_pos}
use Rattle.sl_word.proofs.TwosComplement.{residue-signed_value}

-- an operator's operation has its effect
pub by_one_effect : (f : Op1) (out a : Varnode) → effect (by_one f out a) ≡ Some (Unary f out a)
by_one_effect one.Copy out a = refl
by_one_effect one.IntNegate out a = refl
by_one_effect one.Int2Comp out a = refl
by_one_effect one.BoolNegate out a = refl
by_one_effect one.IntZext out a = refl
by_one_effect one.IntSext out a = refl
by_one_effect one.PopCount out a = refl
by_one_effect one.LzCount out a = refl

pub by_two_effect : (f : Op2) (out a b : Varnode) → effect (by_two f out a b) ≡ Some (Binary f out a b)
by_two_effect two.IntAdd out a b = refl
by_two_effect two.IntSub out a b = refl
by_two_effect two.IntMult out a b = refl
by_two_effect two.IntDiv out a b = refl
by_two_effect two.IntRem out a b = refl
by_two_effect two.IntSdiv out a b = refl
by_two_effect two.IntSrem out a b = refl
by_two_effect two.IntLeft out a b = refl
by_two_effect two.IntRight out a b = refl
by_two_effect two.IntSright out a b = refl
by_two_effect two.IntAnd out a b = refl
by_two_effect two.IntOr out a b = refl
by_two_effect two.IntXor out a b = refl
by_two_effect two.IntEqual out a b = refl
by_two_effect two.IntNotEqual out a b = refl
by_two_effect two.IntLess out a b = refl
by_two_effect two.IntLessEqual out a b = refl
by_two_effect two.IntSless out a b = refl
by_two_effect two.IntSlessEqual out a b = refl
by_two_effect two.IntCarry out a b = refl
by_two_effect two.IntScarry out a b = refl
by_two_effect two.IntSborrow out a b = refl
by_two_effect two.BoolAnd out a b = refl
by_two_effect two.BoolOr out a b = refl
by_two_effect two.BoolXor out a b = refl
by_two_effect two.Subpiece out a b = refl

-- ---- a COPY, or the operator's own operation

one_choice : (c : Bool) (f : Op1) (out a : Varnode) → keeps f out.size.bytes a.size.bytes ≡ c → unary f out a ≡ by_one (if c then one.Copy else f) out a
unfolding unary
one_choice c f out a e = ap (λ b. by_one (if b then one.Copy else f) out a) e

pub unary_is : (f : Op1) (out a : Varnode) → ((keeps f out.size.bytes a.size.bytes ≡ true) × (unary f out a ≡ by_one one.Copy out a)) ⊎ ((keeps f out.size.bytes a.size.bytes ≡ false) × (unary f out a ≡ by_one f out a))
unary_is f out a = decided (keeps f out.size.bytes a.size.bytes) refl
  where
    decided : (c : Bool) → keeps f out.size.bytes a.size.bytes ≡ c → ((keeps f out.size.bytes a.size.bytes ≡ true) × (unary f out a ≡ by_one one.Copy out a)) ⊎ ((keeps f out.size.bytes a.size.bytes ≡ false) × (unary f out a ≡ by_one f out a))
    decided true e = inl (e, one_choice true f out a e)
    decided false e = inr (e, one_choice false f out a e)

two_choice : (c d : Bool) (f : Op2) (out a b : Varnode) → keeps_first f out.size.bytes a.size.bytes b ≡ c → keeps_second f out.size.bytes a ≡ d
    → binary f out a b ≡ (if c then by_one one.Copy out a else if d then by_one one.Copy out b else by_two f out a b)
unfolding binary
two_choice c d f out a b e e' =
    ap (λ i. if i then by_one one.Copy out a else if keeps_second f out.size.bytes a then by_one one.Copy out b else by_two f out a b) e
    ∙ ap (λ i. if c then by_one one.Copy out a else if i then by_one one.Copy out b else by_two f out a b) e'

abbrev pub BinaryIs : Op2 → (out a b : Varnode) → Type 0
BinaryIs f out a b = ((keeps_first f out.size.bytes a.size.bytes b ≡ true) × (binary f out a b ≡ by_one one.Copy out a))
    ⊎ (((keeps_second f out.size.bytes a ≡ true) × (binary f out a b ≡ by_one one.Copy out b)) ⊎ ((keeps_first f out.size.bytes a.size.bytes b ≡ false) × (keeps_second f out.size.bytes a ≡ false) × (binary f out a b ≡ by_two f out a b)))

pub binary_is : (f : Op2) (out a b : Varnode) → BinaryIs f out a b
binary_is f out a b = decided (keeps_first f out.size.bytes a.size.bytes b) (keeps_second f out.size.bytes a) refl refl
  where
    decided : (c d : Bool) → keeps_first f out.size.bytes a.size.bytes b ≡ c → keeps_second f out.size.bytes a ≡ d → BinaryIs f out a b
    decided true d e e' = inl (e, two_choice true d f out a b e e')
    decided false true e e' = inr (inl (e', two_choice false true f out a b e e'))
    decided false false e e' = inr (inr (e, e', two_choice false false f out a b e e'))

-- ---- the values are the same

pub left_true : (b c : Bool) → (b && c) ≡ true → b ≡ true
left_true true c e = refl
left_true false c e = absurd (cc)

pub right_true : (b c : Bool) → (b && c) ≡ true → c ≡ true
right_true true c e = e
right_true false c e = absurd (cc)

pub same_number : (a b : ℕ) → (a == b) ≡ true → a ≡ b
same_number a b e = grind (arith, nat_tests)

-- a value of the same size
pub kept_size : (f : Op1) (out a : ℕ) → keeps f out a ≡ true → out ≡ a
kept_size one.IntZext out a k = same_number out a k
kept_size one.IntSext out a k = same_number out a k
kept_size one.Copy out a k = absurd (cc)
kept_size one.IntNegate out a k = absurd (cc)
kept_size one.Int2Comp out a k = absurd (cc)
kept_size one.BoolNegate out a k = absurd (cc)
kept_size one.PopCount out a k = absurd (cc)
kept_size one.LzCount out a k = absurd (cc)

kept_one : (f : Op1) (out a x : ℕ) → keeps f out a ≡ true → x < 256 ^ a → value1 f a out x ≡ x
kept_one one.IntZext out a x k lt = refl
kept_one one.IntSext out a x k lt = ap (λ n. residue n (signed_value a x)) (same_number out a k) ∙ residue-signed_value a x lt
kept_one one.Copy out a x k lt = absurd (cc)
kept_one one.IntNegate out a x k lt = absurd (cc)
kept_one one.Int2Comp out a x k lt = absurd (cc)
kept_one one.BoolNegate out a x k lt = absurd (cc)
kept_one one.PopCount out a x k lt = absurd (cc)
kept_one one.LzCount out a x k lt = absurd (cc)

unshifted : (z : ℤ) → int_shr z 0 ≡ z
unshifted (pos n) = ap pos (div-one n)
unshifted (negsuc n) = ap negsuc (div-one n)

-- the second operand is 0, and the value has the size of the first
pub first_zero : (f : Op2) (out a : ℕ) (b : Varnode) → keeps_first f out a b ≡ true → is_zero b ≡ true
first_zero f out a b k = left_true (is_zero b) (out == a) (right_true (takes_nothing f) (is_zero b && (out == a)) k)

pub first_size : (f : Op2) (out a : ℕ) (b : Varnode) → keeps_first f out a b ≡ true → out ≡ a
first_size f out a b k = same_number out a (right_true (is_zero b) (out == a) (right_true (takes_nothing f) (is_zero b && (out == a)) k))

kept_first : (f : Op2) (out a x y : ℕ) → takes_nothing f ≡ true → out ≡ a → y ≡ 0 → x < 256 ^ a → applied f a out x y ≡ Ok x
kept_first two.IntAdd out a x y k size z lt = ap (λ w. Ok ((x + w) % 256 ^ a)) z ∙ ap (λ w. Ok (w % 256 ^ a)) (let e : x + 0 ≡ x = omega arith in e) ∙ ap Ok (mod-eq_of_lt lt)
kept_first two.IntLeft out a x y k size z lt = ap (λ w. Ok ((x * 2 ^ w) % 256 ^ a)) z ∙ ap (λ w. Ok (w % 256 ^ a)) (let e : x * 1 ≡ x = omega arith in e) ∙ ap Ok (mod-eq_of_lt lt)
kept_first two.IntRight out a x y k size z lt = ap (λ w. Ok (x / 2 ^ w)) z ∙ ap Ok (div-one x)
kept_first two.IntSright out a x y k size z lt =
    ap (λ w. Ok (residue a (int_shr (signed_value a x) w))) z ∙ ap (λ w. Ok (residue a w)) (unshifted (signed_value a x)) ∙ ap Ok (residue-signed_value a x lt)
kept_first two.Subpiece out a x y k size z lt =
    ap (λ w. Ok (x / 256 ^ w % 256 ^ out)) z ∙ ap (λ w. Ok (w % 256 ^ out)) (div-one x) ∙ ap (λ n. Ok (x % 256 ^ n)) size ∙ ap Ok (mod-eq_of_lt lt)
kept_first two.IntSub out a x y k size z lt = absurd (cc)
kept_first two.IntMult out a x y k size z lt = absurd (cc)
kept_first two.IntDiv out a x y k size z lt = absurd (cc)
kept_first two.IntRem out a x y k size z lt = absurd (cc)
kept_first two.IntSdiv out a x y k size z lt = absurd (cc)
kept_first two.IntSrem out a x y k size z lt = absurd (cc)
kept_first two.IntAnd out a x y k size z lt = absurd (cc)
kept_first two.IntOr out a x y k size z lt = absurd (cc)
kept_first two.IntXor out a x y k size z lt = absurd (cc)
kept_first two.IntEqual out a x y k size z lt = absurd (cc)
kept_first two.IntNotEqual out a x y k size z lt = absurd (cc)
kept_first two.IntLess out a x y k size z lt = absurd (cc)
kept_first two.IntLessEqual out a x y k size z lt = absurd (cc)
kept_first two.IntSless out a x y k size z lt = absurd (cc)
kept_first two.IntSlessEqual out a x y k size z lt = absurd (cc)
kept_first two.IntCarry out a x y k size z lt = absurd (cc)
kept_first two.IntScarry out a x y k size z lt = absurd (cc)
kept_first two.IntSborrow out a x y k size z lt = absurd (cc)
kept_first two.BoolAnd out a x y k size z lt = absurd (cc)
kept_first two.BoolOr out a x y k size z lt = absurd (cc)
kept_first two.BoolXor out a x y k size z lt = absurd (cc)

-- of the other operand alone an addition is the value
abbrev pub SecondIs : Op2 → (out : ℕ) → (a : Varnode) → Type 0
SecondIs f out a = (f ≡ two.IntAdd) × (is_zero a ≡ true) × (out ≡ a.size.bytes)

pub second_is : (f : Op2) (out : ℕ) (a : Varnode) → keeps_second f out a ≡ true → SecondIs f out a
second_is two.IntAdd out a k = (refl, left_true (is_zero a) (out == a.size.bytes) k, same_number out a.size.bytes (right_true (is_zero a) (out == a.size.bytes) k))
second_is two.IntLeft out a k = absurd (cc)
second_is two.IntRight out a k = absurd (cc)
second_is two.IntSright out a k = absurd (cc)
second_is two.Subpiece out a k = absurd (cc)
second_is two.IntSub out a k = absurd (cc)
second_is two.IntMult out a k = absurd (cc)
second_is two.IntDiv out a k = absurd (cc)
second_is two.IntRem out a k = absurd (cc)
second_is two.IntSdiv out a k = absurd (cc)
second_is two.IntSrem out a k = absurd (cc)
second_is two.IntAnd out a k = absurd (cc)
second_is two.IntOr out a k = absurd (cc)
second_is two.IntXor out a k = absurd (cc)
second_is two.IntEqual out a k = absurd (cc)
second_is two.IntNotEqual out a k = absurd (cc)
second_is two.IntLess out a k = absurd (cc)
second_is two.IntLessEqual out a k = absurd (cc)
second_is two.IntSless out a k = absurd (cc)
second_is two.IntSlessEqual out a k = absurd (cc)
second_is two.IntCarry out a k = absurd (cc)
second_is two.IntScarry out a k = absurd (cc)
second_is two.IntSborrow out a k = absurd (cc)
second_is two.BoolAnd out a k = absurd (cc)
second_is two.BoolOr out a k = absurd (cc)
second_is two.BoolXor out a k = absurd (cc)

pub value2_low : (op : Op2) (sa sb out b x y : ℕ) → 1 ≤ out → TakesSizes2 op sa sb out b → x < 256 ^ sa → y < 256 ^ sb → value2 op sa out x y < 256 ^ out
value2_low two.Subpiece sa sb out b x y one sizes hx hy = mod_below (x / 256 ^ y) (256 ^ out) (bytes_pos out)
value2_low op sa sb out b x y one sizes hx hy = value2_below op sa sb out x y one sizes hx hy

pub zero_value : (g : Setting) (m : Memory) (u : Temporaries) (place : Place2) (offset count : ℕ) → is_zero_at place offset ≡ true → value_at g.endian g.sizes place offset count m u ≡ 0
zero_value g m u Const offset count z = same_number offset 0 z
zero_value g m u Unique offset count z = absurd (cc)
zero_value g m u (In space) offset count z = absurd (cc)

-- ---- what they do

module _ (g : Setting) (code : List Op) (well : All (IsWellFormedOp g.sizes) code) where
  -- the operation of the definition at a place
  abbrev pub Has : (p : ℕ) → Operation → Type 0
  Has p o = option_map effect_of (slice_get code p) ≡ Some (effect o)

  -- a value is put, and then the list goes on
  abbrev pub Goes : (out : Varnode) → (left p : ℕ) → Memory → Temporaries → (ℕ → Final) → Type 0
  Goes out left p m u go = (v : ℕ) → v < 256 ^ out.size.bytes → put g.endian g.sizes out v m u (from g code left (p + 1)) ≡ go v

  copy_goes : (out a : Varnode) (x p left : ℕ) (m : Memory) (u : Temporaries) (go : ℕ → Final) → value_of g.endian g.sizes a m u ≡ x → x < 256 ^ a.size.bytes
      → Has p (by_one one.Copy out a) → Goes out left p m u go → from g code left p m u ≡ go x
  copy_goes out a x p left m u go ex hx has goes =
      let formed : out.size.bytes ≡ a.size.bytes = formed_at g code (Unary one.Copy out a) p well has in
      step g code (Unary one.Copy out a) left p m u has ∙ ap (λ w. put g.endian g.sizes out w m u (from g code left (p + 1))) ex ∙ goes x (subst (λ n. x < 256 ^ n) (sym formed) hx)

  pub unary_goes : (f : Op1) (out a : Varnode) (x p left : ℕ) (m : Memory) (u : Temporaries) (go : ℕ → Final) → value_of g.endian g.sizes a m u ≡ x → x < 256 ^ a.size.bytes
      → Has p (unary f out a) → Goes out left p m u go → from g code left p m u ≡ go (value1 f a.size.bytes out.size.bytes x)
  unary_goes f out a x p left m u go ex hx has goes =
      elim (unary_is f out a) [
        | inl k ↦
            copy_goes out a x p left m u go ex hx (subst (Has p) k.1 has) goes
            ∙ sym (ap go (kept_one f out.size.bytes a.size.bytes x k.0 hx))
        | inr e ↦
            let there : At g code p (Unary f out a) = subst (Has p) e.1 has ∙ ap Some (by_one_effect f out a) in
            let formed = formed_at g code (Unary f out a) p well there in
            step g code (Unary f out a) left p m u there
            ∙ ap (λ w. put g.endian g.sizes out (value1 f a.size.bytes out.size.bytes w) m u (from g code left (p + 1))) ex
            ∙ goes (value1 f a.size.bytes out.size.bytes x) (value1_below f a.size.bytes out.size.bytes x a.size.at_most_16 out.size.some formed hx)
      ]

  -- by what is known of the operator's value
  binary_by : (f : Op2) (out a b : Varnode) (x y p left : ℕ) (m : Memory) (u : Temporaries) (go : ℕ → Final) → value_of g.endian g.sizes a m u ≡ x → value_of g.endian g.sizes b m u ≡ y → x < 256 ^ a.size.bytes
      → (TakesSizes2 f a.size.bytes b.size.bytes out.size.bytes b.offset → value2 f a.size.bytes out.size.bytes x y < 256 ^ out.size.bytes) → (keeps_second f out.size.bytes a ≡ true → y < 256 ^ b.size.bytes)
      → Has p (binary f out a b) → Goes out left p m u go → from g code left p m u ≡ with_final (applied f a.size.bytes out.size.bytes x y) m go
  binary_by f out a b x y p left m u go ex ey hx low second has goes =
      elim (binary_is f out a b) [
        | inl k ↦
            let z : y ≡ 0 = sym ey ∙ zero_value g m u b.place b.offset b.size.bytes (first_zero f out.size.bytes a.size.bytes b k.0) in
            copy_goes out a x p left m u go ex hx (subst (Has p) k.1 has) goes
            ∙ sym (ap (λ r. with_final r m go) (kept_first f out.size.bytes a.size.bytes x y (left_true (takes_nothing f) _ k.0) (first_size f out.size.bytes a.size.bytes b k.0) z hx))
        | inr (inl k) ↦
            let s = second_is f out.size.bytes a k.0 in
            let z : x ≡ 0 = sym ex ∙ zero_value g m u a.place a.offset a.size.bytes s.1 in
            let there = subst (Has p) k.1 has in
            let formed : out.size.bytes ≡ b.size.bytes = formed_at g code (Unary one.Copy out b) p well there in
            let small : y < 256 ^ a.size.bytes = subst (λ n. y < 256 ^ n) (sym formed ∙ s.2) (second k.0) in
            copy_goes out b y p left m u go ey (second k.0) there goes
            ∙ sym (ap (λ r. with_final (applied r a.size.bytes out.size.bytes x y) m go) s.0 ∙ ap (λ q. go ((q + y) % 256 ^ a.size.bytes)) z ∙ ap (λ q. go (q % 256 ^ a.size.bytes)) (let e : 0 + y ≡ y = omega arith in e) ∙ ap go (mod-eq_of_lt small))
        | inr (inr e) ↦ plain (subst (Has p) e.2 has ∙ ap Some (by_two_effect f out a b))
      ]
    where
      chosen : (c : Bool) (w : ℕ) → w < 256 ^ out.size.bytes → (if c then stops divides_by_zero m else put g.endian g.sizes out w m u (from g code left (p + 1))) ≡ with_final (if c then Err divides_by_zero else Ok w) m go
      chosen true w lt = refl
      chosen false w lt = goes w lt

      plain : At g code p (Binary f out a b) → from g code left p m u ≡ with_final (applied f a.size.bytes out.size.bytes x y) m go
      plain there =
          let formed = formed_at g code (Binary f out a b) p well there in
          let next = from g code left (p + 1) in
          step g code (Binary f out a b) left p m u there
          ∙ ap (λ w. if machine.has_no_value f w then stops divides_by_zero m else put g.endian g.sizes out (value2 f a.size.bytes out.size.bytes (value_of g.endian g.sizes a m u) w) m u next) ey
          ∙ ap (λ w. if machine.has_no_value f y then stops divides_by_zero m else put g.endian g.sizes out (value2 f a.size.bytes out.size.bytes w y) m u next) ex
          ∙ ap (λ c. if c then stops divides_by_zero m else put g.endian g.sizes out (value2 f a.size.bytes out.size.bytes x y) m u next) (no_value_same f y)
          ∙ chosen (has_no_value f y) (value2 f a.size.bytes out.size.bytes x y) (low formed.0)

  pub binary_goes : (f : Op2) (out a b : Varnode) (x y p left : ℕ) (m : Memory) (u : Temporaries) (go : ℕ → Final) → value_of g.endian g.sizes a m u ≡ x → value_of g.endian g.sizes b m u ≡ y → x < 256 ^ a.size.bytes → y < 256 ^ b.size.bytes
      → Has p (binary f out a b) → Goes out left p m u go → from g code left p m u ≡ with_final (applied f a.size.bytes out.size.bytes x y) m go
  binary_goes f out a b x y p left m u go ex ey hx hy has goes =
      binary_by f out a b x y p left m u go ex ey hx (λ sizes. value2_low f a.size.bytes b.size.bytes out.size.bytes b.offset x y out.size.some sizes hx hy) (λ k. hy) has goes

  -- bytes are dropped, however many
  pub piece_goes : (out a : Varnode) (x k p left : ℕ) (m : Memory) (u : Temporaries) (go : ℕ → Final) → value_of g.endian g.sizes a m u ≡ x → x < 256 ^ a.size.bytes
      → Has p (binary two.Subpiece out a (amount k)) → Goes out left p m u go → from g code left p m u ≡ go (x / 256 ^ k % 256 ^ out.size.bytes)
  piece_goes out a x k p left m u go ex hx has goes =
      binary_by two.Subpiece out a (amount k) x k p left m u go ex refl hx (λ sizes. mod_below (x / 256 ^ k) (256 ^ out.size.bytes) (bytes_pos out.size.bytes)) (λ second. absurd (cc)) has goes

  -- a value is put into a temporary; what follows is known of all temporary bytes that have it there
  pub unary_temp : (f : Op1) (o : ℕ) (n : Size) (a : Varnode) (x w p left : ℕ) (m : Memory) (u : Temporaries) (end : Final) → value_of g.endian g.sizes a m u ≡ x → x < 256 ^ a.size.bytes
      → value1 f a.size.bytes n.bytes x ≡ w → w < 256 ^ n.bytes → Has p (unary f (temporary o n) a)
      → ((u' : Temporaries) → Same o u u' → read_at g.endian u' o n.bytes ≡ w → from g code left (p + 1) m u' ≡ end) → from g code left p m u ≡ end
  unary_temp f o n a x w p left m u end ex hx is lt has follows =
      unary_goes f (temporary o n) a x p left m u (λ v. from g code left (p + 1) m (put_at g.endian u o n.bytes v)) ex hx has (λ v small. refl)
      ∙ ap (λ v. from g code left (p + 1) m (put_at g.endian u o n.bytes v)) is
      ∙ follows (put_at g.endian u o n.bytes w) (same_put g.endian o n.bytes w u) (read_put g.endian o n.bytes w u lt)

  pub binary_temp : (f : Op2) (o : ℕ) (n : Size) (a b : Varnode) (x y w p left : ℕ) (m : Memory) (u : Temporaries) (end : Final) → value_of g.endian g.sizes a m u ≡ x → value_of g.endian g.sizes b m u ≡ y → x < 256 ^ a.size.bytes → y < 256 ^ b.size.bytes
      → applied f a.size.bytes n.bytes x y ≡ Ok w → w < 256 ^ n.bytes → Has p (binary f (temporary o n) a b)
      → ((u' : Temporaries) → Same o u u' → read_at g.endian u' o n.bytes ≡ w → from g code left (p + 1) m u' ≡ end) → from g code left p m u ≡ end
  binary_temp f o n a b x y w p left m u end ex ey hx hy is lt has follows =
      let next : ℕ → Final = λ v. from g code left (p + 1) m (put_at g.endian u o n.bytes v) in
      binary_goes f (temporary o n) a b x y p left m u next ex ey hx hy has (λ v small. refl)
      ∙ ap (λ r. with_final r m next) is
      ∙ follows (put_at g.endian u o n.bytes w) (same_put g.endian o n.bytes w u) (read_put g.endian o n.bytes w u lt)
