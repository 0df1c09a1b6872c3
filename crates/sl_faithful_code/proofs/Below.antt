-- Values of which the text says that they have few bits.
use Rattle.std.proofs.Common.{◌≡◌, ℕ, ◌/◌, ◌%◌, ◌^◌, ◌<◌, ◌≤◌, Bool, true, false, Ok, Err, bit_and, bit_or, refl, subst, arith}
use Rattle.std.specs.Prelude.{Result, ◌&&◌, ◌||◌, bit_xor, nat_le, nat_lt}
use Rattle.std.specs.Int.{from_bool}
use Rattle.std.proofs.lemmas.Bool.Decides.{nat_tests}
use Rattle.std.proofs.lemmas.Nat.{and_le_l, and_le_r, mod_below, or_lt, pow_pos, xor_lt}
use Rattle.std.proofs.Math.Nat.{mod-le, pow-le-pow_right}
use Rattle.sl_faithful_code.specs.Bits.{is_below, one_is_below, ordered_is_below, symbol_is_below, two_is_below}
use Rattle.sl_faithful_code.proofs.Operators.{left_true, right_true}
use Rattle.sl_meaning_sections.specs.References.{Locals, Setting}
use Rattle.sl_meaning_sections.specs.Values.{◌>>=◌, Fault, Frame, applied, bits_of, ordered, symbol_value, value}
use Rattle.sl_section_flat.specs.Sections as s
use Rattle.sl_section_flat.specs.Sections.{Symbol, Term, variable_of}
use Rattle.sl_section_flat.specs.declared.term.Order.{Order}
use Rattle.sl_section_flat.specs.declared.term.Order.TheVariants.{AsWritten, Exchanged}
use Rattle.sl_word.specs.Memories.{Memory}
use Rattle.sl_word.specs.Operations.{value1}
use Rattle.sl_word.specs.declared.operation.Op1.{Op1}
use Rattle.sl_word.specs.declared.operation.Op1.TheVariants as one
use Rattle.sl_word.specs.declared.operation.Op2.{Op2}
use Rattle.sl_word.specs.declared.operation.Op2.TheVariants as two

-- what holds of each result that there can be
bound : (r : Result ℕ Fault) (k : ℕ → Result ℕ Fault) (most x : ℕ) → ((v w : ℕ) → r ≡ Ok v → k v ≡ Ok w → w < most) → (r >>= k) ≡ Ok x → x < most
bound (Ok v) k most x each e = each v x refl e
bound (Err f) k most x each e = absurd (let no : ⊥ = cc in no)

truth : (b : Bool) → from_bool b < 2
truth true = omega arith
truth false = omega arith

abbrev Known : ℕ → Result ℕ Fault
Known v = Ok v

two_below : (count : ℕ) → nat_lt 0 count ≡ true → 2 ≤ 2 ^ count
two_below count some =
    let one : 1 ≤ count = grind (arith, nat_tests) in
    pow-le-pow_right (omega arith) one

tested : (count : ℕ) (b : Bool) (x : ℕ) → nat_lt 0 count ≡ true → Known (from_bool b) ≡ Known x → x < 2 ^ count
tested count b x some e = let same : from_bool b ≡ x = cc in omega (arith, same, truth b, two_below count some)

narrowed : (count : ℕ) (p q : Bool) (a b x : ℕ) → (p || q) ≡ true → (p ≡ true → a < 2 ^ count) → (q ≡ true → b < 2 ^ count) → Known (bit_and a b) ≡ Known x → x < 2 ^ count
narrowed count true q a b x few ha hb e = let same : bit_and a b ≡ x = cc in omega (arith, same, and_le_l a b, ha refl)
narrowed count false q a b x few ha hb e = let same : bit_and a b ≡ x = cc in omega (arith, same, and_le_r a b, hb few)

joined : (count : ℕ) (p q : Bool) (a b x : ℕ) → (p && q) ≡ true → (p ≡ true → a < 2 ^ count) → (q ≡ true → b < 2 ^ count) → Known (bit_or a b) ≡ Known x → x < 2 ^ count
joined count p q a b x few ha hb e =
    let same : bit_or a b ≡ x = cc in
    subst (λ k. k < 2 ^ count) same (or_lt count a b (ha (left_true p q few)) (hb (right_true p q few)))

differing : (count : ℕ) (p q : Bool) (a b x : ℕ) → (p && q) ≡ true → (p ≡ true → a < 2 ^ count) → (q ≡ true → b < 2 ^ count) → Known (bit_xor a b) ≡ Known x → x < 2 ^ count
differing count p q a b x few ha hb e =
    let same : bit_xor a b ≡ x = cc in
    subst (λ k. k < 2 ^ count) same (xor_lt count a b (ha (left_true p q few)) (hb (right_true p q few)))

two_value : (op : Op2) (count : ℕ) (p q : Bool) (size out a b x : ℕ) → two_is_below op p q count ≡ true → (p ≡ true → a < 2 ^ count) → (q ≡ true → b < 2 ^ count) → applied op size out a b ≡ Ok x → x < 2 ^ count
two_value two.IntEqual count p q size out a b x few ha hb e = tested count _ x few e
two_value two.IntNotEqual count p q size out a b x few ha hb e = tested count _ x few e
two_value two.IntLess count p q size out a b x few ha hb e = tested count _ x few e
two_value two.IntLessEqual count p q size out a b x few ha hb e = tested count _ x few e
two_value two.IntSless count p q size out a b x few ha hb e = tested count _ x few e
two_value two.IntSlessEqual count p q size out a b x few ha hb e = tested count _ x few e
two_value two.IntCarry count p q size out a b x few ha hb e = tested count _ x few e
two_value two.IntScarry count p q size out a b x few ha hb e = tested count _ x few e
two_value two.IntSborrow count p q size out a b x few ha hb e = tested count _ x few e
two_value two.IntAnd count p q size out a b x few ha hb e = narrowed count p q a b x few ha hb e
two_value two.BoolAnd count p q size out a b x few ha hb e = narrowed count p q a b x few ha hb e
two_value two.IntOr count p q size out a b x few ha hb e = joined count p q a b x few ha hb e
two_value two.BoolOr count p q size out a b x few ha hb e = joined count p q a b x few ha hb e
two_value two.IntXor count p q size out a b x few ha hb e = differing count p q a b x few ha hb e
two_value two.BoolXor count p q size out a b x few ha hb e = differing count p q a b x few ha hb e
two_value two.IntAdd count p q size out a b x few ha hb e = absurd (cc)
two_value two.IntSub count p q size out a b x few ha hb e = absurd (cc)
two_value two.IntMult count p q size out a b x few ha hb e = absurd (cc)
two_value two.IntDiv count p q size out a b x few ha hb e = absurd (cc)
two_value two.IntRem count p q size out a b x few ha hb e = absurd (cc)
two_value two.IntSdiv count p q size out a b x few ha hb e = absurd (cc)
two_value two.IntSrem count p q size out a b x few ha hb e = absurd (cc)
two_value two.IntLeft count p q size out a b x few ha hb e = absurd (cc)
two_value two.IntRight count p q size out a b x few ha hb e = absurd (cc)
two_value two.IntSright count p q size out a b x few ha hb e = absurd (cc)
two_value two.Subpiece count p q size out a b x few ha hb e = absurd (cc)

ordered_value : (op : Op2) (order : Order) (count : ℕ) (p q : Bool) (n k out a b x : ℕ) → ordered_is_below op order p q count ≡ true → (p ≡ true → a < 2 ^ count) → (q ≡ true → b < 2 ^ count) → ordered op order n k out a b ≡ Ok x → x < 2 ^ count
ordered_value op AsWritten count p q n k out a b x few ha hb e = two_value op count p q n out a b x few ha hb e
ordered_value op Exchanged count p q n k out a b x few ha hb e = two_value op count q p k out b a x few hb ha e

one_value : (op : Op1) (count : ℕ) (p : Bool) (size out a : ℕ) → one_is_below op p count ≡ true → (p ≡ true → a < 2 ^ count) → value1 op size out a < 2 ^ count
one_value one.IntZext count p size out a few ha = ha few
one_value one.BoolNegate count p size out a few ha =
    xor_lt count a 1 (ha (left_true p (nat_lt 0 count) few)) (omega (arith, two_below count (right_true p (nat_lt 0 count) few)))
one_value one.Copy count p size out a few ha = absurd (cc)
one_value one.IntNegate count p size out a few ha = absurd (cc)
one_value one.Int2Comp count p size out a few ha = absurd (cc)
one_value one.IntSext count p size out a few ha = absurd (cc)
one_value one.PopCount count p size out a few ha = absurd (cc)
one_value one.LzCount count p size out a few ha = absurd (cc)

number_below : (v n count : ℕ) → nat_lt v (2 ^ count) ≡ true → v % n < 2 ^ count
number_below v n count few =
    let less : v < 2 ^ count = grind (arith, nat_tests) in
    let le : v % n ≤ v = mod-le v n in
    omega (arith, less, le)

field_below : (low k count v : ℕ) → nat_le k count ≡ true → bits_of low k v < 2 ^ count
field_below low k count v few =
    let le : k ≤ count = grind (arith, nat_tests) in
    let more : 2 ^ k ≤ 2 ^ count = pow-le-pow_right (omega arith) le in
    let less : v / 2 ^ low % 2 ^ k < 2 ^ k = mod_below (v / 2 ^ low) (2 ^ k) (pow_pos k) in
    omega (arith, less, more)

module _ (g : Setting) (f : Frame) (m : Memory) (l : Locals) where
  symbol_below : (a : Symbol) (n count : ℕ) → symbol_is_below a count ≡ true → symbol_value g f m l a n < 2 ^ count
  symbol_below (s.bit_range space offset k low c) n count few = field_below low c count _ few
  symbol_below (s.register space offset k) n count few = absurd (cc)
  symbol_below (s.local x) n count few = absurd (cc)
  symbol_below (s.table i) n count few = absurd (cc)
  symbol_below (s.attached i k) n count few = absurd (cc)
  symbol_below (s.value i) n count few = absurd (cc)
  symbol_below s.start n count few = absurd (cc)
  symbol_below s.next n count few = absurd (cc)
  symbol_below (s.integer v) n count few = absurd (cc)

  -- the value has no bits but those
  pub below_value : (e : Term) (count x : ℕ) → is_below e count ≡ true → value g f m l e ≡ Ok x → x < 2 ^ count
  below_value (s.name a y) count x few e =
      let same : symbol_value g f m l a (f.size y).bytes ≡ x = cc in
      subst (λ k. k < 2 ^ count) same (symbol_below a (f.size y).bytes count few)
  below_value (s.paren t y) count x few e = below_value t count x few e
  below_value (s.bits t low k y) count x few e =
      bound (value g f m l t) (λ v. Ok (bits_of low k v)) (2 ^ count) x (λ v w of is. let same : bits_of low k v ≡ w = cc in subst (λ q. q < 2 ^ count) same (field_below low k count v few)) e
  below_value (s.one op t y) count x few e =
      bound (value g f m l t) _ (2 ^ count) x
      (λ v w of is. let same : value1 op (f.size (variable_of t)).bytes (f.size y).bytes v ≡ w = cc in
      subst (λ q. q < 2 ^ count) same (one_value op count (is_below t count) _ _ v few (λ k. below_value t count v k of))) e
  below_value (s.two op order a b y) count x few e =
      bound (value g f m l a) _ (2 ^ count) x
      (λ v w of is. bound (value g f m l b) _ (2 ^ count) w
      (λ v' w' of' is'. ordered_value op order count (is_below a count) (is_below b count) _ _ _ v v' w' few (λ k. below_value a count v k of) (λ k. below_value b count v' k of') is') is) e
  below_value (s.number v y) count x few e =
      let same : v % 256 ^ (f.size y).bytes ≡ x = cc in subst (λ q. q < 2 ^ count) same (number_below v _ count few)
  below_value (s.sized v n y) count x few e =
      let same : v % 256 ^ (f.size y).bytes ≡ x = cc in subst (λ q. q < 2 ^ count) same (number_below v _ count few)
  below_value (s.kept t n y) count x few e = absurd (cc)
  below_value (s.dropped t n y) count x few e = absurd (cc)
  below_value (s.load space n t y) count x few e = absurd (cc)
  below_value (s.user op es y) count x few e = absurd (cc)
