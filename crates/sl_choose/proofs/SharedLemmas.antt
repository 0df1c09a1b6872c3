-- What the cubes of some first entries have in common.
use Rattle.std.proofs.Common.{◌≡◌, ◌≢◌, ◌⊎◌, inl, inr, ℕ, ◌+◌, ◌-◌, ◌<◌, ◌≤◌, ◌^◌, List, length, get_or, below_more, min, max, bit_and, bit_or, arith, sym, ◌∙◌, ap, subst}
use mir.Val.{bits as width_of}
use Rattle.std.specs.Int.{Width, bit_at, bit_not, trailing_zeros}
use Rattle.std.specs.Int.Bits.{and_zero_l, and_zero_r}
use Rattle.std.specs.List.{HoldsAt}
use Rattle.std.specs.Prelude.{Contains}
use Rattle.std.proofs.Math.Pow.{pow-lt}
use Rattle.std.proofs.lemmas.Nat.{and-not, and_assoc, and_comm, and_le_l, trailing_le}
use Rattle.std.proofs.lemmas.Nat.Bits.{bit_at_and, bit_at_not, bit_at_or, bit_at-lt, bit_at-pow_other, bit_at-pow_same, bit_at-trailing_zeros, bit_at-zero, same_from_bits}
use Rattle.std.proofs.lemmas.Bool.{cases_lt}
use Rattle.std.proofs.lemmas.List.Elements.{at_read}
use Rattle.sl_cube.specs.Points.{InRange}
use Rattle.sl_cube.specs.declared.Cube.{Cube}
use Rattle.sl_cube.specs.declared.Point.{Point}
use Rattle.sl_choose.specs.declared.Entry.{Entry}
use Rattle.sl_choose.specs.declared.shared.Shared.{Shared}
use Rattle.sl_choose.specs.Shared.{HasAll, HasNone, HasNoneBefore, IsShared, Joins, cleared}
use Rattle.sl_choose.specs.Sides.{AllCover, IsForced, SetsNone, SomeClear, byte_bit, context_bit}
use Rattle.sl_choose.proofs.SideLemmas.{none_set}

-- ---- bits of two numbers

and_all : (a m b : ℕ) → bit_and a b ≡ b → bit_and m b ≡ b → bit_and (bit_and a m) b ≡ b
and_all a m b has also = and_assoc b a m ∙ ap (bit_and a) also ∙ has

and_right : (a v b : ℕ) → bit_and v b ≡ 0 → bit_and (bit_and a v) b ≡ 0
and_right a v b none = and_assoc b a v ∙ ap (bit_and a) none ∙ and_zero_r a

and_left : (a v b : ℕ) → bit_and a b ≡ 0 → bit_and (bit_and a v) b ≡ 0
and_left a v b none = ap (λ x. bit_and x b) (and_comm a v) ∙ and_right v a b none

either_bit : (x y b : ℕ) → x < 2 → y < 2 → b < 2 → min (max x y) b ≡ 0 → (min x b ≡ 0) × (min y b ≡ 0)
either_bit x y b hx hy hb none = (grind arith, grind arith)

or_bit : (a v b i : ℕ) → bit_and (bit_or a v) b ≡ 0 → (min (bit_at a i) (bit_at b i) ≡ 0) × (min (bit_at v i) (bit_at b i) ≡ 0)
or_bit a v b i none =
    either_bit (bit_at a i) (bit_at v i) (bit_at b i) (bit_at-lt a i) (bit_at-lt v i) (bit_at-lt b i)
    (ap (λ x. min x (bit_at b i)) (sym (bit_at_or a v i)) ∙ sym (bit_at_and (bit_or a v) b i) ∙ ap (λ n. bit_at n i) none ∙ bit_at-zero i)

or_none : (a v b : ℕ) → bit_and (bit_or a v) b ≡ 0 → (bit_and a b ≡ 0) × (bit_and v b ≡ 0)
or_none a v b none = (
  same_from_bits _ _ (λ i. bit_at_and a b i ∙ (or_bit a v b i none).0 ∙ sym (bit_at-zero i)),
  same_from_bits _ _ (λ i. bit_at_and v b i ∙ (or_bit a v b i none).1 ∙ sym (bit_at-zero i)),
)

all_in : (w n : ℕ) → n < 2 ^ w → bit_and (2 ^ w - 1) n ≡ n
all_in w n within =
    let whole : 2 ^ w - 1 - 0 ≡ 2 ^ w - 1 = omega arith in
    let both : bit_and (2 ^ w - 1 - 0) n + bit_and 0 n ≡ n = and-not w 0 n (omega (arith, within)) within in
    let none : bit_and 0 n ≡ 0 = and_zero_l n in
    ap (λ x. bit_and x n) (sym whole) ∙ omega (arith, both, none)

-- ---- one more entry

pub record SharedFirst (entries : List Entry) (s : Shared) (n : ℕ) : Type 0 where
  pub fixed : (bits : Point) → InRange bits → AllCover entries bits → HasAll s.fixed bits
  pub some : (bits : Point) → HasNone s.some bits → (k : ℕ) → k < n → HoldsAt (λ (e : Entry). SetsNone e.cube bits) entries k
  pub clear : (bits : Point) → HasNone s.clear bits → (k : ℕ) → k < n → HoldsAt (λ (e : Entry). HasNone (cleared e.cube) bits) entries k
  pub all : (bits : Point) (k : ℕ) → k < n → HoldsAt (λ (e : Entry). SetsNone e.cube bits → HasNone s.all bits) entries k

abbrev pub nothing : Shared
nothing = record {
  fixed = record { bytes = 2 ^ 128 - 1; context = 2 ^ 64 - 1 };
  some = record { bytes = 0; context = 0 };
  clear = record { bytes = 0; context = 0 };
  all = record { bytes = 2 ^ 128 - 1; context = 2 ^ 64 - 1 };
}

pub shared_none : (entries : List Entry) (s : Shared) → s ≡ nothing → SharedFirst entries s 0
shared_none entries s is = record {
  fixed = λ bits range cover. subst (λ (x : Shared). HasAll x.fixed bits) (sym is) (all_in 128 bits.bytes range.0, all_in 64 bits.context range.1);
  some = λ bits none k below. absurd (omega arith);
  clear = λ bits none k below. absurd (omega arith);
  all = λ bits k below. absurd (omega arith);
}

has_more : (s t : Shared) (c : Cube) (bits : Point) → Joins s c t → HasAll s.fixed bits
    → (bit_and c.mask bits.bytes ≡ bits.bytes) × (bit_and c.ctx_mask bits.context ≡ bits.context) → HasAll t.fixed bits
has_more s t c bits joins has covers = (
  ap (λ x. bit_and x bits.bytes) joins.fixed.0 ∙ and_all s.fixed.bytes c.mask bits.bytes has.0 covers.0,
  ap (λ x. bit_and x bits.context) joins.fixed.1 ∙ and_all s.fixed.context c.ctx_mask bits.context has.1 covers.1,
)

some_less : (s t : Shared) (c : Cube) (bits : Point) → Joins s c t → HasNone t.some bits → HasNone s.some bits × SetsNone c bits
some_less s t c bits joins none =
    let bytes = or_none s.some.bytes c.value bits.bytes (ap (λ x. bit_and x bits.bytes) (sym joins.some.0) ∙ none.0) in
    let context = or_none s.some.context c.ctx_value bits.context (ap (λ x. bit_and x bits.context) (sym joins.some.1) ∙ none.1) in
    ((bytes.0, context.0), (bytes.1, context.1))

clear_less : (s t : Shared) (c : Cube) (bits : Point) → Joins s c t → HasNone t.clear bits → HasNone s.clear bits × HasNone (cleared c) bits
clear_less s t c bits joins none =
    let bytes = or_none s.clear.bytes (cleared c).bytes bits.bytes (ap (λ x. bit_and x bits.bytes) (sym joins.clear.0) ∙ none.0) in
    let context = or_none s.clear.context (cleared c).context bits.context (ap (λ x. bit_and x bits.context) (sym joins.clear.1) ∙ none.1) in
    ((bytes.0, context.0), (bytes.1, context.1))

none_kept : (s t : Shared) (c : Cube) (bits : Point) → Joins s c t → HasNone s.all bits → HasNone t.all bits
none_kept s t c bits joins none = (
  ap (λ x. bit_and x bits.bytes) joins.all.0 ∙ and_left s.all.bytes c.value bits.bytes none.0,
  ap (λ x. bit_and x bits.context) joins.all.1 ∙ and_left s.all.context c.ctx_value bits.context none.1,
)

none_come : (s t : Shared) (c : Cube) (bits : Point) → Joins s c t → SetsNone c bits → HasNone t.all bits
none_come s t c bits joins none = (
  ap (λ x. bit_and x bits.bytes) joins.all.0 ∙ and_right s.all.bytes c.value bits.bytes none.0,
  ap (λ x. bit_and x bits.context) joins.all.1 ∙ and_right s.all.context c.ctx_value bits.context none.1,
)

pub shared_more : (entries : List Entry) (s t : Shared) (e : Entry) (n : ℕ) → n < length entries → e ≡ get_or entries n e → Joins s e.cube t
    → SharedFirst entries s n → SharedFirst entries t (n + 1)
shared_more entries s t e n below is joins first = record {
  fixed = λ bits range cover. has_more s t e.cube bits joins (first.fixed bits range cover) (cover e (n, below, sym is));
  some = λ bits none.
      let less = some_less s t e.cube bits joins none in
      below_more _ _ (first.some bits less.0) (at_read entries (λ (x : Entry). SetsNone x.cube bits) n e below is less.1);
  clear = λ bits none.
      let less = clear_less s t e.cube bits joins none in
      below_more _ _ (first.clear bits less.0) (at_read entries (λ (x : Entry). HasNone (cleared x.cube) bits) n e below is less.1);
  all = λ bits.
      below_more _ _ (λ k h d clear. none_kept s t e.cube bits joins (first.all bits k h d clear))
      (at_read entries (λ (x : Entry). SetsNone x.cube bits → HasNone t.all bits) n e below is (none_come s t e.cube bits joins));
}

-- ---- all entries

none_in_all : (entries : List Entry) (s : Shared) (bits : Point) (n : ℕ) → length entries ≤ n → SharedFirst entries s n → SomeClear entries bits → HasNone s.all bits
none_in_all entries s bits n whole first clear =
    let lt : clear.1.0 < n = omega (arith, clear.1.1) in
    (subst (λ (x : Entry). SetsNone x.cube bits → HasNone s.all bits) clear.1.2 (first.all bits clear.1.0 lt clear.0)) clear.2

none_cleared : (entries : List Entry) (s : Shared) (bits : Point) (n : ℕ) → length entries ≤ n → SharedFirst entries s n → HasNone s.clear bits → (e : Entry) → Contains entries e
    → HasNone (cleared e.cube) bits
none_cleared entries s bits n whole first none e there =
    subst (λ (x : Entry). HasNone (cleared x.cube) bits) there.2 (first.clear bits none there.0 (omega (arith, there.1)) e)

pub shared_whole : (entries : List Entry) (s : Shared) (n : ℕ) → length entries ≤ n → SharedFirst entries s n → IsShared entries s
shared_whole entries s n whole first = record {
  fixed = first.fixed;
  some = λ bits set none. none_set entries bits n whole (first.some bits none) set;
  clear = λ bits none e there. none_cleared entries s bits n whole first none e there;
  all = λ bits clear. none_in_all entries s bits n whole first clear;
}

-- ---- bits one by one

first_open : (w : Width) (n k : ℕ) → n < 2 ^ width_of w → k < trailing_zeros w n → bit_at n k ≡ 0
first_open w n k within below =
    elim (cases_lt 0 n) [
      | inl some ↦ (bit_at-trailing_zeros w n some within).2 k below
      | inr none ↦ let e : n ≡ 0 = omega arith in ap (λ x. bit_at x k) e ∙ bit_at-zero k
    ]

bit_in : (n k : ℕ) → bit_and n (2 ^ k) ≡ 2 ^ k → bit_at n k ≡ 1
bit_in n k has =
    let one : bit_at (2 ^ k) k ≡ 1 = bit_at-pow_same k in
    let both : min (bit_at n k) (bit_at (2 ^ k) k) ≡ bit_at (2 ^ k) k = sym (bit_at_and n (2 ^ k) k) ∙ ap (λ x. bit_at x k) has in
    let small : bit_at n k < 2 = bit_at-lt n k in
    omega (arith, one, both, small)

out_other : (n k i : ℕ) → i ≢ k → bit_at (bit_and n (2 ^ k)) i ≡ bit_at 0 i
out_other n k i other =
    let none : bit_at (2 ^ k) i ≡ 0 = bit_at-pow_other k i other in
    bit_at_and n (2 ^ k) i ∙ (let e : min (bit_at n i) (bit_at (2 ^ k) i) ≡ 0 = omega (arith, none) in e) ∙ sym (bit_at-zero i)

bit_out : (n k : ℕ) → bit_at n k ≡ 0 → bit_and n (2 ^ k) ≡ 0
bit_out n k out = same_from_bits _ _ (λ i.
    elim (cases_lt i k) [
      | inl less ↦ out_other n k i (omega arith)
      | inr from ↦ elim (cases_lt k i) [
        | inl more ↦ out_other n k i (omega arith)
        | inr up ↦
            let e : i ≡ k = omega arith in
            bit_at_and n (2 ^ k) i ∙ (let none : bit_at n i ≡ 0 = ap (bit_at n) e ∙ out in let m : min (bit_at n i) (bit_at (2 ^ k) i) ≡ 0 = omega (arith, none) in m) ∙ sym (bit_at-zero i)
      ]
    ])

open_not : (w : Width) (n k : ℕ) → n < 2 ^ width_of w → k < width_of w → bit_and n (2 ^ k) ≡ 0 → bit_at (bit_not w n) k ≡ 1
open_not w n k within below out =
    let one : bit_at (2 ^ k) k ≡ 1 = bit_at-pow_same k in
    let both : min (bit_at n k) (bit_at (2 ^ k) k) ≡ 0 = sym (bit_at_and n (2 ^ k) k) ∙ ap (λ x. bit_at x k) out ∙ bit_at-zero k in
    omega (arith, one, both, bit_at-lt n k, bit_at_not w n k within below)

-- Below the least bit that all cubes fix, some cube fixes to 1, and not all do, no cubes differ.
pub none_below : (w : Width) (f s a k : ℕ) → f < 2 ^ width_of w → a < 2 ^ width_of w → k < trailing_zeros w (bit_and (bit_and f s) (bit_not w a))
    → bit_and f (2 ^ k) ≡ 2 ^ k → (bit_and s (2 ^ k) ≡ 0 → ⊥) → bit_and a (2 ^ k) ≡ 0 → ⊥
none_below w f s a k within all_within below fixed some all =
    let less : bit_and (bit_and f s) (bit_not w a) ≤ f = omega (arith, and_le_l (bit_and f s) (bit_not w a), and_le_l f s) in
    let out : bit_at (bit_and (bit_and f s) (bit_not w a)) k ≡ 0 = first_open w (bit_and (bit_and f s) (bit_not w a)) k (omega (arith, less, within)) below in
    let both : min (min (bit_at f k) (bit_at s k)) (bit_at (bit_not w a) k) ≡ 0 =
    ap (λ x. min x (bit_at (bit_not w a) k)) (sym (bit_at_and f s k)) ∙ sym (bit_at_and (bit_and f s) (bit_not w a) k) ∙ out in
    let has : bit_at f k ≡ 1 = bit_in f k fixed in
    let clear : bit_at (bit_not w a) k ≡ 1 = open_not w a k all_within (omega (arith, below, trailing_le (width_of w) (bit_and (bit_and f s) (bit_not w a)))) all in
    some (bit_out s k (omega (arith, both, has, clear, bit_at-lt s k)))

-- Below the least bit that some cube fixes to 1 and some cube fixes to 0 there is no such bit.
pub same_below : (w : Width) (s c k : ℕ) → s < 2 ^ width_of w → k < trailing_zeros w (bit_and s c) → (bit_and s (2 ^ k) ≡ 0) ⊎ (bit_and c (2 ^ k) ≡ 0)
same_below w s c k within below =
    let out : bit_at (bit_and s c) k ≡ 0 = first_open w (bit_and s c) k (omega (arith, and_le_l s c, within)) below in
    let both : min (bit_at s k) (bit_at c k) ≡ 0 = sym (bit_at_and s c k) ∙ out in
    elim (cases_lt 0 (bit_at s k)) [
      | inl some ↦ inr (bit_out c k (omega (arith, both, some)))
      | inr none ↦ inl (bit_out s k (omega (arith, none)))
    ]

bit_fits : (k w : ℕ) → k < w → 2 ^ k < 2 ^ w
bit_fits k w below = pow-lt below

pub none_byte : (entries : List Entry) (s : Shared) (n k : ℕ) → n ≤ 128 → IsShared entries s → HasNoneBefore byte_bit s n → k < n → IsForced entries (byte_bit k) → ⊥
none_byte entries s n k most shared none below forced =
    none k below (record {
      fixed = shared.fixed (byte_bit k) (bit_fits k 128 (omega arith), omega arith) forced.all;
      some = shared.some (byte_bit k) forced.set;
      all = shared.all (byte_bit k) forced.clear;
    })

pub none_context : (entries : List Entry) (s : Shared) (n k : ℕ) → n ≤ 64 → IsShared entries s → HasNoneBefore context_bit s n → k < n → IsForced entries (context_bit k) → ⊥
none_context entries s n k most shared none below forced =
    none k below (record {
      fixed = shared.fixed (context_bit k) (omega arith, bit_fits k 64 (omega arith)) forced.all;
      some = shared.some (context_bit k) forced.set;
      all = shared.all (context_bit k) forced.clear;
    })
