-- Bits of masks that are put together, and operators that go bit by bit.
use Rattle.std.proofs.Common.{◌≡◌, ℕ, ◌+◌, ◌-◌, ◌%◌, ◌^◌, ◌<◌, min, max, bit_and, bit_or, bit_xor, arith, sym, ◌∙◌, inl, inr}
use Rattle.std.specs.Int.{bit_at, w64}
use Rattle.std.proofs.lemmas.Bool.{cases_lt}
use Rattle.std.proofs.lemmas.Nat.Bits.{bit_at_above, bit_at_and, bit_at_not, bit_at_or, bit_at_xor, bit_at-lt}
use Rattle.sl_cube.specs.Bits.{Agrees}
use Rattle.sl_cube.proofs.BitLemmas.{within_bit}

-- ---- a bit of what is put together

pub at_and : (x y i a b : ℕ) → bit_at x i ≡ a → bit_at y i ≡ b → bit_at (bit_and x y) i ≡ min a b
at_and x y i a b p q = bit_at_and x y i ∙ (λ j. min (p j) (q j))

pub at_or : (x y i a b : ℕ) → bit_at x i ≡ a → bit_at y i ≡ b → bit_at (bit_or x y) i ≡ max a b
at_or x y i a b p q = bit_at_or x y i ∙ (λ j. max (p j) (q j))

pub at_xor : (x y i a b : ℕ) → bit_at x i ≡ a → bit_at y i ≡ b → bit_at (bit_xor x y) i ≡ (a + b) % 2
at_xor x y i a b p q = bit_at_xor x y i ∙ (λ j. (p j + q j) % 2)

-- the bits of a mask where two values are the same
pub same_at : (s v w i : ℕ) → bit_at (bit_xor s (bit_and s (bit_xor v w))) i
    ≡ (bit_at s i + min (bit_at s i) ((bit_at v i + bit_at w i) % 2)) % 2
same_at s v w i =
    at_xor s (bit_and s (bit_xor v w)) i (bit_at s i) (min (bit_at s i) ((bit_at v i + bit_at w i) % 2)) (λ j. bit_at s i)
    (at_and s (bit_xor v w) i (bit_at s i) ((bit_at v i + bit_at w i) % 2) (λ j. bit_at s i) (bit_at_xor v w i))

none_one : (b : ℕ) → b ≡ 0 → b ≡ 1 → ⊥
none_one b off on = omega (arith, off, on)

-- a bit that is 1 is one of the 64
pub one_of_64 : (n i : ℕ) → n < 2 ^ 64 → bit_at n i ≡ 1 → i < 64
one_of_64 n i fits on = elim (cases_lt i 64) [
  | inl lt ↦ lt
  | inr past ↦ absurd (none_one (bit_at n i) (bit_at_above n 64 i fits past) on)
]

-- ---- one bit of each

and_bit : (m n am av bm bv : ℕ) → m < 2 → n < 2 → am < 2 → bm < 2 → av < 2 → bv < 2 → av ≡ min av am → bv ≡ min bv bm → (am ≡ 1 → m ≡ av) → (bm ≡ 1 → n ≡ bv)
    → max (min am bm) (max ((am + av) % 2) ((bm + bv) % 2)) ≡ 1 → min m n ≡ min av bv
and_bit m n am av bm bv a b c d e f g h p q on = grind arith

or_bit : (m n am av bm bv : ℕ) → m < 2 → n < 2 → am < 2 → bm < 2 → av < 2 → bv < 2 → av ≡ min av am → bv ≡ min bv bm → (am ≡ 1 → m ≡ av) → (bm ≡ 1 → n ≡ bv)
    → max (min am bm) (max av bv) ≡ 1 → max m n ≡ max av bv
or_bit m n am av bm bv a b c d e f g h p q on = grind arith

xor_bit : (m n am av bm bv : ℕ) → am < 2 → bm < 2 → (am ≡ 1 → m ≡ av) → (bm ≡ 1 → n ≡ bv) → min am bm ≡ 1 → (m + n) % 2 ≡ (av + bv) % 2
xor_bit m n am av bm bv a b p q on = grind arith

module _ (am av bm bv m n : ℕ) (aw : bit_and av am ≡ av) (bw : bit_and bv bm ≡ bv) (f : Agrees am av m) (g : Agrees bm bv n) where
  pub and_has : Agrees (bit_or (bit_and am bm) (bit_or (bit_xor am av) (bit_xor bm bv))) (bit_and av bv) (bit_and m n)
  and_has = λ i on.
      let zeros = at_or (bit_xor am av) (bit_xor bm bv) i ((bit_at am i + bit_at av i) % 2) ((bit_at bm i + bit_at bv i) % 2) (bit_at_xor am av i) (bit_at_xor bm bv i) in
      let mask = at_or (bit_and am bm) (bit_or (bit_xor am av) (bit_xor bm bv)) i (min (bit_at am i) (bit_at bm i))
      (max ((bit_at am i + bit_at av i) % 2) ((bit_at bm i + bit_at bv i) % 2)) (bit_at_and am bm i) zeros in
      bit_at_and m n i
      ∙ and_bit (bit_at m i) (bit_at n i) (bit_at am i) (bit_at av i) (bit_at bm i) (bit_at bv i) (bit_at-lt m i) (bit_at-lt n i) (bit_at-lt am i)
      (bit_at-lt bm i) (bit_at-lt av i) (bit_at-lt bv i) (within_bit am av i aw) (within_bit bm bv i bw) (f i) (g i) (sym mask ∙ on)
      ∙ sym (bit_at_and av bv i)

  pub or_has : Agrees (bit_or (bit_and am bm) (bit_or av bv)) (bit_or av bv) (bit_or m n)
  or_has = λ i on.
      let mask = at_or (bit_and am bm) (bit_or av bv) i (min (bit_at am i) (bit_at bm i)) (max (bit_at av i) (bit_at bv i)) (bit_at_and am bm i) (bit_at_or av bv i) in
      bit_at_or m n i
      ∙ or_bit (bit_at m i) (bit_at n i) (bit_at am i) (bit_at av i) (bit_at bm i) (bit_at bv i) (bit_at-lt m i) (bit_at-lt n i) (bit_at-lt am i)
      (bit_at-lt bm i) (bit_at-lt av i) (bit_at-lt bv i) (within_bit am av i aw) (within_bit bm bv i bw) (f i) (g i) (sym mask ∙ on)
      ∙ sym (bit_at_or av bv i)

  pub xor_has : Agrees (bit_and am bm) (bit_xor av bv) (bit_xor m n)
  xor_has = λ i on.
      bit_at_xor m n i
      ∙ xor_bit (bit_at m i) (bit_at n i) (bit_at am i) (bit_at av i) (bit_at bm i) (bit_at bv i) (bit_at-lt am i) (bit_at-lt bm i) (f i) (g i) (sym (bit_at_and am bm i) ∙ on)
      ∙ sym (bit_at_xor av bv i)

pub not_has : (am av m : ℕ) → am < 2 ^ 64 → av < 2 ^ 64 → m < 2 ^ 64 → Agrees am av m → Agrees am (2 ^ 64 - 1 - av) (2 ^ 64 - 1 - m)
not_has am av m mf vf nf f = λ i on.
    let lt = one_of_64 am i mf on in
    bit_at_not w64 m i nf lt ∙ (λ j. 1 - f i on j) ∙ sym (bit_at_not w64 av i vf lt)
