-- There is one context at an address.
use Rattle.std.proofs.Common.{◌≡◌, ℕ, zero, suc, ◌<◌, ◌^◌, ◌+◌, ◌-◌, ◌*◌, ◌%◌, ◌==◌, ◌&&◌, Bool, true, false, cond, Some, None, List, [], ◌∷◌, nat_le, nat_lt, refl, sym, ap, ◌∙◌, arith, lit<, subst, ◌⊎◌, inl, inr}
use Rattle.std.proofs.lemmas.Bool.Decides.{nat_tests}
use Rattle.std.proofs.lemmas.Nat.Bits.{same_from_bits_below, bit_at-lt, bit_at_cat_high, bit_at_cat_low, bit_at_lowest}
use Rattle.std.proofs.Math.Nat.{pow-succ'}
use Rattle.std.specs.Int.{bit_at}
use Rattle.std.specs.Prelude.{Option}
use Rattle.sl_decode_contexts.specs.declared.commits.Commit.{Commit}
use Rattle.sl_decode_contexts.specs.Commits.{latest, or_else, counts, Greatest, given, not_given, ContextIsOne, SomeContext}
use Rattle.sl_decode_contexts.proofs.LatestLemmas.{latest_holds, latest_none, latest_some}
use Rattle.sl_decode_contexts.proofs.SeenLemmas.{below_or_not, eq_true, lt_false}

not_above : (b : Bool) (x y : ℕ) → b && (y == y) ≡ true → b && nat_lt x y ≡ false → x < y → ⊥
not_above true x y e f h = grind (arith, nat_tests)
not_above false x y e f h = absurd (cc)

same_address : (p : Commit → Bool) (cs : List Commit) (c d : Commit)
    → latest (λ x. p x && (x.address == d.address)) cs ≡ Some d
    → latest (λ x. p x && nat_lt c.address x.address) cs ≡ None → c.address < d.address → ⊥
same_address p cs c d e n h =
    not_above (p d) c.address d.address (latest_holds (λ x. p x && (x.address == d.address)) cs d e)
    (latest_some (λ x. p x && (x.address == d.address)) (λ x. p x && nat_lt c.address x.address) cs d e n) h

some_is : (o : Option Commit) (c d : Commit) → o ≡ Some c → o ≡ Some d → c ≡ d
some_is o c d e f = cc

holds_none : (b t : Bool) → b && t ≡ true → b ≡ false → ⊥
holds_none true t e f = absurd (cc)
holds_none false t e f = absurd (cc)

not_open : (p : Commit → Bool) (cs : List Commit) (c : Commit)
    → latest (λ x. p x && (x.address == c.address)) cs ≡ Some c → latest p cs ≡ None → ⊥
not_open p cs c e n =
    holds_none (p c) (c.address == c.address) (latest_holds (λ x. p x && (x.address == c.address)) cs c e)
    (latest_some (λ x. p x && (x.address == c.address)) p cs c e n)

one_bit : (p : Commit → Bool) (start : ℕ) (cs : List Commit) (i b d : ℕ) → Greatest p start cs i b → Greatest p start cs i d → b ≡ d
one_bit p start cs i b d (given x e n) (given y f m) =
    elim (below_or_not x.address y.address) [
      | inl h ↦ absurd (same_address p cs x y f n h)
      | inr h ↦ elim (below_or_not y.address x.address) [
        | inl g ↦ absurd (same_address p cs y x e m g)
        | inr g ↦ let at : x.address ≡ y.address = omega arith in
            ap (λ c. bit_at c.value i) (some_is (latest (λ c. p c && (c.address == y.address)) cs) x y (subst (λ a. latest (λ c. p c && (c.address == a)) cs ≡ Some x) at e) f)
      ]
    ]
one_bit p start cs i b d (given x e n) (not_given m) = absurd (not_open p cs x e m)
one_bit p start cs i b d (not_given n) (given y f m) = absurd (not_open p cs y f n)
one_bit p start cs i b d (not_given n) (not_given m) = refl

pub one_context : ContextIsOne
one_context start cs a b d low high p q =
    same_from_bits_below 64 b d low high (λ i h. one_bit (counts a i) start cs i (bit_at b i) (bit_at d i) (p i h) (q i h))

-- ---- there is one

-- ---- there is one

-- the commit that gives a bit, where there is one
record Gives (p : Commit → Bool) (cs : List Commit) (d : Commit) : Type 0 where
  pub latest_there : latest (λ c. p c && (c.address == d.address)) cs ≡ Some d
  pub none_above : latest (λ c. p c && nat_lt d.address c.address) cs ≡ None

both_true : (a b : Bool) → a ≡ true → b ≡ true → a && b ≡ true
both_true a b e f = rw (e, f) refl

not_first : (a b : Bool) → a ≡ false → a && b ≡ false
not_first a b e = rw e refl

not_second : (a b : Bool) → b ≡ false → a && b ≡ false
not_second true b e = e
not_second false b e = refl

parts_true : (a b : Bool) → a && b ≡ true → (a ≡ true) × (b ≡ true)
parts_true true b e = (refl, e)
parts_true false b e = absurd (cc)

lt_tells : (x y : ℕ) → nat_lt x y ≡ true → x < y
lt_tells x y h = grind (arith, nat_tests)

eq_tells : (x y : ℕ) → (x == y) ≡ true → x ≡ y
eq_tells x y h = grind (arith, nat_tests)

-- with one commit before the others
first_none : (p : Commit → Bool) (c : Commit) (cs : List Commit) → latest p cs ≡ None → p c ≡ false → latest p (c ∷ cs) ≡ None
first_none p c cs n h = ap (λ o. or_else o (cond (p c) (Some c) None)) n ∙ ap (λ b. cond b (Some c) None) h

first_some : (p : Commit → Bool) (c : Commit) (cs : List Commit) → latest p cs ≡ None → p c ≡ true → latest p (c ∷ cs) ≡ Some c
first_some p c cs n h = ap (λ o. or_else o (cond (p c) (Some c) None)) n ∙ ap (λ b. cond b (Some c) None) h

first_later : (p : Commit → Bool) (c d : Commit) (cs : List Commit) → latest p cs ≡ Some d → latest p (c ∷ cs) ≡ Some d
first_later p c d cs e = ap (λ o. or_else o (cond (p c) (Some c) None)) e

-- where a test holds of none, neither does one that holds of fewer
none_fewer : (p q : Commit → Bool) (cs : List Commit) → latest p cs ≡ None → ((c : Commit) → q c ≡ true → p c ≡ true) → latest q cs ≡ None
none_fewer p q cs n h = latest_none q cs (λ d e. opposite (p d) (h d (latest_holds q cs d e)) (latest_some q p cs d e n))
  where
    opposite : (b : Bool) → b ≡ true → b ≡ false → ⊥
    opposite b t f = cc

true_or_false : (b : Bool) → (b ≡ true) ⊎ (b ≡ false)
true_or_false true = inl refl
true_or_false false = inr refl

-- the first of the commits gives the bit, where none above it does among the others
gives_first : (p : Commit → Bool) (c : Commit) (cs : List Commit) → p c ≡ true → latest (λ x. p x && nat_le c.address x.address) cs ≡ None → Gives p (c ∷ cs) c
gives_first p c cs t n = record {
  latest_there = first_some (λ x. p x && (x.address == c.address)) c cs
      (none_fewer (λ x. p x && nat_le c.address x.address) (λ x. p x && (x.address == c.address)) cs n
      (λ x h. let e = parts_true (p x) (x.address == c.address) h in both_true (p x) (nat_le c.address x.address) e.0 (le_same c.address x.address e.1)))
      (both_true (p c) (c.address == c.address) t (eq_true c.address c.address refl));
  none_above = first_none (λ x. p x && nat_lt c.address x.address) c cs
      (none_fewer (λ x. p x && nat_le c.address x.address) (λ x. p x && nat_lt c.address x.address) cs n
      (λ x h. let e = parts_true (p x) (nat_lt c.address x.address) h in both_true (p x) (nat_le c.address x.address) e.0 (le_below c.address x.address e.1)))
      (not_second (p c) (nat_lt c.address c.address) (lt_false c.address c.address (omega arith)));
}
  where
    le_same : (x y : ℕ) → (y == x) ≡ true → nat_le x y ≡ true
    le_same x y h = grind (arith, nat_tests)

    le_below : (x y : ℕ) → nat_lt x y ≡ true → nat_le x y ≡ true
    le_below x y h = grind (arith, nat_tests)

gives_later : (p : Commit → Bool) (c d : Commit) (cs : List Commit) → p c && nat_lt d.address c.address ≡ false → Gives p cs d → Gives p (c ∷ cs) d
gives_later p c d cs h g = record {
  latest_there = first_later (λ x. p x && (x.address == d.address)) c d cs g.latest_there;
  none_above = first_none (λ x. p x && nat_lt d.address x.address) c cs g.none_above h;
}

above_none : (x y z : ℕ) → nat_lt x y ≡ true → nat_le y z ≡ true → nat_lt x z ≡ true
above_none x y z h g = grind (arith, nat_tests)

some_gives : (p : Commit → Bool) (cs : List Commit) → ((d : Commit) × Gives p cs d) ⊎ (latest p cs ≡ None)
some_gives p [] = inr refl
some_gives p (c ∷ cs) = elim (some_gives p cs) [
  | inl g ↦ elim (true_or_false (p c && nat_lt g.0.address c.address)) [
    | inl t ↦ let e = parts_true (p c) (nat_lt g.0.address c.address) t in
        inl (
          c,
          gives_first p c cs e.0 (none_fewer (λ x. p x && nat_lt g.0.address x.address) (λ x. p x && nat_le c.address x.address) cs g.1.none_above
              (λ x h. let k = parts_true (p x) (nat_le c.address x.address) h in both_true (p x) (nat_lt g.0.address x.address) k.0 (above_none g.0.address c.address x.address e.1 k.1))),
        )
    | inr f ↦ inl (g.0, gives_later p c g.0 cs f g.1)
  ]
  | inr n ↦ elim (true_or_false (p c)) [
    | inl t ↦ inl (c, gives_first p c cs t (none_fewer p (λ x. p x && nat_le c.address x.address) cs n (λ x h. (parts_true (p x) (nat_le c.address x.address) h).0)))
    | inr f ↦ inr (first_none p c cs n f)
  ]
]

some_bit : (p : Commit → Bool) (start : ℕ) (cs : List Commit) (i : ℕ) → (b : ℕ) × (b < 2) × Greatest p start cs i b
some_bit p start cs i = elim (some_gives p cs) [
  | inl g ↦ (bit_at g.0.value i, bit_at-lt g.0.value i, given g.0 g.1.latest_there g.1.none_above)
  | inr n ↦ (bit_at start i, bit_at-lt start i, not_given n)
]

fits : (b p n : ℕ) → b < 2 → n < p → b * p + n < 2 * p
fits zero p n h g = omega arith
fits (suc zero) p n h g = omega arith
fits (suc (suc b)) p n h g = absurd (omega arith)

-- a bit in front of others
front_bit : (b k n : ℕ) → b < 2 → n < 2 ^ k → bit_at (b * 2 ^ k + n) k ≡ b
front_bit b k n h g =
    let none : k - k ≡ 0 = omega arith in
    let small : b % 2 ≡ b = omega arith in
    bit_at_cat_high b k n k g (omega arith) ∙ ap (λ i. bit_at b i) none ∙ bit_at_lowest b ∙ small

-- a number whose bits are these
some_number : (k : ℕ) (P : ℕ → ℕ → Type 0) → ((i : ℕ) → (b : ℕ) × (b < 2) × P i b) → (n : ℕ) × (n < 2 ^ k) × ((i : ℕ) → i < k → P i (bit_at n i))
some_number zero P h = (0, lit< tt, λ i g. absurd (omega arith))
some_number (suc k) P h =
    let low = some_number k P h in
    let bit = h k in (
      bit.0 * 2 ^ k + low.0,
      subst (λ m. bit.0 * 2 ^ k + low.0 < m) (sym (pow-succ' 2 k)) (fits bit.0 (2 ^ k) low.0 bit.1 low.1),
      λ i g. elim (below_or_not i k) [
        | inl below ↦ subst (P i) (sym (bit_at_cat_low bit.0 k low.0 i below)) (low.2 i below)
        | inr not ↦
            let e : k ≡ i = omega arith in
            subst (λ j. P j (bit_at (bit.0 * 2 ^ k + low.0) j)) e (subst (P k) (sym (front_bit bit.0 k low.0 bit.1 low.1)) bit.2)
      ],
    )

pub some_context : SomeContext
some_context start cs a = some_number 64 (λ i b. Greatest (counts a i) start cs i b) (λ i. some_bit (counts a i) start cs i)
