-- How many entries each side of bits has, and when a split helps and fits.
use Rattle.std.proofs.Common.{◌≡◌, ◌↔◌, ◌⊎◌, inl, inr, ℕ, zero, suc, ◌+◌, ◌<◌, ◌≤◌, List, [], ◌∷◌, length, get_or, take, Bool, true, false, cond, not, ◌&&◌, IsPermutation, arith, sym, ◌∙◌, ap, refl, eq-eqb, eqb-true}
use Rattle.std.specs.Int.Bits.{and_zero_r}
use Rattle.std.specs.Prelude.{Contains, bit_and, count_by}
use Rattle.std.proofs.lemmas.Nat.{and_xor_apart}
use Rattle.std.proofs.lemmas.Bool.{and_from, and_left, and_parts, and_right, false_from_ne_true, false≢true, not-false, not_from_false, not_from_true}
use Rattle.std.proofs.lemmas.List.Sums.{count_by-le-length, sum_by-cons, sum_by_more}
use Rattle.std.proofs.lemmas.List.Sorted.{length_permutation, sum_by-IsPermutation}
use Rattle.sl_cube.specs.declared.Cube.{Cube}
use Rattle.sl_cube.specs.declared.Point.{Point}
use Rattle.sl_choose.specs.declared.Entry.{Entry}
use Rattle.sl_choose.specs.declared.shared.Shared.{Shared}
use Rattle.sl_choose.specs.Shared.{HasNone, IsShared, cleared}
use Rattle.sl_choose.specs.Sides.{Covers, HasNoForced, IsForced, SetsNone, byte_bit, context_bit, fixes, has_count, lacks_count, may_have, may_lack}
use Rattle.sl_choose.specs.Splits.{IsSplit, IsUnsplit}

-- ---- tests of a cube

pub lack_true : (bits : Point) (c : Cube) → SetsNone c bits → may_lack bits c ≡ true
lack_true bits c none = and_from _ _ (eq-eqb _ _ none.0) (eq-eqb _ _ none.1)

pub lack_none : (bits : Point) (c : Cube) → may_lack bits c ≡ true → SetsNone c bits
lack_none bits c e = (eqb-true _ _ (and_parts _ _ e).0, eqb-true _ _ (and_parts _ _ e).1)

pub lack_false : (bits : Point) (c : Cube) → (SetsNone c bits → ⊥) → may_lack bits c ≡ false
lack_false bits c set = false_from_ne_true _ (λ e. set (lack_none bits c e))

fixes_true : (bits : Point) (c : Cube) → Covers c bits → fixes bits c ≡ true
fixes_true bits c covers = and_from _ _ (eq-eqb _ _ covers.0) (eq-eqb _ _ covers.1)

fixes_false : (bits : Point) (c : Cube) → (Covers c bits → ⊥) → fixes bits c ≡ false
fixes_false bits c free = false_from_ne_true _ (λ e. free (eqb-true _ _ (and_parts _ _ e).0, eqb-true _ _ (and_parts _ _ e).1))

pub have_set : (bits : Point) (c : Cube) → (SetsNone c bits → ⊥) → may_have bits c ≡ true
have_set bits c set = not_from_false _ (and_left _ _ (lack_false bits c set))

pub have_free : (bits : Point) (c : Cube) → (Covers c bits → ⊥) → may_have bits c ≡ true
have_free bits c free = not_from_false _ (and_right _ _ (fixes_false bits c free))

pub have_clear : (bits : Point) (c : Cube) → SetsNone c bits → Covers c bits → may_have bits c ≡ false
have_clear bits c none covers = not_from_true _ (and_from _ _ (lack_true bits c none) (fixes_true bits c covers))

pub clear_from : (bits : Point) (c : Cube) → may_have bits c ≡ false → SetsNone c bits × Covers c bits
clear_from bits c out =
    let both = and_parts _ _ (not-false _ out) in
    let covers = and_parts _ _ both.1 in
    (lack_none bits c both.0, (eqb-true _ _ covers.0, eqb-true _ _ covers.1))

pub set_from : (bits : Point) (c : Cube) → may_lack bits c ≡ false → SetsNone c bits → ⊥
set_from bits c out none = false≢true (sym out ∙ lack_true bits c none)

and_true : (a b : Bool) → b ≡ true → (a && b) ≡ a
and_true true b e = e
and_true false b e = refl

have_other : (bits : Point) (c : Cube) → Covers c bits → may_have bits c ≡ not (may_lack bits c)
have_other bits c covers = ap not (and_true (may_lack bits c) (fixes bits c) (fixes_true bits c covers))

-- ---- how many pass a test

small : (b : Bool) → cond b 1 0 ≤ 1
small true = omega arith
small false = omega arith

weighs_one : (b : Bool) → b ≡ true → ◌≡◌ {A = ℕ} (cond b 1 0) 1
weighs_one b e = ap (λ x. cond {A = ℕ} x 1 0) e

weighs_none : (b : Bool) → b ≡ false → ◌≡◌ {A = ℕ} (cond b 1 0) 0
weighs_none b e = ap (λ x. cond {A = ℕ} x 1 0) e

pub kept_count : (n m : ℕ) (b : Bool) → m ≡ n → b ≡ false → m ≡ n + cond b 1 0
kept_count n m b same out =
    let none = weighs_none b out in
    omega (arith, same, none)

pub more_count : (n m : ℕ) (b : Bool) → m ≡ n + 1 → b ≡ true → m ≡ n + cond b 1 0
more_count n m b more passes =
    let one = weighs_one b passes in
    omega (arith, more, one)

module _ {X : Type 0} (p : X → Bool) where
  pub count_more : (xs : List X) (n : ℕ) (x : X) → n < length xs → x ≡ get_or xs n x → count_by p (take (n + 1) xs) ≡ count_by p (take n xs) + cond (p x) 1 0
  count_more xs n x below is = sum_by_more (λ y. cond (p y) 1 0) xs n x below ∙ ap (λ y. count_by p (take n xs) + cond (p y) 1 0) (sym is)

  less_at : (xs : List X) (x : X) (k : ℕ) → k < length xs → get_or xs k x ≡ x → p x ≡ false → count_by p xs < length xs
  less_at [] x k below is out = absurd (omega (arith, below))
  less_at (y ∷ ys) x zero below is out =
      let sum : count_by p (y ∷ ys) ≡ cond (p y) 1 0 + count_by p ys = sum_by-cons (λ z. cond (p z) 1 0) y ys in
      let none = weighs_none (p y) (ap p is ∙ out) in
      omega (arith, sum, none, count_by-le-length p ys)
  less_at (y ∷ ys) x (suc k) below is out =
      let sum : count_by p (y ∷ ys) ≡ cond (p y) 1 0 + count_by p ys = sum_by-cons (λ z. cond (p z) 1 0) y ys in
      let rest = less_at ys x k (omega (arith, below)) is out in
      omega (arith, sum, small (p y), rest)

  -- fewer pass than there are where one fails
  pub count_less : (xs : List X) (x : X) → Contains xs x → p x ≡ false → count_by p xs < length xs
  count_less xs x there out = less_at xs x there.0 there.1 there.2 out

  pub some_fails : (xs : List X) → count_by p xs < length xs → (x : X) × Contains xs x × (p x ≡ false)
  some_fails [] less = absurd (omega (arith, less))
  some_fails (y ∷ ys) less = by (p y) refl (some_fails ys)
    where
      by : (b : Bool) → p y ≡ b → (count_by p ys < length ys → (x : X) × Contains ys x × (p x ≡ false)) → (x : X) × Contains (y ∷ ys) x × (p x ≡ false)
      by false e more = (y, (zero, omega arith, refl), e)
      by true e more =
          let sum : count_by p (y ∷ ys) ≡ cond (p y) 1 0 + count_by p ys = sum_by-cons (λ z. cond (p z) 1 0) y ys in
          let one = weighs_one (p y) e in
          let rest = more (omega (arith, sum, one, less)) in
          (rest.0, (suc rest.1.0, omega (arith, rest.1.1), rest.1.2), rest.2)

one_of : (a b : Bool) → b ≡ not a → cond a 1 0 + cond b 1 0 ≡ 1
one_of true b e = let none = weighs_none b e in omega (arith, none)
one_of false b e = let one = weighs_one b e in omega (arith, one)

count_both : {X : Type 0} (p q : X → Bool) (xs : List X) → ((x : X) → Contains xs x → q x ≡ not (p x)) → count_by p xs + count_by q xs ≡ length xs
count_both p q [] other = refl
count_both p q (x ∷ xs) other =
    let first : count_by p (x ∷ xs) ≡ cond (p x) 1 0 + count_by p xs = sum_by-cons (λ z. cond (p z) 1 0) x xs in
    let second : count_by q (x ∷ xs) ≡ cond (q x) 1 0 + count_by q xs = sum_by-cons (λ z. cond (q z) 1 0) x xs in
    let here = one_of (p x) (q x) (other x (zero, omega arith, refl)) in
    let rest = count_both p q xs (λ y there. other y (suc there.0, omega (arith, there.1), there.2)) in
    omega (arith, first, second, here, rest)

-- ---- splits

-- with a bit that all fix and two differ in, both sides have fewer, and no entry is on both
pub forced_splits : (entries : List Entry) (bits : Point) (room : ℕ) → length entries ≤ room → IsForced entries bits → IsSplit entries bits room
forced_splits entries bits room fits f =
    let sum = count_both (λ (e : Entry). may_lack bits e.cube) (λ (e : Entry). may_have bits e.cube) entries (λ e there. have_other bits e.cube (f.all e there)) in
    record {
      low_fewer = count_less (λ (e : Entry). may_lack bits e.cube) entries f.set.0 f.set.1 (lack_false bits f.set.0.cube f.set.2);
      high_fewer = count_less (λ (e : Entry). may_have bits e.cube) entries f.clear.0 f.clear.1 (have_clear bits f.clear.0.cube f.clear.2 (f.all f.clear.0 f.clear.1));
      fit = omega (arith, sum, fits);
    }

-- where no bit splits the entries, there is none that all fix and two differ in
pub none_forced : (entries : List Entry) (room : ℕ) → length entries ≤ room → IsUnsplit entries room → HasNoForced entries
none_forced entries room fits none = record {
  bytes = λ k below f. none.bytes k below (forced_splits entries (byte_bit k) room fits f);
  context = λ k below f. none.context k below (forced_splits entries (context_bit k) room fits f);
}

-- bits that no cube fixes to 1 split no entries
pub none_set_splits : (entries : List Entry) (s : Shared) (bits : Point) (room : ℕ) → IsShared entries s → HasNone s.some bits → IsSplit entries bits room → ⊥
none_set_splits entries s bits room shared none split =
    let set = some_fails (λ (e : Entry). may_lack bits e.cube) entries split.low_fewer in
    shared.some bits (set.0, set.1, set_from bits set.0.cube set.2) none

-- bits of which a cube fixes all to 0 and none to 0 are none
nothing_cleared : (c : Cube) (bits : Point) → SetsNone c bits → Covers c bits → HasNone (cleared c) bits → (bits.bytes ≡ 0) × (bits.context ≡ 0)
nothing_cleared c bits none covers clear = (
  sym covers.0 ∙ sym (and_xor_apart bits.bytes c.mask c.value none.0) ∙ clear.0,
  sym covers.1 ∙ sym (and_xor_apart bits.context c.ctx_mask c.ctx_value none.1) ∙ clear.1,
)

-- bits that no cube fixes to 0 split no entries
pub none_clear_splits : (entries : List Entry) (s : Shared) (bits : Point) (room : ℕ) → IsShared entries s → HasNone s.clear bits → IsSplit entries bits room → ⊥
none_clear_splits entries s bits room shared none split =
    let clear = some_fails (λ (e : Entry). may_have bits e.cube) entries split.high_fewer in
    let set = some_fails (λ (e : Entry). may_lack bits e.cube) entries split.low_fewer in
    let both = clear_from bits clear.0.cube clear.2 in
    let no_bits = nothing_cleared clear.0.cube bits both.0 both.1 (shared.clear bits none clear.0 clear.1) in
    set_from bits set.0.cube set.2 (
      ap (bit_and set.0.cube.value) no_bits.0 ∙ and_zero_r set.0.cube.value,
      ap (bit_and set.0.cube.ctx_value) no_bits.1 ∙ and_zero_r set.0.cube.ctx_value,
    )

split_moved : (entries out : List Entry) (bits : Point) (room : ℕ) → IsPermutation entries out → IsSplit out bits room → IsSplit entries bits room
split_moved entries out bits room moved split =
    let low : lacks_count bits out ≡ lacks_count bits entries = sum_by-IsPermutation (λ (e : Entry). cond (may_lack bits e.cube) 1 0) entries out moved in
    let high : has_count bits out ≡ has_count bits entries = sum_by-IsPermutation (λ (e : Entry). cond (may_have bits e.cube) 1 0) entries out moved in
    let same = length_permutation entries out moved in
    record {
      low_fewer = omega (arith, low, same, split.low_fewer);
      high_fewer = omega (arith, high, same, split.high_fewer);
      fit = omega (arith, low, high, split.fit);
    }

-- entries in another order are split no more
pub unsplit_moved : (entries out : List Entry) (room : ℕ) → IsPermutation entries out → IsUnsplit entries room → IsUnsplit out room
unsplit_moved entries out room moved none = record {
  bytes = λ k below split. none.bytes k below (split_moved entries out (byte_bit k) room moved split);
  context = λ k below split. none.context k below (split_moved entries out (context_bit k) room moved split);
}

-- ---- the code's tests

pub lack_is : (bits : Point) (c : Cube) (b : Bool) → (b ≡ true) ↔ SetsNone c bits → b ≡ may_lack bits c
lack_is bits c true is = sym (lack_true bits c (is.0 refl))
lack_is bits c false is = sym (lack_false bits c (λ none. false≢true (is.1 none)))

-- ---- splits by what cubes have in common

pub same_splits : (entries : List Entry) (s : Shared) (bits : Point) (room : ℕ) → IsShared entries s → HasNone s.some bits ⊎ HasNone s.clear bits → IsSplit entries bits room → ⊥
same_splits entries s bits room shared (inl none) = none_set_splits entries s bits room shared none
same_splits entries s bits room shared (inr none) = none_clear_splits entries s bits room shared none
