-- Bits that a region leaves open, those that some cubes fix, and the halves of the region at one of them.
use Rattle.std.proofs.Common.{◌≡◌, ℕ, ◌+◌, ◌-◌, ◌<◌, ◌≤◌, ◌^◌, ◌⊎◌, min, bit_and, List, length, get_or, below_more, Option, Some, None, arith, sym, ◌∙◌, ap, refl, inl, inr, subst}
use Rattle.std.specs.Int.{bit_at, Width, w64, w128, bit_not}
use mir.Val.{bits}
use Rattle.std.specs.List.{HoldsAt}
use Rattle.std.proofs.lemmas.Nat.Bits.{bit_at_and, bit_at_not, bit_at-lt, bit_at-zero, bit_at_above}
use Rattle.std.proofs.lemmas.Bool.{cases_eq, cases_lt}
use Rattle.std.proofs.lemmas.List.Elements.{at_read}
use Rattle.sl_cube.specs.declared.Cube.{Cube}
use Rattle.sl_cube.specs.declared.Point.{Point}
use Rattle.sl_cube.specs.Search.{IsNoBit, IsHighest, IsPart, IsNarrower, Lacks, Has, IsHalved, FixesNoMore}
use Rattle.sl_cube.specs.Tallies.{IsOpen, IsOpenBits, IsOpenIfSome, IsWeighed, AreWeighed, IsAmong}
use Rattle.sl_cube.proofs.BitLemmas.{clash}
use Rattle.sl_cube.proofs.HalfLemmas.{open_bit, grown}
use Rattle.sl_cube.proofs.OutsideLemmas.{sides, grows_to}

-- ---- bits that are open

off_or_on : (b : ℕ) → b < 2 → (b ≡ 1 → ⊥) → b ≡ 0
off_or_on b l h = grind arith

both_and : (a b j : ℕ) → a ≡ 1 → b ≡ 1 → j ≡ min a b → j ≡ 1
both_and a b j e f g = omega arith

lacks : (a b : ℕ) → a ≡ 0 → b ≡ 1 - a → b ≡ 1
lacks a b e f = omega arith

-- where a mask has no bit that another lacks, the other has each of its bits
fixed_there : (w : Width) → (n m i : ℕ) → m < 2 ^ bits w → n < 2 ^ bits w → bit_and n (bit_not w m) ≡ 0 → bit_at n i ≡ 1 → bit_at m i ≡ 1
fixed_there w n m i mk nk none on = elim (cases_eq (bit_at m i) 1) [
  | inl e ↦ e
  | inr ne ↦ elim (cases_lt i (bits w)) [
    | inl below ↦
        let off : bit_at m i ≡ 0 = off_or_on (bit_at m i) (bit_at-lt m i) ne in
        let open_one : bit_at (bit_not w m) i ≡ 1 = lacks (bit_at m i) (bit_at (bit_not w m) i) off (bit_at_not w m i mk below) in
        absurd (clash (bit_at (bit_and n (bit_not w m)) i) (ap (λ x. bit_at x i) none ∙ bit_at-zero i) (both_and (bit_at n i) (bit_at (bit_not w m) i) _ on open_one (bit_at_and n (bit_not w m) i)))
    | inr above ↦ absurd (clash (bit_at n i) (bit_at_above n (bits w) i nk above) on)
  ]
]

pub open_bits : (region cube : Cube) → region.mask < 2 ^ 128 → region.ctx_mask < 2 ^ 64
    → IsOpen region (record { bytes = bit_and cube.mask (bit_not w128 region.mask); context = bit_and cube.ctx_mask (bit_not w64 region.ctx_mask) })
open_bits region cube fits ctx_fits = record {
  bytes = λ i on. open_bit w128 cube.mask region.mask i fits on;
  context = λ i on. open_bit w64 cube.ctx_mask region.ctx_mask i ctx_fits on;
}

pub fixes_no_more : (region cube : Cube) → region.mask < 2 ^ 128 → region.ctx_mask < 2 ^ 64 → cube.mask < 2 ^ 128 → cube.ctx_mask < 2 ^ 64
    → bit_and cube.mask (bit_not w128 region.mask) ≡ 0 → bit_and cube.ctx_mask (bit_not w64 region.ctx_mask) ≡ 0 → FixesNoMore region cube
fixes_no_more region cube fits ctx_fits cf ccf none ctx_none = record {
  same = λ p q in_p in_q has. (
    λ i on. let there = fixed_there w128 cube.mask region.mask i fits cf none on in in_q.0 i there ∙ sym (in_p.0 i there) ∙ has.0 i on,
    λ i on. let there = fixed_there w64 cube.ctx_mask region.ctx_mask i ctx_fits ccf ctx_none on in in_q.1 i there ∙ sym (in_p.1 i there) ∙ has.1 i on,
  );
}

-- ---- some of the bits

pub among_self : (bits : Point) → IsAmong bits bits
among_self bits = record { bytes = λ i on. on; context = λ i on. on; not_none = λ none. none }

pub among_trans : (bits some fewer : Point) → IsAmong bits some → IsAmong some fewer → IsAmong bits fewer
among_trans bits some fewer f g = record {
  bytes = λ i on. f.bytes i (g.bytes i on);
  context = λ i on. f.context i (g.context i on);
  not_none = λ none. f.not_none (g.not_none none);
}

left_on : (a b j : ℕ) → a < 2 → j ≡ min a b → j ≡ 1 → a ≡ 1
left_on a b j less is on = omega arith

and_left : (a b i : ℕ) → bit_at (bit_and a b) i ≡ 1 → bit_at a i ≡ 1
and_left a b i on = left_on (bit_at a i) (bit_at b i) (bit_at (bit_and a b) i) (bit_at-lt a i) (bit_at_and a b i) on

pub among_shared : (bits others : Point) → (IsNoBit (record { bytes = bit_and bits.bytes others.bytes; context = bit_and bits.context others.context }) → ⊥)
    → IsAmong bits (record { bytes = bit_and bits.bytes others.bytes; context = bit_and bits.context others.context })
among_shared bits others some = record {
  bytes = λ i on. and_left bits.bytes others.bytes i on;
  context = λ i on. and_left bits.context others.context i on;
  not_none = λ none. absurd (some none);
}

pub open_among : (region : Cube) (bits some : Point) → IsOpenBits region bits → IsAmong bits some → IsOpenBits region some
open_among region bits some h a = record {
  all_open = record { bytes = λ i on. h.all_open.bytes i (a.bytes i on); context = λ i on. h.all_open.context i (a.context i on) };
  some = λ none. h.some (a.not_none none);
}

-- ---- the cubes of a list

abbrev pub WeighedFirst : Cube → List Cube → Option Point → ℕ → Option Point → Type 0
WeighedFirst region cubes old n None = (old ≡ None) × ((k : ℕ) → k < n → HoldsAt (FixesNoMore region) cubes k)
WeighedFirst region cubes old n (Some bits) = (old ≡ Some bits) ⊎ IsOpenBits region bits

pub weighed_begun : (region : Cube) (cubes : List Cube) (old : Option Point) → WeighedFirst region cubes old 0 old
weighed_begun region cubes None = (refl, λ k below. absurd (omega arith))
weighed_begun region cubes (Some bits) = inl refl

pub weighed_more : (region : Cube) (cubes : List Cube) (old : Option Point) (n : ℕ) (cube : Cube) (now next : Option Point) → n < length cubes → cube ≡ get_or cubes n cube
    → IsWeighed region cube now next → WeighedFirst region cubes old n now → WeighedFirst region cubes old (n + 1) next
weighed_more region cubes old n cube now None below is w f =
    let before = subst (λ (o : Option Point). WeighedFirst region cubes old n o) w.0 f in
    (before.0, below_more (λ k. HoldsAt (FixesNoMore region) cubes k) n before.1 (at_read cubes (FixesNoMore region) n cube below is w.1))
weighed_more region cubes old n cube now (Some bits) below is w f = elim w [
  | inl kept ↦ subst (λ (o : Option Point). WeighedFirst region cubes old n o) kept f
  | inr new ↦ inr new
]

pub weighed_all : (region : Cube) (cubes : List Cube) (old : Option Point) (n : ℕ) (now : Option Point) → length cubes ≤ n → WeighedFirst region cubes old n now
    → AreWeighed region cubes old now
weighed_all region cubes old n None all f = (f.0, λ k d lt. f.1 k (omega arith) d)
weighed_all region cubes old n (Some bits) all f = f

pub open_from_none : (region : Cube) (cubes : List Cube) (now : Option Point) → AreWeighed region cubes None now → IsOpenIfSome region now
open_from_none region cubes None w = tt
open_from_none region cubes (Some bits) w = elim w [ inl never ↦ absurd (cc) | inr open_there ↦ open_there ]

-- ---- halves

half_narrower : (cube : Cube) (bits bit : Point) (Side : Point → Type 0) (part : Cube) → IsOpen cube bits → IsHighest bits bit → IsPart cube bit Side part → IsNarrower cube part
half_narrower cube bits bit Side part opens h r = (
  (grows_to cube.mask part.mask bit.bytes r.mask, grows_to cube.ctx_mask part.ctx_mask bit.context r.ctx_mask),
  elim h [
    | inl t ↦ inl (subst (λ (x : ℕ). cube.mask < x) (sym r.mask) (grown cube.mask bits.bytes bit.bytes opens.bytes t.0))
    | inr t ↦ inr (subst (λ (x : ℕ). cube.ctx_mask < x) (sym r.ctx_mask) (grown cube.ctx_mask bits.context bit.context opens.context t.2))
  ],
)

pub halves_from : (cube : Cube) (bits bit : Point) (low high : Cube) → IsOpen cube bits → IsHighest bits bit → IsPart cube bit (Lacks bit) low → IsPart cube bit (Has bit) high
    → IsHalved cube low high
halves_from cube bits bit low high opens h l r = record {
  low_within = λ p inside. ((l.points p).0 inside).0;
  high_within = λ p inside. ((r.points p).0 inside).0;
  whole = λ p inside. elim (sides bits bit p h) [
    | inl lacking ↦ inl ((l.points p).1 (inside, lacking))
    | inr having ↦ inr ((r.points p).1 (inside, having))
  ];
  low_narrower = half_narrower cube bits bit (Lacks bit) low opens h l;
  high_narrower = half_narrower cube bits bit (Has bit) high opens h r;
}
