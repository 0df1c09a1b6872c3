-- Sets of points, from sets of numbers: what holds of the bytes and of the context holds of the points.
use Rattle.std.proofs.Common.{◌≡◌, ℕ, ◌<◌, ◌≤◌, ◌^◌, ◌⊎◌, bit_and, bit_or, refl, inl, inr}
use Rattle.std.specs.Int.{bit_at}
use Rattle.std.proofs.Math.Nat.{eq-or-lt_of_le}
use Rattle.std.proofs.lemmas.Bool.{cases_eq}
use Rattle.std.proofs.lemmas.Nat.{or_lt}
use Rattle.sl_cube.specs.Bits.{Agrees}
use Rattle.sl_cube.specs.TopBits.{IncludesBelow}
use Rattle.sl_cube.specs.Points.{InRange, IsIn, NotAfter}
use Rattle.sl_cube.specs.Cubes.{Includes, DoMeet, AllHave, HasShared, IsHull}
use Rattle.sl_cube.specs.declared.Cube.{Cube}
use Rattle.sl_cube.specs.declared.Point.{Point}
use Rattle.sl_cube.proofs.BitLemmas.{agrees_joined, agrees_from_and, and_from_agrees, hull_mask, hull_has, hull_agrees}

pub not_after : (p q : Point) → p.bytes ≤ q.bytes → p.context ≤ q.context → NotAfter p q
not_after p q h k = elim (eq-or-lt_of_le h) [ inl e ↦ inr (e, k) | inr lt ↦ inl lt ]

-- The cubes' values as the numbers that they are: below 2 ^ 128 and 2 ^ 64.
pub record ValuesFit (c : Cube) : Type 0 where
  pub value : c.value < 2 ^ 128
  pub ctx_value : c.ctx_value < 2 ^ 64

-- ---- membership by the masks

pub in_from_masks : (p : Point) (c : Cube) → bit_and p.bytes c.mask ≡ c.value → bit_and p.context c.ctx_mask ≡ c.ctx_value → IsIn p c
in_from_masks p c bytes context = (agrees_from_and c.mask c.value p.bytes bytes, agrees_from_and c.ctx_mask c.ctx_value p.context context)

pub masks_from_in : (p : Point) (c : Cube) → IsIn p c → (bit_and p.bytes c.mask ≡ c.value) × (bit_and p.context c.ctx_mask ≡ c.ctx_value)
masks_from_in p c inside = (
  and_from_agrees c.mask c.value p.bytes c.within inside.0,
  and_from_agrees c.ctx_mask c.ctx_value p.context c.ctx_within inside.1,
)

-- ---- inclusion

abbrev pub BytesIncluded : Cube → Cube → Type 0
BytesIncluded outer inner = IncludesBelow 128 outer.mask outer.value inner.mask inner.value

abbrev pub ContextIncluded : Cube → Cube → Type 0
ContextIncluded outer inner = IncludesBelow 64 outer.ctx_mask outer.ctx_value inner.ctx_mask inner.ctx_value

pub includes_from_parts : (outer inner : Cube) → BytesIncluded outer inner → ContextIncluded outer inner → Includes outer inner
includes_from_parts outer inner bytes context = λ p range inside.
    (bytes p.bytes range.0 inside.0, context p.context range.1 inside.1)

pub bytes_from_includes : (outer inner : Cube) → inner.ctx_value < 2 ^ 64 → Includes outer inner → BytesIncluded outer inner
bytes_from_includes outer inner fits h = λ x xk agrees.
    let p : Point = record { bytes = x; context = inner.ctx_value } in
    (h p (xk, fits) (agrees, λ i on. refl)).0

pub context_from_includes : (outer inner : Cube) → inner.value < 2 ^ 128 → Includes outer inner → ContextIncluded outer inner
context_from_includes outer inner fits h = λ x xk agrees.
    let p : Point = record { bytes = inner.value; context = x } in
    (h p (fits, xk) (λ i on. refl, agrees)).1

-- ---- the hull

bytes_alone : (a b c : Cube) (i bit : ℕ) → ValuesFit c → ((p : Point) → IsIn p c → IsIn p a ⊎ IsIn p b)
    → AllHave (λ p. p.bytes) a b i bit → (x : ℕ) → x < 2 ^ 128 → Agrees c.mask c.value x → bit_at x i ≡ bit
bytes_alone a b c i bit fits side all = λ x xk agrees.
    let p : Point = record { bytes = x; context = c.ctx_value } in
    all p (xk, fits.ctx_value) (side p (agrees, λ j on. refl))

context_alone : (a b c : Cube) (i bit : ℕ) → ValuesFit c → ((p : Point) → IsIn p c → IsIn p a ⊎ IsIn p b)
    → AllHave (λ p. p.context) a b i bit → (x : ℕ) → x < 2 ^ 64 → Agrees c.ctx_mask c.ctx_value x → bit_at x i ≡ bit
context_alone a b c i bit fits side all = λ x xk agrees.
    let p : Point = record { bytes = c.value; context = x } in
    all p (fits.value, xk) (side p (λ j on. refl, agrees))

pub hull_shares : (a b : Cube) (q : Point) → ValuesFit a → ValuesFit b → InRange q
    → Agrees (hull_mask a.mask a.value b.mask b.value) (bit_and a.value b.value) q.bytes
    → Agrees (hull_mask a.ctx_mask a.ctx_value b.ctx_mask b.ctx_value) (bit_and a.ctx_value b.ctx_value) q.context
    → HasShared (λ p. p.bytes) a b q × HasShared (λ p. p.context) a b q
hull_shares a b q fa fb range agrees ctx_agrees = (
  λ i bit all. hull_has 128 a.mask a.value b.mask b.value q.bytes i bit fa.value fb.value range.0 a.within b.within agrees
      (bytes_alone a b a i bit fa (λ p. inl) all) (bytes_alone a b b i bit fb (λ p. inr) all),
  λ i bit all. hull_has 64 a.ctx_mask a.ctx_value b.ctx_mask b.ctx_value q.context i bit fa.ctx_value fb.ctx_value range.1 a.ctx_within b.ctx_within ctx_agrees
      (context_alone a b a i bit fa (λ p. inl) all) (context_alone a b b i bit fb (λ p. inr) all),
)

pub hull_from_shared : (a b : Cube) (q : Point) → HasShared (λ p. p.bytes) a b q → HasShared (λ p. p.context) a b q
    → Agrees (hull_mask a.mask a.value b.mask b.value) (bit_and a.value b.value) q.bytes
    × Agrees (hull_mask a.ctx_mask a.ctx_value b.ctx_mask b.ctx_value) (bit_and a.ctx_value b.ctx_value) q.context
hull_from_shared a b q bytes context = (
  hull_agrees 128 a.mask a.value b.mask b.value q.bytes a.within b.within (λ i bit all. bytes i bit (λ p range either. elim either [
    | inl inside ↦ all p.bytes range.0 (inl inside.0)
    | inr inside ↦ all p.bytes range.0 (inr inside.0)
  ])),
  hull_agrees 64 a.ctx_mask a.ctx_value b.ctx_mask b.ctx_value q.context a.ctx_within b.ctx_within (λ i bit all. context i bit (λ p range either. elim either [
    | inl inside ↦ all p.context range.1 (inl inside.1)
    | inr inside ↦ all p.context range.1 (inr inside.1)
  ])),
)

-- the hull has the points of both cubes
pub hull_includes : (a b h : Cube) → IsHull a b h → Includes h a × Includes h b
hull_includes a b h hull = (
  λ q range inside. (hull q range).1 (λ i bit all. all q range (inl inside), λ i bit all. all q range (inl inside)),
  λ q range inside. (hull q range).1 (λ i bit all. all q range (inr inside), λ i bit all. all q range (inr inside)),
)

-- and is within each cube that has them
pub hull_least : (a b h c : Cube) → IsHull a b h → Includes c a → Includes c b → Includes c h
hull_least a b h c hull in_a in_b = λ q range inside.
    let shared = (hull q range).0 inside in
    let has : (p : Point) → InRange p → IsIn p a ⊎ IsIn p b → IsIn p c = λ p p_range either. elim either [
      | inl inside_a ↦ in_a p p_range inside_a
      | inr inside_b ↦ in_b p p_range inside_b
    ] in (
      λ i on. shared.0 i (bit_at c.value i) (λ p p_range either. (has p p_range either).0 i on),
      λ i on. shared.1 i (bit_at c.ctx_value i) (λ p p_range either. (has p p_range either).1 i on),
    )

-- where the bits that both fix are the same, the point with the bits of both values is in both
pub meet_from_masks : (a b : Cube) → a.value < 2 ^ 128 → b.value < 2 ^ 128 → a.ctx_value < 2 ^ 64 → b.ctx_value < 2 ^ 64
    → bit_and a.value (bit_and a.mask b.mask) ≡ bit_and b.value (bit_and a.mask b.mask)
    → bit_and a.ctx_value (bit_and a.ctx_mask b.ctx_mask) ≡ bit_and b.ctx_value (bit_and a.ctx_mask b.ctx_mask) → DoMeet a b
meet_from_masks a b fits_a fits_b ctx_fits_a ctx_fits_b bytes context =
    let p : Point = record { bytes = bit_or a.value b.value; context = bit_or a.ctx_value b.ctx_value } in
    let of_bytes = (agrees_joined a.mask a.value b.mask b.value p.bytes a.within b.within bytes).0 (λ i on. refl) in
    let of_context = (agrees_joined a.ctx_mask a.ctx_value b.ctx_mask b.ctx_value p.context a.ctx_within b.ctx_within context).0 (λ i on. refl) in (
      p,
      (or_lt 128 a.value b.value fits_a fits_b, or_lt 64 a.ctx_value b.ctx_value ctx_fits_a ctx_fits_b),
      (of_bytes.0, of_context.0),
      (of_bytes.1, of_context.1),
    )

-- a cube has a point or lacks it
pub in_or_out : (p : Point) (c : Cube) → IsIn p c ⊎ (IsIn p c → ⊥)
in_or_out p c = elim (cases_eq (bit_and p.bytes c.mask) c.value) [
  | inr ne ↦ inr (λ inside. ne (masks_from_in p c inside).0)
  | inl e ↦ elim (cases_eq (bit_and p.context c.ctx_mask) c.ctx_value) [
    | inr ne ↦ inr (λ inside. ne (masks_from_in p c inside).1)
    | inl f ↦ inl (in_from_masks p c e f)
  ]
]
