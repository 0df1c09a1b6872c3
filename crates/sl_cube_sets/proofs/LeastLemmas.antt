-- The least point that is not settled, by halves in order.
use Rattle.std.proofs.Common.{◌≡◌, ℕ, ◌+◌, ◌<◌, ◌≤◌, List, length, get_or, [], Some, None, arith, sym, ◌∙◌, ap, refl, inl, inr, subst}
use Rattle.std.specs.Prelude.{slice_get}
use Rattle.std.specs.Int.{bit_at}
use Rattle.std.proofs.lemmas.Nat.Bits.{bit_at-zero}
use Rattle.std.proofs.lemmas.Bool.{cases_lt}
use Rattle.std.proofs.lemmas.Option.{slice_get_read, slice_get_within}
use Rattle.sl_cube.specs.declared.Cube.{Cube}
use Rattle.sl_cube.specs.declared.Point.{Point}
use Rattle.sl_cube.specs.Points.{InRange, IsIn, NotAfter}
use Rattle.sl_cube.specs.Search.{IsSplit, IsSingle}
use Rattle.sl_cube.proofs.BitLemmas.{clash}
use Rattle.sl_cube_sets.specs.declared.CubeSet.{CubeSet}
use Rattle.sl_cube_sets.specs.declared.candidate.Candidate.{Candidate}
use Rattle.sl_cube_sets.specs.Unions.{IsBelow, has_set}
use Rattle.sl_cube_sets.specs.Settled.{IsSettled, IsUnsettled, Matches, IsLeastLacking}
use Rattle.sl_cube_sets.specs.Left.{IsThere, KeepsAll, Adds, IsAnswer, IsLeastIn, AreAllOf}
use Rattle.sl_cube_sets.proofs.LeftLemmas.{carries_kept, settled_same, unsettled_same, nothing_there}

same_order : (p : Point) → NotAfter p p
same_order p = inr (refl, omega arith)

pub least_single : (sets : List CubeSet) (region : Cube) (left : List Candidate) (p : Point) → IsSingle region → IsAnswer sets region left (Some p) → IsLeastIn sets region left p
least_single sets region left p one h = record {
  here = h;
  least = λ q range inside u. subst (λ (x : Point). NotAfter p x) (one p q h.0 range h.1 inside) (same_order p);
}

pub answer_in_low : (sets : List CubeSet) (region low : Cube) (left in_low : List Candidate) (p : Point) → KeepsAll low left in_low → IsIn p low
    → IsAnswer sets region left (Some p) → IsAnswer sets low in_low (Some p)
answer_in_low sets region low left in_low p k inside h =
    (h.0, inside, unsettled_same (IsBelow sets) (IsThere in_low p) (IsThere left p) (λ i. ((k p h.0 inside i).1, (k p h.0 inside i).0)) h.2)

still : (sets : List CubeSet) (low : Cube) (left in_low : List Candidate) (q : Point) → KeepsAll low left in_low → InRange q → IsIn q low
    → IsUnsettled (IsBelow sets) (IsThere left q) → IsUnsettled (IsBelow sets) (IsThere in_low q)
still sets low left in_low q k range inside u = unsettled_same (IsBelow sets) (IsThere in_low q) (IsThere left q) (λ i. ((k q range inside i).1, (k q range inside i).0)) u

pub answer_out : (sets : List CubeSet) (region part : Cube) (left kept : List Candidate) (p : Point) → ((x : Point) → IsIn x part → IsIn x region) → KeepsAll part left kept
    → IsAnswer sets part kept (Some p) → IsAnswer sets region left (Some p)
answer_out sets region part left kept p within k h = (h.0, within p h.1, (carries_kept sets part left kept k).unsettled p h.0 h.1 h.2)

pub least_low : (sets : List CubeSet) (region : Cube) (left : List Candidate) (low high : Cube) (in_low : List Candidate) (p : Point) → IsSplit region low high
    → KeepsAll low left in_low → IsLeastIn sets low in_low p → IsLeastIn sets region left p
least_low sets region left low high in_low p s k h = record {
  here = answer_out sets region low left in_low p s.low_within k h.here;
  least = λ q range inside u. elim (s.whole q inside) [
    | inl there ↦ h.least q range there (still sets low left in_low q k range there u)
    | inr there ↦ s.ordered p q h.here.0 range h.here.1 there
  ];
}

settled_not : (sets : List CubeSet) (left : List Candidate) (q : Point) → IsSettled (IsBelow sets) (IsThere left q) → IsUnsettled (IsBelow sets) (IsThere left q) → ⊥
settled_not sets left q s u = let best = s u.one u.one_there in u.none_best best.0 best.1

pub least_high : (sets : List CubeSet) (region : Cube) (left : List Candidate) (low high : Cube) (in_low in_high : List Candidate) (p : Point) → IsSplit region low high
    → KeepsAll low left in_low → KeepsAll high left in_high → IsAnswer sets low in_low None → IsLeastIn sets high in_high p → IsLeastIn sets region left p
least_high sets region left low high in_low in_high p s k l none h = record {
  here = answer_out sets region high left in_high p s.high_within l h.here;
  least = λ q range inside u. elim (s.whole q inside) [
    | inl there ↦ absurd (settled_not sets in_low q (none q range there) (still sets low left in_low q k range there u))
    | inr there ↦ h.least q range there (still sets high left in_high q l range there u)
  ];
}

pub answer_in_high : (sets : List CubeSet) (region low high : Cube) (left in_high : List Candidate) (p : Point) → IsSplit region low high → KeepsAll high left in_high
    → (IsIn p low → ⊥) → IsAnswer sets region left (Some p) → IsAnswer sets high in_high (Some p)
answer_in_high sets region low high left in_high p s k out h = elim (s.whole p h.1) [
  | inl there ↦ absurd (out there)
  | inr there ↦ answer_in_low sets region high left in_high p k there h
]

-- ---- all sets of a table

pub record AllFirst (sets : List CubeSet) (left : List Candidate) (n : ℕ) : Type 0 where
  pub among : (p : Point) (i : ℕ) → IsThere left p i → Matches sets p i
  pub first : (p : Point) (i : ℕ) → i < n → Matches sets p i → IsThere left p i

pub all_none : (sets : List CubeSet) → AllFirst sets [] 0
all_none sets = record { among = λ p i h. absurd (nothing_there p i h); first = λ p i below. absurd (omega arith) }

same_some : (a b : CubeSet) → Some a ≡ Some b → a ≡ b
same_some a b e = cc

pub all_more : (sets : List CubeSet) (left new : List Candidate) (n : ℕ) (s : CubeSet) → n < length sets → s ≡ get_or sets n s → Adds left n s.cubes.items new
    → AllFirst sets left n → AllFirst sets new (n + 1)
all_more sets left new n s below is adds f =
    let at : slice_get sets n ≡ Some s = slice_get_read sets (length sets) n s refl below is in
    record {
      among = λ p i h. elim ((adds p i).0 h) [
        | inl old ↦ f.among p i old
        | inr fresh ↦ subst (λ (x : ℕ). Matches sets p x) fresh.0 (s, at, fresh.1)
      ];
      first = λ p i lt m. elim (cases_lt i n) [
        | inl before ↦ (adds p i).1 (inl (f.first p i before m))
        | inr after ↦
            let same : n ≡ i = omega arith in
            let here : m.0 ≡ s = same_some m.0 s (sym m.1 ∙ ap (λ (k : ℕ). slice_get sets k) (sym same) ∙ at) in
            (adds p i).1 (inr (same, subst (λ (x : CubeSet). has_set x p) here m.2))
      ];
    }

pub all_all : (sets : List CubeSet) (left : List Candidate) (n : ℕ) → length sets ≤ n → AllFirst sets left n → AreAllOf sets left
all_all sets left n all f = λ p i. (f.among p i, λ m. let lt : i < length sets = slice_get_within sets i m.0 m.1 in f.first p i (omega arith) m)

in_whole : (c : Cube) (p : Point) → c.mask ≡ 0 → c.ctx_mask ≡ 0 → IsIn p c
in_whole c p m cm = (
  λ i on. absurd (clash (bit_at c.mask i) (ap (λ x. bit_at x i) m ∙ bit_at-zero i) on),
  λ i on. absurd (clash (bit_at c.ctx_mask i) (ap (λ x. bit_at x i) cm ∙ bit_at-zero i) on),
)

-- the cube of all points
abbrev pub whole_cube : Cube
whole_cube = record { mask = 0; value = 0; ctx_mask = 0; ctx_value = 0; within = refl; ctx_within = refl }

pub first_none : (sets : List CubeSet) (whole : Cube) (left : List Candidate) → whole.mask ≡ 0 → whole.ctx_mask ≡ 0 → AreAllOf sets left → IsAnswer sets whole left None
    → IsLeastLacking sets None
first_none sets whole left m cm same h = λ p range. settled_same (IsBelow sets) (Matches sets p) (IsThere left p) (same p) (h p range (in_whole whole p m cm))

pub first_some : (sets : List CubeSet) (whole : Cube) (left : List Candidate) (p : Point) → whole.mask ≡ 0 → whole.ctx_mask ≡ 0 → AreAllOf sets left → IsLeastIn sets whole left p
    → IsLeastLacking sets (Some p)
first_some sets whole left p m cm same h = (
  h.here.0,
  unsettled_same (IsBelow sets) (Matches sets p) (IsThere left p) (same p) h.here.2,
  λ q range u. h.least q range (in_whole whole q m cm) (unsettled_same (IsBelow sets) (IsThere left q) (Matches sets q) (λ i. ((same q i).1, (same q i).0)) u),
)
