-- A point of a region behind which one of the tails isn't covered, and the least one.
use Rattle.std.proofs.Common.{◌≡◌, ◌↔◌, ℕ, ◌≤◌, List, length, Option, Some, None, true, false, arith, refl, inl, inr, subst}
use Rattle.std.specs.Option.{is_some}
use Rattle.sl_cube.specs.declared.Cube.{Cube}
use Rattle.sl_cube.specs.declared.Point.{Point}
use Rattle.sl_cube.specs.Points.{InRange, IsIn, IsInSome, NotAfter}
use Rattle.sl_cube.specs.Cubes.{IsFound}
use Rattle.sl_cube.specs.Search.{IsHalved, IsSingle, IsSplit}
use Rattle.sl_cube_sets.proofs.FirstLemmas.{InFirst, least_same}
use Rattle.sl_cube_sets.specs.Sets.{IsLeastOf}
use Rattle.sl_cube_tails.specs.Covers.{AreConstant, CoversAll, IsLeastFound, IsLeastIn, IsSomeFound, KeepsCovers}
use Rattle.sl_cube_tails.specs.Tails.{IsCovered, IsUncovered, IsUncoveredIn}
use Rattle.sl_cube_tails.specs.declared.covers.Cover.{Cover}

-- ---- a region

pub none_left : (region tails : Cube) (covers : List Cover) → CoversAll region tails covers → IsSomeFound region tails covers None
none_left region tails covers all = λ p range inside u. u.3 (all p range inside u.0 u.1 u.2)

-- where each head has all points or none, by the tails that are covered behind one of them
pub judged : (region tails : Cube) (covers : List Cover) (behind : List Cube) (p : Point) → AreConstant region covers → InRange p → IsIn p region
    → ((q : Point) → IsInSome behind q ↔ IsCovered covers p q) → (found : Option Point) → IsFound tails behind found
    → (is_some found ≡ false → IsSomeFound region tails covers None) × (is_some found ≡ true → IsSomeFound region tails covers (Some p))
judged region tails covers behind p constant range inside same None all = (
  λ e other range_o there u. u.3 (constant p other u.0 inside there ((same u.0).0 (all u.0 u.1 u.2))),
  λ e. absurd (cc),
)
judged region tails covers behind p constant range inside same (Some q) h = (
  λ e. absurd (cc),
  λ e. (range, inside, (q, h.0.0, h.0.1, λ c. h.0.2 ((same q).1 c))),
)

-- ---- parts of a region

uncovered_in : (part tails : Cube) (covers kept : List Cover) (p : Point) → KeepsCovers part covers kept → InRange p → IsIn p part
    → IsUncovered tails covers p → IsUncovered tails kept p
uncovered_in part tails covers kept p k range inside u = (u.0, u.1, u.2, λ h. u.3 ((k p range inside u.0).0 h))

uncovered_out : (part tails : Cube) (covers kept : List Cover) (p : Point) → KeepsCovers part covers kept → InRange p → IsIn p part
    → IsUncovered tails kept p → IsUncovered tails covers p
uncovered_out part tails covers kept p k range inside u = (u.0, u.1, u.2, λ h. u.3 ((k p range inside u.0).1 h))

pub found_out : (region part tails : Cube) (covers kept : List Cover) (p : Point) → ((x : Point) → IsIn x part → IsIn x region) → KeepsCovers part covers kept
    → IsSomeFound part tails kept (Some p) → IsSomeFound region tails covers (Some p)
found_out region part tails covers kept p within k h = (h.0, within p h.1, uncovered_out part tails covers kept p k h.0 h.1 h.2)

pub found_in : (region part tails : Cube) (covers kept : List Cover) (p : Point) → KeepsCovers part covers kept → IsIn p part
    → IsSomeFound region tails covers (Some p) → IsSomeFound part tails kept (Some p)
found_in region part tails covers kept p k inside h = (h.0, inside, uncovered_in part tails covers kept p k h.0 inside h.2)

pub found_first : (region low high tails : Cube) (covers in_low : List Cover) (found : Option Point) → IsHalved region low high → KeepsCovers low covers in_low
    → IsSomeFound low tails in_low found → (found ≡ None → ⊥) → IsSomeFound region tails covers found
found_first region low high tails covers in_low None s k h some = absurd (some refl)
found_first region low high tails covers in_low (Some p) s k h some = found_out region low tails covers in_low p s.low_within k h

pub found_second : (region low high tails : Cube) (covers in_low in_high : List Cover) (found : Option Point) → IsHalved region low high → KeepsCovers low covers in_low
    → KeepsCovers high covers in_high → IsSomeFound low tails in_low None → IsSomeFound high tails in_high found → IsSomeFound region tails covers found
found_second region low high tails covers in_low in_high None s k l none h = λ p range inside u. elim (s.whole p inside) [
  | inl there ↦ none p range there (uncovered_in low tails covers in_low p k range there u)
  | inr there ↦ h p range there (uncovered_in high tails covers in_high p l range there u)
]
found_second region low high tails covers in_low in_high (Some p) s k l none h = found_out region high tails covers in_high p s.high_within l h

pub is_none_found : (found : Option Point) → false ≡ is_some found → found ≡ None
is_none_found None e = refl
is_none_found (Some p) e = absurd (cc)

pub not_none : (found : Option Point) → is_some found ≡ true → found ≡ None → ⊥
not_none None e f = cc
not_none (Some p) e f = cc

-- ---- the least one

same_order : (p : Point) → NotAfter p p
same_order p = inr (refl, omega arith)

pub least_single : (region tails : Cube) (covers : List Cover) (p : Point) → IsSingle region → IsSomeFound region tails covers (Some p) → IsLeastIn region tails covers p
least_single region tails covers p one h = record {
  here = h;
  least = λ q range inside u. subst (λ (x : Point). NotAfter p x) (one p q h.0 range h.1 inside) (same_order p);
}

pub least_low : (region low high tails : Cube) (covers in_low : List Cover) (p : Point) → IsSplit region low high → KeepsCovers low covers in_low
    → IsLeastIn low tails in_low p → IsLeastIn region tails covers p
least_low region low high tails covers in_low p s k h = record {
  here = found_out region low tails covers in_low p s.low_within k h.here;
  least = λ q range inside u. elim (s.whole q inside) [
    | inl there ↦ h.least q range there (uncovered_in low tails covers in_low q k range there u)
    | inr there ↦ s.ordered p q h.here.0 range h.here.1 there
  ];
}

pub least_high : (region low high tails : Cube) (covers in_low in_high : List Cover) (p : Point) → IsSplit region low high → KeepsCovers low covers in_low
    → KeepsCovers high covers in_high → IsSomeFound low tails in_low None → IsLeastIn high tails in_high p → IsLeastIn region tails covers p
least_high region low high tails covers in_low in_high p s k l none h = record {
  here = found_out region high tails covers in_high p s.high_within l h.here;
  least = λ q range inside u. elim (s.whole q inside) [
    | inl there ↦ absurd (none q range there (uncovered_in low tails covers in_low q k range there u))
    | inr there ↦ h.least q range there (uncovered_in high tails covers in_high q l range there u)
  ];
}

pub found_in_high : (region low high tails : Cube) (covers in_high : List Cover) (p : Point) → IsSplit region low high → KeepsCovers high covers in_high
    → (IsIn p low → ⊥) → IsSomeFound region tails covers (Some p) → IsSomeFound high tails in_high (Some p)
found_in_high region low high tails covers in_high p s k out h = elim (s.whole p h.1) [
  | inl there ↦ absurd (out there)
  | inr there ↦ found_in region high tails covers in_high p k there h
]

-- ---- all covers

pub none_within : (region tails : Cube) (covers kept : List Cover) → KeepsCovers region covers kept → IsSomeFound region tails kept None
    → IsLeastFound region tails covers None
none_within region tails covers kept k none = λ p range inside u. none p range inside (uncovered_in region tails covers kept p k range inside u)

pub least_within : (region tails : Cube) (covers kept : List Cover) (p : Point) → KeepsCovers region covers kept → IsLeastIn region tails kept p
    → IsLeastFound region tails covers (Some p)
least_within region tails covers kept p k h = record {
  here = found_out region region tails covers kept p (λ x inside. inside) k h.here;
  least = λ q range inside u. h.least q range inside (uncovered_in region tails covers kept q k range inside u);
}

-- ---- all cubes

-- The point is in the cube, and one of the tails isn't covered behind it.
abbrev pub HasUncovered : Cube → List Cover → Cube → Point → Type 0
HasUncovered tails covers cube p = IsIn p cube × IsUncovered tails covers p

pub least_of_cube : (cube tails : Cube) (covers : List Cover) (found : Option Point) → IsLeastFound cube tails covers found → IsLeastOf (HasUncovered tails covers cube) found
least_of_cube cube tails covers None none = λ q range h. none q range h.0 h.1
least_of_cube cube tails covers (Some p) h = record {
  in_range = h.here.0;
  here = (h.here.1, h.here.2);
  least = λ q range u. h.least q range u.0 u.1;
}

pub all_cubes : (cubes : List Cube) (tails : Cube) (covers : List Cover) (n : ℕ) (best : Option Point) → length cubes ≤ n
    → IsLeastOf (InFirst (HasUncovered tails covers) cubes n) best → IsLeastOf (IsUncoveredIn cubes tails covers) best
all_cubes cubes tails covers n best all h = least_same (InFirst (HasUncovered tails covers) cubes n) (IsUncoveredIn cubes tails covers)
    (λ q f. ((f.0, f.1, f.3, f.4, f.5.0), f.5.1)) (λ q s. (s.0.0, s.0.1, omega (arith, all, s.0.2), s.0.2, s.0.3, (s.0.4, s.1))) best h
