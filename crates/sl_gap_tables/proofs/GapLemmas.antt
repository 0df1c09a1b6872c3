-- The least point that each table leaves unmatched.
use Rattle.std.proofs.Common.{◌≡◌, ◌↔◌, ℕ, zero, suc, ◌+◌, ◌<◌, ◌≤◌, ◌⊎◌, inl, inr, List, [], ◌∷◌, ◌++◌, length, get_or, Option, Some, None, refl, sym, ap, subst, ◌∙◌, arith}
use Rattle.std.specs.Prelude.{All, slice_get}
use Rattle.std.specs.Int.{bit_at}
use Rattle.std.proofs.Math.ListN.{get_or-append}
use Rattle.std.proofs.lemmas.Bool.{cases_lt}
use Rattle.std.proofs.lemmas.List.{length-append}
use Rattle.std.proofs.lemmas.Nat.Bits.{bit_at-zero}
use Rattle.std.proofs.lemmas.Option.{get_or_from_slice_get, same_Some, slice_get-get_or, slice_get_read, slice_get_within}
use Rattle.sl_ast.specs.Trees.{Constructor}
use Rattle.sl_ast.specs.Unfolding.{Placed}
use Rattle.sl_conflict.specs.Kept.{IsPaired}
use Rattle.sl_conflict.specs.TableTests.{AreSetsOf}
use Rattle.sl_conflict.specs.declared.table_sets.TableSets.{TableSets}
use Rattle.sl_cube.proofs.BitLemmas.{clash}
use Rattle.sl_cube.specs.Cubes.{IsFound}
use Rattle.sl_cube.specs.Points.{IsIn, IsInSome}
use Rattle.sl_cube.specs.declared.Cube.{Cube}
use Rattle.sl_cube.specs.declared.Point.{Point}
use Rattle.sl_cube_sets.specs.Sets.{HasAt, IsUnmatched}
use Rattle.sl_cube_sets.specs.Unions.{has_set}
use Rattle.sl_cube_sets.specs.declared.CubeSet.{CubeSet}
use Rattle.sl_gap_tables.proofs.SetLemmas.{least_same, some_at, unmatched_down, unmatched_up}
use Rattle.sl_gap_tables.specs.Gaps.{IsGap, TellGaps}
use Rattle.sl_gap_tables.specs.Tables.{AreUnmatched, HasSome, TellsUnmatched}
use Rattle.sl_spec.specs.declared.tables.Tables.{Tables}

-- ---- all cubes of a table

-- The cubes are those of the first n sets.
pub record CubesFirst (sets : List CubeSet) (cubes : List Cube) (n : ℕ) : Type 0 where
  pub among : (p : Point) → IsInSome cubes p → (i : ℕ) × HasAt has_set sets p i
  pub first : (p : Point) (i : ℕ) → i < n → HasAt has_set sets p i → IsInSome cubes p

pub cubes_none : (sets : List CubeSet) → CubesFirst sets [] 0
cubes_none sets = record { among = λ p h. absurd (omega (arith, h.2)); first = λ p i below. absurd (omega arith) }

-- what is in two lists joined
in_left : (xs ys : List Cube) (p : Point) → IsInSome xs p → IsInSome (xs ++ ys) p
in_left xs ys p h = (
  h.0,
  h.1,
  omega (arith, h.2, length-append xs ys),
  get_or-append xs ys h.1 h.0 h.2 ∙ h.3,
  h.4,
)

in_right : (xs ys : List Cube) (p : Point) → IsInSome ys p → IsInSome (xs ++ ys) p
in_right [] ys p h = h
in_right (x ∷ xs) ys p h = let r = in_right xs ys p h in (suc r.0, r.1, omega (arith, r.2), r.3, r.4)

in_either : (xs ys : List Cube) (p : Point) (i : ℕ) (c : Cube) → i < length (xs ++ ys) → get_or (xs ++ ys) i c ≡ c → IsIn p c → IsInSome xs p ⊎ IsInSome ys p
in_either [] ys p i c below is inside = inr (i, c, below, is, inside)
in_either (x ∷ xs) ys p zero c below is inside = inl (zero, c, omega arith, is, inside)
in_either (x ∷ xs) ys p (suc i) c below is inside = elim (in_either xs ys p i c (omega (arith, below)) is inside) [
  | inl l ↦ inl (suc l.0, l.1, omega (arith, l.2), l.3, l.4)
  | inr r ↦ inr r
]

same_cubes : (sets : List CubeSet) (n i : ℕ) (s : CubeSet) (p : Point) → slice_get sets n ≡ Some s → n ≡ i → HasAt has_set sets p i → IsInSome s.cubes.items p
same_cubes sets n i s p at same has =
    subst (λ (x : CubeSet). has_set x p) (same_Some has.0 s (sym has.1 ∙ ap (λ (j : ℕ). slice_get sets j) (sym same) ∙ at)) has.2

pub cubes_more : (sets : List CubeSet) (cubes new : List Cube) (n : ℕ) (s : CubeSet) → n < length sets → s ≡ get_or sets n s → new ≡ cubes ++ s.cubes.items
    → CubesFirst sets cubes n → CubesFirst sets new (n + 1)
cubes_more sets cubes new n s below is e f =
    let at : slice_get sets n ≡ Some s = slice_get_read sets (length sets) n s refl below is in
    subst (λ (l : List Cube). CubesFirst sets l (n + 1)) (sym e) (record {
      among = λ p h. elim (in_either cubes s.cubes.items p h.0 h.1 h.2 h.3 h.4) [
        | inl old ↦ f.among p old
        | inr fresh ↦ (n, (s, at, fresh))
      ];
      first = λ p i lt has. elim (cases_lt i n) [
        | inl before ↦ in_left cubes s.cubes.items p (f.first p i before has)
        | inr after ↦ in_right cubes s.cubes.items p (same_cubes sets n i s p at (omega (arith, lt, after)) has)
      ];
    })

pub cubes_all : (kept : TableSets) (cubes : List Cube) (n : ℕ) → length kept.sets.items ≤ n → CubesFirst kept.sets.items cubes n
    → (p : Point) → IsInSome cubes p ↔ HasSome kept p
cubes_all kept cubes n all f = λ p. (
  f.among p,
  λ h. let lt : h.0 < length kept.sets.items = slice_get_within kept.sets.items h.0 h.1.0 h.1.1 in f.first p h.0 (omega arith) h.1,
)

-- ---- one table

in_whole : (c : Cube) (p : Point) → c.mask ≡ 0 → c.ctx_mask ≡ 0 → IsIn p c
in_whole c p m cm = (
  λ i on. absurd (clash (bit_at c.mask i) (ap (λ x. bit_at x i) m ∙ bit_at-zero i) on),
  λ i on. absurd (clash (bit_at c.ctx_mask i) (ap (λ x. bit_at x i) cm ∙ bit_at-zero i) on),
)

pub unmatched_found : (kept : TableSets) (whole : Cube) (cubes : List Cube) → whole.mask ≡ 0 → whole.ctx_mask ≡ 0
    → ((p : Point) → IsInSome cubes p ↔ HasSome kept p) → (found : Option Point) → IsFound whole cubes found → TellsUnmatched kept found
unmatched_found kept whole cubes m cm same None h = λ q range u.
    let some = (same q).0 (h q range (in_whole whole q m cm)) in
    u some.0 some.1
unmatched_found kept whole cubes m cm same (Some p) h = record {
  in_range = h.0.0;
  here = λ i has. h.0.2 ((same p).1 (i, has));
  least = λ q range u. h.1 q (range, in_whole whole q m cm, λ inside. let some = (same q).0 inside in u some.0 some.1);
}

-- ---- all tables

pub none_told : (kept : List TableSets) → AreUnmatched kept [] 0
none_told kept = record { counted = refl; each = λ table k one e f. absurd (cc) }

last : {A : Type 0} (xs : List A) (n : ℕ) (x : A) → length xs ≡ n → slice_get (xs ++ x ∷ []) n ≡ Some x
last [] zero x h = refl
last [] (suc n) x h = absurd (omega (arith, h))
last (y ∷ ys) zero x h = absurd (omega (arith, h))
last (y ∷ ys) (suc n) x h = last ys n x (omega (arith, h))

pub one_told : (kept : List TableSets) (told new : List (Option Point)) (n : ℕ) (k : TableSets) (found : Option Point) → n < length kept → k ≡ get_or kept n k
    → TellsUnmatched k found → new ≡ told ++ found ∷ [] → AreUnmatched kept told n → AreUnmatched kept new (n + 1)
one_told kept told new n k found below is tells e first =
    let at : slice_get kept n ≡ Some k = slice_get_read kept (length kept) n k refl below is in record {
      counted = ap length e ∙ length-append told (found ∷ []) ∙ ap (λ m. m + 1) first.counted;
      each = λ table l one l_is one_is. elim (cases_lt table n) [
        | inl before ↦
            let within : table < length told = omega (arith, before, first.counted) in
            let long : table < length (told ++ found ∷ []) = omega (arith, within, length-append told (found ∷ [])) in
            let old : slice_get new table ≡ slice_get told table =
            ap (λ l. slice_get l table) e ∙ slice_get-get_or (told ++ found ∷ []) table found long
            ∙ ap Some (get_or-append told (found ∷ []) found table within) ∙ sym (slice_get-get_or told table found within) in
            first.each table l one l_is (sym old ∙ one_is)
        | inr past ↦
            let within = slice_get_within new table one one_is in
            let this : table ≡ n = omega (arith, within, past, first.counted, ap length e ∙ length-append told (found ∷ [])) in
            let same : found ≡ one = same_Some found one (sym (last told n found first.counted) ∙ ap (λ l. slice_get l n) (sym e) ∙ ap (slice_get new) (sym this) ∙ one_is) in
            let same_k : k ≡ l = same_Some k l (sym at ∙ ap (slice_get kept) (sym this) ∙ l_is) in
            subst (λ (x : Option Point). TellsUnmatched l x) same (subst (λ (x : TableSets). TellsUnmatched x found) same_k tells)
      ];
    }

pub all_told : (kept : List TableSets) (told : List (Option Point)) (n : ℕ) → length kept ≤ n → n ≤ length kept → All IsPaired kept → AreUnmatched kept told n
    → (t : Tables) (cs : List (Placed Constructor)) → AreSetsOf t cs kept → TellGaps t cs told
all_told kept told n past within paired first t cs are = record {
  counted = first.counted ∙ omega (arith, past, within, are.counted);
  each = λ table one e.
      let lt = slice_get_within told table one e in
      let k = some_at kept table (omega (arith, lt, first.counted, within)) in
      let same : IsPaired k.0 = subst IsPaired (get_or_from_slice_get kept table k.0 k.0 k.1) (paired table k.0 (slice_get_within kept table k.0 k.1)) in
      least_same (IsUnmatched has_set k.0.sets.items) (IsGap t cs table)
      (λ q range u. unmatched_up t cs kept are table k.0 k.1 same q range u) (λ q range u. unmatched_down t cs kept are table k.0 k.1 same q range u)
      one (first.each table k.0 one k.1 e);
}
