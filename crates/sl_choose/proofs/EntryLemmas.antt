-- Entries for the cubes of given sets, one set after the other.
use Rattle.std.proofs.Common.{◌≡◌, ◌↔◌, suc, zero, get_or, ℕ, ◌+◌, ◌<◌, ◌≤◌, ◌⊎◌, List, [], ◌∷◌, ◌++◌, length, take, Some, arith, sym, ◌∙◌, ap, refl, inl, inr, subst, length-append}
use Rattle.std.specs.Prelude.{Contains, slice_get}
use Rattle.std.proofs.lemmas.Bool.{cases_lt}
use Rattle.std.proofs.lemmas.List.{get_or_default}
use Rattle.std.proofs.lemmas.List.Elements.{Contains-append_left, Contains-push, Contains-push_cases}
use Rattle.std.proofs.lemmas.Option.{slice_get_read, slice_get_within}
use Rattle.sl_cube.specs.declared.Cube.{Cube}
use Rattle.sl_cube_sets.specs.declared.CubeSet.{CubeSet}
use Rattle.sl_choose.specs.declared.Entry.{Entry}
use Rattle.sl_choose.specs.Added.{AddsAll}
use Rattle.sl_choose.specs.Choosers.{IsGiven, AreEntriesOf, cubes_in}

-- ---- the cubes of one set

abbrev IsNew : ℕ → ℕ → List Cube → ℕ → Entry → Type 0
IsNew ctor set cubes n e = (e.ctor ≡ ctor) × (e.set ≡ set) × ((k : ℕ) × (k < n) × (k < length cubes) × (get_or cubes k e.cube ≡ e.cube))

pub record AddsFirst (ctor set : ℕ) (cubes : List Cube) (old new : List Entry) (n : ℕ) : Type 0 where
  pub are : (e : Entry) → Contains new e ↔ (Contains old e ⊎ IsNew ctor set cubes n e)
  pub count : length new ≡ length old + n

pub adds_none : (ctor set : ℕ) (cubes : List Cube) (old : List Entry) → AddsFirst ctor set cubes old old 0
adds_none ctor set cubes old = record {
  are = λ e. (λ h. inl h, λ s. elim s [ inl h ↦ h | inr new ↦ absurd (omega (arith, new.2.1)) ]);
  count = omega arith;
}

abbrev entry_of : ℕ → ℕ → Cube → Entry
entry_of ctor set cube = record { ctor = ctor; set = set; cube = cube }

same_entry : (a b : Entry) → a.ctor ≡ b.ctor → a.set ≡ b.set → a.cube ≡ b.cube → a ≡ b
same_entry a b e f g = ap (λ (x : ℕ). entry_of x a.set a.cube) e ∙ ap (λ (x : ℕ). entry_of b.ctor x a.cube) f ∙ ap (λ (x : Cube). entry_of b.ctor b.set x) g

pub adds_more : (ctor set : ℕ) (cubes : List Cube) (old new : List Entry) (n : ℕ) (cube : Cube) → n < length cubes → cube ≡ get_or cubes n cube
    → AddsFirst ctor set cubes old new n → AddsFirst ctor set cubes old (new ++ entry_of ctor set cube ∷ []) (n + 1)
adds_more ctor set cubes old new n cube below is f =
    let x : Entry = entry_of ctor set cube in
    record {
      are = λ e. (
        λ h. elim (Contains-push_cases new x e h) [
          | inl there ↦ elim ((f.are e).0 there) [
            | inl was ↦ inl was
            | inr added ↦ inr (added.0, added.1, (added.2.0, omega (arith, added.2.1), added.2.2, added.2.3))
          ]
          | inr same ↦ inr (subst (λ (y : Entry). IsNew ctor set cubes (n + 1) y) same (refl, refl, (n, omega arith, below, sym is)))
        ],
        λ s. elim s [
          | inl was ↦ Contains-append_left new (x ∷ []) e ((f.are e).1 (inl was))
          | inr added ↦ elim (cases_lt added.2.0 n) [
            | inl before ↦ Contains-append_left new (x ∷ []) e ((f.are e).1 (inr (added.0, added.1, (added.2.0, before, added.2.2, added.2.3))))
            | inr after ↦
                let here : added.2.0 ≡ n = omega (arith, after, added.2.1) in
                let same_cube : cube ≡ e.cube = is ∙ get_or_default cubes n cube e.cube below ∙ ap (λ (k : ℕ). get_or cubes k e.cube) (sym here) ∙ added.2.3 in
                let same : x ≡ e = same_entry x e (sym added.0) (sym added.1) same_cube in
                subst (λ (y : Entry). Contains (new ++ x ∷ []) y) same (Contains-push new x)
          ]
        ],
      );
      count = simp length-append (omega (arith, f.count));
    }

pub adds_all : (ctor set : ℕ) (cubes : List Cube) (old new : List Entry) (n : ℕ) → length cubes ≤ n → n ≤ length cubes → AddsFirst ctor set cubes old new n → AddsAll ctor set cubes old new
adds_all ctor set cubes old new n all most f = record {
  are = λ e. (
    λ h. elim ((f.are e).0 h) [
      | inl was ↦ inl was
      | inr added ↦ inr (added.0, added.1, (added.2.0, added.2.2, added.2.3))
    ],
    λ s. (f.are e).1 (elim s [
      | inl was ↦ inl was
      | inr added ↦ inr (added.0, added.1, (added.2.0, omega (arith, all, added.2.1), added.2.1, added.2.2))
    ]),
  );
  count = omega (arith, f.count);
}

-- ---- one set after the other

pub record EntriesFirst (ctors : List ℕ) (sets : List CubeSet) (entries : List Entry) (n : ℕ) : Type 0 where
  pub are : (e : Entry) → Contains entries e ↔ ((e.set < n) × IsGiven ctors sets e)
  pub count : length entries ≡ cubes_in (take n sets)

pub entries_none : (ctors : List ℕ) (sets : List CubeSet) → EntriesFirst ctors sets [] 0
entries_none ctors sets = record {
  are = λ e. (λ h. absurd (omega (arith, h.1)), λ g. absurd (omega (arith, g.0)));
  count = refl;
}

same_some : {A : Type 0} (a b : A) → Some a ≡ Some b → a ≡ b
same_some a b e = cc

cubes_more : (sets : List CubeSet) (n : ℕ) (s : CubeSet) → n < length sets → s ≡ get_or sets n s → cubes_in (take (n + 1) sets) ≡ cubes_in (take n sets) + length s.cubes.items
cubes_more [] n s below is = absurd (omega arith)
cubes_more (x ∷ xs) zero s below is = ap (λ (y : CubeSet). length y.cubes.items + 0) (sym is) ∙ omega arith
cubes_more (x ∷ xs) (suc n) s below is =
    let e : suc n + 1 ≡ suc (n + 1) = omega arith in
    ap (λ (k : ℕ). cubes_in (take k (x ∷ xs))) e ∙ ap (λ (k : ℕ). length x.cubes.items + k) (cubes_more xs n s (omega (arith, below)) is) ∙ omega arith

cubes_all : (sets : List CubeSet) (n : ℕ) → length sets ≤ n → cubes_in (take n sets) ≡ cubes_in sets
cubes_all [] zero all = refl
cubes_all [] (suc n) all = refl
cubes_all (x ∷ xs) zero all = absurd (omega arith)
cubes_all (x ∷ xs) (suc n) all = ap (λ (k : ℕ). length x.cubes.items + k) (cubes_all xs n (omega arith))

pub entries_more : (ctors : List ℕ) (sets : List CubeSet) (old new : List Entry) (n ctor : ℕ) (s : CubeSet) → n < length sets → n < length ctors → s ≡ get_or sets n s
    → ctor ≡ get_or ctors n ctor → AddsAll ctor n s.cubes.items old new → EntriesFirst ctors sets old n → EntriesFirst ctors sets new (n + 1)
entries_more ctors sets old new n ctor s below within is ctor_is a f =
    let set_here : slice_get sets n ≡ Some s = slice_get_read sets (length sets) n s refl below is in
    let ctor_here : slice_get ctors n ≡ Some ctor = slice_get_read ctors (length ctors) n ctor refl within ctor_is in
    record {
      are = λ e. (
        λ h. elim ((a.are e).0 h) [
          | inl was ↦ let g = (f.are e).0 was in (omega (arith, g.0), g.1)
          | inr added ↦ (
            omega (arith, added.1),
            record {
              ctor_is = ap (λ (k : ℕ). slice_get ctors k) added.1 ∙ ctor_here ∙ ap (λ (x : ℕ). Some x) (sym added.0);
              union = s;
              union_is = ap (λ (k : ℕ). slice_get sets k) added.1 ∙ set_here;
              has = added.2;
            },
          )
        ],
        λ g. elim (cases_lt e.set n) [
          | inl before ↦ (a.are e).1 (inl ((f.are e).1 (before, g.1)))
          | inr after ↦
              let here : e.set ≡ n = omega (arith, after, g.0) in
              let same : g.1.union ≡ s = same_some g.1.union s (sym g.1.union_is ∙ ap (λ (k : ℕ). slice_get sets k) here ∙ set_here) in
              let same_ctor : e.ctor ≡ ctor = same_some e.ctor ctor (sym g.1.ctor_is ∙ ap (λ (k : ℕ). slice_get ctors k) here ∙ ctor_here) in
              (a.are e).1 (inr (same_ctor, here, subst (λ (x : CubeSet). Contains x.cubes.items e.cube) same g.1.has))
        ],
      );
      count = a.count ∙ ap (λ (k : ℕ). k + length s.cubes.items) f.count ∙ sym (cubes_more sets n s below is);
    }

pub entries_all : (ctors : List ℕ) (sets : List CubeSet) (entries : List Entry) (n : ℕ) → length sets ≤ n → EntriesFirst ctors sets entries n
    → AreEntriesOf ctors sets entries × (length entries ≡ cubes_in sets)
entries_all ctors sets entries n all f = (
  λ e. (
    λ h. ((f.are e).0 h).1,
    λ g. let within : e.set < length sets = slice_get_within sets e.set g.union g.union_is in (f.are e).1 (omega (arith, within, all), g),
  ),
  f.count ∙ cubes_all sets n all,
)
