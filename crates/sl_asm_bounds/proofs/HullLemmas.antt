-- Regions that have the lists of others.
use Rattle.std.proofs.Common.{◌≡◌, ℕ, zero, suc, ◌+◌, ◌%◌, ◌<◌, ◌≤◌, ◌^◌, bit_and, List, [], ◌∷◌, ◌++◌, length, get_or, Option, Some, None, ap, arith, refl, sym, subst, ◌∙◌, inl, inr, below_more, ◌⊎◌}
use Rattle.std.specs.Prelude.{MatchOption, option_map, slice_get}
use Rattle.std.specs.Int.{bit_at}
use Rattle.std.specs.List.{HoldsAt}
use Rattle.std.proofs.Math.Nat.{mod-eq_of_lt}
use Rattle.std.proofs.lemmas.List.{length-append}
use Rattle.std.proofs.lemmas.List.Elements.{at_read}
use Rattle.std.proofs.lemmas.Nat.Bits.{bit_at-zero}
use Rattle.std.proofs.lemmas.Option.{same_Some, slice_get_within}
use Rattle.sl_asm_fit.specs.Cells.{Fits as FitsCell}
use Rattle.sl_asm_fit.specs.Regions.{IsOf, Misses, Narrows}
use Rattle.sl_asm_fit.specs.Windows.{ReadsIn}
use Rattle.sl_asm_fit.specs.declared.Cell.{Cell}
use Rattle.sl_asm_bounds.specs.Bounds.{Fits, IsInCubes, IsOfSome}
use Rattle.sl_cube.proofs.BitLemmas.{hull_agrees, hull_mask}
use Rattle.sl_cube.specs.Bits.{Agrees}
use Rattle.sl_cube.specs.declared.Cube.{Cube}

-- ---- cells

pub hull_first : (m v n u x : ℕ) → bit_and v m ≡ v → bit_and u n ≡ u → x < 2 ^ x → Agrees m v x → Agrees (hull_mask m v n u) (bit_and v u) x
hull_first m v n u x a b fits has = hull_agrees x m v n u x a b (λ i bit all. all x fits (inl has))

pub hull_second : (m v n u x : ℕ) → bit_and v m ≡ v → bit_and u n ≡ u → x < 2 ^ x → Agrees n u x → Agrees (hull_mask m v n u) (bit_and v u) x
hull_second m v n u x a b fits has = hull_agrees x m v n u x a b (λ i bit all. all x fits (inr has))

-- ---- cells in a row

push_cases : {X : Type 0} (xs : List X) (x : X) (k : ℕ) (c : X) → slice_get (xs ++ x ∷ []) k ≡ Some c
    → (slice_get xs k ≡ Some c) ⊎ ((k ≡ length xs) × (x ≡ c))
push_cases [] x zero c e = inr (refl, same_Some x c e)
push_cases [] x (suc k) c e = absurd cc
push_cases (y ∷ ys) x zero c e = inl e
push_cases (y ∷ ys) x (suc k) c e = elim (push_cases ys x k c e) [
  | inl h ↦ inl h
  | inr h ↦ inr (ap suc h.0, h.1)
]

some_at : {X : Type 0} (xs : List X) (i : ℕ) → i < length xs → (x : X) × (slice_get xs i ≡ Some x)
some_at [] i below = absurd (omega (arith, below))
some_at (x ∷ xs) zero below = (x, refl)
some_at (x ∷ xs) (suc i) below = some_at xs i (omega (arith, below))

-- The cells have what the first ones of the region have.
pub record HasFirst (a : List Cell) (n : ℕ) (out : List Cell) : Type 0 where
  pub long : length out ≡ n
  pub fits : (k : ℕ) (c d : Cell) (x : ℕ) → slice_get out k ≡ Some c → slice_get a k ≡ Some d → FitsCell d x → FitsCell c x

pub first_none : (a : List Cell) → HasFirst a 0 []
first_none a = record { long = refl; fits = λ k c d x there own has. absurd (omega (arith, slice_get_within {A = Cell} [] k c there)) }

pub first_more : (a out : List Cell) (n : ℕ) (new : Cell) → ((x : ℕ) (c : Cell) → slice_get a n ≡ Some c → FitsCell c x → FitsCell new x)
    → HasFirst a n out → HasFirst a (n + 1) (out ++ new ∷ [])
first_more a out n new has f = record {
  long = length-append out (new ∷ []) ∙ omega (arith, f.long);
  fits = λ k c d x there own fits. elim (push_cases out new k c there) [
    | inl old ↦ f.fits k c d x old own fits
    | inr here ↦
        let at : k ≡ n = here.0 ∙ f.long in
        subst (λ (e : Cell). FitsCell e x) here.1 (has x d (subst (λ (j : ℕ). slice_get a j ≡ Some d) at own) fits)
  ];
}

pub first_all : (a out : List Cell) (n count : ℕ) → n ≡ count → HasFirst a n out → (xs : List ℕ) → length xs ≡ count → IsOf a xs → IsOf out xs
first_all a out n count whole f xs long h = record {
  long = long ∙ sym whole ∙ sym f.long;
  are_bytes = h.are_bytes;
  fits = λ k c there.
      let below : k < length a = omega (arith, slice_get_within out k c there, f.long, whole, long, h.long) in
      let d = some_at a k below in
      f.fits k c d.0 (get_or xs k 0) there d.1 (h.fits k d.0 d.1);
}

-- ---- a cube

pub any_reads : (at x : ℕ) (cube any : Cube) (xs : List ℕ) → any.mask ≡ cube.mask → any.value ≡ cube.value → any.ctx_mask ≡ 0 → ReadsIn at x cube xs → ReadsIn at 0 any xs
any_reads at x cube any xs mask value none reads = (
  λ i on. reads.0 i (sym (ap (λ (n : ℕ). bit_at n i) mask) ∙ on) ∙ sym (ap (λ (n : ℕ). bit_at n i) value),
  λ i on.
      let off : bit_at any.ctx_mask i ≡ 0 = ap (λ (n : ℕ). bit_at n i) none ∙ bit_at-zero i in
      absurd (omega (arith, off, on)),
)

kept : (known x : ℕ) → known < 2 ^ 64 → known ≡ x → x % 2 ^ 64 ≡ known
kept known x range same = ap (λ (n : ℕ). n % 2 ^ 64) (sym same) ∙ mod-eq_of_lt range

pub narrowed_some : {V : Type 0} (items : V → List Cell) (o : Option V) (region : List Cell) (at known : ℕ) (cube : Cube) → known < 2 ^ 64
    → MatchOption o (Misses region at known cube) (λ v. Narrows region at known cube (items v))
    → (xs : List ℕ) (x : ℕ) → IsOf region xs → known ≡ x → ReadsIn at (x % 2 ^ 64) cube xs → IsOfSome (option_map items o) xs
narrowed_some items None region at known cube range m xs x inside same reads = m xs inside (subst (λ (c : ℕ). ReadsIn at c cube xs) (kept known x range same) reads)
narrowed_some items (Some v) region at known cube range m xs x inside same reads =
    m.all xs inside (subst (λ (c : ℕ). ReadsIn at c cube xs) (kept known x range same) reads)

pub narrowed_any : {V : Type 0} (items : V → List Cell) (o : Option V) (region : List Cell) (at : ℕ) (cube any : Cube)
    → any.mask ≡ cube.mask → any.value ≡ cube.value → any.ctx_mask ≡ 0
    → MatchOption o (Misses region at 0 any) (λ v. Narrows region at 0 any (items v))
    → (xs : List ℕ) (x : ℕ) → IsOf region xs → ReadsIn at (x % 2 ^ 64) cube xs → IsOfSome (option_map items o) xs
narrowed_any items None region at cube any mask value none m xs x inside reads = m xs inside (any_reads at (x % 2 ^ 64) cube any xs mask value none reads)
narrowed_any items (Some v) region at cube any mask value none m xs x inside reads = m.all xs inside (any_reads at (x % 2 ^ 64) cube any xs mask value none reads)

-- ---- cubes in turn

-- The lists of the region that are in the cube are in the narrower region.
abbrev pub Keeps : List Cell → ℕ → Option ℕ → Option (List Cell) → Cube → Type 0
Keeps region at context all cube = (xs : List ℕ) (x : ℕ) → IsOf region xs → Fits context x → ReadsIn at (x % 2 ^ 64) cube xs → IsOfSome all xs

abbrev pub KeepsFirst : List Cell → ℕ → Option ℕ → List Cube → ℕ → Option (List Cell) → Type 0
KeepsFirst region at context cubes n all = (k : ℕ) → k < n → HoldsAt (Keeps region at context all) cubes k

pub keeps_none : (region : List Cell) (at : ℕ) (context : Option ℕ) (cubes : List Cube) (all : Option (List Cell)) → KeepsFirst region at context cubes 0 all
keeps_none region at context cubes all = λ k below. absurd (omega (arith, below))

pub keeps_more : (region : List Cell) (at : ℕ) (context : Option ℕ) (cubes : List Cube) (n count : ℕ) (c : Cube) (old one new : Option (List Cell))
    → n < length cubes → c ≡ get_or cubes n c → count ≡ length region
    → ((xs : List ℕ) → length xs ≡ count → IsOfSome old xs → IsOfSome new xs) → ((xs : List ℕ) → length xs ≡ count → IsOfSome one xs → IsOfSome new xs)
    → Keeps region at context one c → KeepsFirst region at context cubes n old → KeepsFirst region at context cubes (n + 1) new
keeps_more region at context cubes n count c old one new below is counted first second own f =
    below_more (λ k. HoldsAt (Keeps region at context new) cubes k) n
    (λ k lt d xs x inside known reads. first xs (inside.long ∙ sym counted) (f k lt d xs x inside known reads))
    (at_read cubes (Keeps region at context new) n c below is (λ xs x inside known reads. second xs (inside.long ∙ sym counted) (own xs x inside known reads)))

pub keeps_all : (region : List Cell) (at : ℕ) (context : Option ℕ) (cubes : List Cube) (n : ℕ) (all : Option (List Cell)) → length cubes ≤ n
    → KeepsFirst region at context cubes n all → (xs : List ℕ) → IsInCubes region at context cubes xs → IsOfSome all xs
keeps_all region at context cubes n all whole f xs h =
    let there = h.inside in
    let lt : there.0 < n = omega (arith, there.2, whole) in
    subst (λ (c : Cube). Keeps region at context all c) there.3 (f there.0 lt there.1) xs h.from h.of_region h.known there.4
