-- Lists of a region that begin with a front, byte by byte.
use Rattle.std.proofs.Common.{◌≡◌, ◌↔◌, ℕ, ◌+◌, ◌<◌, ◌≤◌, List, [], ◌∷◌, ◌++◌, length, get_or, take, below_more, Some, Bool, true, false, IsTrue, arith, refl, sym, ap, subst, ◌∙◌, inl, inr}
use Rattle.std.specs.Prelude.{slice_get}
use Rattle.std.proofs.Math.ListN.{get_or-append}
use Rattle.std.proofs.Math.Seq.{get_or-append_seam, take-append_seam}
use Rattle.std.proofs.lemmas.Bool.{cases_lt, false≢true}
use Rattle.std.proofs.lemmas.List.{get_or-take, length-append, take_all, take_more}
use Rattle.std.proofs.lemmas.List.Elements.{All-push}
use Rattle.std.proofs.lemmas.Option.{same_Some, slice_get_read, slice_get_within}
use Rattle.sl_asm_fit.specs.Cells.{Fits}
use Rattle.sl_asm_fit.specs.Lists.{EndsIn, HasFront, HasNone, IsPassing, Without}
use Rattle.sl_asm_fit.specs.Regions.{IsOf}
use Rattle.sl_asm_fit.specs.declared.Cell.{Cell}

pub front_none : (region : List Cell) → HasFront region []
front_none region = record {
  short = omega arith;
  are_bytes = λ k d below. absurd (omega (arith, below));
  fits = λ k c below there. absurd (omega (arith, below));
}

-- ---- a whole list

front_whole : (region : List Cell) (front : List ℕ) → length front ≡ length region → HasFront region front → IsOf region front
front_whole region front long has = record {
  long = long;
  are_bytes = has.are_bytes;
  fits = λ k c there. has.fits k c (omega (arith, long, slice_get_within region k c there)) there;
}

same_whole : (front xs : List ℕ) → length xs ≡ length front → take (length front) xs ≡ front → xs ≡ front
same_whole front xs long starts = sym (take_all (length front) xs (omega (arith, long))) ∙ starts

pub ends_whole : (passes : List ℕ → Type 0) (region : List Cell) (front : List ℕ) (answer : Bool) → length front ≡ length region → HasFront region front
    → (IsTrue answer ↔ passes front) → EndsIn passes region front front answer
ends_whole passes region front true long has iff = record { of_region = front_whole region front long has; passed = iff.0 refl }
ends_whole passes region front false long has iff = (
  refl,
  λ xs inside starts pass. false≢true (iff.1 (subst passes (same_whole front xs (inside.long ∙ sym long) starts) pass)),
)

-- ---- one byte more

module _ (region : List Cell) (front : List ℕ) (cell : Cell) (b : ℕ) (below : length front < length region) (is : cell ≡ get_or region (length front) cell) where
  cell_at : slice_get region (length front) ≡ Some cell
  cell_at = slice_get_read region (length region) (length front) cell refl below is

  pub front_push : Fits cell b → b < 256 → HasFront region front → HasFront region (front ++ b ∷ [])
  front_push fits byte has = record {
    short = omega (arith, below, length-append front (b ∷ []));
    are_bytes = All-push (λ x. x < 256) front b has.are_bytes byte;
    fits = λ k c lt there. elim (cases_lt k (length front)) [
      | inl before ↦ subst (λ (x : ℕ). Fits c x) (sym (get_or-append front (b ∷ []) 0 k before)) (has.fits k c before there)
      | inr past ↦
          let this : k ≡ length front = omega (arith, past, lt, length-append front (b ∷ [])) in
          let same : cell ≡ c = same_Some cell c (sym cell_at ∙ subst (λ (i : ℕ). slice_get region i ≡ Some c) this there) in
          subst (λ (i : ℕ). Fits c (get_or (front ++ b ∷ []) i 0)) (sym this)
          (subst (λ (x : ℕ). Fits c x) (sym (get_or-append_seam front b [] 0)) (subst (λ (x : Cell). Fits x b) same fits))
    ];
  }

  next_byte : (xs : List ℕ) → take (length (front ++ b ∷ [])) xs ≡ front ++ b ∷ [] → get_or xs (length front) 0 ≡ b
  next_byte xs starts =
      let lt : length front < length (front ++ b ∷ []) = omega (arith, length-append front (b ∷ [])) in
      sym (get_or-take (length (front ++ b ∷ [])) xs (length front) 0 lt) ∙ ap (λ (l : List ℕ). get_or l (length front) 0) starts ∙ get_or-append_seam front b [] 0

  pub without_unfit : (passes : List ℕ → Type 0) → (Fits cell b → ⊥) → Without passes region (front ++ b ∷ [])
  without_unfit passes not = λ xs inside starts pass. not (subst (λ (x : ℕ). Fits cell x) (next_byte xs starts) (inside.fits (length front) cell cell_at))

-- ---- all bytes

-- No list that goes on with one of the first n bytes passes.
abbrev pub FirstWithout : (List ℕ → Type 0) → List Cell → List ℕ → ℕ → Type 0
FirstWithout passes region front n = (v : ℕ) → v < n → Without passes region (front ++ v ∷ [])

pub without_none : (passes : List ℕ → Type 0) (region : List Cell) (front : List ℕ) → FirstWithout passes region front 0
without_none passes region front = λ v below. absurd (omega (arith, below))

pub without_more : (passes : List ℕ → Type 0) (region : List Cell) (front : List ℕ) (n : ℕ) → Without passes region (front ++ n ∷ [])
    → FirstWithout passes region front n → FirstWithout passes region front (n + 1)
without_more passes region front n without f = below_more (λ v. Without passes region (front ++ v ∷ [])) n f without

pub without_all : (passes : List ℕ → Type 0) (region : List Cell) (front : List ℕ) (n : ℕ) → length front < length region → 256 ≤ n
    → FirstWithout passes region front n → Without passes region front
without_all passes region front n below whole f = λ xs inside starts pass.
    let v = get_or xs (length front) 0 in
    let long : length front < length xs = omega (arith, inside.long, below) in
    let byte : v < 256 = inside.are_bytes (length front) 0 long in
    let next : take (length front + 1) xs ≡ front ++ v ∷ [] = take_more xs (length front) 0 long ∙ ap (λ (l : List ℕ). l ++ v ∷ []) starts in
    let count : length (front ++ v ∷ []) ≡ length front + 1 = length-append front (v ∷ []) in
    f v (omega (arith, byte, whole)) xs inside (subst (λ (i : ℕ). take i xs ≡ front ++ v ∷ []) (sym count) next) pass

-- what is cut off again
pub cut_again : (front bytes : List ℕ) (b : ℕ) → bytes ≡ front ++ b ∷ [] → take (length front) bytes ≡ front
cut_again front bytes b e = ap (λ (l : List ℕ). take (length front) l) e ∙ take-append_seam front (b ∷ [])

pub ends_without : (passes : List ℕ → Type 0) (region : List Cell) (front bytes : List ℕ) (answer : Bool) → answer ≡ false → EndsIn passes region front bytes answer
    → (bytes ≡ front) × Without passes region front
ends_without passes region front bytes true e ends = absurd (false≢true (sym e))
ends_without passes region front bytes false e ends = ends

-- one byte after another: where none that goes on with it passes, it is cut off again
pub step_without : (passes : List ℕ → Type 0) (region : List Cell) (front now pushed bytes cut : List ℕ) (n place : ℕ) (found : Bool) → now ≡ front
    → pushed ≡ now ++ n ∷ [] → place ≡ length front → cut ≡ take place bytes → found ≡ false → EndsIn passes region pushed bytes found
    → FirstWithout passes region front n → (cut ≡ front) × FirstWithout passes region front (n + 1)
step_without passes region front now pushed bytes cut n place found same push long is not ends f =
    let whole : pushed ≡ front ++ n ∷ [] = push ∙ ap (λ (l : List ℕ). l ++ n ∷ []) same in
    let both = ends_without passes region pushed bytes found not ends in (
      is ∙ ap (λ (i : ℕ). take i bytes) long ∙ cut_again front bytes n (both.0 ∙ whole),
      without_more passes region front n (subst (λ (l : List ℕ). Without passes region l) whole both.1) f,
    )

-- ---- from the empty front

pub none_passes : (passes : List ℕ → Type 0) (region : List Cell) → Without passes region [] → HasNone passes region
none_passes passes region without = λ xs inside pass. without xs inside refl pass

pub ends_at : (passes : List ℕ → Type 0) (region : List Cell) (front bytes : List ℕ) (answer : Bool) → answer ≡ true → EndsIn passes region front bytes answer
    → IsPassing passes region bytes
ends_at passes region front bytes true e ends = ends
ends_at passes region front bytes false e ends = absurd (false≢true e)
