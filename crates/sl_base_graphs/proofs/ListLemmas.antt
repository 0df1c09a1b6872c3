-- Lists of numbers that grow and shrink at their end, and lists of which a member is set.
use Rattle.std.proofs.Common.{◌≡◌, ℕ, zero, suc, ◌-◌, ◌<◌, ◌≤◌, ◌⊎◌, inl, inr, List, [], ◌∷◌, ◌++◌, length, get_or, set, take, Some, refl, sym, ap, ◌∙◌, arith}
use Rattle.std.specs.Prelude.{slice_get}
use Rattle.std.specs.List.{Contains}
use Rattle.std.proofs.lemmas.Bool.{cases_lt}
use Rattle.std.proofs.lemmas.List.{get_or_append_left, get_or_push, length_push, get_or-take, length-take, get_or_default}
use Rattle.sl_base_graphs.specs.States.{last_of, without_last}
use Rattle.sl_base_graphs.specs.Searches.{Has, Rises, AreBelow}

-- ---- one more at the end

pub push_old : (xs : List ℕ) (y i : ℕ) → i < length xs → get_or (xs ++ y ∷ []) i 0 ≡ get_or xs i 0
push_old xs y i below = get_or_append_left xs (y ∷ []) 0 i below

pub push_new : (xs : List ℕ) (y i : ℕ) → i ≡ length xs → get_or (xs ++ y ∷ []) i 0 ≡ y
push_new xs y i at = get_or_push xs y 0 i (sym at)

pub old_or_new : (xs : List ℕ) (y i : ℕ) → i < length (xs ++ y ∷ []) → (i < length xs) ⊎ (i ≡ length xs)
old_or_new xs y i below = elim (cases_lt i (length xs)) [ inl h ↦ inl h | inr h ↦ inr (omega (arith, length_push xs y)) ]

pub has_old : (xs : List ℕ) (y x : ℕ) → Has xs x → Has (xs ++ y ∷ []) x
has_old xs y x h = (h.0, omega (arith, length_push xs y, h.1), push_old xs y h.0 h.1 ∙ h.2)

pub has_new : (xs : List ℕ) (y : ℕ) → Has (xs ++ y ∷ []) y
has_new xs y = (length xs, omega (arith, length_push xs y), push_new xs y (length xs) refl)

pub has_either : (xs : List ℕ) (y x : ℕ) → Has (xs ++ y ∷ []) x → Has xs x ⊎ (x ≡ y)
has_either xs y x h = elim (old_or_new xs y h.0 h.1) [
  | inl l ↦ inl (h.0, l, sym (push_old xs y h.0 l) ∙ h.2)
  | inr e ↦ inr (sym h.2 ∙ push_new xs y h.0 e)
]

pub rises_more : (xs : List ℕ) (y : ℕ) → Rises xs → AreBelow y xs → Rises (xs ++ y ∷ [])
rises_more xs y rises below p q less end = elim (old_or_new xs y q end) [
  | inl l ↦ let a = push_old xs y p (omega arith) in let b = push_old xs y q l in let c = rises p q less l in omega arith
  | inr e ↦ let a = push_old xs y p (omega arith) in let b = push_new xs y q e in let c = below p (omega arith) in omega arith
]

pub below_more : (xs : List ℕ) (y n : ℕ) → AreBelow n xs → y < n → AreBelow n (xs ++ y ∷ [])
below_more xs y n below new p end = elim (old_or_new xs y p end) [
  | inl l ↦ let a = push_old xs y p l in let c = below p l in omega arith
  | inr e ↦ let a = push_new xs y p e in omega arith
]

pub below_wider : (xs : List ℕ) (m n : ℕ) → m ≤ n → AreBelow m xs → AreBelow n xs
below_wider xs m n wide below p end = let c = below p end in omega arith

-- ---- fewer at the end

pub fewer : (xs : List ℕ) (k p : ℕ) → p < length (take k xs) → (p < length xs) × (p < k)
fewer xs k p h = (omega (arith, length-take k xs), omega (arith, length-take k xs))

pub take_has : (xs : List ℕ) (k x : ℕ) → Has (take k xs) x → Has xs x
take_has xs k x h = let l = fewer xs k h.0 h.1 in (h.0, l.0, sym (get_or-take k xs h.0 0 l.1) ∙ h.2)

pub rises_take : (xs : List ℕ) (k : ℕ) → Rises xs → Rises (take k xs)
rises_take xs k rises p q less end =
    let l = fewer xs k q end in
    let a = get_or-take k xs p 0 (omega (arith, l.1)) in
    let b = get_or-take k xs q 0 l.1 in
    let c = rises p q less l.0 in
    omega arith

pub below_take : (xs : List ℕ) (k n : ℕ) → AreBelow n xs → AreBelow n (take k xs)
below_take xs k n below p end =
    let l = fewer xs k p end in
    let a = get_or-take k xs p 0 l.1 in
    let c = below p l.0 in
    omega arith

-- the last of numbers that rise is the greatest
pub to_last : (xs : List ℕ) → Rises xs → (p : ℕ) → p < length xs → get_or xs p 0 ≤ last_of xs
to_last xs rises p below = elim (cases_lt p (length xs - 1)) [
  | inl l ↦ let c = rises p (length xs - 1) l (omega arith) in omega arith
  | inr g ↦ let e : p ≡ length xs - 1 = omega arith in let c = ap (λ k. get_or xs k 0) e in omega arith
]

pub has_to_last : (xs : List ℕ) → Rises xs → (x : ℕ) → Has xs x → x ≤ last_of xs
has_to_last xs rises x h = let c = to_last xs rises h.0 h.1 in let e = h.2 in omega arith

pub all_below_last : (xs : List ℕ) (n : ℕ) → Rises xs → (0 < length xs → last_of xs < n) → AreBelow n xs
all_below_last xs n rises last p below = let c = to_last xs rises p below in let d = last (omega arith) in omega arith

-- those before the last are below it
pub below_last : (xs : List ℕ) → Rises xs → AreBelow (last_of xs) (without_last xs)
below_last xs rises p end =
    let l = fewer xs (length xs - 1) p end in
    let a = get_or-take (length xs - 1) xs p 0 l.1 in
    let c = rises p (length xs - 1) l.1 (omega (arith, l.0)) in
    omega arith

pub not_last : (xs : List ℕ) (x : ℕ) → Has xs x → x < last_of xs → Has (without_last xs) x
not_last xs x h less =
    let e = h.2 in
    let l : h.0 < length xs - 1 = elim (cases_lt h.0 (length xs - 1)) [
      | inl l ↦ l
      | inr g ↦ let i : h.0 ≡ length xs - 1 = omega (arith, h.1) in let c = ap (λ k. get_or xs k 0) i in absurd (omega arith)
    ] in
    (h.0, omega (arith, length-take (length xs - 1) xs), get_or-take (length xs - 1) xs h.0 0 l ∙ e)

-- ---- successors by index

pub contained : (xs : List ℕ) (x : ℕ) → Contains xs x → Has xs x
contained xs x c = (c.0, c.1, sym (get_or_default xs c.0 x 0 c.1) ∙ c.2)

pub has_contained : (xs : List ℕ) (x : ℕ) → Has xs x → Contains xs x
has_contained xs x c = (c.0, c.1, get_or_default xs c.0 x 0 c.1 ∙ c.2)

-- ---- a member that is set

pub get_set_same : {X : Type 0} (xs : List X) (i : ℕ) (x : X) → i < length xs → slice_get (set xs i x) i ≡ Some x
get_set_same [] i x below = absurd (omega arith)
get_set_same (y ∷ xs) zero x below = refl
get_set_same (y ∷ xs) (suc i) x below = get_set_same xs i x (omega arith)

pub get_set_other : {X : Type 0} (xs : List X) (i j : ℕ) (x : X) → (j ≡ i → ⊥) → slice_get (set xs i x) j ≡ slice_get xs j
get_set_other [] i j x other = refl
get_set_other (y ∷ xs) zero zero x other = absurd (other refl)
get_set_other (y ∷ xs) zero (suc j) x other = refl
get_set_other (y ∷ xs) (suc i) zero x other = refl
get_set_other (y ∷ xs) (suc i) (suc j) x other = get_set_other xs i j x (λ e. other (ap suc e))
