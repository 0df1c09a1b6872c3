-- The entries of a map against the list of its values, where each value stands under its own key.
use Rattle.std.proofs.Common.{◌≡◌, Bool, true, false, cond, ◌||◌, List, [], ◌∷◌, ◌++◌, map, Option, Some, None, is_some, find, refl, ap, ◌∙◌}
use Rattle.std.specs.List.{list_any, AllByRecursion}
use Rattle.std.specs.Map.{lookup}

abbrev pub entry_values : {K X : Type 0} → List (K × X) → List X
entry_values es = map (λ e. e.1) es

module _ {K X V : Type 0} (seen : K → V) (key_of : X → V) where
  -- Each entry stands under its key.
  abbrev pub AreKeyed : List (K × X) → Type 0
  AreKeyed es = AllByRecursion (λ e. seen e.0 ≡ key_of e.1) es

  module _ (same : V → Bool) where
    pub get_is : (es : List (K × X)) → AreKeyed es → lookup (λ k. same (seen k)) es ≡ find (λ x. same (key_of x)) (entry_values es)
    get_is [] h = refl
    get_is (e ∷ es) h = rw (h.0, get_is es h.1) refl

    some_any : (x : X) (xs : List X) (b : Bool) → is_some (find (λ y. same (key_of y)) xs) ≡ list_any (λ y. same (key_of y)) xs
        → is_some (cond b (Some x) (find (λ y. same (key_of y)) xs)) ≡ (b || list_any (λ y. same (key_of y)) xs)
    some_any x xs true rest = refl
    some_any x xs false rest = rest

    some_is : (xs : List X) → is_some (find (λ y. same (key_of y)) xs) ≡ list_any (λ y. same (key_of y)) xs
    some_is [] = refl
    some_is (x ∷ xs) = some_any x xs (same (key_of x)) (some_is xs)

    pub has_is : (es : List (K × X)) → AreKeyed es → is_some (lookup (λ k. same (seen k)) es) ≡ list_any (λ x. same (key_of x)) (entry_values es)
    has_is es h = ap is_some (get_is es h) ∙ some_is (entry_values es)

pub all_push : {X : Type 0} (P : X → Type 0) (xs : List X) (x : X) → AllByRecursion P xs → P x → AllByRecursion P (xs ++ x ∷ [])
all_push P [] x h p = (p, tt)
all_push P (y ∷ ys) x h p = (h.0, all_push P ys x h.1 p)

pub none_from : {A : Type 0} (o : Option A) → is_some o ≡ false → o ≡ None
none_from None h = refl
none_from (Some x) h = absurd (cc)
