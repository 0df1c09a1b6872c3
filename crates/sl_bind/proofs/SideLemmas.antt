-- Two lists side by side, of which something holds pair by pair.
use Rattle.std.proofs.Common.{◌≡◌, ℕ, zero, suc, List, [], ◌∷◌, ◌++◌, length, Some, slice_get, refl, ap, subst}
use Rattle.std.specs.Prelude.{unwrap_or}

-- It holds of each pair, and the lists are as long.
abbrev pub EachPair : {A B : Type 0} → (A → B → Type 0) → List A → List B → Type 0
EachPair P [] [] = Unit {0}
EachPair P [] (y ∷ ys) = ⊥
EachPair P (x ∷ xs) [] = ⊥
EachPair P (x ∷ xs) (y ∷ ys) = P x y × EachPair P xs ys

module _ {A B : Type 0} where
  pub pair_more : (P : A → B → Type 0) (xs : List A) (ys : List B) (x : A) (y : B) → P x y → EachPair P xs ys → EachPair P (xs ++ x ∷ []) (ys ++ y ∷ [])
  pair_more P [] [] x y here all = (here, tt)
  pair_more P [] (b ∷ ys) x y here all = absurd all
  pair_more P (a ∷ xs) [] x y here all = absurd all
  pair_more P (a ∷ xs) (b ∷ ys) x y here all = (all.0, pair_more P xs ys x y here all.1)

  pub pair_each : (P Q : A → B → Type 0) (xs : List A) (ys : List B) → ((x : A) (y : B) → P x y → Q x y) → EachPair P xs ys → EachPair Q xs ys
  pair_each P Q [] [] so all = tt
  pair_each P Q [] (b ∷ ys) so all = absurd all
  pair_each P Q (a ∷ xs) [] so all = absurd all
  pair_each P Q (a ∷ xs) (b ∷ ys) so all = (so a b all.0, pair_each P Q xs ys so all.1)

  pub pair_long : (P : A → B → Type 0) (xs : List A) (ys : List B) → EachPair P xs ys → length xs ≡ length ys
  pair_long P [] [] all = refl
  pair_long P [] (b ∷ ys) all = absurd all
  pair_long P (a ∷ xs) [] all = absurd all
  pair_long P (a ∷ xs) (b ∷ ys) all = ap suc (pair_long P xs ys all.1)

  pub pair_at : (P : A → B → Type 0) (xs : List A) (ys : List B) (i : ℕ) (x : A) (y : B) → slice_get xs i ≡ Some x → slice_get ys i ≡ Some y → EachPair P xs ys → P x y
  pair_at P [] ys i x y is js all = absurd (cc)
  pair_at P (a ∷ xs) [] i x y is js all = absurd all
  pair_at P (a ∷ xs) (b ∷ ys) zero x y is js all =
      let e : a ≡ x = ap (λ o. unwrap_or o a) is in
      let f : b ≡ y = ap (λ o. unwrap_or o b) js in
      subst (λ z. P z y) e (subst (P a) f all.0)
  pair_at P (a ∷ xs) (b ∷ ys) (suc i) x y is js all = pair_at P xs ys i x y is js all.1
