-- The weights of the first macros.
use Rattle.std.proofs.Common.{◌≡◌, ℕ, zero, suc, ◌+◌, ◌≤◌, List, [], ◌∷◌, ◌++◌, length, get_or, take, drop, Option, Some, None, refl, sym, ap, ◌∙◌, subst, arith, length-append}
use Rattle.std.specs.Prelude.{fold, slice_get}
use Rattle.std.proofs.Math.Seq.{get_or-append_seam}
use Rattle.std.proofs.lemmas.List.{take-append-drop}
use Rattle.std.proofs.lemmas.List.Sums.{fold-append}
use Rattle.sl_section_resolve.specs.Macros.{Body}
use Rattle.sl_section_resolve.specs.Steps.{body_of}
use Rattle.sl_section_weights.specs.Weights.{body_weight, macro_weights, number_at, with_macro}

take_suc : {X : Type 0} (xs : List X) (n : ℕ) (x : X) → slice_get xs n ≡ Some x → take (suc n) xs ≡ take n xs ++ x ∷ []
take_suc [] n x e = absurd (let no : ⊥ = cc in no)
take_suc (y ∷ ys) zero x e = let same : y ≡ x = cc in ap (λ z. z ∷ []) same
take_suc (y ∷ ys) (suc n) x e = ap (λ zs. y ∷ zs) (take_suc ys n x e)

take_past : {X : Type 0} (xs : List X) (n : ℕ) → slice_get xs n ≡ None → take (suc n) xs ≡ take n xs
take_past [] n e = both n
  where
    both : {X : Type 0} (n : ℕ) → take {A = X} (suc n) [] ≡ take n []
    both zero = refl
    both (suc n) = refl
take_past (y ∷ ys) zero e = absurd (let no : ⊥ = cc in no)
take_past (y ∷ ys) (suc n) e = ap (λ zs. y ∷ zs) (take_past ys n e)

length_take : {X : Type 0} (xs : List X) (n : ℕ) (x : X) → slice_get xs n ≡ Some x → length (take n xs) ≡ n
length_take [] n x e = absurd (let no : ⊥ = cc in no)
length_take (y ∷ ys) zero x e = refl
length_take (y ∷ ys) (suc n) x e = ap suc (length_take ys n x e)

grown : (ws : List ℕ) (x i : ℕ) → get_or ws i 0 ≤ get_or (ws ++ x ∷ []) i 0
grown [] x i = omega arith
grown (w ∷ ws) x zero = omega arith
grown (w ∷ ws) x (suc i) = grown ws x i

-- one weight more takes none away
pub number_grown : (ws : List ℕ) (x : ℕ) (o : Option ℕ) → number_at ws o ≤ number_at (ws ++ x ∷ []) o
number_grown ws x None = omega arith
number_grown ws x (Some i) = grown ws x i

module _ (macros : List Body) where
  -- the weights of the first n macros
  abbrev pub upto : ℕ → List ℕ
  upto n = fold (with_macro macros) [] (take n macros)

  fold_grown : (ws : List ℕ) (ms : List Body) (o : Option ℕ) → number_at ws o ≤ number_at (fold (with_macro macros) ws ms) o
  fold_grown ws [] o = omega arith
  fold_grown ws (m ∷ ms) o =
      let one = number_grown ws (body_weight macros ws (body_of m)) o in
      let rest = fold_grown (with_macro macros ws m) ms o in
      omega (arith, one, rest)

  fold_length : (ws : List ℕ) (ms : List Body) → length (fold (with_macro macros) ws ms) ≡ length ws + length ms
  fold_length ws [] = omega arith
  fold_length ws (m ∷ ms) =
      let one = length-append ws (body_weight macros ws (body_of m) ∷ []) in
      let rest = fold_length (with_macro macros ws m) ms in
      omega (arith, one, rest)

  pub upto_more : (n : ℕ) (m : Body) → slice_get macros n ≡ Some m → upto (suc n) ≡ upto n ++ body_weight macros (upto n) (body_of m) ∷ []
  upto_more n m e = ap (fold (with_macro macros) []) (take_suc macros n m e) ∙ fold-append (with_macro macros) [] (take n macros) (m ∷ [])

  pub upto_past : (n : ℕ) → slice_get macros n ≡ None → upto (suc n) ≡ upto n
  upto_past n e = ap (fold (with_macro macros) []) (take_past macros n e)

  -- the weight of a macro, among those of the first ones and it
  pub last_weight : (n x : ℕ) (m : Body) → slice_get macros n ≡ Some m → number_at (upto n ++ x ∷ []) (Some n) ≡ x
  last_weight n x m e =
      let count : length (upto n) ≡ n = fold_length [] (take n macros) ∙ omega (arith, length_take macros n m e) in
      ap (λ i. get_or (upto n ++ x ∷ []) i 0) (sym count) ∙ get_or-append_seam (upto n) x [] 0

  -- those of all macros are no less
  pub upto_all : (n : ℕ) (o : Option ℕ) → number_at (upto n) o ≤ number_at (macro_weights macros) o
  unfolding macro_weights
  upto_all n o =
      let whole : fold (with_macro macros) (upto n) (drop n macros) ≡ fold (with_macro macros) [] macros =
      sym (fold-append (with_macro macros) [] (take n macros) (drop n macros)) ∙ ap (fold (with_macro macros) []) (take-append-drop n macros) in
      subst (λ ws. number_at (upto n) o ≤ number_at ws o) whole (fold_grown (upto n) (drop n macros) o)
