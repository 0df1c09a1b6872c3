-- Steps that are never refused, as a loop takes them.
use Rattle.std.proofs.Common.{◌≡◌, ℕ, ◌+◌, ◌<◌, ◌≤◌, List, ◌∷◌, length, get_or, drop, fold, sym, ap, ◌∙◌}
use Rattle.std.proofs.lemmas.List.{drop_more}
use Rattle.std.proofs.Math.ListN.{drop_of_length-le}

module _ {S X : Type 0} (step : S → X → S) (start : S) (xs : List X) where
  -- what is there behind i of them, and the rest of the steps, is what all come to
  abbrev pub IsFolded : S → ℕ → Type 0
  IsFolded now i = fold step now (drop i xs) ≡ fold step start xs

  pub fold_goes : (now next : S) (i : ℕ) (x : X) → i < length xs → x ≡ get_or xs i x → next ≡ step now x → IsFolded now i → IsFolded next (i + 1)
  fold_goes now next i x below at is so_far =
      let rest : drop i xs ≡ x ∷ drop (i + 1) xs = drop_more xs i x below ∙ ap (λ (z : X). z ∷ drop (i + 1) xs) (sym at) in
      ap (λ (s : S). fold step s (drop (i + 1) xs)) is ∙ sym (ap (fold step now) rest) ∙ so_far

  pub fold_ends : (now : S) (i : ℕ) → length xs ≤ i → IsFolded now i → now ≡ fold step start xs
  fold_ends now i end so_far = sym (ap (fold step now) (drop_of_length-le xs end)) ∙ so_far
