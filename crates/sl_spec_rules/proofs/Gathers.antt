-- Lists that are added one behind the other, as a loop adds them.
use Rattle.std.proofs.Common.{◌≡◌, ℕ, ◌+◌, ◌<◌, ◌≤◌, List, [], ◌∷◌, ◌++◌, length, get_or, drop, refl, sym, ap, ◌∙◌, append_assoc, append-nil}
use Rattle.std.proofs.lemmas.List.{drop_more}
use Rattle.std.proofs.Math.ListN.{drop_of_length-le}
use Rattle.sl_spec_rules.specs.Gathered.{gathered}

module _ {X M : Type 0} (f : X → List M) (start : List M) (xs : List X) where
  -- what is there behind i of them, and what the rest adds, is all
  abbrev pub IsGathered : List M → ℕ → Type 0
  IsGathered now i = now ++ gathered f (drop i xs) ≡ start ++ gathered f xs

  pub gathers : (now next : List M) (i : ℕ) (x : X) → i < length xs → x ≡ get_or xs i x → next ≡ now ++ f x → IsGathered now i → IsGathered next (i + 1)
  unfolding gathered
  gathers now next i x below at is so_far =
      let rest : drop i xs ≡ x ∷ drop (i + 1) xs = drop_more xs i x below ∙ ap (λ (z : X). z ∷ drop (i + 1) xs) (sym at) in
      let here : now ++ gathered f (drop i xs) ≡ (now ++ f x) ++ gathered f (drop (i + 1) xs) = rw (rest, append_assoc) refl in
      ap (λ (l : List M). l ++ gathered f (drop (i + 1) xs)) is ∙ sym here ∙ so_far

  pub all_gathered : (now : List M) (i : ℕ) → length xs ≤ i → IsGathered now i → now ≡ start ++ gathered f xs
  unfolding gathered
  all_gathered now i end so_far =
      let none : drop i xs ≡ [] = drop_of_length-le xs end in
      let here : now ++ gathered f (drop i xs) ≡ now = ap (λ (l : List X). now ++ gathered f l) none ∙ append-nil now in
      sym here ∙ so_far
