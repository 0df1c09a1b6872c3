-- A table that is looked through row by row.
use Rattle.std.proofs.Common.{◌≡◌, ℕ, ◌+◌, ◌<◌, ◌≤◌, ◌==◌, ◌&&◌, true, false, List, [], ◌∷◌, length, drop, get_or, None, Some, refl, ap, sym, ◌∙◌}
use Rattle.std.proofs.Math.ListN.{drop_of_length-le}
use Rattle.std.proofs.lemmas.List.{drop_more}
use denote.Ref.{Bor}
use lib.Dec.{eqb}
use lib.Pointwise.{pointwise}
use Rattle.sl_ast.specs.Symbols.{same_bytes, find}
use Rattle.sl_parse_terminals.specs.Rows.{rows_of}

pub same_is : (a b : List ℕ) → same_bytes a b ≡ pointwise eqb a b
same_is [] [] = refl
same_is [] (y ∷ ys) = refl
same_is (x ∷ xs) [] = refl
same_is (x ∷ xs) (y ∷ ys) = ap (λ t. (x == y) && t) (same_is xs ys)

module _ {K : Type 0} (text : List ℕ) (rows : List (Bor (List ℕ) × K)) (i : ℕ) where
  pub found_here : (row : Bor (List ℕ) × K) → i < length rows → row ≡ get_or rows i row → pointwise eqb text row.0.now ≡ true → find text (rows_of (drop i rows)) ≡ Some row.1
  found_here row less here same =
      let now : pointwise eqb text (get_or rows i row).0.now ≡ true = ap (λ r. pointwise eqb text r.0.now) (sym here) ∙ same in
      ap (λ xs. find text (rows_of xs)) (drop_more rows i row less) ∙ rw (same_is text (get_or rows i row).0.now ∙ now) (ap (λ r. Some r.1) (sym here))

  pub found_later : (row : Bor (List ℕ) × K) → i < length rows → row ≡ get_or rows i row → pointwise eqb text row.0.now ≡ false
      → find text (rows_of (drop i rows)) ≡ find text (rows_of (drop (i + 1) rows))
  found_later row less here same =
      let now : pointwise eqb text (get_or rows i row).0.now ≡ false = ap (λ r. pointwise eqb text r.0.now) (sym here) ∙ same in
      ap (λ xs. find text (rows_of xs)) (drop_more rows i row less) ∙ rw (same_is text (get_or rows i row).0.now ∙ now) refl

  pub found_nowhere : length rows ≤ i → find text (rows_of (drop i rows)) ≡ None
  found_nowhere le = ap (λ xs. find text (rows_of xs)) (drop_of_length-le rows le)
