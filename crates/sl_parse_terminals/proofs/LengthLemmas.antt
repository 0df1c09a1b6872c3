-- A text is found among the rows of its own length as among all.
use Rattle.std.proofs.Common.{◌≡◌, ℕ, suc, ◌==◌, false, cond, List, [], ◌∷◌, length, Some, refl, ap, inl, inr}
use Rattle.std.proofs.lemmas.Bool.{and_right, cases_Bool, eqb-false}
use Rattle.sl_ast.specs.Symbols.{same_bytes, find}
use Rattle.sl_parse_terminals.specs.Lengths.{of_length}

-- Texts of two lengths aren't the same.
not_same : (a b : List ℕ) → (length b ≡ length a → ⊥) → same_bytes a b ≡ false
not_same [] [] differ = absurd (differ refl)
not_same [] (y ∷ ys) differ = refl
not_same (x ∷ xs) [] differ = refl
not_same (x ∷ xs) (y ∷ ys) differ = and_right (x == y) (same_bytes xs ys) (not_same xs ys (λ same. differ (ap suc same)))

-- To find a text among rows is to find it among those that have its length.
pub found_by_length : {A : Type 0} (text : List ℕ) (rows : List (List ℕ × A)) → find text (of_length (length text) rows) ≡ find text rows
found_by_length text [] = refl
found_by_length text (row ∷ rows) = elim (cases_Bool (length row.0 == length text)) [
  | inl like ↦ rw like (ap (λ found. cond (same_bytes text row.0) (Some row.1) found) (found_by_length text rows))
  | inr unlike ↦ rw unlike (rw (not_same text row.0 (eqb-false (length row.0) (length text) unlike)) (found_by_length text rows))
]
