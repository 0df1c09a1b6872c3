-- The first piece that fails a test, as a loop finds it.
use Rattle.std.proofs.Common.{◌≡◌, ◌+◌, ◌<◌, ◌≤◌, ℕ, Bool, true, false, List, ◌∷◌, length, get_or, drop, sym, ap, ◌∙◌}
use Rattle.std.specs.Prelude.{if◌then◌else◌}
use Rattle.std.proofs.lemmas.List.{drop_more}
use Rattle.std.proofs.Math.ListN.{drop_of_length-le}
use Rattle.sl_ast.specs.Trees.{Piece}
use Rattle.sl_spec_constructors.specs.Displays.{behind}

module _ (test : Piece → Bool) (ps whole : List Piece) where
  at : (i : ℕ) (p : Piece) → i < length ps → p ≡ get_or ps i p → drop i ps ≡ p ∷ drop (i + 1) ps
  at i p below is = drop_more ps i p below ∙ ap (λ (q : Piece). q ∷ drop (i + 1) ps) (sym is)

  pub behind_goes : (i : ℕ) (p : Piece) → i < length ps → p ≡ get_or ps i p → test p ≡ true → behind test (drop i ps) ≡ whole → behind test (drop (i + 1) ps) ≡ whole
  behind_goes i p below is passes so_far =
      sym (ap (λ b. if b then behind test (drop (i + 1) ps) else p ∷ drop (i + 1) ps) passes) ∙ sym (ap (behind test) (at i p below is)) ∙ so_far

  pub behind_stops : (i : ℕ) (p : Piece) → i < length ps → p ≡ get_or ps i p → test p ≡ false → behind test (drop i ps) ≡ whole → drop i ps ≡ whole
  behind_stops i p below is fails so_far =
      at i p below is ∙ sym (ap (λ b. if b then behind test (drop (i + 1) ps) else p ∷ drop (i + 1) ps) fails) ∙ sym (ap (behind test) (at i p below is)) ∙ so_far

  pub behind_ends : (i n : ℕ) → length ps ≤ i → length ps ≤ n → behind test (drop i ps) ≡ whole → drop n ps ≡ whole
  behind_ends i n end last so_far =
      drop_of_length-le ps last ∙ ap (behind test) (sym (drop_of_length-le ps end)) ∙ so_far
