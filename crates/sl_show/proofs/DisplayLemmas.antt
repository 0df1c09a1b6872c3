-- Displays, as loops go over them.
use Rattle.std.proofs.Common.{◌≡◌, ◌+◌, ◌<◌, ℕ, Bool, true, false, List, [], ◌∷◌, ◌++◌, length, get_or, drop, sym, ap, ◌∙◌, append_assoc, append-nil}
use Rattle.std.specs.Prelude.{◌&&◌, if◌then◌else◌}
use Rattle.std.specs.List.{flat_map}
use Rattle.std.proofs.lemmas.List.{drop_more, get_or_default}
use Rattle.sl_ast.specs.Trees.{Name, Piece, piece_blank}
use Rattle.sl_spec_constructors.specs.Displays.{behind, is_blank, is_literal}
use Rattle.sl_show.specs.Pieces.{ends_blanks, front, is_passed, literal_text, piece_text_by, pieces_text}

module _ (ps : List Piece) (i : ℕ) (p : Piece) (below : i < length ps) (is : p ≡ get_or ps i p) where
  pub at : drop i ps ≡ p ∷ drop (i + 1) ps
  at = drop_more ps i p below ∙ ap (λ (q : Piece). q ∷ drop (i + 1) ps) (sym is)

  pub is_passed_at : (blank behind : Bool) → blank ≡ is_blank p → behind ≡ ends_blanks (drop (i + 1) ps) → (blank && behind) ≡ is_passed (drop i ps)
  is_passed_at blank behind b e = ap (λ x. x && behind) b ∙ ap (λ x. is_blank p && x) e ∙ sym (ap is_passed at)

  passed_at : (words : Name → List ℕ) (old : List ℕ) → is_passed (drop i ps) ≡ true
      → old ++ pieces_text words (drop (i + 1) ps) ≡ old ++ pieces_text words (drop i ps)
  passed_at words old holds =
      let here : is_passed (p ∷ drop (i + 1) ps) ≡ true = sym (ap is_passed at) ∙ holds in
      ap (λ l. old ++ l) (sym (ap (λ b. if b then pieces_text words (drop (i + 1) ps) else piece_text_by words p ++ pieces_text words (drop (i + 1) ps)) here)
      ∙ sym (ap (pieces_text words) at))

  pub added : (words : Name → List ℕ) (old new : List ℕ) → is_passed (drop i ps) ≡ false → new ≡ old ++ piece_text_by words p
      → new ++ pieces_text words (drop (i + 1) ps) ≡ old ++ pieces_text words (drop i ps)
  added words old new otherwise one =
      let fails : is_passed (p ∷ drop (i + 1) ps) ≡ false = sym (ap is_passed at) ∙ otherwise in
      ap (λ l. l ++ pieces_text words (drop (i + 1) ps)) one ∙ append_assoc old (piece_text_by words p) (pieces_text words (drop (i + 1) ps))
      ∙ ap (λ l. old ++ l) (sym (ap (λ b. if b then pieces_text words (drop (i + 1) ps) else piece_text_by words p ++ pieces_text words (drop (i + 1) ps)) fails)
      ∙ sym (ap (pieces_text words) at))

  -- one more piece of a mnemonic
  pub goes_on : (old new whole : List ℕ) → is_literal p ≡ true → new ≡ old ++ literal_text p
      → old ++ flat_map literal_text (front is_literal (drop i ps)) ≡ whole → new ++ flat_map literal_text (front is_literal (drop (i + 1) ps)) ≡ whole
  goes_on old new whole holds one so_far =
      let rest = front is_literal (drop (i + 1) ps) in
      let here : front is_literal (drop i ps) ≡ p ∷ rest = ap (front is_literal) at ∙ ap (λ b. if b then p ∷ rest else []) holds in
      ap (λ l. l ++ flat_map literal_text rest) one ∙ append_assoc old (literal_text p) (flat_map literal_text rest)
      ∙ sym (ap (λ qs. old ++ flat_map literal_text qs) here) ∙ so_far

  -- its end
  pub stops : (old whole : List ℕ) → is_literal p ≡ false → old ++ flat_map literal_text (front is_literal (drop i ps)) ≡ whole → old ≡ whole
  stops old whole fails so_far =
      let here : front is_literal (drop i ps) ≡ [] = ap (front is_literal) at ∙ ap (λ b. if b then p ∷ front is_literal (drop (i + 1) ps) else []) fails in
      sym (append-nil old) ∙ sym (ap (λ qs. old ++ flat_map literal_text qs) here) ∙ so_far

-- a blank before another one, or before the end
pub passed : (ps : List Piece) (i : ℕ) → i < length ps → (words : Name → List ℕ) (old : List ℕ) → is_passed (drop i ps) ≡ true
    → old ++ pieces_text words (drop (i + 1) ps) ≡ old ++ pieces_text words (drop i ps)
passed ps i below words old holds =
    let d = piece_blank [] in
    passed_at ps i (get_or ps i d) below (get_or_default ps i d (get_or ps i d) below) words old holds
