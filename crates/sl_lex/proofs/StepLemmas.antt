-- The piece at the front of a text.
use Rattle.std.proofs.Common.{◌≡◌, ℕ, List, ◌++◌, take, drop, refl, sym, ◌∙◌, ap₂, subst, Option, take-append-drop}
use Rattle.sl_lex.specs.Found.{StandsAs}
use Rattle.sl_lex.specs.Lexemes.{IsLongest}
use Rattle.sl_lex.specs.Reading.{IsPieceAt, Fits}
use Rattle.sl_lex.specs.declared.TokKind.{TokKind}
use Rattle.sl_lex.specs.declared.mode.Mode.{Mode}

-- The lexeme that stands at the front is a piece of the text.
pub piece_here : (mode : Mode) (from : ℕ) (kind : Option TokKind) (n : ℕ) (text bytes rest : List ℕ) → StandsAs mode kind n text → Fits kind
    → bytes ≡ take n text → rest ≡ drop n text → IsPieceAt mode from text (record { kind = kind; text = bytes; from = from }) rest
piece_here mode from kind n text bytes rest h fits front back = record {
  split = sym (take-append-drop n text) ∙ ap₂ (λ (a b : List ℕ). a ++ b) (sym front) (sym back);
  longest = subst (λ (r : List ℕ). IsLongest mode kind bytes r) (sym back) (subst (λ (t : List ℕ). IsLongest mode kind t (drop n text)) (sym front) h.longest);
  fits = fits;
  place = refl;
}
