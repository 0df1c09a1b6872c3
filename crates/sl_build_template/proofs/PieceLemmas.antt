-- Pieces one behind the other.
use Rattle.std.proofs.Common.{◌≡◌, ◌++◌, ◌∙◌, ℕ, List, Ok, Err, OnOk, ap, append_assoc}
use Rattle.std.specs.Prelude.{Result}
use Rattle.sl_section_flat.specs.Views.{terms_of}
use Rattle.sl_section_flat.specs.Chains.{chain}
use Rattle.sl_section_flat.specs.declared.term.Term.{Term}
use Rattle.sl_build_template.specs.Pieces as p
use Rattle.sl_build_template.specs.Pieces.{Form, terms_before, terms_values}
use Rattle.sl_build_template.specs.Views.{pieces_of}
use Rattle.sl_build_template.specs.declared.piece.Piece.{Piece}
use Rattle.sl_build_template.specs.declared.slot.Slot.{Slot}

-- what is there behind some arguments, and what the rest gives, is all
pub record AreArguments (h : Form) (t : ℕ) (start now : List Piece) (first inputs : List Slot) (free : ℕ) (es left : List Term) : Type 0 where
  pub code : pieces_of now ++ terms_before h free (chain (terms_of left)) ≡ pieces_of start ++ terms_before h t (chain (terms_of es))
  pub values : inputs ++ terms_values h free (chain (terms_of left)) ≡ first ++ terms_values h t (chain (terms_of es))

-- what holds where a call succeeds
pub mapped : {T E : Type 0} (r : Result T E) (P Q : Type 0) → (P → Q) → OnOk r P → OnOk r Q
mapped (Ok v) P Q f h = f h
mapped (Err e) P Q f h = h

-- three times more
pub thrice : (start one two all a b c : List p.Piece) → one ≡ start ++ a → two ≡ one ++ b → all ≡ two ++ c → all ≡ start ++ (a ++ (b ++ c))
thrice start one two all a b c first second third =
    third ∙ ap (λ ps. ps ++ c) (second ∙ ap (λ ps. ps ++ b) first ∙ append_assoc start a b)
    ∙ append_assoc start (a ++ b) c ∙ ap (λ ps. start ++ ps) (append_assoc a b c)
