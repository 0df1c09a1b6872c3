-- Texts between quotes, and quotes that are not closed.
use Rattle.std.proofs.Common.{◌≡◌, ℕ, ◌+◌, ◌≤◌, ◌⊎◌, inl, inr, Bool, true, false, List, [], ◌∷◌, ◌++◌, take, drop, length, arith, refl, ap, ap₂, sym, ◌∙◌, subst, nat_eq, codes, Option, Some, append_assoc, length-append}
use Rattle.std.specs.List.{prefix_len, starts_with}
use Rattle.std.proofs.Math.Seq.{take-append-add}
use Rattle.std.proofs.lemmas.Bool.Decides.{Decides-eqb}
use Rattle.std.proofs.lemmas.List.{take-append-drop, length-take-le}
use Rattle.std.proofs.lemmas.List.Sums.{prefix_len-le-length}
use Rattle.std.proofs.lemmas.Slice.Eq.{starts_is}
use Rattle.sl_lex.specs.Bytes.{is_quote, is_text_byte}
use Rattle.sl_lex.specs.Faults.{IsOpen}
use Rattle.sl_lex.specs.Found.{StandsAs}
use Rattle.sl_lex.specs.Lexemes.{BeginsWith, Stops, IsQuoted, IsLexeme, HasNoLexeme}
use Rattle.sl_lex.specs.declared.mode.Mode.{Mode}
use Rattle.sl_lex.specs.declared.mode.Mode.TheVariants.{Top, Head, Plain, Body, Display, Pattern}
use Rattle.sl_lex.specs.declared.TokKind.{TokKind}
use Rattle.sl_lex.specs.declared.TokKind.TheVariants.{Text}
use Rattle.sl_lex.proofs.CodeLemmas.{code_text, stands}
use Rattle.sl_lex.proofs.DisplayLemmas.{display_text}
use Rattle.sl_lex.proofs.RunLemmas.{one_run, run_at, not_false}

-- A text between quotes is a lexeme of every mode.
text_lexeme : (mode : Mode) (bytes rest : List ℕ) → IsQuoted bytes → IsLexeme mode (Some Text) bytes rest
text_lexeme Top bytes rest h = h
text_lexeme Head bytes rest h = h
text_lexeme Plain bytes rest h = h
text_lexeme Body bytes rest h = h
text_lexeme Display bytes rest h = h
text_lexeme Pattern bytes rest h = h

-- What begins with a quote is a text.
only_quoted : (mode : Mode) (kind : Option TokKind) (front rest bs : List ℕ) → 34 ∷ bs ≡ front ++ rest → IsLexeme mode kind front rest → IsQuoted front
only_quoted Top kind front rest bs e h = code_text Top kind front rest 34 bs refl e h
only_quoted Head kind front rest bs e h = code_text Head kind front rest 34 bs refl e h
only_quoted Plain kind front rest bs e h = code_text Plain kind front rest 34 bs refl e h
only_quoted Body kind front rest bs e h = code_text Body kind front rest 34 bs refl e h
only_quoted Display kind front rest bs e h = display_text kind front rest 34 bs refl e h
only_quoted Pattern kind front rest bs e h = code_text Pattern kind front rest 34 bs refl e h

-- A quoted front ends where the bytes of a text end, and there stands its closing quote.
closes : (front rest bs : List ℕ) (n : ℕ) → n ≡ prefix_len is_text_byte bs → 34 ∷ bs ≡ front ++ rest → IsQuoted front
    → (length front ≡ n + 2) × (drop n bs ≡ 34 ∷ rest)
closes front rest bs n e f (inside, split, all) =
    let whole : 34 ∷ bs ≡ 34 ∷ (inside ++ (34 ∷ rest)) =
    f ∙ ap (λ (t : List ℕ). t ++ rest) split ∙ append_assoc (34 ∷ inside) (34 ∷ []) rest in
    let behind : bs ≡ inside ++ (34 ∷ rest) = ap (drop 1) whole in
    let same = one_run is_text_byte (take n bs) (drop n bs) inside (34 ∷ rest) (take-append-drop n bs ∙ behind) (run_at is_text_byte bs n e) (all, refl) in
    let within : n ≤ length bs = omega (arith, e, prefix_len-le-length is_text_byte bs) in
    (omega (arith, ap length split, length-append (34 ∷ inside) (34 ∷ []), ap length same.0, length-take-le n bs within), same.1)

two_more : (n : ℕ) (bs rest : List ℕ) → n ≤ length bs → drop n bs ≡ 34 ∷ rest → take (n + 2) (34 ∷ bs) ≡ 34 ∷ take n bs ++ 34 ∷ []
two_more n bs rest within e =
    let front : List ℕ = 34 ∷ take n bs in
    let split : 34 ∷ bs ≡ front ++ (34 ∷ rest) = ap (λ (t : List ℕ). 34 ∷ t) (sym (take-append-drop n bs) ∙ ap (λ (t : List ℕ). take n bs ++ t) e) in
    let counted : n + 2 ≡ length front + 1 = omega (arith, length-take-le n bs within) in
    ap₂ (λ (k : ℕ) (t : List ℕ). take k t) counted split ∙ take-append-add front (34 ∷ rest) 1

text_stands : (mode : Mode) (bs rest : List ℕ) (n : ℕ) → n ≡ prefix_len is_text_byte bs → drop n bs ≡ 34 ∷ rest → StandsAs mode (Some Text) (n + 2) (34 ∷ bs)
text_stands mode bs rest n e f =
    let within : n ≤ length bs = omega (arith, e, prefix_len-le-length is_text_byte bs) in
    let lengths : length bs ≡ n + length (34 ∷ rest) =
    ap length (sym (take-append-drop n bs) ∙ ap (λ (t : List ℕ). take n bs ++ t) f) ∙ length-append (take n bs) (34 ∷ rest)
    ∙ ap (λ (k : ℕ). k + length (34 ∷ rest)) (length-take-le n bs within) in
    stands mode (Some Text) (n + 2) (34 ∷ bs) (omega arith)
    (text_lexeme mode (take (n + 2) (34 ∷ bs)) (drop (n + 2) (34 ∷ bs)) (take n bs, two_more n bs rest within f, (run_at is_text_byte bs n e).0))
    (λ other front after g l. omega (arith, (closes front after bs n e g (only_quoted mode other front after bs g l)).0))

-- Where the bytes of a text end behind a quote, no lexeme stands unless the closing quote does.
no_text : (mode : Mode) (bs : List ℕ) (n : ℕ) → n ≡ prefix_len is_text_byte bs → ((rest : List ℕ) → drop n bs ≡ 34 ∷ rest → ⊥) → HasNoLexeme mode (34 ∷ bs)
no_text mode bs n e none = λ kind front rest f l. none rest (closes front rest bs n e f (only_quoted mode kind front rest bs f l)).1

begins_quoted : (text : List ℕ) → BeginsWith is_quote text → text ≡ 34 ∷ drop 1 text
begins_quoted [] h = absurd h
begins_quoted (b ∷ bs) h = ap (λ (x : ℕ). x ∷ bs) ((Decides-eqb b 34).0 h)

whole_text : (text inside : List ℕ) → BeginsWith is_quote text → inside ≡ drop 1 text → 34 ∷ inside ≡ text
whole_text text inside h is = ap (λ (t : List ℕ). 34 ∷ t) is ∙ sym (begins_quoted text h)

pub text_at : (mode : Mode) (text inside rest : List ℕ) (n : ℕ) → BeginsWith is_quote text → inside ≡ drop 1 text → n ≡ prefix_len is_text_byte inside
    → rest ≡ drop n inside → starts_with nat_eq rest (codes "\"") ≡ true → StandsAs mode (Some Text) (n + 2) text
text_at mode text inside rest n h is e back starts =
    let split : rest ≡ 34 ∷ drop 1 rest = (starts_is Decides-eqb rest (34 ∷ []) _ refl).0 starts in
    subst (λ (t : List ℕ). StandsAs mode (Some Text) (n + 2) t) (whole_text text inside h is) (text_stands mode inside (drop 1 rest) n e (sym back ∙ split))

pub no_text_at : (mode : Mode) (text inside rest : List ℕ) (n : ℕ) → BeginsWith is_quote text → inside ≡ drop 1 text → n ≡ prefix_len is_text_byte inside
    → rest ≡ drop n inside → starts_with nat_eq rest (codes "\"") ≡ false → HasNoLexeme mode text
no_text_at mode text inside rest n h is e back fails =
    let none : (after : List ℕ) → drop n inside ≡ 34 ∷ after → ⊥ =
    λ after f. not_false (starts_with nat_eq rest (34 ∷ [])) ((starts_is Decides-eqb rest (34 ∷ []) _ refl).1 after (back ∙ f)) fails in
    subst (λ (t : List ℕ). HasNoLexeme mode t) (whole_text text inside h is) (no_text mode inside n e none)

quote_or_not : (b : ℕ) (rest : List ℕ) (q : Bool) → is_quote b ≡ q → Stops is_quote (b ∷ rest) ⊎ ((after : List ℕ) × (b ∷ rest ≡ 34 ∷ after))
quote_or_not b rest true h = inr (rest, ap (λ (x : ℕ). x ∷ rest) ((Decides-eqb b 34).0 h))
quote_or_not b rest false h = inl h

no_quote : (rest : List ℕ) → Stops is_quote rest ⊎ ((after : List ℕ) × (rest ≡ 34 ∷ after))
no_quote [] = inl tt
no_quote (b ∷ rest) = quote_or_not b rest (is_quote b) refl

-- Behind an opening quote at whose place no lexeme stands, the bytes of a text end before something else.
pub open_at : (mode : Mode) (bs : List ℕ) (n : ℕ) → n ≡ prefix_len is_text_byte bs → HasNoLexeme mode (34 ∷ bs) → IsOpen (34 ∷ bs) (take n bs) (drop n bs)
open_at mode bs n e none = record {
  split = ap (λ (t : List ℕ). 34 ∷ t) (sym (take-append-drop n bs));
  bytes = (run_at is_text_byte bs n e).0;
  ends = (run_at is_text_byte bs n e).1;
  unclosed = elim (no_quote (drop n bs)) [
    | inl stops ↦ stops
    | inr quote ↦
        let stand = text_stands mode bs quote.0 n e quote.1 in
        absurd (none (Some Text) (take (n + 2) (34 ∷ bs)) (drop (n + 2) (34 ∷ bs)) (sym (take-append-drop (n + 2) (34 ∷ bs))) stand.longest.lexeme)
  ];
}
