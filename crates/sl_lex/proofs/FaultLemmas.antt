-- Why a text does not go on, and where.
use Rattle.std.proofs.Common.{◌≡◌, ℕ, ◌+◌, ◌<◌, inl, inr, true, false, List, [], ◌∷◌, take, drop, length, get_or, arith, refl, ap, sym, ◌∙◌, subst}
use Rattle.std.specs.List.{prefix_len}
use Rattle.std.proofs.lemmas.Bool.Decides.{nat_tests}
use Rattle.std.proofs.lemmas.List.{length-take-le}
use Rattle.sl_lex.specs.Bytes.{is_quote, is_text_byte}
use Rattle.sl_lex.specs.Faults.{IsOpen, is_at_line_end}
use Rattle.sl_lex.specs.Found.{Blames}
use Rattle.sl_lex.specs.Lexemes.{Stops, HasNoLexeme}
use Rattle.sl_lex.specs.declared.LexError.TheVariants.{BadByte, OpenString}
use Rattle.sl_lex.specs.declared.mode.Mode.{Mode}
use Rattle.sl_lex.proofs.QuoteLemmas.{open_at}
use Rattle.sl_lex.proofs.RunLemmas.{run_within}

pub no_quote_code : (b : ℕ) → (b ≡ 34 → ⊥) → is_quote b ≡ false
no_quote_code b h = grind (arith, nat_tests)

stops_at_first : (text : List ℕ) → (get_or text 0 0 ≡ 34 → ⊥) → Stops is_quote text
stops_at_first [] h = tt
stops_at_first (b ∷ bs) h = no_quote_code b h

pub blames_first : (mode : Mode) (from : ℕ) (text : List ℕ) → 0 < length text → (get_or text 0 0 ≡ 34 → ⊥) → HasNoLexeme mode text → Blames mode from text (BadByte from)
blames_first mode from text some h none = (0, (none, inl (some, stops_at_first text h, refl)), omega arith)

-- A quote at the front, and what stands behind it.
record Quoted (text inside rest : List ℕ) (n : ℕ) : Type 0 where
  whole : 34 ∷ inside ≡ text
  counted : n ≡ prefix_len is_text_byte inside
  back : rest ≡ drop n inside

quote_front : (text inside : List ℕ) → 0 < length text → get_or text 0 0 ≡ 34 → inside ≡ drop 1 text → 34 ∷ inside ≡ text
quote_front [] inside some h e = absurd (omega arith)
quote_front (b ∷ bs) inside some h e = ap (λ (t : List ℕ). 34 ∷ t) e ∙ ap (λ (x : ℕ). x ∷ bs) (sym h)

opened : (mode : Mode) (text inside rest : List ℕ) (n : ℕ) → Quoted text inside rest n → HasNoLexeme mode text → IsOpen text (take n inside) rest
opened mode text inside rest n h none =
    let here : IsOpen (34 ∷ inside) (take n inside) (drop n inside) =
    open_at mode inside n h.counted (subst (λ (t : List ℕ). HasNoLexeme mode t) (sym h.whole) none) in
    subst (λ (r : List ℕ). IsOpen text (take n inside) r) (sym h.back) (subst (λ (t : List ℕ). IsOpen t (take n inside) (drop n inside)) h.whole here)

pub blames_quote : (mode : Mode) (from : ℕ) (text inside rest : List ℕ) (n : ℕ) → 0 < length text → get_or text 0 0 ≡ 34 → inside ≡ drop 1 text
    → n ≡ prefix_len is_text_byte inside → rest ≡ drop n inside → is_at_line_end rest ≡ true → HasNoLexeme mode text → Blames mode from text (OpenString from)
blames_quote mode from text inside rest n some first is e back ends none =
    let h : Quoted text inside rest n = record { whole = quote_front text inside some first is; counted = e; back = back } in
    (0, (none, (take n inside, rest, opened mode text inside rest n h none, ends, refl)), omega arith)

pub blames_inside : (mode : Mode) (from : ℕ) (text inside rest : List ℕ) (n : ℕ) → 0 < length text → get_or text 0 0 ≡ 34 → inside ≡ drop 1 text
    → n ≡ prefix_len is_text_byte inside → rest ≡ drop n inside → is_at_line_end rest ≡ false → HasNoLexeme mode text → Blames mode from text (BadByte (from + 1 + n))
blames_inside mode from text inside rest n some first is e back ends none =
    let h : Quoted text inside rest n = record { whole = quote_front text inside some first is; counted = e; back = back } in
    let counted : length (take n inside) ≡ n = length-take-le n inside (run_within is_text_byte inside n e) in
    (1 + length (take n inside), (none, inr (take n inside, rest, opened mode text inside rest n h none, ends, refl)), omega arith)
