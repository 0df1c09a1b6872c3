-- One fault alone stands at the front of a text.
use Rattle.std.proofs.Common.{◌≡◌, ℕ, ◌<◌, inl, inr, true, false, List, [], ◌∷◌, ◌++◌, length, drop, arith, refl, ap, sym, ◌∙◌, subst, Some}
use Rattle.sl_lex.specs.Bytes.{is_quote, is_text_byte}
use Rattle.sl_lex.specs.Faults.{Fault, IsOpen, IsBadByte, IsOpenQuote, IsTooWide, IsFault, is_at_line_end}
use Rattle.sl_lex.specs.Faults.Fault.{NoLexeme, OpenQuote, TooWide}
use Rattle.sl_lex.specs.Lexemes.{Stops, HasNoLexeme}
use Rattle.sl_lex.specs.declared.mode.Mode.{Mode}
use Rattle.sl_lex.specs.declared.TokKind.TheVariants.{Integer}
use Rattle.sl_lex.proofs.RunLemmas.{one_run, not_false}

one_open : (text inside rest other after : List ℕ) → IsOpen text inside rest → IsOpen text other after → (inside ≡ other) × (rest ≡ after)
one_open text inside rest other after h k =
    let same : inside ++ rest ≡ other ++ after = ap (drop 1) (sym h.split ∙ k.split) in
    one_run is_text_byte inside rest other after same (h.bytes, h.ends) (k.bytes, k.ends)

open_begins : (text inside rest : List ℕ) → IsOpen text inside rest → Stops is_quote text → ⊥
open_begins text inside rest h stops =
    let quote : Stops is_quote (34 ∷ inside ++ rest) = subst (λ (t : List ℕ). Stops is_quote t) h.split stops in
    let wrong : true ≡ false = quote in absurd (cc)

one_bad_byte : (x y : ℕ) (text : List ℕ) → IsBadByte x text → IsBadByte y text → x ≡ y
one_bad_byte x y text (inl h) (inl k) = h.2 ∙ sym k.2
one_bad_byte x y text (inl h) (inr (inside, rest, open', ends, e)) = absurd (open_begins text inside rest open' h.1)
one_bad_byte x y text (inr (inside, rest, open', ends, e)) (inl k) = absurd (open_begins text inside rest open' k.1)
one_bad_byte x y text (inr (inside, rest, open', ends, e)) (inr (other, after, open'', ends', e')) =
    omega (arith, ap length (one_open text inside rest other after open' open'').0)

bad_no_open : (x y : ℕ) (text : List ℕ) → IsBadByte x text → IsOpenQuote y text → ⊥
bad_no_open x y text (inl h) (inside, rest, open', ends, e) = open_begins text inside rest open' h.1
bad_no_open x y text (inr (inside, rest, open', ends, e)) (other, after, open'', ends', e') =
    let same : rest ≡ after = (one_open text inside rest other after open' open'').1 in
    not_false (is_at_line_end rest) (ap is_at_line_end same ∙ ends') ends

wide_no_none : (mode : Mode) (text : List ℕ) → IsTooWide mode text → HasNoLexeme mode text → ⊥
wide_no_none mode text (value, bytes, rest, split, longest, wide) none = none (Some (Integer value)) bytes rest split longest.lexeme

pub one_fault : (mode : Mode) (f g : Fault) (x y : ℕ) (text : List ℕ) → IsFault mode f x text → IsFault mode g y text → (f ≡ g) × (x ≡ y)
one_fault mode NoLexeme NoLexeme x y text h k = (refl, one_bad_byte x y text h.1 k.1)
one_fault mode NoLexeme OpenQuote x y text h k = absurd (bad_no_open x y text h.1 k.1)
one_fault mode NoLexeme TooWide x y text h k = absurd (wide_no_none mode text k.0 h.0)
one_fault mode OpenQuote NoLexeme x y text h k = absurd (bad_no_open y x text k.1 h.1)
one_fault mode OpenQuote OpenQuote x y text (none, (inside, rest, open', ends, e)) (none', (inside', rest', open'', ends', e')) = (refl, e ∙ sym e')
one_fault mode OpenQuote TooWide x y text h k = absurd (wide_no_none mode text k.0 h.0)
one_fault mode TooWide NoLexeme x y text h k = absurd (wide_no_none mode text h.0 k.0)
one_fault mode TooWide OpenQuote x y text h k = absurd (wide_no_none mode text h.0 k.0)
one_fault mode TooWide TooWide x y text h k = (refl, h.1 ∙ sym k.1)

pub bad_some : (x : ℕ) (text : List ℕ) → IsBadByte x text → text ≡ [] → ⊥
bad_some x text (inl h) e = let some : 0 < length text = h.0 in omega (arith, ap length e)
bad_some x text (inr (inside, rest, open', ends, e')) e = let wrong : 34 ∷ inside ++ rest ≡ [] = sym open'.split ∙ e in absurd (cc)

pub open_some : (x : ℕ) (text : List ℕ) → IsOpenQuote x text → text ≡ [] → ⊥
open_some x text (inside, rest, open', ends, e') e = let wrong : 34 ∷ inside ++ rest ≡ [] = sym open'.split ∙ e in absurd (cc)
