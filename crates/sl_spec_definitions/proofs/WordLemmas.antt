-- The bytes of the word with some bytes are those bytes.
use Rattle.std.proofs.Common.{◌≡◌, ℕ, List, [], ◌∷◌, Bool, true, cond, Option, Some, None, refl, sym, ap, ◌∙◌, inl, inr}
use Rattle.std.proofs.lemmas.Bool.{cases_Bool, eqb-true}
use Rattle.std.specs.Prelude.{◌==◌}
use Rattle.std.specs.List.{AllByRecursion}
use Rattle.sl_ast.specs.Symbols.{find, keyword_of, keywords, same_bytes, word_by, word_of}
use Rattle.sl_ast.specs.declared.symbols.Keyword.{Keyword}
use Rattle.sl_spec_registers.proofs.BoolLemmas.{and_parts}
use Rattle.sl_spec_definitions.specs.Words.{bytes_in, word_bytes}

pub same_are : (a b : List ℕ) → same_bytes a b ≡ true → a ≡ b
same_are [] [] e = refl
same_are [] (b ∷ bs) e = absurd (cc)
same_are (a ∷ as') [] e = absurd (cc)
same_are (a ∷ as') (b ∷ bs) e =
    let both = and_parts (a == b) (same_bytes as' bs) e in
    let first : a ≡ b = eqb-true a b both.0 in
    let rest : as' ≡ bs = same_are as' bs both.1 in
    cc

-- a row has its keyword's bytes
abbrev HasItsBytes : List ℕ × Keyword → Type 0
HasItsBytes row = bytes_in keywords row.1 ≡ row.0

rows_have : AllByRecursion HasItsBytes keywords
rows_have = (refl, (refl, (refl, (refl, (refl, (refl, (refl, (refl, (refl, (refl, (refl, (refl, (refl, (refl, (refl, (refl, (refl, (refl, (refl, (refl, (refl, (refl, (refl, (refl, (refl, (refl, (refl, (refl, (refl, (refl, (refl, (refl, (refl, (refl, (refl, (refl, tt))))))))))))))))))))))))))))))))))))

found_at : (bytes : List ℕ) (row : List ℕ × Keyword) (found : Option Keyword) → HasItsBytes row → same_bytes bytes row.0 ≡ true → Some row.1 ≡ found
    → word_bytes (word_by found bytes) ≡ bytes
unfolding word_bytes
found_at bytes row None have same is = absurd (cc)
found_at bytes row (Some keyword) have same is = let this : row.1 ≡ keyword = cc in ap (bytes_in keywords) (sym this) ∙ have ∙ sym (same_are bytes row.0 same)

found_bytes : (bytes : List ℕ) (rows : List (List ℕ × Keyword)) (found : Option Keyword) → AllByRecursion HasItsBytes rows → find bytes rows ≡ found
    → word_bytes (word_by found bytes) ≡ bytes
unfolding word_bytes
found_bytes bytes [] None have is = refl
found_bytes bytes [] (Some k) have is = absurd (cc)
found_bytes bytes (row ∷ rows) found have is = elim (cases_Bool (same_bytes bytes row.0)) [
  | inl here ↦ found_at bytes row found have.0 here (sym (ap (λ (t : Bool). cond t (Some row.1) (find bytes rows)) here) ∙ is)
  | inr later ↦ found_bytes bytes rows found have.1 (sym (ap (λ (t : Bool). cond t (Some row.1) (find bytes rows)) later) ∙ is)
]

pub word_again : (bytes : List ℕ) → word_bytes (word_of bytes) ≡ bytes
unfolding word_of keyword_of
word_again bytes = found_bytes bytes keywords (find bytes keywords) rows_have refl
