-- One longest lexeme alone stands at the front of a text.
use Rattle.std.proofs.Common.{◌≡◌, ℕ, ◌<◌, ◌≤◌, ◌&&◌, Bool, true, false, not, List, [], ◌∷◌, ◌++◌, length, arith, refl, ap, subst, append-nil, sym, ◌∙◌, nat_eq, Option, Some, None}
use Rattle.std.specs.Prelude.{Contains}
use Rattle.std.specs.List.{list_all}
use Rattle.sl_lex.specs.Bytes.{is_word_byte}
use Rattle.sl_lex.specs.Lexemes.{IsWord, HasNoDots, IsCodeLexeme, IsDisplayLexeme, IsLexeme, IsLongest, begins_with_dots}
use Rattle.sl_lex.specs.Marks.{marks_of}
use Rattle.sl_lex.specs.declared.mode.Mode.{Mode}
use Rattle.sl_lex.specs.declared.mode.Mode.TheVariants.{Top, Head, Plain, Body, Display, Pattern}
use Rattle.sl_lex.specs.declared.TokKind.{TokKind}
use Rattle.sl_lex.specs.declared.TokKind.TheVariants.{Word, Integer, Text, Mark, Blank, Caret, Char}
use Rattle.sl_lex.proofs.CodeLemmas.{class_of_kind, kind_class, kept_class}
use Rattle.sl_lex.proofs.DisplayLemmas.{display_class_of_kind, display_kind}
use Rattle.sl_lex.proofs.MarkLemmas.{all_pass}
use Rattle.sl_lex.proofs.RunLemmas.{one_front}
use Rattle.sl_lex.proofs.ReadingLemmas.{lexeme_some}
use Rattle.sl_lex.proofs.SpelledLemmas.{one_integer}

-- the test that a mark passes and no word does: it is three dots, or has a byte that no word has
abbrev no_word : List ℕ → Bool
no_word mark = not (list_all is_word_byte mark && not (begins_with_dots mark))

no_words : (mode : Mode) → list_all no_word (marks_of mode) ≡ true
no_words Top = refl
no_words Head = refl
no_words Plain = refl
no_words Body = refl
no_words Display = refl
no_words Pattern = refl

both_fail : (a d : Bool) → not (a && not d) ≡ true → a ≡ true → d ≡ false → ⊥
both_fail true false h e f = let wrong : false ≡ true = h in absurd (cc)
both_fail true true h e f = absurd (cc)
both_fail false d h e f = absurd (cc)

and_none : (a : Bool) → (a && false) ≡ false
and_none true = refl
and_none false = refl

undotted : (b : ℕ) (bs rest : List ℕ) → HasNoDots (b ∷ bs) rest → begins_with_dots (b ∷ bs) ≡ false
undotted b [] rest h = and_none (nat_eq 46 b)
undotted b (c ∷ []) rest h = rw (and_none (nat_eq 46 c)) (and_none (nat_eq 46 b))
undotted b (c ∷ d ∷ ds) rest h = h.0

-- A word is no mark.
word_no_mark : (mode : Mode) (bytes rest : List ℕ) → IsWord bytes → HasNoDots bytes rest → Contains (marks_of mode) bytes → ⊥
word_no_mark mode [] rest word dots among = word.0
word_no_mark mode (b ∷ bs) rest word dots among =
    both_fail (list_all is_word_byte (b ∷ bs)) (begins_with_dots (b ∷ bs)) (all_pass no_word (marks_of mode) (b ∷ bs) (no_words mode) among) word.1 (undotted b bs rest dots)

one_code_kind : (mode : Mode) (j k : Option TokKind) (b : ℕ) (bs rest : List ℕ) → IsCodeLexeme (marks_of mode) j (b ∷ bs) rest
    → IsCodeLexeme (marks_of mode) k (b ∷ bs) rest → j ≡ k
one_code_kind mode (Some Word) (Some Mark) b bs rest h l = absurd (word_no_mark mode (b ∷ bs) rest h.0 h.1 l)
one_code_kind mode (Some Mark) (Some Word) b bs rest h l = absurd (word_no_mark mode (b ∷ bs) rest l.0 l.1 h)
one_code_kind mode (Some Word) (Some Word) b bs rest h l = refl
one_code_kind mode (Some Mark) (Some Mark) b bs rest h l = refl
one_code_kind mode (Some Text) (Some Text) b bs rest h l = refl
one_code_kind mode None None b bs rest h l = refl
one_code_kind mode (Some (Integer m)) (Some (Integer n)) b bs rest h l = ap (λ (v : ℕ). Some (Integer v)) (one_integer m n (b ∷ bs) h l)
one_code_kind mode None (Some k) b bs rest h l =
    absurd (kept_class k (sym (class_of_kind mode (Some k) (b ∷ bs) rest b (bs ++ rest) refl l) ∙ class_of_kind mode None (b ∷ bs) rest b (bs ++ rest) refl h))
one_code_kind mode (Some j) None b bs rest h l =
    absurd (kept_class j (sym (class_of_kind mode (Some j) (b ∷ bs) rest b (bs ++ rest) refl h) ∙ class_of_kind mode None (b ∷ bs) rest b (bs ++ rest) refl l))
one_code_kind mode (Some Blank) k b bs rest h l = absurd h
one_code_kind mode (Some Caret) k b bs rest h l = absurd h
one_code_kind mode (Some Char) k b bs rest h l = absurd h
one_code_kind mode j k b bs rest h l =
    let same : kind_class j ≡ kind_class k = sym (class_of_kind mode j (b ∷ bs) rest b (bs ++ rest) refl h) ∙ class_of_kind mode k (b ∷ bs) rest b (bs ++ rest) refl l in
    absurd (omega arith)

one_display_kind : (j k : Option TokKind) (b : ℕ) (bs : List ℕ) → IsDisplayLexeme j (b ∷ bs) → IsDisplayLexeme k (b ∷ bs) → j ≡ k
one_display_kind (Some Word) (Some Word) b bs h l = refl
one_display_kind (Some Text) (Some Text) b bs h l = refl
one_display_kind (Some Blank) (Some Blank) b bs h l = refl
one_display_kind (Some Caret) (Some Caret) b bs h l = refl
one_display_kind (Some Char) (Some Char) b bs h l = refl
one_display_kind None k b bs h l = absurd h
one_display_kind (Some Mark) k b bs h l = absurd h
one_display_kind (Some (Integer value)) k b bs h l = absurd h
one_display_kind j None b bs h l = absurd l
one_display_kind j k b bs h l =
    let same : display_kind j ≡ display_kind k =
    sym (display_class_of_kind j (b ∷ bs) [] b bs (sym (append-nil (b ∷ bs))) h) ∙ display_class_of_kind k (b ∷ bs) [] b bs (sym (append-nil (b ∷ bs))) l in
    absurd (omega arith)

-- Bytes are a lexeme of one kind.
one_kind : (mode : Mode) (j k : Option TokKind) (b : ℕ) (bs rest : List ℕ) → IsLexeme mode j (b ∷ bs) rest → IsLexeme mode k (b ∷ bs) rest → j ≡ k
one_kind Top j k b bs rest h l = one_code_kind Top j k b bs rest h l
one_kind Head j k b bs rest h l = one_code_kind Head j k b bs rest h l
one_kind Plain j k b bs rest h l = one_code_kind Plain j k b bs rest h l
one_kind Body j k b bs rest h l = one_code_kind Body j k b bs rest h l
one_kind Display j k b bs rest h l = one_display_kind j k b bs h l
one_kind Pattern j k b bs rest h l = one_code_kind Pattern j k b bs rest h l

kind_of_same : (mode : Mode) (j k : Option TokKind) (bytes rest : List ℕ) → 0 < length bytes → IsLexeme mode j bytes rest → IsLexeme mode k bytes rest → j ≡ k
kind_of_same mode j k [] rest some h l = absurd (omega arith)
kind_of_same mode j k (b ∷ bs) rest some h l = one_kind mode j k b bs rest h l

-- One longest lexeme stands at a place.
pub one_longest : (mode : Mode) (j k : Option TokKind) (bytes rest front after : List ℕ) → bytes ++ rest ≡ front ++ after
    → IsLongest mode j bytes rest → IsLongest mode k front after → (j ≡ k) × (bytes ≡ front) × (rest ≡ after)
one_longest mode j k bytes rest front after e h l =
    let below : length front ≤ length bytes = h.longest k front after e l.lexeme in
    let above : length bytes ≤ length front = l.longest j bytes rest (sym e) h.lexeme in
    let same = one_front bytes rest front after e (omega arith) in
    let there : IsLexeme mode k bytes rest =
    subst (λ (f : List ℕ). IsLexeme mode k f rest) (sym same.0) (subst (λ (r : List ℕ). IsLexeme mode k front r) (sym same.1) l.lexeme) in
    (kind_of_same mode j k bytes rest (lexeme_some mode j bytes rest h.lexeme) h.lexeme there, same.0, same.1)
