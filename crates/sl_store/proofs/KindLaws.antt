-- Words, texts and tokens of displays are the lexer's.
use Rattle.std.proofs.Common.{◌≡◌, ℕ, suc, ◌≤◌, ◌-◌, ◌==◌, ◌&&◌, ◌||◌, not, Bool, true, false, if◌then◌else◌, List, [], ◌∷◌, ◌++◌, length, length-append, get_or, nat_le, nat_eq, refl, ap, sym, ◌∙◌, subst, append_assoc, arith}
use Rattle.std.specs.List.{list_all}
use Rattle.std.proofs.Math.Seq.{get_or-append_seam}
use Rattle.sl_lex.specs.Bytes as b
use Rattle.sl_lex.specs.Lexemes as l
use Rattle.sl_store.specs.Kinds.{KindsAreLexemes}
use Rattle.sl_store_bytes.specs.Lexemes.{Follow, Follows, IsRead, put_after}
use Rattle.sl_store_bytes.specs.Lists.{AreGood}
use Rattle.sl_store_bytes.specs.Numbers.{greatest}
use Rattle.sl_store_bytes.specs.Words as w

-- ---- classes of bytes

or_or : (p q r s : Bool) → (p || (q || (r || s))) ≡ (((p || q) || r) || s)
or_or true q r s = refl
or_or false true r s = refl
or_or false false true s = refl
or_or false false false s = refl

or_false : (p q r s : Bool) → (p || (q || (r || s))) ≡ (p || (q || (r || (s || false))))
or_false p q r true = refl
or_false p q r false = refl

if_not : (p : Bool) → (if p then false else true) ≡ not p
if_not true = refl
if_not false = refl

if_nots : (p q r s : Bool) → (p && (if q then false else (if r then false else (if s then false else true)))) ≡ (((p && not q) && not r) && not s)
if_nots false q r s = refl
if_nots true true r s = refl
if_nots true false true s = refl
if_nots true false false true = refl
if_nots true false false false = refl

same_begins : (c : ℕ) → w.begins_word c ≡ b.begins_word c
same_begins c = or_or (w.is_between 65 90 c) (w.is_between 97 122 c) (c == 95) (c == 46)

same_word_byte : (c : ℕ) → w.is_word_byte c ≡ b.is_word_byte c
same_word_byte c = ap (λ t. t || w.is_between 48 57 c) (same_begins c)

same_text_byte : (c : ℕ) → w.is_text_byte c ≡ b.is_text_byte c
same_text_byte c = ap (λ t. w.is_between 32 126 c && t) (if_not (c == 34))

same_blank : (c : ℕ) → (c == 32 || (c == 9 || (c == 13 || c == 10))) ≡ b.is_blank c
same_blank c = or_false (c == 32) (c == 9) (c == 13) (c == 10)

same_char : (c : ℕ) → w.is_char c ≡ b.is_char c
same_char c = if_nots (w.is_between 33 126 c) (c == 34) (c == 94) (w.begins_word c) ∙ ap (λ t. ((w.is_between 33 126 c && not (c == 34)) && not (c == 94)) && not t) (same_begins c)

and_left : (p q : Bool) → (p && q) ≡ true → p ≡ true
and_left true q e = refl
and_left false q e = absurd (cc)

and_right : (p q : Bool) → (p && q) ≡ true → q ≡ true
and_right true q e = e
and_right false q e = absurd (cc)

and_both : (p q : Bool) → p ≡ true → q ≡ true → (p && q) ≡ true
and_both p q e f = rw (e, f) refl

-- ---- lexemes each of whose bytes passes a test

module _ (follow : Follow) (test : ℕ → Bool) (same : (left : ℕ) (before : List ℕ) (c : ℕ) → follow left before c ≡ test c) where
  all_of : (before v : List ℕ) → AreGood (Follows follow) put_after (length v) before v → list_all test v ≡ true
  all_of before [] good = refl
  all_of before (c ∷ v) good = and_both (test c) (list_all test v) (sym (same (length v) before c) ∙ good.0) (all_of (put_after before c) v good.1)

  of_all : (before v : List ℕ) → list_all test v ≡ true → AreGood (Follows follow) put_after (length v) before v
  of_all before [] all = tt
  of_all before (c ∷ v) all = (same (length v) before c ∙ and_left (test c) (list_all test v) all, of_all (put_after before c) v (and_right (test c) (list_all test v) all))

  run_of : (v : List ℕ) → IsRead follow 1 greatest v → l.IsSpan test v × (length v ≤ greatest)
  run_of v read = ((read.long.low, all_of [] v read.good), read.long.high)

  of_run : (v : List ℕ) → l.IsSpan test v × (length v ≤ greatest) → IsRead follow 1 greatest v
  of_run v run = record { long = record { low = run.0.0; high = run.1 }; good = of_all [] v run.0.1 }

  one_of : (v : List ℕ) → IsRead follow 1 1 v → l.IsOne test v × (length v ≤ greatest)
  one_of [] read = let low = read.long.low in absurd (omega arith)
  one_of (c ∷ []) read = (sym (same 0 [] c) ∙ read.good.0, omega arith)
  one_of (c ∷ d ∷ v) read = let high = read.long.high in absurd (omega arith)

  of_one : (v : List ℕ) → l.IsOne test v × (length v ≤ greatest) → IsRead follow 1 1 v
  of_one [] one = absurd one.0
  of_one (c ∷ []) one = record { long = record { low = omega arith; high = omega arith }; good = (same 0 [] c ∙ one.0, tt) }
  of_one (c ∷ d ∷ v) one = absurd one.0

blank_is : (left : ℕ) (before : List ℕ) (c : ℕ) → w.blank_follow left before c ≡ b.is_blank c
unfolding w.blank_follow
blank_is left before c = same_blank c

caret_is : (left : ℕ) (before : List ℕ) (c : ℕ) → w.caret_follow left before c ≡ b.is_caret c
unfolding w.caret_follow
caret_is left before c = refl

char_is : (left : ℕ) (before : List ℕ) (c : ℕ) → w.char_follow left before c ≡ b.is_char c
unfolding w.char_follow
char_is left before c = same_char c

caret_of : (v : List ℕ) → l.IsOne b.is_caret v → v ≡ 94 ∷ []
caret_of [] one = absurd one
caret_of (c ∷ []) one = let same : c ≡ 94 = grind arith in ap (λ d. d ∷ []) same
caret_of (c ∷ d ∷ v) one = absurd one

of_caret : (v : List ℕ) → v ≡ 94 ∷ [] → l.IsOne b.is_caret v
of_caret v same = subst (l.IsOne b.is_caret) (sym same) refl

-- ---- words of displays

either_way : (p q : Bool) → (p && (if q then true else true)) ≡ p
either_way true true = refl
either_way true false = refl
either_way false q = refl

any_shown : (left : ℕ) (before : List ℕ) (c : ℕ) → w.shown_follow w.any_word left before c ≡ w.goes_on before c
unfolding w.whole_follow
any_shown left before c = either_way (w.goes_on before c) (left == 0)

some_goes : (a : ℕ) (before : List ℕ) (c : ℕ) → w.goes_on (a ∷ before) c ≡ w.is_word_byte c
some_goes a before c = let some : (length (a ∷ before) == 0) ≡ false = grind arith in rw some refl

begins_of : (c : ℕ) → b.begins_word c ≡ true → b.is_word_byte c ≡ true
begins_of c e = rw e refl

-- bytes that may follow others are bytes of words
bytes_of : (follow : Follow) → ((left : ℕ) (before : List ℕ) (c : ℕ) → follow left before c ≡ true → w.goes_on before c ≡ true)
    → (a : ℕ) (before v : List ℕ) → AreGood (Follows follow) put_after (length v) (a ∷ before) v → list_all b.is_word_byte v ≡ true
bytes_of follow goes a before [] good = refl
bytes_of follow goes a before (c ∷ v) good =
    and_both (b.is_word_byte c) (list_all b.is_word_byte v) (sym (same_word_byte c) ∙ sym (some_goes a before c) ∙ goes (length v) (a ∷ before) c good.0)
    (bytes_of follow goes a (put_after before c) v good.1)

shown_of : (v : List ℕ) → w.IsDottedWord v → l.IsWord v × (length v ≤ greatest)
shown_of [] read = let low = read.long.low in absurd (omega arith)
shown_of (c ∷ v) read =
    let first : b.begins_word c ≡ true = sym (same_begins c) ∙ sym (any_shown (length v) [] c) ∙ read.good.0 in
    let others = bytes_of (w.shown_follow w.any_word) (λ left before d e. sym (any_shown left before d) ∙ e) c [] v read.good.1 in
    ((first, and_both (b.is_word_byte c) (list_all b.is_word_byte v) (begins_of c first) others), read.long.high)

shown_rest : (a : ℕ) (before v : List ℕ) → list_all b.is_word_byte v ≡ true → AreGood (Follows (w.shown_follow w.any_word)) put_after (length v) (a ∷ before) v
shown_rest a before [] all = tt
shown_rest a before (c ∷ v) all = (
  any_shown (length v) (a ∷ before) c ∙ some_goes a before c ∙ same_word_byte c ∙ and_left (b.is_word_byte c) (list_all b.is_word_byte v) all,
  shown_rest a (put_after before c) v (and_right (b.is_word_byte c) (list_all b.is_word_byte v) all),
)

of_shown : (v : List ℕ) → l.IsWord v × (length v ≤ greatest) → w.IsDottedWord v
of_shown [] word = absurd word.0.0
of_shown (c ∷ v) word =
    record {
      long = record { low = omega arith; high = word.1 };
      good = (any_shown (length v) [] c ∙ same_begins c ∙ word.0.0, shown_rest c [] v (and_right (b.is_word_byte c) (list_all b.is_word_byte v) word.0.1));
    }

-- ---- words outside displays, without three dots

any_word : (left : ℕ) (before : List ℕ) (c : ℕ) → w.word_follow w.any_word left before c ≡ (w.goes_on before c && w.is_no_dot before c)
unfolding w.whole_follow
any_word left before c = either_way (w.goes_on_undotted before c) (left == 0)

-- the last of some bytes, and the one before it
last_is : (before : List ℕ) (p : ℕ) → get_or (before ++ p ∷ []) (length (before ++ p ∷ []) - 1) 0 ≡ p
last_is before p =
    let long = length-append before (p ∷ []) in
    let at : length (before ++ p ∷ []) - 1 ≡ length before = omega arith in
    ap (λ n. get_or (before ++ p ∷ []) n 0) at ∙ get_or-append_seam before p [] 0

second_is : (before : List ℕ) (p q : ℕ) → get_or (before ++ p ∷ q ∷ []) (length (before ++ p ∷ q ∷ []) - 2) 0 ≡ p
second_is before p q =
    let long = length-append before (p ∷ q ∷ []) in
    let at : length (before ++ p ∷ q ∷ []) - 2 ≡ length before = omega arith in
    ap (λ n. get_or (before ++ p ∷ q ∷ []) n 0) at ∙ get_or-append_seam before p (q ∷ []) 0

two_long : (before : List ℕ) (p q : ℕ) → nat_le 2 (length (before ++ p ∷ q ∷ [])) ≡ true
two_long [] p q = refl
two_long (a ∷ before) p q = let deep = two_long before p q in grind arith

two_last : (before : List ℕ) (p q : ℕ) → w.two_dots (before ++ p ∷ q ∷ []) ≡ (q == 46 && p == 46)
two_last before p q =
    let last : get_or (before ++ p ∷ q ∷ []) (length (before ++ p ∷ q ∷ []) - 1) 0 ≡ q =
    ap (λ v. get_or v (length v - 1) 0) (sym (append_assoc before (p ∷ []) (q ∷ []))) ∙ last_is (before ++ p ∷ []) q in
    rw (two_long before p q, last, second_is before p q) refl

three : (p q c : ℕ) (v : List ℕ) → l.begins_with_dots (p ∷ q ∷ c ∷ v) ≡ (nat_eq 46 p && (nat_eq 46 q && (nat_eq 46 c && true)))
three p q c v = refl

-- a byte after these two isn't a third dot exactly where the three aren't dots
no_third : (before : List ℕ) (p q c : ℕ) (v : List ℕ) → w.is_no_dot (before ++ p ∷ q ∷ []) c ≡ true → l.begins_with_dots (p ∷ q ∷ c ∷ v) ≡ false
no_third before p q c v e = let dots = two_last before p q in let is = three p q c v in grind arith

third_not : (before : List ℕ) (p q c : ℕ) (v : List ℕ) → l.begins_with_dots (p ∷ q ∷ c ∷ v) ≡ false → w.is_no_dot (before ++ p ∷ q ∷ []) c ≡ true
third_not before p q c v e = let dots = two_last before p q in let is = three p q c v in grind arith

short_two : (p q : Bool) → (p && (q && false)) ≡ false
short_two false q = refl
short_two true false = refl
short_two true true = refl

shift : (before : List ℕ) (p q c : ℕ) → put_after (before ++ p ∷ q ∷ []) c ≡ (before ++ p ∷ []) ++ q ∷ c ∷ []
shift before p q c = append_assoc before (p ∷ q ∷ []) (c ∷ []) ∙ sym (append_assoc before (p ∷ []) (q ∷ c ∷ []))

after_two : (before : List ℕ) (p q c : ℕ) → w.goes_on (before ++ p ∷ q ∷ []) c ≡ w.is_word_byte c
after_two [] p q c = some_goes p (q ∷ []) c
after_two (a ∷ before) p q c = some_goes a (before ++ p ∷ q ∷ []) c

no_dots_of : (before : List ℕ) (p q : ℕ) (v : List ℕ) → AreGood (Follows (w.word_follow w.any_word)) put_after (length v) (before ++ p ∷ q ∷ []) v → l.HasNoDots (p ∷ q ∷ v) []
no_dots_of before p q [] good = (short_two (nat_eq 46 p) (nat_eq 46 q), (short_two (nat_eq 46 q) true, tt))
no_dots_of before p q (c ∷ v) good =
    let both = sym (any_word (length v) (before ++ p ∷ q ∷ []) c) ∙ good.0 in (
      no_third before p q c (v ++ []) (and_right (w.goes_on (before ++ p ∷ q ∷ []) c) (w.is_no_dot (before ++ p ∷ q ∷ []) c) both),
      no_dots_of (before ++ p ∷ []) q c v (subst (λ k. AreGood (Follows (w.word_follow w.any_word)) put_after (length v) k v) (shift before p q c) good.1),
    )

word_rest : (before : List ℕ) (p q : ℕ) (v : List ℕ) → list_all b.is_word_byte v ≡ true → l.HasNoDots (p ∷ q ∷ v) []
    → AreGood (Follows (w.word_follow w.any_word)) put_after (length v) (before ++ p ∷ q ∷ []) v
word_rest before p q [] all dots = tt
word_rest before p q (c ∷ v) all dots =
    let goes = after_two before p q c ∙ same_word_byte c ∙ and_left (b.is_word_byte c) (list_all b.is_word_byte v) all in
    let free = third_not before p q c (v ++ []) dots.0 in (
      any_word (length v) (before ++ p ∷ q ∷ []) c ∙ and_both (w.goes_on (before ++ p ∷ q ∷ []) c) (w.is_no_dot (before ++ p ∷ q ∷ []) c) goes free,
      subst (λ k. AreGood (Follows (w.word_follow w.any_word)) put_after (length v) k v) (sym (shift before p q c))
          (word_rest (before ++ p ∷ []) q c v (and_right (b.is_word_byte c) (list_all b.is_word_byte v) all) dots.1),
    )

goes_of : (left : ℕ) (before : List ℕ) (c : ℕ) → w.word_follow w.any_word left before c ≡ true → w.goes_on before c ≡ true
goes_of left before c e = and_left (w.goes_on before c) (w.is_no_dot before c) (sym (any_word left before c) ∙ e)

word_of : (v : List ℕ) → w.IsWord v → (l.IsWord v × l.HasNoDots v []) × (length v ≤ greatest)
word_of [] read = let low = read.long.low in absurd (omega arith)
word_of (c ∷ v) read =
    let first : b.begins_word c ≡ true = sym (same_begins c) ∙ goes_of (length v) [] c read.good.0 in
    let others = bytes_of (w.word_follow w.any_word) goes_of c [] v read.good.1 in
    (((first, and_both (b.is_word_byte c) (list_all b.is_word_byte v) (begins_of c first) others), free v read.good.1), read.long.high)
  where
    free : (v : List ℕ) → AreGood (Follows (w.word_follow w.any_word)) put_after (length v) (c ∷ []) v → l.HasNoDots (c ∷ v) []
    free [] good = (short_two (nat_eq 46 c) true, tt)
    free (d ∷ v) good = no_dots_of [] c d v good.1

of_word : (v : List ℕ) → (l.IsWord v × l.HasNoDots v []) × (length v ≤ greatest) → w.IsWord v
of_word [] word = absurd word.0.0.0
of_word (c ∷ v) word =
    record {
      long = record { low = omega arith; high = word.1 };
      good = (any_word (length v) [] c ∙ and_both (w.begins_word c) true (same_begins c ∙ word.0.0.0) refl, others v (and_right (b.is_word_byte c) (list_all b.is_word_byte v) word.0.0.1) word.0.1);
    }
  where
    others : (v : List ℕ) → list_all b.is_word_byte v ≡ true → l.HasNoDots (c ∷ v) [] → AreGood (Follows (w.word_follow w.any_word)) put_after (length v) (c ∷ []) v
    others [] all dots = tt
    others (d ∷ v) all dots =
        let goes = some_goes c [] d ∙ same_word_byte d ∙ and_left (b.is_word_byte d) (list_all b.is_word_byte v) all in
        (any_word (length v) (c ∷ []) d ∙ and_both (w.goes_on (c ∷ []) d) true goes refl, word_rest [] c d v (and_right (b.is_word_byte d) (list_all b.is_word_byte v) all) dots)

-- ---- texts

first_text : (left c : ℕ) → w.text_follow left [] c ≡ (c == 34)
unfolding w.text_follow
first_text left c = refl

last_text : (a : ℕ) (before : List ℕ) (c : ℕ) → w.text_follow 0 (a ∷ before) c ≡ (c == 34)
unfolding w.text_follow
last_text a before c = let some : (length (a ∷ before) == 0) ≡ false = grind arith in rw some refl

inner_text : (left a : ℕ) (before : List ℕ) (c : ℕ) → 1 ≤ left → w.text_follow left (a ∷ before) c ≡ b.is_text_byte c
unfolding w.text_follow
inner_text left a before c more =
    let some : (length (a ∷ before) == 0) ≡ false = grind arith in
    let left_some : (left == 0) ≡ false = grind arith in
    rw (some, left_some) (same_text_byte c)

quote_of : (c : ℕ) → (c == 34) ≡ true → c ≡ 34
quote_of c e = grind arith

abbrev Ends : List ℕ → Type 0
Ends v = (inside : List ℕ) × (v ≡ inside ++ 34 ∷ []) × (list_all b.is_text_byte inside ≡ true)

ends_of : (a : ℕ) (before : List ℕ) (c : ℕ) (v : List ℕ) → AreGood (Follows w.text_follow) put_after (suc (length v)) (a ∷ before) (c ∷ v) → Ends (c ∷ v)
ends_of a before c [] good = ([], ap (λ k. k ∷ []) (quote_of c (sym (last_text a before c) ∙ good.0)), refl)
ends_of a before c (d ∷ v) good =
    let deep = ends_of a (put_after before c) d v good.1 in (
      c ∷ deep.0,
      ap (λ k. c ∷ k) deep.1,
      and_both (b.is_text_byte c) (list_all b.is_text_byte deep.0) (sym (inner_text (suc (length v)) a before c (omega arith)) ∙ good.0) deep.2,
    )

text_of : (v : List ℕ) → w.IsText v → l.IsQuoted v × (length v ≤ greatest)
text_of [] read = let low = read.long.low in absurd (omega arith)
text_of (c ∷ []) read = let low = read.long.low in absurd (omega arith)
text_of (c ∷ d ∷ v) read =
    let same : c ≡ 34 = quote_of c (sym (first_text (suc (length v)) c) ∙ read.good.0) in
    let deep = ends_of c [] d v read.good.1 in
    ((deep.0, ap (λ k. k ∷ d ∷ v) same ∙ ap (λ k. 34 ∷ k) deep.1, deep.2), read.long.high)

some_inside : (inside : List ℕ) → 1 ≤ length (inside ++ 34 ∷ [])
some_inside [] = omega arith
some_inside (c ∷ inside) = omega arith

of_ends : (a : ℕ) (before inside : List ℕ) → list_all b.is_text_byte inside ≡ true
    → AreGood (Follows w.text_follow) put_after (length (inside ++ 34 ∷ [])) (a ∷ before) (inside ++ 34 ∷ [])
of_ends a before [] all = (last_text a before 34, tt)
of_ends a before (c ∷ inside) all = (
  inner_text (length (inside ++ 34 ∷ [])) a before c (some_inside inside) ∙ and_left (b.is_text_byte c) (list_all b.is_text_byte inside) all,
  of_ends a (put_after before c) inside (and_right (b.is_text_byte c) (list_all b.is_text_byte inside) all),
)

quoted_text : (inside : List ℕ) → list_all b.is_text_byte inside ≡ true → suc (length (inside ++ 34 ∷ [])) ≤ greatest → w.IsText (34 ∷ inside ++ 34 ∷ [])
quoted_text inside all high =
    let some = some_inside inside in
    record { long = record { low = omega arith; high = high }; good = (first_text (length (inside ++ 34 ∷ [])) 34, of_ends 34 [] inside all) }

of_text : (v : List ℕ) → l.IsQuoted v × (length v ≤ greatest) → w.IsText v
of_text v text = subst w.IsText (sym text.0.1) (quoted_text text.0.0 text.0.2 (subst (λ k. length k ≤ greatest) text.0.1 text.1))

-- ---- all kinds

pub kinds_are_lexemes : KindsAreLexemes
kinds_are_lexemes = record {
  words = λ v. (word_of v, of_word v);
  texts = λ v. (text_of v, of_text v);
  display_words = λ v. (shown_of v, of_shown v);
  display_texts = λ v. (text_of v, of_text v);
  blanks = λ v. (run_of w.blank_follow b.is_blank blank_is v, of_run w.blank_follow b.is_blank blank_is v);
  carets = λ v. (
    (λ read. let one = one_of w.caret_follow b.is_caret caret_is v read in (caret_of v one.0, one.1)),
    (λ alone. of_one w.caret_follow b.is_caret caret_is v (of_caret v alone.0, alone.1)),
  );
  chars = λ v. (one_of w.char_follow b.is_char char_is v, of_one w.char_follow b.is_char char_is v);
}
