-- Integers in three bases, and the longest one at the front of a text.
use Rattle.std.proofs.Common.{◌≡◌, ℕ, ◌+◌, ◌<◌, ◌≤◌, ◌≢◌, inl, inr, Option, Some, nat_eq, Bool, true, false, List, [], ◌∷◌, ◌++◌, take, drop, get_or, length, arith, refl, ap, sym, ◌∙◌, subst, codes, length-append, append_assoc, append-nil}
use Rattle.std.specs.Cmp.Lexicographic.{pointwise}
use Rattle.std.specs.List.{list_all, prefix_len}
use Rattle.std.specs.Option.{MatchOption}
use denote.Ref.{Bor}
use Rattle.std.proofs.lemmas.Bool.Decides.{Decides-eqb}
use Rattle.std.proofs.lemmas.Slice.Eq.{strip_prefix_is}
use Rattle.std.proofs.Math.Seq.{take-append-add}
use Rattle.std.proofs.lemmas.List.{append_cancel_left, length-take-le}
use Rattle.std.proofs.lemmas.List.Prefix.{front_rest}
use Rattle.std.proofs.lemmas.List.Sums.{prefix_len-le-length}
use Rattle.sl_lex.specs.Bytes.{is_digit, is_hex_digit, is_binary_digit, number}
use Rattle.sl_lex.specs.Found.{IsLongestSpelled, IsLongestInteger}
use Rattle.sl_lex.specs.Lexemes.{BeginsWith, IsSpelled, IsInteger}
use Rattle.sl_lex.proofs.RunLemmas.{run_at, run_longest, run_begins, both_true, not_false}

-- The digits that stand behind a base's mark are the longest run.
pub behind_mark : (mark : List ℕ) (test : ℕ → Bool) (text rest : List ℕ) (n : ℕ) → text ≡ mark ++ rest → n ≡ prefix_len test rest
    → IsLongestSpelled mark test text n
behind_mark mark test text rest n e m =
    let back : drop (length mark) text ≡ rest = front_rest text mark rest e in
    record {
      found = λ some. (
        subst (λ (t : List ℕ). text ≡ mark ++ t) (sym back) e,
        subst (λ (t : List ℕ). n ≤ length t) (sym back) (omega (arith, m, prefix_len-le-length test rest)),
        subst (λ (t : List ℕ). list_all test (take n t) ≡ true) (sym back) (run_at test rest n m).0,
      );
      longest = λ digits after all f.
          let here : rest ≡ digits ++ after = append_cancel_left mark rest (digits ++ after) (sym e ∙ f ∙ append_assoc mark digits after) in
          omega (arith, m, run_longest test rest digits after here all);
    }

-- An integer of a base is no longer than the longest of that base.
spelled_fits : (mark : List ℕ) (test : ℕ → Bool) (base value n : ℕ) (text front rest : List ℕ) → IsLongestSpelled mark test text n
    → text ≡ front ++ rest → IsSpelled mark test base value front → length front ≤ length mark + n
spelled_fits mark test base value n text front rest h e (digits, split, run, spells) =
    omega (arith, ap length split, length-append mark digits, h.longest digits rest run.1 (e ∙ ap (λ (t : List ℕ). t ++ rest) split))

-- Where no digit of a base stands behind its mark, no integer of that base does.
none_spelled : (mark : List ℕ) (test : ℕ → Bool) (base value : ℕ) (text front rest : List ℕ) → IsLongestSpelled mark test text 0
    → text ≡ front ++ rest → IsSpelled mark test base value front → ⊥
none_spelled mark test base value text front rest h e (digits, split, run, spells) =
    let less : length digits ≤ 0 = h.longest digits rest run.1 (e ∙ ap (λ (t : List ℕ). t ++ rest) split) in
    let some : 0 < length digits = run.0 in omega arith

spelled_here : (mark : List ℕ) (test : ℕ → Bool) (base n : ℕ) (text : List ℕ) → 0 < n → IsLongestSpelled mark test text n
    → IsSpelled mark test base (number base (take n (drop (length mark) text))) (take (length mark + n) text)
spelled_here mark test base n text some h =
    let found = h.found some in
    let counted : length (take n (drop (length mark) text)) ≡ n = length-take-le n (drop (length mark) text) found.1 in (
      take n (drop (length mark) text),
      ap (take (length mark + n)) found.0 ∙ take-append-add mark (drop (length mark) text) n,
      (omega arith, found.2),
      refl,
    )

spelled_within : (mark : List ℕ) (test : ℕ → Bool) (n : ℕ) (text : List ℕ) → 0 < n → IsLongestSpelled mark test text n → length mark + n ≤ length text
spelled_within mark test n text some h =
    omega (arith, (h.found some).1, ap length (h.found some).0 ∙ length-append mark (drop (length mark) text))

-- A decimal integer before a letter is one digit.
decimal_fits : (x value : ℕ) (text front rest after : List ℕ) → is_digit x ≡ false → text ≡ 48 ∷ x ∷ after → text ≡ front ++ rest
    → IsSpelled [] is_digit 10 value front → length front ≤ 1
decimal_fits x value text front rest after letter begins e (digits, split, run, spells) =
    let one : prefix_len is_digit (48 ∷ x ∷ after) ≡ 1 = rw letter refl in
    omega (arith, ap length split, run_longest is_digit text digits rest (e ∙ ap (λ (t : List ℕ). t ++ rest) split) run.1, ap (prefix_len is_digit) begins, one)

other_mark : (text front rest after : List ℕ) (value : ℕ) → text ≡ codes "0x" ++ after → text ≡ front ++ rest
    → IsSpelled (codes "0b") is_binary_digit 2 value front → ⊥
other_mark text front rest after value begins e (digits, split, run, spells) =
    let same : codes "0x" ++ after ≡ (codes "0b" ++ digits) ++ rest = sym begins ∙ e ∙ ap (λ (t : List ℕ). t ++ rest) split in
    let wrong : get_or (codes "0x" ++ after) 1 0 ≡ get_or ((codes "0b" ++ digits) ++ rest) 1 0 = ap (λ (t : List ℕ). get_or t 1 0) same in
    omega (arith, wrong)

pub hex_integer : (text : List ℕ) (n : ℕ) → 0 < n → IsLongestSpelled (codes "0x") is_hex_digit text n → IsLongestInteger text 16 2 n
hex_integer text n some h = record {
  some = omega arith;
  within = spelled_within (codes "0x") is_hex_digit n text some h;
  found = inr (inl (spelled_here (codes "0x") is_hex_digit 16 n text some h));
  longest = λ value front rest is e. elim is [
    | inl d ↦ let short : length front ≤ 1 = decimal_fits 120 value text front rest (drop 2 text) refl (h.found some).0 e d in omega arith
    | inr more ↦ elim more [
      | inl x ↦ spelled_fits (codes "0x") is_hex_digit 16 value n text front rest h e x
      | inr b ↦ absurd (other_mark text front rest (drop 2 text) value (h.found some).0 e b)
    ]
  ];
}

pub binary_integer : (text : List ℕ) (n : ℕ) → 0 < n → IsLongestSpelled (codes "0x") is_hex_digit text 0
    → IsLongestSpelled (codes "0b") is_binary_digit text n → IsLongestInteger text 2 2 n
binary_integer text n some none h = record {
  some = omega arith;
  within = spelled_within (codes "0b") is_binary_digit n text some h;
  found = inr (inr (spelled_here (codes "0b") is_binary_digit 2 n text some h));
  longest = λ value front rest is e. elim is [
    | inl d ↦ let short : length front ≤ 1 = decimal_fits 98 value text front rest (drop 2 text) refl (h.found some).0 e d in omega arith
    | inr more ↦ elim more [
      | inl x ↦ absurd (none_spelled (codes "0x") is_hex_digit 16 value text front rest none e x)
      | inr b ↦ spelled_fits (codes "0b") is_binary_digit 2 value n text front rest h e b
    ]
  ];
}

first_counts : (test : ℕ → Bool) (text : List ℕ) → BeginsWith test text → 0 < prefix_len test text
first_counts test [] h = absurd h
first_counts test (b ∷ bs) h = let here : test b ≡ true = h in rw here (omega arith)

pub decimal_integer : (text : List ℕ) (n : ℕ) → BeginsWith is_digit text → n ≡ prefix_len is_digit text
    → IsLongestSpelled (codes "0x") is_hex_digit text 0 → IsLongestSpelled (codes "0b") is_binary_digit text 0 → IsLongestInteger text 10 0 n
decimal_integer text n begins m hex binary =
    let h : IsLongestSpelled [] is_digit text n = behind_mark [] is_digit text text n refl m in
    let some : 0 < n = omega (arith, m, first_counts is_digit text begins) in
    record {
      some = omega arith;
      within = spelled_within [] is_digit n text some h;
      found = inl (spelled_here [] is_digit 10 n text some h);
      longest = λ value front rest is e. elim is [
        | inl d ↦ spelled_fits [] is_digit 10 value n text front rest h e d
        | inr more ↦ elim more [
          | inl x ↦ absurd (none_spelled (codes "0x") is_hex_digit 16 value text front rest hex e x)
          | inr b ↦ absurd (none_spelled (codes "0b") is_binary_digit 2 value text front rest binary e b)
        ]
      ];
    }

-- The same where the mark was stripped off.
pub stripped : (mark : List ℕ) (test : ℕ → Bool) (text given : List ℕ) (result : Option (Bor (List ℕ))) (rest : Bor (List ℕ)) (n : ℕ) → given ≡ mark
    → MatchOption result (pointwise nat_eq (take (length given) text) given ≡ false)
    (λ x. (pointwise nat_eq (take (length given) text) given ≡ true) × (x.now ≡ drop (length given) text) × (length x.now + length given ≡ length text))
    → result ≡ Some rest → n ≡ prefix_len test rest.now → IsLongestSpelled mark test text n
stripped mark test text given result rest n is h e m =
    let cases = strip_prefix_is Decides-eqb text given result h in
    let cases_here = subst (λ (r : Option (Bor (List ℕ))). MatchOption r ((after : List ℕ) → text ≢ given ++ after) (λ x. text ≡ given ++ x.now)) e cases in
    behind_mark mark test text rest.now n (cases_here ∙ ap (λ (t : List ℕ). t ++ rest.now) is) m

-- An integer begins with a digit.
pub integer_begins : (value : ℕ) (bytes : List ℕ) → IsInteger value bytes → BeginsWith is_digit bytes
integer_begins value bytes (inl (digits, split, run, spells)) = subst (λ (t : List ℕ). BeginsWith is_digit t) (sym split) (run_begins is_digit digits run)
integer_begins value bytes (inr (inl (digits, split, run, spells))) = subst (λ (t : List ℕ). BeginsWith is_digit t) (sym split) refl
integer_begins value bytes (inr (inr (digits, split, run, spells))) = subst (λ (t : List ℕ). BeginsWith is_digit t) (sym split) refl

one_spelled : (mark : List ℕ) (test : ℕ → Bool) (base m n : ℕ) (bytes : List ℕ) → IsSpelled mark test base m bytes → IsSpelled mark test base n bytes → m ≡ n
one_spelled mark test base m n bytes (ds, split, run, spells) (es, split', run', spells') =
    let same : ds ≡ es = append_cancel_left mark ds es (sym split ∙ split') in
    sym spells ∙ ap (number base) same ∙ spells'

not_decimal : (x m : ℕ) (ds bytes : List ℕ) → is_digit x ≡ false → IsSpelled [] is_digit 10 m bytes → bytes ≡ 48 ∷ x ∷ ds → ⊥
not_decimal x m ds bytes h (es, split, run, spells) e =
    let digits : list_all is_digit (48 ∷ x ∷ ds) ≡ true = ap (list_all is_digit) (sym e ∙ split) ∙ run.1 in
    not_false (is_digit x) (both_true (is_digit x) (list_all is_digit ds) digits).0 h

hex_not_binary : (m n : ℕ) (bytes : List ℕ) → IsSpelled (codes "0x") is_hex_digit 16 m bytes → IsSpelled (codes "0b") is_binary_digit 2 n bytes → ⊥
hex_not_binary m n bytes (ds, split, run, spells) h = other_mark bytes bytes [] ds n split (sym (append-nil bytes)) h

-- An integer spells one number.
pub one_integer : (m n : ℕ) (bytes : List ℕ) → IsInteger m bytes → IsInteger n bytes → m ≡ n
one_integer m n bytes (inl h) (inl k) = one_spelled [] is_digit 10 m n bytes h k
one_integer m n bytes (inl h) (inr (inl k)) = absurd (not_decimal 120 m k.0 bytes refl h k.1)
one_integer m n bytes (inl h) (inr (inr k)) = absurd (not_decimal 98 m k.0 bytes refl h k.1)
one_integer m n bytes (inr (inl h)) (inl k) = absurd (not_decimal 120 n h.0 bytes refl k h.1)
one_integer m n bytes (inr (inl h)) (inr (inl k)) = one_spelled (codes "0x") is_hex_digit 16 m n bytes h k
one_integer m n bytes (inr (inl h)) (inr (inr k)) = absurd (hex_not_binary m n bytes h k)
one_integer m n bytes (inr (inr h)) (inl k) = absurd (not_decimal 98 n h.0 bytes refl k h.1)
one_integer m n bytes (inr (inr h)) (inr (inl k)) = absurd (hex_not_binary n m bytes k h)
one_integer m n bytes (inr (inr h)) (inr (inr k)) = one_spelled (codes "0b") is_binary_digit 2 m n bytes h k
