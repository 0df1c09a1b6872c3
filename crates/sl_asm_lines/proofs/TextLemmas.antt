-- A line's text, taken apart at its blanks and its line feed.
use Rattle.std.proofs.Common.{◌⊎◌, inl, inr, ◌≡◌, ◌≢◌, ℕ, zero, suc, ◌+◌, ◌-◌, ◌*◌, ◌/◌, ◌%◌, ◌<◌, ◌≤◌, ◌==◌, true, List, [], ◌∷◌, ◌++◌, Option, Some, None, Ok, length, take, drop, get_or, refl, sym, ap, subst, ◌∙◌, arith, eq-eqb, append_assoc, length-append}
use Rattle.std.proofs.lemmas.List.{append_cancel_right, drop-drop, drop_at, get_or_append_left, get_or_at, get_or_default, get_or_past, take_at, take_rest}
use Rattle.std.proofs.lemmas.List.Elements.{All-cons, All-nil, All-append}
use Rattle.std.specs.List.{All}
use Rattle.std.specs.Prelude.{slice_index}
use Rattle.hex.proofs.HexLemmas.{decode_sized-encode_lower, length-encode_with}
use Rattle.hex.specs.Hex.{IsBytes, decode_sized, encode_lower, encode_with, lower_digits}
use Rattle.memchr.specs.Find.{IsFirstByte, is_byte}
use Rattle.sl_asm_lines.proofs.NumberLemmas.{address_bytes, address_long, same_bytes}
use Rattle.sl_asm_lines.specs.Fronts.{AreShown, line_of}
use Rattle.sl_asm_lines.specs.Lines.{IsLine, Line, line_text}
use Rattle.sl_list_instructions.specs.Lines.{address_text}

-- ---- the first place of a byte

below_or : (a b : ℕ) → (a < b) ⊎ ((a ≡ b) ⊎ (b < a))
below_or a b = grind arith

pub eqb-eq : (a b : ℕ) → (a == b) ≡ true → a ≡ b
eqb-eq a b is = grind (arith, is)

module _ (d : ℕ) (xs x rest : List ℕ) (is : xs ≡ x ++ d ∷ rest) (lacks : All (λ c. c ≢ d) x) where
  at_end : slice_index xs (length x) ≡ d
  at_end = ap (λ (ys : List ℕ). slice_index ys (length x)) is ∙ get_or_at x d rest 0 (length x) refl

  long : length x < length xs
  long = omega (arith, ap length is, length-append x (d ∷ rest))

  within : (k : ℕ) → k < length x → slice_index xs k ≢ d
  within k below same =
      lacks k 0 below (sym (ap (λ (ys : List ℕ). slice_index ys k) is ∙ get_or_append_left x (d ∷ rest) 0 k below) ∙ same)

  pub first_is : (r : Option ℕ) → IsFirstByte (is_byte d) xs r → r ≡ Some (length x)
  first_is None nowhere = absurd (nowhere (length x) (omega arith) long (eq-eqb (slice_index xs (length x)) d at_end))
  first_is (Some k) first = elim (below_or k (length x)) [
    | inl less ↦ absurd (within k less (eqb-eq (slice_index xs k) d first.1))
    | inr (inl same) ↦ ap Some same
    | inr (inr more) ↦ absurd (first.0.before (length x) (omega arith) more (eq-eqb (slice_index xs (length x)) d at_end))
  ]

  pub front_is : take (length x) xs ≡ x
  front_is = ap (take (length x)) is ∙ take_at x (d ∷ rest) (length x) refl

  pub behind_is : drop (length x + 1) xs ≡ rest
  behind_is = ap (drop (length x + 1)) is ∙ sym (drop-drop 1 (length x) (x ++ d ∷ rest)) ∙ ap (drop 1) (drop_at x (d ∷ rest) (length x) refl)

-- what comes before the first place of a byte lacks it
pub before_lacks : (d : ℕ) (xs : List ℕ) (k : ℕ) → IsFirstByte (is_byte d) xs (Some k) → All (λ c. c ≢ d) (take k xs)
before_lacks d xs k first = λ i e below same.
    let short : i < k = omega (arith, below, length-take-most k xs) in
    let there : i < length xs = omega (arith, short, first.0.high) in
    let value : slice_index xs i ≡ d = get_or_default xs i 0 e there ∙ sym (taken k xs i e short) ∙ same in
    first.0.before i (omega arith) short (eq-eqb (slice_index xs i) d value)
  where
    length-take-most : (n : ℕ) (ys : List ℕ) → length (take n ys) ≤ n
    length-take-most zero ys = omega arith
    length-take-most (suc n) [] = omega arith
    length-take-most (suc n) (y ∷ ys) = omega (arith, length-take-most n ys)

    taken : (n : ℕ) (ys : List ℕ) (i e : ℕ) → i < n → get_or (take n ys) i e ≡ get_or ys i e
    taken zero ys i e less = absurd (omega (arith, less))
    taken (suc n) [] i e less = refl
    taken (suc n) (y ∷ ys) zero e less = refl
    taken (suc n) (y ∷ ys) (suc i) e less = taken n ys i e (omega (arith, less))

-- ---- hexadecimal digits are no blanks and no line feeds

digit_or_none : (k : ℕ) → (slice_index lower_digits k ≡ 0) ⊎ (48 ≤ slice_index lower_digits k)
digit_or_none zero = inr (omega arith)
digit_or_none (suc zero) = inr (omega arith)
digit_or_none (suc (suc zero)) = inr (omega arith)
digit_or_none (suc (suc (suc zero))) = inr (omega arith)
digit_or_none (suc (suc (suc (suc zero)))) = inr (omega arith)
digit_or_none (suc (suc (suc (suc (suc zero))))) = inr (omega arith)
digit_or_none (suc (suc (suc (suc (suc (suc zero)))))) = inr (omega arith)
digit_or_none (suc (suc (suc (suc (suc (suc (suc zero))))))) = inr (omega arith)
digit_or_none (suc (suc (suc (suc (suc (suc (suc (suc zero)))))))) = inr (omega arith)
digit_or_none (suc (suc (suc (suc (suc (suc (suc (suc (suc zero))))))))) = inr (omega arith)
digit_or_none (suc (suc (suc (suc (suc (suc (suc (suc (suc (suc zero)))))))))) = inr (omega arith)
digit_or_none (suc (suc (suc (suc (suc (suc (suc (suc (suc (suc (suc zero))))))))))) = inr (omega arith)
digit_or_none (suc (suc (suc (suc (suc (suc (suc (suc (suc (suc (suc (suc zero)))))))))))) = inr (omega arith)
digit_or_none (suc (suc (suc (suc (suc (suc (suc (suc (suc (suc (suc (suc (suc zero))))))))))))) = inr (omega arith)
digit_or_none (suc (suc (suc (suc (suc (suc (suc (suc (suc (suc (suc (suc (suc (suc zero)))))))))))))) = inr (omega arith)
digit_or_none (suc (suc (suc (suc (suc (suc (suc (suc (suc (suc (suc (suc (suc (suc (suc zero))))))))))))))) = inr (omega arith)
digit_or_none (suc (suc (suc (suc (suc (suc (suc (suc (suc (suc (suc (suc (suc (suc (suc (suc k)))))))))))))))) = inl refl

digit_isnt : (d k : ℕ) → 1 ≤ d → d < 48 → slice_index lower_digits k ≢ d
digit_isnt d k some few same = elim (digit_or_none k) [
  | inl none ↦ omega (arith, some, same, none)
  | inr digit ↦ omega (arith, few, same, digit)
]

pub encoded_lacks : (d : ℕ) → 1 ≤ d → d < 48 → (bs : List ℕ) → All (λ c. c ≢ d) (encode_lower bs)
unfolding encode_with
encoded_lacks d some few [] = All-nil (λ c. c ≢ d)
encoded_lacks d some few (b ∷ bs) =
    All-cons (λ c. c ≢ d) (slice_index lower_digits (b / 16)) (slice_index lower_digits (b % 16) ∷ encode_lower bs) (digit_isnt d (b / 16) some few)
    (All-cons (λ c. c ≢ d) (slice_index lower_digits (b % 16)) (encode_lower bs) (digit_isnt d (b % 16) some few) (encoded_lacks d some few bs))

-- ---- bytes in hexadecimal

pub are_bytes : (bs : List ℕ) → All (λ b. b < 256) bs → IsBytes bs
are_bytes bs all = λ i. elim (below_or i (length bs)) [
  | inl less ↦ all i 0 less
  | inr (inl same) ↦ subst (λ (b : ℕ). b < 256) (sym (get_or_past bs i 0 (omega (arith, same)))) (omega arith)
  | inr (inr more) ↦ subst (λ (b : ℕ). b < 256) (sym (get_or_past bs i 0 (omega (arith, more)))) (omega arith)
]

pub as_many : (digits bs : List ℕ) → digits ≡ encode_lower bs → length digits ≡ 2 * length bs
as_many digits bs is = ap length is ∙ length-encode_with lower_digits bs

pub shown_decoded : (digits bs : List ℕ) (n : ℕ) → n ≡ length digits / 2 → AreShown bs → digits ≡ encode_lower bs → decode_sized digits n ≡ Ok bs
shown_decoded digits bs n half shown is =
    let many : length bs ≡ n = omega (arith, half, as_many digits bs is) in
    ap (λ (ds : List ℕ). decode_sized ds n) is ∙ decode_sized-encode_lower bs n many (are_bytes bs shown.are_bytes)

pub shown_same : (digits out bs : List ℕ) (n : ℕ) → n ≡ length digits / 2 → decode_sized digits n ≡ Ok out → AreShown bs → digits ≡ encode_lower bs → out ≡ bs
shown_same digits out bs n half decoded shown is = same_bytes (decode_sized digits n) out bs decoded (shown_decoded digits bs n half shown is)

-- ---- the parts of a line

-- a line without its line feed
abbrev pub bare : ℕ → ℕ → Line → List ℕ
bare size a l = address_text size a ++ 58 ∷ 32 ∷ (encode_lower l.bytes ++ 32 ∷ l.text)

pub with_feed : (size a : ℕ) (l : Line) (more : List ℕ) → line_text size a l ++ more ≡ bare size a l ++ 10 ∷ more
with_feed size a l more =
    let inner : encode_lower l.bytes ++ 32 ∷ (l.text ++ 10 ∷ []) ≡ (encode_lower l.bytes ++ 32 ∷ l.text) ++ 10 ∷ [] = sym (append_assoc (encode_lower l.bytes) (32 ∷ l.text) (10 ∷ [])) in
    let whole : line_text size a l ≡ bare size a l ++ 10 ∷ [] =
    ap (λ (xs : List ℕ). address_text size a ++ 58 ∷ 32 ∷ xs) inner
    ∙ sym (append_assoc (address_text size a) (58 ∷ 32 ∷ (encode_lower l.bytes ++ 32 ∷ l.text)) (10 ∷ [])) in
    ap (λ (xs : List ℕ). xs ++ more) whole ∙ append_assoc (bare size a l) (10 ∷ []) more

pub is_bare : (size a : ℕ) (l : Line) (line : List ℕ) → line ++ 10 ∷ [] ≡ line_text size a l → line ≡ bare size a l
is_bare size a l line is = append_cancel_right line (bare size a l) (10 ∷ []) (is ∙ sym (append-none (line_text size a l)) ∙ with_feed size a l [])
  where
    append-none : (xs : List ℕ) → xs ++ [] ≡ xs
    append-none [] = refl
    append-none (x ∷ xs) = ap (λ (ys : List ℕ). x ∷ ys) (append-none xs)

pub bare_lacks : (size a : ℕ) (l : Line) → IsLine l → All (λ c. c ≢ 10) (bare size a l)
bare_lacks size a l line =
    let after : List ℕ = encode_lower l.bytes ++ 32 ∷ l.text in
    All-append (λ c. c ≢ 10) (address_text size a) (58 ∷ 32 ∷ after) (encoded_lacks 10 (omega arith) (omega arith) (address_bytes size a))
    (All-cons (λ c. c ≢ 10) 58 (32 ∷ after) (λ e. omega (arith, e)) (All-cons (λ c. c ≢ 10) 32 after (λ e. omega (arith, e))
    (All-append (λ c. c ≢ 10) (encode_lower l.bytes) (32 ∷ l.text) (encoded_lacks 10 (omega arith) (omega arith) l.bytes)
    (All-cons (λ c. c ≢ 10) 32 l.text (λ e. omega (arith, e)) line.one_line))))

pub is_shown : (l : Line) → IsLine l → AreShown l.bytes
is_shown l line = record { some = line.some; most = line.most; are_bytes = line.are_bytes }

module _ (size : ℕ) (most : size ≤ 8) (line : List ℕ) (n : ℕ) (same : n ≡ size) (a : ℕ) (l : Line) (is_line : IsLine l) (is : line ++ 10 ∷ [] ≡ line_text size a l) where
  whole : line ≡ bare size a l
  whole = is_bare size a l line is

  digits : length (address_text size a) ≡ 2 * n
  digits = length-encode_with lower_digits (address_bytes size a) ∙ omega (arith, same, address_long size a most)

  pub head_is : take (2 * n) line ≡ address_text size a
  head_is = ap (take (2 * n)) whole ∙ take_at (address_text size a) _ (2 * n) digits

  rest_from : drop (2 * n + 2) line ≡ encode_lower l.bytes ++ 32 ∷ l.text
  rest_from = sym (drop-drop 2 (2 * n) line) ∙ ap (λ (xs : List ℕ). drop 2 (drop (2 * n) xs)) whole
      ∙ ap (drop 2) (drop_at (address_text size a) (58 ∷ 32 ∷ (encode_lower l.bytes ++ 32 ∷ l.text)) (2 * n) digits)

  pub not_short : length line < 2 * n + 2 → ⊥
  not_short short = omega (arith, short, ap length whole, digits, length-append (address_text size a) (58 ∷ 32 ∷ (encode_lower l.bytes ++ 32 ∷ l.text)))

  module _ (rest : List ℕ) (rest_is : rest ≡ drop (2 * n + 2) line) where
    after_head : rest ≡ encode_lower l.bytes ++ 32 ∷ l.text
    after_head = rest_is ∙ rest_from

    lacks : All (λ c. c ≢ 32) (encode_lower l.bytes)
    lacks = encoded_lacks 32 (omega arith) (omega arith) l.bytes

    pub blank_is : (r : Option ℕ) → IsFirstByte (is_byte 32) rest r → r ≡ Some (length (encode_lower l.bytes))
    blank_is r first = first_is 32 rest (encode_lower l.bytes) l.text after_head lacks r first

    pub digits_are : (k : ℕ) → k ≡ length (encode_lower l.bytes) → take k rest ≡ encode_lower l.bytes
    digits_are k long_is = ap (λ (i : ℕ). take i rest) long_is ∙ front_is 32 rest (encode_lower l.bytes) l.text after_head lacks

    pub text_is : (k : ℕ) → k ≡ length (encode_lower l.bytes) → drop (k + 1) rest ≡ l.text
    text_is k long_is = ap (λ (i : ℕ). drop (i + 1) rest) long_is ∙ behind_is 32 rest (encode_lower l.bytes) l.text after_head lacks

pub part_is : (xs : List ℕ) (n k : ℕ) → take (length (take (length xs - n) (drop n xs)) - k) (drop k (take (length xs - n) (drop n xs))) ≡ drop (n + k) xs
part_is xs n k = take_rest (take (length xs - n) (drop n xs)) k ∙ ap (drop k) (take_rest xs n) ∙ drop-drop k n xs

pub none_is_some : (n : ℕ) → ◌≡◌ {A = Option ℕ} None (Some n) → ⊥
none_is_some n e = cc

pub some_is : (m n : ℕ) → ◌≡◌ {A = Option ℕ} (Some m) (Some n) → m ≡ n
some_is m n e = cc

pub same_line : (size a b : ℕ) (l : Line) (bytes text : List ℕ) → address_text size a ≡ address_text size b → bytes ≡ l.bytes → text ≡ l.text
    → line_text size a (line_of bytes text) ≡ line_text size b l
same_line size a b l bytes text address shown is =
    ap (λ (xs : List ℕ). xs ++ 58 ∷ 32 ∷ (encode_lower bytes ++ 32 ∷ (text ++ 10 ∷ []))) address
    ∙ ap (λ (xs : List ℕ). address_text size b ++ 58 ∷ 32 ∷ (encode_lower xs ++ 32 ∷ (text ++ 10 ∷ []))) shown
    ∙ ap (λ (xs : List ℕ). address_text size b ++ 58 ∷ 32 ∷ (encode_lower l.bytes ++ 32 ∷ (xs ++ 10 ∷ []))) is
