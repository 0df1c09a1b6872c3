-- A text is read as lines in one way.
use Rattle.std.proofs.Common.{◌⊎◌, inl, inr, ◌≡◌, ◌≢◌, ℕ, ◌+◌, ◌*◌, ◌/◌, ◌^◌, ◌<◌, ◌≤◌, List, [], ◌∷◌, ◌++◌, length, refl, sym, ap, subst, ◌∙◌, arith, append_assoc, append-nil, length-append}
use Rattle.std.proofs.lemmas.List.{drop_at, take_at}
use Rattle.std.proofs.Common.{drop, take}
use Rattle.std.proofs.lemmas.List.Elements.{All-head, All-tail}
use Rattle.std.specs.List.{All}
use Rattle.hex.proofs.HexLemmas.{length-encode_with}
use Rattle.hex.specs.Hex.{decode_sized, encode_lower, lower_digits}
use Rattle.sl_asm_lines.proofs.NumberLemmas.{address_bytes, address_long, same_address, same_bytes}
use Rattle.sl_asm_lines.proofs.ReadingLemmas.{bytes_append}
use Rattle.sl_asm_lines.proofs.TextLemmas.{bare, bare_lacks, encoded_lacks, is_shown, shown_decoded, with_feed}
use Rattle.sl_asm_lines.specs.Lines.{IsLine, Line, bytes_of, line_text, text_from}
use Rattle.sl_asm_lines.specs.Reading.{BeginsBy, CanFollow, IsBadAddress, IsBadLine, IsRead}
use Rattle.sl_list_instructions.specs.Lines.{address_text}

-- ---- what comes before the first place of a byte

pub record AreCut (x y u v : List ℕ) : Type 0 where
  pub front : x ≡ y
  pub rest : u ≡ v

pub cut_alike : (d : ℕ) (x y u v : List ℕ) → All (λ c. c ≢ d) x → All (λ c. c ≢ d) y → x ++ d ∷ u ≡ y ++ d ∷ v → AreCut x y u v
cut_alike d [] [] u v hx hy is = record { front = refl; rest = cc }
cut_alike d [] (b ∷ y) u v hx hy is = let same : b ≡ d = cc in absurd (All-head (λ c. c ≢ d) b y hy same)
cut_alike d (a ∷ x) [] u v hx hy is = let same : a ≡ d = cc in absurd (All-head (λ c. c ≢ d) a x hx same)
cut_alike d (a ∷ x) (b ∷ y) u v hx hy is =
    let head : a ≡ b = cc in
    let tail : x ++ d ∷ u ≡ y ++ d ∷ v = cc in
    let more = cut_alike d x y u v (All-tail (λ c. c ≢ d) a x hx) (All-tail (λ c. c ≢ d) b y hy) tail in
    record { front = ap (λ (c : ℕ). c ∷ x) head ∙ ap (λ (l : List ℕ). b ∷ l) more.front; rest = more.rest }

-- ---- the line at the front

module _ (size : ℕ) (most : size ≤ 8) where
  digits_long : (a : ℕ) → length (address_text size a) ≡ 2 * size
  digits_long a = length-encode_with lower_digits (address_bytes size a) ∙ omega (arith, address_long size a most)

  pub record AreSame (a b : ℕ) (l k : Line) (x y : List ℕ) : Type 0 where
    pub address : a ≡ b
    pub line : l ≡ k
    pub rest : x ≡ y

  -- bytes have one spelling
  same_shown : (l k : Line) → IsLine l → IsLine k → encode_lower l.bytes ≡ encode_lower k.bytes → l.bytes ≡ k.bytes
  same_shown l k is_l is_k same =
      let digits = encode_lower l.bytes in
      let n : ℕ = length l.bytes in
      let twice : length digits ≡ 2 * n = length-encode_with lower_digits l.bytes in
      let half : n ≡ length digits / 2 = omega (arith, twice) in
      same_bytes (decode_sized digits n) l.bytes k.bytes (shown_decoded digits l.bytes n half (is_shown l is_l) refl)
      (shown_decoded digits k.bytes n half (is_shown k is_k) same)

  pub same_front : (a b : ℕ) (l k : Line) (x y : List ℕ) → a < 256 ^ size → b < 256 ^ size → IsLine l → IsLine k
      → line_text size a l ++ x ≡ line_text size b k ++ y → AreSame a b l k x y
  same_front a b l k x y below_a below_b is_l is_k is =
      let cut = cut_alike 10 (bare size a l) (bare size b k) x y (bare_lacks size a l is_l) (bare_lacks size b k is_k)
      (sym (with_feed size a l x) ∙ is ∙ with_feed size b k y) in
      let after_l : List ℕ = 58 ∷ 32 ∷ (encode_lower l.bytes ++ 32 ∷ l.text) in
      let after_k : List ℕ = 58 ∷ 32 ∷ (encode_lower k.bytes ++ 32 ∷ k.text) in
      let digits : address_text size a ≡ address_text size b =
      sym (take_at (address_text size a) after_l (2 * size) (digits_long a)) ∙ ap (take (2 * size)) cut.front
      ∙ take_at (address_text size b) after_k (2 * size) (digits_long b) in
      let after : after_l ≡ after_k =
      sym (drop_at (address_text size a) after_l (2 * size) (digits_long a)) ∙ ap (drop (2 * size)) cut.front
      ∙ drop_at (address_text size b) after_k (2 * size) (digits_long b) in
      let inner : encode_lower l.bytes ++ 32 ∷ l.text ≡ encode_lower k.bytes ++ 32 ∷ k.text = ap (drop 2) after in
      let parts = cut_alike 32 (encode_lower l.bytes) (encode_lower k.bytes) l.text k.text
      (encoded_lacks 32 (omega arith) (omega arith) l.bytes) (encoded_lacks 32 (omega arith) (omega arith) k.bytes) inner in
      let bytes = same_shown l k is_l is_k parts.front in
      record { address = same_address size a b most below_a below_b digits; line = λ i. record { bytes = bytes i; text = parts.rest i }; rest = cut.rest }

  -- ---- all lines

  -- Lines at the front of others: what comes after them is the text of those that are left.
  pub record ComesFirst (base other : ℕ) (lines ls : List Line) (rest : List ℕ) : Type 0 where
    pub more : List Line
    pub parts : ls ≡ lines ++ more
    pub rest_is : rest ≡ text_from size (other + length (bytes_of lines)) more
    pub base_is : (lines ≡ []) ⊎ (base ≡ other)

  line_isnt_nothing : (a : ℕ) (l : Line) (x y : List ℕ) → line_text size a l ++ x ≡ y → y ≡ [] → ⊥
  line_isnt_nothing a l x y is none =
      omega (arith, ap length is, ap length none, length-append (line_text size a l) x, length-append (address_text size a) (58 ∷ 32 ∷ (encode_lower l.bytes ++ 32 ∷ (l.text ++ 10 ∷ []))))

  below_end : (base end : ℕ) (l : Line) (ls : List Line) → IsLine l → base + length (l.bytes ++ bytes_of ls) ≤ end → base < end
  below_end base end l ls line fits = omega (arith, line.some, fits, length-append l.bytes (bytes_of ls))

  fits_after : (base end : ℕ) (l : Line) (ls : List Line) → base + length (l.bytes ++ bytes_of ls) ≤ end → base + length l.bytes + length (bytes_of ls) ≤ end
  fits_after base end l ls fits = omega (arith, fits, length-append l.bytes (bytes_of ls))

  pub comes_first : (lines ls : List Line) (base other : ℕ) (rest : List ℕ) → All IsLine lines → All IsLine ls
      → base + length (bytes_of lines) ≤ 256 ^ size → other + length (bytes_of ls) ≤ 256 ^ size
      → text_from size base lines ++ rest ≡ text_from size other ls → ComesFirst base other lines ls rest
  comes_first [] ls base other rest are_l are_k fits_l fits_k is = record {
    more = ls;
    parts = refl;
    rest_is = is ∙ ap (λ (n : ℕ). text_from size n ls) (omega arith);
    base_is = inl refl;
  }
  comes_first (l ∷ lines) [] base other rest are_l are_k fits_l fits_k is =
      absurd (line_isnt_nothing base l (text_from size (base + length l.bytes) lines ++ rest) [] (sym (append_assoc (line_text size base l) (text_from size (base + length l.bytes) lines) rest) ∙ is) refl)
  comes_first (l ∷ lines) (k ∷ ls) base other rest are_l are_k fits_l fits_k is =
      let line_l = All-head IsLine l lines are_l in
      let line_k = All-head IsLine k ls are_k in
      let front = same_front base other l k (text_from size (base + length l.bytes) lines ++ rest) (text_from size (other + length k.bytes) ls)
      (below_end base (256 ^ size) l lines line_l fits_l) (below_end other (256 ^ size) k ls line_k fits_k) line_l line_k
      (sym (append_assoc (line_text size base l) (text_from size (base + length l.bytes) lines) rest) ∙ is) in
      let more = comes_first lines ls (base + length l.bytes) (other + length k.bytes) rest (All-tail IsLine l lines are_l) (All-tail IsLine k ls are_k)
      (fits_after base (256 ^ size) l lines fits_l) (fits_after other (256 ^ size) k ls fits_k) front.rest in
      let as_long : length l.bytes ≡ length k.bytes = ap (λ (m : Line). length m.bytes) front.line in
      let moved : other + length k.bytes + length (bytes_of lines) ≡ other + length (l.bytes ++ bytes_of lines) = omega (arith, as_long, length-append l.bytes (bytes_of lines)) in record {
        more = more.more;
        parts = ap (λ (ms : List Line). k ∷ ms) more.parts ∙ ap (λ (m : Line). m ∷ (lines ++ more.more)) (sym front.line);
        rest_is = more.rest_is ∙ ap (λ (n : ℕ). text_from size n more.more) moved;
        base_is = inr front.address;
      }

  -- ---- a text that is read has no bad line

  module _ (text : List ℕ) (other : ℕ) (ls : List Line) (is : IsRead size text other ls) where
    first_of : (base : ℕ) (lines : List Line) (rest : List ℕ) → BeginsBy size text base lines rest → ComesFirst base other lines ls rest
    first_of base lines rest b =
        comes_first lines ls base other rest b.are_lines is.are_lines b.fits is.fits (sym b.is ∙ is.is ∙ append-nil (text_from size other ls))

    after_first : (lines more : List Line) → ls ≡ lines ++ more → All IsLine more
    after_first [] more parts = subst (All IsLine) parts is.are_lines
    after_first (l ∷ lines) more parts = drop_front (l ∷ lines) more (subst (All IsLine) parts is.are_lines)
      where
        drop_front : (xs ys : List Line) → All IsLine (xs ++ ys) → All IsLine ys
        drop_front [] ys all = all
        drop_front (x ∷ xs) ys all = drop_front xs ys (All-tail IsLine x (xs ++ ys) all)

    pub never_bad_line : (number : ℕ) → IsBadLine size text number → ⊥
    never_bad_line number b = by (first_of b.base b.lines b.rest b.before)
      where
        by : ComesFirst b.base other b.lines ls b.rest → ⊥
        by f = by_more f.more f.parts f.rest_is
          where
            by_more : (more : List Line) → ls ≡ b.lines ++ more → b.rest ≡ text_from size (other + length (bytes_of b.lines)) more → ⊥
            by_more [] parts rest_is = b.there rest_is
            by_more (m ∷ ms) parts rest_is =
                b.bad (other + length (bytes_of b.lines)) m (text_from size (other + length (bytes_of b.lines) + length m.bytes) ms) (All-head IsLine m ms (after_first b.lines (m ∷ ms) parts)) rest_is

    pub never_bad_address : (number : ℕ) → IsBadAddress size text number → ⊥
    never_bad_address number b = by (first_of b.base b.lines b.rest b.before)
      where
        follows : (lines : List Line) (m : Line) (ms : List Line) → ls ≡ lines ++ m ∷ ms → (lines ≡ []) ⊎ (b.base ≡ other) → (address : ℕ) → address ≡ other + length (bytes_of lines)
            → CanFollow size b.base lines address m
        follows [] m ms parts based address at = record { after = tt; fits = omega (arith, at, is.fits, ap (λ (x : List Line). length (bytes_of x)) parts, length-append m.bytes (bytes_of ms)) }
        follows (l ∷ lines) m ms parts (inl none) address at = absurd (omega (arith, ap length none))
        follows (l ∷ lines) m ms parts (inr same) address at = record {
          after = at ∙ ap (λ (n : ℕ). n + length (bytes_of (l ∷ lines))) (sym same);
          fits = omega (
            arith,
            at,
            is.fits,
            ap (λ (x : List Line). length (bytes_of x)) parts,
            ap length (bytes_append (l ∷ lines) (m ∷ ms)),
            length-append (bytes_of (l ∷ lines)) (bytes_of (m ∷ ms)),
            length-append m.bytes (bytes_of ms),
          );
        }

        by : ComesFirst b.base other b.lines ls b.rest → ⊥
        by f = by_more f.more f.parts f.rest_is
          where
            by_more : (more : List Line) → ls ≡ b.lines ++ more → b.rest ≡ text_from size (other + length (bytes_of b.lines)) more → ⊥
            by_more [] parts rest_is = line_isnt_nothing b.address b.line b.more b.rest (sym b.front.is) rest_is
            by_more (m ∷ ms) parts rest_is =
                let line_m = All-head IsLine m ms (after_first b.lines (m ∷ ms) parts) in
                let there : ℕ = other + length (bytes_of b.lines) in
                let below : there < 256 ^ size = omega (
                  arith,
                  line_m.some,
                  is.fits,
                  ap (λ (x : List Line). length (bytes_of x)) parts,
                  ap length (bytes_append b.lines (m ∷ ms)),
                  length-append (bytes_of b.lines) (bytes_of (m ∷ ms)),
                  length-append m.bytes (bytes_of ms),
                ) in
                let front = same_front b.address there b.line m b.more (text_from size (there + length m.bytes) ms) b.front.in_space below b.front.is_line line_m (sym b.front.is ∙ rest_is) in
                b.bad (subst (λ (l : Line). CanFollow size b.base b.lines b.address l) (sym front.line) (follows b.lines m ms parts f.base_is b.address front.address))

    -- ---- it is read in one way

    pub record IsSameReading (base : ℕ) (lines : List Line) : Type 0 where
      pub lines_are : lines ≡ ls
      pub base_is : (lines ≡ []) ⊎ (base ≡ other)

    pub same_reading : (base : ℕ) (lines : List Line) → IsRead size text base lines → IsSameReading base lines
    same_reading base lines r = by (first_of base lines [] r)
      where
        by : ComesFirst base other lines ls [] → IsSameReading base lines
        by f = by_more f.more f.parts f.rest_is
          where
            by_more : (more : List Line) → ls ≡ lines ++ more → [] ≡ text_from size (other + length (bytes_of lines)) more → IsSameReading base lines
            by_more [] parts none = record { lines_are = sym (parts ∙ append-nil lines); base_is = f.base_is }
            by_more (m ∷ ms) parts none = absurd (line_isnt_nothing (other + length (bytes_of lines)) m (text_from size (other + length (bytes_of lines) + length m.bytes) ms) [] (sym none) refl)
