-- Varnodes are told apart by their texts.
use Rattle.std.proofs.Common.{◌≡◌, ◌≢◌, ℕ, zero, suc, ◌+◌, ◌-◌, ◌*◌, ◌/◌, ◌%◌, ◌^◌, ◌<◌, ◌≤◌, false, List, [], ◌∷◌, ◌++◌, length, get_or, drop, Ok, refl, sym, ap, subst, ◌∙◌, arith}
use Rattle.std.specs.Prelude.{codes}
use Rattle.std.specs.Fmt.{decimal, digits}
use Rattle.std.specs.Int.{w64, to_be_bytes, byte_at, bytes_high_first}
use Rattle.std.proofs.lemmas.Fmt.{decimal_injective}
use Rattle.std.proofs.lemmas.List.{get_or-drop}
use Rattle.std.proofs.Math.Arith.{mod-mul}
use Rattle.std.proofs.Math.Nat.{div-one, mod-eq_of_lt, mod-one, pow-succ'}
use Rattle.hex.specs.Hex.{IsBytes, decode_of}
use Rattle.hex.proofs.HexLemmas.{decode_of-encode_lower}
use Rattle.sl_word.specs.Sizes.{byte_counts}
use Rattle.sl_word.specs.declared.word.AddressSize.{AddressSize}
use Rattle.sl_word.specs.declared.word.Size.{Size}
use Rattle.std.proofs.Math.Bridge.{le_prop}
use Rattle.sl_word.proofs.Powers.{bytes_mono, bytes_pos}
use Rattle.sl_pcode.specs.Text.{name_at, offset_text, place_text, varnode_text}
use Rattle.sl_pcode.specs.WellFormed.{IsAtPlace, IsInRange}
use Rattle.sl_pcode.specs.declared.print.Names.{Names}
use Rattle.sl_pcode.specs.declared.varnode.Place2.{Place2}
use Rattle.sl_pcode.specs.declared.varnode.Place2.TheVariants.{Const, Unique, In}
use Rattle.sl_pcode.specs.declared.varnode.Varnode.{Varnode}
use Rattle.sl_emu.specs.Readable.{Lacks, AreReadable}
use Rattle.sl_emu.proofs.Cuts.{by_test, lacks-append, cut, has, decimal_lacks, hex_lacks, hex_same, encoded_lacks}

-- the bytes of an offset
bytes_small : (k n i : ℕ) → get_or (bytes_high_first k n) i 0 < 256
bytes_small zero n i = omega arith
bytes_small (suc zero) n zero = omega arith
bytes_small (suc (suc k)) n zero = omega arith
bytes_small (suc k) n (suc i) = bytes_small k n i

offset_bytes : (n o : ℕ) → IsBytes (drop (8 - n) (to_be_bytes w64 o))
offset_bytes n o = λ i. subst (λ (b : ℕ). b < 256) (sym (get_or-drop (8 - n) (to_be_bytes w64 o) i 0)) (bytes_small 8 o (8 - n + i))

byte_is : (i n : ℕ) → byte_at i n ≡ n / 256 ^ i % 256
byte_is zero n = ap (λ k. k % 256) (sym (div-one n))
byte_is (suc i) n = refl

drop_high : (k j o : ℕ) → drop k (bytes_high_first (k + j) o) ≡ bytes_high_first j o
drop_high zero j o = let same : 0 + j ≡ j = omega arith in ap (λ n. bytes_high_first n o) same
drop_high (suc k) j o = let more : suc k + j ≡ suc (k + j) = omega arith in ap (λ n. drop (suc k) (bytes_high_first n o)) more ∙ drop_high k j o

high_same : (w o p : ℕ) → bytes_high_first w o ≡ bytes_high_first w p → o % 256 ^ w ≡ p % 256 ^ w
high_same zero o p e = mod-one o ∙ sym (mod-one p)
high_same (suc w) o p e =
    let head : byte_at w o ≡ byte_at w p = cc in
    let top : o / 256 ^ w % 256 ≡ p / 256 ^ w % 256 = sym (byte_is w o) ∙ head ∙ byte_is w p in
    let low = high_same w o p (let tail : bytes_high_first w o ≡ bytes_high_first w p = cc in tail) in
    let worth : o / 256 ^ w % 256 * 256 ^ w ≡ p / 256 ^ w % 256 * 256 ^ w = ap (λ b. b * 256 ^ w) top in
    let split_o = mod-mul o {m = 256} {c = 256 ^ w} (omega arith) (bytes_pos w) in
    let split_p = mod-mul p {m = 256} {c = 256 ^ w} (omega arith) (bytes_pos w) in
    rw (pow-succ' 256 w) (omega (arith, split_o, split_p, worth, low))

pub offset_same : (w o p : ℕ) → w ≤ 8 → o < 256 ^ w → p < 256 ^ w → offset_text w o ≡ offset_text w p → o ≡ p
offset_same w o p short ho hp e =
    let read : Ok (drop (8 - w) (to_be_bytes w64 o)) ≡ Ok (drop (8 - w) (to_be_bytes w64 p)) =
    sym (decode_of-encode_lower _ (offset_bytes w o)) ∙ ap decode_of e ∙ decode_of-encode_lower _ (offset_bytes w p) in
    let bytes : drop (8 - w) (to_be_bytes w64 o) ≡ drop (8 - w) (to_be_bytes w64 p) = cc in
    let whole : (8 - w) + w ≡ 8 = omega arith in
    let high : bytes_high_first w o ≡ bytes_high_first w p =
    sym (drop_high (8 - w) w o) ∙ ap (λ n. drop (8 - w) (bytes_high_first n o)) whole ∙ bytes ∙ ap (λ n. drop (8 - w) (bytes_high_first n p)) (sym whole) ∙ drop_high (8 - w) w p
    in
    sym (mod-eq_of_lt ho) ∙ high_same w o p high ∙ mod-eq_of_lt hp

width_at : (xs : List AddressSize) (i : ℕ) → i < length (byte_counts xs) → get_or (byte_counts xs) i 0 ≤ 8
width_at [] i inside = absurd (omega arith)
width_at (x ∷ xs) zero inside = x.at_most_8
width_at (x ∷ xs) (suc i) inside = width_at xs i (omega arith)

-- what stands between the brackets of a place, and behind them
close : (b t : List ℕ) → b ++ 93 ∷ 58 ∷ t ≡ (b ++ 93 ∷ []) ++ 58 ∷ t
close [] t = refl
close (x ∷ b) t = ap (λ r. x ∷ r) (close b t)

open_up : (a b t : List ℕ) → a ++ 91 ∷ (b ++ 93 ∷ 58 ∷ t) ≡ (a ++ 91 ∷ (b ++ 93 ∷ [])) ++ 58 ∷ t
open_up [] b t = ap (λ r. 91 ∷ r) (close b t)
open_up (x ∷ a) b t = ap (λ r. x ∷ r) (open_up a b t)

-- Varnodes with the same parts are the same.
sized : (n : ℕ) → 1 ≤ n → n ≤ 16 → Size
sized n p q = record { bytes = n; some = p; at_most_16 = q }

size_by : (a : Size) (n : ℕ) → a.bytes ≡ n → (p : 1 ≤ n) (q : n ≤ 16) → a ≡ sized n p q
unfolding sized
size_by a n e =
    subst (λ (k : ℕ). (p : 1 ≤ k) (q : k ≤ 16) → a ≡ sized k p q) e
    (λ p q. ap (λ (r : 1 ≤ a.bytes). sized a.bytes r a.at_most_16) (le_prop a.some p) ∙ ap (λ (r : a.bytes ≤ 16). sized a.bytes p r) (le_prop a.at_most_16 q))

size_same : (a b : Size) → a.bytes ≡ b.bytes → a ≡ b
unfolding sized
size_same a b e = size_by a b.bytes e b.some b.at_most_16

node : Place2 → ℕ → Size → Varnode
node place offset size = record { place = place; offset = offset; size = size }

pub by_parts : (v w : Varnode) → v.place ≡ w.place → v.offset ≡ w.offset → v.size.bytes ≡ w.size.bytes → v ≡ w
unfolding node
by_parts v w place offset bytes =
    ap (λ (p : Place2). node p v.offset v.size) place ∙ ap (λ (o : ℕ). node w.place o v.size) offset ∙ ap (λ (s : Size). node w.place w.offset s) (size_same v.size w.size bytes)

module _ (names : Names) (readable : AreReadable names) where
  -- what stands before the size
  abbrev left_of : Place2 → ℕ → List ℕ
  left_of Const offset = 48 ∷ 120 ∷ digits 16 false offset
  left_of Unique offset = codes "unique" ++ 91 ∷ (offset_text 4 offset ++ 93 ∷ [])
  left_of (In space) offset = name_at names.spaces.items space.0 ++ 91 ∷ (offset_text (get_or (byte_counts names.sizes.items) space.0 0) offset ++ 93 ∷ [])

  place_is : (place : Place2) (offset bytes : ℕ) → place_text names place offset bytes ≡ left_of place offset ++ 58 ∷ decimal bytes
  place_is Const offset bytes = refl
  place_is Unique offset bytes = open_up (codes "unique") (offset_text 4 offset) (decimal bytes)
  place_is (In space) offset bytes = open_up (name_at names.spaces.items space.0) (offset_text (get_or (byte_counts names.sizes.items) space.0 0) offset) (decimal bytes)

  narrow : (offset bytes : ℕ) → bytes ≤ 16 → offset < 256 ^ bytes → offset < 16 ^ 64
  narrow offset bytes short below = omega (arith, below, bytes_mono bytes 16 short)

  left_lacks : (d : ℕ) (place : Place2) (offset bytes : ℕ) → 48 ≢ d → 120 ≢ d → 91 ≢ d → 93 ≢ d → ((n : ℕ) → n < 16 ^ 64 → Lacks d (digits 16 false n)) → ((w o : ℕ) → Lacks d (offset_text w o)) → Lacks d (codes "unique") → ((i : ℕ) → Lacks d (name_at names.spaces.items i))
      → bytes ≤ 16 → IsAtPlace (byte_counts names.sizes.items) place offset bytes → Lacks d (left_of place offset)
  left_lacks d Const offset bytes n0 nx nl nr hex off own name short range = (n0, (nx, hex offset (narrow offset bytes short range)))
  left_lacks d Unique offset bytes n0 nx nl nr hex off own name short range = lacks-append d (codes "unique") (91 ∷ (offset_text 4 offset ++ 93 ∷ [])) own (nl, lacks-append d (offset_text 4 offset) (93 ∷ []) (off 4 offset) (nr, tt))
  left_lacks d (In space) offset bytes n0 nx nl nr hex off own name short range =
      lacks-append d (name_at names.spaces.items space.0) (91 ∷ (offset_text (get_or (byte_counts names.sizes.items) space.0 0) offset ++ 93 ∷ [])) (name space.0) (nl, lacks-append d (offset_text (get_or (byte_counts names.sizes.items) space.0 0) offset) (93 ∷ []) (off (get_or (byte_counts names.sizes.items) space.0 0) offset) (nr, tt))

  colon : (place : Place2) (offset bytes : ℕ) → bytes ≤ 16 → IsAtPlace (byte_counts names.sizes.items) place offset bytes → Lacks 58 (left_of place offset)
  colon place offset bytes short range =
      left_lacks 58 place offset bytes (λ e. omega (arith, e)) (λ e. omega (arith, e)) (λ e. omega (arith, e)) (λ e. omega (arith, e)) (λ n h. hex_lacks 58 n (omega arith) h)
      (λ w o. encoded_lacks 58 refl _ (offset_bytes w o)) (by_test 58 (codes "unique") refl) (λ i. (readable.plain i).colon) short range

  between : (a b : ℕ) (w : ℕ) → w ≤ 8 → a < 256 ^ w → b < 256 ^ w → offset_text w a ++ 93 ∷ [] ≡ offset_text w b ++ 93 ∷ [] → a ≡ b
  between a b w short ha hb e =
      offset_same w a b short ha hb (cut 93 (offset_text w a) (offset_text w b) [] [] (encoded_lacks 93 refl _ (offset_bytes w a)) (encoded_lacks 93 refl _ (offset_bytes w b)) e).0

  constant_lacks : (offset bytes : ℕ) → bytes ≤ 16 → offset < 256 ^ bytes → Lacks 91 (left_of Const offset)
  constant_lacks offset bytes short below = ((λ e. omega (arith, e)), ((λ e. omega (arith, e)), hex_lacks 91 offset (omega arith) (narrow offset bytes short below)))

  -- The text before the size fixes place and offset.
  left_same : (p q : Place2) (o o' s s' : ℕ) → s ≤ 16 → s' ≤ 16 → 1 ≤ s → 1 ≤ s' → IsAtPlace (byte_counts names.sizes.items) p o s → IsAtPlace (byte_counts names.sizes.items) q o' s' → left_of p o ≡ left_of q o' → (p ≡ q) × (o ≡ o')
  left_same Const Const o o' s s' short short' some some' range range' e =
      let rest : digits 16 false o ≡ digits 16 false o' = cc in (refl, hex_same o o' (narrow o s short range) (narrow o' s' short' range') rest)
  left_same Const Unique o o' s s' short short' some some' range range' e =
      absurd (has 91 (codes "unique") _ (subst (Lacks 91) e (constant_lacks o s short range)))
  left_same Const (In space) o o' s s' short short' some some' range range' e =
      absurd (has 91 (name_at names.spaces.items space.0) _ (subst (Lacks 91) e (constant_lacks o s short range)))
  left_same Unique Const o o' s s' short short' some some' range range' e =
      absurd (has 91 (codes "unique") _ (subst (Lacks 91) (sym e) (constant_lacks o' s' short' range')))
  left_same (In space) Const o o' s s' short short' some some' range range' e =
      absurd (has 91 (name_at names.spaces.items space.0) _ (subst (Lacks 91) (sym e) (constant_lacks o' s' short' range')))
  left_same Unique Unique o o' s s' short short' some some' range range' e =
      let parts = cut 91 (codes "unique") (codes "unique") _ _ (by_test 91 (codes "unique") refl) (by_test 91 (codes "unique") refl) e in
      (refl, between o o' 4 (omega arith) (omega (arith, range, some)) (omega (arith, range', some')) parts.1)
  left_same Unique (In space) o o' s s' short short' some some' range range' e =
      let parts = cut 91 (codes "unique") (name_at names.spaces.items space.0) _ _ (by_test 91 (codes "unique") refl) (readable.plain space.0).bracket e in
      absurd (readable.own space.0 (sym parts.0))
  left_same (In space) Unique o o' s s' short short' some some' range range' e =
      let parts = cut 91 (name_at names.spaces.items space.0) (codes "unique") _ _ (readable.plain space.0).bracket (by_test 91 (codes "unique") refl) e in
      absurd (readable.own space.0 parts.0)
  left_same (In a) (In b) o o' s s' short short' some some' range range' e =
      let parts = cut 91 (name_at names.spaces.items a.0) (name_at names.spaces.items b.0) _ _ (readable.plain a.0).bracket (readable.plain b.0).bracket e in
      let number : a.0 ≡ b.0 = readable.apart a.0 b.0 range.0 range'.0 parts.0 in
      let width : get_or (byte_counts names.sizes.items) a.0 0 ≡ get_or (byte_counts names.sizes.items) b.0 0 = ap (λ i. get_or (byte_counts names.sizes.items) i 0) number in
      let there : o' < 256 ^ get_or (byte_counts names.sizes.items) a.0 0 = rw width range'.1 in
      let texts : offset_text (get_or (byte_counts names.sizes.items) a.0 0) o ++ 93 ∷ [] ≡ offset_text (get_or (byte_counts names.sizes.items) a.0 0) o' ++ 93 ∷ [] =
      parts.1 ∙ ap (λ w. offset_text w o' ++ 93 ∷ []) (sym width) in (
        ap (λ (n : ℕ). In (record { 0 = n })) number,
        between o o' (get_or (byte_counts names.sizes.items) a.0 0) (width_at names.sizes.items a.0 range.0) range.1 there texts,
      )

  -- The text of a varnode in range fixes it.
  pub same_varnode : (v w : Varnode) → IsInRange (byte_counts names.sizes.items) v → IsInRange (byte_counts names.sizes.items) w → varnode_text names v ≡ varnode_text names w → v ≡ w
  same_varnode v w rv rw' e =
      let parts =
      cut 58 (left_of v.place v.offset) (left_of w.place w.offset) (decimal v.size.bytes) (decimal w.size.bytes)
      (colon v.place v.offset v.size.bytes v.size.at_most_16 rv) (colon w.place w.offset w.size.bytes w.size.at_most_16 rw')
      (sym (place_is v.place v.offset v.size.bytes) ∙ e ∙ place_is w.place w.offset w.size.bytes)
      in
      let left = left_same v.place w.place v.offset w.offset v.size.bytes w.size.bytes v.size.at_most_16 w.size.at_most_16 v.size.some w.size.some rv rw' parts.0 in
      let sv = v.size.at_most_16 in
      let sw = w.size.at_most_16 in
      by_parts v w left.0 left.1 (decimal_injective v.size.bytes w.size.bytes (omega (arith, sv)) (omega (arith, sw)) parts.1)

  -- It has a colon, and no blank or comma.
  pub varnode_has_colon : (v : Varnode) → Lacks 58 (varnode_text names v) → ⊥
  varnode_has_colon v h = has 58 (left_of v.place v.offset) (decimal v.size.bytes) (subst (Lacks 58) (place_is v.place v.offset v.size.bytes) h)

  pub varnode_lacks_blank : (v : Varnode) → IsInRange (byte_counts names.sizes.items) v → Lacks 32 (varnode_text names v)
  varnode_lacks_blank v range =
      let short = v.size.at_most_16 in
      subst (Lacks 32) (sym (place_is v.place v.offset v.size.bytes))
      (lacks-append 32 (left_of v.place v.offset) (58 ∷ decimal v.size.bytes)
      (left_lacks 32 v.place v.offset v.size.bytes (λ e. omega (arith, e)) (λ e. omega (arith, e)) (λ e. omega (arith, e)) (λ e. omega (arith, e)) (λ n h. hex_lacks 32 n (omega arith) h)
      (λ w o. encoded_lacks 32 refl _ (offset_bytes w o)) (by_test 32 (codes "unique") refl) (λ i. (readable.plain i).blank) short range)
      ((λ e. omega (arith, e)), decimal_lacks 32 v.size.bytes (omega arith) (omega (arith, short))))

  pub varnode_lacks_comma : (v : Varnode) → IsInRange (byte_counts names.sizes.items) v → Lacks 44 (varnode_text names v)
  varnode_lacks_comma v range =
      let short = v.size.at_most_16 in
      subst (Lacks 44) (sym (place_is v.place v.offset v.size.bytes))
      (lacks-append 44 (left_of v.place v.offset) (58 ∷ decimal v.size.bytes)
      (left_lacks 44 v.place v.offset v.size.bytes (λ e. omega (arith, e)) (λ e. omega (arith, e)) (λ e. omega (arith, e)) (λ e. omega (arith, e)) (λ n h. hex_lacks 44 n (omega arith) h)
      (λ w o. encoded_lacks 44 refl _ (offset_bytes w o)) (by_test 44 (codes "unique") refl) (λ i. (readable.plain i).comma) short range)
      ((λ e. omega (arith, e)), decimal_lacks 44 v.size.bytes (omega arith) (omega (arith, short))))
