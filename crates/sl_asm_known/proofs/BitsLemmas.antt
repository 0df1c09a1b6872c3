-- Regions narrowed by the bits of a field, byte by byte.
use Rattle.std.proofs.Common.{◌≡◌, ℕ, suc, ◌+◌, ◌-◌, ◌*◌, ◌/◌, ◌%◌, ◌^◌, ◌<◌, ◌≤◌, min, bit_and, List, length, get_or, Bool, true, false, Option, None, Some, Ok, IsTrue, arith, refl, sym, ap, subst, ◌∙◌, inl, inr}
use Rattle.std.specs.Prelude.{IfOk, IfSome, Result, option_map, slice_get, nat_le, if◌then◌else◌}
use Rattle.std.specs.Int.{bit_at}
use Rattle.std.proofs.lemmas.Bool.{cases_lt, false≢true}
use Rattle.std.proofs.lemmas.Nat.Bits.{bit_at_and, bit_at_cat_high, bit_at_cat_low, bit_at_ones, bit_at_ones_above, bit_at-lt}
use Rattle.sl_asm_bits.proofs.BitLemmas.{one_of_64}
use Rattle.sl_asm_bits.proofs.NumberLemmas.{masked}
use Rattle.sl_asm_bits.proofs.ShiftLemmas.{raised_high, raised_low, shifted_at}
use Rattle.sl_asm_bits.specs.Known.{Has, HasBits}
use Rattle.sl_asm_bits.specs.declared.Known.{Known}
use Rattle.sl_asm_fit.specs.Cells.{Fits}
use Rattle.sl_asm_fit.specs.Regions.{IsOf, MissesOne, NarrowsOne}
use Rattle.sl_asm_fit.specs.Windows.{window, with_zeros}
use Rattle.sl_asm_fit.specs.declared.Cell.{Cell}
use Rattle.sl_asm_known.proofs.FieldLemmas.{own_known}
use Rattle.sl_asm_known.proofs.TokenLemmas.{is_byte, part_at, read_first, read_step, token_is}
use Rattle.sl_asm_known.specs.FieldBits.{GivesOwn, HasFieldBits, HasKnownBits, HasNumberBits, HasTokenBits, IsLeftWhere, KeepsWhere}
use Rattle.sl_asm_known.specs.Tokens.{token_number, turn}
use Rattle.sl_asm_known.specs.declared.Frame.{Frame}
use Rattle.sl_cube.specs.Bits.{Agrees}
use Rattle.sl_decode_leaves.specs.Extents.{extent}
use Rattle.sl_decode_leaves.specs.Fields.{own_if}
use Rattle.sl_decode_leaves.specs.declared.extents.Extent.{Extent}
use Rattle.sl_decode_meaning.specs.Lookups.{number_at}
use Rattle.sl_spec.specs.FieldValues.{token_of}
use Rattle.sl_spec.specs.Tables.{Field, Token}
use Rattle.sl_spec.specs.declared.tables.Tables.{Tables}
use Rattle.sl_word.specs.declared.word.Endian.{Endian}

-- ---- the least significant byte, and the others

pub above_has : (m v n b : ℕ) → b < 256 → Agrees m v (n * 256 + b) → Agrees (m / 2 ^ 8) (v / 2 ^ 8) n
above_has m v n b small f = λ i on.
    let up : 8 ≤ 8 + i = omega arith in
    let back : i ≡ 8 + i - 8 = omega arith in
    ap (λ (j : ℕ). bit_at n j) back ∙ sym (bit_at_cat_high n 8 b (8 + i) small up) ∙ f (8 + i) (sym (shifted_at m 8 i) ∙ on) ∙ sym (shifted_at v 8 i)

low_bit : (x i : ℕ) → i < 8 → bit_at (bit_and x 255) i ≡ bit_at x i
low_bit x i lt = let on : bit_at 255 i ≡ 1 = bit_at_ones 8 i lt in bit_at_and x 255 i ∙ omega (arith, on, bit_at-lt x i)

high_bit : (x i : ℕ) → 8 ≤ i → bit_at (bit_and x 255) i ≡ 0
high_bit x i le = let off : bit_at 255 i ≡ 0 = bit_at_ones_above 8 i le in bit_at_and x 255 i ∙ omega (arith, off)

pub lowest_has : (m v n b : ℕ) → b < 256 → Agrees m v (n * 256 + b) → Agrees (bit_and m 255) (bit_and (bit_and v 255) (bit_and m 255)) b
lowest_has m v n b small f = (masked (bit_and m 255) (bit_and v 255) b).0 (λ i on. elim (cases_lt i 8) [
  | inl lt ↦ sym (bit_at_cat_low n 8 b i lt) ∙ f i (sym (low_bit m i lt) ∙ on) ∙ sym (low_bit v i lt)
  | inr le ↦ absurd (omega (arith, high_bit m i le, on))
])

-- ---- a token, byte by byte

-- After some steps: a part of the region, in which all lists are whose token has the bits; what is left of
-- the bits is known of what is left of the token.
pub record IsNarrowed (e : Endian) (size at : ℕ) (k : Known) (region left : List Cell) (rest : Known) (step : ℕ) : Type 0 where
  pub long : length left ≡ length region
  pub within : (xs : List ℕ) → IsOf left xs → IsOf region xs
  pub stays : (xs : List ℕ) → IsOf region xs → Has k (read_first e (part_at size at xs) size) → IsOf left xs
  pub has : (xs : List ℕ) → IsOf region xs → Has k (read_first e (part_at size at xs) size) → Has rest (read_first e (part_at size at xs) (size - step))

pub narrowed_none : (e : Endian) (size at : ℕ) (k : Known) (region : List Cell) → IsNarrowed e size at k region region k 0
narrowed_none e size at k region = record {
  long = refl;
  within = λ xs h. h;
  stays = λ xs h has. h;
  has = λ xs h has. let all : size ≡ size - 0 = omega arith in subst (λ (i : ℕ). Has k (read_first e (part_at size at xs) i)) all has;
}

module _ (e mine : Endian) (size at : ℕ) (k : Known) (region left : List Cell) (rest : Known) (step t : ℕ) (byte : Cell) (same : mine ≡ e)
    (is : t ≡ turn mine size (size - 1 - step)) (below : t < size) (lt : step < size) (within : at + size ≤ window)
    (f : IsNarrowed e size at k region left rest step) where
  split : (xs : List ℕ) → IsOf region xs → Has k (read_first e (part_at size at xs) size)
      → Has rest (read_first e (part_at size at xs) (size - 1 - step) * 256 + get_or xs (at + t) 0)
  split xs inside has =
      let i : ℕ = size - 1 - step in
      let here : i < size = omega (arith, lt) in
      let next : size - step ≡ i + 1 = omega (arith, lt) in
      let there : t ≡ turn e size i = is ∙ ap (λ (x : Endian). turn x size i) same in
      let low : turn e size i < size = subst (λ (x : ℕ). x < size) there below in
      subst (λ (x : ℕ). Has rest (read_first e (part_at size at xs) i * 256 + get_or xs (at + x) 0)) (sym there)
      (subst (λ (n : ℕ). Has rest n) (sym (read_step e size at i xs within here low))
      (subst (λ (j : ℕ). Has rest (read_first e (part_at size at xs) j)) next (f.has xs inside has)))

  module _ (fits : (n b : ℕ) → b < 256 → Has rest (n * 256 + b) → Fits byte b) where
    byte_fits : (xs : List ℕ) → IsOf region xs → Has k (read_first e (part_at size at xs) size) → Fits byte (get_or xs (at + t) 0)
    byte_fits xs inside has =
        fits (read_first e (part_at size at xs) (size - 1 - step)) (get_or xs (at + t) 0) (is_byte region xs (at + t) inside) (split xs inside has)

    pub narrowed_nowhere : MissesOne left (at + t) byte → (xs : List ℕ) → IsOf region xs → Has k (read_first e (part_at size at xs) size) → ⊥
    narrowed_nowhere misses xs inside has = misses xs (f.stays xs inside has) (byte_fits xs inside has)

    pub narrowed_more : (new : List Cell) (others : Known) → NarrowsOne left (at + t) byte new
        → ((n b : ℕ) → b < 256 → Has rest (n * 256 + b) → Has others n) → IsNarrowed e size at k region new others (step + 1)
    narrowed_more new others one more = record {
      long = one.long ∙ f.long;
      within = λ xs h. f.within xs (one.within xs h);
      stays = λ xs inside has. one.all xs (f.stays xs inside has) (byte_fits xs inside has);
      has = λ xs inside has.
          let left_over : size - 1 - step ≡ size - (step + 1) = omega (arith, lt) in
          subst (λ (j : ℕ). Has others (read_first e (part_at size at xs) j)) left_over
          (more (read_first e (part_at size at xs) (size - 1 - step)) (get_or xs (at + t) 0) (is_byte region xs (at + t) inside) (split xs inside has));
    }

-- ---- what is left where something holds

pub keeps_all : (P : List ℕ → Type 0) (region : List Cell) → KeepsWhere P region region
keeps_all P region = record { long = refl; within = λ xs h. h; stays = λ xs h p. h }

pub left_where : (P Q : List ℕ → Type 0) (region : List Cell) (found : Option (List Cell)) → ((xs : List ℕ) → IsOf region xs → P xs → Q xs)
    → IsLeftWhere Q region found → IsLeftWhere P region found
left_where P Q region None f none = λ xs inside p. none xs inside (f xs inside p)
left_where P Q region (Some narrow) f keeps = record { long = keeps.long; within = keeps.within; stays = λ xs inside p. keeps.stays xs inside (f xs inside p) }

module _ (token : Token) (size at : ℕ) (k : Known) (bytes : size ≡ token.bits / 8) (within : at + size ≤ window) where
  token_has : (xs : List ℕ) → HasTokenBits token at k xs → Has k (read_first token.endian (part_at size at xs) size)
  token_has xs h = subst (λ (n : ℕ). Has k n) (sym (token_is token xs size at h.place size bytes within h.place_is refl)) h.has

  pub token_nowhere : (region : List Cell) → ((xs : List ℕ) → IsOf region xs → Has k (read_first token.endian (part_at size at xs) size) → ⊥)
      → IsLeftWhere (HasTokenBits token at k) region None
  token_nowhere region none = λ xs inside h. none xs inside (token_has xs h)

  pub token_left : (region left : List Cell) (rest : Known) (step : ℕ) → IsNarrowed token.endian size at k region left rest step
      → IsLeftWhere (HasTokenBits token at k) region (Some left)
  token_left region left rest step f = record { long = f.long; within = f.within; stays = λ xs inside h. f.stays xs inside (token_has xs h) }

-- ---- the bits of a field

one_and : (m f : ℕ) → m < 2 → f < 2 → min m f ≡ 1 → (m ≡ 1) × (f ≡ 1)
one_and m f a b e = (omega (arith, a, b, e), omega (arith, a, b, e))

pub moved_has : (low high m v n field : ℕ) → field ≡ 2 ^ (suc high - low) - 1
    → ((i : ℕ) → i < suc high - low → bit_at m i ≡ 1 → bit_at n (low + i) ≡ bit_at v i)
    → Agrees (bit_and m field * 2 ^ low % 2 ^ 64) (bit_and v field * 2 ^ low % 2 ^ 64) n
moved_has low high m v n field is h = λ i on.
    let lt = one_of_64 (bit_and m field * 2 ^ low % 2 ^ 64) i (omega arith) on in
    elim (cases_lt i low) [
      | inl below ↦ absurd (omega (arith, raised_low (bit_and m field) low i lt below, on))
      | inr above ↦
          let j : ℕ = i - low in
          let there : bit_at (bit_and m field) j ≡ 1 = sym (raised_high (bit_and m field) low i lt above) ∙ on in
          let both = one_and (bit_at m j) (bit_at field j) (bit_at-lt m j) (bit_at-lt field j) (sym (bit_at_and m field j) ∙ there) in
          let value : bit_at (bit_and v field) j ≡ bit_at v j = bit_at_and v field j ∙ omega (arith, both.1, bit_at-lt v j) in
          let sum : i ≡ low + j = omega (arith, above) in
          elim (cases_lt j (suc high - low)) [
            | inl inside ↦ ap (λ (x : ℕ). bit_at n x) sum ∙ h j inside both.0 ∙ sym value ∙ sym (raised_high (bit_and v field) low i lt above)
            | inr past ↦ absurd (omega (arith, ap (λ (x : ℕ). bit_at x j) is ∙ bit_at_ones_above (suc high - low) j past, both.1))
          ]
    ]

module _ (t : Tables) (f : Field) (at : ℕ) (context : Option ℕ) (number : Known) where
  by_number : (token : Token) (bytes : List ℕ) (place from : ℕ) → Some token ≡ token_of t.tokens f → number_at t f bytes place from ≡ token_number token bytes place
  by_number token bytes place from is = rw (sym is) refl

  pub number_token : (token : Token) (xs : List ℕ) → Some token ≡ token_of t.tokens f → HasNumberBits t f at context number xs → HasTokenBits token at number xs
  number_token token xs is h = record {
    place = h.place;
    place_is = h.place_is;
    has = subst (λ (n : ℕ). Has number n) (by_number token (with_zeros xs) h.place h.from is) h.has;
  }

  pub number_context : (xs : List ℕ) → ◌≡◌ {A = Option Token} None (token_of t.tokens f) → HasNumberBits t f at context number xs
      → (from : ℕ) × IfSome context (λ c. c ≡ from) × Has number from
  number_context xs is h =
      let same : number_at t f (with_zeros xs) h.place h.from ≡ h.from = rw (sym is) refl in
      (h.from, h.known, subst (λ (n : ℕ). Has number n) same h.has)

  pub field_number : (bits : Known) → ((n : ℕ) → HasKnownBits f bits n → Has number n) → (xs : List ℕ) → HasFieldBits t f at context bits xs → HasNumberBits t f at context number xs
  field_number bits up xs h = record {
    place = h.place;
    place_is = h.place_is;
    from = h.from;
    known = h.known;
    has = up (number_at t f (with_zeros xs) h.place h.from) h.has;
  }

-- the own value of a field that is there
pub own_bits : (t : Tables) (f : Frame) (id : ℕ) (place : Extent) (wanted : Known) (of : Field) (at : ℕ) (xs : List ℕ) → Some of ≡ slice_get t.fields id
    → 1 ≤ suc of.high - of.low → suc of.high - of.low ≤ 64 → at ≡ min (f.at + extent place f.lengths.now) (2 ^ 64 - 1)
    → GivesOwn t f id place wanted xs → HasFieldBits t of at (Some f.context) wanted xs
own_bits t f id place wanted of at xs is some most at_is gives =
    let n : ℕ = number_at t of (with_zeros xs) (f.at + extent place f.lengths.now) f.context in
    record {
      place = f.at + extent place f.lengths.now;
      place_is = at_is;
      from = f.context;
      known = refl;
      has = own_known of n some most wanted (rw (sym is) at gives);
    }
