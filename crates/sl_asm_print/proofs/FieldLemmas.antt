-- What texts say of the bits of fields.
use Rattle.std.proofs.Common.{◌≡◌, ℕ, suc, ◌+◌, ◌-◌, ◌*◌, ◌/◌, ◌%◌, ◌<◌, ◌≤◌, ◌^◌, List, length, below_more, Option, Some, None, Bool, ap, arith, refl, sym, ◌∙◌, inl, inr, ℤ}
use Rattle.std.specs.Prelude.{slice_get, option_and_then}
use Rattle.std.specs.Int.{bit_at, cast_unsigned, w64}
use Rattle.std.specs.Int.RustNames.{FitsSigned}
use Rattle.std.proofs.lemmas.Bool.{cases_lt}
use Rattle.std.proofs.lemmas.Int.{SFits-int_wrap}
use Rattle.std.proofs.lemmas.Nat.Bits.{bit_at_above, same_from_bits}
use Rattle.std.proofs.lemmas.Option.{same_Some, slice_get_past}
use Rattle.sl_asm_bits.proofs.ShiftLemmas.{raised_high}
use Rattle.sl_asm_bits.specs.Known.{Has}
use Rattle.sl_asm_bits.specs.declared.Known.{Known}
use Rattle.sl_asm_known.proofs.FieldLemmas.{bits_small, code_known, own_bit, part_bit}
use Rattle.sl_asm_known.specs.FieldBits.{HasSomeBits}
use Rattle.sl_asm_print.specs.Fields.{HasCode, entries_count}
use Rattle.sl_decode_meaning.specs.Lookups.{entry_at}
use Rattle.sl_show.specs.Numbers.{number_text}
use Rattle.sl_show.specs.Texts.{entry_text, field_text_by, or_nothing, register_name}
use Rattle.sl_decode_meaning.specs.Values.{value_or_zero}
use Rattle.sl_spec.specs.Attachments.{attached_to}
use Rattle.sl_spec.specs.FieldValues.{bits_of, read_as, value_of, wrapped}
use Rattle.sl_spec.specs.Tables.{Attached, Entries, Field, registers, texts, values}
use Rattle.sl_spec.specs.declared.tables.Tables.{Tables}

-- ---- a value

-- a field's value hangs on its bits alone
by_bits : (f : Field) (m n : ℕ) → bits_of f.low f.high m ≡ bits_of f.low f.high n → value_of f m ≡ value_of f n
unfolding value_of
by_bits f m n e = ap (λ (b : ℕ). wrapped (read_as f.signed (suc f.high - f.low) b)) e

module _ (f : Field) (n : ℕ) (z : ℤ) (order : f.low ≤ f.high) (most : f.high ≤ 63) (is : value_of f n ≡ z) where
  abbrev again : ℕ
  again = cast_unsigned w64 z * 2 ^ f.low % 2 ^ 64

  abbrev wide : ℕ
  wide = suc f.high - f.low

  bit_again : (i : ℕ) → i < wide → bit_at (bits_of f.low f.high again) i ≡ bit_at (bits_of f.low f.high n) i
  bit_again i lt =
      let some : 1 ≤ wide = omega (arith, order) in
      let few : wide ≤ 64 = omega (arith, most) in
      let there : f.low + i < 64 = omega (arith, lt, most) in
      let past : f.low ≤ f.low + i = omega arith in
      let back : f.low + i - f.low ≡ i = omega arith in
      part_bit f.low f.high again i lt ∙ raised_high (cast_unsigned w64 z) f.low (f.low + i) there past
      ∙ ap (λ (j : ℕ). bit_at (cast_unsigned w64 z) j) back ∙ ap (λ (y : ℤ). bit_at (cast_unsigned w64 y) i) (sym is)
      ∙ own_bit f n some few f.signed refl i lt ∙ sym (part_bit f.low f.high n i lt)

  bits_again : bits_of f.low f.high again ≡ bits_of f.low f.high n
  bits_again = same_from_bits (bits_of f.low f.high again) (bits_of f.low f.high n) (λ i. elim (cases_lt i wide) [
    | inl lt ↦ bit_again i lt
    | inr past ↦
        bit_at_above (bits_of f.low f.high again) wide i (bits_small f.low f.high again) past
        ∙ sym (bit_at_above (bits_of f.low f.high n) wide i (bits_small f.low f.high n) past)
  ])

  -- a value that a field has is read from its own lowest bits
  pub value_again : value_of f again ≡ z
  value_again = by_bits f again n bits_again ∙ is

pub value_fits : (f : Field) (n : ℕ) → FitsSigned w64 (value_of f n)
unfolding value_of
value_fits f n = SFits-int_wrap w64 (read_as f.signed (suc f.high - f.low) (bits_of f.low f.high n))

-- a number that is found for the text is the value
pub number_known : (f : Field) (found : Option ℤ) (text : List ℕ) (v u : ℤ) (k : Option Known)
    → ((w : ℤ) → FitsSigned w64 w → number_text f.dec w ≡ text → found ≡ Some w) → found ≡ Some v → ((w : ℤ) → FitsSigned w64 w → v ≡ w → u ≡ w)
    → ((n : ℕ) → value_of f n ≡ u → HasSomeBits f k n) → (n : ℕ) → number_text f.dec (value_of f n) ≡ text → HasSomeBits f k n
number_known f found text v u k reads some same bits n shows =
    let fits = value_fits f n in
    let is : v ≡ value_of f n = sym (same_Some (value_of f n) v (sym (reads (value_of f n) fits shows) ∙ some)) in
    bits n (sym (same (value_of f n) fits is))

pub number_none : (f : Field) (found : Option ℤ) (text : List ℕ) → ((w : ℤ) → FitsSigned w64 w → number_text f.dec w ≡ text → found ≡ Some w) → found ≡ None
    → (n : ℕ) → number_text f.dec (value_of f n) ≡ text → ⊥
number_none f found text reads none n shows =
    let no : ◌≡◌ {A = Option ℤ} None (Some (value_of f n)) = sym none ∙ reads (value_of f n) (value_fits f n) shows in cc

-- ---- entries

none_at : {X : Type 0} (xs : List (Option X)) (i : ℕ) → length xs ≤ i → entry_at xs i ≡ None
none_at xs i past = ap (λ o. option_and_then (λ entry. entry) o) (slice_get_past xs i past)

pub past_entries : (t : Tables) (dec : Bool) (entries : Entries) (i j : ℕ) → entries_count entries ≤ i → entries_count entries ≤ j
    → entry_text t dec entries i ≡ entry_text t dec entries j
past_entries t dec (registers ids) i j a b =
    ap (λ o. register_name (option_and_then (λ id. slice_get t.registers id) o)) (none_at ids i a ∙ sym (none_at ids j b))
past_entries t dec (texts names) i j a b = ap or_nothing (none_at names i a ∙ sym (none_at names j b))
past_entries t dec (values numbers) i j a b = ap (λ o. number_text dec (value_or_zero o)) (none_at numbers i a ∙ sym (none_at numbers j b))

-- The codes before this one whose entries have the text have what is known.
abbrev pub FirstCodes : Tables → Bool → Entries → List ℕ → ℕ → Option Known → Type 0
FirstCodes t dec entries text n codes = (c : ℕ) → c < n → entry_text t dec entries c ≡ text → HasCode codes c

module _ (t : Tables) (dec : Bool) (entries : Entries) (text : List ℕ) (n : ℕ) (old : Option Known) (first : FirstCodes t dec entries text n old) where
  pub one_code_more : (k : Known) → ((c : ℕ) → HasCode old c → Has k c) → Has k n → FirstCodes t dec entries text (n + 1) (Some k)
  one_code_more k kept here = below_more (λ c. entry_text t dec entries c ≡ text → Has k c) n (λ c lt e. kept c (first c lt e)) (λ e. here)

  pub one_code_other : (entry_text t dec entries n ≡ text → ⊥) → FirstCodes t dec entries text (n + 1) old
  one_code_other other = below_more (λ c. entry_text t dec entries c ≡ text → HasCode old c) n first (λ e. absurd (other e))

  pub all_codes : (count : ℕ) → count ≡ entries_count entries → count ≤ n → (c : ℕ) → c < entries_count entries → entry_text t dec entries c ≡ text → HasCode old c
  all_codes count is whole c lt e = first c (omega (arith, is, whole, lt)) e

-- where what has no entry isn't shown so, the codes with entries are all
pub codes_all : (t : Tables) (dec : Bool) (entries : Entries) (text : List ℕ) (count : ℕ) (codes : Option Known) → count ≡ entries_count entries
    → (entry_text t dec entries count ≡ text → ⊥) → ((c : ℕ) → c < entries_count entries → entry_text t dec entries c ≡ text → HasCode codes c)
    → (c : ℕ) → entry_text t dec entries c ≡ text → HasCode codes c
codes_all t dec entries text count codes is other here c e = elim (cases_lt c (entries_count entries)) [
  | inl less ↦ here c less e
  | inr past ↦ absurd (other (past_entries t dec entries count c (omega (arith, is)) past ∙ e))
]

-- ---- a text

pub some_known : (f : Field) (codes : Option Known) (n : ℕ) → HasCode codes (bits_of f.low f.high n) → HasSomeBits f codes n
some_known f (Some k) n h = code_known f k n h
some_known f None n h = h

pub text_of_number : (t : Tables) (id : ℕ) (f : Field) (text : List ℕ) (k : Option Known) → attached_to id t.attached ≡ None
    → ((n : ℕ) → number_text f.dec (value_of f n) ≡ text → HasSomeBits f k n)
    → (n : ℕ) → field_text_by t f (attached_to id t.attached) n ≡ text → HasSomeBits f k n
text_of_number t id f text k plain bits n shows = bits n (sym (ap (λ o. field_text_by t f o n) plain) ∙ shows)

pub text_of_entry : (t : Tables) (id : ℕ) (f : Field) (a : Attached) (text : List ℕ) (codes : Option Known) → attached_to id t.attached ≡ Some a
    → ((c : ℕ) → entry_text t f.dec a.entries c ≡ text → HasCode codes c)
    → (n : ℕ) → field_text_by t f (attached_to id t.attached) n ≡ text → HasSomeBits f codes n
text_of_entry t id f a text codes attached known n shows =
    some_known f codes n (known (bits_of f.low f.high n) (sym (ap (λ o. field_text_by t f o n) attached) ∙ shows))
