-- Fields whose place is reckoned up to the greatest number.
use Rattle.std.proofs.Common.{◌≡◌, ℕ, ◌+◌, ◌<◌, ◌/◌, ◌^◌, List, length, drop, min, refl, sym, ap, ◌∙◌, arith, Option, Some, None, inl, inr}
use Rattle.std.specs.Prelude.{if◌then◌else◌, slice_get}
use Rattle.std.proofs.lemmas.Bool.{cases_lt, lt-leb}
use Rattle.sl_decode_meaning.specs.Lookups.{is_whole}
use Rattle.sl_meaning_instruction.specs.Operands.{field_reference, field_reference_by, field_reference_if}
use Rattle.sl_spec.specs.Attachments.{attached_to}
use Rattle.sl_spec.specs.FieldValues.{number_in, token_of}
use Rattle.sl_spec.specs.Tables.{Field, Token}
use Rattle.sl_spec.specs.declared.tables.Tables.{Tables}

-- a token behind the end of the bytes isn't whole
far_by : (o : Option Token) (bytes : List ℕ) (context p q : ℕ) → length bytes < p → length bytes < q
    → (if is_whole o p (length bytes) then number_in o (drop p bytes) context else 0) ≡ (if is_whole o q (length bytes) then number_in o (drop q bytes) context else 0)
far_by None bytes context p q past beyond = refl
far_by (Some token) bytes context p q past beyond =
    ap (λ b. if b then number_in (Some token) (drop p bytes) context else 0) (lt-leb (p + token.bits / 8) (length bytes) (omega (arith, past)))
    ∙ sym (ap (λ b. if b then number_in (Some token) (drop q bytes) context else 0) (lt-leb (q + token.bits / 8) (length bytes) (omega (arith, beyond))))

far_if : (t : Tables) (id : ℕ) (o : Option Field) (bytes : List ℕ) (context p q : ℕ) → length bytes < p → length bytes < q
    → field_reference_if t id o bytes p context ≡ field_reference_if t id o bytes q context
far_if t id None bytes context p q past beyond = refl
far_if t id (Some f) bytes context p q past beyond =
    ap (field_reference_by t f (attached_to id t.attached)) (far_by (token_of t.tokens f) bytes context p q past beyond)

pub same_place : (t : Tables) (id : ℕ) (bytes : List ℕ) (context at x n r : ℕ) → length bytes < 2 ^ 63 → n ≡ min x 18446744073709551615 → r ≡ min (at + n) 18446744073709551615
    → field_reference t id bytes r context ≡ field_reference t id bytes (at + x) context
same_place t id bytes context at x n r few is whole = elim (cases_lt (at + x) 18446744073709551615) [
  | inl near ↦ let same : r ≡ at + x = grind (arith, is, whole, near) in ap (λ p. field_reference t id bytes p context) same
  | inr far ↦ let most : r ≡ 18446744073709551615 = grind (arith, is, whole, far) in
      far_if t id (slice_get t.fields id) bytes context r (at + x) (omega (arith, few, most)) (omega (arith, few, far))
]
