-- meaning: what a field gives at a place: its value, or what is attached to it (SLEIGH manual,
-- "Attaching Values" and the sections before it).
use Rattle.std.specs.Prelude.{ℕ, ◌+◌, ◌/◌, ℤ, pos, Bool, true, nat_le, List, drop, length}
use Rattle.std.specs.Prelude.{Option, None, Some, is_some}
use Rattle.std.specs.Prelude.{Result, Ok, Err, option_and_then, slice_get, if◌then◌else◌}
use Rattle.sl_decode_meaning.specs.Outcomes.{or_fault}
use Rattle.sl_decode_meaning.specs.declared.faults.Fault.{Fault}
use Rattle.sl_decode_meaning.specs.declared.faults.Fault.TheVariants.{NoEntry}
use Rattle.sl_spec.specs.Attachments.{attached_to}
use Rattle.sl_spec.specs.FieldValues.{bits_of, number_in, token_of, value_of}
use Rattle.sl_spec.specs.Tables.{Attached, Entries, Field, Token, registers, texts, values}
use Rattle.sl_spec.specs.declared.tables.Tables.{Tables}

-- the entry at an index; none for `_`, and behind the end
abbrev pub entry_at : {X : Type 0} → List (Option X) → ℕ → Option X
entry_at entries index = option_and_then (λ entry. entry) (slice_get entries index)

-- whether there is an entry at an index
abbrev pub has_entry : Entries → ℕ → Bool
has_entry (registers ids) index = is_some (entry_at ids index)
has_entry (texts names) index = is_some (entry_at names index)
has_entry (values numbers) index = is_some (entry_at numbers index)

-- what stands for a value in an action: an attached number, or the value itself
abbrev pub number_for : Entries → ℕ → ℤ → Option ℤ
number_for (registers ids) index own = Some own
number_for (texts names) index own = Some own
number_for (values numbers) index own = entry_at numbers index

abbrev pub number_by : Option Attached → ℕ → ℤ → Option ℤ
number_by None index own = Some own
number_by (Some a) index own = number_for a.entries index own

abbrev pub has_entry_by : Option Attached → ℕ → Bool
has_entry_by None index = true
has_entry_by (Some a) index = has_entry a.entries index

-- whether a token that begins at the place is whole in so many bytes
abbrev pub is_whole : Option Token → ℕ → ℕ → Bool
is_whole None at count = true
is_whole (Some token) at count = nat_le (at + token.bits / 8) count

-- the integer of a field's token that begins at the place, or the context; a token that isn't whole
-- there counts as 0
abbrev pub number_at : Tables → Field → List ℕ → ℕ → ℕ → ℕ
number_at t f bytes at context = if is_whole (token_of t.tokens f) at (length bytes)
    then number_in (token_of t.tokens f) (drop at bytes) context else 0

-- what a field gives in an action, by the number that it is read from
abbrev pub given_by : Tables → ℕ → Field → ℕ → Result ℤ Fault
given_by t id f number = or_fault (NoEntry id (bits_of f.low f.high number))
    (number_by (attached_to id t.attached) (bits_of f.low f.high number) (value_of f number))

abbrev pub given_if : Tables → ℕ → Option Field → List ℕ → ℕ → ℕ → Result ℤ Fault
given_if t id None bytes at context = Ok (pos 0)
given_if t id (Some f) bytes at context = given_by t id f (number_at t f bytes at context)

-- the same, by the field's number
abbrev pub given : Tables → ℕ → List ℕ → ℕ → ℕ → Result ℤ Fault
given t id bytes at context = given_if t id (slice_get t.fields id) bytes at context

-- a field that stands alone has an entry, if anything is attached to it
abbrev pub shown_by : Tables → ℕ → Field → ℕ → Result (Unit {0}) Fault
shown_by t id f number =
    if has_entry_by (attached_to id t.attached) (bits_of f.low f.high number)
    then Ok tt else Err (NoEntry id (bits_of f.low f.high number))

abbrev pub shown_if : Tables → ℕ → Option Field → List ℕ → ℕ → ℕ → Result (Unit {0}) Fault
shown_if t id None bytes at context = Ok tt
shown_if t id (Some f) bytes at context = shown_by t id f (number_at t f bytes at context)

-- the same, by the field's number
abbrev pub shown : Tables → ℕ → List ℕ → ℕ → ℕ → Result (Unit {0}) Fault
shown t id bytes at context = shown_if t id (slice_get t.fields id) bytes at context
