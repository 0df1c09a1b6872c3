-- A field that nothing is attached to gives its own value.
use Rattle.std.proofs.Common.{◌≡◌, ℕ, List, Option, None, Some, refl, sym, ap, slice_get}
use Rattle.sl_decode_meaning.specs.Lookups.{given, given_if, number_at, number_by}
use Rattle.sl_decode_meaning.specs.Outcomes.{or_fault}
use Rattle.sl_decode_meaning.specs.declared.faults.Fault.TheVariants.{NoEntry}
use Rattle.sl_spec.specs.Attachments.{attached_to}
use Rattle.sl_spec.specs.FieldValues.{bits_of, value_of}
use Rattle.sl_decode_leaves.specs.Fields.{own_if}
use Rattle.sl_spec.specs.Tables.{Attached, Field}
use Rattle.sl_spec.specs.declared.tables.Tables.{Tables}

given_so : (t : Tables) (id : ℕ) (f : Option Field) (bytes : List ℕ) (at context : ℕ)
    → attached_to id t.attached ≡ None → own_if t f bytes at context ≡ given_if t id f bytes at context
given_so t id None bytes at context h = refl
given_so t id (Some f) bytes at context h =
    ap (λ (a : Option Attached). or_fault (NoEntry id (bits_of f.low f.high (number_at t f bytes at context)))
    (number_by a (bits_of f.low f.high (number_at t f bytes at context)) (value_of f (number_at t f bytes at context)))) (sym h)

pub plain : (t : Tables) (id : ℕ) (bytes : List ℕ) (at context : ℕ)
    → attached_to id t.attached ≡ None → own_if t (slice_get t.fields id) bytes at context ≡ given t id bytes at context
plain t id bytes at context h = given_so t id (slice_get t.fields id) bytes at context h
