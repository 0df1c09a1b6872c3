-- view: values of actions, and what they hang on, as the program keeps them.
use Rattle.std.specs.Prelude.{◌+◌, ℤ, pos, Result, Ok, Err, slice_get}
use Rattle.sl_spec_operators.specs.Operators.{wrapped}
use Rattle.sl_decode_meaning.specs.Lookups.{given}
use Rattle.sl_decode_meaning.specs.Values.{Site, operated, prefixed, value_or_zero}
use Rattle.sl_decode_meaning.specs.declared.faults.Fault.{Fault}
use Rattle.sl_decode_meaning.specs.declared.faults.Fault.TheVariants.{ActionDivide}
use Rattle.sl_decode_leaves.specs.Extents.{extent}
use Rattle.sl_decode_leaves.specs.Fields.{own_if}
use Rattle.sl_decode_plan.specs.declared.values.Scope.{Scope}
use Rattle.sl_decode_plan.specs.declared.values.Value.{Value}
use Rattle.sl_decode_plan.specs.declared.values.Value.TheVariants as v
use Rattle.sl_spec.specs.declared.tables.Tables.{Tables}

abbrev pub site_of : Scope → Site
site_of s = record {
  ctor = s.ctor;
  bytes = s.bytes.now;
  at = s.at;
  lengths = s.lengths.now;
  context = s.context;
  start = s.start;
  next = s.next;
  values = s.values.now;
}

abbrev pub value_in : Tables → Site → Value → Result ℤ Fault
value_in t s (v.Number n) = Ok n
value_in t s v.Start = Ok (wrapped (pos s.start))
value_in t s v.Next = Ok (wrapped (pos s.next))
value_in t s (v.Named number) = Ok (value_or_zero (slice_get s.values number))
value_in t s (v.Field id place) =
    given t id s.bytes (s.at + extent place s.lengths) s.context
value_in t s (v.Plain id place) =
    own_if t (slice_get t.fields id) s.bytes (s.at + extent place s.lengths) s.context
value_in t s (v.Prefix' op p a) = prefixed s.ctor op (value_in t s a)
value_in t s (v.Binary' op p a q b) = operated s.ctor op (value_in t s a) (value_in t s b)
value_in t s v.Undefined = Err (ActionDivide s.ctor)
