-- view: the steps of a plan.
use Rattle.std.specs.Prelude.{◌++◌, ◌∷◌, [], Result, Ok}
use Rattle.sl_decode_meaning.specs.Actions.{Changed, changed, Own, own, at_context, at_values, commit_of}
use Rattle.sl_decode_meaning.specs.Actions.{note_of, with_bits}
use Rattle.sl_decode_meaning.specs.Outcomes.{◌>>=◌}
use Rattle.sl_decode_meaning.specs.Values.{Site}
use Rattle.sl_decode_meaning.specs.declared.faults.Fault.{Fault}
use Rattle.sl_decode_plan.specs.Values.{value_in}
use Rattle.sl_decode_plan.specs.declared.early.Early.{Early}
use Rattle.sl_decode_plan.specs.declared.early.Early.TheVariants.{Set, Note}
use Rattle.sl_decode_plan.specs.declared.late.Late.{Late}
use Rattle.sl_decode_plan.specs.declared.late.Late.TheVariants as l
use Rattle.sl_spec.specs.declared.tables.Tables.{Tables}

abbrev pub early_step : Tables → Site → Early → Changed → Result Changed Fault
early_step t s (Set low mask v) (changed context notes) =
    value_in t (at_context context s) v
    >>= λ n. Ok (changed (with_bits low mask context n) notes)
early_step t s (Note mask flows) (changed context notes) =
    Ok (changed context (notes ++ note_of mask flows context ∷ []))

abbrev pub late_step : Tables → Site → Late → Own → Result Own Fault
late_step t s (l.Name v) (own notes values commits) =
    value_in t (at_values values s) v >>= λ n. Ok (own notes (values ++ n ∷ []) commits)
late_step t s (l.Commit v) (own [] values commits) = Ok (own [] values commits)
late_step t s (l.Commit v) (own (note ∷ notes) values commits) =
    value_in t (at_values values s) v
    >>= λ n. Ok (own notes values (commits ++ commit_of t note n ∷ []))
