use Rattle.std.proofs.Common.{List, sym, ◌∙◌}
use Rattle.std.proofs.lemmas.List.{length-map}
use Rattle.std.proofs.lemmas.Result.{err_from_is_err_and}
use Rattle.sl_spec.specs.Unfolded.{all_placed, placed}
use Rattle.sl_conflict.proofs.SoundLemmas.{are_sets, is_refused, is_sound}
use Rattle.sl_conflict.proofs.soundness.judge.Goals as goal

pub returns-in_err-checked-clause-refused : goal.returns-in_err-checked-clause-refused
returns-in_err-checked-clause-refused c =
    let p = err_from_is_err_and c.from_residual-in_err-checked.result c.from_residual-in_err-checked.ensures.1 in
    let shapes = c.in_ok-shapes.shapes in
    rw (p.1, p.2) (λ stand. is_refused c.args.t.now (all_placed c.args.constructors.now) stand shapes.sets.items shapes.hulls.items
    (c.in_ok-shapes.ensures.shaped stand.acyclic) (c.in_ok-shapes.ensures.sets ∙ sym (length-map c.args.constructors.now placed))
    c.in_err-checked.field-0.0 c.in_err-checked.ensures.ambiguous)

pub returns-clause-sound : goal.returns-clause-sound
returns-clause-sound c = λ stand.
    let shapes = c.in_ok-shapes.shapes in
    is_sound c.args.t.now (all_placed c.args.constructors.now) stand shapes.sets.items shapes.hulls.items
    (c.in_ok-shapes.ensures.shaped stand.acyclic) (c.in_ok-shapes.ensures.sets ∙ sym (length-map c.args.constructors.now placed))
    c.in_ok-checked.ensures.settled

pub returns-clause-sets : goal.returns-clause-sets
returns-clause-sets c = λ stand.
    let shapes = c.in_ok-shapes.shapes in
    are_sets c.args.t.now (all_placed c.args.constructors.now) stand shapes.sets.items shapes.hulls.items
    (c.in_ok-shapes.ensures.shaped stand.acyclic) (c.in_ok-shapes.ensures.sets ∙ sym (length-map c.args.constructors.now placed))
    c.in_ok-checked.checked.tables.items c.in_ok-checked.ensures.tables c.in_ok-checked.ensures.settled
