use Rattle.std.proofs.Common.{List, ap, sym, ◌∙◌, map, subst}
use Rattle.sl_ast.specs.Views.{item_of, items_of}
use Rattle.sl_ast.specs.declared.items.Item.{Item}
use Rattle.sl_bind_compile.specs.Outcomes.{all_constructors}
use Rattle.sl_bind_compile.specs.Places.{refused}
use Rattle.sl_bind_compile.proofs.RefusalLemmas.{compiles_refused, compiles_sound, tells_refuses}
use Rattle.sl_bind_compile.proofs.StandLemmas.{stands, told_of}
use Rattle.sl_conflict.specs.Soundness.{IsSound}
use Rattle.sl_conflict.specs.TableTests.{AreSetsOf, Refuses}
use Rattle.sl_spec.specs.Numbers.{AreNumbered}
use Rattle.sl_spec.specs.Unfolded.{all_placed}
use Rattle.sl_spec.specs.declared.unfolded.Unfolded.{Unfolded}
use Rattle.sl_bind_compile.proofs.compiling.checked.Goals as goal

pub judge-requires : goal.judge-requires
judge-requires c = subst (λ (us : List Unfolded). AreNumbered us) (sym c.as_slice-2.ensures.value) c.in_ok-constructors.ensures.numbered

pub returns-in-Ok-clause-sound : goal.returns-in-Ok-clause-sound
returns-in-Ok-clause-sound c =
    let b = c.args.bound.now in
    let items = items_of b.spec in
    let same = ap (λ (us : List Unfolded). all_placed us) c.as_slice-2.ensures.value ∙ c.in_ok-constructors.ensures.all
    ∙ ap (λ (is : List Item). all_constructors (map item_of is)) c.as_slice.ensures.value in
    told_of b.tables (all_placed c.as_slice-2.result.now) (all_constructors items) (λ cs. IsSound b.tables cs) same (stands items b.tables c.requires) c.in-Ok.ensures.sound

pub returns-in-Ok-clause-compiles : goal.returns-in-Ok-clause-compiles
returns-in-Ok-clause-compiles c = compiles_sound (items_of c.args.bound.now.spec) c.args.bound.now.tables c.requires (returns-in-Ok-clause-sound c)

pub returns-in-Ok-clause-sets : goal.returns-in-Ok-clause-sets
returns-in-Ok-clause-sets c =
    let b = c.args.bound.now in
    let items = items_of b.spec in
    let same = ap (λ (us : List Unfolded). all_placed us) c.as_slice-2.ensures.value ∙ c.in_ok-constructors.ensures.all
    ∙ ap (λ (is : List Item). all_constructors (map item_of is)) c.as_slice.ensures.value in
    told_of b.tables (all_placed c.as_slice-2.result.now) (all_constructors items) (λ cs. AreSetsOf b.tables cs c.in-Ok.checked.tables.items) same
    (stands items b.tables c.requires) c.in-Ok.ensures.sets

pub returns-clause-refused : goal.returns-clause-refused
returns-clause-refused c =
    let b = c.args.bound.now in
    let items = items_of b.spec in
    let why = c.in-Err.why in
    let same = ap (λ (us : List Unfolded). all_placed us) c.as_slice-2.ensures.value ∙ c.in_ok-constructors.ensures.all
    ∙ ap (λ (is : List Item). all_constructors (map item_of is)) c.as_slice.ensures.value in
    let refuses = told_of b.tables (all_placed c.as_slice-2.result.now) (all_constructors items) (λ cs. Refuses b.tables cs why) same (stands items b.tables c.requires) c.in-Err.ensures.refused in
    tells_refuses b.spec (refused b.tables why) c.refused.result (λ x is. compiles_refused items b.tables c.requires why x refuses is) c.refused.ensures
