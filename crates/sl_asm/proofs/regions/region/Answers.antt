use Rattle.std.proofs.Common.{◌≡◌, ℕ, ◌<◌, ◌≤◌, List, [], Some, None, length, ap, arith, refl, sym, subst, ◌∙◌}
use Rattle.std.specs.Prelude.{slice_get}
use Rattle.std.proofs.lemmas.Bool.{ltb-false, ltb-true}
use Rattle.std.proofs.lemmas.Option.{same_Some, slice_get_read, slice_get_within}
use Rattle.sl_asm.proofs.PickLemmas.{none_listed, region_is, region_none}
use Rattle.sl_asm.specs.Regions.{IsRegion}
use Rattle.sl_ast.specs.Views.{items_of}
use Rattle.sl_bind_compile.specs.Outcomes.{all_constructors}
use Rattle.sl_conflict.specs.Ambiguity.{IsOf}
use Rattle.sl_list_instructions.proofs.AcceptedLemmas.{accepted}
use Rattle.sl_spec.specs.Tables.{Ctor}
use Rattle.sl_asm.proofs.regions.region.Goals as goal

pub returns-in_default : goal.returns-in_default
returns-in_default c =
    let compiled = c.args.compiled.now in
    let t = compiled.bound.tables in
    let n = c.ctor.inside.0 in
    let slice = c.as_slice.result.now in
    let past : length slice ≤ n = ltb-false n (length slice) (sym c.in_default.ensures.lookup.0) in
    let long : length slice ≡ length t.constructors = ap length c.as_slice.ensures in
    let none : (table : ℕ) → IsOf t.constructors table n → ⊥ = λ table is. omega (arith, past, long, slice_get_within t.constructors n is.ctor is.ctor_is) in
    rw c.new.ensures.items (subst (λ (x : ℕ). IsRegion t (all_constructors (items_of compiled.bound.spec)) x []) c.ctor.view_is
    (region_none t (all_constructors (items_of compiled.bound.spec)) n none))

pub returns-in_default-table : goal.returns-in_default-table
returns-in_default-table c =
    let compiled = c.args.compiled.now in
    let t = compiled.bound.tables in
    let cs = all_constructors (items_of compiled.bound.spec) in
    let n = c.ctor.inside.0 in
    let own = c.in-Some.own.now in
    let tables = compiled.checked.tables.items in
    let slice = c.as_slice.result.now in
    let within : n < length slice = ltb-true n (length slice) (sym c.in-Some.ensures.lookup.0) in
    let own_is : slice_get t.constructors n ≡ Some own =
    subst (λ (l : List Ctor). slice_get l n ≡ Some own) c.as_slice.ensures (slice_get_read slice (length slice) n own refl within c.in-Some.ensures.lookup.1) in
    let there = subst (λ (x : Ctor). slice_get tables x.table ≡ None) c.own.view_is (sym c.in_default-table.ensures.same) in
    let listed = (accepted (items_of compiled.bound.spec) t c.requires.compiles).stand.listed in
    let none = λ (table : ℕ) (is : IsOf t.constructors table n). none_listed t cs tables own n own.table listed c.requires.sets.counted own_is refl there in
    rw c.new-in_default-table.ensures.items (subst (λ (x : ℕ). IsRegion t cs x []) c.ctor.view_is (region_none t cs n none))

pub picks_of-requires : goal.picks_of-requires
picks_of-requires c =
    let kept = c.in-Some-table.kept.now in
    let tables = c.args.compiled.now.checked.tables.items in
    let there = subst (λ (x : Ctor). slice_get tables x.table ≡ Some kept) c.own.view_is (sym c.in-Some-table.ensures.same) in
    c.requires.sets.choices c.in-Some.own.now.table kept there

pub returns : goal.returns
returns c =
    let compiled = c.args.compiled.now in
    let t = compiled.bound.tables in
    let cs = all_constructors (items_of compiled.bound.spec) in
    let n = c.ctor.inside.0 in
    let own = c.in-Some.own.now in
    let kept = c.in-Some-table.kept.now in
    let tables = compiled.checked.tables.items in
    let slice = c.as_slice.result.now in
    let within : n < length slice = ltb-true n (length slice) (sym c.in-Some.ensures.lookup.0) in
    let own_is : slice_get t.constructors n ≡ Some own =
    subst (λ (l : List Ctor). slice_get l n ≡ Some own) c.as_slice.ensures (slice_get_read slice (length slice) n own refl within c.in-Some.ensures.lookup.1) in
    let there = subst (λ (x : Ctor). slice_get tables x.table ≡ Some kept) c.own.view_is (sym c.in-Some-table.ensures.same) in
    let one = λ (other : ℕ) (is : IsOf t.constructors other n). sym is.of_table ∙ ap (λ (x : Ctor). x.table) (same_Some is.ctor own (sym is.ctor_is ∙ own_is)) in
    subst (λ (x : ℕ). IsRegion t cs x c.in_ok-out.out.items) c.ctor.view_is
    (region_is t cs tables own.table n kept c.in_ok-out.out.items c.requires.sets there c.in-Some-table.ensures.paired one c.in_ok-out.ensures)
