use Rattle.std.proofs.Common.{◌≡◌, ◌<◌, ℕ, List, [], Vec, Global, length, get_or, min, refl, sym, ap, subst, ◌∙◌, arith}
use Rattle.std.proofs.lemmas.List.{length-map, length-set}
use Rattle.sl_base_graphs.proofs.LevelLemmas.{all_right, one_right}
use Rattle.sl_base_graphs.proofs.Seen.{read_or}
use Rattle.sl_spec_tables.specs.BlockLengths.{AreToldRows}
use Rattle.sl_spec_tables.specs.Lengths.{step}
use Rattle.sl_spec_tables.specs.Rows as spec
use Rattle.sl_spec_tables.specs.Views.{groups_of, rows_of}
use Rattle.sl_spec_tables.specs.declared.rows.Row.{Row}
use Rattle.sl_spec_tables.proofs.BlockLemmas.{all_at}
use Rattle.sl_spec_tables.proofs.StepLemmas.{caps, takes}
use Rattle.sl_spec_tables.proofs.quantities.table_amounts.Goals as goal

abbrev seen : Vec Row Global → List spec.Row
seen g = rows_of g.items

pub step-value-requires : goal.step-value-requires
step-value-requires c =
    let m = c.requires.measured in
    let gs = c.args.groups.now in
    let v = get_or c.args.order.now c.order.place 0 in
    let inside : v < length gs = (let n = c.requires.order.nodes c.order.place c.order-test.true in omega (arith, length-map (groups_of gs) spec.tables_in, length-map gs seen)) in
    let told = all_at (λ (g : Vec Row Global). AreToldRows m.0 g.items) gs v c.index-groups-table.result m.1 inside c.index-groups-table.is in
    (m.0, subst (λ (l : List Row). AreToldRows m.0 l) (sym c.as_slice-in-order.ensures.value) told, m.2)

pub order-preserved : goal.order-preserved
order-preserved c =
    let q = c.args.quantity in
    let t = c.args.t.now in
    let gs = groups_of c.args.groups.now in
    let order = c.args.order.now in
    let i = c.order.place in
    let values = c.order.values.items in
    let v = get_or order i 0 in
    let at = c.order-test.true in
    let inside : v < length c.args.groups.now = (let n = c.requires.order.nodes i at in omega (arith, length-map gs spec.tables_in, length-map c.args.groups.now seen)) in
    let row = read_or seen c.args.groups.now v c.index-groups-table.result [] inside c.index-groups-table.is in
    let is_n : c.step-value.result ≡ min (step q t (λ u. get_or values u 0) (spec.group gs v)) 1025 =
    c.step-value.ensures ∙ ap (λ (l : List ℕ). min (step q t (λ u. get_or l u 0) (rows_of c.as_slice-in-order.result.now)) 1025) c.as_slice.ensures.value
    ∙ ap (λ (l : List Row). min (step q t (λ u. get_or values u 0) (rows_of l)) 1025) c.as_slice-in-order.ensures.value
    ∙ ap (λ (l : List spec.Row). min (step q t (λ u. get_or values u 0) l) 1025) (sym row) in
    one_right (spec.graph gs) (step q t) (spec.group gs) (takes q t gs) order c.requires.order 1025 (caps q t gs 1025) values i v c.step-value.result at refl is_n
    (length-set values v c.step-value.result) c.order.invariant

pub returns : goal.returns
returns c =
    let q = c.args.quantity in
    let t = c.args.t.now in
    let gs = groups_of c.args.groups.now in
    all_right (spec.graph gs) (step q t) (spec.group gs) (takes q t gs) c.args.order.now c.requires.order 1025 (caps q t gs 1025) c.order.values.items
    (record { long = c.order.invariant.long; right = λ j below. c.order.invariant.right j (let f = c.order-test.false in omega arith) })
