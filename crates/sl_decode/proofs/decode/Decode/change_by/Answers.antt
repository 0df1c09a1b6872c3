use Rattle.std.proofs.Common.{Result, Vec, [], ap, refl, subst, ◌∙◌}
use Rattle.std.specs.declared.alloc.Global.{Global}
use Rattle.sl_decode.specs.Inputs.{input_of}
use Rattle.sl_decode.specs.Outcomes.{Fails}
use Rattle.sl_decode.proofs.RowLemmas.{row_done, row_fails, sites_same}
use Rattle.sl_decode_meaning.specs.Actions.{Changed, changed}
use Rattle.sl_decode_meaning.specs.Decoding.{site_at}
use Rattle.sl_decode_meaning.specs.Outcomes.{in_turn}
use Rattle.sl_decode_meaning.specs.declared.faults.Fault.{Fault}
use Rattle.sl_decode_plan.specs.Steps.{early_step}
use Rattle.sl_decode_plan.specs.declared.early.Early.{Early}
use Rattle.sl_decode.proofs.decode.Decode.change_by.Goals as goal

pub returns-in-Err : goal.returns-in-Err
returns-in-Err g c =
    let t = c.args.self.now.tables.now in
    let i = input_of g.C.Choose.chosen c.args.self.now in
    let step = early_step t (site_at i c.args.ctor c.args.at [] c.args.context 0) in
    let row = c.as_slice.result.now in
    let x = changed c.rows.now c.rows.notes.items in
    row_fails step c.rows-rows.result.now c.rows.index c.index-rows-index.result row c.rows-test.true c.index-rows-index.is (c.as_slice.ensures.value ∙ ap (λ (v : Vec Early Global). v.items) c.deref.ensures) x _
    (c.rows.invariant ∙ ap (λ ls. in_turn step ls (changed c.args.context c.args.notes.now.items)) c.rows-rows.ensures) (λ (r : Result Changed Fault). r) (λ fault. refl) c.in-Err.error
    (subst (λ (r : Result Changed Fault). Fails c.in-Err.error r) (sites_same t i c.args.ctor c.args.at c.rows.now c.args.context row x) c.in-Err.ensures)

pub rows-preserved : goal.rows-preserved
rows-preserved g c =
    let t = c.args.self.now.tables.now in
    let i = input_of g.C.Choose.chosen c.args.self.now in
    let step = early_step t (site_at i c.args.ctor c.args.at [] c.args.context 0) in
    let row = c.as_slice.result.now in
    let x = changed c.rows.now c.rows.notes.items in
    row_done step c.rows-rows.result.now c.rows.index c.index-rows-index.result row c.rows-test.true c.index-rows-index.is (c.as_slice.ensures.value ∙ ap (λ (v : Vec Early Global). v.items) c.deref.ensures) x _
    c.rows.invariant (changed c.in-Ok.next c.change.new.notes.items)
    (sites_same t i c.args.ctor c.args.at c.args.context c.rows.now row x ∙ c.in-Ok.ensures)
