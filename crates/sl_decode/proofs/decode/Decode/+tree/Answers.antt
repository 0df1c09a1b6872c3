use Rattle.std.proofs.Common.{◌≡◌, ◌-◌, length, sym, ap, subst, ◌∙◌, rules}
use Rattle.sl_decode.specs.Inputs.{input_of}
use Rattle.sl_decode.specs.Outcomes.{Fails}
use Rattle.sl_decode.specs.Sprouts.{laid, row, row_of}
use Rattle.sl_decode.proofs.ChoiceLemmas.{both_found, none_chosen, none_planned}
use Rattle.sl_decode.proofs.SproutLemmas.{fails_so, finished, finished_so, grow_as, grow_fails, grow_none, opened_as, opened_fails, sprout}
use Rattle.sl_decode_meaning.specs.Decoding.{grow, point_at}
use Rattle.sl_decode_meaning.specs.declared.faults.Fault.TheVariants.{NoConstructor}
use Rattle.sl_decode_plan.specs.Plans.{done}
use Rattle.sl_decode.proofs.decode.Decode.+tree.Goals as goal

pub grow-returns-then-left-eq0-clause-gives : goal.grow-returns-then-left-eq0-clause-gives
grow-returns-then-left-eq0-clause-gives g t c =
    grow_none (input_of g.C.Choose.chosen c.args.self.now) c.args.table c.args.at c.args.context c.args.left
    (row_of c.args.growth.now) c.if-left-eq0.true

pub grow-returns-in-Err-clause-gives : goal.grow-returns-in-Err-clause-gives
grow-returns-in-Err-clause-gives g t c =
    let i = input_of g.C.Choose.chosen c.args.self.now in
    grow_fails i c.args.table c.args.at c.args.context c.args.left c.in-Err.error (row_of c.args.growth.now) c.if-left-eq0.false
    (none_chosen (NoConstructor c.args.table c.args.at) i.says (i.choose c.args.table (point_at i.bytes c.args.at c.args.context)) c.in-Err.error c.in-Err.ensures)

pub grow-returns-in-Err-plan_of-clause-gives : goal.grow-returns-in-Err-plan_of-clause-gives
grow-returns-in-Err-plan_of-clause-gives g t c =
    let i = input_of g.C.Choose.chosen c.args.self.now in
    grow_fails i c.args.table c.args.at c.args.context c.args.left c.in-Err-plan_of.error (row_of c.args.growth.now) c.if-left-eq0.false
    (none_planned (NoConstructor c.args.table c.args.at) i.says (i.choose c.args.table (point_at i.bytes c.args.at c.args.context)) c.in-Ok.ctor c.in-Err-plan_of.error
    c.in-Ok.ensures c.in-Err-plan_of.ensures)

pub grow-returns-in-Err-change_by-clause-gives : goal.grow-returns-in-Err-change_by-clause-gives
grow-returns-in-Err-change_by-clause-gives g t c =
    let i = input_of g.C.Choose.chosen c.args.self.now in
    let ts = c.args.self.now.tables.now in
    let es = c.args.growth.now.sprouts.items in
    let ns = c.args.growth.now.notes.items in
    let plan = c.in-Ok-plan_of.plan.now in
    let a = grow_as i c.args.table c.args.at c.args.context c.args.left _ c.if-left-eq0.false
    (both_found (NoConstructor c.args.table c.args.at) i.says (i.choose c.args.table (point_at i.bytes c.args.at c.args.context)) c.in-Ok.ctor (done ts plan) c.in-Ok.ensures c.in-Ok-plan_of.ensures) in
    subst (Fails c.in-Err-change_by.error) (sym (ap (laid (row es ns)) a))
    (opened_fails ts (grow i (c.args.left - 1)) i c.args.at c.args.context c.in-Ok.ctor plan es ns c.in-Err-change_by.error c.in-Err-change_by.ensures)

pub grow-returns-in-Err-operands-clause-gives : goal.grow-returns-in-Err-operands-clause-gives
grow-returns-in-Err-operands-clause-gives g t c =
    let i = input_of g.C.Choose.chosen c.args.self.now in
    let ts = c.args.self.now.tables.now in
    let es = c.args.growth.now.sprouts.items in
    let ns = c.args.growth.now.notes.items in
    let ns1 = c.change_by.new.notes.items in
    let plan = c.in-Ok-plan_of.plan.now in
    let ctor = c.in-Ok.ctor in
    let own = c.in-Ok-change_by.own in
    let e0 = sprout ctor c.args.at 0 own c.saturating_sub-noted.result 0 in
    let a = grow_as i c.args.table c.args.at c.args.context c.args.left _ c.if-left-eq0.false
    (both_found (NoConstructor c.args.table c.args.at) i.says (i.choose c.args.table (point_at i.bytes c.args.at c.args.context)) ctor (done ts plan) c.in-Ok.ensures c.in-Ok-plan_of.ensures) in
    let b = opened_as ts (grow i (c.args.left - 1)) i c.args.at c.args.context ctor plan es ns ns1 own e0 c.in-Ok-change_by.ensures in
    let p = c.in_ok-push.ensures.items in
    let q = c.in-Err-operands.ensures.gives in
    subst (Fails c.in-Err-operands.error) (sym (ap (laid (row es ns)) a ∙ b))
    (fails_so ctor c.args.at own es ns c.in-Err-operands.error ns1 _ (rw p at q))

pub grow-returns-clause-gives : goal.grow-returns-clause-gives
grow-returns-clause-gives g t c =
    let i = input_of g.C.Choose.chosen c.args.self.now in
    let ts = c.args.self.now.tables.now in
    let es = c.args.growth.now.sprouts.items in
    let ns = c.args.growth.now.notes.items in
    let ns1 = c.change_by.new.notes.items in
    let plan = c.in-Ok-plan_of.plan.now in
    let ctor = c.in-Ok.ctor in
    let own = c.in-Ok-change_by.own in
    let e0 = sprout ctor c.args.at 0 own c.saturating_sub-noted.result 0 in
    let a = grow_as i c.args.table c.args.at c.args.context c.args.left _ c.if-left-eq0.false
    (both_found (NoConstructor c.args.table c.args.at) i.says (i.choose c.args.table (point_at i.bytes c.args.at c.args.context)) ctor (done ts plan) c.in-Ok.ensures c.in-Ok-plan_of.ensures) in
    let b = opened_as ts (grow i (c.args.left - 1)) i c.args.at c.args.context ctor plan es ns ns1 own e0 c.in-Ok-change_by.ensures in
    let p = c.in_ok-push.ensures.items in
    let q = c.in-Ok-operands.ensures.gives in
    let k1 : c.len-index.result ≡ length es = search rules in
    let k2 : c.saturating_sub-noted.result ≡ length ns1 - length ns = search rules in
    let k3 : c.len-2.result ≡ length c.operands.new.growth.sprouts.items = search rules in
    ap (laid (row es ns)) a ∙ b ∙ ap (finished ctor c.args.at own es ns ns1) (rw p at q)
    ∙ finished_so ctor c.args.at own c.in-Ok-operands.grown.length c.in-Ok-operands.grown.after es c.operands.new.growth.sprouts.items ns ns1 c.operands.new.growth.notes.items
    c.len-index.result c.saturating_sub-noted.result c.len-2.result k1 k2 k3
