use Rattle.std.proofs.Common.{rules, ◌≡◌, List, length, ap, ◌∙◌, sym}
use Rattle.std.specs.List.{list_any}
use Rattle.sl_ast.specs.Unfolding.{written}
use Rattle.sl_gap.proofs.FindingLemmas.{found_loud, found_none, found_some, tells_length}
use Rattle.sl_gap_operands.specs.Operands.{sets_context}
use Rattle.sl_spec.specs.Tables.{Ctor, Operand}
use Rattle.sl_spec.specs.Unfolded.{placed}
use Rattle.sl_gap.proofs.findings.find.Goals as goal

pub returns-then-sets : goal.returns-then-sets
returns-then-sets c =
    let t = c.args.t.now in
    let d = placed c.args.of.now in
    let same = c.as_slice.ensures.value ∙ ap (λ (x : Ctor). x.operands) c.ctor.view_is in
    let e = c.in_ok-sets.ensures ∙ ap (λ (os : List Operand). list_any (sets_context t os) (written d.1.actions)) same in
    λ cs are at. found_loud t cs c.args.number c.args.ctor.now d c.args.plan.now at c.in_ok-sets.sets e c.if-sets.true

pub returns-in_default : goal.returns-in_default
returns-in_default c =
    let t = c.args.t.now in
    let d = placed c.args.of.now in
    let same = c.as_slice.ensures.value ∙ ap (λ (x : Ctor). x.operands) c.ctor.view_is in
    let e = c.in_ok-sets.ensures ∙ ap (λ (os : List Operand). list_any (sets_context t os) (written d.1.actions)) same in
    let is : c.len.result ≡ length c.args.plan.now.slots.items = search rules in
    λ cs are at. found_none t cs c.args.number c.args.ctor.now d c.args.plan.now at c.in_ok-sets.sets e c.if-sets.false c.in_default.ensures _
    (tells_length c.len.result (length c.args.plan.now.slots.items) 0 is)

pub returns : goal.returns
returns c =
    let t = c.args.t.now in
    let d = placed c.args.of.now in
    let same = c.as_slice.ensures.value ∙ ap (λ (x : Ctor). x.operands) c.ctor.view_is in
    let e = c.in_ok-sets.ensures ∙ ap (λ (os : List Operand). list_any (sets_context t os) (written d.1.actions)) same in
    let is : c.len-2.result ≡ length c.args.plan.now.slots.items = search rules in
    λ cs are at. found_some t cs c.args.number c.args.ctor.now d c.args.plan.now at c.in_ok-sets.sets e c.if-sets.false c.in-Some.operand c.in-Some.ensures
    c.in_ok-hole.hole (c.in_ok-hole.ensures t cs are (record {
      ctor = c.args.ctor.now;
      ctor_is = at.ctor_is;
      of_table = ap (λ (x : Ctor). x.table) (sym c.ctor.view_is);
    })) _ (tells_length c.len-2.result (length c.args.plan.now.slots.items) 1 is)
