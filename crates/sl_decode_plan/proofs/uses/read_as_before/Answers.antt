use Rattle.std.proofs.Common.{◌<◌, ◌≤◌, sym, subst}
use Rattle.std.proofs.lemmas.Option.{get_or_from_slice_get}
use Rattle.sl_decode_plan.specs.Uses.{ReadAsBefore, ReadsAsBefore}
use Rattle.sl_decode_leaves.proofs.TiedLemmas.{none_left, one_less}
use Rattle.sl_decode_plan.proofs.uses.read_as_before.Goals as goal

pub used-init : goal.used-init
used-init c = λ all. all

pub used-preserved : goal.used-preserved
used-preserved c =
    let reads = ReadsAsBefore c.args.t.now c.args.operands.now c.args.leaves.now in
    let used = c.args.used.now in
    let i = c.used.index in
    let x = c.member.result.now in
    one_less reads used (ReadAsBefore c.args.t.now c.args.operands.now c.args.leaves.now used) i x (subst (λ n. i < n) c.len-index-end.ensures c.used-test.true)
    (sym (get_or_from_slice_get used i x x c.member.ensures)) (c.in_ok-reads_as_before.ensures c.if-not-branch.false) c.used.invariant

pub returns : goal.returns
returns c = λ may.
    let reads = ReadsAsBefore c.args.t.now c.args.operands.now c.args.leaves.now in
    let used = c.args.used.now in
    none_left reads used (ReadAsBefore c.args.t.now c.args.operands.now c.args.leaves.now used) c.used.index (subst (λ n. n ≤ c.used.index) c.len-index-end.ensures c.used-test.false)
    c.used.invariant
