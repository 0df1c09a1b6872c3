use Rattle.std.proofs.Common.{◌≡◌, [], List, reverse, sym, ap, ◌∙◌}
use Rattle.sl_preproc_directives.specs.declared.condition.Level.{Level}
use Rattle.sl_preproc_directives.specs.Held.{values_of}
use Rattle.sl_preproc_directives.specs.Levels.{levels_of}
use Rattle.sl_preproc_directives.proofs.LevelLemmas.{reading_begins, is_condition, goes_past, is_malformed}
use Rattle.sl_preproc_directives.proofs.condition.condition.Goals as goal
use Rattle.sl_preproc_directives.proofs.condition.condition.Goals.{then-is_ended, else-is_ended}

pub operands-init : goal.operands-init
operands-init c =
    let none : levels_of c.new-levels.result ≡ [] = ap (λ (ls : List Level). reverse ls) c.new-levels.ensures.items in
    rw (c.new_level-level.ensures, none) (reading_begins (values_of c.args.defs.now) c.args.text.now)

pub operands-smaller : goal.operands-smaller
operands-smaller c =
    let left = rw c.in-Operand.is at (c.in_ok-next.ensures _ c.operands.invariant) in
    left.1

pub operands-preserved : goal.operands-preserved
operands-preserved c =
    let left = rw c.in-Operand.is at (c.in_ok-next.ensures _ c.operands.invariant) in
    left.0

pub returns-in-Whole : goal.returns-in-Whole
returns-in-Whole c =
    let left = rw c.in-Whole.is at (c.in_ok-next.ensures _ c.operands.invariant) in
    elim c.if-is_ended.branch [
      | then-is_ended w ↦ w.result-is ∙ is_condition (values_of c.args.defs.now) c.args.text.now c.in-Whole.verdict c.in-Whole.behind.now left (sym c.is_ended.ensures ∙ w.if-is_ended.true)
      | else-is_ended w ↦ w.result-is ∙ goes_past (values_of c.args.defs.now) c.args.text.now c.in-Whole.verdict c.in-Whole.behind.now left (sym c.is_ended.ensures ∙ w.if-is_ended.false)
    ]

pub returns-in-Malformed : goal.returns-in-Malformed
returns-in-Malformed c =
    let left = rw c.in-Malformed.is at (c.in_ok-next.ensures _ c.operands.invariant) in
    is_malformed (values_of c.args.defs.now) c.args.text.now left
