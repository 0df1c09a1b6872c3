use Rattle.std.proofs.Common.{◌≡◌, ◌++◌, ◌∷◌, [], ℕ, Bool, cond, not, List, map, take, get_or, ap, sym, ◌∙◌, arith}
use Rattle.std.proofs.lemmas.List.{take_all}
use Rattle.sl_base_graphs.proofs.Seen.{mapped_more}
use Rattle.sl_spec.specs.Tables.{Operand}
use Rattle.sl_section_exports.specs.Exports.{passes}
use Rattle.sl_section_exports.specs.Spreads.{mark_of}
use Rattle.sl_section_exports.proofs.unexported.operand_flags.Goals as goal

pub operands-preserved : goal.operands-preserved
operands-preserved c =
    let test : ℕ → Bool = λ u. cond c.args.unmarked (not (mark_of c.args.marks.now u)) (mark_of c.args.marks.now u) in
    let f : Operand → Bool = λ o. passes test o.means in
    let os = c.args.operands.now in
    let i = c.operands.operand-index in
    let o = c.operand-item.result in
    let is : c.passes.result ≡ f (get_or os i o) = c.passes.ensures ∙ ap f (c.operand.view_is ∙ c.operand-item.is) in
    c.in_ok-push.ensures.items ∙ ap (λ b. c.operands.flags.items ++ b ∷ []) is ∙ mapped_more f os c.operands.flags.items i o c.operands-test.true c.operands.invariant

pub returns : goal.returns
returns c =
    let test : ℕ → Bool = λ u. cond c.args.unmarked (not (mark_of c.args.marks.now u)) (mark_of c.args.marks.now u) in
    c.operands.invariant ∙ ap (λ (l : List Operand). map (λ o. passes test o.means) l) (take_all c.operands.operand-index c.args.operands.now (omega (arith, c.operands-test.false)))
