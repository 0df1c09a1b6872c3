use Rattle.std.proofs.Common.{◌≡◌, ◌++◌, ◌∷◌, [], Bool, map, ap, ◌∙◌, arith}
use Rattle.std.proofs.lemmas.List.{take_all}
use Rattle.sl_ast.specs.Trees.{Section}
use Rattle.sl_build.proofs.MarkLemmas.{marked_more, marks_all}
use Rattle.sl_meaning_instruction.specs.Instructions.{is_unimpl}
use Rattle.sl_spec.specs.Unfolded.{placed}
use Rattle.sl_spec.specs.declared.unfolded.Unfolded.{Unfolded}
use Rattle.sl_build.proofs.unimplemented.marks.Goals as goal

abbrev mark : Unfolded → Bool
mark u = is_unimpl (placed u).1.section

pub constructors-preserved : goal.constructors-preserved
constructors-preserved c =
    let us = c.args.constructors.now in
    let i = c.constructors.index in
    let u = c.index-constructors-index.result in
    let is : c.is_unimpl.result ≡ mark u = c.is_unimpl.ensures ∙ ap (λ (s : Section). is_unimpl s) c.section.ensures in
    c.in_ok-push.ensures.items ∙ ap (λ b. c.constructors.marks.items ++ b ∷ []) is
    ∙ marked_more mark us c.constructors.marks.items i u c.constructors-test.true c.index-constructors-index.is c.constructors.invariant

pub returns : goal.returns
returns c =
    let us = c.args.constructors.now in
    c.constructors.invariant ∙ ap (map mark) (take_all c.constructors.index us (omega (arith, c.constructors-test.false))) ∙ marks_all us
