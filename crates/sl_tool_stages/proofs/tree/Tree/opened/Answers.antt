use Rattle.std.proofs.Common.{refl, sym, ◌∙◌}
use Rattle.sl_store_write.specs.Parts.{packed_of}
use Rattle.sl_tool_stages.proofs.UnpackLemmas.{file_is_short, refuses_file}
use Rattle.sl_tool_stages.proofs.tree.Tree.opened.Goals as goal

pub invariant_of-result-clause-short : goal.invariant_of-result-clause-short
invariant_of-result-clause-short c = file_is_short (packed_of c.in-Ok.packed) c.args.bytes.now c.in-Ok.ensures.answers c.requires

pub returns-in-Ok : goal.returns-in-Ok
returns-in-Ok c = (packed_of c.in-Ok.packed, c.in-Ok.ensures.answers, refl)

pub returns-in_ok-refusal-in-Err : goal.returns-in_ok-refusal-in-Err
returns-in_ok-refusal-in-Err c =
    refuses_file c.args.name.now c.args.bytes.now c.in-Err.error c.in-Some.problem c.in_ok-refusal-in-Err.refusal (sym c.unopened.ensures ∙ c.in-Some.is)
    c.in-Err.ensures.answers c.in_ok-refusal-in-Err.ensures
