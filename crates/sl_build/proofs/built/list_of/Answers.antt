use Rattle.std.proofs.Common.{List, refl, ap, subst, ◌∙◌}
use Rattle.sl_build.proofs.BuiltLemmas.{is_list}
use Rattle.sl_build_emit.specs.Views.{operations_of}
use Rattle.sl_pcode.specs.Operations.{operations}
use Rattle.sl_pcode.specs.WellFormed.{IsWellFormed}
use Rattle.sl_word.specs.Sizes.{byte_counts}
use Rattle.sl_word.specs.declared.word.AddressSize.{AddressSize}
use Rattle.sl_build.proofs.built.list_of.Goals as goal

pub returns : goal.returns
returns c s f address after stands start next top row values =
    let w = c.args.w.now in
    let ops = operations c.in_ok-list.list in
    is_list w s stands w.bytes.now address after c.args.nodes.now f refl start next top row values ops
    (ap operations_of c.in_ok-list.ensures.same ∙ c.in_ok-ops.ensures)
    (subst (λ (sizes : List AddressSize). IsWellFormed (byte_counts sizes) ops) c.as_slice.ensures.value c.in_ok-list.ensures.well_formed)
    c.in_ok-list.ensures.short
