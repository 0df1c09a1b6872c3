use Rattle.std.proofs.Common.{◌≡◌, ap, ◌∙◌}
use Rattle.sl_section_all.specs.Views.{flat_of}
use Rattle.sl_section_sizes.specs.Rows.{tables_meant}
use Rattle.sl_spec.specs.Tables.{Ctor}
use Rattle.sl_section_sizes.proofs.rows.with_section.Goals as goal

pub returns : goal.returns
returns c =
    let flat = flat_of c.args.section.now in
    let table : c.number.result ≡ c.args.ctor.now.table = c.number.ensures ∙ ap (λ (x : Ctor). x.table) c.ctor.view_is in
    let operands : c.args.operands.now ≡ tables_meant c.args.ctor.now.operands = c.requires in
    λ i. record { table = table i; operands = operands i; steps = flat.steps; variables = flat.variables }
