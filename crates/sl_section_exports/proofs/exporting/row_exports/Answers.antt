use Rattle.std.proofs.Common.{ap, sym, ◌∙◌}
use Rattle.sl_ast.specs.Views.{constructor_of}
use Rattle.sl_spec.specs.Unfolded.{heads_of}
use Rattle.sl_spec_tables.proofs.HeadLemmas.{under_section}
use Rattle.sl_section_exports.specs.Exports as spec
use Rattle.sl_section_exports.proofs.exporting.row_exports.Goals as goal

pub returns : goal.returns
returns c =
    let own = c.args.row.now.own.now in
    c.does_export.ensures ∙ ap spec.does_export (sym (under_section (heads_of own.heads.items) (constructor_of own.own.now)))
