use Rattle.std.proofs.Common.{sym}
use Rattle.sl_ast.specs.Views.{constructor_of}
use Rattle.sl_spec.specs.Unfolded.{heads_of}
use Rattle.sl_spec_tables.proofs.HeadLemmas.{under_section}
use Rattle.sl_build.proofs.unimplemented.section.Goals as goal

pub returns : goal.returns
returns c =
    let of = c.args.of.now in
    sym (under_section (heads_of of.heads.items) (constructor_of of.own.now))
