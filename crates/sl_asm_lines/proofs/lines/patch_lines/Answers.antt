use Rattle.std.proofs.Common.{◌≤◌, subst, sym}
use Rattle.sl_asm_lines.proofs.PatchedLemmas.{by_specification}
use Rattle.sl_asm_narrow.specs.Readers.{tables_of}
use Rattle.sl_ast.specs.Views.{items_of}
use Rattle.sl_list_instructions.proofs.AcceptedLemmas.{aligned}
use Rattle.sl_spec.specs.declared.tables.Tables.{Tables}
use Rattle.sl_asm_lines.proofs.lines.patch_lines.Goals as goal

pub patch_by-requires-clause-aligned : goal.patch_by-requires-clause-aligned
patch_by-requires-clause-aligned c =
    let r = c.in_ok-reader.reader in
    let is = c.in_ok-reader.ensures.reads in
    subst (λ (t : Tables). 1 ≤ t.alignment) (sym is.stands.decodes.tables) (aligned (items_of r.compiled.now.bound.spec) (tables_of r) is.compiled.compiles)

pub returns : goal.returns
returns c =
    by_specification c.in_ok-reader.reader c.in_ok-reader.ensures.reads c.args.start c.args.text.now (λ v. v.items) c.args.compiled.now c.in_ok-reader.ensures.of c.patch_by.result c.patch_by.ensures
