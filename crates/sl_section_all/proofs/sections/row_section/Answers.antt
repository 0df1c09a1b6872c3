use Rattle.std.proofs.Common.{◌≡◌, List, ap, sym, ◌∙◌}
use Rattle.sl_ast.specs.Trees.{Section}
use Rattle.sl_ast.specs.Views.{constructor_of, section_of}
use Rattle.sl_section_all.specs.FlatSections.{flat_section}
use Rattle.sl_section_resolve.specs.MacroViews.{bodies_of}
use Rattle.sl_spec.specs.Tables.{Ctor, Operand}
use Rattle.sl_spec.specs.Unfolded.{heads_of}
use Rattle.sl_spec_tables.specs.Views.{row_of}
use Rattle.sl_spec_tables.proofs.HeadLemmas.{under_section}
use Rattle.sl_section_all.proofs.sections.row_section.Goals as goal

pub returns : goal.returns
returns c =
    let t = c.args.t.now in
    let macros = bodies_of c.args.macros.now in
    let row = c.args.row.now in
    let own = row.own.now.own.now in
    let hs = heads_of row.own.now.heads.items in
    let r = row_of row in
    let operands : c.as_slice.result.now ≡ r.0.operands = c.as_slice.ensures.value ∙ ap (λ (x : Ctor). x.operands) c.ctor.view_is in
    c.in_ok-section.ensures
    ∙ ap (λ (os : List Operand). flat_section t macros c.args.reach os (section_of own.section)) operands
    ∙ ap (λ (s : Section). flat_section t macros c.args.reach r.0.operands s) (sym (under_section hs (constructor_of own)))
