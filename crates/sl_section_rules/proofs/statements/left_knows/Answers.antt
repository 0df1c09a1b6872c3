use Rattle.std.proofs.Common.{option_map, sym, ap, ◌∙◌}
use Rattle.sl_ast.specs.Views.{bytes, left_of}
use Rattle.sl_section_rules.specs.Known.{left_knows}
use Rattle.sl_section_rules.proofs.statements.left_knows.Goals as goal

pub returns-in-Bits : goal.returns-in-Bits
returns-in-Bits c =
    let test = left_knows c.args.t.now (option_map bytes c.args.context) c.args.names.now c.args.all.now in
    c.knows.ensures ∙ ap (λ l. test (left_of l)) (sym c.in-Bits.is)
