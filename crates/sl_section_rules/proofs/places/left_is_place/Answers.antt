use Rattle.std.proofs.Common.{sym, ap, ◌∙◌}
use Rattle.sl_ast.specs.Views.{left_of}
use Rattle.sl_section_rules.specs.SectionRules.{left_is_place}
use Rattle.sl_section_rules.proofs.places.left_is_place.Goals as goal

pub returns-in-Bits : goal.returns-in-Bits
returns-in-Bits c =
    c.is_assignable-in-Bits.ensures ∙ ap (λ l. left_is_place c.args.t.now c.args.scope.now (left_of l)) (sym c.in-Bits.is)
