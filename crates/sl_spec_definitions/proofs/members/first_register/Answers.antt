use Rattle.std.proofs.Common.{option_map, sym, ap, ◌∙◌}
use Rattle.std.specs.Prelude.{not, option_and_then}
use Rattle.sl_ast.specs.Views.{member_of as seen}
use Rattle.sl_spec_registers.proofs.SpaceLemmas.{seen_found}
use Rattle.sl_spec_definitions.specs.AttachRules.{is_gap, register_named}
use Rattle.sl_spec_definitions.proofs.members.first_register.Goals as goal

pub returns-in-Some : goal.returns-in-Some
returns-in-Some c =
    let found = seen_found (λ m. not (is_gap m)) seen c.args.members.now c.first_given.result c.first_given.ensures in
    c.register_named.ensures ∙ ap (option_and_then (register_named c.args.registers.now)) (ap (option_map (λ m. seen m.now)) (sym c.in-Some.is) ∙ found)

pub returns-in-None : goal.returns-in-None
returns-in-None c =
    let found = seen_found (λ m. not (is_gap m)) seen c.args.members.now c.first_given.result c.first_given.ensures in
    ap (option_and_then (register_named c.args.registers.now)) (ap (option_map (λ m. seen m.now)) (sym c.in-None.is) ∙ found)
