use Rattle.std.proofs.Common.{sym, ◌∙◌}
use Rattle.sl_section_all.proofs.ScopeLemmas.{body_is_added, body_is_there}
use Rattle.sl_section_resolve.specs.declared.macros.MacroBody.{MacroBody}
use Rattle.sl_section_all.proofs.scopes.add_body.Goals as goal

pub returns-then-has : goal.returns-then-has
returns-then-has c =
    let m : MacroBody = record { of = c.args.of; reach = c.args.reach } in
    body_is_there c.args.macros.now m (sym c.has.ensures ∙ c.if-has.true)

pub returns : goal.returns
returns c =
    let m : MacroBody = record { of = c.args.of; reach = c.args.reach } in
    body_is_added c.args.macros.now m c.add.result c.add.new.self (sym c.has.ensures ∙ c.if-has.false) c.add.ensures.added
