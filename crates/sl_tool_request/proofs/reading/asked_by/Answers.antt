use Rattle.std.proofs.Common.{ap, sym}
use Rattle.std.specs.Option.{option_and_then}
use Rattle.sl_tool_request.specs.Requests.{Command, commands}
use Rattle.sl_tool_request.specs.Views.{arguments}
use Rattle.sl_tool_request.proofs.CommandLemmas.{none_named}
use Rattle.sl_tool_request.proofs.reading.asked_by.Goals as goal

pub returns-in_default : goal.returns-in_default
returns-in_default c =
    let n = c.in_default in
    let none = none_named c.args.name.now commands
    (n.not-check, (n.not-list, (n.not-pcode, (n.not-run, (n.not-gen, (n.not-gaps, (n.not-pack, (n.not-asm, tt)))))))) in
    sym (ap (option_and_then (λ (d : Command). d.asked (arguments c.args.given.now))) none)
