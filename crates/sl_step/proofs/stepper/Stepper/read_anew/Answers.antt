use Rattle.std.proofs.Common.{◌≡◌, ap, length, min, ◌∙◌, arith}
use Rattle.sl_ast.specs.Views.{items_of}
use Rattle.sl_pcode.specs.Operations.{operations}
use Rattle.sl_faithful_reach.specs.Sight.{sight_in}
use Rattle.sl_list_instructions.proofs.AcceptedLemmas.{accepted}
use Rattle.sl_step.proofs.SightLemmas.{meant_by, read_from}
use Rattle.sl_step.proofs.TokenLemmas.{tokens_are_short}
use Rattle.sl_step.specs.Stands.{choice_in, specification_in}
use Rattle.sl_step.proofs.stepper.Stepper.read_anew.Goals as goal

pub returns-in-Ok-new-clause-read : goal.returns-in-Ok-new-clause-read
returns-in-Ok-new-clause-read c =
    let x = c.args.self.now in
    let s = specification_in x in
    let items = items_of x.compiled.now.bound.spec in
    let taken = (accepted items s.tables c.requires.stands.compiled.compiles).keeps_rules in
    let walk = c.read.new.walk in
    let made = c.in-Ok-new.ensures in
    let told = c.sight_of.ensures ∙ ap sight_in c.as_slice.ensures.value in
    let counted : c.min-count.result ≡ min (sight_in walk.nodes.items) (length c.args.bytes.now) =
    omega (arith, told, c.min-count.ensures) in
    read_from s (choice_in x) c.in-Ok-new.instruction c.args.bytes.now c.args.address c.args.context walk.commits.items
    c.in-Ok.listed.after (operations c.in-Ok.listed.ops) c.in-Ok.ensures.0 (tokens_are_short items s.tables taken)
    (meant_by items s.tables s.sizes c.requires.stands.compiled.binds)
    walk.nodes.items c.in-Ok.ensures.1 c.min-count.result counted c.requires.window made.bytes made.address made.context
    (made.commits ∙ c.as_slice-commits.ensures.value) made.after (ap operations made.ops)
