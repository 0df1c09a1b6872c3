use Rattle.std.proofs.Common.{List, ℕ, sym, ap, ◌∙◌, option_map}
use Rattle.std.specs.Borrow.{Bor}
use Rattle.sl_spec_constructors.proofs.OperandLemmas.{action_more, there}
use Rattle.sl_spec_constructors.proofs.operands.add_action_operand.Goals as goal

abbrev bytes : Bor (List ℕ) → List ℕ
bytes n = n.now

pub returns-in_ok-push : goal.returns-in_ok-push
returns-in_ok-push c =
    action_more c.args.given.now c.args.all.now.items c.push.new.self.items c.args.index c.in_ok-number.number c.in-Some.name.now c.requires
    (sym c.at.ensures ∙ ap (option_map bytes) c.in-Some.is) c.in_ok-number.ensures c.in_ok-push.ensures.items

pub returns-in_default : goal.returns-in_default
returns-in_default c = absurd (there c.args.given.now c.args.index c.requires (sym c.at.ensures ∙ ap (option_map bytes) c.in_default.is))
