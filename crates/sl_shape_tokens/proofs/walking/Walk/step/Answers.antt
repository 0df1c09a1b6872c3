use Rattle.std.proofs.Common.{length, refl, ap, subst, arith}
use Rattle.std.proofs.lemmas.List.{length_push, nil_from_length}
use Rattle.std.proofs.lemmas.Option.{MatchOption-at_none}
use Rattle.sl_shape_tokens.specs.Walks.{AreIn}
use Rattle.sl_shape_tokens.specs.declared.walking.Walk.{Walk}
use Rattle.sl_shape_tokens.proofs.WalkLemmas.{ended_first, ended_second, in_rest, none_of, step_met}
use Rattle.sl_shape_tokens.proofs.walking.Walk.step.Goals as goal

pub returns-in_default : goal.returns-in_default
returns-in_default c =
    let none = none_of c.pop.result c.in_default.not-Some in
    let empty = MatchOption-at_none _ _ none c.pop.ensures.cases in
    ended_first c.args.nodes.now c.requires.below c.args.self.now.left.items c.args.self.now.right.items c.args.self.now.common.items c.ended.result
    (nil_from_length c.args.self.now.left.items (omega (arith, empty.0, c.args.self.now.left.ok.0))) c.requires.right c.ended.ensures

pub returns-in_default-pop : goal.returns-in_default-pop
returns-in_default-pop c =
    let none = none_of c.pop-2.result c.in_default-pop.not-Some in
    let empty = MatchOption-at_none _ _ none c.pop-2.ensures.cases in
    let some = c.in-Some.ensures.items in
    ended_second c.args.nodes.now c.requires.below c.args.self.now.left.items c.args.self.now.right.items c.args.self.now.common.items
    (omega (arith, ap (λ l. length l) some, length_push c.pop.new.self.items c.in-Some.first))
    (nil_from_length c.args.self.now.right.items (omega (arith, empty.0, c.args.self.now.right.ok.0))) c.requires.left

pub meet-requires-clause-first : goal.meet-requires-clause-first
meet-requires-clause-first c =
    (in_rest (length c.args.nodes.now) c.pop.new.self.items c.in-Some.first (subst (AreIn (length c.args.nodes.now)) c.in-Some.ensures.items c.requires.left)).1

pub meet-requires-clause-second : goal.meet-requires-clause-second
meet-requires-clause-second c =
    (in_rest (length c.args.nodes.now) c.pop-2.new.self.items c.in-Some-pop.second (subst (AreIn (length c.args.nodes.now)) c.in-Some-pop.ensures.items c.requires.right)).1

pub meet-requires-clause-left : goal.meet-requires-clause-left
meet-requires-clause-left c =
    (in_rest (length c.args.nodes.now) c.pop.new.self.items c.in-Some.first (subst (AreIn (length c.args.nodes.now)) c.in-Some.ensures.items c.requires.left)).0

pub meet-requires-clause-right : goal.meet-requires-clause-right
meet-requires-clause-right c =
    (in_rest (length c.args.nodes.now) c.pop-2.new.self.items c.in-Some-pop.second (subst (AreIn (length c.args.nodes.now)) c.in-Some-pop.ensures.items c.requires.right)).0

pub returns : goal.returns
returns c =
    let mid : Walk = record { left = c.pop.new.self; right = c.pop-2.new.self; common = c.args.self.now.common } in
    step_met c.args.nodes.now c.requires.below c.in-Some.first c.in-Some-pop.second c.args.self.now.left.items c.args.self.now.right.items _ mid c.meet.new.self c.in_ok-met.met
    c.in-Some.ensures.items c.in-Some-pop.ensures.items refl c.in_ok-met.ensures
