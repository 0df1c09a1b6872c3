use Rattle.std.proofs.Common.{◌↔◌, ℕ, IsTrue, false, subst}
use Rattle.sl_cube_sets.specs.Unions.{IsBelow}
use Rattle.sl_cube_sets.proofs.AnswerLemmas.{kept_right, kept_or_added, nothing_right}
use Rattle.sl_cube_sets.proofs.answers.Answers.is_below.Goals as goal

pub returns-in-Some-clause-exact : goal.returns-in-Some-clause-exact
returns-in-Some-clause-exact c = kept_right c.args.sets.now c.args.self.now c.args.lower c.args.upper c.in-Some.answer c.requires c.in-Some.ensures

pub returns-clause-right : goal.returns-clause-right
returns-clause-right c = kept_or_added c.args.sets.now c.args.self.now _ c.keep.new.self c.requires c.in_ok-below.ensures c.keep.ensures

pub returns-then-lower-upper-clause-exact : goal.returns-then-lower-upper-clause-exact
returns-then-lower-upper-clause-exact c = subst (λ (u : ℕ). IsTrue false ↔ IsBelow c.args.sets.now c.args.lower u) c.if-lower-upper.true (nothing_right c.args.sets.now c.args.lower)
