use Rattle.std.proofs.Common.{◌≤◌, arith, inr}
use Rattle.std.proofs.lemmas.Bool.{leb-true, le-leb, ltb-true, lt-ltb}
use Rattle.sl_spec.proofs.FieldLemmas.{greatest_is}
use Rattle.sl_shape_constraints.proofs.CodeLemmas.{all_between, high_between, all_around, past_all}
use Rattle.sl_shape_constraints.proofs.codes.are_all.Goals as goal

pub returns-then-codes-eq0 : goal.returns-then-codes-eq0
returns-then-codes-eq0 c =
    let codes = c.args.codes.now in
    let is = greatest_is c.args.width c.requires.most in (
      λ within. all_between codes c.args.width _ is c.if-codes.true c.if-codes-eq0.true (leb-true _ _ within),
      λ all. le-leb _ _ (high_between codes c.args.width _ is c.if-codes.true all),
    )

pub returns-else-codes-2 : goal.returns-else-codes-2
returns-else-codes-2 c =
    let codes = c.args.codes.now in
    let is = greatest_is c.args.width c.requires.most in
    let ordered : codes.low ≤ codes.high = omega (arith, c.if-codes-2.false) in (
      λ past. all_around codes c.args.width _ is c.if-codes.false (inr (ltb-true _ _ past)),
      λ all. lt-ltb _ _ (past_all codes c.args.width _ is c.if-codes.false ordered all),
    )
