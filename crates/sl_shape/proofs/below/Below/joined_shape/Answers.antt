use Rattle.std.proofs.Common.{sym}
use Rattle.sl_ast.specs.Views.{pattern_of}
use Rattle.sl_ast.specs.declared.patterns.PatternOp.TheVariants.{And, Or}
use Rattle.sl_shape.proofs.JoinLemmas.{for_right}
use Rattle.sl_shape.proofs.below.Below.joined_shape.Goals as goal

pub returns-in-And-clause-shape : goal.returns-in-And-clause-shape
returns-in-And-clause-shape c = for_right c.args.self.now c.args.lists.now c.both_shape.new.lists c.args.first c.args.second And c.args.op (sym c.in-And.is) (pattern_of c.args.right.now)
    c.both_shape.result c.both_shape.ensures.shape

pub returns-in-Or-clause-shape : goal.returns-in-Or-clause-shape
returns-in-Or-clause-shape c = for_right c.args.self.now c.args.lists.now c.either_shape.new.lists c.args.first c.args.second Or c.args.op (sym c.in-Or.is) (pattern_of c.args.right.now)
    c.either_shape.result c.either_shape.ensures.shape
