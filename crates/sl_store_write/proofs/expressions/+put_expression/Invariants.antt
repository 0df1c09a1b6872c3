use Rattle.sl_ast.specs.Views.{expression_of}
use Rattle.sl_store_format.specs.Expressions.{write_expression}
use Rattle.sl_store_write.proofs.Puts.{AreWritten}
use Rattle.sl_store_write.proofs.expressions.+put_expression.Given as goal

abbrev pub invariant-rounds : goal.invariant-rounds
invariant-rounds l = AreWritten write_expression expression_of l.initial.out.items l.arguments l.out.items l.index
