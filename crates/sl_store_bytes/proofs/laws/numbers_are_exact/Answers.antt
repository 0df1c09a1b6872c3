use Rattle.std.proofs.Common.{arith}
use Rattle.sl_store_bytes.specs.Numbers.{greatest}
use Rattle.sl_store_bytes.proofs.NumberLaws.{exact_numbers}
use Rattle.sl_store_bytes.proofs.laws.numbers_are_exact.Goals as goal

pub returns : goal.returns
returns c = exact_numbers 0 greatest (omega arith) (omega arith) (omega arith)
