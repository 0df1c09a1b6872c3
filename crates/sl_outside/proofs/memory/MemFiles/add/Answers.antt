-- A look-up by another name finds what it found before.
use Rattle.std.proofs.Common.{arith}
use Rattle.std.proofs.lemmas.Map.Text.{text_keys}
use Rattle.sl_outside.proofs.memory.MemFiles.add.Goals as goal

pub returns-clause-added : goal.returns-clause-added
returns-clause-added c = λ other. grind (arith, text_keys)
