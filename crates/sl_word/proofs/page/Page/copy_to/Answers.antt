use Rattle.std.proofs.Common.{arith}
use Rattle.std.proofs.lemmas.List.{places}
use Rattle.std.proofs.lemmas.Grind.{common_steps}
use Rattle.sl_word.proofs.page.Page.copy_to.Goals as goal

pub returns-clause-bytes : goal.returns-clause-bytes
returns-clause-bytes c = λ k. grind (arith, common_steps, places, c.copy_from_slice.ensures.after, c.args.self.now.whole)
