use Rattle.std.proofs.Common.{sym, ◌∙◌}
use Rattle.std.proofs.lemmas.Bool.{false≢true}
use Rattle.sl_cube.proofs.TallyLemmas.{among_shared}
use Rattle.sl_cube.proofs.tally.shared.Goals as goal

pub returns-else-has_no_bit : goal.returns-else-has_no_bit
returns-else-has_no_bit c = among_shared c.args.bits c.args.others.now (λ none. false≢true (sym c.if-has_no_bit.false ∙ c.has_no_bit.ensures.1 none))
