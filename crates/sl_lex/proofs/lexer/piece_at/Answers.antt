use Rattle.std.proofs.Common.{None, Some, refl, sym}
use Rattle.sl_lex.proofs.StepLemmas.{piece_here}
use Rattle.sl_lex.proofs.lexer.piece_at.Goals as goal

pub split_at-requires : goal.split_at-requires
split_at-requires c = c.in-Gap.ensures.within

pub returns-in-Gap-clause-found : goal.returns-in-Gap-clause-found
returns-in-Gap-clause-found c = (
  record { kind = None; text = c.split_at.result.0.now; from = c.args.from },
  piece_here c.args.mode c.args.from None c.in-Gap.count c.args.text.now c.split_at.result.0.now c.split_at.result.1.now c.in-Gap.ensures tt c.split_at.ensures.front
      c.split_at.ensures.back,
  refl,
  refl,
)

pub returns-in-Token-clause-found : goal.returns-in-Token-clause-found
returns-in-Token-clause-found c = (
  record { kind = Some c.in-Token.kind; text = c.split_at-in-Token.result.0.now; from = c.args.from },
  piece_here c.args.mode c.args.from (Some c.in-Token.kind) c.in-Token.count c.args.text.now c.split_at-in-Token.result.0.now c.split_at-in-Token.result.1.now
      c.in-Token.ensures.0 c.in-Token.ensures.1 c.split_at-in-Token.ensures.front c.split_at-in-Token.ensures.back,
  refl,
  sym c.next_mode.ensures,
)
