use Rattle.std.proofs.Common.{◌≡◌, ◌+◌, length}
use Rattle.sl_lex.specs.Views.{views}
use Rattle.sl_lex.proofs.ReadingLemmas.{GoesOn}
use Rattle.sl_lex.proofs.lexer.lex.Given as goal

abbrev pub invariant-pieces : goal.invariant-pieces
invariant-pieces l = record {
  place : l.from + length l.rest ≡ length l.text;
  reads : GoesOn l.text (views l.toks.items) l.mode l.from l.rest;
}

abbrev pub decreases-pieces : goal.decreases-pieces
decreases-pieces l = length l.rest
