use Rattle.std.proofs.Common.{◌≡◌, ◌+◌, ◌-◌, ◌++◌, length, List, arith, sym, subst}
use Rattle.std.specs.Option.{option_map, option_to_list}
use Rattle.std.proofs.lemmas.Grind.{common_steps}
use Rattle.std.proofs.lemmas.Result.{err_from_is_err_and}
use Rattle.sl_lex.specs.Reading.{Token}
use Rattle.sl_lex.specs.Views.{view, views}
use Rattle.sl_lex.proofs.ReadingLemmas.{GoesOn, goes_on_next, reads_to_end, tells, steps_on, kept_more, kept_same}
use Rattle.sl_lex.proofs.lexer.lex.Goals as goal
use Rattle.sl_lex.proofs.lexer.lex.Goals.{in-Some+else-is_err, in_default}

pub returns-in_err-piece-clause-fault : goal.returns-in_err-piece-clause-fault
returns-in_err-piece-clause-fault c =
    let p = err_from_is_err_and c.from_residual.result c.from_residual.ensures.1 in
    rw (p.1, p.2) (tells c.args.text.now (views c.pieces.toks.items) c.pieces.mode c.pieces.from c.pieces.rest.now _ c.pieces.invariant.reads c.in_err-piece.ensures.fault)

pub pieces-smaller : goal.pieces-smaller
pieces-smaller c = steps_on c.pieces.mode c.pieces.from c.pieces.rest.now c.in_ok-piece.piece c.in_ok-piece.ensures.found

pub pieces-preserved : goal.pieces-preserved
pieces-preserved c =
    let less = steps_on c.pieces.mode c.pieces.from c.pieces.rest.now c.in_ok-piece.piece c.in_ok-piece.ensures.found in
    let kept : views c.match-piece.toks.items ≡ views c.pieces.toks.items ++ option_to_list (option_map view c.in_ok-piece.piece.token) =
    elim c.match-piece.branch [
      | in-Some+else-is_err w ↦ kept_more c.pieces.toks.items c.match-piece.toks.items c.in_ok-piece.piece.token w.in-Some.tok (grind (arith, common_steps)) w.in-Some.is
      | in_default w ↦ kept_same c.pieces.toks.items c.match-piece.toks.items c.in_ok-piece.piece.token (grind (arith, common_steps)) w.in_default.is
    ] in
    record {
      place = omega arith;
      reads = subst (λ (ts : List Token). GoesOn c.args.text.now ts c.in_ok-piece.piece.mode (c.pieces.from + (length c.pieces.rest.now - length c.in_ok-piece.piece.rest.now)) c.in_ok-piece.piece.rest.now)
          (sym kept)
          (goes_on_next c.args.text.now (views c.pieces.toks.items) c.pieces.mode c.pieces.from c.pieces.rest.now c.in_ok-piece.piece c.pieces.invariant.reads c.in_ok-piece.ensures.found);
    }

pub returns-clause-tokens : goal.returns-clause-tokens
returns-clause-tokens c = reads_to_end c.args.text.now (views c.pieces.toks.items) c.pieces.mode c.pieces.from c.pieces.rest.now c.pieces.invariant.reads (grind (arith, common_steps))
