use Rattle.std.proofs.Common.{map}
use Rattle.std.proofs.lemmas.Result.{err_from_is_err_and}
use Rattle.sl_tool_contexts.specs.Words.{bad, with_word}
use Rattle.sl_tool_request.specs.Views.{field as word_view}
use Rattle.sl_spec_rules.proofs.Runs.{run_ends, run_fails, run_goes}
use Rattle.sl_spec_rules.proofs.Seen.{below_map, past_map, read_map}
use Rattle.sl_tool_contexts.proofs.words.starting_context.Goals as goal

pub returns-in_err-context : goal.returns-in_err-context
returns-in_err-context c =
    let p = err_from_is_err_and c.from_residual.result c.from_residual.ensures.1 in
    let all = c.args.words.now in
    let i = c.words.index in
    let word = c.in_err-context.field-0.0 in
    rw (p.1, p.2) (run_fails (with_word c.args.t.now) 0 (map word_view all) (bad word.field.now word.cause) c.words.context i
    _ (below_map word_view all i c.words-test.true)
    (read_map word_view all i _ c.words-test.true) c.in_err-context.ensures c.words.invariant)

pub words-preserved : goal.words-preserved
words-preserved c =
    let all = c.args.words.now in
    let i = c.words.index in
    run_goes (with_word c.args.t.now) 0 (map word_view all) c.words.context c.in_ok-context.context i
    _ (below_map word_view all i c.words-test.true)
    (read_map word_view all i _ c.words-test.true) c.in_ok-context.ensures c.words.invariant

pub returns : goal.returns
returns c =
    let all = c.args.words.now in
    run_ends (with_word c.args.t.now) 0 (map word_view all) c.words.context c.words.index
    (past_map word_view all c.words.index c.words-test.false) c.words.invariant
