use Rattle.std.proofs.Common.{◌∙◌, ap, sym}
use Rattle.std.proofs.lemmas.Result.{IfOk-weaker}
use Rattle.clap.specs.Matches.{found_of}
use Rattle.clap.specs.Walk.{rows_of}
use Rattle.clap.specs.declared.parser.matches.ArgMatches.TheViews.{out-ArgMatches}
use Rattle.sl_tool_request.specs.Requests.{asked_by}
use Rattle.sl_tool_words.specs.Matches.{asked_at}
use Rattle.sl_tool_words.proofs.ReadingLemmas.{subcommand_is}
use Rattle.sl_tool_words.proofs.reading.asked_in.Goals as goal

pub returns-in_ok-given-in-Some : goal.returns-in_ok-given-in-Some
returns-in_ok-given-in-Some c =
    let is = subcommand_is (out-ArgMatches c.args.matches.now).subcommand c.in-Some.name.now (rows_of (found_of c.in-Some.inner.now)) c.in-Some.ensures.name c.in-Some.ensures.rows in
    IfOk-weaker c.asked_by.result _ _ (λ r h. h ∙ ap (asked_by c.in-Some.name.now) c.in_ok-given-in-Some.ensures ∙ sym (ap asked_at is)) c.asked_by.ensures
