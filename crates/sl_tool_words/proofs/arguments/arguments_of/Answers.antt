use Rattle.std.proofs.Common.{◌∙◌, codes}
use Rattle.clap.specs.Matches.{found_of}
use Rattle.clap.proofs.WalkLemmas.{first_value-rows}
use Rattle.sl_tool_words.proofs.Summaries.{arguments_made}
use Rattle.sl_tool_words.proofs.arguments.arguments_of.Goals as goal

pub returns : goal.returns
returns c =
    arguments_made c.in_ok-words.ensures (c.get_str.ensures ∙ first_value-rows (found_of c.args.matches.now) (codes "base"))
    (c.get_str-2.ensures ∙ first_value-rows (found_of c.args.matches.now) (codes "steps")) c.is_given.ensures c.is_given-2.ensures c.is_given-3.ensures
    c.is_given-4.ensures c.is_given-5.ensures
