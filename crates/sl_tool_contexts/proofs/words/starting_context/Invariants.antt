use Rattle.std.specs.Prelude.{map}
use Rattle.sl_tool_contexts.specs.Words.{with_word}
use Rattle.sl_tool_request.specs.Views.{field as word_view}
use Rattle.sl_spec_rules.proofs.Runs.{IsRun}
use Rattle.sl_tool_contexts.proofs.words.starting_context.Given as goal

abbrev pub invariant-words : goal.invariant-words
invariant-words l = IsRun (with_word l.t) 0 (map word_view l.words) l.context l.index
