use Rattle.std.proofs.Common.{◌≡◌, ◌++◌, true, drop}
use Rattle.sl_explain_names.specs.FaultWords.{fields_from}
use Rattle.sl_explain_names.specs.Names.{mentions}
use Rattle.sl_lex.specs.Views.{views}
use Rattle.sl_explain_names.proofs.words.context_fields.Given as goal

-- the words so far and those of the names that are left are all words
abbrev pub invariant-names : goal.invariant-names
invariant-names l =
    l.out.items ++ fields_from l.is_first (views l.tokens) (drop l.at l.names) ≡ fields_from true (views l.tokens) (mentions (views l.tokens))
