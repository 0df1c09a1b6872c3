use Rattle.std.proofs.Common.{ap, ◌∙◌}
use Rattle.sl_ast.specs.Symbols.{find, keywords, keyword_of}
use Rattle.sl_parse_terminals.proofs.LengthLemmas.{found_by_length}
use Rattle.sl_parse_terminals.proofs.keyword.Goals as goal

pub returns : goal.returns
unfolding keyword_of
returns c = c.find_row.ensures ∙ ap (find c.args.text.now) c.keywords_of_length.ensures ∙ found_by_length c.args.text.now keywords
