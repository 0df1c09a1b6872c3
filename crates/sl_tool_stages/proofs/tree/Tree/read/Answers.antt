use Rattle.std.proofs.lemmas.Result.{err_from_is_err_and}
use Rattle.sl_tool_stages.specs.SourceView.{source_view}
use Rattle.sl_tool_stages.specs.Stage.Then.{goes}
use Rattle.sl_tool_stages.specs.Stages.{Parses, Tokenizes}
use Rattle.sl_tool_stages.specs.StageViews.{tree_view}
use Rattle.sl_tool_stages.specs.TokensView.{tokens_view}
use Rattle.sl_tool_stages.proofs.HaltLemmas.{gives_goes, gives_stops}
use Rattle.sl_tool_stages.proofs.tree.Tree.read.Goals as goal

pub returns-in_err-tokens : goal.returns-in_err-tokens
returns-in_err-tokens c =
    let p = err_from_is_err_and c.from_residual.result c.from_residual.ensures.1 in
    rw (p.1, p.2) (gives_stops Tokenizes Parses (source_view c.args.source.now) tokens_view tree_view c.in_err-tokens.field-0.0 c.in_err-tokens.ensures)

pub returns-in_err-tree : goal.returns-in_err-tree
returns-in_err-tree c =
    let p = err_from_is_err_and c.from_residual-in_err-tree.result c.from_residual-in_err-tree.ensures.1 in
    rw (p.1, p.2) (gives_goes Tokenizes Parses (source_view c.args.source.now) (tokens_view c.in_ok-tokens.tokens) tree_view c.in_err-tree.field-0.0
    c.in_ok-tokens.ensures c.in_err-tree.ensures)

pub returns : goal.returns
returns c = goes c.in_ok-tokens.ensures c.in_ok-tree.ensures
