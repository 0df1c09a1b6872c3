use Rattle.std.proofs.Common.{◌≡◌, List, subst}
use Rattle.sl_ast.specs.Spelling.{spell}
use Rattle.sl_ast.specs.Views.{items_of}
use Rattle.sl_lex.specs.Views.{views}
use Rattle.sl_lex.specs.declared.Tok.{Tok}
use Rattle.sl_preproc.specs.Expanded.{seen}
use Rattle.sl_parse_terminals.specs.Symbols.{symbols_of}
use Rattle.sl_tool_stages.proofs.TokenLemmas.{text_is_short}
use Rattle.sl_tool_stages.proofs.tree.Tree.of.Goals as goal

pub invariant_of-result-clause-short : goal.invariant_of-result-clause-short
invariant_of-result-clause-short c =
    let t = c.args.tokens in
    let items = items_of c.in-Ok.spec in
    let spelled = subst (λ (tokens : List Tok). symbols_of (views tokens) ≡ spell items) c.as_slice.ensures.value c.in-Ok.ensures.tree.spells in
    text_is_short (seen t.source.now.expanded) (views t.tokens.items) items spelled t.source.now.sound t.reads
