use Rattle.std.proofs.Common.{◌≡◌, ap, sym, ◌∙◌, subst}
use Rattle.sl_ast.specs.Validity.{heaviest, deepest}
use Rattle.sl_parse_grammar.specs.Items.{is_there, item}
use Rattle.sl_parse_grammar.specs.Lists.{many}
use Rattle.sl_parse_grammar.specs.Reader.{Input, at, left}
use Rattle.sl_lex.specs.Views.{views}
use Rattle.sl_parse_phrases.specs.Reads.{Stops, syms_of}
use Rattle.sl_parse_terminals.specs.Symbols.{symbols_of}
use Rattle.sl_parse.specs.Parsing.{IsFaultOf, error_of}
use Rattle.sl_parse.specs.declared.parser.ParseError.{ParseError}
use Rattle.sl_parse.proofs.Answered.{fault_is, tree_is}
use Rattle.sl_parse.proofs.parser.parse.Goals as goal

pub returns-in-Ok-items-clause-tree : goal.returns-in-Ok-items-clause-tree
returns-in-Ok-items-clause-tree c =
    let symbols = symbols_of (views c.args.tokens.now) in
    let same : c.new-symbols.result ≡ at symbols 0 = c.new-symbols.ensures ∙ ap (λ xs. at (syms_of xs) 0) c.deref.ensures.value ∙ ap (λ xs. at xs 0) c.in-Ok.ensures.sees in
    tree_is symbols (record { items = c.in-Ok-items.items }) c.items.new.symbols (ap (λ i. many is_there (item heaviest deepest) i) (sym same) ∙ c.in-Ok-items.ensures.reads) c.in-Ok-items.ensures.places

pub returns-clause-fault : goal.returns-clause-fault
returns-clause-fault c =
    let symbols = symbols_of (views c.args.tokens.now) in
    let same : c.new-symbols.result ≡ at symbols 0 = c.new-symbols.ensures ∙ ap (λ xs. at (syms_of xs) 0) c.deref.ensures.value ∙ ap (λ xs. at xs 0) c.in-Ok.ensures.sees in
    let Stopped : Input → Type 0 = λ i. Stops (many is_there (item heaviest deepest) i) c.in-Err.stop in
    let HasIt : ParseError → Type 0 = λ e. IsFaultOf symbols e in
    subst HasIt (sym (c.error_of.ensures ∙ ap (λ n. error_of n c.in-Err.stop) (c.left-total.ensures ∙ ap (λ i. left i) same)))
    (fault_is symbols c.in-Err.stop (subst Stopped same c.in-Err.ensures.reads))
