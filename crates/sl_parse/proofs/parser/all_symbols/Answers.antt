use Rattle.std.proofs.Common.{List, sym, subst, rules, arith}
use Rattle.std.proofs.lemmas.Grind.{common_steps}
use Rattle.std.proofs.lemmas.List.Elements.{All-push}
use Rattle.sl_parse_phrases.specs.Reads.{AllHaveTheirWords}
use Rattle.sl_parse_terminals.specs.Views.{HasItsWord}
use Rattle.sl_parse_terminals.specs.declared.Symbol.{Symbol}
use Rattle.sl_parse.proofs.parser.all_symbols.Goals as goal

pub tokens-preserved : goal.tokens-preserved
tokens-preserved c =
    let AllTied : List Symbol → Type 0 = λ xs. AllHaveTheirWords xs in
    record {
      sees = first_of (search rules, grind (arith, common_steps));
      tied = subst AllTied (sym c.in_ok-push.ensures.items) (All-push HasItsWord c.tokens.found.items c.seen.result c.tokens.invariant.tied c.seen.ensures.tied);
    }
