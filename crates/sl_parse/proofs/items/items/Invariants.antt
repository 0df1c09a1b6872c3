use Rattle.std.proofs.Common.{◌≡◌, ◌-◌}
use Rattle.sl_ast.specs.Validity.{heaviest, deepest}
use Rattle.sl_parse_grammar.specs.Items.{is_there, item}
use Rattle.sl_parse_grammar.specs.Lists.{many, many_from}
use Rattle.sl_parse.specs.Parsing.{items_seen}
use Rattle.sl_parse.proofs.Places.{ItemsSoFar}
use Rattle.sl_parse.proofs.items.items.Given as goal

abbrev pub invariant-parts : goal.invariant-parts
invariant-parts l = record {
  reads :
      many is_there (item heaviest deepest) l.fn.symbols
      ≡ many_from is_there (item heaviest deepest) (l._round-end - l._round) (items_seen l.found) l.symbols;
  places : ItemsSoFar l.total l.found.items l.symbols;
}
