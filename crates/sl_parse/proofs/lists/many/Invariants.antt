use Rattle.std.proofs.Common.{◌≡◌, ◌+◌, ◌-◌}
use Rattle.sl_parse_grammar.specs.Lists.{many, many_from}
use Rattle.sl_parse_phrases.specs.Reads.{seen_by}
use Rattle.sl_parse.proofs.lists.many.Given as goal

abbrev pub invariant-rounds : goal.invariant-rounds
invariant-rounds g l =
    many g.P.Repeated.goes g.P.Part.reader l.fn.symbols
    ≡ many_from g.P.Repeated.goes g.P.Part.reader (l._round-end + 1 - l._round) (seen_by g.P.Part.view l.found) l.symbols
