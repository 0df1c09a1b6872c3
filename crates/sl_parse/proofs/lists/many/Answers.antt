use Rattle.std.proofs.Common.{◌≡◌, suc, ◌+◌, ◌-◌, true, [], length, ap, rules, arith}
use Rattle.std.proofs.lemmas.Grind.{common_steps}
use Rattle.sl_parse_grammar.specs.Lists.{many_from}
use Rattle.sl_parse_grammar.specs.Reader.{first}
use Rattle.sl_parse_phrases.specs.Reads.{seen_by}
use Rattle.sl_parse_phrases.proofs.Rounds.{one_more}
use Rattle.sl_parse.proofs.ListSteps.{many_goes, many_stops, stops_along}
use Rattle.sl_parse.proofs.lists.many.Goals as goal

pub rounds-init : goal.rounds-init
rounds-init g c =
    let more : suc (length c.args.symbols.now.rest) ≡ c.left-round-end.result + 1 - 0 = omega (arith, c.left-round-end.ensures) in
    let start = ap (λ n. many_from g.P.Repeated.goes g.P.Part.reader n [] c.args.symbols.now) more in
    first_of (search rules, grind (arith, common_steps))

pub returns-in_err-read : goal.returns-in_err-read
returns-in_err-read g c =
    let on : g.P.Repeated.goes (first c.rounds.symbols.rest) ≡ true = first_of (cc, search rules, grind (arith, common_steps)) in
    let same = one_more (λ n. many_from g.P.Repeated.goes g.P.Part.reader n (seen_by g.P.Part.view c.rounds.found) c.rounds.symbols)
    (c.left-round-end.result + 1) c.rounds._round (omega arith) c.rounds.invariant in
    let stop = stops_along _ _ c.in_err-read.field-0.0 same
    (many_stops g.P.Repeated.goes g.P.Part.reader (c.left-round-end.result + 1 - (c.rounds._round + 1)) (seen_by g.P.Part.view c.rounds.found) c.rounds.symbols c.in_err-read.field-0.0 on c.in_err-read.ensures) in
    first_of (search rules, grind (arith, common_steps))

pub rounds-preserved : goal.rounds-preserved
rounds-preserved g c =
    let on : g.P.Repeated.goes (first c.rounds.symbols.rest) ≡ true = first_of (cc, search rules, grind (arith, common_steps)) in
    let same = one_more (λ n. many_from g.P.Repeated.goes g.P.Part.reader n (seen_by g.P.Part.view c.rounds.found) c.rounds.symbols)
    (c.left-round-end.result + 1) c.rounds._round (omega arith) c.rounds.invariant in
    let next = many_goes g.P.Repeated.goes g.P.Part.reader (c.left-round-end.result + 1 - (c.rounds._round + 1)) (seen_by g.P.Part.view c.rounds.found) c.rounds.symbols
    (g.P.Part.view c.in_ok-read.field-0) c.read.new.symbols on c.in_ok-read.ensures in
    first_of (search rules, grind (arith, common_steps))
