use Rattle.std.proofs.Common.{◌≡◌, suc, ◌+◌, ◌-◌, true, [], length, map, ap, sym, ◌∙◌, rules, arith}
use Rattle.std.proofs.lemmas.Grind.{common_steps}
use Rattle.sl_ast.specs.Validity.{heaviest, deepest}
use Rattle.sl_ast.specs.Views.{item_of, kind_of}
use Rattle.sl_ast.specs.declared.items.Item.{Item}
use Rattle.sl_parse_grammar.specs.Items.{is_there, item}
use Rattle.sl_parse_grammar.specs.Lists.{many_from}
use Rattle.sl_parse_grammar.specs.Reader.{first}
use Rattle.sl_parse_phrases.proofs.Rounds.{one_more}
use Rattle.sl_parse.specs.Parsing.{items_seen}
use Rattle.sl_parse.proofs.ListSteps.{fault_stops, many_goes, many_over, many_stops, stops_along}
use Rattle.sl_parse.proofs.Places.{items_more, items_none, map_item_more}
use Rattle.sl_parse.proofs.items.items.Goals as goal

pub parts-init : goal.parts-init
parts-init c =
    let more : suc (length c.args.symbols.now.rest) ≡ c.rounds-round-end.result - 0 = omega (arith, c.rounds-round-end.ensures) in
    let start = ap (λ n. many_from is_there (item heaviest deepest) n [] c.args.symbols.now) more in
    let places = items_none c.args.total c.args.symbols.now c.requires in
    first_of (search rules, grind (arith, common_steps))

pub returns-in_err-kind : goal.returns-in_err-kind
returns-in_err-kind c =
    let on : is_there (first c.parts.symbols.rest) ≡ true = first_of (cc, search rules, grind (arith, common_steps)) in
    let same = one_more (λ n. many_from is_there (item heaviest deepest) n (items_seen c.parts.found) c.parts.symbols) c.rounds-round-end.result c.parts._round (omega arith) c.parts.invariant.reads in
    let stop = stops_along _ _ c.in_err-kind.field-0.0 same
    (many_stops is_there (item heaviest deepest) (c.rounds-round-end.result - (c.parts._round + 1)) (items_seen c.parts.found) c.parts.symbols c.in_err-kind.field-0.0 on c.in_err-kind.ensures.reads) in
    first_of (search rules, grind (arith, common_steps))

pub parts-preserved : goal.parts-preserved
parts-preserved c =
    let on : is_there (first c.parts.symbols.rest) ≡ true = first_of (cc, search rules, grind (arith, common_steps)) in
    let n = c.rounds-round-end.result - (c.parts._round + 1) in
    let x : Item = record { first = c.saturating_sub-first.result; kind = c.in_ok-kind.kind } in
    let same = one_more (λ n. many_from is_there (item heaviest deepest) n (items_seen c.parts.found) c.parts.symbols) c.rounds-round-end.result c.parts._round (omega arith) c.parts.invariant.reads in
    let here : c.saturating_sub-first.result ≡ c.args.total - length c.parts.symbols.rest = omega (arith, c.saturating_sub-first.ensures, c.left.ensures) in
    record {
      reads = same ∙ many_goes is_there (item heaviest deepest) n (items_seen c.parts.found) c.parts.symbols (kind_of c.in_ok-kind.kind) c.item_kind.new.symbols on c.in_ok-kind.ensures.reads
          ∙ ap (λ xs. many_from is_there (item heaviest deepest) n xs c.item_kind.new.symbols) (sym (ap (λ xs. map item_of xs) c.in_ok-push.ensures.items ∙ map_item_more c.parts.found.items x));
      places = items_more c.args.total c.parts.found.items c.push.new.self.items c.parts.symbols c.item_kind.new.symbols x c.parts.invariant.places here c.in_ok-kind.ensures.places
          c.in_ok-kind.ensures.reads c.in_ok-push.ensures.items;
    }

pub returns : goal.returns
returns c =
    let end : c.rounds-round-end.result - c.parts._round ≡ 0 = omega arith in
    let stop = stops_along _ _ c.refuse.result (c.parts.invariant.reads ∙ ap (λ n. many_from is_there (item heaviest deepest) n (items_seen c.parts.found) c.parts.symbols) end
    ∙ many_over is_there (item heaviest deepest) (items_seen c.parts.found) c.parts.symbols) (fault_stops _ _ c.refuse.result c.refuse.ensures) in
    record { reads = stop; places = tt }
