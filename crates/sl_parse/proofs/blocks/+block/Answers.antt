use Rattle.std.proofs.Common.{◌≡◌, suc, ◌+◌, ◌-◌, true, false, length, map, ap, ◌∙◌, rules, arith}
use Rattle.std.proofs.lemmas.Grind.{common_steps}
use Rattle.sl_ast.specs.Validity.{heaviest}
use Rattle.sl_ast.specs.Views.{head_of}
use Rattle.sl_ast.specs.declared.symbols.Mark.TheVariants as m
use Rattle.sl_parse_grammar.specs.Items.{inside_from, constructor_here, block_at}
use Rattle.sl_parse_grammar.specs.Reader.{first, is_mark}
use Rattle.sl_parse_phrases.proofs.Rounds.{one_more, deeper}
use Rattle.sl_parse.specs.Blocks.{chain_of, inside_of_vec}
use Rattle.sl_parse.proofs.Chains.{before, before_none, before_more, before_pushed, before_stops, block_stops, finishes, goes_on, stops}
use Rattle.sl_parse.proofs.ListSteps.{refused_stops, stops_along}
use Rattle.sl_parse.proofs.Places.{block_keeps, inside_all, inside_more, inside_none, part_block, part_constructor}
use Rattle.sl_parse.proofs.blocks.+block.Goals as goal

pub block_at-returns-in_err-expect : goal.block_at-returns-in_err-expect
block_at-returns-in_err-expect t c =
    let same = deeper (λ n. block_at heaviest n c.args.symbols.now) c.args.depth (omega arith) in
    let stop = stops_along _ _ c.in_err-expect.field-0.0 same
    (block_stops heaviest (c.args.depth - 1) c.args.symbols.now (head_of c.in_ok-head.head) c.head.new.symbols (inside_of_vec c.in_ok-inside.inside) c.inside.new.symbols
    c.in_err-expect.field-0.0 c.in_ok-head.ensures c.in_ok-inside.ensures.reads (refused_stops _ c.in_err-expect.field-0.0 c.in_err-expect.ensures)) in
    first_of (search rules, grind (arith, common_steps))

pub inside-parts-init : goal.inside-parts-init
inside-parts-init t c =
    let more : suc (length c.args.symbols.now.rest) ≡ c.rounds-round-end.result - 0 = omega (arith, c.rounds-round-end.ensures) in
    let start = ap (λ n. inside_from (constructor_here heaviest) (block_at heaviest c.args.depth) n c.args.symbols.now) more in
    let none = before_none (inside_from (constructor_here heaviest) (block_at heaviest c.args.depth) (c.rounds-round-end.result - 0) c.args.symbols.now) in
    let places = inside_none c.args.total c.args.symbols.now in
    first_of (search rules, grind (arith, common_steps))

pub inside-returns-in_err-inner : goal.inside-returns-in_err-inner
inside-returns-in_err-inner t c =
    let off : is_mark m.CloseBrace (first c.parts.symbols.rest) ≡ false = first_of (cc, search rules, grind (arith, common_steps)) in
    let same = one_more (λ n. before (map chain_of c.parts.found.items) (inside_from (constructor_here heaviest) (block_at heaviest c.args.depth) n c.parts.symbols))
    c.rounds-round-end.result c.parts._round (omega arith) c.parts.invariant.reads in
    let stop = stops_along _ _ c.in_err-inner.field-0.0 same (before_stops (map chain_of c.parts.found.items) _ c.in_err-inner.field-0.0
    (stops (constructor_here heaviest) (block_at heaviest c.args.depth) (c.rounds-round-end.result - (c.parts._round + 1)) c.parts.symbols c.in_err-inner.field-0.0 off c.in_err-inner.ensures.reads)) in
    first_of (search rules, grind (arith, common_steps))

pub inside-parts-preserved : goal.inside-parts-preserved
inside-parts-preserved t c =
    let off : is_mark m.CloseBrace (first c.parts.symbols.rest) ≡ false = first_of (cc, search rules, grind (arith, common_steps)) in
    let n = c.rounds-round-end.result - (c.parts._round + 1) in
    let same = one_more (λ n. before (map chain_of c.parts.found.items) (inside_from (constructor_here heaviest) (block_at heaviest c.args.depth) n c.parts.symbols))
    c.rounds-round-end.result c.parts._round (omega arith) c.parts.invariant.reads in
    let next = goes_on (constructor_here heaviest) (block_at heaviest c.args.depth) n c.parts.symbols (chain_of c.in_ok-inner.field-0) c.inner.new.symbols off c.in_ok-inner.ensures.reads in
    let rest = inside_from (constructor_here heaviest) (block_at heaviest c.args.depth) n c.inner.new.symbols in
    record {
      reads = same ∙ ap (λ o. before (map chain_of c.parts.found.items) o) next ∙ before_more (map chain_of c.parts.found.items) (chain_of c.in_ok-inner.field-0) rest
          ∙ before_pushed c.parts.found.items c.push.new.self.items c.in_ok-inner.field-0 rest c.in_ok-push.ensures.items;
      places = inside_more c.args.total c.args.depth c.args.symbols.now c.parts.found.items c.push.new.self.items c.parts.symbols c.inner.new.symbols c.in_ok-inner.field-0
          c.parts.invariant.places c.in_ok-inner.ensures.places c.in_ok-inner.ensures.reads c.in_ok-push.ensures.items;
    }

pub inside-returns-then-is_mark : goal.inside-returns-then-is_mark
inside-returns-then-is_mark t c =
    let on : is_mark m.CloseBrace (first c.parts.symbols.rest) ≡ true = first_of (cc, search rules, grind (arith, common_steps)) in
    let same = one_more (λ n. before (map chain_of c.parts.found.items) (inside_from (constructor_here heaviest) (block_at heaviest c.args.depth) n c.parts.symbols))
    c.rounds-round-end.result c.parts._round (omega arith) c.parts.invariant.reads in
    record {
      reads = same ∙ ap (λ o. before (map chain_of c.parts.found.items) o) (finishes (constructor_here heaviest) (block_at heaviest c.args.depth) (c.rounds-round-end.result - (c.parts._round + 1)) c.parts.symbols on);
      places = inside_all c.args.total c.args.symbols.now c.parts.symbols c.parts.found.items c.parts.invariant.places;
    }

pub inside-returns : goal.inside-returns
unfolding inside_from
inside-returns t c =
    let end : c.rounds-round-end.result - c.parts._round ≡ 0 = omega arith in
    first_of (search rules, grind (arith, common_steps))

pub block_at-returns-clause-places : goal.block_at-returns-clause-places
block_at-returns-clause-places t c =
    block_keeps c.args.total c.args.symbols.now c.head.new.symbols (record { head = c.in_ok-head.head; inside = c.in_ok-inside.inside }) c.in_ok-head.ensures c.in_ok-inside.ensures.places

pub inner-returns-in_ok-block-clause-places : goal.inner-returns-in_ok-block-clause-places
inner-returns-in_ok-block-clause-places t c =
    let here : c.saturating_sub-place.result ≡ c.args.total - length c.args.symbols.now.rest = omega (arith, c.saturating_sub-place.ensures, c.left.ensures) in
    part_block c.args.total c.args.depth c.args.symbols.now c.block_at.new.symbols c.in_ok-block.block c.saturating_sub-place.result here c.in_ok-block.ensures.reads c.in_ok-block.ensures.places

pub inner-returns-in_ok-constructor-clause-places : goal.inner-returns-in_ok-constructor-clause-places
inner-returns-in_ok-constructor-clause-places t c =
    let here : c.saturating_sub-place.result ≡ c.args.total - length c.args.symbols.now.rest = omega (arith, c.saturating_sub-place.ensures, c.left.ensures) in
    part_constructor c.args.total c.args.symbols.now c.constructor_here.new.symbols c.in_ok-constructor.constructor c.saturating_sub-place.result here c.in_ok-constructor.ensures
