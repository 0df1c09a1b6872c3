use Rattle.std.proofs.Common.{◌≡◌, suc, ◌+◌, ◌-◌, length, rules, arith}
use Rattle.std.proofs.lemmas.Grind.{common_steps}
use Rattle.sl_ast.specs.Operators.{loosest, right_rank}
use Rattle.sl_ast.specs.Trees.{binary}
use Rattle.sl_ast.specs.Views.{expression_of}
use Rattle.sl_parse_grammar.specs.Climb.{climb}
use Rattle.sl_parse_grammar.specs.Expressions.{expression, turn}
use Rattle.sl_parse_grammar.specs.Lists.{separated_from}
use Rattle.sl_parse_phrases.specs.Kinds.{kind_of}
use Rattle.sl_parse_phrases.specs.Reads.{vec_expressions}
use Rattle.sl_parse_phrases.proofs.Rounds.{one_more, deeper}
use Rattle.sl_parse_phrases.proofs.expressions.+expression.Goals as goal

pub expression-returns : goal.expression-returns
unfolding expression
expression-returns t c =
    rw (deeper (λ n. expression (kind_of c.args.kind) n c.args.most c.args.symbols.now) c.args.depth (omega arith), c.in_ok-left.ensures) c.grown.ensures

pub grown-rounds-preserved : goal.grown-rounds-preserved
unfolding climb
grown-rounds-preserved t c =
    let e = one_more (λ n. climb (turn (kind_of c.args.kind) c.args.most) right_rank binary (expression (kind_of c.args.kind) c.args.depth) n (expression_of c.rounds.left) c.rounds.symbols)
    (c.room-round-end.result + 1) c.rounds._round (omega arith) c.rounds.invariant in
    first_of (search rules, grind (arith, common_steps))

pub arguments-rounds-init : goal.arguments-rounds-init
arguments-rounds-init t c =
    let more : suc (length c.args.symbols.now.rest) ≡ c.left-round-end.result + 1 - 0 = omega (arith, c.left-round-end.ensures) in
    first_of (search rules, grind (arith, common_steps))

pub arguments-rounds-preserved : goal.arguments-rounds-preserved
unfolding separated_from
arguments-rounds-preserved t c =
    let e = one_more (λ n. separated_from (expression (kind_of c.args.kind) c.args.depth loosest) n (vec_expressions c.rounds.found) c.rounds.symbols)
    (c.left-round-end.result + 1) c.rounds._round (omega arith) c.rounds.invariant in
    first_of (search rules, grind (arith, common_steps))

pub arguments-returns-then-not-is_mark : goal.arguments-returns-then-not-is_mark
unfolding separated_from
arguments-returns-then-not-is_mark t c =
    let e = one_more (λ n. separated_from (expression (kind_of c.args.kind) c.args.depth loosest) n (vec_expressions c.rounds.found) c.rounds.symbols)
    (c.left-round-end.result + 1) c.rounds._round (omega arith) c.rounds.invariant in
    first_of (search rules, grind (arith, common_steps))
