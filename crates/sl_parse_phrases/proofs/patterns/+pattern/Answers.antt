use Rattle.std.proofs.Common.{◌+◌, rules, arith}
use Rattle.std.proofs.lemmas.Grind.{common_steps}
use Rattle.sl_ast.specs.Operators.{pattern_right_rank}
use Rattle.sl_ast.specs.Trees.{joined}
use Rattle.sl_ast.specs.Validity.{heaviest}
use Rattle.sl_ast.specs.Views.{pattern_of}
use Rattle.sl_parse_grammar.specs.Climb.{climb}
use Rattle.sl_parse_grammar.specs.Patterns.{pattern, pattern_turn}
use Rattle.sl_parse_phrases.proofs.Rounds.{one_more, deeper}
use Rattle.sl_parse_phrases.proofs.patterns.+pattern.Goals as goal

pub pattern-returns : goal.pattern-returns
unfolding pattern
pattern-returns t c =
    rw (deeper (λ n. pattern heaviest n c.args.most c.args.symbols.now) c.args.depth (omega arith), c.in_ok-left.ensures) c.grown.ensures

pub grown-rounds-preserved : goal.grown-rounds-preserved
unfolding climb
grown-rounds-preserved t c =
    let e = one_more (λ n. climb (pattern_turn c.args.most) pattern_right_rank joined (pattern heaviest c.args.depth) n (pattern_of c.rounds.left) c.rounds.symbols)
    (c.room-round-end.result + 1) c.rounds._round (omega arith) c.rounds.invariant in
    first_of (search rules, grind (arith, common_steps))
