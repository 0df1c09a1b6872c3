use Rattle.std.proofs.Common.{rules, ◌≡◌, length, ◌+◌, ◌-◌, true, false, take, drop, get_or, Ok, sym, ◌∙◌, ap, subst, arith}
use Rattle.sl_store_bytes.specs.Numbers as numbers
use Rattle.sl_store_bytes.specs.Reads.{now_of}
use Rattle.sl_store_bytes.proofs.Collected.{lexeme_is, loop_at, loop_on, loop_no, loop_end, loop_whole, loop_cut}
use Rattle.sl_store_bytes.proofs.lexemes.lexeme_here.Goals as goal

pub returns-then-at-count : goal.returns-then-at-count
returns-then-at-count g c =
    let read : numbers.number c.args.least c.args.most c.args.bytes.now ≡ Ok (c.in_ok-count.count, c.bytes.inside.left.now) = c.in_ok-count.ensures.reads ∙ ap (λ t. Ok (c.in_ok-count.count, t)) (cc) in
    lexeme_is g.L.Lexeme.follow c.args.least c.args.most c.args.bytes.now c.bytes.inside.left.now c.in_ok-count.count read
    ∙ c.letters.invariant.same
    ∙ ap (λ k. loop_at g.L.Lexeme.follow c.letters.at k c.bytes.inside.left.now) (omega arith)
    ∙ loop_end g.L.Lexeme.follow c.bytes.inside.left.now c.letters.at
    ∙ ap (λ t. Ok (t, drop c.letters.at c.bytes.inside.left.now)) (sym c.split_at.ensures.front)
    ∙ ap (λ t. Ok (now_of c.split_at.result.0, t)) (sym c.split_at.ensures.back)

pub returns-then-not-may_follow : goal.returns-then-not-may_follow
returns-then-not-may_follow g c =
    let read : numbers.number c.args.least c.args.most c.args.bytes.now ≡ Ok (c.in_ok-count.count, c.bytes.inside.left.now) = c.in_ok-count.ensures.reads ∙ ap (λ t. Ok (c.in_ok-count.count, t)) (cc) in
    let off : g.L.Lexeme.follow (c.in_ok-count.count - c.letters.at - 1) (take c.letters.at c.bytes.inside.left.now) (get_or c.bytes.inside.left.now c.letters.at 0) ≡ false = search rules in
    lexeme_is g.L.Lexeme.follow c.args.least c.args.most c.args.bytes.now c.bytes.inside.left.now c.in_ok-count.count read
    ∙ c.letters.invariant.same
    ∙ loop_no g.L.Lexeme.follow c.bytes.inside.left.now c.letters.at (c.in_ok-count.count - c.letters.at - 1) (c.in_ok-count.count - c.letters.at) (omega arith) (omega arith) off

pub letters-preserved : goal.letters-preserved
letters-preserved g c =
    let on : g.L.Lexeme.follow (c.in_ok-count.count - c.letters.at - 1) (take c.letters.at c.bytes.inside.left.now) (get_or c.bytes.inside.left.now c.letters.at 0) ≡ true = search rules in
    record {
      within = omega arith;
      same = c.letters.invariant.same ∙ loop_on g.L.Lexeme.follow c.bytes.inside.left.now c.letters.at (c.letters.at + 1) (c.in_ok-count.count - (c.letters.at + 1)) (c.in_ok-count.count - c.letters.at) (omega arith) (omega arith) (omega arith)
          (subst (λ k. g.L.Lexeme.follow k (take c.letters.at c.bytes.inside.left.now) (get_or c.bytes.inside.left.now c.letters.at 0) ≡ true) (omega arith) on);
    }

pub returns-then-text-count : goal.returns-then-text-count
returns-then-text-count g c =
    let read : numbers.number c.args.least c.args.most c.args.bytes.now ≡ Ok (c.in_ok-count.count, c.bytes.inside.left.now) = c.in_ok-count.ensures.reads ∙ ap (λ t. Ok (c.in_ok-count.count, t)) (cc) in
    let at : c.letters.at ≡ length c.bytes.inside.left.now = omega arith in
    lexeme_is g.L.Lexeme.follow c.args.least c.args.most c.args.bytes.now c.bytes.inside.left.now c.in_ok-count.count read
    ∙ c.letters.invariant.same
    ∙ ap (λ k. loop_at g.L.Lexeme.follow c.letters.at k c.bytes.inside.left.now) (omega arith)
    ∙ loop_whole g.L.Lexeme.follow c.bytes.inside.left.now c.letters.at at

pub returns-else-text-count : goal.returns-else-text-count
returns-else-text-count g c =
    let read : numbers.number c.args.least c.args.most c.args.bytes.now ≡ Ok (c.in_ok-count.count, c.bytes.inside.left.now) = c.in_ok-count.ensures.reads ∙ ap (λ t. Ok (c.in_ok-count.count, t)) (cc) in
    let at : c.letters.at ≡ length c.bytes.inside.left.now = omega arith in
    lexeme_is g.L.Lexeme.follow c.args.least c.args.most c.args.bytes.now c.bytes.inside.left.now c.in_ok-count.count read
    ∙ c.letters.invariant.same
    ∙ loop_cut g.L.Lexeme.follow c.bytes.inside.left.now c.letters.at (c.in_ok-count.count - c.letters.at - 1) (c.in_ok-count.count - c.letters.at) at (omega arith)
