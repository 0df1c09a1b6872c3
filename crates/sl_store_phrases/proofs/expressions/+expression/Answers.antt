use Rattle.std.proofs.Common.{rules, ◌≡◌, ℕ, suc, ◌+◌, ◌-◌, ◌++◌, ◌∷◌, [], map, option_map, refl, sym, ap, ◌∙◌, arith}
use Rattle.std.proofs.lemmas.Grind.{common_steps}
use Rattle.std.proofs.lemmas.List.{map_push}
use Rattle.sl_ast.specs.Operators.{loosest}
use Rattle.sl_ast.specs.Trees.{paren, prefix, star}
use Rattle.sl_ast.specs.Validity.{space_weight, weight}
use Rattle.sl_ast.specs.Views.{expression_of}
use Rattle.sl_store_format.specs.Expressions.{expression, bracketed, prefixed, starred, space_here, given, room_after}
use Rattle.sl_store_bytes.specs.Lists.{collected, some_more}
use Rattle.sl_store_bytes.specs.Numbers.{greatest}
use Rattle.sl_store_bytes.specs.Reader.{and_then, pure}
use Rattle.sl_store_bytes.specs.Reads.{now_of, seen_by}
use Rattle.sl_parse_phrases.specs.Kinds.{kind_of}
use Rattle.sl_store_phrases.proofs.Forms.{no_depth, deeper}
use Rattle.sl_store_phrases.proofs.Making.{made_reads, made_spends, light_spends, operand_spends}
use Rattle.sl_store_phrases.proofs.Rounds.{rounds_begin, round_goes, round_stops, rounds_end, stops_along}
use Rattle.sl_store_phrases.proofs.Weights.{room_left}
use Rattle.sl_store_phrases.proofs.expressions.+expression.Goals as goal

-- ---- depth

pub expression-returns-then-depth-eq0-clause-reads : goal.expression-returns-then-depth-eq0-clause-reads
expression-returns-then-depth-eq0-clause-reads t c =
    no_depth (kind_of c.args.kind) c.args.depth c.args.room.now c.args.rank c.args.bytes.now c.refuse.result (omega arith) c.refuse.ensures

pub expression-returns-clause-reads : goal.expression-returns-clause-reads
expression-returns-clause-reads t c =
    rw (deeper (kind_of c.args.kind) c.args.depth c.args.room.now c.args.rank c.args.bytes.now (omega arith)) c.formed.ensures.reads

-- ---- simple forms

pub simple-returns-in-Integer-clause-spent : goal.simple-returns-in-Integer-clause-spent
simple-returns-in-Integer-clause-spent t c = light_spends c.args.room.now c.integer_here.result c.integer_here.ensures.light

pub simple-returns-in-Name-clause-spent : goal.simple-returns-in-Name-clause-spent
simple-returns-in-Name-clause-spent t c = light_spends c.args.room.now c.name_here.result c.name_here.ensures.light

-- ---- what is made of what was read

pub bracketed-returns-clause-reads : goal.bracketed-returns-clause-reads
unfolding bracketed
bracketed-returns-clause-reads t c =
    let read = ap (λ r. expression (kind_of c.args.kind) c.args.depth r loosest c.args.bytes.now) (sym c.saturating_sub.ensures) ∙ c.in_ok-inner.ensures.reads in
    made_reads _ (paren (expression_of c.in_ok-inner.inner)) c.expression.new.bytes _ c.paren_of.ensures (ap (λ o. and_then o (λ e. pure (paren e))) read)

pub bracketed-returns-clause-spent : goal.bracketed-returns-clause-spent
bracketed-returns-clause-spent t c =
    let inside = c.in_ok-inner.ensures.spent in
    made_spends c.args.room.now c.expression.new.room (paren (expression_of c.in_ok-inner.inner)) _ c.paren_of.ensures (omega (arith, c.saturating_sub.ensures))

pub followed-returns-clause-spent : goal.followed-returns-clause-spent
followed-returns-clause-spent t c =
    let inside = c.in_ok-inner.ensures.spent ∙ ap (λ r. r - weight (expression_of c.in_ok-inner.inner)) c.operand_room.ensures in
    operand_spends c.args.form c.args.room.now c.simple.new.room (weight (expression_of c.in_ok-inner.inner)) _ c.operand_end.ensures.light inside

pub prefixed-returns-clause-reads : goal.prefixed-returns-clause-reads
unfolding prefixed
prefixed-returns-clause-reads t c =
    let read = ap (λ r. expression (kind_of c.args.kind) c.args.depth r 0 c.prefix_here.new.bytes) (sym c.saturating_sub.ensures) ∙ c.in_ok-inner.ensures.reads in
    made_reads _ (prefix c.in_ok-op.op (expression_of c.in_ok-inner.inner)) c.expression.new.bytes _ c.prefix_of.ensures (rw (c.in_ok-op.ensures, read) refl)

pub prefixed-returns-clause-spent : goal.prefixed-returns-clause-spent
prefixed-returns-clause-spent t c =
    let inside = c.in_ok-inner.ensures.spent in
    made_spends c.args.room.now c.expression.new.room (prefix c.in_ok-op.op (expression_of c.in_ok-inner.inner)) _ c.prefix_of.ensures (omega (arith, c.saturating_sub.ensures))

pub starred-returns-clause-reads : goal.starred-returns-clause-reads
unfolding starred
starred-returns-clause-reads t c =
    let room = ap (λ r. r - space_weight (option_map now_of c.in_ok-space.space)) c.saturating_sub.ensures in
    let named = ap (λ r. space_here r c.args.bytes.now) (sym c.saturating_sub.ensures) ∙ c.in_ok-space.ensures.reads in
    let read =
    ap (λ r. expression (kind_of c.args.kind) c.args.depth r 0 c.width_option.new.bytes) (sym (c.in_ok-space.ensures.spent ∙ room)) ∙ c.in_ok-pointer.ensures.reads in
    made_reads _ (star (option_map now_of c.in_ok-space.space) c.in_ok-size.size (expression_of c.in_ok-pointer.pointer)) c.expression.new.bytes _ c.star_of.ensures
    (rw (named, c.in_ok-size.ensures, read) refl)

pub starred-returns-clause-spent : goal.starred-returns-clause-spent
starred-returns-clause-spent t c =
    let before = c.in_ok-space.ensures.spent in
    let inside = c.in_ok-pointer.ensures.spent in
    made_spends c.args.room.now c.expression.new.room (star (option_map now_of c.in_ok-space.space) c.in_ok-size.size (expression_of c.in_ok-pointer.pointer)) _ c.star_of.ensures
    (omega (arith, c.saturating_sub.ensures))

-- ---- the arguments of a call

pub given-rounds-init : goal.given-rounds-init
unfolding given
given-rounds-init t c =
    let begun = rounds_begin (λ left (r : ℕ). expression (kind_of c.args.kind) c.args.depth r loosest) room_after 1 greatest c.args.bytes.now c.number.new.self c.in_ok-count.count c.args.room.now
    c.in_ok-count.ensures.reads in
    first_of (search rules, grind (arith, common_steps))

pub given-returns-in_err-expression-clause-reads : goal.given-returns-in_err-expression-clause-reads
given-returns-in_err-expression-clause-reads t c =
    let same : c.in_ok-count.count - c.rounds._round ≡ suc (c.in_ok-count.count - (c.rounds._round + 1)) = omega arith in
    let stop = stops_along _ _ c.in_err-expression.field-0.0 c.rounds.invariant.reads
    (round_stops (λ left (r : ℕ). expression (kind_of c.args.kind) c.args.depth r loosest) room_after (seen_by expression_of c.rounds.found) (c.in_ok-count.count - c.rounds._round)
    (c.in_ok-count.count - (c.rounds._round + 1)) c.rounds.room c.rounds.bytes c.in_err-expression.field-0.0 same c.in_err-expression.ensures.reads) in
    first_of (search rules, grind (arith, common_steps))

pub given-rounds-preserved : goal.given-rounds-preserved
given-rounds-preserved t c =
    let same : c.in_ok-count.count - c.rounds._round ≡ suc (c.in_ok-count.count - (c.rounds._round + 1)) = omega arith in
    let views : seen_by expression_of c.push.new.self ≡ seen_by expression_of c.rounds.found ++ expression_of c.in_ok-expression.field-0 ∷ [] =
    ap (map expression_of) c.in_ok-push.ensures.items ∙ map_push expression_of c.rounds.found.items c.in_ok-expression.field-0 in
    let views' = sym views in
    let room = sym c.in_ok-expression.ensures.spent in
    record {
      reads =
          c.rounds.invariant.reads
          ∙ round_goes (λ left (r : ℕ). expression (kind_of c.args.kind) c.args.depth r loosest) room_after (seen_by expression_of c.rounds.found) (c.in_ok-count.count - c.rounds._round)
          (c.in_ok-count.count - (c.rounds._round + 1)) c.rounds.room c.rounds.bytes c.expression.new.bytes (expression_of c.in_ok-expression.field-0) same c.in_ok-expression.ensures.reads
          ∙ (λ i. collected (views' i) (some_more (λ left (r : ℕ). expression (kind_of c.args.kind) c.args.depth r loosest) room_after (c.in_ok-count.count - (c.rounds._round + 1)) (room i) c.expression.new.bytes));
      spent =
          room_left c.args.room.now c.rounds.room c.expression.new.room c.rounds.found.items c.push.new.self.items c.in_ok-expression.field-0 c.in_ok-push.ensures.items c.rounds.invariant.spent
          c.in_ok-expression.ensures.spent;
    }

pub given-returns-clause-reads : goal.given-returns-clause-reads
given-returns-clause-reads t c =
    c.rounds.invariant.reads
    ∙ rounds_end (λ left (r : ℕ). expression (kind_of c.args.kind) c.args.depth r loosest) room_after (seen_by expression_of c.rounds.found) (c.in_ok-count.count - c.rounds._round)
    c.rounds.room c.rounds.bytes (omega arith)
