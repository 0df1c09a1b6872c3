use Rattle.std.proofs.Common.{rules, Ok, ap, sym, ◌∙◌, arith}
use Rattle.std.proofs.lemmas.Grind.{common_steps}
use Rattle.sl_ast.specs.Views.{pattern_of}
use Rattle.sl_store_phrases.proofs.Dots.{ellipsis_stops, ellipsis_reads}
use Rattle.sl_store_phrases.proofs.Forms.{no_pattern_depth, pattern_deeper}
use Rattle.sl_store_phrases.proofs.patterns.+pattern.Goals as goal

pub pattern-returns-then-depth-eq0-clause-reads : goal.pattern-returns-then-depth-eq0-clause-reads
pattern-returns-then-depth-eq0-clause-reads t c =
    no_pattern_depth c.args.depth c.args.room.now c.args.rank c.args.bytes.now c.refuse.result (omega arith) c.refuse.ensures

pub pattern-returns-clause-reads : goal.pattern-returns-clause-reads
pattern-returns-clause-reads t c =
    rw (pattern_deeper c.args.depth c.args.room.now c.args.rank c.args.bytes.now (omega arith)) c.formed.ensures.reads

pub with_ellipsis-returns-in_err-inner-clause-reads : goal.with_ellipsis-returns-in_err-inner-clause-reads
with_ellipsis-returns-in_err-inner-clause-reads t c =
    let stop = ellipsis_stops c.args.depth c.args.room.now c.saturating_sub.result c.args.bytes.now c.form_before_ellipsis.new.bytes c.in_ok-form.form c.saturating_sub.ensures
    c.in_ok-form.ensures c.in_err-inner.field-0.0 c.in_err-inner.ensures.reads in
    first_of (search rules, grind (arith, common_steps))

pub with_ellipsis-returns-clause-reads : goal.with_ellipsis-returns-clause-reads
with_ellipsis-returns-clause-reads t c =
    ellipsis_reads c.args.depth c.args.room.now c.saturating_sub.result c.args.bytes.now c.form_before_ellipsis.new.bytes c.in_ok-form.form c.saturating_sub.ensures
    c.in_ok-form.ensures (pattern_of c.in_ok-inner.inner) c.simple.new.bytes c.in_ok-inner.ensures.reads
    ∙ ap (λ p. Ok (p, c.simple.new.bytes)) (sym c.in_ok-whole.ensures)
