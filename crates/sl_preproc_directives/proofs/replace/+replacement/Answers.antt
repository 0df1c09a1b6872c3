use Rattle.std.proofs.Common.{◌+◌, ◌-◌, length, IfSome, arith, inl, inr, drop, ap, sym, subst, ap₂, ◌∙◌}
use Rattle.std.proofs.lemmas.Result.{err_from_is_err_and}
use Rattle.sl_preproc_directives.specs.Held.{values_of}
use Rattle.sl_preproc_directives.specs.HeldWholes.{whole_of, wholes_of}
use Rattle.sl_preproc_directives.specs.Pages.{page_of}
use Rattle.sl_preproc_directives.specs.Replacement.{write_name, write_text}
use Rattle.sl_preproc_directives.proofs.PieceLemmas.{name_out, name_value, name_stays, is_written, is_out, name_fails, name_goes, byte_fails, byte_goes}
use Rattle.sl_preproc_directives.proofs.WholeLemmas.{writes_known, known_whole, known_after, along_name, along_byte, along_out, after_put, named_whole}
use Rattle.sl_preproc_directives.specs.Wholes.{AreWholes, IsWholeValue}
use Rattle.sl_preproc_directives.proofs.replace.+replacement.Goals as goal
use Rattle.sl_preproc_directives.proofs.replace.+replacement.Goals.{write_pieces-in-Some+in_ok-more-in-Some, write_pieces-in-None+in_ok-put-in-None}

pub write_name-returns-then-left-eq0-clause-written : goal.write_name-returns-then-left-eq0-clause-written
write_name-returns-then-left-eq0-clause-written t c = name_out c.args.left (values_of c.args.defs.now) c.args.name.now (page_of c.args.page.now) c.if-left-eq0.true

pub write_name-returns-in_err-put_all-clause-written : goal.write_name-returns-in_err-put_all-clause-written
write_name-returns-in_err-put_all-clause-written t c =
    let p = err_from_is_err_and c.from_residual.result c.from_residual.ensures.1 in
    let same = writes_known c.args.left (values_of c.args.defs.now) (wholes_of c.args.known.now) c.args.name.now (whole_of c.in-Some.whole.now) (page_of c.args.page.now) c.requires c.in-Some.ensures c.if-whole-left.true in
    rw (p.1, p.2, same) (rw c.deref.ensures.value at c.in_err-put_all.ensures)

pub write_name-returns-clause-written : goal.write_name-returns-clause-written
write_name-returns-clause-written t c =
    let same = writes_known c.args.left (values_of c.args.defs.now) (wholes_of c.args.known.now) c.args.name.now (whole_of c.in-Some.whole.now) (page_of c.args.page.now) c.requires c.in-Some.ensures c.if-whole-left.true in
    rw same (rw c.deref.ensures.value at c.in_ok-put_all.ensures)

pub write_name-returns-clause-whole : goal.write_name-returns-clause-whole
write_name-returns-clause-whole t c =
    known_whole (values_of c.args.defs.now) c.args.left (wholes_of c.args.known.now) c.args.name.now (whole_of c.in-Some.whole.now) (page_of c.args.page.now) (page_of c.put_all.new.page)
    c.requires c.in-Some.ensures c.if-whole-left.true (rw c.deref.ensures.value at c.in_ok-put_all.ensures)

pub write_name-returns-in_err-stays-in-None-clause-written : goal.write_name-returns-in_err-stays-in-None-clause-written
write_name-returns-in_err-stays-in-None-clause-written t c =
    let p = err_from_is_err_and c.from_residual-in_err-stays-in-None.result c.from_residual-in_err-stays-in-None.ensures.1 in
    rw (p.1, p.2, name_stays c.args.left (values_of c.args.defs.now) c.args.name.now (page_of c.args.page.now) c.if-left-eq0.false c.in-None.ensures) c.in_err-stays-in-None.ensures

pub write_name-returns-in-Some-value-clause-written : goal.write_name-returns-in-Some-value-clause-written
write_name-returns-in-Some-value-clause-written t c =
    rw (name_value c.args.left (values_of c.args.defs.now) c.args.name.now c.in-Some-value.value.now (page_of c.args.page.now) c.if-left-eq0.false c.in-Some-value.ensures) c.write_value.ensures.written

pub write_name-returns-in_ok-stays-in-None-clause-written : goal.write_name-returns-in_ok-stays-in-None-clause-written
write_name-returns-in_ok-stays-in-None-clause-written t c =
    rw (name_stays c.args.left (values_of c.args.defs.now) c.args.name.now (page_of c.args.page.now) c.if-left-eq0.false c.in-None.ensures) c.in_ok-stays-in-None.ensures

pub write_pieces-returns-in_default-clause-written : goal.write_pieces-returns-in_default-clause-written
write_pieces-returns-in_default-clause-written t c =
    is_written (write_name c.args.left (values_of c.args.defs.now)) (length c.args.text.now - c.pieces.counter) c.pieces.rest.now (page_of c.pieces.page)
    (write_text c.args.left (values_of c.args.defs.now) c.args.text.now (page_of c.args.page.now)) c.in_default.len_below c.pieces.invariant.0

pub write_pieces-returns-in_default-clause-whole : goal.write_pieces-returns-in_default-clause-whole
write_pieces-returns-in_default-clause-whole t c =
    along_out (values_of c.args.defs.now) c.args.left c.args.text.now (length c.args.text.now - c.pieces.counter) c.pieces.rest.now c.args.page.now.text.items c.pieces.page.text.items c.pieces.levels
    (inl c.in_default.len_below) c.pieces.invariant.2

pub write_pieces-returns-in_err-more-in-Some-clause-written : goal.write_pieces-returns-in_err-more-in-Some-clause-written
write_pieces-returns-in_err-more-in-Some-clause-written t c =
    let p = err_from_is_err_and c.from_residual.result c.from_residual.ensures.1 in
    rw (p.1, p.2) (name_fails (write_name c.args.left (values_of c.args.defs.now)) (length c.args.text.now) c.pieces.counter c.pieces.rest.now (page_of c.pieces.page)
    (write_text c.args.left (values_of c.args.defs.now) c.args.text.now (page_of c.args.page.now)) c.pieces-test.true c.in-len1-up.len_at_least c.pieces.invariant.0 c.in-Some.name.now c.in-Some.behind.now c.in_err-more-in-Some.field-0.0 c.in-Some.ensures c.in_err-more-in-Some.ensures.written)

pub write_pieces-returns-in_err-put-in-None-clause-written : goal.write_pieces-returns-in_err-put-in-None-clause-written
write_pieces-returns-in_err-put-in-None-clause-written t c =
    let p = err_from_is_err_and c.from_residual-in_err-put-in-None.result c.from_residual-in_err-put-in-None.ensures.1 in
    rw (p.1, p.2) (byte_fails (write_name c.args.left (values_of c.args.defs.now)) (length c.args.text.now) c.pieces.counter c.pieces.rest.now (page_of c.pieces.page)
    (write_text c.args.left (values_of c.args.defs.now) c.args.text.now (page_of c.args.page.now)) c.pieces-test.true c.in-len1-up.len_at_least c.pieces.invariant.0 0 c.in_err-put-in-None.field-0.0 c.in-None.ensures c.in_err-put-in-None.ensures)

pub write_pieces-pieces-preserved : goal.write_pieces-pieces-preserved
write_pieces-pieces-preserved t c =
    elim c.match-reference_at.branch [
      | write_pieces-in-Some+in_ok-more-in-Some w ↦ rw (w.page-is, w.rest-is, w.known-is, w.levels-is, w.joined-levels.ensures) (
        name_goes (write_name c.args.left (values_of c.args.defs.now)) (length c.args.text.now) c.pieces.counter c.pieces.rest.now (page_of c.pieces.page)
            (write_text c.args.left (values_of c.args.defs.now) c.args.text.now (page_of c.args.page.now)) c.pieces-test.true c.in-len1-up.len_at_least c.pieces.invariant.0 w.in-Some.name.now w.in-Some.behind.now (page_of w.write_name.new.page) w.in-Some.ensures w.in_ok-more-in-Some.ensures.written,
        w.in_ok-more-in-Some.ensures.known,
        along_name (values_of c.args.defs.now) c.args.left c.args.text.now (length c.args.text.now) c.pieces.counter c.pieces.rest.now w.in-Some.name.now w.in-Some.behind.now c.args.page.now.text.items c.pieces.page.text.items
            w.write_name.new.page.text.items c.pieces.levels _ c.pieces-test.true c.in-len1-up.len_at_least w.in-Some.ensures c.pieces.invariant.2 w.in_ok-more-in-Some.ensures.whole,
      )
      | write_pieces-in-None+in_ok-put-in-None w ↦ rw (w.page-is, w.rest-is, w.known-is, w.levels-is) (
        byte_goes (write_name c.args.left (values_of c.args.defs.now)) (length c.args.text.now) c.pieces.counter c.pieces.rest.now (page_of c.pieces.page)
            (write_text c.args.left (values_of c.args.defs.now) c.args.text.now (page_of c.args.page.now)) c.pieces-test.true c.in-len1-up.len_at_least c.pieces.invariant.0 0 (page_of w.put.new.page) w.in-None.ensures w.in_ok-put-in-None.ensures,
        c.pieces.invariant.1,
        along_byte (values_of c.args.defs.now) c.args.left c.args.text.now (length c.args.text.now) c.pieces.counter c.pieces.rest.now c.args.page.now.text.items c.pieces.page.text.items w.put.new.page.text.items 0
            c.pieces.levels c.pieces-test.true c.in-len1-up.len_at_least w.in-None.ensures c.pieces.invariant.2 (after_put _ (page_of c.pieces.page) (page_of w.put.new.page) w.in_ok-put-in-None.ensures),
      )
    ]

pub write_pieces-returns-clause-written : goal.write_pieces-returns-clause-written
write_pieces-returns-clause-written t c = is_out (write_name c.args.left (values_of c.args.defs.now)) (length c.args.text.now) c.pieces.counter c.pieces.rest.now (page_of c.pieces.page)
    (write_text c.args.left (values_of c.args.defs.now) c.args.text.now (page_of c.args.page.now)) c.pieces-test.false c.pieces.invariant.0

pub write_pieces-returns-clause-whole : goal.write_pieces-returns-clause-whole
write_pieces-returns-clause-whole t c =
    along_out (values_of c.args.defs.now) c.args.left c.args.text.now (length c.args.text.now - c.pieces.counter) c.pieces.rest.now c.args.page.now.text.items c.pieces.page.text.items c.pieces.levels
    (inr (omega (arith, c.pieces-test.false))) c.pieces.invariant.2

pub write_value-returns-in_err-add-clause-known : goal.write_value-returns-in_err-add-clause-known
write_value-returns-in_err-add-clause-known t c = subst (AreWholes (values_of c.args.defs.now)) (sym c.in_err-add.ensures.unchanged) c.in_ok-levels.ensures.known

pub write_value-returns-clause-whole : goal.write_value-returns-clause-whole
write_value-returns-clause-whole t c =
    named_whole (values_of c.args.defs.now) c.args.left c.args.name.now c.args.value.now c.args.page.now.text.items c.write_pieces.new.page.text.items c.in-Some.levels c.requires.value
    (subst (λ o. IfSome o (λ m. IsWholeValue (values_of c.args.defs.now) c.args.left c.args.value.now m c.args.page.now.text.items c.write_pieces.new.page.text.items)) c.in-Some.is c.in_ok-levels.ensures.whole)

pub write_value-returns-clause-known : goal.write_value-returns-clause-known
write_value-returns-clause-known t c =
    known_after (values_of c.args.defs.now) (wholes_of c.write_pieces.new.known) (wholes_of c.add.new.self) (c.args.left + 1) c.args.name.now _ c.args.page.now.text.items c.write_pieces.new.page.text.items (c.in-Some.levels + 1)
    c.in_ok-levels.ensures.known (write_value-returns-clause-whole t c) (c.split_at.ensures.back ∙ ap₂ drop (ap length c.as_slice-start.ensures.value) c.deref.ensures.value) c.in_ok-add.ensures.added
