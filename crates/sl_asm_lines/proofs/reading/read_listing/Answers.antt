use Rattle.std.proofs.Common.{◌≡◌, ℕ, ◌+◌, List, length, sym, subst, ◌∙◌, ap, rules}
use Rattle.std.proofs.lemmas.List.{take_rest}
use Rattle.sl_asm_lines.proofs.ReadingLemmas.{failed}
use Rattle.sl_asm_lines.specs.Kept.{IsFault}
use Rattle.sl_asm_lines.specs.Nexts.{IsReadTo}
use Rattle.sl_asm_lines.specs.declared.listing.EditedListing.{EditedListing}
use Rattle.sl_asm_lines.proofs.reading.read_listing.Goals as goal

pub returns-in-Err : goal.returns-in-Err
returns-in-Err c =
    let size = c.args.size.bytes in
    let text = c.args.text.now in
    let h = failed c.in_ok-count.field-0 c.in-Err.fault _ _ c.in_ok-count.ensures c.in-Err.is in
    let many : c.len-number.result ≡ length c.next_line.new.listing.lines.items = search rules in
    let same : c.len-number.result ≡ length c.lines.listing.lines.items = many ∙ ap (λ (l : EditedListing). length l.lines.items) h.0 in
    subst (λ (n : ℕ). IsFault size text (n + 1) c.in-Err.fault) (sym same)
    (h.1 text (subst (λ (xs : List ℕ). IsReadTo size text xs c.lines.listing) (sym (take_rest text c.lines.at)) c.lines.invariant))
