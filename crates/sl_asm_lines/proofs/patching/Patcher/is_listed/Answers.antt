use Rattle.std.proofs.Common.{◌≡◌, ℕ, ◌+◌, ◌-◌, List, drop, length, take, ap, sym, ◌∙◌, arith}
use Rattle.std.proofs.lemmas.Slice.Eq.{bytes_eq-Decides}
use Rattle.sl_asm_lines.proofs.PatchLemmas.{not_false, shown_as}
use Rattle.sl_asm_lines.proofs.TextLemmas.{eqb-eq}
use Rattle.sl_asm_lines.specs.Fronts.{line_of}
use Rattle.sl_asm_lines.specs.Lines.{Line, line_text}
use Rattle.sl_list_instructions.specs.Lines.{listed_line}
use Rattle.sl_asm_lines.proofs.patching.Patcher.is_listed.Goals as goal

pub returns-then-count-bytes : goal.returns-then-count-bytes
returns-then-count-bytes g c cs stands =
    let p = c.args.self.now in
    let image = c.args.image.now in
    let at = c.args.at in
    let n = c.args.line.count in
    let l : Line = line_of (take n (drop at image)) c.args.line.text.now in
    let cut : at + c.from.result - at ≡ n = omega (arith, c.from.ensures) in
    let bytes_are : take (at + c.from.result - at) (drop at image) ≡ take n (drop at image) = ap (λ (k : ℕ). take k (drop at image)) cut in
    let wanted : c.as_slice-then-count-bytes.result.now ≡ line_text p.address_size.bytes (p.base + at) l =
    c.as_slice-then-count-bytes.ensures.value ∙ c.in_ok-put_line.ensures ∙ ap (λ (xs : List ℕ). listed_line p.address_size.bytes (p.base + at) xs c.args.line.text.now) bytes_are in
    let same = bytes_eq-Decides c.as_slice.result.now c.as_slice-then-count-bytes.result.now in
    shown_as (g.D.Decoder.tells p.decoder.now) p.address_size.bytes p.alignment p.start p.base image at cs l c.show_at.new.buffers.commits.items c.show_at.new.buffers.shown.items
    c.in_ok-count.count c.eq.result (c.in_ok-count.ensures cs stands)
    (λ t. (sym c.as_slice.ensures.value ∙ same.0 (sym c.eq.ensures ∙ t) ∙ wanted, c.if-count-bytes.true ∙ ap length bytes_are))
    (λ f both. not_false _ c.eq.result (same.1 (c.as_slice.ensures.value ∙ both.0 ∙ sym wanted)) c.eq.ensures f)

pub returns-else-count-bytes : goal.returns-else-count-bytes
returns-else-count-bytes g c cs stands =
    let p = c.args.self.now in
    let image = c.args.image.now in
    let at = c.args.at in
    let n = c.args.line.count in
    let l : Line = line_of (take n (drop at image)) c.args.line.text.now in
    let cut : at + c.from.result - at ≡ n = omega (arith, c.from.ensures) in
    let bytes_are : take (at + c.from.result - at) (drop at image) ≡ take n (drop at image) = ap (λ (k : ℕ). take k (drop at image)) cut in
    shown_as (g.D.Decoder.tells p.decoder.now) p.address_size.bytes p.alignment p.start p.base image at cs l c.show_at.new.buffers.commits.items c.show_at.new.buffers.shown.items
    c.in_ok-count.count _ (c.in_ok-count.ensures cs stands)
    (λ t. absurd (c.if-count-bytes.false (eqb-eq c.in_ok-count.count _ t)))
    (λ f both. c.if-count-bytes.false (both.1 ∙ sym (ap length bytes_are)))
