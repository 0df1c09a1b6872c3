use Rattle.std.proofs.Common.{◌≡◌, ℕ, List, [], ◌∷◌, ◌++◌, ap, length, rules, subst, sym, ◌∙◌}
use Rattle.sl_asm_lines.proofs.ReadingLemmas.{kept_front, line_is, some_taken, taken_within, takes}
use Rattle.sl_asm_lines.specs.Fronts.{line_of}
use Rattle.sl_asm_lines.specs.Kept.{AreKept}
use Rattle.sl_asm_lines.specs.Lines.{Line}
use Rattle.sl_asm_lines.specs.Reading.{CanFollow}
use Rattle.sl_asm_lines.proofs.reading.next_line.Goals as goal

pub returns : goal.returns
returns c =
    let size = c.args.size.bytes in
    let rest = c.args.rest.now in
    let f = c.in-Some.front in
    let bytes = c.read_front.new.bytes.items in
    let k = kept_front size rest bytes c.in_ok-front.field-0 f _ c.in_ok-front.ensures c.in-Some.is in
    let can : (lines : List Line) → AreKept c.args.listing.now.image.items c.args.listing.now.lines.items lines → CanFollow size c.args.listing.now.base lines f.address k.0 = λ lines are.
    let many : length bytes ≡ c.len.result = search rules in
    (c.can_follow.ensures lines k.0 are (ap length (sym k.2) ∙ many)).0 c.if-not-can_follow.false in record {
      some = some_taken size rest bytes f k;
      within = taken_within size rest bytes f k;
      goes_on = takes size rest bytes f.text.now c.args.listing.now c.add_line.new.listing f k.0 k.1 (line_is k.0 bytes f.text.now k.2 k.3) can
          (λ lines are. c.in_ok-add_line.ensures.base ∙ c.base_with-listing.ensures lines are)
          (λ lines are. subst (λ (xs : List ℕ). AreKept c.add_line.new.listing.image.items c.add_line.new.listing.lines.items (lines ++ line_of xs f.text.now ∷ [])) c.deref.ensures.value (c.in_ok-add_line.ensures.kept lines are));
    }
