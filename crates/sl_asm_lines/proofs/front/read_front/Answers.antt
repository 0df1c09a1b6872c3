use Rattle.std.proofs.Common.{◌≡◌, ◌+◌, ℕ, List, Option, take, sym, ap, subst, ◌∙◌}
use Rattle.std.proofs.lemmas.Slice.Eq.{bytes_eq-Decides}
use Rattle.memchr.specs.Find.{IsFirstByte, is_byte}
use Rattle.sl_asm_lines.proofs.FrontLemmas.{front_end, front_text, has_front, is_found, is_none, must_be, not_both, whole_line}
use Rattle.sl_asm_lines.specs.Fronts.{line_of}
use Rattle.sl_asm_lines.specs.Lines.{line_text}
use Rattle.sl_list_instructions.specs.Lines.{listed_line}
use Rattle.sl_asm_lines.proofs.front.read_front.Goals as goal

pub returns-in_default : goal.returns-in_default
returns-in_default c a l more line is = front_end c.args.size.bytes a l more c.args.text.now line is c.memchr.result c.memchr.ensures c.in_default.is

pub returns-in_default-2 : goal.returns-in_default-2
returns-in_default-2 c a l more line is =
    is_none c.args.size.bytes (take c.in-Some.end c.args.text.now) c.read_line.new.bytes.items c.in_ok-front.field-0 c.in_ok-front.ensures c.in_default-2.is a l line
    (front_text c.args.size.bytes a l more c.args.text.now line is c.memchr.result c.memchr.ensures c.in-Some.end c.in-Some.is)

pub returns-then-ne : goal.returns-then-ne
returns-then-ne c a l more line is =
    let size = c.args.size.bytes in
    let text = c.args.text.now in
    let f = c.in-Some-2.front in
    let reads = is_found size (take c.in-Some.end text) c.read_line.new.bytes.items c.in_ok-front.field-0 f c.in_ok-front.ensures c.in-Some-2.is in
    let own : c.as_slice.result.now ≡ line_text size f.address (line_of c.read_line.new.bytes.items f.text.now) =
    c.as_slice.ensures.value ∙ c.in_ok-put_line.ensures ∙ ap (λ (xs : List ℕ). listed_line size f.address xs f.text.now) c.deref.ensures.value in
    let same : c.as_slice.result.now ≡ take (c.in-Some.end + 1) text =
    own ∙ reads.same a l line (front_text size a l more text line is c.memchr.result c.memchr.ensures c.in-Some.end c.in-Some.is)
    ∙ sym (whole_line size a l more text line is c.memchr.result c.memchr.ensures c.in-Some.end c.in-Some.is) in
    let equal = (bytes_eq-Decides c.as_slice.result.now (take (c.in-Some.end + 1) text)).1 same in
    not_both _ c.ne.result equal c.ne.ensures c.if-ne.true

pub returns : goal.returns
returns c =
    let size = c.args.size.bytes in
    let text = c.args.text.now in
    let f = c.in-Some-2.front in
    let reads = is_found size (take c.in-Some.end text) c.read_line.new.bytes.items c.in_ok-front.field-0 f c.in_ok-front.ensures c.in-Some-2.is in
    let own : c.as_slice.result.now ≡ line_text size f.address (line_of c.read_line.new.bytes.items f.text.now) =
    c.as_slice.ensures.value ∙ c.in_ok-put_line.ensures ∙ ap (λ (xs : List ℕ). listed_line size f.address xs f.text.now) c.deref.ensures.value in
    let first = subst (λ (r : Option ℕ). IsFirstByte (is_byte 10) text r) c.in-Some.is c.memchr.ensures in
    has_front size text c.read_line.new.bytes.items c.as_slice.result.now c.in-Some.end f first reads own
    ((bytes_eq-Decides c.as_slice.result.now (take (c.in-Some.end + 1) text)).0 (must_be _ c.ne.result c.ne.ensures c.if-ne.false))
