use Rattle.std.proofs.Common.{Bool, ℕ, ◌+◌, ◌-◌, ◌*◌, List, drop, length, take, refl, subst, sym, ◌∙◌}
use Rattle.std.proofs.lemmas.List.{take_rest}
use Rattle.sl_asm_lines.proofs.TextLemmas.{blank_is, digits_are, head_is, is_shown, none_is_some, not_short, part_is, same_line, some_is, text_is}
use Rattle.sl_asm_lines.specs.Fronts.{ReadsBytes}
use Rattle.sl_asm_lines.proofs.front.read_line.Goals as goal

pub returns-then-line-head : goal.returns-then-line-head
returns-then-line-head c a l line is =
    not_short c.args.size.bytes c.args.size.at_most_8 c.args.line.now c.from-head.result c.from-head.ensures a l line is c.if-line-head.true

pub returns-in_default : goal.returns-in_default
returns-in_default c a l line is =
    c.in_default.ensures a (head_is c.args.size.bytes c.args.size.at_most_8 c.args.line.now c.from-head.result c.from-head.ensures a l line is)

pub returns-in_default-memchr : goal.returns-in_default-memchr
returns-in_default-memchr c a l line is =
    none_is_some _ (sym c.in_default-memchr.is
    ∙ blank_is c.args.size.bytes c.args.size.at_most_8 c.args.line.now c.from-head.result c.from-head.ensures a l line is _
    (take_rest c.args.line.now (2 * c.from-head.result + 2)) c.memchr.result c.memchr.ensures)

pub returns-then-not-branch : goal.returns-then-not-branch
returns-then-not-branch c a l line is =
    let size = c.args.size.bytes in
    let whole = c.args.line.now in
    let n = c.from-head.result in
    let rest : List ℕ = take (length whole - (2 * n + 2)) (drop (2 * n + 2) whole) in
    let blank = c.in-Some-memchr.blank in
    let reads = subst (λ (b : Bool). ReadsBytes (take blank rest) c.read_bytes.new.bytes.items b) c.if-not-branch.true c.in_ok-read_bytes.ensures in
    let at_blank = some_is blank _ (sym c.in-Some-memchr.is ∙ blank_is size c.args.size.at_most_8 whole n c.from-head.ensures a l line is rest (take_rest whole (2 * n + 2)) c.memchr.result c.memchr.ensures) in
    reads l.bytes (is_shown l line) (digits_are size c.args.size.at_most_8 whole n c.from-head.ensures a l line is rest (take_rest whole (2 * n + 2)) blank at_blank)

pub returns : goal.returns
returns c =
    let size = c.args.size.bytes in
    let whole = c.args.line.now in
    let n = c.from-head.result in
    let rest : List ℕ = take (length whole - (2 * n + 2)) (drop (2 * n + 2) whole) in
    let blank = c.in-Some-memchr.blank in
    let reads = subst (λ (b : Bool). ReadsBytes (take blank rest) c.read_bytes.new.bytes.items b) c.if-not-branch.false c.in_ok-read_bytes.ensures in record {
      shown = reads.0;
      in_space = c.in-Some.ensures.0;
      taken = refl;
      cut = 2 * n + 2 + (blank + 1);
      text = part_is whole (2 * n + 2) (blank + 1);
      same = λ a l line is.
          let at_blank = some_is blank _ (sym c.in-Some-memchr.is ∙ blank_is size c.args.size.at_most_8 whole n c.from-head.ensures a l line is rest (take_rest whole (2 * n + 2)) c.memchr.result c.memchr.ensures) in
          same_line size c.in-Some.address a l c.read_bytes.new.bytes.items (take (length rest - (blank + 1)) (drop (blank + 1) rest))
          (c.in-Some.ensures.1 a (head_is size c.args.size.at_most_8 whole n c.from-head.ensures a l line is))
          (reads.1 l.bytes (is_shown l line) (digits_are size c.args.size.at_most_8 whole n c.from-head.ensures a l line is rest (take_rest whole (2 * n + 2)) blank at_blank))
          (take_rest rest (blank + 1) ∙ text_is size c.args.size.at_most_8 whole n c.from-head.ensures a l line is rest (take_rest whole (2 * n + 2)) blank at_blank);
    }
