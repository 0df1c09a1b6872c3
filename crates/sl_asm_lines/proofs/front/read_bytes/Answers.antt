use Rattle.std.proofs.Common.{◌≡◌, ℕ, ◌/◌, List, length, ap, inl, inr, ◌∙◌, ◌++◌, rules, arith}
use Rattle.sl_asm_lines.proofs.TextLemmas.{as_many, shown_decoded, shown_same}
use Rattle.sl_asm_lines.proofs.front.read_bytes.Goals as goal

pub returns-then-count-eq0 : goal.returns-then-count-eq0
returns-then-count-eq0 c bs shown is = elim c.then-count-eq0.either [
  | inl none ↦ omega (arith, none, shown.some, as_many c.args.digits.now bs is)
  | inr many ↦ omega (arith, many.1, shown.most, as_many c.args.digits.now bs is)
]

pub returns-then-not-fill : goal.returns-then-not-fill
returns-then-not-fill c bs shown is =
    let digits = c.args.digits.now in
    let half : length c.fill.new.bytes ≡ length digits / 2 = search rules in
    c.fill.ensures.refused c.if-not-fill.true bs (shown_decoded digits bs (length c.fill.new.bytes) half shown is)

pub returns : goal.returns
returns c =
    let digits = c.args.digits.now in
    let out = c.fill.new.bytes in
    let half : length out ≡ length digits / 2 = search rules in
    let items : c.extend_from_slice.new.self.items ≡ out = c.in_ok-extend_from_slice.ensures.items ∙ ap (λ (xs : List ℕ). xs ++ out) c.clear.ensures.items in
    let many : length c.extend_from_slice.new.self.items ≡ length digits / 2 = ap length items ∙ half in (
      record {
        some = grind (arith, many, c.if-count-eq0.false);
        most = omega (arith, many, c.if-count-gt-MOST_BYTES.false);
        are_bytes = c.type_inv.bytes;
      },
      λ bs shown is. items ∙ shown_same digits out bs (length out) half (c.fill.ensures.filled c.if-not-fill.false) shown is,
    )
