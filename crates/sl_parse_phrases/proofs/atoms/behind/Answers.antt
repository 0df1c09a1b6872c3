use Rattle.std.proofs.Common.{◌≡◌, ◌&&◌, Bool, true, false, ap, sym, ◌∙◌}
use Rattle.sl_ast.specs.Operators.{takes_bits, takes_drop, takes_size}
use Rattle.sl_ast.specs.Views.{expression_of}
use Rattle.sl_ast.specs.declared.symbols.Mark.TheVariants as m
use Rattle.sl_parse_grammar.specs.Expressions.{behind}
use Rattle.sl_parse_grammar.specs.Reader.{first, is_mark}
use Rattle.sl_parse_phrases.proofs.atoms.behind.Goals as goal

-- the test of the code is that of the reader
tested : (seen allowed shape : Bool) (r v : Bool) → allowed ≡ shape → r ≡ (seen && allowed) → r ≡ v → (seen && shape) ≡ v
tested seen allowed shape r v e f g = ap (λ t. seen && t) (sym e) ∙ sym f ∙ g

pub returns-then-is_mark_and-3 : goal.returns-then-is_mark_and-3
unfolding behind
returns-then-is_mark_and-3 c =
    let next = first c.args.symbols.now.rest in
    let e = expression_of c.args.inner in
    let colon : (is_mark m.Colon next && takes_size e) ≡ false = tested (is_mark m.Colon next) c.takes_size.result (takes_size e) _ false c.takes_size.ensures c.is_mark_and.ensures c.if-is_mark_and.false in
    let opened : (is_mark m.Open next && takes_drop e) ≡ false =
    tested (is_mark m.Open next) c.takes_drop.result (takes_drop e) _ false c.takes_drop.ensures c.is_mark_and-else-is_mark_and.ensures c.if-is_mark_and-2.false in
    let bracket : (is_mark m.OpenBracket next && takes_bits e) ≡ true =
    tested (is_mark m.OpenBracket next) c.takes_bits.result (takes_bits e) _ true c.takes_bits.ensures c.is_mark_and-else-is_mark_and-2.ensures c.if-is_mark_and-3.true in
    rw (colon, opened, bracket) c.bits_behind.ensures
