use Rattle.std.proofs.Common.{◌≡◌, ℕ, arith, subst, codes}
use Rattle.sl_lex.specs.Bytes.{is_hex_digit, is_binary_digit}
use Rattle.sl_lex.specs.Found.{IsLongestSpelled}
use Rattle.sl_lex.proofs.SpelledLemmas.{hex_integer, binary_integer, decimal_integer}
use Rattle.sl_lex.proofs.numbers.digits_of.Goals as goal

pub returns-then-hex-gt0 : goal.returns-then-hex-gt0
returns-then-hex-gt0 c = hex_integer c.args.text.now c.count_behind_0x-hex.result c.if-hex-gt0.true c.count_behind_0x-hex.ensures

pub returns-then-binary-gt0 : goal.returns-then-binary-gt0
returns-then-binary-gt0 c =
    let none : c.count_behind_0x-hex.result ≡ 0 = omega arith in
    binary_integer c.args.text.now c.count_behind_0b-binary.result c.if-binary-gt0.true
    (subst (λ (n : ℕ). IsLongestSpelled (codes "0x") is_hex_digit c.args.text.now n) none c.count_behind_0x-hex.ensures) c.count_behind_0b-binary.ensures

pub returns : goal.returns
returns c =
    let no_hex : c.count_behind_0x-hex.result ≡ 0 = omega arith in
    let no_binary : c.count_behind_0b-binary.result ≡ 0 = omega arith in
    decimal_integer c.args.text.now c.count_digits.result c.requires c.count_digits.ensures
    (subst (λ (n : ℕ). IsLongestSpelled (codes "0x") is_hex_digit c.args.text.now n) no_hex c.count_behind_0x-hex.ensures)
    (subst (λ (n : ℕ). IsLongestSpelled (codes "0b") is_binary_digit c.args.text.now n) no_binary c.count_behind_0b-binary.ensures)
