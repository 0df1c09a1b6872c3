use Rattle.std.proofs.Common.{arith, sym, ◌∙◌}
use Rattle.sl_lex.specs.declared.mode.Mode.TheVariants.{Display}
use Rattle.sl_lex.proofs.DisplayLemmas.{blank_token_at, display_word_at, caret_at, char_at, caret_passes, caret_fails, nothing_in_display}
use Rattle.sl_lex.proofs.FaultLemmas.{no_quote_code}
use Rattle.sl_lex.proofs.lexemes.in_display.Goals as goal

pub returns-in-34 : goal.returns-in-34
returns-in-34 c = c.quoted.ensures Display

pub returns-in-94 : goal.returns-in-94
returns-in-94 c = (caret_at c.args.text.now c.requires (caret_passes _ c.in-94.is), tt)

pub returns-in_default : goal.returns-in_default
returns-in_default c = (blank_token_at c.args.text.now c.count_blanks.result c.requires (sym c.is_blank.ensures ∙ c.if-is_blank.true) c.count_blanks.ensures, tt)

pub returns-in_default-2 : goal.returns-in_default-2
returns-in_default-2 c =
    (display_word_at c.args.text.now c.count_word_bytes.result c.requires (sym c.begins_word.ensures ∙ c.if-begins_word.true) c.count_word_bytes.ensures, tt)

pub returns-in_default-3 : goal.returns-in_default-3
returns-in_default-3 c = (char_at c.args.text.now c.requires (sym c.is_char.ensures ∙ c.if-is_char.true), tt)

pub returns-in_default-4 : goal.returns-in_default-4
returns-in_default-4 c =
    nothing_in_display c.args.text.now c.requires (no_quote_code _ (λ same. omega (arith, c.in_default))) (sym c.is_blank.ensures ∙ c.if-is_blank.false)
    (sym c.begins_word.ensures ∙ c.if-begins_word.false) (caret_fails _ (λ same. omega (arith, c.in_default))) (sym c.is_char.ensures ∙ c.if-is_char.false)
