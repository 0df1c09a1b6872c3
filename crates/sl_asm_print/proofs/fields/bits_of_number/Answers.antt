use Rattle.std.proofs.Common.{ap, ◌∙◌}
use Rattle.sl_asm_print.proofs.DigitLemmas.{read_as}
use Rattle.sl_asm_print.proofs.FieldLemmas.{number_known, number_none}
use Rattle.sl_show.specs.Numbers.{number_text}
use Rattle.sl_spec.specs.Tables.{Field}
use Rattle.sl_asm_print.proofs.fields.bits_of_number.Goals as goal

pub returns-in_default : goal.returns-in_default
returns-in_default c =
    let f : Field = c.args.of.now in
    number_none f c.in_ok-read.read c.args.text.now
    (λ w fits shows. c.in_ok-read.ensures.all w fits (ap (λ (g : Field). number_text g.dec w) c.of.view_is ∙ shows)) c.in_default.is

pub returns : goal.returns
returns c =
    let f : Field = c.args.of.now in
    number_known f c.in_ok-read.read c.args.text.now c.in-Some.value _ c.bits_of_value.result
    (λ w fits shows. c.in_ok-read.ensures.all w fits (ap (λ (g : Field). number_text g.dec w) c.of.view_is ∙ shows))
    c.in-Some.is (read_as c.in-Some.value) c.bits_of_value.ensures
