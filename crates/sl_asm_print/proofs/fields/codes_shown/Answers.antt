use Rattle.std.proofs.Common.{Bool, IsTrue, arith, subst}
use Rattle.std.proofs.lemmas.Bool.{false≢true}
use Rattle.std.proofs.lemmas.Nat.Bits.{bit_at-zero}
use Rattle.sl_asm_print.proofs.FieldLemmas.{codes_all}
use Rattle.sl_spec.specs.Views.{entries_of}
use Rattle.sl_asm_print.proofs.fields.codes_shown.Goals as goal

pub returns-then-has_text : goal.returns-then-has_text
returns-then-has_text c = λ code e. (c.under.ensures code).0 (λ i on. absurd (omega (arith, bit_at-zero i, on)))

pub returns : goal.returns
returns c =
    codes_all c.args.t.now c.args.dec (entries_of c.args.entries.now) c.args.text.now c.count.result c.codes_with.result c.count.ensures
    (λ e. false≢true (subst (λ (b : Bool). IsTrue b) c.if-has_text.false (c.has_text.ensures e))) c.codes_with.ensures
