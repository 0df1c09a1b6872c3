use Rattle.std.proofs.Common.{◌≤◌, Bool, IsTrue, arith, subst}
use Rattle.std.proofs.lemmas.Bool.{false≢true}
use Rattle.sl_asm_print.proofs.FieldLemmas.{all_codes, one_code_more, one_code_other}
use Rattle.sl_spec.specs.Views.{entries_of}
use Rattle.sl_asm_print.proofs.fields.codes_with.Goals as goal
use Rattle.sl_asm_print.proofs.fields.codes_with.Goals.{then-has_text, else-has_text}

pub entries-preserved : goal.entries-preserved
entries-preserved c =
    let t = c.args.t.now in
    let dec = c.args.dec in
    let entries = entries_of c.args.entries.now in
    let text = c.args.text.now in
    let n = c.entries.index in
    elim c.if-has_text.branch [
      | then-has_text w ↦ rw w.codes-is (one_code_more t dec entries text n c.entries.codes c.entries.invariant w.with_code.result w.with_code.ensures.before w.with_code.ensures.here)
      | else-has_text w ↦ rw w.codes-is (one_code_other t dec entries text n c.entries.codes c.entries.invariant
          (λ e. false≢true (subst (λ (b : Bool). IsTrue b) w.if-has_text.false (c.has_text.ensures e))))
    ]

pub returns : goal.returns
returns c =
    let end = c.count-index-end.result in
    let whole : end ≤ c.entries.index = omega arith in
    all_codes c.args.t.now c.args.dec (entries_of c.args.entries.now) c.args.text.now c.entries.index c.entries.codes c.entries.invariant end c.count-index-end.ensures whole
