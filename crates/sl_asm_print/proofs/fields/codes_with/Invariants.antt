use Rattle.sl_asm_print.proofs.FieldLemmas.{FirstCodes}
use Rattle.sl_spec.specs.Views.{entries_of}
use Rattle.sl_asm_print.proofs.fields.codes_with.Given as goal

abbrev pub invariant-entries : goal.invariant-entries
invariant-entries l = FirstCodes l.t l.dec (entries_of l.entries) l.text l.index l.codes
