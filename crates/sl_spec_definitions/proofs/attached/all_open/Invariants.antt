use Rattle.std.proofs.Common.{map}
use Rattle.sl_spec_definitions.specs.AttachRules.{is_open}
use Rattle.sl_spec_definitions.proofs.AttachLemmas.{IsLeft, index_of}
use Rattle.sl_spec_definitions.proofs.attached.all_open.Given as goal

abbrev pub invariant-names : goal.invariant-names
invariant-names l = IsLeft (λ name. is_open l.t.attached (index_of l.t.fields name)) (map (λ n. n.now) l.names) l.index
