use Rattle.std.proofs.Common.{Option, subst}
use Rattle.std.specs.Int.{w64}
use Rattle.std.proofs.lemmas.Int.{to_z-of_z}
use Rattle.sl_asm_bits.specs.Known.{HasBits, IsLeft}
use Rattle.sl_asm_bits.specs.declared.Known.{Known}
use Rattle.sl_asm_known.proofs.EntryLemmas.{wider}
use Rattle.sl_asm_known.proofs.fields.joined.Goals as goal

pub returns-in-Some-clause-before : goal.returns-in-Some-clause-before
returns-in-Some-clause-before c = λ z h. wider c.in-Some.known c.joint.result z c.joint.ensures.left (subst (λ (o : Option Known). IsLeft o z) c.in-Some.is h)

pub returns-in-Some-clause-here : goal.returns-in-Some-clause-here
returns-in-Some-clause-here c =
    wider c.exact.result c.joint.result c.args.n c.joint.ensures.right (subst (HasBits c.exact.result) (to_z-of_z w64 c.args.n c.ranges.n) c.exact.ensures.has)
