use Rattle.std.proofs.Common.{subst}
use Rattle.sl_asm_values.proofs.GivingLemmas.{clear_only, neither, set_left}
use Rattle.sl_asm_values.specs.Halves.{IsHalfLeft}
use Rattle.sl_asm_values.proofs.narrowing.left_of.Goals as goal

pub returns-in-Some-set : goal.returns-in-Some-set
returns-in-Some-set c = λ t f region v wanted b clear set.
    set_left t f v wanted region b c.in-Some-set.one (subst (IsHalfLeft t f region v wanted b 0) c.in_default.is clear) (subst (IsHalfLeft t f region v wanted b 1) c.in-Some-set.is set)

pub returns-in-None : goal.returns-in-None
returns-in-None c = λ t f region v wanted b clear set.
    neither t f v wanted region b (subst (IsHalfLeft t f region v wanted b 0) c.in_default.is clear) (subst (IsHalfLeft t f region v wanted b 1) c.in-None.is set)

pub returns : goal.returns
returns c = λ t f region v wanted b clear set.
    clear_only t f v wanted region b c.in-Some.one c.args.set c.if-is_some.ensures (subst (IsHalfLeft t f region v wanted b 0) c.in-Some.is clear) set
