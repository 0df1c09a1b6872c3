use Rattle.std.proofs.Common.{Option, refl, subst}
use Rattle.sl_asm.proofs.AssembleLemmas.{among, fill, within_bounds}
use Rattle.sl_asm_bounds.specs.Bounds.{Holds}
use Rattle.sl_asm_bounds.specs.declared.bounds.Bounds.{Bounds}
use Rattle.std.specs.Prelude.{length}
use Rattle.sl_asm.proofs.wanted.Wanted.lengths.Goals as goal

pub returns-in-Some : goal.returns-in-Some
returns-in-Some c = λ bytes pass.
    let w = c.args.self.now in
    let region = c.args.region.now in
    let filled = fill w bytes pass region c.requires.open in
    let within = within_bounds w _ refl bytes pass tt region c.in_ok-found.found filled.0 filled.1 filled.2 c.in_ok-found.ensures.bounds in
    among bytes c.in-Some.bounds filled.0 within.0 pass.encoding.most
    (subst (λ (o : Option Bounds). Holds o filled.0 (length bytes) within.0) c.in-Some.is within.1)

pub returns-in-None : goal.returns-in-None
returns-in-None c = λ bytes pass.
    let w = c.args.self.now in
    let region = c.args.region.now in
    let filled = fill w bytes pass region c.requires.open in
    let within = within_bounds w _ refl bytes pass tt region c.in_ok-found.found filled.0 filled.1 filled.2 c.in_ok-found.ensures.bounds in
    subst (λ (o : Option Bounds). Holds o filled.0 (length bytes) within.0) c.in-None.is within.1
