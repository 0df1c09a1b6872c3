use Rattle.std.proofs.Common.{◌≡◌, ℕ, ◌<◌, ◌≤◌, length, get_or, sym, subst, ◌∙◌, arith}
use Rattle.std.proofs.lemmas.Bool.{false≢true}
use Rattle.sl_asm_fit.proofs.FrontLemmas.{step_without, without_all, without_more, without_unfit}
use Rattle.sl_asm_fit.proofs.lists.+pass_from.Goals as goal
use Rattle.sl_asm_fit.proofs.lists.+pass_from.Goals.{then-fits+in_ok-push+in_ok-found+else-found, else-fits}

pub loop-value-preserved : goal.loop-value-preserved
loop-value-preserved g t c =
    let region = c.args.region.now in
    let front = c.args.front.now.items in
    let passes = g.T.Test.passes c.args.test.now in
    let cell = c.index-region-place.result in
    let place : c.len-place.result ≡ length front = omega arith in
    let below : length front < length region = omega (arith, c.requires.front.short) in
    elim c.if-fits.branch [
      | then-fits+in_ok-push+in_ok-found+else-found w ↦
          let step = step_without passes region front c.loop-value.front.items w.push.new.self.items w.pass_from.new.front.items w.truncate.new.self.items
          c.loop-value.value c.len-place.result w.in_ok-found.found c.loop-value.invariant.same w.in_ok-push.ensures.items place w.truncate.ensures.items
          w.if-found.false w.in_ok-found.ensures c.loop-value.invariant.without in
          record { same = rw w.front-is step.0; without = step.1 }
      | else-fits w ↦
          let is = subst (λ (i : ℕ). cell ≡ get_or region i cell) place c.index-region-place.is in
          let unfit = without_unfit region front cell c.loop-value.value below is passes (λ fits. false≢true (sym w.if-fits.false ∙ c.fits.ensures.1 fits)) in
          record {
            same = rw w.front-is c.loop-value.invariant.same;
            without = without_more passes region front c.loop-value.value unfit c.loop-value.invariant.without;
          }
    ]

pub returns : goal.returns
returns g t c =
    let below : length c.args.front.now.items < length c.args.region.now = omega (arith, c.requires.front.short) in
    let whole : 256 ≤ c.loop-value.value = omega arith in
    (c.loop-value.invariant.same, without_all (g.T.Test.passes c.args.test.now) c.args.region.now c.args.front.now.items c.loop-value.value below whole c.loop-value.invariant.without)
