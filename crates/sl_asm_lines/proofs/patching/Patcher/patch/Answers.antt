use Rattle.std.proofs.Common.{◌≡◌, ℕ, List, length, ap, arith, subst, sym, ◌∙◌}
use Rattle.sl_asm_lines.proofs.ItselfLemmas.{kept_still, lines_give, stuck_fails, undecided_fails}
use Rattle.sl_asm_lines.proofs.PatchedLemmas.{all_over, none_of, some_of}
use Rattle.sl_asm_lines.specs.Kept.{AreKept}
use Rattle.sl_asm_lines.specs.Patched.{LinesGive}
use Rattle.sl_asm_lines.proofs.patching.Patcher.patch.Goals as goal

pub returns-in-Some : goal.returns-in-Some
returns-in-Some g c ls k =
    let p = c.args.self.now in
    let k1 = subst (λ (xs : List ℕ). AreKept xs c.args.lines.now ls) (sym c.deref_mut.ensures.value) k in
    stuck_fails (g.D.Decoder.tells p.decoder.now) p.address_size.bytes p.alignment p.start p.base ls c.in-Some.number
    (some_of c.in_ok-number.field-0 c.in-Some.number _ _ (c.in_ok-number.ensures.patched ls k1) c.in-Some.is)

pub returns-in-Some-2 : goal.returns-in-Some-2
returns-in-Some-2 g c ls k =
    let p = c.args.self.now in
    let decodes = g.D.Decoder.tells p.decoder.now in
    let out = c.patch_all.new.image in
    let k1 = subst (λ (xs : List ℕ). AreKept xs c.args.lines.now ls) (sym c.deref_mut.ensures.value) k in
    let a = none_of c.in_ok-number.field-0 _ _ (c.in_ok-number.ensures.patched ls k1) c.in_default.is in
    let long : length out ≡ length c.args.image.items = c.in_ok-number.ensures.long ∙ ap length c.deref_mut.ensures.value in
    let whole : c.args.image.len ≡ length c.args.image.items = omega (arith, c.args.image.ok.0) in
    let same : c.deref.result.now ≡ out = c.deref.ensures.value ∙ all_over c.args.image.items out c.args.image.len long whole in
    let k2 = kept_still decodes p.address_size.bytes p.alignment p.start p.base ls c.args.lines.now c.deref_mut.result.now out k1 a in
    let k3 = subst (λ (xs : List ℕ). AreKept xs c.args.lines.now a.new) (sym same) k2 in
    undecided_fails decodes p.address_size.bytes p.alignment p.start p.base ls out c.in-Some-2.number a
    (some_of c.in_ok-number-2.field-0 c.in-Some-2.number _ _ (c.in_ok-number-2.ensures a.new k3) c.in-Some-2.is)

pub returns : goal.returns
returns g c ls k =
    let p = c.args.self.now in
    let decodes = g.D.Decoder.tells p.decoder.now in
    let out = c.patch_all.new.image in
    let k1 = subst (λ (xs : List ℕ). AreKept xs c.args.lines.now ls) (sym c.deref_mut.ensures.value) k in
    let a = none_of c.in_ok-number.field-0 _ _ (c.in_ok-number.ensures.patched ls k1) c.in_default.is in
    let long : length out ≡ length c.args.image.items = c.in_ok-number.ensures.long ∙ ap length c.deref_mut.ensures.value in
    let whole : c.args.image.len ≡ length c.args.image.items = omega (arith, c.args.image.ok.0) in
    let over = all_over c.args.image.items out c.args.image.len long whole in
    let same : c.deref.result.now ≡ out = c.deref.ensures.value ∙ over in
    let k2 = kept_still decodes p.address_size.bytes p.alignment p.start p.base ls c.args.lines.now c.deref_mut.result.now out k1 a in
    let k3 = subst (λ (xs : List ℕ). AreKept xs c.args.lines.now a.new) (sym same) k2 in
    let lists = none_of c.in_ok-number-2.field-0 _ _ (c.in_ok-number-2.ensures a.new k3) c.in_default-2.is in
    subst (λ (xs : List ℕ). LinesGive decodes p.address_size.bytes p.alignment p.start p.base ls xs) (sym over)
    (lines_give decodes p.address_size.bytes p.alignment p.start p.base ls out a lists)
