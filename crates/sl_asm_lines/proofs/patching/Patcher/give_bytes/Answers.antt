use Rattle.std.proofs.Common.{Bool, drop, inl, refl, subst, take}
use Rattle.sl_asm_lines.proofs.PatchLemmas.{given_by}
use Rattle.sl_asm_lines.specs.Fronts.{line_of}
use Rattle.sl_asm_lines.specs.Lines.{Line}
use Rattle.sl_asm_lines.specs.Steps.{IsShownAs}
use Rattle.sl_asm_lines.proofs.patching.Patcher.give_bytes.Goals as goal

pub returns-then-branch-clause-given : goal.returns-then-branch-clause-given
returns-then-branch-clause-given g c cs stands =
    let p = c.args.self.now in
    let image = c.args.image.now in
    let at = c.args.position.now.at in
    let l : Line = line_of (take c.args.line.count (drop at image)) c.args.line.text.now in
    inl (
      refl,
      subst (λ (b : Bool). IsShownAs (g.D.Decoder.tells p.decoder.now) p.address_size.bytes p.alignment p.start p.base image at cs l c.is_listed.new.buffers.commits.items b) c.if-branch.true
          (c.in_ok-is_listed.ensures cs stands),
    )

pub returns-clause-given : goal.returns-clause-given
returns-clause-given g c cs stands =
    let p = c.args.self.now in
    let image = c.args.image.now in
    let at = c.args.position.now.at in
    let l : Line = line_of (take c.args.line.count (drop at image)) c.args.line.text.now in
    let decodes = g.D.Decoder.tells p.decoder.now in
    given_by decodes p.address_size.bytes p.alignment p.start p.base image c.replace.new.image at cs l c.replace.new.buffers.commits.items _
    (subst (λ (b : Bool). IsShownAs decodes p.address_size.bytes p.alignment p.start p.base image at cs l c.is_listed.new.buffers.commits.items b) c.if-branch.false (c.in_ok-is_listed.ensures cs stands))
    (c.in_ok-found.ensures.bytes cs stands)
