use Rattle.std.proofs.Common.{Bool, List, ◌++◌, drop, subst, take}
use Rattle.sl_asm_lines.specs.Fronts.{line_of}
use Rattle.sl_asm_lines.specs.Lines.{Line}
use Rattle.sl_asm_lines.specs.Steps.{IsShownAs}
use Rattle.sl_decode_contexts.specs.Runs.{Stands}
use Rattle.sl_decode_contexts.specs.declared.commits.Commit.{Commit}
use Rattle.sl_asm_lines.proofs.patching.Patcher.pass_line.Goals as goal

pub returns-then-not-branch-clause-next : goal.returns-then-not-branch-clause-next
returns-then-not-branch-clause-next g c cs stands =
    let p = c.args.self.now in
    let image = c.args.image.now in
    let at = c.args.position.now.at in
    let l : Line = line_of (take c.args.line.count (drop at image)) c.args.line.text.now in
    subst (λ (b : Bool). IsShownAs (g.D.Decoder.tells p.decoder.now) p.address_size.bytes p.alignment p.start p.base image at cs l c.is_listed.new.buffers.commits.items b) c.if-not-branch.true
    (c.in_ok-is_listed.ensures cs stands)

pub returns-clause-next : goal.returns-clause-next
returns-clause-next g c cs stands =
    let p = c.args.self.now in
    let image = c.args.image.now in
    let at = c.args.position.now.at in
    let l : Line = line_of (take c.args.line.count (drop at image)) c.args.line.text.now in (
      c.is_listed.new.buffers.commits.items,
      subst (λ (b : Bool). IsShownAs (g.D.Decoder.tells p.decoder.now) p.address_size.bytes p.alignment p.start p.base image at cs l c.is_listed.new.buffers.commits.items b) c.if-not-branch.false
          (c.in_ok-is_listed.ensures cs stands),
      subst (λ (ds : List Commit). Stands c.commit_all.new.self p.start (cs ++ ds)) c.deref.ensures.value (c.in_ok-commit_all.ensures.all p.start cs stands),
    )
