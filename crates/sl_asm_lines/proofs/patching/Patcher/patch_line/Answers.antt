use Rattle.std.proofs.Common.{Bool, true, ℕ, List, ◌+◌, ◌++◌, drop, take, subst, sym}
use Rattle.sl_asm_lines.proofs.PatchLemmas.{next_line, stuck_line}
use Rattle.sl_asm_lines.specs.Fronts.{line_of}
use Rattle.sl_asm_lines.specs.Steps.{IsGiven, IsNextOr}
use Rattle.sl_decode_contexts.specs.Runs.{Stands}
use Rattle.sl_decode_contexts.specs.declared.commits.Commit.{Commit}
use Rattle.sl_asm_lines.proofs.patching.Patcher.patch_line.Goals as goal

pub returns-then-not-branch-clause-next : goal.returns-then-not-branch-clause-next
returns-then-not-branch-clause-next g c lines done rest cs l is shape =
    let p = c.args.self.now in
    let decodes = g.D.Decoder.tells p.decoder.now in
    let image = c.args.image.now in
    let at = c.args.position.now.at in
    let n = c.args.line.count in
    let text = c.args.line.text.now in
    let made = c.give_bytes.new.buffers.commits.items in
    let out = c.give_bytes.new.image in
    stuck_line decodes p.address_size.bytes p.alignment p.start p.base lines done rest cs l image at n c.args.position.now.contexts text is shape out made
    (subst (λ (b : Bool). IsGiven decodes p.address_size.bytes p.alignment p.start p.base image out at cs (line_of (take n (drop at image)) text) made b) c.if-not-branch.true
    (c.in_ok-give_bytes.ensures.given cs is.contexts_are))

pub returns-clause-next : goal.returns-clause-next
returns-clause-next g c lines done rest cs l is shape =
    let p = c.args.self.now in
    let decodes = g.D.Decoder.tells p.decoder.now in
    let image = c.args.image.now in
    let at = c.args.position.now.at in
    let n = c.args.line.count in
    let text = c.args.line.text.now in
    let made = c.give_bytes.new.buffers.commits.items in
    let out = c.give_bytes.new.image in
    let later = c.commit_all.new.self in
    let given = subst (λ (b : Bool). IsGiven decodes p.address_size.bytes p.alignment p.start p.base image out at cs (line_of (take n (drop at image)) text) made b) c.if-not-branch.false
    (c.in_ok-give_bytes.ensures.given cs is.contexts_are) in
    let goes_on = subst (λ (ds : List Commit). Stands later p.start (cs ++ ds)) c.deref.ensures.value (c.in_ok-commit_all.ensures.all p.start cs is.contexts_are) in
    subst (λ (k : ℕ). IsNextOr decodes p.address_size.bytes p.alignment p.start p.base lines done rest l out (at + k) later true) (sym c.from.ensures)
    (next_line decodes p.address_size.bytes p.alignment p.start p.base lines done rest cs l image at n c.args.position.now.contexts text is shape out made later given goes_on)
