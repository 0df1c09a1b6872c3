use Rattle.std.proofs.Common.{Bool, ◌≡◌, ◌<◌, ◌≤◌, ℕ, ◌+◌, ◌∷◌, ap, drop, length, rules, subst, sym, take, ◌∙◌, arith}
use Rattle.std.proofs.lemmas.List.{drop_more}
use Rattle.sl_asm_lines.proofs.PatchLemmas.{passed_all, passed_next, passed_other}
use Rattle.sl_asm_lines.specs.Fronts.{line_of}
use Rattle.sl_asm_lines.specs.Steps.{ArePassed, IsPassedOr, total}
use Rattle.sl_asm_lines.specs.declared.listing.ShownLine.{ShownLine}
use Rattle.sl_asm_lines.proofs.patching.Patcher.first_other.Goals as goal

pub returns-then-not-branch : goal.returns-then-not-branch
returns-then-not-branch g c ls k =
    let p = c.args.self.now in
    let keeps = c.args.lines.now in
    let image = c.args.image.now in
    let index = c.lines.index in
    let at = c.lines.position.at in
    let x = c.index-lines-index.result in
    let decodes = g.D.Decoder.tells p.decoder.now in
    let below : index < length keeps = search rules in
    let first : drop index keeps ≡ x ∷ drop (index + 1) keeps = drop_more keeps index x below ∙ ap (λ (y : ShownLine). y ∷ drop (index + 1) keeps) (sym c.index-lines-index.is) in
    passed_other decodes p.address_size.bytes p.alignment p.start p.base ls keeps index x image at c.lines.position.contexts c.pass_line.new.position.contexts first (c.lines.invariant.passed ls k)
    (λ cs stands. subst (λ (b : Bool). IsPassedOr decodes p.address_size.bytes p.alignment p.start p.base image at cs (line_of (take x.count (drop at image)) x.text.now) c.pass_line.new.position.contexts b)
    c.if-not-branch.true (c.in_ok-pass_line.ensures.next cs stands))

pub lines-preserved : goal.lines-preserved
lines-preserved g c =
    let p = c.args.self.now in
    let keeps = c.args.lines.now in
    let image = c.args.image.now in
    let index = c.lines.index in
    let at = c.lines.position.at in
    let x = c.index-lines-index.result in
    let decodes = g.D.Decoder.tells p.decoder.now in
    let below : index < length keeps = search rules in
    let first : drop index keeps ≡ x ∷ drop (index + 1) keeps = drop_more keeps index x below ∙ ap (λ (y : ShownLine). y ∷ drop (index + 1) keeps) (sym c.index-lines-index.is) in record {
      left = omega (arith, c.in_ok-pass_line.ensures.at c.if-not-branch.false, c.lines.invariant.left, ap total first);
      passed = λ ls k. subst (λ (n : ℕ). ArePassed decodes p.address_size.bytes p.alignment p.start p.base ls keeps (index + 1) image n c.pass_line.new.position.contexts)
          (sym (c.in_ok-pass_line.ensures.at c.if-not-branch.false))
          (passed_next decodes p.address_size.bytes p.alignment p.start p.base ls keeps index x image at c.lines.position.contexts c.pass_line.new.position.contexts first (c.lines.invariant.passed ls k)
          (λ cs stands. subst (λ (b : Bool). IsPassedOr decodes p.address_size.bytes p.alignment p.start p.base image at cs (line_of (take x.count (drop at image)) x.text.now) c.pass_line.new.position.contexts b)
          c.if-not-branch.false (c.in_ok-pass_line.ensures.next cs stands)));
    }

pub returns : goal.returns
returns g c ls k =
    let p = c.args.self.now in
    let past : length c.args.lines.now ≤ c.lines.index = search rules in
    passed_all (g.D.Decoder.tells p.decoder.now) p.address_size.bytes p.alignment p.start p.base ls c.args.lines.now c.lines.index c.args.image.now c.lines.position.at c.lines.position.contexts past
    (c.lines.invariant.passed ls k)
