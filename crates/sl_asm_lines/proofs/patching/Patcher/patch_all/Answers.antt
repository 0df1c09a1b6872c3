use Rattle.std.proofs.Common.{Bool, ◌≡◌, ◌<◌, ◌≤◌, ◌+◌, ◌∷◌, ap, drop, length, refl, rules, subst, sym, ◌∙◌, arith}
use Rattle.std.proofs.lemmas.List.{drop_more}
use Rattle.sl_asm_lines.proofs.PatchLemmas.{under_all, under_first, under_next, under_stuck}
use Rattle.sl_asm_lines.specs.Steps.{IsNextOr, total}
use Rattle.sl_asm_lines.specs.declared.listing.ShownLine.{ShownLine}
use Rattle.sl_asm_lines.proofs.patching.Patcher.patch_all.Goals as goal

pub lines-init : goal.lines-init
lines-init g c =
    let p = c.args.self.now in record {
      long = refl;
      left = omega (arith, c.requires.whole);
      under = λ ls k. under_first (g.D.Decoder.tells p.decoder.now) p.address_size.bytes p.alignment p.start p.base ls c.args.lines.now c.args.image.now c.new-contexts.result k c.new-contexts.ensures;
    }

pub returns-then-not-branch-clause-patched : goal.returns-then-not-branch-clause-patched
returns-then-not-branch-clause-patched g c ls k =
    let p = c.args.self.now in
    let keeps = c.args.lines.now in
    let index = c.lines.index in
    let x = c.index-lines-index.result in
    let decodes = g.D.Decoder.tells p.decoder.now in
    let below : index < length keeps = search rules in
    let front : drop index keeps ≡ x ∷ drop (index + 1) keeps = drop_more keeps index x below ∙ ap (λ (y : ShownLine). y ∷ drop (index + 1) keeps) (sym c.index-lines-index.is) in
    under_stuck decodes p.address_size.bytes p.alignment p.start p.base ls keeps index x c.lines.image c.patch_line.new.image c.lines.position.at c.patch_line.new.position.at
    c.lines.position.contexts c.patch_line.new.position.contexts front
    (λ all done rest cs l is shape. subst (λ (b : Bool). IsNextOr decodes p.address_size.bytes p.alignment p.start p.base all done rest l c.patch_line.new.image c.patch_line.new.position.at c.patch_line.new.position.contexts b)
    c.if-not-branch.true (c.in_ok-patch_line.ensures.next all done rest cs l is shape)) (c.lines.invariant.under ls k)

pub lines-preserved : goal.lines-preserved
lines-preserved g c =
    let p = c.args.self.now in
    let keeps = c.args.lines.now in
    let index = c.lines.index in
    let x = c.index-lines-index.result in
    let decodes = g.D.Decoder.tells p.decoder.now in
    let below : index < length keeps = search rules in
    let front : drop index keeps ≡ x ∷ drop (index + 1) keeps = drop_more keeps index x below ∙ ap (λ (y : ShownLine). y ∷ drop (index + 1) keeps) (sym c.index-lines-index.is) in record {
      long = c.in_ok-patch_line.ensures.long ∙ c.lines.invariant.long;
      left = omega (arith, c.in_ok-patch_line.ensures.at c.if-not-branch.false, c.lines.invariant.left, ap total front, c.in_ok-patch_line.ensures.long);
      under = λ ls k. under_next decodes p.address_size.bytes p.alignment p.start p.base ls keeps index x c.lines.image c.patch_line.new.image c.lines.position.at c.patch_line.new.position.at
          c.lines.position.contexts c.patch_line.new.position.contexts front
          (λ all done rest cs l is shape. subst (λ (b : Bool). IsNextOr decodes p.address_size.bytes p.alignment p.start p.base all done rest l c.patch_line.new.image c.patch_line.new.position.at c.patch_line.new.position.contexts b)
          c.if-not-branch.false (c.in_ok-patch_line.ensures.next all done rest cs l is shape)) (c.lines.invariant.under ls k);
    }

pub returns-clause-patched : goal.returns-clause-patched
returns-clause-patched g c ls k =
    let p = c.args.self.now in
    let past : length c.args.lines.now ≤ c.lines.index = search rules in
    under_all (g.D.Decoder.tells p.decoder.now) p.address_size.bytes p.alignment p.start p.base ls c.args.lines.now c.lines.index c.lines.image c.lines.position.at c.lines.position.contexts past
    (c.lines.invariant.under ls k)
