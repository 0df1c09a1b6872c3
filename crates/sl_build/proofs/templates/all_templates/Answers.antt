use Rattle.std.proofs.Common.{◌∙◌, ap, arith, sym}
use Rattle.std.proofs.lemmas.List.{length-map}
use Rattle.sl_build.proofs.TemplateLemmas.{all_templates_by, next_template, pushed, template_here}
use Rattle.sl_build.specs.Views.{templates_of}
use Rattle.sl_section_all.specs.Views.{flat_of, flats_of}
use Rattle.sl_section_flat.specs.Views.{steps_of}
use Rattle.sl_section_flat.specs.declared.section.Section.{Section}
use Rattle.sl_section_sizes.specs.Sizings.{lists_of}
use Rattle.sl_build_template.specs.Views.{parts_of}
use Rattle.sl_word.specs.Sizes.{byte_counts}
use Rattle.sl_build.proofs.templates.all_templates.Goals as goal

pub sections-preserved : goal.sections-preserved
sections-preserved c =
    let sizes = byte_counts c.args.spaces.now in
    let lists = lists_of c.args.sizes.now in
    let xs = c.args.sections.now in
    let i = c.sections.index in
    let t = c.in_ok-made.made in
    next_template sizes c.args.default.0 (flats_of xs) lists (templates_of c.sections.all.items) (templates_of c.push.new.self.items) i (parts_of t.items) c.sections.invariant
    (template_here sizes c.args.default.0 xs lists i c.index-sections-index.result c.sizes_at.result.now (steps_of c.as_slice-steps.result.now) (parts_of t.items)
    c.sections-test.true c.index-sections-index.is c.sizes_at.ensures (ap steps_of c.as_slice-steps.ensures.value ∙ ap (λ (x : Section). steps_of x.steps.items) (sym c.index-sections-index.is)) c.in_ok-made.ensures)
    (pushed c.sections.all.items c.push.new.self.items t c.in_ok-push.ensures.items)

pub returns : goal.returns
returns c =
    let xs = c.args.sections.now in
    all_templates_by (byte_counts c.args.spaces.now) c.args.default.0 (flats_of xs) (lists_of c.args.sizes.now) (templates_of c.sections.all.items) c.sections.index c.sections.invariant
    (omega (arith, length-map xs flat_of, c.sections-test.false))
