use Rattle.std.proofs.Common.{◌≡◌, ◌+◌, [], List, ap, ◌∙◌}
use Rattle.std.specs.Prelude.{slice_get, unwrap_or}
use Rattle.sl_build.proofs.SiteLemmas.{export_same, frame_same, placed_same, setting_same}
use Rattle.sl_build.specs.Views.{section_in, setting_in, template_in}
use Rattle.sl_build_emit.specs.Views.{lists_of, number_of, operations_of, reference_of, references_of}
use Rattle.sl_meaning_sections.specs.Nodes.{exported, frame_of}
use Rattle.sl_section_sizes.specs.Sizings as sizings
use Rattle.sl_build_template.specs.Placed.{placed}
use Rattle.sl_word.specs.declared.word.Size.{Size}
use Rattle.sl_build.proofs.trees.tree_by.Goals as goal

pub returns : goal.returns
returns c =
    let w = c.args.w.now in
    let of = w.of.now in
    let node = c.args.node.now in
    let operands = c.args.filled.now in
    let sec = section_in w node.ctor in
    let f = frame_of c.args.k sec (references_of operands.refs.items) in
    let sizes : List Size = unwrap_or (slice_get (sizings.lists_of of.sizes.now) node.ctor) [] in
    let g = setting_same of.tables.now.endian c.as_slice.result.now of.spaces.items of.default.0 (number_of w.start) (number_of w.next) c.as_slice.ensures.value in
    let here = frame_same c.args.k c.sizes_in.result.now sizes c.as_slice-2.result.now operands.refs.items c.sizes_in.ensures c.as_slice-2.ensures.value in
    let code : operations_of c.in_ok-list.list.items ≡ placed w.top (setting_in w) f (lists_of operands.lists.items) (template_in w node.ctor) =
    c.in_ok-list.ensures ∙ placed_same w.top _ _ _ _ _ _ _ _ g here (ap lists_of c.as_slice-3.ensures.value) c.requires.template in
    let reference : reference_of c.in_ok-reference.reference ≡ exported (setting_in w) f sec.steps = c.in_ok-reference.ensures ∙ export_same _ _ _ _ _ _ g here c.requires.steps in
    let nodes : c.in_ok-nodes.nodes ≡ node.below + 1 = c.in_ok-nodes.ensures in
    λ i. record { nodes = nodes i; length = node.length; reference = reference i; code = code i }
