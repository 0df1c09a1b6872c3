use Rattle.std.proofs.Common.{◌≡◌, rules, List, ap, subst, ◌∙◌}
use Rattle.sl_ast.specs.Views.{head_of}
use Rattle.sl_decode_leaves.specs.Blocks.{AreLeavesOfHead, AreTied}
use Rattle.sl_decode_leaves.specs.declared.blocks.BlockLeaves.{BlockLeaves}
use Rattle.sl_decode_leaves.specs.declared.leaves.Leaf as l
use Rattle.sl_decode_leaves.specs.declared.pattern_leaves.PatternLeaves.{PatternLeaves}
use Rattle.sl_decode_leaves.proofs.BlockLemmas.{kept_right}
use Rattle.sl_spec.proofs.MadeLemmas.{put_right}
use Rattle.sl_decode_leaves.proofs.blocks.make_leaves.Goals as goal

pub returns-clause-kept : goal.returns-clause-kept
returns-clause-kept c =
    let t = c.args.t.now in
    let os = c.args.operands.now in
    let x = c.in_ok-leaves.leaves.value in
    let copy : c.in_ok-copy.copy.value ≡ x = search (rules, c.in_ok-copy.ensures.cases) in
    let b : BlockLeaves = record { leaves = c.in_ok-copy.copy; tied = c.in_ok-tied.tied } in
    let its : c.as_slice.result.now ≡ x.leaves.items = c.as_slice.ensures.value ∙ ap (λ (y : PatternLeaves). y.leaves.items) c.deref.ensures in
    let tied = subst (λ (ls : List l.Leaf). AreTied t os c.in_ok-tied.tied.items ls) its c.in_ok-tied.ensures in
    let right = kept_right t os (head_of c.args.around.head.now) x b copy c.in_ok-leaves.ensures tied in
    λ head_at told made. put_right (AreLeavesOfHead t) head_at c.args.around told.0 c.args.made.now c.put.new.self b c.in_ok-put.ensures made right
