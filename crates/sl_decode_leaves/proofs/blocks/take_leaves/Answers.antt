use Rattle.std.proofs.Common.{Option, subst}
use Rattle.std.specs.Option.{IfSome, option_copied}
use Rattle.std.specs.declared.alloc.Global.{Global}
use Rattle.std.specs.declared.rc.Rc.{Rc}
use Rattle.sl_decode_leaves.specs.Blocks.{IsTaken}
use Rattle.sl_decode_leaves.specs.declared.pattern_leaves.PatternLeaves.{PatternLeaves}
use Rattle.sl_decode_leaves.proofs.BlockLemmas.{taken_right}
use Rattle.sl_decode_leaves.proofs.blocks.take_leaves.Goals as goal

pub returns-in-Some-clause-leaves : goal.returns-in-Some-clause-leaves
returns-in-Some-clause-leaves c =
    let t = c.args.t.now in
    let os = c.args.operands.now in
    let found = option_copied c.get.result in
    let taken = subst (λ (o : Option (Rc PatternLeaves Global)). IfSome o (λ x. IsTaken t os found x.value)) c.in-Some.is c.in_ok-leaves.ensures in
    taken_right t os found c.args.around c.args.made.now c.in-Some.leaves.value c.get.ensures c.requires taken
