use Rattle.std.proofs.Common.{◌≡◌, drop}
use Rattle.std.specs.List.{list_any}
use Rattle.sl_build.specs.Views.{is_marked}
use Rattle.sl_build.proofs.unimplemented.has_marked.Given as goal

abbrev pub invariant-nodes : goal.invariant-nodes
invariant-nodes l = list_any (λ e. is_marked l.marks e.ctor) (drop l.index l.nodes) ≡ list_any (λ e. is_marked l.marks e.ctor) l.nodes
