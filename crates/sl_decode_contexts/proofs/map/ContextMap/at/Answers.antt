use Rattle.std.proofs.Common.{sym, ap, ◌∙◌, subst}
use Rattle.sl_decode_contexts.specs.Commits.{IsContextAt}
use Rattle.sl_decode_contexts.specs.Kept.{Kept}
use Rattle.sl_decode_contexts.specs.Runs.{AreSound, Stands, TellsAll}
use Rattle.sl_decode_contexts.specs.Trees.{seen}
use Rattle.sl_decode_contexts.proofs.SeenLemmas.{tree_right, nothing_right}
use Rattle.sl_decode_contexts.proofs.map.ContextMap.at.Goals as goal

pub returns-in-Some : goal.returns-in-Some
returns-in-Some c start cs stands =
    let tree = c.in-Some.tree in
    let kept : Kept = record { start = c.self.inside.start; runs = c.self.inside.runs } in
    let s : Stands kept start cs = subst (λ k. Stands k start cs) (sym c.self.view_is) stands in
    subst (IsContextAt start cs c.args.address) (ap (λ b. seen b tree c.args.address) (sym s.start_is) ∙ sym c.seen.ensures)
    (tree_right cs start tree c.args.address (subst AreSound c.in-Some.is s.sound) (subst (TellsAll cs) c.in-Some.is s.tells))

pub returns-in-None : goal.returns-in-None
returns-in-None c start cs stands =
    let kept : Kept = record { start = c.self.inside.start; runs = c.self.inside.runs } in
    let s : Stands kept start cs = subst (λ k. Stands k start cs) (sym c.self.view_is) stands in
    subst (IsContextAt start cs c.args.address) (sym s.start_is) (nothing_right cs start c.args.address (subst (TellsAll cs) c.in-None.is s.tells))
