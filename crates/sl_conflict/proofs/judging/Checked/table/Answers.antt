use Rattle.std.proofs.Common.{List, All, subst, sym}
use Rattle.sl_conflict.specs.Kept.{HasChoices}
use Rattle.sl_conflict.specs.declared.table_sets.TableSets.{TableSets}
use Rattle.sl_conflict.proofs.TableLemmas.{found}
use Rattle.sl_conflict.proofs.judging.Checked.table.Goals as goal

pub returns-clause-settled : goal.returns-clause-settled
returns-clause-settled c =
    let all = subst (λ (xs : List TableSets). All (λ kept. ∥ HasChoices kept ∥₁) xs) (sym c.deref.ensures.value) c.args.self.now.settled in
    found (λ kept. ∥ HasChoices kept ∥₁) (λ k. k.now) c.deref.result.now c.index.result _ c.get.result c.get.ensures.lookup.3 all
