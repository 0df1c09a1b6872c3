use Rattle.std.proofs.Common.{◌≡◌, ℕ, Bool, true, List, get_or, set, take, sym, subst}
use Rattle.std.proofs.lemmas.List.{take_more}
use Rattle.std.specs.List.{AllByRecursion}
use Rattle.sl_shape.specs.HeadsMade.{IsMarked}
use Rattle.sl_shape.proofs.CarryLemmas.{all_each}
use Rattle.sl_shape.proofs.KeptLemmas.{marked_here, marked_still}
use Rattle.sl_spec.proofs.KeyedLemmas.{all_push}
use Rattle.sl_shape.proofs.below.mark_all.Goals as goal

pub tables-preserved : goal.tables-preserved
tables-preserved c =
    let tables = c.args.tables.now in
    let i = c.tables.index in
    let table = get_or tables i 0 in
    let old = c.tables.marks.items in
    let new = c.mark.new.marks.items in
    let put : new ≡ set old table true = c.mark.ensures in
    let still : (w : ℕ) → IsMarked old w → IsMarked new w = λ w m. subst (λ (l : List Bool). IsMarked l w) (sym put) (marked_still old table w m) in
    let here : IsMarked new table = subst (λ (l : List Bool). IsMarked l table) (sym put) (marked_here old table) in
    record {
      marked = subst (λ (l : List ℕ). AllByRecursion (IsMarked new) l) (sym (take_more tables i 0 c.tables-test.true))
          (all_push (IsMarked new) (take i tables) table (all_each (IsMarked old) (IsMarked new) still (take i tables) c.tables.invariant.marked) here);
      still = λ w m. still w (c.tables.invariant.still w m);
    }
