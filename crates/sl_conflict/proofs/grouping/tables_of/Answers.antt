use Rattle.std.proofs.Common.{◌≡◌, ◌++◌, ◌∷◌, [], List, length, refl, ap, ◌∙◌, sym, subst, arith}
use Rattle.std.proofs.lemmas.List.{append_assoc, append-nil, length_push, nil_from_length}
use Rattle.std.specs.Vec.Iter.{into_iter_items}
use Rattle.sl_cube_sets.specs.declared.CubeSet.{CubeSet}
use Rattle.sl_conflict.specs.Kept.{AreTablesOf}
use Rattle.sl_conflict.specs.Rows.{Row, rows}
use Rattle.sl_conflict.proofs.RowLemmas.{no_sets}
use Rattle.sl_conflict.proofs.grouping.tables_of.Goals as goal

pub sets-init : goal.sets-init
sets-init c =
    let g = c.into_iter-set-iterator.ensures.into_iter_gives in
    record {
      numbered = refl;
      together = g.0;
      left = ap (λ (l : List CubeSet). length l) g.0 ∙ omega (arith, g.1, c.args.sets.ok.0);
      tables = subst (λ (rs : List Row). AreTablesOf c.args.count rs c.in_ok-tables.tables.items) (sym (no_sets c.args.ctors.now)) c.in_ok-tables.ensures;
    }

pub sets-preserved : goal.sets-preserved
sets-preserved c =
    let s = c.in-Some.ensures.steps in
    record {
      numbered = length_push c.sets.yielded c.in-Some.set ∙ omega (arith, c.sets.invariant.numbered, c.in_ok-number.ensures);
      together = append_assoc c.sets.yielded (c.in-Some.set ∷ []) (into_iter_items c.next.new.self)
          ∙ ap (λ (l : List CubeSet). c.sets.yielded ++ l) (sym s.0) ∙ c.sets.invariant.together;
      left = omega (arith, ap (λ (l : List CubeSet). length l) s.0, s.1, c.sets.invariant.left);
      tables = c.in_ok-add_set.ensures c.args.count c.sets.yielded c.sets.invariant.numbered c.sets.invariant.tables;
    }

pub returns : goal.returns
returns c =
    let s = c.in-None.ensures.steps in
    let none : into_iter_items c.sets.set-iterator ≡ [] = nil_from_length (into_iter_items c.sets.set-iterator) (c.sets.invariant.left ∙ s.0) in
    let all : c.sets.yielded ≡ c.args.sets.items =
    sym (append-nil c.sets.yielded) ∙ ap (λ (l : List CubeSet). c.sets.yielded ++ l) (sym none) ∙ c.sets.invariant.together in
    subst (λ (l : List CubeSet). AreTablesOf c.args.count (rows c.args.ctors.now l) c.sets.tables.items) all c.sets.invariant.tables
