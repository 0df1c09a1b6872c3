use Rattle.std.proofs.Common.{◌≡◌, ℕ, List, Option, length, map, set, arith, refl, sym, ap, ◌∙◌, subst}
use Rattle.std.proofs.lemmas.List.{length-map, length-set}
use Rattle.std.proofs.lemmas.Result.{err_from_is_err_and}
use Rattle.std.specs.List.{AllByRecursion}
use Rattle.std.specs.Prelude.{option_copied}
use Rattle.sl_shape_patterns.specs.Hulls.{IsHullOrNone, TableHas}
use Rattle.sl_cube.specs.declared.Cube.{Cube}
use Rattle.sl_base_graphs.specs.Views.{graph_of}
use Rattle.sl_cube_sets.specs.declared.CubeSet.{CubeSet}
use Rattle.sl_shape.specs.HeadsMade.{AreMarked, IsMarked}
use Rattle.sl_shape.specs.Next.{shapes_known}
use Rattle.sl_shape.specs.Tables.{constructors_of, numbers, pattern_at}
use Rattle.sl_shape.specs.declared.below.Below.{Below}
use Rattle.sl_shape.specs.declared.below.TokenLists.{TokenLists}
use Rattle.sl_shape.proofs.BelowLemmas.{all_there}
use Rattle.sl_shape.proofs.HeadLemmas.{right_more}
use Rattle.sl_shape.proofs.NamedLemmas.{read_some}
use Rattle.sl_shape.proofs.OrderLemmas.{named_each}
use Rattle.sl_shape.proofs.ShapeTableLemmas.{all_set, error_below, next_goes, none_next, same_but, shown_below}
use Rattle.sl_shape_tokens.proofs.ListLemmas.{keeps_more}
use Rattle.sl_shape_tokens.specs.Lists.{IsThere, seen}
use Rattle.sl_shape_tokens.specs.Shapes.{of_table}
use Rattle.sl_shape_tokens.specs.declared.shapes.Shape as code
use Rattle.sl_spec.specs.Unfolded.{all_placed, placed}
use Rattle.sl_shape.proofs.shaping.Known.shape_table.Goals as goal

pub returns-in_default-clause-next : goal.returns-in_default-clause-next
returns-in_default-clause-next c =
    none_next c.args.t.now (all_placed c.args.constructors.now) c.args.self.now (length c.args.constructors.now) c.args.table c.requires.right (sym c.at.ensures ∙ ap option_copied c.in_default.is)

pub returns-in_err-found-clause-fault : goal.returns-in_err-found-clause-fault
returns-in_err-found-clause-fault c =
    let e = err_from_is_err_and c.from_residual.result c.from_residual.ensures.1 in
    let old = c.args.self.now in
    let cs = all_placed c.args.constructors.now in
    let b : Below = record { tables = c.args.t; shapes = c.as_slice.result; hulls = c.as_slice-2.result } in
    let is_are : c.as_slice-ctors.result.now ≡ constructors_of c.args.t.now c.args.table = c.as_slice-ctors.ensures.value ∙ ap (λ b. b.constructors) c.of.view_is ∙ ap numbers c.in-Some.ensures in
    let shows = shown_below b cs old (length c.args.constructors.now) c.as_slice.ensures.value c.as_slice-2.ensures.value c.requires.right in
    rw (e.1, e.2) (error_below b cs old (length c.args.constructors.now) c.as_slice.ensures.value c.as_slice-2.ensures.value c.requires.right
    c.args.table c.as_slice-ctors.result.now is_are c.in_err-found.field-0.0 (c.in_err-found.ensures.fault (shapes_known old) shows))

pub index_mut-requires : goal.index_mut-requires
index_mut-requires c = omega (arith, c.requires.right.shapes, (read_some c.args.t.now.tables c.args.table c.in-Some.of.now (sym c.in-Some.ensures)).0)

pub index_mut-requires-2 : goal.index_mut-requires-2
index_mut-requires-2 c = omega (arith, c.requires.right.hulls, (read_some c.args.t.now.tables c.args.table c.in-Some.of.now (sym c.in-Some.ensures)).0)

pub returns-clause-right : goal.returns-clause-right
returns-clause-right c =
    let old = c.args.self.now in
    let b : Below = record { tables = c.args.t; shapes = c.as_slice.result; hulls = c.as_slice-2.result } in
    let shows = shown_below b (all_placed c.args.constructors.now) old (length c.args.constructors.now) c.as_slice.ensures.value c.as_slice-2.ensures.value c.requires.right in
    let added = c.in_ok-found.ensures.added (shapes_known old) shows in
    let sized = c.in_ok-found.ensures.sized in
    let lists = c.add_constructors.new.lists.all in
    let last = c.of_table.new.self in
    record {
      sizes = sized.sizes;
      old = sized.old;
      knows = sized.knows;
      keeps = keeps_more sized.old lists last sized.keeps c.in_ok-shape.ensures.keeps;
      there = all_set (IsThere last) old.shapes.items c.args.table c.in_ok-shape.shape
          (all_there old.lists.all last (keeps_more old.lists.all lists last added.lists c.in_ok-shape.ensures.keeps) old.shapes.items c.requires.right.there) c.in_ok-shape.ensures.there;
      sets = c.in_ok-found.ensures.counted;
      shapes = length-set old.shapes.items c.args.table c.in_ok-shape.shape ∙ c.requires.right.shapes;
      hulls = length-set old.hulls.items c.args.table c.table_hull-hull.result ∙ c.requires.right.hulls;
    }

pub returns-clause-next : goal.returns-clause-next
returns-clause-next c =
    let old = c.args.self.now in
    let cs = all_placed c.args.constructors.now in
    let b : Below = record { tables = c.args.t; shapes = c.as_slice.result; hulls = c.as_slice-2.result } in
    let is_are : c.as_slice-ctors.result.now ≡ constructors_of c.args.t.now c.args.table = c.as_slice-ctors.ensures.value ∙ ap (λ b. b.constructors) c.of.view_is ∙ ap numbers c.in-Some.ensures in
    let shows = shown_below b cs old (length c.args.constructors.now) c.as_slice.ensures.value c.as_slice-2.ensures.value c.requires.right in
    let added = c.in_ok-found.ensures.added (shapes_known old) shows in
    next_goes b cs old (length c.args.constructors.now) c.as_slice.ensures.value c.as_slice-2.ensures.value c.requires.right c.args.table c.as_slice-ctors.result.now is_are
    _ c.add_constructors.new.lists c.in_ok-found.found.items c.in_ok-shape.shape c.table_hull-hull.result added
    (c.in_ok-found.ensures.counted ∙ sym (length-map c.args.constructors.now placed)) c.in_ok-shape.ensures.keeps
    (c.in_ok-shape.ensures.shape ∙ ap (λ (l : List code.Shape). of_table (map (seen c.add_constructors.new.lists.all) l)) c.as_slice-3.ensures.value)
    refl refl
    (subst (λ (l : List CubeSet). IsHullOrNone (TableHas l c.as_slice-ctors.result.now) c.table_hull-hull.result) c.as_slice-4.ensures.value c.table_hull-hull.ensures)

pub add_constructors-requires-clause-right : goal.add_constructors-requires-clause-right
add_constructors-requires-clause-right c =
    let b : Below = record { tables = c.args.t; shapes = c.as_slice.result; hulls = c.as_slice-2.result } in
    let kept = c.requires.kept b (record { tables = refl; shapes = c.as_slice.ensures.value; hulls = c.as_slice-2.ensures.value }) in
    (kept.0, kept.1, c.mark_named.ensures.right b c.args.self.now.lists kept.0 kept.2)

pub add_constructors-requires-clause-marked : goal.add_constructors-requires-clause-marked
add_constructors-requires-clause-marked c =
    let t = c.args.t.now in
    let cs = all_placed c.args.constructors.now in
    let marks = c.mark_named.new.self.marks.items in
    let is_are : c.as_slice-ctors.result.now ≡ c.in-Some.of.now.constructors = c.as_slice-ctors.ensures.value ∙ ap (λ b. b.constructors) c.of.view_is in
    subst (λ (is : List ℕ). AllByRecursion (λ i. AreMarked t marks (pattern_at cs i)) is) (sym is_are)
    (named_each t cs (graph_of c.args.graph.now) c.requires.graph (IsMarked marks) c.args.table c.in-Some.of.now (sym c.in-Some.ensures) c.mark_named.ensures.marked)

pub returns-clause-kept : goal.returns-clause-kept
returns-clause-kept c = λ next below.
    let old = c.args.self.now in
    let b : Below = record { tables = c.args.t; shapes = c.as_slice.result; hulls = c.as_slice-2.result } in
    let lists = c.add_constructors.new.lists in
    let last : TokenLists = record { all = c.of_table.new.self; bytes = lists.bytes } in
    let added = c.in_ok-found.ensures.added (shapes_known old)
    (shown_below b (all_placed c.args.constructors.now) old (length c.args.constructors.now) c.as_slice.ensures.value c.as_slice-2.ensures.value c.requires.right) in
    let there = all_set (IsThere last.all) old.shapes.items c.args.table c.in_ok-shape.shape
    (all_there old.lists.all last.all (keeps_more old.lists.all lists.all last.all added.lists c.in_ok-shape.ensures.keeps) old.shapes.items c.requires.right.there) c.in_ok-shape.ensures.there in
    let same = same_but b next last c.args.table c.in_ok-shape.shape c.table_hull-hull.result (sym below.tables)
    (subst (λ (l : List code.Shape). AllByRecursion (IsThere last.all) l) (sym below.shapes) there)
    (below.shapes ∙ ap (λ (l : List code.Shape). set l c.args.table c.in_ok-shape.shape) (sym c.as_slice.ensures.value))
    (below.hulls ∙ ap (λ (l : List (Option Cube)). set l c.args.table c.table_hull-hull.result) (sym c.as_slice-2.ensures.value)) in
    let right = c.in_ok-found.ensures.right in
    (right.0, right.1, c.table_put.ensures b next last right.0 same (right_more b lists last c.in_ok-shape.ensures.keeps right.0 c.add_constructors.new.made right.2))
