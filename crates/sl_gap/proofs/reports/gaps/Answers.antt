use Rattle.std.proofs.Common.{Bool, List, map, refl, subst, sym, ap, ◌∙◌}
use Rattle.sl_ast.specs.Trees.{Constructor}
use Rattle.sl_ast.specs.Unfolding.{Placed}
use Rattle.sl_ast.specs.Views.{item_of, items_of}
use Rattle.sl_ast.specs.declared.items.Item.{Item}
use Rattle.sl_bind_compile.specs.Outcomes.{all_constructors}
use Rattle.sl_conflict.specs.TableTests.{AreSetsOf}
use Rattle.sl_conflict.specs.declared.table_sets.TableSets.{TableSets}
use Rattle.sl_gap.proofs.GapLemmas.{kept_of, report_is}
use Rattle.sl_gap.specs.Findings.{AreFindings, AreKept, AreUnmarked}
use Rattle.sl_spec.specs.Unfolded.{all_placed}
use Rattle.sl_spec.specs.declared.unfolded.Unfolded.{Unfolded}
use Rattle.sl_gap.proofs.reports.gaps.Goals as goal

pub chosen_constructors-requires-clause-settled : goal.chosen_constructors-requires-clause-settled
chosen_constructors-requires-clause-settled c =
    let compiled = c.args.compiled.now in
    let cs = all_constructors (items_of compiled.bound.spec) in
    (subst (λ (kept : List TableSets). AreSetsOf compiled.bound.tables cs kept) (sym c.as_slice-kept.ensures.value) c.requires.sets).choices

pub findings-requires-clause-settled : goal.findings-requires-clause-settled
findings-requires-clause-settled c =
    let compiled = c.args.compiled.now in
    let cs = all_constructors (items_of compiled.bound.spec) in
    (subst (λ (kept : List TableSets). AreSetsOf compiled.bound.tables cs kept) (sym c.as_slice-kept.ensures.value) c.requires.sets).choices

pub returns : goal.returns
returns c =
    let compiled = c.args.compiled.now in
    let t = compiled.bound.tables in
    let items = items_of compiled.bound.spec in
    let cs = all_constructors items in
    let found = c.in_ok-found.found in
    let are = kept_of items t compiled.checked.tables.items c.requires.compiles c.requires.sets compiled.checked.paired in
    let sets = subst (λ (kept : List TableSets). AreSetsOf t cs kept) (sym c.as_slice-kept.ensures.value) c.requires.sets in
    let told = c.in_ok-tables.ensures t cs sets in
    let chosen = c.in_ok-marks.ensures t cs are.listed sets (sym c.len.ensures) in
    let un = subst (λ (marks : List Bool). AreUnmarked marks c.in_ok-shadowed.shadowed.items) c.as_slice-3.ensures.value c.in_ok-shadowed.ensures in
    let written = ap (λ (us : List Unfolded). all_placed us) c.as_slice-4.ensures.value ∙ c.in_ok-constructors.ensures.all
    ∙ ap (λ (is : List Item). all_constructors (map item_of is)) c.as_slice.ensures.value in
    let finds = subst (λ (ks : List (Placed Constructor)). AreKept t ks compiled.checked.tables.items → AreFindings t ks found) written
    (subst (λ (kept : List TableSets). AreKept t (all_placed c.as_slice-4.result.now) kept → AreFindings t (all_placed c.as_slice-4.result.now) found)
    c.as_slice-kept.ensures.value c.in_ok-found.ensures) in
    let sure = rw c.as_slice-6.ensures.value at c.is_sure-sure.ensures in
    report_is t cs compiled.checked.tables.items _ c.in_ok-marks.marks.items found are told chosen un (finds are) refl sure
