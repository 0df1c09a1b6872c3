use Rattle.std.proofs.Common.{◌≡◌, ◌∷◌, List, length, ap, sym, subst, ◌∙◌, Vec, Global}
use Rattle.std.specs.List.{zip}
use Rattle.sl_spec.specs.Tables.{Ctor}
use Rattle.sl_spec.specs.Unfolded.{all_placed}
use Rattle.sl_spec_tables.specs.BlockLengths.{AreToldGroups, AreToldRows}
use Rattle.sl_spec_tables.specs.Rows as spec
use Rattle.sl_spec_tables.specs.TableRules.{amount_rules, early_rules, first_fault, reaching_place}
use Rattle.sl_spec_tables.specs.Views.{groups_of, rows_of}
use Rattle.sl_spec_tables.specs.declared.rows.Row.{Row}
use Rattle.sl_spec_tables.proofs.JudgeLemmas.{ends_early, ends_late}
use Rattle.sl_spec_tables.proofs.judge.judge_tables.Goals as goal

pub reaching_fault-requires-clause-groups : goal.reaching_fault-requires-clause-groups
reaching_fault-requires-clause-groups c =
    let numbered = c.requires in
    let rows = subst (λ (l : List Row). AreToldRows numbered.0 l) (sym c.as_slice-3.ensures.value) (c.in_ok-rows.ensures.told numbered.0 numbered.1) in
    (numbered.0, subst (λ (l : List (Vec Row Global)). AreToldGroups numbered.0 l) (sym c.as_slice-4.ensures.value) (c.in_ok-groups.ensures.told numbered.0 rows), c.in_ok-made.ensures numbered.0 numbered.1)

pub reaching_fault-requires-clause-rows : goal.reaching_fault-requires-clause-rows
reaching_fault-requires-clause-rows c =
    let numbered = c.requires in
    (numbered.0, subst (λ (l : List Row). AreToldRows numbered.0 l) (sym c.as_slice-5.ensures.value) (c.in_ok-rows.ensures.told numbered.0 numbered.1), c.in_ok-made.ensures numbered.0 numbered.1)

pub returns-in-Some : goal.returns-in-Some
returns-in-Some c =
    let t = c.args.t.now in
    let cs = all_placed c.args.constructors.now in
    let rs = rows_of c.in_ok-rows.rows.items in
    let is : rs ≡ spec.rows t cs = c.in_ok-rows.ensures.all ∙ ap (λ (l : List Ctor). zip l cs) c.as_slice.ensures in
    let early : c.early_fault.result ≡ first_fault (early_rules t rs) = c.early_fault.ensures ∙ ap (λ (l : List Row). first_fault (early_rules t (rows_of l))) c.as_slice-2.ensures.value in
    ends_early t cs rs c.in-Some.fault is (sym early ∙ c.in-Some.is)

pub returns : goal.returns
returns c =
    let t = c.args.t.now in
    let cs = all_placed c.args.constructors.now in
    let rs = rows_of c.in_ok-rows.rows.items in
    let gs = groups_of c.in_ok-groups.groups.items in
    let is : rs ≡ spec.rows t cs = c.in_ok-rows.ensures.all ∙ ap (λ (l : List Ctor). zip l cs) c.as_slice.ensures in
    let early : c.early_fault.result ≡ first_fault (early_rules t rs) = c.early_fault.ensures ∙ ap (λ (l : List Row). first_fault (early_rules t (rows_of l))) c.as_slice-2.ensures.value in
    let grouped : gs ≡ spec.groups (length t.tables) rs = c.in_ok-groups.ensures.all ∙ ap (λ n. spec.groups n (rows_of c.as_slice-3.result.now)) c.len.ensures ∙ ap (λ (l : List Row). spec.groups (length t.tables) (rows_of l)) c.as_slice-3.ensures.value in
    let rest : c.in_ok-fault.fault ≡ first_fault ((34, reaching_place gs rs) ∷ amount_rules t gs rs) =
    c.in_ok-fault.ensures
    ∙ ap (λ x. first_fault ((34, reaching_place (groups_of x) (rows_of c.as_slice-5.result.now)) ∷ amount_rules t (groups_of x) (rows_of c.as_slice-5.result.now))) c.as_slice-4.ensures.value
    ∙ ap (λ (l : List Row). first_fault ((34, reaching_place gs (rows_of l)) ∷ amount_rules t gs (rows_of l))) c.as_slice-5.ensures.value in
    ends_late t cs rs gs c.in_ok-fault.fault is grouped (sym early ∙ c.in_default.is) rest
