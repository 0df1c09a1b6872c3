use Rattle.std.proofs.Common.{List, map, ap, ◌∙◌}
use Rattle.std.proofs.lemmas.Result.{err_from_is_err_and}
use Rattle.sl_tool_contexts.specs.Words.{starting_context}
use Rattle.sl_tool_request.specs.Views.{assembly, field}
use Rattle.sl_tool_request.specs.declared.request.FieldValue.{FieldValue}
use Rattle.sl_tool_stages.specs.Assembling.{Bases, Begins, Permits}
use Rattle.sl_tool_stages.specs.Stage.Then.{goes, stops}
use Rattle.sl_tool_stages.specs.Stages.{opened}
use Rattle.sl_tool_stages.specs.StageViews.{compiled_view}
use Rattle.sl_tool_stages.specs.Values.{Compiled}
use Rattle.sl_tool_stages.proofs.ImageLemmas.{Opening, context, gives_err}
use Rattle.sl_tool_stages.proofs.beginning.begin.Goals as goal

abbrev still : Compiled → Unit {0} → Compiled
still v done = v

pub returns-in_err-permit : goal.returns-in_err-permit
returns-in_err-permit c =
    let p = err_from_is_err_and c.from_residual.result c.from_residual.ensures.1 in
    let a = assembly c.args.assembly.now in
    let v = compiled_view c.args.compiled.now in
    rw (p.1, p.2) (gives_err (Permits a.takes_actions v) (Begins a v) (still v) context c.in_err-permit.field-0.0 (λ x s. stops (stops s)) c.in_err-permit.ensures)

pub returns-in_err-rest_on : goal.returns-in_err-rest_on
returns-in_err-rest_on c =
    let p = err_from_is_err_and c.from_residual-in_err-rest_on.result c.from_residual-in_err-rest_on.ensures.1 in
    let a = assembly c.args.assembly.now in
    let v = compiled_view c.args.compiled.now in
    rw (p.1, p.2) (gives_err (Bases a v) (Begins a v) (still v) context c.in_err-rest_on.field-0.0 (λ x s. stops (goes c.in_ok-permit.ensures s)) c.in_err-rest_on.ensures)

pub returns-in_err-context : goal.returns-in_err-context
returns-in_err-context c =
    let p = err_from_is_err_and c.from_residual-in_err-context.result c.from_residual-in_err-context.ensures.1 in
    let a = assembly c.args.assembly.now in
    let v = compiled_view c.args.compiled.now in
    let words = ap (λ (l : List FieldValue). opened (starting_context v.tables (map field l))) c.as_slice.ensures.value in
    rw (p.1, p.2) (gives_err (Opening v.tables c.as_slice.result.now) (Begins a v) context context c.in_err-context.field-0.0
    (λ x s. goes (goes c.in_ok-permit.ensures c.in_ok-rest_on.ensures) (s ∙ words)) c.in_err-context.ensures)

pub returns : goal.returns
returns c =
    let v = compiled_view c.args.compiled.now in
    let words = ap (λ (l : List FieldValue). opened (starting_context v.tables (map field l))) c.as_slice.ensures.value in
    goes (goes c.in_ok-permit.ensures c.in_ok-rest_on.ensures) (c.in_ok-context.ensures ∙ words)
