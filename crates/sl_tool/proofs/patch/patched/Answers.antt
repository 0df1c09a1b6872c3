use Rattle.std.proofs.Common.{ℕ, List, MatchResult, Result, Vec, Global, ap, subst, ◌∙◌}
use Rattle.std.proofs.lemmas.Result.{err_from_is_err_and}
use Rattle.sl_asm_lines.specs.Patched.{Fails, Gives as GivesImage}
use Rattle.sl_asm_lines.specs.declared.faults.LineError.{LineError}
use Rattle.sl_ast.specs.Trees.{Constructor}
use Rattle.sl_ast.specs.Unfolding.{Placed}
use Rattle.sl_ast.specs.Views.{items_of}
use Rattle.sl_bind_compile.specs.Outcomes.{all_constructors}
use Rattle.sl_spec.specs.declared.tables.Tables.{Tables}
use Rattle.sl_tool_request.specs.Views.{patch}
use Rattle.sl_tool.specs.Endings.{Shown}
use Rattle.sl_tool.specs.Patched.{PatchesText}
use Rattle.sl_tool_stages.specs.Assembling.{BeginsLines}
use Rattle.sl_tool_stages.specs.Problems.{refusal}
use Rattle.sl_tool_stages.specs.Stage.Then.{goes, stops}
use Rattle.sl_tool_stages.specs.StageViews.{compiled_view}
use Rattle.sl_tool_stages.specs.declared.problem.Problem.{Problem}
use Rattle.sl_tool_stages.proofs.ImageLemmas.{gives_err}
use Rattle.sl_tool.proofs.AnsweredLemmas.{text_shown}
use Rattle.sl_tool.proofs.ShowLemmas.{told_so}
use Rattle.sl_tool.proofs.patch.patched.Goals as goal

abbrev image_view : Vec ℕ Global → Shown
image_view image = text_shown image.items

abbrev same : ℕ → ℕ
same n = n

pub returns-in_err-start : goal.returns-in_err-start
returns-in_err-start c =
    let e = err_from_is_err_and c.from_residual.result c.from_residual.ensures.1 in
    let p = patch c.args.patch.now in
    let v = compiled_view c.args.compiled.now in
    rw (e.1, e.2) (gives_err (BeginsLines p v) (PatchesText p v c.args.text.now) same image_view c.in_err-start.field-0.0 (λ x s. stops s) c.in_err-start.ensures)

module _ (t : Tables) (cs : List (Placed Constructor)) (start : ℕ) (text : List ℕ) where
  abbrev IsMade : Result (Vec ℕ Global) LineError → Type 0
  IsMade r = MatchResult r (λ image. GivesImage t cs start text image.items) (λ e. Fails t cs start text e.number e.fault)

pub returns-in-Ok : goal.returns-in-Ok
returns-in-Ok c =
    let bound = c.args.compiled.now.specification.bound in
    let gives = subst (IsMade bound.tables (all_constructors (items_of bound.spec)) c.in_ok-start.start c.args.text.now) c.in-Ok.is c.in_ok-made.ensures in
    goes c.in_ok-start.ensures (told_so _ c.in-Ok.image.items gives)

pub returns-in_ok-refusal-in-Err : goal.returns-in_ok-refusal-in-Err
returns-in_ok-refusal-in-Err c =
    let bound = c.args.compiled.now.specification.bound in
    let e = c.in-Err.error in
    let fails = subst (IsMade bound.tables (all_constructors (items_of bound.spec)) c.in_ok-start.start c.args.text.now) c.in-Err.is c.in_ok-made.ensures in
    let told = c.in_ok-refusal-in-Err.ensures ∙ ap (λ (q : Problem). refusal c.args.patch.now.listing.now e.number q) c.problem_of-problem.ensures in
    goes c.in_ok-start.ensures (e.number, e.fault, fails, told)
