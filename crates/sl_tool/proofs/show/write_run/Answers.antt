use Rattle.std.proofs.Common.{ℕ, List, refl, subst}
use Rattle.std.proofs.lemmas.Result.{err_from_is_err_and}
use Rattle.sl_list_instructions.specs.Fronts.{AppendsFront}
use Rattle.sl_section_sizes.specs.Sizings.{lists_of}
use Rattle.sl_tool.specs.Answers.{shows_of}
use Rattle.sl_tool.specs.Endings.{ending_of, shown}
use Rattle.sl_tool.specs.Growth.{Grew}
use Rattle.sl_tool.specs.Request.{Run}
use Rattle.sl_tool_stages.specs.StageViews.{loaded_view}
use Rattle.sl_tool.proofs.ShowLemmas.{written_front}
use Rattle.sl_tool.proofs.show.write_run.Goals as goal

pub returns-in_err-write_all-clause-streams : goal.returns-in_err-write_all-clause-streams
returns-in_err-write_all-clause-streams g c =
    let p = err_from_is_err_and c.from_residual-in_err-write_all.result c.from_residual-in_err-write_all.ensures.1 in
    let l = loaded_view c.args.loaded.now in
    let r = c.in_ok-ran.ran in
    let sizes = lists_of c.args.loaded.now.compiled.specification.bound.sizes.items in
    let old = g.R.Runner.count c.args.runner.now in
    let new = g.R.Runner.count c.run_image.new.runner in
    let runs = c.in_ok-ran.ensures in
    let front = subst (λ (b : List ℕ). AppendsFront (g.K.Sink.taken c.args.out.now) (g.K.Sink.taken c.write_all.new.out) b) c.as_slice.ensures.value c.in_err-write_all.ensures.front in
    rw (p.1, p.2) (written_front (shows_of (Run c.args.steps) l) _ _ (Grew old new) (shown (ending_of r.stopped) r.text.items runs.count) c.in_err-write_all.field-0.0
    (record { sizes = sizes; bound = c.requires.compiled.binds; stopped = r.stopped; ending = refl; runs = runs.tells }) runs.counted c.in_err-write_all.ensures.writing front)
