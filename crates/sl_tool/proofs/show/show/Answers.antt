use Rattle.std.proofs.Common.{refl}
use Rattle.std.proofs.lemmas.Result.{err_from_is_err_and}
use Rattle.sl_tool_request.specs.Views.{target}
use Rattle.sl_tool.specs.Answers.{Shows, shows_of}
use Rattle.sl_tool.specs.Growth.{Grew}
use Rattle.sl_tool.specs.Requests.{show_of}
use Rattle.sl_tool_stages.specs.Stage.{Then}
use Rattle.sl_tool_stages.specs.Stage.Then.{stops, goes}
use Rattle.sl_tool_stages.specs.Stages.{Loads}
use Rattle.sl_tool_stages.specs.StageViews.{compiled_view, loaded_view}
use Rattle.sl_tool.proofs.AnsweredLemmas.{grew_none, read_all, show_unwritten, show_writes, stop_sink, stop_writes, writes_map}
use Rattle.sl_tool.proofs.show.show.Goals as goal

-- ---- the image is none

pub returns-in_err-loaded-clause-writes : goal.returns-in_err-loaded-clause-writes
returns-in_err-loaded-clause-writes g c =
    let p = err_from_is_err_and c.from_residual.result c.from_residual.ensures.1 in
    let told = g.F.Files.told c.args.files.now in
    let t = target c.args.target.now in
    let n = g.R.Runner.count c.args.runner.now in
    let v = compiled_view c.args.compiled in
    rw (p.1, p.2) (stop_writes (Loads told t v) loaded_view (Then (Loads told t) (Shows (shows_of (show_of c.args.what))) v) _ (Grew n n) c.in_err-loaded.field-0.0
    (λ e s. stops s) (grew_none n 0 (g.R.Runner.small c.args.runner.now) refl) c.in_err-loaded.ensures.gives)

pub returns-in_err-loaded-clause-files : goal.returns-in_err-loaded-clause-files
returns-in_err-loaded-clause-files g c =
    let p = err_from_is_err_and c.from_residual.result c.from_residual.ensures.1 in
    rw (p.1, p.2) c.in_err-loaded.ensures.files

pub returns-in_err-loaded-clause-sink : goal.returns-in_err-loaded-clause-sink
returns-in_err-loaded-clause-sink g c =
    let p = err_from_is_err_and c.from_residual.result c.from_residual.ensures.1 in
    let told = g.F.Files.told c.args.files.now in
    rw (p.1, p.2) (stop_sink (Loads told (target c.args.target.now) (compiled_view c.args.compiled)) loaded_view g.K.Sink.faults g.K.Sink.calls c.args.out.now
    c.in_err-loaded.field-0.0 c.in_err-loaded.ensures.gives)

-- ---- it is shown

pub returns-clause-writes : goal.returns-clause-writes
returns-clause-writes g c =
    let told = g.F.Files.told c.args.files.now in
    let t = target c.args.target.now in
    let what = show_of c.args.what in
    let l = loaded_view c.in_ok-loaded.loaded in
    writes_map (Shows (shows_of what) l) (Then (Loads told t) (Shows (shows_of what)) (compiled_view c.args.compiled)) _ _ _ c.show_image.result
    (λ x d. goes c.in_ok-loaded.ensures.gives d) (show_writes (shows_of what) l _ _ _ c.show_image.result c.show_image.ensures.streams)

pub returns-clause-files : goal.returns-clause-files
returns-clause-files g c =
    let l = loaded_view c.in_ok-loaded.loaded in
    read_all g.F.Files.told g.F.Files.faults g.F.Files.asked _ _ _ _ _ (shows_of (show_of c.args.what) l) _ _ _ c.show_image.result
    c.in_ok-loaded.ensures.files (λ n. n) c.show_image.ensures.streams

pub returns-clause-unwritten : goal.returns-clause-unwritten
returns-clause-unwritten g c = show_unwritten (shows_of (show_of c.args.what) (loaded_view c.in_ok-loaded.loaded)) _ _ _ c.show_image.result c.show_image.ensures.streams
