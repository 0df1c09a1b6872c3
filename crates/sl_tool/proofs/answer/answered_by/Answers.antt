use Rattle.std.proofs.Common.{Some, refl, subst, sym}
use Rattle.std.proofs.lemmas.Result.{err_from_is_err_and}
use Rattle.sl_outside.specs.Uses.{UsesFiles}
use Rattle.sl_tool_request.specs.Views.{assembly, patch, target}
use Rattle.sl_tool.specs.Answers.{Follows, Shows, asked_after, counts_of, figures_of, gaps_of, packs_of, shows_of}
use Rattle.sl_tool.specs.Assembled.{Assembles}
use Rattle.sl_tool.specs.Ends.{RunsNothing}
use Rattle.sl_tool.specs.Patched.{PatchesFile}
use Rattle.sl_tool.specs.Growth.{Grew}
use Rattle.sl_tool.specs.Requests.{request, show_of}
use Rattle.sl_tool.specs.declared.request.Request.{Request}
use Rattle.sl_tool_stages.specs.Outcomes.{FailsToRead, IsEarly}
use Rattle.sl_tool_stages.specs.Stage.{Then}
use Rattle.sl_tool_stages.specs.Stage.Then.{stops, goes}
use Rattle.sl_tool_stages.specs.Stages.{Compiles, Loads}
use Rattle.sl_tool_stages.specs.StageViews.{compiled_view, tree_view}
use Rattle.sl_tool.proofs.AnsweredLemmas.{follows, grew_none, idle, never_reads, show_unwritten, show_writes, stop_after, stop_sink, stop_writes, streams_alike, writes_alike, writes_map}
use Rattle.sl_tool_stages.proofs.HaltLemmas.{gives_obtains}
use Rattle.sl_tool.proofs.answer.answered_by.Goals as goal

-- ---- the tree isn't sound

pub returns-in_err-compiled-clause-writes : goal.returns-in_err-compiled-clause-writes
returns-in_err-compiled-clause-writes g c =
    let p = err_from_is_err_and c.from_residual.result c.from_residual.ensures.1 in
    let told = g.F.Files.told c.args.files.now in
    let r = request c.args.request.now in
    let n = g.R.Runner.count c.args.runner.now in
    let u = tree_view c.args.tree in
    let h = c.in_err-compiled.field-0.0 in
    rw (p.1, p.2) (stop_writes (Compiles u) compiled_view (Then Compiles (Follows told r) u) _ (Grew n n) h (λ e t. stops t)
    (grew_none n 0 (g.R.Runner.small c.args.runner.now) refl) (gives_obtains (Compiles u) compiled_view h c.in_err-compiled.ensures.gives))

pub returns-in_err-compiled-clause-files : goal.returns-in_err-compiled-clause-files
returns-in_err-compiled-clause-files g c =
    let p = err_from_is_err_and c.from_residual.result c.from_residual.ensures.1 in
    rw (p.1, p.2) (stop_after g.F.Files.told g.F.Files.faults g.F.Files.asked (request c.args.request.now) (tree_view c.args.tree) compiled_view _ c.in_err-compiled.field-0.0
    c.in_err-compiled.ensures.gives)

pub returns-in_err-compiled-clause-sink : goal.returns-in_err-compiled-clause-sink
returns-in_err-compiled-clause-sink g c =
    let p = err_from_is_err_and c.from_residual.result c.from_residual.ensures.1 in
    let u = tree_view c.args.tree in
    let h = c.in_err-compiled.field-0.0 in
    rw (p.1, p.2) (stop_sink (Compiles u) compiled_view g.K.Sink.faults g.K.Sink.calls c.args.out.now h
    (gives_obtains (Compiles u) compiled_view h c.in_err-compiled.ensures.gives))

-- ---- a specification is checked

pub returns-in-Check-clause-writes : goal.returns-in-Check-clause-writes
returns-in-Check-clause-writes g c =
    let explains = c.in-Check.explains in
    let told = g.F.Files.told c.args.files.now in
    let r = request c.args.request.now in
    let n = g.R.Runner.count c.args.runner.now in
    let v = compiled_view c.in_ok-compiled.compiled in
    writes_map (Shows (counts_of explains) v) (Then Compiles (Follows told r) (tree_view c.args.tree)) _ _ (Grew n n) c.check.result
    (λ x t. goes c.in_ok-compiled.ensures.gives (subst (λ (q : Request). Follows told (request q) v x) (sym c.in-Check.is) t))
    (show_writes (counts_of explains) v _ _ (Grew n n) c.check.result (streams_alike (counts_of explains v) _ _ n c.check.result (g.R.Runner.small c.args.runner.now) c.check.ensures.streams))

pub returns-in-Check-clause-files : goal.returns-in-Check-clause-files
returns-in-Check-clause-files g c =
    let explains = c.in-Check.explains in
    let v = compiled_view c.in_ok-compiled.compiled in
    let f = c.args.files.now in
    follows g.F.Files.told g.F.Files.faults g.F.Files.asked (request c.args.request.now) _ _ (tree_view c.args.tree) v _ _ c.in_ok-compiled.ensures.gives
    (subst (λ (q : Request). UsesFiles g.F.Files.told g.F.Files.faults g.F.Files.asked f f (asked_after (request q))
    (IsEarly c.check.result) (FailsToRead c.check.result)) (sym c.in-Check.is)
    (idle g.F.Files.told g.F.Files.faults g.F.Files.asked f _ _ (never_reads (counts_of explains v) _ _ _ c.check.result c.check.ensures.streams)))

pub returns-in-Check-clause-unwritten : goal.returns-in-Check-clause-unwritten
returns-in-Check-clause-unwritten g c = show_unwritten (counts_of c.in-Check.explains (compiled_view c.in_ok-compiled.compiled)) _ _ _ c.check.result c.check.ensures.streams

-- ---- what it leaves unmatched is reported

pub returns-in-Gaps-clause-writes : goal.returns-in-Gaps-clause-writes
returns-in-Gaps-clause-writes g c =
    let told = g.F.Files.told c.args.files.now in
    let r = request c.args.request.now in
    let n = g.R.Runner.count c.args.runner.now in
    let v = compiled_view c.in_ok-compiled.compiled in
    writes_map (Shows gaps_of v) (Then Compiles (Follows told r) (tree_view c.args.tree)) _ _ (Grew n n) c.report.result
    (λ x t. goes c.in_ok-compiled.ensures.gives (subst (λ (q : Request). Follows told (request q) v x) (sym c.in-Gaps.is) t))
    (show_writes gaps_of v _ _ (Grew n n) c.report.result (streams_alike (gaps_of v) _ _ n c.report.result (g.R.Runner.small c.args.runner.now) c.report.ensures.streams))

pub returns-in-Gaps-clause-files : goal.returns-in-Gaps-clause-files
returns-in-Gaps-clause-files g c =
    let v = compiled_view c.in_ok-compiled.compiled in
    let f = c.args.files.now in
    follows g.F.Files.told g.F.Files.faults g.F.Files.asked (request c.args.request.now) _ _ (tree_view c.args.tree) v _ _ c.in_ok-compiled.ensures.gives
    (subst (λ (q : Request). UsesFiles g.F.Files.told g.F.Files.faults g.F.Files.asked f f (asked_after (request q))
    (IsEarly c.report.result) (FailsToRead c.report.result)) (sym c.in-Gaps.is)
    (idle g.F.Files.told g.F.Files.faults g.F.Files.asked f _ _ (never_reads (gaps_of v) _ _ _ c.report.result c.report.ensures.streams)))

pub returns-in-Gaps-clause-unwritten : goal.returns-in-Gaps-clause-unwritten
returns-in-Gaps-clause-unwritten g c = show_unwritten (gaps_of (compiled_view c.in_ok-compiled.compiled)) _ _ _ c.report.result c.report.ensures.streams

-- ---- it is packed

pub pack-requires : goal.pack-requires
pack-requires g c = c.in_ok-compiled.ensures.packable c.requires

pub returns-in-Pack-clause-writes : goal.returns-in-Pack-clause-writes
returns-in-Pack-clause-writes g c =
    let told = g.F.Files.told c.args.files.now in
    let r = request c.args.request.now in
    let n = g.R.Runner.count c.args.runner.now in
    let v = compiled_view c.in_ok-compiled.compiled in
    writes_map (Shows packs_of v) (Then Compiles (Follows told r) (tree_view c.args.tree)) _ _ (Grew n n) c.pack.result
    (λ x t. goes c.in_ok-compiled.ensures.gives (subst (λ (q : Request). Follows told (request q) v x) (sym c.in-Pack.is) t))
    (show_writes packs_of v _ _ (Grew n n) c.pack.result (streams_alike (packs_of v) _ _ n c.pack.result (g.R.Runner.small c.args.runner.now) c.pack.ensures.streams))

pub returns-in-Pack-clause-files : goal.returns-in-Pack-clause-files
returns-in-Pack-clause-files g c =
    let v = compiled_view c.in_ok-compiled.compiled in
    let f = c.args.files.now in
    follows g.F.Files.told g.F.Files.faults g.F.Files.asked (request c.args.request.now) _ _ (tree_view c.args.tree) v _ _ c.in_ok-compiled.ensures.gives
    (subst (λ (q : Request). UsesFiles g.F.Files.told g.F.Files.faults g.F.Files.asked f f (asked_after (request q))
    (IsEarly c.pack.result) (FailsToRead c.pack.result)) (sym c.in-Pack.is)
    (idle g.F.Files.told g.F.Files.faults g.F.Files.asked f _ _ (never_reads (packs_of v) _ _ _ c.pack.result c.pack.ensures.streams)))

pub returns-in-Pack-clause-unwritten : goal.returns-in-Pack-clause-unwritten
returns-in-Pack-clause-unwritten g c = show_unwritten (packs_of (compiled_view c.in_ok-compiled.compiled)) _ _ _ c.pack.result c.pack.ensures.streams

-- ---- a text is assembled

pub returns-in-Assemble-clause-writes : goal.returns-in-Assemble-clause-writes
returns-in-Assemble-clause-writes g c =
    let told = g.F.Files.told c.args.files.now in
    let r = request c.args.request.now in
    let n = g.R.Runner.count c.args.runner.now in
    let v = compiled_view c.in_ok-compiled.compiled in
    let S = Assembles (assembly c.in-Assemble.assembly) in
    writes_map (S v) (Then Compiles (Follows told r) (tree_view c.args.tree)) _ _ (Grew n n) c.assemble.result
    (λ x t. goes c.in_ok-compiled.ensures.gives (subst (λ (q : Request). Follows told (request q) v x) (sym c.in-Assemble.is) t))
    (writes_alike (S v) _ _ n c.assemble.result (g.R.Runner.small c.args.runner.now) c.assemble.ensures.writes)

pub returns-in-Assemble-clause-files : goal.returns-in-Assemble-clause-files
returns-in-Assemble-clause-files g c =
    let v = compiled_view c.in_ok-compiled.compiled in
    let f = c.args.files.now in
    follows g.F.Files.told g.F.Files.faults g.F.Files.asked (request c.args.request.now) _ _ (tree_view c.args.tree) v _ _ c.in_ok-compiled.ensures.gives
    (subst (λ (q : Request). UsesFiles g.F.Files.told g.F.Files.faults g.F.Files.asked f f (asked_after (request q))
    (IsEarly c.assemble.result) (FailsToRead c.assemble.result)) (sym c.in-Assemble.is)
    (idle g.F.Files.told g.F.Files.faults g.F.Files.asked f _ _ c.assemble.ensures.unread))

pub returns-in-Assemble-clause-unwritten : goal.returns-in-Assemble-clause-unwritten
returns-in-Assemble-clause-unwritten g c = λ fails. absurd (c.assemble.ensures.unread fails)

-- ---- the image of a listing is made

pub returns-in-Patch-clause-writes : goal.returns-in-Patch-clause-writes
returns-in-Patch-clause-writes g c =
    let told = g.F.Files.told c.args.files.now in
    let r = request c.args.request.now in
    let n = g.R.Runner.count c.args.runner.now in
    let v = compiled_view c.in_ok-compiled.compiled in
    let S = PatchesFile told (patch c.in-Patch.listing) in
    writes_map (S v) (Then Compiles (Follows told r) (tree_view c.args.tree)) _ _ (Grew n n) c.patch.result
    (λ x t. goes c.in_ok-compiled.ensures.gives (subst (λ (q : Request). Follows told (request q) v x) (sym c.in-Patch.is) t))
    (writes_alike (S v) _ _ n c.patch.result (g.R.Runner.small c.args.runner.now) c.patch.ensures.writes)

pub returns-in-Patch-clause-files : goal.returns-in-Patch-clause-files
returns-in-Patch-clause-files g c =
    let v = compiled_view c.in_ok-compiled.compiled in
    follows g.F.Files.told g.F.Files.faults g.F.Files.asked (request c.args.request.now) _ _ (tree_view c.args.tree) v _ _ c.in_ok-compiled.ensures.gives
    (subst (λ (q : Request). UsesFiles g.F.Files.told g.F.Files.faults g.F.Files.asked c.args.files.now c.patch.new.files (asked_after (request q))
    (IsEarly c.patch.result) (FailsToRead c.patch.result)) (sym c.in-Patch.is) c.patch.ensures.files)

-- ---- an image is shown

pub returns-in-Show-clause-writes : goal.returns-in-Show-clause-writes
returns-in-Show-clause-writes g c =
    let told = g.F.Files.told c.args.files.now in
    let r = request c.args.request.now in
    let v = compiled_view c.in_ok-compiled.compiled in
    let t = target c.in-Show.target in
    let what = show_of c.in-Show.what in
    writes_map (Then (Loads told t) (Shows (shows_of what)) v) (Then Compiles (Follows told r) (tree_view c.args.tree)) _ _ _ c.show.result
    (λ x d. goes c.in_ok-compiled.ensures.gives (subst (λ (q : Request). Follows told (request q) v x) (sym c.in-Show.is) d)) c.show.ensures.writes

pub returns-in-Show-clause-files : goal.returns-in-Show-clause-files
returns-in-Show-clause-files g c =
    let v = compiled_view c.in_ok-compiled.compiled in
    follows g.F.Files.told g.F.Files.faults g.F.Files.asked (request c.args.request.now) _ _ (tree_view c.args.tree) v _ _ c.in_ok-compiled.ensures.gives
    (subst (λ (q : Request). UsesFiles g.F.Files.told g.F.Files.faults g.F.Files.asked c.args.files.now c.show.new.files (asked_after (request q))
    (IsEarly c.show.result) (FailsToRead c.show.result)) (sym c.in-Show.is) c.show.ensures.files)

pub returns-in-Show-clause-unrun : goal.returns-in-Show-clause-unrun
returns-in-Show-clause-unrun g c = λ still. c.show.ensures.unrun (subst (λ (q : Request). RunsNothing (Some (request q))) c.in-Show.is still)

-- ---- a specification that was generated is listed and run

pub returns-in-Generate-clause-writes : goal.returns-in-Generate-clause-writes
returns-in-Generate-clause-writes g c =
    let told = g.F.Files.told c.args.files.now in
    let r = request c.args.request.now in
    let v = compiled_view c.in_ok-compiled.compiled in
    let due = figures_of c.in-Generate.size in
    writes_map (Shows due v) (Then Compiles (Follows told r) (tree_view c.args.tree)) _ _ _ c.figures.result
    (λ x t. goes c.in_ok-compiled.ensures.gives (subst (λ (q : Request). Follows told (request q) v x) (sym c.in-Generate.is) t))
    (show_writes due v _ _ _ c.figures.result c.figures.ensures.streams)

pub returns-in-Generate-clause-files : goal.returns-in-Generate-clause-files
returns-in-Generate-clause-files g c =
    let v = compiled_view c.in_ok-compiled.compiled in
    let due = figures_of c.in-Generate.size in
    let f = c.args.files.now in
    follows g.F.Files.told g.F.Files.faults g.F.Files.asked (request c.args.request.now) _ _ (tree_view c.args.tree) v _ _ c.in_ok-compiled.ensures.gives
    (subst (λ (q : Request). UsesFiles g.F.Files.told g.F.Files.faults g.F.Files.asked f f (asked_after (request q))
    (IsEarly c.figures.result) (FailsToRead c.figures.result)) (sym c.in-Generate.is)
    (idle g.F.Files.told g.F.Files.faults g.F.Files.asked f _ _ (never_reads (due v) _ _ _ c.figures.result c.figures.ensures.streams)))

pub returns-in-Generate-clause-unwritten : goal.returns-in-Generate-clause-unwritten
returns-in-Generate-clause-unwritten g c = show_unwritten (figures_of c.in-Generate.size (compiled_view c.in_ok-compiled.compiled)) _ _ _ c.figures.result c.figures.ensures.streams

pub returns-in-Generate-clause-unrun : goal.returns-in-Generate-clause-unrun
returns-in-Generate-clause-unrun g c = λ still. let runs : ⊥ = subst (λ (q : Request). RunsNothing (Some (request q))) c.in-Generate.is still in absurd runs
