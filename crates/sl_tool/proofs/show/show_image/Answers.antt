use Rattle.std.proofs.Common.{subst, sym}
use Rattle.sl_tool.specs.Answers.{shows_of}
use Rattle.sl_tool.specs.Ends.{IsStill}
use Rattle.sl_tool.specs.Streams.{Streams}
use Rattle.sl_tool.specs.Growth.{Grew}
use Rattle.sl_tool.specs.Request.{Listing, Operations}
use Rattle.sl_tool.specs.Requests.{show_of}
use Rattle.sl_tool.specs.declared.request.Show.{Show}
use Rattle.sl_tool_stages.specs.StageViews.{loaded_view}
use Rattle.sl_tool.proofs.AnsweredLemmas.{streams_alike}
use Rattle.sl_tool.proofs.show.show_image.Goals as goal

pub returns-in-Listing-clause-streams : goal.returns-in-Listing-clause-streams
returns-in-Listing-clause-streams g c =
    let n = g.R.Runner.count c.args.runner.now in
    let l = loaded_view c.args.loaded.now in
    subst (λ (w : Show). Streams (shows_of (show_of w) l) (g.K.Sink.taken c.args.out.now) (g.K.Sink.taken c.write_listing.new.out) (Grew n n) c.write_listing.result) (sym c.in-Listing.is)
    (streams_alike (shows_of Listing l) _ _ n c.write_listing.result (g.R.Runner.small c.args.runner.now) c.write_listing.ensures.streams)

pub returns-in-Operations-clause-streams : goal.returns-in-Operations-clause-streams
returns-in-Operations-clause-streams g c =
    let n = g.R.Runner.count c.args.runner.now in
    let l = loaded_view c.args.loaded.now in
    subst (λ (w : Show). Streams (shows_of (show_of w) l) (g.K.Sink.taken c.args.out.now) (g.K.Sink.taken c.write_operations.new.out) (Grew n n) c.write_operations.result) (sym c.in-Operations.is)
    (streams_alike (shows_of Operations l) _ _ n c.write_operations.result (g.R.Runner.small c.args.runner.now) c.write_operations.ensures.streams)

pub returns-in-Run-clause-streams : goal.returns-in-Run-clause-streams
returns-in-Run-clause-streams g c =
    let l = loaded_view c.args.loaded.now in
    subst (λ (w : Show). Streams (shows_of (show_of w) l) (g.K.Sink.taken c.args.out.now) (g.K.Sink.taken c.write_run.new.out)
    (Grew (g.R.Runner.count c.args.runner.now) (g.R.Runner.count c.write_run.new.runner)) c.write_run.result) (sym c.in-Run.is) c.write_run.ensures.streams

pub returns-in-Run-clause-unrun : goal.returns-in-Run-clause-unrun
returns-in-Run-clause-unrun g c = λ still. let runs : ⊥ = subst (λ (w : Show). IsStill (show_of w)) c.in-Run.is still in absurd runs
