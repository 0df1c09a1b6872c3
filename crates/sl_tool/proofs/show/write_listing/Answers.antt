use Rattle.std.proofs.Common.{ℕ, List, Result, sym, subst}
use Rattle.sl_tool.specs.Answers.{shows_of}
use Rattle.sl_tool.specs.Streams.{RanNone, Streams}
use Rattle.sl_tool.specs.Request.{Listing}
use Rattle.sl_tool.specs.declared.status.Ending.{Ending}
use Rattle.sl_tool_stages.specs.Outcomes.{FailsToWrite}
use Rattle.sl_tool_stages.specs.StageViews.{loaded_view}
use Rattle.sl_tool_stages.specs.declared.halt.Halt.{Halt}
use Rattle.sl_outside.specs.Uses.{UsesSink}
use Rattle.sl_tool.proofs.ShowLemmas.{listed_sink, listed_streams}
use Rattle.sl_tool.proofs.show.write_listing.Goals as goal

pub returns-clause-streams : goal.returns-clause-streams
returns-clause-streams g c =
    let l = loaded_view c.args.loaded.now in
    let old = g.K.Sink.taken c.args.out.now in
    let new = g.K.Sink.taken c.list_image-written.new.out in
    subst (λ (r : Result Ending Halt). Streams (shows_of Listing l) old new RanNone r) (sym c.listed.ensures) (listed_streams l old new c.list_image-written.result c.list_image-written.ensures.writes)

pub returns-clause-sink : goal.returns-clause-sink
returns-clause-sink g c =
    subst (λ (r : Result Ending Halt). UsesSink g.K.Sink.faults g.K.Sink.calls c.args.out.now c.list_image-written.new.out (FailsToWrite r)) (sym c.listed.ensures)
    (listed_sink g.K.Sink.faults g.K.Sink.calls _ _ c.list_image-written.result c.list_image-written.ensures.sink)
