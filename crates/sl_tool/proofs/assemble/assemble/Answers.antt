use Rattle.std.proofs.Common.{ℕ, List, Vec, Global, refl, subst}
use Rattle.std.proofs.lemmas.Result.{err_from_is_err_and}
use Rattle.std.specs.Io.KnownBytes.{Appends}
use Rattle.sl_list_instructions.specs.Fronts.{AppendsFront}
use Rattle.sl_tool_request.specs.Views.{assembly}
use Rattle.sl_tool.specs.Assembled.{Assembles, Finds}
use Rattle.sl_tool.specs.Endings.{Shown}
use Rattle.sl_tool.specs.Streams.{RanNone}
use Rattle.sl_tool_stages.specs.Assembling.{Begins}
use Rattle.sl_tool_stages.specs.Stage.Then.{goes, stops}
use Rattle.sl_tool_stages.specs.StageViews.{compiled_view}
use Rattle.sl_tool.proofs.AnsweredLemmas.{front_writes, stop_sink, stop_writes, text_shown, writing_reads}
use Rattle.sl_tool_stages.proofs.HaltLemmas.{gives_obtains, stop_unread}
use Rattle.sl_tool.proofs.assemble.assemble.Goals as goal

abbrev same : ℕ → ℕ
same n = n

abbrev line_view : Vec ℕ Global → Shown
line_view line = text_shown line.items

-- ---- it isn't to be assembled

pub returns-in_err-context-clause-writes : goal.returns-in_err-context-clause-writes
returns-in_err-context-clause-writes g c =
    let p = err_from_is_err_and c.from_residual.result c.from_residual.ensures.1 in
    let a = assembly c.args.assembly.now in
    let v = compiled_view c.args.compiled.now in
    let h = c.in_err-context.field-0.0 in
    rw (p.1, p.2) (stop_writes (Begins a v) same (Assembles a v) _ RanNone h (λ e s. stops s) refl (gives_obtains (Begins a v) same h c.in_err-context.ensures))

pub returns-in_err-context-clause-sink : goal.returns-in_err-context-clause-sink
returns-in_err-context-clause-sink g c =
    let p = err_from_is_err_and c.from_residual.result c.from_residual.ensures.1 in
    let S = Begins (assembly c.args.assembly.now) (compiled_view c.args.compiled.now) in
    let h = c.in_err-context.field-0.0 in
    rw (p.1, p.2) (stop_sink S same g.K.Sink.faults g.K.Sink.calls c.args.out.now h (gives_obtains S same h c.in_err-context.ensures))

pub returns-in_err-context-clause-unread : goal.returns-in_err-context-clause-unread
returns-in_err-context-clause-unread g c =
    let p = err_from_is_err_and c.from_residual.result c.from_residual.ensures.1 in
    let S = Begins (assembly c.args.assembly.now) (compiled_view c.args.compiled.now) in
    rw (p.1, p.2) (stop_unread S same c.in_err-context.field-0.0 c.in_err-context.ensures)

-- ---- there is no encoding

pub returns-in_err-line-clause-writes : goal.returns-in_err-line-clause-writes
returns-in_err-line-clause-writes g c =
    let p = err_from_is_err_and c.from_residual-in_err-line.result c.from_residual-in_err-line.ensures.1 in
    let a = assembly c.args.assembly.now in
    let v = compiled_view c.args.compiled.now in
    let S = Finds a v c.in_ok-context.context in
    let h = c.in_err-line.field-0.0 in
    rw (p.1, p.2) (stop_writes S line_view (Assembles a v) _ RanNone h (λ e s. goes c.in_ok-context.ensures s) refl (gives_obtains S line_view h c.in_err-line.ensures))

pub returns-in_err-line-clause-sink : goal.returns-in_err-line-clause-sink
returns-in_err-line-clause-sink g c =
    let p = err_from_is_err_and c.from_residual-in_err-line.result c.from_residual-in_err-line.ensures.1 in
    let S = Finds (assembly c.args.assembly.now) (compiled_view c.args.compiled.now) c.in_ok-context.context in
    let h = c.in_err-line.field-0.0 in
    rw (p.1, p.2) (stop_sink S line_view g.K.Sink.faults g.K.Sink.calls c.args.out.now h (gives_obtains S line_view h c.in_err-line.ensures))

pub returns-in_err-line-clause-unread : goal.returns-in_err-line-clause-unread
returns-in_err-line-clause-unread g c =
    let p = err_from_is_err_and c.from_residual-in_err-line.result c.from_residual-in_err-line.ensures.1 in
    let S = Finds (assembly c.args.assembly.now) (compiled_view c.args.compiled.now) c.in_ok-context.context in
    rw (p.1, p.2) (stop_unread S line_view c.in_err-line.field-0.0 c.in_err-line.ensures)

-- ---- the line is written

pub returns-in_err-write_all-clause-writes : goal.returns-in_err-write_all-clause-writes
returns-in_err-write_all-clause-writes g c =
    let p = err_from_is_err_and c.from_residual-in_err-write_all.result c.from_residual-in_err-write_all.ensures.1 in
    let a = assembly c.args.assembly.now in
    let v = compiled_view c.args.compiled.now in
    let front = subst (λ (b : List ℕ). AppendsFront (g.K.Sink.taken c.args.out.now) (g.K.Sink.taken c.write_all.new.out) b) c.as_slice.ensures.value c.in_err-write_all.ensures.front in
    rw (p.1, p.2) (front_writes (Assembles a v) _ _ c.in_ok-line.line.items c.in_err-write_all.field-0.0 (goes c.in_ok-context.ensures c.in_ok-line.ensures)
    c.in_err-write_all.ensures.writing front)

pub returns-in_err-write_all-clause-unread : goal.returns-in_err-write_all-clause-unread
returns-in_err-write_all-clause-unread g c =
    let p = err_from_is_err_and c.from_residual-in_err-write_all.result c.from_residual-in_err-write_all.ensures.1 in
    rw (p.1, p.2) (writing_reads c.in_err-write_all.field-0.0 c.in_err-write_all.ensures.writing)

pub returns-clause-writes : goal.returns-clause-writes
returns-clause-writes g c =
    let appends = subst (λ (b : List ℕ). Appends (g.K.Sink.taken c.args.out.now) (g.K.Sink.taken c.write_all.new.out) b) c.as_slice.ensures.value c.in_ok-write_all.ensures.whole in
    (c.in_ok-line.line.items, 0, goes c.in_ok-context.ensures c.in_ok-line.ensures, appends, refl)
