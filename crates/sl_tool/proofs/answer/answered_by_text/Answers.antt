use Rattle.std.proofs.Common.{ℕ, List, Option, Ok, Err, refl, subst, sym}
use Rattle.std.proofs.lemmas.Result.{err_from_is_err_and}
use Rattle.sl_outside.specs.Folder.{Folder}
use Rattle.sl_tool_request.specs.Requests.{TextFile, SpecFile}
use Rattle.sl_tool.specs.Answers.{AnswersFrom, AsksForFile, Follows}
use Rattle.sl_tool.specs.Growth.{Grew}
use Rattle.sl_tool.specs.Request.{spec_of}
use Rattle.sl_tool.specs.Requests.{request}
use Rattle.sl_tool_stages.specs.SourceView.{source_view}
use Rattle.sl_tool_stages.specs.Stage.{Then}
use Rattle.sl_tool_stages.specs.Stage.Then.{stops, goes}
use Rattle.sl_tool_stages.specs.Stages.{Compiles, Expands, Parses, Reads, Tokenizes}
use Rattle.sl_tool_stages.specs.Stages.Reads.{of_text}
use Rattle.sl_tool_stages.specs.StageViews.{tree_view}
use Rattle.sl_tool.proofs.AnsweredLemmas.{after_tree, from_tree, grew_none, stop_first, stop_second, stop_sink, stop_writes, writes_map}
use Rattle.sl_tool_stages.proofs.HaltLemmas.{gives_obtains}
use Rattle.sl_tool_stages.proofs.PackingLemmas.{text_packs}
use Rattle.sl_tool.proofs.answer.answered_by_text.Goals as goal

-- ---- the text has no expansion

pub returns-in_err-source-clause-writes : goal.returns-in_err-source-clause-writes
returns-in_err-source-clause-writes g c =
    let p = err_from_is_err_and c.from_residual.result c.from_residual.ensures.1 in
    let told = g.F.Files.told c.args.files.now in
    let r = request c.args.request.now in
    let n = g.R.Runner.count c.args.runner.now in
    let name = c.args.name.now in
    rw (p.1, p.2) (stop_writes (Expands told name) source_view (AnswersFrom told r) _ (Grew n n) c.in_err-source.field-0.0
    (λ e s. stops (stops (subst (λ (file : SpecFile). Reads told file (Err e)) (sym c.requires) (of_text (stops s)))))
    (grew_none n 0 (g.R.Runner.small c.args.runner.now) refl) c.in_err-source.ensures.gives)

pub returns-in_err-source-clause-files : goal.returns-in_err-source-clause-files
returns-in_err-source-clause-files g c =
    let p = err_from_is_err_and c.from_residual.result c.from_residual.ensures.1 in
    let told = g.F.Files.told c.args.files.now in
    let r = request c.args.request.now in
    let name = c.args.name.now in
    let w = c.in_err-source.ensures.files in
    rw (p.1, p.2) (stop_first g.F.Files.told g.F.Files.faults g.F.Files.asked r (Expands told name) source_view _ _ c.in_err-source.field-0.0
    (λ e s. stops (subst (λ (file : SpecFile). Reads told file (Err e)) (sym c.requires) (of_text (stops s)))) c.in_err-source.ensures.gives
    (w.0, subst (λ (file : SpecFile). AsksForFile told file w.0) (sym c.requires) w.1, w.2))

pub returns-in_err-source-clause-sink : goal.returns-in_err-source-clause-sink
returns-in_err-source-clause-sink g c =
    let p = err_from_is_err_and c.from_residual.result c.from_residual.ensures.1 in
    let told = g.F.Files.told c.args.files.now in
    rw (p.1, p.2) (stop_sink (Expands told c.args.name.now) source_view g.K.Sink.faults g.K.Sink.calls c.args.out.now c.in_err-source.field-0.0 c.in_err-source.ensures.gives)

-- ---- the text spells no tree

pub returns-in_err-tree-clause-writes : goal.returns-in_err-tree-clause-writes
returns-in_err-tree-clause-writes g c =
    let p = err_from_is_err_and c.from_residual-in_err-tree.result c.from_residual-in_err-tree.ensures.1 in
    let told = g.F.Files.told c.args.files.now in
    let r = request c.args.request.now in
    let n = g.R.Runner.count c.args.runner.now in
    let s = source_view c.in_ok-source.source in
    let h = c.in_err-tree.field-0.0 in
    rw (p.1, p.2) (stop_writes (Then Tokenizes Parses s) tree_view (AnswersFrom told r) _ (Grew n n) h
    (λ e t. stops (stops (subst (λ (file : SpecFile). Reads told file (Err e)) (sym c.requires) (of_text (goes c.in_ok-source.ensures.gives t)))))
    (grew_none n 0 (g.R.Runner.small c.args.runner.now) refl) (gives_obtains (Then Tokenizes Parses s) tree_view h c.in_err-tree.ensures))

pub returns-in_err-tree-clause-files : goal.returns-in_err-tree-clause-files
returns-in_err-tree-clause-files g c =
    let p = err_from_is_err_and c.from_residual-in_err-tree.result c.from_residual-in_err-tree.ensures.1 in
    let told = g.F.Files.told c.args.files.now in
    let r = request c.args.request.now in
    let s = source_view c.in_ok-source.source in
    let w = c.in_ok-source.ensures.files in
    rw (p.1, p.2) (stop_second g.F.Files.told g.F.Files.faults g.F.Files.asked r (Then Tokenizes Parses s) tree_view _ _ _ _ c.in_err-tree.field-0.0
    (λ e t. stops (subst (λ (file : SpecFile). Reads told file (Err e)) (sym c.requires) (of_text (goes c.in_ok-source.ensures.gives t)))) c.in_err-tree.ensures
    (w.0, subst (λ (file : SpecFile). AsksForFile told file w.0) (sym c.requires) w.1, w.2) (λ n. n))

pub returns-in_err-tree-clause-sink : goal.returns-in_err-tree-clause-sink
returns-in_err-tree-clause-sink g c =
    let p = err_from_is_err_and c.from_residual-in_err-tree.result c.from_residual-in_err-tree.ensures.1 in
    let s = source_view c.in_ok-source.source in
    let h = c.in_err-tree.field-0.0 in
    rw (p.1, p.2) (stop_sink (Then Tokenizes Parses s) tree_view g.K.Sink.faults g.K.Sink.calls c.args.out.now h
    (gives_obtains (Then Tokenizes Parses s) tree_view h c.in_err-tree.ensures))

-- ---- the tree is there

pub answered_by-requires : goal.answered_by-requires
answered_by-requires g c =
    let t = c.in_ok-tree.tree in
    text_packs (g.F.Files.told c.args.files.now) c.args.name.now (source_view c.in_ok-source.source) t.origin t.spec c.in_ok-source.ensures.gives c.in_ok-tree.ensures t.indexes

pub returns-clause-writes : goal.returns-clause-writes
returns-clause-writes g c =
    let told = g.F.Files.told c.args.files.now in
    let r = request c.args.request.now in
    let u = tree_view c.in_ok-tree.tree in
    let same = c.in_ok-source.ensures.files.2.same_folder in
    let read : Reads told (spec_of r) (Ok u) =
    subst (λ (file : SpecFile). Reads told file (Ok u)) (sym c.requires) (of_text (goes c.in_ok-source.ensures.gives c.in_ok-tree.ensures)) in
    writes_map (Then Compiles (Follows (g.F.Files.told c.read.new.files) r) u) (AnswersFrom told r) _ _ _ c.answered_by.result
    (λ x d. from_tree told r u x read (subst (λ (f : Option Folder). Then Compiles (Follows f r) u x) same d)) c.answered_by.ensures.writes

pub returns-clause-files : goal.returns-clause-files
returns-clause-files g c =
    let told = g.F.Files.told c.args.files.now in
    let r = request c.args.request.now in
    let u = tree_view c.in_ok-tree.tree in
    let w = c.in_ok-source.ensures.files in
    let read : Reads told (spec_of r) (Ok u) =
    subst (λ (file : SpecFile). Reads told file (Ok u)) (sym c.requires) (of_text (goes c.in_ok-source.ensures.gives c.in_ok-tree.ensures)) in
    after_tree g.F.Files.told g.F.Files.faults g.F.Files.asked r _ _ _ u _ _ _ _ read
    (w.0, subst (λ (file : SpecFile). AsksForFile told file w.0) (sym c.requires) w.1, w.2) (λ n. n) c.answered_by.ensures.files
