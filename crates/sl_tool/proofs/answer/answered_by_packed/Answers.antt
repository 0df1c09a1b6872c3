use Rattle.std.proofs.Common.{ℕ, List, Option, Ok, Err, refl, subst, sym, Vec, Global, ◌≤◌, length, [], ◌∷◌}
use Rattle.std.proofs.lemmas.Result.{err_from_is_err_and}
use Rattle.sl_outside.specs.Folder.{Folder, size_limit}
use Rattle.sl_tool_request.specs.Requests.{PackedFile, SpecFile}
use Rattle.sl_tool.specs.Answers.{AnswersFrom, AsksForFile, Follows}
use Rattle.sl_tool.specs.Growth.{Grew}
use Rattle.sl_tool.specs.Request.{spec_of}
use Rattle.sl_tool.specs.Requests.{request}
use Rattle.sl_tool_stages.specs.Outcomes.{Gives}
use Rattle.sl_tool_stages.specs.Stage.{Then}
use Rattle.sl_tool_stages.specs.Stage.Then.{stops, goes}
use Rattle.sl_tool_stages.specs.Stages.{Compiles, Fetches, Reads, Unpacks}
use Rattle.sl_tool_stages.specs.Stages.Reads.{of_packed}
use Rattle.sl_tool_stages.specs.StageViews.{tree_view}
use Rattle.sl_tool.proofs.AnsweredLemmas.{after_tree, from_tree, grew_none, stop_first, stop_second, stop_sink, stop_writes, writes_map}
use Rattle.sl_tool_stages.proofs.HaltLemmas.{gives_obtains}
use Rattle.sl_tool_stages.proofs.PackingLemmas.{file_packs}
use Rattle.sl_tool.proofs.answer.answered_by_packed.Goals as goal

abbrev items : Vec ℕ Global → List ℕ
items v = v.items

pub opened-requires : goal.opened-requires
opened-requires g c = subst (λ (bytes : List ℕ). length bytes ≤ size_limit) (sym c.as_slice.ensures.value) c.in_ok-bytes.ensures.gives.1

-- ---- there is no such file

pub returns-in_err-bytes-clause-writes : goal.returns-in_err-bytes-clause-writes
returns-in_err-bytes-clause-writes g c =
    let p = err_from_is_err_and c.from_residual.result c.from_residual.ensures.1 in
    let told = g.F.Files.told c.args.files.now in
    let r = request c.args.request.now in
    let n = g.R.Runner.count c.args.runner.now in
    rw (p.1, p.2) (stop_writes (Fetches told c.args.name.now) items (AnswersFrom told r) _ (Grew n n) c.in_err-bytes.field-0.0
    (λ e s. stops (stops (subst (λ (file : SpecFile). Reads told file (Err e)) (sym c.requires) (of_packed (stops s)))))
    (grew_none n 0 (g.R.Runner.small c.args.runner.now) refl) c.in_err-bytes.ensures.gives)

pub returns-in_err-bytes-clause-files : goal.returns-in_err-bytes-clause-files
returns-in_err-bytes-clause-files g c =
    let p = err_from_is_err_and c.from_residual.result c.from_residual.ensures.1 in
    let told = g.F.Files.told c.args.files.now in
    let r = request c.args.request.now in
    let name = c.args.name.now in
    rw (p.1, p.2) (stop_first g.F.Files.told g.F.Files.faults g.F.Files.asked r (Fetches told name) items _ _ c.in_err-bytes.field-0.0
    (λ e s. stops (subst (λ (file : SpecFile). Reads told file (Err e)) (sym c.requires) (of_packed (stops s)))) c.in_err-bytes.ensures.gives
    (name ∷ [], subst (λ (file : SpecFile). AsksForFile told file (name ∷ [])) (sym c.requires) refl, c.in_err-bytes.ensures.files))

pub returns-in_err-bytes-clause-sink : goal.returns-in_err-bytes-clause-sink
returns-in_err-bytes-clause-sink g c =
    let p = err_from_is_err_and c.from_residual.result c.from_residual.ensures.1 in
    let told = g.F.Files.told c.args.files.now in
    rw (p.1, p.2) (stop_sink (Fetches told c.args.name.now) items g.K.Sink.faults g.K.Sink.calls c.args.out.now c.in_err-bytes.field-0.0 c.in_err-bytes.ensures.gives)

-- ---- the bytes hold no tree

pub returns-in_err-tree-clause-writes : goal.returns-in_err-tree-clause-writes
returns-in_err-tree-clause-writes g c =
    let p = err_from_is_err_and c.from_residual-in_err-tree.result c.from_residual-in_err-tree.ensures.1 in
    let told = g.F.Files.told c.args.files.now in
    let r = request c.args.request.now in
    let n = g.R.Runner.count c.args.runner.now in
    let name = c.args.name.now in
    let bytes = c.in_ok-bytes.bytes.items in
    let h = c.in_err-tree.field-0.0 in
    let gives = subst (λ (b : List ℕ). Gives (Unpacks name b) tree_view (Err h)) c.as_slice.ensures.value c.in_err-tree.ensures in
    rw (p.1, p.2) (stop_writes (Unpacks name bytes) tree_view (AnswersFrom told r) _ (Grew n n) h
    (λ e t. stops (stops (subst (λ (file : SpecFile). Reads told file (Err e)) (sym c.requires) (of_packed (goes c.in_ok-bytes.ensures.gives t)))))
    (grew_none n 0 (g.R.Runner.small c.args.runner.now) refl) (gives_obtains (Unpacks name bytes) tree_view h gives))

pub returns-in_err-tree-clause-files : goal.returns-in_err-tree-clause-files
returns-in_err-tree-clause-files g c =
    let p = err_from_is_err_and c.from_residual-in_err-tree.result c.from_residual-in_err-tree.ensures.1 in
    let told = g.F.Files.told c.args.files.now in
    let r = request c.args.request.now in
    let name = c.args.name.now in
    let bytes = c.in_ok-bytes.bytes.items in
    let gives = subst (λ (b : List ℕ). Gives (Unpacks name b) tree_view (Err c.in_err-tree.field-0.0)) c.as_slice.ensures.value c.in_err-tree.ensures in
    rw (p.1, p.2) (stop_second g.F.Files.told g.F.Files.faults g.F.Files.asked r (Unpacks name bytes) tree_view _ _ _ _ c.in_err-tree.field-0.0
    (λ e t. stops (subst (λ (file : SpecFile). Reads told file (Err e)) (sym c.requires) (of_packed (goes c.in_ok-bytes.ensures.gives t)))) gives
    (name ∷ [], subst (λ (file : SpecFile). AsksForFile told file (name ∷ [])) (sym c.requires) refl, c.in_ok-bytes.ensures.files) (λ n. n))

pub returns-in_err-tree-clause-sink : goal.returns-in_err-tree-clause-sink
returns-in_err-tree-clause-sink g c =
    let p = err_from_is_err_and c.from_residual-in_err-tree.result c.from_residual-in_err-tree.ensures.1 in
    let name = c.args.name.now in
    let bytes = c.in_ok-bytes.bytes.items in
    let h = c.in_err-tree.field-0.0 in
    let gives = subst (λ (b : List ℕ). Gives (Unpacks name b) tree_view (Err h)) c.as_slice.ensures.value c.in_err-tree.ensures in
    rw (p.1, p.2) (stop_sink (Unpacks name bytes) tree_view g.K.Sink.faults g.K.Sink.calls c.args.out.now h
    (gives_obtains (Unpacks name bytes) tree_view h gives))

-- ---- the tree is there

pub answered_by-requires : goal.answered_by-requires
answered_by-requires g c =
    let t = c.in_ok-tree.tree in
    file_packs c.args.name.now c.as_slice.result.now t.origin t.spec c.in_ok-tree.ensures

pub returns-clause-writes : goal.returns-clause-writes
returns-clause-writes g c =
    let told = g.F.Files.told c.args.files.now in
    let r = request c.args.request.now in
    let u = tree_view c.in_ok-tree.tree in
    let same = c.in_ok-bytes.ensures.files.same_folder in
    let gives = subst (λ (b : List ℕ). Unpacks c.args.name.now b (Ok u)) c.as_slice.ensures.value c.in_ok-tree.ensures in
    let read : Reads told (spec_of r) (Ok u) =
    subst (λ (file : SpecFile). Reads told file (Ok u)) (sym c.requires) (of_packed (goes c.in_ok-bytes.ensures.gives gives)) in
    writes_map (Then Compiles (Follows (g.F.Files.told c.fetched.new.files) r) u) (AnswersFrom told r) _ _ _ c.answered_by.result
    (λ x d. from_tree told r u x read (subst (λ (f : Option Folder). Then Compiles (Follows f r) u x) same d)) c.answered_by.ensures.writes

pub returns-clause-files : goal.returns-clause-files
returns-clause-files g c =
    let told = g.F.Files.told c.args.files.now in
    let r = request c.args.request.now in
    let name = c.args.name.now in
    let u = tree_view c.in_ok-tree.tree in
    let gives = subst (λ (b : List ℕ). Unpacks c.args.name.now b (Ok u)) c.as_slice.ensures.value c.in_ok-tree.ensures in
    let read : Reads told (spec_of r) (Ok u) =
    subst (λ (file : SpecFile). Reads told file (Ok u)) (sym c.requires) (of_packed (goes c.in_ok-bytes.ensures.gives gives)) in
    after_tree g.F.Files.told g.F.Files.faults g.F.Files.asked r _ _ _ u _ _ _ _ read
    (name ∷ [], subst (λ (file : SpecFile). AsksForFile told file (name ∷ [])) (sym c.requires) refl, c.in_ok-bytes.ensures.files) (λ n. n) c.answered_by.ensures.files
