use Rattle.std.proofs.Common.{ℕ, List, Ok, Err, Vec, Global, refl, subst}
use Rattle.std.proofs.lemmas.Result.{err_from_is_err_and}
use Rattle.std.specs.Io.KnownBytes.{Appends}
use Rattle.sl_list_instructions.specs.Fronts.{AppendsFront}
use Rattle.sl_tool_request.specs.Views.{patch}
use Rattle.sl_tool.specs.Endings.{Shown}
use Rattle.sl_tool.specs.Patched.{PatchesFile, PatchesText}
use Rattle.sl_tool.specs.Streams.{RanNone}
use Rattle.sl_tool.specs.declared.status.Ending.TheVariants.{Done}
use Rattle.sl_tool_stages.specs.Outcomes.{Gives}
use Rattle.sl_tool_stages.specs.Stage.Then.{goes, stops}
use Rattle.sl_tool_stages.specs.Stages.{Fetches}
use Rattle.sl_tool_stages.specs.StageViews.{compiled_view}
use Rattle.sl_tool.proofs.AnsweredLemmas.{front_writes, read_before, stop_sink, stop_writes, text_shown, writing_reads}
use Rattle.sl_tool_stages.proofs.HaltLemmas.{gives_obtains, stop_unread}
use Rattle.sl_tool.proofs.patch.patch.Goals as goal

abbrev items : Vec ℕ Global → List ℕ
items v = v.items

abbrev image_view : Vec ℕ Global → Shown
image_view image = text_shown image.items

-- ---- there is no such file

pub returns-in_err-text-clause-writes : goal.returns-in_err-text-clause-writes
returns-in_err-text-clause-writes g c =
    let e = err_from_is_err_and c.from_residual.result c.from_residual.ensures.1 in
    let told = g.F.Files.told c.args.files.now in
    let p = patch c.args.patch.now in
    let v = compiled_view c.args.compiled.now in
    rw (e.1, e.2) (stop_writes (Fetches told p.listing) items (PatchesFile told p v) _ RanNone c.in_err-text.field-0.0 (λ x s. stops s) refl c.in_err-text.ensures.gives)

pub returns-in_err-text-clause-files : goal.returns-in_err-text-clause-files
returns-in_err-text-clause-files g c =
    let e = err_from_is_err_and c.from_residual.result c.from_residual.ensures.1 in
    rw (e.1, e.2) c.in_err-text.ensures.files

pub returns-in_err-text-clause-sink : goal.returns-in_err-text-clause-sink
returns-in_err-text-clause-sink g c =
    let e = err_from_is_err_and c.from_residual.result c.from_residual.ensures.1 in
    let told = g.F.Files.told c.args.files.now in
    rw (e.1, e.2) (stop_sink (Fetches told c.args.patch.now.listing.now) items g.K.Sink.faults g.K.Sink.calls c.args.out.now c.in_err-text.field-0.0 c.in_err-text.ensures.gives)

-- ---- a line is at fault

pub returns-in_err-image-clause-writes : goal.returns-in_err-image-clause-writes
returns-in_err-image-clause-writes g c =
    let e = err_from_is_err_and c.from_residual-in_err-image.result c.from_residual-in_err-image.ensures.1 in
    let told = g.F.Files.told c.args.files.now in
    let p = patch c.args.patch.now in
    let v = compiled_view c.args.compiled.now in
    let text = c.in_ok-text.text.items in
    let h = c.in_err-image.field-0.0 in
    let gives = subst (λ (b : List ℕ). Gives (PatchesText p v b) image_view (Err h)) c.as_slice.ensures.value c.in_err-image.ensures in
    rw (e.1, e.2) (stop_writes (PatchesText p v text) image_view (PatchesFile told p v) _ RanNone h (λ x s. goes c.in_ok-text.ensures.gives s) refl
    (gives_obtains (PatchesText p v text) image_view h gives))

pub returns-in_err-image-clause-files : goal.returns-in_err-image-clause-files
returns-in_err-image-clause-files g c =
    let e = err_from_is_err_and c.from_residual-in_err-image.result c.from_residual-in_err-image.ensures.1 in
    let h = c.in_err-image.field-0.0 in
    let S = PatchesText (patch c.args.patch.now) (compiled_view c.args.compiled.now) c.as_slice.result.now in
    rw (e.1, e.2) (read_before g.F.Files.told g.F.Files.faults g.F.Files.asked _ _ _ _ _ (Err h) c.in_ok-text.ensures.files (λ n. n) (stop_unread S image_view h c.in_err-image.ensures))

pub returns-in_err-image-clause-sink : goal.returns-in_err-image-clause-sink
returns-in_err-image-clause-sink g c =
    let e = err_from_is_err_and c.from_residual-in_err-image.result c.from_residual-in_err-image.ensures.1 in
    let h = c.in_err-image.field-0.0 in
    let S = PatchesText (patch c.args.patch.now) (compiled_view c.args.compiled.now) c.as_slice.result.now in
    rw (e.1, e.2) (stop_sink S image_view g.K.Sink.faults g.K.Sink.calls c.args.out.now h (gives_obtains S image_view h c.in_err-image.ensures))

-- ---- the image is written

pub returns-in_err-write_all-clause-writes : goal.returns-in_err-write_all-clause-writes
returns-in_err-write_all-clause-writes g c =
    let e = err_from_is_err_and c.from_residual-in_err-write_all.result c.from_residual-in_err-write_all.ensures.1 in
    let told = g.F.Files.told c.args.files.now in
    let p = patch c.args.patch.now in
    let v = compiled_view c.args.compiled.now in
    let image = c.in_ok-image.image in
    let made = subst (λ (b : List ℕ). PatchesText p v b (Ok (image_view image))) c.as_slice.ensures.value c.in_ok-image.ensures in
    let front = subst (λ (b : List ℕ). AppendsFront (g.K.Sink.taken c.args.out.now) (g.K.Sink.taken c.write_all.new.out) b) c.as_slice-2.ensures.value c.in_err-write_all.ensures.front in
    rw (e.1, e.2) (front_writes (PatchesFile told p v) _ _ image.items c.in_err-write_all.field-0.0 (goes c.in_ok-text.ensures.gives made) c.in_err-write_all.ensures.writing front)

pub returns-in_err-write_all-clause-files : goal.returns-in_err-write_all-clause-files
returns-in_err-write_all-clause-files g c =
    let e = err_from_is_err_and c.from_residual-in_err-write_all.result c.from_residual-in_err-write_all.ensures.1 in
    let h = c.in_err-write_all.field-0.0 in
    rw (e.1, e.2) (read_before g.F.Files.told g.F.Files.faults g.F.Files.asked _ _ _ _ _ (Err h) c.in_ok-text.ensures.files (λ n. n) (writing_reads h c.in_err-write_all.ensures.writing))

pub returns-in_err-write_all-clause-unwritten : goal.returns-in_err-write_all-clause-unwritten
returns-in_err-write_all-clause-unwritten g c =
    let e = err_from_is_err_and c.from_residual-in_err-write_all.result c.from_residual-in_err-write_all.ensures.1 in
    rw (e.1, e.2) (λ fails. absurd (writing_reads c.in_err-write_all.field-0.0 c.in_err-write_all.ensures.writing fails))

pub returns-clause-writes : goal.returns-clause-writes
returns-clause-writes g c =
    let p = patch c.args.patch.now in
    let v = compiled_view c.args.compiled.now in
    let image = c.in_ok-image.image in
    let made = subst (λ (b : List ℕ). PatchesText p v b (Ok (image_view image))) c.as_slice.ensures.value c.in_ok-image.ensures in
    let appends = subst (λ (b : List ℕ). Appends (g.K.Sink.taken c.args.out.now) (g.K.Sink.taken c.write_all.new.out) b) c.as_slice-2.ensures.value c.in_ok-write_all.ensures.whole in
    (image.items, 0, goes c.in_ok-text.ensures.gives made, appends, refl)

pub returns-clause-files : goal.returns-clause-files
returns-clause-files g c =
    read_before g.F.Files.told g.F.Files.faults g.F.Files.asked _ _ _ _ _ (Ok Done) c.in_ok-text.ensures.files (λ n. n) (λ fails. fails)
