use Rattle.std.proofs.Common.{◌∙◌}
use Rattle.std.proofs.lemmas.Result.{err_from_is_err_and}
use Rattle.sl_preproc.specs.Works.{work_of}
use Rattle.sl_preproc.specs.Expanded.{seen}
use Rattle.sl_preproc.proofs.AskLemmas.{uses_weaker}
use Rattle.sl_preproc.proofs.MainLemmas.{main_fails, main_lines, lines_fail, main_text, asked_memory, asked_main, asked_lines}
use Rattle.sl_preproc.specs.Whole.{IsWhole}
use Rattle.sl_preproc.proofs.SoundLemmas.{nothing_whole, is_sound}
use Rattle.sl_preproc.proofs.inclusion.expand.Goals as goal

pub returns-in_err-bytes-clause-expansion : goal.returns-in_err-bytes-clause-expansion
returns-in_err-bytes-clause-expansion g c = λ folder h.
    let p = err_from_is_err_and c.from_residual-in_err-bytes.result c.from_residual-in_err-bytes.ensures.1 in
    rw (p.1, p.2) (main_fails folder c.args.main.now c.in_err-bytes.field-0.0 (c.in_err-bytes.ensures.found folder h))

pub returns-in_err-expand_lines-clause-expansion : goal.returns-in_err-expand_lines-clause-expansion
returns-in_err-expand_lines-clause-expansion g c = λ folder h.
    let main = c.args.main.now in
    let p = err_from_is_err_and c.from_residual-in_err-expand_lines.result c.from_residual-in_err-expand_lines.ensures.1 in
    rw (p.1, p.2) (lines_fail folder main c.in_err-expand_lines.field-0.0 _
    (main_lines folder main c.in_ok-bytes.bytes.items c.as_slice.result.now (work_of c.in_ok-work.work) (c.in_ok-bytes.ensures.found folder h) c.as_slice.ensures.value c.in_ok-work.ensures)
    (c.in_err-expand_lines.ensures.file.answers folder (c.in_ok-bytes.ensures.files.same_folder ∙ h)))

pub returns-clause-expansion : goal.returns-clause-expansion
returns-clause-expansion g c = λ folder h.
    let main = c.args.main.now in
    main_text folder main _ (work_of c.expand_lines.new.work) (seen c.in_ok-expanded.expanded)
    (main_lines folder main c.in_ok-bytes.bytes.items c.as_slice.result.now (work_of c.in_ok-work.work) (c.in_ok-bytes.ensures.found folder h) c.as_slice.ensures.value c.in_ok-work.ensures)
    (c.in_ok-expand_lines.ensures.file.answers folder (c.in_ok-bytes.ensures.files.same_folder ∙ h))
    c.in_ok-expanded.ensures

pub returns-clause-sound : goal.returns-clause-sound
returns-clause-sound g c =
    let begun : IsWhole (work_of c.in_ok-work.work) = rw c.in_ok-work.ensures (nothing_whole c.args.main.now) in
    rw c.in_ok-expanded.ensures (is_sound (work_of c.expand_lines.new.work) (c.in_ok-expand_lines.ensures.whole begun))

pub returns-in_err-work-clause-files : goal.returns-in_err-work-clause-files
returns-in_err-work-clause-files g c =
    let p = err_from_is_err_and c.from_residual.result c.from_residual.ensures.1 in
    rw (p.1, p.2) (asked_memory g.F.Files.told g.F.Files.faults g.F.Files.asked c.args.main.now _)

pub returns-in_err-bytes-clause-files : goal.returns-in_err-bytes-clause-files
returns-in_err-bytes-clause-files g c =
    let p = err_from_is_err_and c.from_residual-in_err-bytes.result c.from_residual-in_err-bytes.ensures.1 in
    rw (p.1, p.2) (asked_main g.F.Files.told g.F.Files.faults g.F.Files.asked c.args.main.now _ _ c.in_err-bytes.field-0.0 c.in_err-bytes.ensures.found c.in_err-bytes.ensures.files)

pub returns-in_err-expand_lines-clause-files : goal.returns-in_err-expand_lines-clause-files
returns-in_err-expand_lines-clause-files g c =
    let main = c.args.main.now in
    let p = err_from_is_err_and c.from_residual-in_err-expand_lines.result c.from_residual-in_err-expand_lines.ensures.1 in
    rw (p.1, p.2) (asked_lines g.F.Files.told g.F.Files.faults g.F.Files.asked main _ _ _ _ _ _ _ _ _ _ c.in_ok-bytes.ensures.files (λ f. f)
    (λ folder h. main_lines folder main c.in_ok-bytes.bytes.items c.as_slice.result.now (work_of c.in_ok-work.work) (c.in_ok-bytes.ensures.found folder h) c.as_slice.ensures.value c.in_ok-work.ensures)
    c.in_err-expand_lines.ensures.file c.in_err-expand_lines.ensures.file.uses)

pub returns-in_err-expanded-clause-files : goal.returns-in_err-expanded-clause-files
returns-in_err-expanded-clause-files g c =
    let main = c.args.main.now in
    let s = c.in_ok-expand_lines.ensures.file in
    let p = err_from_is_err_and c.from_residual-in_err-expanded.result c.from_residual-in_err-expanded.ensures.1 in
    rw (p.1, p.2) (asked_lines g.F.Files.told g.F.Files.faults g.F.Files.asked main _ _ _ _ _ _ _ _ _ _ c.in_ok-bytes.ensures.files (λ f. f)
    (λ folder h. main_lines folder main c.in_ok-bytes.bytes.items c.as_slice.result.now (work_of c.in_ok-work.work) (c.in_ok-bytes.ensures.found folder h) c.as_slice.ensures.value c.in_ok-work.ensures)
    s (uses_weaker g.F.Files.told g.F.Files.faults g.F.Files.asked _ _ s.names _ _ _ _ (λ f. absurd f) (λ f. f) s.uses))

pub returns-clause-files : goal.returns-clause-files
returns-clause-files g c =
    let main = c.args.main.now in
    asked_lines g.F.Files.told g.F.Files.faults g.F.Files.asked main _ _ _ _ _ _ _ _ _ _ c.in_ok-bytes.ensures.files (λ f. f)
    (λ folder h. main_lines folder main c.in_ok-bytes.bytes.items c.as_slice.result.now (work_of c.in_ok-work.work) (c.in_ok-bytes.ensures.found folder h) c.as_slice.ensures.value c.in_ok-work.ensures)
    c.in_ok-expand_lines.ensures.file c.in_ok-expand_lines.ensures.file.uses
