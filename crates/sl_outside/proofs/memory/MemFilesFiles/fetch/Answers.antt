use Rattle.std.proofs.Common.{◌≡◌, subst, sym, ap, ◌∙◌, arith}
use Rattle.sl_outside.specs.Folder.{Folder, IsTooLong}
use Rattle.sl_outside.specs.Memory.{folder_of}
use Rattle.sl_outside.specs.declared.FetchError.{FetchError}
use Rattle.sl_outside.specs.declared.FetchError.TheVariants.{Absent, Failed, TooLong}
use Rattle.sl_outside.specs.declared.calls.Calls.{Calls}
use Rattle.sl_outside.proofs.UseLemmas.{err_again, noted_if, noted_ok, uses}
use Rattle.sl_outside.proofs.memory.MemFilesFiles.fetch.Goals as goal

pub returns-then-count-clause-files : goal.returns-then-count-clause-files
returns-then-count-clause-files c =
    let same = ap (λ (k : Calls). k.faults) c.note-noted.ensures.same_calls in
    uses _ _ c.args.name.now _ _ c.note-noted.ensures.same_folder
    (omega (arith, same, c.count.ensures.faults, c.fail.ensures.never_falls)) (λ h. omega (arith, same, c.count.ensures.faults, c.fail.ensures.faults))
    (noted_if c.note-noted.result c.note-noted.ensures.noted c.note-noted.ensures.unchanged tt)

pub returns-then-is_err-clause-files : goal.returns-then-is_err-clause-files
returns-then-is_err-clause-files c =
    let same = ap (λ (k : Calls). k.faults) c.note-noted.ensures.same_calls in
    uses _ _ c.args.name.now _ _ c.note-noted.ensures.same_folder (omega (arith, same, c.count.ensures.faults)) (λ h. absurd (cc))
    (noted_if c.note-noted.result c.note-noted.ensures.noted c.note-noted.ensures.unchanged tt)

pub returns-in-Err-clause-absent : goal.returns-in-Err-clause-absent
returns-in-Err-clause-absent c = λ h.
    ap (λ (f : Folder). f c.args.name.now) (sym c.note-noted.ensures.same_folder)
    ∙ c.in-Err.ensures.absent (err_again c.in-Err.error Absent h)

pub returns-in-Err-clause-too_long : goal.returns-in-Err-clause-too_long
returns-in-Err-clause-too_long c = λ h.
    subst (λ (f : Folder). IsTooLong (f c.args.name.now)) c.note-noted.ensures.same_folder
    (c.in-Err.ensures.too_long (err_again c.in-Err.error TooLong h))

pub returns-in-Err-clause-files : goal.returns-in-Err-clause-files
returns-in-Err-clause-files c =
    let same = ap (λ (k : Calls). k.faults) c.note-noted.ensures.same_calls in
    uses _ _ c.args.name.now _ _ c.note-noted.ensures.same_folder (omega (arith, same, c.count.ensures.faults))
    (λ h. absurd (c.in-Err.ensures.never_fails (err_again c.in-Err.error Failed h)))
    (noted_ok c.note-noted.result (sym c.is_err.ensures.value ∙ c.if-is_err.false) c.note-noted.ensures.noted)

pub returns-in-Ok-clause-found : goal.returns-in-Ok-clause-found
returns-in-Ok-clause-found c = ap (λ (f : Folder). f c.args.name.now) (sym c.note-noted.ensures.same_folder) ∙ c.in-Ok.ensures.found

pub returns-in-Ok-clause-files : goal.returns-in-Ok-clause-files
returns-in-Ok-clause-files c =
    let same = ap (λ (k : Calls). k.faults) c.note-noted.ensures.same_calls in
    uses _ _ c.args.name.now _ _ c.note-noted.ensures.same_folder (omega (arith, same, c.count.ensures.faults)) (λ h. absurd (cc))
    (noted_ok c.note-noted.result (sym c.is_err.ensures.value ∙ c.if-is_err.false) c.note-noted.ensures.noted)
