use Rattle.std.proofs.Common.{◌+◌, ◌-◌, [], reverse, List, Ok, Err, sym, ap, refl, ◌∙◌, ◌≡◌, ℕ, arith}
use Rattle.std.proofs.lemmas.Result.{err_from_is_err_and}
use Rattle.sl_outside.specs.Folder.{Folder}
use Rattle.sl_preproc_directives.specs.Lines.{lines}
use Rattle.sl_preproc.specs.Stacks.{stack_of}
use Rattle.sl_preproc.specs.Works.{work_of}
use Rattle.sl_preproc.specs.Expansion.{Work, Includer, included, expand_file, on_line, fetched}
use Rattle.sl_preproc.specs.ByLines.{expand_lines, line_step, at_end}
use Rattle.sl_preproc.specs.declared.groups.Group.{Group}
use Rattle.sl_preproc.proofs.ExpansionLemmas.{line_goes, no_line, end_asks, no_depth, included_as, line_asks, then_includes, line_first, line_plain, line_includes}
use Rattle.sl_preproc.proofs.ReadLemmas.{reads_memory, reads_stay, reads_refused, reads_fetched, reads_stop, reads_undone, reached_none, reached_more, reached_reads, reads_map, reads_plain, reads_same, bytes_in}
use Rattle.sl_preproc.proofs.LineLemmas.{by_lines}
use Rattle.sl_preproc.proofs.FeedLemmas.{line_free}
use Rattle.sl_preproc.proofs.inclusion.+files.Goals as goal

-- ---- a line

pub expand_line-returns-in_err-included-clause-line : goal.expand_line-returns-in_err-included-clause-line
expand_line-returns-in_err-included-clause-line g t c =
    let a = c.args in
    let step = line_step a.name.now a.line a.text.now (stack_of a.groups.now) (work_of a.work.now) in
    let includes : Folder → Includer = λ folder. included a.left folder a.name.now in
    let p = err_from_is_err_and c.from_residual.result c.from_residual.ensures.1 in
    rw (p.1, p.2) (reads_undone g.F.Files.told g.F.Files.faults g.F.Files.asked _ (λ _. on_line a.name.now a.line step) c.in_err-included.field-0.0
    (λ folder. then_includes (includes folder) a.name.now a.line a.text.now (stack_of a.groups.now) (work_of a.work.now)) _ _
    (λ folder. line_first (includes folder) a.name.now a.line a.text.now (stack_of a.groups.now) (work_of a.work.now))
    c.in_err-included.ensures.no_read_fault (λ _. line_asks a.name.now a.line step) (λ _. c.in_err-included.ensures.read))

pub expand_line-returns-in-Some-clause-line : goal.expand_line-returns-in-Some-clause-line
expand_line-returns-in-Some-clause-line g t c =
    let a = c.args in
    let read = rw c.in-Some.is at c.in_ok-included.ensures.read in
    let includes : Folder → Includer = λ folder. included a.left folder a.name.now in
    reads_map g.F.Files.told g.F.Files.faults g.F.Files.asked _ _
    (λ folder. includes folder a.line c.in-Some.included.now (work_of c.read.new.work)) _ _ (λ (w : Work). (stack_of c.read.new.groups, w)) _
    (λ folder. line_includes (includes folder) a.name.now a.line a.text.now (stack_of a.groups.now) (work_of a.work.now)
    c.in-Some.included.now (stack_of c.read.new.groups) (work_of c.read.new.work) read)
    c.include.ensures.included

pub expand_line-returns-in-None-clause-line : goal.expand_line-returns-in-None-clause-line
expand_line-returns-in-None-clause-line g t c =
    let a = c.args in
    reads_plain g.F.Files.told g.F.Files.faults g.F.Files.asked _ _ (stack_of c.read.new.groups, work_of c.read.new.work) _
    (λ folder. line_plain (included a.left folder a.name.now) a.name.now a.line a.text.now (stack_of a.groups.now) (work_of a.work.now)
    (stack_of c.read.new.groups) (work_of c.read.new.work) (rw c.in-None.is at c.in_ok-included.ensures.read))

-- ---- the lines of a file

pub expand_lines-lines-init : goal.expand_lines-lines-init
expand_lines-lines-init g t c =
    let a = c.args in
    let none : stack_of c.new-groups.result ≡ [] = ap (λ (gs : List Group). reverse gs) c.new-groups.ensures.items in
    record {
      count = omega (arith, c.requires);
      whole = λ w. w;
      reached = reached_none g.F.Files.told g.F.Files.faults g.F.Files.asked _ _ _
          (λ folder. sym (by_lines (included a.left folder a.name.now) a.name.now (lines a.bytes.now) (work_of a.work.now))
          ∙ ap (λ (gs : List Group). expand_lines (included a.left folder a.name.now) a.name.now (lines a.bytes.now) 1 gs (work_of a.work.now)) (sym none));
    }

pub expand_lines-returns-in_err-expand_line-clause-file : goal.expand_lines-returns-in_err-expand_line-clause-file
expand_lines-returns-in_err-expand_line-clause-file g t c =
    let a = c.args in
    let includes : Folder → Includer = λ folder. included a.left folder a.name.now in
    let p = err_from_is_err_and c.from_residual.result c.from_residual.ensures.1 in
    rw (p.1, p.2) (reached_reads g.F.Files.told g.F.Files.faults g.F.Files.asked _ _ _ _ _ _ (Err c.in_err-expand_line.field-0.0) c.lines.invariant.reached
    (reads_stop g.F.Files.told g.F.Files.faults g.F.Files.asked _ _ _ _ c.in_err-expand_line.field-0.0
    (λ folder r. expand_lines (includes folder) a.name.now (lines c.in-Some.others.now) (c.lines.number + 1) r.0 r.1) _ _
    (λ folder. line_goes (includes folder) a.name.now c.lines.rest.now c.in-Some.line.now c.in-Some.others.now c.lines.number
    (stack_of c.lines.groups) (work_of c.lines.work) c.in-Some.ensures.lines)
    c.in_err-expand_line.ensures.line))

pub expand_lines-lines-preserved : goal.expand_lines-lines-preserved
expand_lines-lines-preserved g t c =
    let a = c.args in
    let includes : Folder → Includer = λ folder. included a.left folder a.name.now in
    record {
      count = omega (arith, c.in-Some.ensures.shorter, c.lines.invariant.count);
      whole = λ w. c.in_ok-expand_line.ensures.whole (line_free c.lines.rest.now c.in-Some.line.now (lines c.in-Some.others.now) c.in-Some.ensures.lines) (c.lines.invariant.whole w);
      reached = reached_more g.F.Files.told g.F.Files.faults g.F.Files.asked _ _ _ _ _ _ _ _
          (λ folder r. expand_lines (includes folder) a.name.now (lines c.in-Some.others.now) (c.lines.number + 1) r.0 r.1)
          c.lines.invariant.reached
          (λ folder. line_goes (includes folder) a.name.now c.lines.rest.now c.in-Some.line.now c.in-Some.others.now c.lines.number
          (stack_of c.lines.groups) (work_of c.lines.work) c.in-Some.ensures.lines)
          c.in_ok-expand_line.ensures.line;
    }

pub expand_lines-returns-clause-file : goal.expand_lines-returns-clause-file
expand_lines-returns-clause-file g t c =
    let a = c.args in
    let includes : Folder → Includer = λ folder. included a.left folder a.name.now in
    let gs = stack_of c.lines.groups in
    let work = work_of c.lines.work in
    reached_reads g.F.Files.told g.F.Files.faults g.F.Files.asked _ _ _ _ _ _ _ c.lines.invariant.reached
    (reads_stay g.F.Files.told g.F.Files.faults g.F.Files.asked _ _ (λ _. at_end a.name.now gs work) _ _ c.end.ensures.no_read_fault
    (λ folder. no_line (includes folder) a.name.now c.lines.rest.now c.lines.number gs work c.in_default.ensures.lines)
    (λ _. end_asks a.name.now gs work) (λ _. c.end.ensures.ended work))

-- ---- a file that is included

pub include-returns-then-left-eq0-clause-included : goal.include-returns-then-left-eq0-clause-included
include-returns-then-left-eq0-clause-included g t c =
    let a = c.args in
    reads_refused g.F.Files.told g.F.Files.faults g.F.Files.asked _ _ _ c.refuse.result _ a.from.now a.line
    (λ folder. no_depth a.left folder a.from.now a.line a.name.now (work_of a.work.now) c.if-left-eq0.true)
    c.refuse.ensures.no_read_fault c.refuse.ensures.refused

pub include-returns-in_err-joined-clause-included : goal.include-returns-in_err-joined-clause-included
include-returns-in_err-joined-clause-included g t c =
    let p = err_from_is_err_and c.from_residual.result c.from_residual.ensures.1 in
    rw (p.1, p.2) (reads_memory g.F.Files.told g.F.Files.faults g.F.Files.asked _ _ _)

pub include-returns-in_err-bytes-clause-included : goal.include-returns-in_err-bytes-clause-included
include-returns-in_err-bytes-clause-included g t c =
    let a = c.args in
    let n = c.as_str.result.now in
    let same = c.as_str.ensures.value ∙ c.in_ok-joined.ensures in
    let p = err_from_is_err_and c.from_residual-in_err-bytes.result c.from_residual-in_err-bytes.ensures.1 in
    rw (p.1, p.2) (reads_stop g.F.Files.told g.F.Files.faults g.F.Files.asked _ _ (λ folder. fetched folder n a.from.now a.line) bytes_in c.in_err-bytes.field-0.0
    (λ folder bytes. expand_file (included (a.left - 1) folder n) n bytes (work_of a.work.now)) _ _
    (λ folder. included_as a.left folder a.from.now a.line a.name.now (work_of a.work.now) n n c.if-left-eq0.false same same)
    (reads_fetched g.F.Files.told g.F.Files.faults g.F.Files.asked _ _ n a.from.now a.line (Err c.in_err-bytes.field-0.0)
    c.in_err-bytes.ensures.found c.in_err-bytes.ensures.files))

pub include-returns-clause-included : goal.include-returns-clause-included
include-returns-clause-included g t c =
    let a = c.args in
    let n = c.as_str.result.now in
    let m = c.as_str-2.result.now in
    let same = c.as_str.ensures.value ∙ c.in_ok-joined.ensures in
    let same2 = c.as_str-2.ensures.value ∙ c.in_ok-joined.ensures in
    reached_reads g.F.Files.told g.F.Files.faults g.F.Files.asked _ _ _ _
    (λ folder. expand_file (included (a.left - 1) folder m) m c.in_ok-bytes.bytes.items (work_of a.work.now)) _ _
    (reached_more g.F.Files.told g.F.Files.faults g.F.Files.asked _ _ _ _ _ (λ folder. fetched folder n a.from.now a.line) bytes_in c.in_ok-bytes.bytes
    (λ folder bytes. expand_file (included (a.left - 1) folder m) m bytes (work_of a.work.now))
    (reached_none g.F.Files.told g.F.Files.faults g.F.Files.asked _ _ _ (λ folder. refl))
    (λ folder. included_as a.left folder a.from.now a.line a.name.now (work_of a.work.now) n m c.if-left-eq0.false same same2)
    (reads_fetched g.F.Files.told g.F.Files.faults g.F.Files.asked _ _ n a.from.now a.line (Ok c.in_ok-bytes.bytes) c.in_ok-bytes.ensures.found c.in_ok-bytes.ensures.files))
    (reads_same g.F.Files.told g.F.Files.faults g.F.Files.asked _ _ _ _ _ _
    (λ folder. ap (λ (s : List ℕ). expand_file (included (a.left - 1) folder m) m s (work_of a.work.now)) (sym c.as_slice.ensures.value)) c.expand_lines.ensures.file)
