use Rattle.std.proofs.Common.{◌≤◌, ◌+◌, ◌*◌, length}
use Rattle.sl_outside.specs.Folder.{size_limit}
use Rattle.sl_preproc_directives.specs.Lines.{lines}
use Rattle.sl_preproc.specs.Stacks.{stack_of}
use Rattle.sl_preproc.specs.Works.{work_of}
use Rattle.sl_preproc.specs.Expansion.{included, expand_file}
use Rattle.sl_preproc.specs.ByLines.{expand_lines}
use Rattle.sl_preproc.specs.Whole.{IsWhole}
use Rattle.sl_preproc.specs.Reads.{Reached}
use Rattle.sl_preproc.proofs.inclusion.+files.Given as goal

abbrev pub decreases-include : goal.decreases-include
decreases-include g l = 3 * l.left

abbrev pub decreases-expand_line : goal.decreases-expand_line
decreases-expand_line g l = 3 * l.left + 1

abbrev pub decreases-expand_lines : goal.decreases-expand_lines
decreases-expand_lines g l = 3 * l.left + 2

abbrev pub invariant-expand_lines-lines : goal.invariant-expand_lines-lines
invariant-expand_lines-lines g l = record {
  count : l.number + length l.rest ≤ size_limit + 1;
  whole : IsWhole (work_of l.fn.work) → IsWhole (work_of l.work);
  reached : Reached g.F.Files.told g.F.Files.faults g.F.Files.asked l.fn.files l.files
      (λ folder. expand_file (included l.left folder l.name) l.name l.bytes (work_of l.fn.work))
      (λ folder. expand_lines (included l.left folder l.name) l.name (lines l.rest) l.number (stack_of l.groups) (work_of l.work));
}

abbrev pub decreases-expand_lines-lines : goal.decreases-expand_lines-lines
decreases-expand_lines-lines g l = length l.rest
