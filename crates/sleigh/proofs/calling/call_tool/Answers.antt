use Rattle.std.proofs.Common.{map, string_bytes}
use Rattle.sl_tool.specs.Request.{request_of}
use Rattle.sleigh.proofs.HandedLemmas.{handed_all, handed_ends, handed_files, handed_reads, uses_on, whole_of}
use Rattle.sleigh.proofs.calling.call_tool.Goals as goal

pub returns-in-Done : goal.returns-in-Done
returns-in-Done g c =
    let s = c.run_tool-status.result in
    let whole = whole_of s c.in-Done.is in
    let handed = c.handed_on.ensures.ends in
    let r = request_of (map string_bytes c.args.words.now) in
    record {
      ends = handed_ends s c.handed_on.result _ whole handed (g.F.Files.told c.args.files.now) r _ _ _ _ c.run_tool-status.ensures.ends c.handed_on.ensures.same;
      handed = handed_all s c.handed_on.result _ whole handed;
      files = handed_files s c.handed_on.result _ whole handed g.F.Files.told g.F.Files.faults g.F.Files.asked r _ _ c.run_tool-status.ensures.files;
      sink = uses_on _ _ _ _ _ _ _ c.run_tool-status.ensures.sink c.handed_on.ensures.sink;
      unwritten = λ e. absurd (handed_reads s c.handed_on.result _ whole handed e);
      unrun = c.run_tool-status.ensures.unrun;
    }
