-- view: a report as the program keeps it.
use Rattle.sl_gap.specs.Reports as spec
use Rattle.sl_gap.specs.declared.report.Report.{Report}

abbrev pub report_view : Report → spec.Report
report_view r = record { tables = r.tables.items; shadowed = r.shadowed.items; holes = r.holes.items; sure = r.sure }
