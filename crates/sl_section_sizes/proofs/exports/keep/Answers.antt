use Rattle.sl_section_sizes.proofs.ExportLemmas.{kept_is}
use Rattle.sl_section_sizes.proofs.exports.keep.Goals as goal

pub returns-then-table-len : goal.returns-then-table-len
returns-then-table-len c = kept_is c.args.exports.now.items c.args.table c.in-Some.size c.args.size c.in-Some.is
