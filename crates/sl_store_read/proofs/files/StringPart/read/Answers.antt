use Rattle.sl_store_read.proofs.Names.{is_utf8}
use Rattle.sl_store_read.proofs.files.StringPart.read.Goals as goal

pub unreachable-requires : goal.unreachable-requires
unreachable-requires c =
    let wrong = c.in_default.ensures.succeeds (is_utf8 c.args.bytes.now c.letters.new.bytes c.in_ok-found.found.items c.in_ok-found.ensures) in
    cc
