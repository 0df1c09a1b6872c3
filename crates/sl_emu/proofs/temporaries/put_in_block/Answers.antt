use Rattle.std.proofs.Common.{length, get_or}
use Rattle.std.proofs.lemmas.Result.{on_ok_weaker}
use Rattle.sl_emu.proofs.TemporaryLemmas.{put_at_block}
use Rattle.sl_emu.proofs.temporaries.put_in_block.Goals as goal

pub returns : goal.returns
returns c =
    on_ok_weaker c.put_bytes.result
    (put_at_block c.args.blocks.now.items c.add_blocks.new.blocks.items c.index_mut.result.now c.put_bytes.new.block c.args.offset (length c.args.bytes.now)
    (λ i. get_or c.args.bytes.now i 0) c.in_ok-add_blocks.ensures.there c.index_mut.ensures.value c.in_ok-add_blocks.ensures.same c.requires.room)
    c.put_bytes.ensures
