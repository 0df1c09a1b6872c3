use Rattle.std.proofs.Common.{refl}
use Rattle.std.proofs.lemmas.Result.{on_ok_weaker, on_err_weaker}
use Rattle.sl_word.specs.Bytes.{address_sizes, byte_at, endian_of}
use Rattle.sl_word.specs.Layout.{byte_of}
use Rattle.sl_word.proofs.SpaceList.{KeepsOthers-changed, IsSame-changed, Puts-changed, reads_back, was_there}
use Rattle.sl_word.proofs.state.State.write_narrow.Goals as goal

pub returns-clause-kept : goal.returns-clause-kept
unfolding byte_at address_sizes endian_of
returns-clause-kept c =
    let was = was_there c.args.self.now c.args.space.0 c.index_mut.result.now c.requires c.index_mut.ensures.value in
    KeepsOthers-changed c.args.self.now c.args.space.0 c.write_narrow.new.self c.index_mut.result.now was _ refl refl c.write_narrow.ensures.size

pub returns-clause-put : goal.returns-clause-put
unfolding byte_at address_sizes endian_of
returns-clause-put c =
    let was = was_there c.args.self.now c.args.space.0 c.index_mut.result.now c.requires c.index_mut.ensures.value in
    on_ok_weaker c.write_narrow.result
    (Puts-changed c.args.self.now c.args.space.0 c.write_narrow.new.self c.index_mut.result.now was c.args.offset c.args.word.size.bytes (byte_of c.args.self.now.endian c.args.word.size.bytes c.args.word.bits))
    c.write_narrow.ensures.put

pub returns-clause-reads_back : goal.returns-clause-reads_back
unfolding byte_at address_sizes endian_of
returns-clause-reads_back c =
    on_ok_weaker c.write_narrow.result
    (reads_back c.args.self.now _ c.args.space.0 c.args.offset c.args.word.size.bytes c.args.word.bits
    (returns-clause-kept c) c.args.word.in_range)
    (returns-clause-put c)

pub returns-clause-unchanged : goal.returns-clause-unchanged
unfolding byte_at address_sizes endian_of
returns-clause-unchanged c =
    let was = was_there c.args.self.now c.args.space.0 c.index_mut.result.now c.requires c.index_mut.ensures.value in
    on_err_weaker c.write_narrow.result
    (IsSame-changed c.args.self.now c.args.space.0 c.write_narrow.new.self c.index_mut.result.now was _ refl refl c.write_narrow.ensures.size)
    c.write_narrow.ensures.unchanged
