use Rattle.std.proofs.Common.{refl, length}
use Rattle.std.specs.Prelude.{slice_index}
use Rattle.std.proofs.lemmas.Result.{on_ok_weaker, on_err_weaker}
use Rattle.sl_word.specs.Bytes.{address_sizes, byte_at, endian_of}
use Rattle.sl_word.proofs.SpaceList.{KeepsOthers-changed, IsSame-changed, Puts-changed, was_there}
use Rattle.sl_word.proofs.state.State.load_image.Goals as goal

pub returns-clause-kept : goal.returns-clause-kept
unfolding byte_at address_sizes endian_of
returns-clause-kept c =
    let was = was_there c.args.self.now c.args.space.0 c.index_mut.result.now c.requires.space c.index_mut.ensures.value in
    KeepsOthers-changed c.args.self.now c.args.space.0 c.load.new.self c.index_mut.result.now was _ refl refl c.load.ensures.size

pub returns-clause-put : goal.returns-clause-put
unfolding byte_at address_sizes endian_of
returns-clause-put c =
    let was = was_there c.args.self.now c.args.space.0 c.index_mut.result.now c.requires.space c.index_mut.ensures.value in
    on_ok_weaker c.load.result
    (Puts-changed c.args.self.now c.args.space.0 c.load.new.self c.index_mut.result.now was c.args.base (length c.args.bytes.now) (slice_index c.args.bytes.now))
    c.load.ensures.put

pub returns-clause-unchanged : goal.returns-clause-unchanged
unfolding byte_at address_sizes endian_of
returns-clause-unchanged c =
    let was = was_there c.args.self.now c.args.space.0 c.index_mut.result.now c.requires.space c.index_mut.ensures.value in
    on_err_weaker c.load.result
    (IsSame-changed c.args.self.now c.args.space.0 c.load.new.self c.index_mut.result.now was _ refl refl c.load.ensures.size)
    c.load.ensures.unchanged
