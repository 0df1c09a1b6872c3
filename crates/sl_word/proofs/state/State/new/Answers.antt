use Rattle.std.proofs.Common.{◌≡◌, [], ◌∷◌, ◌++◌, rules}
use Rattle.sl_word.proofs.SpaceList.{sizes_more, zeros_more}
use Rattle.sl_word.proofs.state.State.new.Goals as goal

pub loop-size-preserved : goal.loop-size-preserved
loop-size-preserved c =
    let added : c.push.new.self.items ≡ c.loop-size.spaces.items ++ c.new.result ∷ [] = search rules in
    record {
      sizes = rw added (sizes_more c.loop-size.spaces.items c.new.result c.args.sizes.now c.loop-size.size-index
          c.loop-size-test.true c.loop-size.invariant.sizes c.size-item.result c.new.ensures.size c.size-item.is);
      zero = rw added (zeros_more c.loop-size.spaces.items c.new.result c.loop-size.invariant.zero c.new.ensures.zero);
    }
