use Rattle.std.proofs.Common.{◌≡◌, length, rules, subst, ℕ}
use Rattle.sl_word.specs.Bytes.{address_sizes, byte_at, endian_of}
use Rattle.sl_word.specs.Differences.{ListsChangesBefore}
use Rattle.sl_word.proofs.ChangeLists.{changes_end}
use Rattle.sl_word.proofs.state.State.changes.Goals as goal

pub returns : goal.returns
unfolding byte_at address_sizes endian_of
returns c =
    let count : c.loop-space.space ≡ length c.args.self.now.spaces.items = search rules in
    changes_end c.args.opening.now c.args.self.now c.loop-space.list.items c.requires
    (subst (λ (k : ℕ). ListsChangesBefore c.args.opening.now c.args.self.now k 0 c.loop-space.list.items) count c.loop-space.invariant)
