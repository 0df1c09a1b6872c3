use Rattle.std.proofs.Common.{◌≡◌, ◌+◌, ◌^◌, ◌≤◌, [], ◌∷◌, ◌++◌, rules}
use Rattle.sl_word.specs.Changes.{change_of}
use Rattle.sl_word.specs.Bytes.{byte_at}
use Rattle.sl_word.proofs.ChangeLists.{changes_more, changes_next}
use Rattle.sl_word.proofs.state.State.push_changes.Goals as goal

pub loop-offset-preserved : goal.loop-offset-preserved
loop-offset-preserved c =
    let first = c.in-Some.ensures in
    let added : c.push.new.self.items ≡ c.loop-offset.list.items ++ change_of c.args.space c.in-Some.offset (byte_at c.args.self.now c.args.space c.in-Some.offset) ∷ [] = search rules in
    let next : c.in-Some-checked_add.next ≡ c.in-Some.offset + 1 = search rules in
    rw (added, next)
    (changes_more c.args.opening.now c.args.self.now c.args.space c.loop-offset.from c.in-Some.offset c.loop-offset.list.items
    c.loop-offset.invariant first.0 first.2 first.3)

pub returns-in_default-checked_add : goal.returns-in_default-checked_add
returns-in_default-checked_add c =
    let first = c.in-Some.ensures in
    let added : c.push.new.self.items ≡ c.loop-offset.list.items ++ change_of c.args.space c.in-Some.offset (byte_at c.args.self.now c.args.space c.in-Some.offset) ∷ [] = search rules in
    let last : 2 ^ 64 ≤ c.in-Some.offset + 1 = search rules in
    rw added
    (changes_next c.args.opening.now c.args.self.now c.args.space (c.in-Some.offset + 1) _ last
    (changes_more c.args.opening.now c.args.self.now c.args.space c.loop-offset.from c.in-Some.offset c.loop-offset.list.items
    c.loop-offset.invariant first.0 first.2 first.3))
