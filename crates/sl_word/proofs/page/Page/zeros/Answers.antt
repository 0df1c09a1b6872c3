use Rattle.std.proofs.Common.{◌≡◌, rules}
use Rattle.std.specs.Prelude.{replicate}
use Rattle.sl_word.proofs.Memory.{get_or-zeros}
use Rattle.sl_word.proofs.page.Page.zeros.Goals as goal

pub returns : goal.returns
returns c =
    let zeros : c.in_ok-bytes.bytes.items ≡ replicate 4096 0 = search rules in
    λ place. rw zeros (get_or-zeros 4096 place)
