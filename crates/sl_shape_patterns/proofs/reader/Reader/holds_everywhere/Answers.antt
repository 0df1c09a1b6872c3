use Rattle.std.proofs.Common.{refl}
use Rattle.sl_shape_patterns.proofs.reader.Reader.holds_everywhere.Goals as goal

pub returns : goal.returns
returns g c =
    let union = c.in_ok-cubes.ensures.points 0 refl in
    let all = c.everywhere.ensures in
    let same = rw c.deref.ensures.value at c.in_ok-covered.ensures in (
      λ t. λ p range. (union p range).0 (same.0 t p range ((all p range).1 tt)),
      λ holds. same.1 (λ p range inside. (union p range).1 (holds p range)),
    )
