use Rattle.std.proofs.Common.{eq-eqb, arith}
use borrow.Author.Tests.{eqb-true}
use Rattle.std.proofs.lemmas.Bool.{false≢true}
use Rattle.sl_cube.proofs.BitLemmas.{shared_from_common}
use Rattle.sl_cube.proofs.CubeLemmas.{meet_from_masks}
use Rattle.sl_cube.proofs.Cube.meets.Goals as goal

pub returns-then-self-shared : goal.returns-then-self-shared
returns-then-self-shared c = (
  λ t. absurd (false≢true t),
  λ meet. absurd (c.if-self-shared.true
      (shared_from_common _ _ _ _ meet.0.bytes c.args.self.now.within c.args.other.now.within meet.2.0 meet.3.0)),
)

pub returns : goal.returns
returns c = (
  λ t. meet_from_masks c.args.self.now c.args.other.now (omega arith) (omega arith) (omega arith) (omega arith) c.if-self-shared.false (eqb-true _ _ t),
  λ meet. eq-eqb _ _ (shared_from_common _ _ _ _ meet.0.context c.args.self.now.ctx_within c.args.other.now.ctx_within meet.2.1 meet.3.1),
)
