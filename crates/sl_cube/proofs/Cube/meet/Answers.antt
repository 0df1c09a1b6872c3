use Rattle.sl_cube.proofs.BitLemmas.{shared_from_common}
use Rattle.sl_cube.proofs.Cube.meet.Goals as goal

pub returns-then-self-shared-clause-points : goal.returns-then-self-shared-clause-points
returns-then-self-shared-clause-points c = λ p range in_self in_other. c.if-self-shared.true
    (shared_from_common _ _ _ _ p.bytes c.args.self.now.within c.args.other.now.within in_self.0 in_other.0)

pub returns-then-self-ctx_shared-clause-points : goal.returns-then-self-ctx_shared-clause-points
returns-then-self-ctx_shared-clause-points c = λ p range in_self in_other. c.if-self-ctx_shared.true
    (shared_from_common _ _ _ _ p.context c.args.self.now.ctx_within c.args.other.now.ctx_within in_self.1 in_other.1)
