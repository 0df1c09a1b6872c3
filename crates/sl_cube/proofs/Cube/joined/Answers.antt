use Rattle.sl_cube.proofs.BitLemmas.{join_within, agrees_joined}
use Rattle.sl_cube.proofs.Cube.joined.Goals as goal

pub invariant_of-result : goal.invariant_of-result
invariant_of-result c =
    let a = c.args.self.now in
    let b = c.args.other.now in
    record {
      within = join_within a.mask a.value b.mask b.value a.within b.within;
      ctx_within = join_within a.ctx_mask a.ctx_value b.ctx_mask b.ctx_value a.ctx_within b.ctx_within;
    }

pub returns-clause-points : goal.returns-clause-points
returns-clause-points c = λ p.
    let a = c.args.self.now in
    let b = c.args.other.now in
    let bytes = agrees_joined a.mask a.value b.mask b.value p.bytes a.within b.within c.requires.bytes in
    let context = agrees_joined a.ctx_mask a.ctx_value b.ctx_mask b.ctx_value p.context a.ctx_within b.ctx_within c.requires.context in (
      λ inside. (
        ((bytes.0 inside.0).0, (context.0 inside.1).0),
        ((bytes.0 inside.0).1, (context.0 inside.1).1),
      ),
      λ both. (bytes.1 (both.0.0, both.1.0), context.1 (both.0.1, both.1.1)),
    )
