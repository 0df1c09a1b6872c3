use Rattle.sl_cube_tails.proofs.covers.has_all.Goals as goal

pub returns-then-contains : goal.returns-then-contains
returns-then-contains c = λ t. (c.contains.ensures.0 c.if-contains.true, c.contains-then-contains.ensures.0 t)
