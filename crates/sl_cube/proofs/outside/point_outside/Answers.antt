use Rattle.sl_cube.proofs.outside.point_outside.Goals as goal

pub returns : goal.returns
returns c = c.in_ok-least.ensures (rw c.in-Some.is at c.in_ok-found.ensures)
