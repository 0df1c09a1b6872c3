use Rattle.sl_shape_patterns.specs.Patterns.{NameHolds}
use Rattle.sl_shape_patterns.specs.Views.{reading_of}
use Rattle.sl_shape_patterns.proofs.UnionLemmas.{union_nowhere, union_moved}
use Rattle.sl_shape_patterns.proofs.reader.Reader.name_cubes.Goals as goal

pub returns-in_default-clause-points : goal.returns-in_default-clause-points
returns-in_default-clause-points g c =
    union_nowhere (NameHolds (reading_of g.L.Lengths.bytes c.args.self.now) c.args.name.now) c.args.place c.new-cubes.result.items c.new-cubes.ensures.items c.in_default.ensures

pub returns-clause-points : goal.returns-clause-points
returns-clause-points g c =
    union_moved (NameHolds (reading_of g.L.Lengths.bytes c.args.self.now) c.args.name.now) c.args.place c.in-Some.cube c.new-cubes.result.items
    c.put_moved.new.cubes.items c.new-cubes.ensures.items c.in-Some.ensures c.in_ok-put_moved.ensures.points
