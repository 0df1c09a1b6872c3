use Rattle.std.proofs.Common.{sym, ◌∙◌}
use Rattle.sl_shape_patterns.specs.Patterns.{hull_named, is_open}
use Rattle.sl_shape_patterns.specs.Views.{reading_of}
use Rattle.sl_shape_patterns.proofs.WindowLemmas.{some_end}
use Rattle.sl_shape_patterns.proofs.reader.Reader.name_end.Goals as goal

pub returns-in-Some : goal.returns-in-Some
returns-in-Some g c =
    some_end (is_open c.args.self.now.tables.now c.args.name.now) (hull_named (reading_of g.L.Lengths.bytes c.args.self.now) c.args.name.now) c.in-Some.hull c.bytes_fixed.result
    (sym c.is_open.ensures ∙ c.if-is_open.false) (sym c.hull_named.ensures ∙ c.in-Some.is) c.bytes_fixed.ensures
