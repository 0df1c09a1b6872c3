-- step: a constraint, as the program keeps it.
use Rattle.sl_shape_constraints.specs.Values as spec
use Rattle.sl_shape_constraints.specs.declared.constraint.Constraint.{Constraint}

abbrev pub constraint_of : Constraint → spec.Constraint
constraint_of c = record {
  tokens = c.tokens.now;
  field = c.field.now;
  relation = c.relation;
  number = c.number;
}
