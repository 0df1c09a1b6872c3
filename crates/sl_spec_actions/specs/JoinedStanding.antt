-- view: how a name stands in two patterns that are joined.
use Rattle.std.specs.Prelude.{false, ◌||◌}
use Rattle.sl_spec_actions.specs.Standing.{Standing}

-- In two patterns that are joined by `&`.
abbrev pub joined : Standing → Standing → Standing
joined s r = record {
  anywhere = λ name. s.anywhere name || r.anywhere name;
  bare = λ name. s.bare name || r.bare name;
  behind_table = λ name. s.behind_table name || r.behind_table name;
}

-- In no pattern.
abbrev pub nowhere : Standing
nowhere = record {
  anywhere = λ name. false;
  bare = λ name. false;
  behind_table = λ name. false;
}
