-- view: how names stand in patterns, as the program keeps it.
use Rattle.std.specs.Prelude.{cond, List, []}
use Rattle.sl_spec_rules.specs.Names.{Name, is_among}
use Rattle.sl_spec_actions.specs.Parts.{Part}
use Rattle.sl_spec_actions.specs.ActionNames.{with_name}
use Rattle.sl_spec_actions.specs.Standing.{Standing}

-- the names of a pattern, each once: all of them, those that stand alone, and those right of a `;`
-- whose left side holds a table
pub record PatternNames : Type 0 where
  pub anywhere : List Name
  pub bare : List Name
  pub behind_table : List Name

-- how names stand there
abbrev pub standing_of : PatternNames → Standing
standing_of names = record {
  anywhere = is_among names.anywhere;
  bare = is_among names.bare;
  behind_table = is_among names.behind_table;
}

-- of no pattern
abbrev pub no_names : PatternNames
no_names = record { anywhere = []; bare = []; behind_table = [] }

-- the names with that of a part
abbrev pub with_part : PatternNames → Part → PatternNames
with_part names p = record {
  anywhere = with_name names.anywhere p.name;
  bare = cond p.bare (with_name names.bare p.name) names.bare;
  behind_table = cond p.behind_table (with_name names.behind_table p.name) names.behind_table;
}
