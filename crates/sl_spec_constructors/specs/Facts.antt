-- view: what rules 17 to 20 say of a pattern alone. Of a block's pattern and of what stands inside
-- they say what they say of each, so it is made once for a block.
use Rattle.std.specs.Prelude.{◌≡◌, ◌&&◌, Bool, true, List, [], ◌++◌, Option, None, Some}
use Rattle.std.specs.List.{list_all}
use Rattle.sl_ast.specs.Trees.{Head, Pattern}
use Rattle.sl_spec_rules.specs.Names.{Name}
use Rattle.sl_spec.specs.Tables.{Field, Table}
use Rattle.sl_spec_actions.specs.Parts.{Part, parts_of}
use Rattle.sl_spec_constructors.specs.ConstraintValues.{has_values}
use Rattle.sl_spec_constructors.specs.ConstructorRules.{is_allowed_there, is_known}
use Rattle.sl_spec_constructors.specs.Operands.{bare_names}

-- whether rules 17, 19 and 20 hold of it, and its bare names, by which rule 18 is judged
pub record PatternFacts : Type 0 where
  pub known : Bool
  pub allowed : Bool
  pub valued : Bool
  pub bare : List Name

-- of no pattern
abbrev pub no_facts : PatternFacts
no_facts = record { known = true; allowed = true; valued = true; bare = [] }

-- of two patterns
abbrev pub both : PatternFacts → PatternFacts → PatternFacts
both f g = record {
  known = f.known && g.known;
  allowed = f.allowed && g.allowed;
  valued = f.valued && g.valued;
  bare = f.bare ++ g.bare;
}

-- by the parts of a pattern, and whether rule 20 holds of it
abbrev pub facts_by : List Field → List Table → List Part → Bool → PatternFacts
facts_by fields tables ps valued = record {
  known = list_all (is_known fields tables) ps;
  allowed = list_all is_allowed_there ps;
  valued = valued;
  bare = bare_names ps;
}

-- of a whole pattern, by the fields so far and all tables of the text
abbrev pub facts_of : List Field → List Table → Pattern → PatternFacts
facts_of fields tables p = facts_by fields tables (parts_of tables p) (has_values p)

abbrev pub facts_if_written : List Field → List Table → Option Pattern → PatternFacts
facts_if_written fields tables None = no_facts
facts_if_written fields tables (Some p) = facts_of fields tables p

-- They are those of a block's pattern, if it has one.
abbrev pub AreOfHead : List Field → List Table → Head → PatternFacts → Type 0
AreOfHead fields tables h f = f ≡ facts_if_written fields tables h.pattern
