-- meaning: how a name stands in a pattern, and in two that are joined.
use Rattle.std.specs.Prelude.{Bool, ◌&&◌, List}
use Rattle.std.specs.List.{list_any}
use Rattle.std.specs.Str.{bytes_eq}
use Rattle.sl_spec_rules.specs.Names.{Name}
use Rattle.sl_spec_actions.specs.Parts.{Part}

-- whether a name stands in a pattern: anywhere, alone, and right of a `;` whose left side holds a
-- table
pub record Standing : Type 0 where
  pub anywhere : Name → Bool
  pub bare : Name → Bool
  pub behind_table : Name → Bool

-- One part of that name is enough, whatever others stand there.
abbrev pub standing : List Part → Standing
standing ps = record {
  anywhere = λ name. list_any (λ p. bytes_eq name p.name) ps;
  bare = λ name. list_any (λ p. p.bare && bytes_eq name p.name) ps;
  behind_table = λ name. list_any (λ p. p.behind_table && bytes_eq name p.name) ps;
}
