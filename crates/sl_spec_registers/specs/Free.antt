-- view: no list has something of a name.
use Rattle.std.specs.Prelude.{◌≡◌, false, true, List, map}
use Rattle.sl_spec_rules.specs.Names.{Name, differ_behind}
use Rattle.sl_spec.specs.Named.{has_name}
use Rattle.sl_spec.specs.declared.tables.Tables.{Tables}

-- No list has something of this name.
pub record IsFree (name : Name) (t : Tables) : Type 0 where
  pub spaces : has_name (λ s. s.name) name t.spaces ≡ false
  pub registers : has_name (λ r. r.name) name t.registers ≡ false
  pub bitranges : has_name (λ r. r.name) name t.bitranges ≡ false
  pub userops : has_name (λ u. u.name) name t.userops ≡ false
  pub tokens : has_name (λ k. k.name) name t.tokens ≡ false
  pub fields : has_name (λ f. f.name) name t.fields ≡ false
  pub macros : has_name (λ m. m.name) name t.macros ≡ false
  pub tables : has_name (λ b. b.name) name t.tables ≡ false

-- The names differ from those of each list to which one item may add several, and from one another.
pub record AreFree (names : List Name) (t : Tables) : Type 0 where
  pub registers : differ_behind (map (λ r. r.name) t.registers) names ≡ true
  pub bitranges : differ_behind (map (λ r. r.name) t.bitranges) names ≡ true
  pub userops : differ_behind (map (λ u. u.name) t.userops) names ≡ true
  pub fields : differ_behind (map (λ f. f.name) t.fields) names ≡ true
