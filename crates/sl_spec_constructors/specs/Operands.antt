-- meaning: the operands of a constructor, its bare names and its action names (SLEIGH manual, "The
-- Bit Pattern Section" and "Disassembly Actions Section").
use Rattle.std.specs.Prelude.{ℕ, ◌+◌, ◌&&◌, Bool, not, List, [], ◌∷◌, ◌++◌, map, filter, fold}
use Rattle.std.specs.Prelude.{Option, Some, None, unwrap_or, codes}
use Rattle.std.specs.Str.{bytes_eq}
use Rattle.sl_spec_rules.specs.Names.{Name}
use Rattle.sl_spec.specs.Named.{index_named}
use Rattle.sl_spec.specs.Tables.{Field, Operand, Table}
use Rattle.sl_spec.specs.declared.constructors.Means.{Means}
use Rattle.sl_spec.specs.declared.constructors.Means.TheVariants as means
use Rattle.sl_spec_actions.specs.ActionNames.{with_name}
use Rattle.sl_spec_actions.specs.Parts.{Part}

-- whether it is the empty pattern
abbrev pub is_epsilon : Name → Bool
is_epsilon name = bytes_eq name (codes "epsilon")

-- whether a part stands alone, and not for the empty pattern
abbrev pub is_operand : Part → Bool
is_operand p = p.bare && not (is_epsilon p.name)

-- the bare names of a pattern but `epsilon`
abbrev pub bare_names : List Part → List Name
bare_names ps = map (λ p. p.name) (filter is_operand ps)

-- a field that is defined before, or else a table of the whole text
abbrev pub meaning_by : Option ℕ → Option ℕ → Means
meaning_by (Some field) table = means.Field field
meaning_by None table = means.Table (unwrap_or table 0)

abbrev pub bare_operand : List Field → List Table → Name → Operand
bare_operand fields tables name = record {
  name = name;
  means = meaning_by (index_named (λ f. f.name) name fields)
      (index_named (λ b. b.name) name tables);
}

-- action names, numbered from k on
abbrev pub action_operands : ℕ → List Name → List Operand
action_operands k [] = []
action_operands k (name ∷ names) =
    record { name = name; means = means.Action k } ∷ action_operands (k + 1) names

-- the operands of bare names, and then those of action names
abbrev pub operands : List Field → List Table → List Name → List Name → List Operand
operands fields tables bare given = map (bare_operand fields tables) bare ++ action_operands 0 given

-- the names of operands, each once
abbrev pub operand_names : List Operand → List Name
operand_names os = fold with_name [] (map (λ o. o.name) os)
