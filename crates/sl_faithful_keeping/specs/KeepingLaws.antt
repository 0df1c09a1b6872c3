-- law: a section keeps the rules where its names are those of its operands and of the text, and
-- the tests of rules 38 and 39 hold of it.
use Rattle.std.specs.Prelude.{◌≡◌, ℕ, ◌^◌, ◌≤◌, ⊤, Bool, true, List, [], ◌∷◌, length}
use Rattle.sl_section_equations.specs.Equations.{is_bare}
use Rattle.sl_section_equations.specs.Uses.{are_targets, assigned, each_used_passes}
use Rattle.sl_faithful_keeping.specs.Keeping.{StepsKeep}
use Rattle.sl_faithful_keeping.specs.Kinds.{IsAssigned, IsExporting, IsTarget, Kind}
use Rattle.sl_faithful_keeping.specs.Names.{IsNamedSo, StepsName}
use Rattle.sl_meaning_sections.specs.References.{Setting}
use Rattle.sl_section_flat.specs.Numbered.{StepsBelow}
use Rattle.sl_section_flat.specs.Sections as s
use Rattle.sl_section_flat.specs.Sections.{Export, Step}
use Rattle.sl_faithful_formed.specs.Formed.{IsMachine}

-- An exported constant is a number by itself, by rule 30.
abbrev pub ExportIsBare : Export → Type 0
ExportIsBare (s.exports a x) = ⊤
ExportIsBare (s.exports_constant n e x) = is_bare e ≡ true
ExportIsBare (s.exports_memory space n e x) = ⊤

abbrev pub ExportsAreBare : List Step → Type 0
ExportsAreBare [] = ⊤
ExportsAreBare (s.export what ∷ ss) = ExportIsBare what × ExportsAreBare ss
ExportsAreBare (_ ∷ ss) = ExportsAreBare ss

-- Each of these operands is a table that may be assigned.
abbrev pub AreAssigned : List Kind → List ℕ → Type 0
AreAssigned kinds [] = ⊤
AreAssigned kinds (i ∷ is) = IsAssigned kinds i × AreAssigned kinds is

-- What rules 38 and 39 say of tables: those that export, and those whose exports may be jumped to.
pub record UsesTables (kinds : List Kind) (exports targets : ℕ → Bool) : Type 0 where
  pub exporting : (i : ℕ) → exports i ≡ true → IsExporting kinds i
  pub target : (i : ℕ) → exports i ≡ true → targets i ≡ true → IsTarget kinds i

-- What is known of a section's statements.
pub record IsKept (g : Setting) (kinds : List Kind) (variables userops : ℕ)
    (exports targets : ℕ → Bool) (ss : List Step) : Type 0 where
  pub names : StepsName (IsNamedSo g kinds) (length g.sizes) userops ss
  pub below : StepsBelow variables ss
  pub used : each_used_passes exports ss ≡ true
  pub aimed : are_targets targets ss ≡ true
  pub assigns : AreAssigned kinds (assigned ss)
  pub bare : ExportsAreBare ss

-- Such a section keeps the rules.
abbrev pub SectionsKeepRules : Type 0
SectionsKeepRules = (g : Setting) (kinds : List Kind) (variables userops : ℕ)
    (exports targets : ℕ → Bool) (ss : List Step)
    → IsMachine g → userops ≤ 2 ^ 32 → UsesTables kinds exports targets
    → IsKept g kinds variables userops exports targets ss → StepsKeep g kinds variables ss
