-- law: what is named in flat sections: names are so, and spaces and user operations are among
-- those of the text.
use Rattle.std.specs.Prelude.{◌≡◌, ℕ, ◌+◌, ◌*◌, ◌<◌, ◌≤◌, ⊤, List, [], ◌∷◌}
use Rattle.std.specs.Prelude.{Option, Some, None, slice_get}
use Rattle.sl_faithful_code.specs.Fitting.{IsSize}
use Rattle.sl_faithful_keeping.specs.Kinds.{Kind, attached, value}
use Rattle.sl_meaning_sections.specs.References.{Setting}
use Rattle.sl_section_flat.specs.Sections as s
use Rattle.sl_section_flat.specs.Sections.{Direct, Export, Step, Symbol, Term, Terms}
use Rattle.sl_section_flat.specs.Chains.{chain}
use Rattle.sl_faithful_formed.specs.Formed.{IsPlace}
use Rattle.sl_faithful_formed.specs.Placed.{IsOperator}

-- ---- names

-- A register lies in a space, by rules 6 and 7, and its bits in it, by rule 8; an operand is what it
-- is named as.
abbrev pub IsNamedSo : Setting → List Kind → Symbol → Type 0
IsNamedSo g kinds (s.register space offset n) = IsSize n × IsPlace g space offset
IsNamedSo g kinds (s.bit_range space offset n low count) =
    IsSize n × (low + count ≤ 8 * n) × IsPlace g space offset
IsNamedSo g kinds (s.attached i n) = slice_get kinds i ≡ Some (attached n)
IsNamedSo g kinds (s.value i) = slice_get kinds i ≡ Some value
IsNamedSo g kinds _ = ⊤

-- ---- what is named

-- by what is so of a name, and how many spaces and user operations there are
module _ (IsSo : Symbol → Type 0) (spaces userops : ℕ) where
  -- A space that is written is one of the text.
  abbrev pub IsKnown : Option ℕ → Type 0
  IsKnown None = ⊤
  IsKnown (Some space) = space < spaces

  abbrev mutual
    pub TermNames : Term → Type 0
    TermNames (s.number v x) = ⊤
    TermNames (s.sized v n x) = ⊤
    TermNames (s.name a x) = IsSo a
    TermNames (s.paren e x) = TermNames e
    TermNames (s.kept e n x) = TermNames e
    TermNames (s.dropped e n x) = TermNames e
    TermNames (s.bits e low count x) = TermNames e
    TermNames (s.load space n e x) = IsKnown space × TermNames e
    TermNames (s.one op e x) = TermNames e
    TermNames (s.two op order a b x) = IsOperator op order × TermNames a × TermNames b
    TermNames (s.user op es x) = (op < userops) × TermsName es

    pub TermsName : Terms → Type 0
    TermsName s.no_terms = ⊤
    TermsName (s.then_term e es) = TermNames e × TermsName es

  abbrev pub DirectNames : Direct → Type 0
  DirectNames (s.to_label l) = ⊤
  DirectNames (s.to_place a) = IsSo a

  abbrev pub ExportNames : Export → Type 0
  ExportNames (s.exports a x) = IsSo a
  ExportNames (s.exports_constant n e x) = TermNames e
  ExportNames (s.exports_memory space n e x) = IsKnown space × TermNames e

  abbrev pub StepNames : Step → Type 0
  StepNames (s.declare x n) = ⊤
  StepNames (s.set a e) = IsSo a × TermNames e
  StepNames (s.set_bits a low count e) = IsSo a × TermNames e
  StepNames (s.store space n pointer x e) = IsKnown space × TermNames pointer × TermNames e
  StepNames (s.run_user op es) = (op < userops) × TermsName (chain es)
  StepNames (s.build i) = ⊤
  StepNames (s.label l) = ⊤
  StepNames (s.branch to) = DirectNames to
  StepNames (s.branch_if e to) = TermNames e × DirectNames to
  StepNames (s.branch_to e) = TermNames e
  StepNames (s.call a) = IsSo a
  StepNames (s.call_to e) = TermNames e
  StepNames (s.return e) = TermNames e
  StepNames (s.export what) = ExportNames what

  abbrev pub StepsName : List Step → Type 0
  StepsName [] = ⊤
  StepsName (a ∷ ss) = StepNames a × StepsName ss
