-- law: what a section keeps beside the equations of sizes, rule 40 and what its names keep:
-- registers, loads and stores have spaces that there are, and operations are those of expressions.
use Rattle.std.specs.Prelude.{◌≡◌, ℕ, ◌^◌, ◌<◌, ⊤, true, List, [], ◌∷◌, Option}
use Rattle.sl_section_equations.specs.Equations.{section_equations}
use Rattle.sl_section_equations.specs.Fits.{section_fits}
use Rattle.sl_meaning_sections.specs.References.{Setting}
use Rattle.sl_meaning_sections.specs.Values.{Frame, bytes, meant, space_of}
use Rattle.sl_section_flat.specs.Sections as s
use Rattle.sl_section_flat.specs.Sections.{Step, Term, Terms}
use Rattle.sl_section_flat.specs.Chains.{chain}
use Rattle.sl_section_flat.specs.declared.term.Order.{Order}
use Rattle.sl_section_flat.specs.declared.term.Order.TheVariants.{AsWritten, Exchanged}
use Rattle.sl_sizes.specs.Solutions.{Meets}
use Rattle.sl_faithful_formed.specs.Formed.{IsNoPiece, IsPlaced, IsSpace, StepsAreFormed}
use Rattle.sl_word.specs.declared.operation.Op2.{Op2}
use Rattle.sl_word.specs.declared.operation.Op2.TheVariants.{IntLess, IntLessEqual, IntSless}
use Rattle.sl_word.specs.declared.operation.Op2.TheVariants.{IntSlessEqual}

-- The comparisons are written in both directions.
abbrev pub IsComparison : Op2 → Type 0
IsComparison IntLess = ⊤
IsComparison IntLessEqual = ⊤
IsComparison IntSless = ⊤
IsComparison IntSlessEqual = ⊤
IsComparison _ = ⊥

-- Expressions have the operation, with its parts in this order.
abbrev pub IsOperator : Op2 → Order → Type 0
IsOperator f AsWritten = IsNoPiece f
IsOperator f Exchanged = IsComparison f

module _ (g : Setting) (f : Frame) where
  abbrev mutual
    pub TermIsPlaced : Term → Type 0
    TermIsPlaced (s.number v x) = ⊤
    TermIsPlaced (s.sized v n x) = ⊤
    TermIsPlaced (s.name a x) = IsPlaced g (meant g f a)
    TermIsPlaced (s.paren e x) = TermIsPlaced e
    TermIsPlaced (s.kept e n x) = TermIsPlaced e
    TermIsPlaced (s.dropped e n x) = TermIsPlaced e
    TermIsPlaced (s.bits e low count x) = TermIsPlaced e
    TermIsPlaced (s.load space n e x) = IsSpace g (space_of g space) × TermIsPlaced e
    TermIsPlaced (s.one op e x) = TermIsPlaced e
    TermIsPlaced (s.two op order a b x) = IsOperator op order × TermIsPlaced a × TermIsPlaced b
    TermIsPlaced (s.user op es x) = (op < 2 ^ 32) × TermsArePlaced es

    pub TermsArePlaced : Terms → Type 0
    TermsArePlaced s.no_terms = ⊤
    TermsArePlaced (s.then_term e es) = TermIsPlaced e × TermsArePlaced es

  abbrev pub StepIsPlaced : Step → Type 0
  StepIsPlaced (s.declare x n) = ⊤
  StepIsPlaced (s.set a e) = IsPlaced g (meant g f a) × TermIsPlaced e
  StepIsPlaced (s.set_bits a low count e) = IsPlaced g (meant g f a) × TermIsPlaced e
  StepIsPlaced (s.store space n pointer x e) =
      IsSpace g (space_of g space) × TermIsPlaced pointer × TermIsPlaced e
  StepIsPlaced (s.run_user op es) = (op < 2 ^ 32) × TermsArePlaced (chain es)
  StepIsPlaced (s.build i) = ⊤
  StepIsPlaced (s.label l) = ⊤
  StepIsPlaced (s.branch to) = ⊤
  StepIsPlaced (s.branch_if e to) = TermIsPlaced e
  StepIsPlaced (s.branch_to e) = TermIsPlaced e
  StepIsPlaced (s.call a) = ⊤
  StepIsPlaced (s.call_to e) = TermIsPlaced e
  StepIsPlaced (s.return e) = TermIsPlaced e
  StepIsPlaced (s.export what) = ⊤

  abbrev pub StepsArePlaced : List Step → Type 0
  StepsArePlaced [] = ⊤
  StepsArePlaced (a ∷ ss) = StepIsPlaced a × StepsArePlaced ss

-- Where the sizes of a section meet its equations and keep rule 40, and what it names is placed,
-- its operations have sizes that they take.
abbrev pub SectionsAreFormed : Type 0
SectionsAreFormed = (g : Setting) (f : Frame) (operand : ℕ → Option ℕ)
    (address : Option ℕ → ℕ) (ss : List Step)
    → StepsArePlaced g f ss → Meets (bytes g f) (section_equations address operand ss)
    → section_fits (bytes g f) operand ss ≡ true → StepsAreFormed g f ss
