-- law: what the operations of a section need to be well formed, beside that its names fit:
-- what it names lies in spaces, and operations have sizes that they take. It follows from the
-- equations and from the rules.
use Rattle.std.specs.Prelude.{◌≡◌, ℕ, ◌+◌, ◌^◌, ◌<◌, ◌≤◌, ⊤, List, [], ◌∷◌, length, slice_index}
use Rattle.sl_faithful_code.specs.Terms.{size_of}
use Rattle.sl_meaning_sections.specs.Nodes.{Node, Operands, child, frame_of, given, no_operands, node}
use Rattle.sl_meaning_sections.specs.Nodes.{references_of}
use Rattle.sl_meaning_sections.specs.References.{Reference, Setting, local, memory, number, storage}
use Rattle.sl_meaning_sections.specs.Values.{Frame, meant, space_of}
use Rattle.sl_section_flat.specs.Sections as s
use Rattle.sl_section_flat.specs.Sections.{Step, Term, Terms}
use Rattle.sl_section_flat.specs.Chains.{chain}
use Rattle.sl_section_flat.specs.declared.term.Order.{Order}
use Rattle.sl_section_flat.specs.declared.term.Order.TheVariants.{AsWritten, Exchanged}
use Rattle.sl_word.specs.Operations.{TakesSizes1, TakesSizes2}
use Rattle.sl_word.specs.declared.operation.Op2.{Op2}
use Rattle.sl_word.specs.declared.operation.Op2.TheVariants.{Subpiece}

-- Bytes are kept and dropped by expressions of their own.
abbrev pub IsNoPiece : Op2 → Type 0
IsNoPiece Subpiece = ⊥
IsNoPiece _ = ⊤

-- An operation on parts of n and k bytes gives `out` bytes.
abbrev pub TakesParts : Op2 → Order → (n k out : ℕ) → Type 0
TakesParts f AsWritten n k out = TakesSizes2 f n k out 0
TakesParts f Exchanged n k out = TakesSizes2 f k n out 0

module _ (g : Setting) where
  -- There is such a space.
  abbrev pub IsSpace : ℕ → Type 0
  IsSpace space = space < length g.sizes

  -- There is such a space, and it has this offset.
  abbrev pub IsPlace : (space offset : ℕ) → Type 0
  IsPlace space offset = IsSpace space × (offset < 256 ^ slice_index g.sizes space)

  -- What is there, and the pointers on the way, lies in its space.
  abbrev pub IsPlaced : Reference → Type 0
  IsPlaced (storage space offset size) = IsPlace space offset
  IsPlaced (local k x size) = ⊤
  IsPlaced (number v) = ⊤
  IsPlaced (memory space size pointer width) = IsSpace space × IsPlaced pointer

  -- The default space is one of the spaces, and their numbers have 32 bits.
  pub record IsMachine : Type 0 where
    pub default : IsSpace g.default
    pub few : length g.sizes ≤ 2 ^ 32

  module _ (f : Frame) where
    abbrev pub bytes_of : Term → ℕ
    bytes_of e = (size_of g f e).bytes

    abbrev mutual
      pub TermIsFormed : Term → Type 0
      TermIsFormed (s.number v x) = ⊤
      TermIsFormed (s.sized v n x) = ⊤
      TermIsFormed (s.name a x) = IsPlaced (meant g f a)
      TermIsFormed (s.paren e x) = TermIsFormed e
      TermIsFormed (s.kept e n x) = TermIsFormed e × ((f.size x).bytes ≤ bytes_of e)
      TermIsFormed (s.dropped e n x) = TermIsFormed e × ((f.size x).bytes + n ≤ bytes_of e)
      TermIsFormed (s.bits e low count x) = TermIsFormed e × ((f.size x).bytes ≤ bytes_of e)
      TermIsFormed (s.load space n e x) = TermIsFormed e × IsSpace (space_of g space)
      TermIsFormed (s.one op e x) =
          TermIsFormed e × TakesSizes1 op (bytes_of e) (f.size x).bytes
      TermIsFormed (s.two op order a b x) = TermIsFormed a × TermIsFormed b × IsNoPiece op
          × TakesParts op order (bytes_of a) (bytes_of b) (f.size x).bytes
      TermIsFormed (s.user op es x) = TermsAreFormed es × (op < 2 ^ 32)

      pub TermsAreFormed : Terms → Type 0
      TermsAreFormed s.no_terms = ⊤
      TermsAreFormed (s.then_term e es) = TermIsFormed e × TermsAreFormed es

    abbrev pub StepIsFormed : Step → Type 0
    StepIsFormed (s.declare x n) = ⊤
    StepIsFormed (s.set a e) = IsPlaced (meant g f a) × TermIsFormed e
    StepIsFormed (s.set_bits a low count e) = IsPlaced (meant g f a) × TermIsFormed e
    StepIsFormed (s.store space n pointer x e) =
        IsSpace (space_of g space) × TermIsFormed pointer × TermIsFormed e
    StepIsFormed (s.run_user op es) = TermsAreFormed (chain es) × (op < 2 ^ 32)
    StepIsFormed (s.build i) = ⊤
    StepIsFormed (s.label l) = ⊤
    StepIsFormed (s.branch to) = ⊤
    StepIsFormed (s.branch_if e to) = TermIsFormed e × (bytes_of e ≡ 1)
    StepIsFormed (s.branch_to e) = TermIsFormed e
    StepIsFormed (s.call a) = ⊤
    StepIsFormed (s.call_to e) = TermIsFormed e
    StepIsFormed (s.return e) = TermIsFormed e
    StepIsFormed (s.export what) = ⊤

    abbrev pub StepsAreFormed : List Step → Type 0
    StepsAreFormed [] = ⊤
    StepsAreFormed (a ∷ ss) = StepIsFormed a × StepsAreFormed ss

  abbrev mutual
    pub NodeIsFormed : Node → Type 0
    NodeIsFormed (node k sec os) =
        StepsAreFormed (frame_of k sec (references_of g os)) sec.steps × OperandsAreFormed os

    pub OperandsAreFormed : Operands → Type 0
    OperandsAreFormed no_operands = ⊤
    OperandsAreFormed (given r os) = OperandsAreFormed os
    OperandsAreFormed (child n os) = NodeIsFormed n × OperandsAreFormed os
