-- law: what a section keeps beside the equations of sizes and rule 40, and that its names then
-- have the size of their readers.
use Rattle.std.specs.Prelude.{◌≡◌, ℕ, ◌+◌, ◌*◌, ◌≤◌, ⊤, true, List, [], ◌∷◌, Option, Some}
use Rattle.sl_faithful_code.specs.Fits.{NumberFits, ReferenceFits, StepsFit, TargetFits}
use Rattle.sl_faithful_code.specs.Nodes.{LocalOf}
use Rattle.sl_section_equations.specs.Equations.{section_equations}
use Rattle.sl_section_equations.specs.Fits.{section_fits}
use Rattle.sl_meaning_sections.specs.References.{Reference, Setting, number, reference_size}
use Rattle.sl_meaning_sections.specs.References.{storage}
use Rattle.sl_meaning_sections.specs.Values.{Frame, bytes, meant, reference_at}
use Rattle.sl_section_flat.specs.Sections as s
use Rattle.sl_section_flat.specs.Sections.{Direct, Step, Symbol, Term, Terms, bounded}
use Rattle.sl_section_flat.specs.Chains.{chain}
use Rattle.sl_sizes.specs.Solutions.{Meets}

abbrev pub IsStorage : Reference → Type 0
IsStorage (storage space offset size) = ⊤
IsStorage _ = ⊥

abbrev pub IsNumber : Reference → Type 0
IsNumber (number v) = NumberFits v
IsNumber _ = ⊥

-- A written size is one.
abbrev pub IsSize : ℕ → Type 0
IsSize n = (1 ≤ n) × (n ≤ 16)

-- by the sizes that the operands export
module _ (Local : (node x n : ℕ) → Type 0) (g : Setting) (f : Frame) (operand : ℕ → Option ℕ) where
  -- A table exports a size, and stands for something of that size.
  pub record IsSized (i : ℕ) : Type 0 where
    pub size : ℕ
    pub exports : operand i ≡ Some size
    pub is_size : IsSize size
    pub fits : ReferenceFits Local (reference_at f.refs i) size

  -- A name keeps what tables, registers and operands have to: rules 6 and 8 of registers and their
  -- bits, rule 38 of tables that are used, and of operands what the decode gives them.
  abbrev pub SymbolKept : Symbol → Type 0
  SymbolKept (s.register space offset n) = IsSize n
  SymbolKept (s.bit_range space offset n low count) = IsSize n × (low + count ≤ 8 * n)
  SymbolKept (s.local x) = Local f.node x (f.size x).bytes
  SymbolKept (s.table i) = IsSized i
  SymbolKept (s.attached i n) = IsStorage (reference_at f.refs i)
  SymbolKept (s.value i) = IsNumber (reference_at f.refs i)
  SymbolKept s.start = NumberFits g.start
  SymbolKept s.next = NumberFits g.next
  SymbolKept (s.integer v) = ⊤

  -- Bits of it are assigned: it isn't a number, by rules 27 and 39, and the reference has the size
  -- that is known.
  abbrev pub BitsKept : Symbol → Type 0
  BitsKept (s.register space offset n) = ⊤
  BitsKept (s.bit_range space offset n low count) = ⊤
  BitsKept (s.local x) = ⊤
  BitsKept (s.table i) = operand i ≡ Some (reference_size (reference_at f.refs i)).bytes
  BitsKept (s.attached i n) = (reference_size (reference_at f.refs i)).bytes ≡ n
  BitsKept _ = ⊥

  abbrev mutual
    pub TermKept : Term → Type 0
    TermKept (s.number v x) = ⊤
    TermKept (s.sized v n x) = ⊤
    TermKept (s.name a x) = SymbolKept a
    TermKept (s.paren e x) = TermKept e
    TermKept (s.kept e n x) = TermKept e
    TermKept (s.dropped e n x) = TermKept e
    TermKept (s.bits e low count x) = TermKept e
    TermKept (s.load space n e x) = TermKept e
    TermKept (s.one op e x) = TermKept e
    TermKept (s.two op order a b x) = TermKept a × TermKept b
    TermKept (s.user op es x) = TermsKept es

    pub TermsKept : Terms → Type 0
    TermsKept s.no_terms = ⊤
    TermsKept (s.then_term e es) = TermKept e × TermsKept es

  -- The target is a number, by rule 39.
  abbrev pub DirectKept : Direct → Type 0
  DirectKept (s.to_label l) = ⊤
  DirectKept (s.to_place a) = TargetFits Local (meant g f a)

  abbrev pub StepKept : Step → Type 0
  StepKept (s.declare x n) = ⊤
  StepKept (s.set a e) = SymbolKept a × TermKept e
  StepKept (s.set_bits a low count e) = SymbolKept a × BitsKept a × TermKept e
  StepKept (s.store space n pointer x e) = TermKept pointer × TermKept e
  StepKept (s.run_user op es) = TermsKept (chain es)
  StepKept (s.build i) = ⊤
  StepKept (s.label l) = ⊤
  StepKept (s.branch to) = DirectKept to
  StepKept (s.branch_if e to) = TermKept e × DirectKept to
  StepKept (s.branch_to e) = TermKept e
  StepKept (s.call a) = TargetFits Local (meant g f a)
  StepKept (s.call_to e) = TermKept e
  StepKept (s.return e) = TermKept e
  StepKept (s.export what) = ⊤

  abbrev pub StepsKept : List Step → Type 0
  StepsKept [] = ⊤
  StepsKept (a ∷ ss) = StepKept a × StepsKept ss

-- Where the sizes of a section meet its equations and keep rule 40, and its names keep their rules,
-- each name has the size of its reader, and bits lie in what they are bits of.
abbrev pub SectionsFit : Type 0
SectionsFit = (nodes : ℕ) (sizes : ℕ → ℕ → ℕ) (g : Setting) (f : Frame)
    (operand : ℕ → Option ℕ) (address : Option ℕ → ℕ) (ss : List Step)
    → StepsKept (LocalOf nodes sizes) g f operand ss
    → Meets (bytes g f) (section_equations address operand ss)
    → section_fits (bytes g f) operand ss ≡ true → StepsFit (LocalOf nodes sizes) g f ss
