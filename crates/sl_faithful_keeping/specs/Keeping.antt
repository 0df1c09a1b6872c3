-- law: what accepted specifications keep, section by section and node by node: each section
-- meets its equations and rule 40, its names are those of its operands and of the whole text, and
-- each node below has the operands and the export that the constructor above it counts on.
use Rattle.std.specs.Prelude.{◌≡◌, ℕ, ◌+◌, ◌*◌, ◌^◌, ◌<◌, ◌≤◌, ⊤, Bool, true, List, [], ◌∷◌}
use Rattle.std.specs.Prelude.{Option, Some, None, slice_get, slice_index}
use Rattle.sl_faithful_code.specs.Fits.{NumberFits}
use Rattle.sl_faithful_code.specs.Fitting.{IsNumber, IsSize}
use Rattle.sl_section_equations.specs.Equations.{is_bare, section_equations}
use Rattle.sl_section_equations.specs.Fits.{section_fits}
use Rattle.sl_section_equations.specs.Uses.{export_variable}
use Rattle.sl_faithful_keeping.specs.Kinds.{IsAssigned, IsExporting, IsTarget, Kind, attached, operand_size}
use Rattle.sl_faithful_keeping.specs.Kinds.{table, value}
use Rattle.sl_meaning_sections.specs.Nodes.{Node, Operands, Section, child, given, no_operands, node}
use Rattle.sl_meaning_sections.specs.References.{Reference, Setting, local, memory, number, storage}
use Rattle.sl_meaning_sections.specs.Values.{space_of}
use Rattle.sl_section_flat.specs.Sections as s
use Rattle.sl_section_flat.specs.Sections.{Direct, Export, Step, Symbol, Term, Terms}
use Rattle.sl_section_flat.specs.Chains.{chain}
use Rattle.sl_sizes.specs.Solutions.{Meets}
use Rattle.sl_faithful_formed.specs.Formed.{IsMachine, IsPlace, IsSpace}
use Rattle.sl_faithful_formed.specs.Lengths.{AreDistinct, built}
use Rattle.sl_faithful_formed.specs.Placed.{IsOperator}

-- The machine, with addresses of at most 8 bytes, and with the addresses of the instruction and of
-- the one behind it in 64-bit two's complement.
pub record IsSetting (g : Setting) : Type 0 where
  pub machine : IsMachine g
  pub narrow : slice_index g.sizes g.default ≤ 8
  pub start : NumberFits g.start
  pub next : NumberFits g.next

-- ---- sections

-- by the kinds of the operands and the number of size variables
module _ (g : Setting) (kinds : List Kind) (variables : ℕ) where
  -- A register lies in a space, by rules 6 and 7, and its bits in it, by rule 8; a table that is
  -- used exports, by rule 38; other operands are what they are named as.
  abbrev pub SymbolKeeps : Symbol → Type 0
  SymbolKeeps (s.register space offset n) = IsSize n × IsPlace g space offset
  SymbolKeeps (s.bit_range space offset n low count) =
      IsSize n × (low + count ≤ 8 * n) × IsPlace g space offset
  SymbolKeeps (s.local x) = x < variables
  SymbolKeeps (s.table i) = IsExporting kinds i
  SymbolKeeps (s.attached i n) = slice_get kinds i ≡ Some (attached n)
  SymbolKeeps (s.value i) = slice_get kinds i ≡ Some value
  SymbolKeeps s.start = ⊤
  SymbolKeeps s.next = ⊤
  SymbolKeeps (s.integer v) = ⊤

  -- Bits of a table are assigned: it exports no constant, by rule 39.
  abbrev pub BitsKeep : Symbol → Type 0
  BitsKeep (s.table i) = IsAssigned kinds i
  BitsKeep _ = ⊤

  -- The target of a direct jump or call is a number, or a table that stands for one, by rule 39.
  abbrev pub TargetKeeps : Symbol → Type 0
  TargetKeeps (s.table i) = IsTarget kinds i
  TargetKeeps (s.value i) = slice_get kinds i ≡ Some value
  TargetKeeps s.start = ⊤
  TargetKeeps s.next = ⊤
  TargetKeeps (s.integer v) = ⊤
  TargetKeeps _ = ⊥

  abbrev mutual
    pub TermKeeps : Term → Type 0
    TermKeeps (s.number v x) = ⊤
    TermKeeps (s.sized v n x) = ⊤
    TermKeeps (s.name a x) = SymbolKeeps a
    TermKeeps (s.paren e x) = TermKeeps e
    TermKeeps (s.kept e n x) = TermKeeps e
    TermKeeps (s.dropped e n x) = TermKeeps e
    TermKeeps (s.bits e low count x) = TermKeeps e
    TermKeeps (s.load space n e x) = IsSpace g (space_of g space) × TermKeeps e
    TermKeeps (s.one op e x) = TermKeeps e
    TermKeeps (s.two op order a b x) = IsOperator op order × TermKeeps a × TermKeeps b
    TermKeeps (s.user op es x) = (op < 2 ^ 32) × TermsKeep es

    pub TermsKeep : Terms → Type 0
    TermsKeep s.no_terms = ⊤
    TermsKeep (s.then_term e es) = TermKeeps e × TermsKeep es

  abbrev pub DirectKeeps : Direct → Type 0
  DirectKeeps (s.to_label l) = ⊤
  DirectKeeps (s.to_place a) = TargetKeeps a

  -- A constant is a number by itself, by rule 30.
  abbrev pub ExportKeeps : Export → Type 0
  ExportKeeps (s.exports a x) = SymbolKeeps a
  ExportKeeps (s.exports_constant n e x) = (is_bare e ≡ true) × TermKeeps e
  ExportKeeps (s.exports_memory space n e x) = IsSpace g (space_of g space) × TermKeeps e

  abbrev pub StepKeeps : Step → Type 0
  StepKeeps (s.declare x n) = ⊤
  StepKeeps (s.set a e) = SymbolKeeps a × TermKeeps e
  StepKeeps (s.set_bits a low count e) = SymbolKeeps a × BitsKeep a × TermKeeps e
  StepKeeps (s.store space n pointer x e) =
      IsSpace g (space_of g space) × TermKeeps pointer × TermKeeps e
  StepKeeps (s.run_user op es) = (op < 2 ^ 32) × TermsKeep (chain es)
  StepKeeps (s.build i) = ⊤
  StepKeeps (s.label l) = ⊤
  StepKeeps (s.branch to) = DirectKeeps to
  StepKeeps (s.branch_if e to) = TermKeeps e × DirectKeeps to
  StepKeeps (s.branch_to e) = TermKeeps e
  StepKeeps (s.call a) = TargetKeeps a
  StepKeeps (s.call_to e) = TermKeeps e
  StepKeeps (s.return e) = TermKeeps e
  StepKeeps (s.export what) = ExportKeeps what

  abbrev pub StepsKeep : List Step → Type 0
  StepsKeep [] = ⊤
  StepsKeep (a ∷ ss) = StepKeeps a × StepsKeep ss

-- The sizes of a section meet its equations and keep rule 40, its names keep their rules, and it
-- builds each operand once at most, by rule 29.
pub record SectionKeeps (g : Setting) (kinds : List Kind) (sec : Section) : Type 0 where
  pub variables : ℕ
  pub few : variables ≤ 65536
  pub once : AreDistinct (built sec.steps)
  pub address : Option ℕ → ℕ
  pub keeps : StepsKeep g kinds variables sec.steps
  pub meets : Meets (λ x. (sec.size x).bytes)
      (section_equations address (operand_size kinds) sec.steps)
  pub fits : section_fits (λ x. (sec.size x).bytes) (operand_size kinds) sec.steps ≡ true

-- ---- exports

-- what a section exports
abbrev pub first_export : List Step → Option Export
first_export [] = None
first_export (s.export what ∷ ss) = Some what
first_export (_ ∷ ss) = first_export ss

module _ (kinds : List Kind) where
  -- It is a number, or memory at a number.
  abbrev pub IsTargetExport : Export → Type 0
  IsTargetExport (s.exports (s.table i) x) = IsTarget kinds i
  IsTargetExport (s.exports a x) = ⊥
  IsTargetExport (s.exports_constant n e x) = ⊤
  IsTargetExport (s.exports_memory space n e x) = is_bare e ≡ true

  -- It isn't a number.
  abbrev pub IsPlaceExport : Export → Type 0
  IsPlaceExport (s.exports (s.register space offset n) x) = ⊤
  IsPlaceExport (s.exports (s.local y) x) = ⊤
  IsPlaceExport (s.exports (s.table i) x) = IsAssigned kinds i
  IsPlaceExport (s.exports (s.attached i n) x) = ⊤
  IsPlaceExport (s.exports a x) = ⊥
  IsPlaceExport (s.exports_constant n e x) = ⊥
  IsPlaceExport (s.exports_memory space n e x) = ⊤

-- A section exports something of a size, which may be jumped to, and assigned, where that is
-- counted on.
pub record Exports (kinds : List Kind) (sec : Section) (size : ℕ)
    (target assigned : Bool) : Type 0 where
  pub what : Export
  pub is : first_export sec.steps ≡ Some what
  pub sized : (sec.size (export_variable what)).bytes ≡ size
  pub may_be_target : target ≡ true → IsTargetExport kinds what
  pub may_be_assigned : assigned ≡ true → IsPlaceExport kinds what

abbrev pub ExportsAs : (kinds : List Kind) → Section → Option ℕ → (target assigned : Bool) → Type 0
ExportsAs kinds sec None target assigned = ⊤
ExportsAs kinds sec (Some size) target assigned = Exports kinds sec size target assigned

-- ---- nodes

-- A register of this size.
abbrev pub IsRegister : Setting → Reference → (n : ℕ) → Type 0
IsRegister g (storage space offset size) n = IsPlace g space offset × (size.bytes ≡ n)
IsRegister g (local k x size) n = ⊥
IsRegister g (number v) n = ⊥
IsRegister g (memory space size pointer width) n = ⊥

-- of so many nodes, whose locals have these sizes
module _ (nodes : ℕ) (sizes : ℕ → ℕ → ℕ) (g : Setting) where
  -- The node has a number of its own; its section keeps the rules by some kinds of operands, and
  -- its operands are of these kinds.
  abbrev mutual
    pub NodeKeeps : Option ℕ → (target assigned : Bool) → Node → Type 0
    NodeKeeps size target assigned (node k sec os) = (k < nodes)
        × ((x : ℕ) → (sec.size x).bytes ≡ sizes k x)
        × ((kinds : List Kind) × SectionKeeps g kinds sec
        × ExportsAs kinds sec size target assigned × OperandsKeep os kinds)

    pub OperandsKeep : Operands → List Kind → Type 0
    OperandsKeep no_operands [] = ⊤
    OperandsKeep (given r os) (attached n ∷ kinds) = IsRegister g r n × OperandsKeep os kinds
    OperandsKeep (given r os) (value ∷ kinds) = IsNumber r × OperandsKeep os kinds
    OperandsKeep (child n os) (table size target assigned ∷ kinds) =
        NodeKeeps size target assigned n × OperandsKeep os kinds
    OperandsKeep _ _ = ⊥
