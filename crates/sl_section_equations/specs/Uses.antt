-- meaning: what a section does with its constructor's operands that are tables, and what it
-- exports, for rules 38 to 40.
use Rattle.std.specs.Prelude.{ℕ, ◌==◌, ◌&&◌, Bool, true, false, if◌then◌else◌}
use Rattle.std.specs.Prelude.{List, [], ◌∷◌, ◌++◌, Option, Some, None, option_and_then, option_map}
use Rattle.std.specs.Prelude.{slice_get, unwrap_or}
use Rattle.sl_section_flat.specs.Sections as s
use Rattle.sl_section_flat.specs.Sections.{Direct, Step, Symbol, Term, Terms}
use Rattle.sl_section_flat.specs.Chains.{bytes_of, chain}
use Rattle.sl_word.specs.declared.word.Size.{Size}
use Rattle.sl_section_equations.specs.Equations.{is_bare}
use Rattle.sl_section_equations.specs.declared.exports.ExportKind.{ExportKind}
use Rattle.sl_section_equations.specs.declared.exports.ExportKind.TheVariants as e

-- ---- each table operand that the section reads, assigns, jumps to, exports or exports a pointer
-- from passes a test

-- what stands under a number, false where nothing does
abbrev pub flag : List Bool → ℕ → Bool
flag bs i = unwrap_or (slice_get bs i) false

module _ (p : ℕ → Bool) where
  abbrev pub symbol_passes : Symbol → Bool
  symbol_passes (s.table i) = p i
  symbol_passes _ = true

  abbrev mutual
    pub term_passes : Term → Bool
    term_passes (s.number v x) = true
    term_passes (s.sized v n x) = true
    term_passes (s.name a x) = symbol_passes a
    term_passes (s.paren t x) = term_passes t
    term_passes (s.kept t n x) = term_passes t
    term_passes (s.dropped t n x) = term_passes t
    term_passes (s.bits t low count x) = term_passes t
    term_passes (s.load space n t x) = term_passes t
    term_passes (s.one op t x) = term_passes t
    term_passes (s.two op order a b x) = term_passes a && term_passes b
    term_passes (s.user op ts x) = terms_pass ts

    pub terms_pass : Terms → Bool
    terms_pass s.no_terms = true
    terms_pass (s.then_term t ts) = term_passes t && terms_pass ts

  abbrev pub direct_passes : Direct → Bool
  direct_passes (s.to_label l) = true
  direct_passes (s.to_place a) = symbol_passes a

  abbrev pub export_passes : s.Export → Bool
  export_passes (s.exports a x) = symbol_passes a
  export_passes (s.exports_constant n t x) = term_passes t
  export_passes (s.exports_memory space n t x) = term_passes t

  abbrev pub step_passes : Step → Bool
  step_passes (s.declare x n) = true
  step_passes (s.set a t) = symbol_passes a && term_passes t
  step_passes (s.set_bits a low count t) = symbol_passes a && term_passes t
  step_passes (s.store space n pointer x t) = term_passes pointer && term_passes t
  step_passes (s.run_user op ts) = terms_pass (chain ts)
  step_passes (s.build i) = true
  step_passes (s.label l) = true
  step_passes (s.branch to) = direct_passes to
  step_passes (s.branch_if t to) = term_passes t && direct_passes to
  step_passes (s.branch_to t) = term_passes t
  step_passes (s.call a) = symbol_passes a
  step_passes (s.call_to t) = term_passes t
  step_passes (s.return t) = term_passes t
  step_passes (s.export what) = export_passes what

  abbrev pub each_used_passes : List Step → Bool
  each_used_passes [] = true
  each_used_passes (a ∷ ss) = step_passes a && each_used_passes ss

  -- ---- the targets of direct jumps and calls are numbers, or table operands that pass a test

  abbrev pub is_target : Symbol → Bool
  is_target (s.table i) = p i
  is_target (s.value i) = true
  is_target s.start = true
  is_target s.next = true
  is_target (s.integer v) = true
  is_target _ = false

  abbrev pub direct_is_target : Direct → Bool
  direct_is_target (s.to_label l) = true
  direct_is_target (s.to_place a) = is_target a

  abbrev pub step_targets : Step → Bool
  step_targets (s.branch to) = direct_is_target to
  step_targets (s.branch_if t to) = direct_is_target to
  step_targets (s.call a) = is_target a
  step_targets _ = true

  abbrev pub are_targets : List Step → Bool
  are_targets [] = true
  are_targets (a ∷ ss) = step_targets a && are_targets ss

-- ---- the table operands that are assigned, whole or bits of them

abbrev pub table_of : Symbol → List ℕ
table_of (s.table i) = i ∷ []
table_of _ = []

abbrev pub step_assigned : Step → List ℕ
step_assigned (s.set a t) = table_of a
step_assigned (s.set_bits a low count t) = table_of a
step_assigned _ = []

abbrev pub assigned : List Step → List ℕ
assigned [] = []
assigned (a ∷ ss) = step_assigned a ++ assigned ss

-- ---- what is exported; rule 30 has one export at most

abbrev pub symbol_kind : Symbol → ExportKind
symbol_kind (s.table i) = e.Table i
symbol_kind _ = e.Storage

-- the default space is meant where none is named
abbrev pub is_default : (default : ℕ) → Option ℕ → Bool
is_default default None = true
is_default default (Some space) = space == default

abbrev pub kind_of : (default : ℕ) → s.Export → ExportKind
kind_of default (s.exports a x) = symbol_kind a
kind_of default (s.exports_constant n t x) = e.Constant
kind_of default (s.exports_memory space n t x) =
    if is_default default space && is_bare t then e.Place else e.Storage

abbrev pub export_kind : (default : ℕ) → List Step → ExportKind
export_kind default [] = e.Nothing
export_kind default (s.export what ∷ ss) = kind_of default what
export_kind default (_ ∷ ss) = export_kind default ss

abbrev pub export_variable : s.Export → ℕ
export_variable (s.exports a x) = x
export_variable (s.exports_constant n t x) = x
export_variable (s.exports_memory space n t x) = x

-- the size variable of what is exported
abbrev pub exported_variable : List Step → Option ℕ
exported_variable [] = None
exported_variable (s.export what ∷ ss) = Some (export_variable what)
exported_variable (_ ∷ ss) = exported_variable ss

-- the size of what is exported, by the sizes of the variables
abbrev pub exported_size : List Size → List Step → Option ℕ
exported_size sizes ss =
    option_and_then (λ x. option_map bytes_of (slice_get sizes x)) (exported_variable ss)
