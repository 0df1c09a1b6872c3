-- Trees whose nodes keep the rules fit, and their operations are a translation.
use Rattle.std.proofs.Common.{◌≡◌, ℕ, zero, suc, ◌<◌, ◌≤◌, Bool, false, List, [], ◌∷◌, length, Option, Some, None, sym, ap, ◌∙◌, subst, arith}
use Rattle.std.specs.Prelude.{slice_get}
use Rattle.std.proofs.lemmas.List.{length-map}
use Rattle.sl_faithful_code.specs.Fits.{StepsFit}
use Rattle.sl_faithful_code.specs.Fitting.{IsNumber}
use Rattle.sl_faithful_code.specs.Nodes.{LocalOf, NodeFits, OperandsFit, node_code, top_of}
use Rattle.sl_faithful_code.specs.Operations.{operation_of}
use Rattle.sl_faithful_code.proofs.FitLemmas.{sections_fit}
use Rattle.sl_faithful_code.proofs.Nodes.{code_is_faithful}
use Rattle.sl_faithful_keeping.specs.Keeping.{IsRegister, IsSetting, NodeKeeps, OperandsKeep, SectionKeeps}
use Rattle.sl_faithful_keeping.specs.Kinds.{Kind, attached, kind_size, operand_size, table, value}
use Rattle.sl_faithful_keeping.specs.FittingLaws.{TreesAreTranslated, TreesFit}
use Rattle.sl_faithful_keeping.proofs.Exported.{section_good}
use Rattle.sl_faithful_keeping.proofs.Kept.{Good, Known, steps_kept, steps_placed}
use Rattle.sl_meaning_sections.specs.Nodes.{Node, Operands, Section, child, frame_of, given, no_operands, node, reference_of, references_of}
use Rattle.sl_meaning_sections.specs.References.{Reference, Setting, local, memory, number, storage}
use Rattle.sl_meaning_sections.specs.Values.{Frame, reference_at}
use Rattle.sl_faithful_formed.specs.Formed.{NodeIsFormed, OperandsAreFormed, StepsAreFormed}
use Rattle.sl_faithful_formed.specs.Lengths.{AreTrees, IsPlain, IsTree}
use Rattle.sl_faithful_formed.proofs.FormLemmas.{sections_are_formed}
use Rattle.sl_faithful_formed.proofs.LengthLemmas.{lists_are_short}
use Rattle.sl_faithful_formed.proofs.Nodes.{lists_are_well_formed}

-- the parts of what is known of a table
abbrev kind_target : Option Kind → Bool
kind_target None = false
kind_target (Some (table size target assigned)) = target
kind_target (Some (attached n)) = false
kind_target (Some value) = false

abbrev kind_assigned : Option Kind → Bool
kind_assigned None = false
kind_assigned (Some (table size target assigned)) = assigned
kind_assigned (Some (attached n)) = false
kind_assigned (Some value) = false

register_plain : (g : Setting) (r : Reference) (n : ℕ) → IsRegister g r n → IsPlain r
register_plain g (storage space offset size) n h = tt
register_plain g (local k x size) n h = tt
register_plain g (number v) n h = tt
register_plain g (memory space size p w) n h = absurd h

number_plain : (r : Reference) → IsNumber r → IsPlain r
number_plain (storage space offset size) h = tt
number_plain (local k x size) h = tt
number_plain (number v) h = tt
number_plain (memory space size p w) h = absurd h

module _ (nodes : ℕ) (sizes : ℕ → ℕ → ℕ) (g : Setting) (setting : IsSetting g) where
  abbrev Local : (node x n : ℕ) → Type 0
  Local = LocalOf nodes sizes

  abbrev Keeps : Operands → List Kind → Type 0
  Keeps os kinds = OperandsKeep nodes sizes g os kinds

  -- ---- what the operands stand for

  registers_at : (os : Operands) (kinds : List Kind) → Keeps os kinds → (i n : ℕ) → slice_get kinds i ≡ Some (attached n) → IsRegister g (reference_at (references_of g os) i) n
  registers_at no_operands [] h i n e = absurd (let no : ⊥ = cc in no)
  registers_at no_operands (kind ∷ kinds) h i n e = absurd h
  registers_at (given r os) [] h i n e = absurd h
  registers_at (given r os) (attached m ∷ kinds) h zero n e = let same : m ≡ n = cc in subst (IsRegister g r) same h.0
  registers_at (given r os) (attached m ∷ kinds) h (suc i) n e = registers_at os kinds h.1 i n e
  registers_at (given r os) (value ∷ kinds) h zero n e = absurd (let no : ⊥ = cc in no)
  registers_at (given r os) (value ∷ kinds) h (suc i) n e = registers_at os kinds h.1 i n e
  registers_at (given r os) (table size target assigned ∷ kinds) h i n e = absurd h
  registers_at (child c os) [] h i n e = absurd h
  registers_at (child c os) (attached m ∷ kinds) h i n e = absurd h
  registers_at (child c os) (value ∷ kinds) h i n e = absurd h
  registers_at (child c os) (table size target assigned ∷ kinds) h zero n e = absurd (let no : ⊥ = cc in no)
  registers_at (child c os) (table size target assigned ∷ kinds) h (suc i) n e = registers_at os kinds h.1 i n e

  numbers_at : (os : Operands) (kinds : List Kind) → Keeps os kinds → (i : ℕ) → slice_get kinds i ≡ Some value → IsNumber (reference_at (references_of g os) i)
  numbers_at no_operands [] h i e = absurd (let no : ⊥ = cc in no)
  numbers_at no_operands (kind ∷ kinds) h i e = absurd h
  numbers_at (given r os) [] h i e = absurd h
  numbers_at (given r os) (attached m ∷ kinds) h zero e = absurd (let no : ⊥ = cc in no)
  numbers_at (given r os) (attached m ∷ kinds) h (suc i) e = numbers_at os kinds h.1 i e
  numbers_at (given r os) (value ∷ kinds) h zero e = h.0
  numbers_at (given r os) (value ∷ kinds) h (suc i) e = numbers_at os kinds h.1 i e
  numbers_at (given r os) (table size target assigned ∷ kinds) h i e = absurd h
  numbers_at (child c os) [] h i e = absurd h
  numbers_at (child c os) (attached m ∷ kinds) h i e = absurd h
  numbers_at (child c os) (value ∷ kinds) h i e = absurd h
  numbers_at (child c os) (table size target assigned ∷ kinds) h zero e = absurd (let no : ⊥ = cc in no)
  numbers_at (child c os) (table size target assigned ∷ kinds) h (suc i) e = numbers_at os kinds h.1 i e

  -- a node's own locals
  own_locals : (k variables : ℕ) (sec : Section) → k < nodes → ((x : ℕ) → (sec.size x).bytes ≡ sizes k x) → variables ≤ 65536 → (x : ℕ) → x < variables → Local k x (sec.size x).bytes
  own_locals k variables sec lt same few x below = let n = sec.size x in (lt, omega arith, same x, n.at_most_16)

  -- what is known of a node
  known : (k : ℕ) (sec : Section) (os : Operands) (kinds : List Kind) (section : SectionKeeps g kinds sec) → k < nodes → ((x : ℕ) → (sec.size x).bytes ≡ sizes k x) → Keeps os kinds
      → ((i size : ℕ) (target assigned : Bool) → slice_get kinds i ≡ Some (table (Some size) target assigned) → Good Local g (reference_at (references_of g os) i) size target assigned)
      → Known Local g (frame_of k sec (references_of g os)) kinds section.variables
  known k sec os kinds section lt same keep tables = record {
    tables = tables;
    registers = registers_at os kinds keep;
    numbers = numbers_at os kinds keep;
    own = own_locals k section.variables sec lt same section.few;
  }

  mutual
    node_good : (n : Node) (size : ℕ) (target assigned : Bool) → NodeKeeps nodes sizes g (Some size) target assigned n → Good Local g (reference_of g n) size target assigned
    node_good (node k sec os) size target assigned keeps =
        let kinds = keeps.2.0 in
        let section = keeps.2.1 in
        let exports = keeps.2.2 in
        let f = frame_of k sec (references_of g os) in
        subst (λ m. Good Local g (reference_of g (node k sec os)) m target assigned) exports.sized
        (section_good Local g setting f kinds section.variables (known k sec os kinds section keeps.0 keeps.1 keeps.2.3 (λ i m t a e. tables_at os kinds keeps.2.3 i m t a e)) section.address sec.steps exports.what target assigned exports.is section.keeps section.meets exports.may_be_target exports.may_be_assigned)

    tables_at : (os : Operands) (kinds : List Kind) → Keeps os kinds → (i size : ℕ) (target assigned : Bool) → slice_get kinds i ≡ Some (table (Some size) target assigned) → Good Local g (reference_at (references_of g os) i) size target assigned
    tables_at no_operands [] h i size target assigned e = absurd (let no : ⊥ = cc in no)
    tables_at no_operands (kind ∷ kinds) h i size target assigned e = absurd h
    tables_at (given r os) [] h i size target assigned e = absurd h
    tables_at (given r os) (attached m ∷ kinds) h zero size target assigned e = absurd (let no : ⊥ = cc in no)
    tables_at (given r os) (attached m ∷ kinds) h (suc i) size target assigned e = tables_at os kinds h.1 i size target assigned e
    tables_at (given r os) (value ∷ kinds) h zero size target assigned e = absurd (let no : ⊥ = cc in no)
    tables_at (given r os) (value ∷ kinds) h (suc i) size target assigned e = tables_at os kinds h.1 i size target assigned e
    tables_at (given r os) (table m t a ∷ kinds) h i size target assigned e = absurd h
    tables_at (child c os) [] h i size target assigned e = absurd h
    tables_at (child c os) (attached m ∷ kinds) h i size target assigned e = absurd h
    tables_at (child c os) (value ∷ kinds) h i size target assigned e = absurd h
    tables_at (child c os) (table m t a ∷ kinds) h zero size target assigned e =
        node_good c size target assigned
        (subst (λ o. NodeKeeps nodes sizes g o target assigned c) (ap kind_size e)
        (subst (λ b. NodeKeeps nodes sizes g m b assigned c) (ap kind_target e)
        (subst (λ b. NodeKeeps nodes sizes g m t b c) (ap kind_assigned e) h.0)))
    tables_at (child c os) (table m t a ∷ kinds) h (suc i) size target assigned e = tables_at os kinds h.1 i size target assigned e

  -- ---- each node

  -- the statements of a node
  pub record Fit (f : Frame) (sec : Section) : Type 0 where
    pub fits : StepsFit Local g f sec.steps
    pub formed : StepsAreFormed g f sec.steps

  section_fit : (k : ℕ) (sec : Section) (os : Operands) (kinds : List Kind) (section : SectionKeeps g kinds sec) → k < nodes → ((x : ℕ) → (sec.size x).bytes ≡ sizes k x) → Keeps os kinds → Fit (frame_of k sec (references_of g os)) sec
  section_fit k sec os kinds section lt same keep =
      let f = frame_of k sec (references_of g os) in
      let all = known k sec os kinds section lt same keep (tables_at os kinds keep) in
      record {
        fits = sections_fit nodes sizes g f (operand_size kinds) section.address sec.steps (steps_kept Local g setting f kinds section.variables all sec.steps section.keeps section.fits) section.meets section.fits;
        formed = sections_are_formed g f (operand_size kinds) section.address sec.steps (steps_placed Local g setting f kinds section.variables all sec.steps section.keeps) section.meets section.fits;
      }

  mutual
    node_fits : (n : Node) (size : Option ℕ) (target assigned : Bool) → NodeKeeps nodes sizes g size target assigned n → NodeFits Local g n
    node_fits (node k sec os) size target assigned keeps =
        ((section_fit k sec os keeps.2.0 keeps.2.1 keeps.0 keeps.1 keeps.2.3).fits, operands_fit os keeps.2.0 keeps.2.3)

    operands_fit : (os : Operands) (kinds : List Kind) → Keeps os kinds → OperandsFit Local g os
    operands_fit no_operands kinds h = tt
    operands_fit (given r os) [] h = absurd h
    operands_fit (given r os) (attached m ∷ kinds) h = operands_fit os kinds h.1
    operands_fit (given r os) (value ∷ kinds) h = operands_fit os kinds h.1
    operands_fit (given r os) (table m t a ∷ kinds) h = absurd h
    operands_fit (child c os) [] h = absurd h
    operands_fit (child c os) (attached m ∷ kinds) h = absurd h
    operands_fit (child c os) (value ∷ kinds) h = absurd h
    operands_fit (child c os) (table m t a ∷ kinds) h = (node_fits c m t a h.0, operands_fit os kinds h.1)

  mutual
    node_formed : (n : Node) (size : Option ℕ) (target assigned : Bool) → NodeKeeps nodes sizes g size target assigned n → NodeIsFormed g n
    node_formed (node k sec os) size target assigned keeps =
        ((section_fit k sec os keeps.2.0 keeps.2.1 keeps.0 keeps.1 keeps.2.3).formed, operands_formed os keeps.2.0 keeps.2.3)

    operands_formed : (os : Operands) (kinds : List Kind) → Keeps os kinds → OperandsAreFormed g os
    operands_formed no_operands kinds h = tt
    operands_formed (given r os) [] h = absurd h
    operands_formed (given r os) (attached m ∷ kinds) h = operands_formed os kinds h.1
    operands_formed (given r os) (value ∷ kinds) h = operands_formed os kinds h.1
    operands_formed (given r os) (table m t a ∷ kinds) h = absurd h
    operands_formed (child c os) [] h = absurd h
    operands_formed (child c os) (attached m ∷ kinds) h = absurd h
    operands_formed (child c os) (value ∷ kinds) h = absurd h
    operands_formed (child c os) (table m t a ∷ kinds) h = (node_formed c m t a h.0, operands_formed os kinds h.1)

  mutual
    node_tree : (n : Node) (size : Option ℕ) (target assigned : Bool) → NodeKeeps nodes sizes g size target assigned n → IsTree n
    node_tree (node k sec os) size target assigned keeps = let section = keeps.2.1 in (section.once, operands_trees os keeps.2.0 keeps.2.3)

    operands_trees : (os : Operands) (kinds : List Kind) → Keeps os kinds → AreTrees os
    operands_trees no_operands kinds h = tt
    operands_trees (given r os) [] h = absurd h
    operands_trees (given r os) (attached m ∷ kinds) h = (register_plain g r m h.0, operands_trees os kinds h.1)
    operands_trees (given r os) (value ∷ kinds) h = (number_plain r h.0, operands_trees os kinds h.1)
    operands_trees (given r os) (table m t a ∷ kinds) h = absurd h
    operands_trees (child c os) [] h = absurd h
    operands_trees (child c os) (attached m ∷ kinds) h = absurd h
    operands_trees (child c os) (value ∷ kinds) h = absurd h
    operands_trees (child c os) (table m t a ∷ kinds) h = (node_tree c m t a h.0, operands_trees os kinds h.1)

pub trees_fit : TreesFit
trees_fit g root nodes sizes setting keeps = record {
  names = node_fits nodes sizes g setting root None false false keeps;
  operations = node_formed nodes sizes g setting root None false false keeps;
}

pub trees_are_translated : TreesAreTranslated
trees_are_translated g root nodes sizes ops setting keeps few count parts is =
    let fit = trees_fit g root nodes sizes setting keeps in
    let short = lists_are_short (top_of nodes) g root (node_tree nodes sizes g setting root None false false keeps) count parts in
    let whole : length (node_code (top_of nodes) g root) ≡ length ops = ap length (sym is) ∙ length-map ops operation_of in
    let below : length ops < 2147483648 = omega (arith, short, whole) in
    let formed = lists_are_well_formed g root nodes sizes ops setting.machine fit.names fit.operations few parts is below in
    record {
      well_formed = formed;
      faithful = code_is_faithful g root nodes sizes ops fit.names setting.narrow is formed.each below;
    }
