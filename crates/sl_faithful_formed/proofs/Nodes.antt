-- The operations of an instruction are a well-formed list.
use Rattle.std.proofs.Common.{◌≡◌, ℕ, zero, suc, ◌+◌, ◌<◌, ◌≤◌, [], length, sym, ap, ◌∙◌, subst, arith}
use Rattle.std.specs.Prelude.{slice_get, unwrap_or}
use Rattle.std.proofs.lemmas.List.{length-map}
use Rattle.sl_faithful_code.specs.Nodes.{LocalOf, NodeFits, OperandsFit, children_code, node_code, top_of}
use Rattle.sl_faithful_code.specs.Operations.{operation_of, range_of}
use Rattle.sl_meaning_sections.specs.Nodes.{Node, Operands, child, frame_of, given, no_operands, node, references_of}
use Rattle.sl_meaning_sections.specs.References.{Setting}
use Rattle.sl_faithful_formed.specs.Formed.{IsMachine, NodeIsFormed, OperandsAreFormed}
use Rattle.sl_faithful_formed.specs.Laws.{ListsAreWellFormed}
use Rattle.sl_faithful_formed.specs.Lengths.{node_parts, operands_parts}
use Rattle.sl_faithful_formed.proofs.Operations.{Stand, well_formed}
use Rattle.sl_faithful_formed.proofs.Statements.{section_stands}

module _ (g : Setting) (is : IsMachine g) (Local : (node x n : ℕ) → Type 0) (top : ℕ) (low : top ≤ 1073741824) (below : (k x n : ℕ) → Local k x n → range_of k x + n ≤ top) (count : ℕ) (short : count < 2147483648) where
  mutual
    pub node_stands : (n : Node) (base : ℕ) → NodeFits Local g n → NodeIsFormed g n → node_parts n ≤ 1048576 → base + length (node_code top g n) ≤ count → Stand g.sizes base count (node_code top g n)
    node_stands (node k sec os) base fits formed room le =
        section_stands g is Local top low below (frame_of k sec (references_of g os)) sec.steps base count (children_code top g os)
        (λ i q there. child_stands os i q fits.1 formed.1 (omega arith) there) fits.0 formed.0 (omega arith) le short

    child_stands : (os : Operands) (i q : ℕ) → OperandsFit Local g os → OperandsAreFormed g os → operands_parts os ≤ 1048576 → q + length (unwrap_or (slice_get (children_code top g os) i) []) ≤ count → Stand g.sizes q count (unwrap_or (slice_get (children_code top g os) i) [])
    child_stands no_operands i q fits formed room le = tt
    child_stands (given r os) zero q fits formed room le = tt
    child_stands (given r os) (suc i) q fits formed room le = child_stands os i q fits formed room le
    child_stands (child n os) zero q fits formed room le = node_stands n q fits.0 formed.0 (omega arith) le
    child_stands (child n os) (suc i) q fits formed room le = child_stands os i q fits.1 formed.1 (omega arith) le

-- locals lie below the temporary values
locals_below : (nodes : ℕ) (sizes : ℕ → ℕ → ℕ) (k x n : ℕ) → LocalOf nodes sizes k x n → range_of k x + n ≤ top_of nodes
locals_below nodes sizes k x n there = omega (arith, there.0, there.1, there.3)

pub lists_are_well_formed : ListsAreWellFormed
lists_are_well_formed g root nodes sizes ops machine fits formed few parts is short =
    let count = length ops in
    let whole : length (node_code (top_of nodes) g root) ≡ length ops = ap length (sym is) ∙ length-map ops operation_of in
    well_formed g.sizes ops
    (subst (Stand g.sizes 0 count) (sym is)
    (node_stands g machine (LocalOf nodes sizes) (top_of nodes) (omega arith) (locals_below nodes sizes) count short root 0 fits formed (omega arith) (omega (arith, whole))))
