-- The operations of nodes lead to the default space alone, and call the user operations that their
-- sections name.
use Rattle.std.proofs.Common.{◌≡◌, ℕ, zero, suc, List, [], length, map, sym, subst}
use Rattle.std.specs.Prelude.{slice_get, unwrap_or}
use Rattle.sl_faithful_code.specs.Nodes.{children_code, node_code}
use Rattle.sl_faithful_lists.proofs.Codes.{section_leads}
use Rattle.sl_faithful_code.specs.Operations.{operation_of}
use Rattle.sl_faithful_lists.proofs.Operations.{AllLead, are_useful, calls_user_ops}
use Rattle.sl_faithful_lists.proofs.Operations.{leads_to_default}
use Rattle.sl_faithful_lists.specs.Useful.{AllAreUseful}
use Rattle.sl_pcode.specs.WellFormed.{IsWellFormedOp}
use Rattle.sl_pcode.specs.declared.operation.Op.{Op}
use Rattle.std.specs.List.{All}
use Rattle.sl_faithful_lists.specs.Laws.{NodeNames, NodesLeadToDefault, OperandsName}
use Rattle.sl_faithful_keeping.specs.Names.{IsNamedSo}
use Rattle.sl_meaning_sections.specs.Nodes.{Node, Operands, child, frame_of, given, no_operands, node}
use Rattle.sl_meaning_sections.specs.Nodes.{references_of}
use Rattle.sl_meaning_sections.specs.References.{Setting}

module _ (top : ℕ) (g : Setting) (userops : ℕ) where
  mutual
    pub node_leads : (n : Node) → NodeNames g userops n
        → AllLead g.default userops (node_code top g n)
    node_leads (node k sec os) h =
        section_leads top g userops (frame_of k sec (references_of g os)) (IsNamedSo g h.0.0)
        (length g.sizes) (children_code top g os) sec.steps (λ i. child_leads os i h.1) h.0.1

    child_leads : (os : Operands) (i : ℕ) → OperandsName g userops os
        → AllLead g.default userops (unwrap_or (slice_get (children_code top g os) i) [])
    child_leads no_operands i h = tt
    child_leads (given r os) zero h = tt
    child_leads (given r os) (suc i) h = child_leads os i h
    child_leads (child n os) zero h = node_leads n h.0
    child_leads (child n os) (suc i) h = child_leads os i h.1

pub nodes_lead_to_default : NodesLeadToDefault
nodes_lead_to_default g userops top root ops named is =
    let lead = subst (AllLead g.default userops) (sym is) (node_leads top g userops root named) in
    (leads_to_default g.default userops ops lead, calls_user_ops g.default userops ops lead)

-- well-formed ones do something
pub nodes_are_useful : (g : Setting) (userops top : ℕ) (root : Node) (ops : List Op)
    → NodeNames g userops root → map operation_of ops ≡ node_code top g root
    → All (IsWellFormedOp g.sizes) ops → AllAreUseful ops
nodes_are_useful g userops top root ops named is well =
    let lead = subst (AllLead g.default userops) (sym is) (node_leads top g userops root named) in
    are_useful g.sizes g.default userops ops lead well
