-- A decoded tree stands for the same instruction over both lists of bytes.
use Rattle.std.proofs.Common.{◌≡◌, ℕ, ◌+◌, ◌≤◌, List, ◌∷◌, take, refl, ap, ap₂, arith}
use Rattle.sl_decode_meaning.specs.TreeCounts.{count}
use Rattle.sl_decode_meaning.specs.Meanings.{says}
use Rattle.sl_decode_meaning.specs.Trees.{Node, Trees, none, tree}
use Rattle.sl_meaning_instruction.specs.Instructions.{Specification, filled, first_node, given_at}
use Rattle.sl_meaning_instruction.specs.Instructions.{instruction, lengths_of, nodes_by, section_by}
use Rattle.sl_faithful_reach.proofs.MeasureLemmas.{AreMeasured, decoded_measured}
use Rattle.sl_faithful_reach.proofs.OperandLemmas.{given_alike}
use Rattle.sl_faithful_reach.specs.InstructionLaws.{BytesDecideInstructions, FieldsAreMeant}
use Rattle.sl_meaning_sections.specs.Nodes as m
use Rattle.sl_faithful_reach.specs.DecodeLaws.{TokensAreShort}
use Rattle.sl_faithful_reach.specs.Sight.{sight}

module _ (s : Specification) (n : ℕ) (one other : List ℕ) (alike : take n one ≡ take n other)
    (short : TokensAreShort s.tables) (meant : FieldsAreMeant s.tables s.constructors)
    (section : ℕ → m.Section) where
  nodes_alike : (k : ℕ) (f : Trees Node) → AreMeasured (says s.tables s.constructors) f
      → sight f ≤ n
      → nodes_by section (given_at s one) k f ≡ nodes_by section (given_at s other) k f
  nodes_alike k none measured within = refl
  nodes_alike k (tree node below behind) measured within = ap₂ ◌∷◌
      (ap₂ (λ given nodes. m.node k (section node.ctor) (filled given nodes))
      (given_alike s n one other alike short meant node (lengths_of below) measured.0 (omega arith))
      (nodes_alike (k + 1) below measured.1 (omega arith)))
      (nodes_alike (k + 1 + count below) behind measured.2 (omega arith))

pub bytes_decide_instructions : BytesDecideInstructions
unfolding instruction
bytes_decide_instructions s choose one other address context n d short meant is within alike =
    ap first_node (nodes_alike s n one other alike short meant (section_by s.sections s.sizes) 0
    d.tree (decoded_measured s.tables s.constructors choose one address context d short is) within)
