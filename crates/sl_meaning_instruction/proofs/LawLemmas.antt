-- The numbers of nodes.
use Rattle.std.proofs.Common.{◌≡◌, ℕ, ◌+◌, ◌<◌, ◌≤◌, List, [], ◌∷◌, refl, arith, Option, Some, None}
use Rattle.sl_decode_meaning.specs.TreeCounts.{count}
use Rattle.sl_decode_meaning.specs.Trees.{Node, Trees, none, tree}
use Rattle.sl_meaning_instruction.specs.Instructions.{filled, first_node, given_at, instruction, lengths_of, nodes_by, section_by}
use Rattle.sl_meaning_instruction.specs.Laws.{EachNumber, EachNumberBelow, EachNumberOf, IsWithin, NumbersAreBelow, NumbersAreWithin}
use Rattle.sl_meaning_sections.specs.Nodes as m
use Rattle.sl_meaning_sections.specs.Nodes.{Operands, child, given, no_operands, node}
use Rattle.sl_meaning_sections.specs.References.{Reference}

module _ (P Q : ℕ → Type 0) (to : (k : ℕ) → P k → Q k) where
  mutual
    weaker : (n : m.Node) → EachNumber P n → EachNumber Q n
    weaker (node k sec os) h = (to k h.0, weaker_below os h.1)

    weaker_below : (os : Operands) → EachNumberBelow P os → EachNumberBelow Q os
    weaker_below no_operands h = tt
    weaker_below (given r os) h = weaker_below os h
    weaker_below (child n os) h = (weaker n h.0, weaker_below os h.1)

  weaker_of : (ns : List m.Node) → EachNumberOf P ns → EachNumberOf Q ns
  weaker_of [] h = tt
  weaker_of (n ∷ ns) h = (weaker n h.0, weaker_of ns h.1)

-- operands have the numbers of the nodes that they are filled with
of_filled : (P : ℕ → Type 0) (rs : List (Option Reference)) (ns : List m.Node) → EachNumberOf P ns → EachNumberBelow P (filled rs ns)
of_filled P [] ns h = tt
of_filled P (Some r ∷ rs) ns h = of_filled P rs ns h
of_filled P (None ∷ rs) [] h = of_filled P rs [] h
of_filled P (None ∷ rs) (n ∷ ns) h = (h.0, of_filled P rs ns h.1)

module _ (section : ℕ → m.Section) (gives : Node → List ℕ → List (Option Reference)) where
  within : (f : Trees Node) (k : ℕ) → EachNumberOf (IsWithin k (count f)) (nodes_by section gives k f)
  within none k = tt
  within (tree n below behind) k =
      let all = IsWithin k (1 + (count below + count behind)) in
      let kids = weaker_of (IsWithin (k + 1) (count below)) all (λ j h. (omega (arith, h.0), omega (arith, h.1))) (nodes_by section gives (k + 1) below) (within below (k + 1)) in
      let others = weaker_of (IsWithin (k + 1 + count below) (count behind)) all (λ j h. (omega (arith, h.0), omega (arith, h.1)))
      (nodes_by section gives (k + 1 + count below) behind) (within behind (k + 1 + count below)) in
      ((((omega arith), (omega arith)), of_filled all (gives n (lengths_of below)) (nodes_by section gives (k + 1) below) kids), others)

pub numbers_are_within : NumbersAreWithin
numbers_are_within section gives f k = within section gives f k

pub numbers_are_below : NumbersAreBelow
unfolding instruction
numbers_are_below s bytes none some = absurd (omega (arith, some))
numbers_are_below s bytes (tree n below behind) some =
    weaker (IsWithin 0 (1 + (count below + count behind))) (λ k. k < 1 + (count below + count behind)) (λ k h. omega (arith, h.1))
    (first_node (nodes_by (section_by s.sections s.sizes) (given_at s bytes) 0 (tree n below behind)))
    (within (section_by s.sections s.sizes) (given_at s bytes) (tree n below behind) 0).0
