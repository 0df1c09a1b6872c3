-- Each node of a decoded tree has the length that its constructor says.
use Rattle.std.proofs.Common.{◌≡◌, ℕ, ◌+◌, List, [], ◌∷◌, length, Option, Some, Ok, refl, sym}
use Rattle.std.proofs.Common.{ap, subst, ◌∙◌, arith}
use Rattle.std.specs.Prelude.{⊤}
use Rattle.sl_ast.specs.Trees.{Constructor}
use Rattle.sl_ast.specs.Unfolding.{Placed}
use Rattle.sl_decode_contexts.specs.declared.commits.Commit.{Commit}
use Rattle.sl_decode_meaning.specs.Actions.{address_in}
use Rattle.sl_decode_meaning.specs.Decoding.{Decoded, Ended, Input, commits_in, commits_of, decoded}
use Rattle.sl_decode_meaning.specs.Decoding.{decoded_of, ended, finish, finish_node, grow, read, trees_of}
use Rattle.sl_decode_meaning.specs.Decoding.{values_in}
use Rattle.sl_decode_meaning.specs.Laws.{input}
use Rattle.sl_decode_meaning.specs.Choices.{Choice}
use Rattle.sl_decode_meaning.specs.Meanings.{Meaning, says}
use Rattle.sl_decode_meaning.specs.Trees as begun
use Rattle.sl_decode_meaning.specs.Trees.{Begun, Node, Trees, none, tree, with_values}
use Rattle.sl_meaning_instruction.specs.Instructions.{lengths_of}
use Rattle.sl_faithful_reach.proofs.GrowLemmas.{Measured, begun_reach, grow_carries}
use Rattle.sl_faithful_reach.proofs.MeaningLemmas.{LooksAlike, says_alike}
use Rattle.sl_faithful_reach.proofs.OutcomeLemmas.{came, same_ok}
use Rattle.sl_faithful_reach.specs.DecodeLaws.{TokensAreShort}
use Rattle.sl_faithful_reach.specs.Sight.{farthest}
use Rattle.sl_spec.specs.declared.tables.Tables.{Tables}

-- The length of each node is what its constructor says by those of its operands.
abbrev pub AreMeasured : (ℕ → Option Meaning) → Trees Node → Type 0
AreMeasured own none = ⊤
AreMeasured own (tree n below behind) =
    ((m : Meaning) → own n.ctor ≡ Some m → n.length ≡ m.length (lengths_of below))
    × AreMeasured own below × AreMeasured own behind

-- trees that are finished are measured, if they were before
module _ (i : Input) (next : ℕ) where
  abbrev IsMeasured : Trees Begun → Ended → Type 0
  IsMeasured f e = (lengths_of (trees_of e) ≡ begun.lengths_of f) × AreMeasured i.says (trees_of e)

  finished : (f : Trees Begun) (commits : List Commit) (e : Ended) → Measured i.says f
      → finish i next f commits ≡ Ok e → IsMeasured f e
  unfolding finish
  finished none commits e measured is =
      subst (IsMeasured none) (same_ok (ended none commits) e is) (refl, tt)
  finished (tree n below behind) commits e measured is =
      let d = came (finish_node i next n (begun.lengths_of below) commits) _ e is in
      let f = came (finish i next below (commits_in d.0)) _ e d.2 in
      let o = came (finish i next behind (commits_of f.0)) _ e f.2 in
      let trees = tree (with_values n (values_in d.0)) (trees_of f.0) (trees_of o.0) in
      let inner = finished below (commits_in d.0) f.0 measured.1 f.1 in
      let others = finished behind (commits_of f.0) o.0 measured.2 o.1 in
      subst (IsMeasured (tree n below behind)) (same_ok (ended trees (commits_of o.0)) e o.2) (
        ap (λ lengths. n.length ∷ lengths) others.0,
        (λ m said. measured.0 m said ∙ ap m.length (sym inner.0), inner.1, others.1),
      )

module _ (t : Tables) (choose : Choice) (own : ℕ → Option Meaning) (bytes : List ℕ) (address : ℕ)
    (looks : (n ctor : ℕ) (m : Meaning) → own ctor ≡ Some m
    → LooksAlike (input choose own bytes address) (input choose own bytes address) n m) where
  abbrev known : Input
  known = input choose own bytes address

  whole : (length after : ℕ) (e : Ended) (d : Decoded) → decoded_of length after e ≡ d
      → AreMeasured own (trees_of e) → AreMeasured own d.tree
  whole length after (ended trees commits) d is measured =
      subst (λ (d : Decoded). AreMeasured own d.tree) is measured

  read_measured : (context : ℕ) (d : Decoded) → read t known context ≡ Ok d → AreMeasured own d.tree
  read_measured context d is =
      let levels = length t.tables in
      let r = came (grow known levels 0 0 context) _ d is in
      let l = r.0.node.length in
      let next = address_in t (address + l) in
      let trees = tree r.0.node r.0.below none in
      let a = came (finish known next trees []) _ d r.2 in
      let n = farthest begun_reach trees in
      let g = grow_carries choose own bytes bytes address n refl (looks n) levels 0 0 context
      r.0 r.1 (omega arith) in
      whole l next a.0 d (same_ok (decoded_of l next a.0) d a.2)
      (finished known next trees [] a.0 g.1 a.1).1

pub decoded_measured : (t : Tables) (cs : List (Placed Constructor)) (choose : Choice)
    (bytes : List ℕ) (address context : ℕ) (d : Decoded) → TokensAreShort t
    → decoded t cs choose bytes address context ≡ Ok d → AreMeasured (says t cs) d.tree
unfolding decoded
decoded_measured t cs choose bytes address context d short is =
    read_measured t choose (says t cs) bytes address
    (λ n. says_alike t cs short choose bytes bytes address n refl) context d is
