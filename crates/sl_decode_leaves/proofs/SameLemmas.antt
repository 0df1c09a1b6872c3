-- What is made of a pattern is the same for all operands among which its names stand for the same.
use Rattle.std.proofs.Common.{◌≡◌, ℕ, true, false, List, [], ◌∷◌, ◌++◌, Option, None, Some, refl, ap, subst, ◌∙◌}
use Rattle.std.specs.List.{AllByRecursion}
use Rattle.sl_ast.specs.Trees.{Pattern, bare, constraint, group, ellipsis, joined}
use Rattle.sl_decode_meaning.specs.Actions.{Own, look, look_kind}
use Rattle.sl_decode_meaning.specs.Outcomes.{◌>>=◌, in_turn}
use Rattle.sl_decode_meaning.specs.Places.{Leaf, leaf, leaves, length_in, length_of, place_beside}
use Rattle.sl_decode_meaning.specs.Values.{Site}
use Rattle.sl_decode_leaves.specs.Blocks.{IsSame}
use Rattle.sl_decode_leaves.specs.Extents.{leaves_at}
use Rattle.sl_decode_leaves.specs.Wholes.{AreLeavesOf}
use Rattle.sl_decode_leaves.specs.declared.leaves.Leaf as l
use Rattle.sl_decode_leaves.specs.declared.pattern_leaves.PatternLeaves.{PatternLeaves}
use Rattle.sl_decode_leaves.proofs.RunLemmas.{bind_alike}
use Rattle.sl_spec.specs.Tables.{Name, Operand}
use Rattle.sl_spec.specs.declared.tables.Tables.{Tables}
use Rattle.sl_spec_tables.specs.Lengths.{joined_bytes}

name_of : Leaf → Name
name_of (leaf n alone at) = n

all_split : {X : Type 0} (P : X → Type 0) (xs ys : List X) → AllByRecursion P (xs ++ ys)
    → AllByRecursion P xs × AllByRecursion P ys
all_split P [] ys all = (tt, all)
all_split P (x ∷ xs) ys all = let rest = all_split P xs ys all.1 in ((all.0, rest.0), rest.1)

module _ (t : Tables) (os those : List Operand) where
  abbrev Same : Leaf → Type 0
  Same x = IsSame t os those (name_of x)

  all_seen : (lengths : List ℕ) (ls : List l.Leaf)
      → AllByRecursion (λ x. IsSame t os those x.name.now) ls
      → AllByRecursion Same (leaves_at lengths ls)
  unfolding name_of
  all_seen lengths [] all = tt
  all_seen lengths (x ∷ xs) all = (all.0, all_seen lengths xs all.1)

  -- ---- look-ups

  look_same : (s : Site) (x : Leaf) (c : Own) → Same x → look t os s x c ≡ look t those s x c
  unfolding name_of
  look_same s (leaf n true at) c same = ap (λ k. look_kind t s at k c) same.kind
  look_same s (leaf n false at) c same = refl

  looks_same : (s : Site) (xs : List Leaf) (c : Own) → AllByRecursion Same xs
      → in_turn (look t os s) xs c ≡ in_turn (look t those s) xs c
  looks_same s [] c all = refl
  looks_same s (x ∷ xs) c all =
      ap (λ r. r >>= in_turn (look t os s) xs) (look_same s x c all.0)
      ∙ bind_alike (look t those s x c) (in_turn (look t os s) xs) (in_turn (look t those s) xs)
      (λ d. looks_same s xs d all.1)

  -- ---- places and lengths

  module _ (lengths : List ℕ) where
    pattern_same : (at : ℕ) (p : Pattern)
        → AllByRecursion Same (leaves t os (length_of os lengths) at p)
        → (leaves t os (length_of os lengths) at p ≡ leaves t those (length_of those lengths) at p)
        × (length_in t os (length_of os lengths) p ≡ length_in t those (length_of those lengths) p)
    unfolding leaves name_of
    pattern_same at (bare n) all = (refl, all.0.covered lengths)
    pattern_same at (constraint n relation e) all = (refl, all.0.covered lengths)
    pattern_same at (group p) all = pattern_same at p all
    pattern_same at (ellipsis p) all = pattern_same at p all
    pattern_same at (joined op p q) all =
        let len = length_of os lengths in
        let other = length_of those lengths in
        let next = place_beside op at (length_in t os len p) in
        let parts = all_split Same (leaves t os len at p) (leaves t os len next q) all in
        let left = pattern_same at p parts.0 in
        let right = pattern_same next q parts.1 in (
          ap (λ ls. ls ++ leaves t os len next q) left.0
              ∙ ap (λ ls. leaves t those other at p ++ ls) (right.0
              ∙ ap (λ n. leaves t those other (place_beside op at n) q) left.1),
          ap (λ n. joined_bytes op n (length_in t os len q)) left.1
              ∙ ap (joined_bytes op (length_in t those other p)) right.1,
        )

  -- ---- all that is made of a pattern

  pub right_for : (p : Option Pattern) (x : PatternLeaves) → AreLeavesOf t os p x
      → AllByRecursion (λ y. IsSame t os those y.name.now) x.leaves.items
      → AreLeavesOf t those p x
  right_for None x are all = record {
    leaves = are.leaves;
    looks = are.looks;
    length = are.length;
  }
  right_for (Some p) x are all =
      let named : (lengths : List ℕ) → AllByRecursion Same (leaves t os (length_of os lengths) 0 p) =
      λ lengths. subst (AllByRecursion Same) (are.leaves lengths) (all_seen lengths x.leaves.items all) in
      let same = λ (lengths : List ℕ). pattern_same lengths 0 p (named lengths) in
      record {
        leaves = λ lengths. are.leaves lengths ∙ (same lengths).0;
        looks = λ s c. are.looks s c
            ∙ looks_same s (leaves t os (length_of os s.lengths) 0 p) c (named s.lengths)
            ∙ ap (λ ls. in_turn (look t those s) ls c) (same s.lengths).0;
        length = λ lengths. are.length lengths ∙ (same lengths).1;
      }
