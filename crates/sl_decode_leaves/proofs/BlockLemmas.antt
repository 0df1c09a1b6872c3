-- What was made of a block, as it is kept and taken.
use Rattle.std.proofs.Common.{◌≡◌, ℕ, List, [], ◌∷◌, Option, None, Some, sym, subst}
use Rattle.sl_ast.specs.Trees.{Head}
use Rattle.sl_ast.specs.Views.{head_of}
use Rattle.sl_decode_leaves.specs.Blocks.{AreLeavesOfHead, AreTied, IsTaken, MayTake}
use Rattle.sl_decode_leaves.specs.Wholes.{AreLeavesOf}
use Rattle.sl_decode_leaves.specs.declared.blocks.BlockLeaves.{BlockLeaves}
use Rattle.sl_decode_leaves.specs.declared.pattern_leaves.PatternLeaves.{PatternLeaves}
use Rattle.sl_decode_leaves.proofs.SameLemmas.{right_for}
use Rattle.sl_spec.proofs.MadeLemmas.{found_right}
use Rattle.sl_spec.specs.Numbers.{made_of}
use Rattle.sl_spec.specs.Tables.{Operand}
use Rattle.sl_spec.specs.declared.tables.Tables.{Tables}
use Rattle.sl_spec.specs.declared.unfolded.Around.{Around}

module _ (t : Tables) (os : List Operand) where
  pub kept_right : (h : Head) (x : PatternLeaves) (b : BlockLeaves) → b.leaves.value ≡ x → AreLeavesOf t os h.pattern x
      → AreTied t os b.tied.items x.leaves.items → AreLeavesOfHead t h b
  kept_right h x b copy are tied = λ those plain stand.
      subst (λ (y : PatternLeaves). AreLeavesOf t those h.pattern y) (sym copy) (right_for t os those h.pattern x are (tied those plain stand))

  pub taken_right : (o : Option BlockLeaves) (a : Around) (made : List (ℕ × BlockLeaves)) (x : PatternLeaves) → o ≡ made_of made a.number
      → MayTake t os (a ∷ []) made → IsTaken t os o x → AreLeavesOf t os (head_of a.head.now).pattern x
  taken_right None a made x is may taken = absurd taken
  taken_right (Some b) a made x is may taken =
      let right = found_right (AreLeavesOfHead t) may.1.0 a may.1.1.0 made b may.1.2 (sym is) in
      subst (λ (y : PatternLeaves). AreLeavesOf t os (head_of a.head.now).pattern y) (sym taken.1) (right os may.0 taken.0)
