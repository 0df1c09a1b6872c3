-- What was made of the blocks round constructors.
use Rattle.std.proofs.Common.{◌≡◌, ℕ, ◌<◌, List, [], length, get_or}
use Rattle.sl_ast.specs.Trees.{Head}
use Rattle.sl_spec_constructors.proofs.MadeLemmas.{none_made}
use Rattle.sl_spec.specs.Numbers.{AreMade, AreMadeFor, AreNumbered, AreToldOf, KeepsMade}
use Rattle.sl_spec.specs.declared.unfolded.Unfolded.{Unfolded}
use Rattle.sl_spec.proofs.MadeLemmas.{told_round}

module _ {V : Type 0} (IsRight : Head → V → Type 0) (us : List Unfolded) where
  -- It is right for the heads of all blocks round these constructors.
  abbrev pub AreMadeOf : List (ℕ × V) → Type 0
  AreMadeOf made = (head_at : ℕ → Head) × AreToldOf head_at us × AreMade IsRight head_at made

  pub none_of : (made : List (ℕ × V)) → made ≡ [] → AreNumbered us → AreMadeOf made
  none_of made none numbered = (numbered.0, numbered.1, none_made IsRight numbered.0 made none)

  module _ (i : ℕ) (u : Unfolded) (below : i < length us) (at : u ≡ get_or us i u) (made : List (ℕ × V)) where
    pub made_for : AreMadeOf made → AreMadeFor IsRight u.heads.items made
    made_for of = (of.0, told_round of.0 us i u below at of.1, of.2)

    pub keeps_of : (new : List (ℕ × V)) → KeepsMade IsRight u.heads.items made new → AreMadeOf made → AreMadeOf new
    keeps_of new keeps of = (of.0, of.1, keeps of.0 (told_round of.0 us i u below at of.1) of.2)
