-- What was made of the blocks round a constructor, block by block.
use Rattle.std.proofs.Common.{◌≡◌, ℕ, ◌<◌, List, [], ◌∷◌, length, get_or, None, Some, Result, Ok, Err, sym, ap, ◌∙◌}
use Rattle.std.specs.Prelude.{IfOk}
use Rattle.sl_ast.specs.Trees.{Head}
use Rattle.sl_spec.specs.Numbers.{AreMade, AreMadeFor, KeepsMade, made_of}
use Rattle.sl_spec.specs.declared.unfolded.Around.{Around}
use Rattle.sl_spec.proofs.MadeLemmas.{told_at}

module _ {V : Type 0} (IsRight : Head → V → Type 0) (blocks : List Around) (i : ℕ) (a : Around) (below : i < length blocks) (at : a ≡ get_or blocks i a) (old now : List (ℕ × V)) where
  -- what was made so far is right for the next block
  pub right_at : AreMadeFor IsRight blocks old → KeepsMade IsRight blocks old now → AreMadeFor IsRight (a ∷ []) now
  right_at made kept = (made.0, (told_at made.0 blocks i a below at made.1, tt), kept made.0 made.1 made.2)

  -- and stays so
  pub keeps_more : (new : List (ℕ × V)) → KeepsMade IsRight (a ∷ []) now new → KeepsMade IsRight blocks old now → KeepsMade IsRight blocks old new
  keeps_more new one kept = λ head_at told made. one head_at (told_at head_at blocks i a below at told, tt) (kept head_at told made)

-- where nothing was made
pub none_made : {V : Type 0} (IsRight : Head → V → Type 0) (head_at : ℕ → Head) (made : List (ℕ × V)) → made ≡ [] → AreMade IsRight head_at made
none_made {V} IsRight head_at made none = λ n v found. never n v (ap (λ (m : List (ℕ × V)). made_of m n) (sym none) ∙ found)
  where
    never : (n : ℕ) (v : V) → None ≡ Some v → IsRight (head_at n) v
    never n v is = absurd (cc)

-- a fact that doesn't speak of what was returned
pub anyway : {X E P : Type 0} (r : Result X E) → P → IfOk r (λ _. P)
anyway (Ok x) p = p
anyway (Err e) p = tt
