use Rattle.std.proofs.Common.{◌↔◌, ◌<◌, ℕ, List, sym, ◌∙◌, refl, Bool, true, false, IsTrue}
use Rattle.std.proofs.lemmas.Bool.{false≢true}
use Rattle.sl_cube.specs.declared.Point.{Point}
use Rattle.sl_cube_sets.specs.declared.CubeSet.{CubeSet}
use mathlib.Core.Bool.{not}
use Rattle.sl_cube_sets.specs.Unions.{IsBelow}
use Rattle.sl_cube_sets.specs.Settled.{Matches}
use Rattle.sl_cube_sets.specs.Sets.{IsPair}
use Rattle.sl_cube_sets.specs.Unions.{has_set}
use Rattle.sl_cube_sets.proofs.pair.in_pair.Goals as goal

pair_iff : (sets : List CubeSet) (p : Point) (i j : ℕ) (above : Bool) → i < j → Matches sets p i → Matches sets p j → (IsBelow sets i j → ⊥) → IsTrue above ↔ IsBelow sets j i
    → IsTrue (not above) ↔ IsPair has_set sets p i j
pair_iff sets p i j true lt a b out iff = (λ t. absurd (false≢true t), λ pair. absurd (pair.not_above (iff.0 refl)))
pair_iff sets p i j false lt a b out iff = (
  λ t. record { in_order = lt; first = a; second = b; not_below = out; not_above = λ back. false≢true (iff.1 back) },
  λ pair. refl,
)

pub returns : goal.returns
returns c = pair_iff c.args.sets.now c.args.point.now c.args.first c.args.second c.in_ok-above.above c.requires (c.matches.ensures.0 c.if-not-matches.false) (c.matches-2.ensures.0 c.if-not-matches-2.false)
    (λ below. false≢true (sym c.if-below.false ∙ c.in_ok-below.ensures.1 below)) c.in_ok-above.ensures
