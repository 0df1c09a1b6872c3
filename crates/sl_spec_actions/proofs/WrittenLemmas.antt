-- The actions of a constructor in blocks.
use Rattle.std.proofs.Common.{◌≡◌, List, [], ◌∷◌, ◌++◌, Option, Some, None, refl, sym, ap, ◌∙◌, append_assoc}
use Rattle.sl_ast.specs.Trees.{Action, Constructor, Head}
use Rattle.sl_ast.specs.Unfolding.{before, written}
use Rattle.sl_spec_rules.specs.Gathered.{gathered}
use Rattle.sl_spec.specs.Unfolded.{under}

abbrev pub of_head : Head → List Action
of_head h = written h.actions

written_before : (outer inner : Option (List Action)) → written (before outer inner) ≡ written outer ++ written inner
written_before None inner = refl
written_before (Some as') inner = refl

-- those of the blocks, and then its own
pub under_heads : (hs : List Head) (c : Constructor) → written (under hs c).actions ≡ gathered of_head hs ++ written c.actions
unfolding gathered
under_heads [] c = refl
under_heads (h ∷ hs) c =
    written_before h.actions (under hs c).actions ∙ ap (λ (rest : List Action). written h.actions ++ rest) (under_heads hs c)
    ∙ sym (append_assoc (written h.actions) (gathered of_head hs) (written c.actions))
