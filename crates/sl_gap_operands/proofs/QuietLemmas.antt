-- Actions on the context among those of blocks and a constructor's own.
use Rattle.std.proofs.Common.{◌≡◌, ℕ, ◌+◌, ◌<◌, ◌≤◌, Bool, true, false, List, ◌∷◌, ◌++◌, length, get_or, drop, Option, Some, None, refl, sym, ap, ◌∙◌}
use Rattle.std.specs.Prelude.{◌||◌}
use Rattle.std.specs.List.{list_any}
use Rattle.std.proofs.Math.ListN.{drop_of_length-le}
use Rattle.std.proofs.lemmas.List.{drop_more}
use Rattle.std.proofs.lemmas.List.Folds.{list_any-append}
use Rattle.sl_ast.specs.Trees.{Action, Constructor}
use Rattle.sl_ast.specs.Unfolding.{before, written}
use Rattle.sl_ast.specs.Views.{action_of, actions_of, head_of}
use Rattle.sl_ast.specs.declared.patterns.Action as tree
use Rattle.sl_spec.specs.Unfolded.{heads_of, under}
use Rattle.sl_spec.specs.declared.unfolded.Around.{Around}

module _ (test : Action → Bool) where
  -- ---- actions

  -- whether one of those from an index on does
  abbrev pub any_from : List tree.Action → ℕ → Bool
  any_from as' i = list_any test (actions_of (drop i as'))

  first_of : (as' : List tree.Action) (i : ℕ) (a : tree.Action) → i < length as' → a ≡ get_or as' i a → any_from as' i ≡ (test (action_of a) || any_from as' (i + 1))
  first_of as' i a below is =
      let cut : drop i as' ≡ a ∷ drop (i + 1) as' = drop_more as' i a below ∙ ap (λ (y : tree.Action). y ∷ drop (i + 1) as') (sym is) in
      ap (λ (bs : List tree.Action). list_any test (actions_of bs)) cut

  by_true : (a b c : Bool) → c ≡ (a || b) → a ≡ true → c ≡ true
  by_true a b c e is = e ∙ ap (λ x. x || b) is

  by_false : (a b c : Bool) → c ≡ (a || b) → a ≡ false → c ≡ b
  by_false a b c e is = e ∙ ap (λ x. x || b) is

  pub action_sets : (as' : List tree.Action) (i : ℕ) (a : tree.Action) → i < length as' → a ≡ get_or as' i a → any_from as' i ≡ any_from as' 0 → test (action_of a) ≡ true
      → true ≡ any_from as' 0
  action_sets as' i a below is so_far sets = sym (sym so_far ∙ by_true (test (action_of a)) (any_from as' (i + 1)) (any_from as' i) (first_of as' i a below is) sets)

  pub action_does_not : (as' : List tree.Action) (i : ℕ) (a : tree.Action) → i < length as' → a ≡ get_or as' i a → any_from as' i ≡ any_from as' 0
      → test (action_of a) ≡ false → any_from as' (i + 1) ≡ any_from as' 0
  action_does_not as' i a below is so_far sets = sym (by_false (test (action_of a)) (any_from as' (i + 1)) (any_from as' i) (first_of as' i a below is) sets) ∙ so_far

  pub none_sets : (as' : List tree.Action) (i : ℕ) → length as' ≤ i → any_from as' i ≡ any_from as' 0 → false ≡ any_from as' 0
  none_sets as' i end so_far = sym (ap (λ (bs : List tree.Action). list_any test (actions_of bs)) (drop_of_length-le as' end)) ∙ so_far

  -- ---- blocks

  actions_inside : (outer inner : Option (List Action)) → written (before outer inner) ≡ written outer ++ written inner
  actions_inside None inner = refl
  actions_inside (Some as') inner = refl

  module _ (c : Constructor) (blocks : List Around) where
    -- whether an action of what stands inside the first of these blocks does
    abbrev pub any_inside : ℕ → Bool
    any_inside i = list_any test (written (under (heads_of (drop i blocks)) c).actions)

    first_block : (i : ℕ) (a : Around) → i < length blocks → a ≡ get_or blocks i a
        → any_inside i ≡ (list_any test (written (head_of a.head.now).actions) || any_inside (i + 1))
    first_block i a below is =
        let cut : drop i blocks ≡ a ∷ drop (i + 1) blocks = drop_more blocks i a below ∙ ap (λ (y : Around). y ∷ drop (i + 1) blocks) (sym is) in
        let inner = written (under (heads_of (drop (i + 1) blocks)) c).actions in
        ap (λ (bs : List Around). list_any test (written (under (heads_of bs) c).actions)) cut
        ∙ ap (list_any test) (actions_inside (head_of a.head.now).actions (under (heads_of (drop (i + 1) blocks)) c).actions)
        ∙ list_any-append test (written (head_of a.head.now).actions) inner

    pub block_sets : (i : ℕ) (a : Around) → i < length blocks → a ≡ get_or blocks i a → any_inside i ≡ any_inside 0
        → true ≡ list_any test (written (head_of a.head.now).actions) → true ≡ any_inside 0
    block_sets i a below is so_far sets =
        sym (sym so_far ∙ by_true (list_any test (written (head_of a.head.now).actions)) (any_inside (i + 1)) (any_inside i) (first_block i a below is) (sym sets))

    pub block_does_not : (i : ℕ) (a : Around) → i < length blocks → a ≡ get_or blocks i a → any_inside i ≡ any_inside 0
        → false ≡ list_any test (written (head_of a.head.now).actions) → any_inside (i + 1) ≡ any_inside 0
    block_does_not i a below is so_far sets =
        sym (by_false (list_any test (written (head_of a.head.now).actions)) (any_inside (i + 1)) (any_inside i) (first_block i a below is) (sym sets)) ∙ so_far

    pub own_only : (i : ℕ) (sets : Bool) → length blocks ≤ i → any_inside i ≡ any_inside 0 → sets ≡ list_any test (written c.actions) → sets ≡ any_inside 0
    own_only i sets end so_far e =
        e ∙ sym (ap (λ (bs : List Around). list_any test (written (under (heads_of bs) c).actions)) (drop_of_length-le blocks end)) ∙ so_far
