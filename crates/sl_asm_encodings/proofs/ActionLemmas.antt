-- Whether a constructor has an action, as the program keeps it and in the tree; and the first one that has.
use Rattle.std.proofs.Common.{◌≡◌, ◌≢◌, ◌↔◌, ℕ, ◌<◌, Bool, true, false, cond, ◌||◌, List, [], ◌∷◌, length, get_or, Option, Some, None, Vec, refl, sym, ap, ap₂, subst, ◌∙◌, ◌⊎◌, inl, inr, arith, true≢false}
use Rattle.std.specs.Prelude.{nat_lt, slice_get, position, MatchOption}
use Rattle.std.specs.List.{list_any, position_or_len}
use Rattle.std.specs.Option.{option_map}
use Rattle.std.specs.declared.alloc.Global.{Global}
use Rattle.std.proofs.lemmas.Bool.{cases_lt, lt-ltb, ltb-false, ltb-true}
use Rattle.std.proofs.lemmas.List.Sums.{fails_before_first, passes_at_first}
use Rattle.std.proofs.lemmas.Option.{get_or_from_slice_get, slice_get-map, slice_get_cases, slice_get_within}
use Rattle.sl_asm_encodings.specs.Encodings.{HasAction, HasNoActions, IsFirstWithAction}
use Rattle.sl_asm_encodings.specs.Written.{has_some, is_with_action}
use Rattle.sl_ast.specs.Trees.{Action, Constructor}
use Rattle.sl_ast.specs.Unfolding.{Placed, before, written}
use Rattle.sl_ast.specs.Views.{actions_of, constructor_of, head_of}
use Rattle.sl_ast.specs.declared.patterns.Action as kept
use Rattle.sl_base_surely.specs.Surely.{Surely}
use Rattle.sl_base_surely.proofs.SurelyLemmas.{IsLeastNumber, surely, surely_either, surely_least, surely_map, surely_then}
use Rattle.sl_spec.specs.Unfolded.{all_placed, heads_of, placed, under}
use Rattle.sl_spec.specs.declared.unfolded.Around.{Around}
use Rattle.sl_spec.specs.declared.unfolded.Unfolded.{Unfolded}

-- ---- actions that are written

abbrev is_written : Option (List Action) → Bool
is_written None = false
is_written (Some []) = false
is_written (Some (a ∷ more)) = true

written_there : (o : Option (List Action)) → (is_written o ≡ true) ↔ (written o ≢ [])
written_there None = (λ e. absurd (true≢false (sym e)), λ n. absurd (n refl))
written_there (Some []) = (λ e. absurd (true≢false (sym e)), λ n. absurd (n refl))
written_there (Some (a ∷ more)) = (λ e f. absurd (cc), λ n. refl)

kept_written : (o : Option (Vec kept.Action Global)) → is_written (option_map (λ as'. actions_of as'.items) o) ≡ has_some o
kept_written None = refl
kept_written (Some v) = by_items v.items
  where
    by_items : (xs : List kept.Action) → is_written (Some (actions_of xs)) ≡ nat_lt 0 (length xs)
    by_items [] = refl
    by_items (x ∷ xs) = sym (lt-ltb 0 (length (x ∷ xs)) (omega arith))

before_written : (outer inner : Option (List Action)) → is_written (before outer inner) ≡ (is_written outer || is_written inner)
before_written None inner = refl
before_written (Some []) None = refl
before_written (Some []) (Some more) = refl
before_written (Some (a ∷ more)) inner = refl

either_first : (a b c : Bool) → (a || (b || c)) ≡ ((a || b) || c)
either_first true b c = refl
either_first false b c = refl

under_written : (heads : List Around) (c : Constructor)
    → is_written (under (heads_of heads) c).actions ≡ (list_any (λ a. has_some a.head.now.actions) heads || is_written c.actions)
under_written [] c = refl
under_written (h ∷ hs) c =
    before_written (head_of h.head.now).actions (under (heads_of hs) c).actions
    ∙ ap₂ ◌||◌ (kept_written h.head.now.actions) (under_written hs c)
    ∙ either_first (has_some h.head.now.actions) (list_any (λ a. has_some a.head.now.actions) hs) (is_written c.actions)

unfolded_written : (u : Unfolded) → is_written (placed u).1.actions ≡ is_with_action u
unfolded_written u =
    under_written u.heads.items (constructor_of u.own.now)
    ∙ ap (λ b. list_any (λ a. has_some a.head.now.actions) u.heads.items || b) (kept_written u.own.now.actions)

-- ---- constructors by their numbers

some_is : {X : Type 0} (x y : X) → Some x ≡ Some y → x ≡ y
some_is x y e = cc

-- the constructor of a number that has an action is kept with one
kept_with : (us : List Unfolded) (n : ℕ) (o : Option Unfolded) → slice_get us n ≡ o → HasAction (all_placed us) n
    → (u : Unfolded) × (slice_get us n ≡ Some u) × (is_with_action u ≡ true)
kept_with us n None e h = let none : None ≡ Some h.0 = ap (option_map placed) (sym e) ∙ sym (slice_get-map placed us n) ∙ h.1 in absurd (cc)
kept_with us n (Some u) e h =
    let same : placed u ≡ h.0 = some_is _ _ (ap (option_map placed) (sym e) ∙ sym (slice_get-map placed us n) ∙ h.1) in
    (u, e, sym (unfolded_written u) ∙ (written_there (placed u).1.actions).1 (subst (λ (c : Placed Constructor). written c.1.actions ≢ []) (sym same) h.2))

is_kept : (us : List Unfolded) (n : ℕ) (u : Unfolded) → slice_get us n ≡ Some u → is_with_action u ≡ true → HasAction (all_placed us) n
is_kept us n u e is =
    (placed u, slice_get-map placed us n ∙ ap (option_map placed) e, (written_there (placed u).1.actions).0 (unfolded_written u ∙ is))

first_at : (us : List Unfolded) (m : ℕ) (u : Unfolded) → slice_get us m ≡ Some u → get_or us m u ≡ u → m ≡ position_or_len is_with_action us → m < length us
    → IsFirstWithAction (all_placed us) m
first_at us m u e g is below = (
  is_kept us m u e (ap is_with_action (sym g) ∙ subst (λ (n : ℕ). is_with_action (get_or us n u) ≡ true) (sym is)
      (passes_at_first is_with_action us u (subst (λ (n : ℕ). n < length us) is below))),
  λ n less has.
      let k = kept_with us n (slice_get us n) refl has in
      let not = fails_before_first is_with_action us n k.0 (omega (arith, less, is)) in
      absurd (true≢false (sym k.2 ∙ ap is_with_action (sym (get_or_from_slice_get us n k.0 k.0 k.1)) ∙ not)),
)

by_bound : (us : List Unfolded) (b : Bool) (found : Option ℕ) → nat_lt (position_or_len is_with_action us) (length us) ≡ b
    → found ≡ cond b (Some (position_or_len is_with_action us)) None → MatchOption found (HasNoActions (all_placed us)) (IsFirstWithAction (all_placed us))
by_bound us true None is e = absurd (cc)
by_bound us false (Some n) is e = absurd (cc)
by_bound us true (Some n) is e =
    let below : n < length us = omega (arith, ltb-true _ _ is, some_is _ _ e) in
    elim (slice_get_cases us n).1 [
      | inl here ↦ first_at us n here.0 here.2 here.3 (some_is _ _ e) below
      | inr past ↦ absurd (omega (arith, past.0, below))
    ]
by_bound us false None is e = λ n has.
    let k = kept_with us n (slice_get us n) refl has in
    let not = fails_before_first is_with_action us n k.0 (omega (arith, ltb-false _ _ is, slice_get_within us n k.0 k.1)) in
    absurd (true≢false (sym k.2 ∙ ap is_with_action (sym (get_or_from_slice_get us n k.0 k.0 k.1)) ∙ not))

pub first_is : (us : List Unfolded) (found : Option ℕ) → found ≡ position is_with_action us
    → MatchOption found (HasNoActions (all_placed us)) (IsFirstWithAction (all_placed us))
first_is us found e = by_bound us _ found refl e

-- ---- the first one is one, and surely there is one or none

pub one_first : (cs : List (Placed Constructor)) (n m : ℕ) → IsFirstWithAction cs n → IsFirstWithAction cs m → n ≡ m
one_first cs n m h k = elim (cases_lt n m) [
  | inl less ↦ absurd (k.1 n less h.0)
  | inr most ↦ elim (cases_lt m n) [
    | inl less ↦ absurd (h.1 m less k.0)
    | inr same ↦ omega (arith, most, same)
  ]
]

pub surely_first : (cs : List (Placed Constructor)) → Surely (HasNoActions cs ⊎ ((n : ℕ) × IsFirstWithAction cs n))
surely_first cs = surely_then (surely_either ((n : ℕ) × HasAction cs n)) (λ found. elim found [
  | inl some ↦ surely_map (λ (m : (m : ℕ) × IsLeastNumber (HasAction cs) m). inr (m.0, (m.1.here, m.1.none_below))) (surely_least (HasAction cs) some.0 some.1)
  | inr none ↦ surely (inl (λ n h. none (n, h)))
])
