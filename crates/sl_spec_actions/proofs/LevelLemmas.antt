-- What is known of actions, action by action and level by level.
use Rattle.std.proofs.Common.{◌≡◌, ◌&&◌, ◌||◌, not, ℕ, suc, ◌+◌, ◌<◌, ◌≤◌, Bool, true, false, List, [], ◌∷◌, ◌++◌, length, get_or, take, fold, refl, sym, ap, subst, ◌∙◌, append_assoc, append-nil, if◌then◌else◌, arith}
use Rattle.std.specs.List.{list_any}
use Rattle.std.proofs.lemmas.List.Folds.{list_any-append}
use Rattle.std.proofs.lemmas.List.Sums.{fold-append}
use Rattle.std.proofs.Math.Bool.{or-false}
use Rattle.std.proofs.lemmas.List.{take_all}
use Rattle.std.proofs.Math.Path.{fun_ext}
use Rattle.std.proofs.Math.Seq.{take-suc}
use Rattle.sl_ast.specs.Trees.{Action, set, global_set}
use Rattle.sl_spec_rules.specs.Demands.{first_broken}
use Rattle.sl_spec_rules.specs.Names.{Name, is_among}
use Rattle.sl_spec.specs.Tables.{Table}
use Rattle.sl_spec.specs.declared.tables.Tables.{Tables}
use Rattle.sl_spec_actions.specs.ActionNames.{action_names, is_context_field, with_action, with_name}
use Rattle.sl_spec_actions.specs.ActionRules.{action_demands_by, each_holds, has_address, has_new_left, sets_context_field, uses_early_names, uses_known_names}
use Rattle.sl_spec_actions.specs.Blocks.{AreJudged}
use Rattle.sl_spec_actions.specs.Levels.{IsBegun, IsJudged, IsWith, Judged, Level, StaysJudged, any_unwanted, first_broken_at, innermost, is_unwanted, nothing_judged, stands_in}
use Rattle.sl_spec_actions.specs.PatternNames.{PatternNames, standing_of}
use Rattle.sl_spec_actions.specs.Standing.{Standing}
use Rattle.sl_spec_actions.specs.JoinedStanding.{joined, nowhere}
use Rattle.sl_spec_actions.proofs.PendingLemmas.{and_swap, and_true, any_alike, any_either, any_swap, four, one_of_both, or_swap}

-- ---- rules of one action more

each_snoc : (t : Tables) (holds : List Name → Action → Bool) (before : List Name) (as' : List Action) (a : Action)
    → each_holds t holds before (as' ++ a ∷ []) ≡ (each_holds t holds before as' && holds (fold (with_action t) before as') a)
unfolding each_holds
each_snoc t holds before [] a = and_true (holds before a)
each_snoc t holds before (b ∷ bs) a =
    ap (λ z. holds before b && z) (each_snoc t holds (with_action t before b) bs a)
    ∙ sym (and_swap (holds before b) (each_holds t holds (with_action t before b) bs) (holds (fold (with_action t) (with_action t before b) bs) a))

-- a rule that holds so of the actions so far, and of this one
holds_more : (t : Tables) (holds : List Name → Action → Bool) (as' : List Action) (a : Action) (given : List Name) (now next : Bool) → given ≡ action_names t as'
    → next ≡ (now && holds given a) → now ≡ each_holds t holds [] as' → next ≡ each_holds t holds [] (as' ++ a ∷ [])
holds_more t holds as' a given now next names is so_far =
    is ∙ ap (λ b. b && holds given a) so_far ∙ ap (λ (ns : List Name). each_holds t holds [] as' && holds ns a) names ∙ sym (each_snoc t holds [] as' a)

false_either : (a b u : Bool) → (a && false) ≡ ((b && false) && u)
false_either true true u = refl
false_either true false u = refl
false_either false true u = refl
false_either false false u = refl

outside_too : (outer a x b y u : Bool) → (a && not x) ≡ ((b && not y) && u) → (a && not (outer || x)) ≡ ((b && not (outer || y)) && u)
outside_too true a x b y u is = false_either a b u
outside_too false a x b y u is = is

module _ (all : List Table) (t : Tables) (s : Standing) where
  module _ (outer : (Name → Bool) → Bool) where
    abbrev IsKnown : List Action → Judged → Type 0
    IsKnown as' j = IsJudged all t s (λ f. outer f || list_any f j.early_names.names) as' j

    one_more : (as' : List Action) (a : Action) (j k : Judged) → IsWith all t s a j k → IsKnown as' j → IsKnown (as' ++ a ∷ []) k
    one_more as' a j k is known = record {
      given = is.given ∙ ap (λ (ns : List Name). with_action t ns a) known.given ∙ sym (fold-append (with_action t) [] as' (a ∷ []));
      new_left = holds_more t (has_new_left all t) as' a j.given j.new_left k.new_left known.given is.new_left known.new_left;
      known_names = λ inside. holds_more t (uses_known_names t (joined s inside)) as' a j.given _ _ known.given (is.known_names inside) (known.known_names inside);
      early_names = λ inside. holds_more t (uses_early_names t (joined s inside)) as' a j.given _ _ known.given
          (outside_too (outer inside.behind_table) k.early_names.holds (list_any inside.behind_table k.early_names.names) j.early_names.holds (list_any inside.behind_table j.early_names.names) _ (is.early_names inside))
          (known.early_names inside);
      context_field = holds_more t (sets_context_field t) as' a j.given j.context_field k.context_field known.given is.context_field known.context_field;
      address = λ inside. holds_more t (has_address t (joined s inside)) as' a j.given _ _ known.given (is.address inside) (known.address inside);
    }

  -- ---- more actions, as a loop takes them

  pub stays_begins : (j : Judged) → StaysJudged all t s [] j j
  stays_begins j outer before known = subst (λ (as' : List Action). IsKnown outer as' j) (sym (append-nil before)) known

  pub stays_goes : (as' : List Action) (i : ℕ) (a : Action) (start j k : Judged) → i < length as' → a ≡ get_or as' i a → IsWith all t s a j k → StaysJudged all t s (take i as') start j
      → StaysJudged all t s (take (i + 1) as') start k
  stays_goes as' i a start j k below at is so_far outer before known =
      let front : take (suc i) as' ≡ take i as' ++ a ∷ [] = take-suc as' i a below ∙ ap (λ (z : Action). take i as' ++ z ∷ []) (sym at) in
      let whole : (before ++ take i as') ++ a ∷ [] ≡ before ++ take (suc i) as' = append_assoc before (take i as') (a ∷ []) ∙ ap (λ (l : List Action). before ++ l) (sym front) in
      let next : suc i ≡ i + 1 = omega arith in
      subst (λ (n : ℕ). IsKnown outer (before ++ take n as') k) next
      (subst (λ (l : List Action). IsKnown outer l k) whole (one_more outer (before ++ take i as') a j k is (so_far outer before known)))

  pub stays_ends : (as' : List Action) (i : ℕ) (start j : Judged) → length as' ≤ i → StaysJudged all t s (take i as') start j → StaysJudged all t s as' start j
  stays_ends as' i start j end so_far = subst (λ (l : List Action). StaysJudged all t s l start j) (take_all i as' end) so_far

-- ---- names that are copied

abbrev IsOnce : List Name → Type 0
IsOnce names = fold with_name [] names ≡ names

once_by : (names : List Name) (n : Name) (b : Bool) → is_among names n ≡ b → IsOnce names → IsOnce (if b then names else names ++ n ∷ [])
once_by names n true is once = once
once_by names n false is once =
    fold-append with_name [] names (n ∷ []) ∙ ap (λ (l : List Name). with_name l n) once ∙ ap (λ b. if b then names else names ++ n ∷ []) is

once_if : (names : List Name) (n : Name) (b : Bool) → IsOnce names → IsOnce (if b then names else with_name names n)
once_if names n true once = once
once_if names n false once = once_by names n (is_among names n) refl once

once_action : (t : Tables) (names : List Name) (a : Action) → IsOnce names → IsOnce (with_action t names a)
once_action t names (set n e) once = once_if names n (is_context_field t n) once
once_action t names (global_set at field) once = once

once_all : (t : Tables) (as' : List Action) (names : List Name) → IsOnce names → IsOnce (fold (with_action t) names as')
once_all t [] names once = once
once_all t (a ∷ as') names once = once_all t as' (with_action t names a) (once_action t names a once)

-- ---- inside one pattern more

deeper : (s p inside : Standing) → joined (joined s p) inside ≡ joined s (joined p inside)
deeper s p inside = λ i. record {
  anywhere = fun_ext (λ n. or_swap (s.anywhere n) (p.anywhere n) (inside.anywhere n)) i;
  bare = fun_ext (λ n. or_swap (s.bare n) (p.bare n) (inside.bare n)) i;
  behind_table = fun_ext (λ n. or_swap (s.behind_table n) (p.behind_table n) (inside.behind_table n)) i;
}

or_either : (h a b : Bool) → ((h && not a) && not b) ≡ (h && not (a || b))
or_either true true b = refl
or_either true false b = refl
or_either false a b = refl

-- one of these names among those that rule 23 hangs on, by name and by level
pub unwanted_names : (levels : List Level) (names : List Name) → list_any (is_unwanted levels) names ≡ any_unwanted levels (is_among names)
unwanted_names levels names =
    any_swap (λ n l. is_among l.judged.early_names.names n) names levels
    ∙ any_alike levels (λ l. list_any (is_among l.judged.early_names.names) names) (λ l. list_any (is_among names) l.judged.early_names.names)
    (λ l. one_of_both names l.judged.early_names.names)

unwanted_either : (levels : List Level) (f g : Name → Bool) → any_unwanted levels (λ n. f n || g n) ≡ (any_unwanted levels f || any_unwanted levels g)
unwanted_either [] f g = refl
unwanted_either (l ∷ ls) f g =
    let names = l.judged.early_names.names in
    ap (λ b. b || any_unwanted ls (λ n. f n || g n)) (any_either names f g) ∙ ap (λ b. (list_any f names || list_any g names) || b) (unwanted_either ls f g)
    ∙ four (list_any f names) (list_any g names) (any_unwanted ls f) (any_unwanted ls g)

module _ (all : List Table) (t : Tables) (levels : List Level) (names : PatternNames) (before : List Action) where
  pub begins_inside : (k : Judged) → IsBegun levels names (innermost levels) k → AreJudged all t before levels
      → IsJudged all t (joined (stands_in levels) (standing_of names)) (λ f. any_unwanted levels f || list_any f k.early_names.names) before k
  begins_inside k is known =
      let s = stands_in levels in
      let p = standing_of names in
      let j = innermost levels in
      let each : (holds : Standing → List Name → Action → Bool) (inside : Standing) → each_holds t (holds (joined s (joined p inside))) [] before ≡ each_holds t (holds (joined (joined s p) inside)) [] before
      = λ holds inside. ap (λ (r : Standing). each_holds t (holds r) [] before) (sym (deeper s p inside)) in
      record {
        given = is.given ∙ ap (fold with_name []) known.given ∙ once_all t before [] refl ∙ refl;
        new_left = is.new_left ∙ known.new_left;
        known_names = λ inside. is.known_names inside.anywhere ∙ known.known_names (joined p inside) ∙ each (uses_known_names t) inside;
        early_names = λ inside.
            let behind = is_among names.behind_table in
            let f = inside.behind_table in
            ap (λ q. q.holds && not (any_unwanted levels f || list_any f q.names)) is.early_names
            ∙ ap (λ b. (j.early_names.holds && not (any_unwanted levels behind)) && not b) (or-false (any_unwanted levels f))
            ∙ or_either j.early_names.holds (any_unwanted levels behind) (any_unwanted levels f)
            ∙ sym (ap (λ b. j.early_names.holds && not b) (unwanted_either levels behind f))
            ∙ known.early_names (joined p inside) ∙ each (uses_early_names t) inside;
        context_field = is.context_field ∙ known.context_field;
        address = λ inside. is.address inside.bare ∙ known.address (joined p inside) ∙ each (has_address t) inside;
      }

-- ---- one level more

one_behind : {X : Type 0} (f : X → Bool) (xs : List X) (x : X) → (list_any f xs || f x) ≡ list_any f (xs ++ x ∷ [])
one_behind f xs x = sym (list_any-append f xs (x ∷ []) ∙ ap (λ b. list_any f xs || b) (or-false (f x)))

module _ (levels : List Level) (l : Level) where
  pub innermost_push : innermost (levels ++ l ∷ []) ≡ l.judged
  innermost_push = fold-append (λ (j : Judged) (m : Level). m.judged) nothing_judged levels (l ∷ [])

  unwanted_push : (f : Name → Bool) → (any_unwanted levels f || list_any f l.judged.early_names.names) ≡ any_unwanted (levels ++ l ∷ []) f
  unwanted_push f = one_behind (λ m. list_any f m.judged.early_names.names) levels l

  pub stands_push : joined (stands_in levels) (standing_of l.names) ≡ stands_in (levels ++ l ∷ [])
  stands_push = λ i. record {
    anywhere = fun_ext (λ n. one_behind (λ m. is_among m.names.anywhere n) levels l) i;
    bare = fun_ext (λ n. one_behind (λ m. is_among m.names.bare n) levels l) i;
    behind_table = fun_ext (λ n. one_behind (λ m. is_among m.names.behind_table n) levels l) i;
  }

  pub judged_inside : (all : List Table) (t : Tables) (as' : List Action)
      → IsJudged all t (joined (stands_in levels) (standing_of l.names)) (λ f. any_unwanted levels f || list_any f l.judged.early_names.names) as' l.judged
      → AreJudged all t as' (levels ++ l ∷ [])
  judged_inside all t as' known =
      subst (λ (s : Standing). IsJudged all t s (any_unwanted (levels ++ l ∷ [])) as' (innermost (levels ++ l ∷ []))) stands_push
      (subst (λ (u : (Name → Bool) → Bool). IsJudged all t (joined (stands_in levels) (standing_of l.names)) u as' (innermost (levels ++ l ∷ []))) (fun_ext unwanted_push)
      (subst (λ (j : Judged). IsJudged all t (joined (stands_in levels) (standing_of l.names)) (λ f. any_unwanted levels f || list_any f l.judged.early_names.names) as' j) (sym innermost_push) known))

-- ---- what is known of no actions, and where nothing stands inside

pub none_judged : (all : List Table) (t : Tables) → AreJudged all t [] []
unfolding each_holds
none_judged all t = record {
  given = refl;
  new_left = refl;
  known_names = λ inside. refl;
  early_names = λ inside. refl;
  context_field = refl;
  address = λ inside. refl;
}

alone : (s : Standing) → joined s nowhere ≡ s
alone s = λ i. record {
  anywhere = fun_ext (λ n. or-false (s.anywhere n)) i;
  bare = fun_ext (λ n. or-false (s.bare n)) i;
  behind_table = fun_ext (λ n. or-false (s.behind_table n)) i;
}

none_of : (names : List Name) → list_any (λ n. false) names ≡ false
none_of [] = refl
none_of (n ∷ names) = none_of names

pub none_unwanted : (levels : List Level) → any_unwanted levels (λ n. false) ≡ false
none_unwanted [] = refl
none_unwanted (l ∷ ls) = ap (λ b. b || any_unwanted ls (λ n. false)) (none_of l.judged.early_names.names) ∙ none_unwanted ls

pub first_of_all : (all : List Table) (t : Tables) (s : Standing) (outer : (Name → Bool) → Bool) (as' : List Action) (j : Judged) → outer (λ n. false) ≡ false
    → IsJudged all t s outer as' j → first_broken_at j ≡ first_broken (action_demands_by all t s as')
first_of_all all t s outer as' j none known =
    let each : (holds : Standing → List Name → Action → Bool) → each_holds t (holds (joined s nowhere)) [] as' ≡ each_holds t (holds s) [] as' = λ holds. ap (λ (r : Standing). each_holds t (holds r) [] as') (alone s) in
    let early : j.early_names.holds ≡ each_holds t (uses_early_names t s) [] as' =
    sym (and_true j.early_names.holds) ∙ sym (ap (λ b. j.early_names.holds && not b) none) ∙ known.early_names nowhere ∙ each (uses_early_names t) in
    λ i. first_broken ((21, known.new_left i) ∷ (22, (known.known_names nowhere ∙ each (uses_known_names t)) i) ∷ (23, early i) ∷ (24, known.context_field i)
    ∷ (25, (known.address nowhere ∙ each (has_address t)) i) ∷ [])
