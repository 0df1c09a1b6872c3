-- The blocks round a constructor: which of them were judged, and what is known of the others.
use Rattle.std.proofs.Common.{◌≡◌, ◌&&◌, ◌||◌, ℕ, zero, suc, ◌+◌, ◌<◌, ◌≤◌, Bool, true, false, List, [], ◌∷◌, ◌++◌, length, get_or, take, map, refl, sym, ap, subst, ◌∙◌, append_assoc, append-nil, length-append, ◌⊎◌, inl, inr, arith, Option, None, Some}
use Rattle.std.specs.List.{AllByRecursion, list_all, list_any}
use Rattle.std.specs.Str.{bytes_eq}
use Rattle.std.proofs.lemmas.Bool.{cases_lt}
use Rattle.std.proofs.lemmas.List.{map-append, take-append-le, take_all, take_more}
use Rattle.std.proofs.lemmas.List.Folds.{list_any-append}
use Rattle.std.proofs.Math.Path.{fun_ext}
use Rattle.sl_ast.specs.Trees.{Action, Constructor, Head, Pattern}
use Rattle.sl_ast.specs.Unfolding.{under as under_pattern, written}
use Rattle.sl_ast.specs.Views.{head_of}
use Rattle.sl_spec_rules.specs.Demands.{first_broken}
use Rattle.sl_spec_rules.specs.Gathered.{gathered}
use Rattle.sl_spec_rules.specs.Names.{Name, is_among}
use Rattle.sl_spec.specs.Numbers.{AreTold}
use Rattle.sl_spec.specs.Tables.{Table}
use Rattle.sl_spec.specs.Unfolded.{heads_of, under}
use Rattle.sl_spec.specs.declared.tables.Tables.{Tables}
use Rattle.sl_spec.specs.declared.unfolded.Around.{Around}
use Rattle.sl_spec.proofs.KeyedLemmas.{all_push}
use Rattle.sl_spec.proofs.MadeLemmas.{told_at}
use Rattle.sl_spec_actions.specs.Parts.{Part, parts, parts_of}
use Rattle.sl_spec_actions.specs.ActionNames.{action_names}
use Rattle.sl_spec_actions.specs.ActionRules.{action_demands, action_demands_by, each_holds}
use Rattle.sl_spec_actions.specs.Blocks.{AreEntered, AreFactsInside, AreJudged, AreRight, IsEntered, IsFront, IsRight, StayRight, actions_in, is_idle, numbers_of, parts_if_written, standing_in_head}
use Rattle.sl_spec_actions.specs.Levels.{Level, any_unwanted, first_broken_at, innermost, stands_in}
use Rattle.sl_spec_actions.specs.PatternNames.{standing_of}
use Rattle.sl_spec_actions.specs.Standing.{Standing, standing}
use Rattle.sl_spec_actions.specs.JoinedStanding.{joined}
use Rattle.sl_spec_actions.proofs.LevelLemmas.{first_of_all, innermost_push, none_judged, none_unwanted, stands_push}
use Rattle.sl_spec_actions.proofs.PendingLemmas.{or_swap}
use Rattle.sl_spec_actions.proofs.WrittenLemmas.{under_heads}

-- ---- levels that are right, with those round each of them

module _ (all : List Table) (t : Tables) (head_at : ℕ → Head) where
  pub right_whole : (levels : List Level) → AreRight all t head_at levels → IsRight all t head_at levels
  right_whole levels right = subst (IsRight all t head_at) (take_all (length levels) levels (omega arith)) (right (length levels))

  pub right_none : AreRight all t head_at []
  unfolding gathered
  right_none count = subst (IsRight all t head_at) (sym (take_all count [] (omega arith))) (record { names = tt; judged = none_judged all t })

  take_twice : {X : Type 0} (i j : ℕ) (xs : List X) → (n : ℕ) × (take i (take j xs) ≡ take n xs)
  take_twice zero j xs = (0, refl)
  take_twice (suc i) zero xs = (0, take_all (suc i) [] (omega arith))
  take_twice (suc i) (suc j) [] = (0, refl)
  take_twice (suc i) (suc j) (x ∷ xs) = let rest = take_twice i j xs in (suc rest.0, ap (λ l. x ∷ l) rest.1)

  pub right_front : (levels : List Level) (j : ℕ) → AreRight all t head_at levels → AreRight all t head_at (take j levels)
  right_front levels j right i = let n = take_twice i j levels in subst (IsRight all t head_at) (sym n.1) (right n.0)

  actions_push : (hs : List Head) (h : Head) → actions_in (hs ++ h ∷ []) ≡ actions_in hs ++ written h.actions
  unfolding gathered
  actions_push [] h = append-nil (written h.actions)
  actions_push (g ∷ hs) h = ap (λ l. written g.actions ++ l) (actions_push hs h) ∙ sym (append_assoc (written g.actions) (actions_in hs) (written h.actions))

  is_right_push : (old new : List Level) (b : Around) → head_at b.number ≡ head_of b.head.now → IsEntered all t b old new → IsRight all t head_at old → IsRight all t head_at new
  is_right_push old new b told entered right =
      let l = entered.level in
      let h = head_of b.head.now in
      let at : head_at l.number ≡ h = ap head_at entered.number ∙ told in
      let heads : map head_at (numbers_of new) ≡ map head_at (numbers_of old) ++ h ∷ [] =
      ap (λ ls. map head_at (numbers_of ls)) entered.is ∙ ap (map head_at) (map-append (λ m. m.number) old (l ∷ []))
      ∙ map-append head_at (numbers_of old) (l.number ∷ []) ∙ ap (λ (g : Head). map head_at (numbers_of old) ++ g ∷ []) at in
      record {
        names = subst (λ (ls : List Level). AllByRecursion (λ m. standing_of m.names ≡ standing_in_head all (head_at m.number)) ls) (sym entered.is)
            (all_push (λ m. standing_of m.names ≡ standing_in_head all (head_at m.number)) old l right.names (entered.names ∙ ap (standing_in_head all) (sym at)));
        judged = subst (λ (as' : List Action). AreJudged all t as' new) (sym (ap actions_in heads ∙ actions_push (map head_at (numbers_of old)) h)) (entered.judged _ right.judged);
      }

  push_by : (old : List Level) (l : Level) (count : ℕ) → (length old < count) ⊎ (count ≤ length old) → AreRight all t head_at old → IsRight all t head_at (old ++ l ∷ []) → IsRight all t head_at (take count (old ++ l ∷ []))
  push_by old l count (inr few) right whole = subst (IsRight all t head_at) (sym (take-append-le count old (l ∷ []) few)) (right count)
  push_by old l count (inl more) right whole =
      let long : length (old ++ l ∷ []) ≤ count = omega (arith, length-append old (l ∷ [])) in
      subst (IsRight all t head_at) (sym (take_all count (old ++ l ∷ []) long)) whole

  pub right_push : (old new : List Level) (b : Around) → head_at b.number ≡ head_of b.head.now → IsEntered all t b old new → AreRight all t head_at old → AreRight all t head_at new
  right_push old new b told entered right =
      let whole = is_right_push old new b told entered (right_whole old right) in
      subst (AreRight all t head_at) (sym entered.is) (λ count. push_by old entered.level count (cases_lt (length old) count) right (subst (IsRight all t head_at) entered.is whole))

-- ---- blocks that are entered

took_more : (blocks : List Around) (i : ℕ) (b : Around) → i < length blocks → b ≡ get_or blocks i b → take (i + 1) blocks ≡ take i blocks ++ b ∷ []
took_more blocks i b below at = take_more blocks i b below ∙ ap (λ (z : Around). take i blocks ++ z ∷ []) (sym at)

module _ (all : List Table) (t : Tables) (blocks : List Around) where
  -- those of the first blocks, which stay right
  abbrev pub AreFirst : List Level → List Level → ℕ → Type 0
  AreFirst old new i = (numbers_of new ≡ map (λ b. b.number) (take i blocks)) × StayRight all t blocks old new

  pub first_begin : (old new : List Level) (count : ℕ) → new ≡ take count old → IsFront count old blocks → AreFirst old new count
  first_begin old new count is front =
      (ap numbers_of is ∙ front.same, λ head_at told right. subst (AreRight all t head_at) (sym is) (right_front all t head_at old count right))

  pub first_go : (old now next : List Level) (i : ℕ) (b : Around) → i < length blocks → b ≡ get_or blocks i b → IsEntered all t b now next → AreFirst old now i → AreFirst old next (i + 1)
  first_go old now next i b below at entered so_far = (
    ap numbers_of entered.is ∙ map-append (λ m. m.number) now (entered.level ∷ [])
        ∙ ap (λ (ns : List ℕ). ns ++ entered.level.number ∷ []) so_far.0 ∙ ap (λ n. map (λ a. a.number) (take i blocks) ++ n ∷ []) entered.number
        ∙ sym (ap (map (λ a. a.number)) (took_more blocks i b below at) ∙ map-append (λ a. a.number) (take i blocks) (b ∷ [])),
    λ head_at told right. right_push all t head_at now next b (told_at head_at blocks i b below at told) entered (so_far.1 head_at told right),
  )

  pub first_end : (old new : List Level) (i : ℕ) → length blocks ≤ i → AreFirst old new i → AreEntered all t blocks old new
  first_end old new i end so_far = record {
    numbers = so_far.0 ∙ ap (map (λ a. a.number)) (take_all i blocks end);
    kept = so_far.1;
  }

-- ---- a constructor in blocks

heads_told : (head_at : ℕ → Head) (blocks : List Around) → AreTold head_at blocks → map head_at (map (λ b. b.number) blocks) ≡ heads_of blocks
heads_told head_at [] told = refl
heads_told head_at (b ∷ bs) told = ap (λ (h : Head). h ∷ map head_at (map (λ a. a.number) bs)) told.0 ∙ ap (λ (hs : List Head). head_of b.head.now ∷ hs) (heads_told head_at bs told.1)

module _ (all : List Table) (head_at : ℕ → Head) (c : Constructor) where
  head_first : (h : Option Pattern) (p : Pattern) → parts_of all (under_pattern h p) ≡ parts_if_written all h ++ parts_of all p
  unfolding parts
  head_first None p = refl
  head_first (Some h) p = refl

  abbrev AreNamed : List Level → Type 0
  AreNamed levels = AllByRecursion (λ l. standing_of l.names ≡ standing_in_head all (head_at l.number)) levels

  module _ (of_level : Level → Bool) (of_part : Part → Bool) (of_all : Standing → Bool) (same : (l : Level) → of_level l ≡ of_all (standing_of l.names)) (parts_same : (ps : List Part) → of_all (standing ps) ≡ list_any of_part ps) where
    test_in_blocks : (levels : List Level) → AreNamed levels
        → (list_any of_level levels || list_any of_part (parts_of all c.pattern)) ≡ list_any of_part (parts_of all (under (map head_at (numbers_of levels)) c).pattern)
    test_in_blocks [] named = refl
    test_in_blocks (l ∷ ls) named =
        let h = head_at l.number in
        let rest = parts_of all (under (map head_at (numbers_of ls)) c).pattern in
        or_swap (of_level l) (list_any of_level ls) (list_any of_part (parts_of all c.pattern)) ∙ ap (λ b. of_level l || b) (test_in_blocks ls named.1)
        ∙ ap (λ b. b || list_any of_part rest) (same l ∙ ap of_all named.0 ∙ parts_same (parts_if_written all h.pattern))
        ∙ sym (list_any-append of_part (parts_if_written all h.pattern) rest) ∙ sym (ap (list_any of_part) (head_first h.pattern (under (map head_at (numbers_of ls)) c).pattern))

  pub stands_in_blocks : (levels : List Level) → AreNamed levels → joined (stands_in levels) (standing (parts_of all c.pattern)) ≡ standing (parts_of all (under (map head_at (numbers_of levels)) c).pattern)
  stands_in_blocks levels named = λ i. record {
    anywhere = fun_ext (λ n. test_in_blocks (λ l. is_among l.names.anywhere n) (λ p. bytes_eq n p.name) (λ s. s.anywhere n) (λ l. refl) (λ ps. refl) levels named) i;
    bare = fun_ext (λ n. test_in_blocks (λ l. is_among l.names.bare n) (λ p. p.bare && bytes_eq n p.name) (λ s. s.bare n) (λ l. refl) (λ ps. refl) levels named) i;
    behind_table = fun_ext (λ n. test_in_blocks (λ l. is_among l.names.behind_table n) (λ p. p.behind_table && bytes_eq n p.name) (λ s. s.behind_table n) (λ l. refl) (λ ps. refl) levels named) i;
  }

-- ---- no actions

none_by : (as' : List Action) → is_idle as' ≡ true → as' ≡ []
none_by [] idle = refl
none_by (a ∷ as') idle = let some : is_idle (a ∷ as') ≡ false = grind arith in absurd (cc)

and_both : (a b : Bool) → (a && b) ≡ true → (a ≡ true) × (b ≡ true)
and_both true b is = (refl, is)
and_both false b is = absurd (cc)

none_in_heads : (hs : List Head) → list_all (λ h. is_idle (written h.actions)) hs ≡ true → actions_in hs ≡ []
unfolding gathered
none_in_heads [] idle = refl
none_in_heads (h ∷ hs) idle =
    let both = and_both (is_idle (written h.actions)) (list_all (λ g. is_idle (written g.actions)) hs) idle in
    ap (λ (as' : List Action). as' ++ actions_in hs) (none_by (written h.actions) both.0) ∙ none_in_heads hs both.1

pub none_at_all : (hs : List Head) (c : Constructor) → list_all (λ h. is_idle (written h.actions)) hs ≡ true → is_idle (written c.actions) ≡ true → written (under hs c).actions ≡ []
none_at_all hs c around own =
    under_heads hs c ∙ ap (λ (as' : List Action). as' ++ written c.actions) (none_in_heads hs around) ∙ none_by (written c.actions) own

pub nothing_broken : (all : List Table) (t : Tables) (ps : List Part) → first_broken (action_demands all t ps []) ≡ None
unfolding each_holds
nothing_broken all t ps = refl

-- ---- the actions of a constructor inside levels

pub facts_of_level : (all : List Table) (t : Tables) (c : Constructor) (levels : List Level) (l : Level) (given : List Name) (first : Option ℕ) → standing_of l.names ≡ standing (parts_of all c.pattern)
    → ((before : List Action) → AreJudged all t before levels → AreJudged all t (before ++ written c.actions) (levels ++ l ∷ [])) → given ≡ l.judged.given → first ≡ first_broken_at l.judged
    → AreFactsInside all t c levels given first
facts_of_level all t c levels l given first named judged given_is first_is =
    let innermost_is : innermost (levels ++ l ∷ []) ≡ l.judged = innermost_push levels l in
    record {
      given_are = λ before known. given_is ∙ ap (λ j. j.given) (sym innermost_is) ∙ (judged before known).given;
      first_is = λ before known.
          let as' = before ++ written c.actions in
          first_is ∙ ap first_broken_at (sym innermost_is)
          ∙ first_of_all all t (stands_in (levels ++ l ∷ [])) (any_unwanted (levels ++ l ∷ [])) as' (innermost (levels ++ l ∷ [])) (none_unwanted (levels ++ l ∷ [])) (judged before known)
          ∙ ap (λ (s : Standing). first_broken (action_demands_by all t s as')) (sym (stands_push levels l) ∙ ap (joined (stands_in levels)) named);
    }

module _ (all : List Table) (t : Tables) (blocks : List Around) (c : Constructor) (levels : List Level) (given : List Name) (first : Option ℕ) (head_at : ℕ → Head) (told : AreTold head_at blocks)
    (right : AreRight all t head_at levels) (numbers : numbers_of levels ≡ map (λ b. b.number) blocks) (facts : AreFactsInside all t c levels given first) where
  heads_are : map head_at (numbers_of levels) ≡ heads_of blocks
  heads_are = ap (map head_at) numbers ∙ heads_told head_at blocks told

  actions_are : actions_in (map head_at (numbers_of levels)) ++ written c.actions ≡ written (under (heads_of blocks) c).actions
  actions_are = ap (λ (hs : List Head). actions_in hs ++ written c.actions) heads_are ∙ sym (under_heads (heads_of blocks) c)

  known : AreJudged all t (actions_in (map head_at (numbers_of levels))) levels
  known = (right_whole all t head_at levels right).judged

  pub given_there : given ≡ action_names t (written (under (heads_of blocks) c).actions)
  given_there = facts.given_are _ known ∙ ap (action_names t) actions_are

  pub first_there : first ≡ first_broken (action_demands all t (parts_of all (under (heads_of blocks) c).pattern) (written (under (heads_of blocks) c).actions))
  first_there =
      facts.first_is _ known
      ∙ ap (λ (s : Standing). first_broken (action_demands_by all t s (actions_in (map head_at (numbers_of levels)) ++ written c.actions)))
      (stands_in_blocks all head_at c levels (right_whole all t head_at levels right).names ∙ ap (λ (hs : List Head). standing (parts_of all (under hs c).pattern)) heads_are)
      ∙ ap (λ (as' : List Action). first_broken (action_demands all t (parts_of all (under (heads_of blocks) c).pattern) as')) actions_are
