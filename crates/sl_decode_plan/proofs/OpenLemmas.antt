-- The blocks round a constructor, whose steps are made once for all constructors inside.
use Rattle.std.proofs.Common.{◌≡◌, ℕ, ◌+◌, ◌-◌, zero, suc, ◌<◌, ◌≤◌, List, [], ◌∷◌, ◌++◌, length, get_or, map, take, Option, ◌⊎◌, inl, inr, refl, sym, ap, subst, ◌∙◌, append_assoc, append-nil, length-append, slice_get, arith}
use Rattle.std.proofs.lemmas.Bool.{cases_lt}
use Rattle.std.proofs.lemmas.List.{length-take-le, map-append, take_all}
use Rattle.std.specs.List.{flat_map}
use denote.Ref.{Bor}
use Rattle.std.specs.Option.{IfSome, option_copied}
use Rattle.std.specs.declared.alloc.Global.{Global}
use Rattle.std.specs.declared.rc.Rc.{Rc}
use Rattle.sl_ast.specs.Trees.{Action, Head}
use Rattle.sl_ast.specs.Unfolding.{written}
use Rattle.sl_ast.specs.Views.{actions_of, head_of}
use Rattle.sl_ast.specs.declared.patterns.Action as tree
use Rattle.sl_decode_leaves.specs.Blocks.{ArePlain}
use Rattle.sl_decode_leaves.specs.Extents.{leaf_at, leaves_at}
use Rattle.sl_decode_leaves.specs.Joined.{all_leaves}
use Rattle.sl_decode_leaves.specs.declared.leaves.Leaf as l
use Rattle.sl_decode_leaves.specs.declared.pattern_leaves.PatternLeaves.{PatternLeaves}
use Rattle.sl_spec.proofs.MadeLemmas.{told_at, told_round}
use Rattle.sl_decode_plan.specs.Settled.{AddsUnsettled, BeginsWith, IsInside}
use Rattle.sl_decode_plan.specs.Open.{AreCommon, AreEntered, AreRight, AreRightAnyway, AreRightFor, AreRightInside, AreStepsOf, IsFront, IsOpened, IsRight, StandAlike, StayRight, front_of, innermost, leaves_of, numbers_of, unsettled_of}
use Rattle.sl_decode_plan.specs.Rights.{AreSteps}
use Rattle.sl_decode_plan.specs.Uses.{AreUses, ReadAsBefore}
use Rattle.sl_decode_plan.specs.declared.open_blocks.OpenBlock.{OpenBlock}
use Rattle.sl_decode_plan.specs.declared.shared.SharedSteps.{SharedSteps}
use Rattle.sl_decode_plan.specs.declared.uses.Used.{Used}
use Rattle.sl_decode_plan.proofs.SettledLemmas.{took_more}
use Rattle.sl_decode_plan.proofs.StepLemmas.{right_for}
use Rattle.sl_spec.specs.Numbers.{AreNumbered, AreTold, AreToldOf}
use Rattle.sl_spec.specs.Tables.{Operand}
use Rattle.sl_spec.specs.declared.tables.Tables.{Tables}
use Rattle.sl_spec.specs.declared.unfolded.Around.{Around}
use Rattle.sl_spec.specs.declared.unfolded.Unfolded.{Unfolded}

-- ---- lists

flat_push : {X Y : Type 0} (f : X → List Y) (xs : List X) (x : X) → flat_map f (xs ++ x ∷ []) ≡ flat_map f xs ++ f x
flat_push f [] x = append-nil (f x)
flat_push f (y ∷ ys) x = ap (λ zs. f y ++ zs) (flat_push f ys x) ∙ sym (append_assoc (f y) (flat_map f ys) (f x))

pub within : {i m n : ℕ} → i < m → m ≤ n → i < n
within below few = omega arith

-- one pattern more
pub took_leaves : (ps : List (Rc PatternLeaves Global)) (i : ℕ) (p : Rc PatternLeaves Global) → i < length ps → p ≡ get_or ps i p
    → all_leaves (take (i + 1) ps) ≡ all_leaves (take i ps) ++ p.value.leaves.items
took_leaves ps i p below at = ap all_leaves (took_more ps i p below at) ∙ flat_push (λ q. q.value.leaves.items) (take i ps) p

-- ---- names that begin alike

begins_shorter : (some more ls : List l.Leaf) → BeginsWith (some ++ more) ls → BeginsWith some ls
begins_shorter some more ls begins = (
  λ lengths. leaves_at lengths more ++ begins.0 lengths,
  λ lengths. begins.1 lengths ∙ ap (λ xs. xs ++ begins.0 lengths) (map-append (leaf_at lengths) some more)
      ∙ append_assoc (leaves_at lengths some) (leaves_at lengths more) (begins.0 lengths),
)

begins_alike : (some others ls : List l.Leaf) → StandAlike some others → BeginsWith others ls → BeginsWith some ls
begins_alike some others ls alike begins = (begins.0, λ lengths. begins.1 lengths ∙ ap (λ xs. xs ++ begins.0 lengths) (sym (alike lengths)))

begins_taken : {X : Type 0} (f : X → List l.Leaf) (xs : List X) (i : ℕ) → BeginsWith (flat_map f (take i xs)) (flat_map f xs)
begins_taken f xs zero = (λ lengths. leaves_at lengths (flat_map f xs), λ lengths. refl)
begins_taken f [] (suc i) = (λ lengths. [], λ lengths. refl)
begins_taken f (x ∷ xs) (suc i) =
    let rest = begins_taken f xs i in (
      rest.0,
      λ lengths. map-append (leaf_at lengths) (f x) (flat_map f xs) ∙ ap (λ ys. leaves_at lengths (f x) ++ ys) (rest.1 lengths)
          ∙ sym (append_assoc (leaves_at lengths (f x)) (leaves_at lengths (flat_map f (take i xs))) (rest.0 lengths))
          ∙ sym (ap (λ ys. ys ++ rest.0 lengths) (map-append (leaf_at lengths) (f x) (flat_map f (take i xs)))),
    )

pub begins_in : (ps : List (Rc PatternLeaves Global)) (i : ℕ) (ls : List l.Leaf) → all_leaves ps ≡ ls → BeginsWith (all_leaves (take i ps)) ls
begins_in ps i ls whole = subst (BeginsWith (all_leaves (take i ps))) whole (begins_taken (λ p. p.value.leaves.items) ps i)

alike_more : (some others more its : List l.Leaf) → StandAlike some others → StandAlike more its → StandAlike (some ++ more) (others ++ its)
alike_more some others more its one other = λ lengths.
    map-append (leaf_at lengths) some more ∙ ap (λ xs. xs ++ leaves_at lengths more) (one lengths)
    ∙ ap (λ xs. leaves_at lengths others ++ xs) (other lengths) ∙ sym (map-append (leaf_at lengths) others its)

-- ---- steps that are right

module _ (t : Tables) (os : List Operand) (ls front : List l.Leaf) where
  pub opened_right : (h : Head) (as' : List tree.Action) (steps : SharedSteps) (outer used : List Used) (x : OpenBlock) → actions_of as' ≡ written h.actions
      → x.steps ≡ steps → AreSteps t os ls (actions_of as') steps → IsInside t front os ls → ReadAsBefore t os ls outer → ReadAsBefore t os ls used
      → AreUses t os ls used as' → AddsUnsettled t front used outer x.unsettled → IsRight t h front outer x
  opened_right h as' steps outer used x is made are inside around before uses left = λ those ms into stand.
      let both = (left os ls inside around before).1 those ms into stand in (
        both.0,
        subst (λ (y : SharedSteps). AreSteps t those ms (written h.actions) y) (sym made)
            (subst (λ (bs : List Action). AreSteps t those ms bs steps) is (right_for t os ls those ms as' steps are (uses those ms both.1))),
      )

-- the unsettled names of the innermost of some blocks, or of the one round them
abbrev left_in : List Used → List OpenBlock → List Used
left_in outer [] = outer
left_in outer (x ∷ xs) = left_in x.unsettled xs

left_at_last : (outer : List Used) (x : OpenBlock) (xs : List OpenBlock) → unsettled_of (slice_get (x ∷ xs) (length xs)) ≡ left_in outer (x ∷ xs)
left_at_last outer x [] = refl
left_at_last outer x (y ∷ ys) = left_at_last x.unsettled y ys

left_innermost : (xs : List OpenBlock) → innermost xs ≡ left_in [] xs
left_innermost [] = refl
left_innermost (x ∷ xs) =
    let last : length (x ∷ xs) - 1 ≡ length xs = omega arith in
    ap (λ n. unsettled_of (slice_get (x ∷ xs) n)) last ∙ left_at_last [] x xs

left_pushed : (outer : List Used) (xs : List OpenBlock) (x : OpenBlock) → left_in outer (xs ++ x ∷ []) ≡ x.unsettled
left_pushed outer [] x = refl
left_pushed outer (y ∷ ys) x = left_pushed y.unsettled ys x

-- what the last block leaves
pub left_of_last : (o : Option (Bor OpenBlock)) (slice blocks : List OpenBlock) → slice ≡ blocks → option_copied o ≡ slice_get slice (length slice - 1)
    → unsettled_of (option_copied o) ≡ innermost blocks
left_of_last o slice blocks same last = ap unsettled_of last ∙ ap innermost same

innermost_pushed : (xs : List OpenBlock) (x : OpenBlock) → innermost (xs ++ x ∷ []) ≡ x.unsettled
innermost_pushed xs x = left_innermost (xs ++ x ∷ []) ∙ left_pushed [] xs x

module _ (t : Tables) (head_at : ℕ → Head) where
  taken_right : (front : List l.Leaf) (outer : List Used) (xs : List OpenBlock) (i : ℕ) → AreRightInside t head_at front outer xs
      → AreRightInside t head_at front outer (take i xs)
  taken_right front outer xs zero right = tt
  taken_right front outer [] (suc i) right = tt
  taken_right front outer (x ∷ xs) (suc i) right = (right.0, taken_right (front ++ leaves_of x) x.unsettled xs i right.1)

  pushed_right : (front : List l.Leaf) (outer : List Used) (xs : List OpenBlock) (x : OpenBlock) → AreRightInside t head_at front outer xs
      → IsRight t (head_at x.number) ((front ++ front_of xs) ++ leaves_of x) (left_in outer xs) x → AreRightInside t head_at front outer (xs ++ x ∷ [])
  pushed_right front outer [] x right its = (subst (λ (ys : List l.Leaf). IsRight t (head_at x.number) (ys ++ leaves_of x) outer x) (append-nil front) its, tt)
  pushed_right front outer (y ∷ ys) x right its = (
    right.0,
    pushed_right (front ++ leaves_of y) y.unsettled ys x right.1
        (subst (λ (zs : List l.Leaf). IsRight t (head_at x.number) (zs ++ leaves_of x) (left_in y.unsettled ys) x) (sym (append_assoc front (leaves_of y) (front_of ys))) its),
  )

-- ---- the first blocks

first_number : List ℕ → ℕ
first_number [] = 0
first_number (n ∷ ns) = n

other_numbers : List ℕ → List ℕ
other_numbers [] = []
other_numbers (n ∷ ns) = ns

module _ (t : Tables) (os : List Operand) (ls : List l.Leaf) (plain : ArePlain t os) (head_at : ℕ → Head) where
  steps_inside : (front : List l.Leaf) (outer : List Used) (xs : List OpenBlock) (heads : List Around) → AreRightInside t head_at front outer xs → AreTold head_at heads
      → numbers_of xs ≡ map (λ a. a.number) heads → BeginsWith (front ++ front_of xs) ls → ReadAsBefore t os ls (left_in outer xs)
      → ReadAsBefore t os ls outer × AreStepsOf t os ls xs heads
  unfolding first_number other_numbers
  steps_inside front outer [] heads right told numbers begins left = (left, tt)
  steps_inside front outer (x ∷ xs) [] right told numbers begins left = absurd (cc numbers)
  steps_inside front outer (x ∷ xs) (a ∷ heads) right told numbers begins left =
      let longer = subst (λ (ys : List l.Leaf). BeginsWith ys ls) (sym (append_assoc front (leaves_of x) (front_of xs))) begins in
      let head : head_at x.number ≡ head_of a.head.now = ap (λ ns. head_at (first_number ns)) numbers ∙ told.0 in
      let inner = steps_inside (front ++ leaves_of x) x.unsettled xs heads right.1 told.1 (ap other_numbers numbers) longer left in
      let its = right.0 os ls (plain, begins_shorter (front ++ leaves_of x) (front_of xs) ls longer) inner.0 in
      (its.0, (subst (λ (h : Head). AreSteps t os ls (written h.actions) x.steps) head its.1, inner.1))

told_taken : (head_at : ℕ → Head) (heads : List Around) (i : ℕ) → AreTold head_at heads → AreTold head_at (take i heads)
told_taken head_at heads zero told = tt
told_taken head_at [] (suc i) told = tt
told_taken head_at (a ∷ heads) (suc i) told = (told.0, told_taken head_at heads i told.1)

steps_push : (t : Tables) (os : List Operand) (ls : List l.Leaf) (xs : List OpenBlock) (heads : List Around) (x : OpenBlock) (a : Around) → length xs ≡ length heads
    → AreStepsOf t os ls xs heads → AreSteps t os ls (written (head_of a.head.now).actions) x.steps → AreStepsOf t os ls (xs ++ x ∷ []) (heads ++ a ∷ [])
steps_push t os ls [] [] x a same steps its = (its, tt)
steps_push t os ls [] (b ∷ heads) x a same steps its = absurd (omega arith)
steps_push t os ls (y ∷ xs) [] x a same steps its = absurd steps
steps_push t os ls (y ∷ xs) (b ∷ heads) x a same steps its = (steps.0, steps_push t os ls xs heads x a (omega arith) steps.1 its)

-- the steps of one of the blocks
pub steps_at : (t : Tables) (os : List Operand) (ls : List l.Leaf) (xs : List OpenBlock) (heads : List Around) (i : ℕ) (a : Around) → i < length heads
    → a ≡ get_or heads i a → AreStepsOf t os ls xs heads → IfSome (slice_get xs i) (λ x. AreSteps t os ls (written (head_of a.head.now).actions) x.steps)
steps_at t os ls [] heads i a below is steps = tt
steps_at t os ls (x ∷ xs) [] i a below is steps = absurd steps
steps_at t os ls (x ∷ xs) (b ∷ heads) zero a below is steps =
    subst (λ (y : Around). AreSteps t os ls (written (head_of y.head.now).actions) x.steps) (sym is) steps.0
steps_at t os ls (x ∷ xs) (b ∷ heads) (suc i) a below is steps = steps_at t os ls xs heads i a (omega arith) is steps.1

-- ---- blocks that are those round a constructor

-- So are all of fewer.
abbrev pub AreCommonUpTo : List (Rc PatternLeaves Global) → List OpenBlock → List Around → ℕ → Type 0
AreCommonUpTo ps blocks heads i = (count : ℕ) → count ≤ i → AreCommon (all_leaves (take count ps)) blocks heads count

pub none_common : (ps : List (Rc PatternLeaves Global)) (blocks : List OpenBlock) (heads : List Around) → AreCommonUpTo ps blocks heads 0
none_common ps blocks heads zero below = record { few = omega arith; there = omega arith; numbers = refl; alike = λ lengths. refl }
none_common ps blocks heads (suc count) below = absurd (omega arith)

module _ (ps : List (Rc PatternLeaves Global)) (blocks : List OpenBlock) (heads : List Around) (i : ℕ) (p : Rc PatternLeaves Global) (x : OpenBlock) (a : Around)
    (in_patterns : i < length ps) (in_blocks : i < length blocks) (in_heads : i < length heads) (pattern : p ≡ get_or ps i p) (block : x ≡ get_or blocks i x)
    (head : a ≡ get_or heads i a) (number : x.number ≡ a.number) (alike : StandAlike (leaves_of x) p.value.leaves.items) where
  one_more : AreCommon (all_leaves (take i ps)) blocks heads i → AreCommon (all_leaves (take (i + 1) ps)) blocks heads (i + 1)
  one_more so_far = record {
    few = omega arith;
    there = omega arith;
    numbers = ap numbers_of (took_more blocks i x in_blocks block) ∙ map-append (λ b. b.number) (take i blocks) (x ∷ [])
        ∙ ap (λ ns. ns ++ x.number ∷ []) so_far.numbers ∙ ap (λ n. map (λ b. b.number) (take i heads) ++ n ∷ []) number
        ∙ sym (ap (map (λ b. b.number)) (took_more heads i a in_heads head) ∙ map-append (λ b. b.number) (take i heads) (a ∷ []));
    alike = λ lengths.
        ap (λ (ys : List OpenBlock). leaves_at lengths (front_of ys)) (took_more blocks i x in_blocks block) ∙ ap (leaves_at lengths) (flat_push leaves_of (take i blocks) x)
        ∙ alike_more (front_of (take i blocks)) (all_leaves (take i ps)) (leaves_of x) p.value.leaves.items so_far.alike alike lengths
        ∙ sym (ap (leaves_at lengths) (took_leaves ps i p in_patterns pattern));
  }

  up_to : AreCommonUpTo ps blocks heads i → (count : ℕ) → count ≤ i + 1 → (i < count) ⊎ (count ≤ i) → AreCommon (all_leaves (take count ps)) blocks heads count
  up_to so_far count below (inr few) = so_far count few
  up_to so_far count below (inl more) =
      let last : i + 1 ≡ count = omega arith in
      subst (λ n. AreCommon (all_leaves (take n ps)) blocks heads n) last (one_more (so_far i (omega arith)))

  pub more_common : AreCommonUpTo ps blocks heads i → AreCommonUpTo ps blocks heads (i + 1)
  more_common so_far = λ count below. up_to so_far count below (cases_lt i count)

-- ---- blocks that are entered

module _ (t : Tables) (os : List Operand) (ls : List l.Leaf) (heads : List Around) where
  -- The blocks are those of the first heads, right for a constructor with this pattern.
  pub record AreFirst (patterns : List l.Leaf) (old now : List OpenBlock) (i : ℕ) : Type 0 where
    pub count : length now ≡ i
    pub alike : StandAlike (front_of now) patterns
    pub unsettled : ReadAsBefore t os ls (innermost now)
    pub steps : AreStepsOf t os ls now (take i heads)
    pub kept : StayRight t heads old now

  pub first_begin : (patterns : List l.Leaf) (old now : List OpenBlock) (i : ℕ) → ArePlain t os → BeginsWith patterns ls → AreRightFor t heads old → now ≡ take i old
      → IsFront t os ls patterns old heads i → AreFirst patterns old now i
  first_begin patterns old now i plain begins right is front = record {
    count = ap (λ (ys : List OpenBlock). length ys) is ∙ length-take-le i old front.common.few;
    alike = λ lengths. ap (λ (ys : List OpenBlock). leaves_at lengths (front_of ys)) is ∙ front.common.alike lengths;
    unsettled = subst (λ (ys : List OpenBlock). ReadAsBefore t os ls (innermost ys)) (sym is) front.unsettled;
    steps = subst (λ (ys : List OpenBlock). AreStepsOf t os ls ys (take i heads)) (sym is)
        (steps_inside t os ls plain right.0 [] [] (take i old) (take i heads) (taken_right t right.0 [] [] old i right.2) (told_taken right.0 heads i right.1)
        front.common.numbers (begins_alike (front_of (take i old)) patterns ls front.common.alike begins)
        (subst (ReadAsBefore t os ls) (left_innermost (take i old)) front.unsettled)).1;
    kept = λ head_at told was. subst (λ (ys : List OpenBlock). AreRight t head_at ys) (sym is) (taken_right t head_at [] [] old i was);
  }

  pub first_go : (patterns its more : List l.Leaf) (old now new : List OpenBlock) (i : ℕ) (a : Around) (x : OpenBlock) → i < length heads → a ≡ get_or heads i a
      → more ≡ patterns ++ its → new ≡ now ++ x ∷ [] → IsOpened t os ls more its (innermost now) a x → AreFirst patterns old now i → AreFirst more old new (i + 1)
  first_go patterns its more old now new i a x below at added is opened so_far =
      let head = took_more heads i a below at in
      let same : StandAlike (front_of now ++ leaves_of x) more = λ lengths.
      alike_more (front_of now) patterns (leaves_of x) its so_far.alike (λ n. ap (leaves_at n) opened.leaves) lengths ∙ sym (ap (leaves_at lengths) added) in
      record {
        count = ap (λ (ys : List OpenBlock). length ys) is ∙ length-append now (x ∷ []) ∙ ap (λ n. n + 1) so_far.count;
        alike = λ lengths. ap (λ (ys : List OpenBlock). leaves_at lengths (front_of ys)) is ∙ ap (leaves_at lengths) (flat_push leaves_of now x) ∙ same lengths;
        unsettled = subst (ReadAsBefore t os ls) (sym (ap innermost is ∙ innermost_pushed now x)) opened.unsettled;
        steps = subst (λ (as' : List Around). AreStepsOf t os ls new as') (sym head)
            (subst (λ (ys : List OpenBlock). AreStepsOf t os ls ys (take i heads ++ a ∷ [])) (sym is)
            (steps_push t os ls now (take i heads) x a (so_far.count ∙ sym (length-take-le i heads (omega arith))) so_far.steps opened.steps));
        kept = λ head_at told was.
            let right = so_far.kept head_at told was in
            let its_head : head_at x.number ≡ head_of a.head.now = ap head_at opened.number ∙ told_at head_at heads i a below at told in
            subst (λ (ys : List OpenBlock). AreRight t head_at ys) (sym is)
            (pushed_right t head_at [] [] now x right
            (subst (λ (h : Head). IsRight t h (front_of now ++ leaves_of x) (left_in [] now) x) (sym its_head)
            (subst (λ (us : List Used). IsRight t (head_of a.head.now) (front_of now ++ leaves_of x) us x) (left_innermost now)
            (λ those ms into. opened.right those ms (into.0, begins_alike more (front_of now ++ leaves_of x) ms (λ lengths. sym (same lengths)) into.1)))));
      }

  pub first_end : (patterns : List l.Leaf) (old new : List OpenBlock) (i : ℕ) → length heads ≤ i → AreFirst patterns old new i → AreEntered t os ls heads old new
  first_end patterns old new i end so_far = record {
    steps = subst (λ (as' : List Around). AreStepsOf t os ls new as') (take_all i heads end) so_far.steps;
    kept = so_far.kept;
  }

-- ---- constructors, one behind the other

module _ (t : Tables) (us : List Unfolded) where
  -- The blocks are right where numbers tell the heads of all blocks round these constructors.
  abbrev pub AreRightAmong : List OpenBlock → Type 0
  AreRightAmong blocks = (head_at : ℕ → Head) × AreToldOf head_at us × AreRight t head_at blocks

  pub begun_anyway : (blocks : List OpenBlock) → AreRightAnyway blocks → AreNumbered us → AreRightAmong blocks
  begun_anyway blocks right numbered = (numbered.0, numbered.1, right t numbered.0)

  module _ (i : ℕ) (u : Unfolded) (below : i < length us) (at : u ≡ get_or us i u) (old : List OpenBlock) where
    pub right_among : AreRightAmong old → AreRightFor t u.heads.items old
    right_among among = (among.0, told_round among.0 us i u below at among.1, among.2)

    pub stays_among : (new : List OpenBlock) → StayRight t u.heads.items old new → AreRightAmong old → AreRightAmong new
    stays_among new stay among = (among.0, among.1, stay among.0 (told_round among.0 us i u below at among.1) among.2)
