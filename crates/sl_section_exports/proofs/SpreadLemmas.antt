-- A search of the nodes that some nodes reach.
use Rattle.std.proofs.Common.{◌≡◌, ℕ, zero, suc, ◌+◌, ◌<◌, ◌≤◌, ◌==◌, ◌||◌, ◌⊎◌, inl, inr, Bool, true, false, List, [], ◌∷◌, ◌++◌, length, get_or, drop, take, refl, sym, ap, subst, ◌∙◌, arith}
use Rattle.std.specs.List.{Contains, list_any}
use Rattle.std.proofs.lemmas.List.Elements.{Contains-append_cases, Contains-append_left, Contains-append_right}
use Rattle.std.proofs.lemmas.Bool.{cases_lt}
use Rattle.std.proofs.lemmas.List.{get_or_past, take_all, take_more}
use Rattle.sl_spec_tables.proofs.PositionLemmas.{read_alike}
use Rattle.sl_base_graphs.proofs.Closure as closure
use Rattle.sl_base_graphs.specs.Reaching.{Graph, Reaches, direct, further, reaches_over, successors}
use Rattle.sl_section_exports.specs.Spreading.{is_one_of, is_reached}
use Rattle.sl_section_exports.specs.Spreads.{Follows, IsMarked, IsSpread, Marks, Visits, VisitsAll, mark_of, none_open}

-- ---- tests

or_left : (a b : Bool) → a ≡ true → (a || b) ≡ true
or_left true b h = refl
or_left false b h = absurd (let e : ⊥ = cc in e)

or_right : (a b : Bool) → b ≡ true → (a || b) ≡ true
or_right true b h = refl
or_right false b h = h

either : (a b : Bool) → (a || b) ≡ true → (a ≡ true) ⊎ (b ≡ true)
either true b h = inl refl
either false b h = inr h

both_ways : (a b : Bool) → (a ≡ true → b ≡ true) → (b ≡ true → a ≡ true) → a ≡ b
both_ways true b f g = sym (f refl)
both_ways false true f g = g refl
both_ways false false f g = refl

is_same : (a b : ℕ) → (a == b) ≡ true → a ≡ b
is_same a b h = grind arith

same_is : (a b : ℕ) → a ≡ b → (a == b) ≡ true
same_is a b h = grind arith

has_first : {X : Type 0} (x : X) (xs : List X) → Contains (x ∷ xs) x
has_first x xs = (0, omega arith, refl)

has_later : {X : Type 0} (x : X) (xs : List X) (y : X) → Contains xs y → Contains (x ∷ xs) y
has_later x xs y c = (suc c.0, omega (arith, c.1), c.2)

some_first : {X : Type 0} (p : X → Bool) (x : X) (xs : List X) → ((y : X) × Contains xs y × (p y ≡ true)) → (y : X) × Contains (x ∷ xs) y × (p y ≡ true)
some_first p x xs s = (s.0, has_later x xs s.0 s.1, s.2)

-- some member passes a test
pub some_passes : {X : Type 0} (p : X → Bool) (xs : List X) → list_any p xs ≡ true → (y : X) × Contains xs y × (p y ≡ true)
some_passes p [] h = absurd (let e : ⊥ = cc in e)
some_passes p (x ∷ xs) h = elim (either (p x) (list_any p xs) h) [
  | inl k ↦ (x, has_first x xs, k)
  | inr k ↦ some_first p x xs (some_passes p xs k)
]

passes_at : {X : Type 0} (p : X → Bool) (xs : List X) (y : X) (k : ℕ) → k < length xs → get_or xs k y ≡ y → p y ≡ true → list_any p xs ≡ true
passes_at p [] y k below is h = absurd (omega arith)
passes_at p (x ∷ xs) y zero below is h = or_left (p x) (list_any p xs) (ap p is ∙ h)
passes_at p (x ∷ xs) y (suc k) below is h = or_right (p x) (list_any p xs) (passes_at p xs y k (omega arith) is h)

pub passes : {X : Type 0} (p : X → Bool) (xs : List X) (y : X) → Contains xs y → p y ≡ true → list_any p xs ≡ true
passes p xs y c h = passes_at p xs y c.0 c.1 c.2 h

at_index : (xs : List ℕ) (i : ℕ) → i < length xs → Contains xs (get_or xs i 0)
at_index xs i below = (i, below, read_alike xs i (get_or xs i 0) 0 below)

-- ---- marks

marked_still : (old new : List Bool) (v w : ℕ) → Marks old v new → IsMarked old w → IsMarked new w
marked_still old new v w m h = m w ∙ or_left (mark_of old w) (v == w) h

marked_now : (old new : List Bool) (v : ℕ) → Marks old v new → IsMarked new v
marked_now old new v m = m v ∙ or_right (mark_of old v) (v == v) (same_is v v refl)

old_or_new : (old new : List Bool) (v w : ℕ) → Marks old v new → IsMarked new w → IsMarked old w ⊎ (v ≡ w)
old_or_new old new v w m h = elim (either (mark_of old w) (v == w) (sym (m w) ∙ h)) [
  | inl k ↦ inl k
  | inr k ↦ inr (is_same v w k)
]

-- ---- reaching

pub reach_one : (graph : Graph) {v w x : ℕ} → Reaches graph v w → Contains (successors graph w) x → Reaches graph v x
reach_one graph (direct c) d = further c (direct d)
reach_one graph (further c r) d = further c (reach_one graph r d)

pub follows_one : (graph : Graph) (starts : List ℕ) (v w : ℕ) → Follows graph starts v → Contains (successors graph v) w → Follows graph starts w
follows_one graph starts v w (s, has, inl e) c = (s, has, inr (direct (subst (λ (x : ℕ). Contains (successors graph x) w) (sym e) c)))
follows_one graph starts v w (s, has, inr r) c = (s, has, inr (reach_one graph r c))

-- ---- one step

module _ (graph : Graph) (starts first : List ℕ) where
  -- a node is met
  pub visited : (is_open : ℕ → Type 0) (old new : List Bool) (stack stack' : List ℕ) (v : ℕ) → Follows graph starts v → Visits old stack v new stack'
      → IsSpread graph starts first is_open old stack → IsSpread graph starts first is_open new stack'
  visited is_open old new stack stack' v follows visits is = record {
    sound = λ w h. elim (old_or_new old new v w visits.marks h) [
      | inl k ↦ is.sound w k
      | inr e ↦ subst (λ (x : ℕ). Follows graph starts x) e follows
    ];
    begun = λ w c. still w (is.begun w c);
    waiting = λ w c. elim (visits.only w c) [
      | inl k ↦ still w (is.waiting w k)
      | inr e ↦ subst (λ (x : ℕ). IsMarked new x) e (marked_now old new v visits.marks)
    ];
    closed = λ w h. elim (old_or_new old new v w visits.marks h) [
      | inl k ↦ carried w (is.closed w k)
      | inr e ↦ subst (λ (x : ℕ). Settled x) e (met visits.waits)
    ];
  }
    where
      still : (w : ℕ) → IsMarked old w → IsMarked new w
      still w h = marked_still old new v w visits.marks h

      Settled : ℕ → Type 0
      Settled w = is_open w ⊎ Contains stack' w ⊎ ((x : ℕ) → Contains (successors graph w) x → IsMarked new x)

      carried : (w : ℕ) → is_open w ⊎ Contains stack w ⊎ ((x : ℕ) → Contains (successors graph w) x → IsMarked old x) → Settled w
      carried w (inl o) = inl o
      carried w (inr (inl c)) = inr (inl (visits.kept w c))
      carried w (inr (inr all)) = inr (inr (λ x c. still x (all x c)))

      met : IsMarked old v ⊎ Contains stack' v → Settled v
      met (inl k) = carried v (is.closed v k)
      met (inr c) = inr (inl c)

  -- the last node is taken off the stack
  pub taken_off : (marks : List Bool) (stack : List ℕ) (v : ℕ) → IsSpread graph starts first none_open marks (stack ++ v ∷ []) → IsSpread graph starts first (λ u. u ≡ v) marks stack
  taken_off marks stack v is = record {
    sound = is.sound;
    begun = is.begun;
    waiting = λ w c. is.waiting w (Contains-append_left stack (v ∷ []) w c);
    closed = λ w h. by w (is.closed w h);
  }
    where
      last : (w : ℕ) → Contains (v ∷ []) w → w ≡ v
      last w (zero, below, e) = sym e
      last w (suc k, below, e) = absurd (omega (arith, below))

      by : (w : ℕ) → none_open w ⊎ Contains (stack ++ v ∷ []) w ⊎ ((x : ℕ) → Contains (successors graph w) x → IsMarked marks x)
          → (w ≡ v) ⊎ Contains stack w ⊎ ((x : ℕ) → Contains (successors graph w) x → IsMarked marks x)
      by w (inl o) = absurd o
      by w (inr (inl c)) = elim (Contains-append_cases stack (v ∷ []) w c) [
        | inl k ↦ inr (inl k)
        | inr k ↦ inl (last w k)
      ]
      by w (inr (inr all)) = inr (inr all)

  -- all its successors were met
  pub shut : (marks : List Bool) (stack : List ℕ) (v : ℕ) → ((w : ℕ) → Contains (successors graph v) w → IsMarked marks w)
      → IsSpread graph starts first (λ u. u ≡ v) marks stack → IsSpread graph starts first none_open marks stack
  shut marks stack v all is = record {
    sound = is.sound;
    begun = is.begun;
    waiting = is.waiting;
    closed = λ w h. by w (is.closed w h);
  }
    where
      by : (w : ℕ) → (w ≡ v) ⊎ Contains stack w ⊎ ((x : ℕ) → Contains (successors graph w) x → IsMarked marks x)
          → none_open w ⊎ Contains stack w ⊎ ((x : ℕ) → Contains (successors graph w) x → IsMarked marks x)
      by w (inl e) = inr (inr (subst (λ (u : ℕ). (x : ℕ) → Contains (successors graph u) x → IsMarked marks x) (sym e) all))
      by w (inr rest) = inr rest

-- ---- the end

module _ (graph : Graph) (starts : List ℕ) (marks : List Bool) (is : IsSpread graph starts starts none_open marks []) where
  closed_at : (v w : ℕ) → IsMarked marks v → Contains (successors graph v) w → IsMarked marks w
  closed_at v w h c = by (is.closed v h)
    where
      by : none_open v ⊎ Contains [] v ⊎ ((x : ℕ) → Contains (successors graph v) x → IsMarked marks x) → IsMarked marks w
      by (inl o) = absurd o
      by (inr (inl (k, below, e))) = absurd (omega (arith, below))
      by (inr (inr all)) = all w c

  all_reached : {v w : ℕ} → IsMarked marks v → Reaches graph v w → IsMarked marks w
  all_reached {v} {w} h (direct c) = closed_at v w h c
  all_reached {v} {w} h (further {w = x} c r) = all_reached (closed_at v x h c) r

  finds : (v : ℕ) → is_reached graph starts v ≡ true → IsMarked marks v
  finds v h = by (some_passes (λ s. (s == v) || reaches_over graph (length graph) s v) starts h)
    where
      by : ((s : ℕ) × Contains starts s × (((s == v) || reaches_over graph (length graph) s v) ≡ true)) → IsMarked marks v
      by (s, c, k) = elim (either (s == v) (reaches_over graph (length graph) s v) k) [
        | inl e ↦ subst (λ (x : ℕ). IsMarked marks x) (is_same s v e) (is.begun s c)
        | inr r ↦ all_reached (is.begun s c) (closure.is_reached graph (length graph) s v r)
      ]

  is_right : (v : ℕ) → IsMarked marks v → is_reached graph starts v ≡ true
  is_right v h = by (is.sound v h)
    where
      test : ℕ → Bool
      test s = (s == v) || reaches_over graph (length graph) s v

      by : Follows graph starts v → is_reached graph starts v ≡ true
      by (s, c, inl e) = passes test starts s c (or_left (s == v) (reaches_over graph (length graph) s v) (same_is s v e))
      by (s, c, inr r) = passes test starts s c (or_right (s == v) (reaches_over graph (length graph) s v) (closure.finds_reached graph s v r))

  pub all_right : (v : ℕ) → mark_of marks v ≡ is_reached graph starts v
  all_right v = both_ways (mark_of marks v) (is_reached graph starts v) (is_right v) (finds v)

-- ---- the successors of a node, one after another

-- the first of the successors are marked
abbrev pub Visiting : Graph → (v : ℕ) → (next : List ℕ) → (old_marks : List Bool) → (old : List ℕ) → (marks : List Bool) → (stack : List ℕ) → ℕ → Type 0
Visiting graph v next old_marks old marks stack i = (starts first : List ℕ) → Follows graph starts v
    → IsSpread graph starts first (λ u. u ≡ v) old_marks old → IsSpread graph starts first (λ u. u ≡ v) marks stack × ((k : ℕ) → k < i → IsMarked marks (get_or next k 0))

pub visiting_begins : (graph : Graph) (v : ℕ) (next : List ℕ) (marks : List Bool) (stack : List ℕ) → Visiting graph v next marks stack marks stack 0
visiting_begins graph v next marks stack starts first follows is = (is, λ k below. absurd (omega arith))

pub visiting_goes : (graph : Graph) (v : ℕ) (next : List ℕ) (old_marks : List Bool) (old : List ℕ) (marks : List Bool) (stack : List ℕ) (new : List Bool) (stack' : List ℕ) (i : ℕ)
    → successors graph v ≡ next → i < length next → Visits marks stack (get_or next i 0) new stack' → Visiting graph v next old_marks old marks stack i → Visiting graph v next old_marks old new stack' (i + 1)
visiting_goes graph v next old_marks old marks stack new stack' i is below visits so_far starts first follows begins =
    let now = so_far starts first follows begins in
    let w = get_or next i 0 in
    let has : Contains (successors graph v) w = subst (λ (l : List ℕ). Contains l w) (sym is) (at_index next i below) in (
      visited graph starts first (λ u. u ≡ v) marks new stack stack' w (follows_one graph starts v w follows has) visits now.0,
      λ k less. elim (cases_lt k i) [
        | inl h ↦ marked_still marks new w (get_or next k 0) visits.marks (now.1 k h)
        | inr h ↦ let e : k ≡ i = omega arith in ap (λ j. mark_of new (get_or next j 0)) e ∙ marked_now marks new w visits.marks
      ],
    )

pub visiting_ends : (graph : Graph) (v : ℕ) (next : List ℕ) (old_marks : List Bool) (old : List ℕ) (marks : List Bool) (stack : List ℕ) (i : ℕ)
    → successors graph v ≡ next → length next ≤ i → Visiting graph v next old_marks old marks stack i → VisitsAll graph old_marks old v marks stack
visiting_ends graph v next old_marks old marks stack i is end so_far starts first follows begins =
    let now = so_far starts first follows begins in
    shut graph starts first marks stack v (λ w c. all w (subst (λ (l : List ℕ). Contains l w) is c) now.1) now.0
  where
    all : (w : ℕ) → Contains next w → ((k : ℕ) → k < i → IsMarked marks (get_or next k 0)) → IsMarked marks w
    all w (k, below, e) marked = ap (mark_of marks) (sym e ∙ read_alike next k w 0 below) ∙ marked k (omega arith)

-- a number without successors
pub visits_none : (graph : Graph) (v : ℕ) (marks : List Bool) (stack : List ℕ) → length graph ≤ v → VisitsAll graph marks stack v marks stack
visits_none graph v marks stack past =
    visiting_ends graph v [] marks stack marks stack 0 (get_or_past graph v [] past) (omega arith) (visiting_begins graph v [] marks stack)

-- ---- the starts, one after another

pub nothing_yet : (graph : Graph) (starts : List ℕ) → IsSpread graph starts [] none_open [] []
nothing_yet graph starts = record {
  sound = λ v h. absurd (let e : ⊥ = cc in e);
  begun = λ v c. none v c;
  waiting = λ v c. none v c;
  closed = λ v h. absurd (let e : ⊥ = cc in e);
}
  where
    none : (v : ℕ) → Contains [] v → IsMarked [] v
    none v (k, below, e) = absurd (omega (arith, below))

pub one_begun : (graph : Graph) (starts : List ℕ) (marks : List Bool) (stack : List ℕ) (new : List Bool) (stack' : List ℕ) (i : ℕ) → i < length starts
    → Visits marks stack (get_or starts i 0) new stack' → IsSpread graph starts (take i starts) none_open marks stack → IsSpread graph starts (take (i + 1) starts) none_open new stack'
one_begun graph starts marks stack new stack' i below visits is =
    let s = get_or starts i 0 in
    let next = visited graph starts (take i starts) none_open marks new stack stack' s (s, at_index starts i below, inl refl) visits is in
    record {
      sound = next.sound;
      begun = λ w c. by w (subst (λ (l : List ℕ). Contains l w) (take_more starts i 0 below) c) next.begun;
      waiting = next.waiting;
      closed = next.closed;
    }
  where
    last : (w : ℕ) → Contains (get_or starts i 0 ∷ []) w → IsMarked new w
    last w (zero, within, e) = ap (mark_of new) (sym e) ∙ marked_now marks new (get_or starts i 0) visits.marks
    last w (suc k, within, e) = absurd (omega (arith, within))

    by : (w : ℕ) → Contains (take i starts ++ get_or starts i 0 ∷ []) w → ((w : ℕ) → Contains (take i starts) w → IsMarked new w) → IsMarked new w
    by w c before = elim (Contains-append_cases (take i starts) (get_or starts i 0 ∷ []) w c) [
      | inl k ↦ before w k
      | inr k ↦ last w k
    ]

pub all_begun : (graph : Graph) (starts : List ℕ) (marks : List Bool) (stack : List ℕ) (i : ℕ) → length starts ≤ i
    → IsSpread graph starts (take i starts) none_open marks stack → IsSpread graph starts starts none_open marks stack
all_begun graph starts marks stack i end is = subst (λ (l : List ℕ). IsSpread graph starts l none_open marks stack) (take_all i starts end) is

-- one node more is taken off and its successors are met
pub one_round : (graph : Graph) (starts : List ℕ) (marks : List Bool) (stack rest : List ℕ) (v : ℕ) (new : List Bool) (stack' : List ℕ) → stack ≡ rest ++ v ∷ []
    → VisitsAll graph marks rest v new stack' → IsSpread graph starts starts none_open marks stack → IsSpread graph starts starts none_open new stack'
one_round graph starts marks stack rest v new stack' is visits so_far =
    let now : IsSpread graph starts starts none_open marks (rest ++ v ∷ []) = subst (λ (l : List ℕ). IsSpread graph starts starts none_open marks l) is so_far in
    visits starts starts (now.sound v (now.waiting v (Contains-append_right rest (v ∷ []) v (0, omega arith, refl)))) (taken_off graph starts starts marks rest v now)
