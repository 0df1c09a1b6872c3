-- Regions by the values of a node's action names, step by step.
use Rattle.std.proofs.Common.{◌≡◌, ℕ, zero, suc, ◌+◌, ◌<◌, ◌≤◌, List, [], ◌∷◌, ◌++◌, length, length-append, get_or, drop, drop-cons, Option, Some, None, Result, Ok, Err, arith, refl, sym, ap, subst, ◌∙◌, inl, inr}
use Rattle.std.specs.Prelude.{Vec, ℤ, option_and_then, slice_get}
use Rattle.std.specs.declared.alloc.Global.{Global}
use Rattle.std.specs.declared.rc.Rc.{Rc}
use Rattle.std.proofs.lemmas.Bool.{cases_lt}
use Rattle.std.proofs.lemmas.List.{drop_all}
use Rattle.std.proofs.lemmas.Option.{slice_get_within}
use Rattle.sl_asm_bits.specs.Known.{HasBits}
use Rattle.sl_asm_bits.specs.declared.Known.{Known}
use Rattle.sl_asm_fit.specs.Regions.{IsOf}
use Rattle.sl_asm_fit.specs.declared.Cell.{Cell}
use Rattle.sl_asm_known.specs.Frames.{AreOf, IsSiteOf}
use Rattle.sl_asm_known.specs.declared.Frame.{Frame}
use Rattle.sl_asm_values.proofs.GivingLemmas.{part_all, part_more}
use Rattle.sl_asm_values.specs.Names.{AreWanted, KeepsNames, NamesNone}
use Rattle.sl_asm_values.specs.Narrowing.{Gives, GivesNone, IsPart, KeepsGiving}
use Rattle.sl_asm_values.specs.Rows.{GivesNoNumber, GivesNumber, GivesOther, IsAt, IsExact, IsNamed, IsPartOf, IsReached, IsWanted, Leaves, values_of}
use Rattle.sl_asm_values.specs.declared.names.Named.{Named}
use Rattle.sl_asm_values.specs.declared.names.Reached.{Reached}
use Rattle.sl_decode_contexts.specs.declared.commits.Commit.{Commit}
use Rattle.sl_decode_meaning.specs.Actions.{Own, at_values, own}
use Rattle.sl_decode_meaning.specs.Outcomes.{◌>>=◌, in_turn}
use Rattle.sl_decode_meaning.specs.Values.{Site}
use Rattle.sl_decode_meaning.specs.declared.faults.Fault.{Fault}
use Rattle.sl_decode_meaning.specs.declared.notes.Noted.{Noted}
use Rattle.sl_decode_plan.specs.Rows.{all_steps}
use Rattle.sl_decode_plan.specs.Steps.{late_step}
use Rattle.sl_decode_plan.specs.Values.{value_in}
use Rattle.sl_decode_plan.specs.declared.late.Late.{Late}
use Rattle.sl_decode_plan.specs.declared.late.Late.TheVariants as l
use Rattle.sl_decode_plan.specs.declared.values.Value.{Value}
use Rattle.sl_spec.specs.declared.tables.Tables.{Tables}
use denote.Ref.{Bor}

-- ---- a value

module _ (t : Tables) (f : Frame) (region : List Cell) (v : Value) where
  gives : (k : Known) (n : ℤ) (s : Site) → HasBits k n → value_in t s v ≡ Ok n → Gives t v k s
  gives k n s has is = record { number = n; is = is; has = has }

  pub exact_none : (k : Known) (n : ℤ) → HasBits k n → GivesNone t f region v k → GivesOther t f region v n
  exact_none k n has none = λ s is e. none s is (gives k n s has e)

  pub exact_some : (x : Named) (n : ℤ) → HasBits x.known n → KeepsGiving t f region v x.known x.region.items → IsExact t f region v n x
  exact_some x n has keeps = record {
    part = keeps.part;
    stays = λ s is e. keeps.stays s is (gives x.known n s has e);
    has = has;
  }

-- ---- lists that grow

get_more : {X : Type 0} (xs ys : List X) (k : ℕ) (x : X) → slice_get xs k ≡ Some x → slice_get (xs ++ ys) k ≡ Some x
get_more [] ys k x is = absurd (let no : ⊥ = cc in no)
get_more (y ∷ xs) ys zero x is = is
get_more (y ∷ xs) ys (suc k) x is = get_more xs ys k x is

get_front : {X : Type 0} (xs : List X) (x : X) (i : ℕ) → i < length xs → slice_get (xs ++ x ∷ []) i ≡ slice_get xs i
get_front [] x i below = absurd (omega arith)
get_front (y ∷ ys) x zero below = refl
get_front (y ∷ ys) x (suc i) below = get_front ys x i (omega arith)

get_last : {X : Type 0} (xs : List X) (x : X) → slice_get (xs ++ x ∷ []) (length xs) ≡ Some x
get_last [] x = refl
get_last (y ∷ ys) x = get_last ys x

last_at : {X : Type 0} (xs : List X) (x y : X) (i : ℕ) → length xs ≤ i → slice_get (xs ++ x ∷ []) i ≡ Some y → y ≡ x
last_at {X = X} xs x y i past is =
    let below : i < length xs + 1 = rw (length-append xs (x ∷ [])) at (slice_get_within (xs ++ x ∷ []) i y is) in
    let e : i ≡ length xs = omega (arith, past, below) in
    let same : ◌≡◌ {A = Option X} (Some y) (Some x) = sym is ∙ ap (slice_get (xs ++ x ∷ [])) e ∙ get_last xs x in
    cc

pub more_names : (names : List Known) (values : List ℤ) (k : Known) (z : ℤ) → AreOf names values → HasBits k z → AreOf (names ++ k ∷ []) (values ++ z ∷ [])
more_names names values k z are has = record {
  long = length-append values (z ∷ []) ∙ ap (λ (n : ℕ). n + 1) are.long ∙ sym (length-append names (k ∷ []));
  has = λ i a b there value. elim (cases_lt i (length names)) [
    | inl lt ↦
        let below : i < length values = omega (arith, lt, are.long) in
        are.has i a b (sym (get_front names k i lt) ∙ there) (sym (get_front values z i below) ∙ value)
    | inr past ↦
        let over : length values ≤ i = omega (arith, past, are.long) in
        subst (λ (y : ℤ). HasBits a y) (sym (last_at values z b i over value)) (subst (λ (x : Known). HasBits x z) (sym (last_at names k a i past there)) has)
  ];
}

-- ---- steps

pub came : {A B : Type 0} (r : Result A Fault) (f : A → Result B Fault) (b : B) → (r >>= f) ≡ Ok b → (a : A) × (r ≡ Ok a) × (f a ≡ Ok b)
came (Ok a) f b e = (a, refl, e)
came (Err x) f b e = absurd (let no : ⊥ = cc in no)

turn_append : {A X : Type 0} (f : A → X → Result X Fault) (xs ys : List A) (x : X) → in_turn f (xs ++ ys) x ≡ (in_turn f xs x >>= in_turn f ys)
turn_append f [] ys x = refl
turn_append f (a ∷ as') ys x = elim (f a x) as (λ r. (r >>= in_turn f (as' ++ ys)) ≡ ((r >>= in_turn f as') >>= in_turn f ys)) [
  | Ok y ↦ turn_append f as' ys y
  | Err e ↦ refl
]

same_ok : {A : Type 0} (x y : A) → ◌≡◌ {A = Result A Fault} (Ok x) (Ok y) → x ≡ y
same_ok x y e = cc

module _ (t : Tables) (s : Site) where
  -- the values that a step leaves begin with those before
  abbrev Grows : Own → Own → Type 0
  Grows before after = (i : ℕ) (z : ℤ) → slice_get (values_of before) i ≡ Some z → slice_get (values_of after) i ≡ Some z

  step_grows : (step : Late) (before after : Own) → late_step t s step before ≡ Ok after → Grows before after
  step_grows (l.Name v) (own notes values commits) after e =
      let one = came (value_in t (at_values values s) v) _ after e in
      λ i z is. subst (λ (o : Own). slice_get (values_of o) i ≡ Some z) (same_ok _ after one.2) (get_more values (one.0 ∷ []) i z is)
  step_grows (l.Commit v) (own [] values commits) after e = λ i z is. subst (λ (o : Own). slice_get (values_of o) i ≡ Some z) (same_ok _ after e) is
  step_grows (l.Commit v) (own (note ∷ notes) values commits) after e =
      let one = came (value_in t (at_values values s) v) _ after e in
      λ i z is. subst (λ (o : Own). slice_get (values_of o) i ≡ Some z) (same_ok _ after one.2) is

  all_grow : (steps : List Late) (before after : Own) → in_turn (late_step t s) steps before ≡ Ok after → Grows before after
  all_grow [] before after e = λ i z is. subst (λ (o : Own). slice_get (values_of o) i ≡ Some z) (same_ok before after e) is
  all_grow (step ∷ steps) before after e =
      let one = came (late_step t s step before) (in_turn (late_step t s) steps) after e in
      λ i z is. all_grow steps one.0 after one.2 i z (step_grows step before one.0 one.1 i z is)

  still_wanted : (wanted : List (Option (Bor (List ℕ)))) (steps : List Late) (before after : Own) → in_turn (late_step t s) steps before ≡ Ok after
      → AreWanted wanted (values_of after) → AreWanted wanted (values_of before)
  still_wanted wanted steps before after e are = λ i k z w is. are i k z w (all_grow steps before after e i z is)

-- ---- a step

module _ (t : Tables) (f : Frame) (wanted : List (Option (Bor (List ℕ)))) where
  site_there : (here : Frame) (region : List Cell) (s : Site) (xs : List ℕ) (values : List ℤ) → IsAt here s xs → IsOf region xs → AreOf here.names.now values
      → IsSiteOf here region (at_values values s)
  site_there here region s xs values is inside names = record {
    bytes = xs;
    of_region = inside;
    reads = is.reads;
    at = is.at;
    lengths = is.lengths;
    context = is.context;
    start = is.start;
    next = is.next;
    names = names;
  }

  is_wanted : (values : List ℤ) (z : ℤ) (o : Option (Option (Bor (List ℕ)))) → o ≡ slice_get wanted (length values) → AreWanted wanted (values ++ z ∷ [])
      → IsWanted (option_and_then (λ n. n) o) z
  is_wanted values z None e are = tt
  is_wanted values z (Some None) e are = tt
  is_wanted values z (Some (Some n)) e are = are (length values) n z (sym e) (get_last values z)

  pub wanted_number : (values : List ℤ) (z : ℤ) (i : ℕ) → length values ≡ i → AreWanted wanted (values ++ z ∷ [])
      → IsWanted (option_and_then (λ n. n) (slice_get wanted i)) z
  wanted_number values z i e are = is_wanted values z (slice_get wanted i) (ap (slice_get wanted) (sym e)) are

  -- what the step of a name does
  record NameStep (v : Value) (s : Site) (before after : Own) : Type 0 where
    number : ℤ
    is : value_in t (at_values (values_of before) s) v ≡ Ok number
    after_is : values_of before ++ number ∷ [] ≡ values_of after

  name_step : (v : Value) (s : Site) (before after : Own) → in_turn (late_step t s) (l.Name v ∷ []) before ≡ Ok after → NameStep v s before after
  name_step v s (own notes values commits) after e =
      let one = came (late_step t s (l.Name v) (own notes values commits)) (in_turn (late_step t s) []) after e in
      let two = came (value_in t (at_values values s) v) (λ n. Ok (own notes (values ++ n ∷ []) commits)) one.0 one.1 in
      record { number = two.0; is = two.1; after_is = ap values_of (same_ok _ one.0 two.2 ∙ same_ok one.0 after one.2) }

  gives_then : (v : Value) (s : Site) (before after : Own) (names : List Known) (n : NameStep v s before after) → AreOf names (values_of before) → AreWanted wanted (values_of after)
      → GivesNumber t v (option_and_then (λ n. n) (slice_get wanted (length names))) (at_values (values_of before) s)
  gives_then v s before after names n known are = record {
    number = n.number;
    is = n.is;
    wanted_is = wanted_number (values_of before) n.number (length names) known.long (subst (AreWanted wanted) (sym n.after_is) are);
  }

  module _ (here : Frame) (r : Reached) (v : Value) (at : (s : Site) (xs : List ℕ) → IsAt f s xs → IsAt here s xs) (names_are : here.names.now ≡ r.names.items) where
    abbrev asked : Option (Bor (List ℕ))
    asked = option_and_then (λ n. n) (slice_get wanted (length r.names.items))

    site_before : (s : Site) (xs : List ℕ) (before : Own) → IsAt f s xs → IsReached r xs before → IsSiteOf here r.region.items (at_values (values_of before) s)
    site_before s xs before is reached =
        site_there here r.region.items s xs (values_of before) (at s xs is) reached.inside (subst (λ (ks : List Known). AreOf ks (values_of before)) (sym names_are) reached.names)

    pub name_leaves : (x : Named) (next : Reached) → IsNamed t here r.region.items v asked x → next.region.items ≡ x.region.items → next.names.items ≡ r.names.items ++ x.known ∷ []
        → Leaves t f wanted r (l.Name v ∷ []) (Some next)
    unfolding name_step gives_then site_before site_there
    name_leaves x next named region_is names_new = λ s xs before after is reached e are.
        let n = name_step v s before after e in
        let site = site_before s xs before is reached in
        let g = gives_then v s before after r.names.items n reached.names are in
        let values = more_names r.names.items (values_of before) x.known n.number reached.names (named.has (at_values (values_of before) s) site g) in
        record {
          inside = subst (λ (cells : List Cell). IsOf cells xs) (sym region_is) (named.stays (at_values (values_of before) s) site g);
          names = subst (λ (ks : List Known). AreOf ks (values_of after)) (sym names_new) (subst (AreOf (r.names.items ++ x.known ∷ [])) n.after_is values);
        }

    pub name_none : GivesNoNumber t here r.region.items v asked → Leaves t f wanted r (l.Name v ∷ []) None
    name_none none = λ s xs before after is reached e are.
        let n = name_step v s before after e in
        none (at_values (values_of before) s) (site_before s xs before is reached) (gives_then v s before after r.names.items n reached.names are)

  -- ---- rows of steps

  -- Whatever the list: the steps that are left lead from what is known now to the end.
  abbrev pub Leads : Reached → Reached → List Late → List Late → Type 0
  Leads first r all left = (s : Site) (xs : List ℕ) (before after : Own) → IsAt f s xs → IsReached first xs before → in_turn (late_step t s) all before ≡ Ok after
      → AreWanted wanted (values_of after) → (mid : Own) × IsReached r xs mid × (in_turn (late_step t s) left mid ≡ Ok after)

  pub leads_none : (first : Reached) (all : List Late) → Leads first first all all
  leads_none first all = λ s xs before after is reached e are. (before, reached, e)

  split : (s : Site) (row left : List Late) (mid after : Own) → in_turn (late_step t s) (row ++ left) mid ≡ Ok after
      → (o : Own) × (in_turn (late_step t s) row mid ≡ Ok o) × (in_turn (late_step t s) left o ≡ Ok after)
  split s row left mid after e =
      came (in_turn (late_step t s) row mid) (in_turn (late_step t s) left) after (sym (turn_append (late_step t s) row left mid) ∙ e)

  pub leads_more : (first r next : Reached) (all row left : List Late) → Leaves t f wanted r row (Some next) → Leads first r all (row ++ left) → Leads first next all left
  leads_more first r next all row left leaves leads = λ s xs before after is reached e are.
      let h = leads s xs before after is reached e are in
      let two = split s row left h.0 after h.2 in
      (two.0, leaves s xs h.0 two.0 is h.1 two.1 (still_wanted t s wanted left two.0 after two.2 are), two.2)

  pub none_more : (first r : Reached) (all row left : List Late) → Leaves t f wanted r row None → Leads first r all (row ++ left) → Leaves t f wanted first all None
  none_more first r all row left leaves leads = λ s xs before after is reached e are.
      let h = leads s xs before after is reached e are in
      let two = split s row left h.0 after h.2 in
      leaves s xs h.0 two.0 is h.1 two.1 (still_wanted t s wanted left two.0 after two.2 are)

  pub leads_all : (first r : Reached) (all : List Late) → Leads first r all [] → Leaves t f wanted first all (Some r)
  leads_all first r all leads = λ s xs before after is reached e are.
      let h = leads s xs before after is reached e are in
      subst (IsReached r xs) (same_ok h.0 after h.2) h.1

  -- ---- all steps

  site_at : (region : List Cell) (s : Site) (is : IsSiteOf f region s) → IsAt f s is.bytes
  site_at region s is = record { reads = is.reads; at = is.at; lengths = is.lengths; context = is.context; start = is.start; next = is.next }

  begun : (first : Reached) (region : List Cell) (s : Site) (is : IsSiteOf f region s) (notes : List Noted) (commits : List Commit) → first.region.items ≡ region
      → first.names.items ≡ [] → IsReached first is.bytes (own notes [] commits)
  begun first region s is notes commits same none = record {
    inside = subst (λ (cells : List Cell). IsOf cells is.bytes) (sym same) is.of_region;
    names = subst (λ (ks : List Known). AreOf ks []) (sym none) (record { long = refl; has = λ i k z there value. absurd (let no : ⊥ = cc in no) });
  }

  pub names_stay : (first r : Reached) (region : List Cell) (steps : List Late) → first.region.items ≡ region → first.names.items ≡ [] → IsPart region r.region.items
      → Leaves t f wanted first steps (Some r) → KeepsNames t f region steps wanted r.region.items
  names_stay first r region steps same none part leaves = record {
    part = part;
    stays = λ s is n. (leaves s is.bytes (own n.notes [] n.commits) (own n.others n.values n.more) (site_at region s is)
        (begun first region s is n.notes n.commits same none) n.are n.wanted_are).inside;
  }

  pub names_none : (first : Reached) (region : List Cell) (steps : List Late) → first.region.items ≡ region → first.names.items ≡ []
      → Leaves t f wanted first steps None → NamesNone t f region steps wanted
  names_none first region steps same none leaves = λ s is n.
      leaves s is.bytes (own n.notes [] n.commits) (own n.others n.values n.more) (site_at region s is)
      (begun first region s is n.notes n.commits same none) n.are n.wanted_are

  -- From all of a region and no names on.
  pub record LeadsAll (region : List Cell) (r : Reached) (all left : List Late) : Type 0 where
    pub first : Reached
    pub region_is : first.region.items ≡ region
    pub no_names : first.names.items ≡ []
    pub part : IsPart region r.region.items
    pub leads : Leads first r all left

  -- ---- the loop over a row

  one_there : (row : List Late) (i : ℕ) (step : Late) → i < length row → step ≡ get_or row i step → drop i row ≡ (step ∷ []) ++ drop (i + 1) row
  one_there row i step below is =
      drop-cons row i step below ∙ ap (λ (e : Late). e ∷ drop (suc i) row) (sym is) ∙ (let e : suc i ≡ i + 1 = omega arith in ap (λ (n : ℕ). step ∷ drop n row) e)

  pub found_none : (first r : Reached) (next : Option Reached) (row : List Late) (i : ℕ) (step : Late) → i < length row → step ≡ get_or row i step → next ≡ None
      → Leaves t f wanted r (step ∷ []) next → Leads first r row (drop i row) → Leaves t f wanted first row None
  found_none first r next row i step below is none leaves leads =
      none_more first r row (step ∷ []) (drop (i + 1) row) (subst (Leaves t f wanted r (step ∷ [])) none leaves)
      (subst (Leads first r row) (one_there row i step below is) leads)

  pub found_more : (first r : Reached) (next : Option Reached) (after : Reached) (row : List Late) (i : ℕ) (step : Late) → i < length row → step ≡ get_or row i step
      → next ≡ Some after → IsPartOf r.region.items next → Leaves t f wanted r (step ∷ []) next → IsPart first.region.items r.region.items × Leads first r row (drop i row)
      → IsPart first.region.items after.region.items × Leads first after row (drop (i + 1) row)
  found_more first r next after row i step below is some part leaves h = (
    part_more first.region.items r.region.items after.region.items h.0 (subst (IsPartOf r.region.items) some part),
    leads_more first r after row (step ∷ []) (drop (i + 1) row) (subst (Leaves t f wanted r (step ∷ [])) some leaves)
        (subst (Leads first r row) (one_there row i step below is) h.1),
  )

  pub ends : (first r : Reached) (row : List Late) (i : ℕ) → length row ≤ i → Leads first r row (drop i row) → Leaves t f wanted first row (Some r)
  ends first r row i past leads = leads_all first r row (subst (Leads first r row) (drop_all i row past) leads)

  -- ---- the loop over rows

  abbrev RowOf : Type 0
  RowOf = Rc (Vec Late Global) Global

  row_there : (rows : List RowOf) (i : ℕ) (row : RowOf) → i < length rows → row ≡ get_or rows i row
      → all_steps (drop i rows) ≡ row.value.items ++ all_steps (drop (i + 1) rows)
  row_there rows i row below is =
      ap all_steps (drop-cons rows i row below ∙ ap (λ (e : RowOf). e ∷ drop (suc i) rows) (sym is) ∙ (let e : suc i ≡ i + 1 = omega arith in ap (λ (n : ℕ). row ∷ drop n rows) e))

  pub names_begin : (region : List Cell) (first : Reached) (all : List Late) → first.region.items ≡ region → first.names.items ≡ [] → LeadsAll region first all all
  names_begin region first all same none = record {
    first = first;
    region_is = same;
    no_names = none;
    part = subst (IsPart region) (sym same) (part_all region);
    leads = leads_none first all;
  }

  pub rows_none : (region : List Cell) (r : Reached) (next : Option Reached) (steps : List Late) (rows : List RowOf) (i : ℕ) (row : RowOf) → i < length rows
      → row ≡ get_or rows i row → all_steps rows ≡ steps → next ≡ None → Leaves t f wanted r row.value.items next
      → LeadsAll region r (all_steps rows) (all_steps (drop i rows)) → NamesNone t f region steps wanted
  rows_none region r next steps rows i row below is are none leaves h =
      names_none h.first region steps h.region_is h.no_names
      (subst (λ (l : List Late). Leaves t f wanted h.first l None) are
      (none_more h.first r (all_steps rows) row.value.items (all_steps (drop (i + 1) rows)) (subst (Leaves t f wanted r row.value.items) none leaves)
      (subst (Leads h.first r (all_steps rows)) (row_there rows i row below is) h.leads)))

  pub rows_more : (region : List Cell) (r : Reached) (next : Option Reached) (after : Reached) (rows : List RowOf) (i : ℕ) (row : RowOf) → i < length rows
      → row ≡ get_or rows i row → next ≡ Some after → IsPartOf r.region.items next → Leaves t f wanted r row.value.items next
      → LeadsAll region r (all_steps rows) (all_steps (drop i rows)) → LeadsAll region after (all_steps rows) (all_steps (drop (i + 1) rows))
  rows_more region r next after rows i row below is some part leaves h = record {
    first = h.first;
    region_is = h.region_is;
    no_names = h.no_names;
    part = part_more region r.region.items after.region.items h.part (subst (IsPartOf r.region.items) some part);
    leads = leads_more h.first r after (all_steps rows) row.value.items (all_steps (drop (i + 1) rows)) (subst (Leaves t f wanted r row.value.items) some leaves)
        (subst (Leads h.first r (all_steps rows)) (row_there rows i row below is) h.leads);
  }

  pub all_done : (region : List Cell) (r : Reached) (steps : List Late) (rows : List RowOf) (i : ℕ) → length rows ≤ i → all_steps rows ≡ steps
      → LeadsAll region r (all_steps rows) (all_steps (drop i rows)) → KeepsNames t f region steps wanted r.region.items
  all_done region r steps rows i past are h =
      names_stay h.first r region steps h.region_is h.no_names h.part
      (subst (λ (l : List Late). Leaves t f wanted h.first l (Some r)) are
      (leads_all h.first r (all_steps rows) (subst (Leads h.first r (all_steps rows)) (ap all_steps (drop_all i rows past)) h.leads)))
