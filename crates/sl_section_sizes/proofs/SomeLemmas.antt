-- It can't be that the sections of a text have neither sizes nor a first fault.
use Rattle.std.proofs.Common.{◌≡◌, ◌≢◌, ℕ, zero, suc, ◌+◌, ◌<◌, ◌≤◌, ◌⊎◌, inl, inr, Bool, true, false, List, [], ◌∷◌, Option, Some, None, Ok, Err, length, get_or, map, take, refl, sym, ap, ◌∙◌, subst, arith, length-append, take_all}
use Rattle.std.specs.Prelude.{nat_lt, option_map, option_to_list, slice_get}
use Rattle.std.specs.List.{All, zip}
use Rattle.std.proofs.lemmas.Bool.{cases_eq, cases_lt, ltb-true}
use Rattle.std.proofs.lemmas.List.Elements.{All-append, All-cons, All-head, All-nil, All-tail}
use Rattle.sl_ast.specs.Trees.{Section, statements, unimplemented}
use Rattle.sl_ast.specs.Trees as ast
use Rattle.sl_ast.specs.Unfolding.{Placed}
use Rattle.sl_section_equations.specs.Equations.{size_at}
use Rattle.sl_section_equations.specs.SizesIn.{size_in}
use Rattle.sl_section_equations.proofs.AboutLemmas.{section_about}
use Rattle.sl_section_exports.specs.Exports.{if_so}
use Rattle.sl_section_all.specs.FlatSections.{Flat, flat_section, flat_sections, row_section}
use Rattle.sl_section_all.specs.Scopes.{Scopes}
use Rattle.sl_base_graphs.specs.Heights.{by_height}
use Rattle.sl_base_graphs.proofs.SomeHeights.{some_heights}
use Rattle.sl_base_graphs.specs.Orders.{NoneReaches}
use Rattle.sl_spec_order.specs.Orders.{IsShapingOrder, appearing, graph}
use Rattle.sl_section_resolve.specs.Macros.{Body}
use Rattle.sl_section_terms.specs.declared.reach.Reach.{Reach}
use Rattle.sl_section_resolve.proofs.BelowSteps.{section_below}
use Rattle.sl_spec_rules.specs.Gathered.{gathered}
use Rattle.sl_section_flat.specs.Numbered.{StepsBelow}
use Rattle.sl_section_sizes.specs.Found.{Is}
use Rattle.sl_section_sizes.specs.Laws.{ComesTo, SizingOutcome}
use Rattle.sl_section_sizes.specs.Ordering.{address_of, below, constructors, in_order, in_text_order, numbers, numbers_of, with_section}
use Rattle.sl_section_sizes.specs.SectionSizes.{numbers_by, shaped, unknown}
use Rattle.sl_section_sizes.specs.declared.faults.SizeFault.{SizeFault}
use Rattle.sl_section_sizes.specs.declared.faults.SizeFault.TheVariants as fault
use Rattle.sl_base_surely.specs.Surely.{Surely}
use Rattle.sl_base_surely.proofs.SurelyLemmas.{IsLeastNumber, surely, surely_then, surely_map, surely_either, surely_least}
use Rattle.sl_sizes.specs.Solutions.{Holds, IsAbout, IsFirstClash, IsFirstUnfixed, IsOnlySolution, Meets, Solves, bytes_at}
use Rattle.sl_sizes.specs.declared.Equation.{Equation}
use Rattle.sl_sizes.specs.declared.Equation.TheVariants as e
use Rattle.sl_sizes.specs.declared.SizeError.TheVariants as error
use Rattle.sl_section_sizes.specs.Constructors.{Constructor}
use Rattle.sl_section_sizes.specs.Sizings as z
use Rattle.sl_section_sizes.specs.declared.stop.Stop.{Stop}
use Rattle.sl_section_sizes.specs.declared.stop.Stop.TheVariants as stop
use Rattle.sl_spec.specs.Tables.{Ctor, Operand}
use Rattle.sl_spec.specs.declared.tables.Tables.{Tables}
use Rattle.sl_spec_tables.specs.Rows.{Row, rows}
use Rattle.sl_word.specs.declared.word.Size.{Size}

-- ---- an assignment as a list of sizes

abbrev listed : (ℕ → ℕ) → ℕ → List Size
listed size zero = []
listed size (suc n) = size_at (size 0) ∷ listed (λ v. size (suc v)) n

length_listed : (size : ℕ → ℕ) (n : ℕ) → length (listed size n) ≡ n
length_listed size zero = refl
length_listed size (suc n) = ap suc (length_listed (λ v. size (suc v)) n)

bytes_are : (m : ℕ) → 1 ≤ m → m ≤ 16 → (size_at m).bytes ≡ m
unfolding size_at
bytes_are m low high = omega (arith, low, high)

listed_at : (size : ℕ → ℕ) (n v : ℕ) → v < n → 1 ≤ size v → size v ≤ 16 → bytes_at (listed size n) v ≡ size v
listed_at size zero v inside low high = absurd (omega (arith, inside))
listed_at size (suc n) zero inside low high = bytes_are (size 0) low high
listed_at size (suc n) (suc v) inside low high = listed_at (λ k. size (suc k)) n v (omega (arith, inside)) low high

-- ---- equations of a section

-- whether equations are met depends only on the variables that they name
holds_same : (n : ℕ) (size other : ℕ → ℕ) (equation : Equation) → ((v : ℕ) → v < n → size v ≡ other v) → IsAbout n equation → Holds size equation → Holds other equation
holds_same n size other (e.Is x m) same about h = sym (same x about) ∙ h
holds_same n size other (e.Equal x y) same about h = sym (same x about.0) ∙ h ∙ same y about.1
holds_same n size other (e.Less x y m) same about h =
    let first : size x ≡ other x = same x about.0 in
    let second : size y ≡ other y = same y about.1 in
    omega (arith, first, second, h)

meets_same : (n : ℕ) (size other : ℕ → ℕ) (es : List Equation) → ((v : ℕ) → v < n → size v ≡ other v) → All (IsAbout n) es → Meets size es → Meets other es
meets_same n size other [] same about h = tt
meets_same n size other (equation ∷ rest) same about h = (
  holds_same n size other equation same (All-head (IsAbout n) equation rest about) h.0,
  meets_same n size other rest same (All-tail (IsAbout n) equation rest about) h.1,
)

ones : (n : ℕ) → Solves n [] (λ v. 1)
ones n = record { at_least_1 = λ v inside. omega arith; at_most_16 = λ v inside. omega arith; meets = tt }

module _ (n : ℕ) (es : List Equation) where
  abbrev NoneUpTo : ℕ → Type 0
  NoneUpTo k = ((size : ℕ → ℕ) × Solves n (take k es) size) → ⊥

  first_clash : (m : ℕ) → IsLeastNumber NoneUpTo m → m ≤ length es → Surely ((i : ℕ) × IsFirstClash n es i)
  first_clash zero least few = absurd (least.here (λ v. 1, ones n))
  first_clash (suc i) least few =
      let more : suc i ≡ i + 1 = omega arith in
      surely_map (λ before. (
        i,
        record {
          in_list = omega (arith, few);
          none = λ size s. least.here (size, subst (λ (k : ℕ). Solves n (take k es) size) (sym more) s);
          before = before;
        },
      )) (least.none_below i (omega arith))

  in_list : (m : ℕ) → IsLeastNumber NoneUpTo m → NoneUpTo (length es) → m ≤ length es
  in_list m least none = elim (cases_lt (length es) m) [
    | inl less ↦ absurd (least.none_below (length es) less none)
    | inr most ↦ most
  ]

  some_or_clash : Surely (((size : ℕ → ℕ) × Solves n es size) ⊎ ((i : ℕ) × IsFirstClash n es i))
  some_or_clash = surely_then (surely_either ((size : ℕ → ℕ) × Solves n es size)) (λ found. elim found [
    | inl some ↦ surely (inl some)
    | inr none ↦
        let whole : take (length es) es ≡ es = take_all (length es) es (omega arith) in
        let all : NoneUpTo (length es) = λ s. none (s.0, subst (λ (l : List Equation). Solves n l s.0) whole s.1) in
        surely_then (surely_least NoneUpTo (length es) all) (λ least.
        surely_map (λ clash. inr clash) (first_clash least.0 least.1 (in_list least.0 least.1 all)))
  ])

  -- Two solutions differ at a variable.
  pub record AreApartAt (v : ℕ) : Type 0 where
    pub inside : v < n
    pub one : (size : ℕ → ℕ) × Solves n es size
    pub other : (size : ℕ → ℕ) × Solves n es size
    pub differ : one.0 v ≢ other.0 v

  agree_at : (v : ℕ) → (AreApartAt v → ⊥) → (a b : ℕ → ℕ) → Solves n es a → Solves n es b → v < n → a v ≡ b v
  agree_at v none a b s u inside = elim (cases_eq (a v) (b v)) [
    | inl same ↦ same
    | inr apart ↦ absurd (none (record { inside = inside; one = (a, s); other = (b, u); differ = apart }))
  ]

  first_unfixed : (x : ℕ) → IsLeastNumber AreApartAt x → IsFirstUnfixed n es x
  first_unfixed x least = record {
    in_range = least.here.inside;
    one = least.here.one;
    other = least.here.other;
    differ = least.here.differ;
    before = λ a b s u v less. agree_at v (least.none_below v less) a b s u (omega (arith, less, least.here.inside));
  }

  only_one : All (IsAbout n) es → (size : ℕ → ℕ) → Solves n es size → ((v : ℕ) → AreApartAt v → ⊥) → IsOnlySolution n es (bytes_at (listed size n))
  only_one about size s none =
      let same : (v : ℕ) → v < n → size v ≡ bytes_at (listed size n) v =
      λ v inside. sym (listed_at size n v inside (s.at_least_1 v inside) (s.at_most_16 v inside)) in
      record {
        solves = record {
          at_least_1 = λ v inside. subst (λ (x : ℕ). 1 ≤ x) (same v inside) (s.at_least_1 v inside);
          at_most_16 = λ v inside. subst (λ (x : ℕ). x ≤ 16) (same v inside) (s.at_most_16 v inside);
          meets = meets_same n size (bytes_at (listed size n)) es same about s.meets;
        };
        only = λ other o v inside. agree_at v (none v) other size o s inside ∙ same v inside;
      }

-- ---- one section

module _ (address : Option ℕ → ℕ) (operand : ℕ → Option ℕ) (earlier : Option ℕ) (c : Constructor) where
  abbrev IsEither : Type 0
  IsEither = ((sizes : List Size) × z.IsSizedBy address operand earlier c sizes)
      ⊎ ((s : Stop) × (f : SizeFault) × z.StopsBy address operand earlier c s × Is s f)

  by_rule : (sizes : List Size) → z.HasSizes address operand c sizes → (keeps : Bool) → z.keeps_rule address operand earlier c sizes ≡ keeps → IsEither
  by_rule sizes has true is = inl (sizes, record { has = has; keeps = is })
  by_rule sizes has false is = inr (stop.Rule, fault.Rule, record { sizes = sizes; has = has; breaks = is }, refl)

  one_section : StepsBelow c.variables c.steps → Surely IsEither
  one_section numbered =
      let n = c.variables in
      let es = z.equations_of address operand c in
      surely_then (some_or_clash n es) (λ found. elim found [
        | inr clash ↦ surely (inr (stop.Sizes (error.Clash clash.0), fault.Clash, clash.1, refl))
        | inl some ↦ surely_then (surely_either ((v : ℕ) × AreApartAt n es v)) (λ apart. elim apart [
          | inl there ↦
              surely_map (λ least. inr (stop.Sizes (error.Unfixed least.0), fault.Unfixed, first_unfixed n es least.0 least.1, refl))
              (surely_least (AreApartAt n es) there.0 there.1)
          | inr none ↦
              let sizes = listed some.0 n in
              surely (by_rule sizes (record {
                count = length_listed some.0 n;
                only = only_one n es (section_about n address operand c.steps numbered) some.0 some.1 (λ v there. none (v, there));
              }) (z.keeps_rule address operand earlier c sizes) refl)
        ])
      ])

-- ---- all sections

abbrev IsNumbered : Constructor → Type 0
IsNumbered c = StepsBelow c.variables c.steps

module _ (address : Option ℕ → ℕ) where
  abbrev AreEither : List (Option ℕ) → List Constructor → Type 0
  AreEither exports cs = ((found : List (List Size)) × (last : List (Option ℕ)) × z.AreSized address exports cs found last)
      ⊎ ((i : ℕ) × (s : Stop) × (f : SizeFault) × z.FirstStop address exports cs i s × Is s f)

  all_sections : (exports : List (Option ℕ)) (cs : List Constructor) → All IsNumbered cs → Surely (AreEither exports cs)
  all_sections exports [] numbered = surely (inl ([], exports, refl))
  all_sections exports (c ∷ cs) numbered =
      surely_then (one_section address (size_in (z.operand_sizes exports c.operands)) (size_in exports c.table) c (All-head IsNumbered c cs numbered)) (λ here. elim here [
        | inr stops ↦ surely (inr (0, stops.0, stops.1, stops.2, stops.3))
        | inl sized ↦
            surely_map (λ rest. elim rest [
              | inl found ↦ inl (sized.0 ∷ found.0, found.1, (sized.1, found.2))
              | inr stops ↦ inr (suc stops.0, stops.1, stops.2, (sized.0, sized.1, stops.3), stops.4)
            ]) (all_sections (z.after address exports c sized.0) cs (All-tail IsNumbered c cs numbered))
      ])

-- ---- numbers of constructors

if_inside : (count i : ℕ) (b : Bool) → nat_lt i count ≡ b → All (λ k. k < count) (if_so b i)
if_inside count i true is = All-cons (λ (k : ℕ). k < count) i [] (ltb-true i count is) (All-nil (λ (k : ℕ). k < count))
if_inside count i false is = All-nil (λ (k : ℕ). k < count)

all_inside : (count : ℕ) (is : List ℕ) → All (λ k. k < count) (below count is)
unfolding gathered
all_inside count [] = All-nil (λ (k : ℕ). k < count)
all_inside count (i ∷ is) =
    All-append (λ (k : ℕ). k < count) (if_so (nat_lt i count) i) (below count is) (if_inside count i (nat_lt i count) refl) (all_inside count is)

numbers_inside : (t : Tables) (count : ℕ) (tables : List ℕ) → All (λ k. k < count) (numbers t count tables)
unfolding gathered
numbers_inside t count [] = All-nil (λ (k : ℕ). k < count)
numbers_inside t count (v ∷ vs) =
    All-append (λ (k : ℕ). k < count) (below count (numbers_of (slice_get t.tables v))) (numbers t count vs)
    (all_inside count (numbers_of (slice_get t.tables v))) (numbers_inside t count vs)

at_most_one : {A : Type 0} (o : Option A) → length (option_to_list o) ≤ 1
at_most_one None = omega arith
at_most_one (Some x) = omega arith

-- an index within the constructors in order is that of a number
number_at : (cs : List Constructor) (count : ℕ) (is : List ℕ) (i : ℕ) → All (λ k. k < count) is → i < length (in_order cs is)
    → (number : ℕ) × (slice_get is i ≡ Some number) × (number < count)
unfolding gathered
number_at cs count [] i inside less = absurd (omega (arith, less))
number_at cs count (j ∷ is) zero inside less = (j, refl, All-head (λ (k : ℕ). k < count) j is inside)
number_at cs count (j ∷ is) (suc i) inside less =
    let one = at_most_one (slice_get cs j) in
    let long = length-append (option_to_list (slice_get cs j)) (in_order cs is) in
    number_at cs count is i (All-tail (λ (k : ℕ). k < count) j is inside) (omega (arith, less, one, long))

stop_inside : (address : Option ℕ → ℕ) (exports : List (Option ℕ)) (cs : List Constructor) (i : ℕ) (s : Stop) → z.FirstStop address exports cs i s → i < length cs
stop_inside address exports [] i s h = absurd h
stop_inside address exports (c ∷ cs) zero s h = omega arith
stop_inside address exports (c ∷ cs) (suc i) s h =
    let rest = stop_inside address (z.after address exports c h.0) cs i s h.2 in omega (arith, rest)

there_is : {A : Type 0} (xs : List A) (i : ℕ) → i < length xs → (x : A) × (slice_get xs i ≡ Some x)
there_is [] i less = absurd (omega (arith, less))
there_is (x ∷ xs) zero less = (x, refl)
there_is (x ∷ xs) (suc i) less = there_is xs i (omega (arith, less))

few_constructors : (cs : List Ctor) (sections : List Flat) → length (map (λ (r : Ctor × Flat). with_section r.0 r.1) (zip cs sections)) ≤ length cs
few_constructors [] sections = omega arith
few_constructors (c ∷ cs) [] = omega arith
few_constructors (c ∷ cs) (f ∷ sections) = let rest = few_constructors cs sections in omega (arith, rest)

-- ---- sections with numbered variables

abbrev pub IsNumberedFlat : Flat → Type 0
IsNumberedFlat f = StepsBelow f.variables f.steps

with_numbered : (cs : List Ctor) (sections : List Flat) → All IsNumberedFlat sections → All IsNumbered (map (λ (r : Ctor × Flat). with_section r.0 r.1) (zip cs sections))
with_numbered [] sections numbered = All-nil IsNumbered
with_numbered (c ∷ cs) [] numbered = All-nil IsNumbered
with_numbered (c ∷ cs) (f ∷ sections) numbered =
    All-cons IsNumbered (with_section c f) (map (λ (r : Ctor × Flat). with_section r.0 r.1) (zip cs sections))
    (All-head IsNumberedFlat f sections numbered) (with_numbered cs sections (All-tail IsNumberedFlat f sections numbered))

numbered_at : (cs : List Constructor) (i : ℕ) → All IsNumbered cs → All IsNumbered (option_to_list (slice_get cs i))
numbered_at [] i numbered = All-nil IsNumbered
numbered_at (c ∷ cs) zero numbered = All-cons IsNumbered c [] (All-head IsNumbered c cs numbered) (All-nil IsNumbered)
numbered_at (c ∷ cs) (suc i) numbered = numbered_at cs i (All-tail IsNumbered c cs numbered)

in_order_numbered : (cs : List Constructor) (is : List ℕ) → All IsNumbered cs → All IsNumbered (in_order cs is)
unfolding gathered
in_order_numbered cs [] numbered = All-nil IsNumbered
in_order_numbered cs (i ∷ is) numbered =
    All-append IsNumbered (option_to_list (slice_get cs i)) (in_order cs is) (numbered_at cs i numbered) (in_order_numbered cs is numbered)

-- ---- the outcome

some_order : (count : ℕ) (ctors : List Ctor) → NoneReaches (graph count ctors) → (order : List ℕ) × IsShapingOrder count ctors order
some_order count ctors none =
    let h = some_heights (graph count ctors) none in
    (by_height (λ v. get_or h.0 v 0) (appearing count ctors), record { heights = h.0; are = h.1; order_is = refl })

module _ (t : Tables) (sections : List Flat) (tables : List ℕ) (is_order : IsShapingOrder (length t.tables) t.constructors tables) where
  abbrev cs : List Constructor
  cs = constructors t sections

  outcome_of : AreEither (address_of t) (unknown t) (shaped t cs tables) → (o : SizingOutcome) × ComesTo t sections o
  outcome_of (inl found) = (
    Ok (in_text_order (length cs) found.0 (numbers_by t cs tables)),
    record { tables = tables; is_order = is_order; found = found.0; exports = found.1; are_sized = found.2; in_text = refl },
  )
  outcome_of (inr stops) =
      let number = number_at cs (length cs) (numbers_by t cs tables) stops.0 (numbers_inside t (length cs) tables)
      (stop_inside (address_of t) (unknown t) (shaped t cs tables) stops.0 stops.1 stops.3) in
      let few = few_constructors t.constructors sections in
      let there = there_is t.constructors number.0 (omega (arith, number.2, few)) in (
        Err (there.0.item, stops.2),
        record {
          tables = tables;
          is_order = is_order;
          index = stops.0;
          stop = stops.1;
          stops = stops.3;
          is_fault = stops.4;
          number = number.0;
          is_number = number.1;
          is_item = ap (option_map (λ (c : Ctor). c.item)) there.1;
        },
      )

-- Where no table reaches itself, and the variables of each section are below their number, the
-- sections have sizes or a first fault.
pub some_outcome : (t : Tables) (sections : List Flat) → All IsNumberedFlat sections → NoneReaches (graph (length t.tables) t.constructors)
    → Surely ((o : SizingOutcome) × ComesTo t sections o)
some_outcome t sections numbered none =
    let order = some_order (length t.tables) t.constructors none in
    let cs = constructors t sections in
    surely_map (outcome_of t sections order.0 order.1)
    (all_sections (address_of t) (unknown t) (shaped t cs order.0)
    (in_order_numbered cs (numbers_by t cs order.0) (with_numbered t.constructors sections numbered)))

-- ---- the flat sections of a text

flat_numbered : (t : Tables) (macros : List Body) (reach : Reach) (os : List Operand) (section : Section) → IsNumberedFlat (flat_section t macros reach os section)
flat_numbered t macros reach os (statements body) = section_below t macros reach os body
flat_numbered t macros reach os unimplemented = tt

rows_numbered : (t : Tables) (macros : List Body) (rs : List (Row × Reach)) → All IsNumberedFlat (map (row_section t macros) rs)
rows_numbered t macros [] = All-nil IsNumberedFlat
rows_numbered t macros (r ∷ rs) =
    All-cons IsNumberedFlat (row_section t macros r) (map (row_section t macros) rs)
    (flat_numbered t macros r.1 r.0.0.operands r.0.1.1.section) (rows_numbered t macros rs)

pub flats_numbered : (t : Tables) (s : Scopes) (cs : List (Placed ast.Constructor)) → All IsNumberedFlat (flat_sections t s cs)
unfolding flat_sections
flats_numbered t s cs = rows_numbered t s.macros (zip (rows t cs) s.reaches)

-- The flat sections of a text have sizes or a first fault.
pub some_outcome_of_text : (t : Tables) (s : Scopes) (cs : List (Placed ast.Constructor)) → NoneReaches (graph (length t.tables) t.constructors)
    → Surely ((o : SizingOutcome) × ComesTo t (flat_sections t s cs) o)
some_outcome_of_text t s cs none = some_outcome t (flat_sections t s cs) (flats_numbered t s cs) none
