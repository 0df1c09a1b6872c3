-- What becomes of the sections of a text is one.
use Rattle.std.proofs.Common.{◌≡◌, ℕ, zero, suc, ◌+◌, ◌<◌, ◌≤◌, inl, inr, true, false, List, [], ◌∷◌, Option, Some, None, Ok, Err, length, get_or, take, refl, sym, ap, ◌∙◌, subst, arith}
use Rattle.std.specs.Prelude.{option_map, slice_get}
use Rattle.std.proofs.lemmas.Bool.{cases_lt}
use Rattle.std.proofs.lemmas.List.{get_or_past}
use Rattle.sl_section_equations.specs.Equations.{size_at}
use Rattle.sl_section_equations.proofs.EquationLemmas.{size_is}
use Rattle.sl_section_all.specs.FlatSections.{Flat}
use Rattle.sl_base_graphs.specs.Heights.{AreHeights, above, by_height}
use Rattle.sl_base_graphs.specs.Reaching.{Graph, successors}
use Rattle.sl_spec_order.specs.Orders.{IsShapingOrder, appearing}
use Rattle.sl_section_sizes.specs.Found.{Is}
use Rattle.sl_section_sizes.specs.Laws.{ComesTo, SizingOutcome}
use Rattle.sl_section_sizes.specs.Ordering.{address_of, constructors, in_text_order}
use Rattle.sl_section_sizes.specs.SectionSizes.{AreSizesOf, IsFirstFaultOf, numbers_by, shaped, unknown}
use Rattle.sl_section_sizes.specs.declared.faults.SizeFault.{SizeFault}
use Rattle.sl_sizes.specs.Solutions.{IsFirstClash, IsFirstUnfixed, IsOnlySolution, Meets, Solves, bytes_at}
use Rattle.sl_sizes.specs.declared.Equation.{Equation}
use Rattle.sl_sizes.specs.declared.SizeError.TheVariants as error
use Rattle.sl_section_sizes.specs.Constructors.{Constructor}
use Rattle.sl_section_sizes.specs.Sizings as z
use Rattle.sl_section_sizes.specs.declared.stop.Stop.{Stop}
use Rattle.sl_section_sizes.specs.declared.stop.Stop.TheVariants as stop
use Rattle.sl_spec.specs.Tables.{Ctor}
use Rattle.sl_spec.specs.declared.tables.Tables.{Tables}
use Rattle.sl_word.specs.declared.word.Size.{Size}

-- ---- the order in which constructors are shaped

module _ (g : Graph) (h k : List ℕ) (are : AreHeights g h) (also : AreHeights g k) where
  same_above : (n : ℕ) (ws : List ℕ) → ((w : ℕ) → get_or h w 0 < n → get_or h w 0 ≡ get_or k w 0) → above (λ w. get_or h w 0) ws ≤ n
      → above (λ w. get_or h w 0) ws ≡ above (λ w. get_or k w 0) ws
  same_above n [] ih low = refl
  same_above n (w ∷ ws) ih low =
      let here = ih w (omega arith) in
      let rest = same_above n ws ih (omega arith) in
      omega arith

  -- heights below a number
  alike : (n v : ℕ) → get_or h v 0 < n → get_or h v 0 ≡ get_or k v 0
  alike zero v low = absurd (omega arith)
  alike (suc n) v low = elim (cases_lt v (length g)) [
    | inl below ↦
        let e = are.each v below in
        e ∙ same_above n (successors g v) (alike n) (omega arith) ∙ sym (also.each v below)
    | inr past ↦ get_or_past h v 0 (omega (arith, are.counted)) ∙ sym (get_or_past k v 0 (omega (arith, also.counted)))
  ]

one_order : (count : ℕ) (ctors : List Ctor) (a b : List ℕ) → IsShapingOrder count ctors a → IsShapingOrder count ctors b → a ≡ b
one_order count ctors a b p q =
    p.order_is ∙ (λ i. by_height (λ v. alike _ p.heights q.heights p.are q.are (suc (get_or p.heights v 0)) v (omega arith) i) (appearing count ctors)) ∙ sym q.order_is

-- ---- the sizes of a section

lists_same : (n : ℕ) (a b : List Size) → length a ≡ n → length b ≡ n → ((v : ℕ) → v < n → bytes_at a v ≡ bytes_at b v) → a ≡ b
lists_same n [] [] p q same = refl
lists_same n [] (y ∷ b) p q same = absurd (omega arith)
lists_same n (x ∷ a) [] p q same = absurd (omega arith)
lists_same n (x ∷ a) (y ∷ b) p q same =
    let first : x ≡ y = size_is x ∙ ap size_at (same 0 (omega arith)) ∙ sym (size_is y) in
    let rest : a ≡ b = lists_same (length a) a b refl (omega arith) (λ v below. same (suc v) (omega arith)) in
    λ i. first i ∷ rest i

meets_take : (size : ℕ → ℕ) (k : ℕ) (es : List Equation) → Meets size es → Meets size (take k es)
meets_take size zero es h = tt
meets_take size (suc k) [] h = tt
meets_take size (suc k) (e ∷ es) h = (h.0, meets_take size k es h.1)

clash_unsolved : (n i : ℕ) (es : List Equation) (size : ℕ → ℕ) → IsFirstClash n es i → Solves n es size → ⊥
clash_unsolved n i es size clash s =
    clash.none size (record { at_least_1 = s.at_least_1; at_most_16 = s.at_most_16; meets = meets_take size (i + 1) es s.meets })

unfixed_not_only : (n x : ℕ) (es : List Equation) (size : ℕ → ℕ) → IsFirstUnfixed n es x → IsOnlySolution n es size → ⊥
unfixed_not_only n x es size free only =
    free.differ (only.only free.one.0 free.one.1 x free.in_range ∙ sym (only.only free.other.0 free.other.1 x free.in_range))

module _ (address : Option ℕ → ℕ) (operand : ℕ → Option ℕ) (earlier : Option ℕ) (c : Constructor) where
  has_one : (a b : List Size) → z.HasSizes address operand c a → z.HasSizes address operand c b → a ≡ b
  has_one a b p q = lists_same c.variables a b p.count q.count (λ v below. sym (p.only.only (bytes_at b) q.only.solves v below))

  not_both_rules : (a b : List Size) → z.HasSizes address operand c a → z.HasSizes address operand c b
      → z.keeps_rule address operand earlier c a ≡ true → z.keeps_rule address operand earlier c b ≡ false → ⊥
  not_both_rules a b p q keeps breaks =
      let e : true ≡ false = sym keeps ∙ ap (z.keeps_rule address operand earlier c) (has_one a b p q) ∙ breaks in cc

  -- no section is sized and refused
  sized_or_stops : (sizes : List Size) (s : Stop) (f : SizeFault) → z.IsSizedBy address operand earlier c sizes → z.StopsBy address operand earlier c s → Is s f → ⊥
  sized_or_stops sizes (stop.Sizes (error.Clash i)) f sized stops is = clash_unsolved c.variables i _ (bytes_at sizes) stops sized.has.only.solves
  sized_or_stops sizes (stop.Sizes (error.Unfixed x)) f sized stops is = unfixed_not_only c.variables x _ (bytes_at sizes) stops sized.has.only
  sized_or_stops sizes (stop.Sizes error.NoMemory) f sized stops is = is
  sized_or_stops sizes stop.Rule f sized stops is = not_both_rules sizes stops.sizes sized.has stops.has sized.keeps stops.breaks
  sized_or_stops sizes stop.NoMemory f sized stops is = is

  one_fault : (p q : Stop) (f g : SizeFault) → z.StopsBy address operand earlier c p → z.StopsBy address operand earlier c q → Is p f → Is q g → f ≡ g
  one_fault (stop.Sizes (error.Clash i)) (stop.Sizes (error.Clash j)) f g h k is js = is ∙ sym js
  one_fault (stop.Sizes (error.Clash i)) (stop.Sizes (error.Unfixed x)) f g h k is js = absurd (clash_unsolved c.variables i _ k.one.0 h k.one.1)
  one_fault (stop.Sizes (error.Clash i)) stop.Rule f g h k is js = absurd (clash_unsolved c.variables i _ (bytes_at k.sizes) h k.has.only.solves)
  one_fault (stop.Sizes (error.Unfixed x)) (stop.Sizes (error.Clash i)) f g h k is js = absurd (clash_unsolved c.variables i _ h.one.0 k h.one.1)
  one_fault (stop.Sizes (error.Unfixed x)) (stop.Sizes (error.Unfixed y)) f g h k is js = is ∙ sym js
  one_fault (stop.Sizes (error.Unfixed x)) stop.Rule f g h k is js = absurd (unfixed_not_only c.variables x _ (bytes_at k.sizes) h k.has.only)
  one_fault stop.Rule (stop.Sizes (error.Clash i)) f g h k is js = absurd (clash_unsolved c.variables i _ (bytes_at h.sizes) k h.has.only.solves)
  one_fault stop.Rule (stop.Sizes (error.Unfixed x)) f g h k is js = absurd (unfixed_not_only c.variables x _ (bytes_at h.sizes) k h.has.only)
  one_fault stop.Rule stop.Rule f g h k is js = is ∙ sym js
  one_fault (stop.Sizes error.NoMemory) q f g h k is js = absurd is
  one_fault stop.NoMemory q f g h k is js = absurd is
  one_fault (stop.Sizes (error.Clash i)) (stop.Sizes error.NoMemory) f g h k is js = absurd js
  one_fault (stop.Sizes (error.Clash i)) stop.NoMemory f g h k is js = absurd js
  one_fault (stop.Sizes (error.Unfixed x)) (stop.Sizes error.NoMemory) f g h k is js = absurd js
  one_fault (stop.Sizes (error.Unfixed x)) stop.NoMemory f g h k is js = absurd js
  one_fault stop.Rule (stop.Sizes error.NoMemory) f g h k is js = absurd js
  one_fault stop.Rule stop.NoMemory f g h k is js = absurd js

-- ---- all sections

module _ (address : Option ℕ → ℕ) where
  sized_one : (exports : List (Option ℕ)) (c : Constructor) (a b : List Size) → z.IsSized address exports c a → z.IsSized address exports c b → a ≡ b
  sized_one exports c a b p q = has_one address _ (None) c a b p.has q.has

  all_one : (exports : List (Option ℕ)) (cs : List Constructor) (a b : List (List Size)) (last also : List (Option ℕ))
      → z.AreSized address exports cs a last → z.AreSized address exports cs b also → a ≡ b
  all_one exports [] [] [] last also p q = refl
  all_one exports [] (s ∷ a) b last also p q = absurd p
  all_one exports [] [] (u ∷ b) last also p q = absurd q
  all_one exports (c ∷ cs) [] b last also p q = absurd p
  all_one exports (c ∷ cs) (s ∷ a) [] last also p q = absurd q
  all_one exports (c ∷ cs) (s ∷ a) (u ∷ b) last also p q =
      let first : s ≡ u = sized_one exports c s u p.0 q.0 in
      let rest : a ≡ b = all_one (z.after address exports c s) cs a b last also p.1 (subst (λ (x : List Size). z.AreSized address (z.after address exports c x) cs b also) (sym first) q.1) in
      λ i. first i ∷ rest i

  never_both : (exports : List (Option ℕ)) (cs : List Constructor) (a : List (List Size)) (last : List (Option ℕ)) (i : ℕ) (s : Stop) (f : SizeFault)
      → z.AreSized address exports cs a last → z.FirstStop address exports cs i s → Is s f → ⊥
  never_both exports [] a last i s f p h is = h
  never_both exports (c ∷ cs) [] last i s f p h is = p
  never_both exports (c ∷ cs) (x ∷ a) last zero s f p h is = sized_or_stops address _ _ c x s f p.0 h is
  never_both exports (c ∷ cs) (x ∷ a) last (suc i) s f p h is =
      let first : h.0 ≡ x = sized_one exports c h.0 x h.1 p.0 in
      never_both (z.after address exports c x) cs a last i s f p.1 (subst (λ (y : List Size). z.FirstStop address (z.after address exports c y) cs i s) first h.2) is

  one_stop : (exports : List (Option ℕ)) (cs : List Constructor) (i j : ℕ) (p q : Stop) (f g : SizeFault)
      → z.FirstStop address exports cs i p → z.FirstStop address exports cs j q → Is p f → Is q g → (i ≡ j) × (f ≡ g)
  one_stop exports [] i j p q f g h k is js = absurd h
  one_stop exports (c ∷ cs) zero zero p q f g h k is js = (refl, one_fault address _ _ c p q f g h k is js)
  one_stop exports (c ∷ cs) zero (suc j) p q f g h k is js = absurd (sized_or_stops address _ _ c k.0 p f k.1 h is)
  one_stop exports (c ∷ cs) (suc i) zero p q f g h k is js = absurd (sized_or_stops address _ _ c h.0 q g h.1 k js)
  one_stop exports (c ∷ cs) (suc i) (suc j) p q f g h k is js =
      let first : k.0 ≡ h.0 = sized_one exports c k.0 h.0 k.1 h.1 in
      let rest = one_stop (z.after address exports c h.0) cs i j p q f g h.2 (subst (λ (y : List Size). z.FirstStop address (z.after address exports c y) cs j q) first k.2) is js in
      (ap suc rest.0, rest.1)

-- ---- the outcome

module _ (t : Tables) (cs : List Constructor) where
  one_sizes : (a b : List (List Size)) → AreSizesOf t cs a → AreSizesOf t cs b → a ≡ b
  one_sizes a b p q =
      let order : q.tables ≡ p.tables = one_order (length t.tables) t.constructors q.tables p.tables q.is_order p.is_order in
      let found : p.found ≡ q.found = all_one (address_of t) (unknown t) (shaped t cs p.tables) p.found q.found p.exports q.exports p.are_sized
      (subst (λ (o : List ℕ). z.AreSized (address_of t) (unknown t) (shaped t cs o) q.found q.exports) order q.are_sized) in
      p.in_text ∙ (λ i. in_text_order (length cs) (found i) (numbers_by t cs (sym order i))) ∙ sym q.in_text

  not_both : (a : List (List Size)) (item : ℕ) (f : SizeFault) → AreSizesOf t cs a → IsFirstFaultOf t cs item f → ⊥
  not_both a item f p q =
      let order : q.tables ≡ p.tables = one_order (length t.tables) t.constructors q.tables p.tables q.is_order p.is_order in
      never_both (address_of t) (unknown t) (shaped t cs p.tables) p.found p.exports q.index q.stop f p.are_sized
      (subst (λ (o : List ℕ). z.FirstStop (address_of t) (unknown t) (shaped t cs o) q.index q.stop) order q.stops) q.is_fault

  same_Some : {A : Type 0} (x y : A) → Some x ≡ Some y → x ≡ y
  same_Some x y e = cc

  one_first : (item other : ℕ) (f g : SizeFault) → IsFirstFaultOf t cs item f → IsFirstFaultOf t cs other g → (item ≡ other) × (f ≡ g)
  one_first item other f g p q =
      let order : q.tables ≡ p.tables = one_order (length t.tables) t.constructors q.tables p.tables q.is_order p.is_order in
      let stops = one_stop (address_of t) (unknown t) (shaped t cs p.tables) p.index q.index p.stop q.stop f g p.stops
      (subst (λ (o : List ℕ). z.FirstStop (address_of t) (unknown t) (shaped t cs o) q.index q.stop) order q.stops) p.is_fault q.is_fault in
      let number : p.number ≡ q.number =
      same_Some p.number q.number (sym p.is_number ∙ ap (slice_get (numbers_by t cs p.tables)) stops.0 ∙ ap (λ (o : List ℕ). slice_get (numbers_by t cs o) q.index) (sym order) ∙ q.is_number) in
      let item_is : item ≡ other =
      same_Some item other (sym p.is_item ∙ ap (λ (n : ℕ). option_map (λ (c : Ctor). c.item) (slice_get t.constructors n)) number ∙ q.is_item) in
      (item_is, stops.1)

pub one_outcome : (t : Tables) (sections : List Flat) (r q : SizingOutcome) → ComesTo t sections r → ComesTo t sections q → r ≡ q
one_outcome t sections (Ok a) (Ok b) p q = ap Ok (one_sizes t (constructors t sections) a b p q)
one_outcome t sections (Ok a) (Err e) p q = absurd (not_both t (constructors t sections) a e.0 e.1 p q)
one_outcome t sections (Err e) (Ok b) p q = absurd (not_both t (constructors t sections) b e.0 e.1 q p)
one_outcome t sections (Err e) (Err d) p q =
    let same = one_first t (constructors t sections) e.0 d.0 e.1 d.1 p q in
    λ i. Err (same.0 i, same.1 i)
