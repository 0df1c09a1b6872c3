-- The first fault is one, and where there is one no reading has all tables.
use Rattle.std.proofs.Common.{◌≡◌, ℕ, ◌<◌, ◌≤◌, inl, inr, length, List, [], ◌∷◌, ◌++◌, get_or, Option, Some, None, sym, ap, ◌∙◌, subst, arith}
use Rattle.std.specs.List.{AllByRecursion}
use Rattle.sl_ast.specs.Trees.{Constructor}
use Rattle.sl_ast.specs.Unfolding.{Placed}
use Rattle.sl_spec_constructors.specs.Listed.{AreListed}
use Rattle.sl_cube.specs.declared.Cube.{Cube}
use Rattle.sl_base_graphs.specs.Heights.{AreHeights, by_height}
use Rattle.sl_base_graphs.proofs.OneHeight.{heights_one}
use Rattle.sl_shape.specs.PatternShapes.{Shapes}
use Rattle.sl_shape.specs.Readings.{HasFirstFault, IsShaped}
use Rattle.sl_shape.specs.Tables.{CtorTells, IsFirstAmong, IsFirstFault, IsTable, appearing, constructors_of, order_by, table_graph}
use Rattle.sl_shape.specs.declared.faults.Fault.{Fault}
use Rattle.sl_shape.proofs.AmongLemmas.{AreCutAlike, AreCuts, IsAmong, IsBehind, among_all, cuts}
use Rattle.sl_shape.proofs.CarryLemmas.{AgreeAt, all_left, all_right}
use Rattle.sl_shape.proofs.OneFault.{ctor_tells_one, some_none}
use Rattle.sl_shape.proofs.OneReading.{AreBoth, ctors_agree}
use Rattle.sl_shape.proofs.StandLemmas.{before_low, lower_before, order_below}
use Rattle.sl_spec.specs.declared.tables.Tables.{Tables}

-- what is told of the first of these constructors, and of the others before it
pub record IsFirstTold (Tells : ℕ → Option Fault → Type 0) (is : List ℕ) (i : ℕ) (f : Fault) : Type 0 where
  pub earlier : List ℕ
  pub later : List ℕ
  pub are : is ≡ earlier ++ i ∷ later
  pub sound : AllByRecursion (λ j. Tells j None) earlier
  pub tells : Tells i (Some f)

-- The constructor and its fault are the same.
abbrev pub IsSameFault : ℕ → Fault → ℕ → Fault → Type 0
IsSameFault i f j g = (i ≡ j) × (f ≡ g)

fault_of : (f g : Fault) → Some f ≡ Some g → f ≡ g
fault_of f g e = ap (λ (o : Option Fault). elim o [ Some x ↦ x | None ↦ f ]) e

module _ (Tells Others : ℕ → Option Fault → Type 0) (is : List ℕ)
    (one : AllByRecursion (λ i. (a b : Option Fault) → Tells i a → Others i b → a ≡ b) is) where
  at_cut : (earlier later : List ℕ) (i : ℕ) → is ≡ earlier ++ i ∷ later → (a b : Option Fault) → Tells i a → Others i b → a ≡ b
  at_cut earlier later i are = (all_right (λ i. (a b : Option Fault) → Tells i a → Others i b → a ≡ b) earlier (i ∷ later)
      (subst (λ (l : List ℕ). AllByRecursion (λ i. (a b : Option Fault) → Tells i a → Others i b → a ≡ b) l) are one)).0

  -- none of the constructors has a fault by the others
  pub first_excluded : (i : ℕ) (f : Fault) → IsFirstTold Tells is i f → AllByRecursion (λ j. Others j None) is → ⊥
  first_excluded i f first sound =
      let here = (all_right (λ j. Others j None) first.earlier (i ∷ first.later)
      (subst (λ (l : List ℕ). AllByRecursion (λ j. Others j None) l) first.are sound)).0 in
      some_none f (at_cut first.earlier first.later i first.are (Some f) None first.tells here)

  cut_by : (i j : ℕ) (f g : Fault) (a : IsFirstTold Tells is i f) (b : IsFirstTold Others is j g) → AreCuts a.earlier b.earlier i j → IsSameFault i f j g
  cut_by i j f g a b (inl same) = (
    same.here,
    fault_of f g (at_cut a.earlier a.later i a.are (Some f) (Some g) a.tells (subst (λ (n : ℕ). Others n (Some g)) (sym same.here) b.tells)),
  )
  cut_by i j f g a b (inr (inl behind)) =
      let here = (all_right (λ n. Others n None) a.earlier (i ∷ behind.0)
      (subst (λ (l : List ℕ). AllByRecursion (λ n. Others n None) l) behind.1 b.sound)).0 in
      absurd (some_none f (at_cut a.earlier a.later i a.are (Some f) None a.tells here))
  cut_by i j f g a b (inr (inr behind)) =
      let here = (all_right (λ n. Tells n None) b.earlier (j ∷ behind.0)
      (subst (λ (l : List ℕ). AllByRecursion (λ n. Tells n None) l) behind.1 a.sound)).0 in
      absurd (some_none g (sym (at_cut b.earlier b.later j b.are None (Some g) here b.tells)))

  pub first_one : (i j : ℕ) (f g : Fault) → IsFirstTold Tells is i f → IsFirstTold Others is j g → IsSameFault i f j g
  first_one i j f g a b = cut_by i j f g a b (cuts a.earlier b.earlier i j a.later b.later (sym a.are ∙ b.are))

-- ---- at one table

module _ (t : Tables) (cs : List (Placed Constructor)) (listed : AreListed t cs) (heights : List ℕ) (are : AreHeights (table_graph t cs) heights)
    (before : List ℕ) (table : ℕ) (after : List ℕ) (order_is : order_by t heights ≡ before ++ table ∷ after)
    (s r : Shapes) (h k : List (Option Cube))
    (first : AllByRecursion (IsTable t cs s h) before) (second : AllByRecursion (IsTable t cs r k) before) where
  abbrev level : ℕ → ℕ
  level v = get_or heights v 0

  below : AllByRecursion (λ u. u < length t.tables) (before ++ table ∷ after)
  below = subst (λ (l : List ℕ). AllByRecursion (λ u. u < length t.tables) l) order_is (order_below t cs listed heights)

  both : AreBoth t cs listed heights are s r h k (λ u. IsAmong u before)
  both = record {
    inside = λ u a. among_all (λ u. u < length t.tables) before u (all_left (λ u. u < length t.tables) before (table ∷ after) below) a;
    first = λ u a. among_all (IsTable t cs s h) before u first a;
    second = λ u a. among_all (IsTable t cs r k) before u second a;
    down = λ u w a inside less.
        let low = among_all (λ u. level u ≤ level table) before u (before_low t cs listed heights before table after order_is) a in
        lower_before t cs listed heights before table after order_is u w low inside less;
  }

  agreed : AllByRecursion (AgreeAt t s r h k cs) (constructors_of t table)
  agreed = ctors_agree t cs listed heights are s r h k (λ u. IsAmong u before) both table
      (λ w inside less. lower_before t cs listed heights before table after order_is table w (omega arith) inside less)

  all_one : (is : List ℕ) → AllByRecursion (AgreeAt t s r h k cs) is
      → AllByRecursion (λ i. (a b : Option Fault) → CtorTells t cs s h i a → CtorTells t cs r k i b → a ≡ b) is
  all_one [] all = tt
  all_one (i ∷ is) all = (ctor_tells_one t s r h k cs i all.0, all_one is all.1)

  pub tells_one_here : AllByRecursion (λ i. (a b : Option Fault) → CtorTells t cs s h i a → CtorTells t cs r k i b → a ≡ b) (constructors_of t table)
  tells_one_here = all_one (constructors_of t table) agreed

-- ---- in one order

first_of : (t : Tables) (cs : List (Placed Constructor)) (order : List ℕ) (i : ℕ) (f : Fault) (a : IsFirstAmong t cs order i f)
    → IsFirstTold (CtorTells t cs a.shapes a.hulls) (constructors_of t a.table) i f
first_of t cs order i f a = record { earlier = a.earlier; later = a.later; are = a.numbers_are; sound = a.sound; tells = a.tells }

module _ (t : Tables) (cs : List (Placed Constructor)) (listed : AreListed t cs) (heights : List ℕ) (are : AreHeights (table_graph t cs) heights) where
  abbrev order : List ℕ
  order = order_by t heights

  -- a reading by which the table and those before it are tables
  clash : (i : ℕ) (f : Fault) (a : IsFirstAmong t cs order i f) (r : Shapes) (k : List (Option Cube))
      → AllByRecursion (IsTable t cs r k) a.before → IsTable t cs r k a.table → ⊥
  clash i f a r k tables here = first_excluded (CtorTells t cs a.shapes a.hulls) (CtorTells t cs r k) (constructors_of t a.table)
      (tells_one_here t cs listed heights are a.before a.table a.after a.order_is a.shapes r a.hulls k a.tables tables)
      i f (first_of t cs order i f a) here.sound

  pub excluded : (i : ℕ) (f : Fault) (r : Shapes) (k : List (Option Cube)) → IsFirstAmong t cs order i f → AllByRecursion (IsTable t cs r k) order → ⊥
  excluded i f r k a tables =
      let all = subst (λ (l : List ℕ). AllByRecursion (IsTable t cs r k) l) a.order_is tables in
      clash i f a r k (all_left (IsTable t cs r k) a.before (a.table ∷ a.after) all) (all_right (IsTable t cs r k) a.before (a.table ∷ a.after) all).0

  -- one of them has the other's table among those before its own
  behind_clash : (i j : ℕ) (f g : Fault) (a : IsFirstAmong t cs order i f) (b : IsFirstAmong t cs order j g) → IsBehind a.before b.before a.table → ⊥
  behind_clash i j f g a b behind =
      let all = subst (λ (l : List ℕ). AllByRecursion (IsTable t cs b.shapes b.hulls) l) behind.1 b.tables in
      clash i f a b.shapes b.hulls (all_left (IsTable t cs b.shapes b.hulls) a.before (a.table ∷ behind.0) all)
      (all_right (IsTable t cs b.shapes b.hulls) a.before (a.table ∷ behind.0) all).0

  same_table : (i j : ℕ) (f g : Fault) (a : IsFirstAmong t cs order i f) (b : IsFirstAmong t cs order j g) → AreCutAlike a.before b.before a.table b.table → IsSameFault i f j g
  same_table i j f g a b same =
      let tables = subst (λ (l : List ℕ). AllByRecursion (IsTable t cs b.shapes b.hulls) l) (sym same.fronts) b.tables in
      first_one (CtorTells t cs a.shapes a.hulls) (CtorTells t cs b.shapes b.hulls) (constructors_of t a.table)
      (tells_one_here t cs listed heights are a.before a.table a.after a.order_is a.shapes b.shapes a.hulls b.hulls a.tables tables)
      i j f g (first_of t cs order i f a)
      (subst (λ (n : ℕ). IsFirstTold (CtorTells t cs b.shapes b.hulls) (constructors_of t n) j g) (sym same.here) (first_of t cs order j g b))

  by_cuts : (i j : ℕ) (f g : Fault) (a : IsFirstAmong t cs order i f) (b : IsFirstAmong t cs order j g) → AreCuts a.before b.before a.table b.table → IsSameFault i f j g
  by_cuts i j f g a b (inl same) = same_table i j f g a b same
  by_cuts i j f g a b (inr (inl behind)) = absurd (behind_clash i j f g a b behind)
  by_cuts i j f g a b (inr (inr behind)) = absurd (behind_clash j i g f b a behind)

  pub one_among : (i j : ℕ) (f g : Fault) → IsFirstAmong t cs order i f → IsFirstAmong t cs order j g → IsSameFault i f j g
  one_among i j f g a b = by_cuts i j f g a b (cuts a.before b.before a.table b.table a.after b.after (sym a.order_is ∙ b.order_is))

-- ---- the whole

module _ (t : Tables) (cs : List (Placed Constructor)) where
  pub order_one : (hs ks : List ℕ) → AreHeights (table_graph t cs) hs → AreHeights (table_graph t cs) ks → order_by t hs ≡ order_by t ks
  order_one hs ks a b = λ i. by_height (λ v. heights_one (table_graph t cs) hs ks a b v i) (appearing t)

  module _ (listed : AreListed t cs) where
    -- two first faults are one
    pub first_fault_one : (i j : ℕ) (f g : Fault) → IsFirstFault t cs i f → IsFirstFault t cs j g → IsSameFault i f j g
    first_fault_one i j f g a b = one_among t cs listed a.heights a.are_heights i j f g a.first
        (subst (λ (l : List ℕ). IsFirstAmong t cs l j g) (order_one b.heights a.heights b.are_heights a.are_heights) b.first)

    -- where no constructor has a fault there is no first one
    pub shaped_excludes : IsShaped t cs → HasFirstFault t cs → ⊥
    shaped_excludes shaped fault =
        let read = shaped.read in
        let first = fault.2 in
        excluded t cs listed first.heights first.are_heights fault.0 fault.1 shaped.shapes shaped.hulls first.first
        (subst (λ (l : List ℕ). AllByRecursion (IsTable t cs shaped.shapes shaped.hulls) l) (order_one read.heights first.heights read.are_heights first.are_heights) read.tables)
