-- Tables have one report at most.
use Rattle.std.proofs.Common.{◌≡◌, ◌↔◌, ℕ, zero, suc, ◌<◌, ◌⊎◌, inl, inr, Bool, true, false, IsTrue, List, [], ◌∷◌, length, map, Option, Some, None, refl, sym, ap, ap₂, subst, ◌∙◌, arith}
use Rattle.std.specs.Prelude.{All, Contains, slice_get}
use Rattle.std.proofs.lemmas.Bool.{false≢true}
use Rattle.std.proofs.lemmas.List.{map-id}
use Rattle.std.proofs.lemmas.List.Elements.{All-head, All-tail}
use Rattle.std.proofs.lemmas.Option.{same_Some}
use Rattle.sl_ast.specs.Trees.{Constructor}
use Rattle.sl_ast.specs.Unfolding.{Placed}
use Rattle.sl_cube.specs.declared.Point.{Point}
use Rattle.sl_cube_sets.proofs.OneReport.{least_is_one}
use Rattle.sl_cube_sets.specs.Sets.{IsLeastOf, IsLeastWhere}
use Rattle.sl_decode_meaning.specs.Meanings.{Meaning, Slot, slot, table_of}
use Rattle.sl_gap.specs.Holes.{HasHole, IsHole, IsLeastHole}
use Rattle.sl_gap.specs.Reports.{AreHoles, AreShadowed, IsReport, IsRising, Report}
use Rattle.sl_gap.specs.declared.report.Hole.{Hole}
use Rattle.sl_gap_operands.specs.Operands.{IsExamined}
use Rattle.sl_gap_tables.specs.Gaps.{IsGap, TellGaps}
use Rattle.sl_spec.specs.declared.tables.Tables.{Tables}

-- ---- lists

-- lists of the same length that agree at each index
same_lists : {X : Type 0} (xs ys : List X) → length xs ≡ length ys → ((i : ℕ) (x y : X) → slice_get xs i ≡ Some x → slice_get ys i ≡ Some y → x ≡ y) → xs ≡ ys
same_lists [] [] long agree = refl
same_lists [] (y ∷ ys) long agree = absurd (omega (arith, long))
same_lists (x ∷ xs) [] long agree = absurd (omega (arith, long))
same_lists (x ∷ xs) (y ∷ ys) long agree =
    ap₂ ◌∷◌ (agree 0 x y refl refl) (same_lists xs ys (omega (arith, long)) (λ i a b is_a is_b. agree (suc i) a b is_a is_b))

-- a member is the first, or one of the others
first_or_later : {X : Type 0} (x : X) (xs : List X) (z : X) → Contains (x ∷ xs) z → (x ≡ z) ⊎ Contains xs z
first_or_later x xs z (zero, below, is) = inl is
first_or_later x xs z (suc i, below, is) = inr (i, omega (arith, below), is)

later : {X : Type 0} (x : X) (xs : List X) (z : X) → Contains xs z → Contains (x ∷ xs) z
later x xs z c = (suc c.0, omega (arith, c.1), c.2)

first : {X : Type 0} (x : X) (xs : List X) → Contains (x ∷ xs) x
first x xs = (0, omega arith, refl)

module _ {X : Type 0} (key : X → ℕ) where
  -- what holds of all keys holds of that of a member
  key_of : (P : ℕ → Type 0) (xs : List X) (z : X) → All P (map key xs) → Contains xs z → P (key z)
  key_of P [] z all c = absurd (omega (arith, c.1))
  key_of P (x ∷ xs) z all c = elim (first_or_later x xs z c) [
    | inl same ↦ subst (λ (y : X). P (key y)) same (All-head P (key x) (map key xs) all)
    | inr more ↦ key_of P xs z (All-tail P (key x) (map key xs) all) more
  ]

  -- lists with rising keys that have the same members
  pub rising_one : (xs ys : List X) → IsRising (map key xs) → IsRising (map key ys) → ((z : X) → Contains xs z → Contains ys z) → ((z : X) → Contains ys z → Contains xs z)
      → xs ≡ ys
  rising_one [] [] a b to from = refl
  rising_one [] (y ∷ ys) a b to from = let c = from y (first y ys) in absurd (omega (arith, c.1))
  rising_one (x ∷ xs) [] a b to from = let c = to x (first x xs) in absurd (omega (arith, c.1))
  rising_one (x ∷ xs) (y ∷ ys) a b to from = ap₂ ◌∷◌ same (rising_one xs ys a.1 b.1 down up)
    where
      same : x ≡ y
      same = elim (first_or_later y ys x (to x (first x xs))) [
        | inl here ↦ sym here
        | inr behind ↦ elim (first_or_later x xs y (from y (first y ys))) [
          | inl here ↦ here
          | inr other ↦
              let less : key y < key x = key_of (λ n. key y < n) ys x b.0 behind in
              let more : key x < key y = key_of (λ n. key x < n) xs y a.0 other in
              absurd (omega (arith, less, more))
        ]
      ]

      down : (z : X) → Contains xs z → Contains ys z
      down z c = elim (first_or_later y ys z (to z (later x xs z c))) [
        | inr there ↦ there
        | inl here ↦
            let less : key x < key z = key_of (λ n. key x < n) xs z a.0 c in
            let even : key x ≡ key z = ap key (same ∙ here) in
            absurd (omega (arith, less, even))
      ]

      up : (z : X) → Contains ys z → Contains xs z
      up z c = elim (first_or_later x xs z (from z (later y ys z c))) [
        | inr there ↦ there
        | inl here ↦
            let less : key y < key z = key_of (λ n. key y < n) ys z b.0 c in
            let even : key y ≡ key z = ap key (sym same ∙ here) in
            absurd (omega (arith, less, even))
      ]

-- ---- the parts of a report

least_one : (holds : Point → Type 0) (a b : Option Point) → IsLeastOf holds a → IsLeastOf holds b → a ≡ b
least_one holds None None h k = refl
least_one holds None (Some q) h k = absurd (h q k.in_range k.here)
least_one holds (Some p) None h k = absurd (k p h.in_range h.here)
least_one holds (Some p) (Some q) h k = ap (λ (x : Point). Some x) (least_is_one holds p q h k)

same_truth : (P : Type 0) (a b : Bool) → IsTrue a ↔ P → IsTrue b ↔ P → a ≡ b
same_truth P true true h k = refl
same_truth P true false h k = absurd (false≢true (k.1 (h.0 refl)))
same_truth P false true h k = absurd (false≢true (h.1 (k.0 refl)))
same_truth P false false h k = refl

abbrev at_of : Slot → ℕ
at_of (slot table at) = at []

module _ (t : Tables) (cs : List (Placed Constructor)) where
  -- a constructor is examined for one table at one place
  examined_one : (number a b m n : ℕ) → IsExamined t cs number a m → IsExamined t cs number b n → (a ≡ b) × (m ≡ n)
  examined_one number a b m n x y =
      let same : x.said ≡ y.said = same_Some x.said y.said (sym x.says_so ∙ y.says_so) in
      let slots : slot a x.at ∷ x.rest ≡ slot b y.at ∷ y.rest = sym x.first ∙ ap (λ (s : Meaning). s.slots) same ∙ y.first in
      let one : slot a x.at ≡ slot b y.at = same_Some (slot a x.at) (slot b y.at) (ap (λ (l : List Slot). slice_get l 0) slots) in
      (ap table_of one, x.place_is ∙ ap at_of one ∙ sym y.place_is)

  -- a constructor has one least hole
  hole_one : (h g : Hole) → h.ctor ≡ g.ctor → IsLeastHole t cs h → IsLeastHole t cs g → h ≡ g
  hole_one h g ctor x y =
      let examined = subst (λ (n : ℕ). IsExamined t cs n h.operand x.place) ctor x.examined in
      let one = examined_one g.ctor h.operand g.operand x.place y.place examined y.examined in
      let mine : (p : Point) → Type 0 = HasHole t cs g.ctor g.operand y.place in
      let moved : IsLeastWhere mine h.parent =
      subst (λ (n : ℕ). IsLeastWhere (HasHole t cs g.ctor g.operand n) h.parent) one.1
      (subst (λ (n : ℕ). IsLeastWhere (HasHole t cs g.ctor n x.place) h.parent) one.0
      (subst (λ (n : ℕ). IsLeastWhere (HasHole t cs n h.operand x.place) h.parent) ctor x.parent)) in
      let parent = least_is_one mine h.parent g.parent moved y.parent in
      let behind : IsLeastWhere (IsHole t cs g.ctor g.operand y.place g.parent) h.child =
      subst (λ (p : Point). IsLeastWhere (IsHole t cs g.ctor g.operand y.place p) h.child) parent
      (subst (λ (n : ℕ). IsLeastWhere (IsHole t cs g.ctor g.operand n h.parent) h.child) one.1
      (subst (λ (n : ℕ). IsLeastWhere (IsHole t cs g.ctor n x.place h.parent) h.child) one.0
      (subst (λ (n : ℕ). IsLeastWhere (IsHole t cs n h.operand x.place h.parent) h.child) ctor x.child))) in
      let child = least_is_one (IsHole t cs g.ctor g.operand y.place g.parent) h.child g.child behind y.child in
      λ i. record { ctor = ctor i; operand = one.0 i; parent = parent i; child = child i }

  gaps_one : (a b : List (Option Point)) → TellGaps t cs a → TellGaps t cs b → a ≡ b
  gaps_one a b h k =
      same_lists a b (h.counted ∙ sym k.counted) (λ i x y is_x is_y. least_one (IsGap t cs i) x y (h.each i x is_x) (k.each i y is_y))

  shadowed_one : (a b : List ℕ) → AreShadowed t cs a → AreShadowed t cs b → a ≡ b
  shadowed_one a b h k =
      rising_one (λ n. n) a b (subst IsRising (sym (map-id a)) h.rising) (subst IsRising (sym (map-id b)) k.rising)
      (λ n c. (k.each n).1 ((h.each n).0 c)) (λ n c. (h.each n).1 ((k.each n).0 c))

  -- a least hole of the one list is in the other
  hole_there : (a b : List Hole) → AreHoles t cs a → AreHoles t cs b → (h : Hole) → Contains a h → Contains b h
  hole_there a b x y h c =
      let least = x.right h c in
      let child = least.parent.here in
      let other = y.all h.ctor h.operand least.place least.examined h.parent child.0 child.1 in
      subst (Contains b) (hole_one other.0 h other.2 (y.right other.0 other.1) least) other.1

  holes_one : (a b : List Hole) → AreHoles t cs a → AreHoles t cs b → a ≡ b
  holes_one a b x y = rising_one (λ h. h.ctor) a b x.rising y.rising (hole_there a b x y) (hole_there b a y x)

  pub one_report : (r q : Report) → IsReport t cs r → IsReport t cs q → r ≡ q
  one_report r q h k =
      let tables = gaps_one r.tables q.tables h.tables k.tables in
      let shadowed = shadowed_one r.shadowed q.shadowed h.shadowed k.shadowed in
      let holes = holes_one r.holes q.holes h.holes k.holes in
      let sure = same_truth _ r.sure q.sure h.sure k.sure in
      λ i. record { tables = tables i; shadowed = shadowed i; holes = holes i; sure = sure i }
