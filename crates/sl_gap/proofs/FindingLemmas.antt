-- What is found of a constructor.
use Rattle.std.proofs.Common.{◌≡◌, ◌↔◌, ℕ, zero, suc, ◌≤◌, Bool, true, false, IsTrue, List, [], ◌∷◌, length, map, Option, Some, None, refl, sym, ap, subst, ◌∙◌, arith}
use Rattle.std.specs.Prelude.{nat_eq, slice_get}
use Rattle.std.specs.List.{list_any}
use Rattle.std.proofs.lemmas.Bool.{false≢true}
use Rattle.std.proofs.lemmas.Bool.Decides.{nat_tests}
use Rattle.std.proofs.lemmas.List.{length-map}
use Rattle.std.proofs.lemmas.Option.{same_Some}
use Rattle.sl_ast.specs.Trees.{Constructor}
use Rattle.sl_ast.specs.Unfolding.{Placed, written}
use Rattle.sl_decode_leaves.specs.Extents.{extent}
use Rattle.sl_decode_meaning.specs.Meanings.{Meaning, said, says, slot, slot_of, table_of}
use Rattle.sl_decode_meaning.specs.Meanings as m
use Rattle.sl_decode_meaning.specs.Places.{table_operands}
use Rattle.sl_decode_plan.specs.Plans.{done, done_slot}
use Rattle.sl_decode_plan.specs.declared.plans.Plan.{Plan}
use Rattle.sl_decode_plan.specs.declared.plans.Slot.{Slot}
use Rattle.sl_gap.specs.Findings.{IsAt, TellsFinding, TellsHoleAt, TellsHoleOf}
use Rattle.sl_cube_sets.specs.Sets.{IsLeastWhere}
use Rattle.sl_gap.specs.Holes.{HasHole, IsHole}
use Rattle.sl_gap.specs.declared.report.Hole.{Hole}
use Rattle.sl_gap_operands.specs.Firsts.{TellsFirst}
use Rattle.sl_gap_operands.specs.Operands.{IsExamined, IsQuiet, sets_context}
use Rattle.sl_gap_operands.specs.declared.first.FirstOperand.{FirstOperand}
use Rattle.sl_spec.specs.Tables.{Ctor}
use Rattle.sl_spec.specs.declared.tables.Tables.{Tables}

-- the place of a slot, where no operand stands before it
abbrev at_of : m.Slot → ℕ
at_of (slot table at) = at []

module _ (t : Tables) (cs : List (Placed Constructor)) (number : ℕ) (c : Ctor) (d : Placed Constructor) (plan : Plan) (at : IsAt t cs number c d plan) where
  -- ---- what is said

  abbrev says_this : Meaning
  says_this = said t c.operands d.1.pattern (written d.1.actions)

  says_is : says t cs number ≡ Some says_this
  says_is = ap (λ o. m.said_by t o (slice_get cs number)) at.ctor_is ∙ ap (m.said_by t (Some c)) at.written_is

  slots_are : map done_slot plan.slots.items ≡ map (slot_of t c.operands d.1.pattern) (table_operands c.operands)
  slots_are = ap (λ (x : Meaning). x.slots) (same_Some (done t plan) says_this (sym at.says_so ∙ says_is))

  pub as_many : length plan.slots.items ≡ length (table_operands c.operands)
  as_many =
      sym (length-map plan.slots.items done_slot) ∙ ap length slots_are ∙ length-map (table_operands c.operands) (slot_of t c.operands d.1.pattern)

  -- ---- quiet

  pub is_quiet : (sets : Bool) → sets ≡ list_any (sets_context t c.operands) (written d.1.actions) → sets ≡ false → IsQuiet t cs number
  is_quiet sets e none = λ x y x_is y_is.
      subst (λ (y : Placed Constructor). list_any (sets_context t x.operands) (written y.1.actions) ≡ false) (same_Some d y (sym at.written_is ∙ y_is))
      (subst (λ (x : Ctor). list_any (sets_context t x.operands) (written d.1.actions) ≡ false) (same_Some c x (sym at.ctor_is ∙ x_is)) (sym e ∙ none))

  not_quiet : (sets : Bool) → sets ≡ list_any (sets_context t c.operands) (written d.1.actions) → sets ≡ true → IsQuiet t cs number → ⊥
  not_quiet sets e some quiet = false≢true (sym (quiet c d at.ctor_is at.written_is) ∙ sym e ∙ some)

  -- ---- the first operand

  -- An examined constructor has a first slot, for this table and at this place.
  record FirstSlot (table place : ℕ) : Type 0 where
    s : Slot
    rest : List Slot
    slots : plan.slots.items ≡ s ∷ rest
    table_is : s.table ≡ table
    place_is : extent s.place [] ≡ place
    near : place ≤ 15

  by_slots : (ss : List Slot) → plan.slots.items ≡ ss → (table place : ℕ) (x : IsExamined t cs number table place)
      → map done_slot ss ≡ slot table x.at ∷ x.rest → FirstSlot table place
  by_slots [] e table place x is = absurd (cc)
  by_slots (s ∷ ss) e table place x is =
      let one : done_slot s ≡ slot table x.at = same_Some (done_slot s) (slot table x.at) (ap (λ (l : List m.Slot). slice_get l 0) is) in
      record { s = s; rest = ss; slots = e; table_is = ap table_of one; place_is = ap at_of one ∙ sym x.place_is; near = x.near }

  first_slot : (table place : ℕ) → IsExamined t cs number table place → FirstSlot table place
  first_slot table place x =
      let same : done t plan ≡ x.said = same_Some (done t plan) x.said (sym at.says_so ∙ x.says_so) in
      by_slots plan.slots.items refl table place x (ap (λ (y : Meaning). y.slots) same ∙ x.first)

  examined : (o : FirstOperand) → TellsFirst plan.slots.items (Some o) → IsQuiet t cs number → IsExamined t cs number o.table o.place
  examined o told quiet =
      let s = told.0 in record {
        said = done t plan;
        says_so = at.says_so;
        at = λ lengths. extent s.place lengths;
        rest = map done_slot told.1;
        first = ap (map done_slot) told.2 ∙ ap (λ (n : ℕ). slot n (λ lengths. extent s.place lengths) ∷ map done_slot told.1) told.3;
        place_is = told.4;
        near = told.5;
        quiet = quiet;
      }

  -- ---- the three cases

  pub found_loud : (sets : Bool) → sets ≡ list_any (sets_context t c.operands) (written d.1.actions) → sets ≡ true
      → TellsFinding t cs number c (record { hole = None; plain = false })
  found_loud sets e some = record {
    hole = λ table place x p q h. not_quiet sets e some x.quiet;
    plain = (λ b. absurd (false≢true b), λ p. absurd (not_quiet sets e some p.quiet));
  }

  not_far : TellsFirst plan.slots.items None → (table place : ℕ) → IsExamined t cs number table place → ⊥
  not_far told table place x =
      let f = first_slot table place x in
      let far = told f.s f.rest f.slots in
      omega (arith, far, f.place_is, f.near)

  none_or_some : (n : ℕ) (b : Bool) → IsTrue b ↔ (n ≡ 0) → (1 ≤ n → ⊥) → IsTrue b
  none_or_some n b tells none = tells.1 (zero_of n none)
    where
      zero_of : (n : ℕ) → (1 ≤ n → ⊥) → n ≡ 0
      zero_of zero none = refl
      zero_of (suc n) none = absurd (none (omega arith))

  pub found_none : (sets : Bool) → sets ≡ list_any (sets_context t c.operands) (written d.1.actions) → sets ≡ false → TellsFirst plan.slots.items None
      → (b : Bool) → IsTrue b ↔ (length plan.slots.items ≡ 0) → TellsFinding t cs number c (record { hole = None; plain = b })
  found_none sets e none told b tells = record {
    hole = λ table place x p q h. not_far told table place x;
    plain = (
      λ empty.
          let zero = tells.0 empty in record {
            quiet = is_quiet sets e none;
            single = omega (arith, zero, as_many);
            examined = λ some. absurd (omega (arith, some, zero, as_many));
          },
      λ p. none_or_some (length plan.slots.items) b tells (λ some.
          let x = p.examined (omega (arith, some, as_many)) in
          not_far told x.0 x.1 x.2),
    );
  }

  -- the hole of a constructor that is examined, for its only table and place
  hole_told : (o : FirstOperand) → TellsFirst plan.slots.items (Some o) → IsQuiet t cs number → (hole : Option Hole) → TellsHoleAt t cs number o.table o.place hole
      → TellsHoleOf t cs number hole
  hole_told o told quiet None none = λ table place x p q h.
      let f = first_slot table place x in
      let same : f.s ≡ told.0 = same_Some f.s told.0 (ap (λ (l : List Slot). slice_get l 0) (sym f.slots ∙ told.2)) in
      let table_is : table ≡ o.table = sym f.table_is ∙ ap (λ (s : Slot). s.table) same ∙ told.3 in
      let place_is : place ≡ o.place = sym f.place_is ∙ ap (λ (s : Slot). extent s.place []) same ∙ sym told.4 in
      none p q (subst (λ (n : ℕ). IsHole t cs number n o.place p q) table_is (subst (λ (n : ℕ). IsHole t cs number table n p q) place_is h))
  hole_told o told quiet (Some h) some = (
    some.0,
    record {
      place = o.place;
      examined = subst (λ (n : ℕ). IsExamined t cs n h.operand o.place) (sym some.0)
          (subst (λ (n : ℕ). IsExamined t cs number n o.place) (sym some.1) (examined o told quiet));
      parent = subst (λ (n : ℕ). m_parent n h.operand) (sym some.0) (subst (λ (n : ℕ). m_parent number n) (sym some.1) some.2);
      child = subst (λ (n : ℕ). m_child n h.operand) (sym some.0) (subst (λ (n : ℕ). m_child number n) (sym some.1) some.3);
    },
  )
    where
      m_parent : ℕ → ℕ → Type 0
      m_parent n table = IsLeastWhere (HasHole t cs n table o.place) h.parent

      m_child : ℕ → ℕ → Type 0
      m_child n table = IsLeastWhere (IsHole t cs n table o.place h.parent) h.child

  pub found_some : (sets : Bool) → sets ≡ list_any (sets_context t c.operands) (written d.1.actions) → sets ≡ false
      → (o : FirstOperand) → TellsFirst plan.slots.items (Some o) → (hole : Option Hole) → TellsHoleAt t cs number o.table o.place hole
      → (b : Bool) → IsTrue b ↔ (length plan.slots.items ≡ 1) → TellsFinding t cs number c (record { hole = hole; plain = b })
  found_some sets e none o told hole holes b tells =
      let quiet = is_quiet sets e none in record {
        hole = hole_told o told quiet hole holes;
        plain = (
          λ one.
              let single = tells.0 one in record {
                quiet = quiet;
                single = omega (arith, single, as_many);
                examined = λ some. (o.table, o.place, examined o told quiet);
              },
          λ p. tells.1 (omega (arith, p.single, as_many, ap length told.2)),
        );
      }

same_true : (a b : ℕ) → nat_eq a b ≡ true → a ≡ b
same_true a b e = grind (arith, nat_tests)

true_same : (a b : ℕ) → a ≡ b → nat_eq a b ≡ true
true_same a b e = grind (arith, nat_tests)

-- the test of a length
pub tells_length : (found n m : ℕ) → found ≡ n → IsTrue (nat_eq found m) ↔ (n ≡ m)
tells_length found n m is = (λ t. sym is ∙ same_true found m t, λ e. true_same found m (is ∙ e))
