-- The operands of constructors, one behind the other.
use Rattle.std.proofs.Common.{◌≡◌, ℕ, zero, suc, ◌<◌, ◌≤◌, ◌+◌, List, [], ◌∷◌, ◌++◌, length, map, get_or, Option, None, Some, slice_get, refl, sym, ap, ◌∙◌, arith, inl, inr, length-append}
use Rattle.std.proofs.Math.ListN.{get_or-append}
use Rattle.std.proofs.Math.Seq.{get_or-append_seam}
use Rattle.std.proofs.lemmas.Bool.{cases_lt}
use Rattle.std.proofs.lemmas.Option.{slice_get-get_or, slice_get-map, slice_get_past, slice_get_read}
use Rattle.std.specs.Option.{option_map}
use Rattle.std.specs.Prelude.{Vec}
use Rattle.std.specs.declared.alloc.Global.{Global}
use Rattle.sl_ast.specs.Trees.{Constructor}
use Rattle.sl_ast.specs.Unfolding.{Placed}
use Rattle.sl_build.specs.Views.{AreSlots, gives_by, slot_reference, slots_in}
use Rattle.sl_build.specs.declared.slots.Slot.{Slot}
use Rattle.sl_decode_meaning.specs.Trees.{Node}
use Rattle.sl_meaning_instruction.specs.Operands.{given_by}
use Rattle.sl_meaning_sections.specs.References.{Reference}
use Rattle.sl_spec.specs.Tables.{Ctor}
use Rattle.sl_spec.specs.Unfolded.{all_placed, placed}
use Rattle.sl_spec.specs.declared.tables.Tables.{Tables}
use Rattle.sl_spec.specs.declared.unfolded.Unfolded.{Unfolded}

-- a constructor at an index, as it is written there
pub given_here : (t : Tables) (us : List Unfolded) (i : ℕ) (ctor : Ctor) (u : Unfolded) (bytes : List ℕ) (n : Node) (lengths : List ℕ)
    → slice_get t.constructors i ≡ Some ctor → i < length us → u ≡ get_or us i u
    → given_by t bytes n (Some ctor) (Some (placed u)) lengths ≡ given_by t bytes n (slice_get t.constructors i) (slice_get (all_placed us) i) lengths
given_here t us i ctor u bytes n lengths there within is =
    sym (ap (λ c. given_by t bytes n c (slice_get (all_placed us) i) lengths) there
    ∙ ap (λ w. given_by t bytes n (Some ctor) w lengths) (slice_get-map placed us i ∙ ap (option_map placed) (slice_get_read us (length us) i u refl within is)))

pub none_past : {X : Type 0} (xs : List X) (i : ℕ) → slice_get xs i ≡ None → length xs ≤ i
none_past [] i h = omega arith
none_past (x ∷ xs) zero h = absurd (cc)
none_past (x ∷ xs) (suc i) h = let rest = none_past xs i h in omega (arith, rest)

nothing_by : (t : Tables) (c : Option Ctor) (bytes : List ℕ) (n : Node) (lengths : List ℕ) → given_by t bytes n c None lengths ≡ []
nothing_by t None bytes n lengths = refl
nothing_by t (Some c) bytes n lengths = refl

module _ (t : Tables) (cs : List (Placed Constructor)) where
  abbrev given_of : (i : ℕ) → List ℕ → Node → List ℕ → List (Option Reference)
  given_of i bytes n lengths = given_by t bytes n (slice_get t.constructors i) (slice_get cs i) lengths

  -- The operands that are made are those of the first constructors.
  pub record AreFirst (made : List (Vec Slot Global)) (count : ℕ) : Type 0 where
    pub size : length made ≡ count
    pub each : (bytes : List ℕ) (n : Node) (lengths : List ℕ) → n.ctor < count → gives_by t made bytes n lengths ≡ given_of n.ctor bytes n lengths

  pub none_first : (made : List (Vec Slot Global)) → made ≡ [] → AreFirst made 0
  none_first made e = record { size = ap length e; each = λ bytes n lengths below. absurd (omega (arith, below)) }

  module _ (made : List (Vec Slot Global)) (count : ℕ) (first : AreFirst made count) where
    pub slots_next : (slots : Vec Slot Global) (more : List (Vec Slot Global)) → more ≡ made ++ slots ∷ []
        → ((bytes : List ℕ) (n : Node) (lengths : List ℕ) → map (slot_reference t bytes n lengths) slots.items ≡ given_of count bytes n lengths) → AreFirst more (count + 1)
    slots_next slots more e are = record {
      size = ap length e ∙ length-append made (slots ∷ []) ∙ ap (λ k. k + 1) first.size;
      each = λ bytes n lengths below. elim (cases_lt n.ctor count) [
        | inl before ↦
            let there : n.ctor < length made = omega (arith, before, first.size) in
            let long : n.ctor < length (made ++ slots ∷ []) = omega (arith, there, length-append made (slots ∷ [])) in
            let old : slice_get more n.ctor ≡ slice_get made n.ctor =
            ap (λ l. slice_get l n.ctor) e ∙ slice_get-get_or (made ++ slots ∷ []) n.ctor slots long
            ∙ ap Some (get_or-append made (slots ∷ []) slots n.ctor there) ∙ sym (slice_get-get_or made n.ctor slots there) in
            ap (λ o. map (slot_reference t bytes n lengths) (slots_in o)) old ∙ first.each bytes n lengths before
        | inr past ↦
            let this : n.ctor ≡ length made = omega (arith, below, past, first.size) in
            let long : length made < length (made ++ slots ∷ []) = omega (arith, length-append made (slots ∷ [])) in
            let new : slice_get more n.ctor ≡ Some slots =
            ap (λ l. slice_get l n.ctor) e ∙ ap (slice_get (made ++ slots ∷ [])) this ∙ slice_get-get_or (made ++ slots ∷ []) (length made) slots long
            ∙ ap Some (get_or-append_seam made slots [] slots) in
            ap (λ o. map (slot_reference t bytes n lengths) (slots_in o)) new ∙ are bytes n lengths ∙ ap (λ i. given_of i bytes n lengths) (sym (this ∙ first.size))
      ];
    }

    past_one : (bytes : List ℕ) (n : Node) (lengths : List ℕ) → count ≤ n.ctor → gives_by t made bytes n lengths ≡ []
    past_one bytes n lengths past = ap (λ o. map (slot_reference t bytes n lengths) (slots_in o)) (slice_get_past made n.ctor (omega (arith, past, first.size)))

    all_by : ((bytes : List ℕ) (n : Node) (lengths : List ℕ) → count ≤ n.ctor → given_of n.ctor bytes n lengths ≡ []) → AreSlots t cs made
    all_by none bytes n lengths = elim (cases_lt n.ctor count) [
      | inl before ↦ first.each bytes n lengths before
      | inr past ↦ past_one bytes n lengths past ∙ sym (none bytes n lengths past)
    ]

    pub out_of_constructors : length t.constructors ≤ count → AreSlots t cs made
    out_of_constructors end = all_by (λ bytes n lengths past.
        ap (λ c. given_by t bytes n c (slice_get cs n.ctor) lengths) (slice_get_past t.constructors n.ctor (omega (arith, end, past))))

    pub out_of_written : length cs ≤ count → AreSlots t cs made
    out_of_written end = all_by (λ bytes n lengths past.
        ap (λ w. given_by t bytes n (slice_get t.constructors n.ctor) w lengths) (slice_get_past cs n.ctor (omega (arith, end, past))) ∙ nothing_by t (slice_get t.constructors n.ctor) bytes n lengths)
