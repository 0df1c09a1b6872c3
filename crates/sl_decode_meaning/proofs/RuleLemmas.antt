-- What the definition computes is what the rules say.
use Rattle.std.proofs.Common.{◌≡◌, ℕ, zero, suc, ◌+◌, Option, Some, None, Result, Ok, Err, List, [], ◌∷◌, ◌++◌, refl}
use Rattle.sl_decode_meaning.specs.Actions.{Changed, changed}
use Rattle.sl_decode_meaning.specs.Decoding.{Chosen, Grove, Grown, Grower, Input, chosen, chosen_at, grow, opened, operands, site_at, with_operands}
use Rattle.sl_decode_meaning.specs.Meanings.{Meaning, Slot, slot}
use Rattle.sl_decode_meaning.specs.Outcomes.{◌>>=◌, or_fault}
use Rattle.sl_decode_meaning.specs.Rules.{GrowsByRules, Rules, Stand, begun, no_more, one, unmatched, undone, below, behind}
use Rattle.sl_decode_meaning.specs.Trees.{tree}
use Rattle.sl_decode_meaning.specs.declared.faults.Fault.{Fault}
use Rattle.sl_decode_meaning.specs.declared.faults.Fault.TheVariants.{NoConstructor}
use Rattle.sl_decode_meaning.specs.declared.notes.Noted.{Noted}

-- one operand and then the others, by the outcomes of their parts
abbrev with_others : Result Grown Fault → (Grown → Result Grove Fault) → Result Grove Fault
with_others first others = first >>= λ f. others f >>= λ o. Ok (record { lengths = o.lengths; trees = tree f.node f.below o.trees; after = o.after })

abbrev grown_of : ℕ → ℕ → Meaning → ℕ → List Noted → Grove → Grown
grown_of ctor at m y notes g = record { node = begun ctor at (m.length g.lengths) y notes; below = g.trees; after = g.after }

module _ (i : Input) (table : ℕ) (place : List ℕ → ℕ) (slots : List Slot) (at : ℕ) (lengths : List ℕ) where
  others_follow : (x y ctor : ℕ) (m : Meaning) (notes : List Noted) (g : Grove) (others : Result Grove Fault)
      → chosen_at i table (at + place lengths) x ≡ Some (chosen ctor m)
      → m.early (site_at i ctor (at + place lengths) [] x 0) (changed x []) ≡ Ok (changed y notes)
      → Stand i m.slots (at + place lengths) [] y g.trees g.lengths g.after
      → Rules i slots at (lengths ++ m.length g.lengths ∷ []) g.after others
      → Rules i (slot table place ∷ slots) at lengths x (others >>= λ o. Ok (record { lengths = o.lengths; trees = tree (begun ctor (at + place lengths) (m.length g.lengths) y notes) g.trees o.trees; after = o.after }))
  others_follow x y ctor m notes g (Ok o) c a s r = one c a s r
  others_follow x y ctor m notes g (Err d) c a s r = behind c a s r

  below_follow : (x y ctor : ℕ) (m : Meaning) (notes : List Noted) (inner : Result Grove Fault) (others : Grown → Result Grove Fault)
      → chosen_at i table (at + place lengths) x ≡ Some (chosen ctor m)
      → m.early (site_at i ctor (at + place lengths) [] x 0) (changed x []) ≡ Ok (changed y notes)
      → Rules i m.slots (at + place lengths) [] y inner
      → ((f : Grown) → Rules i slots at (lengths ++ f.node.length ∷ []) f.after (others f))
      → Rules i (slot table place ∷ slots) at lengths x (with_others (inner >>= λ g. Ok (grown_of ctor (at + place lengths) m y notes g)) others)
  below_follow x y ctor m notes (Ok g) others c a r o =
      others_follow x y ctor m notes g (others (grown_of ctor (at + place lengths) m y notes g)) c a r (o (grown_of ctor (at + place lengths) m y notes g))
  below_follow x y ctor m notes (Err d) others c a r o = below c a r

  actions_follow : (x ctor : ℕ) (m : Meaning) (grower : Grower) (done : Result Changed Fault) (others : Grown → Result Grove Fault)
      → chosen_at i table (at + place lengths) x ≡ Some (chosen ctor m)
      → m.early (site_at i ctor (at + place lengths) [] x 0) (changed x []) ≡ done
      → ((y : ℕ) → Rules i m.slots (at + place lengths) [] y (operands grower m.slots (at + place lengths) [] y))
      → ((f : Grown) → Rules i slots at (lengths ++ f.node.length ∷ []) f.after (others f))
      → Rules i (slot table place ∷ slots) at lengths x (with_others (done >>= with_operands grower ctor (at + place lengths) m) others)
  actions_follow x ctor m grower (Ok (changed y notes)) others c a r o =
      below_follow x y ctor m notes (operands grower m.slots (at + place lengths) [] y) others c a (r y) o
  actions_follow x ctor m grower (Err d) others c a r o = undone c a

  choice_follows : (x : ℕ) (grower : Grower) (found : Option Chosen) (others : Grown → Result Grove Fault)
      → chosen_at i table (at + place lengths) x ≡ found
      → ((ctor y : ℕ) (m : Meaning) → found ≡ Some (chosen ctor m) → Rules i m.slots (at + place lengths) [] y (operands grower m.slots (at + place lengths) [] y))
      → ((f : Grown) → Rules i slots at (lengths ++ f.node.length ∷ []) f.after (others f))
      → Rules i (slot table place ∷ slots) at lengths x (with_others (or_fault (NoConstructor table (at + place lengths)) found >>= opened grower i (at + place lengths) x) others)
  choice_follows x grower (Some (chosen ctor m)) others c r o =
      actions_follow x ctor m grower (m.early (site_at i ctor (at + place lengths) [] x 0) (changed x [])) others c refl (λ y. r ctor y m refl) o
  choice_follows x grower None others c r o = unmatched c

pub grows_by_rules : GrowsByRules
unfolding grow
grows_by_rules i zero [] at lengths x w = no_more
grows_by_rules i zero (slot table place ∷ slots) at lengths x w = absurd w.0
grows_by_rules i (suc levels) [] at lengths x w = no_more
grows_by_rules i (suc levels) (slot table place ∷ slots) at lengths x w =
    choice_follows i table place slots at lengths x (grow i levels) (chosen_at i table (at + place lengths) x) _ refl
    (λ ctor y m h. grows_by_rules i levels m.slots (at + place lengths) [] y (w.0 (at + place lengths) x ctor m h))
    (λ f. grows_by_rules i (suc levels) slots at (lengths ++ f.node.length ∷ []) f.after w.1)
