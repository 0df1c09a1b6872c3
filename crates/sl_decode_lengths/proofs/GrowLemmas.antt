-- What is grown is within bounds where each constructor is that is chosen.
use Rattle.std.proofs.Common.{◌≡◌, ℕ, suc, ◌+◌, List, [], ◌∷◌, ◌++◌, Option, Some, None, Result, Ok, Err, refl, sym, subst, append-nil, append_assoc}
use Rattle.std.specs.Prelude.{IfOk}
use Rattle.sl_decode_meaning.specs.Actions.{Changed, changed}
use Rattle.sl_decode_meaning.specs.Decoding.{Chosen, Grove, Grown, Grower, Input, chosen, chosen_at, grow, opened, operands, site_at, with_operands}
use Rattle.sl_decode_meaning.specs.Meanings.{Meaning, Slot, slot, table_of}
use Rattle.sl_decode_meaning.specs.Outcomes.{◌>>=◌, or_fault}
use Rattle.sl_decode_meaning.specs.Trees.{tree}
use Rattle.sl_decode_meaning.specs.declared.faults.Fault.{Fault}
use Rattle.sl_decode_meaning.specs.declared.faults.Fault.TheVariants.{NoConstructor}
use Rattle.sl_decode_meaning.specs.declared.notes.Noted.{Noted}
use Rattle.sl_decode_lengths.proofs.BoundLemmas.{AreWithin, Between, within_more}

-- ---- outcomes

pub then_ok : {A B : Type 0} (r : Result A Fault) (next : A → Result B Fault) (P : A → Type 0) (Q : B → Type 0)
    → IfOk r P → ((x : A) → P x → IfOk (next x) Q) → IfOk (r >>= next) Q
then_ok (Ok x) next P Q holds each = each x holds
then_ok (Err fault) next P Q holds each = tt

pub then_any : {A B : Type 0} (r : Result A Fault) (next : A → Result B Fault) (Q : B → Type 0)
    → ((x : A) → r ≡ Ok x → IfOk (next x) Q) → IfOk (r >>= next) Q
then_any (Ok x) next Q each = each x refl
then_any (Err fault) next Q each = tt

pub if_ok : {A : Type 0} (r : Result A Fault) (P Q : A → Type 0) → IfOk r P → ((x : A) → P x → Q x) → IfOk r Q
if_ok (Ok x) P Q holds each = each x holds
if_ok (Err fault) P Q holds each = tt

-- ---- operands

abbrev behind : Grown → Grove → Grove
behind first o = record { lengths = o.lengths; trees = tree first.node first.below o.trees; after = o.after }

module _ (f g : ℕ → ℕ) (grower : Grower) where
  -- Each node is within the bounds of its table.
  abbrev pub NodesFit : Type 0
  NodesFit = (table at x : ℕ) → IfOk (grower table at x) (λ n. Between (f table) n.node.length (g table))

  pub operands_within : NodesFit → (done slots : List Slot) (at : ℕ) (lengths : List ℕ) (x : ℕ) → AreWithin table_of f g done lengths
      → IfOk (operands grower slots at lengths x) (λ o. AreWithin table_of f g (done ++ slots) o.lengths)
  operands_within fit done [] at lengths x so = subst (λ (l : List Slot). AreWithin table_of f g l lengths) (sym (append-nil done)) so
  operands_within fit done (slot table place ∷ slots) at lengths x so =
      let s = slot table place in
      then_ok (grower table (at + place lengths) x)
      (λ first. operands grower slots at (lengths ++ first.node.length ∷ []) first.after >>= λ o. Ok (behind first o))
      (λ n. Between (f table) n.node.length (g table)) (λ o. AreWithin table_of f g (done ++ s ∷ slots) o.lengths)
      (fit table (at + place lengths) x)
      (λ first fits. then_ok (operands grower slots at (lengths ++ first.node.length ∷ []) first.after)
      (λ o. Ok (behind first o))
      (λ o. AreWithin table_of f g ((done ++ s ∷ []) ++ slots) o.lengths) (λ o. AreWithin table_of f g (done ++ s ∷ slots) o.lengths)
      (operands_within fit (done ++ s ∷ []) slots at (lengths ++ first.node.length ∷ []) first.after
      (within_more f g table_of done lengths s first.node.length fits so))
      (λ o h. subst (λ (l : List Slot). AreWithin table_of f g l o.lengths) (append_assoc done (s ∷ []) slots) h))

-- ---- nodes

abbrev grown_of : ℕ → ℕ → Meaning → ℕ → List Noted → Grove → Grown
grown_of ctor at m y notes o = record {
  node = record { ctor = ctor; at = at; length = m.length o.lengths; context = y; notes = notes };
  below = o.trees;
  after = o.after;
}

module _ (i : Input) (table : ℕ) (f g : ℕ → ℕ) (P : ℕ → Type 0) where
  -- P holds of the length of each constructor that is chosen, where its operands are within bounds.
  abbrev pub Passes : Type 0
  Passes = (at x ctor : ℕ) (m : Meaning) → chosen_at i table at x ≡ Some (chosen ctor m)
      → (lengths : List ℕ) → AreWithin table_of f g m.slots lengths → P (m.length lengths)

  with_operands_fits : (grower : Grower) → NodesFit f g grower → (ctor at : ℕ) (m : Meaning) (c : Changed)
      → ((lengths : List ℕ) → AreWithin table_of f g m.slots lengths → P (m.length lengths))
      → IfOk (with_operands grower ctor at m c) (λ n. P n.node.length)
  with_operands_fits grower fit ctor at m (changed y notes) passes =
      then_ok (operands grower m.slots at [] y)
      (λ o. Ok (grown_of ctor at m y notes o))
      (λ o. AreWithin table_of f g m.slots o.lengths) (λ n. P n.node.length)
      (operands_within f g grower fit [] m.slots at [] y tt)
      (λ o h. passes o.lengths h)

  opened_fits : (grower : Grower) → NodesFit f g grower → (at x : ℕ) (choice : Chosen) → chosen_at i table at x ≡ Some choice → Passes
      → IfOk (opened grower i at x choice) (λ n. P n.node.length)
  opened_fits grower fit at x (chosen ctor m) is passes =
      then_any (m.early (site_at i ctor at [] x 0) (changed x [])) (with_operands grower ctor at m) (λ n. P n.node.length)
      (λ c done. with_operands_fits grower fit ctor at m c (passes at x ctor m is))

  choice_fits : (grower : Grower) → NodesFit f g grower → (at x : ℕ) (found : Option Chosen) → chosen_at i table at x ≡ found → Passes
      → IfOk (or_fault (NoConstructor table at) found >>= opened grower i at x) (λ n. P n.node.length)
  choice_fits grower fit at x None is passes = tt
  choice_fits grower fit at x (Some choice) is passes = opened_fits grower fit at x choice is passes

  pub grown_fits : (levels : ℕ) → NodesFit f g (grow i levels) → Passes → (at x : ℕ) → IfOk (grow i (suc levels) table at x) (λ n. P n.node.length)
  unfolding grow
  grown_fits levels fit passes at x = choice_fits (grow i levels) fit at x (chosen_at i table at x) refl passes
