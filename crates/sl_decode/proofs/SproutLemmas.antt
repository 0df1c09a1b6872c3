-- How a node stands among the nodes that are kept.
use Rattle.std.proofs.Common.{◌≡◌, ℕ, zero, suc, ◌-◌, List, [], ◌∷◌, ◌++◌, length, slice_set}
use Rattle.std.proofs.Common.{Result, Ok, Err, refl, ap, subst, ◌∙◌, sym, arith, append_assoc, map}
use Rattle.std.proofs.Common.{length-append, append-nil}
use Rattle.sl_decode.specs.Outcomes.{Fails}
use Rattle.sl_decode.specs.Sprouts.{Flat, Row, all_notes, flat, laid, laid_grove, measured, row}
use Rattle.sl_decode.specs.Sprouts.{sprouts}
use Rattle.sl_decode.specs.declared.outcomes.DecodeError.{DecodeError}
use Rattle.sl_decode.specs.declared.outcomes.DecodeError.TheVariants as e
use Rattle.sl_decode.specs.declared.walk.Sprout.{Sprout}
use Rattle.sl_decode_meaning.specs.Actions.{Changed, changed}
use Rattle.sl_decode_meaning.specs.Decoding.{Chosen, Grove, Grower, Input, chosen, chosen_at, grow}
use Rattle.sl_decode_meaning.specs.Decoding.{opened, operands, site_at, with_operands}
use Rattle.sl_decode_meaning.specs.TreeCounts.{count}
use Rattle.sl_decode_meaning.specs.Meanings.{Meaning}
use Rattle.sl_decode_meaning.specs.Outcomes.{◌>>=◌, in_turn, or_fault}
use Rattle.sl_decode_meaning.specs.Trees.{Begun, Trees, none, tree}
use Rattle.sl_decode_meaning.specs.Values.{Site}
use Rattle.sl_decode_meaning.specs.declared.faults.Fault.{Fault}
use Rattle.sl_decode_meaning.specs.declared.faults.Fault.TheVariants.{NoConstructor}
use Rattle.sl_decode_meaning.specs.declared.notes.Noted.{Noted}
use Rattle.sl_decode_leaves.specs.Extents.{extent}
use Rattle.sl_decode_plan.specs.Plans.{done, done_slot}
use Rattle.sl_decode_plan.specs.Steps.{early_step}
use Rattle.sl_decode_plan.specs.Values.{value_in}
use Rattle.sl_decode_plan.specs.declared.early.Early.{Early}
use Rattle.sl_decode_plan.specs.declared.early.Early.TheVariants.{Set, Note}
use Rattle.sl_decode_plan.specs.declared.plans.Plan.{Plan}
use Rattle.sl_spec.specs.declared.tables.Tables.{Tables}

-- ---- notes behind others

abbrev pub with_front : List Noted → Result Changed Fault → Result Changed Fault
with_front front (Ok (changed x ns)) = Ok (changed x (front ++ ns))
with_front front (Err fault) = Err fault

set_front : {N : Type 0} (front ns : List Noted) (r : Result N Fault) (f : N → ℕ)
    → (r >>= λ n. Ok (changed (f n) (front ++ ns)))
    ≡ with_front front (r >>= λ n. Ok (changed (f n) ns))
set_front front ns (Ok n) f = refl
set_front front ns (Err fault) f = refl

early_front : (t : Tables) (s : Site) (step : Early) (front ns : List Noted) (x : ℕ)
    → early_step t s step (changed x (front ++ ns))
    ≡ with_front front (early_step t s step (changed x ns))
early_front t s (Set low mask v) front ns x = set_front front ns (value_in t (record s { context = x }) v) _
early_front t s (Note mask flows) front ns x =
    ap (λ l. Ok (changed x l)) (append_assoc front ns _)

turn_front : (t : Tables) (s : Site) (steps : List Early) (front : List Noted) (r : Result Changed Fault)
    → (with_front front r >>= in_turn (early_step t s) steps)
    ≡ with_front front (r >>= in_turn (early_step t s) steps)
turn_front t s [] front (Ok (changed x ns)) = refl
turn_front t s (step ∷ steps) front (Ok (changed x ns)) =
    ap (λ r. r >>= in_turn (early_step t s) steps) (early_front t s step front ns x)
    ∙ turn_front t s steps front (early_step t s step (changed x ns))
turn_front t s steps front (Err fault) = refl

-- the steps from no notes, and behind those that stand
from_none : (t : Tables) (s : Site) (steps : List Early) (front : List Noted) (x : ℕ)
    → in_turn (early_step t s) steps (changed x front)
    ≡ with_front front (in_turn (early_step t s) steps (changed x []))
from_none t s steps front x =
    sym (ap (λ l. in_turn (early_step t s) steps (changed x l)) (append-nil front))
    ∙ turn_front t s steps front (Ok (changed x []))

-- ---- a node behind others

set_middle : {A : Type 0} (es : List A) (e0 e : A) (xs : List A)
    → slice_set (es ++ e0 ∷ [] ++ xs) (length es) e ≡ es ++ (e ∷ xs)
set_middle [] e0 e xs = refl
set_middle (d ∷ es) e0 e xs = ap (λ l. d ∷ l) (set_middle es e0 e xs)

pub length_sprouts : (f : Trees Begun) → length (sprouts f) ≡ count f
length_sprouts none = refl
length_sprouts (tree n below behind) =
    let k = length_sprouts below in
    let r = length_sprouts behind in
    let a = length-append (sprouts below) (sprouts behind) in omega arith

abbrev pub sprout : ℕ → ℕ → ℕ → ℕ → ℕ → ℕ → Sprout
sprout ctor at len own noted below = record {
  ctor = ctor;
  at = at;
  length = len;
  context = own;
  noted = noted;
  below = below;
}

module _ (ctor at own : ℕ) (es : List Sprout) (ns : List Noted) where
  -- what stands in the end, from what stands behind the operands
  abbrev pub finished : List Noted → Result Flat Fault → Result Flat Fault
  finished ns1 (Ok (flat len (row N NS) after)) = Ok (flat len
      (row (slice_set N (length es)
      (sprout ctor at len own (length ns1 - length ns) (length N - length es - 1))) NS) after)
  finished ns1 (Err fault) = Err fault

  -- the operands' fault is the node's
  pub fails_so : (error : DecodeError) (ns1 : List Noted) (r : Result Flat Fault) → Fails error r
      → Fails error (finished ns1 r)
  fails_so (e.Fault fault) ns1 r h = ap (finished ns1) h
  fails_so e.NoMemory ns1 r h = tt

  node_stands : (ms : List Noted) (e0 : Sprout) (total : List ℕ → ℕ) (lengths : List ℕ)
      (trees : Trees Begun) (after : ℕ)
      → laid (row es ns) (Ok (record {
        node = record { ctor = ctor; at = at; length = total lengths; context = own; notes = ms };
        below = trees;
        after = after;
      }))
      ≡ finished (ns ++ ms) (measured total (laid_grove (row (es ++ e0 ∷ []) (ns ++ ms))
      (Ok (record { lengths = lengths; trees = trees; after = after }))))
  node_stands ms e0 total lengths trees after =
      let noted : length ms ≡ length (ns ++ ms) - length ns = omega (arith, length-append ns ms) in
      let below : count trees ≡ length (es ++ e0 ∷ [] ++ sprouts trees) - length es - 1 =
      omega (arith, length-append (es ++ e0 ∷ []) (sprouts trees), length-append es (e0 ∷ []), length_sprouts trees) in
      let one = sprout ctor at (total lengths) own (length ms) (count trees) in
      let two = sprout ctor at (total lengths) own (length (ns ++ ms) - length ns)
      (length (es ++ e0 ∷ [] ++ sprouts trees) - length es - 1) in
      let same : one ≡ two =
      ap (λ n. sprout ctor at (total lengths) own n (count trees)) noted
      ∙ ap (λ b. sprout ctor at (total lengths) own (length (ns ++ ms) - length ns) b) below in
      let nodes : es ++ (one ∷ (sprouts trees ++ []))
      ≡ slice_set (es ++ e0 ∷ [] ++ sprouts trees) (length es) two =
      ap (λ l. es ++ (one ∷ l)) (append-nil (sprouts trees))
      ∙ ap (λ x. es ++ (x ∷ sprouts trees)) same ∙ sym (set_middle es e0 two (sprouts trees)) in
      let notes : ns ++ (ms ++ (all_notes trees ++ [])) ≡ ns ++ ms ++ all_notes trees =
      ap (λ l. ns ++ (ms ++ l)) (append-nil (all_notes trees))
      ∙ sym (append_assoc ns ms (all_notes trees)) in
      ap (λ l. Ok (flat (total lengths) (row l (ns ++ (ms ++ (all_notes trees ++ [])))) after)) nodes
      ∙ ap (λ l. Ok (flat (total lengths) (row (slice_set (es ++ e0 ∷ [] ++ sprouts trees) (length es) two) l) after)) notes

  -- the operands of a node whose actions came to this
  opened_from : (ms : List Noted) (e0 : Sprout) (total : List ℕ → ℕ) (r : Result Grove Fault)
      → laid (row es ns) (r >>= λ below. Ok (record {
        node = record { ctor = ctor; at = at; length = total below.lengths; context = own; notes = ms };
        below = below.trees;
        after = below.after;
      }))
      ≡ finished (ns ++ ms) (measured total (laid_grove (row (es ++ e0 ∷ []) (ns ++ ms)) r))
  opened_from ms e0 total (Ok g) = node_stands ms e0 total g.lengths g.trees g.after
  opened_from ms e0 total (Err fault) = refl

module _ (grow : Grower) (ctor at : ℕ) (m : Meaning) (es : List Sprout) (ns : List Noted) where
  changes_from : (ns1 : List Noted) (own : ℕ) (e0 : Sprout) (c : Result Changed Fault)
      → with_front ns c ≡ Ok (changed own ns1)
      → laid (row es ns) (c >>= with_operands grow ctor at m)
      ≡ finished ctor at own es ns ns1 (measured m.length
      (laid_grove (row (es ++ e0 ∷ []) ns1) (operands grow m.slots at [] own)))
  changes_from ns1 own e0 (Ok (changed x ms)) h =
      let a : x ≡ own = cc in
      let b : ns ++ ms ≡ ns1 = cc in
      subst (λ y. laid (row es ns) (with_operands grow ctor at m (changed y ms))
      ≡ finished ctor at own es ns ns1 (measured m.length
      (laid_grove (row (es ++ e0 ∷ []) ns1) (operands grow m.slots at [] own)))) (sym a)
      (subst (λ n. laid (row es ns) (with_operands grow ctor at m (changed own ms))
      ≡ finished ctor at own es ns n (measured m.length
      (laid_grove (row (es ++ e0 ∷ []) n) (operands grow m.slots at [] own)))) b
      (opened_from ctor at own es ns ms e0 m.length (operands grow m.slots at [] own)))
  changes_from ns1 own e0 (Err fault) h = cc

  changes_fail : (error : DecodeError) (c : Result Changed Fault) → Fails error (with_front ns c)
      → Fails error (laid (row es ns) (c >>= with_operands grow ctor at m))
  changes_fail (e.Fault fault) (Ok (changed x ms)) h = cc
  changes_fail (e.Fault fault) (Err other) h =
      let same : other ≡ fault = cc in ap Err same
  changes_fail e.NoMemory c h = tt

module _ (t : Tables) (grow : Grower) (i : Input) (at context ctor : ℕ) (p : Plan)
    (es : List Sprout) (ns : List Noted) where
  abbrev pub acted : Result Changed Fault
  acted = in_turn (early_step t (site_at i ctor at [] context 0)) p.early (changed context ns)

  -- a node whose actions came to this
  pub opened_as : (ns1 : List Noted) (own : ℕ) (e0 : Sprout) → acted ≡ Ok (changed own ns1)
      → laid (row es ns) (opened grow i at context (chosen ctor (done t p)))
      ≡ finished ctor at own es ns ns1 (measured (λ lengths. extent p.length lengths)
      (laid_grove (row (es ++ e0 ∷ []) ns1) (operands grow (map done_slot p.slots.items) at [] own)))
  opened_as ns1 own e0 h =
      changes_from grow ctor at (done t p) es ns ns1 own e0
      (in_turn (early_step t (site_at i ctor at [] context 0)) p.early (changed context []))
      (sym (from_none t (site_at i ctor at [] context 0) p.early ns context) ∙ h)

  pub opened_fails : (error : DecodeError) → Fails error acted
      → Fails error (laid (row es ns) (opened grow i at context (chosen ctor (done t p))))
  opened_fails error h =
      changes_fail grow ctor at (done t p) es ns error
      (in_turn (early_step t (site_at i ctor at [] context 0)) p.early (changed context []))
      (subst (Fails error) (from_none t (site_at i ctor at [] context 0) p.early ns context) h)

-- what is written in the end
pub finished_so : (ctor at own len after : ℕ) (es N : List Sprout) (ns ns1 NS : List Noted) (place noted count : ℕ)
    → place ≡ length es → noted ≡ length ns1 - length ns → count ≡ length N
    → ◌≡◌ {A = Result Flat Fault} (Ok (flat len (row (slice_set N (length es)
    (sprout ctor at len own (length ns1 - length ns) (length N - length es - 1))) NS) after))
    (Ok (flat len (row (slice_set N place (sprout ctor at len own noted (count - place - 1))) NS) after))
finished_so ctor at own len after es N ns ns1 NS place noted count a b c = rw (a, b, c) refl

module _ (i : Input) (table at context : ℕ) where
  pub grow_as : (left : ℕ) (x : Chosen) → (left ≡ 0 → ⊥)
      → or_fault (NoConstructor table at) (chosen_at i table at context) ≡ Ok x
      → grow i left table at context ≡ opened (grow i (left - 1)) i at context x
  unfolding grow
  grow_as zero x some h = absurd (some refl)
  grow_as (suc n) x some h =
      let less : suc n - 1 ≡ n = omega arith in
      ap (λ r. r >>= opened (grow i n) i at context) h
      ∙ ap (λ m. opened (grow i m) i at context x) (sym less)

  pub grow_fails : (left : ℕ) (error : DecodeError) (r : Row) → (left ≡ 0 → ⊥)
      → Fails error (or_fault (NoConstructor table at) (chosen_at i table at context))
      → Fails error (laid r (grow i left table at context))
  unfolding grow
  grow_fails zero error r some h = absurd (some refl)
  grow_fails (suc n) (e.Fault fault) r some h =
      ap (λ o. laid r (o >>= opened (grow i n) i at context)) h
  grow_fails (suc n) e.NoMemory r some h = tt

  pub grow_none : (left : ℕ) (r : Row) → left ≡ 0
      → laid r (grow i left table at context) ≡ Err (NoConstructor table at)
  unfolding grow
  grow_none zero r h = refl
  grow_none (suc n) r h = absurd (omega arith)
