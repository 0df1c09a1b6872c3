-- What grows over bytes grows over all bytes that are the same as far as its nodes look.
use Rattle.std.proofs.Common.{◌≡◌, ℕ, zero, suc, ◌+◌, ◌≤◌, max, List, [], ◌∷◌, ◌++◌, take, Option}
use Rattle.std.proofs.Common.{Some, None, Ok, refl, sym, ap, subst, ◌∙◌, append_assoc, append-nil}
use Rattle.std.proofs.Common.{arith}
use Rattle.std.specs.Prelude.{option_and_then}
use Rattle.std.proofs.lemmas.Option.{same_Some}
use Rattle.sl_decode_meaning.specs.Actions.{Changed, changed}
use Rattle.sl_decode_meaning.specs.Decoding.{Chosen, Grove, Grown, Grower, Input, chosen, chosen_at, grow}
use Rattle.sl_decode_meaning.specs.Decoding.{opened, operands, point_at, site_at, with_meaning}
use Rattle.sl_decode_meaning.specs.Decoding.{with_operands}
use Rattle.sl_decode_meaning.specs.Laws.{input}
use Rattle.sl_decode_meaning.specs.Choices.{Choice}
use Rattle.sl_decode_meaning.specs.Meanings.{Meaning, Slot, slot}
use Rattle.sl_decode_meaning.specs.Outcomes.{◌>>=◌, or_fault}
use Rattle.sl_decode_meaning.specs.Trees.{Begun, Trees, lengths_of, none, tree}
use Rattle.sl_decode_meaning.specs.declared.faults.Fault.TheVariants.{NoConstructor}
use Rattle.sl_decode_meaning.specs.declared.notes.Noted.{Noted}
use Rattle.sl_faithful_reach.proofs.MeaningLemmas.{LooksAlike}
use Rattle.sl_faithful_reach.proofs.OutcomeLemmas.{came, goes, same_ok, was_some}
use Rattle.sl_faithful_reach.proofs.WindowLemmas.{window}
use Rattle.sl_faithful_reach.specs.Sight.{farthest, reach}
use Rattle.sl_spec.specs.FieldValues.{token_integer}
use Rattle.sl_word.specs.declared.word.Endian.TheVariants.{Big}

-- how far nodes look before their action names have values
abbrev pub begun_reach : Begun → ℕ
begun_reach n = reach n.at n.length

-- The length of each node is what its constructor says by those of its operands.
abbrev pub Measured : (ℕ → Option Meaning) → Trees Begun → Type 0
Measured says none = Unit {0}
Measured says (tree n below behind) =
    ((m : Meaning) → says n.ctor ≡ Some m → n.length ≡ m.length (lengths_of below))
    × Measured says below × Measured says behind

abbrev behind : Grown → Grove → Grove
behind first o = record {
  lengths = o.lengths;
  trees = tree first.node first.below o.trees;
  after = o.after;
}

abbrev grown_of : ℕ → ℕ → Meaning → ℕ → List Noted → Grove → Grown
grown_of ctor at m y notes o = record {
  node = record { ctor = ctor; at = at; length = m.length o.lengths; context = y; notes = notes };
  below = o.trees;
  after = o.after;
}

-- ---- operands

module _ (says : ℕ → Option Meaning) (n : ℕ) where
  -- What one grows whose nodes look no further than n, another grows too.
  abbrev pub Carries : Grower → Grower → Type 0
  Carries a b = (table at x : ℕ) (g : Grown) → a table at x ≡ Ok g
      → farthest begun_reach (tree g.node g.below none) ≤ n
      → (b table at x ≡ Ok g) × Measured says (tree g.node g.below none)

  operands_carried : (a b : Grower) → Carries a b
      → (slots : List Slot) (at : ℕ) (lengths : List ℕ) (x : ℕ) (o : Grove)
      → operands a slots at lengths x ≡ Ok o → farthest begun_reach o.trees ≤ n
      → (operands b slots at lengths x ≡ Ok o) × (o.lengths ≡ lengths ++ lengths_of o.trees)
      × Measured says o.trees
  operands_carried a b carries [] at lengths x o is within =
      let e = same_ok (record { lengths = lengths; trees = none; after = x }) o is in (
        is,
        subst (λ (o : Grove). o.lengths ≡ lengths ++ lengths_of o.trees) e
            (sym (append-nil lengths)),
        subst (λ (o : Grove). Measured says o.trees) e tt,
      )
  operands_carried a b carries (slot table place ∷ slots) at lengths x o is within =
      let f = came (a table (at + place lengths) x) _ o is in
      let longer = lengths ++ f.0.node.length ∷ [] in
      let r = came (operands a slots at longer f.0.after) _ o f.2 in
      let e = same_ok (behind f.0 r.0) o r.2 in
      let fits : farthest begun_reach (tree f.0.node f.0.below r.0.trees) ≤ n =
      subst (λ (o : Grove). farthest begun_reach o.trees ≤ n) (sym e) within in
      let first = carries table (at + place lengths) x f.0 f.1 (omega arith) in
      let others = operands_carried a b carries slots at longer f.0.after r.0 r.1 (omega arith) in (
        goes (b table (at + place lengths) x) _ f.0 o first.0
            (goes (operands b slots at longer f.0.after) _ r.0 o others.0 r.2),
        subst (λ (o : Grove). o.lengths ≡ lengths ++ lengths_of o.trees) e
            (others.1 ∙ append_assoc lengths (f.0.node.length ∷ []) (lengths_of r.0.trees)),
        subst (λ (o : Grove). Measured says o.trees) e (first.1.0, first.1.1, others.2),
      )

  -- ---- nodes

  -- the lengths of the operands by which the node's reach is within n, and what the other grows
  pub record Opens (b : Grower) (ctor at : ℕ) (m : Meaning) (c : Changed) (g : Grown) : Type 0 where
    pub lengths : List ℕ
    pub within : reach at (m.length lengths) ≤ n
    pub opens : with_operands b ctor at m c ≡ Ok g
    pub measured : Measured says (tree g.node g.below none)

  node_carried : (a b : Grower) → Carries a b → (ctor at : ℕ) (m : Meaning) → says ctor ≡ Some m
      → (c : Changed) (g : Grown)
      → with_operands a ctor at m c ≡ Ok g
      → farthest begun_reach (tree g.node g.below none) ≤ n → Opens b ctor at m c g
  node_carried a b carries ctor at m said (changed y notes) g is within =
      let r = came (operands a m.slots at [] y) _ g is in
      let e = same_ok (grown_of ctor at m y notes r.0) g r.2 in
      let fits : max (reach at (m.length r.0.lengths))
      (max (farthest begun_reach r.0.trees) 0) ≤ n =
      subst (λ (g : Grown). farthest begun_reach (tree g.node g.below none) ≤ n) (sym e) within in
      let inner = operands_carried a b carries m.slots at [] y r.0 r.1 (omega arith) in record {
        lengths = r.0.lengths;
        within = omega arith;
        opens = goes (operands b m.slots at [] y) _ r.0 g inner.0 r.2;
        measured = subst (λ (g : Grown). Measured says (tree g.node g.below none)) e (
          λ own is_said. ap m.length inner.1
              ∙ ap (λ (m : Meaning). m.length (lengths_of r.0.trees))
              (same_Some m own (sym said ∙ is_said)),
          inner.2,
          tt,
        );
      }

-- ---- choices

abbrev ctor_or : ℕ → Option Chosen → ℕ
ctor_or n None = n
ctor_or n (Some (chosen ctor m)) = ctor

abbrev meaning_or : Meaning → Option Chosen → Meaning
meaning_or m None = m
meaning_or m (Some (chosen ctor own)) = own

module _ (says : ℕ → Option Meaning) (ctor : ℕ) (m : Meaning) where
  meant_by : (number : ℕ) (found : Option Meaning) → says number ≡ found
      → with_meaning number found ≡ Some (chosen ctor m) → says ctor ≡ Some m
  meant_by number None is chosen_so = absurd (cc)
  meant_by number (Some own) is chosen_so =
      ap says (sym (ap (ctor_or number) chosen_so)) ∙ is
      ∙ ap (λ found. Some (meaning_or own found)) chosen_so

  is_said : (found : Option ℕ)
      → option_and_then (λ ctor. with_meaning ctor (says ctor)) found ≡ Some (chosen ctor m)
      → says ctor ≡ Some m
  is_said None chosen_so = absurd (cc)
  is_said (Some number) chosen_so = meant_by number (says number) refl chosen_so

-- ---- both bytes

module _ (choose : Choice) (says : ℕ → Option Meaning) (one other : List ℕ) (address n : ℕ)
    (alike : take n one ≡ take n other)
    (looks : (ctor : ℕ) (m : Meaning) → says ctor ≡ Some m
    → LooksAlike (input choose says one address) (input choose says other address) n m) where
  abbrev before : Input
  before = input choose says one address

  abbrev after : Input
  after = input choose says other address

  point_alike : (at x : ℕ) → at + 16 ≤ n → point_at one at x ≡ point_at other at x
  point_alike at x within = λ i. record {
    bytes = token_integer Big (window n one other alike at 16 within i);
    context = x;
  }

  choice_alike : (table at x : ℕ) → at + 16 ≤ n
      → chosen_at before table at x ≡ chosen_at after table at x
  choice_alike table at x within =
      ap (λ p. option_and_then (λ ctor. with_meaning ctor (says ctor)) (choose table p))
      (point_alike at x within)

  opened_carried : (a b : Grower) → Carries says n a b
      → (table at x : ℕ) (choice : Chosen) (g : Grown)
      → chosen_at before table at x ≡ Some choice → opened a before at x choice ≡ Ok g
      → farthest begun_reach (tree g.node g.below none) ≤ n
      → ((or_fault (NoConstructor table at) (chosen_at after table at x) >>= opened b after at x)
      ≡ Ok g) × Measured says (tree g.node g.below none)
  opened_carried a b carries table at x (chosen ctor m) g found is within =
      let said = is_said says ctor m (choose table (point_at one at x)) found in
      let early = m.early (site_at before ctor at [] x 0) (changed x []) in
      let c = came early (with_operands a ctor at m) g is in
      let o = node_carried says n a b carries ctor at m said c.0 g c.2 within in
      let fits = o.within in
      let same = (looks ctor m said).early ctor at x o.lengths (changed x []) o.within in (
        goes (or_fault (NoConstructor table at) (chosen_at after table at x)) (opened b after at x)
            (chosen ctor m) g
            (ap (or_fault (NoConstructor table at))
            (sym (choice_alike table at x (omega arith)) ∙ found))
            (goes (m.early (site_at after ctor at [] x 0) (changed x [])) (with_operands b ctor at m)
            c.0 g (sym same ∙ c.1) o.opens),
        o.measured,
      )

  pub grow_carries : (levels : ℕ) → Carries says n (grow before levels) (grow after levels)
  unfolding grow
  grow_carries zero table at x g is within = absurd (cc)
  grow_carries (suc levels) table at x g is within =
      let c = came (or_fault (NoConstructor table at) (chosen_at before table at x))
      (opened (grow before levels) before at x) g is in
      opened_carried (grow before levels) (grow after levels) (grow_carries levels) table at x c.0 g
      (was_some (NoConstructor table at) (chosen_at before table at x) c.0 c.1) c.2 within
