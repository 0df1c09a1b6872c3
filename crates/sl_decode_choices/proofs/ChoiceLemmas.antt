-- The choice of each table at each point: that it is one, and that sound tables have one.
use Rattle.std.proofs.Common.{◌≡◌, ℕ, ◌^◌, ◌%◌, ◌<◌, ◌≤◌, ◌⊎◌, inl, inr, List, length, Option, Some, None, refl, sym, ap, subst, ◌∙◌, arith}
use Rattle.std.proofs.Math.Nat.{mod-lt}
use Rattle.std.proofs.lemmas.Bool.{cases_eq, cases_lt}
use Rattle.std.proofs.lemmas.Nat.{pow_pos}
use Rattle.std.proofs.lemmas.Option.{same_Some}
use Rattle.sl_ast.specs.Trees.{Constructor}
use Rattle.sl_ast.specs.Unfolding.{Placed}
use Rattle.sl_decode_choices.specs.Choices.{Chooses, IsChoiceOf, in_range}
use Rattle.sl_decode_choices.specs.Laws.{ChoiceIsOne, SomeChoice}
use Rattle.sl_spec_constructors.specs.Listed.{AreListed}
use Rattle.sl_cube.specs.Points.{InRange}
use Rattle.sl_cube.specs.declared.Point.{Point}
use Rattle.sl_decode_meaning.specs.Choices.{Choice}
use Rattle.sl_base_surely.specs.Surely.{Surely}
use Rattle.sl_base_surely.proofs.SurelyLemmas.{surely_each, surely_either, surely_map}
use Rattle.sl_cube_sets.specs.Sets.{HasAt, IsChoice, IsWithin, LiesBelow}
use Rattle.sl_conflict.specs.Soundness.{IsSound, has_in, numbers}
use Rattle.sl_spec.specs.declared.tables.Tables.{Tables}

-- ---- it is one

module _ {X : Type 0} (has : X → Point → Type 0) (xs : List X) where
  -- two sets don't lie properly within each other
  never_both : (i j : ℕ) → LiesBelow has xs i j → LiesBelow has xs j i → ⊥
  never_both i j a b =
      let inner : b.outer ≡ a.inner = same_Some b.outer a.inner (sym b.outer_is ∙ a.inner_is) in
      let outer : b.inner ≡ a.outer = same_Some b.inner a.outer (sym b.inner_is ∙ a.outer_is) in
      b.not_around (subst (λ (x : X). IsWithin has x b.inner) (sym inner) (subst (λ (y : X). IsWithin has a.inner y) (sym outer) a.within))

  one_index : (p : Point) (i j : ℕ) → IsChoice has xs p i → IsChoice has xs p j → i ≡ j
  one_index p i j h k = elim (cases_eq i j) [
    | inl same ↦ same
    | inr other ↦ absurd (never_both i j (h.below j k.has_point (λ e. other (sym e))) (k.below i h.has_point other))
  ]

one_choice : (t : Tables) (cs : List (Placed Constructor)) (table : ℕ) (p : Point) (a b : Option ℕ) → Chooses t cs table p a → Chooses t cs table p b → a ≡ b
one_choice t cs table p None None h k = refl
one_choice t cs table p None (Some j) h k = absurd (h j k.has_point)
one_choice t cs table p (Some i) None h k = absurd (k i h.has_point)
one_choice t cs table p (Some i) (Some j) h k = ap Some (one_index (has_in t cs table) (numbers t) p i j h k)

pub choice_is_one : ChoiceIsOne
choice_is_one t cs one other h k table p = one_choice t cs table (in_range p) (one table p) (other table p) (h table p) (k table p)

-- ---- there is one

module _ (t : Tables) (cs : List (Placed Constructor)) (listed : AreListed t cs) (sound : IsSound t cs) where
  -- a constructor or none is chosen
  abbrev Chosen : ℕ → Point → Type 0
  Chosen table p = (o : Option ℕ) × Chooses t cs table p o

  at_point : (table : ℕ) → table < length t.tables → (p : Point) → InRange p → Surely (Chosen table p)
  at_point table below p range = surely_map by (surely_either Matched)
    where
      Matched : Type 0
      Matched = (i : ℕ) × HasAt (has_in t cs table) (numbers t) p i

      by : Matched ⊎ (Matched → ⊥) → Chosen table p
      by (inl m) = let found = sound.settled table below p range m.0 m.1 in (Some found.0, found.1)
      by (inr none) = (None, λ i has. none (i, has))

  abbrev point : ℕ → ℕ → Point
  point bytes context = record { bytes = bytes; context = context }

  -- so of all points
  abbrev AllChosen : ℕ → Type 0
  AllChosen table = (b : ℕ) → b < 2 ^ 128 → (c : ℕ) → c < 2 ^ 64 → Chosen table (point b c)

  at_table : (table : ℕ) → table < length t.tables → Surely (AllChosen table)
  at_table table below =
      surely_each (λ b. (c : ℕ) → c < 2 ^ 64 → Chosen table (point b c)) (2 ^ 128) (λ b bytes.
      surely_each (λ c. Chosen table (point b c)) (2 ^ 64) (λ c context.
      at_point table below (point b c) (bytes, context)))

  -- a table that isn't there has no constructors
  at_none : (table : ℕ) (p : Point) → length t.tables ≤ table → Chosen table p
  at_none table p past = (
    None,
    λ i has.
        let is_of = has.2.0 in
        let below = listed.below has.0 is_of.ctor is_of.ctor_is in
        absurd (omega (arith, below, is_of.of_table, past)),
  )

  by_tables : ((table : ℕ) → table < length t.tables → AllChosen table) → (choose : Choice) × IsChoiceOf t cs choose
  by_tables all = (λ table p. (chosen table p).0, λ table p. (chosen table p).1)
    where
      chosen : (table : ℕ) (p : Point) → Chosen table (in_range p)
      chosen table p = elim (cases_lt table (length t.tables)) [
        | inl below ↦ all table below (p.bytes % 2 ^ 128) (mod-lt p.bytes (pow_pos 128)) (p.context % 2 ^ 64) (mod-lt p.context (pow_pos 64))
        | inr past ↦ at_none table (in_range p) past
      ]

  all_tables : Surely ((choose : Choice) × IsChoiceOf t cs choose)
  all_tables = surely_map by_tables (surely_each AllChosen (length t.tables) at_table)

pub some_choice : SomeChoice
some_choice t cs listed sound = all_tables t cs listed sound
