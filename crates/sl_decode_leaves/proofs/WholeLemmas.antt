-- What is made of a whole pattern, part by part.
use Rattle.std.proofs.Common.{◌≡◌, ℕ, ◌+◌, ◌<◌, ◌≤◌, List, [], ◌∷◌, ◌++◌, length, get_or, drop, max, Option, None, Some, Result, Ok, Err, refl, sym, ap, subst, ◌∙◌, append_assoc, append-nil, arith}
use Rattle.std.proofs.lemmas.List.{drop_more, map-append}
use Rattle.std.proofs.Math.ListN.{drop_of_length-le}
use Rattle.sl_ast.specs.Trees.{Constructor, Pattern}
use Rattle.sl_ast.specs.Unfolding as u
use Rattle.sl_ast.specs.Views.{head_of}
use Rattle.sl_decode_meaning.specs.Actions.{Own, look}
use Rattle.sl_decode_meaning.specs.Outcomes.{◌>>=◌, in_turn}
use Rattle.sl_decode_meaning.specs.Places.{leaves}
use Rattle.sl_decode_meaning.specs.Values.{Site}
use Rattle.sl_decode_meaning.specs.declared.faults.Fault.{Fault}
use Rattle.sl_decode_leaves.specs.Extents.{extent, leaf_at, leaves_at}
use Rattle.sl_decode_leaves.specs.Looks.{look_step}
use Rattle.sl_decode_leaves.specs.Wholes.{AreLeavesOf, IsNothing, IsWhole, Joins, leaves_if_written, length_if_written}
use Rattle.sl_decode_leaves.specs.declared.pattern_leaves.PatternLeaves.{PatternLeaves}
use Rattle.sl_decode_leaves.specs.declared.whole.Whole.{Whole}
use Rattle.sl_decode_leaves.proofs.RunLemmas.{bind_alike}
use Rattle.sl_spec.specs.Tables.{Operand}
use Rattle.sl_spec.specs.Unfolded.{heads_of, under}
use Rattle.sl_spec.specs.declared.tables.Tables.{Tables}
use Rattle.sl_spec.specs.declared.unfolded.Around.{Around}

-- ---- steps, one behind the other

pub bind_again : {A B C : Type 0} (r : Result A Fault) (f : A → Result B Fault) (g : B → Result C Fault)
    → ((r >>= f) >>= g) ≡ (r >>= λ x. f x >>= g)
bind_again (Ok x) f g = refl
bind_again (Err fault) f g = refl

pub turn_append : {A X : Type 0} (step : A → X → Result X Fault) (xs ys : List A) (x : X)
    → in_turn step (xs ++ ys) x ≡ (in_turn step xs x >>= in_turn step ys)
turn_append step [] ys x = refl
turn_append step (a ∷ as') ys x =
    bind_alike (step a x) (in_turn step (as' ++ ys)) (λ y. in_turn step as' y >>= in_turn step ys) (turn_append step as' ys)
    ∙ sym (bind_again (step a x) (in_turn step as') (in_turn step ys))

module _ {A X : Type 0} (step : A → X → Result X Fault) (all : List A) (i : ℕ) where
  pub looks_next : (a b : A) (old new : List A) → i < length all → a ≡ get_or all i a → new ≡ old ++ b ∷ []
      → ((x : X) → step b x ≡ step a x) → (x : X) → in_turn step (new ++ drop (i + 1) all) x ≡ in_turn step (old ++ drop i all) x
  looks_next a b old new below is added same x =
      let rest = drop (i + 1) all in
      let cut : drop i all ≡ a ∷ rest = drop_more all i a below ∙ ap (λ (y : A). y ∷ rest) (sym is) in
      ap (λ ys. in_turn step (ys ++ rest) x) added ∙ ap (λ ys. in_turn step ys x) (append_assoc old (b ∷ []) rest)
      ∙ turn_append step old (b ∷ rest) x
      ∙ bind_alike (in_turn step old x) (in_turn step (b ∷ rest)) (in_turn step (a ∷ rest)) (λ y. ap (λ r. r >>= in_turn step rest) (same y))
      ∙ sym (turn_append step old (a ∷ rest) x) ∙ sym (ap (λ ys. in_turn step (old ++ ys) x) cut)

  pub looks_end : (made : List A) → length all ≤ i → (x : X) → in_turn step made x ≡ in_turn step (made ++ drop i all) x
  looks_end made end x = sym (ap (λ ys. in_turn step ys x) (ap (λ ys. made ++ ys) (drop_of_length-le all end) ∙ append-nil made))

-- ---- blocks, one inside the other

max_again : (a b c : ℕ) → max (max a b) c ≡ max a (max b c)
max_again a b c = search arith

max_none : (a b : ℕ) → a ≡ 0 → max a b ≡ b
max_none a b none = search (arith, none)

module _ (t : Tables) (os : List Operand) where
  leaves_under : (lengths : List ℕ) (h : Option Pattern) (p : Pattern) → leaves_if_written t os lengths (Some (u.under h p))
      ≡ leaves_if_written t os lengths h ++ leaves_if_written t os lengths (Some p)
  unfolding leaves
  leaves_under lengths None p = refl
  leaves_under lengths (Some h) p = refl

  length_under : (lengths : List ℕ) (h : Option Pattern) (p : Pattern) → length_if_written t os lengths (Some (u.under h p))
      ≡ max (length_if_written t os lengths h) (length_if_written t os lengths (Some p))
  length_under lengths None p = search arith
  length_under lengths (Some h) p = refl

  -- What was made, with what stands inside, is that of a whole.
  pub record IsWith (w : Whole) (p whole : Pattern) : Type 0 where
    pub leaves : (lengths : List ℕ) → leaves_at lengths w.leaves ++ leaves_if_written t os lengths (Some p) ≡ leaves_if_written t os lengths (Some whole)
    pub looks : (s : Site) (c : Own) → (in_turn (look_step t s) w.looks.items c >>= in_turn (look t os s) (leaves_if_written t os s.lengths (Some p)))
        ≡ in_turn (look t os s) (leaves_if_written t os s.lengths (Some whole)) c
    pub length : (lengths : List ℕ) → max (extent w.length lengths) (length_if_written t os lengths (Some p)) ≡ length_if_written t os lengths (Some whole)

  begun : (w : Whole) (p : Pattern) → IsNothing w → IsWith w p p
  begun w p none = record {
    leaves = λ lengths. ap (λ ls. leaves_at lengths ls ++ leaves_if_written t os lengths (Some p)) none.leaves;
    looks = λ s c. ap (λ ls. in_turn (look_step t s) ls c >>= in_turn (look t os s) (leaves_if_written t os s.lengths (Some p))) none.looks;
    length = λ lengths. max_none (extent w.length lengths) (length_if_written t os lengths (Some p)) (none.length lengths);
  }

  module _ (w more : Whole) (x : PatternLeaves) (joins : Joins w x more) (whole : Pattern) where
    one_inside : (h : Option Pattern) (p : Pattern) → AreLeavesOf t os h x → IsWith w (u.under h p) whole → IsWith more p whole
    one_inside h p are so_far = record {
      leaves = λ lengths.
          let its = leaves_if_written t os lengths h in
          let rest = leaves_if_written t os lengths (Some p) in
          ap (λ ls. leaves_at lengths ls ++ rest) joins.leaves ∙ ap (λ ls. ls ++ rest) (map-append (leaf_at lengths) w.leaves x.leaves.items)
          ∙ append_assoc (leaves_at lengths w.leaves) (leaves_at lengths x.leaves.items) rest
          ∙ ap (λ ls. leaves_at lengths w.leaves ++ (ls ++ rest)) (are.leaves lengths)
          ∙ sym (ap (λ ls. leaves_at lengths w.leaves ++ ls) (leaves_under lengths h p)) ∙ so_far.leaves lengths;
      looks = λ s c.
          let step = look_step t s in
          let said = look t os s in
          let its = leaves_if_written t os s.lengths h in
          let rest = leaves_if_written t os s.lengths (Some p) in
          ap (λ r. r >>= in_turn said rest) (joins.looks t s c ∙ turn_append step w.looks.items x.looks.items c)
          ∙ bind_again (in_turn step w.looks.items c) (in_turn step x.looks.items) (in_turn said rest)
          ∙ bind_alike (in_turn step w.looks.items c) (λ y. in_turn step x.looks.items y >>= in_turn said rest) (in_turn said (leaves_if_written t os s.lengths (Some (u.under h p))))
          (λ y. ap (λ r. r >>= in_turn said rest) (are.looks s y) ∙ sym (turn_append said its rest y) ∙ sym (ap (λ ls. in_turn said ls y) (leaves_under s.lengths h p)))
          ∙ so_far.looks s c;
      length = λ lengths.
          let its = length_if_written t os lengths h in
          let rest = length_if_written t os lengths (Some p) in
          ap (λ n. max n rest) (joins.length lengths) ∙ max_again (extent w.length lengths) (extent x.length lengths) rest
          ∙ ap (λ n. max (extent w.length lengths) (max n rest)) (are.length lengths)
          ∙ sym (ap (max (extent w.length lengths)) (length_under lengths h p)) ∙ so_far.length lengths;
    }

    pub at_last : (p : Pattern) → AreLeavesOf t os (Some p) x → IsWith w p whole → IsWhole t os whole more
    at_last p are so_far = record {
      leaves = λ lengths. ap (leaves_at lengths) joins.leaves ∙ map-append (leaf_at lengths) w.leaves x.leaves.items
          ∙ ap (λ ls. leaves_at lengths w.leaves ++ ls) (are.leaves lengths) ∙ so_far.leaves lengths;
      looks = λ s c.
          let step = look_step t s in
          joins.looks t s c ∙ turn_append step w.looks.items x.looks.items c
          ∙ bind_alike (in_turn step w.looks.items c) (in_turn step x.looks.items) (in_turn (look t os s) (leaves_if_written t os s.lengths (Some p))) (are.looks s)
          ∙ so_far.looks s c;
      length = λ lengths. joins.length lengths ∙ ap (max (extent w.length lengths)) (are.length lengths) ∙ so_far.length lengths;
    }

  module _ (c : Constructor) (as' : List Around) where
    -- the pattern of what stands inside the first of these blocks
    abbrev pub inside : ℕ → Pattern
    inside i = (under (heads_of (drop i as')) c).pattern

    pub at_first : (w : Whole) → IsNothing w → IsWith w (inside 0) (inside 0)
    at_first w none = begun w (inside 0) none

    pub one_block : (i : ℕ) (a : Around) (w more : Whole) (x : PatternLeaves) → i < length as' → a ≡ get_or as' i a → Joins w x more
        → AreLeavesOf t os (head_of a.head.now).pattern x → IsWith w (inside i) (inside 0) → IsWith more (inside (i + 1)) (inside 0)
    one_block i a w more x below is joins are so_far =
        let cut : drop i as' ≡ a ∷ drop (i + 1) as' = drop_more as' i a below ∙ ap (λ (y : Around). y ∷ drop (i + 1) as') (sym is) in
        one_inside w more x joins (inside 0) (head_of a.head.now).pattern (inside (i + 1)) are
        (subst (λ (bs : List Around). IsWith w (under (heads_of bs) c).pattern (inside 0)) cut so_far)

    pub no_block : (i : ℕ) (w : Whole) → length as' ≤ i → IsWith w (inside i) (inside 0) → IsWith w c.pattern (inside 0)
    no_block i w end so_far = subst (λ (bs : List Around). IsWith w (under (heads_of bs) c).pattern (inside 0)) (drop_of_length-le as' end) so_far
