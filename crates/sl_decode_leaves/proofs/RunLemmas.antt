-- The steps of a plan do what is said, one by one.
use Rattle.std.proofs.Common.{◌≡◌, ℕ, ◌<◌, ◌≤◌, ◌+◌, List, [], ◌∷◌, ◌++◌, length, drop, get_or}
use Rattle.std.proofs.Common.{drop-cons, add-one, Result, Ok, Err, Option, Some, None, refl, sym}
use Rattle.std.proofs.Common.{ap, ◌∙◌, append_assoc, append-nil, map, subst}
use Rattle.std.proofs.Math.ListN.{drop_of_length-le}
use Rattle.sl_decode_meaning.specs.Outcomes.{◌>>=◌, in_turn}
use Rattle.sl_decode_meaning.specs.declared.faults.Fault.{Fault}
use Rattle.sl_decode_leaves.specs.Steps.{items, maybe}

pub bind_alike : {A B : Type 0} (r : Result A Fault) (f g : A → Result B Fault)
    → ((x : A) → f x ≡ g x) → (r >>= f) ≡ (r >>= g)
bind_alike (Ok x) f g h = h x
bind_alike (Err fault) f g h = refl

module _ {A B X : Type 0} (said : A → X → Result X Fault) (done : B → X → Result X Fault) where
  -- one more thing that is said, for which there is a step or nothing is to be done
  one_more : (o : Option B) (a : A) (rest : List A) (more : List B)
      → ((x : X) → maybe done o x ≡ said a x)
      → ((x : X) → in_turn done more x ≡ in_turn said rest x)
      → (x : X) → in_turn done (items o ++ more) x ≡ in_turn said (a ∷ rest) x
  one_more None a rest more h k x = k x ∙ ap (λ r. r >>= in_turn said rest) (h x)
  one_more (Some b) a rest more h k x = ap (λ r. r >>= in_turn done more) (h x)
      ∙ bind_alike (said a x) (in_turn done more) (in_turn said rest) k

-- Whatever steps follow, if they do what is left, all do the whole.
pub record IsFront {A B X : Type 0} (said : A → X → Result X Fault) (done : B → X → Result X Fault)
    (whole left : List A) (made : List B) : Type 0 where
  pub on : (more : List B) → ((x : X) → in_turn done more x ≡ in_turn said left x)
      → (x : X) → in_turn done (made ++ more) x ≡ in_turn said whole x

module _ {A B X : Type 0} (said : A → X → Result X Fault) (done : B → X → Result X Fault)
    (whole : List A) where
  pub begun : IsFront said done whole whole []
  begun = record { on = λ more h. h }

  went_on : (a : A) (left : List A) (made : List B) (o : Option B)
      → ((x : X) → maybe done o x ≡ said a x)
      → IsFront said done whole (a ∷ left) made → IsFront said done whole left (made ++ items o)
  went_on a left made o h f = record {
    on = λ more k x. ap (λ l. in_turn done l x) (append_assoc made (items o) more)
        ∙ f.on (items o ++ more) (one_more said done o a left more h k) x;
  }

  -- nothing is left of a list that is seen by a view
  pub all_done : {P : Type 0} (view : P → A) (ps : List P) (i : ℕ) (made : List B)
      → length ps ≤ i → IsFront said done whole (map view (drop i ps)) made
      → (x : X) → in_turn done made x ≡ in_turn said whole x
  all_done view ps i made end f x =
      let none : drop i ps ≡ [] = drop_of_length-le ps end in
      let g : IsFront said done whole [] made =
      subst (λ l. IsFront said done whole (map view l) made) none f in
      ap (λ l. in_turn done l x) (sym (append-nil made)) ∙ g.on [] (λ y. refl) x

  -- one more of it
  pub went_on_at : {P : Type 0} (view : P → A) (ps : List P) (i : ℕ) (d item : P)
      (made more : List B) (o : Option B) → i < length ps → item ≡ get_or ps i d
      → ((x : X) → maybe done o x ≡ said (view item) x) → more ≡ made ++ items o
      → IsFront said done whole (map view (drop i ps)) made
      → IsFront said done whole (map view (drop (i + 1) ps)) more
  went_on_at view ps i d item made more o within is h e f =
      let cut : drop i ps ≡ get_or ps i d ∷ drop (i + 1) ps = rw add-one (drop-cons ps i d within) in
      subst (λ l. IsFront said done whole (map view (drop (i + 1) ps)) l) (sym e)
      (went_on (view (get_or ps i d)) (map view (drop (i + 1) ps)) made o
      (λ x. h x ∙ ap (λ p. said (view p) x) is)
      (subst (λ l. IsFront said done whole (map view l) made) cut f))
