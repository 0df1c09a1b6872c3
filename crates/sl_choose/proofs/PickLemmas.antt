-- What a point picks, computed.
use Rattle.std.proofs.Common.{◌≡◌, ◌↔◌, ℕ, ◌+◌, ◌<◌, ◌≤◌, ◌&&◌, Bool, true, false, List, [], ◌∷◌, length, drop}
use Rattle.std.proofs.Common.{get_or, drop-cons, add-one, Option, None, Some, refl, sym, ap, ◌∙◌, eq-eqb}
use borrow.Author.Tests.{eqb-true}
use Rattle.std.specs.Prelude.{◌==◌, bit_and, find}
use Rattle.std.proofs.Math.ListN.{drop_of_length-le}
use Rattle.std.proofs.lemmas.Bool.{false≢true}
use Rattle.sl_cube.specs.Points.{IsIn}
use Rattle.sl_cube.specs.declared.Cube.{Cube}
use Rattle.sl_cube.specs.declared.Point.{Point}
use Rattle.sl_cube.proofs.BitLemmas.{agrees_from_and, and_from_agrees}
use Rattle.std.proofs.Common.{zero, suc, arith, subst}
use Rattle.std.specs.Prelude.{Contains, if◌then◌else◌}
use Rattle.std.specs.List.{HoldsAt}
use Rattle.sl_cube.specs.Search.{Lacks}
use Rattle.sl_cube_sets.specs.declared.CubeSet.{CubeSet}
use Rattle.sl_choose.specs.Choosers.{FirstHas, IsFirst}
use Rattle.sl_choose.specs.Laws.{PicksAreChoices}
use Rattle.sl_choose.specs.Picked.{is_in, lacks, leaf_at, leaf_in}
use Rattle.sl_choose.specs.Trees.{IsLeafOf, IsTreeOf}
use Rattle.sl_choose.specs.declared.Entry.{Entry}
use Rattle.sl_choose.specs.declared.Node.{Node, Leaf, Test'}
use Rattle.sl_choose.proofs.ChooserLemmas.{holds_pick}
use Rattle.sl_choose.proofs.SideLemmas.{lacks_part}

both_true : (a b : Bool) → (a && b) ≡ true → (a ≡ true) × (b ≡ true)
both_true true b h = (refl, h)
both_true false b h = absurd (false≢true h)

and_true : (a b : Bool) → a ≡ true → b ≡ true → (a && b) ≡ true
and_true a b h k = ap (λ x. x && b) h ∙ k

not_true : (b : Bool) → (b ≡ true → ⊥) → false ≡ b
not_true true h = absurd (h refl)
not_true false h = refl

in_from : (p : Point) (c : Cube) → is_in p c ≡ true → IsIn p c
in_from p c h =
    let e = both_true (bit_and p.bytes c.mask == c.value) (bit_and p.context c.ctx_mask == c.ctx_value) h in (
      agrees_from_and c.mask c.value p.bytes (eqb-true _ _ e.0),
      agrees_from_and c.ctx_mask c.ctx_value p.context (eqb-true _ _ e.1),
    )

to_in : (p : Point) (c : Cube) → IsIn p c → is_in p c ≡ true
to_in p c h = and_true _ _
    (eq-eqb _ _ (and_from_agrees c.mask c.value p.bytes c.within h.0))
    (eq-eqb _ _ (and_from_agrees c.ctx_mask c.ctx_value p.context c.ctx_within h.1))

pub in_exactly : (b : Bool) (p : Point) (c : Cube) → ((b ≡ true) ↔ IsIn p c) → b ≡ is_in p c
in_exactly true p c f = sym (to_in p c (f.0 refl))
in_exactly false p c f = not_true (is_in p c) (λ e. false≢true (f.1 (in_from p c e)))

module _ {A : Type 0} (p : A → Bool) (e : A) (rest : List A) where
  passed : p e ≡ false → find p rest ≡ find p (e ∷ rest)
  passed h = sym (rw h refl)

  met : p e ≡ true → Some e ≡ find p (e ∷ rest)
  met h = sym (rw h refl)

module _ {A : Type 0} (p : A → Bool) (xs : List A) (k : ℕ) (so_far : find p (drop k xs) ≡ find p xs) where
  here : (d e : A) → k < length xs → e ≡ get_or xs k d → find p (e ∷ drop (k + 1) xs) ≡ find p xs
  here d e within is =
      let cut : drop k xs ≡ get_or xs k d ∷ drop (k + 1) xs = rw add-one (drop-cons xs k d within) in
      ap (λ x. find p (x ∷ drop (k + 1) xs)) is ∙ sym (ap (find p) cut) ∙ so_far

  pub find_more : (d e : A) → k < length xs → e ≡ get_or xs k d → p e ≡ false
      → find p (drop (k + 1) xs) ≡ find p xs
  find_more d e within is none = passed p e (drop (k + 1) xs) none ∙ here d e within is

  pub find_here : (d e : A) → k < length xs → e ≡ get_or xs k d → p e ≡ true → Some e ≡ find p xs
  find_here d e within is there = met p e (drop (k + 1) xs) there ∙ here d e within is

  pub find_none : length xs ≤ k → None ≡ find p xs
  find_none end = sym (ap (find p) (drop_of_length-le xs end)) ∙ so_far

-- ---- the tree's leaf, and the first entry there

lacks_from : (bits p : Point) → lacks bits p ≡ true → Lacks bits p
lacks_from bits p h =
    let e = both_true (bit_and p.bytes bits.bytes == 0) (bit_and p.context bits.context == 0) h in
    ((lacks_part bits.bytes p.bytes).0 (eqb-true _ _ e.0), (lacks_part bits.context p.context).0 (eqb-true _ _ e.1))

to_lacks : (bits p : Point) → Lacks bits p → lacks bits p ≡ true
to_lacks bits p h = and_true _ _
    (eq-eqb _ _ ((lacks_part bits.bytes p.bytes).1 h.0)) (eq-eqb _ _ ((lacks_part bits.context p.context).1 h.1))

led : (sets : List CubeSet) (entries : List Entry) (p bits : Point) (low high : List Entry) (t : Bool)
    → lacks bits p ≡ t → (Lacks bits p → IsLeafOf sets entries p low)
    → ((Lacks bits p → ⊥) → IsLeafOf sets entries p high)
    → IsLeafOf sets entries p (if t then low else high)
led sets entries p bits low high true e f g = f (lacks_from bits p e)
led sets entries p bits low high false e f g = g (λ h. false≢true (sym e ∙ to_lacks bits p h))

leaf_is : (sets : List CubeSet) (entries : List Entry) (p : Point) (node : Node)
    → IsTreeOf sets node entries p → IsLeafOf sets entries p (leaf_at node p)
leaf_is sets entries p (Leaf es) h = h
leaf_is sets entries p (Test' bits a low b high) h =
    led sets entries p bits (leaf_at low p) (leaf_at high p) (lacks bits p) refl
    (λ l. leaf_is sets entries p low (h.0 l)) (λ n. leaf_is sets entries p high (h.1 n))

none_at : (x : Entry) (xs : List Entry) (p : Point) (e : Entry) (k : ℕ) → (IsIn p x.cube → ⊥)
    → ((e : Entry) → Contains xs e → IsIn p e.cube → ⊥) → k < length (x ∷ xs)
    → get_or (x ∷ xs) k e ≡ e → IsIn p e.cube → ⊥
none_at x xs p e zero out f below is inside = out (subst (λ (y : Entry). IsIn p y.cube) (sym is) inside)
none_at x xs p e (suc k) out f below is inside = f e (k, omega (arith, below), is) inside

out_before : (x : Entry) (xs : List Entry) (p : Point) (place k : ℕ) → (IsIn p x.cube → ⊥)
    → ((j : ℕ) → j < place → HoldsAt (λ (y : Entry). IsIn p y.cube → ⊥) xs j) → k < suc place
    → HoldsAt (λ (y : Entry). IsIn p y.cube → ⊥) (x ∷ xs) k
out_before x xs p place zero out f below = λ d. out
out_before x xs p place (suc k) out f below = f k (omega (arith, below))

first_behind : (x : Entry) (xs : List Entry) (p : Point) (r : Option Entry) → (IsIn p x.cube → ⊥)
    → IsFirst xs p r → IsFirst (x ∷ xs) p r
first_behind x xs p None out f = λ e h. none_at x xs p e h.0 out f h.1 h.2
first_behind x xs p (Some e) out f = record {
  place = suc f.place;
  within = omega (arith, f.within);
  entry_is = f.entry_is;
  has = f.has;
  none_before = λ k below. out_before x xs p f.place k out f.none_before below;
}

first_found : (x : Entry) (xs : List Entry) (p : Point) (t : Bool) → is_in p x.cube ≡ t
    → IsFirst xs p (find (λ e. is_in p e.cube) xs)
    → IsFirst (x ∷ xs) p (find (λ e. is_in p e.cube) (x ∷ xs))
first_found x xs p true h f =
    subst (IsFirst (x ∷ xs) p) (met (λ (e : Entry). is_in p e.cube) x xs h) (let first : FirstHas (x ∷ xs) p x = record {
      place = 0;
      within = omega arith;
      entry_is = refl;
      has = in_from p x.cube h;
      none_before = λ k below. absurd (omega (arith, below));
    } in first)
first_found x xs p false h f =
    subst (IsFirst (x ∷ xs) p) (passed (λ (e : Entry). is_in p e.cube) x xs h)
    (first_behind x xs p (find (λ e. is_in p e.cube) xs) (λ inside. false≢true (sym h ∙ to_in p x.cube inside)) f)

first_is : (leaf : List Entry) (p : Point) → IsFirst leaf p (find (λ e. is_in p e.cube) leaf)
first_is [] p = λ e h. absurd (omega (arith, h.1))
first_is (x ∷ xs) p = first_found x xs p (is_in p x.cube) refl (first_is xs p)

pub picks_are_choices : PicksAreChoices
picks_are_choices chooser ctors sets p stands same settled =
    holds_pick ctors sets stands.entries (leaf_in chooser p) p stands.are_given
    (leaf_is sets stands.entries p chooser.root (stands.tree p)) same settled
    (find (λ e. is_in p e.cube) (leaf_in chooser p)) (first_is (leaf_in chooser p) p)
