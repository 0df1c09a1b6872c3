-- What steps up to the first refusal come to.
use Rattle.std.proofs.Common.{◌≡◌, ℕ, Bool, true, false, List, [], ◌∷◌, ◌++◌, Result, Ok, Err, refl, ap, ◌∙◌}
use Rattle.std.specs.Prelude.{◌&&◌, Some, None, Option}
use Rattle.sl_spec_rules.specs.Demands.{◌>>=◌, Demand, first_broken, run}
use Rattle.sl_spec_rules.specs.Laws.{all_hold, IsRefusedAt, Names}

-- ---- the first broken rule

name_more : (d : Demand) (ds : List Demand) (o : Option ℕ) → d.1 ≡ true → Names ds o → Names (d ∷ ds) o
name_more d ds None holds rest = ap (λ b. b && all_hold ds) holds ∙ rest
name_more d ds (Some n) holds rest = record {
  before = d ∷ rest.before;
  after = rest.after;
  parts = ap (λ (es : List Demand). d ∷ es) rest.parts;
  hold = ap (λ b. b && all_hold rest.before) holds ∙ rest.hold;
}

name_one : (d : Demand) (ds : List Demand) (b : Bool) → d.1 ≡ b → Names ds (first_broken ds) → Names (d ∷ ds) (first_broken ((d.0, b) ∷ ds))
name_one d ds true is rest = name_more d ds (first_broken ds) is rest
name_one d ds false is rest = record { before = []; after = ds; parts = ap (λ b. (d.0, b) ∷ ds) is; hold = refl }

pub first_broken-names : (ds : List Demand) → Names ds (first_broken ds)
first_broken-names [] = refl
first_broken-names (d ∷ ds) = name_one d ds d.1 refl (first_broken-names ds)

-- ---- steps

module _ {S X : Type 0} (step : S → X → Result S ℕ) where
  refused_more : (s t : S) (x : X) (xs : List X) (e : ℕ) → step s x ≡ Ok t → IsRefusedAt step t xs e → IsRefusedAt step s (x ∷ xs) e
  unfolding run
  refused_more s t x xs e is later = record {
    front = x ∷ later.front;
    next = later.next;
    rest = later.rest;
    there = later.there;
    parts = ap (λ (ys : List X). x ∷ ys) later.parts;
    taken = ap (λ r. r >>= λ u. run step u later.front) is ∙ later.taken;
    refused = later.refused;
  }

  refused_now : (s : S) (x : X) (xs : List X) (e : ℕ) → step s x ≡ Err e → IsRefusedAt step s (x ∷ xs) e
  unfolding run
  refused_now s x xs e is = record { front = []; next = x; rest = xs; there = s; parts = refl; taken = refl; refused = is }

  refused_by : (s : S) (x : X) (xs : List X) (e : ℕ) (r : Result S ℕ) → step s x ≡ r → ((t : S) → run step t xs ≡ Err e → IsRefusedAt step t xs e)
      → (r >>= λ t. run step t xs) ≡ Err e → IsRefusedAt step s (x ∷ xs) e
  refused_by s x xs e (Ok t) is later h = refused_more s t x xs e is (later t h)
  refused_by s x xs e (Err n) is later h = refused_now s x xs e (is ∙ h)

  pub refused_at : (s : S) (xs : List X) (e : ℕ) → run step s xs ≡ Err e → IsRefusedAt step s xs e
  unfolding run
  refused_at s [] e h = absurd (cc)
  refused_at s (x ∷ xs) e h = refused_by s x xs e (step s x) refl (λ t. refused_at t xs e) h

module _ {S X E : Type 0} (step : S → X → Result S E) where
  append_by : (r : Result S E) (xs ys : List X) → ((t : S) → run step t (xs ++ ys) ≡ (run step t xs >>= λ u. run step u ys))
      → (r >>= λ t. run step t (xs ++ ys)) ≡ ((r >>= λ t. run step t xs) >>= λ u. run step u ys)
  append_by (Ok t) xs ys rest = rest t
  append_by (Err n) xs ys rest = refl

  pub run-append : (s : S) (xs ys : List X) → run step s (xs ++ ys) ≡ (run step s xs >>= λ t. run step t ys)
  unfolding run
  run-append s [] ys = refl
  run-append s (x ∷ xs) ys = append_by (step s x) xs ys (λ t. run-append t xs ys)
