-- What is found by names once one more has an index.
use Rattle.std.proofs.Common.{◌≡◌, ℕ, Bool, true, false, cond, List, Some, sym, ap, ◌∙◌, refl, not}
use Rattle.std.specs.BTreeMap.{BTreeMap, UpdatesBy}
use Rattle.std.specs.Cmp.Lexicographic.{bytes_decides}
use Rattle.std.specs.Global.{Vec}
use Rattle.std.specs.Map.{lookup}
use Rattle.std.specs.Ordering.{is_eq, nat_cmp}
use Rattle.std.specs.Str.{bytes_eq}
use Rattle.sl_base_names.specs.Found.{AreBytes, found, is_short, number_of}
use Rattle.sl_base_names.proofs.DigitLemmas.{number_tells}
use Rattle.sl_base_names.proofs.KeyLemmas.{at_bytes, at_key, key_cmp}

-- a short name isn't a long one
other_name : (a b : List ℕ) (short : Bool) → is_short a ≡ short → is_short b ≡ not short → bytes_eq a b ≡ false
other_name a b short ha hb = by_test (bytes_eq a b) refl
  where
    clash : (s : Bool) → s ≡ not s → false ≡ true
    clash true h = sym h
    clash false h = h

    by_test : (same : Bool) → bytes_eq a b ≡ same → same ≡ false
    by_test true h = sym (clash short (sym ha ∙ ap is_short ((bytes_decides a b).0 h) ∙ hb))
    by_test false h = refl

module _ (old new : BTreeMap ℕ ℕ) (long : BTreeMap (Vec ℕ) ℕ) (name : List ℕ) (key index : ℕ) where
  pub short_after : is_short name ≡ true → AreBytes name → key ≡ number_of name → UpdatesBy nat_cmp (nat_cmp key) old new (Some index)
      → (other : List ℕ) → AreBytes other → found (record { short = new; long = long }) other ≡ cond (bytes_eq name other) (Some index) (found (record { short = old; long = long }) other)
  short_after short bytes is updates other others = by_length (is_short other) refl
    where
      by_length : (s : Bool) → is_short other ≡ s
          → found (record { short = new; long = long }) other ≡ cond (bytes_eq name other) (Some index) (found (record { short = old; long = long }) other)
      by_length true h =
          rw h (updates.0 (number_of other)
          ∙ ap (λ b. cond b (Some index) (lookup (λ k. is_eq (nat_cmp (number_of other) k)) old.entries))
          (ap (λ k. is_eq (nat_cmp k (number_of other))) is ∙ number_tells name other bytes others))
      by_length false h = rw (h, other_name name other true short h) refl

module _ (short : BTreeMap ℕ ℕ) (old new : BTreeMap (Vec ℕ) ℕ) (name : List ℕ) (key : Vec ℕ) (index : ℕ) where
  pub long_after : is_short name ≡ false → key.items ≡ name → UpdatesBy key_cmp (key_cmp key) old new (Some index)
      → (other : List ℕ) → found (record { short = short; long = new }) other ≡ cond (bytes_eq name other) (Some index) (found (record { short = short; long = old }) other)
  long_after long is updates other = by_length (is_short other) refl
    where
      by_length : (s : Bool) → is_short other ≡ s
          → found (record { short = short; long = new }) other ≡ cond (bytes_eq name other) (Some index) (found (record { short = short; long = old }) other)
      by_length true h = rw (h, other_name name other false long h) refl
      by_length false h = rw h (at_key key.items old new (Some index) updates other ∙ ap (λ bs. cond (bytes_eq bs other) (Some index) (at_bytes old other)) is)
