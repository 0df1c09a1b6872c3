-- Registers that are laid one behind the other.
use Rattle.std.proofs.Common.{◌≡◌, ℕ, ◌+◌, ◌*◌, ◌%◌, ◌^◌, ◌<◌, ◌≤◌, true, false, List, [], ◌∷◌, ◌++◌, length, get_or, drop, refl, sym, ap, ◌∙◌, append_assoc, append-nil, arith}
use Rattle.std.proofs.Math.ListN.{drop_of_length-le}
use Rattle.std.proofs.Math.Nat.{mod-eq_of_lt}
use Rattle.std.proofs.Math.Pow.{pow_mono}
use Rattle.sl_word.proofs.Powers.{bytes-bits}
use Rattle.sl_spec_rules.specs.Names.{Name}
use Rattle.sl_spec.specs.Tables.{Register}
use Rattle.sl_spec_registers.proofs.FreshLemmas.{rest_at}
use Rattle.sl_spec_registers.specs.RegisterRules.{given_names, is_skipped, laid}

-- ---- the names that are given

module _ (names : List Name) where
  -- what is there, and those of the names that are left, are all
  abbrev pub AreGiven : List Name → ℕ → Type 0
  AreGiven now i = now ++ given_names (drop i names) ≡ given_names names

  module _ (i : ℕ) (name : Name) (below : i < length names) (at : name ≡ get_or names i name) where
    pub given_rest : is_skipped name ≡ false → given_names (drop i names) ≡ name ∷ given_names (drop (i + 1) names)
    given_rest given = ap given_names (rest_at names i name below at) ∙ rw given refl

    pub skipped_rest : is_skipped name ≡ true → given_names (drop i names) ≡ given_names (drop (i + 1) names)
    skipped_rest skipped = ap given_names (rest_at names i name below at) ∙ rw skipped refl

    pub given_goes : (now : List Name) → is_skipped name ≡ false → AreGiven now i → AreGiven (now ++ name ∷ []) (i + 1)
    given_goes now given so_far =
        append_assoc now (name ∷ []) (given_names (drop (i + 1) names)) ∙ ap (λ (l : List Name). now ++ l) (sym (given_rest given)) ∙ so_far

    pub given_skips : (now : List Name) → is_skipped name ≡ true → AreGiven now i → AreGiven now (i + 1)
    given_skips now skipped so_far = ap (λ (l : List Name). now ++ l) (sym (skipped_rest skipped)) ∙ so_far

  pub given_ends : (now : List Name) (i : ℕ) → length names ≤ i → AreGiven now i → now ≡ given_names names
  given_ends now i end so_far = sym (append-nil now) ∙ ap (λ (l : List Name). now ++ given_names l) (sym (drop_of_length-le names end)) ∙ so_far

-- ---- where they lie

module _ (space offset size : ℕ) (names : List Name) (before : List Register) where
  -- what is there behind i places, and what the rest adds, is all
  abbrev pub AreLaid : List Register → ℕ → Type 0
  AreLaid now i = now ++ laid space (offset + size * i) size (drop i names) ≡ before ++ laid space offset size names

  pub none_laid : AreLaid before 0
  none_laid = let e : offset + size * 0 ≡ offset = omega arith in ap (λ (o : ℕ). before ++ laid space o size names) e

  abbrev pub register_at : ℕ → Name → Register
  register_at i name = record { name = name; space = space; offset = offset + size * i; size = size }

  module _ (now : List Register) (i : ℕ) (name : Name) (below : i < length names) (at : name ≡ get_or names i name) (so_far : AreLaid now i) where
    further : laid space (offset + size * i) size (drop i names) ≡ laid space (offset + size * i) size (name ∷ drop (i + 1) names)
    further = ap (laid space (offset + size * i) size) (rest_at names i name below at)

    pub one_laid : is_skipped name ≡ false → AreLaid (now ++ register_at i name ∷ []) (i + 1)
    unfolding laid
    one_laid given =
        let next : offset + size * (i + 1) ≡ offset + size * i + size = omega arith in
        let rest = laid space (offset + size * i + size) size (drop (i + 1) names) in
        let here : laid space (offset + size * i) size (name ∷ drop (i + 1) names) ≡ register_at i name ∷ rest = rw given refl in
        ap (λ (o : ℕ). (now ++ register_at i name ∷ []) ++ laid space o size (drop (i + 1) names)) next
        ∙ append_assoc now (register_at i name ∷ []) rest
        ∙ ap (λ (l : List Register). now ++ l) (sym (further ∙ here)) ∙ so_far

    pub one_skipped : is_skipped name ≡ true → AreLaid now (i + 1)
    unfolding laid
    one_skipped skipped =
        let next : offset + size * (i + 1) ≡ offset + size * i + size = omega arith in
        let rest = laid space (offset + size * i + size) size (drop (i + 1) names) in
        let here : laid space (offset + size * i) size (name ∷ drop (i + 1) names) ≡ rest = rw skipped refl in
        ap (λ (o : ℕ). now ++ laid space o size (drop (i + 1) names)) next
        ∙ ap (λ (l : List Register). now ++ l) (sym (further ∙ here)) ∙ so_far

  pub all_laid : (now : List Register) (i : ℕ) → length names ≤ i → AreLaid now i → now ≡ before ++ laid space offset size names
  unfolding laid
  all_laid now i end so_far =
      sym (append-nil now) ∙ ap (λ (l : List Name). now ++ laid space (offset + size * i) size l) (sym (drop_of_length-le names end)) ∙ so_far

-- ---- how many addresses there are

-- the number of addresses, as the code reckons it
pub top_is : (bytes k : ℕ) → k ≡ bytes → k ≤ 8 → 1 * 2 ^ (8 * k) % 340282366920938463463374607431768211456 ≡ 256 ^ bytes
top_is bytes k e h =
    let small : 2 ^ (8 * k) ≤ 2 ^ 64 = pow_mono {i = 8 * k} {j = 64} (omega arith) in
    let below : 1 * 2 ^ (8 * k) < 340282366920938463463374607431768211456 = omega (arith, small) in
    let once : 1 * 2 ^ (8 * k) ≡ 2 ^ (8 * k) = omega arith in
    mod-eq_of_lt below ∙ once ∙ ap (λ (j : ℕ). 2 ^ (8 * j)) e ∙ sym (bytes-bits bytes)

pub top_is_small : (k : ℕ) → k ≤ 8 → 1 * 2 ^ (8 * k) % 340282366920938463463374607431768211456 ≤ 2 ^ 64
top_is_small k h =
    let small : 2 ^ (8 * k) ≤ 2 ^ 64 = pow_mono {i = 8 * k} {j = 64} (omega arith) in
    let below : 1 * 2 ^ (8 * k) < 340282366920938463463374607431768211456 = omega (arith, small) in
    let same = mod-eq_of_lt below in
    omega (arith, small, same)
