-- Runs of bytes that pass a test, and where they end.
use Rattle.std.proofs.Common.{◌≡◌, ℕ, ◌+◌, ◌<◌, ◌≤◌, Bool, true, false, List, [], ◌∷◌, ◌++◌, take, drop, length, arith, refl, ap, ap₂, sym, ◌∙◌, ◌&&◌, cond, zero, suc, subst}
use Rattle.std.specs.List.{list_all, prefix_len}
use Rattle.std.proofs.lemmas.List.Sums.{prefix_len-le-length}
use Rattle.sl_lex.specs.Lexemes.{BeginsWith, Stops, IsSpan}

pub both_true : (a b : Bool) → (a && b) ≡ true → (a ≡ true) × (b ≡ true)
both_true true b h = (refl, h)
both_true false b h = absurd (cc)

pub not_false : (b : Bool) → b ≡ true → b ≡ false → ⊥
not_false b h k = let clash : true ≡ false = sym h ∙ k in absurd (cc)

-- The bytes pass the test, and what follows them does not go on so.
abbrev pub Splits : (ℕ → Bool) → List ℕ → List ℕ → Type 0
Splits test run rest = (list_all test run ≡ true) × Stops test rest

one_more : (n : ℕ) → 1 + n ≡ suc n
one_more n = omega arith

run_step : (p : ℕ → Bool) (x : ℕ) (xs : List ℕ) (b : Bool) → p x ≡ b → Splits p (take (prefix_len p xs) xs) (drop (prefix_len p xs) xs)
    → Splits p (take (cond b (1 + prefix_len p xs) 0) (x ∷ xs)) (drop (cond b (1 + prefix_len p xs) 0) (x ∷ xs))
run_step p x xs true e h = rw one_more (rw e h.0, h.1)
run_step p x xs false e h = (refl, e)

front_is_run : (p : ℕ → Bool) (xs : List ℕ) → Splits p (take (prefix_len p xs) xs) (drop (prefix_len p xs) xs)
front_is_run p [] = (refl, tt)
front_is_run p (x ∷ xs) = run_step p x xs (p x) refl (front_is_run p xs)

-- The front of a text up to where a test stops is a run.
pub run_at : (p : ℕ → Bool) (xs : List ℕ) (n : ℕ) → n ≡ prefix_len p xs → Splits p (take n xs) (drop n xs)
run_at p xs n e = subst (λ (k : ℕ). Splits p (take k xs) (drop k xs)) (sym e) (front_is_run p xs)

run_fits : (p : ℕ → Bool) (front after : List ℕ) → list_all p front ≡ true → length front ≤ prefix_len p (front ++ after)
run_fits p [] after h = omega arith
run_fits p (x ∷ xs) after h =
    let both = both_true (p x) (list_all p xs) h in
    let here : p x ≡ true = both.0 in
    let more = run_fits p xs after both.1 in
    rw here (omega arith)

-- No front of a text that passes a test is longer than the run.
pub run_longest : (p : ℕ → Bool) (text front after : List ℕ) → text ≡ front ++ after → list_all p front ≡ true → length front ≤ prefix_len p text
run_longest p text front after e h = subst (λ (t : List ℕ). length front ≤ prefix_len p t) (sym e) (run_fits p front after h)

-- One run alone stands at the front of a text.
pub one_run : (p : ℕ → Bool) (xs ys us vs : List ℕ) → xs ++ ys ≡ us ++ vs → Splits p xs ys → Splits p us vs → (xs ≡ us) × (ys ≡ vs)
one_run p [] ys [] vs e f g = (refl, e)
one_run p [] [] (u ∷ us) vs e f g = absurd (cc)
one_run p [] (y ∷ ys) (u ∷ us) vs e f g =
    let here : y ≡ u = cc in absurd (not_false (p y) (ap p here ∙ (both_true _ _ g.0).0) f.1)
one_run p (x ∷ xs) ys [] [] e f g = absurd (cc)
one_run p (x ∷ xs) ys [] (v ∷ vs) e f g =
    let here : v ≡ x = cc in absurd (not_false (p v) (ap p here ∙ (both_true _ _ f.0).0) g.1)
one_run p (x ∷ xs) ys (u ∷ us) vs e f g =
    let here : x ≡ u = cc in
    let later : xs ++ ys ≡ us ++ vs = cc in
    let rest = one_run p xs ys us vs later ((both_true _ _ f.0).1, f.1) ((both_true _ _ g.0).1, g.1) in
    (ap₂ (λ z zs. z ∷ zs) here rest.0, rest.1)

-- What a front begins with, the text begins with.
pub first_passes : (p : ℕ → Bool) (b : ℕ) (bs front after : List ℕ) → b ∷ bs ≡ front ++ after → BeginsWith p front → p b ≡ true
first_passes p b bs [] after e h = absurd h
first_passes p b bs (c ∷ cs) after e h = let here : b ≡ c = cc in ap p here ∙ h

-- Fronts of one text that have one length are one.
pub one_front : (xs ys us vs : List ℕ) → xs ++ ys ≡ us ++ vs → length xs ≡ length us → (xs ≡ us) × (ys ≡ vs)
one_front [] ys [] vs e h = (refl, e)
one_front [] ys (u ∷ us) vs e h = absurd (omega arith)
one_front (x ∷ xs) ys [] vs e h = absurd (omega arith)
one_front (x ∷ xs) ys (u ∷ us) vs e h =
    let here : x ≡ u = cc in
    let later : xs ++ ys ≡ us ++ vs = cc in
    let lengths : length xs ≡ length us = omega arith in
    let rest = one_front xs ys us vs later lengths in
    (ap₂ (λ z zs. z ∷ zs) here rest.0, rest.1)

-- A front of some bytes begins as the text does.
pub begins_front : (p : ℕ → Bool) (b n : ℕ) (bs : List ℕ) → 0 < n → p b ≡ true → BeginsWith p (take n (b ∷ bs))
begins_front p b zero bs some h = absurd (omega arith)
begins_front p b (suc n) bs some h = h

pub run_begins : (p : ℕ → Bool) (bytes : List ℕ) → IsSpan p bytes → BeginsWith p bytes
run_begins p [] h = absurd (let some : 0 < length {A = ℕ} [] = h.0 in omega arith)
run_begins p (b ∷ bs) h = (both_true (p b) (list_all p bs) h.1).0

pub begins_some : (p : ℕ → Bool) (bytes : List ℕ) → BeginsWith p bytes → 0 < length bytes
begins_some p [] h = absurd h
begins_some p (b ∷ bs) h = omega arith

-- A run that begins has some bytes.
pub counts_some : (p : ℕ → Bool) (b : ℕ) (bs : List ℕ) (n : ℕ) → p b ≡ true → n ≡ prefix_len p (b ∷ bs) → 0 < n
counts_some p b bs n h e = let one : prefix_len p (b ∷ bs) ≡ 1 + prefix_len p bs = rw h refl in omega arith

-- A text that begins with a run that is so long splits there.
pub run_within : (p : ℕ → Bool) (text : List ℕ) (n : ℕ) → n ≡ prefix_len p text → n ≤ length text
run_within p text n e = omega (arith, e, prefix_len-le-length p text)
