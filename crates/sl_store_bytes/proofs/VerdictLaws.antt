-- What an exact reader answers on whole files.
use Rattle.std.proofs.Common.{◌≡◌, ℕ, zero, suc, ◌<◌, ◌≤◌, ◌+◌, ◌-◌, nat_lt, Bool, true, false, List, [], ◌∷◌, ◌++◌, length, take, drop, Result, Ok, Err, refl, ap, sym, ◌∙◌, subst, arith, append_assoc, append-nil}
use Rattle.std.proofs.lemmas.List.{take-append-drop}
use Rattle.sl_store_bytes.specs.Reader.{Fault, cut, damaged, Reader}
use Rattle.sl_store_bytes.specs.Verdicts.{Begins, Are, AreCut, AreDamagedAt, at_end}
use Rattle.sl_store_bytes.specs.Exact.{Exact, Completed}
use Rattle.sl_store_bytes.proofs.Steady.{same_rest}

take_front : (front rest : List ℕ) → take (length front) (front ++ rest) ≡ front
take_front [] rest = refl
take_front (b ∷ front) rest = ap (λ zs. b ∷ zs) (take_front front rest)

take_more : (front : List ℕ) (b : ℕ) (rest : List ℕ) → take (suc (length front)) (front ++ b ∷ rest) ≡ front ++ b ∷ []
take_more [] b rest = refl
take_more (c ∷ front) b rest = ap (λ zs. c ∷ zs) (take_more front b rest)

length_front : (front : List ℕ) (b : ℕ) (rest : List ℕ) → length (front ++ b ∷ rest) ≡ length front + suc (length rest)
length_front [] b rest = omega arith
length_front (c ∷ front) b rest = let deep = length_front front b rest in omega arith

module _ {A : Type 0} {write : A → List ℕ} {Good : A → Type 0} {p : Reader A} (exact : Exact write Good p) where
  whole : (a : A) → Good a → p (write a) ≡ Ok (a, [])
  whole a good = ap p (sym (append-nil (write a))) ∙ exact.complete a [] good

  -- what is completed begins a good value
  begins : (xs : List ℕ) → Completed p xs → Begins write Good xs
  begins xs c = let s = exact.sound (xs ++ c.more) [] c.value c.reads in
      record { value = c.value; more = c.more; good = s.good; bytes = sym (s.bytes ∙ append-nil (write c.value)) }

  -- what the reader says at the end of the bytes
  abbrev Says : List ℕ → Result A Fault → Type 0
  Says xs o = at_end (p xs) ≡ o

  pub said_value : (xs : List ℕ) (a : A) → p xs ≡ Ok (a, []) → Are write Good xs a
  said_value xs a e = let s = exact.sound xs [] a e in record { good = s.good; bytes = s.bytes ∙ append-nil (write a) }

  pub said_cut : (xs : List ℕ) → p xs ≡ Err cut → AreCut write Good xs
  said_cut xs e = record {
    begins = begins xs (exact.steady.completed xs e);
    not_whole = λ a are. (let e2 = whole a are.good in let same = are.bytes in let e3 : p xs ≡ Ok (a, []) = ap p same ∙ e2 in absurd (cc));
  }

  none_after : (front : List ℕ) (b : ℕ) → ((ys : List ℕ) → p (front ++ b ∷ ys) ≡ Err (damaged (suc (length ys)))) → Begins write Good (front ++ b ∷ []) → ⊥
  none_after front b stays begun =
      let e : p (front ++ b ∷ begun.more) ≡ Ok (begun.value, []) = ap p (sym (begun.bytes ∙ append_assoc front (b ∷ []) begun.more)) ∙ whole begun.value begun.good in
      let f = stays begun.more in cc

  damaged_at : (xs front : List ℕ) (b : ℕ) (rest : List ℕ) → xs ≡ front ++ b ∷ rest → Begins write Good front → (Begins write Good (front ++ b ∷ []) → ⊥) → AreDamagedAt write Good xs (length front)
  damaged_at xs front b rest e begun none = record {
    within = (let long = ap length e in let parts = length_front front b rest in omega arith);
    before = subst (Begins write Good) (sym (ap (take (length front)) e ∙ take_front front (b ∷ rest))) begun;
    none = λ more. none (subst (Begins write Good) (ap (take (suc (length front))) e ∙ take_more front b rest) more);
  }

  pub said_damaged : (xs : List ℕ) (n : ℕ) → p xs ≡ Err (damaged n) → (n ≤ length xs) × AreDamagedAt write Good xs (length xs - n)
  said_damaged xs n e =
      let r = exact.steady.refused xs n e in
      let long = ap length r.all in
      let parts = length_front r.front r.wrong r.rest in
      let left = r.left in
      let at : length r.front ≡ length xs - n = omega arith in
      (omega arith, subst (AreDamagedAt write Good xs) at (damaged_at xs r.front r.wrong r.rest r.all (begins r.front (exact.steady.completed r.front r.before)) (none_after r.front r.wrong r.stays)))

  none_past : (a : A) (b : ℕ) → Good a → Begins write Good (write a ++ b ∷ []) → ⊥
  none_past a b good begun =
      let e : p (write a ++ (b ∷ begun.more)) ≡ Ok (begun.value, []) = ap p (sym (begun.bytes ∙ append_assoc (write a) (b ∷ []) begun.more)) ∙ whole begun.value begun.good in
      let f = exact.complete a (b ∷ begun.more) good in
      let same : b ∷ begun.more ≡ [] = same_rest (sym f ∙ e) in cc

  pub said_more : (xs : List ℕ) (a : A) (b : ℕ) (rest : List ℕ) → p xs ≡ Ok (a, b ∷ rest) → AreDamagedAt write Good xs (length xs - suc (length rest))
  said_more xs a b rest e =
      let s = exact.sound xs (b ∷ rest) a e in
      let long = ap length s.bytes in
      let parts = length_front (write a) b rest in
      let at : length (write a) ≡ length xs - suc (length rest) = omega arith in
      subst (AreDamagedAt write Good xs) at (damaged_at xs (write a) b rest s.bytes (record { value = a; more = []; good = s.good; bytes = sym (append-nil (write a)) }) (none_past a b s.good))

  pub fewer : (xs : List ℕ) (a : A) (b : ℕ) (rest : List ℕ) → p xs ≡ Ok (a, b ∷ rest) → suc (length rest) ≤ length xs
  fewer xs a b rest e =
      let s = exact.sound xs (b ∷ rest) a e in
      let long = ap length s.bytes in
      let parts = length_front (write a) b rest in omega arith

  -- each packed file is read as what it was made of
  pub read_back : (a : A) → Good a → at_end (p (write a)) ≡ Ok a
  read_back a good = ap at_end (whole a good)

-- ---- the answers exclude each other

take_join : (n : ℕ) (xs : List ℕ) → xs ≡ take n xs ++ drop n xs
take_join n xs = sym (take-append-drop n xs)

take_take : (m n : ℕ) (xs : List ℕ) → m ≤ n → take m (take n xs) ≡ take m xs
take_take zero n xs h = refl
take_take (suc m) zero xs h = absurd (omega arith)
take_take (suc m) (suc n) [] h = refl
take_take (suc m) (suc n) (x ∷ xs) h = ap (λ ys. x ∷ ys) (take_take m n xs (omega arith))

module _ {A : Type 0} (write : A → List ℕ) (Good : A → Type 0) where
  begins_front : (xs : List ℕ) (n : ℕ) → Begins write Good xs → Begins write Good (take n xs)
  begins_front xs n b = record {
    value = b.value;
    more = drop n xs ++ b.more;
    good = b.good;
    bytes = b.bytes ∙ ap (λ zs. zs ++ b.more) (take_join n xs) ∙ append_assoc (take n xs) (drop n xs) b.more;
  }

  pub cut_not_damaged : (xs : List ℕ) (at : ℕ) → AreCut write Good xs → AreDamagedAt write Good xs at → ⊥
  cut_not_damaged xs at c d = d.none (begins_front xs (suc at) c.begins)

  pub whole_not_damaged : (xs : List ℕ) (a : A) (at : ℕ) → Are write Good xs a → AreDamagedAt write Good xs at → ⊥
  whole_not_damaged xs a at are d = d.none (begins_front xs (suc at) (record { value = a; more = []; good = are.good; bytes = sym are.bytes ∙ sym (append-nil xs) }))

  no_later : (xs : List ℕ) (at later : ℕ) → at < later → AreDamagedAt write Good xs at → AreDamagedAt write Good xs later → ⊥
  no_later xs at later h d e = d.none (subst (Begins write Good) (take_take (suc at) later xs h) (begins_front (take later xs) (suc at) e.before))

  pub one_place : (xs : List ℕ) (at other : ℕ) → AreDamagedAt write Good xs at → AreDamagedAt write Good xs other → at ≡ other
  one_place xs at other d e = by_order (nat_lt at other) refl (nat_lt other at) refl where
    by_order : (v : Bool) → nat_lt at other ≡ v → (w : Bool) → nat_lt other at ≡ w → at ≡ other
    by_order true h w k = absurd (no_later xs at other (grind arith) d e)
    by_order false h true k = absurd (no_later xs other at (grind arith) e d)
    by_order false h false k = grind arith
