-- Files after their mark.
use Rattle.std.proofs.Common.{◌≡◌, ℕ, suc, ◌≤◌, ◌+◌, ◌-◌, List, [], ◌∷◌, ◌++◌, length, take, drop, Result, Ok, Err, refl, ap, sym, ◌∙◌, subst, arith, append_assoc}
use Rattle.std.proofs.lemmas.List.{take-append-drop}
use Rattle.sl_store_bytes.specs.Exact.{Exact}
use Rattle.sl_store_bytes.specs.Reader.{Fault, cut, damaged, Outcome, Reader}
use Rattle.sl_store_bytes.specs.Verdicts.{Begins, Are, AreCut, AreDamagedAt, HasMark, after_mark, at_end}
use Rattle.sl_store_bytes.proofs.VerdictLaws.{said_value, said_cut, said_damaged, said_more, read_back, fewer}

past_front : (m xs : List ℕ) → drop (length m) (m ++ xs) ≡ xs
past_front [] xs = refl
past_front (b ∷ m) xs = past_front m xs

same_after : (m xs ys : List ℕ) → m ++ xs ≡ m ++ ys → xs ≡ ys
same_after m xs ys e = sym (past_front m xs) ∙ ap (drop (length m)) e ∙ past_front m ys

take_past : (m xs : List ℕ) (n : ℕ) → take (length m + n) (m ++ xs) ≡ m ++ take n xs
take_past [] xs n = ap (λ k. take k xs) (omega arith)
take_past (b ∷ m) xs n =
    let more : suc (length m) + n ≡ suc (length m + n) = omega arith in
    ap (λ k. take k (b ∷ (m ++ xs))) more ∙ ap (λ zs. b ∷ zs) (take_past m xs n)

length_past : (m xs : List ℕ) → length (m ++ xs) ≡ length m + length xs
length_past [] xs = omega arith
length_past (b ∷ m) xs = let deep = length_past m xs in omega arith

module _ (mark : List ℕ) {A : Type 0} {write : A → List ℕ} {Good : A → Type 0} {p : Reader A} (exact : Exact write Good p) where
  begins_past : (xs : List ℕ) → Begins write Good xs → Begins (after_mark mark write) Good (mark ++ xs)
  begins_past xs b = record { value = b.value; more = b.more; good = b.good; bytes = ap (λ zs. mark ++ zs) b.bytes ∙ sym (append_assoc mark xs b.more) }

  begins_back : (xs : List ℕ) → Begins (after_mark mark write) Good (mark ++ xs) → Begins write Good xs
  begins_back xs b = record { value = b.value; more = b.more; good = b.good; bytes = same_after mark _ _ (b.bytes ∙ append_assoc mark xs b.more) }

  are_past : (xs : List ℕ) (a : A) → Are write Good xs a → Are (after_mark mark write) Good (mark ++ xs) a
  are_past xs a are = record { good = are.good; bytes = ap (λ zs. mark ++ zs) are.bytes }

  are_back : (xs : List ℕ) (a : A) → Are (after_mark mark write) Good (mark ++ xs) a → Are write Good xs a
  are_back xs a are = record { good = are.good; bytes = same_after mark _ _ are.bytes }

  cut_past : (xs : List ℕ) → AreCut write Good xs → AreCut (after_mark mark write) Good (mark ++ xs)
  cut_past xs c = record { begins = begins_past xs c.begins; not_whole = λ a are. c.not_whole a (are_back xs a are) }

  damaged_past : (xs : List ℕ) (at : ℕ) → AreDamagedAt write Good xs at → AreDamagedAt (after_mark mark write) Good (mark ++ xs) (length mark + at)
  damaged_past xs at d =
      let long = length_past mark xs in
      let within = d.within in
      let more : suc (length mark + at) ≡ length mark + suc at = omega arith in
      record {
        within = omega arith;
        before = subst (Begins (after_mark mark write) Good) (sym (take_past mark xs at)) (begins_past (take at xs) d.before);
        none = λ b. d.none (begins_back (take (suc at) xs) (subst (Begins (after_mark mark write) Good) (ap (λ k. take k (mark ++ xs)) more ∙ take_past mark xs (suc at)) b));
      }

  -- ---- what the reader says of the bytes after the mark

  value_due : (xs : List ℕ) (o : Outcome A) → p xs ≡ o → (a : A) → at_end o ≡ Ok a → Are (after_mark mark write) Good (mark ++ xs) a
  value_due xs (Ok (d, [])) e a h = let same : d ≡ a = cc in are_past xs a (said_value exact xs a (e ∙ ap (λ r. Ok (r, [])) same))
  value_due xs (Ok (d, b ∷ rest)) e a h = absurd (cc)
  value_due xs (Err f) e a h = absurd (cc)

  cut_due : (xs : List ℕ) (o : Outcome A) → p xs ≡ o → at_end o ≡ Err cut → AreCut (after_mark mark write) Good (mark ++ xs)
  cut_due xs (Ok (d, [])) e h = absurd (cc)
  cut_due xs (Ok (d, b ∷ rest)) e h = absurd (cc)
  cut_due xs (Err f) e h = let same : f ≡ cut = cc in cut_past xs (said_cut exact xs (e ∙ ap (λ r. Err r) same))

  past : (xs : List ℕ) (n at : ℕ) → n ≤ length xs → at ≡ length (mark ++ xs) - n → AreDamagedAt write Good xs (length xs - n) → AreDamagedAt (after_mark mark write) Good (mark ++ xs) at
  past xs n at few same d =
      let long = length_past mark xs in
      let whole : length mark + (length xs - n) ≡ at = omega arith in
      subst (AreDamagedAt (after_mark mark write) Good (mark ++ xs)) whole (damaged_past xs (length xs - n) d)

  damaged_due : (xs : List ℕ) (o : Outcome A) → p xs ≡ o → (n at : ℕ) → at ≡ length (mark ++ xs) - n → at_end o ≡ Err (damaged n) → AreDamagedAt (after_mark mark write) Good (mark ++ xs) at
  damaged_due xs (Ok (d, [])) e n at same h = absurd (cc)
  damaged_due xs (Ok (d, b ∷ rest)) e n at same h =
      let one : suc (length rest) ≡ n = cc in
      let few = fewer exact xs d b rest e in
      past xs n at (omega arith) same (subst (λ k. AreDamagedAt write Good xs (length xs - k)) one (said_more exact xs d b rest e))
  damaged_due xs (Err f) e n at same h =
      let one : f ≡ damaged n = cc in
      let d = said_damaged exact xs n (e ∙ ap (λ r. Err r) one) in
      past xs n at d.0 same d.1

  few_by : (xs : List ℕ) (n : ℕ) (o : Outcome A) → p xs ≡ o → at_end o ≡ Err (damaged n) → n ≤ length xs
  few_by xs n (Ok (d, [])) e h = absurd (cc)
  few_by xs n (Ok (d, b ∷ rest)) e h = let one : suc (length rest) ≡ n = cc in let few = fewer exact xs d b rest e in omega arith
  few_by xs n (Err f) e h = let one : f ≡ damaged n = cc in (said_damaged exact xs n (e ∙ ap (λ r. Err r) one)).0

  pub few_left : (xs : List ℕ) (n : ℕ) → at_end (p xs) ≡ Err (damaged n) → n ≤ length xs
  few_left xs n h = few_by xs n (p xs) refl h

  -- ---- the answers, where the mark is at the front

  pub right_value : (bytes xs : List ℕ) (a : A) → bytes ≡ mark ++ xs → at_end (p xs) ≡ Ok a → Are (after_mark mark write) Good bytes a
  right_value bytes xs a e h = subst (λ b. Are (after_mark mark write) Good b a) (sym e) (value_due xs (p xs) refl a h)

  pub right_cut : (bytes xs : List ℕ) → bytes ≡ mark ++ xs → at_end (p xs) ≡ Err cut → HasMark mark bytes × AreCut (after_mark mark write) Good bytes
  right_cut bytes xs e h = (record { rest = xs; bytes_are = e }, subst (AreCut (after_mark mark write) Good) (sym e) (cut_due xs (p xs) refl h))

  pub right_damaged : (bytes xs : List ℕ) (n at : ℕ) → bytes ≡ mark ++ xs → at ≡ length bytes - n → at_end (p xs) ≡ Err (damaged n)
      → HasMark mark bytes × AreDamagedAt (after_mark mark write) Good bytes at
  right_damaged bytes xs n at e same h =
      (record { rest = xs; bytes_are = e }, subst (λ b. AreDamagedAt (after_mark mark write) Good b at) (sym e) (damaged_due xs (p xs) refl n at (same ∙ ap (λ b. length b - n) e) h))

  -- each file of a good value is opened
  pub opened : (bytes xs : List ℕ) (a : A) → bytes ≡ mark ++ xs → Are (after_mark mark write) Good bytes a → at_end (p xs) ≡ Ok a
  opened bytes xs a e are =
      let back = are_back xs a (subst (λ b. Are (after_mark mark write) Good b a) e are) in
      ap (λ zs. at_end (p zs)) back.bytes ∙ read_back exact a back.good

pub not_both : {A : Type 0} (o : Result A Fault) (a : A) (f : Fault) → o ≡ Ok a → o ≡ Err f → ⊥
not_both {A} o a f e h = let same : ◌≡◌ {A = Result A Fault} (Ok a) (Err f) = sym e ∙ h in cc

-- what `strip_prefix` says of the mark
pub marked : (n : ℕ) (mark bytes xs : List ℕ) → take n bytes ≡ mark → xs ≡ drop n bytes → bytes ≡ mark ++ xs
marked n mark bytes xs e same = sym (take-append-drop n bytes) ∙ ap (λ m. m ++ drop n bytes) e ∙ ap (λ zs. mark ++ zs) (sym same)
