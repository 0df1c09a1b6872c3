-- Lines that a loop writes, one for each of a list.
use Rattle.std.proofs.Common.{◌≡◌, ℕ, ◌+◌, ◌<◌, ◌≤◌, List, [], ◌∷◌, ◌++◌, length, get_or, drop, Result, Ok}
use Rattle.std.proofs.Common.{Err, sym, ap, ◌∙◌, append_assoc, append-nil}
use Rattle.std.specs.Prelude.{OnOk}
use Rattle.std.proofs.lemmas.List.{drop_more}
use Rattle.std.proofs.Math.ListN.{drop_of_length-le}

-- `lines k xs` are the lines of xs, which are numbered from k on
module _ {X : Type 0} (lines : ℕ → List X → List ℕ) (line : ℕ → X → List ℕ)
    (more : (k : ℕ) (x : X) (xs : List X) → lines k (x ∷ xs) ≡ line k x ++ lines (k + 1) xs)
    (none : (k : ℕ) → lines k [] ≡ []) where
  -- what was written of the first k of them, and what the rest adds, is all
  abbrev pub AreWritten : List ℕ → List X → List ℕ → ℕ → Type 0
  AreWritten start xs now k = now ++ lines k (drop k xs) ≡ start ++ lines 0 xs

  pub one_written : (start : List ℕ) (xs : List X) (now after : List ℕ) (k : ℕ) (x : X) → k < length xs
      → x ≡ get_or xs k x → after ≡ now ++ line k x
      → AreWritten start xs now k → AreWritten start xs after (k + 1)
  one_written start xs now after k x below at is so_far =
      let rest : lines k (drop k xs) ≡ line k x ++ lines (k + 1) (drop (k + 1) xs) =
      ap (lines k) (drop_more xs k x below ∙ ap (λ (z : X). z ∷ drop (k + 1) xs) (sym at)) ∙ more k x
      (drop (k + 1) xs) in
      ap (λ (t : List ℕ). t ++ lines (k + 1) (drop (k + 1) xs)) is ∙ rw append_assoc
      (ap (λ (t : List ℕ). now ++ t) (sym rest) ∙ so_far)

  pub all_written : (start : List ℕ) (xs : List X) (now : List ℕ) (k : ℕ) → length xs ≤ k → AreWritten start xs now k
      → now ≡ start ++ lines 0 xs
  all_written start xs now k end so_far =
      let last : now ++ lines k (drop k xs) ≡ now =
      ap (λ (l : List X). now ++ lines k l) (drop_of_length-le xs end) ∙ ap (λ (t : List ℕ). now ++ t) (none k)
      ∙ append-nil now in
      sym last ∙ so_far

-- ---- one text behind another

pub appended : {T E : Type 0} (r : Result T E) (old mid new words name : List ℕ) → mid ≡ old ++ words → OnOk r
    (new ≡ mid ++ name)
    → OnOk r (new ≡ old ++ (words ++ name))
appended (Ok x) old mid new words name is h = h ∙ ap (λ (l : List ℕ). l ++ name) is ∙ append_assoc old words name
appended (Err e) old mid new words name is h = tt
