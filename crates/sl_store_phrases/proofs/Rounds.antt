-- A round of a list that is read in a loop.
use Rattle.std.proofs.Common.{◌≡◌, ℕ, suc, List, [], ◌∷◌, ◌++◌, Ok, refl, ap, sym, ◌∙◌, subst}
use Rattle.sl_store_bytes.specs.Lists.{some_more, collected, listed}
use Rattle.sl_store_bytes.specs.Numbers.{number}
use Rattle.sl_store_bytes.specs.Reader.{cut, damaged, Outcome, Reader, and_then}
use Rattle.sl_store_bytes.specs.Reads.{Stops}
use Rattle.sl_store_bytes.specs.declared.bytes.Stop as s
use Rattle.sl_store_bytes.specs.declared.bytes.Stop.TheVariants as sv
use Rattle.sl_store_bytes.proofs.Collected.{collected_next, collected_err, collected_end, collected_none}

pub stops_along : {A : Type 0} (o p : Outcome A) (e : s.Stop) → o ≡ p → Stops p e → Stops o e
stops_along o p e same h = let P : Outcome _ → Type 0 = λ x. Stops x e in subst P (sym same) h

-- what stops a part stops the whole
pub stops_then : {A B : Type 0} (o : Outcome A) (go : A → Reader B) (e : s.Stop) → Stops o e → Stops (and_then o go) e
stops_then o go sv.NoMemory h = tt
stops_then o go sv.Cut h = rw h refl
stops_then o go (sv.Damaged n) h = rw h refl

module _ {A S : Type 0} (read : ℕ → S → Reader A) (after : S → A → S) where
  pub rounds_begin : (least most : ℕ) (xs rest : List ℕ) (n : ℕ) (t : S) → number least most xs ≡ Ok (n, rest)
      → listed least most read after t xs ≡ collected [] (some_more read after n t rest)
  rounds_begin least most xs rest n t e = rw e (collected_none (some_more read after n t rest))

  pub round_goes : (found : List A) (m n : ℕ) (t : S) (xs rest : List ℕ) (a : A) → m ≡ suc n → read n t xs ≡ Ok (a, rest)
      → collected found (some_more read after m t xs) ≡ collected (found ++ a ∷ []) (some_more read after n (after t a) rest)
  round_goes found m n t xs rest a same e = ap (λ k. collected found (some_more read after k t xs)) same ∙ collected_next read after found n t xs rest a e

  pub round_stops : (found : List A) (m n : ℕ) (t : S) (xs : List ℕ) (e : s.Stop) → m ≡ suc n → Stops (read n t xs) e
      → Stops (collected found (some_more read after m t xs)) e
  round_stops found m n t xs sv.NoMemory same h = tt
  round_stops found m n t xs sv.Cut same h = ap (λ k. collected found (some_more read after k t xs)) same ∙ collected_err read after found n t xs cut h
  round_stops found m n t xs (sv.Damaged k) same h = ap (λ j. collected found (some_more read after j t xs)) same ∙ collected_err read after found n t xs (damaged k) h

  pub rounds_end : (found : List A) (m : ℕ) (t : S) (xs : List ℕ) → m ≡ 0 → collected found (some_more read after m t xs) ≡ Ok (found, xs)
  rounds_end found m t xs same = ap (λ k. collected found (some_more read after k t xs)) same ∙ collected_end read after found t xs
