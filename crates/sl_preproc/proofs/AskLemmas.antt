-- Names asked for, one list after another.
use Rattle.std.proofs.Common.{◌≡◌, ℕ, ◌+◌, List, [], ◌++◌, take, drop, length, Option, Some, None, arith, refl, sym, ap, subst, ◌∙◌, append_assoc, append-nil}
use Rattle.std.proofs.lemmas.List.{take-append-drop}
use Rattle.std.proofs.Math.Seq.{take-append_seam, take-append-add}
use Rattle.sl_outside.proofs.Counts.{rose_more}
use Rattle.sl_outside.specs.Folder.{Folder}
use Rattle.sl_outside.specs.Uses.{Names, Asks, AsksFront, UsesFiles}

asks_none : (a : Names) → Asks a a []
asks_none None = tt
asks_none (Some xs) = sym (append-nil xs)

asks_then : (a b c : Names) (xs ys : List (List ℕ)) → Asks a b xs → Asks b c ys → Asks a c (xs ++ ys)
asks_then None b c xs ys h k = tt
asks_then (Some x) None c xs ys h k = absurd h
asks_then (Some x) (Some y) None xs ys h k = absurd k
asks_then (Some x) (Some y) (Some z) xs ys h k = k ∙ ap (λ (l : List (List ℕ)). l ++ ys) h ∙ append_assoc x xs ys

front_then : (a b c : Names) (xs ys : List (List ℕ)) → Asks a b xs → AsksFront b c ys → AsksFront a c (xs ++ ys)
front_then a b c xs ys h w =
    (length xs + w.0, subst (λ (l : List (List ℕ)). Asks a c l) (sym (take-append-add xs ys w.0)) (asks_then a b c xs (take w.0 ys) h w.1))

take_within : (n : ℕ) (xs ys : List (List ℕ)) → take (length (take n xs)) (xs ++ ys) ≡ take n xs
take_within n xs ys =
    ap (λ (l : List (List ℕ)). take (length (take n xs)) (l ++ ys)) (sym (take-append-drop n xs))
    ∙ ap (λ (l : List (List ℕ)). take (length (take n xs)) l) (append_assoc (take n xs) (drop n xs) ys)
    ∙ take-append_seam (take n xs) (drop n xs ++ ys)

front_more : (a b : Names) (xs ys : List (List ℕ)) → AsksFront a b xs → AsksFront a b (xs ++ ys)
front_more a b xs ys w = (length (take w.0 xs), subst (λ (l : List (List ℕ)). Asks a b l) (sym (take_within w.0 xs ys)) w.1)

-- ---- calls one after another

module _ {F : Type 0} (told : F → Option Folder) (faults : F → ℕ) (asked : F → Names) where
  abbrev Uses : F → F → List (List ℕ) → Type 0 → Type 0 → Type 0
  Uses = UsesFiles told faults asked

  -- nothing was asked for
  pub uses_nothing : (old : F) (early fails : Type 0) → (fails → ⊥) → Uses old old [] early fails
  uses_nothing old early fails h = record {
    same_folder = refl;
    never_falls = omega arith;
    failed = λ f. absurd (h f);
    asks_front = (0, asks_none (asked old));
    asks_all = λ _. asks_none (asked old);
  }

  pub uses_then : (old mid new : F) (xs ys : List (List ℕ)) (early fails stops breaks : Type 0) → (early → ⊥)
      → Uses old mid xs early fails → Uses mid new ys stops breaks → Uses old new (xs ++ ys) stops breaks
  uses_then old mid new xs ys early fails stops breaks goes u v = record {
    same_folder = v.same_folder ∙ u.same_folder;
    never_falls = omega (arith, u.never_falls, v.never_falls);
    failed = λ f. rose_more _ _ _ u.never_falls (v.failed f);
    asks_front = front_then _ _ _ xs ys (u.asks_all goes) v.asks_front;
    asks_all = λ s. asks_then _ _ _ xs ys (u.asks_all goes) (v.asks_all s);
  }

  -- where a call stopped early, further names are due
  pub uses_front : (old new : F) (xs ys : List (List ℕ)) (early fails stops breaks : Type 0) → stops → (breaks → fails)
      → Uses old new xs early fails → Uses old new (xs ++ ys) stops breaks
  uses_front old new xs ys early fails stops breaks stopped f u = record {
    same_folder = u.same_folder;
    never_falls = u.never_falls;
    failed = λ b. u.failed (f b);
    asks_front = front_more _ _ xs ys u.asks_front;
    asks_all = λ s. absurd (s stopped);
  }

  pub uses_same : (old new : F) (xs ys : List (List ℕ)) (early fails : Type 0) → xs ≡ ys → Uses old new xs early fails → Uses old new ys early fails
  uses_same old new xs ys early fails e u = subst (λ (l : List (List ℕ)). Uses old new l early fails) e u

  pub uses_weaker : (old new : F) (xs : List (List ℕ)) (early fails stops breaks : Type 0) → (early → stops) → (breaks → fails)
      → Uses old new xs early fails → Uses old new xs stops breaks
  uses_weaker old new xs early fails stops breaks e f u = record {
    same_folder = u.same_folder;
    never_falls = u.never_falls;
    failed = λ b. u.failed (f b);
    asks_front = u.asks_front;
    asks_all = λ s. u.asks_all (λ x. s (e x));
  }
