-- What a fetch from memory and a put into memory do.
use Rattle.std.proofs.Common.{◌≡◌, ℕ, ◌≤◌, List, [], ◌∷◌, ◌++◌, ◌⊎◌, inl, inr, Result, Ok, Err, Bool, true, false, sym, ap, subst, ◌∙◌, append-nil}
use Rattle.std.specs.Prelude.{OnOk, OnErr, Some, Option}
use Rattle.std.specs.Result.{is_err}
use Rattle.sl_outside.specs.Causes.{Rose}
use Rattle.sl_outside.specs.Folder.{Folder}
use Rattle.sl_outside.specs.Memory.{asked_of, failed_fetches, folder_of, names_of, told_of}
use Rattle.sl_outside.specs.Uses.{UsesFiles}
use Rattle.sl_outside.specs.declared.memory.MemFiles.{MemFiles}

-- The name was noted, or the call stops early and the names are those from before.
abbrev pub IsNoted : MemFiles → MemFiles → List ℕ → Type 0 → Type 0
IsNoted old new name early = (names_of new ≡ names_of old ++ name ∷ []) ⊎ ((names_of new ≡ names_of old) × early)

pub noted_if : {T E P Q R : Type 0} (r : Result T E) → OnOk r P → OnErr r Q → R → P ⊎ (Q × R)
noted_if (Ok x) p q r = inl p
noted_if (Err e) p q r = inr (q, r)

pub noted_ok : {T E P Q : Type 0} (r : Result T E) → is_err r ≡ false → OnOk r P → P ⊎ Q
noted_ok (Ok x) e p = inl p
noted_ok (Err x) e p = absurd (let clash : true ≡ false = e in cc)

err_is : {T E : Type 0} (e d : E) → ◌≡◌ {A = Result T E} (Err e) (Err d) → e ≡ d
err_is e d h = cc

-- the same error of a result of another type
pub err_again : {T U E : Type 0} (e d : E) → ◌≡◌ {A = Result T E} (Err e) (Err d) → ◌≡◌ {A = Result U E} (Err e) (Err d)
err_again {T = T} {U = U} {E = E} e d h = ap (λ (x : E). let r : Result U E = Err x in r) (err_is {T = T} e d h)

pub uses : (old new : MemFiles) (name : List ℕ) (early fails : Type 0) → folder_of new ≡ folder_of old → failed_fetches old ≤ failed_fetches new
    → (fails → Rose (failed_fetches old) (failed_fetches new)) → IsNoted old new name early
    → UsesFiles told_of failed_fetches asked_of old new (name ∷ []) early fails
uses old new name early fails same falls failed (inl noted) = record {
  same_folder = ap (λ (f : Folder). let o : Option Folder = Some f in o) same;
  never_falls = falls;
  failed = failed;
  asks_front = (1, noted);
  asks_all = λ h. noted;
}
uses old new name early fails same falls failed (inr stopped) = record {
  same_folder = ap (λ (f : Folder). let o : Option Folder = Some f in o) same;
  never_falls = falls;
  failed = failed;
  asks_front = (0, stopped.0 ∙ sym (append-nil (names_of old)));
  asks_all = λ h. absurd (h stopped.1);
}
