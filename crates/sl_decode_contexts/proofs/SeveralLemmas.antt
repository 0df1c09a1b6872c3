-- Commits that are made one after another.
use Rattle.std.proofs.Common.{◌≡◌, ℕ, ◌+◌, ◌<◌, ◌≤◌, List, [], ◌∷◌, ◌++◌, length, take, get_or, sym, ap, ◌∙◌, subst, add-one}
use Rattle.std.proofs.Math.Seq.{take-suc}
use Rattle.std.proofs.lemmas.List.{append_assoc, take_all}
use Rattle.sl_decode_contexts.specs.Kept.{Kept}
use Rattle.sl_decode_contexts.specs.Runs.{Stands}
use Rattle.sl_decode_contexts.specs.declared.commits.Commit.{Commit}

-- one more commit of a list
pub one_commit : (m : Kept) (start : ℕ) (cs xs : List Commit) (k : ℕ) (d : Commit) → k < length xs → Stands m start (cs ++ take k xs ++ get_or xs k d ∷ []) → Stands m start (cs ++ take (k + 1) xs)
one_commit m start cs xs k d h s =
    let e : take (k + 1) xs ≡ take k xs ++ get_or xs k d ∷ [] = rw add-one (take-suc xs k d h) in
    subst (Stands m start) (append_assoc cs (take k xs) (get_or xs k d ∷ []) ∙ ap (λ l. cs ++ l) (sym e)) s

pub all_commits : (m : Kept) (start : ℕ) (cs xs : List Commit) (k : ℕ) → length xs ≤ k → Stands m start (cs ++ take k xs) → Stands m start (cs ++ xs)
all_commits m start cs xs k h s = subst (λ l. Stands m start (cs ++ l)) (take_all k xs h) s
