-- Words that name no command.
use Rattle.std.proofs.Common.{◌≡◌, ℕ, Bool, true, false, cond, List, [], ◌∷◌, None, Some, refl, sym}
use Rattle.std.specs.List.{find}
use Rattle.std.specs.Str.{bytes_eq}
use Rattle.std.proofs.lemmas.Slice.Eq.{bytes_eq-Decides}
use Rattle.sl_tool_request.specs.Requests.{Command}

-- The word is the name of none.
abbrev pub NamesNone : List ℕ → List Command → Type 0
NamesNone word [] = Unit {0}
NamesNone word (c ∷ cs) = (word ≡ c.name → ⊥) × NamesNone word cs

pub none_named : (word : List ℕ) (cs : List Command) → NamesNone word cs → find (λ c. bytes_eq c.name word) cs ≡ None
none_named word [] other = refl
none_named word (c ∷ cs) other = by_name (bytes_eq c.name word) refl (none_named word cs other.1)
  where
    by_name : (b : Bool) → bytes_eq c.name word ≡ b → find (λ c. bytes_eq c.name word) cs ≡ None
        → cond b (Some c) (find (λ c. bytes_eq c.name word) cs) ≡ None
    by_name true is later = absurd (other.0 (sym ((bytes_eq-Decides c.name word).0 is)))
    by_name false is later = later
