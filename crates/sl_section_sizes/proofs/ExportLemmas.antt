-- The sizes that tables export, as the definitions see them.
use Rattle.std.proofs.Common.{◌≡◌, ℕ, ◌+◌, List, [], ◌∷◌, ◌++◌, Option, Some, None, replicate, slice_set, option_map, sym, ap, ◌∙◌, subst}
use Rattle.std.proofs.lemmas.List.{map-set, map-append, replicate-append-replicate}
use Rattle.sl_word.specs.declared.word.Size.{Size}
use Rattle.sl_section_flat.specs.Chains.{bytes_of}
use Rattle.sl_section_equations.specs.Known.{exports_of}
use Rattle.sl_section_sizes.specs.Sizings as z

pub kept_is : (exports : List (Option Size)) (table : ℕ) (size : Size) (given : Option Size) → given ≡ Some size
    → exports_of (slice_set exports table (Some size)) ≡ z.with_export (exports_of exports) table (option_map bytes_of given)
kept_is exports table size given is =
    map-set (option_map bytes_of) exports table (Some size) ∙ ap (λ (g : Option Size). z.with_export (exports_of exports) table (option_map bytes_of g)) (sym is)

-- one more table of which nothing is known
pub one_more : (exports : List (Option Size)) (n : ℕ) → exports_of exports ≡ replicate n None → exports_of (exports ++ None ∷ []) ≡ replicate (n + 1) None
one_more exports n is =
    map-append (option_map bytes_of) exports (None ∷ []) ∙ ap (λ (l : List (Option ℕ)). l ++ None ∷ []) is ∙ replicate-append-replicate n 1 None

-- what holds of two values holds of their equals
pub by_two : {A B : Type 0} (P : A → B → Type 0) {a c : A} {b d : B} → a ≡ c → b ≡ d → P a b → P c d
by_two P {a} {c} {b} {d} e f h = subst (λ x. P x d) e (subst (P a) f h)
