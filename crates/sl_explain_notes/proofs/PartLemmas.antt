-- Parts of lists, one member after another.
use Rattle.std.proofs.Common.{◌≡◌, ◌+◌, ◌<◌, ℕ, Bool, true, false, List, [], ◌∷◌, drop, length, sym, ap, ◌∙◌, arith}
use Rattle.std.specs.Prelude.{◌||◌}
use Rattle.std.proofs.lemmas.List.{drop-map, drop_more}
use Rattle.sl_explain_notes.specs.Lists.{begins_with, has_part}
use Rattle.sl_lex.specs.Reading.{Token}
use Rattle.sl_lex.specs.Views.{view, views}
use Rattle.sl_lex.specs.declared.Tok.{Tok}

-- what is left of a list has the members at its beginning, or behind its first member
split : (at : ℕ) (list : List Tok) (part : List Token) → at < length list
    → has_part (views (drop at list)) part ≡ (begins_with (drop at (views list)) part || has_part (views (drop (at + 1) list)) part)
split at [] part small = absurd (let none : ⊥ = omega (arith, small) in none)
split at (t ∷ ts) part small =
    let list : List Tok = t ∷ ts in
    let rest : Bool = has_part (views (drop (at + 1) list)) part in
    ap (λ (l : List Tok). has_part (views l) part) (drop_more list at t small)
    ∙ ap (λ (l : List Token). begins_with l part || rest)
    (sym (ap (λ (l : List Tok). views l) (drop_more list at t small)) ∙ sym (drop-map view at list))

pub found : (at : ℕ) (list : List Tok) (part front : List Token) → at < length list → front ≡ drop at (views list)
    → begins_with front part ≡ true → true ≡ has_part (views (drop at list)) part
found at list part front small is here =
    let rest : Bool = has_part (views (drop (at + 1) list)) part in
    sym (split at list part small ∙ ap (λ (l : List Token). begins_with l part || rest) (sym is) ∙ ap (λ (b : Bool). b || rest) here)

pub passed : (at : ℕ) (list : List Tok) (part front : List Token) → at < length list → front ≡ drop at (views list)
    → begins_with front part ≡ false → has_part (views (drop (at + 1) list)) part ≡ has_part (views (drop at list)) part
passed at list part front small is absent =
    let rest : Bool = has_part (views (drop (at + 1) list)) part in
    sym (split at list part small ∙ ap (λ (l : List Token). begins_with l part || rest) (sym is) ∙ ap (λ (b : Bool). b || rest) absent)
