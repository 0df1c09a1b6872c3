-- What a sink and the bytes that wait before it have taken.
use Rattle.std.proofs.Common.{◌≡◌, ℕ, ◌+◌, ◌-◌, List, ◌++◌, length, take, drop, Option, Some, None, sym, ap, ◌∙◌, append_assoc, take-append-drop, arith, length-drop}
use Rattle.std.proofs.lemmas.List.{drop-drop, take_all}
use Rattle.std.specs.Io.KnownBytes.{Appends, Keeps}
use Rattle.sl_outside_buffered.specs.Buffered.{all_taken, waiting}

-- a piece of what waits is handed on
pub handed_on : (first old new : Option (List ℕ)) (left piece rest : List ℕ) → left ≡ piece ++ rest → Keeps first (all_taken old left) → Appends old new piece
    → Keeps first (all_taken new rest)
handed_on None old new left piece rest split kept appends = tt
handed_on (Some xs) None new left piece rest split kept appends = absurd kept
handed_on (Some xs) (Some ys) None left piece rest split kept appends = absurd appends
handed_on (Some xs) (Some ys) (Some zs) left piece rest split kept appends =
    ap (λ l. l ++ rest) appends ∙ append_assoc ys piece rest ∙ ap (λ l. ys ++ l) (sym split) ∙ kept

-- what waits falls into what is handed on and what is left
pub split_at : (gathered : List ℕ) (handed count : ℕ)
    → waiting handed gathered ≡ take count (take (length gathered - handed) (drop handed gathered)) ++ waiting (handed + count) gathered
split_at gathered handed count =
    let whole : take (length gathered - handed) (drop handed gathered) ≡ drop handed gathered =
    take_all (length gathered - handed) (drop handed gathered) (omega (arith, length-drop handed gathered)) in
    sym (take-append-drop count (drop handed gathered))
    ∙ ap (λ l. take count (drop handed gathered) ++ l) (drop-drop count handed gathered)
    ∙ ap (λ l. take count l ++ drop (handed + count) gathered) (sym whole)
