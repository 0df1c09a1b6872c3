-- The place of a byte.
use Rattle.std.proofs.Common.{◌≡◌, ◌==◌, ℕ, ◌+◌, ◌-◌, ◌≤◌, min, cond, List, ◌++◌, length, take, ap, ◌∙◌, arith}
use Rattle.std.proofs.Math.Nat.{min-eq_left}
use Rattle.std.proofs.Math.Seq.{take-append-add}
use Rattle.std.proofs.lemmas.List.{take-append-le}
use Rattle.std.proofs.lemmas.List.Sums.{sum_by-append, sum_by-take-drop}
use Rattle.std.proofs.lemmas.Option.{slice_get_within}
use Rattle.std.specs.Prelude.{slice_get}
use Rattle.sl_preproc.specs.Expanded.{or_no_place, place_at}
use Rattle.sl_test_laws.specs.Places.{BytesHaveTheirLinesPlace, ended}

abbrev is_feed : ℕ → ℕ
is_feed b = cond (b == 10) 1 0

-- no line ends in a part of a line
none_ended : (line : List ℕ) (i : ℕ) → ended line ≡ 0 → ended (take i line) ≡ 0
none_ended line i none = let parts = sum_by-take-drop is_feed line i in omega (arith, parts, none)

before_it : (before line after : List ℕ) (i : ℕ) → i ≤ length line → take (length before + i) (before ++ (line ++ after)) ≡ before ++ take i line
before_it before line after i within = take-append-add before (line ++ after) i ∙ ap (λ xs. before ++ xs) (take-append-le i line after within)

lines_before : (before line after : List ℕ) (i : ℕ) → ended line ≡ 0 → i ≤ length line → ended (take (length before + i) (before ++ (line ++ after))) ≡ ended before
lines_before before line after i none within =
    let sum = sum_by-append is_feed before (take i line) in
    let zero_ended = none_ended line i none in
    let total : ended (before ++ take i line) ≡ ended before = omega (arith, sum, zero_ended) in
    ap (λ xs. ended xs) (before_it before line after i within) ∙ total

pub place_is : BytesHaveTheirLinesPlace
unfolding place_at
place_is t before line after i place bytes none within is =
    let index : ended (take (length before + i) t.bytes) ≡ ended before = ap (λ xs. ended (take (length before + i) xs)) bytes ∙ lines_before before line after i none within in
    let some = slice_get_within t.places (ended before) place is in
    let least : min (ended before) (length t.places - 1) ≡ ended before = min-eq_left (omega (arith, some)) in
    ap (λ n. or_no_place (slice_get t.places (min n (length t.places - 1)))) index ∙ ap (λ n. or_no_place (slice_get t.places n)) least ∙ ap or_no_place is
