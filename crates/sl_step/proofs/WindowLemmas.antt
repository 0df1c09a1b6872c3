-- A list all of whose bytes are told.
use Rattle.std.proofs.Common.{◌≡◌, ℕ, ◌<◌, ◌≤◌, List, length, get_or, map, take, ext_get_or, get_or-take, length-take, length-take-le, ap, sym, ◌∙◌, arith}
use Rattle.std.specs.Prelude.{min}
use Rattle.std.proofs.lemmas.List.FromFn.{get_or-map-range_with_len, length-map-range_with_len}
use Rattle.std.specs.List.{range_with_len}

pub all_told : (f : ℕ → ℕ) (xs : List ℕ) (n : ℕ) → length xs ≡ n → ((k : ℕ) → k < n → get_or xs k 0 ≡ f k) → xs
    ≡ map f (range_with_len 0 n)
all_told f xs n long each =
    let many = length-map-range_with_len f 0 n in
    ext_get_or 0 xs (map f (range_with_len 0 n)) (long ∙ sym many)
    (λ k low. each k (omega arith) ∙ sym (get_or-map-range_with_len f 0 n k k 0 (omega arith) (omega arith)))

-- What begins few of them begins all.
pub told_more : (f : ℕ → ℕ) (xs : List ℕ) (few many : ℕ) → few ≤ many → take (length xs) (map f (range_with_len 0 few)) ≡ xs
    → take (length xs) (map f (range_with_len 0 many)) ≡ xs
told_more f xs few many less is =
    let n : ℕ = length xs in
    let count = length-map-range_with_len f 0 few in
    let whole = length-map-range_with_len f 0 many in
    let cut : min n (length (map f (range_with_len 0 few))) ≡ n = sym (length-take n (map f (range_with_len 0 few))) ∙ ap length is in
    let short : n ≤ few = omega (arith, cut, count) in
    let front = length-take-le n (map f (range_with_len 0 many)) (omega (arith, whole, short, less)) in
    ext_get_or 0 (take n (map f (range_with_len 0 many))) xs front
    (λ k low.
    let below : k < n = omega (arith, low, front) in
    let inside : k < few = omega (arith, below, short) in
    let within : k < many = omega (arith, inside, less) in
    get_or-take n (map f (range_with_len 0 many)) k 0 below
    ∙ get_or-map-range_with_len f 0 many k k 0 within (omega arith)
    ∙ sym (get_or-map-range_with_len f 0 few k k 0 inside (omega arith))
    ∙ sym (get_or-take n (map f (range_with_len 0 few)) k 0 below)
    ∙ ap (λ (l : List ℕ). get_or l k 0) is)
