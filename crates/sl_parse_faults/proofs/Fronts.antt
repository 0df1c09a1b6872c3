-- Fronts of lists of symbols.
use Rattle.std.proofs.Common.{◌≡◌, ℕ, ◌<◌, ◌≤◌, false, nat_le, List, [], ◌∷◌, ◌++◌, length, refl, ap, sym, ◌∙◌, arith, append-nil, length-append}
use Rattle.std.proofs.lemmas.Bool.Decides.{nat_tests}
use Rattle.sl_ast.specs.Symbols.{Sym}

unfoldable pub head_or : Sym → List Sym → Sym
head_or d [] = d
head_or d (x ∷ xs) = x

tail_of : List Sym → List Sym
tail_of [] = []
tail_of (x ∷ xs) = xs

-- the longer front of two
pub front_of : (xs ys zs ws : List Sym) → xs ++ ys ≡ zs ++ ws → length ys ≤ length ws → (more : List Sym) × (xs ≡ zs ++ more)
unfolding tail_of head_or
front_of xs ys [] ws e less = (xs, refl)
front_of [] ys (z ∷ zs) ws e less = let long = ap length e in let count = length-append zs ws in absurd (omega (arith, long, count, less))
front_of (x ∷ xs) ys (z ∷ zs) ws e less =
    let same : x ≡ z = ap (head_or z) e in
    let later = front_of xs ys zs ws (ap tail_of e) less in
    (later.0, ap (λ v. v ∷ xs) same ∙ ap (λ vs. z ∷ vs) later.1)

-- what stands behind the same symbols
pub behind : (xs ys zs : List Sym) → xs ++ ys ≡ xs ++ zs → ys ≡ zs
unfolding tail_of
behind [] ys zs e = e
behind (x ∷ xs) ys zs e = behind xs ys zs (ap tail_of e)

no_front : (xs more : List Sym) → length (xs ++ more) ≡ length xs → xs ++ more ≡ xs
no_front xs [] e = append-nil xs
no_front xs (x ∷ more) e = let sum = length-append xs (x ∷ more) in absurd (omega (arith, e, sum))

-- what stands before the same symbols
pub before : (xs ys zs : List Sym) → xs ++ zs ≡ ys ++ zs → xs ≡ ys
before xs ys zs e =
    let long = ap length e in
    let first = length-append xs zs in
    let second = length-append ys zs in
    let more = front_of xs zs ys zs e (omega arith) in
    let same = ap length more.1 in
    more.1 ∙ no_front ys more.0 (omega (arith, long, first, second, same))

-- as many symbols behind
pub same_rest : (xs ys zs ws : List Sym) → xs ++ ys ≡ zs ++ ws → length ys ≡ length ws → ys ≡ ws
same_rest xs ys zs ws e count =
    let first = length-append xs ys in
    let second = length-append zs ws in
    let long = ap length e in
    let more = front_of xs ys zs ws e (omega (arith, count)) in
    let same = ap length more.1 in
    let front : xs ≡ zs = more.1 ∙ no_front zs more.0 (omega (arith, long, first, second, same, count)) in
    behind zs ys ws (ap (λ vs. vs ++ ys) (sym front) ∙ e)

-- a test of numbers
pub gt_is : (a b : ℕ) → nat_le a b ≡ false → b < a
gt_is a b h = grind (arith, nat_tests)
