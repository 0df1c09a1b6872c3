-- Readers of lists, in two readings side by side.
use Rattle.std.proofs.Common.{◌≡◌, ℕ, zero, suc, ◌+◌, ◌<◌, ◌≤◌, Bool, true, false, cond, List, [], ◌∷◌, ◌++◌, length, drop, Option, Some, refl, arith, length-append}
use Rattle.sl_ast.specs.Symbols.{Sym}
use Rattle.sl_ast.specs.declared.symbols.Mark.TheVariants as m
use Rattle.sl_parse_grammar.specs.Lists.{many_from, many, separated_from, separated, listed}
use Rattle.sl_parse_grammar.specs.Reader.{Input, at, first, next, Reader, ◌>>=◌, ◌>>◌, pure, skip, look, is_mark}
use Rattle.sl_parse_faults.proofs.BesideSteps.{Pair, Untaken, Firm, NoMore, Abreast, both_ok, Begun, Beside, Closed, nothing_left, closed_look, closed_pure, no_more_le, then_no_more, less_left, weaker, goes_on, beside_at, takes_less, beside_pure}
use Rattle.sl_parse_faults.proofs.BesideSymbols.{no_mark, look_mark}

pub if_no_more : {A : Type 0} (n : ℕ) (b : Bool) (p q : Reader A) (i : Input) → NoMore n (p i) → NoMore n (q i) → NoMore n (cond {A = Reader A} b p q i)
if_no_more n true p q i h g = h
if_no_more n false p q i h g = g

separated_onward : {A : Type 0} (q : Reader A) → ((i : Input) → NoMore (length i.rest) (q i)) → (n : ℕ) (found : List A) (i : Input) → NoMore (length i.rest) (separated_from q n found i)
unfolding separated_from
separated_onward q onward zero found i = omega arith
separated_onward q onward (suc n) found i =
    then_no_more (length i.rest) (q i) (λ a. look (is_mark m.Comma) (skip >> separated_from q n (found ++ a ∷ [])) (pure (found ++ a ∷ []))) (λ a j.
    if_no_more (length j.rest) (is_mark m.Comma (first j.rest)) (skip >> separated_from q n (found ++ a ∷ [])) (pure (found ++ a ∷ [])) j
    (no_more_le (length (drop 1 j.rest)) (length j.rest) _ (less_left j.rest) (separated_onward q onward n (found ++ a ∷ []) (next j))) (omega arith)) (onward i)

pub many_onward : {A : Type 0} (goes : Option Sym → Bool) (q : Reader A) → ((i : Input) → NoMore (length i.rest) (q i)) → (n : ℕ) (found : List A) (i : Input) → NoMore (length i.rest) (many_from goes q n found i)
unfolding many_from
many_onward goes q onward zero found i = omega arith
many_onward goes q onward (suc n) found i =
    if_no_more (length i.rest) (goes (first i.rest)) (q >>= (λ a. many_from goes q n (found ++ a ∷ []))) (pure found) i
    (then_no_more (length i.rest) (q i) (λ a. many_from goes q n (found ++ a ∷ [])) (λ a j. many_onward goes q onward n (found ++ a ∷ []) j) (onward i)) (omega arith)

module _ {zs ys K W : List Sym} (h : Pair zs ys K W) (more : ℕ) where
  pub if_same : {L : List Sym → Type 0} {A : Type 0} {t l r : ℕ} (b c : Bool) (p q p' q' : Reader A) (i j : Input) → b ≡ c → Abreast h more L A t l r (p i) (p' j) → Abreast h more L A t l r (q i) (q' j)
      → Abreast h more L A t l r (cond {A = Reader A} b p q i) (cond {A = Reader A} c p' q' j)
  if_same true true p q p' q' i j e there not_there = there
  if_same true false p q p' q' i j e there not_there = absurd (cc)
  if_same false true p q p' q' i j e there not_there = absurd (cc)
  if_same false false p q p' q' i j e there not_there = not_there

  pub if_neither : {L : List Sym → Type 0} {A : Type 0} {t l r : ℕ} (b c : Bool) (p q p' q' : Reader A) (i j : Input) → b ≡ false → c ≡ false → Abreast h more L A t l r (q i) (q' j)
      → Abreast h more L A t l r (cond {A = Reader A} b p q i) (cond {A = Reader A} c p' q' j)
  if_neither true c p q p' q' i j e g there = absurd (cc)
  if_neither false true p q p' q' i j e g there = absurd (cc)
  if_neither false false p q p' q' i j e g there = there

  -- ---- with commas between

  comma_abreast : {b : Bool} {A : Type 0} (p q : Reader (List A)) (found : List A) (l r : ℕ) (xs : List Sym) (s : ℕ) → 1 + length xs ≤ l → s ≤ r
      → ((front : List Sym) → 1 + length front ≤ l → Abreast h more (Untaken zs b) (List A) 1 (length front) s (p (at (front ++ K) (more + s))) (q (at (front ++ W) s)))
      → Abreast h more (Untaken zs b) (List A) 1 l r (look (is_mark m.Comma) (skip >> p) (pure found) (at (xs ++ K) (more + s))) (look (is_mark m.Comma) (skip >> q) (pure found) (at (xs ++ W) s))
  comma_abreast p q found l r [] s fits le again =
      if_neither (is_mark m.Comma (first K)) (is_mark m.Comma (first W)) (skip >> p) (pure found) (skip >> q) (pure found) (at K (more + s)) (at W s)
      (no_mark h m.Comma tt).0 (no_mark h m.Comma tt).1 (both_ok found [] s fits le)
  comma_abreast p q found l r (x ∷ xs) s fits le again =
      if_same (is_mark m.Comma (Some x)) (is_mark m.Comma (Some x)) (skip >> p) (pure found) (skip >> q) (pure found) (at (x ∷ (xs ++ K)) (more + s)) (at (x ∷ (xs ++ W)) s) refl
      (weaker h more 1 1 (length xs) l s r _ _ (λ d e. omega arith) le (λ d y. y) (again xs (omega arith))) (both_ok found (x ∷ xs) s fits le)

  separated_abreast : {b : Bool} {A : Type 0} {n : ℕ} (p q : Reader A) → Beside h more (Untaken zs b) 1 n p q → (c d : ℕ) (found : List A) (xs : List Sym) (r : ℕ) → r < n
      → length xs + length K < c → length xs + length W < d
      → Abreast h more (Untaken zs b) (List A) 1 (length xs) r (separated_from p c found (at (xs ++ K) (more + r))) (separated_from q d found (at (xs ++ W) r))
  unfolding separated_from
  separated_abreast p q part zero d found xs r less enough also = absurd (omega arith)
  separated_abreast p q part (suc c) zero found xs r less enough also = absurd (omega arith)
  separated_abreast p q part (suc c) (suc d) found xs r less enough also =
      goes_on h more 1 1 (length xs) r (p (at (xs ++ K) (more + r))) (q (at (xs ++ W) r))
      (λ a. look (is_mark m.Comma) (skip >> separated_from p c (found ++ a ∷ [])) (pure (found ++ a ∷ [])))
      (λ a. look (is_mark m.Comma) (skip >> separated_from q d (found ++ a ∷ [])) (pure (found ++ a ∷ [])))
      (λ a front s fits le. comma_abreast (separated_from p c (found ++ a ∷ [])) (separated_from q d (found ++ a ∷ [])) (found ++ a ∷ []) (length xs) r front s fits le
      (λ short shorter. separated_abreast p q part c d (found ++ a ∷ []) short s (omega arith) (omega arith) (omega arith)))
      (λ a i. if_no_more (length i.rest) (is_mark m.Comma (first i.rest)) (skip >> separated_from q d (found ++ a ∷ [])) (pure (found ++ a ∷ [])) i
      (no_more_le (length (drop 1 i.rest)) (length i.rest) _ (less_left i.rest) (separated_onward q part.begun.onward d (found ++ a ∷ []) (next i))) (omega arith))
      (λ a. closed_look m.Comma tt (closed_pure (found ++ a ∷ []))) (beside_at h more p q part xs r less)

  pub beside_separated : {b : Bool} {A : Type 0} {n : ℕ} (p q : Reader A) → Beside h more (Untaken zs b) 1 n p q → Beside h more (Untaken zs b) 1 n (separated p) (separated q)
  beside_separated p q part = record {
    begun = record {
      ahead = λ x xs r less. (let first = length-append xs K in let second = length-append xs W in separated_abreast p q part _ _ [] (x ∷ xs) r less (omega arith) (omega arith));
      onward = λ i. separated_onward q part.begun.onward _ [] i;
    };
    here = λ r less. separated_abreast p q part _ _ [] [] r less (omega arith) (omega arith);
  }

  pub beside_listed : {b : Bool} {A : Type 0} {n : ℕ} {p q : Reader A} → Beside h more (Untaken zs b) 1 n p q → Beside h more (Untaken zs b) zero n (listed p) (listed q)
  unfolding listed
  beside_listed {p = p} {q = q} part = look_mark h more m.Close tt (beside_pure h more []).begun (takes_less h more zero (omega arith) (beside_separated p q part))

  -- ---- as long as a test is passed

  -- what the list does at the place
  abbrev pub Lists : {A : Type 0} (L : List Sym → Type 0) (n : ℕ) (goes : Option Sym → Bool) (p q : Reader A) → Type 0
  Lists {A} L n goes p q = (c d : ℕ) (found : List A) (r : ℕ) → r < n → length K < c → length W < d
      → Abreast h more L (List A) zero zero r (many_from goes p c found (at K (more + r))) (many_from goes q d found (at W r))

  many_abreast : {L M : List Sym → Type 0} {A : Type 0} {n : ℕ} (goes : Option Sym → Bool) (p q : Reader A) → Begun h more L 1 n p q → Lists M n goes p q
      → ((c : ℕ) (found : List A) → Closed L M (many_from goes p c found)) → (c d : ℕ) (found : List A) (xs : List Sym) (r : ℕ) → r < n
      → length xs + length K < c → length xs + length W < d
      → Abreast h more M (List A) zero (length xs) r (many_from goes p c found (at (xs ++ K) (more + r))) (many_from goes q d found (at (xs ++ W) r))
  unfolding many_from
  many_abreast goes p q part place closes zero d found xs r less enough also = absurd (omega arith)
  many_abreast goes p q part place closes (suc c) zero found xs r less enough also = absurd (omega arith)
  many_abreast goes p q part place closes (suc c) (suc d) found [] r less enough also = place (suc c) (suc d) found r less (omega arith) (omega arith)
  many_abreast goes p q part place closes (suc c) (suc d) found (x ∷ xs) r less enough also =
      if_same (goes (Some x)) (goes (Some x)) (p >>= (λ a. many_from goes p c (found ++ a ∷ []))) (pure found) (q >>= (λ a. many_from goes q d (found ++ a ∷ []))) (pure found)
      (at (x ∷ (xs ++ K)) (more + r)) (at (x ∷ (xs ++ W)) r) refl
      (goes_on h more 1 zero (suc (length xs)) r (p (at (x ∷ (xs ++ K)) (more + r))) (q (at (x ∷ (xs ++ W)) r)) (λ a. many_from goes p c (found ++ a ∷ [])) (λ a. many_from goes q d (found ++ a ∷ []))
      (λ a front s fits le. weaker h more zero zero (length front) (suc (length xs)) s r _ _ (λ x e. omega arith) le (λ d x. x)
      (many_abreast goes p q part place closes c d (found ++ a ∷ []) front s (omega arith) (omega arith) (omega arith)))
      (λ a i. many_onward goes q part.onward d (found ++ a ∷ []) i) (λ a. closes c (found ++ a ∷ [])) (part.ahead x xs r less))
      (both_ok found (x ∷ xs) r (omega arith) (omega arith))

  pub many_by : {L M : List Sym → Type 0} {A : Type 0} {n : ℕ} (goes : Option Sym → Bool) (p q : Reader A) → Begun h more L 1 n p q → Lists M n goes p q
      → ((c : ℕ) (found : List A) → Closed L M (many_from goes p c found)) → Beside h more M zero n (many goes p) (many goes q)
  many_by goes p q part place closes = record {
    begun = record {
      ahead = λ x xs r less. (let first = length-append xs K in let second = length-append xs W in many_abreast goes p q part place closes _ _ [] (x ∷ xs) r less (omega arith) (omega arith));
      onward = λ i. many_onward goes q part.onward _ [] i;
    };
    here = λ r less. place _ _ [] r less (omega arith) (omega arith);
  }

  -- where the part itself is known at the place
  part_lists : {L : List Sym → Type 0} {A : Type 0} {n : ℕ} (goes : Option Sym → Bool) (p q : Reader A) → Beside h more L 1 n p q → goes (first K) ≡ goes (first W)
      → ((c : ℕ) (found : List A) → Closed L L (many_from goes p c found)) → Lists L n goes p q
  unfolding many_from
  part_lists goes p q part same closes zero d found r less enough also = absurd (omega arith)
  part_lists goes p q part same closes (suc c) zero found r less enough also = absurd (omega arith)
  part_lists goes p q part same closes (suc c) (suc d) found r less enough also =
      if_same (goes (first K)) (goes (first W)) (p >>= (λ a. many_from goes p c (found ++ a ∷ []))) (pure found) (q >>= (λ a. many_from goes q d (found ++ a ∷ []))) (pure found)
      (at K (more + r)) (at W r) same
      (goes_on h more 1 zero zero r (p (at K (more + r))) (q (at W r)) (λ a. many_from goes p c (found ++ a ∷ [])) (λ a. many_from goes q d (found ++ a ∷ []))
      (λ a front s fits le. absurd (omega arith))
      (λ a i. many_onward goes q part.begun.onward d (found ++ a ∷ []) i) (λ a. closes c (found ++ a ∷ [])) (part.here r less))
      (both_ok found [] r (omega arith) (omega arith))

  -- of parts that leave nothing untaken
  pub beside_many : {A : Type 0} {n : ℕ} (goes : Option Sym → Bool) {p q : Reader A} → Beside h more Firm 1 n p q → goes (first K) ≡ goes (first W) → Beside h more Firm zero n (many goes p) (many goes q)
  beside_many goes {p = p} {q = q} part same = many_by goes p q part.begun (part_lists goes p q part same (λ c found. nothing_left)) (λ c found. nothing_left)

  -- of parts that may
  pub loose_many : {L : List Sym → Type 0} {A : Type 0} {n : ℕ} (goes : Option Sym → Bool) {p q : Reader A} → Beside h more L 1 n p q → goes (first K) ≡ goes (first W)
      → ((c : ℕ) (found : List A) → Closed L L (many_from goes p c found)) → Beside h more L zero n (many goes p) (many goes q)
  loose_many goes {p = p} {q = q} part same closes = many_by goes p q part.begun (part_lists goes p q part same closes) closes
