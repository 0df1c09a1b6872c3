-- Rules of up to four parts, and choices by a byte of a table.
use Rattle.std.proofs.Common.{◌≡◌, ℕ, zero, suc, ◌+◌, Bool, true, false, if◌then◌else◌, List, [], ◌∷◌, ◌++◌, map, length, slice_get, Option, None, Some, Ok, refl, ap, sym, ◌∙◌, arith, append_assoc}
use Rattle.sl_store_bytes.specs.Exact.{Exact}
use Rattle.sl_store_bytes.specs.Reader.{Reader, ◌>>=◌, pure}
use Rattle.sl_store_bytes.specs.Tables.{coded, coded_if, got, kept}
use Rattle.sl_store_bytes.proofs.Chains.{Behind, behind_done, behind_then, exact_choose, reads_then}

-- a part, and then a tail that is read as x
pub took_then : {A R : Type 0} {f : A → List ℕ} {G : A → Type 0} {p : Reader A} (e : Exact f G p) (q : A → Reader R) (a : A) (tail rest : List ℕ) (x : R) → G a
    → q a (tail ++ rest) ≡ Ok (x, rest) → (p >>= q) ((f a ++ tail) ++ rest) ≡ Ok (x, rest)
took_then {f} {p} e q a tail rest x good next = ap (p >>= q) (append_assoc (f a) tail rest) ∙ reads_then e q a good (tail ++ rest) ∙ next

module _ {A R : Type 0} {f : A → List ℕ} {G : A → Type 0} {p : Reader A} (e : Exact f G p) (mk : A → R) where
  pub took1 : (a : A) (rest : List ℕ) → G a → (p >>= (λ a. pure (mk a))) (f a ++ rest) ≡ Ok (mk a, rest)
  took1 a rest good = reads_then e (λ a. pure (mk a)) a good rest

  pub rule1 : (write : R → List ℕ) (Good : R → Type 0) (front : List ℕ) → ((a : A) → G a → Good (mk a)) → ((a : A) → front ++ f a ≡ write (mk a))
      → Behind write Good front (p >>= (λ a. pure (mk a)))
  rule1 write Good front good bytes = behind_then write Good front e _ (λ a ga. behind_done write Good (front ++ f a) (mk a) (good a ga) (bytes a))

module _ {A B R : Type 0} {f : A → List ℕ} {G : A → Type 0} {p : Reader A} (e : Exact f G p) {g : B → List ℕ} {H : B → Type 0} {q : Reader B} (e2 : Exact g H q) (mk : A → B → R) where
  pub took2 : (a : A) (b : B) (rest : List ℕ) → G a → H b → (p >>= (λ a. q >>= (λ b. pure (mk a b)))) ((f a ++ g b) ++ rest) ≡ Ok (mk a b, rest)
  took2 a b rest ga gb = took_then e (λ a. q >>= (λ b. pure (mk a b))) a (g b) rest (mk a b) ga (took1 e2 (mk a) b rest gb)

  pub rule2 : (write : R → List ℕ) (Good : R → Type 0) (front : List ℕ) → ((a : A) (b : B) → G a → H b → Good (mk a b)) → ((a : A) (b : B) → front ++ (f a ++ g b) ≡ write (mk a b))
      → Behind write Good front (p >>= (λ a. q >>= (λ b. pure (mk a b))))
  rule2 write Good front good bytes = behind_then write Good front e _ (λ a ga.
      rule1 e2 (mk a) write Good (front ++ f a) (λ b gb. good a b ga gb) (λ b. append_assoc front (f a) (g b) ∙ bytes a b))

module _ {A B C R : Type 0} {f : A → List ℕ} {G : A → Type 0} {p : Reader A} (e : Exact f G p) {g : B → List ℕ} {H : B → Type 0} {q : Reader B} (e2 : Exact g H q)
    {h : C → List ℕ} {I : C → Type 0} {r : Reader C} (e3 : Exact h I r) (mk : A → B → C → R) where
  pub took3 : (a : A) (b : B) (c : C) (rest : List ℕ) → G a → H b → I c
      → (p >>= (λ a. q >>= (λ b. r >>= (λ c. pure (mk a b c))))) ((f a ++ (g b ++ h c)) ++ rest) ≡ Ok (mk a b c, rest)
  took3 a b c rest ga gb gc = took_then e (λ a. q >>= (λ b. r >>= (λ c. pure (mk a b c)))) a (g b ++ h c) rest (mk a b c) ga (took2 e2 e3 (mk a) b c rest gb gc)

  pub rule3 : (write : R → List ℕ) (Good : R → Type 0) (front : List ℕ) → ((a : A) (b : B) (c : C) → G a → H b → I c → Good (mk a b c))
      → ((a : A) (b : B) (c : C) → front ++ (f a ++ (g b ++ h c)) ≡ write (mk a b c))
      → Behind write Good front (p >>= (λ a. q >>= (λ b. r >>= (λ c. pure (mk a b c)))))
  rule3 write Good front good bytes = behind_then write Good front e _ (λ a ga.
      rule2 e2 e3 (mk a) write Good (front ++ f a) (λ b c gb gc. good a b c ga gb gc) (λ b c. append_assoc front (f a) (g b ++ h c) ∙ bytes a b c))

module _ {A B C D R : Type 0} {f : A → List ℕ} {G : A → Type 0} {p : Reader A} (e : Exact f G p) {g : B → List ℕ} {H : B → Type 0} {q : Reader B} (e2 : Exact g H q)
    {h : C → List ℕ} {I : C → Type 0} {r : Reader C} (e3 : Exact h I r) {i : D → List ℕ} {J : D → Type 0} {s : Reader D} (e4 : Exact i J s) (mk : A → B → C → D → R) where
  pub took4 : (a : A) (b : B) (c : C) (d : D) (rest : List ℕ) → G a → H b → I c → J d
      → (p >>= (λ a. q >>= (λ b. r >>= (λ c. s >>= (λ d. pure (mk a b c d)))))) ((f a ++ (g b ++ (h c ++ i d))) ++ rest) ≡ Ok (mk a b c d, rest)
  took4 a b c d rest ga gb gc gd =
      took_then e (λ a. q >>= (λ b. r >>= (λ c. s >>= (λ d. pure (mk a b c d))))) a (g b ++ (h c ++ i d)) rest (mk a b c d) ga (took3 e2 e3 e4 (mk a) b c d rest gb gc gd)

  pub rule4 : (write : R → List ℕ) (Good : R → Type 0) (front : List ℕ) → ((a : A) (b : B) (c : C) (d : D) → G a → H b → I c → J d → Good (mk a b c d))
      → ((a : A) (b : B) (c : C) (d : D) → front ++ (f a ++ (g b ++ (h c ++ i d))) ≡ write (mk a b c d))
      → Behind write Good front (p >>= (λ a. q >>= (λ b. r >>= (λ c. s >>= (λ d. pure (mk a b c d))))))
  rule4 write Good front good bytes = behind_then write Good front e _ (λ a ga.
      rule3 e2 e3 e4 (mk a) write Good (front ++ f a) (λ b c d gb gc gd. good a b c d ga gb gc gd) (λ b c d. append_assoc front (f a) (g b ++ (h c ++ i d)) ∙ bytes a b c d))

module _ {A B C D F R : Type 0} {f : A → List ℕ} {G : A → Type 0} {p : Reader A} (e : Exact f G p) {g : B → List ℕ} {H : B → Type 0} {q : Reader B} (e2 : Exact g H q)
    {h : C → List ℕ} {I : C → Type 0} {r : Reader C} (e3 : Exact h I r) {i : D → List ℕ} {J : D → Type 0} {s : Reader D} (e4 : Exact i J s)
    {j : F → List ℕ} {K : F → Type 0} {t : Reader F} (e5 : Exact j K t) (mk : A → B → C → D → F → R) where
  pub took5 : (a : A) (b : B) (c : C) (d : D) (k : F) (rest : List ℕ) → G a → H b → I c → J d → K k
      → (p >>= (λ a. q >>= (λ b. r >>= (λ c. s >>= (λ d. t >>= (λ k. pure (mk a b c d k))))))) ((f a ++ (g b ++ (h c ++ (i d ++ j k)))) ++ rest) ≡ Ok (mk a b c d k, rest)
  took5 a b c d k rest ga gb gc gd gk =
      took_then e (λ a. q >>= (λ b. r >>= (λ c. s >>= (λ d. t >>= (λ k. pure (mk a b c d k)))))) a (g b ++ (h c ++ (i d ++ j k))) rest (mk a b c d k) ga
      (took4 e2 e3 e4 e5 (mk a) b c d k rest gb gc gd gk)

  pub rule5 : (write : R → List ℕ) (Good : R → Type 0) (front : List ℕ) → ((a : A) (b : B) (c : C) (d : D) (k : F) → G a → H b → I c → J d → K k → Good (mk a b c d k))
      → ((a : A) (b : B) (c : C) (d : D) (k : F) → front ++ (f a ++ (g b ++ (h c ++ (i d ++ j k)))) ≡ write (mk a b c d k))
      → Behind write Good front (p >>= (λ a. q >>= (λ b. r >>= (λ c. s >>= (λ d. t >>= (λ k. pure (mk a b c d k)))))))
  rule5 write Good front good bytes = behind_then write Good front e _ (λ a ga.
      rule4 e2 e3 e4 e5 (mk a) write Good (front ++ f a) (λ b c d k gb gc gd gk. good a b c d k ga gb gc gd gk) (λ b c d k. append_assoc front (f a) (g b ++ (h c ++ (i d ++ j k))) ∙ bytes a b c d k))

-- ---- bytes that count in a table

-- n, n + 1 and so on, m of them
abbrev pub from : ℕ → ℕ → List ℕ
from n zero = []
from n (suc m) = n ∷ from (suc n) m

head_or : ℕ → List ℕ → ℕ
head_or d [] = d
head_or d (x ∷ xs) = x

tail_of : List ℕ → List ℕ
tail_of [] = []
tail_of (x ∷ xs) = xs

counted : {K : Type 0} (code : K → ℕ) (n : ℕ) (table : List K) → map code table ≡ from n (length table) → (b : ℕ) (k : K) → slice_get table b ≡ Some k → code k ≡ n + b
unfolding head_or tail_of
counted code n [] e b k h = absurd (cc)
counted code n (x ∷ table) e zero k h =
    let same : x ≡ k = cc in
    let there : code x ≡ n = ap (head_or n) e in
    let first : code k ≡ n = ap code (sym same) ∙ there in omega arith
counted code n (x ∷ table) e (suc b) k h = let deep = counted code (suc n) table (ap tail_of e) b k h in omega arith

-- how a table's members count
pub record Counts {K : Type 0} (table : List K) (code : K → ℕ) : Type 0 where
  pub there : (k : K) → slice_get table (code k) ≡ Some k
  pub back : map code table ≡ from 0 (length table)

code_is : {K : Type 0} {table : List K} {code : K → ℕ} (counts : Counts table code) (b : ℕ) (k : K) → slice_get table b ≡ Some k → code k ≡ b
code_is {table = table} {code = code} counts b k h = let at = counted code 0 table counts.back b k h in omega arith

-- what counts in a table
abbrev pub AnyCode : {K : Type 0} → K → Type 0
AnyCode k = Unit {0}

pub exact_coded : {K : Type 0} {table : List K} {code : K → ℕ} → Counts table code → K → Exact (λ k. code k ∷ []) AnyCode (coded table)
exact_coded {table = table} {code = code} counts some =
    exact_choose (got table) refl (λ k. code k ∷ []) AnyCode code (λ k. refl) (λ k good. counts.there k) (λ b k e. (tt, code_is counts b k e)) (code some) some (counts.there some)

abbrev pub HasPassed : {K : Type 0} → (K → Bool) → K → Type 0
HasPassed test k = test k ≡ true

kept_yes : {K : Type 0} (test : K → Bool) (o : Option K) (k : K) → o ≡ Some k → test k ≡ true → kept test o ≡ Some k
kept_yes test o k e on = rw (e, on) refl

passed_if : {K : Type 0} (test : K → Bool) (j k : K) (v : Bool) → test j ≡ v → (if v then Some j else None) ≡ Some k → (j ≡ k) × (test k ≡ true)
passed_if test j k true on e = let same : j ≡ k = cc in (same, ap test (sym same) ∙ on)
passed_if test j k false on e = absurd (cc)

kept_back : {K : Type 0} (test : K → Bool) (o : Option K) (k : K) → kept test o ≡ Some k → (o ≡ Some k) × (test k ≡ true)
kept_back test None k e = absurd (cc)
kept_back test (Some j) k e = let p = passed_if test j k (test j) refl e in (ap (λ i. Some i) p.0, p.1)

pub exact_coded_if : {K : Type 0} {table : List K} {code : K → ℕ} → Counts table code → (test : K → Bool) (some : K) → test some ≡ true
    → Exact (λ k. code k ∷ []) (HasPassed test) (coded_if test table)
exact_coded_if {table = table} {code = code} counts test some on =
    exact_choose (λ o. kept test (got table o)) refl (λ k. code k ∷ []) (HasPassed test) code (λ k. refl)
    (λ k good. kept_yes test (slice_get table (code k)) k (counts.there k) good)
    (λ b k e. (let p = kept_back test (slice_get table b) k e in (p.1, code_is counts b k p.0)))
    (code some) some (kept_yes test (slice_get table (code some)) some (counts.there some) on)

-- one of several rules, by its byte
module _ {A K : Type 0} {table : List K} {code : K → ℕ} (counts : Counts table code) (some : K) (by : K → Reader A) where
  pub choice : (write : A → List ℕ) (Good : A → Type 0) → ((k : K) → Behind write Good (code k ∷ []) (by k)) → Behind write Good [] (coded table >>= by)
  choice write Good behind = behind_then write Good [] (exact_coded counts some) by (λ k any. behind k)

  pub chosen : (k : K) (ys : List ℕ) → (coded table >>= by) (code k ∷ ys) ≡ by k ys
  chosen k ys = reads_then (exact_coded counts some) by k tt ys
