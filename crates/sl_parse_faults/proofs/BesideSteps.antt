-- Two readings side by side: where a form that the language leaves out begins, and one of the language in its place.
--
-- Both read the same symbols up to that place. The first has as much room as the second, or more, and goes on there
-- with what is known; the second with what is written. Each reader gets one lemma, whatever the form.
use Rattle.std.proofs.Common.{◌≡◌, ℕ, zero, suc, ◌+◌, ◌<◌, ◌≤◌, Bool, true, false, cond, List, [], ◌∷◌, ◌++◌, length, drop, Option, Some, Ok, Err, refl, arith, length-append}
use Rattle.sl_ast.specs.Operators.{missing_function, missing_statement}
use Rattle.sl_ast.specs.Spelling.{name, keyword}
use Rattle.sl_ast.specs.Symbols.{Sym, number, mark}
use Rattle.sl_ast.specs.Trees.{Name}
use Rattle.sl_ast.specs.declared.symbols.Feature.{Feature}
use Rattle.sl_ast.specs.declared.symbols.Keyword.{Keyword}
use Rattle.sl_ast.specs.declared.symbols.Keyword.TheVariants as k
use Rattle.sl_ast.specs.declared.symbols.Mark.{Mark}
use Rattle.sl_ast.specs.declared.symbols.Mark.TheVariants as m
use Rattle.sl_parse_grammar.specs.Reader.{Form, unsupported, Fault, fault, Input, at, left, first, Outcome, Reader, and_then, ◌>>=◌, ◌>>◌, pure, skip, refused_as, refuse, look, is_mark, is_keyword, same_mark, expect, expect_keyword}
use Rattle.sl_parse_faults.specs.Forms.{other}
use Rattle.sl_parse_faults.proofs.Named.{IsNamed}

-- ---- the symbols of both readings, from the place where the form begins

-- What the first goes on with, and what the second does. In the last two both go on with the same symbol.
pub data Pair (zs ys : List Sym) : List Sym → List Sym → Type 0 where
  address : Pair zs ys (mark m.Tilde ∷ zs) (mark m.Ampersand ∷ ys)
  lone_name : (w : Name) → Pair zs ys (mark m.Tilde ∷ zs) (name w ∷ ys)
  lone_word : Pair zs ys (mark m.Tilde ∷ zs) (keyword k.InstNext2 ∷ ys)
  wide : (n : ℕ) → Pair zs ys (number 0 ∷ zs) (number n ∷ ys)
  opening : (w : Name) (feature : Feature) → missing_statement w ≡ Some feature → Pair zs ys (name other ∷ zs) (name w ∷ ys)
  leading : Pair zs ys (name other ∷ mark m.Ellipsis ∷ zs) (mark m.Ellipsis ∷ ys)
  calling : (w : Name) (feature : Feature) → missing_function w ≡ Some feature → Pair zs ys (name other ∷ mark m.Open ∷ zs) (name w ∷ mark m.Open ∷ ys)
  sizing : (n : ℕ) → Pair zs ys (keyword k.WordSize ∷ mark m.Equals ∷ number 1 ∷ zs) (keyword k.WordSize ∷ mark m.Equals ∷ number n ∷ ys)
  floating : Pair zs ys (mark m.Floating ∷ zs) (mark m.Floating ∷ ys)
  lacking : Pair zs ys (keyword k.InstNext2 ∷ zs) (keyword k.InstNext2 ∷ ys)

-- The first reading has another symbol, so that nothing is left to show where it refuses.
abbrev pub Tells : {zs ys K W : List Sym} → Pair zs ys K W → Type 0
Tells floating = ⊥
Tells lacking = ⊥
Tells h = Unit {0}

-- What is left to the first reading where the second did otherwise, and what no reader takes that may follow there.
-- Three dots can't be left where a part of a pattern ends, which may take them.
pub data Untaken (zs : List Sym) : Bool → List Sym → Type 0 where
  tilde : {b : Bool} → Untaken zs b (mark m.Tilde ∷ zs)
  other_dots : {b : Bool} → Untaken zs b (name other ∷ mark m.Ellipsis ∷ zs)
  bracket : {b : Bool} → Untaken zs b (mark m.Open ∷ zs)
  dots : Untaken zs true (mark m.Ellipsis ∷ zs)

pub all_untaken : (zs : List Sym) (b : Bool) (xs : List Sym) → Untaken zs b xs → Untaken zs true xs
all_untaken zs b _ tilde = tilde
all_untaken zs b _ other_dots = other_dots
all_untaken zs b _ bracket = bracket
all_untaken zs b _ dots = dots

-- nothing is left
abbrev pub Firm : List Sym → Type 0
Firm xs = ⊥

-- ---- two outcomes

-- no more symbols are left
abbrev pub NoMore : {A : Type 0} → ℕ → Outcome A → Type 0
NoMore n (Ok p) = length p.1.rest ≤ n
NoMore n (Err e) = e.left ≤ n

-- Both read the same and stand before the place; or the second found its fault before it (early), tells the form that
-- begins there (told), or went past it; or the first refuses (stuck), or will, since it leaves what nothing takes
-- (apart). Of `l` symbols before the place at least `t` were taken, and of the room `r` no more than that is left.
-- What may be left untaken is said by `L`.
pub data Abreast {zs ys K W : List Sym} (h : Pair zs ys K W) (more : ℕ) (L : List Sym → Type 0) (A : Type 0) (t l r : ℕ) : Outcome A → Outcome A → Type 0 where
  both_ok : (a : A) (xs : List Sym) (s : ℕ) → t + length xs ≤ l → s ≤ r → Abreast h more L A t l r (Ok (a, at (xs ++ K) (more + s))) (Ok (a, at (xs ++ W) s))
  early : (o : Outcome A) (e : Fault) → length W < e.left → Abreast h more L A t l r o (Err e)
  told : (o : Outcome A) (e : Fault) → IsNamed W e → Abreast h more L A t l r o (Err e)
  past : (o p : Outcome A) → NoMore (length ys) p → Abreast h more L A t l r o p
  stuck : Tells h → (e : Fault) (p : Outcome A) → Abreast h more L A t l r (Err e) p
  apart : Tells h → (a : A) (j : Input) (p : Outcome A) → L j.rest → Abreast h more L A t l r (Ok (a, j)) p

-- the second refuses at the place, as one of a form that the language leaves out
pub told_here : {zs ys K W : List Sym} {h : Pair zs ys K W} {more t l r n : ℕ} {L : List Sym → Type 0} {A : Type 0} {o : Outcome A} (feature : Feature) → length W ≡ n → Abreast h more L A t l r o (Err (fault (unsupported feature 0) n))
told_here {n = n} {o = o} feature e = told o (fault (unsupported feature 0) n) (feature, 0, refl, omega (arith, e))

-- ---- two readers

-- where some symbol stands before the place. The room is less than `n`, and the second gives nothing back.
pub record Begun {zs ys K W : List Sym} (h : Pair zs ys K W) (more : ℕ) (L : List Sym → Type 0) (t n : ℕ) {A : Type 0} (p q : Reader A) : Type 0 where
  pub ahead : (x : Sym) (xs : List Sym) (r : ℕ) → r < n → Abreast h more L A t (suc (length xs)) r (p (at (x ∷ (xs ++ K)) (more + r))) (q (at (x ∷ (xs ++ W)) r))
  pub onward : (i : Input) → NoMore (length i.rest) (q i)

-- and at the place, too
pub record Beside {zs ys K W : List Sym} (h : Pair zs ys K W) (more : ℕ) (L : List Sym → Type 0) (t n : ℕ) {A : Type 0} (p q : Reader A) : Type 0 where
  pub begun : Begun h more L t n p q
  pub here : (r : ℕ) → r < n → Abreast h more L A t zero r (p (at K (more + r))) (q (at W r))

-- What is untaken (`L`) is left again (`M`), or refused.
abbrev pub IsClosed : {A : Type 0} → (List Sym → Type 0) → Outcome A → Type 0
IsClosed M (Ok p) = M p.1.rest
IsClosed M (Err e) = Unit {0}

pub record Closed (L M : List Sym → Type 0) {A : Type 0} (p : Reader A) : Type 0 where
  pub closed : (xs : List Sym) (r : ℕ) → L xs → IsClosed M (p (at xs r))

-- ---- readers of the first reading alone

-- the marks that begin none of these symbols
abbrev pub Common : Mark → Type 0
Common m.Tilde = ⊥
Common m.Ampersand = ⊥
Common m.Floating = ⊥
Common m.Ellipsis = ⊥
Common k = Unit {0}

-- those that are never left untaken
abbrev pub Closing : Mark → Type 0
Closing m.Tilde = ⊥
Closing m.Ellipsis = ⊥
Closing m.Open = ⊥
Closing k = Unit {0}

then_closed : {M N : List Sym → Type 0} {A B : Type 0} (o : Outcome A) (go : A → Reader B) → ((a : A) → Closed M N (go a)) → IsClosed M o → IsClosed N (and_then o go)
then_closed (Ok p) go later h = (later p.0).closed p.1.rest p.1.room h
then_closed (Err e) go later h = tt

then_ended : {A B : Type 0} (N : List Sym → Type 0) (o : Outcome A) (go : A → Reader B) → IsClosed Firm o → IsClosed N (and_then o go)
then_ended N (Ok p) go h = absurd h
then_ended N (Err e) go h = tt

pub if_not : {A : Type 0} (M : List Sym → Type 0) (b : Bool) (p q : Reader A) (i : Input) → b ≡ false → IsClosed M (q i) → IsClosed M (cond {A = Reader A} b p q i)
if_not M true p q i e h = absurd (cc)
if_not M false p q i e h = h

mark_untaken : (zs : List Sym) (b : Bool) (k : Mark) (xs : List Sym) → Closing k → Untaken zs b xs → is_mark k (first xs) ≡ false
unfolding same_mark
mark_untaken zs b m.Tilde _ usual tilde = absurd usual
mark_untaken zs b k _ usual tilde = refl
mark_untaken zs b k _ usual other_dots = refl
mark_untaken zs b m.Open _ usual bracket = absurd usual
mark_untaken zs b k _ usual bracket = refl
mark_untaken zs b m.Ellipsis _ usual dots = absurd usual
mark_untaken zs b k _ usual dots = refl

keyword_untaken : (zs : List Sym) (b : Bool) (k : Keyword) (xs : List Sym) → Untaken zs b xs → is_keyword k (first xs) ≡ false
keyword_untaken zs b k _ tilde = refl
keyword_untaken zs b k _ other_dots = refl
keyword_untaken zs b k _ bracket = refl
keyword_untaken zs b k _ dots = refl

module _ {L M : List Sym → Type 0} where
  pub closed_then : {N : List Sym → Type 0} {A B : Type 0} {p : Reader A} {go : A → Reader B} → Closed L M p → ((a : A) → Closed M N (go a)) → Closed L N (p >>= go)
  closed_then {go = go} here later = record { closed = λ xs r u. then_closed _ go later (here.closed xs r u) }

  -- a step that refuses
  pub ends_then : {A B : Type 0} {p : Reader A} (go : A → Reader B) → Closed L Firm p → Closed L M (p >>= go)
  ends_then go here = record { closed = λ xs r u. then_ended M _ go (here.closed xs r u) }

  pub closed_refuse : {A : Type 0} → Closed L M {A = A} refuse
  closed_refuse = record { closed = λ xs r u. tt }

  pub closed_if : {A : Type 0} (b : Bool) {p q : Reader A} → Closed L M p → Closed L M q → Closed L M (λ i. cond {A = Reader A} b p q i)
  closed_if true there not_there = there
  closed_if false there not_there = not_there

pub closed_pure : {L : List Sym → Type 0} {A : Type 0} (a : A) → Closed L L (pure a)
closed_pure a = record { closed = λ xs r u. u }

module _ {zs : List Sym} {b : Bool} where
  pub closed_look : {M : List Sym → Type 0} {A : Type 0} (k : Mark) {p q : Reader A} → Closing k → Closed (Untaken zs b) M q → Closed (Untaken zs b) M (look (is_mark k) p q)
  closed_look {M = M} k {p = p} {q = q} usual not_there = record { closed = λ xs r u. if_not M _ p q (at xs r) (mark_untaken zs b k xs usual u) (not_there.closed xs r u) }

  pub ends_expect : (k : Mark) → Closing k → Closed (Untaken zs b) Firm (expect k)
  unfolding expect
  ends_expect k usual = closed_look k usual closed_refuse

  pub ends_expect_keyword : (k : Keyword) → Closed (Untaken zs b) Firm (expect_keyword k)
  unfolding expect_keyword
  ends_expect_keyword k = record { closed = λ xs r u. if_not Firm _ skip refuse (at xs r) (keyword_untaken zs b k xs u) tt }

-- ---- steps

pub no_more_le : {A : Type 0} (n l : ℕ) (o : Outcome A) → n ≤ l → NoMore n o → NoMore l o
no_more_le n l (Ok p) le h = omega arith
no_more_le n l (Err e) le h = omega arith

pub then_no_more : {A B : Type 0} (n : ℕ) (o : Outcome A) (go : A → Reader B) → ((a : A) (i : Input) → NoMore (length i.rest) (go a i)) → NoMore n o → NoMore n (and_then o go)
then_no_more n (Ok p) go later h = no_more_le (length p.1.rest) n _ h (later p.0 p.1)
then_no_more n (Err e) go later h = h

pub less_left : (xs : List Sym) → length (drop 1 xs) ≤ length xs
less_left [] = omega arith
less_left (x ∷ xs) = omega arith

pub nothing_left : {M : List Sym → Type 0} {A : Type 0} {p : Reader A} → Closed Firm M p
nothing_left = record { closed = λ xs r u. absurd u }

module _ {zs ys K W : List Sym} (h : Pair zs ys K W) (more : ℕ) where
  -- with other bounds
  pub weaker : {L M : List Sym → Type 0} {A : Type 0} (t u l d r s : ℕ) (o p : Outcome A) → ((n : ℕ) → t + n ≤ l → u + n ≤ d) → r ≤ s → ((xs : List Sym) → L xs → M xs) → Abreast h more L A t l r o p → Abreast h more M A u d s o p
  weaker t u l d r s _ _ fits le loose (both_ok a xs room here less) = both_ok a xs room (fits (length xs) here) (omega arith)
  weaker t u l d r s _ _ fits le loose (early o e x) = early o e x
  weaker t u l d r s _ _ fits le loose (told o e x) = told o e x
  weaker t u l d r s _ _ fits le loose (past o p x) = past o p x
  weaker t u l d r s _ _ fits le loose (stuck x e p) = stuck x e p
  weaker t u l d r s _ _ fits le loose (apart y a j p z) = apart y a j p (loose j.rest z)

  pub beside_at : {L : List Sym → Type 0} {A : Type 0} {t n : ℕ} (p q : Reader A) → Beside h more L t n p q → (xs : List Sym) (r : ℕ) → r < n
      → Abreast h more L A t (length xs) r (p (at (xs ++ K) (more + r))) (q (at (xs ++ W) r))
  beside_at p q b [] r less = b.here r less
  beside_at p q b (x ∷ xs) r less = b.begun.ahead x xs r less

  pub untaken_then : {L : List Sym → Type 0} {B : Type 0} (t l r : ℕ) (o : Outcome B) (p : Outcome B) → Tells h → IsClosed L o → Abreast h more L B t l r o p
  untaken_then t l r (Ok x) p tells u = apart tells x.0 x.1 p u
  untaken_then t l r (Err e) p tells u = stuck tells e p

  -- the others, where they are known by what is left
  pub goes_on : {L M : List Sym → Type 0} {A B : Type 0} (t v l r : ℕ) (o p : Outcome A) (go to : A → Reader B)
      → ((a : A) (xs : List Sym) (s : ℕ) → t + length xs ≤ l → s ≤ r → Abreast h more M B v l r (go a (at (xs ++ K) (more + s))) (to a (at (xs ++ W) s)))
      → ((a : A) (i : Input) → NoMore (length i.rest) (to a i)) → ((a : A) → Closed L M (go a)) → Abreast h more L A t l r o p → Abreast h more M B v l r (and_then o go) (and_then p to)
  goes_on t v l r _ _ go to later onward closes (both_ok a xs s fits le) = later a xs s fits le
  goes_on t v l r _ _ go to later onward closes (early o e x) = early (and_then o go) e x
  goes_on t v l r _ _ go to later onward closes (told o e x) = told (and_then o go) e x
  goes_on t v l r _ _ go to later onward closes (past o p x) = past (and_then o go) (and_then p to) (then_no_more (length ys) p to onward x)
  goes_on t v l r _ _ go to later onward closes (stuck x e p) = stuck x e (and_then p to)
  goes_on t v l r _ _ go to later onward closes (apart y a j p z) = untaken_then v l r (go a j) (and_then p to) y ((closes a).closed j.rest j.room z)

  -- and where they are known by themselves
  pub then_abreast : {L M : List Sym → Type 0} {A B : Type 0} (t u v l r n : ℕ) (o p : Outcome A) (go to : A → Reader B) → v ≤ t + u → r < n → ((a : A) → Beside h more M u n (go a) (to a))
      → ((a : A) → Closed L M (go a)) → Abreast h more L A t l r o p → Abreast h more M B v l r (and_then o go) (and_then p to)
  then_abreast t u v l r n o p go to sum less later closes here =
      goes_on t v l r o p go to (λ a xs s fits le. weaker u v (length xs) l s r _ _ (λ d e. omega arith) le (λ d x. x) (beside_at (go a) (to a) (later a) xs s (omega arith)))
      (λ a i. (later a).begun.onward i) closes here

  pub begun_steps : {L M : List Sym → Type 0} {A B : Type 0} {t u v n : ℕ} {p q : Reader A} {go to : A → Reader B} → v ≤ t + u → Begun h more L t n p q → ((a : A) → Beside h more M u n (go a) (to a))
      → ((a : A) → Closed L M (go a)) → Begun h more M v n (p >>= go) (q >>= to)
  begun_steps {t = t} {u = u} {v = v} {n = n} {go = go} {to = to} sum here later closes = record {
    ahead = λ x xs r less. then_abreast t u v (suc (length xs)) r n _ _ go to sum less later closes (here.ahead x xs r less);
    onward = λ i. then_no_more (length i.rest) _ to (λ a j. (later a).begun.onward j) (here.onward i);
  }

  pub beside_steps : {L M : List Sym → Type 0} {A B : Type 0} {t u v n : ℕ} {p q : Reader A} {go to : A → Reader B} → v ≤ t + u → Beside h more L t n p q → ((a : A) → Beside h more M u n (go a) (to a))
      → ((a : A) → Closed L M (go a)) → Beside h more M v n (p >>= go) (q >>= to)
  beside_steps {t = t} {u = u} {v = v} {n = n} {go = go} {to = to} sum first later closes = record {
    begun = begun_steps sum first.begun later closes;
    here = λ r less. then_abreast t u v zero r n _ _ go to sum less later closes (first.here r less);
  }

  -- one step and then the others: at least as many symbols are taken as by the first, or by the others
  pub begun_then : {M : List Sym → Type 0} {A B : Type 0} {t u n : ℕ} {p q : Reader A} {go to : A → Reader B} → Begun h more Firm t n p q → ((a : A) → Beside h more M u n (go a) (to a)) → Begun h more M t n (p >>= go) (q >>= to)
  begun_then here later = begun_steps (omega arith) here later (λ a. nothing_left)

  pub beside_then : {M : List Sym → Type 0} {A B : Type 0} {t u n : ℕ} {p q : Reader A} {go to : A → Reader B} → Beside h more Firm t n p q → ((a : A) → Beside h more M u n (go a) (to a)) → Beside h more M t n (p >>= go) (q >>= to)
  beside_then here later = beside_steps (omega arith) here later (λ a. nothing_left)

  pub beside_later : {M : List Sym → Type 0} {A B : Type 0} {t u n : ℕ} {p q : Reader A} {go to : A → Reader B} → Beside h more Firm t n p q → ((a : A) → Beside h more M u n (go a) (to a)) → Beside h more M u n (p >>= go) (q >>= to)
  beside_later here later = beside_steps (omega arith) here later (λ a. nothing_left)

  -- behind a step that may leave what is untaken
  pub loose_then : {L M : List Sym → Type 0} {A B : Type 0} {t u n : ℕ} {p q : Reader A} {go to : A → Reader B} → Beside h more L t n p q → ((a : A) → Beside h more M u n (go a) (to a)) → ((a : A) → Closed L M (go a))
      → Beside h more M t n (p >>= go) (q >>= to)
  loose_then here later closes = beside_steps (omega arith) here later closes

  pub loose_later : {L M : List Sym → Type 0} {A B : Type 0} {t u n : ℕ} {p q : Reader A} {go to : A → Reader B} → Beside h more L t n p q → ((a : A) → Beside h more M u n (go a) (to a)) → ((a : A) → Closed L M (go a))
      → Beside h more M u n (p >>= go) (q >>= to)
  loose_later here later closes = beside_steps (omega arith) here later closes

  -- at least so many, which is less
  pub takes_less : {L : List Sym → Type 0} {A : Type 0} {t n : ℕ} (u : ℕ) {p q : Reader A} → u ≤ t → Beside h more L t n p q → Beside h more L u n p q
  takes_less {t = t} u le b = record {
    begun = record { ahead = λ x xs r less. weaker t u _ _ r r _ _ (λ d e. omega arith) (omega arith) (λ d x. x) (b.begun.ahead x xs r less); onward = b.begun.onward };
    here = λ r less. weaker t u _ _ r r _ _ (λ d e. omega arith) (omega arith) (λ d x. x) (b.here r less);
  }

  pub begun_less : {L : List Sym → Type 0} {A : Type 0} {t n : ℕ} (u : ℕ) {p q : Reader A} → u ≤ t → Begun h more L t n p q → Begun h more L u n p q
  begun_less {t = t} u le b = record { ahead = λ x xs r less. weaker t u _ _ r r _ _ (λ d e. omega arith) (omega arith) (λ d x. x) (b.ahead x xs r less); onward = b.onward }

  pub begun_loosen : {L : List Sym → Type 0} {A : Type 0} {t n : ℕ} {p q : Reader A} → Begun h more Firm t n p q → Begun h more L t n p q
  begun_loosen {t = t} b = record { ahead = λ x xs r less. weaker t t _ _ r r _ _ (λ d e. e) (omega arith) (λ d x. absurd x) (b.ahead x xs r less); onward = b.onward }

  pub loosen : {L : List Sym → Type 0} {A : Type 0} {t n : ℕ} {p q : Reader A} → Beside h more Firm t n p q → Beside h more L t n p q
  loosen {t = t} b = record {
    begun = record { ahead = λ x xs r less. weaker t t _ _ r r _ _ (λ d e. e) (omega arith) (λ d x. absurd x) (b.begun.ahead x xs r less); onward = b.begun.onward };
    here = λ r less. weaker t t _ _ r r _ _ (λ d e. e) (omega arith) (λ d x. absurd x) (b.here r less);
  }

  pub all_loose : {b : Bool} {A : Type 0} {t n : ℕ} {p q : Reader A} → Beside h more (Untaken zs b) t n p q → Beside h more (Untaken zs true) t n p q
  all_loose {b = b} {t = t} part = record {
    begun = record { ahead = λ x xs r less. weaker t t _ _ r r _ _ (λ d e. e) (omega arith) (all_untaken zs b) (part.begun.ahead x xs r less); onward = part.begun.onward };
    here = λ r less. weaker t t _ _ r r _ _ (λ d e. e) (omega arith) (all_untaken zs b) (part.here r less);
  }

  pub beside_pure : {L : List Sym → Type 0} {A : Type 0} {n : ℕ} (a : A) → Beside h more L zero n (pure a) (pure a)
  beside_pure a = record {
    begun = record { ahead = λ x xs r less. both_ok a (x ∷ xs) r (omega arith) (omega arith); onward = λ i. omega arith };
    here = λ r less. both_ok a [] r (omega arith) (omega arith);
  }

  pub begun_fault : {L : List Sym → Type 0} {A : Type 0} {t n : ℕ} (form : Form) → Begun h more L t n {A = A} (λ i. Err (fault form (left i))) (λ i. Err (fault form (left i)))
  begun_fault form = record {
    ahead = λ x xs r less. (let sum = length-append xs W in early _ (fault form (suc (length (xs ++ W)))) (omega arith));
    onward = λ i. omega arith;
  }

  pub begun_skip : {L : List Sym → Type 0} {n : ℕ} → Begun h more L 1 n skip skip
  begun_skip = record { ahead = λ x xs r less. both_ok tt xs r (omega arith) (omega arith); onward = λ i. less_left i.rest }

  pub begun_skips : {L : List Sym → Type 0} {A : Type 0} {t n : ℕ} {p q : Reader A} → Beside h more L t n p q → Begun h more L 1 n (skip >> p) (skip >> q)
  begun_skips later = begun_then begun_skip (λ _. later)

  pub begun_refuse : {L : List Sym → Type 0} {A : Type 0} {t n : ℕ} → Begun h more L t n {A = A} refuse refuse
  begun_refuse = record {
    ahead = λ x xs r less. (let sum = length-append xs W in early _ (fault (refused_as (Some x)) (suc (length (xs ++ W)))) (omega arith));
    onward = λ i. omega arith;
  }

  -- ---- the symbol ahead

  pub begun_peek : {L : List Sym → Type 0} {A : Type 0} {t n : ℕ} {go to : Option Sym → Reader A} → ((o : Option Sym) → Begun h more L t n (go o) (to o)) → Begun h more L t n (λ i. go (first i.rest) i) (λ i. to (first i.rest) i)
  begun_peek by = record { ahead = λ x xs r less. (by (Some x)).ahead x xs r less; onward = λ i. (by (first i.rest)).onward i }

  pub beside_peek : {L : List Sym → Type 0} {A : Type 0} {t n : ℕ} {go to : Option Sym → Reader A} → ((o : Option Sym) → Begun h more L t n (go o) (to o))
      → ((r : ℕ) → r < n → Abreast h more L A t zero r (go (first K) (at K (more + r))) (to (first W) (at W r))) → Beside h more L t n (λ i. go (first i.rest) i) (λ i. to (first i.rest) i)
  beside_peek by here = record { begun = begun_peek by; here = here }

  pub begun_if : {L : List Sym → Type 0} {A : Type 0} {t n : ℕ} (b : Bool) {p q p' q' : Reader A} → Begun h more L t n p p' → Begun h more L t n q q' → Begun h more L t n (λ i. cond {A = Reader A} b p q i) (λ i. cond {A = Reader A} b p' q' i)
  begun_if true there not_there = there
  begun_if false there not_there = not_there

  if_none : {L : List Sym → Type 0} {A : Type 0} {t n : ℕ} (b c : Bool) (p q p' q' : Reader A) → b ≡ false → c ≡ false → Beside h more L t n q q' → (r : ℕ) → r < n
      → Abreast h more L A t zero r (cond {A = Reader A} b p q (at K (more + r))) (cond {A = Reader A} c p' q' (at W r))
  if_none true c p q p' q' e g there r less = absurd (cc)
  if_none false true p q p' q' e g there r less = absurd (cc)
  if_none false false p q p' q' e g there r less = there.here r less

  if_both : {L : List Sym → Type 0} {A : Type 0} {t n : ℕ} (b c : Bool) (p q p' q' : Reader A) → b ≡ true → c ≡ true → Beside h more L t n p p' → (r : ℕ) → r < n
      → Abreast h more L A t zero r (cond {A = Reader A} b p q (at K (more + r))) (cond {A = Reader A} c p' q' (at W r))
  if_both false c p q p' q' e g there r less = absurd (cc)
  if_both true false p q p' q' e g there r less = absurd (cc)
  if_both true true p q p' q' e g there r less = there.here r less

  -- a test that neither symbol at the place passes
  pub look_none : {L : List Sym → Type 0} {A : Type 0} {t n : ℕ} (test : Option Sym → Bool) {p q p' q' : Reader A} → test (first K) ≡ false → test (first W) ≡ false → Begun h more L t n p p' → Beside h more L t n q q'
      → Beside h more L t n (look test p q) (look test p' q')
  look_none test {p} {q} {p'} {q'} none also there not_there = beside_peek (λ o. begun_if (test o) there not_there.begun) (if_none (test (first K)) (test (first W)) p q p' q' none also not_there)

  -- one that both pass
  pub look_both : {L : List Sym → Type 0} {A : Type 0} {t n : ℕ} (test : Option Sym → Bool) {p q p' q' : Reader A} → test (first K) ≡ true → test (first W) ≡ true → Beside h more L t n p p' → Begun h more L t n q q'
      → Beside h more L t n (look test p q) (look test p' q')
  look_both test {p} {q} {p'} {q'} both also there not_there = beside_peek (λ o. begun_if (test o) there.begun not_there) (if_both (test (first K)) (test (first W)) p q p' q' both also there)
