-- Readers that look at one symbol ahead are local, and so is what is made of them.
use Rattle.std.proofs.Common.{◌≡◌, ℕ, zero, suc, ◌+◌, ◌<◌, ◌≤◌, Bool, true, false, cond, nat_le, List, [], ◌∷◌, ◌++◌, length, drop, Option, None, Some, Ok, Err, refl, ap, ◌∙◌, subst, arith, length-append}
use Rattle.sl_ast.specs.Symbols.{plain, Sym, number, word}
use Rattle.sl_ast.specs.Trees.{Name}
use Rattle.sl_ast.specs.declared.symbols.Feature.TheVariants as f
use Rattle.sl_ast.specs.declared.symbols.Keyword.{Keyword}
use Rattle.sl_ast.specs.declared.symbols.Mark.{Mark}
use Rattle.sl_ast.specs.declared.symbols.Mark.TheVariants as m
use Rattle.sl_parse_grammar.specs.Lists.{many_from, many, separated_from, separated}
use Rattle.sl_parse_grammar.specs.Expressions.{with_room}
use Rattle.sl_parse_grammar.specs.Parallel.{IsPast, Parallel, both_ok, both_fault, past, Local}
use Rattle.sl_parse_grammar.specs.Reader.{Form, nesting, unsupported, Fault, fault, Input, at, left, first, Outcome, Reader, and_then, ◌>>=◌, ◌>>◌, pure, next, skip, enter, unsupport, refused_as, refuse, look, is_mark, is_keyword, expect, expect_keyword, number_by, integer_here, name_by, name_here, size_by, size_here, optional, size_option}

then_past : {A B : Type 0} (o : Outcome A) (go : A → Reader B) (ys : List Sym) → ((a : A) → Local B (go a)) → IsPast ys o → IsPast ys (and_then o go)
then_past (Ok p) go ys later h = (later p.0).forward p.1 ys h
then_past (Err e) go ys later h = h

then_alike : {A B : Type 0} (x : Sym) (ys zs : List Sym) (o p : Outcome A) (go : A → Reader B) → ((a : A) → Local B (go a)) → Parallel A (x ∷ ys) (x ∷ zs) o p
    → Parallel B (x ∷ ys) (x ∷ zs) (and_then o go) (and_then p go)
then_alike x ys zs _ _ go later (both_ok a xs r) = (later a).alike x xs ys zs r
then_alike x ys zs _ _ go later (both_fault form d m n e g) = both_fault form d m n e g
then_alike x ys zs _ _ go later (past o p h k) = past (and_then o go) (and_then p go) (then_past o go (x ∷ ys) later h) (then_past p go (x ∷ zs) later k)

pub local_then : {A B : Type 0} (p : Reader A) (go : A → Reader B) → Local A p → ((a : A) → Local B (go a)) → Local B (p >>= go)
local_then p go here later = record {
  alike = λ x xs ys zs r. then_alike x ys zs _ _ go later (here.alike x xs ys zs r);
  forward = λ i ys h. then_past (p i) go ys later (here.forward i ys h);
}

pub local_pure : {A : Type 0} (a : A) → Local A (pure a)
local_pure a = record { alike = λ x xs ys zs r. both_ok a xs r; forward = λ i ys h. h }

pub local_fault : {A : Type 0} (form : Form) → Local A (λ i. Err (fault form (left i)))
local_fault form = record {
  alike = λ x xs ys zs r. both_fault form (length xs) _ _ (length-append xs (x ∷ ys)) (length-append xs (x ∷ zs));
  forward = λ i ys h. h;
}

first_alike : (x : Sym) (xs ys zs : List Sym) → first (xs ++ x ∷ ys) ≡ first (xs ++ x ∷ zs)
first_alike x [] ys zs = refl
first_alike x (w ∷ xs) ys zs = refl

-- what a reader does by the symbol ahead
pub local_peek : {A : Type 0} (go : Option Sym → Reader A) → ((o : Option Sym) → Local A (go o)) → Local A (λ i. go (first i.rest) i)
local_peek go here = record {
  alike = λ x xs ys zs r. subst (λ o. Parallel _ (x ∷ ys) (x ∷ zs) (go (first (xs ++ x ∷ ys)) (at (xs ++ x ∷ ys) r)) (go o (at (xs ++ x ∷ zs) r)))
      (first_alike x xs ys zs) ((here (first (xs ++ x ∷ ys))).alike x xs ys zs r);
  forward = λ i ys h. (here (first i.rest)).forward i ys h;
}

pub local_refuse : {A : Type 0} → Local A refuse
local_refuse = local_peek (λ o i. Err (fault (refused_as o) (left i))) (λ o. local_fault (refused_as o))

shorter : (xs ys : List Sym) → length xs < length ys → length (drop 1 xs) < length ys
shorter [] ys h = h
shorter (x ∷ xs) ys h = omega arith

skip_alike : (x : Sym) (xs ys zs : List Sym) (r : ℕ) → Parallel (Unit {0}) (x ∷ ys) (x ∷ zs) (skip (at (xs ++ x ∷ ys) r)) (skip (at (xs ++ x ∷ zs) r))
skip_alike x [] ys zs r = past _ _ (omega arith) (omega arith)
skip_alike x (w ∷ xs) ys zs r = both_ok tt xs r

pub local_skip : Local (Unit {0}) skip
local_skip = record { alike = skip_alike; forward = λ i ys h. shorter i.rest ys h }

pub local_skips : {A : Type 0} (p : Reader A) → Local A p → Local A (skip >> p)
local_skips p here = local_then skip (λ _. p) local_skip (λ _. here)

pub local_if : {A : Type 0} (b : Bool) (p q : Reader A) → Local A p → Local A q → Local A (λ i. cond {A = Reader A} b p q i)
local_if true p q there not_there = there
local_if false p q there not_there = not_there

pub local_look : {A : Type 0} (test : Option Sym → Bool) (p q : Reader A) → Local A p → Local A q → Local A (look test p q)
local_look test p q there not_there = local_peek (λ o i. cond {A = Reader _} (test o) p q i) (λ o. local_if (test o) p q there not_there)

pub local_expect : (k : Mark) → Local (Unit {0}) (expect k)
unfolding expect
local_expect k = local_look (is_mark k) skip refuse local_skip local_refuse

pub local_expect_keyword : (k : Keyword) → Local (Unit {0}) (expect_keyword k)
unfolding expect_keyword
local_expect_keyword k = local_look (is_keyword k) skip refuse local_skip local_refuse

number_by_local : (o : Option Sym) → Local ℕ (number_by o)
number_by_local (Some (number n)) = local_skips (pure n) (local_pure n)
number_by_local o = local_refuse

pub local_integer : Local ℕ integer_here
unfolding integer_here
local_integer = local_peek number_by number_by_local

name_by_local : (o : Option Sym) → Local Name (name_by o)
name_by_local (Some (word (plain w))) = local_skips (pure w) (local_pure w)
name_by_local o = local_refuse

pub local_name : Local Name name_here
unfolding name_here
local_name = local_peek name_by name_by_local

size_by_local : (o : Option Sym) → Local ℕ (size_by o)
size_by_local (Some (number n)) = local_if (nat_le n 16) (skip >> pure n) (unsupport f.WideValue 0) (local_skips (pure n) (local_pure n)) (local_fault (unsupported f.WideValue 0))
size_by_local o = local_refuse

pub local_size : Local ℕ size_here
unfolding size_here
local_size = local_peek size_by size_by_local

pub local_optional : {A : Type 0} (test : Option Sym → Bool) (p : Reader A) → Local A p → Local (Option A) (optional test p)
local_optional test p here = local_look test (p >>= (λ a. pure (Some a))) (pure None) (local_then p _ here (λ a. local_pure (Some a))) (local_pure None)

pub local_size_option : Local (Option ℕ) size_option
unfolding size_option
local_size_option = local_optional (is_mark m.Colon) (skip >> size_here) (local_skips size_here local_size)

enter_alike : (x : Sym) (xs ys zs : List Sym) (r : ℕ) → Parallel (Unit {0}) (x ∷ ys) (x ∷ zs) (enter (at (xs ++ x ∷ ys) r)) (enter (at (xs ++ x ∷ zs) r))
unfolding enter
enter_alike x xs ys zs zero = both_fault nesting (length xs) _ _ (length-append xs (x ∷ ys)) (length-append xs (x ∷ zs))
enter_alike x [] ys zs (suc r) = past _ _ (omega arith) (omega arith)
enter_alike x (w ∷ xs) ys zs (suc r) = both_ok tt xs r

enter_past : (i : Input) (r : ℕ) (ys : List Sym) → length i.rest < length ys → IsPast ys (enter (at i.rest r))
unfolding enter
enter_past i zero ys h = h
enter_past i (suc r) ys h = shorter i.rest ys h

pub local_enter : Local (Unit {0}) enter
local_enter = record { alike = enter_alike; forward = λ i ys h. enter_past i i.room ys h }

pub local_enters : {A : Type 0} (p : Reader A) → Local A p → Local A (enter >> p)
local_enters p here = local_then enter (λ _. p) local_enter (λ _. here)

-- ---- a reading with a room of its own

room_past : {A : Type 0} (r : ℕ) (o : Outcome A) (ys : List Sym) → IsPast ys o → IsPast ys (with_room r o)
room_past r (Ok p) ys h = h
room_past r (Err e) ys h = h

room_alike : {A : Type 0} (r : ℕ) (ys zs : List Sym) (o p : Outcome A) → Parallel A ys zs o p → Parallel A ys zs (with_room r o) (with_room r p)
room_alike r ys zs _ _ (both_ok a xs s) = both_ok a xs r
room_alike r ys zs _ _ (both_fault form d m n e g) = both_fault form d m n e g
room_alike r ys zs _ _ (past o p h k) = past (with_room r o) (with_room r p) (room_past r o ys h) (room_past r p zs k)

pub local_room : {A : Type 0} (most : ℕ) (p : Reader A) → Local A p → Local A (λ i. with_room i.room (p (at i.rest most)))
local_room most p here = record {
  alike = λ x xs ys zs r. room_alike r (x ∷ ys) (x ∷ zs) _ _ (here.alike x xs ys zs most);
  forward = λ i ys h. room_past i.room _ ys (here.forward (at i.rest most) ys h);
}

-- ---- lists: the number of rounds is the same for both readings, and more than either needs

abbrev pub Shrinks : {A : Type 0} → Reader A → Type 0
Shrinks p = (i j : Input) (a : _) → p i ≡ Ok (a, j) → length j.rest < length i.rest

-- two readings with enough rounds are one
abbrev pub Enough : {A : Type 0} → (ℕ → Reader A) → Type 0
Enough q = (m n : ℕ) (i : Input) → length i.rest < m → length i.rest < n → q m i ≡ q n i

pub local_rounds : {A : Type 0} (q : ℕ → Reader A) → ((n : ℕ) → Local A (q n)) → Enough q → Local A (λ i. q (suc (length i.rest)) i)
local_rounds {A} q here enough = record {
  alike = λ x xs ys zs r. (
      let first = at (xs ++ x ∷ ys) r in
      let second = at (xs ++ x ∷ zs) r in
      let most = suc (length (xs ++ x ∷ ys) + length (xs ++ x ∷ zs)) in
      let e : q most first ≡ q (suc (length (xs ++ x ∷ ys))) first = enough most (suc (length (xs ++ x ∷ ys))) first (omega arith) (omega arith) in
      let f : q most second ≡ q (suc (length (xs ++ x ∷ zs))) second = enough most (suc (length (xs ++ x ∷ zs))) second (omega arith) (omega arith) in
      subst (λ o. Parallel A (x ∷ ys) (x ∷ zs) o (q (suc (length (xs ++ x ∷ zs))) second)) e
      (subst (λ o. Parallel A (x ∷ ys) (x ∷ zs) (q most first) o) f ((here most).alike x xs ys zs r)));
  forward = λ i ys h. (here (suc (length i.rest))).forward i ys h;
}

many_from_local : {A : Type 0} (goes : Option Sym → Bool) (p : Reader A) → Local A p → (n : ℕ) (found : List A) → Local (List A) (many_from goes p n found)
unfolding many_from
many_from_local goes p here zero found = local_refuse
many_from_local goes p here (suc n) found =
    local_look goes (p >>= (λ a. many_from goes p n (found ++ a ∷ []))) (pure found)
    (local_then p _ here (λ a. many_from_local goes p here n (found ++ a ∷ []))) (local_pure found)

pub same_then : {A B : Type 0} (o : Outcome A) (f g : A → Reader B) → ((a : A) (j : Input) → o ≡ Ok (a, j) → f a j ≡ g a j) → and_then o f ≡ and_then o g
same_then (Ok p) f g h = h p.0 p.1 refl
same_then (Err e) f g h = refl

pub same_if : {A : Type 0} (b : Bool) (p q r : Reader A) (i : Input) → (b ≡ true → p i ≡ q i) → cond {A = Reader A} b p r i ≡ cond {A = Reader A} b q r i
same_if true p q r i h = h refl
same_if false p q r i h = refl

pub same_else : {A : Type 0} (b : Bool) (p q r : Reader A) (i : Input) → q i ≡ r i → cond {A = Reader A} b p q i ≡ cond {A = Reader A} b p r i
same_else true p q r i h = refl
same_else false p q r i h = h

many_enough : {A : Type 0} (goes : Option Sym → Bool) (p : Reader A) → Shrinks p → (m n : ℕ) (found : List A) (i : Input) → length i.rest < m → length i.rest < n
    → many_from goes p m found i ≡ many_from goes p n found i
unfolding many_from
many_enough goes p shrinks zero n found i less more = absurd (omega arith)
many_enough goes p shrinks (suc m) zero found i less more = absurd (omega arith)
many_enough goes p shrinks (suc m) (suc n) found i less more =
    same_if (goes (first i.rest)) _ _ (pure found) i
    (λ _. same_then (p i) _ _ (λ a j e. (let short = shrinks i j a e in many_enough goes p shrinks m n (found ++ a ∷ []) j (omega arith) (omega arith))))

pub local_many : {A : Type 0} (goes : Option Sym → Bool) (p : Reader A) → Local A p → Shrinks p → Local (List A) (many goes p)
local_many goes p here shrinks =
    local_rounds (λ n. many_from goes p n []) (λ n. many_from_local goes p here n []) (λ m n i less more. many_enough goes p shrinks m n [] i less more)

separated_from_local : {A : Type 0} (p : Reader A) → Local A p → (n : ℕ) (found : List A) → Local (List A) (separated_from p n found)
unfolding separated_from
separated_from_local p here zero found = local_refuse
separated_from_local p here (suc n) found =
    local_then p _ here (λ a. local_look (is_mark m.Comma) (skip >> separated_from p n (found ++ a ∷ [])) (pure (found ++ a ∷ []))
    (local_skips (separated_from p n (found ++ a ∷ [])) (separated_from_local p here n (found ++ a ∷ []))) (local_pure (found ++ a ∷ [])))

next_le : (xs : List Sym) → length (drop 1 xs) ≤ length xs
next_le [] = omega arith
next_le (x ∷ xs) = omega arith

separated_enough : {A : Type 0} (p : Reader A) → Shrinks p → (k n : ℕ) (found : List A) (i : Input) → length i.rest < k → length i.rest < n
    → separated_from p k found i ≡ separated_from p n found i
unfolding separated_from
separated_enough p shrinks zero n found i less more = absurd (omega arith)
separated_enough p shrinks (suc k) zero found i less more = absurd (omega arith)
separated_enough p shrinks (suc k) (suc n) found i less more =
    same_then (p i) _ _ (λ a j e. (let short = shrinks i j a e in let le = next_le j.rest in
    same_if (is_mark m.Comma (first j.rest)) _ _ (pure (found ++ a ∷ [])) j (λ _. separated_enough p shrinks k n (found ++ a ∷ []) (next j) (omega arith) (omega arith))))

pub local_separated : {A : Type 0} (p : Reader A) → Local A p → Shrinks p → Local (List A) (separated p)
local_separated p here shrinks =
    local_rounds (λ n. separated_from p n []) (λ n. separated_from_local p here n []) (λ m n i less more. separated_enough p shrinks m n [] i less more)

-- ---- a fault stays whatever stands behind its place: so no symbols that begin with those up to it are read

fault_or : {A : Type 0} → Fault → Outcome A → Fault
fault_or d (Ok p) = d
fault_or d (Err e) = e

same_fault : {A : Type 0} (e g : Fault) → ◌≡◌ {A = Outcome A} (Err e) (Err g) → e ≡ g
unfolding fault_or
same_fault e g h = ap (fault_or e) h

pub fault_stays : {A : Type 0} (form : Form) (x : Sym) (ys zs : List Sym) (o p : Outcome A) → Parallel A (x ∷ ys) (x ∷ zs) o p
    → o ≡ Err (fault form (length (x ∷ ys))) → p ≡ Err (fault form (length (x ∷ zs)))
fault_stays form x ys zs _ _ (both_ok a xs r) h = absurd (cc)
fault_stays form x ys zs _ _ (both_fault other d m n e g) h =
    let same = same_fault (fault other m) (fault form (suc (length ys))) h in
    let here : m ≡ suc (length ys) = ap (λ y. y.left) same in
    let there : n ≡ suc (length zs) = omega arith in
    let kind : other ≡ form = ap (λ y. y.form) same in
    ap (λ y. Err (fault y n)) kind ∙ ap (λ k. Err (fault form k)) there
fault_stays form x ys zs _ _ (past o p h k) e = let less : suc (length ys) < suc (length ys) = subst (IsPast (x ∷ ys)) e h in absurd (omega arith)
