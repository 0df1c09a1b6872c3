-- Readings within wider limits, and what is made of them.
use Rattle.std.proofs.Common.{◌≡◌, ℕ, zero, suc, ◌+◌, ◌≤◌, Bool, true, false, cond, nat_le, List, [], ◌∷◌, ◌++◌, length, drop, Option, None, Some, Ok, Err, refl, subst, arith}
use Rattle.sl_ast.specs.Operators.{widest}
use Rattle.sl_ast.specs.Symbols.{plain, Sym, number, word}
use Rattle.sl_ast.specs.declared.symbols.Feature.TheVariants as f
use Rattle.sl_ast.specs.declared.symbols.Mark.{Mark}
use Rattle.sl_ast.specs.declared.symbols.Mark.TheVariants as m
use Rattle.sl_parse_grammar.specs.Lists.{separated_from, separated}
use Rattle.sl_parse_grammar.specs.Reader.{Form, unsupported, Fault, fault, at, left, first, Outcome, Reader, and_then, ◌>>=◌, ◌>>◌, pure, skip, enter, refused_as, refuse, look, is_mark, expect, number_by, integer_here, name_by, name_here, size_by, size_here, optional, size_option}
use Rattle.sl_parse_faults.specs.Laws.{IsNesting}

-- a reading that ended at a limit isn't gone on with
pub then_limited : {A B : Type 0} (o : Outcome A) (go : A → Reader B) → IsNesting o → IsNesting (and_then o go)
then_limited (Ok p) go h = absurd h
then_limited (Err e) go h = h

-- ---- readers that count the room

-- The first ended at a limit, or both ended alike, the second with so much more room.
pub data Raised (A : Type 0) (more r : ℕ) : Outcome A → Outcome A → Type 0 where
  limited : (o p : Outcome A) → IsNesting o → Raised A more r o p
  both_ok : (a : A) (xs : List Sym) (s : ℕ) → s ≤ r → Raised A more r (Ok (a, at xs s)) (Ok (a, at xs (more + s)))
  both_fault : (e : Fault) → Raised A more r (Err e) (Err e)

-- With so much more room the second reads what the first reads.
pub record Raises {A : Type 0} (more : ℕ) (p q : Reader A) : Type 0 where
  pub raised : (xs : List Sym) (r : ℕ) → Raised A more r (p (at xs r)) (q (at xs (more + r)))

pub less_room : {A : Type 0} (more r s : ℕ) (o p : Outcome A) → s ≤ r → Raised A more s o p → Raised A more r o p
less_room more r s _ _ le (limited o p h) = limited o p h
less_room more r s _ _ le (both_ok a xs t less) = both_ok a xs t (omega arith)
less_room more r s _ _ le (both_fault e) = both_fault e

module _ (more : ℕ) where
  pub then_raised : {A B : Type 0} (r : ℕ) (o p : Outcome A) (go to : A → Reader B) → ((a : A) (xs : List Sym) (s : ℕ) → s ≤ r → Raised B more s (go a (at xs s)) (to a (at xs (more + s))))
      → Raised A more r o p → Raised B more r (and_then o go) (and_then p to)
  then_raised r _ _ go to later (limited o p h) = limited (and_then o go) (and_then p to) (then_limited o go h)
  then_raised r _ _ go to later (both_ok a xs s le) = less_room more r s _ _ le (later a xs s le)
  then_raised r _ _ go to later (both_fault e) = both_fault e

  pub raises_then : {A B : Type 0} {p q : Reader A} {go to : A → Reader B} → Raises more p q → ((a : A) → Raises more (go a) (to a)) → Raises more (p >>= go) (q >>= to)
  raises_then {go = go} {to = to} here later = record { raised = λ xs r. then_raised r _ _ go to (λ a ys s le. (later a).raised ys s) (here.raised xs r) }

  pub raises_pure : {A : Type 0} (a : A) → Raises more (pure a) (pure a)
  raises_pure a = record { raised = λ xs r. both_ok a xs r (omega arith) }

  pub raises_fault : {A : Type 0} (form : Form) → Raises {A = A} more (λ i. Err (fault form (left i))) (λ i. Err (fault form (left i)))
  raises_fault form = record { raised = λ xs r. both_fault (fault form (length xs)) }

  -- what both do by the symbol ahead
  pub raises_peek : {A : Type 0} {go to : Option Sym → Reader A} → ((o : Option Sym) → Raises more (go o) (to o)) → Raises more (λ i. go (first i.rest) i) (λ i. to (first i.rest) i)
  raises_peek here = record { raised = λ xs r. (here (first xs)).raised xs r }

  pub raises_refuse : {A : Type 0} → Raises {A = A} more refuse refuse
  raises_refuse = record { raised = λ xs r. both_fault (fault (refused_as (first xs)) (length xs)) }

  pub raises_skip : Raises more skip skip
  raises_skip = record { raised = λ xs r. both_ok tt (drop 1 xs) r (omega arith) }

  pub raises_skips : {A : Type 0} {p q : Reader A} → Raises more p q → Raises more (skip >> p) (skip >> q)
  raises_skips here = raises_then raises_skip (λ _. here)

  pub raises_if : {A : Type 0} (b : Bool) {p q p' q' : Reader A} → Raises more p p' → Raises more q q' → Raises more (λ i. cond {A = Reader A} b p q i) (λ i. cond {A = Reader A} b p' q' i)
  raises_if true there not_there = there
  raises_if false there not_there = not_there

  pub raises_look : {A : Type 0} (test : Option Sym → Bool) {p q p' q' : Reader A} → Raises more p p' → Raises more q q' → Raises more (look test p q) (look test p' q')
  raises_look test there not_there = raises_peek (λ o. raises_if (test o) there not_there)

  pub raises_expect : (k : Mark) → Raises more (expect k) (expect k)
  unfolding expect
  raises_expect k = raises_look (is_mark k) raises_skip raises_refuse

  number_by_raises : (o : Option Sym) → Raises more (number_by o) (number_by o)
  number_by_raises (Some (number n)) = raises_skips (raises_pure n)
  number_by_raises o = raises_refuse

  pub raises_integer : Raises more integer_here integer_here
  unfolding integer_here
  raises_integer = raises_peek number_by_raises

  name_by_raises : (o : Option Sym) → Raises more (name_by o) (name_by o)
  name_by_raises (Some (word (plain w))) = raises_skips (raises_pure w)
  name_by_raises o = raises_refuse

  pub raises_name : Raises more name_here name_here
  unfolding name_here
  raises_name = raises_peek name_by_raises

  size_by_raises : (o : Option Sym) → Raises more (size_by o) (size_by o)
  size_by_raises (Some (number n)) = raises_if (nat_le n widest) (raises_skips (raises_pure n)) (raises_fault (unsupported f.WideValue 0))
  size_by_raises o = raises_refuse

  pub raises_size : Raises more size_here size_here
  unfolding size_here
  raises_size = raises_peek size_by_raises

  pub raises_optional : {A : Type 0} (test : Option Sym → Bool) {p q : Reader A} → Raises more p q → Raises more (optional test p) (optional test q)
  raises_optional test here = raises_look test (raises_then here (λ a. raises_pure (Some a))) (raises_pure None)

  pub raises_size_option : Raises more size_option size_option
  unfolding size_option
  raises_size_option = raises_optional (is_mark m.Colon) (raises_skips raises_size)

  -- with some room it leaves one less
  pub enter_takes : (xs : List Sym) (r : ℕ) → Raised (Unit {0}) more r (enter (at xs (suc r))) (enter (at xs (more + suc r)))
  unfolding enter
  enter_takes xs r =
      let e : suc (more + r) ≡ more + suc r = omega arith in
      subst (λ n. Raised (Unit {0}) more r (enter (at xs (suc r))) (enter (at xs n))) e (both_ok tt (drop 1 xs) r (omega arith))

  -- without room it ends at the limit
  pub enter_limited : (xs : List Sym) → IsNesting (enter (at xs zero))
  unfolding enter
  enter_limited xs = refl

  enter_raised : (xs : List Sym) (r : ℕ) → Raised (Unit {0}) more r (enter (at xs r)) (enter (at xs (more + r)))
  enter_raised xs zero = limited (enter (at xs zero)) (enter (at xs (more + zero))) (enter_limited xs)
  enter_raised xs (suc r) = less_room more (suc r) r _ _ (omega arith) (enter_takes xs r)

  pub raises_enter : Raises more enter enter
  raises_enter = record { raised = enter_raised }

  separated_from_raises : {A : Type 0} (p q : Reader A) → Raises more p q → (n : ℕ) (found : List A) → Raises more (separated_from p n found) (separated_from q n found)
  unfolding separated_from
  separated_from_raises p q here zero found = raises_refuse
  separated_from_raises p q here (suc n) found =
      raises_then here (λ a. raises_look (is_mark m.Comma) (raises_skips (separated_from_raises p q here n (found ++ a ∷ []))) (raises_pure (found ++ a ∷ [])))

  -- the rounds are the same, since the same symbols are left
  pub raises_separated : {A : Type 0} (p q : Reader A) → Raises more p q → Raises more (separated p) (separated q)
  raises_separated p q here = record { raised = λ xs r. (separated_from_raises p q here (suc (length xs)) []).raised xs r }
