-- Readings within wider limits outside expressions and patterns, and what is made of them.
use Rattle.std.proofs.Common.{◌≡◌, ℕ, zero, suc, ◌+◌, ◌⊎◌, inl, inr, Bool, true, false, cond, List, [], ◌∷◌, ◌++◌, length, Option, None, Some, Ok, Err, refl, subst, arith}
use Rattle.sl_ast.specs.Operators.{Kind, loosest, pattern_loosest}
use Rattle.sl_ast.specs.Symbols.{Sym}
use Rattle.sl_ast.specs.declared.symbols.Mark.TheVariants as m
use Rattle.sl_parse_grammar.specs.Expressions.{whole, with_room}
use Rattle.sl_parse_grammar.specs.Lists.{many_from, many, separated_from, listed}
use Rattle.sl_parse_grammar.specs.Patterns.{whole_pattern}
use Rattle.sl_parse_grammar.specs.Reader.{Input, at, first, Outcome, Reader, and_then, ◌>>=◌, pure, skip, look, is_mark, optional}
use Rattle.sl_parse_faults.specs.Laws.{IsNesting}
use Rattle.sl_parse_faults.proofs.RaisedExpressions.{expression_raises, pattern_raises}
use Rattle.sl_parse_faults.proofs.RaisedSteps.{then_limited, Raised, limited, both_ok, both_fault, Raises}

-- The first ends at a limit, or both read the same.
pub record Widened {A : Type 0} (p q : Reader A) : Type 0 where
  pub wide : (i : Input) → IsNesting (p i) ⊎ (p i ≡ q i)

-- a reader without a limit
pub wider_same : {A : Type 0} (p : Reader A) → Widened p p
wider_same p = record { wide = λ i. inr refl }

go_on : {A B : Type 0} (o : Outcome A) (go to : A → Reader B) → ((a : A) → Widened (go a) (to a)) → IsNesting (and_then o go) ⊎ (and_then o go ≡ and_then o to)
go_on (Ok p) go to later = (later p.0).wide p.1
go_on (Err e) go to later = inr refl

then_wide : {A B : Type 0} (o p : Outcome A) (go to : A → Reader B) → ((a : A) → Widened (go a) (to a)) → IsNesting o ⊎ (o ≡ p) → IsNesting (and_then o go) ⊎ (and_then o go ≡ and_then p to)
then_wide o p go to later (inl h) = inl (then_limited o go h)
then_wide o p go to later (inr e) = subst (λ x. IsNesting (and_then o go) ⊎ (and_then o go ≡ and_then x to)) e (go_on o go to later)

pub wider_then : {A B : Type 0} {p q : Reader A} {go to : A → Reader B} → Widened p q → ((a : A) → Widened (go a) (to a)) → Widened (p >>= go) (q >>= to)
wider_then {p = p} {q = q} {go = go} {to = to} here later = record { wide = λ i. then_wide (p i) (q i) go to later (here.wide i) }

-- behind a reader without a limit
pub behind_same : {A B : Type 0} (p : Reader A) {go to : A → Reader B} → ((a : A) → Widened (go a) (to a)) → Widened (p >>= go) (p >>= to)
behind_same p later = wider_then (wider_same p) later

-- before readers without a limit
pub wider_before : {A B : Type 0} {p q : Reader A} (go : A → Reader B) → Widened p q → Widened (p >>= go) (q >>= go)
wider_before go here = wider_then here (λ a. wider_same (go a))

-- what both do by the symbol ahead
pub wider_peek : {A : Type 0} {go to : Option Sym → Reader A} → ((o : Option Sym) → Widened (go o) (to o)) → Widened (λ i. go (first i.rest) i) (λ i. to (first i.rest) i)
wider_peek here = record { wide = λ i. (here (first i.rest)).wide i }

wider_if : {A : Type 0} (b : Bool) {p q p' q' : Reader A} → Widened p p' → Widened q q' → Widened (λ i. cond {A = Reader A} b p q i) (λ i. cond {A = Reader A} b p' q' i)
wider_if true there not_there = there
wider_if false there not_there = not_there

pub wider_look : {A : Type 0} (test : Option Sym → Bool) {p q p' q' : Reader A} → Widened p p' → Widened q q' → Widened (look test p q) (look test p' q')
wider_look test there not_there = wider_peek (λ o. wider_if (test o) there not_there)

pub wider_optional : {A : Type 0} (test : Option Sym → Bool) {p q : Reader A} → Widened p q → Widened (optional test p) (optional test q)
wider_optional test here = wider_look test (wider_before (λ a. pure (Some a)) here) (wider_same (pure None))

-- ---- lists: the rounds are the same, since the same symbols are left

pub wider_rounds : {A : Type 0} (p q : ℕ → Reader A) → ((n : ℕ) → Widened (p n) (q n)) → Widened (λ i. p (suc (length i.rest)) i) (λ i. q (suc (length i.rest)) i)
wider_rounds p q here = record { wide = λ i. (here (suc (length i.rest))).wide i }

many_from_wider : {A : Type 0} (goes : Option Sym → Bool) (p q : Reader A) → Widened p q → (n : ℕ) (found : List A) → Widened (many_from goes p n found) (many_from goes q n found)
unfolding many_from
many_from_wider goes p q here zero found = wider_same _
many_from_wider goes p q here (suc n) found = wider_look goes (wider_then here (λ a. many_from_wider goes p q here n (found ++ a ∷ []))) (wider_same (pure found))

pub wider_many : {A : Type 0} (goes : Option Sym → Bool) {p q : Reader A} → Widened p q → Widened (many goes p) (many goes q)
wider_many goes {p = p} {q = q} here = wider_rounds (λ n. many_from goes p n []) (λ n. many_from goes q n []) (λ n. many_from_wider goes p q here n [])

separated_from_wider : {A : Type 0} (p q : Reader A) → Widened p q → (n : ℕ) (found : List A) → Widened (separated_from p n found) (separated_from q n found)
unfolding separated_from
separated_from_wider p q here zero found = wider_same _
separated_from_wider p q here (suc n) found =
    wider_then here (λ a. wider_look (is_mark m.Comma) (behind_same skip (λ _. separated_from_wider p q here n (found ++ a ∷ []))) (wider_same (pure (found ++ a ∷ []))))

pub wider_listed : {A : Type 0} {p q : Reader A} → Widened p q → Widened (listed p) (listed q)
unfolding listed
wider_listed {p = p} {q = q} here =
    wider_look (is_mark m.Close) (wider_same (pure [])) (wider_rounds (λ n. separated_from p n []) (λ n. separated_from q n []) (λ n. separated_from_wider p q here n []))

-- ---- a reading with a room of its own

room_wide : {A : Type 0} (more most r : ℕ) (o p : Outcome A) → Raised A more most o p → IsNesting (with_room r o) ⊎ (with_room r o ≡ with_room r p)
room_wide more most r _ _ (limited o p h) = inl (room_limited o h)
  where
    room_limited : {A : Type 0} (o : Outcome A) → IsNesting o → IsNesting (with_room r o)
    room_limited (Ok p) h = absurd h
    room_limited (Err e) h = h
room_wide more most r _ _ (both_ok a xs s le) = inr refl
room_wide more most r _ _ (both_fault e) = inr refl

wider_room : {A : Type 0} (more most : ℕ) {p q : Reader A} → Raises more p q → Widened (λ i. with_room i.room (p (at i.rest most))) (λ i. with_room i.room (q (at i.rest (more + most))))
wider_room more most here = record { wide = λ i. room_wide more most i.room _ _ (here.raised i.rest most) }

module _ (more most : ℕ) where
  pub wider_whole : (kind : Kind) → Widened (whole most kind) (whole (more + most) kind)
  unfolding whole
  wider_whole kind = wider_room more most (expression_raises more kind (suc most) (suc (more + most)) loosest (omega arith))

  pub wider_whole_pattern : Widened (whole_pattern most) (whole_pattern (more + most))
  unfolding whole_pattern
  wider_whole_pattern = wider_room more most (pattern_raises more most (suc most) (suc (more + most)) pattern_loosest (omega arith))
