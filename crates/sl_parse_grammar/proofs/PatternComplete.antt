-- What a tree of a pattern spells is read as that tree.
use Rattle.std.proofs.Common.{◌≡◌, ℕ, zero, suc, ◌+◌, ◌-◌, ◌<◌, ◌≤◌, true, false, List, ◌∷◌, Option, None, Some, Ok, refl, ap, ◌∙◌, arith}
use Rattle.sl_ast.specs.Operators.{in_constraint, loosest, relation_mark, pattern_mark, pattern_rank, pattern_right_rank, pattern_loosest, takes_ellipsis}
use Rattle.sl_ast.specs.Spelling.{name, spell_expression, spell_pattern}
use Rattle.sl_ast.specs.Symbols.{Sym, mark}
use Rattle.sl_ast.specs.Trees.{Name, Expression, Pattern, bare, constraint, group, ellipsis, joined}
use Rattle.sl_ast.specs.Validity.{PatternBinds, pattern_weight, IsPattern}
use Rattle.sl_ast.specs.declared.patterns.PatternOp.{PatternOp}
use Rattle.sl_ast.specs.declared.patterns.PatternOp.TheVariants as j
use Rattle.sl_ast.specs.declared.patterns.Relation.{Relation}
use Rattle.sl_ast.specs.declared.patterns.Relation.TheVariants as r
use Rattle.sl_ast.specs.declared.symbols.Mark.TheVariants as m
use Rattle.sl_parse_grammar.specs.Climb.{climb}
use Rattle.sl_parse_grammar.specs.Expressions.{expression, turn}
use Rattle.sl_parse_grammar.specs.Patterns.{relation_in, joining_in, pattern_allowed, pattern_turn, constrained, after_field, grouped, part, element, pattern, whole_pattern}
use Rattle.sl_parse_grammar.specs.Reader.{Input, at, first, is_mark, same_mark, Reader, enter, expect}
use Rattle.sl_parse_grammar.proofs.ExpressionComplete as of
use Rattle.sl_parse_grammar.proofs.ExpressionSteps.{Stops, no_turn}
use Rattle.sl_parse_grammar.proofs.Measures.{cost, pattern_cost, pattern_cost_is}
use Rattle.sl_parse_grammar.proofs.Steps.{le_true, le_false}

-- ---- what follows a pattern

-- what follows makes no constraint of a name, and goes on with no constraint
pub record Follows (rest : List Sym) : Type 0 where
  pub no_relation : relation_in (first rest) ≡ None
  pub stops : Stops in_constraint loosest rest

-- nor with `...`, nor with an operator that binds at this rank or tighter
pub record PatternStops (n : ℕ) (rest : List Sym) : Type 0 where
  pub follows : Follows rest
  pub no_ellipsis : is_mark m.Ellipsis (first rest) ≡ false
  pub quiet : (j : ℕ) (p : Pattern) → j ≤ n → pattern_turn j p (first rest) ≡ None

pub stops_less : (n k : ℕ) (rest : List Sym) → k ≤ n → PatternStops n rest → PatternStops k rest
stops_less n k rest le s = record { follows = s.follows; no_ellipsis = s.no_ellipsis; quiet = λ j p h. s.quiet j p (omega arith) }

stops_constraint : (rest : List Sym) → ((j : ℕ) (l : Expression) → turn in_constraint j l (first rest) ≡ None) → Stops in_constraint loosest rest
stops_constraint rest h = record { closed = λ section. absurd (cc); quiet = λ j l _. h j l }

pub no_pattern_turn : (n : ℕ) (p : Pattern) (o : Option Sym) → joining_in o ≡ None → pattern_turn n p o ≡ None
unfolding pattern_turn
no_pattern_turn n p o h = rw h refl

pub follows_close : (rest : List Sym) → Follows (mark m.Close ∷ rest)
follows_close rest = record { no_relation = refl; stops = stops_constraint (mark m.Close ∷ rest) (λ j l. no_turn in_constraint j l (Some (mark m.Close)) refl) }

pub stops_close : (n : ℕ) (rest : List Sym) → PatternStops n (mark m.Close ∷ rest)
unfolding same_mark
stops_close n rest = record { follows = follows_close rest; no_ellipsis = refl; quiet = λ j p h. no_pattern_turn j p (Some (mark m.Close)) refl }

follows_ellipsis : (rest : List Sym) → Follows (mark m.Ellipsis ∷ rest)
follows_ellipsis rest =
    record { no_relation = refl; stops = stops_constraint (mark m.Ellipsis ∷ rest) (λ j l. no_turn in_constraint j l (Some (mark m.Ellipsis)) refl) }

no_joining_turn : (op : PatternOp) (j : ℕ) (l : Expression) → turn in_constraint j l (Some (mark (pattern_mark op))) ≡ None
unfolding turn
no_joining_turn j.And n l = refl
no_joining_turn j.Then n l = refl
no_joining_turn j.Or n l = refl

follows_op : (op : PatternOp) (rest : List Sym) → Follows (mark (pattern_mark op) ∷ rest)
follows_op j.And rest = record { no_relation = refl; stops = stops_constraint _ (λ n l. no_joining_turn j.And n l) }
follows_op j.Then rest = record { no_relation = refl; stops = stops_constraint _ (λ n l. no_joining_turn j.Then n l) }
follows_op j.Or rest = record { no_relation = refl; stops = stops_constraint _ (λ n l. no_joining_turn j.Or n l) }

joining_is : (op : PatternOp) → joining_in (Some (mark (pattern_mark op))) ≡ Some op
joining_is j.And = refl
joining_is j.Then = refl
joining_is j.Or = refl

op_no_ellipsis : (op : PatternOp) → is_mark m.Ellipsis (Some (mark (pattern_mark op))) ≡ false
unfolding same_mark
op_no_ellipsis j.And = refl
op_no_ellipsis j.Then = refl
op_no_ellipsis j.Or = refl

allowed_late : (n : ℕ) (p : Pattern) (op : PatternOp) → n < suc (pattern_right_rank op) → pattern_allowed n p (Some op) ≡ None
allowed_late n p op h = rw (le_false (suc (pattern_right_rank op)) n h) refl

stops_op : (op : PatternOp) (rest : List Sym) → PatternStops (pattern_right_rank op) (mark (pattern_mark op) ∷ rest)
unfolding pattern_turn
stops_op op rest = record {
  follows = follows_op op rest;
  no_ellipsis = op_no_ellipsis op;
  quiet = λ j p h. rw (joining_is op) (allowed_late j p op (omega arith));
}

turn_is : (n : ℕ) (p : Pattern) (op : PatternOp) → suc (pattern_right_rank op) ≤ n → pattern_rank p ≤ suc (pattern_right_rank op) → pattern_turn n p (Some (mark (pattern_mark op))) ≡ Some op
unfolding pattern_turn
turn_is n p op le low = rw (joining_is op, le_true (suc (pattern_right_rank op)) n le, le_true (pattern_rank p) (suc (pattern_right_rank op)) low) refl

-- ---- one lemma for each shape

relation_is : (rel : Relation) → relation_in (Some (mark (relation_mark rel))) ≡ Some rel
relation_is r.Equal = refl
relation_is r.NotEqual = refl
relation_is r.Less = refl
relation_is r.LessEqual = refl
relation_is r.Greater = refl
relation_is r.GreaterEqual = refl

-- the rank of what stands last, and could take an operator that follows
abbrev last_rank : Pattern → ℕ
last_rank (joined op p q) = pattern_right_rank op
last_rank p = 0

last_is : (p : Pattern) → last_rank p ≤ pattern_rank p
last_is (joined op p q) = omega arith
last_is p = omega arith

last_below : (p : Pattern) (n : ℕ) → pattern_rank p ≤ suc n → last_rank p ≤ n
last_below (joined op p q) n low = omega arith
last_below p n low = omega arith

rank_most : (p : Pattern) → pattern_rank p ≤ pattern_loosest
rank_most (joined j.And p q) = omega arith
rank_most (joined j.Then p q) = omega arith
rank_most (joined j.Or p q) = omega arith
rank_most p = omega arith

-- ---- within a limit of operators and opening brackets

module _ (most : ℕ) where
  of_bare : (inner : ℕ → Reader Pattern) (w : Name) (rest : List Sym) (s : ℕ) → relation_in (first rest) ≡ None → part most inner (at (name w ∷ rest) s) ≡ Ok (bare w, at rest s)
  unfolding part after_field
  of_bare inner w rest s h = rw h refl

  of_constraint : (inner : ℕ → Reader Pattern) (w : Name) (rel : Relation) (e : Expression) (xs rest : List Sym) (t s : ℕ)
      → expression in_constraint (suc most) loosest (at xs t) ≡ Ok (e, at rest s) → part most inner (at (name w ∷ mark (relation_mark rel) ∷ xs) (suc t)) ≡ Ok (constraint w rel e, at rest s)
  unfolding part after_field constrained enter
  of_constraint inner w rel e xs rest t s h = rw (relation_is rel, h) refl

  of_group : (inner : ℕ → Reader Pattern) (p : Pattern) (xs rest : List Sym) (t s : ℕ) → inner pattern_loosest (at xs t) ≡ Ok (p, at (mark m.Close ∷ rest) s)
      → part most inner (at (mark m.Open ∷ xs) (suc t)) ≡ Ok (group p, at rest s)
  unfolding part grouped expect same_mark enter
  of_group inner p xs rest t s h = rw h refl

  of_part : (inner : ℕ → Reader Pattern) (i : Input) (p : Pattern) (rest : List Sym) (s : ℕ) → part most inner i ≡ Ok (p, at rest s) → is_mark m.Ellipsis (first rest) ≡ false
      → element most inner i ≡ Ok (p, at rest s)
  unfolding element
  of_part inner i p rest s h no_ellipsis = rw (h, no_ellipsis) refl

  of_ellipsis : (inner : ℕ → Reader Pattern) (i : Input) (p : Pattern) (rest : List Sym) (s : ℕ) → part most inner i ≡ Ok (p, at (mark m.Ellipsis ∷ rest) (suc s))
      → element most inner i ≡ Ok (ellipsis p, at rest s)
  unfolding element same_mark enter
  of_ellipsis inner i p rest s h = rw h refl

  abbrev pub Climbs : ℕ → ℕ → ℕ → Pattern → Reader Pattern
  Climbs k n m p = climb (pattern_turn n) pattern_right_rank joined (pattern most k) m p

  climb_stops : (k n m : ℕ) (p : Pattern) (rest : List Sym) (s : ℕ) → pattern_turn n p (first rest) ≡ None → Climbs k n m p (at rest s) ≡ Ok (p, at rest s)
  unfolding climb
  climb_stops k n zero p rest s h = refl
  climb_stops k n (suc m) p rest s h = rw h refl

  of_joined : (k n m : ℕ) (op : PatternOp) (p q : Pattern) (xs rest : List Sym) (t s : ℕ) → pattern_turn n p (Some (mark (pattern_mark op))) ≡ Some op
      → pattern most k (pattern_right_rank op) (at xs t) ≡ Ok (q, at rest s)
      → Climbs k n (suc m) p (at (mark (pattern_mark op) ∷ xs) (suc t)) ≡ Climbs k n m (joined op p q) (at rest s)
  unfolding climb enter
  of_joined k n m op p q xs rest t s allowed h = rw (allowed, h) refl

  of_element : (k n : ℕ) (i : Input) (p : Pattern) (rest : List Sym) (s : ℕ) → element most (pattern most k) i ≡ Ok (p, at rest s) → pattern most (suc k) n i ≡ Climbs k n (suc s) p (at rest s)
  unfolding pattern
  of_element k n i p rest s h = rw h refl

  -- ---- the induction

  abbrev Arrives : ℕ → ℕ → Pattern → List Sym → ℕ → Type 0
  Arrives k n p rest s = (m : ℕ) × (s < m) × (pattern most (suc k) n (at (spell_pattern p rest) (pattern_cost p s)) ≡ Climbs k n m p (at rest s))

  pub record Facts (p : Pattern) : Type 0 where
    pub as_part : (k : ℕ) (rest : List Sym) (s : ℕ) → PatternBinds p → takes_ellipsis p ≡ true → pattern_weight p ≤ k → k ≤ most → Follows rest
        → part most (pattern most k) (at (spell_pattern p rest) (pattern_cost p s)) ≡ Ok (p, at rest s)
    pub arrives : (k n : ℕ) (rest : List Sym) (s : ℕ) → PatternBinds p → pattern_rank p ≤ n → pattern_weight p ≤ k → k ≤ most → PatternStops (last_rank p) rest
        → Arrives k n p rest s

  ends : (k n : ℕ) (p : Pattern) (rest : List Sym) (s : ℕ) → Facts p → PatternBinds p → pattern_rank p ≤ n → pattern_weight p ≤ k → k ≤ most → PatternStops n rest
      → pattern most (suc k) n (at (spell_pattern p rest) (pattern_cost p s)) ≡ Ok (p, at rest s)
  ends k n p rest s facts binds low fits within stops =
      let last = last_is p in
      let come = facts.arrives k n rest s binds low fits within (stops_less n (last_rank p) rest (omega arith) stops) in
      come.2 ∙ climb_stops k n come.0 p rest s (stops.quiet n p (omega arith))

  of_a_part : (p : Pattern) → takes_ellipsis p ≡ true
      → ((k : ℕ) (rest : List Sym) (s : ℕ) → PatternBinds p → pattern_weight p ≤ k → k ≤ most → Follows rest → part most (pattern most k) (at (spell_pattern p rest) (pattern_cost p s)) ≡ Ok (p, at rest s))
      → Facts p
  of_a_part p takes read = record {
    as_part = λ k rest s binds _ fits within follows. read k rest s binds fits within follows;
    arrives = λ k n rest s binds low fits within stops. (
      suc s,
      omega arith,
      of_element k n (at (spell_pattern p rest) (pattern_cost p s)) p rest s
          (of_part (pattern most k) (at (spell_pattern p rest) (pattern_cost p s)) p rest s (read k rest s binds fits within stops.follows) stops.no_ellipsis),
    );
  }

  constraint_is : (w : Name) (rel : Relation) (e : Expression) (k : ℕ) (rest : List Sym) (s : ℕ) → PatternBinds (constraint w rel e) → pattern_weight (constraint w rel e) ≤ k → k ≤ most
      → Follows rest → part most (pattern most k) (at (spell_pattern (constraint w rel e) rest) (suc (cost e s))) ≡ Ok (constraint w rel e, at rest s)
  constraint_is w rel e k rest s binds fits within follows =
      of_constraint (pattern most k) w rel e (spell_expression e rest) rest (cost e s) s
      (of.ends in_constraint most loosest e rest s (of.facts in_constraint e) binds (of.rank_most e) (omega arith) follows.stops)

  group_is : (p : Pattern) → Facts p → (k : ℕ) (rest : List Sym) (s : ℕ) → PatternBinds p → suc (pattern_weight p) ≤ k → k ≤ most
      → part most (pattern most k) (at (spell_pattern (group p) rest) (suc (pattern_cost p s))) ≡ Ok (group p, at rest s)
  group_is p facts zero rest s binds fits within = absurd (omega arith)
  group_is p facts (suc k) rest s binds fits within =
      of_group (pattern most (suc k)) p (spell_pattern p (mark m.Close ∷ rest)) rest (pattern_cost p s) s
      (ends k pattern_loosest p (mark m.Close ∷ rest) s facts binds (rank_most p) (omega arith) (omega arith) (stops_close pattern_loosest rest))

  ellipsis_arrives : (p : Pattern) → Facts p → (k n : ℕ) (rest : List Sym) (s : ℕ) → PatternBinds (ellipsis p) → pattern_weight p + 1 ≤ k → k ≤ most → Arrives k n (ellipsis p) rest s
  ellipsis_arrives p facts k n rest s binds fits within =
      let xs = mark m.Ellipsis ∷ rest in
      let i = at (spell_pattern p xs) (pattern_cost p (suc s)) in (
        suc s,
        omega arith,
        of_element k n i (ellipsis p) rest s
            (of_ellipsis (pattern most k) i p rest s (facts.as_part k xs (suc s) binds.1 binds.0 (omega arith) within (follows_ellipsis rest))),
      )

  joined_step : (k n m : ℕ) (op : PatternOp) (p q : Pattern) (rest : List Sym) (s : ℕ) → PatternBinds (joined op p q) → suc (pattern_right_rank op) ≤ n
      → Facts q → pattern_weight q < k → k ≤ most → PatternStops (pattern_right_rank op) rest → suc (pattern_cost q s) < m
      → pattern most (suc k) n (at (spell_pattern p (mark (pattern_mark op) ∷ spell_pattern q rest)) (pattern_cost p (suc (pattern_cost q s))))
      ≡ Climbs k n m p (at (mark (pattern_mark op) ∷ spell_pattern q rest) (suc (pattern_cost q s)))
      → Arrives k n (joined op p q) rest s
  joined_step zero n m op p q rest s binds low facts fits within stops more come = absurd (omega arith)
  joined_step (suc k) n zero op p q rest s binds low facts fits within stops more come = absurd (omega arith)
  joined_step (suc k) n (suc m) op p q rest s binds low facts fits within stops more come =
      let room = pattern_cost_is q s in (
        m,
        omega arith,
        come ∙ of_joined (suc k) n m op p q (spell_pattern q rest) rest (pattern_cost q s) s
            (turn_is n p op low binds.0)
            (ends k (pattern_right_rank op) q rest s facts binds.3 binds.1 (omega arith) (omega arith) stops),
      )

  joined_is : (op : PatternOp) (p q : Pattern) → Facts p → Facts q → (k n : ℕ) (rest : List Sym) (s : ℕ) → PatternBinds (joined op p q)
      → suc (pattern_right_rank op) ≤ n → pattern_weight p + 1 + pattern_weight q ≤ k → k ≤ most → PatternStops (pattern_right_rank op) rest → Arrives k n (joined op p q) rest s
  joined_is op p q first second k n rest s binds low fits within stops =
      let left_low = binds.0 in
      let come = first.arrives k n (mark (pattern_mark op) ∷ spell_pattern q rest) (suc (pattern_cost q s)) binds.2 (omega arith) (omega arith) within
      (stops_less (pattern_right_rank op) (last_rank p) _ (last_below p (pattern_right_rank op) left_low) (stops_op op (spell_pattern q rest))) in
      joined_step k n come.0 op p q rest s binds low second (omega arith) within stops come.1 come.2

  facts : (p : Pattern) → Facts p
  facts (bare w) = of_a_part (bare w) refl (λ k rest s binds fits within follows. of_bare (pattern most k) w rest s follows.no_relation)
  facts (constraint w rel e) = of_a_part (constraint w rel e) refl (λ k rest s binds fits within follows. constraint_is w rel e k rest s binds fits within follows)
  facts (group p) = of_a_part (group p) refl (λ k rest s binds fits within follows. group_is p (facts p) k rest s binds (omega arith) within)
  facts (ellipsis p) = record {
    as_part = λ k rest s binds takes fits within follows. absurd (cc);
    arrives = λ k n rest s binds low fits within stops. ellipsis_arrives p (facts p) k n rest s binds fits within;
  }
  facts (joined op p q) = record {
    as_part = λ k rest s binds takes fits within follows. absurd (cc);
    arrives = λ k n rest s binds low fits within stops. joined_is op p q (facts p) (facts q) k n rest s binds low fits within stops;
  }

  -- A pattern is read from its spelling, whatever follows that can't go on with it.
  pub complete : (p : Pattern) (rest : List Sym) (r : ℕ) → IsPattern most p → PatternStops pattern_loosest rest → whole_pattern most (at (spell_pattern p rest) r) ≡ Ok (p, at rest r)
  unfolding whole_pattern
  complete p rest r is stops =
      let fits = is.1 in
      let left = most - pattern_weight p in
      let room : most ≡ pattern_cost p left = omega (arith, pattern_cost_is p left) in
      rw (ap (λ n. (pattern most) (suc most) pattern_loosest (at (spell_pattern p rest) n)) room ∙ ends most pattern_loosest p rest left (facts p) is.0 (rank_most p) fits (omega arith) stops) refl
