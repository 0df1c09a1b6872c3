-- What is read as a pattern is a tree whose spelling was taken.
use Rattle.std.proofs.Common.{◌≡◌, ℕ, zero, suc, ◌≤◌, ◌&&◌, inl, inr, Bool, true, false, cond, nat_le, ◌∷◌, Option, None, Some, Ok, Err, refl, ap, ◌∙◌, subst, arith}
use Rattle.sl_ast.specs.Operators.{in_constraint, loosest, relation_mark, pattern_mark, pattern_rank, pattern_right_rank, pattern_loosest, takes_ellipsis}
use Rattle.sl_ast.specs.Spelling.{name, spell_pattern}
use Rattle.sl_ast.specs.Symbols.{plain, Sym, word, mark}
use Rattle.sl_ast.specs.Trees.{Name, Pattern, bare, constraint, group, ellipsis, joined}
use Rattle.sl_ast.specs.Validity.{PatternBinds, IsPattern}
use Rattle.sl_ast.specs.declared.patterns.PatternOp.{PatternOp}
use Rattle.sl_ast.specs.declared.patterns.Relation.{Relation}
use Rattle.sl_ast.specs.declared.symbols.Mark.TheVariants as m
use Rattle.sl_parse_grammar.specs.Climb.{climb, turned}
use Rattle.sl_parse_grammar.specs.Expressions.{expression, with_room}
use Rattle.sl_parse_grammar.specs.Patterns.{relation_in, joining_in, pattern_allowed, pattern_turn, constrained, related, after_field, grouped, part_by, part, element, pattern, whole_pattern}
use Rattle.sl_parse_grammar.specs.Reader.{Input, at, first, Outcome, Reader, and_then, next, enter, expect, is_mark}
use Rattle.sl_parse_grammar.proofs.ExpressionSound.{some_is}
use Rattle.sl_parse_grammar.proofs.ExpressionSound as of
use Rattle.sl_parse_grammar.proofs.Measures.{pattern_cost, pattern_cost_is}
use Rattle.sl_parse_grammar.proofs.PatternComplete.{Climbs}
use Rattle.sl_parse_grammar.proofs.Steps.{le_is}
use Rattle.sl_parse_grammar.proofs.Taken.{then_ok, along, look_ok, both_true, Took, mark_first, took_next, enter_ok, expect_ok}

-- the tree's symbols and room were taken, and it binds at the rank or tighter
pub record Reads (n : ℕ) (i : Input) (p : Pattern) (j : Input) : Type 0 where
  pub tokens : i.rest ≡ spell_pattern p j.rest
  pub room : i.room ≡ pattern_cost p j.room
  pub binds : PatternBinds p
  pub low : pattern_rank p ≤ n

-- and `...` may follow
pub record ReadsPart (i : Input) (p : Pattern) (j : Input) : Type 0 where
  pub read : Reads 0 i p j
  pub takes : takes_ellipsis p ≡ true

abbrev pub SoundInner : (ℕ → Reader Pattern) → Type 0
SoundInner inner = (n : ℕ) (i j : Input) (p : Pattern) → inner n i ≡ Ok (p, j) → Reads n i p j

pub relation_is : (o : Option Sym) (rel : Relation) → relation_in o ≡ Some rel → o ≡ Some (mark (relation_mark rel))
relation_is (Some (mark m.Equals)) rel e = ap (λ x. Some (mark (relation_mark x))) (some_is e)
relation_is (Some (mark m.NotEqual)) rel e = ap (λ x. Some (mark (relation_mark x))) (some_is e)
relation_is (Some (mark m.Less)) rel e = ap (λ x. Some (mark (relation_mark x))) (some_is e)
relation_is (Some (mark m.LessEqual)) rel e = ap (λ x. Some (mark (relation_mark x))) (some_is e)
relation_is (Some (mark m.Greater)) rel e = ap (λ x. Some (mark (relation_mark x))) (some_is e)
relation_is (Some (mark m.GreaterEqual)) rel e = ap (λ x. Some (mark (relation_mark x))) (some_is e)
relation_is o rel e = absurd (cc)

joining_is : (o : Option Sym) (op : PatternOp) → joining_in o ≡ Some op → o ≡ Some (mark (pattern_mark op))
joining_is (Some (mark m.Ampersand)) op e = ap (λ x. Some (mark (pattern_mark x))) (some_is e)
joining_is (Some (mark m.Semicolon)) op e = ap (λ x. Some (mark (pattern_mark x))) (some_is e)
joining_is (Some (mark m.Bar)) op e = ap (λ x. Some (mark (pattern_mark x))) (some_is e)
joining_is o op e = absurd (cc)

-- ---- operators

pub record MayFollow (n : ℕ) (p : Pattern) (op : PatternOp) : Type 0 where
  pub le : suc (pattern_right_rank op) ≤ n
  pub low : pattern_rank p ≤ suc (pattern_right_rank op)

allowed_test : (n : ℕ) (p : Pattern) (a op : PatternOp) (b : Bool) → (nat_le (suc (pattern_right_rank a)) n && nat_le (pattern_rank p) (suc (pattern_right_rank a))) ≡ b
    → cond {A = Option PatternOp} b (Some a) None ≡ Some op → (a ≡ op) × MayFollow n p a
allowed_test n p a op true h e =
    let y = both_true (nat_le (suc (pattern_right_rank a)) n) _ h in
    (some_is e, record { le = le_is (suc (pattern_right_rank a)) n y.0; low = le_is (pattern_rank p) (suc (pattern_right_rank a)) y.1 })
allowed_test n p a op false h e = absurd (cc)

allowed_is : (n : ℕ) (p : Pattern) (x : Option PatternOp) (op : PatternOp) → pattern_allowed n p x ≡ Some op → (x ≡ Some op) × MayFollow n p op
allowed_is n p None op e = absurd (cc)
allowed_is n p (Some a) op e =
    let h = allowed_test n p a op _ refl e in
    (ap (λ x. Some x) h.0, subst (λ x. MayFollow n p x) h.0 h.1)

pub turn_ok : (n : ℕ) (p : Pattern) (o : Option Sym) (op : PatternOp) → pattern_turn n p o ≡ Some op → (o ≡ Some (mark (pattern_mark op))) × MayFollow n p op
unfolding pattern_turn
turn_ok n p o op e = let h = allowed_is n p (joining_in o) op e in (joining_is o op h.0, h.1)

-- what a loop took beyond its first operand
record Grew (n : ℕ) (l : Pattern) (i : Input) (p : Pattern) (j : Input) : Type 0 where
  tokens : spell_pattern l i.rest ≡ spell_pattern p j.rest
  room : pattern_cost l i.room ≡ pattern_cost p j.room
  binds : PatternBinds p
  low : pattern_rank p ≤ n

stays : (n : ℕ) (l : Pattern) (i : Input) (p : Pattern) (j : Input) → PatternBinds l → pattern_rank l ≤ n → ◌≡◌ {A = Outcome Pattern} (Ok (l, i)) (Ok (p, j)) → Grew n l i p j
stays n l i p j binds low h = along (λ x k. Grew n l i x k) l p i j h (record { tokens = refl; room = refl; binds = binds; low = low })

grouped_ok : (inner : ℕ → Reader Pattern) → SoundInner inner → (i j : Input) (p : Pattern) → first i.rest ≡ Some (mark m.Open) → grouped inner i ≡ Ok (p, j) → ReadsPart i p j
unfolding grouped
grouped_ok inner sound i j p is h =
    let a = then_ok (enter i) _ p j h in
    let b = then_ok (inner pattern_loosest a.1) _ p j a.3 in
    let c = then_ok (expect m.Close b.1) _ p j b.3 in
    let opened = enter_ok i a.1 (mark m.Open) a.0 is a.2 in
    let read = sound pattern_loosest a.1 b.1 b.0 b.2 in
    let closed = expect_ok m.Close b.1 c.1 c.0 c.2 in
    along (λ x l. ReadsPart i x l) (group b.0) p c.1 j c.3 (record {
      read = record {
        tokens = opened.tokens ∙ ap (λ xs. mark m.Open ∷ xs) (read.tokens ∙ ap (spell_pattern b.0) closed.tokens);
        room = opened.room ∙ ap suc (read.room ∙ ap (pattern_cost b.0) closed.room);
        binds = read.binds;
        low = omega arith;
      };
      takes = refl;
    })

-- ---- within a limit of operators and opening brackets

module _ (most : ℕ) where
  turned_ok : (k n m : ℕ) → SoundInner (pattern most k) → (l : Pattern) (i j : Input) (p : Pattern) → PatternBinds l → pattern_rank l ≤ n
      → ((l : Pattern) (i : Input) → PatternBinds l → pattern_rank l ≤ n → Climbs most k n m l i ≡ Ok (p, j) → Grew n l i p j)
      → (x : Option PatternOp) → pattern_turn n l (first i.rest) ≡ x
      → turned (λ op i. and_then (enter i) (λ _ a. and_then (pattern most k (pattern_right_rank op) a) (λ r b. (Climbs most) k n m (joined op l r) b))) l x i ≡ Ok (p, j)
      → Grew n l i p j
  turned_ok k n m sound l i j p binds low ih None is h = stays n l i p j binds low h
  turned_ok k n m sound l i j p binds low ih (Some op) is h =
      let may = turn_ok n l (first i.rest) op is in
      let a = then_ok (enter i) _ p j h in
      let b = then_ok (pattern most k (pattern_right_rank op) a.1) _ p j a.3 in
      let entered = enter_ok i a.1 (mark (pattern_mark op)) a.0 may.0 a.2 in
      let read = sound (pattern_right_rank op) a.1 b.1 b.0 b.2 in
      let le = may.1.le in
      let later = ih (joined op l b.0) b.1 (may.1.low, read.low, binds, read.binds) (omega arith) b.3 in
      record {
        tokens = ap (spell_pattern l) (entered.tokens ∙ ap (λ xs. mark (pattern_mark op) ∷ xs) read.tokens) ∙ later.tokens;
        room = ap (pattern_cost l) (entered.room ∙ ap suc read.room) ∙ later.room;
        binds = later.binds;
        low = later.low;
      }

  climb_ok : (k n m : ℕ) → SoundInner (pattern most k) → (l : Pattern) (i j : Input) (p : Pattern) → PatternBinds l → pattern_rank l ≤ n → Climbs most k n m l i ≡ Ok (p, j) → Grew n l i p j
  unfolding climb
  climb_ok k n zero sound l i j p binds low h = stays n l i p j binds low h
  climb_ok k n (suc m) sound l i j p binds low h =
      turned_ok k n m sound l i j p binds low (λ l' i' b r f. climb_ok k n m sound l' i' j p b r f) (pattern_turn n l (first i.rest)) refl h

  -- ---- parts

  constrained_ok : (w : Name) (rel : Relation) (i k j : Input) (p : Pattern) → Took i (name w) k → first k.rest ≡ Some (mark (relation_mark rel)) → constrained most w rel k ≡ Ok (p, j) → ReadsPart i p j
  unfolding constrained
  constrained_ok w rel i k j p field is h =
      let a = then_ok (enter k) _ p j h in
      let b = then_ok (expression in_constraint (suc most) loosest a.1) _ p j a.3 in
      let sign = enter_ok k a.1 (mark (relation_mark rel)) a.0 is a.2 in
      let read = of.sound in_constraint (suc most) loosest a.1 b.1 b.0 b.2 in
      along (λ x l. ReadsPart i x l) (constraint w rel b.0) p b.1 j b.3 (record {
        read = record {
          tokens = field.tokens ∙ ap (λ xs. name w ∷ xs) (sign.tokens ∙ ap (λ xs. mark (relation_mark rel) ∷ xs) read.tokens);
          room = field.room ∙ sign.room ∙ ap suc read.room;
          binds = read.binds;
          low = omega arith;
        };
        takes = refl;
      })

  related_ok : (w : Name) (i k j : Input) (p : Pattern) (x : Option Relation) → Took i (name w) k → relation_in (first k.rest) ≡ x → related most w x k ≡ Ok (p, j) → ReadsPart i p j
  related_ok w i k j p None field is h =
      along (λ x l. ReadsPart i x l) (bare w) p k j h (record { read = record { tokens = field.tokens; room = field.room; binds = tt; low = omega arith }; takes = refl })
  related_ok w i k j p (Some rel) field is h = constrained_ok w rel i k j p field (relation_is (first k.rest) rel is) h

  after_field_ok : (w : Name) (i k j : Input) (p : Pattern) → Took i (name w) k → after_field most w k ≡ Ok (p, j) → ReadsPart i p j
  unfolding after_field
  after_field_ok w i k j p field h = related_ok w i k j p (relation_in (first k.rest)) field refl h

  pub part_by_ok : (inner : ℕ → Reader Pattern) → SoundInner inner → (i j : Input) (p : Pattern) (o : Option Sym) → first i.rest ≡ o → part_by most inner o i ≡ Ok (p, j) → ReadsPart i p j
  part_by_ok inner sound i j p (Some (word (plain w))) is h = after_field_ok w i (next i) j p (took_next i (name w) is) h
  part_by_ok inner sound i j p (Some (mark m.Open)) is h = grouped_ok inner sound i j p is h
  part_by_ok inner sound i j p o is h = absurd (cc)

  pub element_ok : (inner : ℕ → Reader Pattern) → SoundInner inner → (i j : Input) (u : Pattern) → element most inner i ≡ Ok (u, j) → Reads 0 i u j
  unfolding element part
  element_ok inner sound i j u h =
      let a = then_ok (part most inner i) _ u j h in
      let p = a.0 in
      let k = a.1 in
      let got = part_by_ok inner sound i k p (first i.rest) refl a.2 in
      let read = got.read in
      elim (look_ok (is_mark m.Ellipsis) _ _ k (Ok (u, j)) a.3) [
        | inl f ↦
            let b = then_ok (enter k) _ u j f.1 in
            let dots = enter_ok k b.1 (mark m.Ellipsis) b.0 (mark_first m.Ellipsis (first k.rest) f.0) b.2 in
            along (λ x l. Reads 0 i x l) (ellipsis p) u b.1 j b.3 (record {
              tokens = read.tokens ∙ ap (spell_pattern p) dots.tokens;
              room = read.room ∙ ap (pattern_cost p) dots.room;
              binds = (got.takes, read.binds);
              low = omega arith;
            })
        | inr f ↦ along (λ x l. Reads 0 i x l) p u k j f.1 read
      ]

  -- ---- whole patterns

  pub sound : (k n : ℕ) (i j : Input) (p : Pattern) → pattern most k n i ≡ Ok (p, j) → Reads n i p j
  unfolding pattern
  sound zero n i j p h = absurd (cc)
  sound (suc k) n i j p h =
      let a = then_ok (element most (pattern most k) i) _ p j h in
      let read = element_ok (pattern most k) (sound k) i a.1 a.0 a.2 in
      let low = read.low in
      let grown = climb_ok k n (suc a.1.room) (sound k) a.0 a.1 j p read.binds (omega arith) a.3 in
      record { tokens = read.tokens ∙ grown.tokens; room = read.room ∙ grown.room; binds = grown.binds; low = grown.low }

  -- what was read as a pattern that stands in no other
  pub record ReadsWhole (i : Input) (p : Pattern) (j : Input) : Type 0 where
    pub tokens : i.rest ≡ spell_pattern p j.rest
    pub room : i.room ≡ j.room
    pub is : IsPattern most p

  with_room_ok : (i j : Input) (p : Pattern) (o : Outcome Pattern) → pattern most (suc most) pattern_loosest (at i.rest most) ≡ o → with_room i.room o ≡ Ok (p, j) → ReadsWhole i p j
  with_room_ok i j p (Ok (q, k)) is h =
      let read = sound (suc most) pattern_loosest (at i.rest most) k q is in
      let spent = read.room in
      along (λ x l. ReadsWhole i x l) q p (at k.rest i.room) j h (record { tokens = read.tokens; room = refl; is = (read.binds, omega (arith, pattern_cost_is q k.room)) })
  with_room_ok i j p (Err x) is h = absurd (cc)

  pub whole_pattern_ok : (i j : Input) (p : Pattern) → whole_pattern most i ≡ Ok (p, j) → ReadsWhole i p j
  unfolding whole_pattern
  whole_pattern_ok i j p h = with_room_ok i j p (pattern most (suc most) pattern_loosest (at i.rest most)) refl h
