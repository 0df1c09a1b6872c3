-- Within wider limits the readers of expressions and patterns read the same.
use Rattle.std.proofs.Common.{ℕ, zero, suc, ◌+◌, ◌<◌, ◌≤◌, ◌&&◌, List, Option, None, Some, refl, arith}
use Rattle.sl_ast.specs.Operators.{Kind, in_section, in_action, in_constraint, is_section, right_rank, loosest, takes_size, takes_bits, takes_drop, missing_function, pattern_right_rank, pattern_loosest}
use Rattle.sl_ast.specs.Symbols.{plain, quoted, Sym, number, word, mark}
use Rattle.sl_ast.specs.Trees.{Name, Expression, integer, named, paren, call, sized, dropped, bits, prefix, star, binary, Pattern, bare, constraint, group, ellipsis, joined}
use Rattle.sl_ast.specs.Views.{arguments}
use Rattle.sl_ast.specs.declared.expressions.PrefixOp.{PrefixOp}
use Rattle.sl_ast.specs.declared.expressions.PrefixOp.TheVariants as p
use Rattle.sl_ast.specs.declared.patterns.Relation.{Relation}
use Rattle.sl_ast.specs.declared.symbols.Feature.{Feature}
use Rattle.sl_ast.specs.declared.symbols.Feature.TheVariants as f
use Rattle.sl_ast.specs.declared.symbols.Keyword.TheVariants as k
use Rattle.sl_ast.specs.declared.symbols.Mark.TheVariants as m
use Rattle.sl_parse_grammar.specs.Climb.{climb, turned}
use Rattle.sl_parse_grammar.specs.Expressions.{turn, bracketed, called, called_by, after_name, name_in, missing_name_in, atom, atom_by, size_behind, drop_behind, bits_behind, behind, postfix, prefixed, space_in, starred, prefix_by, tight, expression}
use Rattle.sl_parse_grammar.specs.Patterns.{pattern_turn, relation_in, constrained, related, after_field, grouped, part, part_by, element, pattern}
use Rattle.sl_parse_grammar.specs.Reader.{at, first, Reader, ◌>>=◌, ◌>>◌, unsupported, enter, is_mark}
use Rattle.sl_parse_faults.proofs.RaisedSteps.{Raised, limited, both_ok, Raises, less_room, then_limited, then_raised, raises_then, raises_pure, raises_fault, raises_peek, raises_refuse, raises_skips, raises_if, raises_look, raises_expect, raises_integer, raises_name, raises_size, raises_optional, raises_size_option, enter_takes, enter_limited, raises_enter, raises_separated}

-- ---- loops over operators

module _ (more : ℕ) {A Op : Type 0} (step : A → Option Sym → Option Op) (right : Op → ℕ) (join : Op → A → A → A) (inner outer : ℕ → Reader A) (here : (n : ℕ) → Raises more (inner n) (outer n)) where
  -- what the loop does behind an operator that may follow
  abbrev behind_one : (ℕ → Reader A) → (A → Reader A) → Op → A → Reader A
  behind_one inner later op l = inner (right op) >>= (λ x. later (join op l x))

  turned_raised : (l : A) (later after : A → Reader A) (xs : List Sym) (r : ℕ)
      → ((l : A) (ys : List Sym) (s : ℕ) → s < r → Raised A more s (later l (at ys s)) (after l (at ys (more + s)))) → (o : Option Op)
      → Raised A more r (turned (λ op. enter >> behind_one inner later op l) l o (at xs r)) (turned (λ op. enter >> behind_one outer after op l) l o (at xs (more + r)))
  turned_raised l later after xs r goes None = both_ok l xs r (omega arith)
  turned_raised l later after xs zero goes (Some op) = limited _ _ (then_limited (enter (at xs zero)) _ (enter_limited more xs))
  turned_raised l later after xs (suc r) goes (Some op) =
      less_room more (suc r) r _ _ (omega arith)
      (then_raised more r _ _ _ _ (λ _ ys s le. then_raised more s _ _ _ _ (λ x zs t less. goes (join op l x) zs t (omega arith)) ((here (right op)).raised ys s)) (enter_takes more xs r))

  -- each has more rounds than room
  climb_raised : (m n : ℕ) (l : A) (xs : List Sym) (r : ℕ) → r < m → more + r < n → Raised A more r (climb step right join inner m l (at xs r)) (climb step right join outer n l (at xs (more + r)))
  unfolding climb
  climb_raised zero n l xs r less also = absurd (omega arith)
  climb_raised (suc m) zero l xs r less also = absurd (omega arith)
  climb_raised (suc m) (suc n) l xs r less also =
      turned_raised l (climb step right join inner m) (climb step right join outer n) xs r (λ l ys s fewer. climb_raised m n l ys s (omega arith) (omega arith)) (step l (first xs))

  pub grown_raises : (l : A) → Raises more (λ i. climb step right join inner (suc i.room) l i) (λ i. climb step right join outer (suc i.room) l i)
  grown_raises l = record { raised = λ xs r. climb_raised (suc r) (suc (more + r)) l xs r (omega arith) (omega arith) }

-- ---- expressions

module _ (more : ℕ) (kind : Kind) (inner outer : ℕ → Reader Expression) (here : (n : ℕ) → Raises more (inner n) (outer n)) where
  bracketed_raises : Raises more (bracketed kind inner) (bracketed kind outer)
  unfolding bracketed
  bracketed_raises = raises_then more (raises_enter more) (λ _. raises_then more (here loosest) (λ e. raises_then more (raises_expect more m.Close) (λ _. raises_pure more (paren e))))

  called_raises : (w : Name) → Raises more (called kind inner w) (called kind outer w)
  unfolding called
  called_raises w =
      raises_then more (raises_enter more) (λ _. raises_then more (raises_separated more (inner loosest) (outer loosest) (here loosest))
      (λ es. raises_then more (raises_expect more m.Close) (λ _. raises_pure more (call w (arguments es)))))

  called_by_raises : (w : Name) (x : Option Feature) → Raises more (called_by kind inner w x) (called_by kind outer w x)
  called_by_raises w None = called_raises w
  called_by_raises w (Some feature) = raises_fault more (unsupported feature 1)

  after_name_raises : (w : Name) → Raises more (after_name kind inner w) (after_name kind outer w)
  unfolding after_name
  after_name_raises w = raises_look more (is_mark m.Open) (called_by_raises w (missing_function w)) (raises_pure more (named w))

  name_in_raises : (place : Kind) (w : Name) → Raises more (name_in kind inner place w) (name_in kind outer place w)
  name_in_raises in_section w = raises_skips more (after_name_raises w)
  name_in_raises in_action w = raises_skips more (raises_pure more (named w))
  name_in_raises in_constraint w = raises_fault more (unsupported f.NameInConstraint 0)

  missing_name_raises : (place : Kind) → Raises more (missing_name_in kind inner place) (missing_name_in kind outer place)
  missing_name_raises in_section = raises_refuse more
  missing_name_raises in_action = raises_refuse more
  missing_name_raises in_constraint = raises_fault more (unsupported f.NameInConstraint 0)

  atom_by_raises : (o : Option Sym) → Raises more (atom_by kind inner o) (atom_by kind outer o)
  atom_by_raises (Some (number n)) = raises_skips more (raises_pure more (integer n))
  atom_by_raises (Some (word (plain w))) = name_in_raises kind w
  atom_by_raises (Some (word (quoted k.InstNext2))) = missing_name_raises kind
  atom_by_raises (Some (mark m.Open)) = bracketed_raises
  atom_by_raises o = raises_refuse more

  atom_raises : Raises more (atom kind inner) (atom kind outer)
  unfolding atom
  atom_raises = raises_peek more atom_by_raises

  size_behind_raises : (e : Expression) → Raises more (size_behind e) (size_behind e)
  unfolding size_behind
  size_behind_raises e = raises_skips more (raises_then more (raises_size more) (λ n. raises_pure more (sized e n)))

  drop_behind_raises : (e : Expression) → Raises more (drop_behind e) (drop_behind e)
  unfolding drop_behind
  drop_behind_raises e =
      raises_then more (raises_enter more) (λ _. raises_then more (raises_integer more) (λ n. raises_then more (raises_expect more m.Close) (λ _. raises_pure more (dropped e n))))

  bits_behind_raises : (e : Expression) → Raises more (bits_behind e) (bits_behind e)
  unfolding bits_behind
  bits_behind_raises e =
      raises_then more (raises_enter more) (λ _. raises_then more (raises_integer more) (λ l. raises_then more (raises_expect more m.Comma)
      (λ _. raises_then more (raises_integer more) (λ c. raises_then more (raises_expect more m.CloseBracket) (λ _. raises_pure more (bits e l c))))))

  behind_raises : (e : Expression) → Raises more (behind e) (behind e)
  unfolding behind
  behind_raises e =
      raises_look more (λ o. is_mark m.Colon o && takes_size e) (size_behind_raises e)
      (raises_look more (λ o. is_mark m.Open o && takes_drop e) (drop_behind_raises e)
      (raises_look more (λ o. is_mark m.OpenBracket o && takes_bits e) (bits_behind_raises e) (raises_pure more e)))

  postfix_raises : Raises more (postfix kind inner) (postfix kind outer)
  unfolding postfix
  postfix_raises = raises_then more atom_raises (λ e. raises_if more (is_section kind) (behind_raises e) (raises_pure more e))

  prefixed_raises : (op : PrefixOp) → Raises more (prefixed kind inner op) (prefixed kind outer op)
  unfolding prefixed
  prefixed_raises op = raises_then more (raises_enter more) (λ _. raises_then more (here 0) (λ e. raises_pure more (prefix op e)))

  space_raises : Raises more space_in space_in
  unfolding space_in
  space_raises =
      raises_optional more (is_mark m.OpenBracket)
      (raises_then more (raises_enter more) (λ _. raises_then more (raises_name more) (λ w. raises_then more (raises_expect more m.CloseBracket) (λ _. raises_pure more w))))

  starred_raises : Raises more (starred kind inner) (starred kind outer)
  unfolding starred
  starred_raises =
      raises_then more (raises_enter more) (λ _. raises_then more space_raises (λ place. raises_then more (raises_size_option more)
      (λ width. raises_then more (here 0) (λ e. raises_pure more (star place width e)))))

  prefix_by_raises : (o : Option Sym) → Raises more (prefix_by kind inner o) (prefix_by kind outer o)
  prefix_by_raises (Some (mark m.Minus)) = prefixed_raises p.Negate
  prefix_by_raises (Some (mark m.Tilde)) = prefixed_raises p.Complement
  prefix_by_raises (Some (mark m.Exclamation)) = raises_if more (is_section kind) (prefixed_raises p.Not) (raises_refuse more)
  prefix_by_raises (Some (mark m.Star)) = raises_if more (is_section kind) starred_raises (raises_refuse more)
  prefix_by_raises (Some (mark m.Ampersand)) = raises_fault more (unsupported f.AddressOf 0)
  prefix_by_raises o = postfix_raises

  tight_raises : Raises more (tight kind inner) (tight kind outer)
  unfolding tight
  tight_raises = raises_peek more prefix_by_raises

module _ (more : ℕ) where
  -- The second is nested as deep, or deeper.
  pub expression_raises : (kind : Kind) (k l n : ℕ) → k ≤ l → Raises more (expression kind k n) (expression kind l n)
  unfolding expression
  expression_raises kind zero l n le = record { raised = λ xs r. limited _ _ refl }
  expression_raises kind (suc k) zero n le = absurd (omega arith)
  expression_raises kind (suc k) (suc l) n le =
      raises_then more (tight_raises more kind (expression kind k) (expression kind l) (λ n. expression_raises kind k l n (omega arith)))
      (λ e. grown_raises more (turn kind n) right_rank binary (expression kind k) (expression kind l) (λ n. expression_raises kind k l n (omega arith)) e)

  -- ---- patterns

  grouped_raises : (inner outer : ℕ → Reader Pattern) → ((n : ℕ) → Raises more (inner n) (outer n)) → Raises more (grouped inner) (grouped outer)
  unfolding grouped
  grouped_raises inner outer here =
      raises_then more (raises_enter more) (λ _. raises_then more (here pattern_loosest) (λ p. raises_then more (raises_expect more m.Close) (λ _. raises_pure more (group p))))

  module _ (most : ℕ) where
    constrained_raises : (w : Name) (rel : Relation) → Raises more (constrained most w rel) (constrained (more + most) w rel)
    unfolding constrained
    constrained_raises w rel =
        raises_then more (raises_enter more) (λ _. raises_then more (expression_raises in_constraint (suc most) (suc (more + most)) loosest (omega arith)) (λ e. raises_pure more (constraint w rel e)))

    related_raises : (w : Name) (x : Option Relation) → Raises more (related most w x) (related (more + most) w x)
    related_raises w None = raises_pure more (bare w)
    related_raises w (Some rel) = constrained_raises w rel

    after_field_raises : (w : Name) → Raises more (after_field most w) (after_field (more + most) w)
    unfolding after_field
    after_field_raises w = raises_peek more (λ o. related_raises w (relation_in o))

    module _ (inner outer : ℕ → Reader Pattern) (here : (n : ℕ) → Raises more (inner n) (outer n)) where
      part_by_raises : (o : Option Sym) → Raises more (part_by most inner o) (part_by (more + most) outer o)
      part_by_raises (Some (word (plain w))) = raises_skips more (after_field_raises w)
      part_by_raises (Some (mark m.Open)) = grouped_raises inner outer here
      part_by_raises (Some (mark m.Ellipsis)) = raises_fault more (unsupported f.LeadingEllipsis 0)
      part_by_raises o = raises_refuse more

      element_raises : Raises more (element most inner) (element (more + most) outer)
      unfolding element part
      element_raises =
          raises_then more (raises_peek more part_by_raises)
          (λ p. raises_look more (is_mark m.Ellipsis) (raises_then more (raises_enter more) (λ _. raises_pure more (ellipsis p))) (raises_pure more p))

    pub pattern_raises : (k l n : ℕ) → k ≤ l → Raises more (pattern most k n) (pattern (more + most) l n)
    unfolding pattern
    pattern_raises zero l n le = record { raised = λ xs r. limited _ _ refl }
    pattern_raises (suc k) zero n le = absurd (omega arith)
    pattern_raises (suc k) (suc l) n le =
        raises_then more (element_raises (pattern most k) (pattern (more + most) l) (λ n. pattern_raises k l n (omega arith)))
        (λ p. grown_raises more (pattern_turn n) pattern_right_rank joined (pattern most k) (pattern (more + most) l) (λ n. pattern_raises k l n (omega arith)) p)
