-- The readers of expressions and patterns are local.
use Rattle.std.proofs.Common.{ℕ, zero, suc, ◌&&◌, length, Option, None, Some, ap, arith}
use Rattle.sl_ast.specs.Operators.{Kind, in_section, in_action, in_constraint, is_section, right_rank, loosest, takes_size, takes_bits, takes_drop, missing_function, pattern_right_rank, pattern_loosest}
use Rattle.sl_ast.specs.Symbols.{plain, quoted, Sym, number, word, mark}
use Rattle.sl_ast.specs.Trees.{Name, Expression, integer, named, paren, call, sized, dropped, bits, prefix, star, binary, Pattern, bare, constraint, group, ellipsis, joined}
use Rattle.sl_ast.specs.Views.{arguments}
use Rattle.sl_ast.specs.declared.expressions.PrefixOp.{PrefixOp}
use Rattle.sl_ast.specs.declared.expressions.PrefixOp.TheVariants as p
use Rattle.sl_ast.specs.declared.patterns.Relation.{Relation}
use Rattle.sl_ast.specs.declared.symbols.Feature.{Feature}
use Rattle.sl_ast.specs.declared.symbols.Feature.TheVariants as f
use Rattle.sl_ast.specs.declared.symbols.Keyword.TheVariants as k
use Rattle.sl_ast.specs.declared.symbols.Mark.TheVariants as m
use Rattle.sl_parse_grammar.specs.Climb.{climb, turned}
use Rattle.sl_parse_grammar.specs.Expressions.{turn, bracketed, called, called_by, after_name, name_in, missing_name_in, atom, atom_by, size_behind, drop_behind, bits_behind, behind, postfix, prefixed, space_in, starred, prefix_by, tight, expression, whole}
use Rattle.sl_parse_grammar.specs.Lists.{separated}
use Rattle.sl_parse_grammar.specs.Parallel.{Local}
use Rattle.sl_parse_grammar.specs.Patterns.{pattern_turn, relation_in, constrained, related, after_field, grouped, part, part_by, element, pattern, whole_pattern}
use Rattle.sl_parse_grammar.specs.Reader.{nesting, unsupported, Reader, ◌>>=◌, ◌>>◌, pure, enter, refuse, is_mark, expect, integer_here, name_here, size_here, size_option}
use Rattle.sl_parse_grammar.proofs.ExpressionSound as es
use Rattle.sl_parse_grammar.proofs.LocalSteps.{local_then, local_pure, local_fault, local_peek, local_refuse, local_skips, local_if, local_look, local_expect, local_integer, local_name, local_size, local_optional, local_size_option, local_enter, local_enters, local_room, Shrinks, local_separated}
use Rattle.sl_parse_grammar.proofs.Measures.{long_expression}

-- ---- loops over operators

module _ {A Op : Type 0} (step : A → Option Sym → Option Op) (right : Op → ℕ) (join : Op → A → A → A) (inner : ℕ → Reader A) (here : (n : ℕ) → Local A (inner n)) where
  turned_local : (go : Op → Reader A) → ((op : Op) → Local A (go op)) → (l : A) (x : Option Op) → Local A (turned go l x)
  turned_local go goes l None = local_pure l
  turned_local go goes l (Some op) = goes op

  climb_local : (n : ℕ) (l : A) → Local A (climb step right join inner n l)
  unfolding climb
  climb_local zero l = local_pure l
  climb_local (suc n) l =
      local_peek (λ o. turned (λ op. enter >> (inner (right op) >>= (λ r. climb step right join inner n (join op l r)))) l (step l o))
      (λ o. turned_local (λ op. enter >> (inner (right op) >>= (λ r. climb step right join inner n (join op l r))))
      (λ op. local_enters (inner (right op) >>= (λ r. climb step right join inner n (join op l r)))
      (local_then (inner (right op)) _ (here (right op)) (λ r. climb_local n (join op l r)))) l (step l o))

  -- both readings have the same room, and so the same rounds
  pub grown_local : (l : A) → Local A (λ i. climb step right join inner (suc i.room) l i)
  grown_local l = record {
    alike = λ x xs ys zs r. (climb_local (suc r) l).alike x xs ys zs r;
    forward = λ i ys h. (climb_local (suc i.room) l).forward i ys h;
  }

-- ---- expressions

abbrev LocalInner : (ℕ → Reader Expression) → Type 0
LocalInner inner = (n : ℕ) → Local Expression (inner n)

bracketed_local : (kind : Kind) (inner : ℕ → Reader Expression) → LocalInner inner → Local Expression (bracketed kind inner)
unfolding bracketed
bracketed_local kind inner here =
    local_then enter _ local_enter (λ _. local_then (inner loosest) _ (here loosest) (λ e. local_then (expect m.Close) _ (local_expect m.Close) (λ _. local_pure (paren e))))

called_local : (kind : Kind) (inner : ℕ → Reader Expression) → LocalInner inner → Shrinks (inner loosest) → (w : Name) → Local Expression (called kind inner w)
unfolding called
called_local kind inner here shrinks w =
    local_then enter _ local_enter (λ _. local_then (separated (inner loosest)) _ (local_separated (inner loosest) (here loosest) shrinks)
    (λ es. local_then (expect m.Close) _ (local_expect m.Close) (λ _. local_pure (call w (arguments es)))))

called_by_local : (kind : Kind) (inner : ℕ → Reader Expression) → LocalInner inner → Shrinks (inner loosest) → (w : Name) (x : Option Feature) → Local Expression (called_by kind inner w x)
called_by_local kind inner here shrinks w None = called_local kind inner here shrinks w
called_by_local kind inner here shrinks w (Some feature) = local_fault (unsupported feature 1)

after_name_local : (kind : Kind) (inner : ℕ → Reader Expression) → LocalInner inner → Shrinks (inner loosest) → (w : Name) → Local Expression (after_name kind inner w)
unfolding after_name
after_name_local kind inner here shrinks w =
    local_look (is_mark m.Open) (called_by kind inner w (missing_function w)) (pure (named w)) (called_by_local kind inner here shrinks w (missing_function w)) (local_pure (named w))

name_in_local : (kind : Kind) (inner : ℕ → Reader Expression) → LocalInner inner → Shrinks (inner loosest) → (place : Kind) (w : Name) → Local Expression (name_in kind inner place w)
name_in_local kind inner here shrinks in_section w = local_skips (after_name kind inner w) (after_name_local kind inner here shrinks w)
name_in_local kind inner here shrinks in_action w = local_skips (pure (named w)) (local_pure (named w))
name_in_local kind inner here shrinks in_constraint w = local_fault (unsupported f.NameInConstraint 0)

missing_name_local : (kind : Kind) (inner : ℕ → Reader Expression) (place : Kind) → Local Expression (missing_name_in kind inner place)
missing_name_local kind inner in_section = local_refuse
missing_name_local kind inner in_action = local_refuse
missing_name_local kind inner in_constraint = local_fault (unsupported f.NameInConstraint 0)

atom_by_local : (kind : Kind) (inner : ℕ → Reader Expression) → LocalInner inner → Shrinks (inner loosest) → (o : Option Sym) → Local Expression (atom_by kind inner o)
atom_by_local kind inner here shrinks (Some (number n)) = local_skips (pure (integer n)) (local_pure (integer n))
atom_by_local kind inner here shrinks (Some (word (plain w))) = name_in_local kind inner here shrinks kind w
atom_by_local kind inner here shrinks (Some (word (quoted k.InstNext2))) = missing_name_local kind inner kind
atom_by_local kind inner here shrinks (Some (mark m.Open)) = bracketed_local kind inner here
atom_by_local kind inner here shrinks o = local_refuse

atom_local : (kind : Kind) (inner : ℕ → Reader Expression) → LocalInner inner → Shrinks (inner loosest) → Local Expression (atom kind inner)
unfolding atom
atom_local kind inner here shrinks = local_peek (atom_by kind inner) (atom_by_local kind inner here shrinks)

size_behind_local : (e : Expression) → Local Expression (size_behind e)
unfolding size_behind
size_behind_local e = local_skips (size_here >>= (λ n. pure (sized e n))) (local_then size_here _ local_size (λ n. local_pure (sized e n)))

drop_behind_local : (e : Expression) → Local Expression (drop_behind e)
unfolding drop_behind
drop_behind_local e =
    local_then enter _ local_enter (λ _. local_then integer_here _ local_integer (λ n. local_then (expect m.Close) _ (local_expect m.Close) (λ _. local_pure (dropped e n))))

bits_behind_local : (e : Expression) → Local Expression (bits_behind e)
unfolding bits_behind
bits_behind_local e =
    local_then enter _ local_enter (λ _. local_then integer_here _ local_integer (λ l. local_then (expect m.Comma) _ (local_expect m.Comma)
    (λ _. local_then integer_here _ local_integer (λ c. local_then (expect m.CloseBracket) _ (local_expect m.CloseBracket) (λ _. local_pure (bits e l c))))))

behind_local : (e : Expression) → Local Expression (behind e)
unfolding behind
behind_local e =
    local_look (λ o. is_mark m.Colon o && takes_size e) (size_behind e) _ (size_behind_local e)
    (local_look (λ o. is_mark m.Open o && takes_drop e) (drop_behind e) _ (drop_behind_local e)
    (local_look (λ o. is_mark m.OpenBracket o && takes_bits e) (bits_behind e) (pure e) (bits_behind_local e) (local_pure e)))

postfix_local : (kind : Kind) (inner : ℕ → Reader Expression) → LocalInner inner → Shrinks (inner loosest) → Local Expression (postfix kind inner)
unfolding postfix
postfix_local kind inner here shrinks =
    local_then (atom kind inner) _ (atom_local kind inner here shrinks) (λ e. local_if (is_section kind) (behind e) (pure e) (behind_local e) (local_pure e))

prefixed_local : (kind : Kind) (inner : ℕ → Reader Expression) → LocalInner inner → (op : PrefixOp) → Local Expression (prefixed kind inner op)
unfolding prefixed
prefixed_local kind inner here op = local_then enter _ local_enter (λ _. local_then (inner 0) _ (here 0) (λ e. local_pure (prefix op e)))

space_local : Local (Option Name) space_in
unfolding space_in
space_local =
    local_optional (is_mark m.OpenBracket) (enter >> (name_here >>= (λ w. expect m.CloseBracket >> pure w)))
    (local_then enter _ local_enter (λ _. local_then name_here _ local_name (λ w. local_then (expect m.CloseBracket) _ (local_expect m.CloseBracket) (λ _. local_pure w))))

starred_local : (kind : Kind) (inner : ℕ → Reader Expression) → LocalInner inner → Local Expression (starred kind inner)
unfolding starred
starred_local kind inner here =
    local_then enter _ local_enter (λ _. local_then space_in _ space_local
    (λ place. local_then size_option _ local_size_option (λ width. local_then (inner 0) _ (here 0) (λ e. local_pure (star place width e)))))

prefix_by_local : (kind : Kind) (inner : ℕ → Reader Expression) → LocalInner inner → Shrinks (inner loosest) → (o : Option Sym) → Local Expression (prefix_by kind inner o)
prefix_by_local kind inner here shrinks (Some (mark m.Minus)) = prefixed_local kind inner here p.Negate
prefix_by_local kind inner here shrinks (Some (mark m.Tilde)) = prefixed_local kind inner here p.Complement
prefix_by_local kind inner here shrinks (Some (mark m.Exclamation)) = local_if (is_section kind) (prefixed kind inner p.Not) refuse (prefixed_local kind inner here p.Not) local_refuse
prefix_by_local kind inner here shrinks (Some (mark m.Star)) = local_if (is_section kind) (starred kind inner) refuse (starred_local kind inner here) local_refuse
prefix_by_local kind inner here shrinks (Some (mark m.Ampersand)) = local_fault (unsupported f.AddressOf 0)
prefix_by_local kind inner here shrinks o = postfix_local kind inner here shrinks

tight_local : (kind : Kind) (inner : ℕ → Reader Expression) → LocalInner inner → Shrinks (inner loosest) → Local Expression (tight kind inner)
unfolding tight
tight_local kind inner here shrinks = local_peek (prefix_by kind inner) (prefix_by_local kind inner here shrinks)

shrinks : (kind : Kind) (k n : ℕ) → Shrinks (expression kind k n)
shrinks kind k n i j e h =
    let read = es.sound kind k n i j e h in
    let same = ap length read.tokens in
    omega (arith, long_expression e j.rest)

pub expression_local : (kind : Kind) (k n : ℕ) → Local Expression (expression kind k n)
unfolding expression
expression_local kind zero n = local_fault nesting
expression_local kind (suc k) n =
    local_then (tight kind (expression kind k)) _ (tight_local kind (expression kind k) (expression_local kind k) (shrinks kind k loosest))
    (λ e. grown_local (turn kind n) right_rank binary (expression kind k) (expression_local kind k) e)

grouped_local : (inner : ℕ → Reader Pattern) → ((n : ℕ) → Local Pattern (inner n)) → Local Pattern (grouped inner)
unfolding grouped
grouped_local inner here =
    local_then enter _ local_enter (λ _. local_then (inner pattern_loosest) _ (here pattern_loosest) (λ p. local_then (expect m.Close) _ (local_expect m.Close) (λ _. local_pure (group p))))

-- ---- within a limit of operators and opening brackets

module _ (most : ℕ) where
  pub whole_local : (kind : Kind) → Local Expression (whole most kind)
  unfolding whole
  whole_local kind = local_room most (expression kind (suc most) loosest) (expression_local kind (suc most) loosest)

  -- ---- patterns

  constrained_local : (w : Name) (rel : Relation) → Local Pattern (constrained most w rel)
  unfolding constrained
  constrained_local w rel =
      local_then enter _ local_enter (λ _. local_then (expression in_constraint (suc most) loosest) _ (expression_local in_constraint (suc most) loosest)
      (λ e. local_pure (constraint w rel e)))

  related_local : (w : Name) (x : Option Relation) → Local Pattern (related most w x)
  related_local w None = local_pure (bare w)
  related_local w (Some rel) = constrained_local w rel

  after_field_local : (w : Name) → Local Pattern (after_field most w)
  unfolding after_field
  after_field_local w = local_peek (λ o. (related most) w (relation_in o)) (λ o. related_local w (relation_in o))

  part_by_local : (inner : ℕ → Reader Pattern) → ((n : ℕ) → Local Pattern (inner n)) → (o : Option Sym) → Local Pattern (part_by most inner o)
  part_by_local inner here (Some (word (plain w))) = local_skips (after_field most w) (after_field_local w)
  part_by_local inner here (Some (mark m.Open)) = grouped_local inner here
  part_by_local inner here (Some (mark m.Ellipsis)) = local_fault (unsupported f.LeadingEllipsis 0)
  part_by_local inner here o = local_refuse

  element_local : (inner : ℕ → Reader Pattern) → ((n : ℕ) → Local Pattern (inner n)) → Local Pattern (element most inner)
  unfolding element part
  element_local inner here =
      local_then (part most inner) _ (local_peek (part_by most inner) (part_by_local inner here))
      (λ p. local_look (is_mark m.Ellipsis) (enter >> pure (ellipsis p)) (pure p) (local_enters (pure (ellipsis p)) (local_pure (ellipsis p))) (local_pure p))

  pub pattern_local : (k n : ℕ) → Local Pattern (pattern most k n)
  unfolding pattern
  pattern_local zero n = local_fault nesting
  pattern_local (suc k) n =
      local_then (element most (pattern most k)) _ (element_local (pattern most k) (pattern_local k))
      (λ p. grown_local (pattern_turn n) pattern_right_rank joined (pattern most k) (pattern_local k) p)

  pub whole_pattern_local : Local Pattern (whole_pattern most)
  unfolding whole_pattern
  whole_pattern_local = local_room most (pattern most (suc most) pattern_loosest) (pattern_local (suc most) pattern_loosest)
