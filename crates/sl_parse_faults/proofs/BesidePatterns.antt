-- Readers of patterns, and of expressions and patterns that stand in no others, in two readings side by side.
use Rattle.std.proofs.Common.{◌≡◌, ℕ, zero, suc, ◌+◌, ◌≤◌, inl, inr, Bool, true, false, List, [], length, Option, None, Some, Ok, Err, refl, arith}
use Rattle.sl_ast.specs.Operators.{Kind, in_constraint, loosest, pattern_right_rank, pattern_loosest}
use Rattle.sl_ast.specs.Symbols.{plain, Sym, word, mark}
use Rattle.sl_ast.specs.Trees.{Name, Pattern, bare, constraint, group, ellipsis, joined}
use Rattle.sl_ast.specs.declared.patterns.Relation.{Relation}
use Rattle.sl_ast.specs.declared.symbols.Feature.TheVariants as f
use Rattle.sl_ast.specs.declared.symbols.Mark.TheVariants as m
use Rattle.sl_parse_grammar.specs.Expressions.{expression, whole, with_room}
use Rattle.sl_parse_grammar.specs.Patterns.{pattern_turn, relation_in, constrained, related, after_field, grouped, part, part_by, element, pattern, whole_pattern}
use Rattle.sl_parse_grammar.specs.Reader.{Input, at, first, Outcome, Reader, ◌>>◌, pure, unsupported, enter, look, is_mark, same_mark}
use Rattle.sl_parse_faults.proofs.BesideSteps.{Pair, address, lone_name, lone_word, wide, opening, leading, calling, sizing, floating, lacking, Untaken, tilde, other_dots, bracket, dots, Firm, NoMore, Abreast, both_ok, early, told, told_here, past, stuck, apart, all_loose, Begun, Beside, IsClosed, closed_pure, ends_then, ends_expect, beside_then, loose_then, begun_less, begun_loosen, beside_pure, begun_fault, begun_skips, begun_refuse, begun_peek, beside_peek, begun_if}
use Rattle.sl_parse_faults.proofs.BesideSymbols.{beside_expect, begun_enters, fewer_rooms}
use Rattle.sl_parse_faults.proofs.BesideExpressions.{Stops, beside_grown, closed_grown, no_rooms, beside_expression}

-- ---- at the place

related_here : {zs ys K W : List Sym} (h : Pair zs ys K W) (more most r : ℕ) (w : Name)
    → Abreast h more (Untaken zs false) Pattern zero zero r (related (more + most) w (relation_in (first K)) (at K (more + r))) (related most w (relation_in (first W)) (at W r))
related_here address more most r w = both_ok (bare w) [] r (omega arith) (omega arith)
related_here (lone_name x) more most r w = both_ok (bare w) [] r (omega arith) (omega arith)
related_here lone_word more most r w = both_ok (bare w) [] r (omega arith) (omega arith)
related_here (wide x) more most r w = both_ok (bare w) [] r (omega arith) (omega arith)
related_here (opening x missing e) more most r w = both_ok (bare w) [] r (omega arith) (omega arith)
related_here leading more most r w = both_ok (bare w) [] r (omega arith) (omega arith)
related_here (calling x missing e) more most r w = both_ok (bare w) [] r (omega arith) (omega arith)
related_here (sizing x) more most r w = both_ok (bare w) [] r (omega arith) (omega arith)
related_here floating more most r w = both_ok (bare w) [] r (omega arith) (omega arith)
related_here lacking more most r w = both_ok (bare w) [] r (omega arith) (omega arith)

part_by_here : {zs ys K W : List Sym} (h : Pair zs ys K W) (more most r : ℕ) (inner outer : ℕ → Reader Pattern) → ((w : Name) (i : Input) → NoMore (length i.rest) (after_field most w i))
    → Abreast h more (Untaken zs false) Pattern 1 zero r (part_by (more + most) inner (first K) (at K (more + r))) (part_by most outer (first W) (at W r))
unfolding after_field
part_by_here address more most r inner outer after = stuck tt _ _
part_by_here (lone_name x) more most r inner outer after = stuck tt _ _
part_by_here lone_word more most r inner outer after = stuck tt _ _
part_by_here (wide x) more most r inner outer after = stuck tt _ _
part_by_here {ys = ys} (opening x missing e) more most r inner outer after = past _ _ (after x (at ys r))
part_by_here leading more most r inner outer after = told_here f.LeadingEllipsis refl
part_by_here (calling x missing e) more most r inner outer after = apart tt _ _ _ bracket
part_by_here (sizing x) more most r inner outer after = stuck tt _ _
part_by_here floating more most r inner outer after = told_here f.FloatingPoint refl
part_by_here lacking more most r inner outer after = told_here f.InstNext2 refl

abbrev with_ellipsis : Pattern → Reader Pattern
with_ellipsis p = look (is_mark m.Ellipsis) (enter >> pure (ellipsis p)) (pure p)

ellipsis_here : {zs ys K W : List Sym} (h : Pair zs ys K W) (more r : ℕ) (p : Pattern) → Abreast h more (Untaken zs false) Pattern zero zero r (with_ellipsis p (at K (more + r))) (with_ellipsis p (at W r))
unfolding same_mark
ellipsis_here address more r p = both_ok p [] r (omega arith) (omega arith)
ellipsis_here (lone_name x) more r p = both_ok p [] r (omega arith) (omega arith)
ellipsis_here lone_word more r p = both_ok p [] r (omega arith) (omega arith)
ellipsis_here (wide x) more r p = both_ok p [] r (omega arith) (omega arith)
ellipsis_here (opening x missing e) more r p = both_ok p [] r (omega arith) (omega arith)
ellipsis_here leading more r p = apart tt _ _ _ other_dots
ellipsis_here (calling x missing e) more r p = both_ok p [] r (omega arith) (omega arith)
ellipsis_here (sizing x) more r p = both_ok p [] r (omega arith) (omega arith)
ellipsis_here floating more r p = both_ok p [] r (omega arith) (omega arith)
ellipsis_here lacking more r p = both_ok p [] r (omega arith) (omega arith)

abbrev pub JoinStops : {zs ys K W : List Sym} → Pair zs ys K W → ℕ → Type 0
JoinStops h n = Stops h false (pattern_turn n)

join_stops : {zs ys K W : List Sym} (h : Pair zs ys K W) (n : ℕ) → JoinStops h n
unfolding pattern_turn
join_stops address n = ((λ l. refl), inr (tt, tilde))
join_stops (lone_name x) n = ((λ l. refl), inl (λ l. refl))
join_stops lone_word n = ((λ l. refl), inl (λ l. refl))
join_stops (wide x) n = ((λ l. refl), inl (λ l. refl))
join_stops (opening x missing e) n = ((λ l. refl), inl (λ l. refl))
join_stops leading n = ((λ l. refl), inl (λ l. refl))
join_stops (calling x missing e) n = ((λ l. refl), inl (λ l. refl))
join_stops (sizing x) n = ((λ l. refl), inl (λ l. refl))
join_stops floating n = ((λ l. refl), inl (λ l. refl))
join_stops lacking n = ((λ l. refl), inl (λ l. refl))

-- ---- where something is untaken

join_leaves : (zs : List Sym) (b : Bool) (n : ℕ) (l : Pattern) (xs : List Sym) → Untaken zs b xs → pattern_turn n l (first xs) ≡ None
unfolding pattern_turn
join_leaves zs b n l _ tilde = refl
join_leaves zs b n l _ other_dots = refl
join_leaves zs b n l _ bracket = refl
join_leaves zs b n l _ dots = refl

ellipsis_untaken : (zs : List Sym) (p : Pattern) (xs : List Sym) (r : ℕ) → Untaken zs false xs → IsClosed (Untaken zs false) (with_ellipsis p (at xs r))
unfolding same_mark
ellipsis_untaken zs p _ r tilde = tilde
ellipsis_untaken zs p _ r other_dots = other_dots
ellipsis_untaken zs p _ r bracket = bracket

-- ---- readers

room_onward : {A : Type 0} (n r : ℕ) (p : Outcome A) → NoMore n p → NoMore n (with_room r p)
room_onward n r (Ok x) y = y
room_onward n r (Err e) y = y

room_abreast : {zs ys K W : List Sym} {L : List Sym → Type 0} {A : Type 0} (h : Pair zs ys K W) (more t l most r : ℕ) (o p : Outcome A) → Abreast h more L A t l most o p → Abreast h zero L A t l r (with_room (zero + r) o) (with_room r p)
room_abreast h more t l most r _ _ (both_ok a xs s fits le) = both_ok a xs r fits (omega arith)
room_abreast h more t l most r _ _ (early o e x) = early (with_room (zero + r) o) e x
room_abreast h more t l most r _ _ (told o e x) = told (with_room (zero + r) o) e x
room_abreast h more t l most r _ _ (past o p x) = past (with_room (zero + r) o) (with_room r p) (room_onward _ r p x)
room_abreast h more t l most r _ _ (stuck x e p) = stuck x e (with_room r p)
room_abreast h more t l most r _ _ (apart y a j p z) = apart y a (at j.rest (zero + r)) (with_room r p) z

module _ {zs ys K W : List Sym} (h : Pair zs ys K W) (more most : ℕ) where
  -- a reading with a room of its own
  beside_room : {L : List Sym → Type 0} {A : Type 0} {t : ℕ} (n : ℕ) (p q : Reader A) → Beside h more L t (suc most) p q
      → Beside h zero L t n (λ i. with_room i.room (p (at i.rest (more + most)))) (λ i. with_room i.room (q (at i.rest most)))
  beside_room {t = t} n p q b = record {
    begun = record {
      ahead = λ x xs r less. room_abreast h more t (suc (length xs)) most r _ _ (b.begun.ahead x xs most (omega arith));
      onward = λ i. room_onward (length i.rest) i.room _ (b.begun.onward (at i.rest most));
    };
    here = λ r less. room_abreast h more t zero most r _ _ (b.here most (omega arith));
  }

  constrained_begun : (w : Name) (rel : Relation) → Begun h more (Untaken zs false) 1 (suc (suc most)) (constrained (more + most) w rel) (constrained most w rel)
  unfolding constrained
  constrained_begun w rel =
      begun_enters h more (loose_then h more (beside_expression h more in_constraint (suc (more + most)) (suc most) loosest (omega arith)) (λ e. beside_pure h more (constraint w rel e))
      (λ e. closed_pure (constraint w rel e)))

  related_begun : (w : Name) (x : Option Relation) → Begun h more (Untaken zs false) zero (suc (suc most)) (related (more + most) w x) (related most w x)
  related_begun w None = (beside_pure h more (bare w)).begun
  related_begun w (Some rel) = begun_less h more zero (omega arith) (constrained_begun w rel)

  after_field_beside : (w : Name) → Beside h more (Untaken zs false) zero (suc (suc most)) (after_field (more + most) w) (after_field most w)
  unfolding after_field
  after_field_beside w =
      beside_peek h more (λ o. related_begun w (relation_in o)) (λ r less. related_here h more most r w)

  grouped_begun : (inner outer : ℕ → Reader Pattern) (n : ℕ) → ((rank : ℕ) → Beside h more (Untaken zs false) 1 n (inner rank) (outer rank)) → Begun h more Firm 1 (suc n) (grouped inner) (grouped outer)
  unfolding grouped
  grouped_begun inner outer n here =
      begun_enters h more (loose_then h more (here pattern_loosest) (λ p. beside_then h more (beside_expect h more m.Close tt) (λ _. beside_pure h more (group p)))
      (λ p. ends_then _ (ends_expect m.Close tt)))

  module _ (inner outer : ℕ → Reader Pattern) (n : ℕ) (fits : suc n ≤ suc (suc most)) (here : (rank : ℕ) → Beside h more (Untaken zs false) 1 n (inner rank) (outer rank)) where
    part_by_begun : (o : Option Sym) → Begun h more (Untaken zs false) 1 (suc n) (part_by (more + most) inner o) (part_by most outer o)
    part_by_begun (Some (word (plain w))) = fewer_rooms h more (suc n) fits (begun_skips h more (after_field_beside w))
    part_by_begun (Some (mark m.Open)) = begun_loosen h more (grouped_begun inner outer n here)
    part_by_begun (Some (mark m.Ellipsis)) = begun_fault h more (unsupported f.LeadingEllipsis 0)
    part_by_begun o = begun_refuse h more

    part_beside : Beside h more (Untaken zs false) 1 (suc n) (part (more + most) inner) (part most outer)
    unfolding part
    part_beside =
        beside_peek h more part_by_begun (λ r less. part_by_here h more most r inner outer (λ w. (after_field_beside w).begun.onward))

    ellipsis_beside : (p : Pattern) → Beside h more (Untaken zs false) zero (suc n) (with_ellipsis p) (with_ellipsis p)
    ellipsis_beside p = record {
      begun = begun_peek h more (λ o. begun_if h more (is_mark m.Ellipsis o) (begun_less h more zero (omega arith) (begun_enters h more {n = n} (beside_pure h more (ellipsis p)))) (beside_pure h more p).begun);
      here = λ r less. ellipsis_here h more r p;
    }

    element_beside : Beside h more (Untaken zs false) 1 (suc n) (element (more + most) inner) (element most outer)
    unfolding element
    element_beside = loose_then h more part_beside ellipsis_beside (λ p. record { closed = λ xs r u. ellipsis_untaken zs p xs r u })

  -- The first is nested as deep, or deeper; the second has depth for its room.
  beside_pattern : (c n rank : ℕ) → n ≤ c → n ≤ suc most → Beside h more (Untaken zs false) 1 n (pattern (more + most) c rank) (pattern most n rank)
  unfolding pattern
  beside_pattern c zero rank le fits = no_rooms h more _ _ (λ i. omega arith)
  beside_pattern zero (suc n) rank le fits = absurd (omega arith)
  beside_pattern (suc c) (suc n) rank le fits =
      loose_then h more (element_beside (pattern (more + most) c) (pattern most n) n (omega arith) (λ loose. beside_pattern c n loose (omega arith) (omega arith)))
      (λ p. beside_grown h more (pattern_turn rank) pattern_right_rank joined (pattern (more + most) c) (pattern most n) false (join_stops h rank) (join_leaves zs false rank) n
      (λ loose. beside_pattern c n loose (omega arith) (omega arith)) p)
      (λ p. closed_grown h more (pattern_turn rank) pattern_right_rank joined (pattern (more + most) c) (pattern most n) false (join_stops h rank) (join_leaves zs false rank) n
      (λ loose. beside_pattern c n loose (omega arith) (omega arith)) p)

  pub beside_whole : (kind : Kind) (n : ℕ) → Beside h zero (Untaken zs true) 1 n (whole (more + most) kind) (whole most kind)
  unfolding whole
  beside_whole kind n = all_loose h zero (beside_room n (expression kind (suc (more + most)) loosest) (expression kind (suc most) loosest) (beside_expression h more kind (suc (more + most)) (suc most) loosest (omega arith)))

  pub beside_whole_pattern : (n : ℕ) → Beside h zero (Untaken zs true) 1 n (whole_pattern (more + most)) (whole_pattern most)
  unfolding whole_pattern
  beside_whole_pattern n =
      all_loose h zero (beside_room n (pattern (more + most) (suc (more + most)) pattern_loosest) (pattern most (suc most) pattern_loosest) (beside_pattern (suc (more + most)) (suc most) pattern_loosest (omega arith) (omega arith)))
