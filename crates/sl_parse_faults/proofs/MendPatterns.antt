-- Patterns that complete what was read.
use Rattle.std.proofs.Common.{◌≡◌, ℕ, zero, suc, ◌+◌, ◌<◌, ◌≤◌, inl, inr, true, List, ◌∷◌, Option, None, Some, Ok, Err, refl, subst, arith}
use Rattle.sl_ast.specs.Operators.{in_constraint, loosest, pattern_mark, relation_mark, pattern_rank, pattern_right_rank, pattern_loosest, takes_ellipsis}
use Rattle.sl_ast.specs.Spelling.{name, spell_expression, spell_pattern}
use Rattle.sl_ast.specs.Symbols.{plain, Sym, word, mark}
use Rattle.sl_ast.specs.Trees.{Name, Pattern, bare, constraint, group, ellipsis, joined}
use Rattle.sl_ast.specs.Validity.{PatternBinds, pattern_weight}
use Rattle.sl_ast.specs.declared.patterns.PatternOp.{PatternOp}
use Rattle.sl_ast.specs.declared.patterns.Relation.{Relation}
use Rattle.sl_ast.specs.declared.symbols.Feature.TheVariants as f
use Rattle.sl_ast.specs.declared.symbols.Mark.TheVariants as m
use Rattle.sl_parse_grammar.specs.Climb.{climb, turned}
use Rattle.sl_parse_grammar.specs.Expressions.{expression}
use Rattle.sl_parse_grammar.specs.Patterns.{relation_in, pattern_turn, constrained, related, after_field, grouped, part, part_by, element, pattern}
use Rattle.sl_parse_grammar.specs.Reader.{Input, left, first, unsupported, Fault, fault, Outcome, and_then, ◌>>=◌, ◌>>◌, pure, next, enter, expect, is_mark, look}
use Rattle.sl_parse_grammar.proofs.Keeps.{keeps_pattern}
use Rattle.sl_parse_grammar.proofs.Measures.{pattern_cost_is}
use Rattle.sl_parse_grammar.proofs.PartRules.{Free}
use Rattle.sl_parse_grammar.proofs.PatternComplete.{Climbs}
use Rattle.sl_parse_grammar.proofs.PatternSound as ps
use Rattle.sl_parse_grammar.proofs.Taken.{look_ok, mark_first, took_next}
use Rattle.sl_parse_faults.proofs.Closes.{AllKeep, Mended, Part, Closes, mended_at, closes_then, closes_pure, closes_enter, same_error}
use Rattle.sl_parse_faults.proofs.Goes.{Goes, one_more, place, at_place}
use Rattle.sl_parse_faults.proofs.Leaves.{keeps_one, mended_refused, part_mark, spell_mark}
use Rattle.sl_parse_faults.proofs.MendExpressions.{Spent, Fits, nothing_keeps, expression_part, expression_mends}
use Rattle.sl_parse_faults.proofs.PartLists.{mended_as}
use Rattle.sl_parse_faults.specs.Forms.{other}

-- a pattern that binds at the rank or tighter, and has its place in the room
pub record PatternFits (extra room n spent : ℕ) (p : Pattern) : Type 0 where
  pub binds : PatternBinds p
  pub low : pattern_rank p ≤ n
  pub few : spent + pattern_weight p ≤ extra + room

abbrev pub MendedPattern : ℕ → ℕ → ℕ → ℕ → List Sym → Fault → Type 0
MendedPattern extra room n spent xs e = Mended extra spell_pattern (PatternFits extra room n spent) xs e

abbrev pub MendsPattern : ℕ → ℕ → ℕ → Type 0
MendsPattern extra most k = (room n spent : ℕ) → room ≤ most → room < spent + k → (i : Input) → Spent room spent i → (e : Fault) → pattern most k n i ≡ Err e → MendedPattern extra room n spent i.rest e

pub all_patterns_keep : (extra : ℕ) (p : Pattern) → AllKeep extra (spell_pattern p)
all_patterns_keep extra p form n = keeps_pattern (Goes extra form n) (one_more extra form n) p

-- the shortest pattern
short_fits : (extra room n spent : ℕ) (w : Name) → spent ≤ extra + room → PatternFits extra room n spent (bare w)
short_fits extra room n spent w h = record { binds = tt; low = omega arith; few = omega (arith, h) }

read_fits : (extra room n spent : ℕ) (i j : Input) (p : Pattern) → Spent room spent i → ps.Reads n i p j → PatternFits extra room n spent p
read_fits extra room n spent i j p here read =
    let counted = read.room in
    let costs_so = pattern_cost_is p j.room in
    record { binds = read.binds; low = read.low; few = omega (arith, counted, costs_so, here) }

read_next : (room n spent : ℕ) (i j : Input) (p : Pattern) → Spent room spent i → ps.Reads n i p j → Spent room (spent + pattern_weight p) j
read_next room n spent i j p here read =
    let counted = read.room in
    let costs_so = pattern_cost_is p j.room in
    omega (arith, counted, costs_so, here)

pattern_part : (extra most k : ℕ) → MendsPattern extra most k → (room n spent : ℕ) → room ≤ most → room < spent + k → spent ≤ extra + room
    → Part extra spell_pattern (PatternFits extra room n spent) (Spent room spent) (λ p j. Spent room (spent + pattern_weight p) j) (pattern most k n)
pattern_part extra most k mends room n spent within fuel less = record {
  sound = λ i j p here h. (let read = ps.sound most k n i j p h in record { tokens = read.tokens; good = read_fits extra room n spent i j p here read });
  next = λ i j p here h. read_next room n spent i j p here (ps.sound most k n i j p h);
  keeps = λ p. all_patterns_keep extra p;
  short = bare other;
  short_good = short_fits extra room n spent other less;
  mends = λ i here e h. mends room n spent within fuel i here e h;
}

-- ---- what stands for `...` where a part is due

abbrev stands_for_part : ℕ → Pattern
stands_for_part zero = bare other
stands_for_part (suc n) = ellipsis (bare other)

part_fits : (extra room spent : ℕ) → spent ≤ room → PatternFits extra room 0 spent (stands_for_part extra)
part_fits zero room spent less = short_fits 0 room 0 spent other (omega (arith, less))
part_fits (suc n) room spent less = record { binds = (refl, tt); low = omega arith; few = omega (arith, less) }

dots_go : (extra : ℕ) (i : Input) (rest : List Sym) → first i.rest ≡ Some (mark m.Ellipsis)
    → Goes extra (unsupported f.LeadingEllipsis 0) (place extra (fault (unsupported f.LeadingEllipsis 0) (left i))) i.rest (spell_pattern (stands_for_part extra) rest)
dots_go zero i rest starts = at_place refl (name other ∷ rest, refl) tt
dots_go (suc n) i rest starts = at_place (omega arith) (rest, refl) starts

-- ---- parts

module _ (extra most k : ℕ) (mends : MendsPattern extra most k) (room spent : ℕ) (within : room ≤ most) (fuel : room < suc spent + k) (less : spent ≤ extra + room) where
  constrained_closes : (w : Name) (rel : Relation)
      → Closes extra spell_pattern (PatternFits extra room 0 spent) (λ rest. name w ∷ rest) (λ i. (first i.rest ≡ Some (mark (relation_mark rel))) × Spent room spent i) (constrained most w rel)
  unfolding constrained
  constrained_closes w rel =
      closes_enter extra spell_pattern (PatternFits extra room 0 spent) (λ rest. name w ∷ rest) spent room (mark (relation_mark rel)) _ (bare w) (short_fits extra room 0 spent w less) (λ rest. rest) (λ rest. refl)
      (keeps_one extra (name w))
      (λ room_left. closes_then extra spell_expression (Fits extra room in_constraint loosest (suc spent)) (Spent room (suc spent)) _ (expression in_constraint (suc most) loosest) spell_pattern
      (PatternFits extra room 0 spent) (λ rest. name w ∷ mark (relation_mark rel) ∷ rest) _
      (expression_part extra in_constraint (suc most) (expression_mends extra in_constraint (suc most)) room loosest (suc spent) (omega (arith, within)) room_left)
      (λ form n xs ys h. one_more extra form n _ _ _ (one_more extra form n _ xs ys h))
      (λ e good keeps. (let few = good.few in closes_pure extra spell_pattern (PatternFits extra room 0 spent) _ _ (constraint w rel e)
      (record { binds = good.binds; low = omega arith; few = omega (arith, few) }) (λ rest. refl))))

  grouped_closes : Closes extra spell_pattern (PatternFits extra room 0 spent) (λ rest. rest) (λ i. (first i.rest ≡ Some (mark m.Open)) × Spent room spent i) (grouped (pattern most k))
  unfolding grouped
  grouped_closes =
      closes_enter extra spell_pattern (PatternFits extra room 0 spent) (λ rest. rest) spent room (mark m.Open) _ (bare other) (short_fits extra room 0 spent other less) (λ rest. name other ∷ rest) (λ rest. refl)
      (nothing_keeps extra)
      (λ room_left. closes_then extra spell_pattern (PatternFits extra room pattern_loosest (suc spent)) (Spent room (suc spent)) _ (pattern most k pattern_loosest) spell_pattern (PatternFits extra room 0 spent)
      (λ rest. mark m.Open ∷ rest) _ (pattern_part extra most k mends room pattern_loosest (suc spent) within fuel room_left) (keeps_one extra (mark m.Open))
      (λ p good keeps. closes_then extra (spell_mark m.Close) Free _ _ (expect m.Close) spell_pattern (PatternFits extra room 0 spent) _ _
      (part_mark extra (λ r. suc spent + pattern_weight p + r ≡ room) m.Close) keeps
      (λ u fine more. (let few = good.few in closes_pure extra spell_pattern (PatternFits extra room 0 spent) _ _ (group p)
      (record { binds = good.binds; low = omega arith; few = omega (arith, few) }) (λ rest. refl)))))

module _ (extra most k : ℕ) (mends : MendsPattern extra most k) (room : ℕ) (within : room ≤ most) where
  abbrev Mends : ℕ → ℕ → List Sym → Fault → Type 0
  Mends n spent xs e = MendedPattern extra room n spent xs e

  related_mended : (spent : ℕ) → room < suc spent + k → (w : Name) (i j : Input) → Spent room spent j → i.rest ≡ name w ∷ j.rest → (x : Option Relation) → relation_in (first j.rest) ≡ x → (e : Fault)
      → related most w x j ≡ Err e → Mends 0 spent i.rest e
  related_mended spent fuel w i j here same None is e h = absurd (cc)
  related_mended spent fuel w i j here same (Some rel) is e h =
      mended_at extra spell_pattern (PatternFits extra room 0 spent) i.rest _ e same
      ((constrained_closes extra most k mends room spent within fuel (omega (arith, here)) w rel).mend j (ps.relation_is (first j.rest) rel is, here) e h)

  after_field_mended : (spent : ℕ) → room < suc spent + k → (w : Name) (i j : Input) → Spent room spent j → i.rest ≡ name w ∷ j.rest → (e : Fault) → after_field most w j ≡ Err e → Mends 0 spent i.rest e
  unfolding after_field
  after_field_mended spent fuel w i j here same e h = related_mended spent fuel w i j here same (relation_in (first j.rest)) refl e h

  part_by_mended : (o : Option Sym) (spent : ℕ) → room < suc spent + k → (i : Input) → Spent room spent i → first i.rest ≡ o → (e : Fault) → part_by most (pattern most k) o i ≡ Err e → Mends 0 spent i.rest e
  part_by_mended (Some (word (plain w))) spent fuel i here starts e h = after_field_mended spent fuel w i (next i) here (took_next i (name w) starts).tokens e h
  part_by_mended (Some (mark m.Open)) spent fuel i here starts e h = (grouped_closes extra most k mends room spent within fuel (omega (arith, here))).mend i (starts, here) e h
  part_by_mended (Some (mark m.Ellipsis)) spent fuel i here starts e h =
      subst (λ y. Mends 0 spent i.rest y) (same_error (fault (unsupported f.LeadingEllipsis 0) (left i)) e h) (record {
        tree = stands_for_part extra;
        good = part_fits extra room spent (omega (arith, here));
        goes = λ rest. dots_go extra i rest starts;
      })
  part_by_mended o spent fuel i here starts e h =
      mended_refused extra spell_pattern (PatternFits extra room 0 spent) (bare other) (short_fits extra room 0 spent other (omega (arith, here))) i e h

  -- `...` behind a part
  dots_closes : (spent : ℕ) (p : Pattern) → PatternFits extra room 0 spent p → takes_ellipsis p ≡ true
      → Closes extra spell_pattern (PatternFits extra room 0 spent) (λ rest. spell_pattern p rest) (λ i. (first i.rest ≡ Some (mark m.Ellipsis)) × Spent room (spent + pattern_weight p) i) (enter >> pure (ellipsis p))
  dots_closes spent p fits takes =
      closes_enter extra spell_pattern (PatternFits extra room 0 spent) (λ rest. spell_pattern p rest) (spent + pattern_weight p) room (mark m.Ellipsis) _ p fits (λ rest. rest) (λ rest. refl) (all_patterns_keep extra p)
      (λ room_left. closes_pure extra spell_pattern (PatternFits extra room 0 spent) _ _ (ellipsis p) (record { binds = (takes, fits.binds); low = omega arith; few = omega (arith, room_left) }) (λ rest. refl))

  element_then : (spent : ℕ) → room < suc spent + k → (i : Input) → Spent room spent i → (e : Fault) (o : Outcome Pattern) → part_by most (pattern most k) (first i.rest) i ≡ o
      → and_then o (λ p. look (is_mark m.Ellipsis) (enter >> pure (ellipsis p)) (pure p)) ≡ Err e → Mends 0 spent i.rest e
  element_then spent fuel i here e (Ok x) is h =
      let p = x.0 in
      let j = x.1 in
      let got = ps.part_by_ok most (pattern most k) (λ n. ps.sound most k n) i j p (first i.rest) refl is in
      let read = got.read in
      elim (look_ok (is_mark m.Ellipsis) _ _ j (Err e) h) [
        | inl g ↦ mended_at extra spell_pattern (PatternFits extra room 0 spent) i.rest _ e read.tokens
            ((dots_closes spent p (read_fits extra room 0 spent i j p here read) got.takes).mend j (mark_first m.Ellipsis (first j.rest) g.0, read_next room 0 spent i j p here read) e g.1)
        | inr g ↦ absurd (let y = g.1 in cc)
      ]
  element_then spent fuel i here e (Err d) is h = subst (λ y. Mends 0 spent i.rest y) (same_error d e h) (part_by_mended (first i.rest) spent fuel i here refl d is)

  element_mended : (spent : ℕ) → room < suc spent + k → (i : Input) → Spent room spent i → (e : Fault) → element most (pattern most k) i ≡ Err e → Mends 0 spent i.rest e
  unfolding element part
  element_mended spent fuel i here e h = element_then spent fuel i here e (part_by most (pattern most k) (first i.rest) i) refl h

  -- ---- operators of two patterns

  turned_mended : (n m' spent : ℕ) → room < suc spent + k → (l : Pattern) → PatternFits extra room n spent l
      → ((l : Pattern) → PatternFits extra room n spent l → (i : Input) → Spent room (spent + pattern_weight l) i → (e : Fault) → Climbs most k n m' l i ≡ Err e → Mends n spent (spell_pattern l i.rest) e)
      → (i : Input) → Spent room (spent + pattern_weight l) i → (e : Fault) (x : Option PatternOp) → pattern_turn n l (first i.rest) ≡ x
      → turned (λ op. enter >> (pattern most k (pattern_right_rank op) >>= (λ r. Climbs most k n m' (joined op l r)))) l x i ≡ Err e → Mends n spent (spell_pattern l i.rest) e
  turned_mended n m' spent fuel l fits later i here e None is h = absurd (cc)
  turned_mended n m' spent fuel l fits later i here e (Some op) is h =
      let may = ps.turn_ok n l (first i.rest) op is in
      let closes = closes_enter extra spell_pattern (PatternFits extra room n spent) (λ rest. spell_pattern l rest) (spent + pattern_weight l) room (mark (pattern_mark op)) _ l fits (λ rest. rest) (λ rest. refl)
      (all_patterns_keep extra l)
      (λ room_left. closes_then extra spell_pattern (PatternFits extra room (pattern_right_rank op) (suc (spent + pattern_weight l))) (Spent room (suc (spent + pattern_weight l))) _
      (pattern most k (pattern_right_rank op)) spell_pattern (PatternFits extra room n spent) (λ rest. spell_pattern l (mark (pattern_mark op) ∷ rest)) (λ r. Climbs most k n m' (joined op l r))
      (pattern_part extra most k mends room (pattern_right_rank op) (suc (spent + pattern_weight l)) within (omega (arith, fuel)) room_left)
      (λ form c xs ys g. all_patterns_keep extra l form c _ _ (one_more extra form c (mark (pattern_mark op)) xs ys g))
      (λ r good keeps. (
      let few = good.few in
      let le = may.1.le in
      let whole : PatternFits extra room n spent (joined op l r) =
      record { binds = (may.1.low, good.low, fits.binds, good.binds); low = omega (arith, le); few = omega (arith, few) } in
      record {
        whole = joined op l r;
        good = whole;
        tail = λ rest. rest;
        spells = λ rest. refl;
        mend = λ j there d g. later (joined op l r) whole j (omega (arith, there)) d g;
      }))) in
      closes.mend i (may.0, here) e h

  climb_mended : (m' n spent : ℕ) → room < suc spent + k → (l : Pattern) → PatternFits extra room n spent l → (i : Input) → Spent room (spent + pattern_weight l) i → (e : Fault) → Climbs most k n m' l i ≡ Err e
      → Mends n spent (spell_pattern l i.rest) e
  unfolding climb
  climb_mended zero n spent fuel l fits i here e h = absurd (cc)
  climb_mended (suc m') n spent fuel l fits i here e h =
      turned_mended n m' spent fuel l fits (λ d good j there g y. climb_mended m' n spent fuel d good j there g y) i here e (pattern_turn n l (first i.rest)) refl h

  grown_then : (n spent : ℕ) → room < suc spent + k → (i : Input) → Spent room spent i → (e : Fault) (o : Outcome Pattern) → element most (pattern most k) i ≡ o
      → and_then o (λ l j. Climbs most k n (suc j.room) l j) ≡ Err e → Mends n spent i.rest e
  grown_then n spent fuel i here e (Ok x) is h =
      let l = x.0 in
      let j = x.1 in
      let read = ps.element_ok most (pattern most k) (λ n. ps.sound most k n) i j l is in
      let fits = read_fits extra room 0 spent i j l here read in
      let low = fits.low in
      mended_at extra spell_pattern (PatternFits extra room n spent) i.rest _ e read.tokens
      (climb_mended (suc j.room) n spent fuel l (record { binds = fits.binds; low = omega (arith, low); few = fits.few }) j (read_next room 0 spent i j l here read) e h)
  grown_then n spent fuel i here e (Err d) is h =
      mended_as extra spell_pattern (PatternFits extra room 0 spent) spell_pattern (PatternFits extra room n spent) (λ a. a) i.rest d e (same_error d e h)
      (λ a good. (let low = good.low in record { binds = good.binds; low = omega (arith, low); few = good.few })) (λ a rest. refl) (element_mended spent fuel i here d is)

-- A pattern can be completed wherever its reader refuses.
pub pattern_mends : (extra most k : ℕ) → MendsPattern extra most k
unfolding pattern
pattern_mends extra most zero room n spent within fuel i here e h = absurd (omega (arith, here, fuel))
pattern_mends extra most (suc k) room n spent within fuel i here e h =
    grown_then extra most k (pattern_mends extra most k) room within n spent (omega (arith, fuel)) i here e (element most (pattern most k) i) refl h
