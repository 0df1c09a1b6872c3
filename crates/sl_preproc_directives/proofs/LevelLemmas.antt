-- Conditions that are read with a stack of levels.
use Rattle.std.proofs.Common.{◌≡◌, ℕ, suc, ◌-◌, ◌<◌, ◌≤◌, Bool, true, false, not, List, [], ◌∷◌, length, Option, Some, None, codes, arith, refl, sym, ap, subst, ◌∙◌}
use Rattle.std.specs.Prelude.{option_map}
use Rattle.sl_preproc_directives.specs.Parts.{◌>>=◌, mark_at, is_ended}
use Rattle.sl_preproc_directives.specs.Definitions.{Values}
use Rattle.sl_preproc_directives.specs.Conditions.{Verdict, turned, joined, tight_at, loose_at, chain_at, level_at, both_levels, unary_at, grouped_at, closed_at, simple_at, condition_at, condition, under_not}
use Rattle.sl_preproc_directives.specs.Levels.{Read, new_level, flipped, signed, product, whole, tight_next, loose_next, Room, IsEnough, onward, closed, Resumes, IsReading, IsBehind, EndsLevel, GoesOn, Leaves}
use Rattle.sl_preproc_directives.specs.declared.condition.Level.{Level}
use Rattle.sl_preproc_directives.specs.declared.condition.Step.{Step}
use Rattle.sl_preproc_directives.specs.declared.condition.Step.TheVariants.{Operand, Whole, Malformed}
use Rattle.sl_preproc_directives.specs.declared.condition.Operator.{Operator}
use Rattle.sl_preproc_directives.specs.declared.condition.Operator.TheVariants.{Or}

-- ---- room

fewer : (m n : ℕ) (room : Room) → m ≤ n → IsEnough n room → IsEnough m room
fewer m n room le h = record { depth = omega (arith, h.depth); tight = omega (arith, h.tight); loose = omega (arith, h.loose) }

pub weaker : (defs : Values) (ls : List Level) (m n : ℕ) (read total : Read) → m ≤ n → Resumes defs ls n read total → Resumes defs ls m read total
unfolding Resumes
weaker defs [] m n read total le h = h
weaker defs (l ∷ ls) m n read total le h = (h.0, fewer m n h.0 le h.1, weaker defs ls m n (onward defs h.0 l (closed read)) total le h.2)

alike : (depth : ℕ) → Room
alike depth = record { depth = depth; tight = depth; loose = depth }

alike_enough : (n depth : ℕ) → n < depth → IsEnough n (alike depth)
unfolding alike
alike_enough n depth h = record { depth = h; tight = h; loose = h }

-- ---- what the definition says of each step

module _ (defs : Values) where
  pub fails : (ls : List Level) (n : ℕ) (total : Read) → Resumes defs ls n None total → total ≡ None
  unfolding Resumes
  fails [] n total h = sym h
  fails (l ∷ ls) n total h = fails ls n total h.2

  begins : (depth : ℕ) (s : List ℕ) (read : Read) → unary_at defs depth s ≡ read
      → both_levels (unary_at defs depth) depth s ≡ onward defs (alike depth) new_level read
  unfolding both_levels level_at alike
  begins depth s None h = rw h refl
  begins depth s (Some u) h = rw h refl

  whole_begins : (depth : ℕ) (s : List ℕ) → onward defs (alike depth) new_level (unary_at defs depth s) ≡ both_levels (unary_at defs depth) depth s
  whole_begins depth s = sym (begins depth s (unary_at defs depth s) refl)

  pub reading_begins : (s : List ℕ) → IsReading defs new_level [] s (condition_at defs (suc (length s)) s)
  unfolding Resumes
  reading_begins s = record {
    room = alike (suc (length s));
    depth = suc (length s);
    deep = omega arith;
    enough = alike_enough (length s) (suc (length s)) (omega arith);
    resumes = whole_begins (suc (length s)) s;
  }

  not_twice : (v : Verdict) → turned (turned v) ≡ v
  not_twice None = refl
  not_twice (Some true) = refl
  not_twice (Some false) = refl

  signed_turned : (negated : Bool) (v : Verdict) → signed negated (turned v) ≡ signed (not negated) v
  signed_turned true v = not_twice v
  signed_turned false v = refl

  where_not : (room : Room) (l : Level) (read : Read) → onward defs room l (under_not read) ≡ onward defs room (flipped l) read
  where_not room l None = refl
  where_not room l (Some u) = ap (λ (v : Verdict). (chain_at tight_at (unary_at defs room.depth) room.tight (joined l.operator l.left v) u.1)
      >>= λ t. chain_at loose_at (level_at tight_at (unary_at defs room.depth) room.depth) room.loose (joined Or l.either t.0) t.1) (signed_turned l.negated u.0)

  module _ (l : Level) (ls : List Level) (s : List ℕ) (total : Read) where
    pub reads_not : (operand : List ℕ) → mark_at (codes "!") s ≡ Some operand → length operand < length s → IsReading defs l ls s total → IsReading defs (flipped l) ls operand total
    unfolding unary_at
    reads_not operand h shorter r =
        let k : r.depth ≡ suc (r.depth - 1) = omega (arith, r.deep) in
        let one : unary_at defs (suc (r.depth - 1)) s ≡ under_not (unary_at defs (r.depth - 1) operand) = rw h refl in
        let e : onward defs r.room l (unary_at defs r.depth s) ≡ onward defs r.room (flipped l) (unary_at defs (r.depth - 1) operand) =
        ap (λ (u : Read). onward defs r.room l u) (ap (λ (n : ℕ). unary_at defs n s) k ∙ one) ∙ where_not r.room l (unary_at defs (r.depth - 1) operand) in
        record {
          room = r.room;
          depth = r.depth - 1;
          deep = omega (arith, r.deep);
          enough = fewer (length operand) (length s) r.room (omega arith) r.enough;
          resumes = weaker defs ls (length operand) (length s) _ total (omega arith) (subst (λ (u : Read). Resumes defs ls (length s) u total) e r.resumes);
        }

    pub reads_group : (inside : List ℕ) → mark_at (codes "!") s ≡ None → mark_at (codes "(") s ≡ Some inside → length inside < length s → IsReading defs l ls s total
        → IsReading defs new_level (l ∷ ls) inside total
    unfolding unary_at grouped_at closed_at Resumes
    reads_group inside bare h shorter r =
        let k : r.depth ≡ suc (r.depth - 1) = omega (arith, r.deep) in
        let one : unary_at defs (suc (r.depth - 1)) s ≡ closed (both_levels (unary_at defs (r.depth - 1)) (r.depth - 1) inside) = rw (bare, h) refl in
        let e : unary_at defs r.depth s ≡ closed (onward defs (alike (r.depth - 1)) new_level (unary_at defs (r.depth - 1) inside)) =
        ap (λ (n : ℕ). unary_at defs n s) k ∙ one ∙ ap closed (sym (whole_begins (r.depth - 1) inside)) in
        record {
          room = alike (r.depth - 1);
          depth = r.depth - 1;
          deep = omega (arith, r.deep);
          enough = alike_enough (length inside) (r.depth - 1) (omega (arith, r.deep));
          resumes = (
            r.room,
            fewer (length inside) (length s) r.room (omega arith) r.enough,
            weaker defs ls (length inside) (length s) _ total (omega arith) (subst (λ (u : Read). Resumes defs ls (length s) (onward defs r.room l u) total) e r.resumes),
          );
        }

    is_simple : mark_at (codes "!") s ≡ None → mark_at (codes "(") s ≡ None → (r : IsReading defs l ls s total) → unary_at defs r.depth s ≡ simple_at defs s
    unfolding unary_at grouped_at
    is_simple bare none r =
        let k : r.depth ≡ suc (r.depth - 1) = omega (arith, r.deep) in
        let one : unary_at defs (suc (r.depth - 1)) s ≡ simple_at defs s = rw (bare, none) refl in
        ap (λ (n : ℕ). unary_at defs n s) k ∙ one

    pub reads_simple : (verdict : Verdict) (rest : List ℕ) → mark_at (codes "!") s ≡ None → mark_at (codes "(") s ≡ None → simple_at defs s ≡ Some (verdict, rest) → length rest ≤ length s
        → IsReading defs l ls s total → IsBehind defs l ls verdict rest total
    reads_simple verdict rest bare none h within r =
        let e : unary_at defs r.depth s ≡ Some (verdict, rest) = is_simple bare none r ∙ h in
        record {
          room = r.room;
          enough = fewer (length rest) (length s) r.room within r.enough;
          resumes = weaker defs ls (length rest) (length s) _ total within (subst (λ (u : Read). Resumes defs ls (length s) (onward defs r.room l u) total) e r.resumes);
        }

    pub reads_none : mark_at (codes "!") s ≡ None → mark_at (codes "(") s ≡ None → simple_at defs s ≡ None → IsReading defs l ls s total → total ≡ None
    reads_none bare none h r =
        let e : unary_at defs r.depth s ≡ None = is_simple bare none r ∙ h in
        fails ls (length s) total (subst (λ (u : Read). Resumes defs ls (length s) (onward defs r.room l u) total) e r.resumes)

  -- ---- behind an operand

  module _ (l : Level) (verdict : Verdict) (s : List ℕ) where
    tight_from : (room : Room) (n : ℕ) (operator : Operator) (rest : List ℕ) (read : Read) → tight_at s ≡ Some (operator, rest) → unary_at defs room.depth rest ≡ read → room.tight ≡ suc n
        → onward defs room l (Some (verdict, s)) ≡ onward defs (record { depth = room.depth; tight = n; loose = room.loose }) (tight_next l verdict operator) read
    unfolding chain_at
    tight_from room n operator rest None h e k = rw (k, h, e) refl
    tight_from room n operator rest (Some u) h e k = rw (k, h, e) refl

    loose_from : (room : Room) (n m : ℕ) (rest : List ℕ) (read : Read) → tight_at s ≡ None → loose_at s ≡ Some (Or, rest) → unary_at defs room.depth rest ≡ read
        → room.tight ≡ suc m → room.loose ≡ suc n
        → onward defs room l (Some (verdict, s)) ≡ onward defs (record { depth = room.depth; tight = room.depth; loose = n }) (loose_next l verdict) read
    unfolding chain_at level_at
    loose_from room n m rest None bare h e k j = rw (k, bare, j, h, e) refl
    loose_from room n m rest (Some u) bare h e k j = rw (k, bare, j, h, e) refl

    ends_from : (room : Room) (n m : ℕ) → tight_at s ≡ None → loose_at s ≡ None → room.tight ≡ suc m → room.loose ≡ suc n
        → onward defs room l (Some (verdict, s)) ≡ Some (whole l verdict, s)
    unfolding chain_at
    ends_from room n m bare none k j = rw (k, bare, j, none) refl

    module _ (ls : List Level) (total : Read) (b : IsBehind defs l ls verdict s total) where
      behind_tight : (operator : Operator) (rest : List ℕ) → tight_at s ≡ Some (operator, rest) → length rest < length s → IsReading defs (tight_next l verdict operator) ls rest total
      behind_tight operator rest h shorter =
          let k : b.room.tight ≡ suc (b.room.tight - 1) = omega (arith, b.enough.tight) in
          record {
            room = record { depth = b.room.depth; tight = b.room.tight - 1; loose = b.room.loose };
            depth = b.room.depth;
            deep = omega (arith, b.enough.depth);
            enough = record { depth = omega (arith, b.enough.depth); tight = omega (arith, b.enough.tight); loose = omega (arith, b.enough.loose) };
            resumes = weaker defs ls (length rest) (length s) _ total (omega arith)
                (subst (λ (u : Read). Resumes defs ls (length s) u total) (tight_from b.room (b.room.tight - 1) operator rest (unary_at defs b.room.depth rest) h refl k) b.resumes);
          }

      behind_loose : (rest : List ℕ) → tight_at s ≡ None → loose_at s ≡ Some (Or, rest) → length rest < length s → IsReading defs (loose_next l verdict) ls rest total
      behind_loose rest bare h shorter =
          let k : b.room.tight ≡ suc (b.room.tight - 1) = omega (arith, b.enough.tight) in
          let j : b.room.loose ≡ suc (b.room.loose - 1) = omega (arith, b.enough.loose) in
          record {
            room = record { depth = b.room.depth; tight = b.room.depth; loose = b.room.loose - 1 };
            depth = b.room.depth;
            deep = omega (arith, b.enough.depth);
            enough = record { depth = omega (arith, b.enough.depth); tight = omega (arith, b.enough.depth); loose = omega (arith, b.enough.loose) };
            resumes = weaker defs ls (length rest) (length s) _ total (omega arith)
                (subst (λ (u : Read). Resumes defs ls (length s) u total) (loose_from b.room (b.room.loose - 1) (b.room.tight - 1) rest (unary_at defs b.room.depth rest) bare h refl k j) b.resumes);
          }

      behind_end : tight_at s ≡ None → loose_at s ≡ None → Resumes defs ls (length s) (Some (whole l verdict, s)) total
      behind_end bare none =
          let k : b.room.tight ≡ suc (b.room.tight - 1) = omega (arith, b.enough.tight) in
          let j : b.room.loose ≡ suc (b.room.loose - 1) = omega (arith, b.enough.loose) in
          subst (λ (u : Read). Resumes defs ls (length s) u total) (ends_from b.room (b.room.loose - 1) (b.room.tight - 1) bare none k j) b.resumes

  -- ---- behind a level

  pub closes : (l : Level) (ls : List Level) (verdict : Verdict) (s rest : List ℕ) (total : Read) → mark_at (codes ")") s ≡ Some rest → length rest ≤ length s
      → Resumes defs (l ∷ ls) (length s) (Some (verdict, s)) total → IsBehind defs l ls verdict rest total
  unfolding Resumes
  closes l ls verdict s rest total h within r =
      let e : closed (Some (verdict, s)) ≡ Some (verdict, rest) = rw h refl in
      record {
        room = r.0;
        enough = fewer (length rest) (length s) r.0 within r.1;
        resumes = weaker defs ls (length rest) (length s) _ total within (subst (λ (u : Read). Resumes defs ls (length s) (onward defs r.0 l u) total) e r.2);
      }

  pub stays_open : (l : Level) (ls : List Level) (verdict : Verdict) (s : List ℕ) (total : Read) → mark_at (codes ")") s ≡ None
      → Resumes defs (l ∷ ls) (length s) (Some (verdict, s)) total → total ≡ None
  unfolding Resumes
  stays_open l ls verdict s total h r =
      let e : closed (Some (verdict, s)) ≡ None = rw h refl in
      fails ls (length s) total (subst (λ (u : Read). Resumes defs ls (length s) (onward defs r.0 l u) total) e r.2)

  pub ends : (n : ℕ) (read total : Read) → Resumes defs [] n read total → total ≡ read
  unfolding Resumes
  ends n read total h = sym h

  module _ (s : List ℕ) where
    pub is_condition : (verdict : Verdict) (rest : List ℕ) → condition_at defs (suc (length s)) s ≡ Some (verdict, rest) → is_ended rest ≡ true → Some verdict ≡ condition defs s
    unfolding condition
    is_condition verdict rest h e = rw (h, e) refl

    pub goes_past : (verdict : Verdict) (rest : List ℕ) → condition_at defs (suc (length s)) s ≡ Some (verdict, rest) → is_ended rest ≡ false → None ≡ condition defs s
    unfolding condition
    goes_past verdict rest h e = rw (h, e) refl

    pub is_malformed : condition_at defs (suc (length s)) s ≡ None → None ≡ condition defs s
    unfolding condition
    is_malformed h = rw h refl

only_or : (read : Option (List ℕ)) (operator : Operator) (rest : List ℕ) → option_map {U = Operator × List ℕ} (λ (r : List ℕ). (Or, r)) read ≡ Some (operator, rest) → operator ≡ Or
only_or None operator rest h = absurd (cc)
only_or (Some r) operator rest h = let e : (Or, r) ≡ (operator, rest) = cc in sym (ap (λ (p : Operator × List ℕ). p.0) e)

loose_is_or : (s : List ℕ) (operator : Operator) (rest : List ℕ) → loose_at s ≡ Some (operator, rest) → loose_at s ≡ Some (Or, rest)
unfolding loose_at
loose_is_or s operator rest h = h ∙ ap (λ (o : Operator). Some (o, rest)) (only_or (mark_at (codes "||") s) operator rest h)

pub goes_tight : (l : Level) (verdict : Verdict) (s : List ℕ) (operator : Operator) (rest : List ℕ) (left : Verdict) → tight_at s ≡ Some (operator, rest) → length rest < length s
    → left ≡ product l verdict → GoesOn l verdict s (record { either = l.either; left = left; operator = operator; negated = false }) rest
goes_tight l verdict s operator rest left h shorter e = λ defs ls total b.
    subst (λ (v : Verdict). IsReading defs (record { either = l.either; left = v; operator = operator; negated = false }) ls rest total) (sym e) (behind_tight defs l verdict s ls total b operator rest h shorter)

pub goes_loose : (l : Level) (verdict : Verdict) (s : List ℕ) (operator : Operator) (rest : List ℕ) (either : Verdict) (fresh : Level) → tight_at s ≡ None → loose_at s ≡ Some (operator, rest)
    → length rest < length s → either ≡ whole l verdict → fresh ≡ new_level
    → GoesOn l verdict s (record { either = either; left = fresh.left; operator = fresh.operator; negated = fresh.negated }) rest
goes_loose l verdict s operator rest either fresh bare h shorter e f = λ defs ls total b.
    subst (λ (v : Verdict). IsReading defs (record { either = v; left = fresh.left; operator = fresh.operator; negated = fresh.negated }) ls rest total) (sym e)
    (subst (λ (n : Level). IsReading defs (record { either = whole l verdict; left = n.left; operator = n.operator; negated = n.negated }) ls rest total) (sym f)
    (behind_loose defs l verdict s ls total b rest bare (loose_is_or s operator rest h) shorter))

pub ends_level : (l : Level) (verdict : Verdict) (s : List ℕ) → tight_at s ≡ None → loose_at s ≡ None → EndsLevel l verdict s
ends_level l verdict s bare none = λ defs ls total b. behind_end defs l verdict s ls total b bare none

-- ---- as the loop closes levels

module _ (defs : Values) (around : List Level) (v w : Verdict) (s : List ℕ) (total : Read) (r : Resumes defs around (length s) (Some (v, s)) total) where
  pub closes_all : around ≡ [] → w ≡ v → total ≡ Some (w, s)
  closes_all h e =
      let one : total ≡ Some (v, s) = ends defs (length s) (Some (v, s)) total (subst (λ (ls : List Level). Resumes defs ls (length s) (Some (v, s)) total) h r) in
      one ∙ ap (λ (x : Verdict). let read : Read = Some (x, s) in read) (sym e)

  pub closes_none : (l : Level) (ls : List Level) → around ≡ l ∷ ls → mark_at (codes ")") s ≡ None → total ≡ None
  closes_none l ls h none = stays_open defs l ls v s total none (subst (λ (ls : List Level). Resumes defs ls (length s) (Some (v, s)) total) h r)

  pub closes_one : (l : Level) (ls : List Level) (rest : List ℕ) → around ≡ l ∷ ls → w ≡ v → mark_at (codes ")") s ≡ Some rest → length rest ≤ length s → IsBehind defs l ls w rest total
  closes_one l ls rest h e some within =
      subst (λ (x : Verdict). IsBehind defs l ls x rest total) (sym e)
      (closes defs l ls v s rest total some within (subst (λ (ls : List Level). Resumes defs ls (length s) (Some (v, s)) total) h r))

pub leaves_within : (defs : Values) (ls : List Level) (s text : List ℕ) (total : Read) (step : Step) → length s ≤ length text → Leaves defs ls s total step → Leaves defs ls text total step
leaves_within defs ls s text total (Operand l rest) within h = (h.0, omega (arith, h.1))
leaves_within defs ls s text total (Whole verdict rest) within h = h
leaves_within defs ls s text total Malformed within h = h
