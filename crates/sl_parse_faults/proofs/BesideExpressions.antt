-- Readers of expressions, in two readings side by side.
use Rattle.std.proofs.Common.{◌≡◌, ℕ, zero, suc, ◌+◌, ◌<◌, ◌≤◌, ◌⊎◌, inl, inr, Bool, true, false, cond, ◌&&◌, List, [], ◌∷◌, ◌++◌, length, Option, None, Some, refl, arith}
use Rattle.sl_ast.specs.Operators.{has_names, Kind, in_section, in_action, in_constraint, is_section, right_rank, loosest, takes_size, takes_bits, takes_drop, missing_function}
use Rattle.sl_ast.specs.Spelling.{name, keyword}
use Rattle.sl_ast.specs.Symbols.{plain, quoted, Sym, number, word, mark}
use Rattle.sl_ast.specs.Trees.{Name, Expression, integer, named, paren, call, sized, dropped, bits, prefix, star, binary}
use Rattle.sl_ast.specs.Views.{arguments}
use Rattle.sl_ast.specs.declared.expressions.PrefixOp.{PrefixOp}
use Rattle.sl_ast.specs.declared.expressions.PrefixOp.TheVariants as p
use Rattle.sl_ast.specs.declared.symbols.Feature.{Feature}
use Rattle.sl_ast.specs.declared.symbols.Feature.TheVariants as f
use Rattle.sl_ast.specs.declared.symbols.Keyword.TheVariants as k
use Rattle.sl_ast.specs.declared.symbols.Mark.{Mark}
use Rattle.sl_ast.specs.declared.symbols.Mark.TheVariants as m
use Rattle.sl_parse_grammar.specs.Climb.{climb, turned}
use Rattle.sl_parse_grammar.specs.Expressions.{turn, bracketed, called, called_by, after_name, name_in, missing_name_in, atom, atom_by, size_behind, drop_behind, bits_behind, behind, postfix, prefixed, space_in, starred, prefix_by, tight, expression}
use Rattle.sl_parse_grammar.specs.Reader.{Input, at, first, Outcome, Reader, and_then, ◌>>=◌, ◌>>◌, pure, unsupported, fault, enter, is_mark, same_mark}
use Rattle.sl_parse_faults.specs.Forms.{other}
use Rattle.sl_parse_faults.proofs.BesideSteps.{Pair, address, lone_name, lone_word, wide, opening, leading, calling, sizing, floating, lacking, Tells, Untaken, tilde, other_dots, bracket, dots, Firm, NoMore, Abreast, both_ok, told, told_here, past, stuck, apart, Begun, Beside, IsClosed, Closed, closed_pure, ends_then, ends_expect, then_no_more, weaker, goes_on, beside_at, begun_then, beside_then, beside_later, loose_then, begun_less, begun_loosen, beside_pure, begun_fault, begun_skips, begun_refuse, begun_peek, beside_peek, begun_if, look_none}
use Rattle.sl_parse_faults.proofs.BesideSymbols.{no_mark, look_mark, beside_expect, beside_integer, beside_name, beside_size, beside_optional, beside_size_option, enter_goes_on, enter_onward, begun_enters, fewer_rooms}
use Rattle.sl_parse_faults.proofs.BesideLists.{beside_separated}

-- ---- loops over operators

-- Neither symbol at the place is an operator that may follow, or the first reading can't go on.
abbrev pub Stops : {zs ys K W : List Sym} {A Op : Type 0} → Pair zs ys K W → Bool → (A → Option Sym → Option Op) → Type 0
Stops {zs} {ys} {K} {W} h b step = ((l : _) → step l (first K) ≡ None) × (((l : _) → step l (first W) ≡ None) ⊎ (Tells h × Untaken zs b K))

turned_closed : {A Op : Type 0} (zs : List Sym) (b : Bool) (go : Op → Reader A) (l : A) (o : Option Op) (xs : List Sym) (r : ℕ) → o ≡ None → Untaken zs b xs → IsClosed (Untaken zs b) (turned go l o (at xs r))
turned_closed zs b go l None xs r e u = u
turned_closed zs b go l (Some op) xs r e u = absurd (cc)

module _ {zs ys K W : List Sym} (h : Pair zs ys K W) (more : ℕ) {A Op : Type 0} (step : A → Option Sym → Option Op) (right : Op → ℕ) (join : Op → A → A → A) (inner outer : ℕ → Reader A)
    (b : Bool) (stops : Stops h b step) (leaves : (l : A) (xs : List Sym) → Untaken zs b xs → step l (first xs) ≡ None) (n : ℕ) (here : (rank : ℕ) → Beside h more (Untaken zs b) 1 n (inner rank) (outer rank)) where
  -- what the loop does behind an operator that may follow
  abbrev behind_one : (ℕ → Reader A) → (A → Reader A) → Op → A → Reader A
  behind_one reads later op l = reads (right op) >>= (λ x. later (join op l x))

  climb_closed : (rounds : ℕ) (l : A) → Closed (Untaken zs b) (Untaken zs b) (climb step right join inner rounds l)
  unfolding climb
  climb_closed zero l = closed_pure l
  climb_closed (suc rounds) l = record { closed = λ xs r u. turned_closed zs b (λ op. enter >> behind_one inner (climb step right join inner rounds) op l) l (step l (first xs)) xs r (leaves l xs u) u }

  turned_onward : (l : A) (later : A → Reader A) → ((x : A) (i : Input) → NoMore (length i.rest) (later x i)) → (o : Option Op) (i : Input)
      → NoMore (length i.rest) (turned (λ op. enter >> behind_one outer later op l) l o i)
  turned_onward l later goes None i = omega arith
  turned_onward l later goes (Some op) i =
      then_no_more (length i.rest) (enter i) (λ _. behind_one outer later op l) (λ _ j. then_no_more (length j.rest) (outer (right op) j) (λ x. later (join op l x))
      (λ x. goes (join op l x)) ((here (right op)).begun.onward j)) (enter_onward h more i i.room)

  climb_onward : (rounds : ℕ) (l : A) (i : Input) → NoMore (length i.rest) (climb step right join outer rounds l i)
  unfolding climb
  climb_onward zero l i = omega arith
  climb_onward (suc rounds) l i = turned_onward l (climb step right join outer rounds) (climb_onward rounds) (step l (first i.rest)) i

  turned_here : (l : A) (go to : Op → Reader A) (r : ℕ) (o p : Option Op) → o ≡ None → (p ≡ None) ⊎ (Tells h × Untaken zs b K)
      → Abreast h more (Untaken zs b) A zero zero r (turned go l o (at K (more + r))) (turned to l p (at W r))
  turned_here l go to r (Some op) p e g = absurd (cc)
  turned_here l go to r None None e g = both_ok l [] r (omega arith) (omega arith)
  turned_here l go to r None (Some op) e (inl g) = absurd (cc)
  turned_here l go to r None (Some op) e (inr g) = apart g.0 l (at K (more + r)) _ g.1

  turned_ahead : (l : A) (later after : A → Reader A) (x : Sym) (xs : List Sym) (r : ℕ) → r < suc n
      → ((x : A) (front : List Sym) (s : ℕ) → s < r → Abreast h more (Untaken zs b) A zero (length front) s (later x (at (front ++ K) (more + s))) (after x (at (front ++ W) s)))
      → ((x : A) → Closed (Untaken zs b) (Untaken zs b) (later x)) → ((x : A) (i : Input) → NoMore (length i.rest) (after x i)) → (o : Option Op)
      → Abreast h more (Untaken zs b) A zero (suc (length xs)) r (turned (λ op. enter >> behind_one inner later op l) l o (at (x ∷ (xs ++ K)) (more + r)))
      (turned (λ op. enter >> behind_one outer after op l) l o (at (x ∷ (xs ++ W)) r))
  turned_ahead l later after x xs r less goes closes onward None = both_ok l (x ∷ xs) r (omega arith) (omega arith)
  turned_ahead l later after x xs r less goes closes onward (Some op) =
      weaker h more 1 zero _ _ r r _ _ (λ d e. omega arith) (omega arith) (λ d y. y)
      (enter_goes_on h more (behind_one inner later op l) (behind_one outer after op l) x xs r (λ s e.
      goes_on h more 1 zero (length xs) s (inner (right op) (at (xs ++ K) (more + s))) (outer (right op) (at (xs ++ W) s)) (λ y. later (join op l y)) (λ y. after (join op l y))
      (λ y front t fits le. weaker h more zero zero (length front) (length xs) t s _ _ (λ d g. omega arith) le (λ d z. z) (goes (join op l y) front t (omega (arith, e))))
      (λ y. onward (join op l y)) (λ y. closes (join op l y)) (beside_at h more (inner (right op)) (outer (right op)) (here (right op)) xs s (omega (arith, e)))))

  -- each has more rounds than room
  climb_abreast : (c d : ℕ) (l : A) (xs : List Sym) (r : ℕ) → r < suc n → more + r < c → r < d
      → Abreast h more (Untaken zs b) A zero (length xs) r (climb step right join inner c l (at (xs ++ K) (more + r))) (climb step right join outer d l (at (xs ++ W) r))
  unfolding climb
  climb_abreast zero d l xs r less enough also = absurd (omega arith)
  climb_abreast (suc c) zero l xs r less enough also = absurd (omega arith)
  climb_abreast (suc c) (suc d) l [] r less enough also = turned_here l _ _ r (step l (first K)) (step l (first W)) (stops.0 l) (none_or (stops.1))
    where
      none_or : ((x : A) → step x (first W) ≡ None) ⊎ (Tells h × Untaken zs b K) → (step l (first W) ≡ None) ⊎ (Tells h × Untaken zs b K)
      none_or (inl g) = inl (g l)
      none_or (inr g) = inr g
  climb_abreast (suc c) (suc d) l (x ∷ xs) r less enough also =
      turned_ahead l (climb step right join inner c) (climb step right join outer d) x xs r less (λ y front s fewer. climb_abreast c d y front s (omega arith) (omega arith) (omega arith))
      (climb_closed c) (climb_onward d) (step l (Some x))

  pub beside_grown : (l : A) → Beside h more (Untaken zs b) zero (suc n) (λ i. climb step right join inner (suc i.room) l i) (λ i. climb step right join outer (suc i.room) l i)
  beside_grown l = record {
    begun = record { ahead = λ x xs r less. climb_abreast (suc (more + r)) (suc r) l (x ∷ xs) r less (omega arith) (omega arith); onward = λ i. climb_onward (suc i.room) l i };
    here = λ r less. climb_abreast (suc (more + r)) (suc r) l [] r less (omega arith) (omega arith);
  }

  pub closed_grown : (l : A) → Closed (Untaken zs b) (Untaken zs b) (λ i. climb step right join inner (suc i.room) l i)
  closed_grown l = record { closed = λ xs r u. (climb_closed (suc r) l).closed xs r u }

-- ---- expressions

and_false : (b c : Bool) → b ≡ false → (b && c) ≡ false
and_false true c e = absurd (cc)
and_false false c e = refl

module _ {zs ys K W : List Sym} (h : Pair zs ys K W) (more : ℕ) (kind : Kind) (inner outer : ℕ → Reader Expression) (n : ℕ) (here : (rank : ℕ) → Beside h more (Untaken zs (has_names kind)) 1 n (inner rank) (outer rank)) where
  bracketed_begun : Begun h more Firm 1 (suc n) (bracketed kind inner) (bracketed kind outer)
  unfolding bracketed
  bracketed_begun =
      begun_enters h more (loose_then h more (here loosest) (λ e. beside_then h more (beside_expect h more m.Close tt) (λ _. beside_pure h more (paren e)))
      (λ e. ends_then _ (ends_expect m.Close tt)))

  called_begun : (w : Name) → Begun h more Firm 1 (suc n) (called kind inner w) (called kind outer w)
  unfolding called
  called_begun w =
      begun_enters h more (loose_then h more (beside_separated h more (inner loosest) (outer loosest) (here loosest))
      (λ es. beside_then h more (beside_expect h more m.Close tt) (λ _. beside_pure h more (call w (arguments es)))) (λ es. ends_then _ (ends_expect m.Close tt)))

  called_by_begun : (w : Name) (x : Option Feature) → Begun h more Firm 1 (suc n) (called_by kind inner w x) (called_by kind outer w x)
  called_by_begun w None = called_begun w
  called_by_begun w (Some feature) = begun_fault h more (unsupported feature 1)

  after_name_beside : (w : Name) → Beside h more Firm zero (suc n) (after_name kind inner w) (after_name kind outer w)
  unfolding after_name
  after_name_beside w = look_mark h more m.Open tt (begun_less h more zero (omega arith) (called_by_begun w (missing_function w))) (beside_pure h more (named w))

  name_in_begun : (place : Kind) (w : Name) → Begun h more Firm 1 (suc n) (name_in kind inner place w) (name_in kind outer place w)
  name_in_begun in_section w = begun_skips h more (after_name_beside w)
  name_in_begun in_action w = begun_skips h more (beside_pure h more (named w))
  name_in_begun in_constraint w = begun_fault h more (unsupported f.NameInConstraint 0)

  missing_name_begun : (place : Kind) → Begun h more Firm 1 (suc n) (missing_name_in kind inner place) (missing_name_in kind outer place)
  missing_name_begun in_section = begun_refuse h more
  missing_name_begun in_action = begun_refuse h more
  missing_name_begun in_constraint = begun_fault h more (unsupported f.NameInConstraint 0)

  atom_by_begun : (o : Option Sym) → Begun h more Firm 1 (suc n) (atom_by kind inner o) (atom_by kind outer o)
  atom_by_begun (Some (number x)) = begun_skips h more (beside_pure h more (integer x))
  atom_by_begun (Some (word (plain w))) = name_in_begun kind w
  atom_by_begun (Some (word (quoted k.InstNext2))) = missing_name_begun kind
  atom_by_begun (Some (mark m.Open)) = bracketed_begun
  atom_by_begun o = begun_refuse h more

  atom_begun : Begun h more Firm 1 (suc n) (atom kind inner) (atom kind outer)
  unfolding atom
  atom_begun = begun_peek h more atom_by_begun

  size_behind_begun : (e : Expression) → Begun h more Firm 1 (suc n) (size_behind e) (size_behind e)
  unfolding size_behind
  size_behind_begun e = begun_skips h more (beside_then h more (beside_size h more) (λ x. beside_pure h more (sized e x)))

  drop_behind_begun : (e : Expression) → Begun h more Firm 1 (suc n) (drop_behind e) (drop_behind e)
  unfolding drop_behind
  drop_behind_begun e =
      begun_enters h more (beside_then h more (beside_integer h more) (λ x. beside_then h more (beside_expect h more m.Close tt) (λ _. beside_pure h more (dropped e x))))

  bits_behind_begun : (e : Expression) → Begun h more Firm 1 (suc n) (bits_behind e) (bits_behind e)
  unfolding bits_behind
  bits_behind_begun e =
      begun_enters h more (beside_then h more (beside_integer h more) (λ l. beside_then h more (beside_expect h more m.Comma tt)
      (λ _. beside_then h more (beside_integer h more) (λ c. beside_then h more (beside_expect h more m.CloseBracket tt) (λ _. beside_pure h more (bits e l c))))))

  look_and : {A : Type 0} (k : Mark) (b : Bool) {p q p' q' : Reader A} → (is_mark k (first K) ≡ false) × (is_mark k (first W) ≡ false) → Begun h more Firm 1 (suc n) p p' → Beside h more Firm zero (suc n) q q'
      → Beside h more Firm zero (suc n) (λ i. cond {A = Reader A} (is_mark k (first i.rest) && b) p q i) (λ i. cond {A = Reader A} (is_mark k (first i.rest) && b) p' q' i)
  look_and k b none there not_there =
      look_none h more (λ o. is_mark k o && b) (and_false (is_mark k (first K)) b none.0) (and_false (is_mark k (first W)) b none.1) (begun_less h more zero (omega arith) there) not_there

  behind_beside : (e : Expression) → Beside h more Firm zero (suc n) (behind e) (behind e)
  unfolding behind
  behind_beside e =
      look_and m.Colon (takes_size e) (no_mark h m.Colon tt) (size_behind_begun e)
      (look_and m.Open (takes_drop e) (no_mark h m.Open tt) (drop_behind_begun e)
      (look_and m.OpenBracket (takes_bits e) (no_mark h m.OpenBracket tt) (bits_behind_begun e) (beside_pure h more e)))

  tail_beside : (b : Bool) (e : Expression) → Beside h more Firm zero (suc n) (λ i. cond {A = Reader Expression} b (behind e) (pure e) i) (λ i. cond {A = Reader Expression} b (behind e) (pure e) i)
  tail_beside true e = behind_beside e
  tail_beside false e = beside_pure h more e

  postfix_begun : Begun h more Firm 1 (suc n) (postfix kind inner) (postfix kind outer)
  unfolding postfix
  postfix_begun = begun_then h more atom_begun (λ e. tail_beside (is_section kind) e)

  prefixed_begun : (op : PrefixOp) → Begun h more (Untaken zs (has_names kind)) 1 (suc n) (prefixed kind inner op) (prefixed kind outer op)
  unfolding prefixed
  prefixed_begun op = begun_enters h more (loose_then h more (here 0) (λ e. beside_pure h more (prefix op e)) (λ e. closed_pure (prefix op e)))

  space_beside : Beside h more Firm zero n space_in space_in
  unfolding space_in
  space_beside =
      beside_optional h more m.OpenBracket tt
      (fewer_rooms h more n (omega arith) (begun_enters h more {n = n} (loose_then h more (beside_name h more) (λ w. beside_then h more (beside_expect h more m.CloseBracket tt) (λ _. beside_pure h more w))
      (λ w. ends_then _ (ends_expect m.CloseBracket tt)))))

  starred_begun : Begun h more (Untaken zs (has_names kind)) 1 (suc n) (starred kind inner) (starred kind outer)
  unfolding starred
  starred_begun =
      begun_enters h more (beside_later h more space_beside (λ place. beside_later h more (beside_size_option h more)
      (λ width. loose_then h more (here 0) (λ e. beside_pure h more (star place width e)) (λ e. closed_pure (star place width e)))))

  prefix_by_begun : (o : Option Sym) → Begun h more (Untaken zs (has_names kind)) 1 (suc n) (prefix_by kind inner o) (prefix_by kind outer o)
  prefix_by_begun (Some (mark m.Minus)) = prefixed_begun p.Negate
  prefix_by_begun (Some (mark m.Tilde)) = prefixed_begun p.Complement
  prefix_by_begun (Some (mark m.Exclamation)) = begun_if h more (is_section kind) (prefixed_begun p.Not) (begun_refuse h more)
  prefix_by_begun (Some (mark m.Star)) = begun_if h more (is_section kind) starred_begun (begun_refuse h more)
  prefix_by_begun (Some (mark m.Ampersand)) = begun_fault h more (unsupported f.AddressOf 0)
  prefix_by_begun o = begun_loosen h more postfix_begun

-- ---- an operand at the place

name_second : {zs ys K : List Sym} {L : List Sym → Type 0} (kind place : Kind) (outer : ℕ → Reader Expression) (w : Name) (h : Pair zs ys K (name w ∷ ys)) (more t r : ℕ) (o : Outcome Expression) (go : Expression → Reader Expression)
    → ((e : Expression) (i : Input) → NoMore (length i.rest) (go e i)) → ((i : Input) → NoMore (length i.rest) (after_name kind outer w i))
    → Abreast h more L Expression t zero r o (and_then (name_in kind outer place w (at (name w ∷ ys) r)) go)
name_second {ys = ys} kind in_section outer w h more t r o go onward after =
    past _ _ (then_no_more (length ys) (after_name kind outer w (at ys r)) go onward (after (at ys r)))
name_second {ys = ys} kind in_action outer w h more t r o go onward after = past _ _ (onward (named w) (at ys r))
name_second kind in_constraint outer w h more t r o go onward after = told_here f.NameInConstraint refl

missing_second : {zs ys K : List Sym} {L : List Sym → Type 0} (kind place : Kind) (outer : ℕ → Reader Expression) (h : Pair zs ys K (keyword k.InstNext2 ∷ ys)) (more t r : ℕ) (o : Outcome Expression)
    (go : Expression → Reader Expression) → Abreast h more L Expression t zero r o (and_then (missing_name_in kind outer place (at (keyword k.InstNext2 ∷ ys) r)) go)
missing_second kind in_section outer h more t r o go = told_here f.InstNext2 refl
missing_second kind in_action outer h more t r o go = told_here f.InstNext2 refl
missing_second kind in_constraint outer h more t r o go = told_here f.NameInConstraint refl

-- behind the name of a function that is left out
called_second : {zs ys K : List Sym} {L : List Sym → Type 0} (kind : Kind) (outer : ℕ → Reader Expression) (w : Name) (feature : Feature) (h : Pair zs ys K (name w ∷ mark m.Open ∷ ys)) (more t r : ℕ)
    (o : Outcome Expression) (go : Expression → Reader Expression) (x : Option Feature) → x ≡ Some feature
    → Abreast h more L Expression t zero r o (and_then (called_by kind outer w x (at (mark m.Open ∷ ys) r)) go)
called_second kind outer w feature h more t r o go None e = absurd (cc)
called_second {ys = ys} kind outer w feature h more t r o go (Some missing) e = told o (fault (unsupported missing 1) (suc (length ys))) (missing, 1, refl, omega arith)

call_here : {zs ys : List Sym} (kind : Kind) (inner outer : ℕ → Reader Expression) (w : Name) (feature : Feature) (missing : missing_function w ≡ Some feature) (more t r : ℕ)
    → Abreast {zs = zs} {ys = ys} (calling w feature missing) more (Untaken zs (has_names kind)) Expression t zero r (postfix kind inner (at (name other ∷ mark m.Open ∷ zs) (more + r)))
    (postfix kind outer (at (name w ∷ mark m.Open ∷ ys) r))
unfolding postfix atom after_name same_mark
call_here in_section inner outer w feature missing more t r = called_second in_section outer w feature (calling w feature missing) more t r _ _ (missing_function w) missing
call_here in_action inner outer w feature missing more t r = apart tt _ _ _ bracket
call_here in_constraint inner outer w feature missing more t r = told_here f.NameInConstraint refl

lead_here : {zs ys : List Sym} (kind : Kind) (inner outer : ℕ → Reader Expression) (more t r : ℕ)
    → Abreast {zs = zs} {ys = ys} leading more (Untaken zs (has_names kind)) Expression t zero r (postfix kind inner (at (name other ∷ mark m.Ellipsis ∷ zs) (more + r)))
    (postfix kind outer (at (mark m.Ellipsis ∷ ys) r))
unfolding postfix atom after_name behind same_mark
lead_here in_section inner outer more t r = apart tt _ _ _ dots
lead_here in_action inner outer more t r = apart tt _ _ _ dots
lead_here in_constraint inner outer more t r = stuck tt _ _

prefix_by_here : {zs ys K W : List Sym} (h : Pair zs ys K W) (more t r : ℕ) (kind : Kind) (inner outer : ℕ → Reader Expression)
    → ((e : Expression) (i : Input) → NoMore (length i.rest) (cond {A = Reader Expression} (is_section kind) (behind e) (pure e) i))
    → ((w : Name) (i : Input) → NoMore (length i.rest) (after_name kind outer w i))
    → Abreast h more (Untaken zs (has_names kind)) Expression t zero r (prefix_by kind inner (first K) (at K (more + r))) (prefix_by kind outer (first W) (at W r))
unfolding postfix atom
prefix_by_here address more t r kind inner outer onward after = told_here f.AddressOf refl
prefix_by_here (lone_name x) more t r kind inner outer onward after = name_second kind kind outer x (lone_name x) more t r _ _ onward (after x)
prefix_by_here lone_word more t r kind inner outer onward after = missing_second kind kind outer lone_word more t r _ _
prefix_by_here {ys = ys} (wide x) more t r kind inner outer onward after = past _ _ (onward (integer x) (at ys r))
prefix_by_here (opening x missing e) more t r kind inner outer onward after = name_second kind kind outer x (opening x missing e) more t r _ _ onward (after x)
prefix_by_here leading more t r kind inner outer onward after = lead_here kind inner outer more t r
prefix_by_here (calling x missing e) more t r kind inner outer onward after = call_here kind inner outer x missing e more t r
prefix_by_here (sizing x) more t r kind inner outer onward after = stuck tt _ _
prefix_by_here floating more t r kind inner outer onward after = told_here f.FloatingPoint refl
prefix_by_here lacking more t r kind inner outer onward after = missing_second kind kind outer lacking more t r _ _

-- ---- operators at the place

abbrev pub TurnStops : {zs ys K W : List Sym} → Pair zs ys K W → Kind → ℕ → Type 0
TurnStops h kind n = Stops h (has_names kind) (turn kind n)

turn_stops : {zs ys K W : List Sym} (h : Pair zs ys K W) (kind : Kind) (n : ℕ) → TurnStops h kind n
unfolding turn
turn_stops address kind n = ((λ l. refl), inr (tt, tilde))
turn_stops (lone_name x) kind n = ((λ l. refl), inl (λ l. refl))
turn_stops lone_word kind n = ((λ l. refl), inl (λ l. refl))
turn_stops (wide x) kind n = ((λ l. refl), inl (λ l. refl))
turn_stops (opening x missing e) kind n = ((λ l. refl), inl (λ l. refl))
turn_stops leading kind n = ((λ l. refl), inl (λ l. refl))
turn_stops (calling x missing e) kind n = ((λ l. refl), inl (λ l. refl))
turn_stops (sizing x) kind n = ((λ l. refl), inl (λ l. refl))
turn_stops floating kind n = ((λ l. refl), inl (λ l. refl))
turn_stops lacking kind n = ((λ l. refl), inl (λ l. refl))

turn_leaves : (zs : List Sym) (b : Bool) (kind : Kind) (n : ℕ) (l : Expression) (xs : List Sym) → Untaken zs b xs → turn kind n l (first xs) ≡ None
unfolding turn
turn_leaves zs b kind n l _ tilde = refl
turn_leaves zs b kind n l _ other_dots = refl
turn_leaves zs b kind n l _ bracket = refl
turn_leaves zs b kind n l _ dots = refl

module _ {zs ys K W : List Sym} (h : Pair zs ys K W) (more : ℕ) where
  pub no_rooms : {L : List Sym → Type 0} {A : Type 0} (p : Reader A) (q : Reader A) → ((i : Input) → NoMore (length i.rest) (q i)) → Beside h more L 1 zero p q
  no_rooms p q onward = record {
    begun = record { ahead = λ x xs r less. absurd (omega arith); onward = onward };
    here = λ r less. absurd (omega arith);
  }

  module _ (kind : Kind) where
    tight_beside : (inner outer : ℕ → Reader Expression) (n : ℕ) → ((rank : ℕ) → Beside h more (Untaken zs (has_names kind)) 1 n (inner rank) (outer rank))
        → Beside h more (Untaken zs (has_names kind)) 1 (suc n) (tight kind inner) (tight kind outer)
    unfolding tight
    tight_beside inner outer n here =
        beside_peek h more (prefix_by_begun h more kind inner outer n here)
        (λ r less. prefix_by_here h more 1 r kind inner outer (λ e. (tail_beside h more kind inner outer n here (is_section kind) e).begun.onward)
        (λ w. (after_name_beside h more kind inner outer n here w).begun.onward))

    -- The first is nested as deep, or deeper; the second has depth for its room.
    pub beside_expression : (c n rank : ℕ) → n ≤ c → Beside h more (Untaken zs (has_names kind)) 1 n (expression kind c rank) (expression kind n rank)
    unfolding expression
    beside_expression c zero rank le = no_rooms _ _ (λ i. omega arith)
    beside_expression zero (suc n) rank le = absurd (omega arith)
    beside_expression (suc c) (suc n) rank le =
        loose_then h more (tight_beside (expression kind c) (expression kind n) n (λ loose. beside_expression c n loose (omega arith)))
        (λ e. beside_grown h more (turn kind rank) right_rank binary (expression kind c) (expression kind n) (has_names kind) (turn_stops h kind rank) (turn_leaves zs (has_names kind) kind rank) n
        (λ loose. beside_expression c n loose (omega arith)) e)
        (λ e. closed_grown h more (turn kind rank) right_rank binary (expression kind c) (expression kind n) (has_names kind) (turn_stops h kind rank) (turn_leaves zs (has_names kind) kind rank) n
        (λ loose. beside_expression c n loose (omega arith)) e)
