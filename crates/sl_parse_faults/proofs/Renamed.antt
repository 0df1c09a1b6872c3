-- Where a name in a constraint is refused, so is any other word in its place, if it is a name or the one that lacks.
use Rattle.std.proofs.Common.{◌≡◌, ℕ, zero, suc, ◌<◌, ◌≤◌, not, Bool, true, false, cond, nat_le, List, [], ◌∷◌, ◌++◌, length, drop, Option, None, Some, Ok, Err, refl, ap, sym, ◌∙◌, subst, arith, append_assoc, length-append}
use Rattle.sl_ast.specs.Operators.{in_constraint, right_rank, loosest, pattern_right_rank, pattern_loosest}
use Rattle.sl_ast.specs.Spelling.{Spelling}
use Rattle.sl_ast.specs.Symbols.{Word, plain, quoted, Sym, number, word, text, mark, blank, caret, char}
use Rattle.sl_ast.specs.Trees.{Name, Expression, integer, paren, prefix, binary, Pattern, bare, constraint, group, ellipsis, joined, piece_word, piece_text, piece_blank, piece_caret, piece_char, statements, unimplemented, Head, Inside, nothing, constructor_then, block_then, constructor, block}
use Rattle.sl_ast.specs.declared.expressions.PrefixOp.{PrefixOp}
use Rattle.sl_ast.specs.declared.expressions.PrefixOp.TheVariants as p
use Rattle.sl_ast.specs.declared.patterns.Relation.{Relation}
use Rattle.sl_ast.specs.declared.symbols.Feature.TheVariants as f
use Rattle.sl_ast.specs.declared.symbols.Keyword.{Keyword}
use Rattle.sl_ast.specs.declared.symbols.Keyword.TheVariants as k
use Rattle.sl_ast.specs.declared.symbols.Mark.{Mark}
use Rattle.sl_ast.specs.declared.symbols.Mark.TheVariants as m
use Rattle.sl_parse_grammar.specs.Climb.{climb, turned}
use Rattle.sl_parse_grammar.specs.Expressions.{turn, bracketed, atom, atom_by, postfix, prefixed, prefix_by, tight, expression, with_room}
use Rattle.sl_parse_grammar.specs.Items.{is_name, is_shown, piece_by, piece, is_pattern, inside_by, inside_from, inside, is_there, value_of, section_by, section, constructor_here, head, block_at, item_by, item, specification_within}
use Rattle.sl_parse_grammar.specs.Lists.{many_from, many}
use Rattle.sl_parse_grammar.specs.Parallel.{IsPast}
use Rattle.sl_parse_grammar.specs.Patterns.{pattern_turn, relation_in, constrained, related, after_field, grouped, part, part_by, element, pattern, whole_pattern}
use Rattle.sl_parse_grammar.specs.Reader.{Form, nesting, unsupported, Fault, fault, Input, at, left, first, Outcome, Reader, and_then, ◌>>=◌, ◌>>◌, pure, skip, enter, refuse, look, is_mark, is_keyword, expect, expect_keyword, name_by, name_here, optional}
use Rattle.sl_parse_grammar.specs.Statements.{actions}
use Rattle.sl_parse_grammar.proofs.BodyRules.{body_rule, actions_rule}
use Rattle.sl_parse_grammar.proofs.Faults.{refused}
use Rattle.sl_parse_grammar.proofs.ItemRules.{item_rule}
use Rattle.sl_parse_grammar.proofs.Keeps.{Keeps, keeps_body, keeps_actions, keeps_item}
use Rattle.sl_parse_grammar.proofs.Rules.{Rule, Any}
use Rattle.sl_parse_grammar.proofs.Steps.{le_is}
use Rattle.sl_parse_faults.specs.Forms.{IsNameLike}
use Rattle.sl_parse_faults.proofs.BesideForms.{same_error}
use Rattle.sl_parse_faults.proofs.BesideSymbols.{Usual, lacking_not}
use Rattle.sl_parse_faults.proofs.Fronts.{front_of, behind, before, gt_is}
use Rattle.sl_parse_faults.proofs.Quiet.{name_there, TellsName, Quiet, refused_otherwise, body_quiet, actions_quiet, macro_quiet, define_quiet, attach_quiet}

-- a fact of each word that may stand where a name is refused
by_word : (P : Word → Type 0) → ((w : Name) → P (plain w)) → P (quoted k.InstNext2) → (w : Word) → IsNameLike (word w) → P w
by_word P name lacking (plain w) like = name w
by_word P name lacking (quoted k.InstNext2) like = lacking
by_word P name lacking (quoted l) like = absurd like

-- ---- two lists that differ in one word

module _ (u v : Word) (ys : List Sym) where
  -- the fault at that word
  abbrev told_there : Fault
  told_there = fault name_there (suc (length ys))

  -- Nothing behind it is told as a fault of the word: it was passed, or there is another fault.
  abbrev Lost : {A : Type 0} → Outcome A → Type 0
  Lost (Ok p) = length p.1.rest ≤ length ys
  Lost (Err e) = e ≡ told_there → ⊥

  -- Both read the same and stand at the word or before it; or the first refuses, and where it tells the word's fault, so
  -- does the second; or it passed the word, or refuses otherwise.
  data Swapped (A : Type 0) : Outcome A → Outcome A → Type 0 where
    both_ok : (a : A) (xs : List Sym) (r : ℕ) → Swapped A (Ok (a, at (xs ++ word u ∷ ys) r)) (Ok (a, at (xs ++ word v ∷ ys) r))
    told : (e : Fault) (p : Outcome A) → (e ≡ told_there → p ≡ Err told_there) → Swapped A (Err e) p
    lost : (o p : Outcome A) → Lost o → Swapped A o p

  record Swaps {A : Type 0} (p : Reader A) : Type 0 where
    swaps : (xs : List Sym) (r : ℕ) → Swapped A (p (at (xs ++ word u ∷ ys) r)) (p (at (xs ++ word v ∷ ys) r))
    forward : (i : Input) → length i.rest ≤ length ys → Lost (p i)

  -- ---- steps

  then_lost : {A B : Type 0} (o : Outcome A) (go : A → Reader B) → ((a : A) → Swaps (go a)) → Lost o → Lost (and_then o go)
  then_lost (Ok p) go later h = (later p.0).forward p.1 h
  then_lost (Err e) go later h = h

  then_swapped : {A B : Type 0} (o p : Outcome A) (go : A → Reader B) → ((a : A) → Swaps (go a)) → Swapped A o p → Swapped B (and_then o go) (and_then p go)
  then_swapped _ _ go later (both_ok a xs r) = (later a).swaps xs r
  then_swapped _ _ go later (told e p h) = told e _ (λ same. ap (λ o. and_then o go) (h same))
  then_swapped _ _ go later (lost o p h) = lost _ _ (then_lost o go later h)

  swaps_then : {A B : Type 0} {p : Reader A} {go : A → Reader B} → Swaps p → ((a : A) → Swaps (go a)) → Swaps (p >>= go)
  swaps_then {p = p} {go = go} here later = record {
    swaps = λ xs r. then_swapped _ _ go later (here.swaps xs r);
    forward = λ i h. then_lost (p i) go later (here.forward i h);
  }

  swaps_pure : {A : Type 0} (a : A) → Swaps (pure a)
  swaps_pure a = record { swaps = λ xs r. both_ok a xs r; forward = λ i h. h }

  told_otherwise : (form : Form) (n : ℕ) → (form ≡ name_there → ⊥) → fault form n ≡ told_there → ⊥
  told_otherwise form n other same = other (ap (λ e. e.form) same)

  told_elsewhere : (form : Form) (n : ℕ) → (n ≡ suc (length ys) → ⊥) → fault form n ≡ told_there → ⊥
  told_elsewhere form n other same = other (ap (λ e. e.left) same)

  swaps_fault : {A : Type 0} (form : Form) → (form ≡ name_there → ⊥) → Swaps {A = A} (λ i. Err (fault form (left i)))
  swaps_fault form other = record { swaps = λ xs r. lost _ _ (told_otherwise form _ other); forward = λ i h. told_otherwise form _ other }

  swaps_refuse : {A : Type 0} → Swaps {A = A} refuse
  swaps_refuse = record {
    swaps = λ xs r. lost _ _ (told_otherwise _ _ (refused_otherwise (first (xs ++ word u ∷ ys))));
    forward = λ i h. told_otherwise _ _ (refused_otherwise (first i.rest));
  }

  -- the word is told where it stands
  swaps_told : {A : Type 0} → Swaps {A = A} (λ i. Err (fault name_there (left i)))
  swaps_told {A} = record { swaps = told_at; forward = λ i h. told_elsewhere name_there _ (λ e. omega (arith, e, h)) }
    where
      told_at : (xs : List Sym) (r : ℕ) → Swapped A (Err (fault name_there (length (xs ++ word u ∷ ys)))) (Err (fault name_there (length (xs ++ word v ∷ ys))))
      told_at [] r = told told_there _ (λ same. refl)
      told_at (x ∷ xs) r = let sum = length-append xs (word u ∷ ys) in lost _ _ (told_elsewhere name_there _ (λ e. omega (arith, e, sum)))

  shorter : (xs : List Sym) → length xs ≤ length ys → length (drop 1 xs) ≤ length ys
  shorter [] h = h
  shorter (x ∷ xs) h = omega arith

  swaps_skip : Swaps skip
  swaps_skip = record { swaps = skip_swapped; forward = λ i h. shorter i.rest h }
    where
      skip_swapped : (xs : List Sym) (r : ℕ) → Swapped (Unit {0}) (skip (at (xs ++ word u ∷ ys) r)) (skip (at (xs ++ word v ∷ ys) r))
      skip_swapped [] r = lost _ _ (omega arith)
      skip_swapped (x ∷ xs) r = both_ok tt xs r

  swaps_skips : {A : Type 0} {p : Reader A} → Swaps p → Swaps (skip >> p)
  swaps_skips here = swaps_then swaps_skip (λ _. here)

  swaps_wrap : {A B : Type 0} {p : Reader A} (wrap : A → B) → Swaps p → Swaps (p >>= (λ a. pure (wrap a)))
  swaps_wrap wrap here = swaps_then here (λ a. swaps_pure (wrap a))

  swaps_peek : {A : Type 0} {go : Option Sym → Reader A} → ((o : Option Sym) → Swaps (go o))
      → ((r : ℕ) → Swapped A (go (Some (word u)) (at (word u ∷ ys) r)) (go (Some (word v)) (at (word v ∷ ys) r))) → Swaps (λ i. go (first i.rest) i)
  swaps_peek {A} {go} by here = record { swaps = peek_swapped; forward = λ i h. (by (first i.rest)).forward i h }
    where
      peek_swapped : (xs : List Sym) (r : ℕ) → Swapped A (go (first (xs ++ word u ∷ ys)) (at (xs ++ word u ∷ ys) r)) (go (first (xs ++ word v ∷ ys)) (at (xs ++ word v ∷ ys) r))
      peek_swapped [] r = here r
      peek_swapped (x ∷ xs) r = (by (Some x)).swaps (x ∷ xs) r

  swaps_if : {A : Type 0} (b : Bool) {p q : Reader A} → Swaps p → Swaps q → Swaps (λ i. cond {A = Reader A} b p q i)
  swaps_if true there not_there = there
  swaps_if false there not_there = not_there

  if_same : {A : Type 0} (b c : Bool) (p q : Reader A) → b ≡ c → Swaps p → Swaps q → (r : ℕ) → Swapped A (cond {A = Reader A} b p q (at (word u ∷ ys) r)) (cond {A = Reader A} c p q (at (word v ∷ ys) r))
  if_same true true p q e there not_there r = there.swaps [] r
  if_same false false p q e there not_there r = not_there.swaps [] r
  if_same true false p q e there not_there r = absurd (cc)
  if_same false true p q e there not_there r = absurd (cc)

  -- a test that tells the words not apart
  swaps_look : {A : Type 0} (test : Option Sym → Bool) → test (Some (word u)) ≡ test (Some (word v)) → {p q : Reader A} → Swaps p → Swaps q → Swaps (look test p q)
  swaps_look test same {p = p} {q = q} there not_there = swaps_peek (λ o. swaps_if (test o) there not_there) (if_same (test (Some (word u))) (test (Some (word v))) p q same there not_there)

  swaps_expect : (l : Mark) → Swaps (expect l)
  unfolding expect
  swaps_expect l = swaps_look (is_mark l) refl swaps_skip swaps_refuse

  swaps_optional : {A : Type 0} (test : Option Sym → Bool) → test (Some (word u)) ≡ test (Some (word v)) → {p : Reader A} → Swaps p → Swaps (optional test p)
  swaps_optional test same here = swaps_look test same (swaps_wrap Some here) (swaps_pure None)

  enter_swapped : (xs : List Sym) (r : ℕ) → Swapped (Unit {0}) (enter (at (xs ++ word u ∷ ys) r)) (enter (at (xs ++ word v ∷ ys) r))
  unfolding enter
  enter_swapped xs zero = lost _ _ (told_otherwise nesting _ (λ e. absurd (cc)))
  enter_swapped [] (suc r) = lost _ _ (omega arith)
  enter_swapped (x ∷ xs) (suc r) = both_ok tt xs r

  enter_lost : (xs : List Sym) (r : ℕ) → length xs ≤ length ys → Lost (enter (at xs r))
  unfolding enter
  enter_lost xs zero h = told_otherwise nesting _ (λ e. absurd (cc))
  enter_lost xs (suc r) h = shorter xs h

  swaps_enter : Swaps enter
  swaps_enter = record { swaps = enter_swapped; forward = λ i h. enter_lost i.rest i.room h }

  swaps_enters : {A : Type 0} {p : Reader A} → Swaps p → Swaps (enter >> p)
  swaps_enters here = swaps_then swaps_enter (λ _. here)

  -- ---- lists: the rounds are the same, since as many symbols are left

  same_count : (xs : List Sym) → suc (length (xs ++ word u ∷ ys)) ≡ suc (length (xs ++ word v ∷ ys))
  same_count xs = let first = length-append xs (word u ∷ ys) in let second = length-append xs (word v ∷ ys) in omega (arith, first, second)

  swaps_rounds : {A : Type 0} {q : ℕ → Reader A} → ((n : ℕ) → Swaps (q n)) → Swaps (λ i. q (suc (length i.rest)) i)
  swaps_rounds {A} {q} here = record {
    swaps = λ xs r. subst (λ n. Swapped A (q (suc (length (xs ++ word u ∷ ys))) (at (xs ++ word u ∷ ys) r)) (q n (at (xs ++ word v ∷ ys) r))) (same_count xs)
        ((here (suc (length (xs ++ word u ∷ ys)))).swaps xs r);
    forward = λ i h. (here (suc (length i.rest))).forward i h;
  }

  many_from_swaps : {A : Type 0} (goes : Option Sym → Bool) → goes (Some (word u)) ≡ goes (Some (word v)) → (p : Reader A) → Swaps p → (n : ℕ) (found : List A) → Swaps (many_from goes p n found)
  unfolding many_from
  many_from_swaps goes same p here zero found = swaps_refuse
  many_from_swaps goes same p here (suc n) found = swaps_look goes same (swaps_then here (λ a. many_from_swaps goes same p here n (found ++ a ∷ []))) (swaps_pure found)

  swaps_many : {A : Type 0} (goes : Option Sym → Bool) → goes (Some (word u)) ≡ goes (Some (word v)) → {p : Reader A} → Swaps p → Swaps (many goes p)
  swaps_many goes same {p = p} here = swaps_rounds {q = λ n. many_from goes p n []} (λ n. many_from_swaps goes same p here n [])

  -- ---- a reading with a room of its own

  room_lost : {A : Type 0} (r : ℕ) (o : Outcome A) → Lost o → Lost (with_room r o)
  room_lost r (Ok p) h = h
  room_lost r (Err e) h = h

  room_swapped : {A : Type 0} (r : ℕ) (o p : Outcome A) → Swapped A o p → Swapped A (with_room r o) (with_room r p)
  room_swapped r _ _ (both_ok a xs s) = both_ok a xs r
  room_swapped r _ _ (told e p h) = told e _ (λ same. ap (λ o. with_room r o) (h same))
  room_swapped r _ _ (lost o p h) = lost _ _ (room_lost r o h)

  swaps_room : {A : Type 0} (most : ℕ) {p : Reader A} → Swaps p → Swaps (λ i. with_room i.room (p (at i.rest most)))
  swaps_room most here = record {
    swaps = λ xs r. room_swapped r _ _ (here.swaps xs most);
    forward = λ i h. room_lost i.room _ (here.forward (at i.rest most) h);
  }

  -- ---- loops over operators, none of which is a word

  module _ {A Op : Type 0} (step : A → Option Sym → Option Op) (ends : (l : A) (w : Word) → step l (Some (word w)) ≡ None) (right : Op → ℕ) (join : Op → A → A → A) (inner : ℕ → Reader A)
      (here : (n : ℕ) → Swaps (inner n)) where
    turned_swaps : (go : Op → Reader A) → ((op : Op) → Swaps (go op)) → (l : A) (x : Option Op) → Swaps (turned go l x)
    turned_swaps go goes l None = swaps_pure l
    turned_swaps go goes l (Some op) = goes op

    turned_here : (go : Op → Reader A) (l : A) (x y : Option Op) → x ≡ None → y ≡ None → (r : ℕ) → Swapped A (turned go l x (at (word u ∷ ys) r)) (turned go l y (at (word v ∷ ys) r))
    turned_here go l None None e d r = both_ok l [] r
    turned_here go l (Some op) y e d r = absurd (cc)
    turned_here go l None (Some op) e d r = absurd (cc)

    climb_swaps : (n : ℕ) (l : A) → Swaps (climb step right join inner n l)
    unfolding climb
    climb_swaps zero l = swaps_pure l
    climb_swaps (suc n) l =
        swaps_peek (λ o. turned_swaps _ (λ op. swaps_enters (swaps_then (here (right op)) (λ r. climb_swaps n (join op l r)))) l (step l o))
        (turned_here _ l (step l (Some (word u))) (step l (Some (word v))) (ends l u) (ends l v))

    grown_swaps : (l : A) → Swaps (λ i. climb step right join inner (suc i.room) l i)
    grown_swaps l = record { swaps = λ xs r. (climb_swaps (suc r) l).swaps xs r; forward = λ i h. (climb_swaps (suc i.room) l).forward i h }

  -- ---- words that may stand where a name is refused

  module _ (like : IsNameLike (word u)) (also : IsNameLike (word v)) where
    -- they are all read alike
    swaps_alike : {A : Type 0} {go : Option Sym → Reader A} → ((o : Option Sym) → Swaps (go o)) → {p : Reader A} → Swaps p → ((w : Word) → IsNameLike (word w) → go (Some (word w)) ≡ p) → Swaps (λ i. go (first i.rest) i)
    swaps_alike {A} {go} by {p} here same = swaps_peek by (λ r.
        subst (λ (q : Reader A). Swapped A (q (at (word u ∷ ys) r)) (go (Some (word v)) (at (word v ∷ ys) r))) (sym (same u like))
        (subst (λ (q : Reader A). Swapped A (p (at (word u ∷ ys) r)) (q (at (word v ∷ ys) r))) (sym (same v also)) (here.swaps [] r)))

    -- the first is passed, or refused otherwise
    swaps_lost : {A : Type 0} {go : Option Sym → Reader A} → ((o : Option Sym) → Swaps (go o)) → ((w : Name) (r : ℕ) → Lost (go (Some (word (plain w))) (at (word (plain w) ∷ ys) r)))
        → ((r : ℕ) → Lost (go (Some (word (quoted k.InstNext2))) (at (word (quoted k.InstNext2) ∷ ys) r))) → Swaps (λ i. go (first i.rest) i)
    swaps_lost {A} {go} by name lacking = swaps_peek by (λ r. lost _ _ (by_word (λ w. Lost (go (Some (word w)) (at (word w ∷ ys) r))) (λ w. name w r) (lacking r) u like))

    -- a keyword is neither
    keyword_not : (l : Keyword) → Usual l → (w : Word) → IsNameLike (word w) → is_keyword l (Some (word w)) ≡ false
    keyword_not l usual w h = by_word (λ w. is_keyword l (Some (word w)) ≡ false) (λ w. refl) (lacking_not l usual) w h

    same_keywords : (l : Keyword) → Usual l → is_keyword l (Some (word u)) ≡ is_keyword l (Some (word v))
    same_keywords l usual = keyword_not l usual u like ∙ sym (keyword_not l usual v also)

    swaps_keyword : (l : Keyword) → Usual l → Swaps (expect_keyword l)
    unfolding expect_keyword
    swaps_keyword l usual = swaps_look (is_keyword l) (same_keywords l usual) swaps_skip swaps_refuse

    name_by_swaps : (o : Option Sym) → Swaps (name_by o)
    name_by_swaps (Some (word (plain w))) = swaps_skips (swaps_pure w)
    name_by_swaps o = swaps_refuse

    swaps_name : Swaps name_here
    unfolding name_here
    swaps_name = swaps_lost name_by_swaps (λ w r. omega arith) (λ r. told_otherwise _ _ (λ e. absurd (cc)))

    -- ---- constraints

    module _ (inner : ℕ → Reader Expression) (here : (n : ℕ) → Swaps (inner n)) where
      bracketed_swaps : Swaps (bracketed in_constraint inner)
      unfolding bracketed
      bracketed_swaps = swaps_enters (swaps_then (here loosest) (λ e. swaps_then (swaps_expect m.Close) (λ _. swaps_pure (paren e))))

      atom_by_swaps : (o : Option Sym) → Swaps (atom_by in_constraint inner o)
      atom_by_swaps (Some (number n)) = swaps_skips (swaps_pure (integer n))
      atom_by_swaps (Some (word (plain w))) = swaps_told
      atom_by_swaps (Some (word (quoted k.InstNext2))) = swaps_told
      atom_by_swaps (Some (mark m.Open)) = bracketed_swaps
      atom_by_swaps o = swaps_refuse

      postfix_swaps : Swaps (postfix in_constraint inner)
      unfolding postfix atom
      postfix_swaps = swaps_then
          (swaps_alike atom_by_swaps swaps_told (λ w h. by_word (λ w. atom_by in_constraint inner (Some (word w)) ≡ (λ i. Err (fault name_there (left i)))) (λ w. refl) refl w h))
          (λ e. swaps_pure e)

      prefixed_swaps : (op : PrefixOp) → Swaps (prefixed in_constraint inner op)
      unfolding prefixed
      prefixed_swaps op = swaps_enters (swaps_wrap (prefix op) (here 0))

      prefix_by_swaps : (o : Option Sym) → Swaps (prefix_by in_constraint inner o)
      prefix_by_swaps (Some (mark m.Minus)) = prefixed_swaps p.Negate
      prefix_by_swaps (Some (mark m.Tilde)) = prefixed_swaps p.Complement
      prefix_by_swaps (Some (mark m.Exclamation)) = swaps_refuse
      prefix_by_swaps (Some (mark m.Star)) = swaps_refuse
      prefix_by_swaps (Some (mark m.Ampersand)) = swaps_fault (unsupported f.AddressOf 0) (λ e. absurd (cc))
      prefix_by_swaps o = postfix_swaps

      tight_swaps : Swaps (tight in_constraint inner)
      unfolding tight
      tight_swaps = swaps_peek prefix_by_swaps (λ r. postfix_swaps.swaps [] r)

    turn_ends : (n : ℕ) (l : Expression) (w : Word) → turn in_constraint n l (Some (word w)) ≡ None
    unfolding turn
    turn_ends n l w = refl

    expression_swaps : (n rank : ℕ) → Swaps (expression in_constraint n rank)
    unfolding expression
    expression_swaps zero rank = swaps_fault nesting (λ e. absurd (cc))
    expression_swaps (suc n) rank = swaps_then (tight_swaps (expression in_constraint n) (expression_swaps n))
        (λ e. grown_swaps (turn in_constraint rank) (turn_ends rank) right_rank binary (expression in_constraint n) (expression_swaps n) e)

    -- ---- patterns

    grouped_swaps : (inner : ℕ → Reader Pattern) → ((n : ℕ) → Swaps (inner n)) → Swaps (grouped inner)
    unfolding grouped
    grouped_swaps inner here = swaps_enters (swaps_then (here pattern_loosest) (λ p. swaps_then (swaps_expect m.Close) (λ _. swaps_pure (group p))))

    pattern_turn_ends : (n : ℕ) (l : Pattern) (w : Word) → pattern_turn n l (Some (word w)) ≡ None
    unfolding pattern_turn
    pattern_turn_ends n l w = refl

    module _ (most : ℕ) where
      related_swaps : (w : Name) (x : Option Relation) → Swaps (related most w x)
      unfolding constrained
      related_swaps w None = swaps_pure (bare w)
      related_swaps w (Some rel) = swaps_enters (swaps_wrap (constraint w rel) (expression_swaps (suc most) loosest))

      after_field_swaps : (w : Name) → Swaps (after_field most w)
      unfolding after_field
      after_field_swaps w = swaps_peek (λ o. related_swaps w (relation_in o)) (λ r. both_ok (bare w) [] r)

      module _ (inner : ℕ → Reader Pattern) (here : (n : ℕ) → Swaps (inner n)) where
        part_by_swaps : (o : Option Sym) → Swaps (part_by most inner o)
        part_by_swaps (Some (word (plain w))) = swaps_skips (after_field_swaps w)
        part_by_swaps (Some (mark m.Open)) = grouped_swaps inner here
        part_by_swaps (Some (mark m.Ellipsis)) = swaps_fault (unsupported f.LeadingEllipsis 0) (λ e. absurd (cc))
        part_by_swaps o = swaps_refuse

        element_swaps : Swaps (element most inner)
        unfolding element part
        element_swaps = swaps_then
            (swaps_lost part_by_swaps (λ w r. (after_field_swaps w).forward (at ys r) (omega arith)) (λ r. told_otherwise _ _ (λ e. absurd (cc))))
            (λ p. swaps_look (is_mark m.Ellipsis) refl (swaps_enters (swaps_pure (ellipsis p))) (swaps_pure p))

      pattern_swaps : (n rank : ℕ) → Swaps (pattern most n rank)
      unfolding pattern
      pattern_swaps zero rank = swaps_fault nesting (λ e. absurd (cc))
      pattern_swaps (suc n) rank = swaps_then (element_swaps (pattern most n) (pattern_swaps n))
          (λ p. grown_swaps (pattern_turn rank) (pattern_turn_ends rank) pattern_right_rank joined (pattern most n) (pattern_swaps n) p)

      whole_pattern_swaps : Swaps (whole_pattern most)
      unfolding whole_pattern
      whole_pattern_swaps = swaps_room most (pattern_swaps (suc most) pattern_loosest)

    -- ---- readers whose trees are known by their spelling

    -- a list before the word, in two readings
    abbrev Share : List Sym → List Sym → List Sym → List Sym → Type 0
    Share base other xs zs = (front : List Sym) × (xs ≡ front ++ base) × (zs ≡ front ++ other)

    share_step : (base other : List Sym) (x : Sym) (xs zs : List Sym) → Share base other xs zs → Share base other (x ∷ xs) (x ∷ zs)
    share_step base other x xs zs h = (x ∷ h.0, ap (λ ws. x ∷ ws) h.1, ap (λ ws. x ∷ ws) h.2)

    -- where it tells the fault of the word, so it does of the other
    record TellsBoth {A : Type 0} (p : Reader A) : Type 0 where
      tells : (xs : List Sym) (r : ℕ) → p (at (xs ++ word u ∷ ys) r) ≡ Err told_there → p (at (xs ++ word v ∷ ys) r) ≡ Err told_there

    told_by : {A : Type 0} (o p : Outcome A) → Swapped A o p → o ≡ Err told_there → p ≡ Err told_there
    told_by _ _ (both_ok a xs r) e = absurd (cc)
    told_by _ _ (told d p h) e = h (same_error d told_there e)
    told_by _ _ (lost o p h) e = absurd (subst (λ o. Lost o) e h refl)

    tells_both : {A : Type 0} {p : Reader A} → Swaps p → TellsBoth p
    tells_both here = record { tells = λ xs r e. told_by _ _ (here.swaps xs r) e }

    quiet_tells : {A : Type 0} {p : Reader A} → Quiet p → TellsBoth p
    quiet_tells {p = p} here = record { tells = λ xs r e. absurd (here.quiet (at (xs ++ word u ∷ ys) r) (subst TellsName (sym e) refl)) }

    module _ {A : Type 0} {spell : Spelling A} {Good : A → Type 0} {p : Reader A} (rule : Rule spell Good Any p)
        (keeps : (R : List Sym → List Sym → Type 0) (step : (x : Sym) (xs zs : List Sym) → R xs zs → R (x ∷ xs) (x ∷ zs)) (a : A) → Keeps R step (spell a)) (both : TellsBoth p) where
      past_lost : (o : Outcome A) → IsPast (word u ∷ ys) o → Lost o
      past_lost (Ok q) h = omega arith
      past_lost (Err e) h = told_elsewhere e.form e.left (λ same. omega (arith, h, same))

      -- a tree that ends before the word
      ends_before : (xs : List Sym) (r : ℕ) (a : A) (rest : List Sym) → Good a → xs ++ word u ∷ ys ≡ spell a rest → length ys < length rest
          → Swapped A (p (at (xs ++ word u ∷ ys) r)) (p (at (xs ++ word v ∷ ys) r))
      ends_before xs r a rest good tokens less =
          let alone = keeps (Share rest rest) (share_step rest rest) a rest rest ([], refl, refl) in
          let more = front_of xs (word u ∷ ys) alone.0 rest (tokens ∙ alone.1) (omega (arith, less)) in
          let is : rest ≡ more.0 ++ word u ∷ ys =
          behind alone.0 rest (more.0 ++ word u ∷ ys) (sym alone.1 ∙ sym tokens ∙ ap (λ ws. ws ++ word u ∷ ys) more.1 ∙ append_assoc alone.0 more.0 (word u ∷ ys)) in
          let second = more.0 ++ word v ∷ ys in
          let two = keeps (Share rest second) (share_step rest second) a rest second ([], refl, refl) in
          let same : alone.0 ≡ two.0 = before alone.0 two.0 rest (sym alone.1 ∙ two.1) in
          let spelled : xs ++ word v ∷ ys ≡ spell a second =
          ap (λ ws. ws ++ word v ∷ ys) more.1 ∙ append_assoc alone.0 more.0 (word v ∷ ys) ∙ ap (λ ws. ws ++ second) same ∙ sym two.2 in
          let first_read : p (at (xs ++ word u ∷ ys) r) ≡ Ok (a, at (more.0 ++ word u ∷ ys) r) =
          ap (λ ws. p (at ws r)) tokens ∙ rule.complete a rest r good tt ∙ ap (λ ws. Ok (a, at ws r)) is in
          let second_read : p (at (xs ++ word v ∷ ys) r) ≡ Ok (a, at second r) = ap (λ ws. p (at ws r)) spelled ∙ rule.complete a second r good tt in
          subst (λ o. Swapped A o (p (at (xs ++ word v ∷ ys) r))) (sym first_read) (subst (λ o. Swapped A (Ok (a, at (more.0 ++ word u ∷ ys) r)) o) (sym second_read) (both_ok a more.0 r))

      by_length : (b : Bool) (xs : List Sym) (r : ℕ) (a : A) (j : Input) → nat_le (length j.rest) (length ys) ≡ b → p (at (xs ++ word u ∷ ys) r) ≡ Ok (a, j)
          → Swapped A (p (at (xs ++ word u ∷ ys) r)) (p (at (xs ++ word v ∷ ys) r))
      by_length true xs r a j is e = lost _ _ (subst (λ o. Lost o) (sym e) (le_is (length j.rest) (length ys) is))
      by_length false xs r a j is e = let took = rule.sound (at (xs ++ word u ∷ ys) r) j a e in ends_before xs r a j.rest took.good took.tokens (gt_is (length j.rest) (length ys) is)

      swapped_by : (xs : List Sym) (r : ℕ) (o : Outcome A) → p (at (xs ++ word u ∷ ys) r) ≡ o → Swapped A (p (at (xs ++ word u ∷ ys) r)) (p (at (xs ++ word v ∷ ys) r))
      swapped_by xs r (Ok q) e = by_length (nat_le (length q.1.rest) (length ys)) xs r q.0 q.1 refl e
      swapped_by xs r (Err d) e = subst (λ o. Swapped A o (p (at (xs ++ word v ∷ ys) r))) (sym e) (told d _ (λ same. both.tells xs r (e ∙ ap (λ x. Err x) same)))

      swaps_tree : Swaps p
      swaps_tree = record {
        swaps = λ xs r. swapped_by xs r _ refl;
        forward = λ i h. past_lost (p i) (rule.here.forward i (word u ∷ ys) (omega arith));
      }

    -- ---- constructors

    titled_by : (w : Word) (r : ℕ) → IsNameLike (word w) → {A : Type 0} (go : Option Name → Reader A) → ((t : Option Name) → Swaps (go t))
        → Lost (and_then (cond {A = Reader (Option Name)} (is_name (Some (word w))) (name_here >>= (λ a. pure (Some a))) (pure None) (at (word w ∷ ys) r)) (λ t. expect m.Colon >> go t))
    unfolding name_here expect
    titled_by (plain w) r like go later = (swaps_then (swaps_expect m.Colon) (λ _. later (Some w))).forward (at ys r) (omega arith)
    titled_by (quoted k.InstNext2) r like go later = told_otherwise _ _ (λ e. absurd (cc))
    titled_by (quoted l) r like go later = absurd like

    -- a table's name, which may lack, and behind it a colon
    swaps_titled : {A : Type 0} {go : Option Name → Reader A} → ((t : Option Name) → Swaps (go t)) → Swaps (optional is_name name_here >>= (λ t. expect m.Colon >> go t))
    swaps_titled {A} {go} later = record { swaps = titled_swapped; forward = λ i h. (decided (is_name (first i.rest))).forward i h }
      where
        decided : (b : Bool) → Swaps (λ i. and_then (cond {A = Reader (Option Name)} b (name_here >>= (λ a. pure (Some a))) (pure None) i) (λ t. expect m.Colon >> go t))
        decided b = swaps_then (swaps_if b (swaps_wrap Some swaps_name) (swaps_pure None)) (λ t. swaps_then (swaps_expect m.Colon) (λ _. later t))

        titled_swapped : (xs : List Sym) (r : ℕ)
            → Swapped A ((optional is_name name_here >>= (λ t. expect m.Colon >> go t)) (at (xs ++ word u ∷ ys) r)) ((optional is_name name_here >>= (λ t. expect m.Colon >> go t)) (at (xs ++ word v ∷ ys) r))
        titled_swapped [] r = lost _ _ (titled_by u r like go later)
        titled_swapped (x ∷ xs) r = (decided (is_name (Some x))).swaps (x ∷ xs) r

    piece_by_swaps : (o : Option Sym) → Swaps (piece_by o)
    piece_by_swaps (Some (word (quoted k.Is))) = swaps_refuse
    piece_by_swaps (Some (word w)) = swaps_skips (swaps_pure (piece_word w))
    piece_by_swaps (Some (text t)) = swaps_skips (swaps_pure (piece_text t))
    piece_by_swaps (Some (blank t)) = swaps_skips (swaps_pure (piece_blank t))
    piece_by_swaps (Some (caret t)) = swaps_skips (swaps_pure (piece_caret t))
    piece_by_swaps (Some (char t)) = swaps_skips (swaps_pure (piece_char t))
    piece_by_swaps o = swaps_refuse

    piece_swaps : Swaps piece
    unfolding piece
    piece_swaps = swaps_lost piece_by_swaps (λ w r. omega arith) (λ r. omega arith)

    module _ (most : ℕ) where
      section_by_swaps : (o : Option Sym) → Swaps (section_by most o)
      section_by_swaps (Some (mark m.OpenBrace)) = swaps_wrap statements (swaps_tree (body_rule most) keeps_body (quiet_tells (body_quiet most)))
      section_by_swaps (Some (word (quoted k.Unimpl))) = swaps_skips (swaps_pure unimplemented)
      section_by_swaps o = swaps_refuse

      section_swaps : Swaps (section most)
      unfolding section
      section_swaps = swaps_lost section_by_swaps (λ w r. told_otherwise _ _ (λ e. absurd (cc))) (λ r. told_otherwise _ _ (λ e. absurd (cc)))

      actions_swaps : Swaps (actions most)
      actions_swaps = swaps_tree (actions_rule most) keeps_actions (quiet_tells (actions_quiet most))

      constructor_swaps : Swaps (constructor_here most)
      unfolding constructor_here
      constructor_swaps =
          swaps_titled (λ table. swaps_then (swaps_many is_shown (ap not (same_keywords k.Is tt)) piece_swaps) (λ display. swaps_then (swaps_keyword k.Is tt)
          (λ _. swaps_then (whole_pattern_swaps most) (λ pattern. swaps_then (swaps_optional (is_mark m.OpenBracket) refl actions_swaps)
          (λ acts. swaps_wrap (λ what. record { table = table; display = display; pattern = pattern; actions = acts; section = what }) section_swaps)))))

      head_swaps : Swaps (head most)
      unfolding head
      head_swaps =
          swaps_then (swaps_keyword k.With tt) (λ _. swaps_titled (λ table. swaps_then (swaps_optional is_pattern refl (whole_pattern_swaps most))
          (λ pattern. swaps_then (swaps_optional (is_mark m.OpenBracket) refl actions_swaps) (λ acts. swaps_then (swaps_expect m.OpenBrace)
          (λ _. swaps_pure (record { table = table; pattern = pattern; actions = acts }))))))

      -- ---- blocks and items

      module _ (inner : Reader (Head × Inside)) (here : Swaps inner) where
        inside_by_swaps : (later : Reader Inside) → Swaps later → (o : Option Sym) → Swaps (inside_by (constructor_here most) inner later o)
        inside_by_swaps later there (Some (word (quoted k.With))) = swaps_then here (λ b. swaps_wrap (λ more. block_then b.0 b.1 more) there)
        inside_by_swaps later there o = swaps_then constructor_swaps (λ c. swaps_wrap (λ more. constructor_then c more) there)

        inside_from_swaps : (n : ℕ) → Swaps (inside_from (constructor_here most) inner n)
        unfolding inside_from
        inside_from_swaps zero = swaps_refuse
        inside_from_swaps (suc n) =
            let later = inside_from (constructor_here most) inner n in
            swaps_look (is_mark m.CloseBrace) refl (swaps_pure nothing) (swaps_alike (inside_by_swaps later (inside_from_swaps n))
            (swaps_then constructor_swaps (λ c. swaps_wrap (λ more. constructor_then c more) (inside_from_swaps n)))
            (λ w h. by_word (λ w. inside_by (constructor_here most) inner later (Some (word w)) ≡ (constructor_here most >>= (λ c. later >>= (λ more. pure (constructor_then c more))))) (λ w. refl) refl w h))

        inside_swaps : Swaps (inside (constructor_here most) inner)
        inside_swaps = swaps_rounds {q = inside_from (constructor_here most) inner} inside_from_swaps

      block_swaps : (n : ℕ) → Swaps (block_at most n)
      unfolding block_at
      block_swaps zero = swaps_fault nesting (λ e. absurd (cc))
      block_swaps (suc n) =
          swaps_then head_swaps (λ h. swaps_then (inside_swaps (block_at most n) (block_swaps n)) (λ found. swaps_then (swaps_expect m.CloseBrace) (λ _. swaps_pure (h, found))))

      constructor_tells : TellsBoth (constructor_here most >>= (λ c. pure (constructor c)))
      constructor_tells = tells_both (swaps_wrap constructor constructor_swaps)

      module _ (deep : ℕ) where
        item_by_tells : (o : Option Sym) → TellsBoth (item_by most deep o)
        item_by_tells (Some (word (quoted k.Define))) = quiet_tells define_quiet
        item_by_tells (Some (word (quoted k.Attach))) = quiet_tells attach_quiet
        item_by_tells (Some (word (quoted k.Macro))) = quiet_tells (macro_quiet most)
        item_by_tells (Some (word (quoted k.With))) = tells_both (swaps_wrap (λ b. block b.0 b.1) (block_swaps (suc deep)))
        item_by_tells o = constructor_tells

        by_constructor : (w : Word) → IsNameLike (word w) → item_by most deep (Some (word w)) ≡ (constructor_here most >>= (λ c. pure (constructor c)))
        by_constructor w h = by_word (λ w. item_by most deep (Some (word w)) ≡ (constructor_here most >>= (λ c. pure (constructor c)))) (λ w. refl) refl w h

        item_told : (xs : List Sym) (r : ℕ) → item most deep (at (xs ++ word u ∷ ys) r) ≡ Err told_there → item most deep (at (xs ++ word v ∷ ys) r) ≡ Err told_there
        unfolding item
        item_told [] r e =
            ap (λ p. p (at (word v ∷ ys) r)) (by_constructor v also) ∙ constructor_tells.tells [] r (ap (λ p. p (at (word u ∷ ys) r)) (sym (by_constructor u like)) ∙ e)
        item_told (x ∷ xs) r e = (item_by_tells (Some x)).tells (x ∷ xs) r e

        item_swaps : Swaps (item most deep)
        item_swaps = swaps_tree (item_rule most deep) keeps_item (record { tells = item_told })

        items_swaps : Swaps (many is_there (item most deep))
        items_swaps = swaps_many is_there refl item_swaps

        pub renamed : (xs : List Sym) → specification_within most deep (xs ++ word u ∷ ys) ≡ Err told_there → specification_within most deep (xs ++ word v ∷ ys) ≡ Err told_there
        unfolding specification_within
        renamed xs e = ap value_of ((tells_both items_swaps).tells xs 0 (refused (many is_there (item most deep) (at (xs ++ word u ∷ ys) 0)) told_there e))
