-- Readers of constructors, blocks, macros and items, in two readings side by side.
use Rattle.std.proofs.Common.{◌≡◌, ℕ, zero, suc, ◌+◌, ◌<◌, ◌≤◌, Bool, true, false, not, ◌&&◌, List, [], ◌∷◌, ◌++◌, length, Option, None, Some, refl, arith, length-append}
use Rattle.sl_ast.specs.Symbols.{plain, quoted, Sym, word, text, mark, blank, caret, char}
use Rattle.sl_ast.specs.Trees.{Name, Piece, piece_word, piece_text, piece_blank, piece_caret, piece_char, Section, statements, unimplemented, Constructor, Head, Inside, nothing, constructor_then, block_then, Item, define, attach_list, attach_one, macro, constructor, block}
use Rattle.sl_ast.specs.declared.symbols.Feature.TheVariants as f
use Rattle.sl_ast.specs.declared.symbols.Keyword.TheVariants as k
use Rattle.sl_ast.specs.declared.symbols.Mark.TheVariants as m
use Rattle.sl_parse_grammar.specs.Items.{is_name, is_shown, piece_by, piece, is_pattern, define_here, attach_here, inside_by, inside_from, inside, is_there, section_by, section, constructor_here, head, block_at, macro_here, item_by, item}
use Rattle.sl_parse_grammar.specs.Lists.{many_from, many}
use Rattle.sl_parse_grammar.specs.Patterns.{whole_pattern}
use Rattle.sl_parse_grammar.specs.Reader.{nesting, fault, Input, at, first, Outcome, Reader, and_then, ◌>>=◌, pure, peek, is_mark, same_keyword, name_here, optional}
use Rattle.sl_parse_grammar.specs.Statements.{actions}
use Rattle.sl_parse_faults.proofs.BesideSteps.{Pair, address, lone_name, lone_word, wide, opening, leading, calling, sizing, floating, lacking, Untaken, tilde, other_dots, bracket, dots, Firm, NoMore, Abreast, both_ok, early, told_here, past, stuck, apart, Begun, Beside, IsClosed, Closed, nothing_left, closed_pure, closed_then, closed_look, ends_then, weaker, goes_on, then_abreast, begun_then, beside_then, beside_later, loose_then, loose_later, takes_less, begun_less, beside_pure, begun_skips, begun_refuse, begun_peek, beside_peek, begun_if, look_both, then_no_more}
use Rattle.sl_parse_faults.proofs.BesideSymbols.{no_mark, look_mark, closed_optional, beside_name, opens_then, beside_optional}
use Rattle.sl_parse_faults.proofs.BesideLists.{Lists, many_by, many_onward, if_no_more, if_same, if_neither, beside_listed, beside_many}
use Rattle.sl_parse_faults.proofs.BesidePatterns.{beside_whole_pattern}
use Rattle.sl_parse_faults.proofs.BesideStatements.{ends_mark, marked, body_beside, actions_beside}
use Rattle.sl_parse_faults.proofs.BesideDefinitions.{worded, closed_member, names_beside, definition_beside, attach_kind_beside, member_ends, members_beside, some_left}

-- ---- at the place

table_here : {zs ys K W : List Sym} (h : Pair zs ys K W) (r : ℕ) → Abreast h zero (Untaken zs true) (Option Name) zero zero r (optional is_name name_here (at K (zero + r))) (optional is_name name_here (at W r))
unfolding name_here
table_here address r = both_ok None [] r (omega arith) (omega arith)
table_here (lone_name x) r = past _ _ (omega arith)
table_here lone_word r = both_ok None [] r (omega arith) (omega arith)
table_here (wide x) r = both_ok None [] r (omega arith) (omega arith)
table_here (opening x missing e) r = past _ _ (omega arith)
table_here leading r = apart tt _ _ _ dots
table_here (calling x missing e) r = apart tt _ _ _ bracket
table_here (sizing x) r = both_ok None [] r (omega arith) (omega arith)
table_here floating r = both_ok None [] r (omega arith) (omega arith)
table_here lacking r = both_ok None [] r (omega arith) (omega arith)

pieces_here : {zs ys K W : List Sym} (h : Pair zs ys K W) (c d : ℕ) (found : List Piece) (r : ℕ) → ((d : ℕ) (found : List Piece) (i : Input) → NoMore (length i.rest) (many_from is_shown piece d found i))
    → Abreast h zero Firm (List Piece) zero zero r (many_from is_shown piece (suc (suc c)) found (at K (zero + r))) (many_from is_shown piece (suc (suc d)) found (at W r))
unfolding many_from piece same_keyword
pieces_here address c d found r onward = stuck tt _ _
pieces_here (lone_name x) c d found r onward = stuck tt _ _
pieces_here lone_word c d found r onward = stuck tt _ _
pieces_here (wide x) c d found r onward = stuck tt _ _
pieces_here {ys = ys} (opening x missing e) c d found r onward = past _ _ (onward (suc d) (found ++ piece_word (plain x) ∷ []) (at ys r))
pieces_here leading c d found r onward = stuck tt _ _
pieces_here (calling x missing e) c d found r onward = stuck tt _ _
pieces_here (sizing x) c d found r onward = stuck tt _ _
pieces_here floating c d found r onward = told_here f.FloatingPoint refl
pieces_here {ys = ys} lacking c d found r onward = past _ _ (onward (suc d) (found ++ piece_word (quoted k.InstNext2) ∷ []) (at ys r))

section_by_here : {zs ys K W : List Sym} {L : List Sym → Type 0} (h : Pair zs ys K W) (some most t r : ℕ) → Abreast h zero L Section t zero r (section_by some (first K) (at K (zero + r))) (section_by most (first W) (at W r))
section_by_here address some most t r = stuck tt _ _
section_by_here (lone_name x) some most t r = stuck tt _ _
section_by_here lone_word some most t r = stuck tt _ _
section_by_here (wide x) some most t r = stuck tt _ _
section_by_here (opening x missing e) some most t r = stuck tt _ _
section_by_here leading some most t r = stuck tt _ _
section_by_here (calling x missing e) some most t r = stuck tt _ _
section_by_here (sizing x) some most t r = stuck tt _ _
section_by_here floating some most t r = told_here f.FloatingPoint refl
section_by_here lacking some most t r = told_here f.InstNext2 refl

are_there : {zs ys K W : List Sym} (h : Pair zs ys K W) → is_there (first K) ≡ is_there (first W)
are_there address = refl
are_there (lone_name x) = refl
are_there lone_word = refl
are_there (wide x) = refl
are_there (opening x missing e) = refl
are_there leading = refl
are_there (calling x missing e) = refl
are_there (sizing x) = refl
are_there floating = refl
are_there lacking = refl

inside_by_here : {zs ys K W : List Sym} (h : Pair zs ys K W) (r : ℕ) (one other : Reader Constructor) (inner outer : Reader (Head × Inside)) (later after : Reader Inside)
    → Abreast h zero Firm Inside zero zero r ((one >>= (λ c. later >>= (λ more. pure (constructor_then c more)))) (at K (zero + r))) ((other >>= (λ c. after >>= (λ more. pure (constructor_then c more)))) (at W r))
    → Abreast h zero Firm Inside zero zero r (inside_by one inner later (first K) (at K (zero + r))) (inside_by other outer after (first W) (at W r))
inside_by_here address r one other inner outer later after b = b
inside_by_here (lone_name x) r one other inner outer later after b = b
inside_by_here lone_word r one other inner outer later after b = b
inside_by_here (wide x) r one other inner outer later after b = b
inside_by_here (opening x missing e) r one other inner outer later after b = b
inside_by_here leading r one other inner outer later after b = b
inside_by_here (calling x missing e) r one other inner outer later after b = b
inside_by_here (sizing x) r one other inner outer later after b = b
inside_by_here floating r one other inner outer later after b = b
inside_by_here lacking r one other inner outer later after b = b

item_by_here : {zs ys K W : List Sym} (h : Pair zs ys K W) (some most deeper deep r : ℕ)
    → Abreast h zero Firm Item 1 zero r ((constructor_here some >>= (λ c. pure (constructor c))) (at K (zero + r))) ((constructor_here most >>= (λ c. pure (constructor c))) (at W r))
    → Abreast h zero Firm Item 1 zero r (item_by some deeper (first K) (at K (zero + r))) (item_by most deep (first W) (at W r))
item_by_here address some most deeper deep r b = b
item_by_here (lone_name x) some most deeper deep r b = b
item_by_here lone_word some most deeper deep r b = b
item_by_here (wide x) some most deeper deep r b = b
item_by_here (opening x missing e) some most deeper deep r b = b
item_by_here leading some most deeper deep r b = b
item_by_here (calling x missing e) some most deeper deep r b = b
item_by_here (sizing x) some most deeper deep r b = b
item_by_here floating some most deeper deep r b = b
item_by_here lacking some most deeper deep r b = b

-- ---- where something is untaken

section_untaken : (zs : List Sym) (b : Bool) (xs : List Sym) (most r : ℕ) → Untaken zs b xs → IsClosed Firm (section_by most (first xs) (at xs r))
section_untaken zs b _ most r tilde = tt
section_untaken zs b _ most r other_dots = tt
section_untaken zs b _ most r bracket = tt
section_untaken zs b _ most r dots = tt

ends_section : {zs : List Sym} {b : Bool} (most : ℕ) → Closed (Untaken zs b) Firm (section most)
unfolding section
ends_section {zs} {b} most = record { closed = λ xs r u. section_untaken zs b xs most r u }

-- ---- parts without a pattern

both_not : (b c : Bool) → b ≡ false → c ≡ false → (not b && not c) ≡ true
both_not true c e g = absurd (cc)
both_not false true e g = absurd (cc)
both_not false false e g = refl

module _ {zs ys K W : List Sym} (h : Pair zs ys K W) (n : ℕ) where
  table_beside : Beside h zero (Untaken zs true) zero n (optional is_name name_here) (optional is_name name_here)
  table_beside = record {
    begun = begun_peek h zero (λ o. begun_if h zero (is_name o) (begun_less h zero zero (omega arith) (loose_then h zero (beside_name h zero) (λ w. beside_pure h zero (Some w)) (λ w. closed_pure (Some w))).begun)
        (beside_pure h zero None).begun);
    here = λ r less. table_here h r;
  }

  piece_by_begun : (o : Option Sym) → Begun h zero Firm 1 n (piece_by o) (piece_by o)
  piece_by_begun (Some (word (quoted k.Is))) = begun_refuse h zero
  piece_by_begun (Some (word w)) = begun_skips h zero (beside_pure h zero (piece_word w))
  piece_by_begun (Some (text t)) = begun_skips h zero (beside_pure h zero (piece_text t))
  piece_by_begun (Some (blank t)) = begun_skips h zero (beside_pure h zero (piece_blank t))
  piece_by_begun (Some (caret t)) = begun_skips h zero (beside_pure h zero (piece_caret t))
  piece_by_begun (Some (char t)) = begun_skips h zero (beside_pure h zero (piece_char t))
  piece_by_begun o = begun_refuse h zero

  piece_begun : Begun h zero Firm 1 n piece piece
  unfolding piece
  piece_begun = begun_peek h zero piece_by_begun

  piece_lists : Lists h zero Firm n is_shown piece piece
  piece_lists zero d found r less enough also = absurd (omega arith)
  piece_lists (suc zero) d found r less enough also = (let some = (some_left h).0 in absurd (omega (arith, some)))
  piece_lists (suc (suc c)) zero found r less enough also = absurd (omega arith)
  piece_lists (suc (suc c)) (suc zero) found r less enough also = (let some = (some_left h).1 in absurd (omega (arith, some)))
  piece_lists (suc (suc c)) (suc (suc d)) found r less enough also = pieces_here h c d found r (λ d found i. many_onward is_shown piece piece_begun.onward d found i)

  display_beside : Beside h zero Firm zero n (many is_shown piece) (many is_shown piece)
  display_beside = many_by h zero is_shown piece piece piece_begun piece_lists (λ c found. nothing_left)

  define_beside : Beside h zero Firm 1 n define_here define_here
  unfolding define_here
  define_beside = worded h n k.Define tt (loose_then h zero (definition_beside h n) (λ d. marked h n m.Semicolon tt (beside_pure h zero (define d))) (λ d. ends_mark m.Semicolon tt _))

  attach_beside : Beside h zero Firm 1 n attach_here attach_here
  unfolding attach_here
  attach_beside =
      worded h n k.Attach tt (beside_then h zero (attach_kind_beside h n) (λ kind. loose_then h zero (names_beside h n)
      (λ ws. look_mark h zero m.OpenBracket tt
      (marked h n m.OpenBracket tt (beside_later h zero (members_beside h n)
      (λ members. marked h n m.CloseBracket tt (marked h n m.Semicolon tt (beside_pure h zero (attach_list kind ws members)))))).begun
      (member_ends h n (λ x. pure (attach_one kind ws x)) (λ x. beside_pure h zero (attach_one kind ws x))))
      (λ ws. closed_look m.OpenBracket tt (closed_then closed_member (λ x. ends_mark m.Semicolon tt _)))))

-- ---- what stands inside a block

module _ {zs ys K W : List Sym} (h : Pair zs ys K W) (n : ℕ) (one other : Reader Constructor) (inner outer : Reader (Head × Inside)) (part : Beside h zero Firm 1 n one other) (blocks : Begun h zero Firm 1 n inner outer) where
  inside_by_onward : (after : Reader Inside) → ((i : Input) → NoMore (length i.rest) (after i)) → (o : Option Sym) (i : Input) → NoMore (length i.rest) (inside_by other outer after o i)
  inside_by_onward after onward (Some (word (quoted k.With))) i =
      then_no_more (length i.rest) (outer i) (λ b. after >>= (λ more. pure (block_then b.0 b.1 more)))
      (λ b j. then_no_more (length j.rest) (after j) (λ more. pure (block_then b.0 b.1 more)) (λ more k. omega arith) (onward j)) (blocks.onward i)
  inside_by_onward after onward o i =
      then_no_more (length i.rest) (other i) (λ c. after >>= (λ more. pure (constructor_then c more)))
      (λ c j. then_no_more (length j.rest) (after j) (λ more. pure (constructor_then c more)) (λ more k. omega arith) (onward j)) (part.begun.onward i)

  inside_onward : (rounds : ℕ) (i : Input) → NoMore (length i.rest) (inside_from other outer rounds i)
  unfolding inside_from
  inside_onward zero i = omega arith
  inside_onward (suc rounds) i =
      if_no_more (length i.rest) (is_mark m.CloseBrace (first i.rest)) (pure nothing) (peek >>= inside_by other outer (inside_from other outer rounds)) i (omega arith)
      (inside_by_onward (inside_from other outer rounds) (inside_onward rounds) (first i.rest) i)

  -- a part and what follows, in some rounds fewer
  part_goes_on : {A : Type 0} (make : A → Inside → Inside) (l r : ℕ) (o p : Outcome A) (later after : Reader Inside)
      → ((xs : List Sym) (s : ℕ) → 1 + length xs ≤ l → s ≤ r → Abreast h zero Firm Inside zero (length xs) s (later (at (xs ++ K) (zero + s))) (after (at (xs ++ W) s)))
      → ((i : Input) → NoMore (length i.rest) (after i)) → r < n → Abreast h zero Firm A 1 l r o p
      → Abreast h zero Firm Inside zero l r (and_then o (λ a. later >>= (λ more. pure (make a more)))) (and_then p (λ a. after >>= (λ more. pure (make a more))))
  part_goes_on make l r o p later after again onward less here =
      goes_on h zero 1 zero l r o p (λ a. later >>= (λ more. pure (make a more))) (λ a. after >>= (λ more. pure (make a more)))
      (λ a xs s fits le. weaker h zero zero zero (length xs) l s r _ _ (λ d e. omega arith) le (λ d x. x)
      (then_abreast h zero zero zero zero (length xs) s n (later (at (xs ++ K) (zero + s))) (after (at (xs ++ W) s)) (λ more. pure (make a more)) (λ more. pure (make a more)) (omega arith) (omega arith)
      (λ more. beside_pure h zero (make a more)) (λ x. nothing_left) (again xs s fits le)))
      (λ a i. then_no_more (length i.rest) (after i) (λ more. pure (make a more)) (λ more j. omega arith) (onward i)) (λ x. nothing_left) here

  inside_by_ahead : (later after : Reader Inside) (x : Sym) (xs : List Sym) (r : ℕ) → r < n
      → ((front : List Sym) (s : ℕ) → 1 + length front ≤ suc (length xs) → s ≤ r → Abreast h zero Firm Inside zero (length front) s (later (at (front ++ K) (zero + s))) (after (at (front ++ W) s)))
      → ((i : Input) → NoMore (length i.rest) (after i)) → (o : Option Sym)
      → Abreast h zero Firm Inside zero (suc (length xs)) r (inside_by one inner later o (at (x ∷ (xs ++ K)) (zero + r))) (inside_by other outer after o (at (x ∷ (xs ++ W)) r))
  inside_by_ahead later after x xs r less again onward (Some (word (quoted k.With))) =
      part_goes_on (λ b more. block_then b.0 b.1 more) (suc (length xs)) r _ _ later after again onward less (blocks.ahead x xs r less)
  inside_by_ahead later after x xs r less again onward o = part_goes_on constructor_then (suc (length xs)) r _ _ later after again onward less (part.begun.ahead x xs r less)

  inside_abreast : (c d : ℕ) (xs : List Sym) (r : ℕ) → r < n → length xs + length K < c → length xs + length W < d
      → Abreast h zero Firm Inside zero (length xs) r (inside_from one inner c (at (xs ++ K) (zero + r))) (inside_from other outer d (at (xs ++ W) r))
  unfolding inside_from
  inside_abreast zero d xs r less enough also = absurd (omega arith)
  inside_abreast (suc c) zero xs r less enough also = absurd (omega arith)
  inside_abreast (suc c) (suc d) [] r less enough also =
      if_neither h zero (is_mark m.CloseBrace (first K)) (is_mark m.CloseBrace (first W)) (pure nothing) (peek >>= inside_by one inner (inside_from one inner c)) (pure nothing)
      (peek >>= inside_by other outer (inside_from other outer d)) (at K (zero + r)) (at W r) (no_mark h m.CloseBrace tt).0 (no_mark h m.CloseBrace tt).1
      (inside_by_here h r one other inner outer (inside_from one inner c) (inside_from other outer d)
      (part_goes_on constructor_then zero r _ _ (inside_from one inner c) (inside_from other outer d) (λ xs s fits le. absurd (omega arith)) (inside_onward d) less (part.here r less)))
  inside_abreast (suc c) (suc d) (x ∷ xs) r less enough also =
      if_same h zero (is_mark m.CloseBrace (Some x)) (is_mark m.CloseBrace (Some x)) (pure nothing) (peek >>= inside_by one inner (inside_from one inner c)) (pure nothing)
      (peek >>= inside_by other outer (inside_from other outer d)) (at (x ∷ (xs ++ K)) (zero + r)) (at (x ∷ (xs ++ W)) r) refl
      (both_ok nothing (x ∷ xs) r (omega arith) (omega arith))
      (inside_by_ahead (inside_from one inner c) (inside_from other outer d) x xs r less (λ front s fits le. inside_abreast c d front s (omega arith) (omega arith) (omega arith)) (inside_onward d) (Some x))

  inside_beside : Beside h zero Firm zero n (inside one inner) (inside other outer)
  inside_beside = record {
    begun = record {
      ahead = λ x xs r less. (let first = length-append xs K in let second = length-append xs W in inside_abreast _ _ (x ∷ xs) r less (omega arith) (omega arith));
      onward = λ i. inside_onward _ i;
    };
    here = λ r less. inside_abreast _ _ [] r less (omega arith) (omega arith);
  }

-- ---- what stands with a pattern, and items

module _ {zs ys K W : List Sym} (h : Pair zs ys K W) (more most n : ℕ) where
  section_by_begun : (o : Option Sym) → Begun h zero Firm 1 n (section_by (more + most) o) (section_by most o)
  section_by_begun (Some (mark m.OpenBrace)) = begun_then h zero (body_beside h more most n).begun (λ found. beside_pure h zero (statements found))
  section_by_begun (Some (word (quoted k.Unimpl))) = begun_skips h zero (beside_pure h zero unimplemented)
  section_by_begun o = begun_refuse h zero

  section_beside : Beside h zero Firm 1 n (section (more + most)) (section most)
  unfolding section
  section_beside = beside_peek h zero section_by_begun (λ r less. section_by_here h (more + most) most 1 r)

  acts_beside : Beside h zero Firm zero n (optional (is_mark m.OpenBracket) (actions (more + most))) (optional (is_mark m.OpenBracket) (actions most))
  acts_beside = beside_optional h zero m.OpenBracket tt (actions_beside h more most n).begun

  constructor_beside : Beside h zero Firm 1 n (constructor_here (more + most)) (constructor_here most)
  unfolding constructor_here
  constructor_beside =
      loose_later h zero (table_beside h n) (λ table. marked h n m.Colon tt (beside_later h zero (display_beside h n)
      (λ display. worded h n k.Is tt (loose_later h zero (beside_whole_pattern h more most n)
      (λ pattern. beside_later h zero acts_beside (λ acts. beside_then h zero section_beside
      (λ what. beside_pure h zero (record { table = table; display = display; pattern = pattern; actions = acts; section = what }))))
      (λ pattern. closed_then (closed_optional m.OpenBracket _ tt) (λ acts. ends_then _ (ends_section (more + most))))))))
      (λ table. ends_mark m.Colon tt _)

  pattern_option_beside : Beside h zero (Untaken zs true) zero n (optional is_pattern (whole_pattern (more + most))) (optional is_pattern (whole_pattern most))
  pattern_option_beside =
      look_both h zero is_pattern (both_not _ _ (no_mark h m.OpenBracket tt).0 (no_mark h m.OpenBrace tt).0) (both_not _ _ (no_mark h m.OpenBracket tt).1 (no_mark h m.OpenBrace tt).1)
      (takes_less h zero zero (omega arith) (loose_then h zero (beside_whole_pattern h more most n) (λ p. beside_pure h zero (Some p)) (λ p. closed_pure (Some p)))) (beside_pure h zero None).begun

  head_beside : Beside h zero Firm 1 n (head (more + most)) (head most)
  unfolding head
  head_beside =
      worded h n k.With tt (loose_later h zero (table_beside h n) (λ table. marked h n m.Colon tt (loose_later h zero pattern_option_beside
      (λ pattern. beside_later h zero acts_beside (λ acts. marked h n m.OpenBrace tt (beside_pure h zero (record { table = table; pattern = pattern; actions = acts }))))
      (λ pattern. closed_then (closed_optional m.OpenBracket _ tt) (λ acts. ends_mark m.OpenBrace tt _))))
      (λ table. ends_mark m.Colon tt _))

  -- The second is nested as deep as the first, or less.
  block_begun : (l d : ℕ) → d ≤ l → Begun h zero Firm 1 n (block_at (more + most) l) (block_at most d)
  unfolding block_at
  block_begun l zero le = record {
    ahead = λ x xs r less. (let sum = length-append xs W in early _ (fault nesting (suc (length (xs ++ W)))) (omega arith));
    onward = λ i. omega arith;
  }
  block_begun zero (suc d) le = absurd (omega arith)
  block_begun (suc l) (suc d) le =
      begun_then h zero head_beside.begun (λ x. beside_later h zero (inside_beside h n _ _ _ _ constructor_beside (block_begun l d (omega arith)))
      (λ found. marked h n m.CloseBrace tt (beside_pure h zero (x, found))))

  macro_beside : Beside h zero Firm 1 n (macro_here (more + most)) (macro_here most)
  unfolding macro_here
  macro_beside =
      worded h n k.Macro tt (opens_then h zero (λ w. loose_later h zero (beside_listed h zero (beside_name h zero))
      (λ parameters. marked h n m.Close tt (beside_then h zero (body_beside h more most n) (λ found. beside_pure h zero (macro (record { name = w; parameters = parameters; body = found })))))
      (λ parameters. ends_mark m.Close tt _)))

  module _ (deeper deep : ℕ) where
    item_by_begun : (o : Option Sym) → Begun h zero Firm 1 n (item_by (more + most) (deeper + deep) o) (item_by most deep o)
    item_by_begun (Some (word (quoted k.Define))) = (define_beside h n).begun
    item_by_begun (Some (word (quoted k.Attach))) = (attach_beside h n).begun
    item_by_begun (Some (word (quoted k.Macro))) = macro_beside.begun
    item_by_begun (Some (word (quoted k.With))) = begun_then h zero (block_begun (suc (deeper + deep)) (suc deep) (omega arith)) (λ b. beside_pure h zero (block b.0 b.1))
    item_by_begun o = (beside_then h zero constructor_beside (λ c. beside_pure h zero (constructor c))).begun

    item_beside : Beside h zero Firm 1 n (item (more + most) (deeper + deep)) (item most deep)
    unfolding item
    item_beside =
        beside_peek h zero item_by_begun (λ r less. item_by_here h (more + most) most (deeper + deep) deep r ((beside_then h zero constructor_beside (λ c. beside_pure h zero (constructor c))).here r less))

    pub items_beside : Beside h zero Firm zero n (many is_there (item (more + most) (deeper + deep))) (many is_there (item most deep))
    items_beside = beside_many h zero is_there item_beside (are_there h)
