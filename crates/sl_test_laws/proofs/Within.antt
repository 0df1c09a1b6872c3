-- A tree none of whose symbols goes past a limit by counting is within the limits.
use Rattle.std.proofs.Common.{◌≡◌, ℕ, zero, suc, ◌+◌, ◌<◌, ◌≤◌, Bool, true, false, List, [], ◌∷◌, Option, None, Some, arith, refl, sym, ◌∙◌}
use Rattle.std.specs.Prelude.{nat_lt, if◌then◌else◌}
use Rattle.std.proofs.lemmas.Bool.Decides.{nat_tests}
use Rattle.sl_ast.specs.Operators.{Kind, in_section, in_action, in_constraint, binary_mark, is_section, pattern_mark, prefix_mark, relation_mark}
use Rattle.sl_ast.specs.Spelling.{name, spell, spell_all, spell_commas, spell_separated, spell_option, spell_name, spell_space, spell_size, spell_expression, spell_arguments, spell_more, spell_pattern, spell_action, spell_actions, spell_value, spell_statement, spell_body, spell_direct, spell_piece, spell_section, spell_constructor, spell_head, spell_inside, spell_item}
use Rattle.sl_ast.specs.Symbols.{quoted, Sym, number, word, mark}
use Rattle.sl_ast.specs.Trees.{Name, Expression, Expressions, integer, named, paren, call, sized, dropped, bits, prefix, star, binary, no_more, with_more, Pattern, bare, constraint, group, ellipsis, joined, Action, set, global_set, left_name, left_bits, left_star, direct, computed, calls, calls_computed, Statement, local, declare, assign, goto, branch, call_to, return, build, export, invoke, label, Section, statements, unimplemented, Constructor, Head, Inside, nothing, constructor_then, block_then, Item, define, attach_list, attach_one, macro, constructor, block}
use Rattle.sl_ast.specs.Validity.{AllBind, AreItems, AreItemsWithin, Binds, Each, IfWritten, IsAction, IsConstructor, IsExpression, IsHead, IsInside, IsItem, IsPattern, IsSection, IsStatement, PatternBinds, deepest, heaviest, pattern_weight, space_weight, weight, weights}
use Rattle.sl_ast.specs.declared.expressions.BinaryOp.TheVariants as b
use Rattle.sl_ast.specs.declared.symbols.Keyword.TheVariants as k
use Rattle.sl_ast.specs.declared.symbols.Mark.TheVariants as m
use Rattle.sl_test_laws.specs.Counting as at
use Rattle.sl_test_laws.specs.Counting.{CountedNestingIsAFault, CountedTreesAreWithin, GoesPast, Mode, State, TreesKeepTheCount, counted, counted_from, enter_block, going_on, spend, step}
use Rattle.sl_test_laws.proofs.Counting.{Counts, begins_here, chosen, counts, counts_action, counts_actions, counts_constructor, counts_display, counts_here, counts_inside, counts_item, counts_parameters, counts_pattern, counts_size, counts_space, counts_star, counts_statement, enters, head_table, none_more, on_joining, on_relation, one_more, pattern_counts, section_counts, size_written, stepped, table_first, value_counts}

-- ---- what the count lets through is within the limits

let_through : (n most : ℕ) (s t : State) (within : Bool) → nat_lt n most ≡ within → (if within then Some s else None) ≡ Some t → n < most
let_through n most s t true e h = let less : n < most = grind (arith, nat_tests) in less
let_through n most s t false e h = absurd (cc)

-- a state behind a symbol, where there is one behind what follows
pub some_behind : (s : Option State) (go : State → Option State) (t : State) → going_on s go ≡ Some t → (u : State) × (s ≡ Some u)
some_behind None go t h = absurd (cc)
some_behind (Some u) go t h = (u, refl)

module _ (blocks : ℕ) (kind : Kind) (mode : ℕ → ℕ → Mode) (c : Counts blocks kind mode) (end : State) where
  abbrev Passes : ℕ → ℕ → List Sym → Type 0
  Passes d n xs = counted_from blocks (mode d n) xs ≡ Some end

  room_for : (d e n : ℕ) (x : Sym) (xs : List Sym) → step blocks (mode d n) x ≡ spend blocks n (mode e) → Passes d n (x ∷ xs) → n < heaviest
  room_for d e n x xs is h =
      let some = some_behind (step blocks (mode d n) x) _ end h in
      let_through n heaviest (blocks, mode e (suc n)) some.0 (nat_lt n heaviest) refl (sym is ∙ some.1)

  -- behind a symbol that counts
  past_one : (d e n : ℕ) (x : Sym) (xs : List Sym) → step blocks (mode d n) x ≡ spend blocks n (mode e) → Passes d n (x ∷ xs) → Passes e (suc n) xs
  past_one d e n x xs is h = sym (one_more blocks kind mode c d e n x xs is (room_for d e n x xs is h)) ∙ h

  space_fits : is_section kind ≡ true → (d n : ℕ) (place : Option Name) (xs : List Sym) → n ≤ heaviest → Passes d n (spell_option spell_space place xs) → n + space_weight place ≤ heaviest
  space_fits is d n None xs le h = omega (arith, le)
  space_fits is d n (Some w) xs le h =
      let less = room_for d (suc d) n (mark m.OpenBracket) (name w ∷ mark m.CloseBracket ∷ xs) (c.on_bracket is d n) h in omega (arith, less)

  -- behind an expression
  behind_it : (x : Expression) (d n : ℕ) (xs : List Sym) → Binds kind x → n + weight x ≤ heaviest → Passes d n (spell_expression x xs) → Passes d (n + weight x) xs
  behind_it x d n xs good le h = sym (counts blocks kind mode c x d n (n + weight x) xs good refl le) ∙ h

  mutual
    fits : (e : Expression) (d n : ℕ) (xs : List Sym) → Binds kind e → n ≤ heaviest → Passes d n (spell_expression e xs) → n + weight e ≤ heaviest
    fits (integer i) d n xs good le h = omega (arith, le)
    fits (named w) d n xs good le h = omega (arith, le)
    fits (paren x) d n xs good le h =
        let rest = spell_expression x (mark m.Close ∷ xs) in
        let less = room_for d (suc d) n (mark m.Open) rest (c.on_open d n) h in
        let later = fits x (suc d) (suc n) (mark m.Close ∷ xs) good (omega (arith, less)) (past_one d (suc d) n (mark m.Open) rest (c.on_open d n) h) in
        omega (arith, later)
    fits (call w es) d n xs good le h =
        let rest = spell_arguments es (mark m.Close ∷ xs) in
        let open_here = sym (none_more blocks kind mode c d d n (name w) (mark m.Open ∷ rest) (c.on_name d n w)) ∙ h in
        let less = room_for d (suc d) n (mark m.Open) rest (c.on_open d n) open_here in
        let later = arguments_fit es d (suc n) (mark m.Close ∷ xs) good.0 good.3 (omega (arith, less)) (past_one d (suc d) n (mark m.Open) rest (c.on_open d n) open_here) in
        omega (arith, later)
    fits (sized x i) d n xs good le h = fits x d n (mark m.Colon ∷ number i ∷ xs) good.3 le h
    fits (dropped x i) d n xs good le h =
        let rest = number i ∷ mark m.Close ∷ xs in
        let first = fits x d n (mark m.Open ∷ rest) good.2 le h in
        let less = room_for d (suc d) (n + weight x) (mark m.Open) rest (c.on_open d (n + weight x)) (behind_it x d n (mark m.Open ∷ rest) good.2 first h) in
        omega (arith, less)
    fits (bits x low count) d n xs good le h =
        let rest = number low ∷ mark m.Comma ∷ number count ∷ mark m.CloseBracket ∷ xs in
        let first = fits x d n (mark m.OpenBracket ∷ rest) good.2 le h in
        let less = room_for d (suc d) (n + weight x) (mark m.OpenBracket) rest (c.on_bracket good.0 d (n + weight x)) (behind_it x d n (mark m.OpenBracket ∷ rest) good.2 first h) in
        omega (arith, less)
    fits (prefix op x) d n xs good le h =
        let rest = spell_expression x xs in
        let less = room_for d d n (mark (prefix_mark op)) rest (c.on_prefix d n op) h in
        let later = fits x d (suc n) xs good.2 (omega (arith, less)) (past_one d d n (mark (prefix_mark op)) rest (c.on_prefix d n op) h) in
        omega (arith, later)
    fits (star place width x) d n xs good le h =
        let rest = spell_option spell_size width (spell_expression x xs) in
        let spaced = spell_option spell_space place rest in
        let star_is = c.on_binary d n b.Multiply in
        let less = room_for d d n (mark m.Star) spaced star_is h in
        let behind_star = past_one d d n (mark m.Star) spaced star_is h in
        let s = suc n + space_weight place in
        let some = space_fits good.0 d (suc n) place rest (omega (arith, less)) behind_star in
        let behind_space = sym (counts_space blocks kind mode c good.0 d (suc n) s place rest refl some) ∙ behind_star in
        let later = fits x d s xs good.3 some (sym (counts_size blocks kind mode c good.0 d s width (spell_expression x xs)) ∙ behind_space) in
        omega (arith, later)
    fits (binary op x y) d n xs good le h =
        let rest = spell_expression y xs in
        let first = fits x d n (mark (binary_mark op) ∷ rest) good.3 le h in
        let there = behind_it x d n (mark (binary_mark op) ∷ rest) good.3 first h in
        let less = room_for d d (n + weight x) (mark (binary_mark op)) rest (c.on_binary d (n + weight x) op) there in
        let later = fits y d (suc (n + weight x)) xs good.4 (omega (arith, less)) (past_one d d (n + weight x) (mark (binary_mark op)) rest (c.on_binary d (n + weight x) op) there) in
        omega (arith, later)

    arguments_fit : (es : Expressions) (d n : ℕ) (xs : List Sym) → is_section kind ≡ true → AllBind kind es → n ≤ heaviest → Passes (suc d) n (spell_arguments es xs)
        → n + weights es ≤ heaviest
    arguments_fit no_more d n xs is good le h = omega (arith, le)
    arguments_fit (with_more x es) d n xs is good le h =
        let first = fits x (suc d) n (spell_more es xs) good.0 le h in
        let later = more_fit es d (n + weight x) xs is good.1 first (behind_it x (suc d) n (spell_more es xs) good.0 first h) in
        omega (arith, later)

    more_fit : (es : Expressions) (d n : ℕ) (xs : List Sym) → is_section kind ≡ true → AllBind kind es → n ≤ heaviest → Passes (suc d) n (spell_more es xs)
        → n + weights es ≤ heaviest
    more_fit no_more d n xs is good le h = omega (arith, le)
    more_fit (with_more x es) d n xs is good le h =
        let rest = spell_expression x (spell_more es xs) in
        let here = sym (none_more blocks kind mode c (suc d) (suc d) n (mark m.Comma) rest (c.on_comma is d n)) ∙ h in
        let first = fits x (suc d) n (spell_more es xs) good.0 le here in
        let later = more_fit es d (n + weight x) xs is good.1 first (behind_it x (suc d) n (spell_more es xs) good.0 first here) in
        omega (arith, later)

module _ (most : ℕ) (end : State) where
  module _ (blocks : ℕ) where
    abbrev passes : Mode → List Sym → Type 0
    passes mode xs = counted_from blocks mode xs ≡ Some end

    -- ---- patterns and actions

    module _ (head : Bool) where
      pattern_room : (n : ℕ) (x : Sym) (xs : List Sym) → step blocks (at.Pattern head n) x ≡ spend blocks n (at.Pattern head) → passes (at.Pattern head n) (x ∷ xs) → n < heaviest
      pattern_room n x xs is h = room_for blocks in_constraint (λ d i. at.Pattern head i) (pattern_counts blocks head) end 0 0 n x xs is h

      pattern_past : (n : ℕ) (x : Sym) (xs : List Sym) → step blocks (at.Pattern head n) x ≡ spend blocks n (at.Pattern head) → passes (at.Pattern head n) (x ∷ xs)
          → passes (at.Pattern head (suc n)) xs
      pattern_past n x xs is h = past_one blocks in_constraint (λ d i. at.Pattern head i) (pattern_counts blocks head) end 0 0 n x xs is h

      pattern_fits : (q : Pattern) (n : ℕ) (xs : List Sym) → PatternBinds q → n ≤ heaviest → passes (at.Pattern head n) (spell_pattern q xs) → n + pattern_weight q ≤ heaviest
      pattern_fits (bare w) n xs good le h = omega (arith, le)
      pattern_fits (constraint w rel x) n xs good le h =
          let rest = spell_expression x xs in
          let less = pattern_room n (mark (relation_mark rel)) rest (on_relation blocks head n rel) h in
          let later = fits blocks in_constraint (λ d i. at.Pattern head i) (pattern_counts blocks head) end x 0 (suc n) xs good (omega (arith, less))
          (pattern_past n (mark (relation_mark rel)) rest (on_relation blocks head n rel) h) in
          omega (arith, later)
      pattern_fits (group q) n xs good le h =
          let rest = spell_pattern q (mark m.Close ∷ xs) in
          let less = pattern_room n (mark m.Open) rest refl h in
          let later = pattern_fits q (suc n) (mark m.Close ∷ xs) good (omega (arith, less)) (pattern_past n (mark m.Open) rest refl h) in
          omega (arith, later)
      pattern_fits (ellipsis q) n xs good le h =
          let first = pattern_fits q n (mark m.Ellipsis ∷ xs) good.1 le h in
          let there = sym (counts_pattern blocks head q n (n + pattern_weight q) (mark m.Ellipsis ∷ xs) good.1 refl first) ∙ h in
          let less = pattern_room (n + pattern_weight q) (mark m.Ellipsis) xs refl there in
          omega (arith, less)
      pattern_fits (joined op q s) n xs good le h =
          let rest = spell_pattern s xs in
          let first = pattern_fits q n (mark (pattern_mark op) ∷ rest) good.2 le h in
          let there = sym (counts_pattern blocks head q n (n + pattern_weight q) (mark (pattern_mark op) ∷ rest) good.2 refl first) ∙ h in
          let less = pattern_room (n + pattern_weight q) (mark (pattern_mark op)) rest (on_joining blocks head (n + pattern_weight q) op) there in
          let later = pattern_fits s (suc (n + pattern_weight q)) xs good.3 (omega (arith, less))
          (pattern_past (n + pattern_weight q) (mark (pattern_mark op)) rest (on_joining blocks head (n + pattern_weight q) op) there) in
          omega (arith, later)

      is_pattern : (q : Pattern) (xs : List Sym) → IsPattern most q → passes (at.Pattern head 0) (spell_pattern q xs) → IsPattern heaviest q
      is_pattern q xs good h = let later = pattern_fits q 0 xs good.0 (omega arith) h in (good.0, omega (arith, later))

      is_action : (action : Action) (xs : List Sym) → IsAction most action → passes (at.Actions head) (spell_action action xs) → IsAction heaviest action
      is_action (set w x) xs good h =
          let later = fits blocks in_action (λ d i. at.Value head i) (value_counts blocks head) end x 0 0 (mark m.Semicolon ∷ xs) good.0 (omega arith) h in (good.0, omega (arith, later))
      is_action (global_set to w) xs good h = tt

      are_actions : (actions : List Action) (xs : List Sym) → Each (IsAction most) actions → passes (at.Actions head) (spell_all spell_action actions xs) → Each (IsAction heaviest) actions
      are_actions [] xs good h = tt
      are_actions (action ∷ actions) xs good h =
          let rest = spell_all spell_action actions xs in
          let here = is_action action rest good.0 h in
          (here, are_actions actions xs good.1 (sym (counts_action blocks head action rest here) ∙ h))

    -- ---- statements

    is_expression : (x : Expression) (xs : List Sym) → IsExpression most in_section x → passes (at.Expression 0 0) (spell_expression x xs) → IsExpression heaviest in_section x
    is_expression x xs good h =
        let later = fits blocks in_section at.Expression (section_counts blocks) end x 0 0 xs good.0 (omega arith) h in (good.0, omega (arith, later))

    value_is : (value : Option Expression) (xs : List Sym) → IfWritten (IsExpression most in_section) value
        → passes at.Statement (spell_option spell_value value (mark m.Semicolon ∷ xs)) → IfWritten (IsExpression heaviest in_section) value
    value_is None xs good h = tt
    value_is (Some x) xs good h = is_expression x (mark m.Semicolon ∷ xs) good h

    are_more : (es : List Expression) (n : ℕ) (xs : List Sym) → Each (IsExpression most in_section) es
        → passes (at.Expression 0 n) (spell_commas spell_expression es (mark m.Close ∷ mark m.Semicolon ∷ xs)) → Each (IsExpression heaviest in_section) es
    are_more [] n xs good h = tt
    are_more (x ∷ es) n xs good h =
        let rest = spell_commas spell_expression es (mark m.Close ∷ mark m.Semicolon ∷ xs) in
        let here = is_expression x rest good.0 h in
        (here, are_more es (weight x) xs good.1 (sym (counts_here blocks x rest here) ∙ h))

    are_arguments : (es : List Expression) (xs : List Sym) → Each (IsExpression most in_section) es
        → passes (at.Expression 0 0) (spell_separated spell_expression es (mark m.Close ∷ mark m.Semicolon ∷ xs)) → Each (IsExpression heaviest in_section) es
    are_arguments [] xs good h = tt
    are_arguments (x ∷ es) xs good h =
        let rest = spell_commas spell_expression es (mark m.Close ∷ mark m.Semicolon ∷ xs) in
        let here = is_expression x rest good.0 h in
        (here, are_more es (weight x) xs good.1 (sym (counts_here blocks x rest here) ∙ h))

    is_statement : (s : Statement) (xs : List Sym) → IsStatement most s → passes at.Statement (spell_statement s xs) → IsStatement heaviest s
    is_statement (local w size value) xs good h = (good.0, value_is value xs good.1 (sym (size_written blocks size (spell_option spell_value value (mark m.Semicolon ∷ xs))) ∙ h))
    is_statement (declare w n x) xs good h = (good.0, good.1, is_expression x (mark m.Semicolon ∷ xs) good.2 h)
    is_statement (assign (left_name w) x) xs good h = (good.0, is_expression x (mark m.Semicolon ∷ xs) good.1 h)
    is_statement (assign (left_bits w l c) x) xs good h = (good.0, is_expression x (mark m.Semicolon ∷ xs) good.1 h)
    is_statement (assign (left_star form to) x) xs good h =
        let rest = spell_value x (mark m.Semicolon ∷ xs) in
        let there = sym (counts_star blocks form (spell_expression to rest) ∙ begins_here blocks to rest) ∙ h in
        let first = is_expression to rest good.0.1 there in
        ((good.0.0, first), is_expression x (mark m.Semicolon ∷ xs) good.1 (sym (counts_here blocks to rest first) ∙ there))
    is_statement (goto (direct to)) xs good h = tt
    is_statement (goto (computed x)) xs good h = is_expression x (mark m.CloseBracket ∷ mark m.Semicolon ∷ xs) good h
    is_statement (branch x to) xs good h = is_expression x (word (quoted k.Goto) ∷ spell_direct to (mark m.Semicolon ∷ xs)) good h
    is_statement (call_to (calls to)) xs good h = tt
    is_statement (call_to (calls_computed x)) xs good h = is_expression x (mark m.CloseBracket ∷ mark m.Semicolon ∷ xs) good h
    is_statement (return x) xs good h = is_expression x (mark m.CloseBracket ∷ mark m.Semicolon ∷ xs) good h
    is_statement (build w) xs good h = tt
    is_statement (export what) xs good h = good
    is_statement (invoke w es) xs good h = (good.0, good.1, are_arguments es xs good.2 h)
    is_statement (label w) xs good h = tt

    are_statements : (body : List Statement) (xs : List Sym) → Each (IsStatement most) body → passes at.Statement (spell_all spell_statement body (mark m.CloseBrace ∷ xs))
        → Each (IsStatement heaviest) body
    are_statements [] xs good h = tt
    are_statements (s ∷ body) xs good h =
        let rest = spell_all spell_statement body (mark m.CloseBrace ∷ xs) in
        let here = is_statement s rest good.0 h in
        (here, are_statements body xs good.1 (sym (counts_statement blocks s rest here) ∙ h))

    -- ---- constructors and heads

    is_section_within : (n : ℕ) (section : Section) (xs : List Sym) → IsSection most section → passes (at.Pattern false n) (spell_section section xs) → IsSection heaviest section
    is_section_within n (statements body) xs good h = are_statements body xs good h
    is_section_within n unimplemented xs good h = tt

    actions_written : (head : Bool) (n : ℕ) (actions : Option (List Action)) (xs : List Sym) → IfWritten (Each (IsAction most)) actions
        → passes (at.Pattern head n) (spell_option spell_actions actions xs) → IfWritten (Each (IsAction heaviest)) actions
    actions_written head n None xs good h = tt
    actions_written head n (Some actions) xs good h = are_actions head actions (mark m.CloseBracket ∷ xs) good h

    -- behind the actions
    behind_actions : (head : Bool) (n : ℕ) (actions : Option (List Action)) (xs : List Sym) → IfWritten (Each (IsAction heaviest)) actions
        → passes (at.Pattern head n) (spell_option spell_actions actions xs) → (l : ℕ) × passes (at.Pattern head l) xs
    behind_actions head n None xs good h = (n, h)
    behind_actions head n (Some actions) xs good h = (0, sym (counts_actions blocks head actions (mark m.CloseBracket ∷ xs) good) ∙ h)

    is_constructor : (c : Constructor) (xs : List Sym) → IsConstructor most c → passes at.Items (spell_constructor c xs) → IsConstructor heaviest c
    is_constructor c xs good h =
        let section = spell_section c.section xs in
        let acts = spell_option spell_actions c.actions section in
        let shown = word (quoted k.Is) ∷ spell_pattern c.pattern acts in
        let there = sym (table_first blocks c.table (mark m.Colon ∷ spell_all spell_piece c.display shown) ∙ counts_display blocks c.display shown good.display) ∙ h in
        let pattern = is_pattern false c.pattern acts good.pattern there in
        let behind = sym (counts_pattern blocks false c.pattern 0 (pattern_weight c.pattern) acts pattern.0 (omega arith) pattern.1) ∙ there in
        let actions = actions_written false (pattern_weight c.pattern) c.actions section good.actions behind in
        let last = behind_actions false (pattern_weight c.pattern) c.actions section actions behind in
        record { display = good.display; pattern = pattern; actions = actions; section = is_section_within last.0 c.section xs good.section last.1 }

    is_head_by : (pattern : Option Pattern) (actions : Option (List Action)) (xs : List Sym) → IfWritten (IsPattern most) pattern → IfWritten (Each (IsAction most)) actions
        → passes (at.Pattern true 0) (spell_option spell_pattern pattern (spell_option spell_actions actions xs)) → IfWritten (IsPattern heaviest) pattern × IfWritten (Each (IsAction heaviest)) actions
    is_head_by None actions xs good acts h = (tt, actions_written true 0 actions xs acts h)
    is_head_by (Some q) actions xs good acts h =
        let rest = spell_option spell_actions actions xs in
        let pattern = is_pattern true q rest good h in
        (pattern, actions_written true (pattern_weight q) actions xs acts (sym (counts_pattern blocks true q 0 (pattern_weight q) rest pattern.0 (omega arith) pattern.1) ∙ h))

    is_head : (h : Head) (xs : List Sym) → IsHead most h
        → passes at.Head (spell_option spell_name h.table (mark m.Colon ∷ spell_option spell_pattern h.pattern (spell_option spell_actions h.actions (mark m.OpenBrace ∷ xs)))) → IsHead heaviest h
    is_head h xs good is =
        let rest = mark m.Colon ∷ spell_option spell_pattern h.pattern (spell_option spell_actions h.actions (mark m.OpenBrace ∷ xs)) in
        let both = is_head_by h.pattern h.actions (mark m.OpenBrace ∷ xs) good.pattern good.actions (sym (head_table blocks h.table rest) ∙ is) in
        record { pattern = both.0; actions = both.1 }

  -- ---- blocks

  block_room : (blocks : ℕ) (xs : List Sym) → counted_from blocks at.Items (word (quoted k.With) ∷ xs) ≡ Some end → blocks < suc deepest
  block_room blocks xs h =
      let some = some_behind (enter_block blocks) _ end h in
      let_through blocks (suc deepest) (suc blocks, at.Head) some.0 (nat_lt blocks (suc deepest)) refl some.1

  entered_head : (blocks : ℕ) (h : Head) (xs : List Sym) → IsHead most h → counted_from blocks at.Items (spell_head h xs) ≡ Some end → (blocks < suc deepest) × IsHead heaviest h
  entered_head blocks h xs good is =
      let rest = spell_option spell_name h.table (mark m.Colon ∷ spell_option spell_pattern h.pattern (spell_option spell_actions h.actions (mark m.OpenBrace ∷ xs))) in
      let less = block_room blocks rest is in (
        less,
        is_head (suc blocks) h xs good
            (sym (stepped blocks (suc blocks) at.Items at.Head (word (quoted k.With)) rest (chosen blocks (suc deepest) (suc blocks, at.Head) (nat_lt blocks (suc deepest)) refl less)) ∙ is),
      )

  is_inside : (inside : Inside) (blocks deep left : ℕ) (xs : List Sym) → IsInside most deep inside → blocks + left ≡ suc deepest
      → counted_from blocks at.Items (spell_inside inside xs) ≡ Some end → IsInside heaviest left inside
  is_inside nothing blocks deep left xs good sum is = tt
  is_inside (constructor_then c more) blocks deep left xs good sum is =
      let here = is_constructor blocks c (spell_inside more xs) good.0 is in
      (here, is_inside more blocks deep left xs good.1 sum (sym (counts_constructor blocks c (spell_inside more xs) here) ∙ is))
  is_inside (block_then h inside more) blocks zero left xs good sum is = absurd good
  is_inside (block_then h inside more) blocks (suc deep) zero xs good sum is =
      let less = (entered_head blocks h (spell_inside inside (mark m.CloseBrace ∷ spell_inside more xs)) good.0 is).0 in absurd (omega (arith, less, sum))
  is_inside (block_then h inside more) blocks (suc deep) (suc left) xs good sum is =
      let behind = mark m.CloseBrace ∷ spell_inside more xs in
      let head = entered_head blocks h (spell_inside inside behind) good.0 is in
      let there = sym (enters blocks h (spell_inside inside behind) head.0 head.1) ∙ is in
      let here = is_inside inside (suc blocks) deep left behind good.1 (omega (arith, sum)) there in
      (head.1, here, is_inside more blocks (suc deep) (suc left) xs good.2 sum (sym (counts_inside inside (suc blocks) left behind here (omega (arith, sum))) ∙ there))

  -- ---- items

  is_item : (deep : ℕ) (item : Item) (xs : List Sym) → IsItem most deep item → counted_from 0 at.Items (spell_item item xs) ≡ Some end → IsItem heaviest deepest item
  is_item deep (define d) xs good is = good
  is_item deep (attach_list kind names members) xs good is = good
  is_item deep (attach_one kind names member) xs good is = good
  is_item deep (macro d) xs good is = are_statements 0 d.body xs good (sym (counts_parameters 0 d.parameters (mark m.Close ∷ spell_body d.body xs)) ∙ is)
  is_item deep (constructor c) xs good is = is_constructor 0 c xs good is
  is_item deep (block h inside) xs good is =
      let behind = mark m.CloseBrace ∷ xs in
      let head = entered_head 0 h (spell_inside inside behind) good.0 is in
      (head.1, is_inside inside 1 deep deepest behind good.1 refl (sym (enters 0 h (spell_inside inside behind) head.0 head.1) ∙ is))

  are_items : (deep : ℕ) (items : List Item) → AreItemsWithin most deep items → counted (spell items) ≡ Some end → AreItems items
  are_items deep [] good is = tt
  are_items deep (item ∷ items) good is =
      let here = is_item deep item (spell_all spell_item items []) good.0 is in
      (here, are_items deep items good.1 (sym (counts_item item (spell_all spell_item items []) here) ∙ is))

pub within_by_count : CountedTreesAreWithin
within_by_count most deep items end good is = are_items most end deep items good is
