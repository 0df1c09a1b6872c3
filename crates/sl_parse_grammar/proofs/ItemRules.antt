-- The rules of blocks, items and whole specifications.
use Rattle.std.proofs.Common.{◌≡◌, ℕ, zero, suc, ◌<◌, ◌≤◌, inl, inr, true, false, List, [], ◌∷◌, length, Option, None, Some, Ok, Err, Result, refl, ap, sym, ◌∙◌, subst, arith}
use Rattle.sl_ast.specs.Spelling.{Spelling, name, keyword, kind_word, spell_name, spell_option, spell_all, spell_separated, spell_names, spell_definition, spell_member, spell_body, spell_piece, spell_pattern, spell_actions, spell_section, spell_constructor, spell_head, spell_inside, spell_macro, spell_item, spell}
use Rattle.sl_ast.specs.Symbols.{quoted, Sym, word, mark}
use Rattle.sl_ast.specs.Trees.{Name, Member, member_word, member_text, member_integer, member_negative, Names, Definition, Constructor, Head, Inside, nothing, constructor_then, block_then, Macro, Item, define, attach_list, attach_one, macro, constructor, block}
use Rattle.sl_ast.specs.Validity.{Each, IsStatement, IsDefinition, IsMember, IsConstructor, IsHead, IsInside, IsItem, AreItemsWithin}
use Rattle.sl_ast.specs.declared.definitions.AttachKind.{AttachKind}
use Rattle.sl_ast.specs.declared.symbols.Keyword.TheVariants as k
use Rattle.sl_ast.specs.declared.symbols.Mark.TheVariants as m
use Rattle.sl_parse_grammar.specs.Definitions.{definition, names, attach_kind, member}
use Rattle.sl_parse_grammar.specs.Items.{constructor_here, head, inside_by, inside_from, inside, block_at, define_here, attach_here, macro_here, item_by, item, is_there, value_of, specification_within}
use Rattle.sl_parse_grammar.specs.Lists.{many, listed}
use Rattle.sl_parse_grammar.specs.Parallel.{Local}
use Rattle.sl_parse_grammar.specs.Reader.{Fault, nesting, Input, at, first, Outcome, Reader, ◌>>=◌, and_then, pure, peek, is_mark, same_mark, same_keyword, expect, expect_keyword, name_here}
use Rattle.sl_parse_grammar.specs.Statements.{until, body}
use Rattle.sl_parse_grammar.proofs.BodyRules.{body_rule, long_body, bracket_ends, long_separated}
use Rattle.sl_parse_grammar.proofs.ConstructorRules.{constructor_rule, long_constructor, head_rule, long_head}
use Rattle.sl_parse_grammar.proofs.DefinitionRules.{definition_is, definition_ok, definition_local, attach_kind_is, attach_kind_ok, attach_kind_local, names_rule, member_rule, members_rule, each_free, long_names, long_definition, long_member}
use Rattle.sl_parse_grammar.proofs.ListsTaken.{Takes, many_ok}
use Rattle.sl_parse_grammar.proofs.LocalSteps.{local_then, local_pure, local_fault, local_peek, local_refuse, local_look, local_expect, local_expect_keyword, local_name, local_rounds, same_then, same_else, Shrinks}
use Rattle.sl_parse_grammar.proofs.PartRules.{symbol_then, tree_then, Free, name_rule, wrap_ok, wrap_local}
use Rattle.sl_parse_grammar.proofs.Rules.{Rule, Any, Ends, Separated, many_rule, long_all, listed_is, listed_ok, listed_local, rule_shrinks}
use Rattle.sl_parse_grammar.proofs.Taken.{then_ok, along, look_ok, expect_ok, expect_keyword_ok, name_ok}

-- ---- blocks

abbrev pub Block : Type 0
Block = Head × Inside

abbrev pub spell_block : Spelling Block
spell_block b rest = spell_head b.0 (spell_inside b.1 (mark m.CloseBrace ∷ rest))

long_inside : (x : Inside) (rest : List Sym) → length rest ≤ length (spell_inside x rest)
long_inside nothing rest = omega arith
long_inside (constructor_then c more) rest = omega (arith, long_constructor c (spell_inside more rest), long_inside more rest)
long_inside (block_then h x more) rest =
    omega (arith, long_head h (spell_inside x (mark m.CloseBrace ∷ spell_inside more rest)), long_inside x (mark m.CloseBrace ∷ spell_inside more rest), long_inside more rest)

long_block : (b : Block) (rest : List Sym) → length rest < length (spell_block b rest)
long_block b rest = omega (arith, long_head b.0 (spell_inside b.1 (mark m.CloseBrace ∷ rest)), long_inside b.1 (mark m.CloseBrace ∷ rest))

nothing_is : (one : Reader Constructor) (inner : Reader Block) (n : ℕ) (rest : List Sym) (r : ℕ) → inside_from one inner (suc n) (at (mark m.CloseBrace ∷ rest) r) ≡ Ok (nothing, at (mark m.CloseBrace ∷ rest) r)
unfolding inside_from same_mark
nothing_is one inner n rest r = refl

block_step : (one : Reader Constructor) (inner : Reader Block) (n : ℕ) (h : Head) (x more : Inside) (xs rest : List Sym) (r : ℕ) → inner (at (spell_block (h, x) xs) r) ≡ Ok ((h, x), at xs r)
    → inside_from one inner n (at xs r) ≡ Ok (more, at rest r) → inside_from one inner (suc n) (at (spell_block (h, x) xs) r) ≡ Ok (block_then h x more, at rest r)
unfolding inside_from
block_step one inner n h x more xs rest r e f = rw (e, f) refl

-- ---- definitions and attached lists

define_is : (d : Definition) (rest : List Sym) (r : ℕ) → IsDefinition d → define_here (at (spell_item (define d) rest) r) ≡ Ok (define d, at rest r)
unfolding define_here expect expect_keyword same_mark same_keyword
define_is d rest r good = rw (definition_is d rest r good) refl

define_local : Local Item define_here
unfolding define_here
define_local = local_then (expect_keyword k.Define) _ (local_expect_keyword k.Define) (λ _. local_then definition _ definition_local (λ d.
    local_then (expect m.Semicolon) _ (local_expect m.Semicolon) (λ _. local_pure (define d))))

attach_list_is : (kind : AttachKind) (ws : Names) (ms : List Member) (rest : List Sym) (r : ℕ) → Each IsMember ms
    → attach_here (at (spell_item (attach_list kind ws ms) rest) r) ≡ Ok (attach_list kind ws ms, at rest r)
unfolding attach_here expect expect_keyword same_mark same_keyword
attach_list_is kind ws ms rest r good =
    let after = mark m.OpenBracket ∷ spell_all spell_member ms (mark m.CloseBracket ∷ mark m.Semicolon ∷ rest) in
    rw (
      attach_kind_is kind (spell_names ws after) r,
      names_rule.complete ws after r tt tt,
      members_rule.complete ms (mark m.CloseBracket ∷ mark m.Semicolon ∷ rest) r good (bracket_ends (mark m.Semicolon ∷ rest)),
    ) refl

member_no_bracket : (x : Member) (rest : List Sym) → is_mark m.OpenBracket (first (spell_member x rest)) ≡ false
unfolding same_mark
member_no_bracket (member_word w) rest = refl
member_no_bracket (member_text t) rest = refl
member_no_bracket (member_integer n) rest = refl
member_no_bracket (member_negative n) rest = refl

attach_one_is : (kind : AttachKind) (ws : Names) (x : Member) (rest : List Sym) (r : ℕ) → IsMember x → attach_here (at (spell_item (attach_one kind ws x) rest) r) ≡ Ok (attach_one kind ws x, at rest r)
unfolding attach_here expect expect_keyword same_mark same_keyword
attach_one_is kind ws x rest r good =
    let after = spell_member x (mark m.Semicolon ∷ rest) in
    rw (attach_kind_is kind (spell_names ws after) r, names_rule.complete ws after r tt tt, member_no_bracket x (mark m.Semicolon ∷ rest), member_rule.complete x (mark m.Semicolon ∷ rest) r good tt) refl

attach_local : Local Item attach_here
unfolding attach_here
attach_local = local_then (expect_keyword k.Attach) _ (local_expect_keyword k.Attach) (λ _. local_then attach_kind _ attach_kind_local (λ kind. local_then names _ names_rule.here (λ ws.
    local_look (is_mark m.OpenBracket) _ _
    (local_then (expect m.OpenBracket) _ (local_expect m.OpenBracket) (λ _. local_then (many (until m.CloseBracket) member) _ members_rule.here (λ members.
    local_then (expect m.CloseBracket) _ (local_expect m.CloseBracket) (λ _. local_then (expect m.Semicolon) _ (local_expect m.Semicolon) (λ _. local_pure (attach_list kind ws members))))))
    (local_then member _ member_rule.here (λ x. local_then (expect m.Semicolon) _ (local_expect m.Semicolon) (λ _. local_pure (attach_one kind ws x)))))))

-- ---- macros

name_separated : Separated spell_name Any
name_separated = record { begins = λ w rest. refl; comma = λ rest. tt; close = λ rest. tt }

pub parameters_ok : (i j : Input) (ws : List Name) → listed name_here i ≡ Ok (ws, j) → Takes (spell_separated spell_name) (Each Free) i ws j
parameters_ok = listed_ok spell_name Free name_here (λ i j w h. (let took = name_ok i j w h in record { tokens = took.tokens; room = took.room; good = tt }))

-- ---- whole specifications

long_item : (x : Item) (rest : List Sym) → length rest < length (spell_item x rest)
long_item (define d) rest = omega (arith, long_definition d (mark m.Semicolon ∷ rest))
long_item (attach_list kind ws ms) rest =
    let after = mark m.OpenBracket ∷ spell_all spell_member ms (mark m.CloseBracket ∷ mark m.Semicolon ∷ rest) in
    omega (arith, long_names ws after, long_all spell_member long_member ms (mark m.CloseBracket ∷ mark m.Semicolon ∷ rest))
long_item (attach_one kind ws x) rest = omega (arith, long_names ws (spell_member x (mark m.Semicolon ∷ rest)), long_member x (mark m.Semicolon ∷ rest))
long_item (macro d) rest = omega (arith, long_separated spell_name (λ w zs. omega arith) d.parameters (mark m.Close ∷ spell_body d.body rest), long_body d.body rest)
long_item (constructor c) rest = long_constructor c rest
long_item (block h x) rest = long_block (h, x) rest

there : (x : Item) (rest : List Sym) → length rest < length (spell_item x rest) → is_there (first (spell_item x rest)) ≡ true
there x rest h = some (spell_item x rest) h
  where
    some : (xs : List Sym) → length rest < length xs → is_there (first xs) ≡ true
    some [] h = absurd (omega arith)
    some (x ∷ xs) h = refl

nothing_left : (xs : List Sym) → is_there (first xs) ≡ false → xs ≡ []
nothing_left [] h = refl
nothing_left (x ∷ xs) h = absurd (cc)

value_or : List Item → Result (List Item) Fault → List Item
value_or d (Ok xs) = xs
value_or d (Err e) = d

-- ---- within a limit of operators and opening brackets

module _ (most : ℕ) where
  -- a block that stands where blocks may stand inside one another so many times more
  abbrev pub IsBlock : ℕ → Block → Type 0
  IsBlock zero b = ⊥
  IsBlock (suc n) b = IsHead most b.0 × IsInside most n b.1

  -- ---- what stands inside is read

  abbrev InsideIs : Inside → Type 0
  InsideIs x = (d n : ℕ) (rest : List Sym) (r : ℕ) → IsInside most d x → length (spell_inside x (mark m.CloseBrace ∷ rest)) < n
      → inside_from (constructor_here most) (block_at most d) n (at (spell_inside x (mark m.CloseBrace ∷ rest)) r) ≡ Ok (x, at (mark m.CloseBrace ∷ rest) r)

  -- the first symbol of a constructor is a name or a colon
  begins_constructor : (p : Reader Inside) (inner : Reader Block) (c : Constructor) (rest : List Sym)
      → (is_mark m.CloseBrace (first (spell_constructor c rest)) ≡ false)
      × (inside_by (constructor_here most) inner p (first (spell_constructor c rest)) ≡ (constructor_here most >>= (λ c. p >>= (λ more. pure (constructor_then c more)))))
  unfolding same_mark
  begins_constructor p inner c rest = by_table c.table (spell_all spell_piece c.display (keyword k.Is ∷ spell_pattern c.pattern (spell_option spell_actions c.actions (spell_section c.section rest))))
    where
      by_table : (table : Option Name) (ys : List Sym) → (is_mark m.CloseBrace (first (spell_option spell_name table (mark m.Colon ∷ ys))) ≡ false)
          × (inside_by (constructor_here most) inner p (first (spell_option spell_name table (mark m.Colon ∷ ys))) ≡ (constructor_here most >>= (λ c. p >>= (λ more. pure (constructor_then c more)))))
      by_table None ys = (refl, refl)
      by_table (Some w) ys = (refl, refl)

  constructor_step : (inner : Reader Block) (n : ℕ) (c : Constructor) (more : Inside) (xs rest : List Sym) (r : ℕ) → IsConstructor most c
      → inside_from (constructor_here most) inner n (at xs r) ≡ Ok (more, at rest r) → inside_from (constructor_here most) inner (suc n) (at (spell_constructor c xs) r) ≡ Ok (constructor_then c more, at rest r)
  unfolding inside_from
  constructor_step inner n c more xs rest r good h =
      let begins = begins_constructor (inside_from (constructor_here most) inner n) inner c xs in
      rw (begins.0, begins.1, (constructor_rule most).complete c xs r good tt, h) refl

  block_is : (d : ℕ) (h : Head) (x : Inside) (rest : List Sym) (r : ℕ) → IsHead most h → IsInside most d x → InsideIs x → block_at most (suc d) (at (spell_block (h, x) rest) r) ≡ Ok ((h, x), at rest r)
  unfolding block_at expect same_mark
  block_is d h x rest r good inner ih =
      let xs = spell_inside x (mark m.CloseBrace ∷ rest) in
      rw ((head_rule most).complete h xs r good tt, ih d (suc (length xs)) rest r inner (omega arith)) refl

  inside_is : (x : Inside) → InsideIs x
  inside_is nothing d zero rest r good less = absurd (omega arith)
  inside_is nothing d (suc n) rest r good less = nothing_is (constructor_here most) (block_at most d) n rest r
  inside_is (constructor_then c more) d zero rest r good less = absurd (omega arith)
  inside_is (constructor_then c more) d (suc n) rest r good less =
      let after = spell_inside more (mark m.CloseBrace ∷ rest) in
      let short = long_constructor c after in
      constructor_step (block_at most d) n c more after (mark m.CloseBrace ∷ rest) r good.0 (inside_is more d n rest r good.1 (omega arith))
  inside_is (block_then h x more) zero n rest r good less = absurd good
  inside_is (block_then h x more) (suc d) zero rest r good less = absurd (omega arith)
  inside_is (block_then h x more) (suc d) (suc n) rest r good less =
      let after = spell_inside more (mark m.CloseBrace ∷ rest) in
      let short = long_block (h, x) after in
      block_step (constructor_here most) (block_at most (suc d)) n h x more after (mark m.CloseBrace ∷ rest) r (block_is d h x after r good.0 good.1 (inside_is x)) (inside_is more (suc d) n rest r good.2 (omega arith))

  -- ---- what was read inside

  abbrev pub SoundBlock : ℕ → Type 0
  SoundBlock d = (i j : Input) (b : Block) → block_at most d i ≡ Ok (b, j) → Takes spell_block (IsBlock d) i b j

  one_block : (d : ℕ) (b : Block) (more : Inside) → IsBlock d b → IsInside most d more → IsInside most d (block_then b.0 b.1 more)
  one_block zero b more good later = absurd good
  one_block (suc d) b more good later = (good.0, good.1, later)

  inside_by_ok : (d n : ℕ) → SoundBlock d → ((i j : Input) (x : Inside) → inside_from (constructor_here most) (block_at most d) n i ≡ Ok (x, j) → Takes spell_inside (IsInside most d) i x j)
      → (o : Option Sym) (i j : Input) (x : Inside) → inside_by (constructor_here most) (block_at most d) (inside_from (constructor_here most) (block_at most d) n) o i ≡ Ok (x, j) → Takes spell_inside (IsInside most d) i x j
  inside_by_ok d n sound later (Some (word (quoted k.With))) i j x h =
      let a = then_ok (block_at most d i) _ x j h in
      let b = then_ok (inside_from (constructor_here most) (block_at most d) n a.1) _ x j a.3 in
      let one = sound i a.1 a.0 a.2 in
      let rest = later a.1 b.1 b.0 b.2 in
      along (λ y l. Takes spell_inside (IsInside most d) i y l) (block_then a.0.0 a.0.1 b.0) x b.1 j b.3 (record {
        tokens = tree_then spell_block (IsBlock d) i a.0 a.1 _ one rest.tokens;
        good = one_block d a.0 b.0 one.good rest.good;
      })
  inside_by_ok d n sound later o i j x h =
      let a = then_ok (constructor_here most i) _ x j h in
      let b = then_ok (inside_from (constructor_here most) (block_at most d) n a.1) _ x j a.3 in
      let one = (constructor_rule most).sound i a.1 a.0 a.2 in
      let rest = later a.1 b.1 b.0 b.2 in
      along (λ y l. Takes spell_inside (IsInside most d) i y l) (constructor_then a.0 b.0) x b.1 j b.3 (record {
        tokens = tree_then spell_constructor (IsConstructor most) i a.0 a.1 _ one rest.tokens;
        good = (one.good, rest.good);
      })

  pub inside_ok : (d : ℕ) → SoundBlock d → (n : ℕ) (i j : Input) (x : Inside) → inside_from (constructor_here most) (block_at most d) n i ≡ Ok (x, j) → Takes spell_inside (IsInside most d) i x j
  unfolding inside_from
  inside_ok d sound zero i j x h = absurd (cc)
  inside_ok d sound (suc n) i j x h = elim (look_ok (is_mark m.CloseBrace) _ _ i (Ok (x, j)) h) [
    | inl f ↦ along (λ y l. Takes spell_inside (IsInside most d) i y l) nothing x i j f.1 (record { tokens = refl; good = tt })
    | inr f ↦ inside_by_ok d n sound (inside_ok d sound n) (first i.rest) i j x f.1
  ]

  pub block_ok : (d : ℕ) → SoundBlock d
  unfolding block_at
  block_ok zero i j b h = absurd (cc)
  block_ok (suc d) i j b h =
      let a = then_ok (head most i) _ b j h in
      let c = then_ok (inside (constructor_here most) (block_at most d) a.1) _ b j a.3 in
      let e = then_ok (expect m.CloseBrace c.1) _ b j c.3 in
      let top = (head_rule most).sound i a.1 a.0 a.2 in
      let found = inside_ok d (block_ok d) (suc (length a.1.rest)) a.1 c.1 c.0 c.2 in
      along (λ y l. Takes spell_block (IsBlock (suc d)) i y l) (a.0, c.0) b e.1 j e.3 (record {
        tokens = tree_then spell_head (IsHead most) i a.0 a.1 _ top (tree_then spell_inside (IsInside most d) a.1 c.0 c.1 _ found (expect_ok m.CloseBrace c.1 e.1 e.0 e.2).tokens);
        good = (top.good, found.good);
      })

  -- ---- local

  constructor_shrinks : Shrinks (constructor_here most)
  constructor_shrinks = rule_shrinks spell_constructor (IsConstructor most) Any (constructor_here most) (constructor_rule most) long_constructor

  block_shrinks : (d : ℕ) → Shrinks (block_at most d)
  block_shrinks d i j b h =
      let took = block_ok d i j b h in
      let same = ap length took.tokens in
      omega (arith, long_block b j.rest)

  inside_by_local : (inner : Reader Block) (later : Reader Inside) → Local Block inner → Local Inside later → (o : Option Sym) → Local Inside (inside_by (constructor_here most) inner later o)
  inside_by_local inner later here there (Some (word (quoted k.With))) = local_then inner _ here (λ b. local_then later _ there (λ more. local_pure (block_then b.0 b.1 more)))
  inside_by_local inner later here there o = local_then (constructor_here most) _ (constructor_rule most).here (λ c. local_then later _ there (λ more. local_pure (constructor_then c more)))

  inside_from_local : (inner : Reader Block) → Local Block inner → (n : ℕ) → Local Inside (inside_from (constructor_here most) inner n)
  unfolding inside_from
  inside_from_local inner here zero = local_refuse
  inside_from_local inner here (suc n) =
      local_look (is_mark m.CloseBrace) (pure nothing) (peek >>= inside_by (constructor_here most) inner (inside_from (constructor_here most) inner n)) (local_pure nothing)
      (local_peek (inside_by (constructor_here most) inner (inside_from (constructor_here most) inner n)) (inside_by_local inner (inside_from (constructor_here most) inner n) here (inside_from_local inner here n)))

  same_by : (inner : Reader Block) → Shrinks inner → (p q : Reader Inside) (i : Input) → ((j : Input) → length j.rest < length i.rest → p j ≡ q j) → (o : Option Sym)
      → inside_by (constructor_here most) inner p o i ≡ inside_by (constructor_here most) inner q o i
  same_by inner shrinks p q i same (Some (word (quoted k.With))) =
      same_then (inner i) _ _ (λ b j e. ap (λ s. and_then s (λ more l. Ok (block_then b.0 b.1 more, l))) (same j (shrinks i j b e)))
  same_by inner shrinks p q i same o =
      same_then (constructor_here most i) _ _ (λ c j e. ap (λ s. and_then s (λ more l. Ok (constructor_then c more, l))) (same j (constructor_shrinks i j c e)))

  inside_enough : (inner : Reader Block) → Shrinks inner → (l n : ℕ) (i : Input) → length i.rest < l → length i.rest < n → inside_from (constructor_here most) inner l i ≡ inside_from (constructor_here most) inner n i
  unfolding inside_from
  inside_enough inner shrinks zero n i less more = absurd (omega arith)
  inside_enough inner shrinks (suc l) zero i less more = absurd (omega arith)
  inside_enough inner shrinks (suc l) (suc n) i less more =
      same_else (is_mark m.CloseBrace (first i.rest)) (pure nothing) _ _ i
      (same_by inner shrinks (inside_from (constructor_here most) inner l) (inside_from (constructor_here most) inner n) i (λ j short. inside_enough inner shrinks l n j (omega arith) (omega arith)) (first i.rest))

  inside_local : (inner : Reader Block) → Local Block inner → Shrinks inner → Local Inside (inside (constructor_here most) inner)
  inside_local inner here shrinks = local_rounds (inside_from (constructor_here most) inner) (inside_from_local inner here) (inside_enough inner shrinks)

  block_local : (d : ℕ) → Local Block (block_at most d)
  unfolding block_at
  block_local zero = local_fault nesting
  block_local (suc d) =
      local_then (head most) _ (head_rule most).here (λ h. local_then (inside (constructor_here most) (block_at most d)) _ (inside_local (block_at most d) (block_local d) (block_shrinks d))
      (λ found. local_then (expect m.CloseBrace) _ (local_expect m.CloseBrace) (λ _. local_pure (h, found))))

  -- ---- with blocks inside a block at most so many times

  module _ (deep : ℕ) where
    define_ok : (i j : Input) (x : Item) → define_here i ≡ Ok (x, j) → Takes spell_item (IsItem most deep) i x j
    unfolding define_here
    define_ok i j x h =
        let a = then_ok (expect_keyword k.Define i) _ x j h in
        let b = then_ok (definition a.1) _ x j a.3 in
        let c = then_ok (expect m.Semicolon b.1) _ x j b.3 in
        let d = definition_ok a.1 b.1 b.0 b.2 in
        along (λ y l. Takes spell_item (IsItem most deep) i y l) (define b.0) x c.1 j c.3 (record {
          tokens = symbol_then i (keyword k.Define) a.1 _ (expect_keyword_ok k.Define i a.1 a.0 a.2)
              (tree_then spell_definition IsDefinition a.1 b.0 b.1 _ d (expect_ok m.Semicolon b.1 c.1 c.0 c.2).tokens);
          good = d.good;
        })

    attach_ok : (i j : Input) (x : Item) → attach_here i ≡ Ok (x, j) → Takes spell_item (IsItem most deep) i x j
    unfolding attach_here
    attach_ok i j x h =
        let a = then_ok (expect_keyword k.Attach i) _ x j h in
        let b = then_ok (attach_kind a.1) _ x j a.3 in
        let c = then_ok (names b.1) _ x j b.3 in
        let word_then = expect_keyword_ok k.Attach i a.1 a.0 a.2 in
        let kind = attach_kind_ok a.1 b.1 b.0 b.2 in
        let ws = names_rule.sound b.1 c.1 c.0 c.2 in
        elim (look_ok (is_mark m.OpenBracket) _ _ c.1 (Ok (x, j)) c.3) [
          | inl f ↦
              let d = then_ok (expect m.OpenBracket c.1) _ x j f.1 in
              let e = then_ok (many (until m.CloseBracket) member d.1) _ x j d.3 in
              let g = then_ok (expect m.CloseBracket e.1) _ x j e.3 in
              let l = then_ok (expect m.Semicolon g.1) _ x j g.3 in
              let ms = members_rule.sound d.1 e.1 e.0 e.2 in
              along (λ y n. Takes spell_item (IsItem most deep) i y n) (attach_list b.0 c.0 e.0) x l.1 j l.3 (record {
                tokens = symbol_then i (keyword k.Attach) a.1 _ word_then (symbol_then a.1 (keyword (kind_word b.0)) b.1 _ kind (tree_then spell_names Free b.1 c.0 c.1 _ ws
                    (symbol_then c.1 (mark m.OpenBracket) d.1 _ (expect_ok m.OpenBracket c.1 d.1 d.0 d.2) (tree_then (spell_all spell_member) (Each IsMember) d.1 e.0 e.1 _ ms
                    (symbol_then e.1 (mark m.CloseBracket) g.1 _ (expect_ok m.CloseBracket e.1 g.1 g.0 g.2) (expect_ok m.Semicolon g.1 l.1 l.0 l.2).tokens)))));
                good = ms.good;
              })
          | inr f ↦
              let d = then_ok (member c.1) _ x j f.1 in
              let e = then_ok (expect m.Semicolon d.1) _ x j d.3 in
              let one = member_rule.sound c.1 d.1 d.0 d.2 in
              along (λ y n. Takes spell_item (IsItem most deep) i y n) (attach_one b.0 c.0 d.0) x e.1 j e.3 (record {
                tokens = symbol_then i (keyword k.Attach) a.1 _ word_then (symbol_then a.1 (keyword (kind_word b.0)) b.1 _ kind (tree_then spell_names Free b.1 c.0 c.1 _ ws
                    (tree_then spell_member IsMember c.1 d.0 d.1 _ one (expect_ok m.Semicolon d.1 e.1 e.0 e.2).tokens)));
                good = one.good;
              })
        ]

    macro_is : (d : Macro) (rest : List Sym) (r : ℕ) → Each (IsStatement most) d.body → macro_here most (at (spell_macro d rest) r) ≡ Ok (macro d, at rest r)
    unfolding macro_here expect expect_keyword same_mark same_keyword name_here
    macro_is d rest r good =
        rw (
          listed_is spell_name Free Any name_here name_rule (λ w zs. omega arith) name_separated d.parameters (spell_body d.body rest) r (each_free d.parameters),
          (body_rule most).complete d.body rest r good tt,
        ) refl

    macro_ok : (i j : Input) (x : Item) → macro_here most i ≡ Ok (x, j) → Takes spell_item (IsItem most deep) i x j
    unfolding macro_here
    macro_ok i j x h =
        let a = then_ok (expect_keyword k.Macro i) _ x j h in
        let b = then_ok (name_here a.1) _ x j a.3 in
        let c = then_ok (expect m.Open b.1) _ x j b.3 in
        let d = then_ok (listed name_here c.1) _ x j c.3 in
        let e = then_ok (expect m.Close d.1) _ x j d.3 in
        let f = then_ok (body most e.1) _ x j e.3 in
        let found = (body_rule most).sound e.1 f.1 f.0 f.2 in
        along (λ y l. Takes spell_item (IsItem most deep) i y l) (macro (record { name = b.0; parameters = d.0; body = f.0 })) x f.1 j f.3 (record {
          tokens = symbol_then i (keyword k.Macro) a.1 _ (expect_keyword_ok k.Macro i a.1 a.0 a.2) (symbol_then a.1 (name b.0) b.1 _ (name_ok a.1 b.1 b.0 b.2) (symbol_then b.1 (mark m.Open) c.1 _ (expect_ok m.Open b.1 c.1 c.0 c.2)
              (tree_then (spell_separated spell_name) (Each Free) c.1 d.0 d.1 _ (parameters_ok c.1 d.1 d.0 d.2) (symbol_then d.1 (mark m.Close) e.1 _ (expect_ok m.Close d.1 e.1 e.0 e.2) found.tokens))));
          good = found.good;
        })

    macro_local : Local Item (macro_here most)
    unfolding macro_here
    macro_local = local_then (expect_keyword k.Macro) _ (local_expect_keyword k.Macro) (λ _. local_then name_here _ local_name (λ w. local_then (expect m.Open) _ (local_expect m.Open) (λ _.
        local_then (listed name_here) _ (listed_local name_here local_name (rule_shrinks spell_name Free Any name_here name_rule (λ w rest. omega arith))) (λ parameters.
        local_then (expect m.Close) _ (local_expect m.Close) (λ _. local_then (body most) _ (body_rule most).here (λ found. local_pure (macro (record { name = w; parameters = parameters; body = found }))))))))

    -- ---- items

    by_constructor : (c : Constructor) (rest : List Sym) → item_by most deep (first (spell_constructor c rest)) ≡ (constructor_here most >>= (λ c. pure (constructor c)))
    by_constructor c rest = by_table c.table (spell_all spell_piece c.display (keyword k.Is ∷ spell_pattern c.pattern (spell_option spell_actions c.actions (spell_section c.section rest))))
      where
        by_table : (table : Option Name) (ys : List Sym) → item_by most deep (first (spell_option spell_name table (mark m.Colon ∷ ys))) ≡ (constructor_here most >>= (λ c. pure (constructor c)))
        by_table None ys = refl
        by_table (Some w) ys = refl

    item_is : (x : Item) (rest : List Sym) (r : ℕ) → IsItem most deep x → item most deep (at (spell_item x rest) r) ≡ Ok (x, at rest r)
    unfolding item
    item_is (define d) rest r good = define_is d rest r good
    item_is (attach_list kind ws ms) rest r good = attach_list_is kind ws ms rest r good
    item_is (attach_one kind ws x) rest r good = attach_one_is kind ws x rest r good
    item_is (macro d) rest r good = macro_is d rest r good
    item_is (constructor c) rest r good = rw (by_constructor c rest, (constructor_rule most).complete c rest r good tt) refl
    item_is (block h x) rest r good = rw (block_is deep h x rest r good.0 good.1 (inside_is x)) refl

    item_by_ok : (o : Option Sym) (i j : Input) (x : Item) → item_by most deep o i ≡ Ok (x, j) → Takes spell_item (IsItem most deep) i x j
    item_by_ok (Some (word (quoted k.Define))) i j x h = define_ok i j x h
    item_by_ok (Some (word (quoted k.Attach))) i j x h = attach_ok i j x h
    item_by_ok (Some (word (quoted k.Macro))) i j x h = macro_ok i j x h
    item_by_ok (Some (word (quoted k.With))) i j x h =
        wrap_ok spell_block (IsBlock (suc deep)) spell_item (IsItem most deep) (block_at most (suc deep)) (λ b. block b.0 b.1) (block_ok (suc deep)) (λ i j b t. record { tokens = t.tokens; good = t.good }) i j x h
    item_by_ok o i j x h = wrap_ok spell_constructor (IsConstructor most) spell_item (IsItem most deep) (constructor_here most) constructor (constructor_rule most).sound (λ i j c t. record { tokens = t.tokens; good = t.good }) i j x h

    pub item_ok : (i j : Input) (x : Item) → item most deep i ≡ Ok (x, j) → Takes spell_item (IsItem most deep) i x j
    unfolding item
    item_ok i j x h = item_by_ok (first i.rest) i j x h

    item_by_local : (o : Option Sym) → Local Item (item_by most deep o)
    item_by_local (Some (word (quoted k.Define))) = define_local
    item_by_local (Some (word (quoted k.Attach))) = attach_local
    item_by_local (Some (word (quoted k.Macro))) = macro_local
    item_by_local (Some (word (quoted k.With))) = wrap_local (block_at most (suc deep)) (λ b. block b.0 b.1) (block_local (suc deep))
    item_by_local o = wrap_local (constructor_here most) constructor (constructor_rule most).here

    item_local : Local Item (item most deep)
    unfolding item
    item_local = local_peek (item_by most deep) item_by_local

    pub item_rule : Rule spell_item (IsItem most deep) Any (item most deep)
    item_rule = record { complete = λ x rest r good may. item_is x rest r good; sound = item_ok; here = item_local }

    pub items_rule : Rule (spell_all spell_item) (AreItemsWithin most deep) (Ends is_there Any) (many is_there (item most deep))
    items_rule = many_rule spell_item (IsItem most deep) Any is_there (item most deep) item_rule long_item (record { begins = λ x rest good. there x rest (long_item x rest); follows = λ x rest good. tt })

    -- A specification is read from its spelling.
    pub complete : (items : List Item) → AreItemsWithin most deep items → specification_within most deep (spell items) ≡ Ok items
    unfolding specification_within
    complete items good = rw (items_rule.complete items [] 0 good (refl, tt)) refl

    -- what was read as a specification
    record Told (symbols : List Sym) (items : List Item) : Type 0 where
      spells : symbols ≡ spell items
      good : AreItemsWithin most deep items

    value_ok : (symbols : List Sym) (items : List Item) (o : Outcome (List Item)) → many is_there (item most deep) (at symbols 0) ≡ o → value_of o ≡ Ok items → Told symbols items
    value_ok symbols items (Ok p) is h =
        let took = many_ok spell_item (IsItem most deep) is_there (item most deep) item_ok (suc (length symbols)) [] (at symbols 0) p.1 p.0 is in
        let same : p.0 ≡ items = cc in
        let whole : took.new ≡ items = took.whole ∙ same in
        let end = nothing_left p.1.rest took.ended in
        subst (Told symbols) whole (record { spells = took.tokens ∙ ap (spell_all spell_item took.new) end; good = took.goods })
    value_ok symbols items (Err e) is h = absurd (cc)

    -- What is read has that spelling.
    pub sound : (symbols : List Sym) (items : List Item) → specification_within most deep symbols ≡ Ok items → (symbols ≡ spell items) × AreItemsWithin most deep items
    unfolding specification_within
    sound symbols items h = let told = value_ok symbols items (many is_there (item most deep) (at symbols 0)) refl h in (told.spells, told.good)

    -- Symbols spell at most one specification.
    pub one_tree : (xs ys : List Item) → AreItemsWithin most deep xs → AreItemsWithin most deep ys → spell xs ≡ spell ys → xs ≡ ys
    unfolding value_or
    one_tree xs ys good also e = ap (value_or xs) (sym (complete xs good) ∙ ap (specification_within most deep) e ∙ complete ys also)
