-- Constructors, blocks, items and specifications that complete what was read.
use Rattle.std.proofs.Common.{◌≡◌, ℕ, zero, suc, ◌+◌, ◌≤◌, inl, inr, List, [], ◌∷◌, Option, None, Some, Ok, Err, refl, subst, arith}
use Rattle.sl_ast.specs.Spelling.{keyword, spell_name, spell_all, spell_option, spell_pattern, spell_actions, spell_piece, spell_section, spell_constructor, spell_head, spell_inside, spell_member, spell_item}
use Rattle.sl_ast.specs.Symbols.{quoted, Sym, word, text, mark, blank, caret, char}
use Rattle.sl_ast.specs.Trees.{piece_char, statements, unimplemented, Constructor, Head, Inside, nothing, constructor_then, block_then, Item, define, attach_list, attach_one, macro, constructor, block}
use Rattle.sl_ast.specs.Validity.{Each, IfWritten, IsPattern, IsAction, IsMember, IsPiece, IsSection, IsConstructor, IsHead, IsInside, IsItem, AreItemsWithin}
use Rattle.sl_ast.specs.declared.symbols.Keyword.TheVariants as k
use Rattle.sl_ast.specs.declared.symbols.Mark.TheVariants as m
use Rattle.sl_parse_grammar.specs.Definitions.{member}
use Rattle.sl_parse_grammar.specs.Items.{is_name, is_shown, piece_by, piece, is_pattern, define_here, attach_here, inside_by, inside_from, inside, is_there, section_by, section, constructor_here, head, block_at, macro_here, item_by, item}
use Rattle.sl_parse_grammar.specs.Lists.{many}
use Rattle.sl_parse_grammar.specs.Patterns.{whole_pattern}
use Rattle.sl_parse_grammar.specs.Reader.{Input, left, first, nesting, Fault, fault, Outcome, Reader, and_then, ◌>>=◌, pure, is_mark, optional, name_here}
use Rattle.sl_parse_grammar.specs.Statements.{until, actions}
use Rattle.sl_parse_grammar.proofs.ConstructorRules.{piece_rule, section_ok, constructor_rule, head_rule}
use Rattle.sl_parse_grammar.proofs.ItemRules.{Block, spell_block, IsBlock, block_ok, inside_ok, item_ok, parameters_ok}
use Rattle.sl_parse_grammar.proofs.Keeps.{keeps_piece, keeps_section, keeps_constructor, keeps_head, keeps_inside, keeps_item}
use Rattle.sl_parse_grammar.proofs.ListsTaken.{Takes}
use Rattle.sl_parse_grammar.proofs.PartRules.{Free}
use Rattle.sl_parse_grammar.proofs.Taken.{look_ok}
use Rattle.sl_parse_faults.proofs.Closes.{AllKeep, Mended, Closes, same_error}
use Rattle.sl_parse_faults.proofs.Goes.{Goes, one_more, ends_at_limit, goes_past_limit}
use Rattle.sl_parse_faults.proofs.Leaves.{mended_refused}
use Rattle.sl_parse_faults.proofs.MendDefinitions.{whole_definition, whole_names, whole_kind, whole_member}
use Rattle.sl_parse_faults.proofs.MendStatements.{whole_name, nothing as front_keeps, whole_pattern_part, whole_body, whole_actions}
use Rattle.sl_parse_faults.proofs.PartLists.{Anywhere, Whole, mended_as, mended_behind, whole_many, whole_optional}
use Rattle.sl_parse_faults.proofs.Rules.{then_mark, then_keyword, then_part, done, either, whole_of, takes_wider, wrap_mends, whole_listed}
use Rattle.sl_parse_faults.proofs.Wider.{wider_section, wider_constructor, wider_head, wider_inside, wider_item}

module _ (extra : ℕ) where
  -- ---- displays

  piece_by_mends : (o : Option Sym) (i : Input) (e : Fault) → piece_by o i ≡ Err e → Mended extra spell_piece IsPiece i.rest e
  piece_by_mends (Some (word (quoted k.Is))) i e h = mended_refused extra spell_piece IsPiece (piece_char []) tt i e h
  piece_by_mends (Some (word w)) i e h = absurd (cc)
  piece_by_mends (Some (text t)) i e h = absurd (cc)
  piece_by_mends (Some (blank t)) i e h = absurd (cc)
  piece_by_mends (Some (caret t)) i e h = absurd (cc)
  piece_by_mends (Some (char t)) i e h = absurd (cc)
  piece_by_mends o i e h = mended_refused extra spell_piece IsPiece (piece_char []) tt i e h

  piece_mends : (i : Input) (e : Fault) → piece i ≡ Err e → Mended extra spell_piece IsPiece i.rest e
  unfolding piece
  piece_mends i e h = piece_by_mends (first i.rest) i e h

  whole_piece : Whole extra spell_piece IsPiece piece
  whole_piece = whole_of piece_rule.sound (λ x form n. keeps_piece (Goes extra form n) (one_more extra form n) x) (piece_char []) tt piece_mends

  whole_table : Whole extra (spell_option spell_name) (IfWritten Free) (optional is_name name_here)
  whole_table = whole_optional extra spell_name Free name_here (whole_name extra) is_name

-- a word `with` where no block more may stand inside the others
short_head : Head
short_head = record { table = None; pattern = None; actions = None }

past_the_last : (extra most : ℕ) (i : Input) → first i.rest ≡ Some (keyword k.With) → Mended extra spell_inside (IsInside (extra + most) (extra + 0)) i.rest (fault nesting (left i))
unfolding short_head
past_the_last zero most i starts = record { tree = nothing; good = tt; goes = λ rest. ends_at_limit i (keyword k.With) rest starts }
past_the_last (suc extra) most i starts =
    let same : suc (extra + 0) ≡ suc extra + 0 = omega arith in
    record {
      tree = block_then short_head nothing nothing;
      good = subst (λ n. IsInside (suc extra + most) n (block_then short_head nothing nothing)) same (record { pattern = tt; actions = tt }, tt, tt);
      goes = λ rest. goes_past_limit extra i (keyword k.With) (mark m.Colon ∷ mark m.OpenBrace ∷ mark m.CloseBrace ∷ rest) starts;
    }

module _ (extra most : ℕ) where
  abbrev Most : ℕ
  Most = extra + most

  -- ---- constructors

  section_by_mends : (o : Option Sym) (i : Input) (e : Fault) → section_by most o i ≡ Err e → Mended extra spell_section (IsSection Most) i.rest e
  section_by_mends (Some (mark m.OpenBrace)) i e h = wrap_mends (whole_body extra most) statements (λ x good. good) (λ x rest. refl) i e h
  section_by_mends (Some (word (quoted k.Unimpl))) i e h = absurd (cc)
  section_by_mends o i e h = mended_refused extra spell_section (IsSection Most) unimplemented tt i e h

  section_mends : (i : Input) (e : Fault) → section most i ≡ Err e → Mended extra spell_section (IsSection Most) i.rest e
  unfolding section
  section_mends i e h = section_by_mends (first i.rest) i e h

  whole_section : Whole extra spell_section (IsSection Most) (section most)
  whole_section = whole_of (λ i j x h. takes_wider spell_section (IsSection most) (IsSection Most) i j x (λ good. wider_section most Most x (omega arith) good) (section_ok most i j x h))
      (λ x form n. keeps_section (Goes extra form n) (one_more extra form n) x) unimplemented tt section_mends

  whole_acts : Whole extra (spell_option spell_actions) (IfWritten (Each (IsAction Most))) (optional (is_mark m.OpenBracket) (actions most))
  whole_acts = whole_optional extra spell_actions (Each (IsAction Most)) (actions most) (whole_actions extra most) (is_mark m.OpenBracket)

  constructor_closes : Closes extra spell_constructor (IsConstructor Most) (λ rest. rest) Anywhere (constructor_here most)
  unfolding constructor_here
  constructor_closes = then_part (whole_table extra) (front_keeps extra) (λ table x b. then_mark m.Colon b (λ c. then_part (whole_many extra spell_piece IsPiece piece (whole_piece extra) is_shown) c
      (λ display pieces d. then_keyword k.Is d (λ g. then_part (whole_pattern_part extra most) g (λ p good h. then_part whole_acts h (λ acts fine j. then_part whole_section j
      (λ what fair l. done (record { table = table; display = display; pattern = p; actions = acts; section = what }) (record { display = pieces; pattern = good; actions = fine; section = fair }) (λ rest. refl))))))))

  whole_constructor : Whole extra spell_constructor (IsConstructor Most) (constructor_here most)
  whole_constructor = whole_of (λ i j x h. takes_wider spell_constructor (IsConstructor most) (IsConstructor Most) i j x (λ good. wider_constructor most Most x (omega arith) good) ((constructor_rule most).sound i j x h))
      (λ x form n. keeps_constructor (Goes extra form n) (one_more extra form n) x) constructor_closes.whole constructor_closes.good (λ i e h. constructor_closes.mend i tt e h)

  -- ---- blocks

  head_closes : Closes extra spell_head (IsHead Most) (λ rest. rest) Anywhere (head most)
  unfolding head
  head_closes = then_keyword k.With (front_keeps extra) (λ a. then_part (whole_table extra) a (λ table x b. then_mark m.Colon b (λ c.
      then_part (whole_optional extra spell_pattern (IsPattern Most) (whole_pattern most) (whole_pattern_part extra most) is_pattern) c (λ p good d. then_part whole_acts d (λ acts fine g. then_mark m.OpenBrace g
      (λ h. done (record { table = table; pattern = p; actions = acts }) (record { pattern = good; actions = fine }) (λ rest. refl)))))))

  whole_head : Whole extra spell_head (IsHead Most) (head most)
  whole_head = whole_of (λ i j x h. takes_wider spell_head (IsHead most) (IsHead Most) i j x (λ good. wider_head most Most x (omega arith) good) ((head_rule most).sound i j x h))
      (λ x form n. keeps_head (Goes extra form n) (one_more extra form n) x) head_closes.whole head_closes.good (λ i e h. head_closes.mend i tt e h)

  -- how a block with so many inside one another can be completed
  abbrev BlockMends : ℕ → Type 0
  BlockMends d = (i : Input) → first i.rest ≡ Some (keyword k.With) → (e : Fault) → block_at most d i ≡ Err e → Mended extra spell_inside (IsInside Most (extra + d)) i.rest e

  all_inside_keep : (x : Inside) → AllKeep extra (spell_inside x)
  all_inside_keep x form n = keeps_inside (Goes extra form n) (one_more extra form n) x

  wider_block : (d n : ℕ) (b : Block) → d ≤ n → IsBlock most d b → IsBlock Most n b
  wider_block zero n b le good = absurd good
  wider_block (suc d) zero b le good = absurd (omega arith)
  wider_block (suc d) (suc n) b le good = (wider_head most Most b.0 (omega arith) good.0, wider_inside most Most d n b.1 (omega arith) (omega arith) good.1)

  block_keeps : (b : Block) → AllKeep extra (spell_block b)
  block_keeps b form n xs ys h =
      keeps_head (Goes extra form n) (one_more extra form n) b.0 _ _ (keeps_inside (Goes extra form n) (one_more extra form n) b.1 _ _ (one_more extra form n (mark m.CloseBrace) xs ys h))

  -- a block and then what follows it inside
  with_block : (d : ℕ) (b : Block) (x : Inside) → IsBlock Most d b → IsInside Most d x → IsInside Most d (block_then b.0 b.1 x)
  with_block zero b x good goods = absurd good
  with_block (suc d) b x good goods = (good.0, good.1, goods)

  abbrev MendedInside : ℕ → List Sym → Fault → Type 0
  MendedInside d xs e = Mended extra spell_inside (IsInside Most (extra + d)) xs e

  -- what follows a part inside a block
  abbrev LaterMends : ℕ → Reader Inside → Type 0
  LaterMends d later = (i : Input) (e : Fault) → later i ≡ Err e → MendedInside d i.rest e

  block_later : (d : ℕ) (later : Reader Inside) → LaterMends d later → (i j : Input) (b : Block) → Takes spell_block (IsBlock Most (extra + d)) i b j → (e : Fault) (o : Outcome Inside) → later j ≡ o
      → and_then o (λ more. pure (block_then b.0 b.1 more)) ≡ Err e → MendedInside d i.rest e
  block_later d later mends i j b took e (Ok x) is h = absurd (cc)
  block_later d later mends i j b took e (Err g) is h =
      subst (λ y. MendedInside d i.rest y) (same_error g e h)
      (mended_behind extra spell_block b spell_inside (IsInside Most (extra + d)) spell_inside (IsInside Most (extra + d)) (λ x. block_then b.0 b.1 x) i.rest j.rest g (block_keeps b) took.tokens (λ x goods. with_block (extra + d) b x took.good goods) (λ x rest. refl)
      (mends j g is))

  inside_with : (d : ℕ) → BlockMends d → (later : Reader Inside) → LaterMends d later → (i : Input) → first i.rest ≡ Some (keyword k.With) → (e : Fault) (o : Outcome Block) → block_at most d i ≡ o
      → and_then o (λ b. later >>= (λ more. pure (block_then b.0 b.1 more))) ≡ Err e → MendedInside d i.rest e
  inside_with d blocks later mends i starts e (Ok x) is h =
      block_later d later mends i x.1 x.0 (takes_wider spell_block (IsBlock most d) (IsBlock Most (extra + d)) i x.1 x.0 (λ good. wider_block d (extra + d) x.0 (omega arith) good) (block_ok most d i x.1 x.0 is)) e (later x.1) refl h
  inside_with d blocks later mends i starts e (Err g) is h = subst (λ y. MendedInside d i.rest y) (same_error g e h) (blocks i starts g is)

  constructor_later : (d : ℕ) (later : Reader Inside) → LaterMends d later → (i j : Input) (c : Constructor) → Takes spell_constructor (IsConstructor Most) i c j → (e : Fault) (o : Outcome Inside) → later j ≡ o
      → and_then o (λ more. pure (constructor_then c more)) ≡ Err e → MendedInside d i.rest e
  constructor_later d later mends i j c took e (Ok x) is h = absurd (cc)
  constructor_later d later mends i j c took e (Err g) is h =
      subst (λ y. MendedInside d i.rest y) (same_error g e h)
      (mended_behind extra spell_constructor c spell_inside (IsInside Most (extra + d)) spell_inside (IsInside Most (extra + d)) (λ x. constructor_then c x) i.rest j.rest g (whole_constructor.keeps c) took.tokens (λ x goods. (took.good, goods)) (λ x rest. refl)
      (mends j g is))

  inside_constructor : (d : ℕ) (later : Reader Inside) → LaterMends d later → (i : Input) (e : Fault) (o : Outcome Constructor) → constructor_here most i ≡ o
      → and_then o (λ c. later >>= (λ more. pure (constructor_then c more))) ≡ Err e → MendedInside d i.rest e
  inside_constructor d later mends i e (Ok x) is h = constructor_later d later mends i x.1 x.0 (whole_constructor.sound i x.1 x.0 tt is) e (later x.1) refl h
  inside_constructor d later mends i e (Err g) is h =
      mended_as extra spell_constructor (IsConstructor Most) spell_inside (IsInside Most (extra + d)) (λ c. constructor_then c nothing) i.rest g e (same_error g e h) (λ c good. (good, tt)) (λ c rest. refl) (whole_constructor.mends i tt g is)

  inside_by_mends : (d : ℕ) → BlockMends d → (later : Reader Inside) → LaterMends d later → (o : Option Sym) (i : Input) → first i.rest ≡ o → (e : Fault) → inside_by (constructor_here most) (block_at most d) later o i ≡ Err e
      → MendedInside d i.rest e
  inside_by_mends d blocks later mends (Some (word (quoted k.With))) i starts e h = inside_with d blocks later mends i starts e (block_at most d i) refl h
  inside_by_mends d blocks later mends o i starts e h = inside_constructor d later mends i e (constructor_here most i) refl h

  inside_mends : (d : ℕ) → BlockMends d → (n : ℕ) (i : Input) (e : Fault) → inside_from (constructor_here most) (block_at most d) n i ≡ Err e → MendedInside d i.rest e
  unfolding inside_from
  inside_mends d blocks zero i e h = mended_refused extra spell_inside (IsInside Most (extra + d)) nothing tt i e h
  inside_mends d blocks (suc n) i e h = elim (look_ok (is_mark m.CloseBrace) _ _ i (Err e) h) [
    | inl g ↦ absurd (let x = g.1 in cc)
    | inr g ↦ inside_by_mends d blocks (inside_from (constructor_here most) (block_at most d) n) (inside_mends d blocks n) (first i.rest) i refl e g.1
  ]

  whole_inside : (d : ℕ) → BlockMends d → Whole extra spell_inside (IsInside Most (extra + d)) (inside (constructor_here most) (block_at most d))
  whole_inside d blocks = whole_of
      (λ i j x h. takes_wider spell_inside (IsInside most d) (IsInside Most (extra + d)) i j x (λ good. wider_inside most Most d (extra + d) x (omega arith) (omega arith) good) (inside_ok most d (block_ok most d) (suc (left i)) i j x h))
      all_inside_keep nothing tt (λ i e h. inside_mends d blocks (suc (left i)) i e h)

  block_closes : (d : ℕ) → BlockMends d → Closes extra spell_block (IsBlock Most (suc (extra + d))) (λ rest. rest) Anywhere (block_at most (suc d))
  unfolding block_at
  block_closes d blocks = then_part whole_head (front_keeps extra) (λ h good b. then_part (whole_inside d blocks) b (λ x goods c. then_mark m.CloseBrace c (λ g. done (h, x) (good, goods) (λ rest. refl))))

  -- a block as all that stands inside another
  block_mends : (d : ℕ) → BlockMends d
  unfolding block_at
  block_mends zero i starts e h =
      subst (λ y. Mended extra spell_inside (IsInside Most (extra + 0)) i.rest y) (same_error (fault nesting (left i)) e h) (past_the_last extra most i starts)
  block_mends (suc d) i starts e h =
      let same : suc (extra + d) ≡ extra + suc d = omega arith in
      subst (λ n. Mended extra spell_inside (IsInside Most n) i.rest e) same
      (mended_as extra spell_block (IsBlock Most (suc (extra + d))) spell_inside (IsInside Most (suc (extra + d))) (λ b. block_then b.0 b.1 nothing) i.rest e e refl (λ b good. (good.0, good.1, tt)) (λ b rest. refl)
      ((block_closes d (block_mends d)).mend i tt e h))

  -- ---- items, with blocks inside a block at most so many times

  module _ (deep : ℕ) where
    abbrev ItemCloses : Reader Item → Type 0
    ItemCloses q = Closes extra spell_item (IsItem Most (extra + deep)) (λ rest. rest) Anywhere q

    define_closes : ItemCloses define_here
    unfolding define_here
    define_closes = then_keyword k.Define (front_keeps extra) (λ b. then_part (whole_definition extra) b (λ d good c. then_mark m.Semicolon c (λ g. done (define d) good (λ rest. refl))))

    attach_closes : ItemCloses attach_here
    unfolding attach_here
    attach_closes = then_keyword k.Attach (front_keeps extra) (λ b. then_part (whole_kind extra) b (λ kind x c. then_part (whole_names extra) c (λ ws y d. either (is_mark m.OpenBracket)
        (then_mark m.OpenBracket d (λ g. then_part (whole_many extra spell_member IsMember member (whole_member extra) (until m.CloseBracket)) g
        (λ members goods h. then_mark m.CloseBracket h (λ j. then_mark m.Semicolon j (λ l. done (attach_list kind ws members) goods (λ rest. refl))))))
        (then_part (whole_member extra) d (λ one' good g. then_mark m.Semicolon g (λ h. done (attach_one kind ws one') good (λ rest. refl)))))))

    macro_closes : ItemCloses (macro_here most)
    unfolding macro_here
    macro_closes = then_keyword k.Macro (front_keeps extra) (λ b. then_part (whole_name extra) b (λ w x c. then_mark m.Open c (λ d.
        then_part (whole_listed extra spell_name Free name_here (whole_name extra) parameters_ok) d (λ ws y g. then_mark m.Close g (λ h. then_part (whole_body extra most) h
        (λ found goods j. done (macro (record { name = w; parameters = ws; body = found })) goods (λ rest. refl)))))))

    item_block : (o : Outcome Block) (i : Input) (e : Fault) → block_at most (suc deep) i ≡ o → and_then o (λ b. pure (block b.0 b.1)) ≡ Err e → Mended extra spell_item (IsItem Most (extra + deep)) i.rest e
    item_block (Ok x) i e is h = absurd (cc)
    item_block (Err g) i e is h =
        mended_as extra spell_block (IsBlock Most (suc (extra + deep))) spell_item (IsItem Most (extra + deep)) (λ b. block b.0 b.1) i.rest g e (same_error g e h) (λ b good. good) (λ b rest. refl)
        ((block_closes deep (block_mends deep)).mend i tt g is)

    item_by_mends : (o : Option Sym) (i : Input) (e : Fault) → item_by most deep o i ≡ Err e → Mended extra spell_item (IsItem Most (extra + deep)) i.rest e
    item_by_mends (Some (word (quoted k.Define))) i e h = define_closes.mend i tt e h
    item_by_mends (Some (word (quoted k.Attach))) i e h = attach_closes.mend i tt e h
    item_by_mends (Some (word (quoted k.Macro))) i e h = macro_closes.mend i tt e h
    item_by_mends (Some (word (quoted k.With))) i e h = item_block (block_at most (suc deep) i) i e refl h
    item_by_mends o i e h = wrap_mends whole_constructor constructor (λ c good. good) (λ c rest. refl) i e h

    item_mends : (i : Input) (e : Fault) → item most deep i ≡ Err e → Mended extra spell_item (IsItem Most (extra + deep)) i.rest e
    unfolding item
    item_mends i e h = item_by_mends (first i.rest) i e h

    whole_item : Whole extra spell_item (IsItem Most (extra + deep)) (item most deep)
    whole_item = whole_of (λ i j x h. takes_wider spell_item (IsItem most deep) (IsItem Most (extra + deep)) i j x (λ good. wider_item most Most deep (extra + deep) x (omega arith) (omega arith) good) (item_ok most deep i j x h))
        (λ x form n. keeps_item (Goes extra form n) (one_more extra form n) x) define_closes.whole define_closes.good item_mends

    pub whole_items : Whole extra (spell_all spell_item) (AreItemsWithin Most (extra + deep)) (many is_there (item most deep))
    whole_items = whole_many extra spell_item (IsItem Most (extra + deep)) (item most deep) whole_item is_there
