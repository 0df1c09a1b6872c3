-- Definitions and attached lists that complete what was read.
use Rattle.std.proofs.Common.{◌≡◌, ℕ, zero, suc, ◌==◌, Bool, true, false, cond, List, [], ◌∷◌, Option, Some, Err, refl, ap, sym, subst, arith}
use Rattle.sl_ast.specs.Spelling.{Spelling, keyword, spell_name, order_word, kind_word, spell_order, spell_space_attribute, spell_bit_range, spell_attribute, spell_field, spell_names, spell_definition, spell_member}
use Rattle.sl_ast.specs.Symbols.{quoted, Sym, number, word, text, mark}
use Rattle.sl_ast.specs.Trees.{SpaceAttribute, of_type, of_size, of_word_size, is_default, BitRange, Field, one, several, Definition, endian, alignment, space, bit_ranges, pcode_ops, token, context, registers, member_integer, member_negative}
use Rattle.sl_ast.specs.Validity.{IsSpaceAttribute, IsDefinition, IsMember}
use Rattle.sl_ast.specs.declared.definitions.AttachKind.{AttachKind}
use Rattle.sl_ast.specs.declared.definitions.AttachKind.TheVariants as a
use Rattle.sl_ast.specs.declared.definitions.ByteOrder.{ByteOrder}
use Rattle.sl_ast.specs.declared.definitions.ByteOrder.TheVariants as o
use Rattle.sl_ast.specs.declared.definitions.FieldAttribute.TheVariants as fa
use Rattle.sl_ast.specs.declared.symbols.Feature.TheVariants as f
use Rattle.sl_ast.specs.declared.symbols.Keyword.TheVariants as k
use Rattle.sl_ast.specs.declared.symbols.Mark.TheVariants as m
use Rattle.sl_parse_grammar.specs.Definitions.{order_by, order, checked_size, word_size_by, type_here, size_attribute, word_size_here, space_attribute_by, space_attribute, bit_range, is_attribute, attribute_by, attribute, field, name_list, names_by, names, alignment_here, space_here, bit_ranges_here, pcode_ops_here, token_here, context_here, registers_here, definition_by, definition, kind_by, attach_kind, negative, member_by, member}
use Rattle.sl_parse_grammar.specs.Reader.{Input, left, first, unsupported, Fault, fault, Reader, ◌>>=◌, ◌>>◌, pure, next, skip, is_keyword, unsupport, refuse, integer_here, name_here}
use Rattle.sl_parse_grammar.specs.Statements.{until}
use Rattle.sl_parse_grammar.proofs.DefinitionRules.{order_rule, space_attribute_rule, bit_range_rule, attribute_rule, field_rule, names_rule, definition_ok, attach_kind_ok, member_rule}
use Rattle.sl_parse_grammar.proofs.Keeps.{keeps_order, keeps_space_attribute, keeps_bit_range, keeps_attribute, keeps_field, keeps_names, keeps_definition, keeps_member}
use Rattle.sl_parse_grammar.proofs.PartRules.{Free}
use Rattle.sl_parse_grammar.proofs.Taken.{first_is}
use Rattle.sl_parse_faults.proofs.Closes.{AllKeep, Mended, Closes, same_error}
use Rattle.sl_parse_faults.proofs.Goes.{Goes, one_more, place, at_place, there}
use Rattle.sl_parse_faults.proofs.Leaves.{keeps_one, mended_refused, spell_number}
use Rattle.sl_parse_faults.proofs.MendStatements.{whole_name, whole_integer, nothing}
use Rattle.sl_parse_faults.proofs.PartLists.{Anywhere, Whole, whole_many, whole_optional}
use Rattle.sl_parse_faults.proofs.Rules.{then_mark, then_keyword, then_part, done, last, whole_of, wrap_mends}
use Rattle.sl_parse_faults.specs.Forms.{other}

module _ (extra : ℕ) where
  -- ---- byte orders

  spell_order_word : Spelling ByteOrder
  spell_order_word x rest = keyword (order_word x) ∷ rest

  order_by_mends : (s : Option Sym) (i : Input) (e : Fault) → order_by s i ≡ Err e → Mended extra spell_order_word Free i.rest e
  order_by_mends (Some (word (quoted k.Big))) i e h = absurd (cc)
  order_by_mends (Some (word (quoted k.Little))) i e h = absurd (cc)
  order_by_mends s i e h = mended_refused extra spell_order_word Free o.Big tt i e h

  order_closes : Closes extra spell_order Free (λ rest. rest) Anywhere order
  unfolding order spell_order_word
  order_closes = then_keyword k.Endian (nothing extra) (λ keeps. then_mark m.Equals keeps (λ keep. last (λ x. x) (λ x good. tt) (λ x rest. refl) o.Big tt keep (λ i e h. order_by_mends (first i.rest) i e h)))

  pub whole_order : Whole extra spell_order Free order
  whole_order = whole_of order_rule.sound (λ x form n. keeps_order (Goes extra form n) (one_more extra form n) x) o.Big tt (λ i e h. order_closes.mend i tt e h)

  -- ---- attributes of spaces

  abbrev AttributeCloses : (List Sym → List Sym) → Reader SpaceAttribute → Type 0
  AttributeCloses front q = Closes extra spell_space_attribute IsSpaceAttribute front Anywhere q

  type_closes : AttributeCloses (λ rest. rest) type_here
  unfolding type_here
  type_closes = then_keyword k.Type (nothing extra) (λ keeps. then_mark m.Equals keeps (λ keep. then_part (whole_name extra) keep (λ w good still. done (of_type w) tt (λ rest. refl))))

  size_closes : AttributeCloses (λ rest. rest) size_attribute
  unfolding size_attribute
  size_closes = then_keyword k.Size (nothing extra) (λ keeps. then_mark m.Equals keeps (λ keep. then_part (whole_integer extra) keep (λ n good still. done (of_size n) tt (λ rest. refl))))

  -- behind the word and its mark
  abbrev sized_front : List Sym → List Sym
  sized_front rest = keyword k.WordSize ∷ mark m.Equals ∷ rest

  two_keep : AllKeep extra sized_front
  two_keep form n xs ys h = one_more extra form n _ _ _ (one_more extra form n _ xs ys h)

  word_size_goes : (more n : ℕ) (i : Input) (rest : List Sym) → first i.rest ≡ Some (number n)
      → Goes more (unsupported f.WordSize 2) (place more (fault (unsupported f.WordSize 2) (left i))) (sized_front i.rest) (spell_space_attribute (of_word_size 1) rest)
  word_size_goes zero n i rest is = there (there (at_place refl (number 1 ∷ rest, refl) tt))
  word_size_goes (suc more) n i rest is = at_place (omega arith) (rest, refl) (n, (next i).rest, ap sized_front (first_is i.rest (number n) is), refl, refl)

  abbrev MendedSize : List Sym → Fault → Type 0
  MendedSize xs e = Mended extra spell_space_attribute IsSpaceAttribute xs e

  checked_mends : (b : Bool) (n : ℕ) (i : Input) (e : Fault) → first i.rest ≡ Some (number n)
      → cond {A = Reader SpaceAttribute} b (skip >> pure (of_word_size n)) (unsupport f.WordSize 2) i ≡ Err e → MendedSize (sized_front i.rest) e
  checked_mends true n i e is h = absurd (cc)
  checked_mends false n i e is h =
      subst (λ y. MendedSize (sized_front i.rest) y) (same_error (fault (unsupported f.WordSize 2) (left i)) e h)
      (record { tree = of_word_size 1; good = refl; goes = λ rest. word_size_goes extra n i rest is })

  size_refused : (i : Input) (e : Fault) → refuse {A = SpaceAttribute} i ≡ Err e → MendedSize (sized_front i.rest) e
  size_refused i e h =
      let m = mended_refused extra spell_number (λ n. n ≡ 1) 1 refl i e h in
      record { tree = of_word_size m.tree; good = m.good; goes = λ rest. two_keep e.form (place extra e) i.rest (number m.tree ∷ rest) (m.goes rest) }

  word_size_mends : (s : Option Sym) (i : Input) → first i.rest ≡ s → (e : Fault) → word_size_by s i ≡ Err e → MendedSize (sized_front i.rest) e
  unfolding checked_size
  word_size_mends (Some (number n)) i is e h = checked_mends (n == 1) n i e is h
  word_size_mends s i is e h = size_refused i e h

  word_size_closes : AttributeCloses (λ rest. rest) word_size_here
  unfolding word_size_here
  word_size_closes = then_keyword k.WordSize (nothing extra) (λ keeps. then_mark m.Equals keeps (λ keep. record {
    whole = of_word_size 1;
    good = refl;
    tail = λ rest. number 1 ∷ rest;
    spells = λ rest. refl;
    mend = λ i here e h. word_size_mends (first i.rest) i refl e h;
  }))

  space_attribute_by_mends : (s : Option Sym) (i : Input) (e : Fault) → space_attribute_by s i ≡ Err e → MendedSize i.rest e
  space_attribute_by_mends (Some (word (quoted k.Type))) i e h = type_closes.mend i tt e h
  space_attribute_by_mends (Some (word (quoted k.Size))) i e h = size_closes.mend i tt e h
  space_attribute_by_mends (Some (word (quoted k.WordSize))) i e h = word_size_closes.mend i tt e h
  space_attribute_by_mends (Some (word (quoted k.Default))) i e h = absurd (cc)
  space_attribute_by_mends s i e h = mended_refused extra spell_space_attribute IsSpaceAttribute is_default tt i e h

  space_attribute_mends : (i : Input) (e : Fault) → space_attribute i ≡ Err e → MendedSize i.rest e
  unfolding space_attribute
  space_attribute_mends i e h = space_attribute_by_mends (first i.rest) i e h

  whole_space_attribute : Whole extra spell_space_attribute IsSpaceAttribute space_attribute
  whole_space_attribute = whole_of space_attribute_rule.sound (λ x form n. keeps_space_attribute (Goes extra form n) (one_more extra form n) x) is_default tt space_attribute_mends

  -- ---- bit ranges and fields

  bit_range_closes : Closes extra spell_bit_range Free (λ rest. rest) Anywhere bit_range
  unfolding bit_range
  bit_range_closes = then_part (whole_name extra) (nothing extra) (λ w x b. then_mark m.Equals b (λ c. then_part (whole_name extra) c (λ r y d. then_mark m.OpenBracket d (λ g. then_part (whole_integer extra) g
      (λ low z h. then_mark m.Comma h (λ j. then_part (whole_integer extra) j (λ count v l. then_mark m.CloseBracket l (λ n. done (record { name = w; register = r; low = low; count = count }) tt (λ rest. refl)))))))))

  short_range : BitRange
  short_range = record { name = other; register = other; low = 0; count = 0 }

  whole_bit_range : Whole extra spell_bit_range Free bit_range
  whole_bit_range = whole_of bit_range_rule.sound (λ x form n. keeps_bit_range (Goes extra form n) (one_more extra form n) x) short_range tt (λ i e h. bit_range_closes.mend i tt e h)

  attribute_by_mends : (s : Option Sym) (i : Input) (e : Fault) → attribute_by s i ≡ Err e → Mended extra spell_attribute Free i.rest e
  attribute_by_mends (Some (word (quoted k.Signed))) i e h = absurd (cc)
  attribute_by_mends (Some (word (quoted k.Hex))) i e h = absurd (cc)
  attribute_by_mends (Some (word (quoted k.Dec))) i e h = absurd (cc)
  attribute_by_mends (Some (word (quoted k.NoFlow))) i e h = absurd (cc)
  attribute_by_mends s i e h = mended_refused extra spell_attribute Free fa.Hex tt i e h

  attribute_mends : (i : Input) (e : Fault) → attribute i ≡ Err e → Mended extra spell_attribute Free i.rest e
  unfolding attribute
  attribute_mends i e h = attribute_by_mends (first i.rest) i e h

  whole_attribute : Whole extra spell_attribute Free attribute
  whole_attribute = whole_of attribute_rule.sound (λ x form n. keeps_attribute (Goes extra form n) (one_more extra form n) x) fa.Hex tt attribute_mends

  field_closes : Closes extra spell_field Free (λ rest. rest) Anywhere field
  unfolding field
  field_closes = then_part (whole_name extra) (nothing extra) (λ w x b. then_mark m.Equals b (λ c. then_mark m.Open c (λ d. then_part (whole_integer extra) d (λ low y g. then_mark m.Comma g
      (λ h. then_part (whole_integer extra) h (λ high z j. then_mark m.Close j (λ l. then_part (whole_many extra spell_attribute Free attribute whole_attribute is_attribute) l
      (λ xs v n. done (record { name = w; low = low; high = high; attributes = xs }) tt (λ rest. refl)))))))))

  short_field : Field
  short_field = record { name = other; low = 0; high = 0; attributes = [] }

  whole_field : Whole extra spell_field Free field
  whole_field = whole_of field_rule.sound (λ x form n. keeps_field (Goes extra form n) (one_more extra form n) x) short_field tt (λ i e h. field_closes.mend i tt e h)

  -- ---- lists of names

  name_list_closes : Closes extra spell_names Free (λ rest. rest) Anywhere name_list
  unfolding name_list
  name_list_closes = then_mark m.OpenBracket (nothing extra) (λ b. then_part (whole_many extra spell_name Free name_here (whole_name extra) (until m.CloseBracket)) b
      (λ ws good c. then_mark m.CloseBracket c (λ d. done (several ws) tt (λ rest. refl))))

  names_by_mends : (s : Option Sym) (i : Input) (e : Fault) → names_by s i ≡ Err e → Mended extra spell_names Free i.rest e
  names_by_mends (Some (mark m.OpenBracket)) i e h = name_list_closes.mend i tt e h
  names_by_mends s i e h = wrap_mends (whole_name extra) one (λ w good. tt) (λ w rest. refl) i e h

  names_mends : (i : Input) (e : Fault) → names i ≡ Err e → Mended extra spell_names Free i.rest e
  unfolding names
  names_mends i e h = names_by_mends (first i.rest) i e h

  pub whole_names : Whole extra spell_names Free names
  whole_names = whole_of names_rule.sound (λ x form n. keeps_names (Goes extra form n) (one_more extra form n) x) (one other) tt names_mends

  -- ---- definitions

  abbrev DefinitionCloses : Reader Definition → Type 0
  DefinitionCloses q = Closes extra spell_definition IsDefinition (λ rest. rest) Anywhere q

  alignment_closes : DefinitionCloses alignment_here
  unfolding alignment_here
  alignment_closes = then_keyword k.Alignment (nothing extra) (λ b. then_mark m.Equals b (λ c. then_part (whole_integer extra) c (λ n good d. done (alignment n) tt (λ rest. refl))))

  space_closes : DefinitionCloses space_here
  unfolding space_here
  space_closes = then_keyword k.Space (nothing extra) (λ b. then_part (whole_name extra) b (λ w good c. then_part (whole_many extra spell_space_attribute IsSpaceAttribute space_attribute whole_space_attribute (until m.Semicolon)) c
      (λ xs goods d. done (space w xs) goods (λ rest. refl))))

  bit_ranges_close : DefinitionCloses bit_ranges_here
  unfolding bit_ranges_here
  bit_ranges_close = then_keyword k.BitRange (nothing extra) (λ b. then_part whole_bit_range b (λ x good c. then_part (whole_many extra spell_bit_range Free bit_range whole_bit_range (until m.Semicolon)) c
      (λ xs goods d. done (bit_ranges x xs) tt (λ rest. refl))))

  pcode_ops_close : DefinitionCloses pcode_ops_here
  unfolding pcode_ops_here
  pcode_ops_close = then_keyword k.PcodeOp (nothing extra) (λ b. then_part whole_names b (λ ws good c. done (pcode_ops ws) tt (λ rest. refl)))

  token_closes : DefinitionCloses token_here
  unfolding token_here
  token_closes = then_keyword k.Token (nothing extra) (λ b. then_part (whole_name extra) b (λ w x c. then_mark m.Open c (λ d. then_part (whole_integer extra) d (λ n y g. then_mark m.Close g
      (λ h. then_part (whole_optional extra spell_order Free order whole_order (is_keyword k.Endian)) h (λ own z j. then_part (whole_many extra spell_field Free field whole_field (until m.Semicolon)) j
      (λ xs goods l. done (token w n own xs) tt (λ rest. refl))))))))

  context_closes : DefinitionCloses context_here
  unfolding context_here
  context_closes = then_keyword k.Context (nothing extra) (λ b. then_part (whole_name extra) b (λ w x c. then_part (whole_many extra spell_field Free field whole_field (until m.Semicolon)) c
      (λ xs goods l. done (context w xs) tt (λ rest. refl))))

  registers_close : DefinitionCloses registers_here
  unfolding registers_here
  registers_close = then_part (whole_name extra) (nothing extra) (λ w x b. then_keyword k.Offset b (λ c. then_mark m.Equals c (λ d. then_part (whole_integer extra) d (λ offset y g. then_keyword k.Size g
      (λ h. then_mark m.Equals h (λ j. then_part (whole_integer extra) j (λ size z l. then_part whole_names l (λ ws good n. done (registers w offset size ws) tt (λ rest. refl)))))))))

  definition_by_mends : (s : Option Sym) (i : Input) (e : Fault) → definition_by s i ≡ Err e → Mended extra spell_definition IsDefinition i.rest e
  definition_by_mends (Some (word (quoted k.Endian))) i e h = wrap_mends whole_order endian (λ x good. tt) (λ x rest. refl) i e h
  definition_by_mends (Some (word (quoted k.Alignment))) i e h = alignment_closes.mend i tt e h
  definition_by_mends (Some (word (quoted k.Space))) i e h = space_closes.mend i tt e h
  definition_by_mends (Some (word (quoted k.BitRange))) i e h = bit_ranges_close.mend i tt e h
  definition_by_mends (Some (word (quoted k.PcodeOp))) i e h = pcode_ops_close.mend i tt e h
  definition_by_mends (Some (word (quoted k.Token))) i e h = token_closes.mend i tt e h
  definition_by_mends (Some (word (quoted k.Context))) i e h = context_closes.mend i tt e h
  definition_by_mends s i e h = registers_close.mend i tt e h

  definition_mends : (i : Input) (e : Fault) → definition i ≡ Err e → Mended extra spell_definition IsDefinition i.rest e
  unfolding definition
  definition_mends i e h = definition_by_mends (first i.rest) i e h

  pub whole_definition : Whole extra spell_definition IsDefinition definition
  whole_definition = whole_of definition_ok (λ x form n. keeps_definition (Goes extra form n) (one_more extra form n) x) (endian o.Big) tt definition_mends

  -- ---- attached lists

  abbrev pub spell_kind : Spelling AttachKind
  spell_kind x rest = keyword (kind_word x) ∷ rest

  kind_by_mends : (s : Option Sym) (i : Input) (e : Fault) → kind_by s i ≡ Err e → Mended extra spell_kind Free i.rest e
  kind_by_mends (Some (word (quoted k.Variables))) i e h = absurd (cc)
  kind_by_mends (Some (word (quoted k.Names))) i e h = absurd (cc)
  kind_by_mends (Some (word (quoted k.Values))) i e h = absurd (cc)
  kind_by_mends s i e h = mended_refused extra spell_kind Free a.Names tt i e h

  kind_mends : (i : Input) (e : Fault) → attach_kind i ≡ Err e → Mended extra spell_kind Free i.rest e
  unfolding attach_kind
  kind_mends i e h = kind_by_mends (first i.rest) i e h

  pub whole_kind : Whole extra spell_kind Free attach_kind
  whole_kind = whole_of (λ i j x h. record { tokens = (attach_kind_ok i j x h).tokens; good = tt }) (λ x. keeps_one extra (keyword (kind_word x))) a.Names tt kind_mends

  negative_closes : Closes extra spell_member IsMember (λ rest. mark m.Minus ∷ rest) Anywhere (integer_here >>= (λ n. pure (member_negative n)))
  negative_closes = then_part (whole_integer extra) (keeps_one extra (mark m.Minus)) (λ n good c. done (member_negative n) tt (λ rest. refl))

  negative_mends : (i : Input) → first i.rest ≡ Some (mark m.Minus) → (e : Fault) → negative i ≡ Err e → Mended extra spell_member IsMember i.rest e
  negative_mends i is e h = subst (λ xs. Mended extra spell_member IsMember xs e) (sym (first_is i.rest (mark m.Minus) is)) (negative_closes.mend (next i) tt e h)

  member_by_mends : (s : Option Sym) (i : Input) → first i.rest ≡ s → (e : Fault) → member_by s i ≡ Err e → Mended extra spell_member IsMember i.rest e
  member_by_mends (Some (number n)) i is e h = absurd (cc)
  member_by_mends (Some (text t)) i is e h = absurd (cc)
  member_by_mends (Some (mark m.Minus)) i is e h = negative_mends i is e h
  member_by_mends (Some (word (quoted k.InstNext2))) i is e h = mended_refused extra spell_member IsMember (member_integer 0) tt i e h
  member_by_mends (Some (word w)) i is e h = absurd (cc)
  member_by_mends s i is e h = mended_refused extra spell_member IsMember (member_integer 0) tt i e h

  member_mends : (i : Input) (e : Fault) → member i ≡ Err e → Mended extra spell_member IsMember i.rest e
  unfolding member
  member_mends i e h = member_by_mends (first i.rest) i refl e h

  pub whole_member : Whole extra spell_member IsMember member
  whole_member = whole_of member_rule.sound (λ x form n. keeps_member (Goes extra form n) (one_more extra form n) x) (member_integer 0) tt member_mends
