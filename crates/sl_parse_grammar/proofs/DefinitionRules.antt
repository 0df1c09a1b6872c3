-- The rules of definitions and attached lists.
use Rattle.std.proofs.Common.{◌≡◌, ℕ, ◌<◌, ◌≤◌, ◌==◌, Bool, true, false, cond, List, [], ◌∷◌, length, Option, None, Some, Ok, refl, ◌∙◌, subst, arith}
use Rattle.sl_ast.specs.Spelling.{Spelling, name, keyword, order_word, kind_word, spell_name, spell_option, spell_all, spell_order, spell_space_attribute, spell_bit_range, spell_attribute, spell_field, spell_names, spell_definition, spell_member}
use Rattle.sl_ast.specs.Symbols.{plain, quoted, Sym, number, word, text, mark}
use Rattle.sl_ast.specs.Trees.{SpaceAttribute, of_type, of_size, of_word_size, is_default, BitRange, Field, Names, one, several, Definition, endian, alignment, space, bit_ranges, pcode_ops, token, context, registers, Member, member_word, member_text, member_integer, member_negative}
use Rattle.sl_ast.specs.Validity.{Each, IfWritten, IsSpaceAttribute, IsDefinition, IsMember}
use Rattle.sl_ast.specs.declared.definitions.AttachKind.{AttachKind}
use Rattle.sl_ast.specs.declared.definitions.AttachKind.TheVariants as a
use Rattle.sl_ast.specs.declared.definitions.ByteOrder.{ByteOrder}
use Rattle.sl_ast.specs.declared.definitions.ByteOrder.TheVariants as o
use Rattle.sl_ast.specs.declared.definitions.FieldAttribute.{FieldAttribute}
use Rattle.sl_ast.specs.declared.definitions.FieldAttribute.TheVariants as fa
use Rattle.sl_ast.specs.declared.symbols.Feature.TheVariants as f
use Rattle.sl_ast.specs.declared.symbols.Keyword.TheVariants as k
use Rattle.sl_ast.specs.declared.symbols.Mark.TheVariants as m
use Rattle.sl_parse_grammar.specs.Definitions.{order_by, order, checked_size, word_size_by, type_here, size_attribute, word_size_here, space_attribute_by, space_attribute, bit_range, is_attribute, attribute_by, attribute, field, name_list, names_by, names, alignment_here, space_here, bit_ranges_here, pcode_ops_here, token_here, context_here, registers_here, definition_by, definition, kind_by, attach_kind, member_by, member}
use Rattle.sl_parse_grammar.specs.Lists.{many}
use Rattle.sl_parse_grammar.specs.Parallel.{Local}
use Rattle.sl_parse_grammar.specs.Reader.{Input, at, first, unsupported, Outcome, Reader, ◌>>◌, and_then, pure, skip, next, is_keyword, same_mark, same_keyword, expect, expect_keyword, integer_here, name_here, optional, unsupported, unsupport}
use Rattle.sl_parse_grammar.specs.Statements.{until}
use Rattle.sl_parse_grammar.proofs.BodyRules.{bracket_ends}
use Rattle.sl_parse_grammar.proofs.ListsTaken.{Takes}
use Rattle.sl_parse_grammar.proofs.LocalSteps.{local_then, local_pure, local_fault, local_peek, local_refuse, local_skip, local_skips, local_if, local_expect, local_expect_keyword, local_integer, local_name}
use Rattle.sl_parse_grammar.proofs.PartRules.{symbol_then, tree_then, name_takes, Free, name_rule, wrap_ok, wrap_local}
use Rattle.sl_parse_grammar.proofs.Rules.{Rule, Any, Ends, many_rule, long_all, optional_rule}
use Rattle.sl_parse_grammar.proofs.Steps.{equal_is}
use Rattle.sl_parse_grammar.proofs.Taken.{then_ok, along, Took, took_next, expect_ok, expect_keyword_ok, integer_ok, name_ok}

-- one symbol alone
pub took_one : {A : Type 0} (spell : Spelling A) (Good : A → Type 0) (i j : Input) (x : Sym) (a b : A) → first i.rest ≡ Some x → ((rest : List Sym) → x ∷ rest ≡ spell a rest) → Good a
    → ◌≡◌ {A = Outcome A} (Ok (a, next i)) (Ok (b, j)) → Takes spell Good i b j
took_one spell Good i j x a b is spelled good h =
    along (λ y l. Takes spell Good i y l) a b (next i) j h (record { tokens = (took_next i x is).tokens ∙ spelled (next i).rest; good = good })

semicolon_ends : (May : List Sym → Type 0) (rest : List Sym) → May (mark m.Semicolon ∷ rest) → Ends (until m.Semicolon) May (mark m.Semicolon ∷ rest)
unfolding same_mark
semicolon_ends May rest may = (refl, may)

-- ---- byte orders

order_is : (x : ByteOrder) (rest : List Sym) (r : ℕ) → order (at (spell_order x rest) r) ≡ Ok (x, at rest r)
unfolding order expect expect_keyword same_mark same_keyword
order_is o.Big rest r = refl
order_is o.Little rest r = refl

order_by_ok : (s : Option Sym) (i j : Input) (x : ByteOrder) → first i.rest ≡ s → order_by s i ≡ Ok (x, j) → Took i (keyword (order_word x)) j
order_by_ok (Some (word (quoted k.Big))) i j x is h = along (λ y l. Took i (keyword (order_word y)) l) o.Big x (next i) j h (took_next i (keyword k.Big) is)
order_by_ok (Some (word (quoted k.Little))) i j x is h = along (λ y l. Took i (keyword (order_word y)) l) o.Little x (next i) j h (took_next i (keyword k.Little) is)
order_by_ok s i j x is h = absurd (cc)

pub order_ok : (i j : Input) (x : ByteOrder) → order i ≡ Ok (x, j) → Takes spell_order Free i x j
unfolding order
order_ok i j x h =
    let a = then_ok (expect_keyword k.Endian i) _ x j h in
    let b = then_ok (expect m.Equals a.1) _ x j a.3 in
    let which = order_by_ok (first b.1.rest) b.1 j x refl b.3 in
    record {
      tokens = symbol_then i (keyword k.Endian) a.1 _ (expect_keyword_ok k.Endian i a.1 a.0 a.2) (symbol_then a.1 (mark m.Equals) b.1 _ (expect_ok m.Equals a.1 b.1 b.0 b.2) which.tokens);
      good = tt;
    }

order_by_local : (s : Option Sym) → Local ByteOrder (order_by s)
order_by_local (Some (word (quoted k.Big))) = local_skips (pure o.Big) (local_pure o.Big)
order_by_local (Some (word (quoted k.Little))) = local_skips (pure o.Little) (local_pure o.Little)
order_by_local s = local_refuse

order_local : Local ByteOrder order
unfolding order
order_local = local_then (expect_keyword k.Endian) _ (local_expect_keyword k.Endian) (λ _. local_then (expect m.Equals) _ (local_expect m.Equals) (λ _. local_peek order_by order_by_local))

pub order_rule : Rule spell_order Free Any order
order_rule = record { complete = λ x rest r good may. order_is x rest r; sound = order_ok; here = order_local }

order_begins : (x : ByteOrder) (rest : List Sym) → is_keyword k.Endian (first (spell_order x rest)) ≡ true
unfolding same_keyword
order_begins x rest = refl

-- ---- attributes of spaces

space_attribute_is : (x : SpaceAttribute) (rest : List Sym) (r : ℕ) → IsSpaceAttribute x → space_attribute (at (spell_space_attribute x rest) r) ≡ Ok (x, at rest r)
unfolding space_attribute type_here size_attribute word_size_here checked_size expect expect_keyword same_mark same_keyword name_here integer_here
space_attribute_is (of_type w) rest r good = refl
space_attribute_is (of_size n) rest r good = refl
space_attribute_is (of_word_size n) rest r good = rw good refl
space_attribute_is is_default rest r good = refl

type_ok : (i j : Input) (x : SpaceAttribute) → type_here i ≡ Ok (x, j) → Takes spell_space_attribute IsSpaceAttribute i x j
unfolding type_here
type_ok i j x h =
    let a = then_ok (expect_keyword k.Type i) _ x j h in
    let b = then_ok (expect m.Equals a.1) _ x j a.3 in
    let c = then_ok (name_here b.1) _ x j b.3 in
    along (λ y l. Takes spell_space_attribute IsSpaceAttribute i y l) (of_type c.0) x c.1 j c.3 (record {
      tokens = symbol_then i (keyword k.Type) a.1 _ (expect_keyword_ok k.Type i a.1 a.0 a.2)
          (symbol_then a.1 (mark m.Equals) b.1 _ (expect_ok m.Equals a.1 b.1 b.0 b.2) (name_ok b.1 c.1 c.0 c.2).tokens);
      good = tt;
    })

size_attribute_ok : (i j : Input) (x : SpaceAttribute) → size_attribute i ≡ Ok (x, j) → Takes spell_space_attribute IsSpaceAttribute i x j
unfolding size_attribute
size_attribute_ok i j x h =
    let a = then_ok (expect_keyword k.Size i) _ x j h in
    let b = then_ok (expect m.Equals a.1) _ x j a.3 in
    let c = then_ok (integer_here b.1) _ x j b.3 in
    along (λ y l. Takes spell_space_attribute IsSpaceAttribute i y l) (of_size c.0) x c.1 j c.3 (record {
      tokens = symbol_then i (keyword k.Size) a.1 _ (expect_keyword_ok k.Size i a.1 a.0 a.2)
          (symbol_then a.1 (mark m.Equals) b.1 _ (expect_ok m.Equals a.1 b.1 b.0 b.2) (integer_ok b.1 c.1 c.0 c.2).tokens);
      good = tt;
    })

-- the word size that was read is 1
record TookWordSize (i : Input) (x : SpaceAttribute) (j : Input) : Type 0 where
  size : ℕ
  is : of_word_size size ≡ x
  took : Took i (number size) j
  good : size ≡ 1

checked_test : (b : Bool) (n : ℕ) (i j : Input) (x : SpaceAttribute) → first i.rest ≡ Some (number n) → (n == 1) ≡ b
    → cond {A = Reader SpaceAttribute} b (skip >> pure (of_word_size n)) (unsupport f.WordSize 2) i ≡ Ok (x, j) → TookWordSize i x j
checked_test true n i j x is t h =
    along (λ y l. TookWordSize i y l) (of_word_size n) x (next i) j h (record { size = n; is = refl; took = took_next i (number n) is; good = equal_is n 1 t })
checked_test false n i j x is t h = absurd (cc)

word_size_by_ok : (s : Option Sym) (i j : Input) (x : SpaceAttribute) → first i.rest ≡ s → word_size_by s i ≡ Ok (x, j) → TookWordSize i x j
unfolding checked_size
word_size_by_ok (Some (number n)) i j x is h = checked_test (n == 1) n i j x is refl h
word_size_by_ok s i j x is h = absurd (cc)

word_size_ok : (i j : Input) (x : SpaceAttribute) → word_size_here i ≡ Ok (x, j) → Takes spell_space_attribute IsSpaceAttribute i x j
unfolding word_size_here
word_size_ok i j x h =
    let a = then_ok (expect_keyword k.WordSize i) _ x j h in
    let b = then_ok (expect m.Equals a.1) _ x j a.3 in
    let c = word_size_by_ok (first b.1.rest) b.1 j x refl b.3 in
    subst (λ y. Takes spell_space_attribute IsSpaceAttribute i y j) c.is (record {
      tokens = symbol_then i (keyword k.WordSize) a.1 _ (expect_keyword_ok k.WordSize i a.1 a.0 a.2)
          (symbol_then a.1 (mark m.Equals) b.1 _ (expect_ok m.Equals a.1 b.1 b.0 b.2) c.took.tokens);
      good = c.good;
    })

space_attribute_by_ok : (s : Option Sym) (i j : Input) (x : SpaceAttribute) → first i.rest ≡ s → space_attribute_by s i ≡ Ok (x, j) → Takes spell_space_attribute IsSpaceAttribute i x j
space_attribute_by_ok (Some (word (quoted k.Type))) i j x is h = type_ok i j x h
space_attribute_by_ok (Some (word (quoted k.Size))) i j x is h = size_attribute_ok i j x h
space_attribute_by_ok (Some (word (quoted k.WordSize))) i j x is h = word_size_ok i j x h
space_attribute_by_ok (Some (word (quoted k.Default))) i j x is h =
    took_one spell_space_attribute IsSpaceAttribute i j (keyword k.Default) is_default x is (λ rest. refl) tt h
space_attribute_by_ok s i j x is h = absurd (cc)

space_attribute_ok : (i j : Input) (x : SpaceAttribute) → space_attribute i ≡ Ok (x, j) → Takes spell_space_attribute IsSpaceAttribute i x j
unfolding space_attribute
space_attribute_ok i j x h = space_attribute_by_ok (first i.rest) i j x refl h

word_size_by_local : (s : Option Sym) → Local SpaceAttribute (word_size_by s)
unfolding checked_size
word_size_by_local (Some (number n)) =
    local_if (n == 1) (skip >> pure (of_word_size n)) (unsupport f.WordSize 2) (local_skips (pure (of_word_size n)) (local_pure (of_word_size n))) (local_fault (unsupported f.WordSize 2))
word_size_by_local s = local_refuse

space_attribute_by_local : (s : Option Sym) → Local SpaceAttribute (space_attribute_by s)
unfolding type_here size_attribute word_size_here
space_attribute_by_local (Some (word (quoted k.Type))) =
    local_then (expect_keyword k.Type) _ (local_expect_keyword k.Type) (λ _. local_then (expect m.Equals) _ (local_expect m.Equals) (λ _. local_then name_here _ local_name (λ w. local_pure (of_type w))))
space_attribute_by_local (Some (word (quoted k.Size))) =
    local_then (expect_keyword k.Size) _ (local_expect_keyword k.Size) (λ _. local_then (expect m.Equals) _ (local_expect m.Equals) (λ _. local_then integer_here _ local_integer (λ n. local_pure (of_size n))))
space_attribute_by_local (Some (word (quoted k.WordSize))) =
    local_then (expect_keyword k.WordSize) _ (local_expect_keyword k.WordSize) (λ _. local_then (expect m.Equals) _ (local_expect m.Equals) (λ _. local_peek word_size_by word_size_by_local))
space_attribute_by_local (Some (word (quoted k.Default))) = local_skips (pure is_default) (local_pure is_default)
space_attribute_by_local s = local_refuse

space_attribute_local : Local SpaceAttribute space_attribute
unfolding space_attribute
space_attribute_local = local_peek space_attribute_by space_attribute_by_local

pub space_attribute_rule : Rule spell_space_attribute IsSpaceAttribute Any space_attribute
space_attribute_rule = record { complete = λ x rest r good may. space_attribute_is x rest r good; sound = space_attribute_ok; here = space_attribute_local }

long_space_attribute : (x : SpaceAttribute) (rest : List Sym) → length rest < length (spell_space_attribute x rest)
long_space_attribute (of_type w) rest = omega arith
long_space_attribute (of_size n) rest = omega arith
long_space_attribute (of_word_size n) rest = omega arith
long_space_attribute is_default rest = omega arith

space_attribute_begins : (x : SpaceAttribute) (rest : List Sym) → until m.Semicolon (first (spell_space_attribute x rest)) ≡ true
space_attribute_begins (of_type w) rest = refl
space_attribute_begins (of_size n) rest = refl
space_attribute_begins (of_word_size n) rest = refl
space_attribute_begins is_default rest = refl

pub space_attributes_rule : Rule (spell_all spell_space_attribute) (Each IsSpaceAttribute) (Ends (until m.Semicolon) Any) (many (until m.Semicolon) space_attribute)
space_attributes_rule = many_rule spell_space_attribute IsSpaceAttribute Any (until m.Semicolon) space_attribute space_attribute_rule long_space_attribute (record {
  begins = λ x rest good. space_attribute_begins x rest;
  follows = λ x rest good. tt;
})

-- ---- bit ranges

bit_range_is : (x : BitRange) (rest : List Sym) (r : ℕ) → bit_range (at (spell_bit_range x rest) r) ≡ Ok (x, at rest r)
unfolding bit_range expect same_mark name_here integer_here
bit_range_is x rest r = refl

bit_range_ok : (i j : Input) (x : BitRange) → bit_range i ≡ Ok (x, j) → Takes spell_bit_range Free i x j
unfolding bit_range
bit_range_ok i j x h =
    let a = then_ok (name_here i) _ x j h in
    let b = then_ok (expect m.Equals a.1) _ x j a.3 in
    let c = then_ok (name_here b.1) _ x j b.3 in
    let d = then_ok (expect m.OpenBracket c.1) _ x j c.3 in
    let e = then_ok (integer_here d.1) _ x j d.3 in
    let f = then_ok (expect m.Comma e.1) _ x j e.3 in
    let g = then_ok (integer_here f.1) _ x j f.3 in
    let l = then_ok (expect m.CloseBracket g.1) _ x j g.3 in
    along (λ y n. Takes spell_bit_range Free i y n) (record { name = a.0; register = c.0; low = e.0; count = g.0 }) x l.1 j l.3 (record {
      tokens = symbol_then i (name a.0) a.1 _ (name_ok i a.1 a.0 a.2) (symbol_then a.1 (mark m.Equals) b.1 _ (expect_ok m.Equals a.1 b.1 b.0 b.2) (symbol_then b.1 (name c.0) c.1 _ (name_ok b.1 c.1 c.0 c.2)
          (symbol_then c.1 (mark m.OpenBracket) d.1 _ (expect_ok m.OpenBracket c.1 d.1 d.0 d.2) (symbol_then d.1 (number e.0) e.1 _ (integer_ok d.1 e.1 e.0 e.2)
          (symbol_then e.1 (mark m.Comma) f.1 _ (expect_ok m.Comma e.1 f.1 f.0 f.2) (symbol_then f.1 (number g.0) g.1 _ (integer_ok f.1 g.1 g.0 g.2)
          (expect_ok m.CloseBracket g.1 l.1 l.0 l.2).tokens))))));
      good = tt;
    })

bit_range_local : Local BitRange bit_range
unfolding bit_range
bit_range_local = local_then name_here _ local_name (λ w. local_then (expect m.Equals) _ (local_expect m.Equals) (λ _. local_then name_here _ local_name (λ register.
    local_then (expect m.OpenBracket) _ (local_expect m.OpenBracket) (λ _. local_then integer_here _ local_integer (λ low. local_then (expect m.Comma) _ (local_expect m.Comma)
    (λ _. local_then integer_here _ local_integer (λ count. local_then (expect m.CloseBracket) _ (local_expect m.CloseBracket)
    (λ _. local_pure (record { name = w; register = register; low = low; count = count })))))))))

pub bit_range_rule : Rule spell_bit_range Free Any bit_range
bit_range_rule = record { complete = λ x rest r good may. bit_range_is x rest r; sound = bit_range_ok; here = bit_range_local }

pub bit_ranges_rule : Rule (spell_all spell_bit_range) (Each Free) (Ends (until m.Semicolon) Any) (many (until m.Semicolon) bit_range)
bit_ranges_rule = many_rule spell_bit_range Free Any (until m.Semicolon) bit_range bit_range_rule (λ x rest. omega arith) (record { begins = λ x rest good. refl; follows = λ x rest good. tt })

-- ---- fields

attribute_is : (x : FieldAttribute) (rest : List Sym) (r : ℕ) → attribute (at (spell_attribute x rest) r) ≡ Ok (x, at rest r)
unfolding attribute
attribute_is fa.Signed rest r = refl
attribute_is fa.Hex rest r = refl
attribute_is fa.Dec rest r = refl
attribute_is fa.NoFlow rest r = refl

attribute_by_ok : (s : Option Sym) (i j : Input) (x : FieldAttribute) → first i.rest ≡ s → attribute_by s i ≡ Ok (x, j) → Takes spell_attribute Free i x j
attribute_by_ok (Some (word (quoted k.Signed))) i j x is h = took_one spell_attribute Free i j (keyword k.Signed) fa.Signed x is (λ rest. refl) tt h
attribute_by_ok (Some (word (quoted k.Hex))) i j x is h = took_one spell_attribute Free i j (keyword k.Hex) fa.Hex x is (λ rest. refl) tt h
attribute_by_ok (Some (word (quoted k.Dec))) i j x is h = took_one spell_attribute Free i j (keyword k.Dec) fa.Dec x is (λ rest. refl) tt h
attribute_by_ok (Some (word (quoted k.NoFlow))) i j x is h = took_one spell_attribute Free i j (keyword k.NoFlow) fa.NoFlow x is (λ rest. refl) tt h
attribute_by_ok s i j x is h = absurd (cc)

attribute_ok : (i j : Input) (x : FieldAttribute) → attribute i ≡ Ok (x, j) → Takes spell_attribute Free i x j
unfolding attribute
attribute_ok i j x h = attribute_by_ok (first i.rest) i j x refl h

attribute_by_local : (s : Option Sym) → Local FieldAttribute (attribute_by s)
attribute_by_local (Some (word (quoted k.Signed))) = local_skips (pure fa.Signed) (local_pure fa.Signed)
attribute_by_local (Some (word (quoted k.Hex))) = local_skips (pure fa.Hex) (local_pure fa.Hex)
attribute_by_local (Some (word (quoted k.Dec))) = local_skips (pure fa.Dec) (local_pure fa.Dec)
attribute_by_local (Some (word (quoted k.NoFlow))) = local_skips (pure fa.NoFlow) (local_pure fa.NoFlow)
attribute_by_local s = local_refuse

attribute_local : Local FieldAttribute attribute
unfolding attribute
attribute_local = local_peek attribute_by attribute_by_local

pub attribute_rule : Rule spell_attribute Free Any attribute
attribute_rule = record { complete = λ x rest r good may. attribute_is x rest r; sound = attribute_ok; here = attribute_local }

attribute_begins : (x : FieldAttribute) (rest : List Sym) → is_attribute (first (spell_attribute x rest)) ≡ true
attribute_begins fa.Signed rest = refl
attribute_begins fa.Hex rest = refl
attribute_begins fa.Dec rest = refl
attribute_begins fa.NoFlow rest = refl

pub attributes_rule : Rule (spell_all spell_attribute) (Each Free) (Ends is_attribute Any) (many is_attribute attribute)
attributes_rule = many_rule spell_attribute Free Any is_attribute attribute attribute_rule (λ x rest. omega arith) (record { begins = λ x rest good. attribute_begins x rest; follows = λ x rest good. tt })

pub each_free : {A : Type 0} (xs : List A) → Each {A = A} Free xs
each_free [] = tt
each_free (x ∷ xs) = (tt, each_free xs)

-- what may follow a field: no attribute
abbrev NoAttribute : List Sym → Type 0
NoAttribute rest = is_attribute (first rest) ≡ false

field_is : (x : Field) (rest : List Sym) (r : ℕ) → NoAttribute rest → field (at (spell_field x rest) r) ≡ Ok (x, at rest r)
unfolding field expect same_mark name_here integer_here
field_is x rest r may = rw (attributes_rule.complete x.attributes rest r (each_free x.attributes) (may, tt)) refl

pub field_ok : (i j : Input) (x : Field) → field i ≡ Ok (x, j) → Takes spell_field Free i x j
unfolding field
field_ok i j x h =
    let a = then_ok (name_here i) _ x j h in
    let b = then_ok (expect m.Equals a.1) _ x j a.3 in
    let c = then_ok (expect m.Open b.1) _ x j b.3 in
    let d = then_ok (integer_here c.1) _ x j c.3 in
    let e = then_ok (expect m.Comma d.1) _ x j d.3 in
    let f = then_ok (integer_here e.1) _ x j e.3 in
    let g = then_ok (expect m.Close f.1) _ x j f.3 in
    let l = then_ok (many is_attribute attribute g.1) _ x j g.3 in
    along (λ y n. Takes spell_field Free i y n) (record { name = a.0; low = d.0; high = f.0; attributes = l.0 }) x l.1 j l.3 (record {
      tokens = symbol_then i (name a.0) a.1 _ (name_ok i a.1 a.0 a.2) (symbol_then a.1 (mark m.Equals) b.1 _ (expect_ok m.Equals a.1 b.1 b.0 b.2) (symbol_then b.1 (mark m.Open) c.1 _ (expect_ok m.Open b.1 c.1 c.0 c.2)
          (symbol_then c.1 (number d.0) d.1 _ (integer_ok c.1 d.1 d.0 d.2) (symbol_then d.1 (mark m.Comma) e.1 _ (expect_ok m.Comma d.1 e.1 e.0 e.2) (symbol_then e.1 (number f.0) f.1 _ (integer_ok e.1 f.1 f.0 f.2)
          (symbol_then f.1 (mark m.Close) g.1 _ (expect_ok m.Close f.1 g.1 g.0 g.2) (attributes_rule.sound g.1 l.1 l.0 l.2).tokens))))));
      good = tt;
    })

field_local : Local Field field
unfolding field
field_local = local_then name_here _ local_name (λ w. local_then (expect m.Equals) _ (local_expect m.Equals) (λ _. local_then (expect m.Open) _ (local_expect m.Open) (λ _.
    local_then integer_here _ local_integer (λ low. local_then (expect m.Comma) _ (local_expect m.Comma) (λ _. local_then integer_here _ local_integer (λ high.
    local_then (expect m.Close) _ (local_expect m.Close) (λ _. local_then (many is_attribute attribute) _ attributes_rule.here
    (λ attributes. local_pure (record { name = w; low = low; high = high; attributes = attributes })))))))))

pub field_rule : Rule spell_field Free NoAttribute field
field_rule = record { complete = λ x rest r good may. field_is x rest r may; sound = field_ok; here = field_local }

long_field : (x : Field) (rest : List Sym) → length rest < length (spell_field x rest)
long_field x rest = omega (arith, long_all spell_attribute (λ y zs. omega arith) x.attributes rest)

pub fields_rule : Rule (spell_all spell_field) (Each Free) (Ends (until m.Semicolon) NoAttribute) (many (until m.Semicolon) field)
fields_rule = many_rule spell_field Free NoAttribute (until m.Semicolon) field field_rule long_field (record { begins = λ x rest good. refl; follows = λ x rest good. refl })

-- ---- names

pub name_list_rule : Rule (spell_all spell_name) (Each Free) (Ends (until m.CloseBracket) Any) (many (until m.CloseBracket) name_here)
name_list_rule = many_rule spell_name Free Any (until m.CloseBracket) name_here name_rule (λ x rest. omega arith) (record { begins = λ x rest good. refl; follows = λ x rest good. tt })

names_are : (x : Names) (rest : List Sym) (r : ℕ) → names (at (spell_names x rest) r) ≡ Ok (x, at rest r)
unfolding names name_list expect same_mark name_here
names_are (one w) rest r = refl
names_are (several ws) rest r = rw (name_list_rule.complete ws (mark m.CloseBracket ∷ rest) r (each_free ws) (bracket_ends rest)) refl

name_list_ok : (i j : Input) (x : Names) → name_list i ≡ Ok (x, j) → Takes spell_names Free i x j
unfolding name_list
name_list_ok i j x h =
    let a = then_ok (expect m.OpenBracket i) _ x j h in
    let b = then_ok (many (until m.CloseBracket) name_here a.1) _ x j a.3 in
    let c = then_ok (expect m.CloseBracket b.1) _ x j b.3 in
    along (λ y l. Takes spell_names Free i y l) (several b.0) x c.1 j c.3 (record {
      tokens = symbol_then i (mark m.OpenBracket) a.1 _ (expect_ok m.OpenBracket i a.1 a.0 a.2)
          (tree_then (spell_all spell_name) (Each Free) a.1 b.0 b.1 _ (name_list_rule.sound a.1 b.1 b.0 b.2) (expect_ok m.CloseBracket b.1 c.1 c.0 c.2).tokens);
      good = tt;
    })

names_by_ok : (s : Option Sym) (i j : Input) (x : Names) → names_by s i ≡ Ok (x, j) → Takes spell_names Free i x j
names_by_ok (Some (mark m.OpenBracket)) i j x h = name_list_ok i j x h
names_by_ok s i j x h = wrap_ok spell_name Free spell_names Free name_here one name_takes (λ i j w t. record { tokens = t.tokens; good = tt }) i j x h

pub names_ok : (i j : Input) (x : Names) → names i ≡ Ok (x, j) → Takes spell_names Free i x j
unfolding names
names_ok i j x h = names_by_ok (first i.rest) i j x h

names_by_local : (s : Option Sym) → Local Names (names_by s)
unfolding name_list
names_by_local (Some (mark m.OpenBracket)) = local_then (expect m.OpenBracket) _ (local_expect m.OpenBracket) (λ _. local_then (many (until m.CloseBracket) name_here) _ name_list_rule.here
    (λ ws. local_then (expect m.CloseBracket) _ (local_expect m.CloseBracket) (λ _. local_pure (several ws))))
names_by_local s = wrap_local name_here one local_name

names_local : Local Names names
unfolding names
names_local = local_peek names_by names_by_local

pub names_rule : Rule spell_names Free Any names
names_rule = record { complete = λ x rest r good may. names_are x rest r; sound = names_ok; here = names_local }

-- ---- definitions

-- a definition is read from its spelling, before its semicolon
pub definition_is : (d : Definition) (rest : List Sym) (r : ℕ) → IsDefinition d → definition (at (spell_definition d (mark m.Semicolon ∷ rest)) r) ≡ Ok (d, at (mark m.Semicolon ∷ rest) r)
unfolding definition alignment_here space_here bit_ranges_here pcode_ops_here token_here context_here registers_here expect expect_keyword same_mark same_keyword name_here integer_here
definition_is (endian x) rest r good = rw (order_is x (mark m.Semicolon ∷ rest) r) refl
definition_is (alignment n) rest r good = refl
definition_is (space w attributes) rest r good = rw (space_attributes_rule.complete attributes (mark m.Semicolon ∷ rest) r good (semicolon_ends Any rest tt)) refl
definition_is (bit_ranges head more) rest r good =
    rw (bit_range_is head (spell_all spell_bit_range more (mark m.Semicolon ∷ rest)) r, bit_ranges_rule.complete more (mark m.Semicolon ∷ rest) r (each_free more) (semicolon_ends Any rest tt)) refl
definition_is (pcode_ops ws) rest r good = rw (names_are ws (mark m.Semicolon ∷ rest) r) refl
definition_is (token w size own fields) rest r good =
    rw (
      (optional_rule spell_order Free Any (is_keyword k.Endian) order order_rule order_begins).complete own (spell_all spell_field fields (mark m.Semicolon ∷ rest)) r (free_option own) (no_order fields rest, tt),
      fields_rule.complete fields (mark m.Semicolon ∷ rest) r (each_free fields) (semicolon_ends NoAttribute rest refl),
    ) refl
  where
    free_option : (x : Option ByteOrder) → IfWritten {A = ByteOrder} Free x
    free_option None = tt
    free_option (Some w) = tt

    no_order : (fields : List Field) (rest : List Sym) → is_keyword k.Endian (first (spell_all spell_field fields (mark m.Semicolon ∷ rest))) ≡ false
    no_order [] rest = refl
    no_order (x ∷ xs) rest = refl
definition_is (context w fields) rest r good = rw (fields_rule.complete fields (mark m.Semicolon ∷ rest) r (each_free fields) (semicolon_ends NoAttribute rest refl)) refl
definition_is (registers w offset size ws) rest r good = rw (names_are ws (mark m.Semicolon ∷ rest) r) refl

-- the reader's definition has the spelling that was taken
abbrev Tells : Reader Definition → Type 0
Tells p = (i j : Input) (d : Definition) → p i ≡ Ok (d, j) → Takes spell_definition IsDefinition i d j

alignment_ok : Tells alignment_here
unfolding alignment_here
alignment_ok i j d h =
    let a = then_ok (expect_keyword k.Alignment i) _ d j h in
    let b = then_ok (expect m.Equals a.1) _ d j a.3 in
    let c = then_ok (integer_here b.1) _ d j b.3 in
    along (λ y l. Takes spell_definition IsDefinition i y l) (alignment c.0) d c.1 j c.3 (record {
      tokens = symbol_then i (keyword k.Alignment) a.1 _ (expect_keyword_ok k.Alignment i a.1 a.0 a.2)
          (symbol_then a.1 (mark m.Equals) b.1 _ (expect_ok m.Equals a.1 b.1 b.0 b.2) (integer_ok b.1 c.1 c.0 c.2).tokens);
      good = tt;
    })

space_ok : Tells space_here
unfolding space_here
space_ok i j d h =
    let a = then_ok (expect_keyword k.Space i) _ d j h in
    let b = then_ok (name_here a.1) _ d j a.3 in
    let c = then_ok (many (until m.Semicolon) space_attribute b.1) _ d j b.3 in
    let found = space_attributes_rule.sound b.1 c.1 c.0 c.2 in
    along (λ y l. Takes spell_definition IsDefinition i y l) (space b.0 c.0) d c.1 j c.3 (record {
      tokens = symbol_then i (keyword k.Space) a.1 _ (expect_keyword_ok k.Space i a.1 a.0 a.2) (symbol_then a.1 (name b.0) b.1 _ (name_ok a.1 b.1 b.0 b.2) found.tokens);
      good = found.good;
    })

bit_ranges_ok : Tells bit_ranges_here
unfolding bit_ranges_here
bit_ranges_ok i j d h =
    let a = then_ok (expect_keyword k.BitRange i) _ d j h in
    let b = then_ok (bit_range a.1) _ d j a.3 in
    let c = then_ok (many (until m.Semicolon) bit_range b.1) _ d j b.3 in
    along (λ y l. Takes spell_definition IsDefinition i y l) (bit_ranges b.0 c.0) d c.1 j c.3 (record {
      tokens = symbol_then i (keyword k.BitRange) a.1 _ (expect_keyword_ok k.BitRange i a.1 a.0 a.2)
          (tree_then spell_bit_range Free a.1 b.0 b.1 _ (bit_range_ok a.1 b.1 b.0 b.2) (bit_ranges_rule.sound b.1 c.1 c.0 c.2).tokens);
      good = tt;
    })

pcode_ops_ok : Tells pcode_ops_here
unfolding pcode_ops_here
pcode_ops_ok i j d h =
    let a = then_ok (expect_keyword k.PcodeOp i) _ d j h in
    let b = then_ok (names a.1) _ d j a.3 in
    along (λ y l. Takes spell_definition IsDefinition i y l) (pcode_ops b.0) d b.1 j b.3 (record {
      tokens = symbol_then i (keyword k.PcodeOp) a.1 _ (expect_keyword_ok k.PcodeOp i a.1 a.0 a.2) (names_ok a.1 b.1 b.0 b.2).tokens;
      good = tt;
    })

pub own_order_rule : Rule (spell_option spell_order) (IfWritten Free) (Ends (is_keyword k.Endian) Any) (optional (is_keyword k.Endian) order)
own_order_rule = optional_rule spell_order Free Any (is_keyword k.Endian) order order_rule order_begins

token_ok : Tells token_here
unfolding token_here
token_ok i j d h =
    let a = then_ok (expect_keyword k.Token i) _ d j h in
    let b = then_ok (name_here a.1) _ d j a.3 in
    let c = then_ok (expect m.Open b.1) _ d j b.3 in
    let e = then_ok (integer_here c.1) _ d j c.3 in
    let f = then_ok (expect m.Close e.1) _ d j e.3 in
    let g = then_ok (optional (is_keyword k.Endian) order f.1) _ d j f.3 in
    let l = then_ok (many (until m.Semicolon) field g.1) _ d j g.3 in
    along (λ y n. Takes spell_definition IsDefinition i y n) (token b.0 e.0 g.0 l.0) d l.1 j l.3 (record {
      tokens = symbol_then i (keyword k.Token) a.1 _ (expect_keyword_ok k.Token i a.1 a.0 a.2) (symbol_then a.1 (name b.0) b.1 _ (name_ok a.1 b.1 b.0 b.2) (symbol_then b.1 (mark m.Open) c.1 _ (expect_ok m.Open b.1 c.1 c.0 c.2)
          (symbol_then c.1 (number e.0) e.1 _ (integer_ok c.1 e.1 e.0 e.2) (symbol_then e.1 (mark m.Close) f.1 _ (expect_ok m.Close e.1 f.1 f.0 f.2)
          (tree_then (spell_option spell_order) (IfWritten Free) f.1 g.0 g.1 _ (own_order_rule.sound f.1 g.1 g.0 g.2) (fields_rule.sound g.1 l.1 l.0 l.2).tokens)))));
      good = tt;
    })

context_ok : Tells context_here
unfolding context_here
context_ok i j d h =
    let a = then_ok (expect_keyword k.Context i) _ d j h in
    let b = then_ok (name_here a.1) _ d j a.3 in
    let c = then_ok (many (until m.Semicolon) field b.1) _ d j b.3 in
    along (λ y l. Takes spell_definition IsDefinition i y l) (context b.0 c.0) d c.1 j c.3 (record {
      tokens = symbol_then i (keyword k.Context) a.1 _ (expect_keyword_ok k.Context i a.1 a.0 a.2)
          (symbol_then a.1 (name b.0) b.1 _ (name_ok a.1 b.1 b.0 b.2) (fields_rule.sound b.1 c.1 c.0 c.2).tokens);
      good = tt;
    })

registers_ok : Tells registers_here
unfolding registers_here
registers_ok i j d h =
    let a = then_ok (name_here i) _ d j h in
    let b = then_ok (expect_keyword k.Offset a.1) _ d j a.3 in
    let c = then_ok (expect m.Equals b.1) _ d j b.3 in
    let e = then_ok (integer_here c.1) _ d j c.3 in
    let f = then_ok (expect_keyword k.Size e.1) _ d j e.3 in
    let g = then_ok (expect m.Equals f.1) _ d j f.3 in
    let l = then_ok (integer_here g.1) _ d j g.3 in
    let n = then_ok (names l.1) _ d j l.3 in
    along (λ y x. Takes spell_definition IsDefinition i y x) (registers a.0 e.0 l.0 n.0) d n.1 j n.3 (record {
      tokens = symbol_then i (name a.0) a.1 _ (name_ok i a.1 a.0 a.2) (symbol_then a.1 (keyword k.Offset) b.1 _ (expect_keyword_ok k.Offset a.1 b.1 b.0 b.2)
          (symbol_then b.1 (mark m.Equals) c.1 _ (expect_ok m.Equals b.1 c.1 c.0 c.2) (symbol_then c.1 (number e.0) e.1 _ (integer_ok c.1 e.1 e.0 e.2)
          (symbol_then e.1 (keyword k.Size) f.1 _ (expect_keyword_ok k.Size e.1 f.1 f.0 f.2) (symbol_then f.1 (mark m.Equals) g.1 _ (expect_ok m.Equals f.1 g.1 g.0 g.2)
          (symbol_then g.1 (number l.0) l.1 _ (integer_ok g.1 l.1 l.0 l.2) (names_ok l.1 n.1 n.0 n.2).tokens))))));
      good = tt;
    })

definition_by_ok : (s : Option Sym) → Tells (definition_by s)
definition_by_ok (Some (word (quoted k.Endian))) i j d h = wrap_ok spell_order Free spell_definition IsDefinition order endian order_ok (λ i j x t. record { tokens = t.tokens; good = tt }) i j d h
definition_by_ok (Some (word (quoted k.Alignment))) i j d h = alignment_ok i j d h
definition_by_ok (Some (word (quoted k.Space))) i j d h = space_ok i j d h
definition_by_ok (Some (word (quoted k.BitRange))) i j d h = bit_ranges_ok i j d h
definition_by_ok (Some (word (quoted k.PcodeOp))) i j d h = pcode_ops_ok i j d h
definition_by_ok (Some (word (quoted k.Token))) i j d h = token_ok i j d h
definition_by_ok (Some (word (quoted k.Context))) i j d h = context_ok i j d h
definition_by_ok s i j d h = registers_ok i j d h

pub definition_ok : Tells definition
unfolding definition
definition_ok i j d h = definition_by_ok (first i.rest) i j d h

-- ---- local

definition_by_local : (s : Option Sym) → Local Definition (definition_by s)
unfolding alignment_here space_here bit_ranges_here pcode_ops_here token_here context_here registers_here
definition_by_local (Some (word (quoted k.Endian))) = wrap_local order endian order_local
definition_by_local (Some (word (quoted k.Alignment))) =
    local_then (expect_keyword k.Alignment) _ (local_expect_keyword k.Alignment) (λ _. local_then (expect m.Equals) _ (local_expect m.Equals) (λ _. local_then integer_here _ local_integer (λ n. local_pure (alignment n))))
definition_by_local (Some (word (quoted k.Space))) =
    local_then (expect_keyword k.Space) _ (local_expect_keyword k.Space) (λ _. local_then name_here _ local_name (λ w. local_then (many (until m.Semicolon) space_attribute) _ space_attributes_rule.here
    (λ attributes. local_pure (space w attributes))))
definition_by_local (Some (word (quoted k.BitRange))) =
    local_then (expect_keyword k.BitRange) _ (local_expect_keyword k.BitRange) (λ _. local_then bit_range _ bit_range_local (λ head. local_then (many (until m.Semicolon) bit_range) _ bit_ranges_rule.here
    (λ more. local_pure (bit_ranges head more))))
definition_by_local (Some (word (quoted k.PcodeOp))) = local_then (expect_keyword k.PcodeOp) _ (local_expect_keyword k.PcodeOp) (λ _. local_then names _ names_local (λ ws. local_pure (pcode_ops ws)))
definition_by_local (Some (word (quoted k.Token))) =
    local_then (expect_keyword k.Token) _ (local_expect_keyword k.Token) (λ _. local_then name_here _ local_name (λ w. local_then (expect m.Open) _ (local_expect m.Open) (λ _.
    local_then integer_here _ local_integer (λ size. local_then (expect m.Close) _ (local_expect m.Close) (λ _. local_then (optional (is_keyword k.Endian) order) _ own_order_rule.here (λ own.
    local_then (many (until m.Semicolon) field) _ fields_rule.here (λ fields. local_pure (token w size own fields))))))))
definition_by_local (Some (word (quoted k.Context))) =
    local_then (expect_keyword k.Context) _ (local_expect_keyword k.Context) (λ _. local_then name_here _ local_name (λ w. local_then (many (until m.Semicolon) field) _ fields_rule.here
    (λ fields. local_pure (context w fields))))
definition_by_local s =
    local_then name_here _ local_name (λ w. local_then (expect_keyword k.Offset) _ (local_expect_keyword k.Offset) (λ _. local_then (expect m.Equals) _ (local_expect m.Equals) (λ _.
    local_then integer_here _ local_integer (λ offset. local_then (expect_keyword k.Size) _ (local_expect_keyword k.Size) (λ _. local_then (expect m.Equals) _ (local_expect m.Equals) (λ _.
    local_then integer_here _ local_integer (λ size. local_then names _ names_local (λ ws. local_pure (registers w offset size ws)))))))))

pub definition_local : Local Definition definition
unfolding definition
definition_local = local_peek definition_by definition_by_local

-- ---- attached lists

pub attach_kind_is : (x : AttachKind) (rest : List Sym) (r : ℕ) → attach_kind (at (keyword (kind_word x) ∷ rest) r) ≡ Ok (x, at rest r)
unfolding attach_kind
attach_kind_is a.Variables rest r = refl
attach_kind_is a.Names rest r = refl
attach_kind_is a.Values rest r = refl

kind_by_ok : (s : Option Sym) (i j : Input) (x : AttachKind) → first i.rest ≡ s → kind_by s i ≡ Ok (x, j) → Took i (keyword (kind_word x)) j
kind_by_ok (Some (word (quoted k.Variables))) i j x is h = along (λ y l. Took i (keyword (kind_word y)) l) a.Variables x (next i) j h (took_next i (keyword k.Variables) is)
kind_by_ok (Some (word (quoted k.Names))) i j x is h = along (λ y l. Took i (keyword (kind_word y)) l) a.Names x (next i) j h (took_next i (keyword k.Names) is)
kind_by_ok (Some (word (quoted k.Values))) i j x is h = along (λ y l. Took i (keyword (kind_word y)) l) a.Values x (next i) j h (took_next i (keyword k.Values) is)
kind_by_ok s i j x is h = absurd (cc)

pub attach_kind_ok : (i j : Input) (x : AttachKind) → attach_kind i ≡ Ok (x, j) → Took i (keyword (kind_word x)) j
unfolding attach_kind
attach_kind_ok i j x h = kind_by_ok (first i.rest) i j x refl h

kind_by_local : (s : Option Sym) → Local AttachKind (kind_by s)
kind_by_local (Some (word (quoted k.Variables))) = local_skips (pure a.Variables) (local_pure a.Variables)
kind_by_local (Some (word (quoted k.Names))) = local_skips (pure a.Names) (local_pure a.Names)
kind_by_local (Some (word (quoted k.Values))) = local_skips (pure a.Values) (local_pure a.Values)
kind_by_local s = local_refuse

pub attach_kind_local : Local AttachKind attach_kind
unfolding attach_kind
attach_kind_local = local_peek kind_by kind_by_local

member_is : (x : Member) (rest : List Sym) (r : ℕ) → IsMember x → member (at (spell_member x rest) r) ≡ Ok (x, at rest r)
unfolding member integer_here
member_is (member_word (plain w)) rest r good = refl
member_is (member_word (quoted k.InstNext2)) rest r good = absurd good
member_is (member_word (quoted k)) rest r good = refl
member_is (member_text t) rest r good = refl
member_is (member_integer n) rest r good = refl
member_is (member_negative n) rest r good = refl

negative_ok : (i j : Input) (x : Member) → first i.rest ≡ Some (mark m.Minus) → and_then (integer_here (next i)) (λ n l. Ok (member_negative n, l)) ≡ Ok (x, j) → Takes spell_member IsMember i x j
negative_ok i j x is h =
    let a = then_ok (integer_here (next i)) _ x j h in
    along (λ y l. Takes spell_member IsMember i y l) (member_negative a.0) x a.1 j a.3 (record {
      tokens = symbol_then i (mark m.Minus) (next i) _ (took_next i (mark m.Minus) is) (integer_ok (next i) a.1 a.0 a.2).tokens;
      good = tt;
    })

member_by_ok : (s : Option Sym) (i j : Input) (x : Member) → first i.rest ≡ s → member_by s i ≡ Ok (x, j) → Takes spell_member IsMember i x j
member_by_ok (Some (number n)) i j x is h = took_one spell_member IsMember i j (number n) (member_integer n) x is (λ rest. refl) tt h
member_by_ok (Some (text t)) i j x is h = took_one spell_member IsMember i j (text t) (member_text t) x is (λ rest. refl) tt h
member_by_ok (Some (mark m.Minus)) i j x is h = negative_ok i j x is h
member_by_ok (Some (word (quoted k.InstNext2))) i j x is h = absurd (cc)
member_by_ok (Some (word (plain w))) i j x is h = took_one spell_member IsMember i j (word (plain w)) (member_word (plain w)) x is (λ rest. refl) tt h
member_by_ok (Some (word (quoted k))) i j x is h = took_one spell_member IsMember i j (word (quoted k)) (member_word (quoted k)) x is (λ rest. refl) tt h
member_by_ok s i j x is h = absurd (cc)

pub member_ok : (i j : Input) (x : Member) → member i ≡ Ok (x, j) → Takes spell_member IsMember i x j
unfolding member
member_ok i j x h = member_by_ok (first i.rest) i j x refl h

member_by_local : (s : Option Sym) → Local Member (member_by s)
member_by_local (Some (number n)) = local_skips (pure (member_integer n)) (local_pure (member_integer n))
member_by_local (Some (text t)) = local_skips (pure (member_text t)) (local_pure (member_text t))
member_by_local (Some (mark m.Minus)) = local_then skip _ local_skip (λ _. local_then integer_here _ local_integer (λ n. local_pure (member_negative n)))
member_by_local (Some (word (quoted k.InstNext2))) = local_refuse
member_by_local (Some (word w)) = local_skips (pure (member_word w)) (local_pure (member_word w))
member_by_local s = local_refuse

member_local : Local Member member
unfolding member
member_local = local_peek member_by member_by_local

pub member_rule : Rule spell_member IsMember Any member
member_rule = record { complete = λ x rest r good may. member_is x rest r good; sound = member_ok; here = member_local }

pub long_member : (x : Member) (rest : List Sym) → length rest < length (spell_member x rest)
long_member (member_word w) rest = omega arith
long_member (member_text t) rest = omega arith
long_member (member_integer n) rest = omega arith
long_member (member_negative n) rest = omega arith

member_begins : (x : Member) (rest : List Sym) → until m.CloseBracket (first (spell_member x rest)) ≡ true
unfolding same_mark
member_begins (member_word w) rest = refl
member_begins (member_text t) rest = refl
member_begins (member_integer n) rest = refl
member_begins (member_negative n) rest = refl

pub members_rule : Rule (spell_all spell_member) (Each IsMember) (Ends (until m.CloseBracket) Any) (many (until m.CloseBracket) member)
members_rule = many_rule spell_member IsMember Any (until m.CloseBracket) member member_rule long_member (record { begins = λ x rest good. member_begins x rest; follows = λ x rest good. tt })

-- ---- how many symbols

long_option : (x : Option ByteOrder) (rest : List Sym) → length rest ≤ length (spell_option spell_order x rest)
long_option None rest = omega arith
long_option (Some w) rest = omega arith

pub long_names : (x : Names) (rest : List Sym) → length rest < length (spell_names x rest)
long_names (one w) rest = omega arith
long_names (several ws) rest = omega (arith, long_all spell_name (λ w zs. omega arith) ws (mark m.CloseBracket ∷ rest))

pub long_definition : (d : Definition) (rest : List Sym) → length rest ≤ length (spell_definition d rest)
long_definition (endian x) rest = omega arith
long_definition (alignment n) rest = omega arith
long_definition (space w attributes) rest = omega (arith, long_all spell_space_attribute long_space_attribute attributes rest)
long_definition (bit_ranges head more) rest = omega (arith, long_all spell_bit_range (λ b zs. omega arith) more rest)
long_definition (pcode_ops ws) rest = omega (arith, long_names ws rest)
long_definition (token w size own fields) rest = omega (arith, long_option own (spell_all spell_field fields rest), long_all spell_field long_field fields rest)
long_definition (context w fields) rest = omega (arith, long_all spell_field long_field fields rest)
long_definition (registers w offset size ws) rest = omega (arith, long_names ws rest)
