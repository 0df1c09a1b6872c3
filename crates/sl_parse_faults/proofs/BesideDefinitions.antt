-- Readers of definitions and attached lists, in two readings side by side.
use Rattle.std.proofs.Common.{◌≡◌, ℕ, zero, suc, ◌+◌, ◌≤◌, Bool, true, false, cond, ◌==◌, List, [], ◌∷◌, ◌++◌, length, Option, None, Some, refl, arith}
use Rattle.sl_ast.specs.Symbols.{plain, quoted, Sym, number, word, text, mark}
use Rattle.sl_ast.specs.Trees.{SpaceAttribute, of_type, of_size, of_word_size, is_default, Names, one, several, Definition, endian, alignment, space, bit_ranges, pcode_ops, token, context, registers, Member, member_word, member_text, member_integer, member_negative}
use Rattle.sl_ast.specs.declared.definitions.AttachKind.{AttachKind}
use Rattle.sl_ast.specs.declared.definitions.AttachKind.TheVariants as a
use Rattle.sl_ast.specs.declared.definitions.ByteOrder.{ByteOrder}
use Rattle.sl_ast.specs.declared.definitions.ByteOrder.TheVariants as o
use Rattle.sl_ast.specs.declared.definitions.FieldAttribute.{FieldAttribute}
use Rattle.sl_ast.specs.declared.definitions.FieldAttribute.TheVariants as fa
use Rattle.sl_ast.specs.declared.symbols.Feature.TheVariants as f
use Rattle.sl_ast.specs.declared.symbols.Keyword.{Keyword}
use Rattle.sl_ast.specs.declared.symbols.Keyword.TheVariants as k
use Rattle.sl_ast.specs.declared.symbols.Mark.TheVariants as m
use Rattle.sl_parse_grammar.specs.Definitions.{order_by, order, checked_size, word_size_by, type_here, size_attribute, word_size_here, space_attribute_by, space_attribute, bit_range, is_attribute, attribute_by, attribute, field, name_list, names_by, names, alignment_here, space_here, bit_ranges_here, pcode_ops_here, token_here, context_here, registers_here, definition_by, definition, kind_by, attach_kind, member_by, member}
use Rattle.sl_parse_grammar.specs.Lists.{many_from, many}
use Rattle.sl_parse_grammar.specs.Reader.{Input, at, first, Outcome, Reader, ◌>>=◌, ◌>>◌, pure, skip, unsupport, unsupported, fault, same_mark, same_keyword, is_keyword, expect, expect_keyword, name_here, optional}
use Rattle.sl_parse_grammar.specs.Statements.{until}
use Rattle.sl_parse_faults.proofs.BesideSteps.{Pair, address, lone_name, lone_word, wide, opening, leading, calling, sizing, floating, lacking, Untaken, tilde, other_dots, bracket, dots, Firm, NoMore, Abreast, told, told_here, past, stuck, Begun, Beside, IsClosed, Closed, nothing_left, closed_pure, closed_then, ends_then, ends_expect_keyword, begun_then, beside_then, loose_then, loose_later, begun_less, begun_loosen, beside_pure, begun_fault, begun_skip, begun_skips, begun_refuse, begun_peek, beside_peek, begun_if, look_none}
use Rattle.sl_parse_faults.proofs.BesideSymbols.{no_keyword, closed_name, closed_many, many_from_closed, beside_expect_keyword, beside_integer, beside_name, opens_then, Usual}
use Rattle.sl_parse_faults.proofs.BesideLists.{Lists, many_by, many_onward, beside_many, loose_many}
use Rattle.sl_parse_faults.proofs.BesideStatements.{ends_mark, marked, same_until}

-- ---- at the place

order_by_here : {zs ys K W : List Sym} {L : List Sym → Type 0} (h : Pair zs ys K W) (t r : ℕ) → Abreast h zero L ByteOrder t zero r (order_by (first K) (at K (zero + r))) (order_by (first W) (at W r))
order_by_here address t r = stuck tt _ _
order_by_here (lone_name x) t r = stuck tt _ _
order_by_here lone_word t r = stuck tt _ _
order_by_here (wide x) t r = stuck tt _ _
order_by_here (opening x missing e) t r = stuck tt _ _
order_by_here leading t r = stuck tt _ _
order_by_here (calling x missing e) t r = stuck tt _ _
order_by_here (sizing x) t r = stuck tt _ _
order_by_here floating t r = told_here f.FloatingPoint refl
order_by_here lacking t r = told_here f.InstNext2 refl

word_size_by_here : {zs ys K W : List Sym} {L : List Sym → Type 0} (h : Pair zs ys K W) (t r : ℕ) → Abreast h zero L SpaceAttribute t zero r (word_size_by (first K) (at K (zero + r))) (word_size_by (first W) (at W r))
unfolding checked_size
word_size_by_here address t r = stuck tt _ _
word_size_by_here (lone_name x) t r = stuck tt _ _
word_size_by_here lone_word t r = stuck tt _ _
word_size_by_here (wide x) t r = stuck tt _ _
word_size_by_here (opening x missing e) t r = stuck tt _ _
word_size_by_here leading t r = stuck tt _ _
word_size_by_here (calling x missing e) t r = stuck tt _ _
word_size_by_here (sizing x) t r = stuck tt _ _
word_size_by_here floating t r = told_here f.FloatingPoint refl
word_size_by_here lacking t r = told_here f.InstNext2 refl

checked_here : {zs ys : List Sym} {L : List Sym → Type 0} (t r x : ℕ) (b : Bool) (o : Outcome SpaceAttribute)
    → Abreast {zs = zs} {ys = ys} (sizing x) zero L SpaceAttribute t zero r o (cond {A = Reader SpaceAttribute} b (skip >> pure (of_word_size x)) (unsupport f.WordSize 2) (at (number x ∷ ys) r))
checked_here t r x true o = past _ _ (omega arith)
checked_here {ys = ys} t r x false o = told o (fault (unsupported f.WordSize 2) (suc (length ys))) (f.WordSize, 2, refl, omega arith)

space_attribute_by_here : {zs ys K W : List Sym} {L : List Sym → Type 0} (h : Pair zs ys K W) (t r : ℕ) → Abreast h zero L SpaceAttribute t zero r (space_attribute_by (first K) (at K (zero + r))) (space_attribute_by (first W) (at W r))
unfolding word_size_here expect_keyword expect checked_size same_mark same_keyword
space_attribute_by_here address t r = stuck tt _ _
space_attribute_by_here (lone_name x) t r = stuck tt _ _
space_attribute_by_here lone_word t r = stuck tt _ _
space_attribute_by_here (wide x) t r = stuck tt _ _
space_attribute_by_here (opening x missing e) t r = stuck tt _ _
space_attribute_by_here leading t r = stuck tt _ _
space_attribute_by_here (calling x missing e) t r = stuck tt _ _
space_attribute_by_here (sizing x) t r = checked_here t r x (x == 1) _
space_attribute_by_here floating t r = told_here f.FloatingPoint refl
space_attribute_by_here lacking t r = told_here f.InstNext2 refl

attribute_by_here : {zs ys K W : List Sym} {L : List Sym → Type 0} (h : Pair zs ys K W) (t r : ℕ) → Abreast h zero L FieldAttribute t zero r (attribute_by (first K) (at K (zero + r))) (attribute_by (first W) (at W r))
attribute_by_here address t r = stuck tt _ _
attribute_by_here (lone_name x) t r = stuck tt _ _
attribute_by_here lone_word t r = stuck tt _ _
attribute_by_here (wide x) t r = stuck tt _ _
attribute_by_here (opening x missing e) t r = stuck tt _ _
attribute_by_here leading t r = stuck tt _ _
attribute_by_here (calling x missing e) t r = stuck tt _ _
attribute_by_here (sizing x) t r = stuck tt _ _
attribute_by_here floating t r = told_here f.FloatingPoint refl
attribute_by_here lacking t r = told_here f.InstNext2 refl

kind_by_here : {zs ys K W : List Sym} {L : List Sym → Type 0} (h : Pair zs ys K W) (t r : ℕ) → Abreast h zero L AttachKind t zero r (kind_by (first K) (at K (zero + r))) (kind_by (first W) (at W r))
kind_by_here address t r = stuck tt _ _
kind_by_here (lone_name x) t r = stuck tt _ _
kind_by_here lone_word t r = stuck tt _ _
kind_by_here (wide x) t r = stuck tt _ _
kind_by_here (opening x missing e) t r = stuck tt _ _
kind_by_here leading t r = stuck tt _ _
kind_by_here (calling x missing e) t r = stuck tt _ _
kind_by_here (sizing x) t r = stuck tt _ _
kind_by_here floating t r = told_here f.FloatingPoint refl
kind_by_here lacking t r = told_here f.InstNext2 refl

no_attribute : {zs ys K W : List Sym} (h : Pair zs ys K W) → is_attribute (first K) ≡ is_attribute (first W)
no_attribute address = refl
no_attribute (lone_name x) = refl
no_attribute lone_word = refl
no_attribute (wide x) = refl
no_attribute (opening x missing e) = refl
no_attribute leading = refl
no_attribute (calling x missing e) = refl
no_attribute (sizing x) = refl
no_attribute floating = refl
no_attribute lacking = refl

names_by_here : {zs ys K W : List Sym} {L : List Sym → Type 0} (h : Pair zs ys K W) (t r : ℕ)
    → Abreast h zero L Names t zero r ((name_here >>= (λ w. pure (one w))) (at K (zero + r))) ((name_here >>= (λ w. pure (one w))) (at W r))
    → Abreast h zero L Names t zero r (names_by (first K) (at K (zero + r))) (names_by (first W) (at W r))
names_by_here address t r b = b
names_by_here (lone_name x) t r b = b
names_by_here lone_word t r b = b
names_by_here (wide x) t r b = b
names_by_here (opening x missing e) t r b = b
names_by_here leading t r b = b
names_by_here (calling x missing e) t r b = b
names_by_here (sizing x) t r b = b
names_by_here floating t r b = b
names_by_here lacking t r b = b

definition_by_here : {zs ys K W : List Sym} {L : List Sym → Type 0} (h : Pair zs ys K W) (t r : ℕ) → Abreast h zero L Definition t zero r (registers_here (at K (zero + r))) (registers_here (at W r))
    → Abreast h zero L Definition t zero r (definition_by (first K) (at K (zero + r))) (definition_by (first W) (at W r))
definition_by_here address t r b = b
definition_by_here (lone_name x) t r b = b
definition_by_here lone_word t r b = b
definition_by_here (wide x) t r b = b
definition_by_here (opening x missing e) t r b = b
definition_by_here leading t r b = b
definition_by_here (calling x missing e) t r b = b
definition_by_here (sizing x) t r b = b
definition_by_here floating t r b = b
definition_by_here lacking t r b = b

members_here : {zs ys K W : List Sym} (h : Pair zs ys K W) (c d : ℕ) (found : List Member) (r : ℕ) → ((d : ℕ) (found : List Member) (i : Input) → NoMore (length i.rest) (many_from (until m.CloseBracket) member d found i))
    → Abreast h zero Firm (List Member) zero zero r (many_from (until m.CloseBracket) member (suc (suc c)) found (at K (zero + r))) (many_from (until m.CloseBracket) member (suc (suc d)) found (at W r))
unfolding many_from member same_mark
members_here address c d found r onward = stuck tt _ _
members_here (lone_name x) c d found r onward = stuck tt _ _
members_here lone_word c d found r onward = stuck tt _ _
members_here {ys = ys} (wide x) c d found r onward = past _ _ (onward (suc d) (found ++ member_integer x ∷ []) (at ys r))
members_here {ys = ys} (opening x missing e) c d found r onward = past _ _ (onward (suc d) (found ++ member_word (plain x) ∷ []) (at ys r))
members_here leading c d found r onward = stuck tt _ _
members_here (calling x missing e) c d found r onward = stuck tt _ _
members_here (sizing x) c d found r onward = stuck tt _ _
members_here floating c d found r onward = told_here f.FloatingPoint refl
members_here lacking c d found r onward = told_here f.InstNext2 refl

pub member_ends_here : {zs ys K W : List Sym} {L : List Sym → Type 0} {A : Type 0} (h : Pair zs ys K W) (t r : ℕ) (go : Member → Reader A) → ((x : Member) (i : Input) → NoMore (length i.rest) ((expect m.Semicolon >> go x) i))
    → Abreast h zero L A t zero r ((member >>= (λ x. expect m.Semicolon >> go x)) (at K (zero + r))) ((member >>= (λ x. expect m.Semicolon >> go x)) (at W r))
unfolding member expect same_mark
member_ends_here address t r go onward = stuck tt _ _
member_ends_here (lone_name x) t r go onward = stuck tt _ _
member_ends_here lone_word t r go onward = stuck tt _ _
member_ends_here {ys = ys} (wide x) t r go onward = past _ _ (onward (member_integer x) (at ys r))
member_ends_here {ys = ys} (opening x missing e) t r go onward = past _ _ (onward (member_word (plain x)) (at ys r))
member_ends_here leading t r go onward = stuck tt _ _
member_ends_here (calling x missing e) t r go onward = stuck tt _ _
member_ends_here (sizing x) t r go onward = stuck tt _ _
member_ends_here floating t r go onward = told_here f.FloatingPoint refl
member_ends_here lacking t r go onward = told_here f.InstNext2 refl

pub some_left : {zs ys K W : List Sym} (h : Pair zs ys K W) → (1 ≤ length K) × (1 ≤ length W)
some_left address = (omega arith, omega arith)
some_left (lone_name x) = (omega arith, omega arith)
some_left lone_word = (omega arith, omega arith)
some_left (wide x) = (omega arith, omega arith)
some_left (opening x missing e) = (omega arith, omega arith)
some_left leading = (omega arith, omega arith)
some_left (calling x missing e) = (omega arith, omega arith)
some_left (sizing x) = (omega arith, omega arith)
some_left floating = (omega arith, omega arith)
some_left lacking = (omega arith, omega arith)

-- ---- where something is untaken

space_attribute_untaken : (zs : List Sym) (b : Bool) (xs : List Sym) (r : ℕ) → Untaken zs b xs → IsClosed (Untaken zs true) (space_attribute_by (first xs) (at xs r))
space_attribute_untaken zs b _ r tilde = tt
space_attribute_untaken zs b _ r other_dots = tt
space_attribute_untaken zs b _ r bracket = tt
space_attribute_untaken zs b _ r dots = tt

closed_space_attribute : {zs : List Sym} {b : Bool} → Closed (Untaken zs b) (Untaken zs true) space_attribute
unfolding space_attribute
closed_space_attribute {zs} {b} = record { closed = λ xs r u. space_attribute_untaken zs b xs r u }

member_untaken : (zs : List Sym) (b : Bool) (xs : List Sym) (r : ℕ) → Untaken zs b xs → IsClosed (Untaken zs true) (member_by (first xs) (at xs r))
member_untaken zs b _ r tilde = tt
member_untaken zs b _ r other_dots = dots
member_untaken zs b _ r bracket = tt
member_untaken zs b _ r dots = tt

pub closed_member : {zs : List Sym} {b : Bool} → Closed (Untaken zs b) (Untaken zs true) member
unfolding member
closed_member {zs} {b} = record { closed = λ xs r u. member_untaken zs b xs r u }

closed_field : {zs : List Sym} {b : Bool} → Closed (Untaken zs b) (Untaken zs b) field
unfolding field
closed_field = closed_then closed_name (λ w. ends_mark m.Equals tt _)

module _ {zs ys K W : List Sym} (h : Pair zs ys K W) (n : ℕ) where
  pub worded : {M : List Sym → Type 0} {A : Type 0} (k : Keyword) → Usual k → {p q : Reader A} {t : ℕ} → Beside h zero M t n p q → Beside h zero M 1 n (expect_keyword k >> p) (expect_keyword k >> q)
  worded k usual there = beside_then h zero (beside_expect_keyword h zero k usual) (λ _. there)

  order_by_begun : (o : Option Sym) → Begun h zero Firm 1 n (order_by o) (order_by o)
  order_by_begun (Some (word (quoted k.Big))) = begun_skips h zero (beside_pure h zero o.Big)
  order_by_begun (Some (word (quoted k.Little))) = begun_skips h zero (beside_pure h zero o.Little)
  order_by_begun s = begun_refuse h zero

  order_beside : Beside h zero Firm 1 n order order
  unfolding order
  order_beside = worded k.Endian tt (marked h n m.Equals tt (beside_peek h zero order_by_begun (λ r less. order_by_here h 1 r)))

  checked_begun : (x : ℕ) → Begun h zero Firm 1 n (checked_size x) (checked_size x)
  unfolding checked_size
  checked_begun x = begun_if h zero (x == 1) (begun_skips h zero (beside_pure h zero (of_word_size x))) (begun_fault h zero (unsupported f.WordSize 2))

  word_size_by_begun : (s : Option Sym) → Begun h zero Firm 1 n (word_size_by s) (word_size_by s)
  word_size_by_begun (Some (number x)) = checked_begun x
  word_size_by_begun s = begun_refuse h zero

  type_beside : Beside h zero (Untaken zs true) 1 n type_here type_here
  unfolding type_here
  type_beside = worded k.Type tt (marked h n m.Equals tt (loose_then h zero (beside_name h zero) (λ w. beside_pure h zero (of_type w)) (λ w. closed_pure (of_type w))))

  size_attribute_beside : Beside h zero (Untaken zs true) 1 n size_attribute size_attribute
  unfolding size_attribute
  size_attribute_beside = worded k.Size tt (marked h n m.Equals tt (beside_then h zero (beside_integer h zero) (λ x. beside_pure h zero (of_size x))))

  word_size_begun : Begun h zero Firm 1 n word_size_here word_size_here
  unfolding word_size_here expect_keyword
  word_size_begun =
      begun_then h zero (begun_peek h zero (λ o. begun_if h zero (is_keyword k.WordSize o) (begun_skip h zero) (begun_refuse h zero)))
      (λ _. marked h n m.Equals tt (beside_peek h zero word_size_by_begun (λ r less. word_size_by_here h 1 r)))

  space_attribute_by_begun : (s : Option Sym) → Begun h zero (Untaken zs true) 1 n (space_attribute_by s) (space_attribute_by s)
  space_attribute_by_begun (Some (word (quoted k.Type))) = type_beside.begun
  space_attribute_by_begun (Some (word (quoted k.Size))) = size_attribute_beside.begun
  space_attribute_by_begun (Some (word (quoted k.WordSize))) = begun_loosen h zero word_size_begun
  space_attribute_by_begun (Some (word (quoted k.Default))) = begun_skips h zero (beside_pure h zero is_default)
  space_attribute_by_begun s = begun_refuse h zero

  space_attribute_beside : Beside h zero (Untaken zs true) 1 n space_attribute space_attribute
  unfolding space_attribute
  space_attribute_beside = beside_peek h zero space_attribute_by_begun (λ r less. space_attribute_by_here h 1 r)

  bit_range_beside : Beside h zero Firm 1 n bit_range bit_range
  unfolding bit_range
  bit_range_beside =
      loose_then h zero (beside_name h zero) (λ w. marked h n m.Equals tt (loose_then h zero (beside_name h zero)
      (λ register. marked h n m.OpenBracket tt (beside_then h zero (beside_integer h zero) (λ low. marked h n m.Comma tt (beside_then h zero (beside_integer h zero)
      (λ count. marked h n m.CloseBracket tt (beside_pure h zero (record { name = w; register = register; low = low; count = count })))))))
      (λ register. ends_mark m.OpenBracket tt _)))
      (λ w. ends_mark m.Equals tt _)

  attribute_by_begun : (s : Option Sym) → Begun h zero Firm 1 n (attribute_by s) (attribute_by s)
  attribute_by_begun (Some (word (quoted k.Signed))) = begun_skips h zero (beside_pure h zero fa.Signed)
  attribute_by_begun (Some (word (quoted k.Hex))) = begun_skips h zero (beside_pure h zero fa.Hex)
  attribute_by_begun (Some (word (quoted k.Dec))) = begun_skips h zero (beside_pure h zero fa.Dec)
  attribute_by_begun (Some (word (quoted k.NoFlow))) = begun_skips h zero (beside_pure h zero fa.NoFlow)
  attribute_by_begun s = begun_refuse h zero

  attribute_beside : Beside h zero Firm 1 n attribute attribute
  unfolding attribute
  attribute_beside = beside_peek h zero attribute_by_begun (λ r less. attribute_by_here h 1 r)

  field_beside : Beside h zero Firm 1 n field field
  unfolding field
  field_beside =
      loose_then h zero (beside_name h zero) (λ w. marked h n m.Equals tt (marked h n m.Open tt (beside_then h zero (beside_integer h zero)
      (λ low. marked h n m.Comma tt (beside_then h zero (beside_integer h zero)
      (λ high. marked h n m.Close tt (beside_then h zero (beside_many h zero is_attribute attribute_beside (no_attribute h))
      (λ attributes. beside_pure h zero (record { name = w; low = low; high = high; attributes = attributes })))))))))
      (λ w. ends_mark m.Equals tt _)

  name_list_beside : Beside h zero Firm 1 n name_list name_list
  unfolding name_list
  name_list_beside =
      marked h n m.OpenBracket tt (loose_later h zero (loose_many h zero (until m.CloseBracket) (beside_name h zero) (same_until h n m.CloseBracket tt)
      (λ c found. many_from_closed (until m.CloseBracket) name_here closed_name c found))
      (λ ws. marked h n m.CloseBracket tt (beside_pure h zero (several ws))) (λ ws. ends_mark m.CloseBracket tt _))

  plain_names : Beside h zero (Untaken zs true) 1 n (name_here >>= (λ w. pure (one w))) (name_here >>= (λ w. pure (one w)))
  plain_names = loose_then h zero (beside_name h zero) (λ w. beside_pure h zero (one w)) (λ w. closed_pure (one w))

  names_by_begun : (s : Option Sym) → Begun h zero (Untaken zs true) 1 n (names_by s) (names_by s)
  names_by_begun (Some (mark m.OpenBracket)) = begun_loosen h zero name_list_beside.begun
  names_by_begun s = plain_names.begun

  pub names_beside : Beside h zero (Untaken zs true) 1 n names names
  unfolding names
  names_beside = beside_peek h zero names_by_begun (λ r less. names_by_here h 1 r (plain_names.here r less))

  -- ---- definitions, up to their semicolon

  alignment_beside : Beside h zero (Untaken zs true) 1 n alignment_here alignment_here
  unfolding alignment_here
  alignment_beside = worded k.Alignment tt (marked h n m.Equals tt (beside_then h zero (beside_integer h zero) (λ x. beside_pure h zero (alignment x))))

  space_beside : Beside h zero (Untaken zs true) 1 n space_here space_here
  unfolding space_here
  space_beside =
      worded k.Space tt (loose_then h zero (beside_name h zero) (λ w. loose_then h zero (loose_many h zero (until m.Semicolon) space_attribute_beside (same_until h n m.Semicolon tt)
      (λ c found. many_from_closed (until m.Semicolon) space_attribute closed_space_attribute c found)) (λ attributes. beside_pure h zero (space w attributes)) (λ attributes. closed_pure (space w attributes)))
      (λ w. closed_then (closed_many (until m.Semicolon) closed_space_attribute) (λ attributes. closed_pure (space w attributes))))

  bit_ranges_beside : Beside h zero (Untaken zs true) 1 n bit_ranges_here bit_ranges_here
  unfolding bit_ranges_here
  bit_ranges_beside =
      worded k.BitRange tt (beside_then h zero bit_range_beside (λ head. beside_then h zero (beside_many h zero (until m.Semicolon) bit_range_beside (same_until h n m.Semicolon tt))
      (λ more. beside_pure h zero (bit_ranges head more))))

  pcode_ops_beside : Beside h zero (Untaken zs true) 1 n pcode_ops_here pcode_ops_here
  unfolding pcode_ops_here
  pcode_ops_beside = worded k.PcodeOp tt (loose_then h zero names_beside (λ ws. beside_pure h zero (pcode_ops ws)) (λ ws. closed_pure (pcode_ops ws)))

  fields_beside : Beside h zero Firm zero n (many (until m.Semicolon) field) (many (until m.Semicolon) field)
  fields_beside = beside_many h zero (until m.Semicolon) field_beside (same_until h n m.Semicolon tt)

  token_beside : Beside h zero (Untaken zs true) 1 n token_here token_here
  unfolding token_here
  token_beside =
      worded k.Token tt (opens_then h zero (λ w. beside_then h zero (beside_integer h zero)
      (λ size. marked h n m.Close tt (beside_then h zero own_order (λ own. beside_then h zero fields_beside (λ fields. beside_pure h zero (token w size own fields)))))))
    where
      own_order : Beside h zero Firm zero n (optional (is_keyword k.Endian) order) (optional (is_keyword k.Endian) order)
      own_order =
          look_none h zero (is_keyword k.Endian) (no_keyword h k.Endian tt).0 (no_keyword h k.Endian tt).1
          (begun_less h zero zero (omega arith) (begun_then h zero order_beside.begun (λ x. beside_pure h zero (Some x)))) (beside_pure h zero None)

  context_beside : Beside h zero (Untaken zs true) 1 n context_here context_here
  unfolding context_here
  context_beside =
      worded k.Context tt (loose_then h zero (beside_name h zero) (λ w. beside_then h zero fields_beside (λ fields. beside_pure h zero (context w fields)))
      (λ w. closed_then (closed_many (until m.Semicolon) closed_field) (λ fields. closed_pure (context w fields))))

  registers_beside : Beside h zero (Untaken zs true) 1 n registers_here registers_here
  unfolding registers_here
  registers_beside =
      loose_then h zero (beside_name h zero) (λ w. worded k.Offset tt (marked h n m.Equals tt (beside_then h zero (beside_integer h zero)
      (λ offset. worded k.Size tt (marked h n m.Equals tt (beside_then h zero (beside_integer h zero)
      (λ size. loose_then h zero names_beside (λ ws. beside_pure h zero (registers w offset size ws)) (λ ws. closed_pure (registers w offset size ws)))))))))
      (λ w. ends_then _ (ends_expect_keyword k.Offset))

  definition_by_begun : (s : Option Sym) → Begun h zero (Untaken zs true) 1 n (definition_by s) (definition_by s)
  definition_by_begun (Some (word (quoted k.Endian))) = begun_then h zero order_beside.begun (λ x. beside_pure h zero (endian x))
  definition_by_begun (Some (word (quoted k.Alignment))) = alignment_beside.begun
  definition_by_begun (Some (word (quoted k.Space))) = space_beside.begun
  definition_by_begun (Some (word (quoted k.BitRange))) = bit_ranges_beside.begun
  definition_by_begun (Some (word (quoted k.PcodeOp))) = pcode_ops_beside.begun
  definition_by_begun (Some (word (quoted k.Token))) = token_beside.begun
  definition_by_begun (Some (word (quoted k.Context))) = context_beside.begun
  definition_by_begun s = registers_beside.begun

  pub definition_beside : Beside h zero (Untaken zs true) 1 n definition definition
  unfolding definition
  definition_beside = beside_peek h zero definition_by_begun (λ r less. definition_by_here h 1 r (registers_beside.here r less))

  -- ---- attached lists

  kind_by_begun : (s : Option Sym) → Begun h zero Firm 1 n (kind_by s) (kind_by s)
  kind_by_begun (Some (word (quoted k.Variables))) = begun_skips h zero (beside_pure h zero a.Variables)
  kind_by_begun (Some (word (quoted k.Names))) = begun_skips h zero (beside_pure h zero a.Names)
  kind_by_begun (Some (word (quoted k.Values))) = begun_skips h zero (beside_pure h zero a.Values)
  kind_by_begun s = begun_refuse h zero

  pub attach_kind_beside : Beside h zero Firm 1 n attach_kind attach_kind
  unfolding attach_kind
  attach_kind_beside = beside_peek h zero kind_by_begun (λ r less. kind_by_here h 1 r)

  member_by_begun : (s : Option Sym) → Begun h zero Firm 1 n (member_by s) (member_by s)
  member_by_begun (Some (number x)) = begun_skips h zero (beside_pure h zero (member_integer x))
  member_by_begun (Some (text t)) = begun_skips h zero (beside_pure h zero (member_text t))
  member_by_begun (Some (mark m.Minus)) = begun_skips h zero (beside_then h zero (beside_integer h zero) (λ x. beside_pure h zero (member_negative x)))
  member_by_begun (Some (word (quoted k.InstNext2))) = begun_refuse h zero
  member_by_begun (Some (word w)) = begun_skips h zero (beside_pure h zero (member_word w))
  member_by_begun s = begun_refuse h zero

  member_begun : Begun h zero Firm 1 n member member
  unfolding member
  member_begun = begun_peek h zero member_by_begun

  -- a member and the end
  pub member_ends : {A : Type 0} {t : ℕ} (go : Member → Reader A) → ((x : Member) → Beside h zero Firm t n (go x) (go x)) → Beside h zero Firm 1 n (member >>= (λ x. expect m.Semicolon >> go x)) (member >>= (λ x. expect m.Semicolon >> go x))
  member_ends go later = record {
    begun = begun_then h zero member_begun (λ x. marked h n m.Semicolon tt (later x));
    here = λ r less. member_ends_here h 1 r go (λ x. (marked h n m.Semicolon tt (later x)).begun.onward);
  }

  member_lists : Lists h zero Firm n (until m.CloseBracket) member member
  member_lists zero d found r less enough also = absurd (omega arith)
  member_lists (suc zero) d found r less enough also = (let some = (some_left h).0 in absurd (omega (arith, some)))
  member_lists (suc (suc c)) zero found r less enough also = absurd (omega arith)
  member_lists (suc (suc c)) (suc zero) found r less enough also = (let some = (some_left h).1 in absurd (omega (arith, some)))
  member_lists (suc (suc c)) (suc (suc d)) found r less enough also = members_here h c d found r (λ d found i. many_onward (until m.CloseBracket) member member_begun.onward d found i)

  pub members_beside : Beside h zero Firm zero n (many (until m.CloseBracket) member) (many (until m.CloseBracket) member)
  members_beside = many_by h zero (until m.CloseBracket) member member member_begun member_lists (λ c found. nothing_left)
