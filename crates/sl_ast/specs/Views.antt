-- meaning: the trees of the program as trees of the definitions: names as their bytes, lists as lists.
use Rattle.std.specs.Prelude.{ℕ, List, [], ◌∷◌, ◌++◌, map, option_map}
use denote.Ref.{Bor}
use Rattle.sl_ast.specs.Symbols.{word_of}
use Rattle.sl_ast.specs.Trees.{Name, Expression, Expressions, integer, named, paren, call, sized, dropped, bits, prefix, star, binary, no_more, with_more, Pattern, bare, constraint, group, ellipsis, joined, Operand, by_name, by_integer, Action, set, global_set, StarForm, Left, left_name, left_bits, left_star, Direct, to_label, to_operand, Dest, direct, computed, Target, calls, calls_computed, Exported, exports, exports_star, Statement, local, declare, assign, goto, branch, call_to, return, build, export, invoke, label, SpaceAttribute, of_type, of_size, of_word_size, is_default, BitRange, Field, Names, one, several, Definition, endian, alignment, space, bit_ranges, pcode_ops, token, context, registers, Member, member_word, member_text, member_integer, member_negative, Piece, piece_word, piece_text, piece_blank, piece_caret, piece_char, Section, statements, unimplemented, Constructor, Head, Inside, nothing, constructor_then, block_then, Macro, Item, define, attach_list, attach_one, macro, constructor, block}
use Rattle.sl_ast.specs.declared.constructors.Constructor as c
use Rattle.sl_ast.specs.declared.constructors.Head as h
use Rattle.sl_ast.specs.declared.constructors.Inner.{Inner, fold-Inner}
use Rattle.sl_ast.specs.declared.constructors.Inner.TheOpen.{Inner-F}
use Rattle.sl_ast.specs.declared.constructors.Macro as d
use Rattle.sl_ast.specs.declared.constructors.Section as s
use Rattle.sl_ast.specs.declared.constructors.Section.TheVariants as sv
use Rattle.sl_ast.specs.declared.constructors.Shown.{Shown}
use Rattle.sl_ast.specs.declared.constructors.Shown.TheVariants as v
use Rattle.sl_ast.specs.declared.definitions.BitRange as b
use Rattle.sl_ast.specs.declared.definitions.Definition as df
use Rattle.sl_ast.specs.declared.definitions.Definition.TheVariants as dv
use Rattle.sl_ast.specs.declared.definitions.Field as fd
use Rattle.sl_ast.specs.declared.definitions.Member as me
use Rattle.sl_ast.specs.declared.definitions.Member.TheVariants as mv
use Rattle.sl_ast.specs.declared.definitions.Names as n
use Rattle.sl_ast.specs.declared.definitions.Names.TheVariants as nv
use Rattle.sl_ast.specs.declared.definitions.SpaceAttribute as sa
use Rattle.sl_ast.specs.declared.definitions.SpaceAttribute.TheVariants as sav
use Rattle.sl_ast.specs.declared.expressions.Expr.{Expr, fold-Expr}
use Rattle.sl_ast.specs.declared.expressions.Expr.TheOpen.{Expr-F}
use Rattle.sl_ast.specs.declared.items.Item as i
use Rattle.sl_ast.specs.declared.items.ItemKind as ik
use Rattle.sl_ast.specs.declared.items.ItemKind.TheVariants as iv
use Rattle.sl_ast.specs.declared.items.Spec.{Spec}
use Rattle.sl_ast.specs.declared.patterns.Pattern as p
use Rattle.sl_ast.specs.declared.patterns.Pattern.TheOpen.{Pattern-F}
use Rattle.sl_ast.specs.declared.patterns.Address as a
use Rattle.sl_ast.specs.declared.patterns.Address.TheVariants as av
use Rattle.sl_ast.specs.declared.patterns.Action as ac
use Rattle.sl_ast.specs.declared.patterns.Action.TheVariants as acv
use Rattle.sl_ast.specs.declared.statements.Dest as de
use Rattle.sl_ast.specs.declared.statements.Dest.TheVariants as dev
use Rattle.sl_ast.specs.declared.statements.Direct as di
use Rattle.sl_ast.specs.declared.statements.Direct.TheVariants as div
use Rattle.sl_ast.specs.declared.statements.Exported as ex
use Rattle.sl_ast.specs.declared.statements.Exported.TheVariants as exv
use Rattle.sl_ast.specs.declared.statements.Left as l
use Rattle.sl_ast.specs.declared.statements.Left.TheVariants as lv
use Rattle.sl_ast.specs.declared.statements.Pointer as po
use Rattle.sl_ast.specs.declared.statements.Pointer.TheVariants as pov
use Rattle.sl_ast.specs.declared.statements.Star as st
use Rattle.sl_ast.specs.declared.statements.Stmt as sm
use Rattle.sl_ast.specs.declared.statements.Stmt.TheVariants as smv
use Rattle.sl_ast.specs.declared.statements.Target as ta
use Rattle.sl_ast.specs.declared.statements.Target.TheVariants as tav

-- the bytes behind a reference
abbrev pub bytes : Bor (List ℕ) → Name
bytes w = w.now

abbrev pub arguments : List Expression → Expressions
arguments [] = no_more
arguments (e ∷ es) = with_more e (arguments es)

-- one level, with each expression inside already seen
abbrev pub expression_step : Expr-F Expression → Expression
expression_step (Expr-F.Integer n) = integer n
expression_step (Expr-F.Name w) = named w.now
expression_step (Expr-F.Paren e) = paren e.value
expression_step (Expr-F.Call w es) = call w.now (arguments es.items)
expression_step (Expr-F.Sized e n) = sized e.value n
expression_step (Expr-F.Dropped e n) = dropped e.value n
expression_step (Expr-F.Bits e l c) = bits e.value l c
expression_step (Expr-F.Prefix op e) = prefix op e.value
expression_step (Expr-F.Star place width e) = star (option_map bytes place) width e.value
expression_step (Expr-F.Binary op l r) = binary op l.value r.value

abbrev pub expression_of : Expr → Expression
expression_of = fold-Expr Expression expression_step

abbrev pub expressions_of : List Expr → List Expression
expressions_of es = map expression_of es

abbrev pub pattern_step : Pattern-F Pattern → Pattern
pattern_step (Pattern-F.Name w) = bare w.now
pattern_step (Pattern-F.Constraint w rel e) = constraint w.now rel (expression_of e)
pattern_step (Pattern-F.Paren p) = group p.value
pattern_step (Pattern-F.Ellipsis p) = ellipsis p.value
pattern_step (Pattern-F.Joined op p q) = joined op p.value q.value

abbrev pub pattern_of : p.Pattern → Pattern
pattern_of = p.fold-Pattern Pattern pattern_step

abbrev pub operand_of_address : a.Address → Operand
operand_of_address (av.Name w) = by_name w.now
operand_of_address (av.Integer n) = by_integer n

abbrev pub action_of : ac.Action → Action
action_of (acv.Assign w e) = set w.now (expression_of e)
action_of (acv.GlobalSet at w) = global_set (operand_of_address at) w.now

abbrev pub actions_of : List ac.Action → List Action
actions_of as' = map action_of as'

-- ---- statements

abbrev pub star_of : st.Star → StarForm
star_of form = record { space = option_map bytes form.space; size = form.size }

abbrev pub left_of : l.Left → Left
left_of (lv.Name w) = left_name w.now
left_of (lv.Bits w low count) = left_bits w.now low count
left_of (lv.Star form e) = left_star (star_of form) (expression_of e)

abbrev pub direct_of : di.Direct → Direct
direct_of (div.Label w) = to_label w.now
direct_of (div.Name w) = to_operand (by_name w.now)
direct_of (div.Integer n) = to_operand (by_integer n)

abbrev pub dest_of : de.Dest → Dest
dest_of (dev.Direct to) = direct (direct_of to)
dest_of (dev.Computed e) = computed (expression_of e)

abbrev pub target_of : ta.Target → Target
target_of (tav.Name w) = calls (by_name w.now)
target_of (tav.Integer n) = calls (by_integer n)
target_of (tav.Computed e) = calls_computed (expression_of e)

abbrev pub operand_of_pointer : po.Pointer → Operand
operand_of_pointer (pov.Name w) = by_name w.now
operand_of_pointer (pov.Integer n) = by_integer n

abbrev pub exported_of : ex.Exported → Exported
exported_of (exv.Name w) = exports w.now
exported_of (exv.Star form pointer) = exports_star (star_of form) (operand_of_pointer pointer)

abbrev pub statement_of : sm.Stmt → Statement
statement_of (smv.Local w size value) = local w.now size (option_map expression_of value)
statement_of (smv.Declare w n e) = declare w.now n (expression_of e)
statement_of (smv.Assign left e) = assign (left_of left) (expression_of e)
statement_of (smv.Goto to) = goto (dest_of to)
statement_of (smv.Branch e to) = branch (expression_of e) (direct_of to)
statement_of (smv.Call to) = call_to (target_of to)
statement_of (smv.Return e) = return (expression_of e)
statement_of (smv.Build w) = build w.now
statement_of (smv.Export what) = export (exported_of what)
statement_of (smv.Invoke w es) = invoke w.now (expressions_of es.items)
statement_of (smv.Label w) = label w.now

abbrev pub statements_of : List sm.Stmt → List Statement
statements_of body = map statement_of body

-- ---- definitions

abbrev pub space_attribute_of : sa.SpaceAttribute → SpaceAttribute
space_attribute_of (sav.Type w) = of_type w.now
space_attribute_of (sav.Size n) = of_size n
space_attribute_of (sav.WordSize n) = of_word_size n
space_attribute_of sav.Default = is_default

abbrev pub bit_range_of : b.BitRange → BitRange
bit_range_of r = record { name = r.name.now; register = r.register.now; low = r.low; count = r.count }

abbrev pub field_of : fd.Field → Field
field_of f = record { name = f.name.now; low = f.low; high = f.high; attributes = f.attributes.items }

abbrev pub names_of : n.Names → Names
names_of (nv.One w) = one w.now
names_of (nv.List ws) = several (map bytes ws.items)

abbrev pub definition_of : df.Definition → Definition
definition_of (dv.Endian order) = endian order
definition_of (dv.Alignment n) = alignment n
definition_of (dv.Space w attributes) = space w.now (map space_attribute_of attributes.items)
definition_of (dv.BitRanges first more) = bit_ranges (bit_range_of first) (map bit_range_of more.items)
definition_of (dv.PcodeOps names) = pcode_ops (names_of names)
definition_of (dv.Token w size order fields) = token w.now size order (map field_of fields.items)
definition_of (dv.Context w fields) = context w.now (map field_of fields.items)
definition_of (dv.Registers w offset size names) = registers w.now offset size (names_of names)

abbrev pub member_of : me.Member → Member
member_of (mv.Word w) = member_word (word_of w.now)
member_of (mv.Text t) = member_text t.now
member_of (mv.Integer n) = member_integer n
member_of (mv.Negative n) = member_negative n

-- ---- constructors and items

abbrev pub piece_of : Shown → Piece
piece_of (v.Word w) = piece_word (word_of w.now)
piece_of (v.Text t) = piece_text t.now
piece_of (v.Blank t) = piece_blank t.now
piece_of (v.Caret t) = piece_caret t.now
piece_of (v.Char t) = piece_char t.now

abbrev pub section_of : s.Section → Section
section_of (sv.Statements body) = statements (statements_of body.items)
section_of sv.Unimplemented = unimplemented

abbrev pub constructor_of : c.Constructor → Constructor
constructor_of d = record {
  table = option_map bytes d.table;
  display = map piece_of d.display.items;
  pattern = pattern_of d.pattern;
  actions = option_map (λ as'. actions_of as'.items) d.actions;
  section = section_of d.section;
}

abbrev pub head_of : h.Head → Head
head_of d = record {
  table = option_map bytes d.table;
  pattern = option_map pattern_of d.pattern;
  actions = option_map (λ as'. actions_of as'.items) d.actions;
}

-- what stands before the rest of a block
abbrev pub chained : List (Inside → Inside) → Inside → Inside
chained [] rest = rest
chained (f ∷ fs) rest = f (chained fs rest)

abbrev pub inner_step : Inner-F (Inside → Inside) → Inside → Inside
inner_step (Inner-F.Constructor first d) rest = constructor_then (constructor_of d) rest
inner_step (Inner-F.With first d inside) rest = block_then (head_of d) (chained inside.items nothing) rest

abbrev pub inside_of : List Inner → Inside
inside_of inside = chained (map (fold-Inner (Inside → Inside) inner_step) inside) nothing

abbrev pub macro_of : d.Macro → Macro
macro_of m = record { name = m.name.now; parameters = map bytes m.parameters.items; body = statements_of m.body.items }

abbrev pub kind_of : ik.ItemKind → Item
kind_of (iv.Define d) = define (definition_of d)
kind_of (iv.AttachList kind names members) = attach_list kind (names_of names) (map member_of members.items)
kind_of (iv.AttachOne kind names member) = attach_one kind (names_of names) (member_of member)
kind_of (iv.Macro m) = macro (macro_of m)
kind_of (iv.Constructor d) = constructor (constructor_of d)
kind_of (iv.With d inside) = block (head_of d) (inside_of inside.items)

abbrev pub item_of : i.Item → Item
item_of d = kind_of d.kind

-- the tree of a specification
abbrev pub items_of : Spec → List Item
items_of spec = map item_of spec.items.items

-- ---- the indexes of first tokens that a specification keeps, a block's before those inside it

abbrev pub joined_lists : List (List ℕ) → List ℕ
joined_lists [] = []
joined_lists (ns ∷ nss) = ns ++ joined_lists nss

abbrev pub inner_indexes_step : Inner-F (List ℕ) → List ℕ
inner_indexes_step (Inner-F.Constructor first d) = first ∷ []
inner_indexes_step (Inner-F.With first d inside) = first ∷ joined_lists inside.items

abbrev pub inner_indexes : List Inner → List ℕ
inner_indexes inside = joined_lists (map (fold-Inner (List ℕ) inner_indexes_step) inside)

abbrev pub kind_indexes : ik.ItemKind → List ℕ
kind_indexes (iv.With d inside) = inner_indexes inside.items
kind_indexes kind = []

abbrev pub item_indexes : i.Item → List ℕ
item_indexes d = d.first ∷ kind_indexes d.kind

abbrev pub indexes_of : Spec → List ℕ
indexes_of spec = joined_lists (map item_indexes spec.items.items)
