-- meaning: which trees stand for a text: operators bind as the language says, each form stands where it may, no form
-- is left out by the language, and no expression, pattern or block goes past its limit.
use Rattle.std.specs.Prelude.{◌≡◌, ℕ, zero, suc, ◌+◌, ◌≤◌, true, List, [], ◌∷◌, Option, None, Some}
use Rattle.sl_ast.specs.Symbols.{Word, plain, quoted}
use Rattle.sl_ast.specs.Trees.{Name, Expression, Expressions, integer, named, paren, call, sized, dropped, bits, prefix, star, binary, no_more, with_more, Pattern, bare, constraint, group, ellipsis, joined, Action, set, global_set, StarForm, Left, left_name, left_bits, left_star, Dest, direct, computed, Target, calls, calls_computed, Exported, exports, exports_star, Statement, local, declare, assign, goto, branch, call_to, return, build, export, invoke, label, SpaceAttribute, of_type, of_size, of_word_size, is_default, Definition, space, Member, member_word, Piece, piece_word, Section, statements, unimplemented, Constructor, Head, Inside, nothing, constructor_then, block_then, Item, define, attach_list, attach_one, macro, constructor, block}
use Rattle.sl_ast.specs.Operators.{rank, right_rank, left_rank, pattern_rank, pattern_right_rank, Kind, in_section, in_action, in_constraint, is_section, has_names, has_prefix, has_operator, takes_size, takes_bits, takes_drop, takes_ellipsis, missing_function, missing_statement, widest}
use Rattle.sl_ast.specs.declared.symbols.Keyword.TheVariants as k

abbrev pub Each : {A : Type 0} → (A → Type 0) → List A → Type 0
Each P [] = Unit {0}
Each P (x ∷ xs) = P x × Each P xs

abbrev pub IfWritten : {A : Type 0} → (A → Type 0) → Option A → Type 0
IfWritten P None = Unit {0}
IfWritten P (Some x) = P x

-- ---- expressions and patterns

-- a size in bytes that is written
abbrev pub IsWidth : ℕ → Type 0
IsWidth n = n ≤ widest

-- there is an argument
abbrev pub IsSome : Expressions → Type 0
IsSome no_more = ⊥
IsSome (with_more e es) = Unit {0}

-- each operator has operands that bind at least as tight as it says, and each form stands where it may
abbrev mutual
  pub Binds : Kind → Expression → Type 0
  Binds kind (integer n) = Unit {0}
  Binds kind (named w) = has_names kind ≡ true
  Binds kind (paren e) = Binds kind e
  Binds kind (call w es) = (is_section kind ≡ true) × (missing_function w ≡ None) × IsSome es × AllBind kind es
  Binds kind (sized e n) = (is_section kind ≡ true) × (takes_size e ≡ true) × IsWidth n × Binds kind e
  Binds kind (dropped e n) = (is_section kind ≡ true) × (takes_drop e ≡ true) × Binds kind e
  Binds kind (bits e l c) = (is_section kind ≡ true) × (takes_bits e ≡ true) × Binds kind e
  Binds kind (prefix op e) = (has_prefix kind op ≡ true) × (rank e ≤ 0) × Binds kind e
  Binds kind (star place width e) = (is_section kind ≡ true) × IfWritten IsWidth width × (rank e ≤ 0) × Binds kind e
  Binds kind (binary op l r) = (has_operator kind op ≡ true) × (rank l ≤ left_rank op) × (rank r ≤ right_rank op) × Binds kind l × Binds kind r

  pub AllBind : Kind → Expressions → Type 0
  AllBind kind no_more = Unit {0}
  AllBind kind (with_more e es) = Binds kind e × AllBind kind es

abbrev pub PatternBinds : Pattern → Type 0
PatternBinds (bare w) = Unit {0}
PatternBinds (constraint w rel e) = Binds in_constraint e
PatternBinds (group p) = PatternBinds p
PatternBinds (ellipsis p) = (takes_ellipsis p ≡ true) × PatternBinds p
PatternBinds (joined op p q) = (pattern_rank p ≤ suc (pattern_right_rank op)) × (pattern_rank q ≤ pattern_right_rank op) × PatternBinds p × PatternBinds q

-- the bracket of a star form's space
abbrev pub space_weight : Option Name → ℕ
space_weight None = 0
space_weight (Some w) = 1

-- how many operators and opening brackets
abbrev mutual
  pub weight : Expression → ℕ
  weight (integer n) = 0
  weight (named w) = 0
  weight (paren e) = 1 + weight e
  weight (call w es) = 1 + weights es
  weight (sized e n) = weight e
  weight (dropped e n) = weight e + 1
  weight (bits e l c) = weight e + 1
  weight (prefix op e) = 1 + weight e
  weight (star place width e) = 1 + space_weight place + weight e
  weight (binary op l r) = weight l + 1 + weight r

  pub weights : Expressions → ℕ
  weights no_more = 0
  weights (with_more e es) = weight e + weights es

abbrev pub pattern_weight : Pattern → ℕ
pattern_weight (bare w) = 0
pattern_weight (constraint w rel e) = 1 + weight e
pattern_weight (group p) = 1 + pattern_weight p
pattern_weight (ellipsis p) = pattern_weight p + 1
pattern_weight (joined op p q) = pattern_weight p + 1 + pattern_weight q

-- ---- parts of statements

abbrev pub IsStarForm : StarForm → Type 0
IsStarForm form = IfWritten IsWidth form.size

-- the name begins a statement
abbrev pub IsFirst : Name → Type 0
IsFirst w = missing_statement w ≡ None

abbrev pub IsExported : Exported → Type 0
IsExported (exports w) = Unit {0}
IsExported (exports_star form pointer) = IsStarForm form

-- ---- definitions

abbrev pub IsSpaceAttribute : SpaceAttribute → Type 0
IsSpaceAttribute (of_type w) = Unit {0}
IsSpaceAttribute (of_size n) = Unit {0}
IsSpaceAttribute (of_word_size n) = n ≡ 1
IsSpaceAttribute is_default = Unit {0}

abbrev pub IsDefinition : Definition → Type 0
IsDefinition (space w attributes) = Each IsSpaceAttribute attributes
IsDefinition d = Unit {0}

-- any word but `inst_next2`
abbrev pub IsMemberWord : Word → Type 0
IsMemberWord (plain w) = Unit {0}
IsMemberWord (quoted k.InstNext2) = ⊥
IsMemberWord (quoted keyword) = Unit {0}

abbrev pub IsMember : Member → Type 0
IsMember (member_word w) = IsMemberWord w
IsMember m = Unit {0}

-- ---- displays

-- any word but `is`, which ends the display
abbrev pub IsShownWord : Word → Type 0
IsShownWord (plain w) = Unit {0}
IsShownWord (quoted k.Is) = ⊥
IsShownWord (quoted keyword) = Unit {0}

abbrev pub IsPiece : Piece → Type 0
IsPiece (piece_word w) = IsShownWord w
IsPiece piece = Unit {0}

-- ---- trees whose outermost expressions and patterns have at most so many operators and opening brackets

module _ (most : ℕ) where
  abbrev pub IsExpression : Kind → Expression → Type 0
  IsExpression kind e = Binds kind e × (weight e ≤ most)

  abbrev pub IsPattern : Pattern → Type 0
  IsPattern p = PatternBinds p × (pattern_weight p ≤ most)

  abbrev pub IsAction : Action → Type 0
  IsAction (set w e) = IsExpression in_action e
  IsAction (global_set at w) = Unit {0}

  abbrev pub IsLeft : Left → Type 0
  IsLeft (left_name w) = IsFirst w
  IsLeft (left_bits w l c) = IsFirst w
  IsLeft (left_star form e) = IsStarForm form × IsExpression in_section e

  abbrev pub IsDest : Dest → Type 0
  IsDest (direct to) = Unit {0}
  IsDest (computed e) = IsExpression in_section e

  abbrev pub IsTarget : Target → Type 0
  IsTarget (calls to) = Unit {0}
  IsTarget (calls_computed e) = IsExpression in_section e

  abbrev pub IsStatement : Statement → Type 0
  IsStatement (local w size value) = IfWritten IsWidth size × IfWritten (IsExpression in_section) value
  IsStatement (declare w n e) = IsFirst w × IsWidth n × IsExpression in_section e
  IsStatement (assign left e) = IsLeft left × IsExpression in_section e
  IsStatement (goto to) = IsDest to
  IsStatement (branch e to) = IsExpression in_section e
  IsStatement (call_to to) = IsTarget to
  IsStatement (return e) = IsExpression in_section e
  IsStatement (build w) = Unit {0}
  IsStatement (export what) = IsExported what
  IsStatement (invoke w es) = IsFirst w × (missing_function w ≡ None) × Each (IsExpression in_section) es
  IsStatement (label w) = Unit {0}

  abbrev pub IsSection : Section → Type 0
  IsSection (statements body) = Each IsStatement body
  IsSection unimplemented = Unit {0}

  pub record IsConstructor (c : Constructor) : Type 0 where
    pub display : Each IsPiece c.display
    pub pattern : IsPattern c.pattern
    pub actions : IfWritten (Each IsAction) c.actions
    pub section : IsSection c.section

  pub record IsHead (h : Head) : Type 0 where
    pub pattern : IfWritten IsPattern h.pattern
    pub actions : IfWritten (Each IsAction) h.actions

  -- what stands in a block, with blocks inside one another at most so many times
  abbrev pub IsInside : ℕ → Inside → Type 0
  IsInside n nothing = Unit {0}
  IsInside n (constructor_then c more) = IsConstructor c × IsInside n more
  IsInside zero (block_then h inside more) = ⊥
  IsInside (suc n) (block_then h inside more) = IsHead h × IsInside n inside × IsInside (suc n) more

  -- an item, with blocks inside a block at most so many times
  abbrev pub IsItem : ℕ → Item → Type 0
  IsItem deep (define d) = IsDefinition d
  IsItem deep (attach_list kind names members) = Each IsMember members
  IsItem deep (attach_one kind names member) = IsMember member
  IsItem deep (macro d) = Each IsStatement d.body
  IsItem deep (constructor c) = IsConstructor c
  IsItem deep (block h inside) = IsHead h × IsInside deep inside

  -- the items of a specification whose spelling has no fault within these limits
  abbrev pub AreItemsWithin : ℕ → List Item → Type 0
  AreItemsWithin deep items = Each (IsItem deep) items

-- ---- limits

-- how many of them an expression or a pattern may have that stands in no other
abbrev pub heaviest : ℕ
heaviest = 256

-- how often blocks stand inside a block
abbrev pub deepest : ℕ
deepest = 15

-- the items of a specification whose spelling has no fault
abbrev pub AreItems : List Item → Type 0
AreItems items = AreItemsWithin heaviest deepest items
