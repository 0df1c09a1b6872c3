-- meaning: the first part of an expression or of a statement whose sizes are at fault, as far as its tokens tell them.
use Rattle.std.specs.Prelude.{ℕ, zero, suc, ◌-◌, ◌==◌, ◌&&◌, ◌||◌, List, [], ◌∷◌, codes, drop, length, nat_lt, take}
use Rattle.std.specs.Prelude.{Bool, true, false, not, Option, Some, None, if◌then◌else◌, slice_get}
use Rattle.sl_explain_heads.specs.Words.{text_at}
use Rattle.sl_explain_names.specs.Names.{steps_to}
use Rattle.sl_explain_names.specs.TokenKinds.{has_after, has_here, has_kind, is_integer, number_after}
use Rattle.sl_explain_sizes.specs.Operators.{class_of, main_of}
use Rattle.sl_explain_sizes.specs.Slices.{beyond, extent_of, up_to}
use Rattle.sl_explain_sizes.specs.Values.{gives_any, inside, is_call, is_carry, is_function, is_group, is_minus, is_not, is_star}
use Rattle.sl_explain_sizes.specs.Values.{loaded_width, most_depth, primary_value, suffix_of, value_of}
use Rattle.sl_explain_sizes.specs.Widths.{Scope, bit_bytes, named, star_size, told}
use Rattle.sl_explain_sizes.specs.declared.faults.Culprit.{Culprit}
use Rattle.sl_explain_sizes.specs.declared.faults.Finding.{Finding}
use Rattle.sl_explain_sizes.specs.declared.faults.Finding.TheVariants as finding
use Rattle.sl_explain_sizes.specs.declared.faults.Wanted.{Wanted}
use Rattle.sl_explain_sizes.specs.declared.faults.Wanted.TheVariants as wanted
use Rattle.sl_explain_sizes.specs.declared.faults.Why.{Why}
use Rattle.sl_explain_sizes.specs.declared.faults.Why.TheVariants as why
use Rattle.sl_explain_sizes.specs.declared.operators.Class.{Class}
use Rattle.sl_explain_sizes.specs.declared.operators.Class.TheVariants as class
use Rattle.sl_explain_sizes.specs.declared.slices.Extent.{Extent}
use Rattle.sl_explain_sizes.specs.declared.values.Value.{Value}
use Rattle.sl_explain_sizes.specs.declared.widths.Width.{Width}
use Rattle.sl_explain_sizes.specs.declared.widths.Width.TheVariants as width
use Rattle.sl_lex.specs.Reading.{Token}

abbrev pub or_else : Option Culprit → Option Culprit → Option Culprit
or_else None later = later
or_else (Some c) later = Some c

abbrev pub if_so : Bool → Extent → Finding → Option Culprit
if_so b e f = if b then Some (record { extent = e; finding = f; inside = None }) else None

-- ---- what is looked for

-- two sizes that are known and not the same
abbrev pub differ : Width → Width → Bool
differ (width.Bytes a) (width.Bytes b) = not (a == b)
differ _ _ = false

-- The width is of so many bytes.
abbrev pub has_size : (size : ℕ) → Width → Bool
has_size size (width.Bytes a) = a == size
has_size size width.Number = false
has_size size width.Open = false
has_size size width.Untold = false

-- What has this width may have so many bytes.
abbrev pub may_have : (size : ℕ) → Width → Bool
may_have size (width.Bytes a) = a == size
may_have size width.Number = true
may_have size width.Open = true
may_have size width.Untold = false

-- of two that are equal one has so many bytes, and the other may have others
abbrev pub ties : (size : ℕ) → Width → Width → Bool
ties size a b = (has_size size a && not (may_have size b)) || (has_size size b && not (may_have size a))

-- the bytes of a width, or 0
abbrev pub bytes_of : Width → ℕ
bytes_of (width.Bytes size) = size
bytes_of width.Number = 0
bytes_of width.Open = 0
bytes_of width.Untold = 0

-- Nothing says its size but what is asked of it.
abbrev pub is_unsized : Width → Bool
is_unsized width.Number = true
is_unsized width.Open = true
is_unsized (width.Bytes size) = false
is_unsized width.Untold = false

-- and not even that it is a number by itself, whose size some places say
abbrev pub is_open : Width → Bool
is_open width.Open = true
is_open width.Number = false
is_open (width.Bytes size) = false
is_open width.Untold = false

-- ---- findings

-- of what a parameter is the macro's call says no size
abbrev pub why_of : Value → Why → Why
why_of v w = if v.is_given then why.Argument else w

abbrev pub unsaid : Value → Why → Option Culprit
unsaid v w = if_so true v.extent (finding.Unsaid v.extent (why_of v w))

-- a place that says nothing of the size of its value
abbrev pub unsaid_if : Wanted → Bool → Value → Why → Option Culprit
unsaid_if wanted.Unfixed b v w = if b then unsaid v w else None
unsaid_if wanted.Clash b v w = None
unsaid_if (wanted.Ties size) b v w = None

abbrev pub differing : (left right : List Token) → Value → Value → Finding
differing left right a b = finding.Differ (extent_of left) (bytes_of a.width) (extent_of right) (bytes_of b.width)

-- two sides that are equal, in these tokens
abbrev pub pair_fault : Wanted → List Token → (left right : List Token) → Value → Value → Option Culprit
pair_fault wanted.Clash ts left right a b =
    if_so (differ a.width b.width) (extent_of ts) (differing left right a b)
pair_fault (wanted.Ties size) ts left right a b =
    if_so (ties size a.width b.width) (extent_of ts) finding.Tied
pair_fault wanted.Unfixed ts left right a b = None

abbrev pub asking : List Token → Value → (asked : ℕ) → (is_condition : Bool) → Finding
asking ts v asked is_condition = finding.Asked (extent_of ts) (bytes_of v.width) asked is_condition (length ts == 1)

-- these tokens, whose value is this one, are asked to have so many bytes
abbrev pub asked_fault : Wanted → List Token → Value → (size : ℕ) → (is_condition : Bool) → Option Culprit
asked_fault wanted.Clash ts v size is_condition =
    if_so (differ v.width (width.Bytes size)) (extent_of ts) (asking ts v size is_condition)
asked_fault (wanted.Ties n) ts v size is_condition = if_so (ties n v.width (width.Bytes size)) (extent_of ts) finding.Tied
asked_fault wanted.Unfixed ts v size is_condition = None

-- ---- operators

abbrev pub both_fault : Wanted → (left right : List Token) → Value → Value → Option Culprit
both_fault w left right a b = or_else (asked_fault w left a 1 false) (asked_fault w right b 1 false)

abbrev pub test_fault : Wanted → List Token → (left right : List Token) → Value → Value → Option Culprit
test_fault w ts left right a b =
    or_else (pair_fault w ts left right a b) (unsaid_if w (is_unsized a.width && is_unsized b.width) a why.Value)

abbrev pub operator_fault : Wanted → Class → List Token → (left right : List Token) → Value → Value → Option Culprit
operator_fault w class.Alike ts left right a b = pair_fault w ts left right a b
operator_fault w class.Test ts left right a b = test_fault w ts left right a b
operator_fault w class.Boolean ts left right a b = both_fault w left right a b
operator_fault w class.Shift ts left right a b = unsaid_if w (is_open b.width) b why.Amount
operator_fault w class.Comma ts left right a b = None

-- ---- what isn't an operator with two sides

abbrev pub tied_if : Wanted → Bool → List Token → Option Culprit
tied_if (wanted.Ties size) b ts = if_so b (extent_of ts) finding.Tied
tied_if wanted.Clash b ts = None
tied_if wanted.Unfixed b ts = None

-- the width of what is looked for, where its size is
abbrev pub is_sought : Wanted → Width → Bool
is_sought (wanted.Ties size) w = has_size size w
is_sought wanted.Clash w = false
is_sought wanted.Unfixed w = false

abbrev pub arguments_by : Wanted → Scope → (arguments : List Token) → Option ℕ → Option Culprit
arguments_by w s ts None = None
arguments_by w s ts (Some m) =
    test_fault w ts (take m ts) (beyond m ts) (value_of s (take m ts)) (value_of s (beyond m ts))

-- two arguments that have one size
abbrev pub arguments_fault : Wanted → Scope → (arguments : List Token) → Option Culprit
arguments_fault w s ts = arguments_by w s ts (main_of ts)

-- a call with these arguments, whose value this is where there is one
abbrev pub call_fault : Wanted → Scope → List Token → (arguments : List Token) → Value → Option Culprit
call_fault w s ts arguments v =
    if is_carry (text_at ts 0) then arguments_fault w s arguments
    else if is_function (text_at ts 0) then unsaid_if w (is_unsized v.width) v why.Value
    else if gives_any s (text_at ts 0) then unsaid_if w (is_open v.width) v why.Value
    else tied_if w (is_sought w (named s (text_at ts 0))) ts

-- bytes are kept of a number by itself, or of another value
abbrev pub why_kept : Width → (count : ℕ) → Why
why_kept w count = if is_open w then why.Value else why.Kept count

-- bytes or bits are taken of a number without a size
abbrev pub suffix_fault : Wanted → (suffix : List Token) → List Token → Value → Option Culprit
suffix_fault w suffix ts v =
    if length suffix == 0 then None
    else if has_here suffix 0 (codes ":") then unsaid_if w (is_unsized v.width) v (why_kept v.width (number_after suffix 0 1))
    else if has_here suffix 0 (codes "[") then unsaid_if w (is_unsized v.width) v why.Value
    else tied_if w (is_sought w v.width) ts

-- an integer may have its size behind it
abbrev pub primary_fault : Wanted → Scope → List Token → (inner : Value) → Option Culprit
primary_fault w s ts inner =
    if has_kind is_integer (slice_get ts 0) then None else suffix_fault w (suffix_of ts) ts (primary_value s ts inner)

abbrev pub called_fault : Wanted → Scope → List Token → (inner : Value) → Option Culprit
called_fault w s ts inner = if is_call ts then call_fault w s ts (inside ts) inner else None

abbrev pub single_fault : Wanted → Scope → List Token → (inner : Value) → Option Culprit
single_fault w s ts inner =
    if is_minus ts then None
    else if is_not ts then asked_fault w (inside ts) inner 1 false
    else if is_star ts then unsaid_if w (is_open inner.width) inner why.Pointer
    else or_else (called_fault w s ts inner) (primary_fault w s ts inner)

-- ---- expressions

-- the parts come before the whole, the left one before the right one
abbrev pub fault_by : (List Token → Option Culprit) → Wanted → Scope → List Token → Option ℕ → Option Culprit
fault_by fault w s ts None = or_else (fault (inside ts)) (single_fault w s ts (value_of s (inside ts)))
fault_by fault w s ts (Some m) =
    or_else (fault (take m ts)) (or_else (fault (beyond m ts))
    (operator_fault w (class_of (text_at ts m)) ts (take m ts) (beyond m ts) (value_of s (take m ts)) (value_of s (beyond m ts))))

unfoldable pub fault_in : (depth : ℕ) → Wanted → Scope → List Token → Option Culprit
fault_in zero w s ts = None
fault_in (suc depth) w s [] = None
fault_in (suc depth) w s (t ∷ ts) = fault_by (fault_in depth w s) w s (t ∷ ts) (main_of (t ∷ ts))

-- the first part of an expression that is at fault
unfoldable pub fault_of : Wanted → Scope → List Token → Option Culprit
fault_of w s ts = fault_in most_depth w s ts

-- ---- statements

-- a condition without the brackets round it
abbrev pub condition_of : List Token → List Token
condition_of ts = if is_group ts && (length (suffix_of ts) == 0) then inside ts else ts

abbrev pub asked_condition : Wanted → Scope → List Token → Option Culprit
asked_condition w s ts = asked_fault w ts (value_of s ts) 1 true

-- `if E goto ..`
abbrev pub if_fault : Wanted → Scope → List Token → Option Culprit
if_fault w s ts = or_else (fault_of w s ts) (asked_condition w s (condition_of ts))

-- a pointer or a target in brackets
abbrev pub address_fault : Wanted → Scope → List Token → Option Culprit
address_fault w s ts =
    or_else (fault_of w s ts) (unsaid_if w (is_open (value_of s ts).width) (value_of s ts) why.Pointer)

-- `goto [E]`, `call [E]`, `return [E]`
abbrev pub target_fault : Wanted → Scope → List Token → Option Culprit
target_fault w s ts =
    if has_after ts 0 1 (codes "[") then address_fault w s (take (length ts - 3) (drop 2 ts)) else None

abbrev pub without_local : List Token → List Token
without_local ts = if has_here ts 0 (codes "local") then drop 1 ts else ts

-- what is asked of the value by the left side
abbrev pub left_width : Scope → List Token → Width
left_width s ts =
    if is_star ts then loaded_width (star_size ts)
    else if has_after ts 0 1 (codes ":") then told (number_after ts 0 2)
    else if has_after ts 0 1 (codes "[") then told (bit_bytes (number_after ts 0 4))
    else named s (text_at ts 0)

abbrev pub stored_fault : Wanted → Scope → (left : List Token) → Option Culprit
stored_fault w s left = if is_star left then address_fault w s (inside left) else None

abbrev pub given_fault : Wanted → (left : Width) → List Token → Value → Option Culprit
given_fault wanted.Clash left ts v =
    if_so (differ v.width left) (extent_of ts) (asking ts v (bytes_of left) false)
given_fault (wanted.Ties size) left ts v = if_so (ties size v.width left) (extent_of ts) finding.Tied
given_fault wanted.Unfixed left ts v = unsaid_if wanted.Unfixed (is_open left && is_unsized v.width) v why.Value

-- `LEFT = E`
abbrev pub assignment_fault : Wanted → Scope → (left right : List Token) → Option Culprit
assignment_fault w s left right =
    or_else (stored_fault w s left) (or_else (fault_of w s right) (given_fault w (left_width s left) right (value_of s right)))

abbrev pub is_jump : List Token → Bool
is_jump ts = has_here ts 0 (codes "goto") || (has_here ts 0 (codes "call") || has_here ts 0 (codes "return"))

-- labels, the brace that closes, `build` and `export`
abbrev pub is_plain : List Token → Bool
is_plain ts =
    has_here ts 0 (codes "<") || (has_here ts 0 (codes "}") || (has_here ts 0 (codes "build") || has_here ts 0 (codes "export")))

abbrev pub has_equals : List Token → Bool
has_equals ts = nat_lt (steps_to (codes "=") ts) (length ts)

-- the first part at fault of a statement that calls no macro
abbrev pub statement_fault : Wanted → Scope → List Token → Option Culprit
statement_fault w s ts =
    if is_plain ts then None
    else if has_here ts 0 (codes "if") then if_fault w s (up_to (codes "goto") (drop 1 ts))
    else if is_jump ts then target_fault w s ts
    else if has_equals ts
    then assignment_fault w s (without_local (up_to (codes "=") ts)) (beyond (steps_to (codes "=") ts) ts)
    else fault_of w s ts
