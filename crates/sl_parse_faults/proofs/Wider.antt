-- A tree within limits is within wider limits.
use Rattle.std.proofs.Common.{ℕ, zero, suc, ◌≤◌, List, [], ◌∷◌, Option, None, Some, arith}
use Rattle.sl_ast.specs.Operators.{Kind, in_section, in_action}
use Rattle.sl_ast.specs.Trees.{Expression, Pattern, Action, set, global_set, Left, left_name, left_bits, left_star, Dest, direct, computed, Target, calls, calls_computed, Statement, local, declare, assign, goto, branch, call_to, return, build, export, invoke, label, Section, statements, unimplemented, Constructor, Head, Inside, nothing, constructor_then, block_then, Item, define, attach_list, attach_one, macro, constructor, block}
use Rattle.sl_ast.specs.Validity.{Each, IfWritten, IsExpression, IsPattern, IsAction, IsLeft, IsDest, IsTarget, IsStatement, IsSection, IsConstructor, IsHead, IsInside, IsItem, AreItemsWithin}

pub wider_each : {A : Type 0} (P Q : A → Type 0) → ((x : A) → P x → Q x) → (xs : List A) → Each P xs → Each Q xs
wider_each P Q wider [] good = tt
wider_each P Q wider (x ∷ xs) good = (wider x good.0, wider_each P Q wider xs good.1)

pub wider_option : {A : Type 0} (P Q : A → Type 0) → ((x : A) → P x → Q x) → (x : Option A) → IfWritten P x → IfWritten Q x
wider_option P Q wider None good = tt
wider_option P Q wider (Some x) good = wider x good

-- ---- expressions and patterns

pub wider_expression : (most n : ℕ) (kind : Kind) (e : Expression) → most ≤ n → IsExpression most kind e → IsExpression n kind e
wider_expression most n kind e le good = let light = good.1 in (good.0, omega arith)

pub wider_expressions : (most n : ℕ) (kind : Kind) (es : List Expression) → most ≤ n → Each (IsExpression most kind) es → Each (IsExpression n kind) es
wider_expressions most n kind es le good = wider_each (IsExpression most kind) (IsExpression n kind) (λ e h. wider_expression most n kind e le h) es good

pub wider_pattern : (most n : ℕ) (p : Pattern) → most ≤ n → IsPattern most p → IsPattern n p
wider_pattern most n p le good = let light = good.1 in (good.0, omega arith)

-- ---- statements and actions

pub wider_action : (most n : ℕ) (x : Action) → most ≤ n → IsAction most x → IsAction n x
wider_action most n (set w e) le good = wider_expression most n in_action e le good
wider_action most n (global_set to w) le good = tt

pub wider_actions : (most n : ℕ) (xs : List Action) → most ≤ n → Each (IsAction most) xs → Each (IsAction n) xs
wider_actions most n xs le good = wider_each (IsAction most) (IsAction n) (λ x h. wider_action most n x le h) xs good

pub wider_left : (most n : ℕ) (x : Left) → most ≤ n → IsLeft most x → IsLeft n x
wider_left most n (left_name w) le good = good
wider_left most n (left_bits w l c) le good = good
wider_left most n (left_star form e) le good = (good.0, wider_expression most n in_section e le good.1)

pub wider_dest : (most n : ℕ) (to : Dest) → most ≤ n → IsDest most to → IsDest n to
wider_dest most n (direct to) le good = tt
wider_dest most n (computed e) le good = wider_expression most n in_section e le good

pub wider_target : (most n : ℕ) (to : Target) → most ≤ n → IsTarget most to → IsTarget n to
wider_target most n (calls to) le good = tt
wider_target most n (calls_computed e) le good = wider_expression most n in_section e le good

pub wider_statement : (most n : ℕ) (s : Statement) → most ≤ n → IsStatement most s → IsStatement n s
wider_statement most n (local w size value) le good =
    (good.0, wider_option (IsExpression most in_section) (IsExpression n in_section) (λ e h. wider_expression most n in_section e le h) value good.1)
wider_statement most n (declare w l e) le good = (good.0, good.1, wider_expression most n in_section e le good.2)
wider_statement most n (assign left e) le good = (wider_left most n left le good.0, wider_expression most n in_section e le good.1)
wider_statement most n (goto to) le good = wider_dest most n to le good
wider_statement most n (branch e to) le good = wider_expression most n in_section e le good
wider_statement most n (call_to to) le good = wider_target most n to le good
wider_statement most n (return e) le good = wider_expression most n in_section e le good
wider_statement most n (build w) le good = tt
wider_statement most n (export what) le good = good
wider_statement most n (invoke w es) le good = (good.0, good.1, wider_expressions most n in_section es le good.2)
wider_statement most n (label w) le good = tt

pub wider_statements : (most n : ℕ) (ss : List Statement) → most ≤ n → Each (IsStatement most) ss → Each (IsStatement n) ss
wider_statements most n ss le good = wider_each (IsStatement most) (IsStatement n) (λ s h. wider_statement most n s le h) ss good

-- ---- constructors and blocks

pub wider_section : (most n : ℕ) (x : Section) → most ≤ n → IsSection most x → IsSection n x
wider_section most n (statements body) le good = wider_statements most n body le good
wider_section most n unimplemented le good = tt

-- actions that may lack
pub wider_acts : (most n : ℕ) (x : Option (List Action)) → most ≤ n → IfWritten (Each (IsAction most)) x → IfWritten (Each (IsAction n)) x
wider_acts most n x le good = wider_option (Each (IsAction most)) (Each (IsAction n)) (λ xs h. wider_actions most n xs le h) x good

pub wider_constructor : (most n : ℕ) (c : Constructor) → most ≤ n → IsConstructor most c → IsConstructor n c
wider_constructor most n c le good = record {
  display = good.display;
  pattern = wider_pattern most n c.pattern le good.pattern;
  actions = wider_acts most n c.actions le good.actions;
  section = wider_section most n c.section le good.section;
}

pub wider_head : (most n : ℕ) (h : Head) → most ≤ n → IsHead most h → IsHead n h
wider_head most n h le good = record {
  pattern = wider_option (IsPattern most) (IsPattern n) (λ p light. wider_pattern most n p le light) h.pattern good.pattern;
  actions = wider_acts most n h.actions le good.actions;
}

pub wider_inside : (most n d e : ℕ) (x : Inside) → most ≤ n → d ≤ e → IsInside most d x → IsInside n e x
wider_inside most n d e nothing le deeper good = tt
wider_inside most n d e (constructor_then c more) le deeper good = (wider_constructor most n c le good.0, wider_inside most n d e more le deeper good.1)
wider_inside most n zero e (block_then h inside more) le deeper good = absurd good
wider_inside most n (suc d) zero (block_then h inside more) le deeper good = absurd (omega arith)
wider_inside most n (suc d) (suc e) (block_then h inside more) le deeper good =
    (wider_head most n h le good.0, wider_inside most n d e inside le (omega arith) good.1, wider_inside most n (suc d) (suc e) more le deeper good.2)

-- ---- items

pub wider_item : (most n d e : ℕ) (x : Item) → most ≤ n → d ≤ e → IsItem most d x → IsItem n e x
wider_item most n d e (define x) le deeper good = good
wider_item most n d e (attach_list kind names members) le deeper good = good
wider_item most n d e (attach_one kind names member) le deeper good = good
wider_item most n d e (macro x) le deeper good = wider_statements most n x.body le good
wider_item most n d e (constructor c) le deeper good = wider_constructor most n c le good
wider_item most n d e (block h inside) le deeper good = (wider_head most n h le good.0, wider_inside most n d e inside le deeper good.1)

pub wider_items : (most n d e : ℕ) (items : List Item) → most ≤ n → d ≤ e → AreItemsWithin most d items → AreItemsWithin n e items
wider_items most n d e items le deeper good = wider_each (IsItem most d) (IsItem n e) (λ x h. wider_item most n d e x le deeper h) items good
