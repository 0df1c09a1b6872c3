-- Readers of statements and actions, in two readings side by side.
use Rattle.std.proofs.Common.{◌≡◌, ℕ, zero, suc, ◌+◌, Bool, true, not, List, ◌∷◌, length, Option, None, Some, refl, ap, sym, ◌∙◌, arith}
use Rattle.sl_ast.specs.Operators.{in_section, in_action, missing_function, missing_statement}
use Rattle.sl_ast.specs.Spelling.{name}
use Rattle.sl_ast.specs.Symbols.{plain, quoted, Sym, number, word, mark}
use Rattle.sl_ast.specs.Trees.{Name, Expression, Operand, by_name, by_integer, Action, set, global_set, left_name, left_bits, left_star, Direct, to_label, to_operand, Dest, direct, computed, Target, calls, calls_computed, Exported, exports, exports_star, Statement, local, declare, assign, goto, branch, call_to, return, build, export, invoke, label}
use Rattle.sl_ast.specs.declared.symbols.Feature.{Feature}
use Rattle.sl_ast.specs.declared.symbols.Feature.TheVariants as f
use Rattle.sl_ast.specs.declared.symbols.Keyword.TheVariants as k
use Rattle.sl_ast.specs.declared.symbols.Mark.{Mark}
use Rattle.sl_ast.specs.declared.symbols.Mark.TheVariants as m
use Rattle.sl_parse_grammar.specs.Reader.{at, first, Outcome, Reader, ◌>>=◌, ◌>>◌, pure, unsupported, fault, same_mark, is_mark, expect, name_here, optional, size_option}
use Rattle.sl_parse_grammar.specs.Statements.{operand_by, operand, space_name, star_form, label_here, direct_by, direct_here, exported_by, exported, build_here, export_here, until, global_set_here, value_here, computed_here, dest_by, dest, target_by, target, local_here, goto_here, branch_here, call_here, return_here, star_here, declare_here, assign_here, bits_here, invoke_here, invoke_by, named_by, begun_by, statement_by, statement, body, set_here, action_by, action, actions}
use Rattle.sl_parse_faults.specs.Forms.{other}
use Rattle.sl_parse_faults.proofs.BesideSteps.{Pair, address, lone_name, lone_word, wide, opening, leading, calling, sizing, floating, lacking, Untaken, bracket, dots, Firm, Abreast, told, told_here, past, stuck, apart, Begun, Beside, Closed, Common, Closing, closed_pure, closed_then, ends_then, ends_expect, ends_expect_keyword, begun_then, beside_then, beside_later, loose_then, loose_later, loosen, begun_less, beside_pure, begun_fault, begun_skips, begun_refuse, beside_peek}
use Rattle.sl_parse_faults.proofs.BesideSymbols.{no_mark, look_mark, closed_optional, beside_expect, beside_expect_keyword, beside_integer, beside_name, beside_size, beside_optional, beside_size_option}
use Rattle.sl_parse_faults.proofs.BesideLists.{beside_listed, beside_many}
use Rattle.sl_parse_faults.proofs.BesidePatterns.{beside_whole}

-- ---- at the place

operand_by_here : {zs ys K W : List Sym} (h : Pair zs ys K W) (more t r : ℕ) → Abreast h more (Untaken zs true) Operand t zero r (operand_by (first K) (at K (more + r))) (operand_by (first W) (at W r))
operand_by_here address more t r = stuck tt _ _
operand_by_here (lone_name x) more t r = stuck tt _ _
operand_by_here lone_word more t r = stuck tt _ _
operand_by_here (wide x) more t r = past _ _ (omega arith)
operand_by_here (opening x missing e) more t r = past _ _ (omega arith)
operand_by_here leading more t r = apart tt _ _ _ dots
operand_by_here (calling x missing e) more t r = apart tt _ _ _ bracket
operand_by_here (sizing x) more t r = stuck tt _ _
operand_by_here floating more t r = told_here f.FloatingPoint refl
operand_by_here lacking more t r = told_here f.InstNext2 refl

direct_by_here : {zs ys K W : List Sym} {L : List Sym → Type 0} (h : Pair zs ys K W) (more t r : ℕ)
    → Abreast h more L Direct t zero r ((operand >>= (λ to. pure (to_operand to))) (at K (more + r))) ((operand >>= (λ to. pure (to_operand to))) (at W r))
    → Abreast h more L Direct t zero r (direct_by (first K) (at K (more + r))) (direct_by (first W) (at W r))
direct_by_here address more t r b = b
direct_by_here (lone_name x) more t r b = b
direct_by_here lone_word more t r b = b
direct_by_here (wide x) more t r b = b
direct_by_here (opening x missing e) more t r b = b
direct_by_here leading more t r b = b
direct_by_here (calling x missing e) more t r b = b
direct_by_here (sizing x) more t r b = b
direct_by_here floating more t r b = b
direct_by_here lacking more t r b = b

exported_by_here : {zs ys K W : List Sym} {L : List Sym → Type 0} (h : Pair zs ys K W) (more t r : ℕ)
    → Abreast h more L Exported t zero r ((name_here >>= (λ w. pure (exports w))) (at K (more + r))) ((name_here >>= (λ w. pure (exports w))) (at W r))
    → Abreast h more L Exported t zero r (exported_by (first K) (at K (more + r))) (exported_by (first W) (at W r))
exported_by_here address more t r b = b
exported_by_here (lone_name x) more t r b = b
exported_by_here lone_word more t r b = b
exported_by_here (wide x) more t r b = b
exported_by_here (opening x missing e) more t r b = b
exported_by_here leading more t r b = b
exported_by_here (calling x missing e) more t r b = b
exported_by_here (sizing x) more t r b = b
exported_by_here floating more t r b = b
exported_by_here lacking more t r b = b

dest_by_here : {zs ys K W : List Sym} {L : List Sym → Type 0} (h : Pair zs ys K W) (most some t r : ℕ)
    → Abreast h zero L Dest t zero r ((direct_here >>= (λ to. pure (direct to))) (at K (zero + r))) ((direct_here >>= (λ to. pure (direct to))) (at W r))
    → Abreast h zero L Dest t zero r (dest_by some (first K) (at K (zero + r))) (dest_by most (first W) (at W r))
dest_by_here address most some t r b = b
dest_by_here (lone_name x) most some t r b = b
dest_by_here lone_word most some t r b = b
dest_by_here (wide x) most some t r b = b
dest_by_here (opening x missing e) most some t r b = b
dest_by_here leading most some t r b = b
dest_by_here (calling x missing e) most some t r b = b
dest_by_here (sizing x) most some t r b = b
dest_by_here floating most some t r b = b
dest_by_here lacking most some t r b = b

target_by_here : {zs ys K W : List Sym} {L : List Sym → Type 0} (h : Pair zs ys K W) (most some t r : ℕ)
    → Abreast h zero L Target t zero r ((operand >>= (λ to. pure (calls to))) (at K (zero + r))) ((operand >>= (λ to. pure (calls to))) (at W r))
    → Abreast h zero L Target t zero r (target_by some (first K) (at K (zero + r))) (target_by most (first W) (at W r))
target_by_here address most some t r b = b
target_by_here (lone_name x) most some t r b = b
target_by_here lone_word most some t r b = b
target_by_here (wide x) most some t r b = b
target_by_here (opening x missing e) most some t r b = b
target_by_here leading most some t r b = b
target_by_here (calling x missing e) most some t r b = b
target_by_here (sizing x) most some t r b = b
target_by_here floating most some t r b = b
target_by_here lacking most some t r b = b

named_by_here : {zs ys K W : List Sym} {L : List Sym → Type 0} (h : Pair zs ys K W) (most some t r : ℕ) (w : Name) → Abreast h zero L Statement t zero r (assign_here some w (at K (zero + r))) (assign_here most w (at W r))
    → Abreast h zero L Statement t zero r (named_by some w (first K) (at K (zero + r))) (named_by most w (first W) (at W r))
named_by_here address most some t r w b = b
named_by_here (lone_name x) most some t r w b = b
named_by_here lone_word most some t r w b = b
named_by_here (wide x) most some t r w b = b
named_by_here (opening x missing e) most some t r w b = b
named_by_here leading most some t r w b = b
named_by_here (calling x missing e) most some t r w b = b
named_by_here (sizing x) most some t r w b = b
named_by_here floating most some t r w b = b
named_by_here lacking most some t r w b = b

missing_here : {zs ys K : List Sym} {L : List Sym → Type 0} (most t r : ℕ) (w : Name) (feature : Feature) (h : Pair zs ys K (name w ∷ ys)) (o : Outcome Statement) (x : Option Feature) → x ≡ Some feature
    → Abreast h zero L Statement t zero r o (begun_by most w x (at (name w ∷ ys) r))
missing_here most t r w feature h o None e = absurd (cc)
missing_here most t r w feature h o (Some missing) e = told_here missing refl

-- behind the name of a function that is left out
invoked_here : {zs ys K : List Sym} {L : List Sym → Type 0} (most t r : ℕ) (w : Name) (feature : Feature) (h : Pair zs ys K (name w ∷ mark m.Open ∷ ys)) (o : Outcome Statement) (x : Option Feature)
    → x ≡ Some feature → Abreast h zero L Statement t zero r o (invoke_by most w x (at (mark m.Open ∷ ys) r))
invoked_here most t r w feature h o None e = absurd (cc)
invoked_here {ys = ys} most t r w feature h o (Some missing) e = told o (fault (unsupported missing 1) (suc (length ys))) (missing, 1, refl, omega arith)

called_here : {zs ys K : List Sym} {L : List Sym → Type 0} (most t r : ℕ) (w : Name) (feature : Feature) (h : Pair zs ys K (name w ∷ mark m.Open ∷ ys)) (o : Outcome Statement) (x : Option Feature)
    → missing_function w ≡ Some feature → Abreast h zero L Statement t zero r o (begun_by most w x (at (name w ∷ mark m.Open ∷ ys) r))
called_here most t r w feature h o None e = invoked_here most t r w feature h o (missing_function w) e
called_here most t r w feature h o (Some missing) e = told_here missing refl

lead_here : {zs ys : List Sym} {L : List Sym → Type 0} (some t r : ℕ) (p : Outcome Statement) (x : Option Feature) → x ≡ None
    → Abreast {zs = zs} {ys = ys} leading zero L Statement t zero r (begun_by some other x (at (name other ∷ mark m.Ellipsis ∷ zs) (zero + r))) p
unfolding assign_here value_here expect same_mark
lead_here some t r p None e = stuck tt _ _
lead_here some t r p (Some missing) e = absurd (cc)

other_begins : missing_statement other ≡ None
unfolding missing_statement
other_begins = refl

statement_by_here : {zs ys K W : List Sym} {L : List Sym → Type 0} (h : Pair zs ys K W) (most some t r : ℕ) → Abreast h zero L Statement t zero r (statement_by some (first K) (at K (zero + r))) (statement_by most (first W) (at W r))
statement_by_here address most some t r = stuck tt _ _
statement_by_here (lone_name x) most some t r = stuck tt _ _
statement_by_here lone_word most some t r = stuck tt _ _
statement_by_here (wide x) most some t r = stuck tt _ _
statement_by_here (opening x missing e) most some t r = missing_here most t r x missing (opening x missing e) _ (missing_statement x) e
statement_by_here leading most some t r = lead_here some t r _ (missing_statement other) other_begins
statement_by_here (calling x missing e) most some t r = called_here most t r x missing (calling x missing e) _ (missing_statement x) e
statement_by_here (sizing x) most some t r = stuck tt _ _
statement_by_here floating most some t r = told_here f.FloatingPoint refl
statement_by_here lacking most some t r = told_here f.InstNext2 refl

action_by_here : {zs ys K W : List Sym} {L : List Sym → Type 0} (h : Pair zs ys K W) (most some t r : ℕ) → Abreast h zero L Action t zero r (set_here some (at K (zero + r))) (set_here most (at W r))
    → Abreast h zero L Action t zero r (action_by some (first K) (at K (zero + r))) (action_by most (first W) (at W r))
action_by_here address most some t r b = b
action_by_here (lone_name x) most some t r b = b
action_by_here lone_word most some t r b = b
action_by_here (wide x) most some t r b = b
action_by_here (opening x missing e) most some t r b = b
action_by_here leading most some t r b = b
action_by_here (calling x missing e) most some t r b = b
action_by_here (sizing x) most some t r b = b
action_by_here floating most some t r b = b
action_by_here lacking most some t r b = b

-- ---- where something is untaken

pub ends_mark : {zs : List Sym} {b : Bool} {M : List Sym → Type 0} {A : Type 0} (k : Mark) → Closing k → (p : Reader A) → Closed (Untaken zs b) M (expect k >> p)
ends_mark k usual p = ends_then (λ _. p) (ends_expect k usual)

ends_value : {zs : List Sym} {b : Bool} {M : List Sym → Type 0} (most : ℕ) → Closed (Untaken zs b) M (value_here most)
unfolding value_here
ends_value most = ends_mark m.Equals tt _

closed_size_option : {zs : List Sym} {b : Bool} → Closed (Untaken zs b) (Untaken zs b) size_option
unfolding size_option
closed_size_option = closed_optional m.Colon _ tt

-- ---- parts and statements without an expression

module _ {zs ys K W : List Sym} (h : Pair zs ys K W) (n : ℕ) where
  operand_by_begun : (o : Option Sym) → Begun h zero (Untaken zs true) 1 n (operand_by o) (operand_by o)
  operand_by_begun (Some (number x)) = begun_skips h zero (beside_pure h zero (by_integer x))
  operand_by_begun (Some (word (plain w))) = begun_skips h zero (beside_pure h zero (by_name w))
  operand_by_begun o = begun_refuse h zero

  operand_beside : Beside h zero (Untaken zs true) 1 n operand operand
  unfolding operand
  operand_beside = beside_peek h zero operand_by_begun (λ r less. operand_by_here h zero 1 r)

  -- behind a mark that ends
  pub marked : {M : List Sym → Type 0} {A : Type 0} (k : Mark) → Common k → {p q : Reader A} {t : ℕ} → Beside h zero M t n p q → Beside h zero M 1 n (expect k >> p) (expect k >> q)
  marked k usual there = beside_then h zero (beside_expect h zero k usual) (λ _. there)

  space_name_beside : Beside h zero Firm 1 n space_name space_name
  unfolding space_name
  space_name_beside = marked m.OpenBracket tt (loose_then h zero (beside_name h zero) (λ w. marked m.CloseBracket tt (beside_pure h zero w)) (λ w. ends_mark m.CloseBracket tt _))

  star_form_beside : {L : List Sym → Type 0} → Beside h zero L 1 n star_form star_form
  unfolding star_form
  star_form_beside =
      marked m.Star tt (beside_later h zero (beside_optional h zero m.OpenBracket tt space_name_beside.begun) (λ space. beside_then h zero (beside_size_option h zero)
      (λ size. beside_pure h zero (record { space = space; size = size }))))

  label_beside : {L : List Sym → Type 0} → Beside h zero L 1 n label_here label_here
  unfolding label_here
  label_beside = loosen h zero (marked m.Less tt (loose_then h zero (beside_name h zero) (λ w. marked m.Greater tt (beside_pure h zero w)) (λ w. ends_mark m.Greater tt _)))

  direct_by_begun : (o : Option Sym) → Begun h zero (Untaken zs true) 1 n (direct_by o) (direct_by o)
  direct_by_begun (Some (mark m.Less)) = begun_then h zero label_beside.begun (λ w. beside_pure h zero (to_label w))
  direct_by_begun o = (loose_then h zero operand_beside (λ to. beside_pure h zero (to_operand to)) (λ to. closed_pure (to_operand to))).begun

  direct_beside : Beside h zero (Untaken zs true) 1 n direct_here direct_here
  unfolding direct_here
  direct_beside =
      beside_peek h zero direct_by_begun (λ r less. direct_by_here h zero 1 r ((loose_then h zero operand_beside (λ to. beside_pure h zero (to_operand to)) (λ to. closed_pure (to_operand to))).here r less))

  plain_export : Beside h zero (Untaken zs true) 1 n (name_here >>= (λ w. pure (exports w))) (name_here >>= (λ w. pure (exports w)))
  plain_export = loose_then h zero (beside_name h zero) (λ w. beside_pure h zero (exports w)) (λ w. closed_pure (exports w))

  exported_by_begun : (o : Option Sym) → Begun h zero (Untaken zs true) 1 n (exported_by o) (exported_by o)
  exported_by_begun (Some (mark m.Star)) =
      begun_then h zero star_form_beside.begun (λ form. loose_then h zero operand_beside (λ pointer. beside_pure h zero (exports_star form pointer)) (λ pointer. closed_pure (exports_star form pointer)))
  exported_by_begun o = plain_export.begun

  exported_beside : Beside h zero (Untaken zs true) 1 n exported exported
  unfolding exported
  exported_beside = beside_peek h zero exported_by_begun (λ r less. exported_by_here h zero 1 r (plain_export.here r less))

  build_beside : Beside h zero Firm 1 n build_here build_here
  unfolding build_here
  build_beside =
      beside_then h zero (beside_expect_keyword h zero k.Build tt) (λ _. loose_then h zero (beside_name h zero) (λ w. marked m.Semicolon tt (beside_pure h zero (build w))) (λ w. ends_mark m.Semicolon tt _))

  export_beside : Beside h zero Firm 1 n export_here export_here
  unfolding export_here
  export_beside =
      beside_then h zero (beside_expect_keyword h zero k.Export tt) (λ _. loose_then h zero exported_beside (λ what. marked m.Semicolon tt (beside_pure h zero (export what))) (λ what. ends_mark m.Semicolon tt _))

  global_set_beside : Beside h zero Firm 1 n global_set_here global_set_here
  unfolding global_set_here
  global_set_beside =
      beside_then h zero (beside_expect_keyword h zero k.GlobalSet tt) (λ _. marked m.Open tt (loose_then h zero operand_beside
      (λ to. marked m.Comma tt (loose_then h zero (beside_name h zero)
      (λ w. marked m.Close tt (marked m.Semicolon tt (beside_pure h zero (global_set to w)))) (λ w. ends_mark m.Close tt _)))
      (λ to. ends_mark m.Comma tt _)))

  -- a test for another mark than one that ends a list
  pub same_until : (k : Mark) → Common k → until k (first K) ≡ until k (first W)
  same_until k usual = ap not (no_mark h k usual).0 ∙ sym (ap not (no_mark h k usual).1)

  pub loose_optional : {A : Type 0} (k : Mark) {p q : Reader A} → Common k → Beside h zero (Untaken zs true) 1 n p q → Beside h zero (Untaken zs true) zero n (optional (is_mark k) p) (optional (is_mark k) q)
  loose_optional k usual there =
      look_mark h zero k usual (begun_less h zero zero (omega arith) (loose_then h zero there (λ a. beside_pure h zero (Some a)) (λ a. closed_pure (Some a))).begun) (beside_pure h zero None)

-- ---- statements with an expression, and actions

module _ {zs ys K W : List Sym} (h : Pair zs ys K W) (more most n : ℕ) where
  value_beside : Beside h zero (Untaken zs true) 1 n (value_here (more + most)) (value_here most)
  unfolding value_here
  value_beside = marked h n m.Equals tt (loose_then h zero (beside_whole h more most in_section n) (λ e. beside_pure h zero e) (λ e. closed_pure e))

  -- a value and the end
  valued : {M : List Sym → Type 0} (go : Expression → Statement) → Beside h zero M 1 n (value_here (more + most) >>= (λ e. expect m.Semicolon >> pure (go e))) (value_here most >>= (λ e. expect m.Semicolon >> pure (go e)))
  valued go = loose_then h zero value_beside (λ e. marked h n m.Semicolon tt (beside_pure h zero (go e))) (λ e. ends_mark m.Semicolon tt _)

  computed_beside : {L : List Sym → Type 0} → Beside h zero L 1 n (computed_here (more + most)) (computed_here most)
  unfolding computed_here
  computed_beside =
      loosen h zero (marked h n m.OpenBracket tt (loose_then h zero (beside_whole h more most in_section n) (λ e. marked h n m.CloseBracket tt (beside_pure h zero e)) (λ e. ends_mark m.CloseBracket tt _)))

  plain_dest : Beside h zero (Untaken zs true) 1 n (direct_here >>= (λ to. pure (direct to))) (direct_here >>= (λ to. pure (direct to)))
  plain_dest = loose_then h zero (direct_beside h n) (λ to. beside_pure h zero (direct to)) (λ to. closed_pure (direct to))

  dest_by_begun : (o : Option Sym) → Begun h zero (Untaken zs true) 1 n (dest_by (more + most) o) (dest_by most o)
  dest_by_begun (Some (mark m.OpenBracket)) = begun_then h zero computed_beside.begun (λ e. beside_pure h zero (computed e))
  dest_by_begun o = plain_dest.begun

  dest_beside : Beside h zero (Untaken zs true) 1 n (dest (more + most)) (dest most)
  unfolding dest
  dest_beside = beside_peek h zero dest_by_begun (λ r less. dest_by_here h most (more + most) 1 r (plain_dest.here r less))

  plain_target : Beside h zero (Untaken zs true) 1 n (operand >>= (λ to. pure (calls to))) (operand >>= (λ to. pure (calls to)))
  plain_target = loose_then h zero (operand_beside h n) (λ to. beside_pure h zero (calls to)) (λ to. closed_pure (calls to))

  target_by_begun : (o : Option Sym) → Begun h zero (Untaken zs true) 1 n (target_by (more + most) o) (target_by most o)
  target_by_begun (Some (mark m.OpenBracket)) = begun_then h zero computed_beside.begun (λ e. beside_pure h zero (calls_computed e))
  target_by_begun o = plain_target.begun

  target_beside : Beside h zero (Untaken zs true) 1 n (target (more + most)) (target most)
  unfolding target
  target_beside = beside_peek h zero target_by_begun (λ r less. target_by_here h most (more + most) 1 r (plain_target.here r less))

  local_beside : Beside h zero Firm 1 n (local_here (more + most)) (local_here most)
  unfolding local_here
  local_beside =
      beside_then h zero (beside_expect_keyword h zero k.Local tt) (λ _. loose_then h zero (beside_name h zero) (λ w. beside_later h zero (beside_size_option h zero)
      (λ size. loose_later h zero (loose_optional h n m.Equals tt value_beside) (λ value. marked h n m.Semicolon tt (beside_pure h zero (local w size value))) (λ value. ends_mark m.Semicolon tt _)))
      (λ w. closed_then closed_size_option (λ size. closed_then (closed_optional m.Equals _ tt) (λ value. ends_mark m.Semicolon tt _))))

  goto_beside : Beside h zero Firm 1 n (goto_here (more + most)) (goto_here most)
  unfolding goto_here
  goto_beside =
      beside_then h zero (beside_expect_keyword h zero k.Goto tt) (λ _. loose_then h zero dest_beside (λ to. marked h n m.Semicolon tt (beside_pure h zero (goto to))) (λ to. ends_mark m.Semicolon tt _))

  branch_beside : Beside h zero Firm 1 n (branch_here (more + most)) (branch_here most)
  unfolding branch_here
  branch_beside =
      beside_then h zero (beside_expect_keyword h zero k.If tt) (λ _. loose_then h zero (beside_whole h more most in_section n)
      (λ e. beside_then h zero (beside_expect_keyword h zero k.Goto tt) (λ _. loose_then h zero (direct_beside h n)
      (λ to. marked h n m.Semicolon tt (beside_pure h zero (branch e to))) (λ to. ends_mark m.Semicolon tt _)))
      (λ e. ends_then _ (ends_expect_keyword k.Goto)))

  call_beside : Beside h zero Firm 1 n (call_here (more + most)) (call_here most)
  unfolding call_here
  call_beside =
      beside_then h zero (beside_expect_keyword h zero k.Call tt) (λ _. loose_then h zero target_beside (λ to. marked h n m.Semicolon tt (beside_pure h zero (call_to to))) (λ to. ends_mark m.Semicolon tt _))

  return_beside : Beside h zero Firm 1 n (return_here (more + most)) (return_here most)
  unfolding return_here
  return_beside = beside_then h zero (beside_expect_keyword h zero k.Return tt) (λ _. beside_then h zero computed_beside (λ e. marked h n m.Semicolon tt (beside_pure h zero (return e))))

  star_beside : Beside h zero Firm 1 n (star_here (more + most)) (star_here most)
  unfolding star_here
  star_beside =
      beside_then h zero (star_form_beside h n) (λ form. loose_then h zero (beside_whole h more most in_section n) (λ pointer. valued (λ e. assign (left_star form pointer) e))
      (λ pointer. ends_then _ (ends_value (more + most))))

  -- ---- statements that begin with a name, behind it

  declare_beside : (w : Name) → Beside h zero Firm 1 n (declare_here (more + most) w) (declare_here most w)
  unfolding declare_here
  declare_beside w = marked h n m.Colon tt (beside_then h zero (beside_size h zero) (λ l. valued (λ e. declare w l e)))

  assign_beside : (w : Name) → Beside h zero Firm 1 n (assign_here (more + most) w) (assign_here most w)
  unfolding assign_here
  assign_beside w = valued (λ e. assign (left_name w) e)

  bits_beside : (w : Name) → Beside h zero Firm 1 n (bits_here (more + most) w) (bits_here most w)
  unfolding bits_here
  bits_beside w =
      marked h n m.OpenBracket tt (beside_then h zero (beside_integer h zero) (λ l. marked h n m.Comma tt (beside_then h zero (beside_integer h zero)
      (λ c. marked h n m.CloseBracket tt (valued (λ e. assign (left_bits w l c) e))))))

  invoke_beside : (w : Name) → Beside h zero Firm 1 n (invoke_here (more + most) w) (invoke_here most w)
  unfolding invoke_here
  invoke_beside w =
      marked h n m.Open tt (loose_later h zero (beside_listed h zero (beside_whole h more most in_section n)) (λ es. marked h n m.Close tt (marked h n m.Semicolon tt (beside_pure h zero (invoke w es))))
      (λ es. ends_mark m.Close tt _))

  invoke_by_begun : (w : Name) (x : Option Feature) → Begun h zero Firm 1 n (invoke_by (more + most) w x) (invoke_by most w x)
  invoke_by_begun w None = (invoke_beside w).begun
  invoke_by_begun w (Some feature) = begun_fault h zero (unsupported feature 1)

  named_by_begun : (w : Name) (o : Option Sym) → Begun h zero Firm 1 n (named_by (more + most) w o) (named_by most w o)
  named_by_begun w (Some (mark m.Colon)) = (declare_beside w).begun
  named_by_begun w (Some (mark m.OpenBracket)) = (bits_beside w).begun
  named_by_begun w (Some (mark m.Open)) = invoke_by_begun w (missing_function w)
  named_by_begun w o = (assign_beside w).begun

  named_beside : (w : Name) → Beside h zero Firm 1 n (λ i. named_by (more + most) w (first i.rest) i) (λ i. named_by most w (first i.rest) i)
  named_beside w = beside_peek h zero (named_by_begun w) (λ r less. named_by_here h most (more + most) 1 r w ((assign_beside w).here r less))

  begun_by_begun : (w : Name) (x : Option Feature) → Begun h zero Firm 1 n (begun_by (more + most) w x) (begun_by most w x)
  begun_by_begun w None = begun_skips h zero (named_beside w)
  begun_by_begun w (Some feature) = begun_fault h zero (unsupported feature 0)

  -- ---- any statement

  statement_by_begun : (o : Option Sym) → Begun h zero Firm 1 n (statement_by (more + most) o) (statement_by most o)
  statement_by_begun (Some (word (quoted k.Local))) = local_beside.begun
  statement_by_begun (Some (word (quoted k.Goto))) = goto_beside.begun
  statement_by_begun (Some (word (quoted k.If))) = branch_beside.begun
  statement_by_begun (Some (word (quoted k.Call))) = call_beside.begun
  statement_by_begun (Some (word (quoted k.Return))) = return_beside.begun
  statement_by_begun (Some (word (quoted k.Build))) = (build_beside h n).begun
  statement_by_begun (Some (word (quoted k.Export))) = (export_beside h n).begun
  statement_by_begun (Some (word (plain w))) = begun_by_begun w (missing_statement w)
  statement_by_begun (Some (mark m.Star)) = star_beside.begun
  statement_by_begun (Some (mark m.Less)) = begun_then h zero (label_beside h n).begun (λ w. beside_pure h zero (label w))
  statement_by_begun o = begun_refuse h zero

  statement_beside : Beside h zero Firm 1 n (statement (more + most)) (statement most)
  unfolding statement
  statement_beside = beside_peek h zero statement_by_begun (λ r less. statement_by_here h most (more + most) 1 r)

  pub body_beside : Beside h zero Firm 1 n (body (more + most)) (body most)
  unfolding body
  body_beside =
      marked h n m.OpenBrace tt (beside_later h zero (beside_many h zero (until m.CloseBrace) statement_beside (same_until h n m.CloseBrace tt))
      (λ found. marked h n m.CloseBrace tt (beside_pure h zero found)))

  -- ---- actions

  set_beside : Beside h zero Firm 1 n (set_here (more + most)) (set_here most)
  unfolding set_here
  set_beside =
      loose_then h zero (beside_name h zero) (λ w. marked h n m.Equals tt (loose_then h zero (beside_whole h more most in_action n)
      (λ e. marked h n m.Semicolon tt (beside_pure h zero (set w e))) (λ e. ends_mark m.Semicolon tt _)))
      (λ w. ends_mark m.Equals tt _)

  action_by_begun : (o : Option Sym) → Begun h zero Firm 1 n (action_by (more + most) o) (action_by most o)
  action_by_begun (Some (word (quoted k.GlobalSet))) = (global_set_beside h n).begun
  action_by_begun o = set_beside.begun

  action_beside : Beside h zero Firm 1 n (action (more + most)) (action most)
  unfolding action
  action_beside = beside_peek h zero action_by_begun (λ r less. action_by_here h most (more + most) 1 r (set_beside.here r less))

  pub actions_beside : Beside h zero Firm 1 n (actions (more + most)) (actions most)
  unfolding actions
  actions_beside =
      marked h n m.OpenBracket tt (beside_later h zero (beside_many h zero (until m.CloseBracket) action_beside (same_until h n m.CloseBracket tt))
      (λ found. marked h n m.CloseBracket tt (beside_pure h zero found)))
