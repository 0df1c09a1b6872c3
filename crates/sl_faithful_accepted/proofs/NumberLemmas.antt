-- What fields and action names give are numbers of 64 bits.
use Rattle.std.proofs.Common.{◌≡◌, ℕ, zero, suc, ◌+◌, ◌-◌, ◌/◌, ◌<◌, ◌≤◌, ◌^◌, ℤ, pos, negsuc, ◌-ℤ◌, Bool, true, false, cond, ◌==◌, List, [], ◌∷◌, ◌++◌, Option, Some, None, Result, refl, sym, ap, subst, arith, div-le_self}
use Rattle.std.specs.Prelude.{IfOk, IfSome, FitsSigned, find, nat_lt, option_and_then, slice_get}
use Rattle.std.specs.Int.{w64, cast_signed, cast_unsigned, int_shr}
use Rattle.std.specs.List.{AllByRecursion}
use Rattle.std.proofs.lemmas.Int.{SFits-int_wrap, ints}
use Rattle.sl_ast.specs.Trees.{Action, set, global_set, Expression, integer, named, paren, call, sized, dropped, bits, prefix, star, binary}
use Rattle.sl_ast.specs.declared.expressions.BinaryOp.{BinaryOp}
use Rattle.sl_ast.specs.declared.expressions.BinaryOp.TheVariants as op
use Rattle.sl_ast.specs.declared.expressions.PrefixOp.{PrefixOp}
use Rattle.sl_ast.specs.declared.expressions.PrefixOp.TheVariants as before
use Rattle.sl_ast.specs.Trees as ast
use Rattle.sl_decode_meaning.specs.Actions.{Own, address_value, at_values, look, look_kind, make_commit, own, set_name, tell}
use Rattle.sl_decode_meaning.specs.Decoding.{values_in}
use Rattle.sl_decode_meaning.specs.Kinds.{context_field, kind_of}
use Rattle.sl_decode_meaning.specs.Lookups.{entry_at, given_if, number_at, number_by, number_for, shown}
use Rattle.sl_decode_meaning.specs.Outcomes.{◌>>=◌, in_turn, or_fault}
use Rattle.sl_decode_meaning.specs.Places.{Leaf, leaf}
use Rattle.sl_decode_meaning.specs.Values.{Site, expression_value, reads, reads_kind, value_or_zero}
use Rattle.sl_decode_meaning.specs.declared.faults.Fault.{Fault}
use Rattle.sl_decode_meaning.specs.declared.kinds.Kind.{Kind}
use Rattle.sl_decode_meaning.specs.declared.kinds.Kind.TheVariants as k
use Rattle.sl_faithful_accepted.specs.Reading.{EntriesFit}
use Rattle.sl_decode_lengths.proofs.GrowLemmas.{then_any, then_ok}
use Rattle.sl_spec_operators.specs.Operators as operators
use Rattle.sl_spec_operators.specs.Operators.{prefix_value, quotient, left_by, right_by, wrapped}
use Rattle.sl_spec.specs.Attachments.{attached_to}
use Rattle.sl_spec.specs.FieldValues.{value_of}
use Rattle.sl_spec.specs.Tables.{Attached, Entries, Field, Name, Operand}
use Rattle.sl_spec.specs.Tables as spec
use Rattle.sl_spec.specs.declared.tables.Tables.{Tables}

-- The number has 64 bits in two's complement.
abbrev pub Fits : ℤ → Type 0
Fits z = FitsSigned w64 z

zero_fits : Fits (pos 0)
zero_fits = record { sfits = omega arith }

-- ---- operators

fits_by : (n : ℕ) (b : Bool) → nat_lt n (2 ^ 63) ≡ b → Fits (cond b (pos n) (negsuc (2 ^ 64 - suc n)))
fits_by n true is = record { sfits = grind (arith, is) }
fits_by n false is = record { sfits = grind (arith, is) }

signed_fits : (n : ℕ) → Fits (cast_signed w64 n)
signed_fits n = fits_by n (nat_lt n (2 ^ 63)) refl

pub wrapped_fits : (z : ℤ) → Fits (wrapped z)
wrapped_fits z = SFits-int_wrap w64 z

pub value_fits : (f : Field) (n : ℕ) → Fits (value_of f n)
unfolding value_of
value_fits f n = SFits-int_wrap w64 _

quotient_by : (b : Bool) (n : ℕ) → IfSome (cond b None (Some (cast_signed w64 n))) Fits
quotient_by true n = tt
quotient_by false n = signed_fits n

left_fits : (b : Bool) (n : ℕ) → Fits (cond b (cast_signed w64 n) (pos 0))
left_fits true n = signed_fits n
left_fits false n = zero_fits

quotient_small : (a m : ℕ) → a < 2 ^ 63 → a / m < 2 ^ 63
quotient_small a m small = let less : a / m ≤ a = div-le_self a m in omega (arith, small, less)

shifted_fits : (a : ℤ) (n : ℕ) → Fits a → Fits (int_shr a n)
shifted_fits (pos a) n fits = record { sfits = quotient_small a (2 ^ n) fits.sfits }
shifted_fits (negsuc a) n fits = record { sfits = quotient_small a (2 ^ n) fits.sfits }

right_fits : (b : Bool) (a : ℤ) (n : ℕ) → Fits a → Fits (cond b (int_shr a n) (int_shr a 63))
right_fits true a n fits = shifted_fits a n fits
right_fits false a n fits = shifted_fits a 63 fits

operator_fits : (f : BinaryOp) (a b : ℤ) → Fits a → IfSome (operators.value_of f a b) Fits
operator_fits op.Multiply a b fits = wrapped_fits _
operator_fits op.Divide a b fits = quotient_by (cast_unsigned w64 b == 0) _
operator_fits op.Add a b fits = wrapped_fits _
operator_fits op.Subtract a b fits = wrapped_fits _
operator_fits op.ShiftLeft a b fits = left_fits (nat_lt (cast_unsigned w64 b) 64) _
operator_fits op.ShiftRight a b fits = right_fits (nat_lt (cast_unsigned w64 b) 64) a (cast_unsigned w64 b) fits
operator_fits op.And a b fits = signed_fits _
operator_fits op.Xor a b fits = signed_fits _
operator_fits op.Or a b fits = signed_fits _
operator_fits op.WordAnd a b fits = signed_fits _
operator_fits op.WordXor a b fits = signed_fits _
operator_fits op.WordOr a b fits = signed_fits _
operator_fits _ a b fits = tt

turned_fits : (a : ℤ) → Fits a → Fits (negsuc 0 -ℤ a)
turned_fits (pos zero) fits = record { sfits = omega arith }
turned_fits (pos (suc a)) fits =
    record {
      sfits = let small : suc a < 2 ^ 63 = fits.sfits in let same : suc (0 + a) < 2 ^ 63 = omega
          (arith, small) in same;
    }
turned_fits (negsuc a) fits = let turned : negsuc 0 -ℤ negsuc a ≡ pos a =
    omega (arith, ints) in subst Fits (sym turned) (record { sfits = fits.sfits })

prefix_fits : (f : PrefixOp) (a : ℤ) → Fits a → IfSome (prefix_value f a) Fits
prefix_fits before.Negate a fits = wrapped_fits _
prefix_fits before.Complement a fits = turned_fits a fits
prefix_fits before.Not a fits = tt

or_fault_fits : (x : Fault) (o : Option ℤ) → IfSome o Fits → IfOk (or_fault x o) Fits
or_fault_fits x None fits = tt
or_fault_fits x (Some v) fits = fits

-- ---- expressions

module _ (ctor : ℕ) (names : Name → Result ℤ Fault) (each : (name : Name) → IfOk (names name) Fits) where
  pub expression_fits : (e : Expression) → IfOk (expression_value ctor names e) Fits
  unfolding expression_value
  expression_fits (integer n) = wrapped_fits (pos n)
  expression_fits (named name) = each name
  expression_fits (paren e) = expression_fits e
  expression_fits (prefix f e) = then_ok (expression_value ctor names e) _ Fits Fits (expression_fits e)
      (λ a fits. or_fault_fits _ (prefix_value f a) (prefix_fits f a fits))
  expression_fits (binary f l r) = then_ok (expression_value ctor names l) _ Fits Fits (expression_fits l)
      (λ a fits. then_ok (expression_value ctor names r) _ Fits Fits (expression_fits r)
      (λ b more. or_fault_fits _ (operators.value_of f a b) (operator_fits f a b fits)))
  expression_fits (call name es) = tt
  expression_fits (sized e n) = tt
  expression_fits (dropped e n) = tt
  expression_fits (bits e low count) = tt
  expression_fits (star space size e) = tt

-- ---- what is attached

-- what is found has an index
pub find_at : {X : Type 0} (test : X → Bool) (xs : List X) (x : X) → find test xs ≡ Some x
    → (k : ℕ) × (slice_get xs k ≡ Some x)
find_at test [] x is = absurd (let no : ⊥ = cc in no)
find_at {X = X} test (y ∷ ys) x is = by (test y) is (find_at test ys x)
  where
    by : (b : Bool) → cond b (Some y) (find test ys) ≡ Some x
        → (find test ys ≡ Some x → (k : ℕ) × (slice_get ys k ≡ Some x)) → (k : ℕ) × (slice_get (y ∷ ys) k ≡ Some x)
    by true is later = (0, is)
    by false is later = let l = later is in (suc l.0, l.1)

-- an entry is at its index
pub entry_there : {X : Type 0} (entries : List (Option X)) (index : ℕ) (x : X) → entry_at entries index ≡ Some x
    → slice_get entries index ≡ Some (Some x)
entry_there entries index x is = by (slice_get entries index) is
  where
    by : (o : Option (Option _)) → option_and_then (λ entry. entry) o ≡ Some x → o ≡ Some (Some x)
    by None is = absurd (let no : ⊥ = cc in no)
    by (Some e) is = ap Some is

pub entry_fits : (numbers : List (Option ℤ)) (index : ℕ) → EntriesFit (spec.values numbers)
    → IfSome (entry_at numbers index) Fits
entry_fits numbers index fit = by (entry_at numbers index) refl
  where
    by : (o : Option ℤ) → entry_at numbers index ≡ o → IfSome o Fits
    by None is = tt
    by (Some v) is = fit index v (entry_there numbers index v is)

pub or_zero_fits : (o : Option ℤ) → IfSome o Fits → Fits (value_or_zero o)
or_zero_fits None fits = zero_fits
or_zero_fits (Some v) fits = fits

-- ---- names

-- All are numbers of 64 bits.
abbrev pub AllFit : List ℤ → Type 0
AllFit vs = AllByRecursion Fits vs

pub value_at : (vs : List ℤ) (k : ℕ) → AllFit vs → IfSome (slice_get vs k) Fits
value_at [] k fit = tt
value_at (v ∷ vs) zero fit = fit.0
value_at (v ∷ vs) (suc k) fit = value_at vs k fit.1

one_more : (vs : List ℤ) (v : ℤ) → AllFit vs → Fits v → AllFit (vs ++ v ∷ [])
one_more [] v fit last = (last, tt)
one_more (w ∷ vs) v fit last = (fit.0, one_more vs v fit.1 last)

module _ (t : Tables) (fit : (i : ℕ) (a : Attached) → slice_get t.attached i ≡ Some a → EntriesFit a.entries) where
  pub attached_fit : (id : ℕ) (a : Attached) → attached_to id t.attached ≡ Some a → EntriesFit a.entries
  attached_fit id a is = let there = find_at (λ (a : Attached). id == a.field) t.attached a is in fit there.0 a there.1

  number_for_fits : (es : Entries) (index : ℕ) (mine : ℤ) → EntriesFit es → Fits mine
      → IfSome (number_for es index mine) Fits
  number_for_fits (spec.registers ids) index mine entries fits = fits
  number_for_fits (spec.texts names) index mine entries fits = fits
  number_for_fits (spec.values numbers) index mine entries fits = entry_fits numbers index entries

  number_by_fits : (o : Option Attached) (index : ℕ) (mine : ℤ) → ((a : Attached) → o ≡ Some a → EntriesFit a.entries)
      → Fits mine → IfSome (number_by o index mine) Fits
  number_by_fits None index mine entries fits = fits
  number_by_fits (Some a) index mine entries fits = number_for_fits a.entries index mine (entries a refl) fits

  given_fits : (id : ℕ) (o : Option Field) (bytes : List ℕ) (at context : ℕ)
      → IfOk (given_if t id o bytes at context) Fits
  given_fits id None bytes at context = zero_fits
  given_fits id (Some f) bytes at context =
      or_fault_fits _ _ (number_by_fits (attached_to id t.attached) _ (value_of f (number_at t f bytes at context))
      (attached_fit id) (value_fits f (number_at t f bytes at context)))

  module _ (os : List Operand) (ls : List Leaf) (s : Site) where
    kind_fits : (values : List ℤ) → AllFit values → (name : Name) (kind : Kind)
        → IfOk (reads_kind t ls (at_values values s) name kind) Fits
    kind_fits values fit name (k.Field id) = given_fits id (slice_get t.fields id) s.bytes _ s.context
    kind_fits values fit name (k.Action n) = or_zero_fits (slice_get values n) (value_at values n fit)
    kind_fits values fit name k.Start = wrapped_fits _
    kind_fits values fit name k.Next = wrapped_fits _
    kind_fits values fit name (k.Table id) = zero_fits
    kind_fits values fit name k.Nothing = zero_fits

    reads_fits : (values : List ℤ) → AllFit values → (name : Name) → IfOk (reads t os ls (at_values values s) name) Fits
    reads_fits values fit name = kind_fits values fit name (kind_of t os name)

    -- ---- actions

    abbrev OwnFits : Own → Type 0
    OwnFits c = AllFit (values_in c)

    set_fits : (e : Expression) (o : Option Field) (c : Own) → OwnFits c → IfOk (set_name t os ls s e o c) OwnFits
    set_fits e (Some f) c fit = fit
    set_fits e None (own notes values commits) fit =
        then_ok (expression_value s.ctor (reads t os ls (at_values values s)) e) _ Fits OwnFits
        (expression_fits s.ctor (reads t os ls (at_values values s)) (reads_fits values fit) e)
        (λ n fits. one_more values n fit fits)

    commit_fits : (address : ast.Operand) (o : Option Field) (c : Own) → OwnFits c
        → IfOk (make_commit t os ls s address o c) OwnFits
    commit_fits address None c fit = fit
    commit_fits address (Some f) (own [] values commits) fit = fit
    commit_fits address (Some f) (own (note ∷ notes) values commits) fit =
        then_any (address_value (reads t os ls (at_values values s)) address) _ OwnFits (λ n is. fit)

    tell_fits : (a : Action) (c : Own) → OwnFits c → IfOk (tell t os ls s a c) OwnFits
    tell_fits (set name e) c fit = set_fits e (context_field t (kind_of t os name)) c fit
    tell_fits (global_set address name) c fit = commit_fits address (context_field t (kind_of t os name)) c fit

    -- ---- look-ups, which leave the values

    look_fits : (l : Leaf) (c : Own) → OwnFits c → IfOk (look t os s l c) OwnFits
    look_fits (leaf name true at) c fit = by (kind_of t os name)
      where
        by : (kind : Kind) → IfOk (look_kind t s at kind c) OwnFits
        by (k.Field id) = then_any (shown t id s.bytes (s.at + at) s.context) _ OwnFits (λ found is. fit)
        by (k.Table id) = fit
        by (k.Action n) = fit
        by k.Start = fit
        by k.Next = fit
        by k.Nothing = fit
    look_fits (leaf name false at) c fit = fit

    turns_fit : {A : Type 0} (step : A → Own → Result Own Fault)
        → ((a : A) (c : Own) → OwnFits c → IfOk (step a c) OwnFits)
        → (as' : List A) (c : Own) → OwnFits c → IfOk (in_turn step as' c) OwnFits
    turns_fit step each [] c fit = fit
    turns_fit step each (a ∷ as') c fit =
        then_ok (step a c) (in_turn step as') OwnFits OwnFits (each a c fit)
        (λ next fits. turns_fit step each as' next fits)

    -- the values of a node's action names, when all is done
    pub late_fits : (as' : List Action) (c : Own) → OwnFits c
        → IfOk (in_turn (look t os s) ls c >>= in_turn (tell t os ls s) as') OwnFits
    late_fits as' c fit = then_ok (in_turn (look t os s) ls c) (in_turn (tell t os ls s) as') OwnFits OwnFits
        (turns_fit (look t os s) look_fits ls c fit) (λ next fits. turns_fit (tell t os ls s) tell_fits as' next fits)
