-- What a node's actions come to: those before the operands leave the context where none sets a field of it, and no late
-- moment ends for want of a constructor.
use Rattle.std.proofs.Common.{◌≡◌, ℕ, Bool, true, false, List, [], ◌∷◌, ◌++◌, Option, Some, None, Result, Ok, Err, refl, sym, ap, ◌∙◌}
use Rattle.std.specs.Prelude.{ℤ, cond, not}
use Rattle.std.specs.List.{list_any}
use Rattle.std.specs.Option.{is_some}
use Rattle.std.proofs.lemmas.Bool.{false≢true}
use Rattle.sl_ast.specs.Trees as ast
use Rattle.sl_ast.specs.Trees.{Action, set, global_set, Expression, Pattern, by_integer, by_name, integer, named, paren}
use Rattle.sl_ast.specs.Trees.{call, sized, dropped, bits, prefix, star, binary}
use Rattle.sl_decode_meaning.specs.Actions.{Changed, Own, act, add_note, address_value, at_values, changed, commit_of}
use Rattle.sl_decode_meaning.specs.Actions.{look, look_kind, make_commit, mask_of, note_of, own, set_context, set_name}
use Rattle.sl_decode_meaning.specs.Actions.{tell}
use Rattle.sl_decode_meaning.specs.Kinds.{context_field, kind_of}
use Rattle.sl_decode_meaning.specs.Lookups.{given_if, has_entry_by, number_at, shown_if}
use Rattle.sl_decode_meaning.specs.Meanings.{leaves_by, said}
use Rattle.sl_decode_meaning.specs.Outcomes.{◌>>=◌, in_turn, or_fault}
use Rattle.sl_decode_meaning.specs.Places.{Leaf, leaf}
use Rattle.sl_decode_meaning.specs.Values.{Site, expression_value, reads, reads_kind}
use Rattle.sl_decode_meaning.specs.declared.faults.Fault.{Fault}
use Rattle.sl_decode_meaning.specs.declared.faults.Fault.TheVariants.{ActionDivide, NoConstructor, NoEntry}
use Rattle.sl_decode_meaning.specs.declared.kinds.Kind.{Kind}
use Rattle.sl_decode_meaning.specs.declared.kinds.Kind.TheVariants as k
use Rattle.sl_decode_meaning.specs.declared.notes.Noted.{Noted}
use Rattle.sl_gap_operands.specs.Operands.{sets_context}
use Rattle.sl_spec_registers.proofs.BoolLemmas.{or_false}
use Rattle.sl_spec.specs.Attachments.{attached_to}
use Rattle.sl_spec.specs.FieldValues.{bits_of}
use Rattle.sl_spec.specs.Tables.{Field, Name, Operand}
use Rattle.sl_spec.specs.declared.tables.Tables.{Tables}
use Rattle.sl_spec_operators.specs.Operators.{prefix_value, value_of}

-- ---- outcomes

abbrev pub IsOther : Fault → Type 0
IsOther (NoConstructor table at) = ⊥
IsOther (NoEntry field value) = Unit {0}
IsOther (ActionDivide ctor) = Unit {0}

-- It doesn't end for want of a constructor.
abbrev pub IsServed : {A : Type 0} → Result A Fault → Type 0
IsServed (Ok x) = Unit {0}
IsServed (Err fault) = IsOther fault

pub then_served : {A B : Type 0} (r : Result A Fault) (next : A → Result B Fault) → IsServed r → ((x : A) → IsServed (next x))
    → IsServed (r >>= next)
then_served (Ok x) next served each = each x
then_served (Err fault) next served each = served

or_served : {A : Type 0} (fault : Fault) (o : Option A) → IsOther fault → IsServed (or_fault fault o)
or_served fault None other = other
or_served fault (Some x) other = tt

turns_served : {A X : Type 0} (step : A → X → Result X Fault) → ((a : A) (x : X) → IsServed (step a x)) → (as' : List A) (x : X)
    → IsServed (in_turn step as' x)
turns_served step each [] x = tt
turns_served step each (a ∷ as') x = then_served (step a x) (in_turn step as') (each a x) (turns_served step each as')

-- ---- values

value_served : (ctor : ℕ) (names : Name → Result ℤ Fault) → ((name : Name) → IsServed (names name)) → (e : Expression)
    → IsServed (expression_value ctor names e)
unfolding expression_value
value_served ctor names each (integer n) = tt
value_served ctor names each (named name) = each name
value_served ctor names each (paren e) = value_served ctor names each e
value_served ctor names each (prefix op e) =
    then_served (expression_value ctor names e) (λ a. or_fault (ActionDivide ctor) (prefix_value op a)) (value_served ctor names each e)
    (λ a. or_served (ActionDivide ctor) (prefix_value op a) tt)
value_served ctor names each (binary op l r) =
    then_served (expression_value ctor names l) (λ a. expression_value ctor names r >>= λ b. or_fault (ActionDivide ctor) (value_of op a b)) (value_served ctor names each l)
    (λ a. then_served (expression_value ctor names r) (λ b. or_fault (ActionDivide ctor) (value_of op a b)) (value_served ctor names each r)
    (λ b. or_served (ActionDivide ctor) (value_of op a b) tt))
value_served ctor names each (call name es) = tt
value_served ctor names each (sized e n) = tt
value_served ctor names each (dropped e n) = tt
value_served ctor names each (bits e low count) = tt
value_served ctor names each (star space size e) = tt

module _ (t : Tables) where
  given_served : (id : ℕ) (f : Option Field) (bytes : List ℕ) (at context : ℕ) → IsServed (given_if t id f bytes at context)
  given_served id None bytes at context = tt
  given_served id (Some f) bytes at context = or_served (NoEntry id _) _ tt

  shown_served : (id : ℕ) (f : Option Field) (bytes : List ℕ) (at context : ℕ) → IsServed (shown_if t id f bytes at context)
  shown_served id None bytes at context = tt
  shown_served id (Some f) bytes at context =
      let index = bits_of f.low f.high (number_at t f bytes at context) in
      by (has_entry_by (attached_to id t.attached) index) index
    where
      by : (b : Bool) (value : ℕ) → IsServed {A = Unit {0}} (cond b (Ok tt) (Err (NoEntry id value)))
      by true value = tt
      by false value = tt

  module _ (os : List Operand) (ls : List Leaf) where
    kind_served : (s : Site) (name : Name) (kind : Kind) → IsServed (reads_kind t ls s name kind)
    kind_served s name (k.Field id) = given_served id _ s.bytes _ s.context
    kind_served s name (k.Action n) = tt
    kind_served s name k.Start = tt
    kind_served s name k.Next = tt
    kind_served s name (k.Table id) = tt
    kind_served s name k.Nothing = tt

    expression_served : (s : Site) (e : Expression) → IsServed (expression_value s.ctor (reads t os ls s) e)
    expression_served s e = value_served s.ctor (reads t os ls s) (λ name. kind_served s name (kind_of t os name)) e

    -- ---- late moments

    look_by : (s : Site) (at : ℕ) (kind : Kind) (c : Own) → IsServed (look_kind t s at kind c)
    look_by s at (k.Field id) c = then_served _ (λ found. Ok c) (shown_served id _ s.bytes _ s.context) (λ found. tt)
    look_by s at (k.Table id) c = tt
    look_by s at (k.Action n) c = tt
    look_by s at k.Start c = tt
    look_by s at k.Next c = tt
    look_by s at k.Nothing c = tt

    look_served : (s : Site) (l : Leaf) (c : Own) → IsServed (look t os s l c)
    look_served s (leaf name true at) c = look_by s at (kind_of t os name) c
    look_served s (leaf name false at) c = tt

    set_by : (s : Site) (e : Expression) (f : Option Field) (c : Own) → IsServed (set_name t os ls s e f c)
    set_by s e (Some f) c = tt
    set_by s e None (own notes values commits) =
        then_served (expression_value s.ctor (reads t os ls (at_values values s)) e) (λ n. Ok (own notes (values ++ n ∷ []) commits))
        (expression_served (at_values values s) e) (λ n. tt)

    address_served : (s : Site) (address : ast.Operand) → IsServed (address_value (reads t os ls s) address)
    address_served s (by_name name) = kind_served s name (kind_of t os name)
    address_served s (by_integer n) = tt

    commit_by : (s : Site) (address : ast.Operand) (f : Option Field) (c : Own) → IsServed (make_commit t os ls s address f c)
    commit_by s address None c = tt
    commit_by s address (Some f) (own [] values commits) = tt
    commit_by s address (Some f) (own (note ∷ notes) values commits) =
        then_served (address_value (reads t os ls (at_values values s)) address) (λ n. Ok (own notes values (commits ++ commit_of t note n ∷ [])))
        (address_served (at_values values s) address) (λ n. tt)

    tell_served : (s : Site) (a : Action) (c : Own) → IsServed (tell t os ls s a c)
    tell_served s (set name e) c = set_by s e (context_field t (kind_of t os name)) c
    tell_served s (global_set address name) c = commit_by s address (context_field t (kind_of t os name)) c

    -- ---- early moments

    set_quiet : (s : Site) (e : Expression) (f : Option Field) (x : ℕ) (notes : List Noted) → is_some f ≡ false
        → set_context t os ls s e f (changed x notes) ≡ Ok (changed x notes)
    set_quiet s e None x notes none = refl
    set_quiet s e (Some f) x notes none = absurd (false≢true (sym none))

    -- The context stays, and there are these notes.
    abbrev Leaves : ℕ → Result Changed Fault → Type 0
    Leaves x r = (notes : List Noted) × (r ≡ Ok (changed x notes))

    note_quiet : (s : Site) (f : Option Field) (x : ℕ) (notes : List Noted) → Leaves x (add_note t os ls s f (changed x notes))
    note_quiet s None x notes = (notes, refl)
    note_quiet s (Some f) x notes = (notes ++ note_of (mask_of f) (not f.noflow) x ∷ [], refl)

    act_quiet : (s : Site) (a : Action) (x : ℕ) (notes : List Noted) → sets_context t os a ≡ false → Leaves x (act t os ls s a (changed x notes))
    act_quiet s (set name e) x notes none = (notes, set_quiet s e (context_field t (kind_of t os name)) x notes none)
    act_quiet s (global_set address name) x notes none = note_quiet s (context_field t (kind_of t os name)) x notes

    -- none of the actions sets a field of the context
    pub acts_quiet : (s : Site) (as' : List Action) (x : ℕ) (notes : List Noted) → list_any (sets_context t os) as' ≡ false
        → Leaves x (in_turn (act t os ls s) as' (changed x notes))
    acts_quiet s [] x notes none = (notes, refl)
    acts_quiet s (a ∷ as') x notes none =
        let both = or_false (sets_context t os a) (list_any (sets_context t os) as') none in
        let first = act_quiet s a x notes both.0 in
        let rest = acts_quiet s as' x first.0 both.1 in
        (rest.0, ap (λ (r : Result Changed Fault). r >>= in_turn (act t os ls s) as') first.1 ∙ rest.1)

  pub late_served : (os : List Operand) (p : Pattern) (as' : List Action) (s : Site) (c : Own) → IsServed ((said t os p as').late s c)
  late_served os p as' s c =
      let ls = leaves_by t os p s.lengths in
      then_served (in_turn (look t os s) ls c) (in_turn (tell t os ls s) as')
      (turns_served (look t os s) (look_served os ls s) ls c)
      (λ x. turns_served (tell t os ls s) (tell_served os ls s) as' x)
