-- What names give, and what hangs on them.
use Rattle.std.proofs.Common.{◌≡◌, ℕ, Bool, true, false, ◌||◌, List, [], ◌∷◌, ◌++◌, drop, length, Option, None, Some, Result, Ok, Err, refl, sym, ap, subst, ◌∙◌, slice_get}
use Rattle.std.proofs.lemmas.Slice.Eq.{bytes_eq-Decides}
use Rattle.std.specs.List.{AllByRecursion}
use Rattle.std.specs.Option.{option_and_then}
use Rattle.std.specs.Prelude.{OnOk, Vec, is_some, if◌then◌else◌}
use Rattle.std.specs.Str.{bytes_eq}
use Rattle.std.proofs.Common.{Box}
use Rattle.std.specs.declared.alloc.Global.{Global}
use denote.Ref.{Bor}
use Rattle.sl_ast.specs.Trees.{Expression, binary, global_set, named, paren, prefix, set}
use Rattle.sl_ast.specs.Trees as ast
use Rattle.sl_ast.specs.Views.{expression_of, expression_step, operand_of_address}
use Rattle.sl_ast.specs.declared.patterns.Address as ad
use Rattle.sl_ast.specs.declared.patterns.Address.TheVariants as av
use Rattle.sl_ast.specs.declared.expressions.Expr as e
use Rattle.sl_ast.specs.declared.expressions.Expr.TheFolds.{fold-roll-Expr}
use Rattle.sl_ast.specs.declared.expressions.Expr.TheOpen.{Expr-F}
use Rattle.sl_ast.specs.declared.expressions.Expr.TheVariants.{rolls-Binary, rolls-Bits, rolls-Call, rolls-Dropped, rolls-Integer, rolls-Name, rolls-Paren, rolls-Prefix, rolls-Sized, rolls-Star}
use Rattle.sl_ast.specs.declared.expressions.BinaryOp.{BinaryOp}
use Rattle.sl_ast.specs.declared.expressions.PrefixOp.{PrefixOp}
use Rattle.sl_decode_meaning.specs.Actions.{Changed, Own, add_note, at_context, at_values, changed, commit_of, make_commit, mask_of, own, set_context, set_name, with_bits}
use Rattle.sl_decode_meaning.specs.Kinds.{context_field, kind_of}
use Rattle.sl_decode_meaning.specs.Lookups.{given, given_by, given_if, is_whole}
use Rattle.sl_decode_meaning.specs.Outcomes.{◌>>=◌}
use Rattle.sl_decode_meaning.specs.Places.{Leaf, first_place, or_start}
use Rattle.sl_decode_meaning.specs.Values.{Site, expression_value, operated, prefixed, reads, reads_kind}
use Rattle.sl_decode_meaning.specs.declared.kinds.Kind.{Kind}
use Rattle.sl_decode_meaning.specs.declared.kinds.Kind.TheVariants as k
use Rattle.sl_decode_leaves.specs.Extents.{extent, leaves_at}
use Rattle.sl_decode_plan.specs.Uses.{IsSameAction, IsSameAddress, IsSameName, IsSameValue, ReadAsBefore, ReadsAsBefore, Uses, read_at}
use Rattle.sl_decode_leaves.specs.declared.leaves.Leaf as l
use Rattle.sl_decode_plan.specs.declared.uses.Used.{Used}
use Rattle.sl_decode_leaves.proofs.TiedLemmas.{all_but_last}
use Rattle.sl_spec.proofs.KeyedLemmas.{all_push, none_from}
use Rattle.sl_spec.specs.FieldValues.{number_in, token_of}
use Rattle.sl_spec.specs.Named.{has_name}
use Rattle.sl_spec.specs.Tables.{Field, Name, Operand, Token}
use Rattle.sl_spec.specs.declared.tables.Tables.{Tables}

pub ok_as : {A E P Q : Type 0} (r : Result A E) → OnOk r P → (P → Q) → OnOk r Q
ok_as (Ok x) p f = f p
ok_as (Err e) p f = tt

-- ---- places

context_alone : (o : Option Token) (bytes : List ℕ) (at context : ℕ) → o ≡ None
    → (if is_whole o at (length bytes) then number_in o (drop at bytes) context else 0) ≡ context
context_alone None bytes at context none = refl
context_alone (Some token) bytes at context none = absurd (cc none)

-- whether it is a field of a token
abbrev pub in_token : Option Field → Bool
in_token None = false
in_token (Some f) = is_some f.token

given_alone : (t : Tables) (id : ℕ) (f : Option Field) (bytes : List ℕ) (at other context : ℕ) → in_token f ≡ false
    → given_if t id f bytes at context ≡ given_if t id f bytes other context
given_alone t id None bytes at other context none = refl
given_alone t id (Some f) bytes at other context none =
    let no_token : token_of t.tokens f ≡ None = ap (option_and_then (slice_get t.tokens)) (none_from f.token none) in
    ap (given_by t id f) (context_alone (token_of t.tokens f) bytes at context no_token ∙ sym (context_alone (token_of t.tokens f) bytes other context no_token))

pub no_place : (t : Tables) (id : ℕ) (f : Option Field) (bytes : List ℕ) (at other context : ℕ) → f ≡ slice_get t.fields id → in_token f ≡ false
    → given t id bytes at context ≡ given t id bytes other context
no_place t id f bytes at other context is none =
    subst (λ g. given_if t id g bytes at context ≡ given_if t id g bytes other context) is (given_alone t id f bytes at other context none)

pub read_there : (t : Tables) (ls : List Leaf) (s : Site) (name : Name) (kind : Kind)
    → reads_kind t ls s name kind ≡ read_at t s kind (or_start (first_place name ls))
read_there t ls s name (k.Field id) = refl
read_there t ls s name (k.Table id) = refl
read_there t ls s name (k.Action n) = refl
read_there t ls s name k.Start = refl
read_there t ls s name k.Next = refl
read_there t ls s name k.Nothing = refl

pub read_as : (t : Tables) (os : List Operand) (ls : List l.Leaf) (now x : Used) → now.name.now ≡ x.name.now → ReadsAsBefore t os ls now
    → now.kind ≡ x.kind → ((lengths : List ℕ) → extent now.place lengths ≡ extent x.place lengths) → ReadsAsBefore t os ls x
read_as t os ls now x its before same alike =
    subst (λ n. (kind_of t os n ≡ x.kind) × ((s : Site) → reads t os (leaves_at s.lengths ls) s n ≡ read_at t s x.kind (extent x.place s.lengths))) its (
      before.0 ∙ same,
      λ s. before.1 s ∙ ap (λ m. read_at t s m (extent now.place s.lengths)) same ∙ ap (read_at t s x.kind) (alike s.lengths),
    )

-- ---- names

all_both : {X : Type 0} (P Q : X → Type 0) (xs : List X) → AllByRecursion P xs → AllByRecursion Q xs → AllByRecursion (λ x. P x × Q x) xs
all_both P Q [] one other = tt
all_both P Q (x ∷ xs) one other = ((one.0, other.0), all_both P Q xs one.1 other.1)

module _ {X : Type 0} (name_of : X → Name) (P : X → Type 0) (name : Name) where
  found_or : (b : Bool) (more : Bool) (x : X) → bytes_eq name (name_of x) ≡ b → (b || more) ≡ true → P x
      → (more ≡ true → (y : X) × (name ≡ name_of y) × P y) → (y : X) × (name ≡ name_of y) × P y
  found_or true more x same has its rest = (x, (bytes_eq-Decides name (name_of x)).0 same, its)
  found_or false more x other has its rest = rest has

  -- what has the name, of which this holds as of all
  found_all : (xs : List X) → has_name name_of name xs ≡ true → AllByRecursion P xs → (y : X) × (name ≡ name_of y) × P y
  found_all [] none all = absurd (cc none)
  found_all (x ∷ xs) has all =
      found_or (bytes_eq name (name_of x)) (has_name name_of name xs) x refl has all.0 (λ more. found_all xs more all.1)

module _ (t : Tables) (os : List Operand) (ls : List l.Leaf) where
  same_by : (those : List Operand) (ms : List l.Leaf) (x : Used) → ReadsAsBefore t os ls x → ReadsAsBefore t those ms x
      → IsSameName t os ls x.name.now those ms
  same_by those ms x one other = (one.0 ∙ sym other.0, λ s. one.1 s ∙ sym (other.1 s))

  module _ (name : Name) (old : List Used) where
    pub uses_found : has_name (λ x. x.name.now) name old ≡ true → ReadAsBefore t os ls old → Uses t os ls old old (IsSameName t os ls name)
    uses_found has before = record {
      before = before;
      holds = λ those ms stand.
          let found = found_all (λ x. x.name.now) (λ x. ReadsAsBefore t os ls x × ReadsAsBefore t those ms x) name old has
          (all_both (ReadsAsBefore t os ls) (ReadsAsBefore t those ms) old before stand) in
          (stand, subst (λ n. IsSameName t os ls n those ms) (sym found.1) (same_by those ms found.0 found.2.0 found.2.1));
    }

    pub uses_new : (x : Used) (new : List Used) → new ≡ old ++ x ∷ [] → x.name.now ≡ name → ReadsAsBefore t os ls x → ReadAsBefore t os ls old
        → Uses t os ls old new (IsSameName t os ls name)
    uses_new x new added is its before = record {
      before = subst (ReadAsBefore t os ls) (sym added) (all_push (ReadsAsBefore t os ls) old x before its);
      holds = λ those ms stand.
          let parts = all_but_last (ReadsAsBefore t those ms) old x (subst (ReadAsBefore t those ms) added stand) in
          (parts.0, subst (λ n. IsSameName t os ls n those ms) is (same_by those ms x its parts.1));
    }

  -- ---- what is used in parts

  pub uses_none : (old : List Used) (Holds : List Operand → List l.Leaf → Type 0) → ReadAsBefore t os ls old
      → ((those : List Operand) (ms : List l.Leaf) → Holds those ms) → Uses t os ls old old Holds
  uses_none old Holds before holds = record { before = before; holds = λ those ms stand. (stand, holds those ms) }

  pub uses_one : (old new : List Used) (One Holds : List Operand → List l.Leaf → Type 0) → Uses t os ls old new One
      → ((those : List Operand) (ms : List l.Leaf) → One those ms → Holds those ms) → Uses t os ls old new Holds
  uses_one old new One Holds one holds = record {
    before = one.before;
    holds = λ those ms stand. let both = one.holds those ms stand in (both.0, holds those ms both.1);
  }

  pub uses_both : (old now new : List Used) (One Other Holds : List Operand → List l.Leaf → Type 0) → Uses t os ls old now One → Uses t os ls now new Other
      → ((those : List Operand) (ms : List l.Leaf) → One those ms → Other those ms → Holds those ms) → Uses t os ls old new Holds
  uses_both old now new One Other Holds one other holds = record {
    before = other.before;
    holds = λ those ms stand.
        let second = other.holds those ms stand in
        let first = one.holds those ms second.0 in
        (first.0, holds those ms first.1 second.1);
  }

  module _ (those : List Operand) (ms : List l.Leaf) where
    -- by what it is seen as
    same_as : (x : e.Expr) (y : Expression) → expression_of x ≡ y → IsSameValue t os ls y those ms → IsSameValue t os ls (expression_of x) those ms
    same_as x y seen same = subst (λ z. IsSameValue t os ls z those ms) (sym seen) same

    pub name_same : (x : e.Expr) (w : Bor (List ℕ)) → x ≡ e.Name w → IsSameName t os ls w.now those ms → IsSameValue t os ls (expression_of x) those ms
    unfolding expression_value
    name_same x w is same = same_as x (named w.now)
        (ap (λ y. expression_of y) is ∙ ap (λ y. expression_of y) (sym (rolls-Name w)) ∙ fold-roll-Expr Expression expression_step (Expr-F.Name w))
        (λ s. same.1 s)

    pub paren_same : (x inner : e.Expr) (i : Box e.Expr Global) → x ≡ e.Paren i → inner ≡ i.value → IsSameValue t os ls (expression_of inner) those ms
        → IsSameValue t os ls (expression_of x) those ms
    unfolding expression_value
    paren_same x inner i is its same = same_as x (paren (expression_of inner))
        (ap (λ y. expression_of y) is ∙ ap (λ y. expression_of y) (sym (rolls-Paren i)) ∙ fold-roll-Expr Expression expression_step (Expr-F.Paren i)
        ∙ ap (λ y. paren (expression_of y)) (sym its))
        (λ s. same s)

    pub prefix_same : (x inner : e.Expr) (op : PrefixOp) (i : Box e.Expr Global) → x ≡ e.Prefix op i → inner ≡ i.value
        → IsSameValue t os ls (expression_of inner) those ms → IsSameValue t os ls (expression_of x) those ms
    unfolding expression_value
    prefix_same x inner op i is its same = same_as x (prefix op (expression_of inner))
        (ap (λ y. expression_of y) is ∙ ap (λ y. expression_of y) (sym (rolls-Prefix op i)) ∙ fold-roll-Expr Expression expression_step (Expr-F.Prefix op i)
        ∙ ap (λ y. prefix op (expression_of y)) (sym its))
        (λ s. ap (prefixed s.ctor op) (same s))

    pub binary_same : (x left right : e.Expr) (op : BinaryOp) (l r : Box e.Expr Global) → x ≡ e.Binary op l r → left ≡ l.value → right ≡ r.value
        → IsSameValue t os ls (expression_of left) those ms → IsSameValue t os ls (expression_of right) those ms → IsSameValue t os ls (expression_of x) those ms
    unfolding expression_value
    binary_same x left right op l r is one other same alike = same_as x (binary op (expression_of left) (expression_of right))
        (ap (λ y. expression_of y) is ∙ ap (λ y. expression_of y) (sym (rolls-Binary op l r)) ∙ fold-roll-Expr Expression expression_step (Expr-F.Binary op l r)
        ∙ ap (λ y. binary op (expression_of y) (expression_of r.value)) (sym one)
        ∙ ap (λ y. binary op (expression_of left) (expression_of y)) (sym other))
        (λ s. ap (λ v. operated s.ctor op v (expression_value s.ctor (reads t os (leaves_at s.lengths ls) s) (expression_of right))) (same s)
        ∙ ap (operated s.ctor op (expression_value s.ctor (reads t those (leaves_at s.lengths ms) s) (expression_of left))) (alike s))

    -- what has no names
    pub integer_same : (x : e.Expr) (n : ℕ) → x ≡ e.Integer n → IsSameValue t os ls (expression_of x) those ms
    unfolding expression_value
    integer_same x n is = same_as x _
        (ap (λ y. expression_of y) is ∙ ap (λ y. expression_of y) (sym (rolls-Integer n)) ∙ fold-roll-Expr Expression expression_step (Expr-F.Integer n))
        (λ s. refl)

    pub call_same : (x : e.Expr) (w : Bor (List ℕ)) (es : Vec e.Expr Global) → x ≡ e.Call w es → IsSameValue t os ls (expression_of x) those ms
    unfolding expression_value
    call_same x w es is = same_as x _
        (ap (λ y. expression_of y) is ∙ ap (λ y. expression_of y) (sym (rolls-Call w es)) ∙ fold-roll-Expr Expression expression_step (Expr-F.Call w es))
        (λ s. refl)

    pub sized_same : (x : e.Expr) (i : Box e.Expr Global) (n : ℕ) → x ≡ e.Sized i n → IsSameValue t os ls (expression_of x) those ms
    unfolding expression_value
    sized_same x i n is = same_as x _
        (ap (λ y. expression_of y) is ∙ ap (λ y. expression_of y) (sym (rolls-Sized i n)) ∙ fold-roll-Expr Expression expression_step (Expr-F.Sized i n))
        (λ s. refl)

    pub dropped_same : (x : e.Expr) (i : Box e.Expr Global) (n : ℕ) → x ≡ e.Dropped i n → IsSameValue t os ls (expression_of x) those ms
    unfolding expression_value
    dropped_same x i n is = same_as x _
        (ap (λ y. expression_of y) is ∙ ap (λ y. expression_of y) (sym (rolls-Dropped i n)) ∙ fold-roll-Expr Expression expression_step (Expr-F.Dropped i n))
        (λ s. refl)

    pub bits_same : (x : e.Expr) (i : Box e.Expr Global) (low count : ℕ) → x ≡ e.Bits i low count → IsSameValue t os ls (expression_of x) those ms
    unfolding expression_value
    bits_same x i low count is = same_as x _
        (ap (λ y. expression_of y) is ∙ ap (λ y. expression_of y) (sym (rolls-Bits i low count)) ∙ fold-roll-Expr Expression expression_step (Expr-F.Bits i low count))
        (λ s. refl)

    pub star_same : (x : e.Expr) (space : Option (Bor (List ℕ))) (size : Option ℕ) (i : Box e.Expr Global) → x ≡ e.Star space size i
        → IsSameValue t os ls (expression_of x) those ms
    unfolding expression_value
    star_same x space size i is = same_as x _
        (ap (λ y. expression_of y) is ∙ ap (λ y. expression_of y) (sym (rolls-Star space size i)) ∙ fold-roll-Expr Expression expression_step (Expr-F.Star space size i))
        (λ s. refl)

    -- ---- actions

    pub address_same : (x : ad.Address) (w : Bor (List ℕ)) → x ≡ av.Name w → IsSameName t os ls w.now those ms → IsSameAddress t os ls (operand_of_address x) those ms
    address_same x w is same = subst (λ y. IsSameAddress t os ls (operand_of_address y) those ms) (sym is) (λ s. same.1 s)

    set_same : (s : Site) (e : Expression) (f : Option Field) (c : Changed) → IsSameValue t os ls e those ms
        → set_context t os (leaves_at s.lengths ls) s e f c ≡ set_context t those (leaves_at s.lengths ms) s e f c
    set_same s e None c same = refl
    set_same s e (Some f) (changed context notes) same =
        ap (λ r. r >>= λ n. Ok (changed (with_bits f.low (mask_of f) context n) notes)) (same (at_context context s))

    named_same : (s : Site) (e : Expression) (f : Option Field) (c : Own) → IsSameValue t os ls e those ms
        → set_name t os (leaves_at s.lengths ls) s e f c ≡ set_name t those (leaves_at s.lengths ms) s e f c
    named_same s e (Some f) c same = refl
    named_same s e None (own notes values commits) same =
        ap (λ r. r >>= λ n. Ok (own notes (values ++ n ∷ []) commits)) (same (at_values values s))

    note_same : (s : Site) (f : Option Field) (c : Changed)
        → add_note t os (leaves_at s.lengths ls) s f c ≡ add_note t those (leaves_at s.lengths ms) s f c
    note_same s None c = refl
    note_same s (Some f) (changed context notes) = refl

    commit_same : (s : Site) (a : ast.Operand) (f : Option Field) (c : Own) → IsSameAddress t os ls a those ms
        → make_commit t os (leaves_at s.lengths ls) s a f c ≡ make_commit t those (leaves_at s.lengths ms) s a f c
    commit_same s a None c same = refl
    commit_same s a (Some f) (own [] values commits) same = refl
    commit_same s a (Some f) (own (note ∷ notes) values commits) same =
        ap (λ r. r >>= λ n. Ok (own notes values (commits ++ commit_of t note n ∷ []))) (same (at_values values s))

    pub assign_same : (name : Name) (e : Expression) → IsSameName t os ls name those ms → IsSameValue t os ls e those ms
        → IsSameAction t os ls (set name e) those ms
    assign_same name e same value = (
      λ s c. ap (λ m. set_context t os (leaves_at s.lengths ls) s e (context_field t m) c) same.0 ∙ set_same s e (context_field t (kind_of t those name)) c value,
      λ s c. ap (λ m. set_name t os (leaves_at s.lengths ls) s e (context_field t m) c) same.0 ∙ named_same s e (context_field t (kind_of t those name)) c value,
    )

    pub global_same : (name : Name) (a : ast.Operand) → IsSameName t os ls name those ms → IsSameAddress t os ls a those ms
        → IsSameAction t os ls (global_set a name) those ms
    global_same name a same address = (
      λ s c. ap (λ m. add_note t os (leaves_at s.lengths ls) s (context_field t m) c) same.0 ∙ note_same s (context_field t (kind_of t those name)) c,
      λ s c. ap (λ m. make_commit t os (leaves_at s.lengths ls) s a (context_field t m) c) same.0 ∙ commit_same s a (context_field t (kind_of t those name)) c address,
    )
