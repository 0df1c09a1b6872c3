-- What is done at a node is the same over bytes that are the same as far as its fields lie.
use Rattle.std.proofs.Common.{◌≡◌, ℕ, ◌+◌, ◌/◌, ◌≤◌, ℤ, Bool, true, false, cond, List, [], ◌∷◌}
use Rattle.std.proofs.Common.{◌++◌, take, drop, length, Option, Some, None, Result, Ok, refl, sym}
use Rattle.std.proofs.Common.{ap, subst, arith}
use Rattle.std.specs.Prelude.{slice_get}
use Rattle.std.proofs.Math.Path.{fun_ext}
use Rattle.sl_ast.specs.Trees.{Action, Expression, set, global_set}
use Rattle.sl_ast.specs.Trees as ast
use Rattle.sl_decode_meaning.specs.Actions.{Changed, Own, act, add_note, address_value, at_context}
use Rattle.sl_decode_meaning.specs.Actions.{at_values, changed, commit_of, look, look_kind, make_commit}
use Rattle.sl_decode_meaning.specs.Actions.{mask_of, own, set_context, set_name, tell, with_bits}
use Rattle.sl_decode_meaning.specs.Kinds.{context_field, kind_of}
use Rattle.sl_decode_meaning.specs.Lookups.{given, given_by, given_if, is_whole, number_at, shown}
use Rattle.sl_decode_meaning.specs.Lookups.{shown_by, shown_if}
use Rattle.sl_decode_meaning.specs.Outcomes.{◌>>=◌, in_turn}
use Rattle.sl_decode_meaning.specs.Places.{Leaf, covers, first_place, leaf, or_start}
use Rattle.sl_decode_meaning.specs.Values.{Site, expression_value, reads, reads_kind}
use Rattle.sl_decode_meaning.specs.declared.faults.Fault.{Fault}
use Rattle.sl_decode_meaning.specs.declared.kinds.Kind.{Kind}
use Rattle.sl_decode_meaning.specs.declared.kinds.Kind.TheVariants as k
use Rattle.sl_faithful_reach.proofs.LeafLemmas.{EndWithin}
use Rattle.sl_faithful_reach.proofs.OutcomeLemmas.{then_alike}
use Rattle.sl_faithful_reach.proofs.WindowLemmas.{reaches, window}
use Rattle.sl_faithful_reach.specs.DecodeLaws.{TokensAreShort}
use Rattle.sl_spec.specs.FieldValues.{number_in, token_integer, token_of}
use Rattle.sl_spec.specs.Tables.{Field, Name, Operand, Token}
use Rattle.sl_spec.specs.declared.tables.Tables.{Tables}
use Rattle.sl_spec_tables.specs.Lengths.{field_bytes, token_bytes}

-- ---- tokens

token_short : (tokens : List Token)
    → ((i : ℕ) (token : Token) → slice_get tokens i ≡ Some token → token.bits ≤ 64)
    → (i : ℕ) (found : Option Token) → slice_get tokens i ≡ found → token_bytes found ≤ 16
token_short tokens short i None is = omega arith
token_short tokens short i (Some token) is = let few = short i token is in omega arith

module _ (t : Tables) (short : TokensAreShort t) where
  token_fits : (f : Field) (id : Option ℕ) → f.token ≡ id → token_bytes (token_of t.tokens f) ≤ 16
  token_fits f None is = subst
      (λ id. token_bytes (token_of t.tokens (record f { token = id })) ≤ 16) (sym is) (omega arith)
  token_fits f (Some i) is = subst
      (λ id. token_bytes (token_of t.tokens (record f { token = id })) ≤ 16) (sym is)
      (token_short t.tokens short i (slice_get t.tokens i) refl)

  pub field_fits : (found : Option Field) → field_bytes t found ≤ 16
  field_fits None = omega arith
  field_fits (Some f) = token_fits f f.token refl

-- ---- sites

-- the same site over these bytes
abbrev pub over : List ℕ → Site → Site
over bytes s = record s { bytes = bytes }

-- Each field that is read at a site ends within the first n bytes.
abbrev pub Sees : Tables → ℕ → List Operand → List Leaf → Site → Type 0
Sees t n os ls s = (name : Name) (id : ℕ) → kind_of t os name ≡ k.Field id
    → s.at + or_start (first_place name ls) + field_bytes t (slice_get t.fields id) ≤ n

module _ (t : Tables) (n : ℕ) (one other : List ℕ) (alike : take n one ≡ take n other) where
  -- ---- fields

  pub number_alike : (f : Field) (at context : ℕ) → at + token_bytes (token_of t.tokens f) ≤ n
      → number_at t f one at context ≡ number_at t f other at context
  number_alike f at context within = by (token_of t.tokens f) within
    where
      by : (token : Option Token) → at + token_bytes token ≤ n
          → cond (is_whole token at (length one)) (number_in token (drop at one) context) 0
          ≡ cond (is_whole token at (length other)) (number_in token (drop at other) context) 0
      by None within = refl
      by (Some token) within = λ i. cond (reaches n one other alike (at + token.bits / 8) within i)
          (token_integer token.endian (window n one other alike at (token.bits / 8) within i)) 0

  given_alike : (id at context : ℕ) → at + field_bytes t (slice_get t.fields id) ≤ n
      → given t id one at context ≡ given t id other at context
  given_alike id at context within = by (slice_get t.fields id) within
    where
      by : (found : Option Field) → at + field_bytes t found ≤ n
          → given_if t id found one at context ≡ given_if t id found other at context
      by None within = refl
      by (Some f) within = ap (given_by t id f) (number_alike f at context within)

  shown_alike : (id at context : ℕ) → at + field_bytes t (slice_get t.fields id) ≤ n
      → shown t id one at context ≡ shown t id other at context
  shown_alike id at context within = by (slice_get t.fields id) within
    where
      by : (found : Option Field) → at + field_bytes t found ≤ n
          → shown_if t id found one at context ≡ shown_if t id found other at context
      by None within = refl
      by (Some f) within = ap (shown_by t id f) (number_alike f at context within)

  -- ---- actions

  module _ (os : List Operand) (ls : List Leaf) (s : Site) (sees : Sees t n os ls s) where
    reads_alike : (context : ℕ) (values : List ℤ) (name : Name)
        → reads t os ls (over one (at_values values (at_context context s))) name
        ≡ reads t os ls (over other (at_values values (at_context context s))) name
    reads_alike context values name = by (kind_of t os name) refl
      where
        by : (kind : Kind) → kind_of t os name ≡ kind
            → reads_kind t ls (over one (at_values values (at_context context s))) name kind
            ≡ reads_kind t ls (over other (at_values values (at_context context s))) name kind
        by (k.Field id) is = given_alike id (s.at + or_start (first_place name ls)) context
            (sees name id is)
        by (k.Table id) is = refl
        by (k.Action i) is = refl
        by k.Start is = refl
        by k.Next is = refl
        by k.Nothing is = refl

    abbrev names : List ℕ → ℕ → List ℤ → Name → Result ℤ Fault
    names bytes context values name =
        reads t os ls (over bytes (at_values values (at_context context s))) name

    names_alike : (context : ℕ) (values : List ℤ)
        → names one context values ≡ names other context values
    names_alike context values = fun_ext (reads_alike context values)

    value_alike : (context : ℕ) (values : List ℤ) (e : Expression)
        → expression_value s.ctor (names one context values) e
        ≡ expression_value s.ctor (names other context values) e
    value_alike context values e =
        ap (λ names. expression_value s.ctor names e) (names_alike context values)

    set_alike : (e : Expression) (f : Option Field) (c : Changed)
        → set_context t os ls (over one s) e f c ≡ set_context t os ls (over other s) e f c
    set_alike e None c = refl
    set_alike e (Some f) (changed context notes) =
        ap (λ r. r >>= λ n. Ok (changed (with_bits f.low (mask_of f) context n) notes))
        (value_alike context s.values e)

    note_alike : (f : Option Field) (c : Changed)
        → add_note t os ls (over one s) f c ≡ add_note t os ls (over other s) f c
    note_alike None c = refl
    note_alike (Some f) (changed context notes) = refl

    act_alike : (a : Action) (c : Changed)
        → act t os ls (over one s) a c ≡ act t os ls (over other s) a c
    act_alike (set name e) c = set_alike e (context_field t (kind_of t os name)) c
    act_alike (global_set address name) c = note_alike (context_field t (kind_of t os name)) c

    pub acts_alike : (as' : List Action) (c : Changed)
        → in_turn (act t os ls (over one s)) as' c ≡ in_turn (act t os ls (over other s)) as' c
    acts_alike as' c = ap (λ step. in_turn step as' c)
        (fun_ext (λ a. fun_ext (λ c. act_alike a c)))

    name_alike : (e : Expression) (f : Option Field) (c : Own)
        → set_name t os ls (over one s) e f c ≡ set_name t os ls (over other s) e f c
    name_alike e (Some f) c = refl
    name_alike e None (own notes values commits) =
        ap (λ r. r >>= λ n. Ok (own notes (values ++ n ∷ []) commits))
        (value_alike s.context values e)

    commit_alike : (address : ast.Operand) (f : Option Field) (c : Own)
        → make_commit t os ls (over one s) address f c
        ≡ make_commit t os ls (over other s) address f c
    commit_alike address None c = refl
    commit_alike address (Some f) (own [] values commits) = refl
    commit_alike address (Some f) (own (note ∷ notes) values commits) =
        ap (λ names. address_value names address
        >>= λ n. Ok (own notes values (commits ++ commit_of t note n ∷ [])))
        (names_alike s.context values)

    tell_alike : (a : Action) (c : Own)
        → tell t os ls (over one s) a c ≡ tell t os ls (over other s) a c
    tell_alike (set name e) c = name_alike e (context_field t (kind_of t os name)) c
    tell_alike (global_set address name) c =
        commit_alike address (context_field t (kind_of t os name)) c

    pub tells_alike : (as' : List Action) (c : Own)
        → in_turn (tell t os ls (over one s)) as' c ≡ in_turn (tell t os ls (over other s)) as' c
    tells_alike as' c = ap (λ step. in_turn step as' c)
        (fun_ext (λ a. fun_ext (λ c. tell_alike a c)))

  -- ---- look-ups

  module _ (os : List Operand) (s : Site) (length : Name → ℕ) (bound : ℕ)
      (within : s.at + bound ≤ n) where
    look_alike : (name : Name) (alone : Bool) (at : ℕ) (c : Own) (kind : Kind)
        → kind_of t os name ≡ kind
        → EndWithin t os length bound (leaf name alone at ∷ [])
        → look_kind t (over one s) at kind c ≡ look_kind t (over other s) at kind c
    look_alike name alone at c (k.Field id) is ends =
        let e = ends.0 in
        let covered : covers t (kind_of t os name) (length name)
        ≡ field_bytes t (slice_get t.fields id) =
        ap (λ kind. covers t kind (length name)) is in
        ap (λ r. r >>= λ found. Ok c) (shown_alike id (s.at + at) s.context (omega arith))
    look_alike name alone at c (k.Table id) is ends = refl
    look_alike name alone at c (k.Action i) is ends = refl
    look_alike name alone at c k.Start is ends = refl
    look_alike name alone at c k.Next is ends = refl
    look_alike name alone at c k.Nothing is ends = refl

    pub looks_alike : (ls : List Leaf) (c : Own) → EndWithin t os length bound ls
        → in_turn (look t os (over one s)) ls c ≡ in_turn (look t os (over other s)) ls c
    looks_alike [] c ends = refl
    looks_alike (leaf name true at ∷ ls) c ends =
        then_alike (look t os (over one s) (leaf name true at) c)
        (look t os (over other s) (leaf name true at) c)
        (in_turn (look t os (over one s)) ls) (in_turn (look t os (over other s)) ls)
        (look_alike name true at c (kind_of t os name) refl (ends.0, tt))
        (λ c. looks_alike ls c ends.1)
    looks_alike (leaf name false at ∷ ls) c ends = looks_alike ls c ends.1
