-- meaning: what the actions of a constructor do at its nodes (SLEIGH manual, "Disassembly Actions
-- Section", "Context Variables" and globalset). Those on context fields, and the notes of
-- `globalset`, come before the operands; action names and addresses of commits come when the whole
-- tree stands.
use Rattle.std.specs.Prelude.{ℕ, ◌+◌, ◌-◌, ◌*◌, ◌%◌, ◌^◌, suc, ℤ, pos, Bool, true, false, not}
use Rattle.std.specs.Prelude.{List, [], ◌∷◌, ◌++◌, Option, None, Some, Result, Ok, bit_and, bit_or}
use Rattle.std.specs.Prelude.{find}
use Rattle.std.specs.Int.{w64, cast_unsigned}
use Rattle.sl_ast.specs.Trees.{Action, set, global_set, Expression, by_name, by_integer}
use Rattle.sl_ast.specs.Trees as ast
use Rattle.sl_spec_operators.specs.Operators.{wrapped}
use Rattle.sl_decode_contexts.specs.declared.commits.Commit.{Commit}
use Rattle.sl_decode_meaning.specs.Kinds.{context_field, kind_of}
use Rattle.sl_decode_meaning.specs.Lookups.{shown}
use Rattle.sl_decode_meaning.specs.Outcomes.{◌>>=◌}
use Rattle.sl_decode_meaning.specs.Places.{Leaf, leaf}
use Rattle.sl_decode_meaning.specs.Values.{Site, expression_value, reads}
use Rattle.sl_decode_meaning.specs.declared.faults.Fault.{Fault}
use Rattle.sl_decode_meaning.specs.declared.kinds.Kind.{Kind}
use Rattle.sl_decode_meaning.specs.declared.kinds.Kind.TheVariants as k
use Rattle.sl_decode_meaning.specs.declared.notes.Noted.{Noted}
use Rattle.sl_spec.specs.Tables.{Field, Name, Operand, Space}
use Rattle.sl_spec.specs.declared.tables.Tables.{Tables}

-- ---- before the operands

-- the context so far, and the notes so far
pub data Changed : Type 0 where
  changed : ℕ → List Noted → Changed

-- the bits of a field in the context
abbrev pub mask_of : Field → ℕ
mask_of f = (2 ^ (suc f.high - f.low) - 1) * 2 ^ f.low

-- the low bits of a number in the place of the bits from `low` on that the mask has
abbrev pub with_bits : ℕ → ℕ → ℕ → ℤ → ℕ
with_bits low mask context n = bit_or (bit_and context (2 ^ 64 - 1 - mask))
    (bit_and (cast_unsigned w64 n * 2 ^ low % 2 ^ 64) mask)

-- the bits as they are
abbrev pub note_of : ℕ → Bool → ℕ → Noted
note_of mask flows context =
    record { mask = mask; value = bit_and context mask; flows = flows }

abbrev pub at_context : ℕ → Site → Site
at_context context s = record s { context = context }

module _ (t : Tables) (os : List Operand) (ls : List Leaf) (s : Site) where
  -- an action on a field of the context gives it the low bits of the value
  abbrev pub set_context : Expression → Option Field → Changed → Result Changed Fault
  set_context e None c = Ok c
  set_context e (Some f) (changed context notes) =
      expression_value s.ctor (reads t os ls (at_context context s)) e
      >>= λ n. Ok (changed (with_bits f.low (mask_of f) context n) notes)

  -- a `globalset` notes its field as it is by then
  abbrev pub add_note : Option Field → Changed → Result Changed Fault
  add_note None c = Ok c
  add_note (Some f) (changed context notes) =
      Ok (changed context (notes ++ note_of (mask_of f) (not f.noflow) context ∷ []))

  abbrev pub act : Action → Changed → Result Changed Fault
  act (set name e) c = set_context e (context_field t (kind_of t os name)) c
  act (global_set address name) c = add_note (context_field t (kind_of t os name)) c

-- ---- when the whole tree stands

-- the notes that are left, the values of action names so far, and all commits so far
pub data Own : Type 0 where
  own : List Noted → List ℤ → List Commit → Own

abbrev pub at_values : List ℤ → Site → Site
at_values values s = record s { values = values }

-- the bytes of an address of the default space
abbrev pub size_or_all : Option Space → ℕ
size_or_all None = 8
size_or_all (Some space) = space.size

abbrev pub address_bytes : Tables → ℕ
address_bytes t = size_or_all (find (λ s. s.default) t.spaces)

-- an address of the default space
abbrev pub address_in : Tables → ℕ → ℕ
address_in t n = n % 256 ^ address_bytes t

abbrev pub commit_of : Tables → Noted → ℤ → Commit
commit_of t note n = record {
  address = address_in t (cast_unsigned w64 n);
  mask = note.mask;
  value = note.value;
  flows = note.flows;
}

-- a bare field that something is attached to is looked up at its place
abbrev pub look_kind : Tables → Site → ℕ → Kind → Own → Result Own Fault
look_kind t s at (k.Field id) c = shown t id s.bytes (s.at + at) s.context >>= λ found. Ok c
look_kind t s at (k.Table id) c = Ok c
look_kind t s at (k.Action n) c = Ok c
look_kind t s at k.Start c = Ok c
look_kind t s at k.Next c = Ok c
look_kind t s at k.Nothing c = Ok c

abbrev pub look : Tables → List Operand → Site → Leaf → Own → Result Own Fault
look t os s (leaf name true at) c = look_kind t s at (kind_of t os name) c
look t os s (leaf name false at) c = Ok c

abbrev pub address_value : (Name → Result ℤ Fault) → ast.Operand → Result ℤ Fault
address_value names (by_name name) = names name
address_value names (by_integer n) = Ok (wrapped (pos n))

module _ (t : Tables) (os : List Operand) (ls : List Leaf) (s : Site) where
  -- an action name gets its value
  abbrev pub set_name : Expression → Option Field → Own → Result Own Fault
  set_name e (Some f) c = Ok c
  set_name e None (own notes values commits) =
      expression_value s.ctor (reads t os ls (at_values values s)) e
      >>= λ n. Ok (own notes (values ++ n ∷ []) commits)

  -- a `globalset` commits what it noted
  abbrev pub make_commit : ast.Operand → Option Field → Own → Result Own Fault
  make_commit address None c = Ok c
  make_commit address (Some f) (own [] values commits) = Ok (own [] values commits)
  make_commit address (Some f) (own (note ∷ notes) values commits) =
      address_value (reads t os ls (at_values values s)) address
      >>= λ n. Ok (own notes values (commits ++ commit_of t note n ∷ []))

  abbrev pub tell : Action → Own → Result Own Fault
  tell (set name e) c = set_name e (context_field t (kind_of t os name)) c
  tell (global_set address name) c = make_commit address (context_field t (kind_of t os name)) c
