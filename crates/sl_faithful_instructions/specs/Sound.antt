-- law: what is known of the constructors of a specification before anything is decoded, and of
-- a tree that is decoded by it.
use Rattle.std.specs.Prelude.{◌≡◌, ℕ, ⊤, Bool, false, List, [], ◌∷◌, ◌++◌, map}
use Rattle.std.specs.Prelude.{Option, Some, None, slice_get}
use Rattle.sl_faithful_code.specs.Fitting.{IsNumber}
use Rattle.sl_decode_meaning.specs.Trees.{Node, Trees, none, tree}
use Rattle.sl_faithful_keeping.specs.Keeping.{ExportsAs, IsRegister, SectionKeeps}
use Rattle.sl_faithful_keeping.specs.Kinds.{Kind, attached, table, value}
use Rattle.sl_meaning_instruction.specs.Instructions.{Specification, given_at, is_unimpl_by, lengths_of}
use Rattle.sl_meaning_instruction.specs.Instructions.{section_by}
use Rattle.sl_meaning_sections.specs.Nodes.{Section}
use Rattle.sl_meaning_sections.specs.References.{Reference, Setting}
use Rattle.sl_section_terms.specs.Scopes.{attached_size}
use Rattle.sl_spec.specs.Tables.{Ctor}
use Rattle.sl_spec.specs.declared.constructors.Means.{Means}
use Rattle.sl_spec.specs.declared.constructors.Means.TheVariants as means
use Rattle.sl_spec.specs.declared.tables.Tables.{Tables}
use Rattle.sl_faithful_instructions.specs.Counted.{total}
use Rattle.sl_faithful_formed.specs.Lengths.{steps_parts}

-- ---- constructors

-- Of each table the size of what it exports, whether its exports may be jumped to, and whether they
-- may be assigned.
pub record Uses : Type 0 where
  pub size : ℕ → Option ℕ
  pub target : ℕ → Bool
  pub assigned : ℕ → Bool

-- a field is a number where no registers are attached to it
abbrev pub field_kind : (size : Option ℕ) → Kind
field_kind None = value
field_kind (Some n) = attached n

module _ (t : Tables) (u : Uses) where
  abbrev pub kind_of : Means → Kind
  kind_of (means.Table id) = table (u.size id) (u.target id) (u.assigned id)
  kind_of (means.Field id) = field_kind (attached_size t id)
  kind_of (means.Action k) = value

  -- the kinds of a constructor's operands
  abbrev pub kinds_of : Ctor → List Kind
  kinds_of c = map kind_of (map (λ o. o.means) c.operands)

abbrev pub section_of : Specification → ℕ → Section
section_of s number = section_by s.sections s.sizes number

-- The section of a constructor that isn't `unimpl` keeps the rules, by the kinds of its operands,
-- and exports what is known of its table.
pub record ConstructorKeeps (s : Specification) (u : Uses) (g : Setting)
    (number : ℕ) (c : Ctor) : Type 0 where
  pub keeps : SectionKeeps g (kinds_of s.tables u c) (section_of s number)
  pub exports : ExportsAs (kinds_of s.tables u c) (section_of s number) (u.size c.table)
      (u.target c.table) (u.assigned c.table)

abbrev pub IsSound : Specification → Uses → Setting → Type 0
IsSound s u g = (number : ℕ) (c : Ctor) → slice_get s.tables.constructors number ≡ Some c
    → is_unimpl_by (slice_get s.constructors number) ≡ false → ConstructorKeeps s u g number c

-- ---- trees

-- What is given to a node is of these kinds: a register of the size, a number, and nothing for a
-- table, which has a node of its own.
abbrev pub AreGiven : Setting → List (Option Reference) → List Kind → Type 0
AreGiven g [] [] = ⊤
AreGiven g (None ∷ rs) (table size target assigned ∷ kinds) = AreGiven g rs kinds
AreGiven g (Some r ∷ rs) (attached n ∷ kinds) = IsRegister g r n × AreGiven g rs kinds
AreGiven g (Some r ∷ rs) (value ∷ kinds) = IsNumber r × AreGiven g rs kinds
AreGiven g _ _ = ⊥

module _ (s : Specification) (u : Uses) (g : Setting) (bytes : List ℕ) where
  -- Each node is given what the operands of its constructor count on.
  abbrev pub AllGiven : Trees Node → Type 0
  AllGiven none = ⊤
  AllGiven (tree n below behind) = ((c : Ctor) → slice_get s.tables.constructors n.ctor ≡ Some c
      → AreGiven g (given_at s bytes n (lengths_of below)) (kinds_of s.tables u c))
      × AllGiven below × AllGiven behind

-- the constructors of trees, in the order in which nodes are numbered
abbrev pub constructors_in : Trees Node → List ℕ
constructors_in none = []
constructors_in (tree n below behind) =
    n.ctor ∷ (constructors_in below ++ constructors_in behind)

-- how many parts the sections of all nodes have
abbrev pub parts_in : Specification → Trees Node → ℕ
parts_in s f = total (λ number. steps_parts (section_of s number).steps) f
