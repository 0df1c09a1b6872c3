-- Each node of a decoded instruction is given what its operands count on.
use Rattle.std.proofs.Common.{◌≡◌, ℕ, ◌+◌, List, [], ◌∷◌, length, Option, Some, None, Result, Ok, refl, sym, ap, subst, ◌∙◌}
use Rattle.std.specs.Prelude.{IfOk, slice_get}
use Rattle.sl_ast.specs.Trees.{Constructor}
use Rattle.sl_ast.specs.Unfolding.{Placed, written}
use Rattle.sl_decode_contexts.specs.declared.commits.Commit.{Commit}
use Rattle.sl_decode_meaning.specs.Actions.{Own, address_in, own}
use Rattle.sl_decode_meaning.specs.Decoding.{Decoded, Ended, Input, commits_in, commits_of, decoded, decoded_of, ended, finish, finish_node, grow, read, site_at, trees_of, values_in}
use Rattle.sl_decode_meaning.specs.Kinds.{operand_kind, kind_by, kind_of}
use Rattle.sl_decode_meaning.specs.Laws.{input}
use Rattle.sl_decode_meaning.specs.Choices.{Choice}
use Rattle.sl_decode_meaning.specs.Meanings.{Meaning, leaves_by, said_by, says}
use Rattle.sl_decode_meaning.specs.Outcomes.{◌>>=◌, or_fault}
use Rattle.sl_decode_meaning.specs.Places.{Leaf, bare_place, length_of}
use Rattle.sl_decode_meaning.specs.Trees as begun
use Rattle.sl_decode_meaning.specs.Trees.{Begun, Node, Trees, none, tree, with_values}
use Rattle.sl_decode_meaning.specs.Values.{Site}
use Rattle.sl_decode_meaning.specs.declared.faults.Fault.{Fault}
use Rattle.sl_decode_meaning.specs.declared.kinds.Kind.TheVariants as k
use Rattle.sl_decode_meaning.specs.declared.faults.Fault.TheVariants.{NoConstructor}
use Rattle.sl_faithful_places.specs.Defined.{AreDefined}
use Rattle.sl_faithful_accepted.proofs.LookLemmas.{IsShown, has_leaf, late_shown}
use Rattle.sl_faithful_accepted.proofs.NumberLemmas.{AllFit, late_fits}
use Rattle.sl_faithful_accepted.proofs.OperandLemmas.{WasRead, operands_given}
use Rattle.sl_faithful_accepted.specs.OperandLaws.{DecodesAreGiven}
use Rattle.sl_faithful_accepted.specs.Reading.{AreRead, IsRead}
use Rattle.sl_meaning_instruction.specs.Instructions.{Specification, given_at, lengths_of, setting_of}
use Rattle.sl_meaning_instruction.specs.Operands.{given_by}
use Rattle.sl_decode_lengths.proofs.GrowLemmas.{then_any, then_ok}
use Rattle.sl_meaning_sections.specs.References.{Setting}
use Rattle.sl_spec.specs.Named.{index_named}
use Rattle.sl_spec.specs.Tables.{Ctor, Operand}
use Rattle.sl_spec.specs.declared.constructors.Means.TheVariants as means
use Rattle.sl_faithful_instructions.specs.Sound.{AllGiven, AreGiven, Uses, kinds_of}

holds_of : {A : Type 0} (r : Result A Fault) (x : A) (P : A → Type 0) → r ≡ Ok x → IfOk r P → P x
holds_of r x P is holds = subst (λ (r : Result _ Fault). IfOk r P) is holds

-- ---- a node

module _ (s : Specification) (u : Uses) (i : Input) (defined : AreDefined s.tables)
    (are : AreRead s.tables s.constructors) (after : ℕ) where
  abbrev setting : Setting
  setting = setting_of s.tables i.address after

  module _ (n : Begun) (lengths : List ℕ) (next : ℕ) (commits : List Commit) (done : Own) where
    abbrev its : Node
    its = with_values n (values_in done)

    abbrev site : Site
    site = site_at i n.ctor n.at lengths n.context next

    abbrev Late : Option Meaning → Type 0
    Late m = (or_fault (NoConstructor n.ctor n.at) m >>= λ m. m.late site (own n.notes [] commits)) ≡ Ok done

    module _ (c : Ctor) (placed : Placed Constructor) where
      abbrev names : List Leaf
      names = leaves_by s.tables c.operands placed.1.pattern lengths

      abbrev IsDone : Type 0
      IsDone = Late (said_by s.tables (Some c) (Some placed))

      -- an operand that is a field
      was_read : (id : ℕ) (o : Operand) → IsRead s.tables.fields c.operands placed.1.pattern o id
          → o.means ≡ means.Field id → IsDone → WasRead s.tables i.bytes its names o id
      was_read id o r is late =
          let kind : kind_of s.tables c.operands o.name ≡ k.Field id =
          ap (λ found. kind_by found (index_named (λ f. f.name) o.name s.tables.fields) o.name) r.meant
          ∙ ap operand_kind is in
          let alone = has_leaf s.tables c.operands (length_of c.operands lengths) 0 o.name placed.1.pattern r.alone in
          let found = late_shown s.tables c.operands site o.name id kind names
          (written placed.1.actions) (own n.notes [] commits) alone in (
            r.field,
            r.there,
            holds_of _ done (λ done. IsShown s.tables c.operands site o.name id kind
                (bare_place o.name names)) late found,
          )

      written_given : slice_get s.tables.constructors n.ctor ≡ Some c → slice_get s.constructors n.ctor ≡ Some placed
          → IsDone → AreGiven setting (given_by s.tables i.bytes its (Some c) (Some placed) lengths)
          (kinds_of s.tables u c)
      written_given there beside late =
          let fit = late_fits s.tables are.numbers c.operands names site
          (written placed.1.actions) (own n.notes [] commits) tt in
          operands_given s.tables i.address after defined are.numbers i.bytes u its
          (holds_of _ done (λ done. AllFit (values_in done)) late fit) names c.operands
          (λ place id o at is. was_read id o (are.operands n.ctor c placed there beside place id o at is) is late)

    by_constructor : (o : Option Ctor) (w : Option (Placed Constructor)) → slice_get s.tables.constructors n.ctor ≡ o
        → slice_get s.constructors n.ctor ≡ w
        → Late (said_by s.tables o w) → (c : Ctor) → o ≡ Some c
        → AreGiven setting (given_by s.tables i.bytes its o w lengths) (kinds_of s.tables u c)
    by_constructor None w there beside late c is = absurd (let no : ⊥ = cc in no)
    by_constructor (Some b) None there beside late c is = absurd (let no : ⊥ = cc in no)
    by_constructor (Some b) (Some placed) there beside late c is =
        let same : b ≡ c = cc in
        subst (λ (c : Ctor). AreGiven setting (given_by s.tables i.bytes its (Some b) (Some placed) lengths)
        (kinds_of s.tables u c)) same
        (written_given b placed there beside late)

    node_given : Late (says s.tables s.constructors n.ctor) → (c : Ctor)
        → slice_get s.tables.constructors n.ctor ≡ Some c
        → AreGiven setting (given_at s i.bytes its lengths) (kinds_of s.tables u c)
    node_given late c is =
        by_constructor (slice_get s.tables.constructors n.ctor) (slice_get s.constructors n.ctor) refl refl late c is

-- ---- trees

abbrev known_of : Specification → Choice → List ℕ → ℕ → Input
known_of s choose bytes address = input choose (says s.tables s.constructors) bytes address

abbrev WholeIsGiven : Specification → Uses → List ℕ → ℕ → Decoded → Type 0
WholeIsGiven s u bytes address d = AllGiven s u (setting_of s.tables address d.after) bytes d.tree

module _ (s : Specification) (u : Uses) (choose : Choice) (bytes : List ℕ) (address : ℕ)
    (defined : AreDefined s.tables) (are : AreRead s.tables s.constructors) where
  abbrev known : Input
  known = known_of s choose bytes address

  module _ (next after : ℕ) where
    -- Trees are given what they count on, and have the lengths of those that they were.
    abbrev IsGiven : Trees Begun → Ended → Type 0
    IsGiven f e = AllGiven s u (setting_of s.tables address after) bytes
        (trees_of e) × (lengths_of (trees_of e) ≡ begun.lengths_of f)

    its_kinds : (n : Begun) (below : Trees Begun) (commits : List Commit) (done : Own) (lengths : List ℕ)
        → finish_node known next n (begun.lengths_of below) commits ≡ Ok done → lengths ≡ begun.lengths_of below
        → (c : Ctor) → slice_get s.tables.constructors n.ctor ≡ Some c
        → AreGiven (setting_of s.tables address after) (given_at s bytes (with_values n (values_in done)) lengths)
        (kinds_of s.tables u c)
    its_kinds n below commits done lengths late same c is =
        subst (λ (lengths : List ℕ). AreGiven (setting_of s.tables address after)
        (given_at s bytes (with_values n (values_in done)) lengths) (kinds_of s.tables u c)) (sym same)
        (node_given s u known defined are after n (begun.lengths_of below) next commits done late c is)

    finished_given : (f : Trees Begun) (commits : List Commit) → IfOk (finish known next f commits) (IsGiven f)
    unfolding finish
    finished_given none commits = (tt, refl)
    finished_given (tree n below behind) commits =
        let whole = tree n below behind in
        then_any (finish_node known next n (begun.lengths_of below) commits) _ (IsGiven whole) (λ done late.
        then_ok (finish known next below (commits_in done)) _ (IsGiven below) (IsGiven whole)
        (finished_given below (commits_in done)) (λ first under.
        then_ok (finish known next behind (commits_of first)) _ (IsGiven behind) (IsGiven whole)
        (finished_given behind (commits_of first)) (λ others beside.
        let own = its_kinds n below commits done (lengths_of (trees_of first)) late under.1 in
        ((own, under.0, beside.0), ap (λ (l : List ℕ). n.length ∷ l) beside.1))))

  abbrev Whole : Decoded → Type 0
  Whole d = WholeIsGiven s u bytes address d

  ended_given : (length after : ℕ) (e : Ended) → AllGiven s u (setting_of s.tables address after) bytes (trees_of e)
      → Whole (decoded_of length after e)
  ended_given length after (ended trees commits) given = given

  read_given : (context : ℕ) → IfOk (read s.tables known context) Whole
  read_given context = then_any (grow known (length s.tables.tables) 0 0 context) _ Whole (λ root grown.
      let after = address_in s.tables (address + root.node.length) in
      let whole = tree root.node root.below none in
      then_ok (finish known after whole []) _ (IsGiven after after whole) Whole (finished_given after after whole [])
      (λ all given. ended_given root.node.length after all given.0))

pub decodes_are_given : DecodesAreGiven
unfolding decoded
decodes_are_given s u choose bytes address context d defined are is =
    holds_of (read s.tables (known_of s choose bytes address) context) d (WholeIsGiven s u bytes address) is
    (read_given s u choose bytes address defined are context)
