-- The trees below a decoded node are those of its operands that are tables.
use Rattle.std.proofs.Common.{◌≡◌, ℕ, zero, suc, ◌+◌, List, [], ◌∷◌, ◌++◌, length, map, refl, sym, ap, subst, ◌∙◌, arith, Option, None, Some, Ok, Err}
use Rattle.std.specs.Prelude.{⊤, Result, option_and_then, slice_get}
use Rattle.std.proofs.lemmas.List.{length-map}
use Rattle.sl_ast.specs.Trees.{Constructor}
use Rattle.sl_ast.specs.Unfolding.{Placed}
use Rattle.sl_decode_contexts.specs.declared.commits.Commit.{Commit}
use Rattle.sl_cube.specs.declared.Point.{Point}
use Rattle.sl_decode_meaning.specs.Actions.{Changed, Own, changed}
use Rattle.sl_decode_meaning.specs.Decoding.{Chosen, Decoded, Ended, Grove, Grown, Grower, Input, chosen, chosen_at, commits_in, commits_of, decoded, decoded_of, ended, finish, finish_node, grow, opened, operands, point_at, read, trees_of, values_in, with_meaning, with_operands}
use Rattle.sl_decode_meaning.specs.Meanings.{Meaning, Slot, said_by, says, slot, slot_of}
use Rattle.sl_decode_meaning.specs.Outcomes.{◌>>=◌, or_fault}
use Rattle.sl_decode_meaning.specs.Places.{table_operands}
use Rattle.sl_decode_meaning.specs.Trees.{Begun, Node, Trees, lengths_of, none, tree, with_values}
use Rattle.sl_decode_meaning.specs.declared.faults.Fault.{Fault}
use Rattle.sl_decode_meaning.specs.declared.faults.Fault.TheVariants.{NoConstructor}
use Rattle.sl_meaning_instruction.specs.Laws.{AreTablesOf, DecodesHaveTables, HaveTables, roots}
use Rattle.sl_spec.specs.Tables.{Ctor}
use Rattle.sl_spec.specs.declared.tables.Tables.{Tables}

-- what a moment gives, and then the next one does
then_some : {A B : Type 0} (r : Result A Fault) (f : A → Result B Fault) (b : B) → (r >>= f) ≡ Ok b → (a : A) × (r ≡ Ok a) × (f a ≡ Ok b)
then_some (Ok a) f b e = (a, refl, e)
then_some (Err fault) f b e = absurd (let no : ⊥ = cc in no)

found : {A : Type 0} (fault : Fault) (o : Option A) (a : A) → or_fault fault o ≡ Ok a → o ≡ Some a
found fault (Some x) a e = let h : x ≡ a = cc in ap Some h
found fault None a e = absurd (let no : ⊥ = cc in no)

inside : {A : Type 0} (x a : A) → Some x ≡ Some a → x ≡ a
inside x a e = cc

is_it : {A : Type 0} (x a : A) (r : Result A Fault) → r ≡ Ok x → r ≡ Ok a → x ≡ a
is_it x a r p q = cc

module _ (i : Input) where
  -- There are as many trees as the constructor has slots.
  record HasSlots (ctor nodes : ℕ) : Type 0 where
    meaning : Meaning
    is : i.says ctor ≡ Some meaning
    many : nodes ≡ length meaning.slots

  abbrev HaveSlots : Trees Begun → Type 0
  HaveSlots none = ⊤
  HaveSlots (tree n below behind) = HasSlots n.ctor (roots below) × HaveSlots below × HaveSlots behind

  abbrev HaveAll : Trees Node → Type 0
  HaveAll none = ⊤
  HaveAll (tree n below behind) = HasSlots n.ctor (roots below) × HaveAll below × HaveAll behind

  -- ---- the tree as it grows

  abbrev Grows : Grower → Type 0
  Grows grower = (table at context : ℕ) (g : Grown) → grower table at context ≡ Ok g → HasSlots g.node.ctor (roots g.below) × HaveSlots g.below

  all_operands : (grower : Grower) → Grows grower → (slots : List Slot) (at : ℕ) (lengths : List ℕ) (context : ℕ) (g : Grove)
      → operands grower slots at lengths context ≡ Ok g → (roots g.trees ≡ length slots) × HaveSlots g.trees
  all_operands grower grows [] at lengths context g e =
      let same : record { lengths = lengths; trees = none; after = context } ≡ g = cc in
      subst (λ (h : Grove). (roots h.trees ≡ 0) × HaveSlots h.trees) same (refl, tt)
  all_operands grower grows (slot table place ∷ slots) at lengths context g e =
      let first = then_some (grower table (at + place lengths) context) _ g e in
      let others = then_some (operands grower slots at (lengths ++ first.0.node.length ∷ []) first.0.after) _ g first.2 in
      let one = grows table (at + place lengths) context first.0 first.1 in
      let more = all_operands grower grows slots at (lengths ++ first.0.node.length ∷ []) first.0.after others.0 others.1 in
      let same : record { lengths = others.0.lengths; trees = tree first.0.node first.0.below others.0.trees; after = others.0.after } ≡ g = is_it _ _ _ refl others.2 in
      subst (λ (h : Grove). (roots h.trees ≡ suc (length slots)) × HaveSlots h.trees) same
      (omega (arith, more.0), (one.0, one.1, more.1))

  means : (ctor : ℕ) (o : Option Meaning) (c : ℕ) (m : Meaning) → i.says ctor ≡ o → with_meaning ctor o ≡ Some (chosen c m) → i.says c ≡ Some m
  means ctor None c m says e = absurd (let no : ⊥ = cc in no)
  means ctor (Some n) c m says e =
      let same : ctor ≡ c = cc in
      let said : n ≡ m = cc in
      ap i.says (sym same) ∙ says ∙ ap Some said

  is_chosen : (o : Option ℕ) (c : ℕ) (m : Meaning) → option_and_then (λ ctor. with_meaning ctor (i.says ctor)) o ≡ Some (chosen c m) → i.says c ≡ Some m
  is_chosen None c m e = absurd (let no : ⊥ = cc in no)
  is_chosen (Some ctor) c m e = means ctor (i.says ctor) c m refl e

  after_early : (grower : Grower) → Grows grower → (ctor at : ℕ) (m : Meaning) → i.says ctor ≡ Some m → (x : Changed) (g : Grown) → with_operands grower ctor at m x ≡ Ok g
      → HasSlots g.node.ctor (roots g.below) × HaveSlots g.below
  after_early grower grows ctor at m says (changed context notes) g e =
      let below = then_some (operands grower m.slots at [] context) _ g e in
      let all = all_operands grower grows m.slots at [] context below.0 below.1 in
      let same = is_it _ g _ refl below.2 in
      subst (λ (h : Grown). HasSlots h.node.ctor (roots h.below) × HaveSlots h.below) same
      (record { meaning = m; is = says; many = all.0 }, all.1)

  is_opened : (grower : Grower) → Grows grower → (at context : ℕ) (choice : Chosen) → ((c : ℕ) (m : Meaning) → choice ≡ chosen c m → i.says c ≡ Some m)
      → (g : Grown) → opened grower i at context choice ≡ Ok g → HasSlots g.node.ctor (roots g.below) × HaveSlots g.below
  is_opened grower grows at context (chosen ctor m) says g e =
      let early = then_some (m.early _ (changed context [])) _ g e in
      after_early grower grows ctor at m (says ctor m refl) early.0 g early.2

  grows_so : (levels : ℕ) → Grows (grow i levels)
  unfolding grow
  grows_so zero table at context g e = absurd (let no : ⊥ = cc in no)
  grows_so (suc levels) table at context g e =
      let choice = then_some (or_fault (NoConstructor table at) (chosen_at i table at context)) _ g e in
      let there = found (NoConstructor table at) (chosen_at i table at context) choice.0 choice.1 in
      is_opened (grow i levels) (grows_so levels) at context choice.0
      (λ c m is. is_chosen (i.choose table (point_at i.bytes at context)) c m (there ∙ ap Some is)) g choice.2

  -- ---- the tree when it stands

  is_finished : (next : ℕ) (f : Trees Begun) (commits : List Commit) (d : Ended) → finish i next f commits ≡ Ok d → HaveSlots f → (roots (trees_of d) ≡ roots f) × HaveAll (trees_of d)
  unfolding finish
  is_finished next none commits d e have =
      let same : ended none commits ≡ d = cc in
      subst (λ (h : Ended). (roots (trees_of h) ≡ 0) × HaveAll (trees_of h)) same (refl, tt)
  is_finished next (tree n below behind) commits d e have =
      let done = then_some (finish_node i next n (lengths_of below) commits) _ d e in
      let first = then_some (finish i next below (commits_in done.0)) _ d done.2 in
      let others = then_some (finish i next behind (commits_of first.0)) _ d first.2 in
      let kids = is_finished next below (commits_in done.0) first.0 first.1 have.1 in
      let rest = is_finished next behind (commits_of first.0) others.0 others.1 have.2 in
      let same : ended (tree (with_values n (values_in done.0)) (trees_of first.0) (trees_of others.0)) (commits_of others.0) ≡ d = is_it _ d _ refl others.2 in
      let slots : HasSlots n.ctor (roots (trees_of first.0)) = record { meaning = have.0.meaning; is = have.0.is; many = kids.0 ∙ have.0.many } in
      subst (λ (h : Ended). (roots (trees_of h) ≡ 1 + roots behind) × HaveAll (trees_of h)) same
      (ap (λ k. 1 + k) rest.0, (slots, kids.1, rest.1))

  tree_in : (length after : ℕ) (d : Ended) (all : Decoded) → ◌≡◌ {A = Result Decoded Fault} (Ok (decoded_of length after d)) (Ok all) → all.tree ≡ trees_of d
  tree_in length after (ended f commits) all e = let same : decoded_of length after (ended f commits) ≡ all = cc in ap (λ (h : Decoded). h.tree) (sym same)

  is_read : (t : Tables) (context : ℕ) (d : Decoded) → read t i context ≡ Ok d → HaveAll d.tree
  is_read t context d e =
      let root = then_some (grow i (length t.tables) 0 0 context) _ d e in
      let all = then_some (finish i _ (tree root.0.node root.0.below none) []) _ d root.2 in
      let grown = grows_so (length t.tables) 0 0 context root.0 root.1 in
      let stands = is_finished _ (tree root.0.node root.0.below none) [] all.0 all.1 (grown.0, grown.1, tt) in
      subst HaveAll (sym (tree_in _ _ all.0 d all.2)) stands.1

-- ---- the tables of constructors

slots_are : (t : Tables) (c : Ctor) (written : Placed Constructor) (m : Meaning) → said_by t (Some c) (Some written) ≡ Some m
    → map (slot_of t c.operands written.1.pattern) (table_operands c.operands) ≡ m.slots
slots_are t c written m e = let same = inside _ m e in ap (λ (x : Meaning). x.slots) same

tables_by : (t : Tables) (c : Option Ctor) (written : Option (Placed Constructor)) (m : Meaning) (nodes : ℕ) → said_by t c written ≡ Some m → nodes ≡ length m.slots → AreTablesOf c nodes
tables_by t None written m nodes said many = tt
tables_by t (Some c) None m nodes said many = absurd (let no : ⊥ = cc in no)
tables_by t (Some c) (Some written) m nodes said many =
    let all = map (slot_of t c.operands written.1.pattern) (table_operands c.operands) in
    let same : all ≡ m.slots = slots_are t c written m said in
    many ∙ ap (λ (l : List Slot). length l) (sym same) ∙ length-map (table_operands c.operands) (slot_of t c.operands written.1.pattern)

have_tables : (t : Tables) (cs : List (Placed Constructor)) (i : Input) → ((ctor : ℕ) → i.says ctor ≡ says t cs ctor) → (f : Trees Node) → HaveAll i f → HaveTables t f
have_tables t cs i same none have = tt
have_tables t cs i same (tree n below behind) have = (
  tables_by t (slice_get t.constructors n.ctor) (slice_get cs n.ctor) have.0.meaning (roots below) (sym (same n.ctor) ∙ have.0.is) have.0.many,
  have_tables t cs i same below have.1,
  have_tables t cs i same behind have.2,
)

pub decodes_have_tables : DecodesHaveTables
unfolding decoded
decodes_have_tables t cs choose bytes address context d e =
    let i : Input = record { choose = choose; says = says t cs; bytes = bytes; address = address } in
    have_tables t cs i (λ ctor. refl) d.tree (is_read i t context d e)
