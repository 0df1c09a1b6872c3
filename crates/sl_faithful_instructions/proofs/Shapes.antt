-- A decoded tree has the shape of the constructors that were chosen.
use Rattle.std.proofs.Common.{◌≡◌, ℕ, zero, suc, ◌+◌, Bool, true, false, cond, List, [], ◌∷◌, ◌++◌, length, map, Option, Some, None, Ok, Err, refl, sym, ap, ◌∙◌, subst}
use Rattle.std.specs.Prelude.{Result, option_and_then, slice_get}
use Rattle.sl_ast.specs.Trees.{Constructor, Pattern}
use Rattle.sl_ast.specs.Unfolding.{Placed, written}
use Rattle.sl_decode_contexts.specs.declared.commits.Commit.{Commit}
use Rattle.sl_decode_meaning.specs.Actions.{Changed, changed}
use Rattle.sl_decode_meaning.specs.Decoding.{Chosen, Decoded, Ended, Grove, Grown, Input, chosen, chosen_at, commits_in, commits_of, decoded, decoded_of, ended, finish, finish_node, grow, opened, operands, point_at, trees_of, values_in, with_meaning, with_operands}
use Rattle.sl_decode_meaning.specs.Laws.{input}
use Rattle.sl_decode_meaning.specs.Choices.{Choice}
use Rattle.sl_decode_meaning.specs.Meanings.{Meaning, Slot, said, said_by, says, slot, slot_of, table_in, table_of}
use Rattle.sl_decode_meaning.specs.Outcomes.{◌>>=◌, or_fault}
use Rattle.sl_decode_meaning.specs.Places.{means_table, table_operands}
use Rattle.sl_decode_meaning.specs.Trees.{Begun, Trees, lengths_of, none, tree}
use Rattle.sl_decode_meaning.specs.declared.faults.Fault.{Fault}
use Rattle.sl_spec.specs.Tables.{Ctor, Operand}
use Rattle.sl_spec.specs.declared.constructors.Means.{Means}
use Rattle.sl_spec.specs.declared.constructors.Means.TheVariants as means
use Rattle.sl_spec.specs.declared.tables.Tables.{Tables}
use Rattle.sl_faithful_instructions.specs.Shaped.{AreShaped, ChoosesOf, DecodesAreShaped, IsOf, number_of, operand_tables, tables_meant}

-- ---- moments that are met

pub record Met {A B : Type 0} (r : Result A Fault) (f : A → Result B Fault) (b : B) : Type 0 where
  pub before : A
  pub first : r ≡ Ok before
  pub then_is : f before ≡ Ok b

met : {A B : Type 0} (r : Result A Fault) (f : A → Result B Fault) (b : B) → (r >>= f) ≡ Ok b → Met r f b
met (Ok a) f b e = record { before = a; first = refl; then_is = e }
met (Err x) f b e = absurd (let no : ⊥ = cc in no)

ok_is : {A : Type 0} (a b : A) → ◌≡◌ {A = Result A Fault} (Ok a) (Ok b) → a ≡ b
ok_is a b e = cc

some_met : {A : Type 0} (x : Fault) (o : Option A) (a : A) → or_fault x o ≡ Ok a → o ≡ Some a
some_met x None a e = absurd (let no : ⊥ = cc in no)
some_met x (Some c) a e = let same : c ≡ a = cc in ap Some same

-- ---- what a constructor says

module _ (t : Tables) (os : List Operand) (p : Pattern) where
  pushed : (found : Bool) (o : Operand) (rest : List Operand) → map table_of (map (slot_of t os p) (cond found (o ∷ rest) rest)) ≡ cond found (table_in o.means ∷ map table_of (map (slot_of t os p) rest)) (map table_of (map (slot_of t os p) rest))
  pushed true o rest = refl
  pushed false o rest = refl

  meant_first : (m : Means) (ms : List Means) → cond (means_table m) (table_in m ∷ tables_meant ms) (tables_meant ms) ≡ tables_meant (m ∷ ms)
  meant_first (means.Table id) ms = refl
  meant_first (means.Field id) ms = refl
  meant_first (means.Action k) ms = refl

  slots_are : (rest : List Operand) → map table_of (map (slot_of t os p) (table_operands rest)) ≡ tables_meant (map (λ o. o.means) rest)
  slots_are [] = refl
  slots_are (o ∷ rest) =
      pushed (means_table o.means) o (table_operands rest)
      ∙ ap (λ l. cond (means_table o.means) (table_in o.means ∷ l) l) (slots_are rest)
      ∙ meant_first o.means (map (λ o. o.means) rest)

-- the slots of a constructor are the tables among its operands
record Says (t : Tables) (number : ℕ) (m : Meaning) : Type 0 where
  pub slots : (c : Ctor) → slice_get t.constructors number ≡ Some c → map table_of m.slots ≡ operand_tables c

says_by : (t : Tables) (number : ℕ) (c : Option Ctor) (w : Option (Placed Constructor)) (m : Meaning) → slice_get t.constructors number ≡ c → said_by t c w ≡ Some m → Says t number m
says_by t number None w m there e = absurd (let no : ⊥ = cc in no)
says_by t number (Some c) None m there e = absurd (let no : ⊥ = cc in no)
says_by t number (Some c) (Some w) m there e = record {
  slots = λ c' there'.
      let same : c ≡ c' = cc in
      let is : said t c.operands w.1.pattern (written w.1.actions) ≡ m = cc in
      ap (λ (n : Meaning). map table_of n.slots) (sym is) ∙ slots_are t c.operands w.1.pattern c.operands ∙ ap operand_tables same;
}

-- ---- the first moments

abbrev begun_number : Begun → ℕ
begun_number n = n.ctor

module _ (t : Tables) (constructors : List (Placed Constructor)) (choose : Choice) (bytes : List ℕ) (address : ℕ) (of : ChoosesOf t choose) where
  abbrev known : Input
  known = input choose (says t constructors) bytes address

  abbrev Shaped : Trees Begun → List ℕ → Type 0
  Shaped f tables = AreShaped t begun_number f tables

  -- a node of a table with what is below it
  record Node' (table : ℕ) (g : Grown) : Type 0 where
    pub is : IsOf t g.node.ctor table
    pub below : Shaped g.below (operand_tables is.ctor)

  -- a choice is a constructor of the table, and what it says
  record Choice' (table : ℕ) (c : Chosen) : Type 0 where
    pub number : ℕ
    pub meaning : Meaning
    pub is : c ≡ chosen number meaning
    pub of_table : IsOf t number table
    pub tells : Says t number meaning

  chosen_by : (table number : ℕ) (m : Option Meaning) (c : Chosen) → says t constructors number ≡ m → IsOf t number table → with_meaning number m ≡ Some c → Choice' table c
  chosen_by table number None c there is e = absurd (let no : ⊥ = cc in no)
  chosen_by table number (Some m) c there is e = record {
    number = number;
    meaning = m;
    is = let same : chosen number m ≡ c = cc in sym same;
    of_table = is;
    tells = says_by t number (slice_get t.constructors number) (slice_get constructors number) m refl there;
  }

  chosen_from : (table : ℕ) (o : Option ℕ) (c : Chosen) → ((number : ℕ) → o ≡ Some number → IsOf t number table) → option_and_then (λ ctor. with_meaning ctor (says t constructors ctor)) o ≡ Some c → Choice' table c
  chosen_from table None c is e = absurd (let no : ⊥ = cc in no)
  chosen_from table (Some number) c is e = chosen_by table number (says t constructors number) c refl (is number refl) e

  -- operands, by what is known of the tables below
  operands_shaped : (levels : ℕ) → ((table at context : ℕ) (g : Grown) → grow known levels table at context ≡ Ok g → Node' table g)
      → (slots : List Slot) (at : ℕ) (lengths : List ℕ) (context : ℕ) (v : Grove) → operands (grow known levels) slots at lengths context ≡ Ok v → Shaped v.trees (map table_of slots)
  operands_shaped levels each [] at lengths context v e =
      let same : record { lengths = lengths; trees = none; after = context } ≡ v = cc in
      subst (λ (w : Grove). Shaped w.trees []) same tt
  operands_shaped levels each (slot table place ∷ slots) at lengths context v e =
      let one = met (grow known levels table (at + place lengths) context) _ v e in
      let first = one.before in
      let two = met (operands (grow known levels) slots at (lengths ++ first.node.length ∷ []) first.after) _ v one.then_is in
      let others = two.before in
      let node = each table (at + place lengths) context first one.first in
      let rest = operands_shaped levels each slots at (lengths ++ first.node.length ∷ []) first.after others two.first in
      let same : record { lengths = others.lengths; trees = tree first.node first.below others.trees; after = others.after } ≡ v = ok_is _ v two.then_is in
      subst (λ (w : Grove). Shaped w.trees (table ∷ map table_of slots)) same ((node.is, node.below), rest)

  opened_shaped : (levels table at : ℕ) (context : ℕ) → ((table at context : ℕ) (g : Grown) → grow known levels table at context ≡ Ok g → Node' table g)
      → (number : ℕ) (m : Meaning) (g : Grown) → IsOf t number table → Says t number m → opened (grow known levels) known at context (chosen number m) ≡ Ok g → Node' table g
  opened_shaped levels table at context each number m g is tells e =
      let early = met (m.early _ (changed context [])) (with_operands (grow known levels) number at m) g e in
      behind early.before early.then_is
    where
      behind : (c : Changed) → with_operands (grow known levels) number at m c ≡ Ok g → Node' table g
      behind (changed context' notes) e =
          let below = met (operands (grow known levels) m.slots at [] context') _ g e in
          let v = below.before in
          let shaped = operands_shaped levels each m.slots at [] context' v below.first in
          let same : record { node = record { ctor = number; at = at; length = m.length v.lengths; context = context'; notes = notes }; below = v.trees; after = v.after } ≡ g = ok_is _ g below.then_is in
          subst (Node' table) same (record { is = is; below = subst (Shaped v.trees) (tells.slots is.ctor is.there) shaped })

  grown_shaped : (levels table at context : ℕ) (g : Grown) → grow known levels table at context ≡ Ok g → Node' table g
  unfolding grow
  grown_shaped zero table at context g e = absurd (let no : ⊥ = cc in no)
  grown_shaped (suc levels) table at context g e =
      let choice = met (or_fault _ (chosen_at known table at context)) (opened (grow known levels) known at context) g e in
      let c = choice.before in
      let is = chosen_from table (choose table (point_at bytes at context)) c (of table (point_at bytes at context)) (some_met _ (chosen_at known table at context) c choice.first) in
      opened_shaped levels table at context (grown_shaped levels) is.number is.meaning g is.of_table is.tells (subst (λ k. opened (grow known levels) known at context k ≡ Ok g) is.is choice.then_is)

  -- ---- the late moments

  finished_shaped : (f : Trees Begun) (tables : List ℕ) (next : ℕ) (commits : List Commit) (d : Ended) → Shaped f tables → finish known next f commits ≡ Ok d → AreShaped t number_of (trees_of d) tables
  unfolding finish
  finished_shaped none [] next commits d shaped e =
      let same : ended none commits ≡ d = cc in subst (λ w. AreShaped t number_of (trees_of w) []) same tt
  finished_shaped none (b ∷ bs) next commits d shaped e = absurd shaped
  finished_shaped (tree n below behind) [] next commits d shaped e = absurd shaped
  finished_shaped (tree n below behind) (b ∷ bs) next commits d shaped e =
      let one = met (finish_node known next n (lengths_of below) commits) _ d e in
      let done = one.before in
      let two = met (finish known next below (commits_in done)) _ d one.then_is in
      let first = two.before in
      let three = met (finish known next behind (commits_of first)) _ d two.then_is in
      let others = three.before in
      let below' = finished_shaped below (operand_tables shaped.0.0.ctor) next (commits_in done) first shaped.0.1 two.first in
      let behind' = finished_shaped behind bs next (commits_of first) others shaped.1 three.first in
      let same : ended (tree (record { ctor = n.ctor; at = n.at; length = n.length; context = n.context; values = values_in done }) (trees_of first) (trees_of others)) (commits_of others) ≡ d = ok_is _ d three.then_is in
      subst (λ w. AreShaped t number_of (trees_of w) (b ∷ bs)) same ((shaped.0.0, below'), behind')

-- the tree is that of the nodes
tree_of : (length after : ℕ) (e : Ended) → (decoded_of length after e).tree ≡ trees_of e
tree_of length after (ended trees commits) = refl

pub decodes_are_shaped : DecodesAreShaped
unfolding decoded
decodes_are_shaped t constructors choose bytes address context d of e =
    let i = input choose (says t constructors) bytes address in
    let root = met (grow i (length t.tables) 0 0 context) _ d e in
    let all = met (finish i _ (tree root.before.node root.before.below none) []) _ d root.then_is in
    let node = grown_shaped t constructors choose bytes address of (length t.tables) 0 0 context root.before root.first in
    let shaped = finished_shaped t constructors choose bytes address of (tree root.before.node root.before.below none) (0 ∷ []) _ [] all.before ((node.is, node.below), tt) all.first in
    let same : decoded_of root.before.node.length _ all.before ≡ d = ok_is _ d all.then_is in
    subst (λ (w : Decoded). AreShaped t number_of w.tree (0 ∷ [])) same (subst (λ f. AreShaped t number_of f (0 ∷ [])) (sym (tree_of _ _ all.before)) shaped)
