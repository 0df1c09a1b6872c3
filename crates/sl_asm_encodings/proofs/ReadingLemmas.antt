-- What is grown and finished is read back.
use Rattle.std.proofs.Common.{◌≡◌, ℕ, zero, suc, ◌+◌, List, [], ◌∷◌, ◌++◌, length, Option, Some, None, Result, Ok, Err, refl, sym, ap, append_assoc, subst, ◌∙◌}
use Rattle.std.specs.Prelude.{option_and_then}
use Rattle.sl_ast.specs.Trees.{Constructor}
use Rattle.sl_ast.specs.Unfolding.{Placed}
use Rattle.sl_asm_encodings.specs.Readings.{DecodeIsReadBack, Reads, node, no_more, one, one_more, operands, spot_of}
use Rattle.sl_asm_encodings.specs.Readings as r
use Rattle.sl_decode_contexts.specs.declared.commits.Commit.{Commit}
use Rattle.sl_decode_meaning.specs.Actions.{Changed, Own, address_in, changed, own}
use Rattle.sl_decode_meaning.specs.Decoding.{Chosen, Decoded, Ended, Grove, Grown, Input, chosen, chosen_at, commits_in, commits_of, decoded, decoded_of, with_meaning}
use Rattle.sl_decode_meaning.specs.Decoding.{ended, finish, finish_node, grow, opened, read, site_at, trees_of, values_in, with_operands}
use Rattle.sl_decode_meaning.specs.Decoding as d
use Rattle.sl_decode_meaning.specs.Laws.{input}
use Rattle.sl_decode_meaning.specs.Meanings.{Meaning, Slot, says, slot}
use Rattle.sl_decode_meaning.specs.Outcomes.{or_fault}
use Rattle.sl_decode_meaning.specs.Trees.{Begun, Node, Trees, lengths_of, none, tree, with_values}
use Rattle.sl_decode_meaning.specs.declared.faults.Fault.{Fault}
use Rattle.sl_decode_meaning.specs.declared.faults.Fault.TheVariants.{NoConstructor}
use Rattle.sl_decode_meaning.specs.declared.notes.Noted.{Noted}
use Rattle.sl_faithful_reach.proofs.OutcomeLemmas.{came, same_ok, was_some}
use Rattle.sl_list_instructions.specs.Instructions.{Told}
use Rattle.sl_list_instructions.specs.Told.{told_of}
use Rattle.sl_show.specs.Texts.{node_text, shown_text, texts_by}
use Rattle.sl_show.specs.Texts as show
use Rattle.sl_spec.specs.declared.tables.Tables.{Tables}

-- ---- what was chosen has the meaning

with_from : (says : ℕ → Option Meaning) (c ctor : ℕ) (m : Meaning) (r : Option Meaning) → says c ≡ r
    → with_meaning c r ≡ Some (chosen ctor m) → says ctor ≡ Some m
with_from says c ctor m None is e = absurd cc
with_from says c ctor m (Some other) is e =
    let ctor_is : c ≡ ctor = cc in
    let m_is : other ≡ m = cc in
    ap says (sym ctor_is) ∙ is ∙ ap Some m_is

says_from : (says : ℕ → Option Meaning) (ctor : ℕ) (m : Meaning) (found : Option ℕ)
    → option_and_then (λ c. with_meaning c (says c)) found ≡ Some (chosen ctor m) → says ctor ≡ Some m
says_from says ctor m None e = absurd cc
says_from says ctor m (Some c) e = with_from says c ctor m (says c) refl e

some_is : (a b : Meaning) → ◌≡◌ {A = Option Meaning} (Some a) (Some b) → a ≡ b
some_is a b e = cc

module _ (t : Tables) (cs : List (Placed Constructor)) (i : Input) (next : ℕ) where
  abbrev Says : r.Reading → Type 0
  Says what = Reads t cs i next what

  abbrev texts_of : Trees Node → List (List ℕ)
  texts_of f = texts_by (node_text t cs) i.bytes f

  -- ---- operands, by those that are grown one by one

  -- a node that was grown reads back, however it is finished
  abbrev Grows : ℕ → ℕ → ℕ → Grown → Type 0
  Grows table at x root = (commits : List Commit) (e : Ended) (own_values : Own)
      → finish_node i next root.node (lengths_of root.below) commits ≡ Ok own_values
      → finish i next root.below (commits_in own_values) ≡ Ok e
      → (show.lengths_of (trees_of e) ≡ lengths_of root.below)
      × Says (node table at x root.node.length
      (node_text t cs root.node.ctor (show.spot i.bytes (with_values root.node (values_in own_values)) (show.lengths_of (trees_of e)) (texts_of (trees_of e)))) root.after)

  abbrev AllGrow : ℕ → Type 0
  AllGrow levels = (table at x : ℕ) (root : Grown) → grow i levels table at x ≡ Ok root → Grows table at x root

  -- operands that were grown read back so, with the lengths of their nodes
  record Row (slots : List Slot) (at : ℕ) (lengths : List ℕ) (x : ℕ) (g : Grove) (e : Ended) : Type 0 where
    same : show.lengths_of (trees_of e) ≡ lengths_of g.trees
    long : g.lengths ≡ lengths ++ lengths_of g.trees
    says : Says (operands slots at lengths x g.lengths (texts_of (trees_of e)) g.after)

  nothing_behind : (xs : List ℕ) → xs ≡ xs ++ []
  nothing_behind [] = refl
  nothing_behind (x ∷ xs) = ap (λ (l : List ℕ). x ∷ l) (nothing_behind xs)

  rows : (levels : ℕ) → AllGrow levels → (slots : List Slot) (at : ℕ) (lengths : List ℕ) (x : ℕ) (g : Grove) (commits : List Commit) (e : Ended)
      → d.operands (grow i levels) slots at lengths x ≡ Ok g → finish i next g.trees commits ≡ Ok e → Row slots at lengths x g e
  unfolding finish
  rows levels grows [] at lengths x g commits e is fin =
      let whole : record { lengths = lengths; trees = none; after = x } ≡ g = same_ok _ g is in
      let ends = same_ok (ended none commits) e (subst (λ (h : Grove). finish i next h.trees commits ≡ Ok e) (sym whole) fin) in
      subst (λ (h : Grove). Row [] at lengths x h e) whole
      (subst (λ (f : Ended). Row [] at lengths x (record { lengths = lengths; trees = none; after = x }) f) ends
      (record { same = refl; long = nothing_behind lengths; says = no_more }))
  rows levels grows (slot table place ∷ slots) at lengths x g commits e is fin =
      let first = came (grow i levels table (at + place lengths) x) _ g is in
      let n = first.0.node in
      let others = came (d.operands (grow i levels) slots at (lengths ++ n.length ∷ []) first.0.after) _ g first.2 in
      let whole = same_ok _ g others.2 in
      let fin_whole : finish i next (tree n first.0.below others.0.trees) commits ≡ Ok e = subst (λ (h : Grove). finish i next h.trees commits ≡ Ok e) (sym whole) fin in
      let own_is = came (finish_node i next n (lengths_of first.0.below) commits) _ e fin_whole in
      let below = came (finish i next first.0.below (commits_in own_is.0)) _ e own_is.2 in
      let behind = came (finish i next others.0.trees (commits_of below.0)) _ e below.2 in
      let ends = same_ok (ended (tree (with_values n (values_in own_is.0)) (trees_of below.0) (trees_of behind.0)) (commits_of behind.0)) e behind.2 in
      let head = grows table (at + place lengths) x first.0 first.1 commits below.0 own_is.0 own_is.1 below.1 in
      let rest = rows levels grows slots at (lengths ++ n.length ∷ []) first.0.after others.0 (commits_of below.0) behind.0 others.1 behind.1 in
      subst (λ (h : Grove). Row (slot table place ∷ slots) at lengths x h e) whole
      (subst (λ (f : Ended). Row (slot table place ∷ slots) at lengths x (record { lengths = others.0.lengths; trees = tree n first.0.below others.0.trees; after = others.0.after }) f) ends
      (record {
        same = ap (λ (l : List ℕ). n.length ∷ l) rest.same;
        long = rest.long ∙ append_assoc lengths (n.length ∷ []) (lengths_of others.0.trees);
        says = one_more head.1 rest.says;
      }))

  -- ---- nodes

  -- the constructor's own meaning finishes its nodes
  finished_by : (ctor at : ℕ) (m : Meaning) (n : Begun) (lengths : List ℕ) (commits : List Commit) (o : Own)
      → i.says n.ctor ≡ Some m → finish_node i next n lengths commits ≡ Ok o
      → m.late (site_at i n.ctor n.at lengths n.context next) (own n.notes [] commits) ≡ Ok o
  finished_by ctor at m n lengths commits o says is =
      let found = came (or_fault (NoConstructor n.ctor n.at) (i.says n.ctor)) _ o is in
      let same : found.0 ≡ m = some_is found.0 m (sym (was_some (NoConstructor n.ctor n.at) (i.says n.ctor) found.0 found.1) ∙ says) in
      subst (λ (k : Meaning). k.late (site_at i n.ctor n.at lengths n.context next) (own n.notes [] commits) ≡ Ok o) same found.2

  module _ (table at x ctor y : ℕ) (m : Meaning) (notes : List Noted) (there : chosen_at i table at x ≡ Some (chosen ctor m))
      (early : m.early (site_at i ctor at [] x 0) (changed x []) ≡ Ok (changed y notes)) (g : Grove) where
    abbrev built : Grown
    built = record {
      node = record { ctor = ctor; at = at; length = m.length g.lengths; context = y; notes = notes };
      below = g.trees;
      after = g.after;
    }

    ended_so : (commits : List Commit) (e : Ended) (o : Own) → Row m.slots at [] y g e
        → m.late (site_at i ctor at (lengths_of g.trees) y next) (own notes [] commits) ≡ Ok o
        → Says (node table at x (m.length g.lengths)
        (node_text t cs ctor (spot_of i at y (values_in o) (show.lengths_of (trees_of e)) (texts_of (trees_of e)))) g.after)
    ended_so commits e (own others values more) row late =
        let late_is : m.late (site_at i ctor at g.lengths y next) (own notes [] commits) ≡ Ok (own others values more) =
        subst (λ (l : List ℕ). m.late (site_at i ctor at l y next) (own notes [] commits) ≡ Ok (own others values more)) (sym row.long) late in
        subst (λ (l : List ℕ). Says (node table at x (m.length g.lengths) (node_text t cs ctor (spot_of i at y values l (texts_of (trees_of e)))) g.after))
        (row.long ∙ sym row.same) (one there early row.says late_is)

    grown_so : (levels : ℕ) → AllGrow levels → d.operands (grow i levels) m.slots at [] y ≡ Ok g → Grows table at x built
    grown_so levels grows is = λ commits e o fin_own fin.
        let row = rows levels grows m.slots at [] y g (commits_in o) e is fin in
        let says = says_from i.says ctor m (i.choose table (d.point_at i.bytes at x)) there in
        (row.same, ended_so commits e o row (finished_by ctor at m built.node (lengths_of g.trees) commits o says fin_own))

  grown_by : (levels : ℕ) → AllGrow levels → (table at x : ℕ) (root : Grown) (ctor : ℕ) (m : Meaning) (c : Changed)
      → chosen_at i table at x ≡ Some (chosen ctor m) → m.early (site_at i ctor at [] x 0) (changed x []) ≡ Ok c
      → with_operands (grow i levels) ctor at m c ≡ Ok root → Grows table at x root
  grown_by levels grows table at x root ctor m (changed y notes) there early is =
      let below = came (d.operands (grow i levels) m.slots at [] y) _ root is in
      subst (λ (r : Grown). Grows table at x r) (same_ok _ root below.2)
      (grown_so table at x ctor y m notes there early below.0 levels grows below.1)

  opened_by : (levels : ℕ) → AllGrow levels → (table at x : ℕ) (root : Grown) (c : Chosen) → chosen_at i table at x ≡ Some c
      → opened (grow i levels) i at x c ≡ Ok root → Grows table at x root
  opened_by levels grows table at x root (chosen ctor m) there is =
      let early = came (m.early (site_at i ctor at [] x 0) (changed x [])) _ root is in
      grown_by levels grows table at x root ctor m early.0 there early.1 early.2

  all_grow : (levels : ℕ) → AllGrow levels
  unfolding grow
  all_grow zero table at x root is = absurd cc
  all_grow (suc levels) table at x root is =
      let choice = came (or_fault (NoConstructor table at) (chosen_at i table at x)) _ root is in
      opened_by levels (all_grow levels) table at x root choice.0 (was_some (NoConstructor table at) (chosen_at i table at x) choice.0 choice.1) choice.2

  -- ---- the whole

  tree_is : (length next : ℕ) (e : Ended) → (decoded_of length next e).tree ≡ trees_of e
  tree_is length next (ended trees commits) = refl

  length_is : (length next : ℕ) (e : Ended) → (decoded_of length next e).length ≡ length
  length_is length next (ended trees commits) = refl

-- the decode of an input is read back at the address after it
abbrev IsWhole : Tables → List (Placed Constructor) → Input → ℕ → Decoded → Type 0
IsWhole t cs i context w = (after : ℕ) × Reads t cs i (address_in t (i.address + w.length))
    (node 0 0 context w.length (shown_text t cs i.bytes w.tree) after)

whole_read : (t : Tables) (cs : List (Placed Constructor)) (i : Input) (context : ℕ) (w : Decoded) → read t i context ≡ Ok w → IsWhole t cs i context w
unfolding finish shown_text
whole_read t cs i context w is =
    let levels = length t.tables in
    let root = came (grow i levels 0 0 context) _ w is in
    let n = root.0.node in
    let next = address_in t (i.address + n.length) in
    let all = came (finish i next (tree n root.0.below none) []) _ w root.2 in
    let own_is = came (finish_node i next n (lengths_of root.0.below) []) _ all.0 all.1 in
    let below = came (finish i next root.0.below (commits_in own_is.0)) _ all.0 own_is.2 in
    let ends = same_ok (ended (tree (with_values n (values_in own_is.0)) (trees_of below.0) none) (commits_of below.0)) all.0 below.2 in
    let says = all_grow t cs i next levels 0 0 context root.0 root.1 [] below.0 own_is.0 own_is.1 below.1 in
    subst (λ (d : Decoded). IsWhole t cs i context d) (same_ok (decoded_of n.length next all.0) w all.2)
    (subst (λ (e : Ended). IsWhole t cs i context (decoded_of n.length next e)) ends (root.0.after, says.1))

same_told : (a b : Told) → ◌≡◌ {A = Result Told Fault} (Ok a) (Ok b) → a ≡ b
same_told a b e = cc

record Heard (t : Tables) (cs : List (Placed Constructor)) (bytes : List ℕ) (r : Result Decoded Fault) (told : Told) : Type 0 where
  decode : Decoded
  is : r ≡ Ok decode
  text : shown_text t cs bytes decode.tree ≡ told.text
  long : decode.length ≡ told.length

heard : (t : Tables) (cs : List (Placed Constructor)) (bytes : List ℕ) (r : Result Decoded Fault) (told : Told) → told_of t cs bytes r ≡ Ok told → Heard t cs bytes r told
heard t cs bytes (Ok w) told is =
    let e = same_told _ told is in
    record { decode = w; is = refl; text = ap (λ (x : Told). x.text) e; long = ap (λ (x : Told). x.length) e }
heard t cs bytes (Err fault) told is = absurd cc

pub decode_is_read_back : DecodeIsReadBack
unfolding decoded
decode_is_read_back t cs choose bytes address context told is =
    let h = heard t cs bytes (decoded t cs choose bytes address context) told is in
    let i = input choose (says t cs) bytes address in
    let w = whole_read t cs i context h.decode h.is in (
      w.0,
      subst (λ (n : ℕ). Reads t cs i (address_in t (address + n)) (node 0 0 context n told.text w.0)) h.long
          (subst (λ (l : List ℕ). Reads t cs i (address_in t (address + h.decode.length)) (node 0 0 context h.decode.length l w.0)) h.text w.1),
    )
