-- The bytes as far as the decode of an instruction looks decide it.
use Rattle.std.proofs.Common.{◌≡◌, ℕ, ◌+◌, ◌≤◌, max, List, [], length, take, Option, Some, None, Ok}
use Rattle.std.proofs.Common.{refl, sym, ap, ap₂, subst, ◌∙◌, arith}
use Rattle.sl_decode_contexts.specs.declared.commits.Commit.{Commit}
use Rattle.sl_decode_meaning.specs.Actions.{address_in, own}
use Rattle.sl_decode_meaning.specs.Decoding.{Decoded, Ended, Input, commits_in, commits_of, decoded}
use Rattle.sl_decode_meaning.specs.Decoding.{decoded_of, ended, finish, finish_node, grow, read, site_at}
use Rattle.sl_decode_meaning.specs.Decoding.{trees_of, values_in}
use Rattle.sl_decode_meaning.specs.Laws.{input}
use Rattle.sl_decode_meaning.specs.Choices.{Choice}
use Rattle.sl_decode_meaning.specs.Meanings.{Meaning, says}
use Rattle.sl_decode_meaning.specs.Outcomes.{◌>>=◌, or_fault}
use Rattle.sl_decode_meaning.specs.Trees.{Begun, Trees, lengths_of, none, tree, with_values}
use Rattle.sl_decode_meaning.specs.declared.faults.Fault.TheVariants.{NoConstructor}
use Rattle.sl_faithful_reach.proofs.GrowLemmas.{Measured, begun_reach, grow_carries}
use Rattle.sl_faithful_reach.proofs.MeaningLemmas.{LooksAlike, says_alike}
use Rattle.sl_faithful_reach.proofs.OutcomeLemmas.{came, goes, same_ok, then_alike}
use Rattle.sl_faithful_reach.specs.DecodeLaws.{BytesDecide}
use Rattle.sl_faithful_reach.specs.Sight.{farthest, reach, sight}
use Rattle.sl_spec.specs.declared.tables.Tables.{Tables}

-- ---- trees that are finished look as far as before

module _ (i : Input) (next : ℕ) where
  pub finished_sight : (f : Trees Begun) (commits : List Commit) (e : Ended)
      → finish i next f commits ≡ Ok e → sight (trees_of e) ≡ farthest begun_reach f
  unfolding finish
  finished_sight none commits e is =
      sym (ap (λ e. sight (trees_of e)) (same_ok (ended none commits) e is))
  finished_sight (tree n below behind) commits e is =
      let d = came (finish_node i next n (lengths_of below) commits) _ e is in
      let f = came (finish i next below (commits_in d.0)) _ e d.2 in
      let o = came (finish i next behind (commits_of f.0)) _ e f.2 in
      let trees = tree (with_values n (values_in d.0)) (trees_of f.0) (trees_of o.0) in
      let whole = same_ok (ended trees (commits_of o.0)) e o.2 in
      sym (ap (λ e. sight (trees_of e)) whole)
      ∙ ap₂ (λ x y. max (begun_reach n) (max x y)) (finished_sight below (commits_in d.0) f.0 f.1)
      (finished_sight behind (commits_of f.0) o.0 o.1)

-- ---- both bytes

module _ (choose : Choice) (own_says : ℕ → Option Meaning) (one other : List ℕ) (address n : ℕ)
    (alike : take n one ≡ take n other)
    (looks : (ctor : ℕ) (m : Meaning) → own_says ctor ≡ Some m
    → LooksAlike (input choose own_says one address) (input choose own_says other address) n m)
  where
    abbrev before : Input
    before = input choose own_says one address

    abbrev after : Input
    after = input choose own_says other address

    module _ (next : ℕ) where
      node_alike : (b : Begun) (lengths : List ℕ) (commits : List Commit) (found : Option Meaning)
          → own_says b.ctor ≡ found
          → ((m : Meaning) → own_says b.ctor ≡ Some m → b.length ≡ m.length lengths)
          → begun_reach b ≤ n
          → (or_fault (NoConstructor b.ctor b.at) found
          >>= λ m. m.late (site_at before b.ctor b.at lengths b.context next)
          (own b.notes [] commits))
          ≡ (or_fault (NoConstructor b.ctor b.at) found
          >>= λ m. m.late (site_at after b.ctor b.at lengths b.context next) (own b.notes [] commits))
      node_alike b lengths commits None is measured within = refl
      node_alike b lengths commits (Some m) is measured within =
          (looks b.ctor m is).late b.ctor b.at b.context next lengths (own b.notes [] commits)
          (subst (λ l. reach b.at l ≤ n) (measured m is) within)

      finish_alike : (f : Trees Begun) → Measured own_says f → farthest begun_reach f ≤ n
          → (commits : List Commit) → finish before next f commits ≡ finish after next f commits
      unfolding finish
      finish_alike none measured within commits = refl
      finish_alike (tree b below behind) measured within commits =
          then_alike _ _ _ _
          (node_alike b (lengths_of below) commits (own_says b.ctor) refl measured.0 (omega arith))
          (λ done. then_alike _ _ _ _ (finish_alike below measured.1 (omega arith) (commits_in done))
          (λ first. then_alike _ _ _ _
          (finish_alike behind measured.2 (omega arith) (commits_of first))
          (λ others. refl)))

    module _ (t : Tables) where
      tree_is : (length next : ℕ) (e : Ended) → (decoded_of length next e).tree ≡ trees_of e
      tree_is length next (ended trees commits) = refl

      pub read_alike : (context : ℕ) (d : Decoded) → read t before context ≡ Ok d → sight d.tree ≤ n
          → read t after context ≡ Ok d
      read_alike context d is within =
          let levels = length t.tables in
          let r = came (grow before levels 0 0 context) _ d is in
          let l = r.0.node.length in
          let next = address_in t (address + l) in
          let whole = tree r.0.node r.0.below none in
          let a = came (finish before next whole []) _ d r.2 in
          let e = same_ok (decoded_of l next a.0) d a.2 in
          let same : sight d.tree ≡ farthest begun_reach whole =
          sym (ap (λ (d : Decoded). sight d.tree) e) ∙ ap sight (tree_is l next a.0)
          ∙ finished_sight before next whole [] a.0 a.1 in
          let fits : farthest begun_reach whole ≤ n = subst (λ s. s ≤ n) same within in
          let g = grow_carries choose own_says one other address n alike looks levels 0 0 context
          r.0 r.1 fits in
          goes (grow after levels 0 0 context) _ r.0 d g.0
          (goes (finish after next whole []) _ a.0 d
          (sym (finish_alike next whole g.1 fits []) ∙ a.1) a.2)

pub bytes_decide : BytesDecide
unfolding decoded
bytes_decide t cs choose one other address context n d short is within alike =
    read_alike choose (says t cs) one other address n alike
    (says_alike t cs short choose one other address n alike) t context d is within
