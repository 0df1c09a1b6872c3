-- Trees among the entries of a row, and their texts.
use Rattle.std.proofs.Common.{◌≡◌, ℕ, ℤ, zero, suc, ◌<◌, List, [], ◌∷◌, ◌++◌, length, take, drop, get_or, slice_get, slice_index, append-nil, refl, sym, ap, ◌∙◌, arith}
use Rattle.std.proofs.Math.Seq.{take-append_seam, drop-append_seam}
use Rattle.std.proofs.lemmas.List.{take-map, drop-map, length-map}
use Rattle.sl_decode_meaning.specs.Trees.{Node, Trees, none, tree}
use Rattle.sl_decode_meaning.specs.declared.entries.Entry.{Entry}
use Rattle.sl_spec_rules.proofs.Seen.{read_map}
use Rattle.sl_show.specs.Entries.{Row, from_tree, row_of, rows, rows_of}
use Rattle.sl_show.specs.Templates.{parts_of, parts_text, spot_among, template_text}
use Rattle.sl_show.specs.Texts.{Spot, first_text, lengths_of, texts_by}
use Rattle.sl_show.specs.declared.templates.Part.{Part}
use Rattle.sl_show.specs.declared.templates.Template.{Template}
use Rattle.sl_spec.specs.declared.tables.Tables.{Tables}

-- ---- the rows of trees

pub rows_one : (n : Node) (below behind : Trees Node) → rows (tree n below behind) ≡ record { node = n; below = length (rows below) } ∷ (rows below ++ rows behind)
unfolding rows
rows_one n below behind = refl

pub rows_none : rows none ≡ []
unfolding rows
rows_none = refl

module _ (values : List ℤ) (nodes : List Entry) (n : Node) (below behind : Trees Node) (e : rows_of values nodes ≡ rows (tree n below behind)) where
  cut : rows_of values nodes ≡ record { node = n; below = length (rows below) } ∷ (rows below ++ rows behind)
  cut = e ∙ rows_one n below behind

  some : 0 < length nodes
  some = let k : length (rows_of values nodes) ≡ suc (length (rows below ++ rows behind)) = ap length cut in omega (arith, k, length-map nodes (row_of values))

  first_row : (d : Entry) → row_of values (get_or nodes 0 d) ≡ record { node = n; below = length (rows below) }
  first_row d = read_map (row_of values) nodes 0 d some ∙ ap (λ (rs : List Row). get_or rs 0 (row_of values (get_or nodes 0 d))) cut

  behind_first : rows_of values (drop 1 nodes) ≡ rows below ++ rows behind
  behind_first = sym (drop-map (row_of values) 1 nodes) ∙ ap (drop 1) cut

  pub kids_front : (d : Entry) (back front : List Entry) → back ≡ drop 1 nodes → front ≡ take (get_or nodes 0 d).below back → rows_of values front ≡ rows below
  kids_front d back front b f =
      ap (rows_of values) (f ∙ ap (take (get_or nodes 0 d).below) b) ∙ sym (take-map (row_of values) (get_or nodes 0 d).below (drop 1 nodes))
      ∙ ap (take (get_or nodes 0 d).below) behind_first ∙ ap (λ k. take k (rows below ++ rows behind)) (ap (λ (r : Row). r.below) (first_row d))
      ∙ take-append_seam (rows below) (rows behind)

  pub kids_back : (d : Entry) (back rest : List Entry) → back ≡ drop 1 nodes → rest ≡ drop (get_or nodes 0 d).below back → rows_of values rest ≡ rows behind
  kids_back d back rest b f =
      ap (rows_of values) (f ∙ ap (drop (get_or nodes 0 d).below) b) ∙ sym (drop-map (row_of values) (get_or nodes 0 d).below (drop 1 nodes))
      ∙ ap (drop (get_or nodes 0 d).below) behind_first ∙ ap (λ k. drop k (rows below ++ rows behind)) (ap (λ (r : Row). r.below) (first_row d))
      ∙ drop-append_seam (rows below) (rows behind)

-- there is a tree where there is an entry
pub no_entry : (values : List ℤ) (nodes : List Entry) (n : Node) (below behind : Trees Node) → length nodes ≡ 0 → rows_of values nodes ≡ rows (tree n below behind) → ⊥
no_entry values nodes n below behind empty e = let h : 0 < length nodes = some values nodes n below behind e in omega (arith, h, empty)

pub no_tree : (values : List ℤ) (nodes : List Entry) → 0 < length nodes → rows_of values nodes ≡ rows none → ⊥
no_tree values nodes h e = let k : length (rows_of values nodes) ≡ 0 = ap length (e ∙ rows_none) in omega (arith, length-map nodes (row_of values))

-- ---- the trees from one of them on

pub next_of : (values : List ℤ) (nodes rest : List Entry) (f : Trees Node) → 0 < length nodes → rows_of values nodes ≡ rows f
    → ((n : Node) (below behind : Trees Node) → rows_of values nodes ≡ rows (tree n below behind) → rows_of values rest ≡ rows behind) → rows_of values rest ≡ rows (from_tree 1 f)
next_of values nodes rest none h e r = absurd (no_tree values nodes h e)
next_of values nodes rest (tree n below behind) h e r = r n below behind e

pub next_none : (values : List ℤ) (nodes : List Entry) (f : Trees Node) → length nodes ≡ 0 → rows_of values nodes ≡ rows f → rows_of values nodes ≡ rows (from_tree 1 f)
next_none values nodes none h e = e
next_none values nodes (tree n below behind) h e = absurd (no_entry values nodes n below behind h e)

pub from_suc : (k : ℕ) (f : Trees Node) → from_tree (suc k) f ≡ from_tree 1 (from_tree k f)
from_suc zero none = refl
from_suc zero (tree n below behind) = refl
from_suc (suc k) none = refl
from_suc (suc k) (tree n below behind) = from_suc k behind

-- an operand's length is that of the first of the trees from it on
pub no_length : (k : ℕ) (f : Trees Node) (values : List ℤ) (nodes : List Entry) → length nodes ≡ 0 → rows_of values nodes ≡ rows (from_tree k f) → 0 ≡ slice_index (lengths_of f) k
no_length k none values nodes h e = refl
no_length zero (tree n below behind) values nodes h e = absurd (no_entry values nodes n below behind h e)
no_length (suc k) (tree n below behind) values nodes h e = no_length k behind values nodes h e

pub its_length : (k : ℕ) (f : Trees Node) (values : List ℤ) (nodes : List Entry) (d : Entry) → 0 < length nodes → rows_of values nodes ≡ rows (from_tree k f)
    → (get_or nodes 0 d).length ≡ slice_index (lengths_of f) k
its_length zero none values nodes d h e = absurd (no_tree values nodes h e)
its_length (suc k) none values nodes d h e = absurd (no_tree values nodes h e)
its_length zero (tree n below behind) values nodes d h e = ap (λ (r : Row). r.node.length) (first_row values nodes n below behind e d)
its_length (suc k) (tree n below behind) values nodes d h e = its_length k behind values nodes d h e

-- ---- texts

module _ (shows : ℕ → Spot → List ℕ) (bytes : List ℕ) where
  -- an operand's text is that of the first of the trees from it on
  pub kid_text : (k : ℕ) (f : Trees Node) → first_text (texts_by shows bytes (from_tree k f)) ≡ get_or (texts_by shows bytes f) k []
  kid_text zero none = refl
  kid_text zero (tree n below behind) = refl
  kid_text (suc k) none = refl
  kid_text (suc k) (tree n below behind) = kid_text k behind

-- the text of the first tree, by its parts
pub first_by_parts : (t : Tables) (templates : List Template) (bytes : List ℕ) (values : List ℤ) (nodes : List Entry) (first : Entry) (kids : List Entry) (old new : List ℕ) (parts : List Part) (f : Trees Node)
    → 0 < length nodes → first ≡ get_or nodes 0 first → rows_of values nodes ≡ rows f → parts ≡ parts_of (slice_get templates first.ctor)
    → ((n : Node) (below behind : Trees Node) → rows_of values nodes ≡ rows (tree n below behind) → rows_of values kids ≡ rows below)
    → ((k : Trees Node) → rows_of values kids ≡ rows k → new ≡ old ++ parts_text t (spot_among t templates bytes (row_of values first).node k) parts)
    → new ≡ old ++ first_text (texts_by (template_text t templates) bytes f)
first_by_parts t templates bytes values nodes first kids old new parts none h is e p k n = absurd (no_tree values nodes h e)
first_by_parts t templates bytes values nodes first kids old new parts (tree node below behind) h is e p k n =
    let row : row_of values first ≡ record { node = node; below = length (rows below) } = ap (row_of values) is ∙ first_row values nodes node below behind e first in
    n below (k node below behind e)
    ∙ ap (λ q. old ++ parts_text t (spot_among t templates bytes (row_of values first).node below) q) p
    ∙ ap (λ (r : Row). old ++ parts_text t (spot_among t templates bytes r.node below) (parts_of (slice_get templates r.node.ctor))) row

pub no_text : (t : Tables) (templates : List Template) (bytes : List ℕ) (values : List ℤ) (nodes : List Entry) (f : Trees Node) (old : List ℕ)
    → length nodes ≡ 0 → rows_of values nodes ≡ rows f → old ≡ old ++ first_text (texts_by (template_text t templates) bytes f)
no_text t templates bytes values nodes none old h e = sym (append-nil old)
no_text t templates bytes values nodes (tree n below behind) old h e = absurd (no_entry values nodes n below behind h e)
