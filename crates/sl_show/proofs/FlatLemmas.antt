-- A row of entries and its values, as the rows of its trees.
use Rattle.std.proofs.Common.{◌≡◌, ℕ, ℤ, ◌+◌, ◌-◌, List, [], ◌∷◌, ◌++◌, length, take, drop, append-nil, refl, sym, ap, subst, ◌∙◌, arith, append_assoc, length-append}
use Rattle.std.proofs.Math.Seq.{take-append_seam, drop-append_seam}
use Rattle.std.proofs.lemmas.List.{map-append}
use Rattle.sl_decode_meaning.specs.Flat.{all_values, entries, entry_of}
use Rattle.sl_decode_meaning.specs.TreeCounts.{count}
use Rattle.sl_decode_meaning.specs.Trees.{Node, Trees, none, tree}
use Rattle.sl_decode_meaning.specs.declared.entries.Entry.{Entry}
use Rattle.sl_show.specs.Entries.{row_of, rows, rows_of}

length_rows : (f : Trees Node) → length (rows f) ≡ count f
unfolding rows
length_rows none = refl
length_rows (tree n below behind) =
    let b = length_rows below in let r = length_rows behind in let a = length-append (rows below) (rows behind) in omega arith

-- a node's own values among all
own_values : (n : Node) (first : ℕ) (front back : List ℤ) → length front ≡ first → take (first + length n.values - first) (drop first (front ++ (n.values ++ back))) ≡ n.values
own_values n first front back e =
    let k : first + length n.values - first ≡ length n.values = omega arith in
    ap (λ m. take m (drop first (front ++ (n.values ++ back)))) k
    ∙ ap (λ m. take (length n.values) (drop m (front ++ (n.values ++ back)))) (sym e)
    ∙ ap (take (length n.values)) (drop-append_seam front (n.values ++ back)) ∙ take-append_seam n.values back

row_is : (n : Node) (first below m : ℕ) (values : List ℤ) → take (first + length n.values - first) (drop first values) ≡ n.values → below ≡ m
    → row_of values (entry_of first n below) ≡ record { node = n; below = m }
row_is n first below m values own same = λ i. record {
  node = record { ctor = n.ctor; at = n.at; length = n.length; context = n.context; values = own i };
  below = same i;
}

pub rows_are : (f : Trees Node) (first : ℕ) (front back values : List ℤ) → length front ≡ first → values ≡ front ++ (all_values f ++ back) → rows_of values (entries first f) ≡ rows f
unfolding rows
rows_are none first front back values e v = refl
rows_are (tree n below behind) first front back values e v =
    let mine = all_values below in
    let others = all_values behind in
    let here : values ≡ front ++ (n.values ++ ((mine ++ others) ++ back)) = v ∙ ap (λ l. front ++ l) (append_assoc n.values (mine ++ others) back) in
    let next : values ≡ (front ++ n.values) ++ (mine ++ (others ++ back)) =
    here ∙ ap (λ l. front ++ (n.values ++ l)) (append_assoc mine others back) ∙ sym (append_assoc front n.values (mine ++ (others ++ back))) in
    let last : values ≡ (front ++ n.values ++ mine) ++ (others ++ back) = next ∙ sym (append_assoc (front ++ n.values) mine (others ++ back)) in
    let own = subst (λ (vs : List ℤ). take (first + length n.values - first) (drop first vs) ≡ n.values) (sym here) (own_values n first front ((mine ++ others) ++ back) e) in
    let one = row_is n first (count below) (length (rows below)) values own (sym (length_rows below)) in
    let kids = rows_are below (first + length n.values) (front ++ n.values) (others ++ back) values (omega (arith, length-append front n.values, e)) next in
    let rest = rows_are behind (first + length n.values + length mine) (front ++ n.values ++ mine) back values (omega (arith, length-append front n.values, length-append (front ++ n.values) mine, e)) last in
    ap (λ rs. row_of values (entry_of first n (count below)) ∷ rs)
    (map-append (row_of values) (entries (first + length n.values) below) (entries (first + length n.values + length mine) behind) ∙ ap (λ xs. xs ++ rows_of values (entries (first + length n.values + length mine) behind)) kids ∙ ap (λ ys. rows below ++ ys) rest)
    ∙ ap (λ r. r ∷ (rows below ++ rows behind)) one

pub whole_rows : (f : Trees Node) (values : List ℤ) (nodes : List Entry) → nodes ≡ entries 0 f → values ≡ all_values f → rows_of values nodes ≡ rows f
whole_rows f values nodes e v =
    ap (rows_of values) e ∙ rows_are f 0 [] [] values refl (v ∙ sym (append-nil (all_values f)))
