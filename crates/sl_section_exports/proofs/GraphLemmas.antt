-- Graphs from their edges.
use Rattle.std.proofs.Common.{◌≡◌, ℕ, zero, suc, ◌+◌, ◌<◌, ◌==◌, inl, inr, Bool, true, false, cond, List, [], ◌∷◌, ◌++◌, Vec, Global, map, take, length, get_or, set, replicate, refl, sym, ap, ◌∙◌, arith, append_assoc, append-nil}
use Rattle.std.specs.List.{range_with_len}
use Rattle.std.proofs.lemmas.Bool.{cases_eq}
use Rattle.std.proofs.lemmas.List.{length-map, length-set, get_or-set_same, get_or-set_other, ext_get_or, map-set, take_more}
use Rattle.std.proofs.lemmas.List.FromFn.{get_or-range_with_len}
use Rattle.sl_base_graphs.proofs.Seen.{items, read_or}
use Rattle.sl_base_graphs.specs.Reaching.{successors}
use Rattle.sl_base_graphs.specs.Views.{graph_of}
use Rattle.sl_spec_rules.specs.Gathered.{gathered}
use Rattle.sl_section_exports.specs.Exports.{graph_with, if_so}

pub put_edge : (g : List (Vec ℕ Global)) (v to : ℕ) (old new : Vec ℕ Global) → v < length g → old ≡ get_or g v old → new.items ≡ old.items ++ to ∷ []
    → graph_of (set g v new) ≡ set (graph_of g) v (successors (graph_of g) v ++ to ∷ [])
put_edge g v to old new below at is =
    map-set items g v new
    ∙ ap (λ (l : List ℕ). set (graph_of g) v l) (is ∙ ap (λ (l : List ℕ). l ++ to ∷ []) (sym (read_or items g v old [] below at)))

gathered-append : {X M : Type 0} (f : X → List M) (xs ys : List X) → gathered f (xs ++ ys) ≡ gathered f xs ++ gathered f ys
unfolding gathered
gathered-append f [] ys = refl
gathered-append f (x ∷ xs) ys = ap (λ l. f x ++ l) (gathered-append f xs ys) ∙ sym (append_assoc (f x) (gathered f xs) (gathered f ys))

length_range : (a n : ℕ) → length (range_with_len a n) ≡ n
length_range a zero = refl
length_range a (suc n) = ap suc (length_range (a + 1) n)

abbrev from : List (ℕ × ℕ) → ℕ → List ℕ
from edges v = gathered (λ edge. if_so (edge.0 == v) edge.1) edges

with_length : (n : ℕ) (edges : List (ℕ × ℕ)) → length (graph_with n edges) ≡ n
with_length n edges = length-map (range_with_len 0 n) (from edges) ∙ length_range 0 n

with_at : (n v : ℕ) (edges : List (ℕ × ℕ)) → v < n → successors (graph_with n edges) v ≡ from edges v
with_at n v edges below =
    read_or (from edges) (range_with_len 0 n) v v [] (omega (arith, length_range 0 n)) (sym (get_or-range_with_len 0 n v v below ∙ omega arith))

is_it : (v : ℕ) → (v == v) ≡ true
is_it v = grind arith

is_other : (a b : ℕ) → (b ≡ a → ⊥) → (a == b) ≡ false
is_other a b n = grind arith

from_more : (edges : List (ℕ × ℕ)) (edge : ℕ × ℕ) (v : ℕ) → from (edges ++ edge ∷ []) v ≡ from edges v ++ if_so (edge.0 == v) edge.1
unfolding gathered
from_more edges edge v = gathered-append (λ e. if_so (e.0 == v) e.1) edges (edge ∷ []) ∙ ap (λ l. from edges v ++ l) (append-nil (if_so (edge.0 == v) edge.1))

pub one_with : (n : ℕ) (edges : List (ℕ × ℕ)) (edge : ℕ × ℕ) → set (graph_with n edges) edge.0 (successors (graph_with n edges) edge.0 ++ edge.1 ∷ []) ≡ graph_with n (edges ++ edge ∷ [])
one_with n edges edge =
    let g = graph_with n edges in
    let a = edge.0 in
    let new = successors g a ++ edge.1 ∷ [] in
    ext_get_or [] (set g a new) (graph_with n (edges ++ edge ∷ [])) (length-set g a new ∙ with_length n edges ∙ sym (with_length n (edges ++ edge ∷ [])))
    (λ j below. let inside : j < n = omega (arith, length-set g a new, with_length n edges) in
    elim (cases_eq j a) [
      | inl e ↦
          ap (λ k. get_or (set g a new) k []) e ∙ get_or-set_same g a new [] (omega (arith, with_length n edges))
          ∙ ap (λ (l : List ℕ). l ++ edge.1 ∷ []) (with_at n a edges (omega arith))
          ∙ ap (λ b. from edges a ++ if_so b edge.1) (sym (is_it a))
          ∙ sym (from_more edges edge a) ∙ sym (with_at n a (edges ++ edge ∷ []) (omega arith))
          ∙ ap (λ k. successors (graph_with n (edges ++ edge ∷ [])) k) (sym e)
      | inr d ↦
          get_or-set_other g a j new [] d ∙ with_at n j edges inside
          ∙ sym (append-nil (from edges j)) ∙ ap (λ b. from edges j ++ if_so b edge.1) (sym (is_other a j d))
          ∙ sym (from_more edges edge j) ∙ sym (with_at n j (edges ++ edge ∷ []) inside)
    ])

pub none_with : (n : ℕ) → replicate n [] ≡ graph_with n []
unfolding gathered
none_with n = empty 0 n
  where
    empty : (a n : ℕ) → replicate n [] ≡ map (from []) (range_with_len a n)
    empty a zero = refl
    empty a (suc n) = ap (λ (l : List (List ℕ)). [] ∷ l) (empty (a + 1) n)

pub with_more : (n : ℕ) (edges : List (ℕ × ℕ)) (old new : List (List ℕ)) (i : ℕ) (d : ℕ × ℕ) → i < length edges
    → new ≡ set old (get_or edges i d).0 (successors old (get_or edges i d).0 ++ (get_or edges i d).1 ∷ []) → old ≡ graph_with n (take i edges) → new ≡ graph_with n (take (i + 1) edges)
with_more n edges old new i d below is so =
    is ∙ ap (λ g. set g (get_or edges i d).0 (successors g (get_or edges i d).0 ++ (get_or edges i d).1 ∷ [])) so ∙ one_with n (take i edges) (get_or edges i d)
    ∙ ap (graph_with n) (sym (take_more edges i d below))
