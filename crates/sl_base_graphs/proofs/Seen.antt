-- Successors as the program keeps them.
use Rattle.std.proofs.Common.{◌≡◌, ◌<◌, ℕ, zero, suc, ◌+◌, List, [], ◌∷◌, ◌++◌, Vec, Global, length, get_or, take, map, refl, sym, ap, ◌∙◌, arith}
use Rattle.std.proofs.lemmas.List.{take_more, map-append}
use Rattle.sl_base_graphs.specs.Reaching.{successors}
use Rattle.sl_base_graphs.specs.Views.{graph_of}

abbrev pub items : Vec ℕ Global → List ℕ
items l = l.items

-- what is read of a list, as it is seen
pub read_or : {A B : Type 0} (f : A → B) (xs : List A) (i : ℕ) (x : A) (d : B) → i < length xs → x ≡ get_or xs i x → get_or (map f xs) i d ≡ f x
read_or f [] i x d below is = absurd (omega arith)
read_or f (y ∷ ys) zero x d below is = ap f (sym is)
read_or f (y ∷ ys) (suc i) x d below is = read_or f ys i x d (omega arith) is

-- the successors of a node, read
pub read_node : (graph : List (Vec ℕ Global)) (v : ℕ) (l : Vec ℕ Global) → v < length graph → l ≡ get_or graph v l → successors (graph_of graph) v ≡ l.items
read_node graph v l below is = read_or items graph v l [] below is

-- one more is gathered
pub mapped_more : {A B : Type 0} (f : A → B) (xs : List A) (ys : List B) (i : ℕ) (d : A) → i < length xs → ys ≡ map f (take i xs) → ys ++ f (get_or xs i d) ∷ [] ≡ map f (take (i + 1) xs)
mapped_more {A} {B} f xs ys i d below so =
    ap (λ (l : List B). l ++ f (get_or xs i d) ∷ []) so ∙ sym (map-append f (take i xs) (get_or xs i d ∷ [])) ∙ ap (λ (l : List A). map f l) (sym (take_more xs i d below))

pub at_map : {A B : Type 0} (f : A → B) (xs : List A) (i : ℕ) (d : A) → get_or (map f xs) i (f d) ≡ f (get_or xs i d)
at_map f [] i d = refl
at_map f (x ∷ xs) zero d = refl
at_map f (x ∷ xs) (suc i) d = at_map f xs i d
