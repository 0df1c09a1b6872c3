-- The first tokens of items, gathered one item after another.
use Rattle.std.proofs.Common.{◌≡◌, ℕ, ◌+◌, ◌<◌, ◌≤◌, List, [], ◌∷◌, ◌++◌, Result, Ok, Err, length, get_or, drop, map, sym, ap, ◌∙◌, append_assoc, append-nil}
use Rattle.std.proofs.lemmas.List.{drop_more}
use Rattle.std.proofs.Math.ListN.{drop_of_length-le}
use Rattle.std.specs.Global.{Vec}
use Rattle.std.specs.Prelude.{IfOk}
use Rattle.sl_ast.specs.Views.{inner_indexes, inner_indexes_step, joined_lists}
use Rattle.sl_ast.specs.declared.constructors.Head.{Head}
use Rattle.sl_ast.specs.declared.constructors.Inner as n
use Rattle.sl_ast.specs.declared.constructors.Inner.{Inner}
use Rattle.sl_ast.specs.declared.constructors.Inner.TheFolds.{fold-roll-Inner}
use Rattle.sl_ast.specs.declared.constructors.Inner.TheOpen.{Inner-F}
use Rattle.sl_ast.specs.declared.constructors.Inner.TheVariants.{rolls-With}
use Rattle.sl_store_text.specs.Firsts.{indexes_in}

module _ {X : Type 0} (f : X → List ℕ) (start : List ℕ) (xs : List X) where
  -- what is there after the first i of them, and what the others add, is all
  abbrev pub IsJoined : List ℕ → ℕ → Type 0
  IsJoined now i = now ++ joined_lists (map f (drop i xs)) ≡ start ++ joined_lists (map f xs)

  pub joins : (now next : List ℕ) (i : ℕ) (x : X) → i < length xs → x ≡ get_or xs i x → next ≡ now ++ f x → IsJoined now i → IsJoined next (i + 1)
  joins now next i x below at is so_far =
      let rest : drop i xs ≡ x ∷ drop (i + 1) xs = drop_more xs i x below ∙ ap (λ (z : X). z ∷ drop (i + 1) xs) (sym at) in
      let later = joined_lists (map f (drop (i + 1) xs)) in
      let here : now ++ joined_lists (map f (drop i xs)) ≡ (now ++ f x) ++ later =
      ap (λ (ys : List X). now ++ joined_lists (map f ys)) rest ∙ sym (append_assoc now (f x) later) in
      ap (λ (l : List ℕ). l ++ later) is ∙ sym here ∙ so_far

  pub all_joined : (now : List ℕ) (i : ℕ) → length xs ≤ i → IsJoined now i → now ≡ start ++ joined_lists (map f xs)
  all_joined now i end so_far =
      let none : drop i xs ≡ [] = drop_of_length-le xs end in
      let here : now ++ joined_lists (map f (drop i xs)) ≡ now = ap (λ (l : List X). now ++ joined_lists (map f l)) none ∙ append-nil now in
      sym here ∙ so_far

-- a block, by its shape
block_indexes : (first : ℕ) (h : Head) (inside : Vec Inner) → indexes_in (n.With first h inside) ≡ first ∷ inner_indexes inside.items
block_indexes first h inside = ap indexes_in (sym (rolls-With first h inside)) ∙ fold-roll-Inner (List ℕ) inner_indexes_step (Inner-F.With first h inside)

-- a block's first token and then those inside it were added
pub adds_block : (first : ℕ) (h : Head) (inside : Vec Inner) (parts : List Inner) (old between new : List ℕ) → parts ≡ inside.items
    → between ≡ old ++ first ∷ [] → new ≡ between ++ inner_indexes parts → new ≡ old ++ indexes_in (n.With first h inside)
adds_block first h inside parts old between new listed pushed is =
    is ∙ ap (λ (l : List ℕ). l ++ inner_indexes parts) pushed
    ∙ append_assoc old (first ∷ []) (inner_indexes parts)
    ∙ ap (λ (ps : List Inner). old ++ first ∷ inner_indexes ps) listed
    ∙ ap (λ (l : List ℕ). old ++ l) (sym (block_indexes first h inside))

-- an item's first token and then those inside it were added
pub adds_item : {A E : Type 0} (first : ℕ) (inside parts : List Inner) (old between new : List ℕ) (r : Result A E) → parts ≡ inside
    → between ≡ old ++ first ∷ [] → IfOk r (λ _. new ≡ between ++ inner_indexes parts) → IfOk r (λ _. new ≡ old ++ first ∷ inner_indexes inside)
adds_item first inside parts old between new (Ok x) listed pushed is =
    is ∙ ap (λ (l : List ℕ). l ++ inner_indexes parts) pushed
    ∙ append_assoc old (first ∷ []) (inner_indexes parts)
    ∙ ap (λ (ps : List Inner). old ++ first ∷ inner_indexes ps) listed
adds_item first inside parts old between new (Err e) listed pushed is = tt
