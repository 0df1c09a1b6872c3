-- The weight of statements, one after another.
use Rattle.std.proofs.Common.{◌≡◌, ℕ, zero, suc, ◌+◌, ◌<◌, ◌≤◌, min, List, [], ◌∷◌, ◌++◌, length, get_or, map, take, sum_by, Option, Some, None, refl, sym, ap, ◌∙◌, arith}
use Rattle.std.specs.Prelude.{fold, slice_get}
use Rattle.std.proofs.lemmas.List.{map_push, take_all, take_more}
use Rattle.std.proofs.lemmas.List.Sums.{fold-append, sum_by-cons}
use Rattle.sl_ast.specs.Trees.{Statement, local, declare, assign, goto, branch, call_to, return, build, export, invoke, label}
use Rattle.sl_base_graphs.proofs.Seen.{at_map}
use Rattle.sl_section_resolve.specs.Steps.{body_of, macro_name}
use Rattle.sl_section_resolve.specs.Macros.{Body}
use Rattle.sl_spec.specs.Named.{index_named}
use Rattle.sl_spec_tables.specs.Lengths.{put_together}
use Rattle.sl_section_weights.specs.Sizes.{statement_size}
use Rattle.sl_section_weights.specs.Weights.{body_weight, call_weight, macro_weights, number_at, tokens, with_macro}
use Rattle.sl_spec_tables.proofs.CapLemmas.{maps_alike, sum_keeps}
use Rattle.sl_spec_tables.proofs.PositionLemmas.{at_slice}
use Rattle.sl_section_weights.proofs.SizeLemmas.{tokens_more}

abbrev pub cut : ℕ → ℕ
cut n = min n 65537

-- a statement's tokens and the weight of the macro that it calls
abbrev pub statement_weight : List Body → List ℕ → Statement → ℕ
statement_weight macros weights s = statement_size s + call_weight macros weights s

body_from : (macros : List Body) (weights : List ℕ) (n : ℕ) (body : List Statement)
    → n + body_weight macros weights body ≡ put_together (λ a b. a + b) n (map (statement_weight macros weights) body)
unfolding tokens
body_from macros weights n [] = omega arith
body_from macros weights n (s ∷ body) =
    omega (arith, tokens_more s body, sum_by-cons (call_weight macros weights) s body, body_from macros weights (n + statement_weight macros weights s) body)

pub body_as : (macros : List Body) (weights : List ℕ) (body : List Statement)
    → body_weight macros weights body ≡ put_together (λ a b. a + b) 0 (map (statement_weight macros weights) body)
body_as macros weights body = let e = body_from macros weights 0 body in omega arith

number_alike : (weights : List ℕ) (i : Option ℕ) → cut (number_at (map cut weights) i) ≡ cut (number_at weights i)
number_alike weights None = refl
number_alike weights (Some i) = let e = at_map cut weights i 0 in omega arith

call_alike : (macros : List Body) (weights : List ℕ) (s : Statement) → cut (call_weight macros (map cut weights) s) ≡ cut (call_weight macros weights s)
call_alike macros weights (local w size value) = refl
call_alike macros weights (declare w n e) = refl
call_alike macros weights (assign left e) = refl
call_alike macros weights (goto to) = refl
call_alike macros weights (branch e to) = refl
call_alike macros weights (call_to to) = refl
call_alike macros weights (return e) = refl
call_alike macros weights (build w) = refl
call_alike macros weights (export what) = refl
call_alike macros weights (invoke w es) = number_alike weights (index_named macro_name w macros)
call_alike macros weights (label w) = refl

-- the weights of macros count up to the cap alone
pub body_alike : (macros : List Body) (weights : List ℕ) (body : List Statement) → cut (body_weight macros (map cut weights) body) ≡ cut (body_weight macros weights body)
body_alike macros weights body =
    ap cut (body_as macros (map cut weights) body)
    ∙ maps_alike 65537 (λ a b. a + b) (sum_keeps 65537) (statement_weight macros (map cut weights)) (statement_weight macros weights) body 0 0
    (λ k d below. let e = call_alike macros weights (get_or body k d) in omega arith) refl
    ∙ ap cut (sym (body_as macros weights body))

-- one macro more
pub macro_more : (macros : List Body) (weights : List ℕ) (now : List ℕ) (m : Body) (n : ℕ) → now ≡ map cut weights → n ≡ cut (body_weight macros now (body_of m))
    → now ++ n ∷ [] ≡ map cut (with_macro macros weights m)
macro_more macros weights now m n is at =
    ap (λ (l : List ℕ). l ++ n ∷ []) is
    ∙ ap (λ k. map cut weights ++ k ∷ []) (at ∙ ap (λ (l : List ℕ). cut (body_weight macros l (body_of m))) is ∙ body_alike macros weights (body_of m))
    ∙ sym (map_push cut weights (body_weight macros weights (body_of m)))

pub macros_more : (macros : List Body) (now : List ℕ) (i n : ℕ) (m : Body) → i < length macros → slice_get macros i ≡ Some m
    → now ≡ map cut (fold (with_macro macros) [] (take i macros)) → n ≡ cut (body_weight macros now (body_of m))
    → now ++ n ∷ [] ≡ map cut (fold (with_macro macros) [] (take (i + 1) macros))
macros_more macros now i n m below at is at_n =
    macro_more macros (fold (with_macro macros) [] (take i macros)) now m n is at_n
    ∙ ap (map cut) (sym (fold-append (with_macro macros) [] (take i macros) (m ∷ [])))
    ∙ ap (λ (l : List Body). map cut (fold (with_macro macros) [] l))
    (ap (λ (x : Body). take i macros ++ x ∷ []) (at_slice macros i m at) ∙ sym (take_more macros i m below))

pub all_macros : (macros : List Body) (now : List ℕ) (i : ℕ) → length macros ≤ i → now ≡ map cut (fold (with_macro macros) [] (take i macros)) → now ≡ map cut (macro_weights macros)
unfolding macro_weights
all_macros macros now i end is = is ∙ ap (λ (l : List Body). map cut (fold (with_macro macros) [] l)) (take_all i macros end)
