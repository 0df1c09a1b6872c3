-- The bytes of the patterns of blocks, and what was made of them.
use Rattle.std.proofs.Common.{◌≡◌, ℕ, zero, suc, ◌+◌, ◌<◌, max, min, List, [], ◌∷◌, ◌++◌, drop, length, get_or, replicate, set, Vec, Global, Result, Ok, Err, sym, ap, subst, ◌∙◌, arith}
use Rattle.std.specs.Prelude.{IfOk}
use Rattle.std.specs.List.{AllByRecursion}
use Rattle.sl_ast.specs.Trees.{Head}
use Rattle.sl_ast.specs.declared.patterns.PatternOp.{PatternOp}
use Rattle.sl_ast.specs.declared.patterns.PatternOp.TheVariants.{And, Then, Or}
use Rattle.sl_spec.specs.Numbers.{AreTold}
use Rattle.sl_spec.proofs.KeyedLemmas.{all_push}
use Rattle.sl_spec_tables.specs.BlockLengths.{AreToldGroups, AreToldRows}
use Rattle.sl_spec_tables.specs.Lengths.{joined_bytes}
use Rattle.sl_spec_tables.specs.Rows as spec
use Rattle.sl_spec_tables.specs.Views.{groups_of, rows_of}
use Rattle.sl_spec_tables.specs.declared.rows.Row.{Row}

pub ok_weaker : {X E : Type 0} (P Q : X → Type 0) → ((x : X) → P x → Q x) → (r : Result X E) → IfOk r P → IfOk r Q
ok_weaker P Q so (Ok x) h = so x h
ok_weaker P Q so (Err e) h = h

-- ---- two patterns joined

same_op : (op other : PatternOp) (m n : ℕ) → op ≡ other → min (joined_bytes other m n) 1025 ≡ min (joined_bytes op m n) 1025
same_op op other m n is = ap (λ o. min (joined_bytes o m n) 1025) (sym is)

pub raised_and : (op : PatternOp) (k m n : ℕ) → op ≡ And → k ≡ min (max (m + 0) n) 1025 → k ≡ min (joined_bytes op m n) 1025
raised_and op k m n is h = (let e : k ≡ min (max m n) 1025 = omega arith in e) ∙ same_op op And m n is

pub raised_or : (op : PatternOp) (k m n : ℕ) → op ≡ Or → k ≡ min (max (m + 0) n) 1025 → k ≡ min (joined_bytes op m n) 1025
raised_or op k m n is h = (let e : k ≡ min (max m n) 1025 = omega arith in e) ∙ same_op op Or m n is

pub raised_then : (op : PatternOp) (k m n : ℕ) → op ≡ Then → k ≡ min (max (m + n) 0) 1025 → k ≡ min (joined_bytes op m n) 1025
raised_then op k m n is h = (let e : k ≡ min (m + n) 1025 = omega arith in e) ∙ same_op op Then m n is

pub joined_other : (op : PatternOp) (m n : ℕ) → joined_bytes op m n ≡ joined_bytes op n m
joined_other And m n = omega arith
joined_other Then m n = omega arith
joined_other Or m n = omega arith

-- ---- what holds of each

pub all_at : {X : Type 0} (P : X → Type 0) (xs : List X) (i : ℕ) (x : X) → AllByRecursion P xs → i < length xs → x ≡ get_or xs i x → P x
all_at P [] i x all below at = absurd (omega arith)
all_at P (y ∷ xs) zero x all below at = subst P (sym at) all.0
all_at P (y ∷ xs) (suc i) x all below at = all_at P xs i x all.1 (omega arith) at

pub all_set : {X : Type 0} (P : X → Type 0) (xs : List X) (i : ℕ) (x : X) → AllByRecursion P xs → P x → AllByRecursion P (set xs i x)
all_set P [] i x all h = tt
all_set P (y ∷ xs) zero x all h = (h, all.1)
all_set P (y ∷ xs) (suc i) x all h = (all.0, all_set P xs i x all.1 h)

-- ---- numbers that tell the heads round constructors

told_none : (head_at : ℕ → Head) (rs : List Row) → rows_of rs ≡ [] → AreToldRows head_at rs
told_none head_at [] is = tt
told_none head_at (r ∷ rs) is = absurd (let e : ⊥ = cc in e)

-- tables without constructors
pub told_empty : (head_at : ℕ → Head) (gs : List (Vec Row Global)) (n : ℕ) → groups_of gs ≡ replicate n [] → AreToldGroups head_at gs
told_empty head_at [] n is = tt
told_empty head_at (g ∷ gs) zero is = absurd (let e : ⊥ = cc in e)
told_empty head_at (g ∷ gs) (suc n) is =
    (told_none head_at g.items (ap (λ (l : List (List spec.Row)). get_or l 0 []) is), told_empty head_at gs n (ap (λ (l : List (List spec.Row)). drop 1 l) is))

-- one constructor more in a table
pub told_put : (head_at : ℕ → Head) (gs : List (Vec Row Global)) (v : ℕ) (old new : Vec Row Global) (r : Row) → v < length gs → old ≡ get_or gs v old
    → new.items ≡ old.items ++ r ∷ [] → AreToldGroups head_at gs → AreTold head_at r.own.now.heads.items → AreToldGroups head_at (set gs v new)
told_put head_at gs v old new r below at is told one =
    let tells = λ (r : Row). AreTold head_at r.own.now.heads.items in
    all_set (λ (g : Vec Row Global). AreToldRows head_at g.items) gs v new told
    (subst (λ (l : List Row). AreToldRows head_at l) (sym is) (all_push tells old.items r (all_at (λ (g : Vec Row Global). AreToldRows head_at g.items) gs v old told below at) one))
