-- What was made of blocks is right for their heads.
use Rattle.std.proofs.Common.{◌≡◌, ℕ, zero, suc, ◌<◌, Bool, true, false, cond, List, [], ◌∷◌, length, get_or, Option, Some, refl, sym, subst, ap, ◌∙◌, arith}
use Rattle.std.proofs.lemmas.Cmp.{ranked}
use Rattle.std.specs.Ordering.{is_eq, nat_cmp}
use Rattle.std.specs.Prelude.{unwrap_or}
use Rattle.std.specs.declared.cmp.Ordering.{Ordering}
use Rattle.std.specs.declared.cmp.Ordering.TheVariants.{Less, Equal, Greater}
use Rattle.sl_ast.specs.Trees.{Head}
use Rattle.sl_ast.specs.Views.{head_of}
use Rattle.sl_spec.specs.Numbers.{AreMade, AreTold, AreToldOf, is_number, made_of}
use Rattle.sl_spec.specs.declared.unfolded.Around.{Around}
use Rattle.sl_spec.specs.declared.unfolded.Unfolded.{Unfolded}

-- one block of those that are told
pub told_at : (head_at : ℕ → Head) (blocks : List Around) (i : ℕ) (a : Around) → i < length blocks → a ≡ get_or blocks i a
    → AreTold head_at blocks → head_at a.number ≡ head_of a.head.now
told_at head_at [] i a below at told = absurd (omega arith)
told_at head_at (b ∷ bs) zero a below at told = subst (λ (x : Around). head_at x.number ≡ head_of x.head.now) (sym at) told.0
told_at head_at (b ∷ bs) (suc i) a below at told = told_at head_at bs i a (omega arith) at told.1

-- those round one constructor
pub told_round : (head_at : ℕ → Head) (us : List Unfolded) (i : ℕ) (u : Unfolded) → i < length us → u ≡ get_or us i u
    → AreToldOf head_at us → AreTold head_at u.heads.items
told_round head_at [] i u below at told = absurd (omega arith)
told_round head_at (v ∷ vs) zero u below at told = subst (λ (x : Unfolded). AreTold head_at x.heads.items) (sym at) told.0
told_round head_at (v ∷ vs) (suc i) u below at told = told_round head_at vs i u (omega arith) at told.1

same_number : (k n : ℕ) (o : Ordering) → nat_cmp k n ≡ o → is_eq o ≡ true → k ≡ n
same_number k n Less is e = absurd (cc e)
same_number k n Equal is e = ranked k n Equal (sym is)
same_number k n Greater is e = absurd (cc e)

some_inj : {V : Type 0} {v w : V} → Some v ≡ Some w → v ≡ w
some_inj {V} {v} {w} e = ap (λ (o : Option V). unwrap_or o v) e

module _ {V : Type 0} (IsRight : Head → V → Type 0) (head_at : ℕ → Head) (a : Around) (told : head_at a.number ≡ head_of a.head.now) where
  -- what is found of a block
  pub found_right : (made : List (ℕ × V)) (v : V) → AreMade IsRight head_at made → made_of made a.number ≡ Some v → IsRight (head_of a.head.now) v
  found_right made v right found = subst (λ (h : Head). IsRight h v) told (right a.number v found)

  -- what was put of a block
  pub put_right : (old new : List (ℕ × V)) (v : V) → ((n : ℕ) → made_of new n ≡ cond (is_number a.number n) (Some v) (made_of old n))
      → AreMade IsRight head_at old → IsRight (head_of a.head.now) v → AreMade IsRight head_at new
  put_right old new v put right mine n w found =
      by_test (is_number a.number n) refl (sym (put n) ∙ found)
    where
      by_test : (b : Bool) → is_number a.number n ≡ b → cond (is_number a.number n) (Some v) (made_of old n) ≡ Some w → IsRight (head_at n) w
      by_test true e is =
          let same : v ≡ w = some_inj (ap (λ (b : Bool). cond b (Some v) (made_of old n)) (sym e) ∙ is) in
          subst (λ (x : V). IsRight (head_at n) x) same
          (subst (λ (k : ℕ). IsRight (head_at k) v) (same_number a.number n (nat_cmp a.number n) refl e) (subst (λ (h : Head). IsRight h v) (sym told) mine))
      by_test false e is = right n w (ap (λ (b : Bool). cond b (Some v) (made_of old n)) (sym e) ∙ is)
