-- Two stages, one after the other.
use Rattle.std.proofs.Common.{◌≡◌, None, Some, Result, Ok, Err, sym, ap, subst}
use Rattle.sl_base_surely.proofs.SurelyLemmas.{surely, surely_map, surely_then}
use Rattle.sl_tool_stages.specs.Stage.{Stage, Then, HasOneResult, HasSomeResult}
use Rattle.sl_tool_stages.specs.Stage.Then.{stops, goes}

pub none_is : {A : Type 0} (x : A) → None ≡ Some x → ⊥
none_is x e = absurd (cc)

pub some_is : {A : Type 0} (x y : A) → Some x ≡ Some y → x ≡ y
some_is x y e = cc

pub err_is : {E : Type 0} (B : Type 0) (e d : E) → ◌≡◌ {A = Result B E} (Err e) (Err d) → e ≡ d
err_is B e d h = cc

pub ok_is : {B : Type 0} (E : Type 0) (a b : B) → ◌≡◌ {A = Result B E} (Ok a) (Ok b) → a ≡ b
ok_is E a b h = cc

pub not_both : {E B : Type 0} (e : E) (b : B) → ◌≡◌ {A = Result B E} (Err e) (Ok b) → ⊥
not_both e b h = absurd (cc)

module _ {E A B C : Type 0} (S : Stage E A B) (T : Stage E B C) where
  pub then_one : HasOneResult S → HasOneResult T → HasOneResult (Then S T)
  then_one f g a (Err e) (Err d) (stops h) (stops k) = ap Err (err_is B e d (f a _ _ h k))
  then_one f g a (Err e) q (stops h) (goes {b = b} k t) = absurd (not_both e b (f a _ _ h k))
  then_one f g a r (Err d) (goes {b = b} h t) (stops k) = absurd (not_both d b (f a _ _ k h))
  then_one f g a r q (goes {b = b} h t) (goes {b = c} k u) =
      g b r q t (subst (λ (x : B). T x q) (sym (ok_is E b c (f a _ _ h k))) u)

  then_of : (a : A) → ((b : B) → S a (Ok b) → HasSomeResult T b) → (r : Result B E) → S a r → HasSomeResult (Then S T) a
  then_of a g (Ok b) h = surely_map (λ (q : (r : Result C E) × T b r). let p : (r : Result C E) × Then S T a r = (q.0, goes h q.1) in p) (g b h)
  then_of a g (Err e) h = surely (let p : (r : Result C E) × Then S T a r = (Err e, stops h) in p)

  pub then_some : (a : A) → HasSomeResult S a → ((b : B) → S a (Ok b) → HasSomeResult T b) → HasSomeResult (Then S T) a
  then_some a f g = surely_then f (λ (r : (x : Result B E) × S a x). then_of a g r.0 r.1)

-- two stages whose second one has results that are alike
pub then_alike : {E A B C : Type 0} (S : Stage E A B) (T : Stage E B C) (Alike : Result C E → Result C E → Type 0) → HasOneResult S
    → ((e : E) → Alike (Err e) (Err e)) → ((b : B) (r q : Result C E) → T b r → T b q → Alike r q)
    → (a : A) (r q : Result C E) → Then S T a r → Then S T a q → Alike r q
then_alike {B = B} {C = C} S T Alike f same g a (Err e) (Err d) (stops h) (stops k) =
    subst (λ x. Alike (Err e) (Err x)) (err_is B e d (f a _ _ h k)) (same e)
then_alike S T Alike f same g a (Err e) q (stops h) (goes {b = b} k t) = absurd (not_both e b (f a _ _ h k))
then_alike S T Alike f same g a r (Err d) (goes {b = b} h t) (stops k) = absurd (not_both d b (f a _ _ k h))
then_alike {E = E} {B = B} S T Alike f same g a r q (goes {b = b} h t) (goes {b = c} k u) =
    g b r q t (subst (λ (x : B). T x q) (sym (ok_is E b c (f a _ _ h k))) u)
