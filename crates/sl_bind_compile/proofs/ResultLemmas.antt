-- Values and errors are told apart.
use Rattle.std.proofs.Common.{◌≡◌, Result, Ok, Err}

pub ok_not_err : {A E : Type 0} (x : A) (e : E) → ◌≡◌ {A = Result A E} (Ok x) (Err e) → ⊥
ok_not_err x e h = absurd (cc)

pub ok_is : {A E : Type 0} (x y : A) → ◌≡◌ {A = Result A E} (Ok x) (Ok y) → x ≡ y
ok_is x y h = cc

pub err_is : {A E : Type 0} (e f : E) → ◌≡◌ {A = Result A E} (Err e) (Err f) → e ≡ f
err_is e f h = cc
