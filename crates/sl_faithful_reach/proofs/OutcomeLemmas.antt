-- Moments one behind the other.
use Rattle.std.proofs.Common.{◌≡◌, Option, Some, None, Result, Ok, Err, refl, ap, ◌∙◌}
use Rattle.std.proofs.Math.Path.{fun_ext}
use Rattle.sl_decode_meaning.specs.Outcomes.{◌>>=◌, or_fault}
use Rattle.sl_decode_meaning.specs.declared.faults.Fault.{Fault}

abbrev pub ok_or : {A : Type 0} → A → Result A Fault → A
ok_or x (Ok y) = y
ok_or x (Err fault) = x

pub same_ok : {A : Type 0} (x y : A) → ◌≡◌ {A = Result A Fault} (Ok x) (Ok y) → x ≡ y
same_ok x y is = ap (ok_or x) is

pub came : {A B : Type 0} (r : Result A Fault) (next : A → Result B Fault) (b : B)
    → (r >>= next) ≡ Ok b → (a : A) × (r ≡ Ok a) × (next a ≡ Ok b)
came (Ok a) next b is = (a, refl, is)
came (Err fault) next b is = absurd (cc)

pub goes : {A B : Type 0} (r : Result A Fault) (next : A → Result B Fault) (a : A) (b : B)
    → r ≡ Ok a → next a ≡ Ok b → (r >>= next) ≡ Ok b
goes r next a b is then_so = ap (λ r. r >>= next) is ∙ then_so

pub then_alike : {A B : Type 0} (r q : Result A Fault) (next after : A → Result B Fault) → r ≡ q
    → ((a : A) → next a ≡ after a) → (r >>= next) ≡ (q >>= after)
then_alike r q next after same each = λ i. same i >>= fun_ext each i

pub was_some : {A : Type 0} (fault : Fault) (found : Option A) (x : A)
    → or_fault fault found ≡ Ok x → found ≡ Some x
was_some fault (Some y) x is = ap (λ r. Some (ok_or y r)) is
was_some fault None x is = absurd (cc)
