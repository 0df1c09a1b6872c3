-- Lists of operations, one more at a time.
use Rattle.std.proofs.Common.{◌≡◌, ℕ, ◌+◌, ◌<◌, List, length, get_or, Some, refl, sym, ap, subst, ◌∙◌, inl, inr, arith}
use Rattle.std.specs.Prelude.{slice_get}
use Rattle.std.proofs.lemmas.Bool.{cases_lt}
use Rattle.std.proofs.lemmas.Option.{slice_get_read}
use Rattle.sl_pcode.specs.declared.operation.Op.{Op}
use Rattle.sl_pcode.specs.WellFormed.{StaysInside, StayInsideTo}

-- one more operation whose jump stays inside
pub stay_more : (ops : List Op) (at : ℕ) (op : Op) → at < length ops → op ≡ get_or ops at op → StaysInside at (length ops) op → StayInsideTo at ops → StayInsideTo (at + 1) ops
stay_more ops at op inside read good before k x below is =
    elim (cases_lt k at) [
      | inl less ↦ before k x less is
      | inr here ↦
          let e : k ≡ at = omega arith in
          let found : slice_get ops at ≡ Some op = slice_get_read ops (length ops) at op refl inside read in
          let again : slice_get ops at ≡ Some x = ap (slice_get ops) (sym e) ∙ is in
          let same : op ≡ x = cc in
          subst (λ (n : ℕ). StaysInside n (length ops) x) (sym e) (subst (λ (o : Op). StaysInside at (length ops) o) same good)
    ]
