use Rattle.std.proofs.Common.{◌≡◌, ℕ, ◌+◌, ◌-◌, List, take, drop, arith, ap, rules, ◌∙◌}
use Rattle.sl_lex.specs.Bytes.{number}
use Rattle.sl_lex.proofs.StandLemmas.{integer_at, wide_at}
use Rattle.sl_lex.proofs.lexemes.integer.Goals as goal

-- the slice from one place to a later one
between : (base mark count : ℕ) (text : List ℕ) → number base (take count (drop mark text)) ≡ number base (take (mark + count - mark) (drop mark text))
between base mark count text =
    let same : count ≡ mark + count - mark = omega arith in ap (λ (n : ℕ). number base (take n (drop mark text))) same

pub returns-in-Some : goal.returns-in-Some
returns-in-Some c = λ mode outside. (
  integer_at mode c.args.text.now c.digits_of-base.result.0 c.digits_of-base.result.1 c.digits_of-base.result.2 c.in-Some.value outside c.requires
      c.digits_of-base.ensures (between c.digits_of-base.result.0 c.digits_of-base.result.1 c.digits_of-base.result.2 c.args.text.now ∙ c.in-Some.ensures.value),
  search rules,
)

pub returns-in-None : goal.returns-in-None
returns-in-None c = λ mode outside.
    wide_at mode c.args.text.now c.digits_of-base.result.0 c.digits_of-base.result.1 c.digits_of-base.result.2 _ outside c.requires
    c.digits_of-base.ensures (between c.digits_of-base.result.0 c.digits_of-base.result.1 c.digits_of-base.result.2 c.args.text.now) c.in-None.ensures.wide
