-- What a table chooses is one of its constructors.
use Rattle.std.proofs.Common.{ℕ, Option, Some, subst}
use Rattle.sl_faithful_accepted.specs.Laws.{ChoicesAreOwn}
use Rattle.sl_decode_choices.specs.Choices.{Chooses, in_range}
use Rattle.sl_conflict.proofs.NumberLemmas.{numbers_are_of}
use Rattle.sl_shape.specs.Readings.{HasPoint}

pub choices_are_own : ChoicesAreOwn
choices_are_own t cs choose is_choice table p number is =
    let chosen : Chooses t cs table (in_range p) (Some number) =
    subst (λ (o : Option ℕ). Chooses t cs table (in_range p) o) is (is_choice table p) in
    let of = numbers_are_of t.constructors (HasPoint t cs) table number chosen.has_point.0 (in_range p)
    chosen.has_point.1 chosen.has_point.2 in
    record { ctor = of.ctor; there = of.ctor_is; is_of = of.of_table }
