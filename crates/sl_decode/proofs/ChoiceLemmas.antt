-- The choice at a node, by what the chooser answers and by the plan of its constructor.
use Rattle.std.proofs.Common.{◌≡◌, ℕ, Option, None, Some, Result, Ok, Err, sym, ap, subst, ◌∙◌}
use Rattle.std.specs.Prelude.{option_and_then}
use Rattle.sl_decode.specs.Outcomes.{Fails}
use Rattle.sl_decode.specs.declared.outcomes.DecodeError.{DecodeError}
use Rattle.sl_decode.specs.declared.outcomes.DecodeError.TheVariants as e
use Rattle.sl_decode_meaning.specs.Decoding.{Chosen, chosen, with_meaning}
use Rattle.sl_decode_meaning.specs.Meanings.{Meaning}
use Rattle.sl_decode_meaning.specs.Outcomes.{or_fault}
use Rattle.sl_decode_meaning.specs.declared.faults.Fault.{Fault}

was_some : {A : Type 0} (fault : Fault) (o : Option A) (x : A) → or_fault fault o ≡ Ok x → o ≡ Some x
was_some fault None x h = cc
was_some fault (Some y) x h = let same : y ≡ x = cc in ap Some same

with_none : (fault : Fault) (ctor : ℕ) (o : Option Meaning) (error : DecodeError)
    → Fails error (or_fault fault o) → Fails error (or_fault fault (with_meaning ctor o))
with_none fault ctor None (e.Fault other) h = let same : fault ≡ other = cc in ap Err same
with_none fault ctor None e.NoMemory h = tt
with_none fault ctor (Some m) (e.Fault other) h = cc
with_none fault ctor (Some m) e.NoMemory h = tt

module _ (fault : Fault) (says : ℕ → Option Meaning) (answer : Option ℕ) where
  abbrev pub found : Option ℕ → Result Chosen Fault
  found a = or_fault fault (option_and_then (λ ctor. with_meaning ctor (says ctor)) a)

  pub both_found : (ctor : ℕ) (m : Meaning) → or_fault fault answer ≡ Ok ctor
      → or_fault fault (says ctor) ≡ Ok m → found answer ≡ Ok (chosen ctor m)
  both_found ctor m h k =
      ap found (was_some fault answer ctor h)
      ∙ ap (λ o. or_fault fault (with_meaning ctor o)) (was_some fault (says ctor) m k)

  pub none_planned : (ctor : ℕ) (error : DecodeError) → or_fault fault answer ≡ Ok ctor
      → Fails error (or_fault fault (says ctor)) → Fails error (found answer)
  none_planned ctor error h k =
      subst (λ a. Fails error (found a)) (sym (was_some fault answer ctor h))
      (with_none fault ctor (says ctor) error k)

none_chosen_by : (fault : Fault) (says : ℕ → Option Meaning) (answer : Option ℕ) (error : DecodeError)
    → Fails error (or_fault fault answer) → Fails error (found fault says answer answer)
none_chosen_by fault says None (e.Fault other) h = let same : fault ≡ other = cc in ap Err same
none_chosen_by fault says None e.NoMemory h = tt
none_chosen_by fault says (Some ctor) (e.Fault other) h = cc
none_chosen_by fault says (Some ctor) e.NoMemory h = tt

pub none_chosen : (fault : Fault) (says : ℕ → Option Meaning) (answer : Option ℕ) (error : DecodeError)
    → Fails error (or_fault fault answer)
    → Fails error (or_fault fault (option_and_then (λ ctor. with_meaning ctor (says ctor)) answer))
none_chosen fault says answer error h = none_chosen_by fault says answer error h
