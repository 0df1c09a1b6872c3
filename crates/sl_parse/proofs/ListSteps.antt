-- A round of a list that is read part by part.
use Rattle.std.proofs.Common.{◌≡◌, ℕ, suc, Bool, true, List, [], ◌∷◌, ◌++◌, Option, Ok, Err, refl, sym, ap, subst}
use Rattle.sl_ast.specs.Symbols.{Sym}
use Rattle.sl_ast.specs.declared.symbols.Mark.TheVariants as m
use Rattle.sl_parse_grammar.specs.Lists.{many_from, separated_from}
use Rattle.sl_parse_grammar.specs.Reader.{Fault, Input, Outcome, Reader, first, next, is_mark, refuse}
use Rattle.sl_parse_phrases.specs.Reads.{IsFault, Refuses, Stops}
use Rattle.sl_parse_phrases.specs.declared.stop.Stop as s
use Rattle.sl_parse_phrases.specs.declared.stop.Stop.TheVariants as sv

pub stops_along : {A : Type 0} (o p : Outcome A) (e : s.Stop) → o ≡ p → Stops p e → Stops o e
stops_along o p e same h = let P : Outcome _ → Type 0 = λ x. Stops x e in subst P (sym same) h

-- a refusal is a stop
pub refused_stops : {A : Type 0} (o : Outcome A) (e : s.Stop) → Refuses o e → Stops o e
refused_stops o sv.NoMemory h = absurd h
refused_stops o (sv.At form left) h = h

pub many_stops : {A : Type 0} (goes : Option Sym → Bool) (p : Reader A) (n : ℕ) (found : List A) (i : Input) (e : s.Stop) → goes (first i.rest) ≡ true
    → Stops (p i) e → Stops (many_from goes p (suc n) found i) e
unfolding many_from
many_stops goes p n found i sv.NoMemory on h = tt
many_stops goes p n found i (sv.At form left) on h = rw (on, h) refl

pub many_goes : {A : Type 0} (goes : Option Sym → Bool) (p : Reader A) (n : ℕ) (found : List A) (i : Input) (a : A) (j : Input) → goes (first i.rest) ≡ true
    → p i ≡ Ok (a, j) → many_from goes p (suc n) found i ≡ many_from goes p n (found ++ a ∷ []) j
unfolding many_from
many_goes goes p n found i a j on e = rw (on, e) refl

pub separated_stops : {A : Type 0} (p : Reader A) (n : ℕ) (found : List A) (i : Input) (e : s.Stop) → Stops (p i) e → Stops (separated_from p (suc n) found i) e
unfolding separated_from
separated_stops p n found i sv.NoMemory h = tt
separated_stops p n found i (sv.At form left) h = rw h refl

pub separated_goes : {A : Type 0} (p : Reader A) (n : ℕ) (found : List A) (i : Input) (a : A) (j : Input) → p i ≡ Ok (a, j) → is_mark m.Comma (first j.rest) ≡ true
    → separated_from p (suc n) found i ≡ separated_from p n (found ++ a ∷ []) (next j)
unfolding separated_from
separated_goes p n found i a j e on = rw (e, on) refl

pub many_over : {A : Type 0} (goes : Option Sym → Bool) (p : Reader A) (found : List A) (i : Input) → many_from goes p 0 found i ≡ refuse i
unfolding many_from
many_over goes p found i = refl

pub fault_stops : (A : Type 0) (e : Fault) (x : s.Stop) → IsFault e x → let refused : Outcome A = Err e in Stops refused x
fault_stops A e sv.NoMemory h = absurd h
fault_stops A e (sv.At form n) h = ap (λ f. Err f) (sym h)
