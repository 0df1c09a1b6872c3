-- The search for a region whose lists meet demands, cube by cube.
use Rattle.std.proofs.Common.{◌≡◌, ℕ, ◌+◌, ◌<◌, ◌≤◌, List, [], ◌∷◌, length, get_or, below_more, Option, Some, None, true, false, arith, sym, ◌∙◌, subst}
use Rattle.std.specs.Prelude.{MatchOption}
use Rattle.std.specs.Option.{is_some}
use Rattle.std.specs.List.{HoldsAt}
use Rattle.std.proofs.lemmas.List.Elements.{at_read}
use Rattle.sl_asm_fit.specs.Demands.{IsSolution, MeetAll}
use Rattle.sl_asm_fit.specs.Regions.{IsOf, IsOpen, Misses, Narrows}
use Rattle.sl_asm_fit.specs.Solving.{IsDead, IsHopeless, Solves, SolvesBy}
use Rattle.sl_asm_fit.specs.declared.Cell.{Cell}
use Rattle.sl_asm_fit.specs.declared.solving.Demand.{Demand}
use Rattle.sl_cube.specs.declared.Cube.{Cube}

-- ---- the cubes of a demand

abbrev pub FirstDead : List Cell → ℕ → ℕ → List Demand → List Cube → ℕ → Type 0
FirstDead region context at rest cubes n = (k : ℕ) → k < n → HoldsAt (λ c. IsDead region context at c rest) cubes k

pub dead_none : (region : List Cell) (context at : ℕ) (rest : List Demand) (cubes : List Cube) → FirstDead region context at rest cubes 0
dead_none region context at rest cubes = λ k below. absurd (omega (arith, below))

pub dead_more : (region : List Cell) (context at : ℕ) (rest : List Demand) (cubes : List Cube) (n : ℕ) (c : Cube) → n < length cubes → c ≡ get_or cubes n c
    → IsDead region context at c rest → FirstDead region context at rest cubes n → FirstDead region context at rest cubes (n + 1)
dead_more region context at rest cubes n c below is dead f =
    below_more (λ k. HoldsAt (λ (x : Cube). IsDead region context at x rest) cubes k) n f (at_read cubes (λ (x : Cube). IsDead region context at x rest) n c below is dead)

pub all_dead : (region : List Cell) (context : ℕ) (d : Demand) (rest ds : List Demand) (n : ℕ) → ds ≡ d ∷ rest → length d.cubes.items ≤ n
    → FirstDead region context d.at rest d.cubes.items n → IsHopeless region context ds
all_dead region context d rest ds n e all f = λ xs inside meets.
    let both = subst (λ (l : List Demand). MeetAll context xs l) e meets in
    let some = both.0 in
    let lt : some.0 < n = omega (arith, some.2, all) in
    subst (λ (c : Cube). IsDead region context d.at c rest) some.3 (f some.0 lt some.1) xs inside some.4 both.1

cube_found : (region : List Cell) (context : ℕ) (d : Demand) (rest ds : List Demand) (n : ℕ) (c : Cube) (narrow : List Cell) → ds ≡ d ∷ rest
    → n < length d.cubes.items → c ≡ get_or d.cubes.items n c → SolvesBy region context d.at c rest narrow → Solves region context ds narrow
cube_found region context d rest ds n c narrow e below is s = record {
  within = s.within;
  meets = λ xs h. subst (λ (l : List Demand). MeetAll context xs l) (sym e) ((n, c, below, sym is, s.reads xs h), s.meets xs h);
}

pub none_left : (region : List Cell) (context : ℕ) (ds : List Demand) → ds ≡ [] → Solves region context ds region
none_left region context ds e = record { within = λ xs h. h; meets = λ xs h. subst (λ (l : List Demand). MeetAll context xs l) (sym e) tt }

-- ---- what a narrower region gives

pub dead_missed : (region : List Cell) (context at : ℕ) (cube : Cube) (rest : List Demand) → Misses region at context cube → IsDead region context at cube rest
dead_missed region context at cube rest misses = λ xs h reads meets. misses xs h reads

pub tried_is : {X : Type 0} (items : X → List Cell) (answer : Option X) (region : List Cell) (context at : ℕ) (cube : Cube) (cells : List Cell) (rest : List Demand)
    → Narrows region at context cube cells → MatchOption answer (IsHopeless cells context rest) (λ x. Solves cells context rest (items x))
    → MatchOption answer (IsDead region context at cube rest) (λ x. SolvesBy region context at cube rest (items x))
tried_is items None region context at cube cells rest n hopeless = λ xs h reads meets. hopeless xs (n.all xs h reads) meets
tried_is items (Some found) region context at cube cells rest n s = record {
  within = λ xs h. n.within xs (s.within xs h);
  reads = λ xs h. n.reads xs (s.within xs h);
  meets = s.meets;
}

-- ---- answers

pub answer_found : {X : Type 0} (items : X → List Cell) (answer : Option X) (region : List Cell) (context : ℕ) (d : Demand) (rest ds : List Demand) (n : ℕ) (c : Cube)
    → ds ≡ d ∷ rest → n < length d.cubes.items → c ≡ get_or d.cubes.items n c → true ≡ is_some answer
    → MatchOption answer (IsDead region context d.at c rest) (λ x. SolvesBy region context d.at c rest (items x))
    → MatchOption answer (IsHopeless region context ds) (λ x. Solves region context ds (items x))
answer_found items None region context d rest ds n c e below is some h = absurd (cc)
answer_found items (Some x) region context d rest ds n c e below is some h = cube_found region context d rest ds n c (items x) e below is h

pub answer_dead : {X : Type 0} (items : X → List Cell) (answer : Option X) (region : List Cell) (context at : ℕ) (cube : Cube) (rest : List Demand)
    → false ≡ is_some answer → MatchOption answer (IsDead region context at cube rest) (λ x. SolvesBy region context at cube rest (items x))
    → IsDead region context at cube rest
answer_dead items None region context at cube rest none h = h
answer_dead items (Some x) region context at cube rest none h = absurd (cc)

pub solved : (n context : ℕ) (ds : List Demand) (region cells : List Cell) (bytes : List ℕ) → IsOpen n region → Solves region context ds cells → IsOf cells bytes
    → IsSolution n context ds bytes
solved n context ds region cells bytes whole s inside =
    let of_region = s.within bytes inside in
    record { long = of_region.long ∙ whole.long; are_bytes = of_region.are_bytes; meets = s.meets bytes inside }

pub none_solved : (n context : ℕ) (ds : List Demand) (region : List Cell) → IsOpen n region → IsHopeless region context ds
    → (bytes : List ℕ) → IsSolution n context ds bytes → ⊥
none_solved n context ds region whole hopeless bytes s = hopeless bytes (whole.all bytes s.long s.are_bytes) s.meets
