-- The lines of a list of changes tell the changes of all spaces.
use Rattle.std.proofs.Common.{◌≡◌, ◌≢◌, ℕ, zero, suc, ◌+◌, ◌^◌, ◌<◌, ◌≤◌, ◌⊎◌, inl, inr, Bool, true, false, List, []}
use Rattle.std.proofs.Common.{◌∷◌, ◌++◌, length, get_or, cond, refl, sym, ap, subst, ◌∙◌, append_assoc, arith}
use Rattle.std.specs.List.{All, AllPairs, Contains}
use Rattle.std.specs.Prelude.{◌==◌, if◌then◌else◌, slice_get, Some}
use Rattle.std.proofs.lemmas.Bool.Decides.{eqb_tells}
use Rattle.std.proofs.lemmas.Bool.{cases_lt, eq-eqb, eqb-true, false≢true}
use Rattle.std.proofs.lemmas.List.Elements.{All-head, All-tail}
use Rattle.sl_step_run.specs.RunLines.{TellsChanges, TellsSpaceBy, TellsSpaces, change_line, next, no_more, no_spaces}
use Rattle.sl_step_run.specs.RunLines.{space}
use Rattle.sl_step_run.specs.Told.{told_by, told_in, told_lines}
use Rattle.sl_spec.specs.Tables.{Space}
use Rattle.sl_spec.specs.declared.definitions.SpaceKind.{SpaceKind}
use Rattle.sl_spec.specs.declared.definitions.SpaceKind.TheVariants as kind
use Rattle.sl_word.specs.Bytes.{byte_at}
use Rattle.sl_word.specs.Changes.{ListsChanges, Precedes, change_of}
use Rattle.sl_word.specs.declared.state.Change.{Change}
use Rattle.sl_word.specs.declared.state.State.{State}
use Rattle.sl_word.proofs.Powers.{bytes_mono}

abbrev InOrder : Change → Change → Type 0
InOrder a b = Precedes a.space.0 a.offset b.space.0 b.offset

not_in_none : (x : Change) → Contains [] x → ⊥
not_in_none x h = absurd (omega (arith, h.1))

first_or_later : (c : Change) (cs : List Change) (x : Change) (k : ℕ) → k < length (c ∷ cs) → get_or (c ∷ cs) k x ≡ x
    → (c ≡ x) ⊎ Contains cs x
first_or_later c cs x zero below is = inl is
first_or_later c cs x (suc k) below is = inr (k, omega (arith, below), is)

later_order : (c : Change) (cs : List Change) (j : ℕ) (d : Change) → AllPairs InOrder (c ∷ cs) → j < length cs
    → InOrder c (get_or cs j d)
later_order c cs j d ordered below = ordered 0 (suc j) d (omega arith) (omega (arith, below))

rest_ordered : (c : Change) (cs : List Change) → AllPairs InOrder (c ∷ cs) → AllPairs InOrder cs
rest_ordered c cs ordered = λ i j d less below. ordered (suc i) (suc j) d (omega (arith, less)) (omega (arith, below))

-- ---- the changes of one space

module _ (number : ℕ) (s : Space) where
  -- the lines of the changes of the space
  abbrev pub lines_of : List Change → List ℕ
  lines_of [] = []
  lines_of (c ∷ cs) = (if c.space.0 == number then change_line s c.offset c.byte else []) ++ lines_of cs

  -- none are of the space, where all are of later ones
  lines_by : (c : Change) (cs : List Change) (b : Bool) → (c.space.0 == number) ≡ b → number < c.space.0
      → lines_of cs ≡ [] → cond b (change_line s c.offset c.byte) [] ++ lines_of cs ≡ []
  lines_by c cs true e later rest = absurd (let at = eqb-true c.space.0 number e in omega (arith, at, later))
  lines_by c cs false e later rest = rest

  pub lines_none : (cs : List Change) → All (λ (c : Change). number < c.space.0) cs → lines_of cs ≡ []
  lines_none [] later = refl
  lines_none (c ∷ cs) later =
      lines_by c cs (c.space.0 == number) refl (All-head (λ (c : Change). number < c.space.0) c cs later)
      (lines_none cs (All-tail (λ (c : Change). number < c.space.0) c cs later))

module _ (number : ℕ) (s : Space) (old new : ℕ → ℕ) where
  -- A change of the space, from this offset on.
  abbrev pub IsOf : ℕ → Change → Type 0
  IsOf from c =
      c.space.0 ≡ number → (from ≤ c.offset) × (c.offset < 256 ^ s.size) × (old c.offset ≢ new c.offset) ×
      (c.byte ≡ new c.offset)

  -- All changes of the space from this offset on are among these.
  abbrev pub AreAll : ℕ → List Change → Type 0
  AreAll from cs = (k : ℕ) → from ≤ k → k < 256 ^ s.size → old k ≢ new k → Contains cs (change_of number k (new k))

  abbrev Changes : ℕ → List ℕ → Type 0
  Changes from text = TellsChanges s old new from text

  -- a change of the space that is among those behind one lies behind it
  lies_behind : (c : Change) (cs : List Change) (k byte : ℕ) → c.space.0 ≡ number → AllPairs InOrder (c ∷ cs)
      → Contains cs (change_of number k byte) → c.offset < k
  lies_behind c cs k byte here ordered h =
      let there = later_order c cs h.0 (change_of number k byte) ordered h.1 in
      let order : InOrder c (change_of number k byte) = subst (λ (e : Change). InOrder c e) h.2 there in
      elim order [
        | inl less ↦ absurd (omega (arith, less, here))
        | inr same ↦ same.1
      ]

  behind_of : (c : Change) (cs : List Change) (from : ℕ) → c.space.0 ≡ number → All (IsOf from) (c ∷ cs)
      → AllPairs InOrder (c ∷ cs) → All (IsOf (c.offset + 1)) cs
  behind_of c cs from here good ordered = λ k d below there.
      let mine = All-tail (IsOf from) c cs good k d below there in
      let order = later_order c cs k d ordered below in
      let less : c.offset < (get_or cs k d).offset = elim order [
        | inl less ↦ absurd (omega (arith, less, here, there))
        | inr same ↦ same.1
      ] in
      (omega (arith, less), mine.1, mine.2, mine.3)

  one : (c : Change) (cs : List Change) (from : ℕ) (b : Bool) → (c.space.0 == number) ≡ b → All (IsOf from) (c ∷ cs)
      → AreAll from (c ∷ cs) → AllPairs InOrder (c ∷ cs)
      → ((after : ℕ) → All (IsOf after) cs → AreAll after cs → AllPairs InOrder cs → Changes after
      (lines_of number s cs))
      → Changes from (cond b (change_line s c.offset c.byte) [] ++ lines_of number s cs)
  one c cs from true e good covers ordered rest =
      let here : c.space.0 ≡ number = eqb-true c.space.0 number e in
      let mine = All-head (IsOf from) c cs good here in
      let gap : (k : ℕ) → from ≤ k → k < c.offset → old k ≡ new k = λ k ge below. elim (eqb_tells (old k) (new k)) [
        | inl same ↦ same.1
        | inr differ ↦
            let there = covers k ge (omega (arith, below, mine.1)) differ.1 in
            elim (first_or_later c cs (change_of number k (new k)) there.0 there.1 there.2) [
              | inl first ↦ let at : c.offset ≡ k = ap (λ (x : Change). x.offset) first in absurd
                  (omega (arith, at, below))
              | inr later ↦ absurd (omega (arith, lies_behind c cs k (new k) here ordered later, below))
            ]
      ] in
      let others : AreAll (c.offset + 1) cs = λ k ge below differ.
      let there = covers k (omega (arith, ge, mine.0)) below differ in
      elim (first_or_later c cs (change_of number k (new k)) there.0 there.1 there.2) [
        | inl first ↦ let at : c.offset ≡ k = ap (λ (x : Change). x.offset) first in absurd (omega (arith, at, ge))
        | inr later ↦ later
      ] in
      subst (λ (n : ℕ). Changes from (change_line s c.offset n ++ lines_of number s cs)) (sym mine.3)
      (next mine.0 mine.1 mine.2 gap
      (rest (c.offset + 1) (behind_of c cs from here good ordered) others (rest_ordered c cs ordered)))
  one c cs from false e good covers ordered rest =
      let others : AreAll from cs = λ k ge below differ.
      let there = covers k ge below differ in
      elim (first_or_later c cs (change_of number k (new k)) there.0 there.1 there.2) [
        | inl first ↦ let at : c.space.0 ≡ number = ap (λ (x : Change). x.space.0) first in absurd
            (false≢true (sym e ∙ eq-eqb c.space.0 number at))
        | inr later ↦ later
      ] in
      rest from (All-tail (IsOf from) c cs good) others (rest_ordered c cs ordered)

  pub tells : (cs : List Change) (from : ℕ) → All (IsOf from) cs → AreAll from cs → AllPairs InOrder cs → Changes from
      (lines_of number s cs)
  tells [] from good covers ordered = no_more (λ k ge below. elim (eqb_tells (old k) (new k)) [
    | inl same ↦ same.1
    | inr differ ↦ absurd (not_in_none (change_of number k (new k)) (covers k ge below differ.1))
  ])
  tells (c ∷ cs) from good covers ordered =
      one c cs from (c.space.0 == number) refl good covers ordered (λ after. tells cs after)

-- the lines of a space by its kind
abbrev kind_lines : SpaceKind → (number : ℕ) → Space → List Change → List ℕ
kind_lines kind.Register number s cs = []
kind_lines _ number s cs = lines_of number s cs

kind_none : (k : SpaceKind) (number : ℕ) (s : Space) (cs : List Change) → lines_of number s cs ≡ []
    → kind_lines k number s cs ≡ []
kind_none kind.Register number s cs none = refl
kind_none kind.Ram number s cs none = none
kind_none kind.Rom number s cs none = none

-- a change of the space stands first
kind_here : (k : SpaceKind) (number : ℕ) (s : Space) (c : Change) (cs : List Change) → (c.space.0 == number) ≡ true
    → kind_lines k number s (c ∷ cs) ≡ told_by k s c ++ kind_lines k number s cs
kind_here kind.Register number s c cs e = refl
kind_here kind.Ram number s c cs e =
    ap (λ (b : Bool). cond b (change_line s c.offset c.byte) [] ++ lines_of number s cs) e
kind_here kind.Rom number s c cs e =
    ap (λ (b : Bool). cond b (change_line s c.offset c.byte) [] ++ lines_of number s cs) e

kind_other : (k : SpaceKind) (number : ℕ) (s : Space) (c : Change) (cs : List Change) → (c.space.0 == number) ≡ false
    → kind_lines k number s (c ∷ cs) ≡ kind_lines k number s cs
kind_other kind.Register number s c cs e = refl
kind_other kind.Ram number s c cs e =
    ap (λ (b : Bool). cond b (change_line s c.offset c.byte) [] ++ lines_of number s cs) e
kind_other kind.Rom number s c cs e =
    ap (λ (b : Bool). cond b (change_line s c.offset c.byte) [] ++ lines_of number s cs) e

-- ---- the changes of several spaces

-- the line of a change of spaces, which are numbered from `number` on
abbrev told_from : (number : ℕ) → List Space → Change → List ℕ
told_from number [] c = []
told_from number (s ∷ ss) c = if c.space.0 == number then told_by s.kind s c else told_from (number + 1) ss c

abbrev all_from : (number : ℕ) → List Space → List Change → List ℕ
all_from number ss [] = []
all_from number ss (c ∷ cs) = told_from number ss c ++ all_from number ss cs

-- none of a space before them
from_before : (number : ℕ) (ss : List Space) (c : Change) → c.space.0 < number → told_from number ss c ≡ []
from_before number [] c less = refl
from_before number (s ∷ ss) c less = by (c.space.0 == number) refl (from_before (number + 1) ss c (omega (arith, less)))
  where
    by : (b : Bool) → (c.space.0 == number) ≡ b → told_from (number + 1) ss c ≡ [] → cond b (told_by s.kind s c)
        (told_from (number + 1) ss c) ≡ []
    by true e none = absurd (let at = eqb-true c.space.0 number e in omega (arith, at, less))
    by false e none = none

-- a change of the first of them, and one of another
from_here : (number : ℕ) (s : Space) (ss : List Space) (c : Change) → (c.space.0 == number) ≡ true → told_from number
    (s ∷ ss) c ≡ told_by s.kind s c
from_here number s ss c e = ap (λ (b : Bool). cond b (told_by s.kind s c) (told_from (number + 1) ss c)) e

from_other : (number : ℕ) (s : Space) (ss : List Space) (c : Change) → (c.space.0 == number) ≡ false
    → told_from number (s ∷ ss) c ≡ told_from (number + 1) ss c
from_other number s ss c e = ap (λ (b : Bool). cond b (told_by s.kind s c) (told_from (number + 1) ss c)) e

-- a change of a later space has only such behind it
all_later : (number : ℕ) (c : Change) (cs : List Change) → number < c.space.0 → AllPairs InOrder (c ∷ cs) → All
    (λ (d : Change). number < d.space.0) cs
all_later number c cs less ordered = λ k d below.
    let order = later_order c cs k d ordered below in
    elim order [
      | inl more ↦ omega (arith, less, more)
      | inr same ↦ omega (arith, less, same.0)
    ]

-- the lines of the first space stand before those of the others
parted : (number : ℕ) (s : Space) (ss : List Space) (cs : List Change) → AllPairs InOrder cs
    → all_from number (s ∷ ss) cs ≡ kind_lines s.kind number s cs ++ all_from (number + 1) ss cs
parted number s ss [] ordered = ends s.kind
  where
    ends : (k : SpaceKind) → [] ≡ kind_lines k number s [] ++ []
    ends kind.Ram = refl
    ends kind.Rom = refl
    ends kind.Register = refl
parted number s ss (c ∷ cs) ordered = one_more (parted number s ss cs (rest_ordered c cs ordered))
  where
    other : all_from number (s ∷ ss) cs ≡ kind_lines s.kind number s cs ++ all_from (number + 1) ss cs
        → c.space.0 ≢ number → (c.space.0 == number) ≡ false → (c.space.0 < number) ⊎ (number ≤ c.space.0)
        → all_from number (s ∷ ss) (c ∷ cs) ≡ kind_lines s.kind number s (c ∷ cs) ++ all_from (number + 1) ss (c ∷ cs)
    other rest differ e (inl less) =
        let none : told_from (number + 1) ss c ≡ [] = from_before (number + 1) ss c (omega (arith, less)) in
        ap (λ (x : List ℕ). x ++ all_from number (s ∷ ss) cs) (from_other number s ss c e ∙ none)
        ∙ rest
        ∙ ap (λ (x : List ℕ). x ++ all_from (number + 1) ss cs) (sym (kind_other s.kind number s c cs e))
        ∙ ap (λ (x : List ℕ). kind_lines s.kind number s (c ∷ cs) ++ (x ++ all_from (number + 1) ss cs)) (sym none)
    other rest differ e (inr most) =
        let later = all_later number c cs (omega (arith, most, differ)) ordered in
        let none : kind_lines s.kind number s cs ≡ [] = kind_none s.kind number s cs (lines_none number s cs later) in
        ap (λ (x : List ℕ). x ++ all_from number (s ∷ ss) cs) (from_other number s ss c e)
        ∙ ap (λ (x : List ℕ). told_from (number + 1) ss c ++ x)
        (rest ∙ ap (λ (x : List ℕ). x ++ all_from (number + 1) ss cs) none)
        ∙ ap (λ (x : List ℕ). x ++ (told_from (number + 1) ss c ++ all_from (number + 1) ss cs))
        (sym (kind_other s.kind number s c cs e ∙ none))

    one_more : all_from number (s ∷ ss) cs ≡ kind_lines s.kind number s cs ++ all_from (number + 1) ss cs
        → all_from number (s ∷ ss) (c ∷ cs) ≡ kind_lines s.kind number s (c ∷ cs) ++ all_from (number + 1) ss (c ∷ cs)
    one_more rest = elim (eqb_tells c.space.0 number) [
      | inl same ↦
          let none : told_from (number + 1) ss c ≡ [] = from_before (number + 1) ss c (omega (arith, same.1)) in
          ap (λ (x : List ℕ). x ++ all_from number (s ∷ ss) cs) (from_here number s ss c same.0)
          ∙ ap (λ (x : List ℕ). told_by s.kind s c ++ x) rest
          ∙ sym (append_assoc (told_by s.kind s c) (kind_lines s.kind number s cs) (all_from (number + 1) ss cs))
          ∙ ap (λ (x : List ℕ). x ++ all_from (number + 1) ss cs) (sym (kind_here s.kind number s c cs same.0))
          ∙ ap (λ (x : List ℕ). kind_lines s.kind number s (c ∷ cs) ++ (x ++ all_from (number + 1) ss cs)) (sym none)
      | inr differ ↦ other rest differ.1 differ.0 (cases_lt c.space.0 number)
    ]

-- ---- what the program tells

told_at : (number k : ℕ) (ss : List Space) (c : Change) → c.space.0 ≡ number + k → told_from number ss c ≡ told_in
    (slice_get ss k) c
told_at number k [] c at = refl
told_at number zero (s ∷ ss) c at = from_here number s ss c (eq-eqb c.space.0 number (omega (arith, at)))
told_at number (suc k) (s ∷ ss) c at =
    from_other number s ss c (differs (c.space.0 == number) refl) ∙ told_at (number + 1) k ss c (omega (arith, at))
  where
    differs : (b : Bool) → (c.space.0 == number) ≡ b → b ≡ false
    differs true e = absurd (let same = eqb-true c.space.0 number e in omega (arith, same, at))
    differs false e = refl

told_all : (ss : List Space) (cs : List Change) → told_lines ss cs ≡ all_from 0 ss cs
told_all ss [] = refl
told_all ss (c ∷ cs) =
    ap (λ (x : List ℕ). x ++ told_lines ss cs) (sym (told_at 0 c.space.0 ss c (omega arith)))
    ∙ ap (λ (x : List ℕ). told_from 0 ss c ++ x) (told_all ss cs)

module _ (opening state : State) (cs : List Change) (listed : ListsChanges opening state cs) where
  -- No byte behind the end of the space is another one.
  abbrev pub EndsAlike : (number : ℕ) → Space → Type 0
  EndsAlike number s = (k : ℕ) → 256 ^ s.size ≤ k → byte_at state number k ≡ byte_at opening number k

  changes_told : (number : ℕ) (s : Space) → s.size ≤ 8 → EndsAlike number s
      → TellsChanges s (byte_at opening number) (byte_at state number) 0 (lines_of number s cs)
  changes_told number s small beyond =
      let top : 256 ^ s.size ≤ 256 ^ 8 = bytes_mono s.size 8 small in
      let good : All (IsOf number s (byte_at opening number) (byte_at state number) 0) cs = λ k e below here.
      let c = get_or cs k e in
      let change = listed.each k e below in
      let differ : byte_at opening number c.offset ≢ byte_at state number c.offset = subst
      (λ (z : ℕ). byte_at opening z c.offset ≢ byte_at state z c.offset) here change.0 in
      let within : c.offset < 256 ^ s.size = elim (cases_lt c.offset (256 ^ s.size)) [
        | inl below_top ↦ below_top
        | inr past ↦ absurd (differ (sym (beyond c.offset past)))
      ] in
      (omega arith, within, differ, subst (λ (z : ℕ). c.byte ≡ byte_at state z c.offset) here change.1) in
      let covers : AreAll number s (byte_at opening number)
      (byte_at state number) 0 cs = λ k ge below differ. listed.all number k (omega (arith, below, top)) differ in
      tells number s (byte_at opening number) (byte_at state number) cs 0 good covers listed.ordered

  space_told : (k : SpaceKind) (number : ℕ) (s : Space) → s.size ≤ 8 → EndsAlike number s
      → TellsSpaceBy k s (byte_at opening number) (byte_at state number) (kind_lines k number s cs)
  space_told kind.Ram number s small beyond = changes_told number s small beyond
  space_told kind.Rom number s small beyond = changes_told number s small beyond
  space_told kind.Register number s small beyond = refl

  -- so it is of each of some spaces
  abbrev pub AllEndAlike : (number : ℕ) → List Space → Type 0
  AllEndAlike number ss = (k : ℕ) (s : Space) → slice_get ss k ≡ Some s → (s.size ≤ 8) × EndsAlike (number + k) s

  spaces_told : (number : ℕ) (ss : List Space) → AllEndAlike number ss → TellsSpaces (byte_at opening)
      (byte_at state) number ss (all_from number ss cs)
  spaces_told number [] alike =
      subst (λ (x : List ℕ). TellsSpaces (byte_at opening) (byte_at state) number [] x) (sym (no_from cs)) no_spaces
    where
      no_from : (ds : List Change) → all_from number [] ds ≡ []
      no_from [] = refl
      no_from (d ∷ ds) = no_from ds
  spaces_told number (s ∷ ss) alike =
      let first = alike 0 s refl in
      let here = space_told s.kind number s first.0 (λ k past. let at : number + 0 ≡ number = omega arith in
      subst (λ (z : ℕ). byte_at state z k ≡ byte_at opening z k) at (first.1 k past)) in
      let later : AllEndAlike (number + 1) ss = λ k z there.
      let next = alike (suc k) z there in
      let at : number + suc k ≡ number + 1 + k = omega arith in
      (next.0, λ o past. subst (λ (y : ℕ). byte_at state y o ≡ byte_at opening y o) at (next.1 o past)) in
      subst (λ (x : List ℕ). TellsSpaces (byte_at opening) (byte_at state) number (s ∷ ss) x)
      (sym (parted number s ss cs listed.ordered))
      (space (kind_lines s.kind number s cs) (all_from (number + 1) ss cs) here (spaces_told (number + 1) ss later))

  pub told_tell : (ss : List Space) → AllEndAlike 0 ss → TellsSpaces (byte_at opening) (byte_at state) 0 ss
      (told_lines ss cs)
  told_tell ss alike =
      subst (λ (x : List ℕ). TellsSpaces (byte_at opening) (byte_at state) 0 ss x) (sym (told_all ss cs))
      (spaces_told 0 ss alike)
