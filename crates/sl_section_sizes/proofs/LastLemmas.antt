-- What a table exports isn't changed by the constructors of others.
use Rattle.std.proofs.Common.{◌≡◌, ◌≢◌, ℕ, zero, suc, ◌<◌, Bool, true, false, eqb, ◌&&◌, ◌⊎◌, inl, inr, List, [], ◌∷◌, Option, Some, None, length, slice_get, slice_set, option_and_then, refl, sym, ap, ◌∙◌, subst, arith}
use Rattle.std.proofs.lemmas.Bool.{eqb-true}
use Rattle.std.proofs.lemmas.Bool.Decides.{eqb_tells}
use Rattle.std.proofs.lemmas.List.{length-set}
use Rattle.sl_section_equations.specs.Fits.{section_fits}
use Rattle.sl_sizes.specs.Solutions.{bytes_at}
use Rattle.sl_word.specs.declared.word.Size.{Size}
use Rattle.sl_section_equations.specs.SizesIn.{size_in}
use Rattle.sl_section_equations.specs.Uses.{exported_size}
use Rattle.sl_section_sizes.specs.WholeLaws.{AllFit, AreOrdered, NoneIsBelow, NoneIsOf, TablesAreBelow}
use Rattle.sl_section_sizes.specs.Sizings as z
use Rattle.sl_section_sizes.specs.Constructors.{Constructor}

get_other : (xs : List (Option ℕ)) (u t : ℕ) (v : Option ℕ) → t ≢ u → slice_get (slice_set xs u v) t ≡ slice_get xs t
get_other [] u t v other = refl
get_other (x ∷ xs) zero zero v other = absurd (other refl)
get_other (x ∷ xs) zero (suc t) v other = refl
get_other (x ∷ xs) (suc u) zero v other = refl
get_other (x ∷ xs) (suc u) (suc t) v other = get_other xs u t v (λ e. other (ap suc e))

kept : (xs : List (Option ℕ)) (u t : ℕ) (n : Option ℕ) → t ≢ u → size_in (z.with_export xs u n) t ≡ size_in xs t
kept xs u t None other = refl
kept xs u t (Some n) other = ap (λ (v : Option (Option ℕ)). option_and_then (λ m. m) v) (get_other xs u t (Some n) other)

-- ---- what a table exports stays

set_there : (xs : List (Option ℕ)) (t n : ℕ) → t < length xs → size_in (slice_set xs t (Some n)) t ≡ Some n
set_there [] t n below = absurd (omega (arith, below))
set_there (x ∷ xs) zero n below = refl
set_there (x ∷ xs) (suc t) n below = set_there xs t n (omega (arith, below))

set_again : (xs : List (Option ℕ)) (t n : ℕ) → size_in xs t ≡ Some n → size_in (slice_set xs t (Some n)) t ≡ Some n
set_again [] t n there = absurd (let h : ⊥ = cc in h)
set_again (x ∷ xs) zero n there = refl
set_again (x ∷ xs) (suc t) n there = set_again xs t n there

-- an export that is alike leaves what is there
alike_keeps : (xs : List (Option ℕ)) (t n : ℕ) (size : Option ℕ) → size_in xs t ≡ Some n → z.is_alike (Some n) size ≡ true
    → size_in (z.with_export xs t size) t ≡ Some n
alike_keeps xs t n None there alike = there
alike_keeps xs t n (Some m) there alike =
    subst (λ (k : ℕ). size_in (slice_set xs t (Some k)) t ≡ Some n) (eqb-true n m alike) (set_again xs t n there)

-- an export of a table is what it exports
alike_gives : (xs : List (Option ℕ)) (t n : ℕ) (size : Option ℕ) → t < length xs → size ≡ Some n → size_in (z.with_export xs t size) t ≡ Some n
alike_gives xs t n size below is = subst (λ (s : Option ℕ). size_in (z.with_export xs t s) t ≡ Some n) (sym is) (set_there xs t n below)

as_long : (xs : List (Option ℕ)) (t : ℕ) (size : Option ℕ) → length xs ≡ length (z.with_export xs t size)
as_long xs t None = refl
as_long xs t (Some n) = sym (length-set xs t (Some n))

both_true : (x y : Bool) → (x && y) ≡ true → (x ≡ true) × (y ≡ true)
both_true true y is = (refl, is)
both_true false y is = absurd (let h : ⊥ = cc in h)

module _ (address : Option ℕ → ℕ) (last : List (Option ℕ)) where
  unchanged : (table : ℕ) (now : List (Option ℕ)) (cs : List Constructor) (sizes : List (List Size)) → NoneIsOf table cs
      → z.AreSized address now cs sizes last → size_in last table ≡ size_in now table
  unchanged table now [] [] none sized = ap (λ (xs : List (Option ℕ)). size_in xs table) (sym sized)
  unchanged table now [] (s ∷ ss) none sized = absurd sized
  unchanged table now (c ∷ cs) [] none sized = absurd sized
  unchanged table now (c ∷ cs) (s ∷ ss) none sized =
      unchanged table (z.after address now c s) cs ss none.1 sized.1 ∙ kept now c.table table (exported_size s (z.steps_in c)) none.0

  same_operands : (now : List (Option ℕ)) (os : List (Option ℕ)) (cs : List Constructor) (sizes : List (List Size)) → NoneIsBelow os cs
      → z.AreSized address now cs sizes last → z.operand_sizes last os ≡ z.operand_sizes now os
  same_operands now [] cs sizes none sized = refl
  same_operands now (None ∷ os) cs sizes none sized = ap (λ (r : List (Option ℕ)). None ∷ r) (same_operands now os cs sizes none sized)
  same_operands now (Some table ∷ os) cs sizes none sized =
      ap (λ (n : Option ℕ). n ∷ z.operand_sizes last os) (unchanged table now cs sizes none.0 sized)
      ∙ ap (λ (r : List (Option ℕ)). size_in now table ∷ r) (same_operands now os cs sizes none.1 sized)

  still : (table n : ℕ) (now : List (Option ℕ)) (c : Constructor) (s : List Size) → size_in now table ≡ Some n → z.IsSized address now c s
      → ((eqb table c.table ≡ true) × (table ≡ c.table)) ⊎ ((eqb table c.table ≡ false) × (table ≢ c.table))
      → size_in (z.after address now c s) table ≡ Some n
  still table n now c s there sized (inr apart) = kept now c.table table (exported_size s (z.steps_in c)) apart.1 ∙ there
  still table n now c s there sized (inl same) =
      let here : size_in now c.table ≡ Some n = subst (λ (t : ℕ). size_in now t ≡ Some n) same.1 there in
      let alike : z.is_alike (Some n) (exported_size s (z.steps_in c)) ≡ true =
      subst (λ (e : Option ℕ). z.is_alike e (exported_size s (z.steps_in c)) ≡ true) here
      (both_true (section_fits (bytes_at s) (size_in (z.operand_sizes now c.operands)) (z.steps_in c))
      (z.is_alike (size_in now c.table) (exported_size s (z.steps_in c))) sized.keeps).1 in
      subst (λ (t : ℕ). size_in (z.after address now c s) t ≡ Some n) (sym same.1)
      (alike_keeps now c.table n (exported_size s (z.steps_in c)) here alike)

  stays : (table n : ℕ) (now : List (Option ℕ)) (cs : List Constructor) (sizes : List (List Size)) → size_in now table ≡ Some n
      → z.AreSized address now cs sizes last → size_in last table ≡ Some n
  stays table n now [] [] there sized = subst (λ (xs : List (Option ℕ)). size_in xs table ≡ Some n) sized there
  stays table n now [] (s ∷ ss) there sized = absurd sized
  stays table n now (c ∷ cs) [] there sized = absurd sized
  stays table n now (c ∷ cs) (s ∷ ss) there sized =
      stays table n (z.after address now c s) cs ss (still table n now c s there sized.0 (eqb_tells table c.table)) sized.1

  whole : (now : List (Option ℕ)) (cs : List Constructor) (sizes : List (List Size)) → TablesAreBelow (length now) cs → AreOrdered cs
      → z.AreSized address now cs sizes last → AllFit address last cs sizes
  whole now [] [] below ordered sized = tt
  whole now [] (s ∷ ss) below ordered sized = absurd sized
  whole now (c ∷ cs) [] below ordered sized = absurd sized
  whole now (c ∷ cs) (s ∷ ss) below ordered sized =
      let same : z.operand_sizes last c.operands ≡ z.operand_sizes now c.operands =
      same_operands now c.operands (c ∷ cs) (s ∷ ss) ordered.0 sized in
      let fits = both_true (section_fits (bytes_at s) (size_in (z.operand_sizes now c.operands)) (z.steps_in c))
      (z.is_alike (size_in now c.table) (exported_size s (z.steps_in c))) sized.0.keeps in (
        record {
          has = subst (λ (os : List (Option ℕ)). z.HasSizes address (size_in os) c s) (sym same) sized.0.has;
          fits = subst (λ (os : List (Option ℕ)). section_fits (bytes_at s) (size_in os) (z.steps_in c) ≡ true) (sym same) fits.0;
          alike = λ n is. stays c.table n (z.after address now c s) cs ss
              (alike_gives now c.table n (exported_size s (z.steps_in c)) below.0 is) sized.1;
        },
        whole (z.after address now c s) cs ss
            (subst (λ (n : ℕ). TablesAreBelow n cs) (as_long now c.table (exported_size s (z.steps_in c))) below.1) ordered.1 sized.1,
      )

pub of_the_whole : (address : Option ℕ → ℕ) (start last : List (Option ℕ)) (cs : List Constructor) (sizes : List (List Size))
    → TablesAreBelow (length start) cs → AreOrdered cs → z.AreSized address start cs sizes last → AllFit address last cs sizes
of_the_whole address start last cs sizes below ordered sized = whole address last start cs sizes below ordered sized
