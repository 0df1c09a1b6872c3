-- Blocks and their numbers.
use Rattle.std.proofs.Common.{◌≡◌, ℕ, ◌+◌, ◌≤◌, Bool, true, false, if◌then◌else◌, nat_eq, ◌≢◌, List, [], ◌∷◌, ◌++◌, None, Result, Ok, Err, sym, subst, ap, ◌∙◌, arith}
use Rattle.std.specs.Prelude.{IfOk}
use Rattle.std.specs.List.{AllByRecursion}
use Rattle.sl_ast.specs.Trees.{Head}
use Rattle.sl_ast.specs.Views.{head_of}
use Rattle.sl_spec.specs.Numbers.{AreNumbered, AreNumberedBelow, IsBelow}
use Rattle.sl_spec.specs.declared.unfolded.Around.{Around}
use Rattle.sl_spec.specs.declared.unfolded.Unfolded.{Unfolded}
use Rattle.sl_spec.proofs.KeyedLemmas.{all_push}
use Rattle.std.proofs.lemmas.Bool.{ne_eqb}
use Rattle.std.proofs.lemmas.Bool.Decides.{eqb_tells}
use mathlib.Core.Logic.{⊎_elim}

same_eqb : (a b : ℕ) → a ≡ b → nat_eq a b ≡ true
same_eqb a b same = ⊎_elim (λ (told : (nat_eq a b ≡ true) × (a ≡ b)). told.0) (λ (told : (nat_eq a b ≡ false) × (a ≢ b)). absurd (told.1 same)) (eqb_tells a b)

pub all_weaker : {X : Type 0} {P Q : X → Type 0} → ((x : X) → P x → Q x) → (xs : List X) → AllByRecursion P xs → AllByRecursion Q xs
all_weaker weaker [] all = tt
all_weaker weaker (x ∷ xs) all = (weaker x all.0, all_weaker weaker xs all.1)

all_but_last : {X : Type 0} (P : X → Type 0) (xs : List X) (x : X) → AllByRecursion P (xs ++ x ∷ []) → AllByRecursion P xs
all_but_last P [] x all = tt
all_but_last P (y ∷ ys) x all = (all.0, all_but_last P ys x all.1)

-- ---- numbers are given one by one

module _ (n : ℕ) (blocks : List Around) (us : List Unfolded) where
  -- another function and a greater number serve, if they serve for each block
  serves : (f g : ℕ → Head) (m : ℕ) → ((a : Around) → IsBelow f n a → IsBelow g m a)
      → AllByRecursion (IsBelow f n) blocks × AllByRecursion (λ u. AllByRecursion (IsBelow f n) u.heads.items) us
      → AllByRecursion (IsBelow g m) blocks × AllByRecursion (λ u. AllByRecursion (IsBelow g m) u.heads.items) us
  serves f g m weaker below =
      (all_weaker weaker blocks below.0, all_weaker (λ u. all_weaker weaker u.heads.items) us below.1)

  pub numbers_more : (m : ℕ) → n ≤ m → AreNumberedBelow n blocks us → AreNumberedBelow m blocks us
  numbers_more m more numbered =
      let below = serves numbered.0 numbered.0 m (λ a below. let less = below.0 in (omega (arith, less, more), below.1)) (numbered.1, numbered.2) in
      (numbered.0, below.0, below.1)

  pub numbers_constructor : (u : Unfolded) → u.heads.items ≡ blocks → AreNumberedBelow n blocks us → AreNumberedBelow (n + 1) blocks (us ++ u ∷ [])
  numbers_constructor u same numbered =
      let more = numbers_more (n + 1) (omega arith) numbered in
      let its = subst (λ (bs : List Around). AllByRecursion (IsBelow more.0 (n + 1)) bs) (sym same) more.1 in
      (more.0, more.1, all_push (λ (v : Unfolded). AllByRecursion (IsBelow more.0 (n + 1)) v.heads.items) us u more.2 its)

  -- the same heads, and this one at n
  abbrev extended : (ℕ → Head) → Head → ℕ → Head
  extended f h k = if nat_eq k n then h else f k

  stays_below : (f : ℕ → Head) (h : Head) (a : Around) → IsBelow f n a → IsBelow (extended f h) (n + 1) a
  stays_below f h a below =
      let less = below.0 in
      let apart : nat_eq a.number n ≡ false = ne_eqb a.number n (λ same. omega (arith, less, same)) in
      (omega (arith, less), ap (λ (b : Bool). if b then h else f a.number) apart ∙ below.1)

  is_last : (f : ℕ → Head) (a : Around) → a.number ≡ n → IsBelow (extended f (head_of a.head.now)) (n + 1) a
  is_last f a at =
      let same : nat_eq a.number n ≡ true = same_eqb a.number n at in
      (omega (arith, at), ap (λ (b : Bool). if b then head_of a.head.now else f a.number) same)

  pub numbers_block : (a : Around) → a.number ≡ n → AreNumberedBelow n blocks us → AreNumberedBelow (n + 1) (blocks ++ a ∷ []) us
  numbers_block a at numbered =
      let f = extended numbered.0 (head_of a.head.now) in
      let below = serves numbered.0 f (n + 1) (stays_below numbered.0 (head_of a.head.now)) (numbered.1, numbered.2) in
      (f, all_push (IsBelow f (n + 1)) blocks a below.0 (is_last numbered.0 a at), below.1)

  pub numbers_outer : (a : Around) → AreNumberedBelow n (blocks ++ a ∷ []) us → AreNumberedBelow n blocks us
  numbers_outer a numbered = (numbered.0, all_but_last (IsBelow numbered.0 n) blocks a numbered.1, numbered.2)

  pub numbers_all : AreNumberedBelow n blocks us → AreNumbered us
  numbers_all numbered =
      (numbered.0, all_weaker (λ u. all_weaker (λ (a : Around). λ (below : IsBelow numbered.0 n a). below.1) u.heads.items) us numbered.2)

pub none_numbered : AreNumberedBelow 0 [] []
none_numbered = (λ n. record { table = None; pattern = None; actions = None }, tt, tt)

-- a constructor that stands in these blocks was added
pub adds_numbered : {E : Type 0} (n : ℕ) (blocks : List Around) (old new : List Unfolded) (u : Unfolded) (r : Result ℕ E) → u.heads.items ≡ blocks → new ≡ old ++ u ∷ []
    → IfOk r (λ next. next ≡ n + 1) → IfOk r (λ next. AreNumberedBelow n blocks old → AreNumberedBelow next blocks new)
adds_numbered n blocks old new u (Ok next) same pushed is = λ numbered.
    subst (λ (k : ℕ). AreNumberedBelow k blocks new) (sym is)
    (subst (λ (us : List Unfolded). AreNumberedBelow (n + 1) blocks us) (sym pushed) (numbers_constructor n blocks old u same numbered))
adds_numbered n blocks old new u (Err e) same pushed is = tt

-- nothing was added
pub keeps_numbered : {E : Type 0} (n : ℕ) (blocks : List Around) (us : List Unfolded) (r : Result ℕ E)
    → IfOk r (λ next. next ≡ n + 1) → IfOk r (λ next. AreNumberedBelow n blocks us → AreNumberedBelow next blocks us)
keeps_numbered n blocks us (Ok next) is = numbers_more n blocks us next (omega (arith, is))
keeps_numbered n blocks us (Err e) is = tt

-- ---- the blocks inside a block

module _ (n k : ℕ) (blocks inner : List Around) (us : List Unfolded) (a : Around) (listed : inner ≡ blocks ++ a ∷ []) where
  pub begins_inside : a.number ≡ n → k ≡ n + 1 → AreNumberedBelow n blocks us → AreNumberedBelow k inner us
  begins_inside at is numbered =
      subst (λ (m : ℕ). AreNumberedBelow m inner us) (sym is)
      (subst (λ (bs : List Around). AreNumberedBelow (n + 1) bs us) (sym listed) (numbers_block n blocks us a at numbered))

  pub ends_inside : AreNumberedBelow k inner us → AreNumberedBelow k blocks us
  ends_inside numbered = numbers_outer k blocks us a (subst (λ (bs : List Around). AreNumberedBelow k bs us) listed numbered)
