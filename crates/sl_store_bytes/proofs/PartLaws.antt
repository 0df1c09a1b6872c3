-- Optional parts and lists.
use Rattle.std.proofs.Common.{◌≡◌, ℕ, zero, suc, ◌≤◌, ◌==◌, true, if◌then◌else◌, List, [], ◌∷◌, ◌++◌, length, Option, None, Some, Ok, refl, ap, ◌∙◌, subst, arith, append_assoc}
use Rattle.sl_ast.specs.Validity.{Each, IfWritten}
use Rattle.sl_store_bytes.specs.Lists.{write_all, write_list, write_option, write_separated, some_more, option, below, either, listed, list_of, separated, same_state, AreGood, IsListed, AreEach, AreSeparated}
use Rattle.sl_store_bytes.specs.Numbers.{write_number, greatest, IsWithin}
use Rattle.sl_store_bytes.specs.Reader.{Reader, and_then, ◌>>=◌, pure, byte}
use Rattle.sl_store_bytes.specs.Exact.{Exact}
use Rattle.sl_store_bytes.proofs.Chains.{Behind, behind_done, behind_then, behind_if, behind_last, behind_end, exact_from, exact_byte, exact_for, alone, reads_then}
use Rattle.sl_store_bytes.proofs.NumberLaws.{exact_numbers}

-- a byte below n + 1
pub exact_below : (n : ℕ) → Exact alone (λ b. below (suc n) b ≡ true) (byte (below (suc n)))
exact_below n = exact_byte (below (suc n)) 0 (grind arith)

module _ {A : Type 0} {write : A → List ℕ} {Good : A → Type 0} {p : Reader A} (exact : Exact write Good p) where
  option_complete : (a : Option A) (rest : List ℕ) → IfWritten Good a → option p (write_option write a ++ rest) ≡ Ok (a, rest)
  unfolding option
  option_complete None rest good = reads_then (exact_below 1) _ 0 refl rest
  option_complete (Some a) rest good =
      reads_then (exact_below 1) (λ b. if b == 0 then pure None else (p >>= (λ c. pure (Some c)))) 1 refl (write a ++ rest)
      ∙ reads_then exact (λ c. pure (Some c)) a good rest

  option_behind : Behind (write_option write) (IfWritten Good) [] (option p)
  unfolding option
  option_behind = behind_then _ _ [] (exact_below 1) _ (λ b on.
      behind_if _ _ [] b 0 (λ same. behind_done _ _ _ None tt refl)
      (λ more. (let one : 1 ≡ b = grind arith in behind_last _ _ [] b 1 one (behind_then _ _ _ exact _ (λ a good. behind_done _ _ _ (Some a) good refl)))))

  pub exact_option : Exact (write_option write) (IfWritten Good) (option p)
  exact_option = exact_from option_behind option_complete

module _ {A S : Type 0} {write : A → List ℕ} (Good : ℕ → S → A → Type 0) (read : ℕ → S → Reader A) (after : S → A → S) (Fine : ℕ → S → Type 0)
    (exact : (n : ℕ) (s : S) → Fine (suc n) s → Exact write (Good n s) (read n s))
    (keeps : (n : ℕ) (s : S) (a : A) → Fine (suc n) s → Good n s a → Fine n (after s a)) where
  some_complete : (n : ℕ) (s : S) → Fine n s → (as' : List A) (rest : List ℕ) → AreGood Good after n s as' → some_more read after n s (write_all write as' ++ rest) ≡ Ok (as', rest)
  unfolding some_more
  some_complete zero s fine [] rest good = refl
  some_complete zero s fine (a ∷ as') rest good = absurd good
  some_complete (suc n) s fine [] rest good = absurd good
  some_complete (suc n) s fine (a ∷ as') rest good =
      ap (some_more read after (suc n) s) (append_assoc (write a) (write_all write as') rest)
      ∙ reads_then (exact n s fine) (λ b. some_more read after n (after s b) >>= (λ bs. pure (b ∷ bs))) a good.0 (write_all write as' ++ rest)
      ∙ ap (λ o. and_then o (λ bs. pure (a ∷ bs))) (some_complete n (after s a) (keeps n s a fine good.0) as' rest good.1)

  some_behind : (n : ℕ) (s : S) → Fine n s → Behind (write_all write) (AreGood Good after n s) [] (some_more read after n s)
  unfolding some_more
  some_behind zero s fine = behind_done _ _ [] [] tt refl
  some_behind (suc n) s fine = behind_then _ _ [] (exact n s fine) _ (λ a good.
      behind_then _ _ (write a) (exact_from (some_behind n (after s a) (keeps n s a fine good)) (some_complete n (after s a) (keeps n s a fine good))) _ (λ as' goods.
      behind_done _ _ _ (a ∷ as') (good, goods) refl))

  pub exact_some : (n : ℕ) (s : S) → Fine n s → Exact (write_all write) (AreGood Good after n s) (some_more read after n s)
  exact_some n s fine = exact_from (some_behind n s fine) (some_complete n s fine)

good_length : {A S : Type 0} (Good : ℕ → S → A → Type 0) (after : S → A → S) (n : ℕ) (s : S) (as' : List A) → AreGood Good after n s as' → n ≡ length as'
good_length Good after zero s [] good = refl
good_length Good after zero s (a ∷ as') good = absurd good
good_length Good after (suc n) s [] good = absurd good
good_length Good after (suc n) s (a ∷ as') good = ap suc (good_length Good after n (after s a) as' good.1)

module _ (least most : ℕ) (start : least ≤ 128) (some : least ≤ most) (high : most ≤ greatest) {A S : Type 0} {write : A → List ℕ} (Good : ℕ → S → A → Type 0) (read : ℕ → S → Reader A)
    (after : S → A → S) (Fine : ℕ → S → Type 0) (exact : (n : ℕ) (s : S) → Fine (suc n) s → Exact write (Good n s) (read n s))
    (keeps : (n : ℕ) (s : S) (a : A) → Fine (suc n) s → Good n s a → Fine n (after s a)) (s : S) (fine : (n : ℕ) → IsWithin least most n → Fine n s) where
  listed_behind : Behind (write_list write) (IsListed least most Good after s) [] (listed least most read after s)
  listed_behind = behind_then _ _ [] (exact_numbers least most start some high) _ (λ n within.
      behind_end _ _ _ (exact_some Good read after Fine exact keeps n s (fine n within)) (λ as' goods.
      (let same = good_length Good after n s as' goods in
      (record { long = subst (IsWithin least most) same within; good = subst (λ k. AreGood Good after k s as') same goods }, ap (λ k. write_number k ++ write_all write as') same))))

  listed_complete : (as' : List A) (rest : List ℕ) → IsListed least most Good after s as' → listed least most read after s (write_list write as' ++ rest) ≡ Ok (as', rest)
  listed_complete as' rest good =
      ap (listed least most read after s) (append_assoc (write_number (length as')) (write_all write as') rest)
      ∙ reads_then (exact_numbers least most start some high) (λ n. some_more read after n s) (length as') good.long (write_all write as' ++ rest)
      ∙ (exact_some Good read after Fine exact keeps (length as') s (fine (length as') good.long)).complete as' rest good.good

  pub exact_listed : Exact (write_list write) (IsListed least most Good after s) (listed least most read after s)
  exact_listed = exact_from listed_behind listed_complete

-- ---- lists whose members are read in no state

module _ {A : Type 0} (Good : A → Type 0) where
  pub each_good : (n : ℕ) (as' : List A) → AreGood (λ left u a. Good a) same_state n tt as' → Each Good as'
  each_good zero [] good = tt
  each_good zero (a ∷ as') good = absurd good
  each_good (suc n) [] good = absurd good
  each_good (suc n) (a ∷ as') good = (good.0, each_good n as' good.1)

  pub good_each : (as' : List A) → Each Good as' → AreGood (λ left u a. Good a) same_state (length as') tt as'
  good_each [] each = tt
  good_each (a ∷ as') each = (each.0, good_each as' each.1)

  are_each : (as' : List A) → IsListed 0 greatest (λ left u a. Good a) same_state tt as' → AreEach Good as'
  are_each as' listed = (listed.long.high, each_good (length as') as' listed.good)

  each_are : (as' : List A) → AreEach Good as' → IsListed 0 greatest (λ left u a. Good a) same_state tt as'
  each_are as' each = record { long = record { low = omega arith; high = each.0 }; good = good_each as' each.1 }

module _ {A : Type 0} {write : A → List ℕ} {Good : A → Type 0} {p : Reader A} (exact : Exact write Good p) where
  pub exact_list : Exact (write_list write) (AreEach Good) (list_of p)
  unfolding list_of
  exact_list = exact_for
      (exact_listed 0 greatest (omega arith) (omega arith) (omega arith) (λ left u a. Good a) (λ left u. p) same_state (λ left u. Unit {0}) (λ left u fine. exact) (λ left u a fine good. tt) tt (λ left within. tt))
      (are_each Good) (each_are Good)

  separated_complete : (as' : List A) (rest : List ℕ) → AreSeparated Good as' → separated p (write_separated write as' ++ rest) ≡ Ok (as', rest)
  unfolding separated
  separated_complete [] rest good = reads_then (exact_below 1) _ 0 refl rest
  separated_complete (a ∷ as') rest good =
      reads_then (exact_below 1) (λ b. if b == 0 then pure [] else (p >>= (λ c. list_of p >>= (λ cs. pure (c ∷ cs))))) 1 refl ((write a ++ write_list write as') ++ rest)
      ∙ ap (p >>= (λ c. list_of p >>= (λ cs. pure (c ∷ cs)))) (append_assoc (write a) (write_list write as') rest)
      ∙ reads_then exact (λ c. list_of p >>= (λ cs. pure (c ∷ cs))) a good.0 (write_list write as' ++ rest)
      ∙ reads_then exact_list (λ cs. pure (a ∷ cs)) as' good.1 rest

  separated_behind : Behind (write_separated write) (AreSeparated Good) [] (separated p)
  unfolding separated
  separated_behind = behind_then _ _ [] (exact_below 1) _ (λ b on.
      behind_if _ _ [] b 0 (λ same. behind_done _ _ _ [] tt refl)
      (λ more. (let one : 1 ≡ b = grind arith in behind_last _ _ [] b 1 one
      (behind_then _ _ _ exact _ (λ a good. behind_then _ _ _ exact_list _ (λ as' goods. behind_done _ _ _ (a ∷ as') (good, goods) refl))))))

  pub exact_separated : Exact (write_separated write) (AreSeparated Good) (separated p)
  exact_separated = exact_from separated_behind separated_complete

-- ---- one of two rules

module _ {A : Type 0} (p q : Reader A) where
  pub either_after : (write : A → List ℕ) (Good : A → Type 0) (front : List ℕ) → Behind write Good (front ++ 0 ∷ []) p → Behind write Good (front ++ 1 ∷ []) q → Behind write Good front (either p q)
  unfolding either
  either_after write Good front this other = behind_then _ _ front (exact_below 1) _ (λ b on.
      behind_if _ _ front b 0 (λ same. this) (λ more. (let one : 1 ≡ b = grind arith in behind_last _ _ front b 1 one other)))

  pub either_behind : (write : A → List ℕ) (Good : A → Type 0) → Behind write Good (0 ∷ []) p → Behind write Good (1 ∷ []) q → Behind write Good [] (either p q)
  either_behind write Good this other = either_after write Good [] this other

  pub either_first : (ys : List ℕ) → either p q (0 ∷ ys) ≡ p ys
  unfolding either
  either_first ys = reads_then (exact_below 1) (λ b. if b == 0 then p else q) 0 refl ys

  pub either_other : (ys : List ℕ) → either p q (1 ∷ ys) ≡ q ys
  unfolding either
  either_other ys = reads_then (exact_below 1) (λ b. if b == 0 then p else q) 1 refl ys
