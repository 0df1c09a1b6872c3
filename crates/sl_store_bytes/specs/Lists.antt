-- meaning: lists and optional parts.
use Rattle.std.specs.Prelude.{◌≤◌, ℕ, zero, suc, Bool, ◌==◌, nat_le, if◌then◌else◌, List, [], ◌∷◌, ◌++◌, length, Option, None, Some}
use Rattle.sl_ast.specs.Validity.{Each}
use Rattle.sl_store_bytes.specs.Numbers.{write_number, number, greatest, IsWithin}
use Rattle.sl_store_bytes.specs.Reader.{Outcome, Reader, and_then, ◌>>=◌, pure, byte}

abbrev pub write_all : {A : Type 0} → (A → List ℕ) → List A → List ℕ
write_all write [] = []
write_all write (a ∷ as') = write a ++ write_all write as'

-- the number of members, and the members
abbrev pub write_list : {A : Type 0} → (A → List ℕ) → List A → List ℕ
write_list write as' = write_number (length as') ++ write_all write as'

-- 0 where it lacks, else 1 and the part
abbrev pub write_option : {A : Type 0} → (A → List ℕ) → Option A → List ℕ
write_option write None = 0 ∷ []
write_option write (Some a) = 1 ∷ write a

-- a list that is 0 where it is empty, else 1, its first member and the list of the others
abbrev pub write_separated : {A : Type 0} → (A → List ℕ) → List A → List ℕ
write_separated write [] = 0 ∷ []
write_separated write (a ∷ as') = 1 ∷ (write a ++ write_list write as')

-- `n` members; each is read in the state that the one before it left
unfoldable pub some_more : {A S : Type 0} → (ℕ → S → Reader A) → (S → A → S) → ℕ → S → Reader (List A)
some_more read after zero s = pure []
some_more read after (suc n) s = read n s >>= (λ a. some_more read after n (after s a) >>= (λ as'. pure (a ∷ as')))

-- with those that were read before in front
abbrev pub collected : {A : Type 0} → List A → Outcome (List A) → Outcome (List A)
collected found o = and_then o (λ as'. pure (found ++ as'))

abbrev pub same_state : {A : Type 0} → Unit {0} → A → Unit {0}
same_state u a = tt

-- the byte is less than n
abbrev pub below : ℕ → ℕ → Bool
below n b = nat_le (suc b) n

unfoldable pub option : {A : Type 0} → Reader A → Reader (Option A)
option p = byte (below 2) >>= (λ b. if b == 0 then pure None else (p >>= (λ a. pure (Some a))))

-- one of two rules, by a byte
unfoldable pub either : {A : Type 0} → Reader A → Reader A → Reader A
either p q = byte (below 2) >>= (λ b. if b == 0 then p else q)

-- the number of members, and the members
abbrev pub listed : {A S : Type 0} → ℕ → ℕ → (ℕ → S → Reader A) → (S → A → S) → S → Reader (List A)
listed least most read after s = number least most >>= (λ n. some_more read after n s)

unfoldable pub list_of : {A : Type 0} → Reader A → Reader (List A)
list_of p = listed 0 greatest (λ n s. p) same_state tt

unfoldable pub separated : {A : Type 0} → Reader A → Reader (List A)
separated p =
    byte (below 2) >>= (λ b. if b == 0 then pure [] else (p >>= (λ a. list_of p >>= (λ as'. pure (a ∷ as')))))

-- each is good in the state that the one before it left, and there are `n`
abbrev pub AreGood : {A S : Type 0} → (ℕ → S → A → Type 0) → (S → A → S) → ℕ → S → List A → Type 0
AreGood Good after zero s [] = Unit {0}
AreGood Good after zero s (a ∷ as') = ⊥
AreGood Good after (suc n) s [] = ⊥
AreGood Good after (suc n) s (a ∷ as') = Good n s a × AreGood Good after n (after s a) as'

-- a list of a good length whose members are good
pub record IsListed {A S : Type 0} (least most : ℕ) (Good : ℕ → S → A → Type 0) (after : S → A → S) (s : S) (as' : List A) : Type 0 where
  pub long : IsWithin least most (length as')
  pub good : AreGood Good after (length as') s as'

-- a list that a file can count, of good members
abbrev pub AreEach : {A : Type 0} → (A → Type 0) → List A → Type 0
AreEach Good as' = (length as' ≤ greatest) × Each Good as'

-- the first member, and a list of the others
abbrev pub AreSeparated : {A : Type 0} → (A → Type 0) → List A → Type 0
AreSeparated Good [] = Unit {0}
AreSeparated Good (a ∷ as') = Good a × AreEach Good as'
