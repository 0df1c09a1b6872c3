-- meaning: what the bytes of a file are: those of a value, the beginning of some, or damaged at a byte.
use Rattle.std.specs.Prelude.{◌≡◌, ◌<◌, ℕ, suc, List, [], ◌∷◌, ◌++◌, length, take, Result, Ok, Err}
use Rattle.sl_store_bytes.specs.Reader.{Fault, damaged, Outcome}

module _ {A : Type 0} (write : A → List ℕ) (Good : A → Type 0) where
  -- The bytes of a good value begin with these.
  pub record Begins (xs : List ℕ) : Type 0 where
    pub value : A
    pub more : List ℕ
    pub good : Good value
    pub bytes : write value ≡ xs ++ more

  -- They are the bytes of the value, which is good.
  pub record Are (xs : List ℕ) (a : A) : Type 0 where
    pub good : Good a
    pub bytes : xs ≡ write a

  -- They begin the bytes of a good value and aren't all of them.
  pub record AreCut (xs : List ℕ) : Type 0 where
    pub begins : Begins xs
    pub not_whole : (a : A) → Are xs a → ⊥

  -- The byte at the place is the first after which no good value goes on.
  pub record AreDamagedAt (xs : List ℕ) (at : ℕ) : Type 0 where
    pub within : at < length xs
    pub before : Begins (take at xs)
    pub none : Begins (take (suc at) xs) → ⊥

-- The mark is at the front.
pub record HasMark (mark bytes : List ℕ) : Type 0 where
  pub rest : List ℕ
  pub bytes_are : bytes ≡ mark ++ rest

-- the mark, and then the value
abbrev pub after_mark : {A : Type 0} → List ℕ → (A → List ℕ) → A → List ℕ
after_mark mark write a = mark ++ write a

abbrev pub at_end_by : {A : Type 0} → A → List ℕ → Result A Fault
at_end_by a [] = Ok a
at_end_by a (b ∷ rest) = Err (damaged (suc (length rest)))

-- nothing may follow
abbrev pub at_end : {A : Type 0} → Outcome A → Result A Fault
at_end (Err e) = Err e
at_end (Ok p) = at_end_by p.0 p.1
