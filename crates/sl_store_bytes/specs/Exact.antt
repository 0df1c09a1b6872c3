-- law: what a reader and the bytes that are written owe each other.
use Rattle.std.specs.Prelude.{◌≡◌, ℕ, suc, List, [], ◌∷◌, ◌++◌, length, Ok, Err}
use Rattle.sl_store_bytes.specs.Reader.{cut, damaged, Reader}

-- The reader took a front of the bytes, and takes it whatever follows.
pub record Taken {A : Type 0} (p : Reader A) (xs : List ℕ) (a : A) (rest : List ℕ) : Type 0 where
  pub front : List ℕ
  pub all : xs ≡ front ++ rest
  pub stays : (ys : List ℕ) → p (front ++ ys) ≡ Ok (a, ys)

-- The reader goes on up to the damaged byte, and refuses there whatever follows.
pub record Refusal {A : Type 0} (p : Reader A) (xs : List ℕ) (n : ℕ) : Type 0 where
  pub front : List ℕ
  pub wrong : ℕ
  pub rest : List ℕ
  pub all : xs ≡ front ++ wrong ∷ rest
  pub left : n ≡ suc (length rest)
  pub before : p front ≡ Err cut
  pub stays : (ys : List ℕ) → p (front ++ wrong ∷ ys) ≡ Err (damaged (suc (length ys)))

-- Further bytes complete what the reader began.
pub record Completed {A : Type 0} (p : Reader A) (xs : List ℕ) : Type 0 where
  pub more : List ℕ
  pub value : A
  pub reads : p (xs ++ more) ≡ Ok (value, [])

-- What the reader takes and where it refuses doesn't depend on what follows, and what is cut can be completed.
pub record Steady {A : Type 0} (p : Reader A) : Type 0 where
  pub taken : (xs rest : List ℕ) (a : A) → p xs ≡ Ok (a, rest) → Taken p xs a rest
  pub refused : (xs : List ℕ) (n : ℕ) → p xs ≡ Err (damaged n) → Refusal p xs n
  pub completed : (xs : List ℕ) → p xs ≡ Err cut → Completed p xs
  pub some : Completed p []

-- The bytes are those of a good value, and then the rest.
pub record Spelt {A : Type 0} (write : A → List ℕ) (Good : A → Type 0) (xs : List ℕ) (a : A) (rest : List ℕ) : Type 0 where
  pub good : Good a
  pub bytes : xs ≡ write a ++ rest

-- The reader takes the bytes of each good value and nothing else, and is steady.
pub record Exact {A : Type 0} (write : A → List ℕ) (Good : A → Type 0) (p : Reader A) : Type 0 where
  pub complete : (a : A) (rest : List ℕ) → Good a → p (write a ++ rest) ≡ Ok (a, rest)
  pub sound : (xs rest : List ℕ) (a : A) → p xs ≡ Ok (a, rest) → Spelt write Good xs a rest
  pub steady : Steady p

-- Each good value has one spelling, and none is the beginning of another.
abbrev pub AreApart : {A : Type 0} → (A → List ℕ) → (A → Type 0) → Type 0
AreApart {A} write Good = (a b : A) (rest : List ℕ) → Good a → Good b → write b ≡ write a ++ rest → (a ≡ b) × (rest ≡ [])
