-- Parts written one after another.
use Rattle.std.proofs.Common.{◌≡◌, ℕ, zero, suc, ◌<◌, ◌≤◌, ◌+◌, List, [], ◌∷◌, ◌++◌, map, length, take, get_or, refl, ap, sym, ◌∙◌, arith, append_assoc, append-nil}
use Rattle.std.proofs.lemmas.List.{take_more}
use Rattle.sl_ast.specs.Trees.{Expression, call}
use Rattle.sl_ast.specs.Views.{arguments}
use Rattle.sl_store_format.specs.Expressions.{write_expression, write_arguments}
use Rattle.sl_store_bytes.specs.Lexemes.{write_bytes}
use Rattle.sl_store_bytes.specs.Lists.{write_all}
use Rattle.sl_store_bytes.specs.Numbers.{write_number}
use Rattle.sl_store_format.proofs.ExpressionLaws.{count_is, arguments_are}

pub put2 : (old i1 i2 xs ys : List ℕ) → i1 ≡ old ++ xs → i2 ≡ i1 ++ ys → i2 ≡ old ++ (xs ++ ys)
put2 old i1 i2 xs ys e1 e2 = e2 ∙ ap (λ zs. zs ++ ys) e1 ∙ append_assoc old xs ys

pub put3 : (old i1 i2 i3 xs ys zs : List ℕ) → i1 ≡ old ++ xs → i2 ≡ i1 ++ ys → i3 ≡ i2 ++ zs → i3 ≡ old ++ (xs ++ (ys ++ zs))
put3 old i1 i2 i3 xs ys zs e1 e2 e3 = put2 old i1 i3 xs (ys ++ zs) e1 (put2 i1 i2 i3 ys zs e2 e3)

pub put4 : (old i1 i2 i3 i4 xs ys zs ws : List ℕ) → i1 ≡ old ++ xs → i2 ≡ i1 ++ ys → i3 ≡ i2 ++ zs → i4 ≡ i3 ++ ws → i4 ≡ old ++ (xs ++ (ys ++ (zs ++ ws)))
put4 old i1 i2 i3 i4 xs ys zs ws e1 e2 e3 e4 = put2 old i1 i4 xs (ys ++ (zs ++ ws)) e1 (put3 i1 i2 i3 i4 ys zs ws e2 e3 e4)

pub put5 : (old i1 i2 i3 i4 i5 xs ys zs ws vs : List ℕ) → i1 ≡ old ++ xs → i2 ≡ i1 ++ ys → i3 ≡ i2 ++ zs → i4 ≡ i3 ++ ws → i5 ≡ i4 ++ vs → i5 ≡ old ++ (xs ++ (ys ++ (zs ++ (ws ++ vs))))
put5 old i1 i2 i3 i4 i5 xs ys zs ws vs e1 e2 e3 e4 e5 = put2 old i1 i5 xs (ys ++ (zs ++ (ws ++ vs))) e1 (put4 i1 i2 i3 i4 i5 ys zs ws vs e2 e3 e4 e5)

-- ---- members in a loop

all_more : {A : Type 0} (write : A → List ℕ) (xs : List A) (x : A) → write_all write (xs ++ x ∷ []) ≡ write_all write xs ++ write x
all_more write [] x = append-nil (write x)
all_more write (y ∷ xs) x = ap (λ zs. write y ++ zs) (all_more write xs x) ∙ sym (append_assoc (write y) (write_all write xs) (write x))

map_more : {A B : Type 0} (f : A → B) (xs : List A) (x : A) → map f (xs ++ x ∷ []) ≡ map f xs ++ f x ∷ []
map_more f [] x = refl
map_more f (y ∷ xs) x = ap (λ ys. f y ∷ ys) (map_more f xs x)

pub all_taken : {A : Type 0} (xs : List A) (i : ℕ) → length xs ≤ i → take i xs ≡ xs
all_taken [] zero h = refl
all_taken [] (suc i) h = refl
all_taken (x ∷ xs) zero h = absurd (omega arith)
all_taken (x ∷ xs) (suc i) h = ap (λ ys. x ∷ ys) (all_taken xs i (omega arith))

pub length_of : {A B : Type 0} (f : A → B) (xs : List A) → length (map f xs) ≡ length xs
length_of f [] = refl
length_of f (x ∷ xs) = ap suc (length_of f xs)

module _ {A B : Type 0} (write : B → List ℕ) (f : A → B) where
  -- the first `i` members are written
  abbrev pub AreWritten : List ℕ → List A → List ℕ → ℕ → Type 0
  AreWritten old xs out i = out ≡ old ++ write_all write (map f (take i xs))

  one_more : (xs : List A) (i : ℕ) (x : A) → i < length xs → x ≡ get_or xs i x → write_all write (map f (take (i + 1) xs)) ≡ write_all write (map f (take i xs)) ++ write (f x)
  one_more xs i x h is =
      ap (λ ys. write_all write (map f ys)) (take_more xs i x h ∙ ap (λ y. take i xs ++ y ∷ []) (sym is))
      ∙ ap (write_all write) (map_more f (take i xs) x) ∙ all_more write (map f (take i xs)) (f x)

  pub written_more : (old : List ℕ) (xs : List A) (out new : List ℕ) (i : ℕ) (x : A) → i < length xs → x ≡ get_or xs i x
      → AreWritten old xs out i → new ≡ out ++ write (f x) → AreWritten old xs new (i + 1)
  written_more old xs out new i x h is before e =
      put2 old out new (write_all write (map f (take i xs))) (write (f x)) before e ∙ ap (λ zs. old ++ zs) (sym (one_more xs i x h is))

  pub written_all : (old : List ℕ) (xs : List A) (out : List ℕ) (i : ℕ) → length xs ≤ i → AreWritten old xs out i → out ≡ old ++ write_all write (map f xs)
  written_all old xs out i h before = before ∙ ap (λ ys. old ++ write_all write (map f ys)) (all_taken xs i h)

-- a call's bytes, from its name and its list
pub call_bytes : (w : List ℕ) (es : List Expression) → write_expression (call w (arguments es)) ≡ 3 ∷ (write_bytes w ++ (write_number (length es) ++ write_all write_expression es))
call_bytes w es =
    ap (λ k. 3 ∷ (write_bytes w ++ (write_number k ++ write_arguments (arguments es)))) (count_is es)
    ∙ ap (λ zs. 3 ∷ (write_bytes w ++ (write_number (length es) ++ zs))) (arguments_are es)
