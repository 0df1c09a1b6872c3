-- What a reading took, where it did not refuse.
use Rattle.std.proofs.Common.{◌≡◌, ℕ, zero, suc, ◌&&◌, ◌⊎◌, inl, inr, Bool, true, false, cond, nat_le, List, [], ◌∷◌, drop, length, Option, None, Some, Ok, Err, refl, ap, ◌∙◌, subst, rules}
use denote.Enum.Bare.{same_true}
use Rattle.sl_ast.specs.contracts.symbols.Keyword as keywords
use Rattle.sl_ast.specs.contracts.symbols.Mark.{the_type}
use Rattle.sl_ast.specs.Spelling.{name, keyword, spell_option, spell_size}
use Rattle.sl_ast.specs.Symbols.{plain, quoted, Sym, number, word, mark}
use Rattle.sl_ast.specs.Trees.{Name}
use Rattle.sl_ast.specs.Validity.{IfWritten, IsWidth}
use Rattle.sl_ast.specs.declared.symbols.Feature.TheVariants as f
use Rattle.sl_ast.specs.declared.symbols.Keyword.{Keyword}
use Rattle.sl_ast.specs.declared.symbols.Mark.{Mark}
use Rattle.sl_ast.specs.declared.symbols.Mark.TheVariants as m
use Rattle.sl_parse_grammar.specs.Reader.{Input, at, left, first, Outcome, Reader, fault, nesting, unsupported, and_then, next, enter, refuse, look, is_mark, is_keyword, same_mark, same_keyword, expect, expect_keyword, number_by, integer_here, name_by, name_here, size_by, size_here, size_option}
use Rattle.sl_parse_grammar.proofs.Steps.{le_is}

-- a step and then another: neither refused
pub then_ok : {A B : Type 0} (o : Outcome A) (go : A → Reader B) (b : B) (j : Input) → and_then o go ≡ Ok (b, j)
    → (a : A) × (i : Input) × (o ≡ Ok (a, i)) × (go a i ≡ Ok (b, j))
then_ok (Ok p) go b j e = (p.0, p.1, refl, e)
then_ok (Err x) go b j e = absurd (cc)

abbrev pub value_or : {A : Type 0} → A → Outcome A → A
value_or d (Ok p) = p.0
value_or d (Err e) = d

abbrev pub state_or : {A : Type 0} → Input → Outcome A → Input
state_or d (Ok p) = p.1
state_or d (Err e) = d

pub same_value : {A : Type 0} (a b : A) (i j : Input) → ◌≡◌ {A = Outcome A} (Ok (a, i)) (Ok (b, j)) → a ≡ b
same_value a b i j e = ap (value_or a) e

pub same_state : {A : Type 0} (a b : A) (i j : Input) → ◌≡◌ {A = Outcome A} (Ok (a, i)) (Ok (b, j)) → i ≡ j
same_state a b i j e = ap (state_or i) e

-- a fact of what was read, moved along
pub along : {A : Type 0} (P : A → Input → Type 0) (a b : A) (i j : Input) → ◌≡◌ {A = Outcome A} (Ok (a, i)) (Ok (b, j)) → P a i → P b j
along P a b i j e h = subst (λ o. P (value_or a o) (state_or i o)) e h

by_test : {A : Type 0} (b : Bool) (p q : Reader A) (i : Input) (o : Outcome A) → (if_so : cond b p q i ≡ o) → ((b ≡ true) × (p i ≡ o)) ⊎ ((b ≡ false) × (q i ≡ o))
by_test true p q i o e = inl (refl, e)
by_test false p q i o e = inr (refl, e)

pub look_ok : {A : Type 0} (test : Option Sym → Bool) (p q : Reader A) (i : Input) (o : Outcome A) → look test p q i ≡ o
    → ((test (first i.rest) ≡ true) × (p i ≡ o)) ⊎ ((test (first i.rest) ≡ false) × (q i ≡ o))
look_ok test p q i o e = by_test (test (first i.rest)) p q i o e

pub both_true : (a b : Bool) → (a && b) ≡ true → (a ≡ true) × (b ≡ true)
both_true true b e = (refl, e)
both_true false b e = absurd (cc)

-- ---- single symbols

-- the symbol was taken
pub record Took (i : Input) (x : Sym) (j : Input) : Type 0 where
  pub tokens : i.rest ≡ x ∷ j.rest
  pub room : i.room ≡ j.room

-- the symbol was taken as one more operator or bracket
pub record Entered (i : Input) (x : Sym) (j : Input) : Type 0 where
  pub tokens : i.rest ≡ x ∷ j.rest
  pub room : i.room ≡ suc j.room

pub first_is : (xs : List Sym) (x : Sym) → first xs ≡ Some x → xs ≡ x ∷ drop 1 xs
first_is [] x h = absurd (cc)
first_is (y ∷ ys) x h = let same : y ≡ x = cc in ap (λ z. z ∷ ys) same

pub mark_first : (k : Mark) (o : Option Sym) → is_mark k o ≡ true → o ≡ Some (mark k)
unfolding same_mark
mark_first k (Some (mark l)) h = let same : l ≡ k = same_true the_type (search rules) l k h in ap (λ x. Some (mark x)) same
mark_first k o h = absurd (cc)

pub keyword_first : (k : Keyword) (o : Option Sym) → is_keyword k o ≡ true → o ≡ Some (keyword k)
unfolding same_keyword
keyword_first k (Some (word (quoted l))) h = let same : l ≡ k = same_true keywords.the_type (search rules) l k h in ap (λ x. Some (keyword x)) same
keyword_first k o h = absurd (cc)

pub took_next : (i : Input) (x : Sym) → first i.rest ≡ Some x → Took i x (next i)
took_next i x h = record { tokens = first_is i.rest x h; room = refl }

pub enter_ok : (i j : Input) (x : Sym) (u : Unit {0}) → first i.rest ≡ Some x → enter i ≡ Ok (u, j) → Entered i x j
unfolding enter
enter_ok i j x u h e = by_room i.room refl e
  where
    by_room : (r : ℕ) → i.room ≡ r → elim r as (λ _. Outcome (Unit {0})) [ zero ↦ Err (fault nesting (length i.rest)) | suc s ↦ Ok (tt, at (drop 1 i.rest) s) ] ≡ Ok (u, j) → Entered i x j
    by_room zero is f = absurd (cc)
    by_room (suc s) is f =
        let same : at (drop 1 i.rest) s ≡ j = ap (state_or i) f in
        subst (λ y. Entered i x y) same (record { tokens = first_is i.rest x h; room = is })

pub expect_ok : (k : Mark) (i j : Input) (u : Unit {0}) → expect k i ≡ Ok (u, j) → Took i (mark k) j
unfolding expect
expect_ok k i j u e = elim (look_ok (is_mark k) _ refuse i (Ok (u, j)) e) [
  | inl h ↦ subst (λ y. Took i (mark k) y) (ap (state_or i) h.1) (took_next i (mark k) (mark_first k (first i.rest) h.0))
  | inr h ↦ absurd (let f = h.1 in cc)
]

pub expect_keyword_ok : (k : Keyword) (i j : Input) (u : Unit {0}) → expect_keyword k i ≡ Ok (u, j) → Took i (keyword k) j
unfolding expect_keyword
expect_keyword_ok k i j u e = elim (look_ok (is_keyword k) _ refuse i (Ok (u, j)) e) [
  | inl h ↦ subst (λ y. Took i (keyword k) y) (ap (state_or i) h.1) (took_next i (keyword k) (keyword_first k (first i.rest) h.0))
  | inr h ↦ absurd (let f = h.1 in cc)
]

number_by_ok : (o : Option Sym) (i j : Input) (n : ℕ) → first i.rest ≡ o → number_by o i ≡ Ok (n, j) → Took i (number n) j
number_by_ok (Some (number v)) i j n h e = along (λ a k. Took i (number a) k) v n (next i) j e (took_next i (number v) h)
number_by_ok o i j n h e = absurd (cc)

pub integer_ok : (i j : Input) (n : ℕ) → integer_here i ≡ Ok (n, j) → Took i (number n) j
unfolding integer_here
integer_ok i j n e = number_by_ok (first i.rest) i j n refl e

name_by_ok : (o : Option Sym) (i j : Input) (w : Name) → first i.rest ≡ o → name_by o i ≡ Ok (w, j) → Took i (name w) j
name_by_ok (Some (word (plain v))) i j w h e = along (λ a k. Took i (name a) k) v w (next i) j e (took_next i (name v) h)
name_by_ok o i j w h e = absurd (cc)

pub name_ok : (i j : Input) (w : Name) → name_here i ≡ Ok (w, j) → Took i (name w) j
unfolding name_here
name_ok i j w e = name_by_ok (first i.rest) i j w refl e

pub record TookSize (i : Input) (n : ℕ) (j : Input) : Type 0 where
  pub took : Took i (number n) j
  pub fits : IsWidth n

size_test : (b : Bool) (v : ℕ) (i j : Input) (n : ℕ) → first i.rest ≡ Some (number v) → nat_le v 16 ≡ b
    → cond {A = Reader ℕ} b (λ k. Ok (v, next k)) (λ k. Err (fault (unsupported f.WideValue 0) (left k))) i ≡ Ok (n, j) → TookSize i n j
size_test true v i j n h t e = along (λ a k. TookSize i a k) v n (next i) j e (record { took = took_next i (number v) h; fits = le_is v 16 t })
size_test false v i j n h t e = absurd (cc)

size_by_ok : (o : Option Sym) (i j : Input) (n : ℕ) → first i.rest ≡ o → size_by o i ≡ Ok (n, j) → TookSize i n j
size_by_ok (Some (number v)) i j n h e = size_test (nat_le v 16) v i j n h refl e
size_by_ok o i j n h e = absurd (cc)

pub size_ok : (i j : Input) (n : ℕ) → size_here i ≡ Ok (n, j) → TookSize i n j
unfolding size_here
size_ok i j n e = size_by_ok (first i.rest) i j n refl e

-- ---- parts that may lack

pub record TookOption {A : Type 0} (spell : A → List Sym → List Sym) (Good : A → Type 0) (i : Input) (x : Option A) (j : Input) : Type 0 where
  pub tokens : i.rest ≡ spell_option spell x j.rest
  pub room : i.room ≡ j.room
  pub good : IfWritten Good x

pub size_option_ok : (i j : Input) (x : Option ℕ) → size_option i ≡ Ok (x, j) → TookOption spell_size IsWidth i x j
unfolding size_option
size_option_ok i j x e = elim (look_ok (is_mark m.Colon) _ _ i (Ok (x, j)) e) [
  | inl h ↦
      let colon = took_next i (mark m.Colon) (mark_first m.Colon (first i.rest) h.0) in
      let a = then_ok (size_here (next i)) _ x j h.1 in
      let size = size_ok (next i) a.1 a.0 a.2 in
      along (λ y k. TookOption spell_size IsWidth i y k) (Some a.0) x a.1 j a.3 (record {
        tokens = colon.tokens ∙ ap (λ xs. mark m.Colon ∷ xs) size.took.tokens;
        room = colon.room ∙ size.took.room;
        good = size.fits;
      })
  | inr h ↦ along (λ y k. TookOption spell_size IsWidth i y k) None x i j h.1 (record { tokens = refl; room = refl; good = tt })
]
