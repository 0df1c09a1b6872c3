-- Rules outside expressions: parts one behind the other.
use Rattle.std.proofs.Common.{◌≡◌, ℕ, suc, ◌+◌, inl, inr, Bool, List, [], ◌∷◌, Option, Ok, Err, refl, sym, subst}
use Rattle.sl_ast.specs.Spelling.{Spelling, spell_separated}
use Rattle.sl_ast.specs.Symbols.{Sym, mark}
use Rattle.sl_ast.specs.Spelling.{keyword}
use Rattle.sl_ast.specs.Validity.{Each}
use Rattle.sl_ast.specs.declared.symbols.Keyword.{Keyword}
use Rattle.sl_ast.specs.declared.symbols.Mark.{Mark}
use Rattle.sl_ast.specs.declared.symbols.Mark.TheVariants as m
use Rattle.sl_parse_grammar.specs.Lists.{listed}
use Rattle.sl_parse_grammar.specs.Reader.{Input, left, Fault, Outcome, Reader, and_then, ◌>>=◌, ◌>>◌, pure, look, expect, expect_keyword, is_mark}
use Rattle.sl_parse_grammar.proofs.Keeps.{keeps_separated}
use Rattle.sl_parse_grammar.proofs.ListsTaken.{Takes}
use Rattle.sl_parse_grammar.proofs.PartRules.{Free}
use Rattle.sl_parse_grammar.proofs.Taken.{look_ok}
use Rattle.sl_parse_faults.proofs.Closes.{AllKeep, Mended, Closes, closes_then, closes_pure, same_error}
use Rattle.sl_parse_faults.proofs.Goes.{Goes, one_more, place}
use Rattle.sl_parse_faults.proofs.Leaves.{spell_mark, spell_keyword, part_mark, part_keyword}
use Rattle.sl_parse_faults.proofs.PartLists.{Anywhere, Behind, Whole, mended_as, Several, spell_several, AllGood, EachGood, separated_mends}

-- ---- steps

pub then_mark : {B C : Type 0} {extra : ℕ} {spell : Spelling C} {Good : C → Type 0} {front : List Sym → List Sym} {q : Reader B} (k : Mark) → AllKeep extra front
    → (AllKeep extra (λ rest. front (mark k ∷ rest)) → Closes extra spell Good (λ rest. front (mark k ∷ rest)) Anywhere q) → Closes extra spell Good front Anywhere (expect k >> q)
then_mark {extra = extra} {spell = spell} {Good = Good} {front = front} {q = q} k keeps later =
    closes_then extra (spell_mark k) Free Anywhere Behind (expect k) spell Good front (λ u. q) (part_mark extra (λ r. Unit {0}) k) keeps (λ u fine more. later more)

pub then_keyword : {B C : Type 0} {extra : ℕ} {spell : Spelling C} {Good : C → Type 0} {front : List Sym → List Sym} {q : Reader B} (k : Keyword) → AllKeep extra front
    → (AllKeep extra (λ rest. front (keyword k ∷ rest)) → Closes extra spell Good (λ rest. front (keyword k ∷ rest)) Anywhere q) → Closes extra spell Good front Anywhere (expect_keyword k >> q)
then_keyword {extra = extra} {spell = spell} {Good = Good} {front = front} {q = q} k keeps later =
    closes_then extra (spell_keyword k) Free Anywhere Behind (expect_keyword k) spell Good front (λ u. q) (part_keyword extra (λ r. Unit {0}) k) keeps (λ u fine more. later more)

pub then_part : {A B C : Type 0} {extra : ℕ} {spell_a : Spelling A} {Good_a : A → Type 0} {p : Reader A} {spell : Spelling C} {Good : C → Type 0} {front : List Sym → List Sym} {go : A → Reader B}
    → Whole extra spell_a Good_a p → AllKeep extra front
    → ((a : A) → Good_a a → AllKeep extra (λ rest. front (spell_a a rest)) → Closes extra spell Good (λ rest. front (spell_a a rest)) Anywhere (go a)) → Closes extra spell Good front Anywhere (p >>= go)
then_part {extra = extra} {spell_a = spell_a} {Good_a = Good_a} {p = p} {spell = spell} {Good = Good} {front = front} {go = go} part keeps later =
    closes_then extra spell_a Good_a Anywhere Behind p spell Good front go part keeps later

pub done : {B C : Type 0} {b : B} {extra : ℕ} {spell : Spelling C} {Good : C → Type 0} {front : List Sym → List Sym} (c : C) → Good c → ((rest : List Sym) → spell c rest ≡ front rest)
    → Closes extra spell Good front Anywhere (pure b)
done {extra = extra} {spell = spell} {Good = Good} {front = front} c good spells = closes_pure extra spell Good front Anywhere c good spells

-- a rule as a part of others
pub whole_of : {A : Type 0} {extra : ℕ} {spell : Spelling A} {Good : A → Type 0} {p : Reader A} → ((i j : Input) (a : A) → p i ≡ Ok (a, j) → Takes spell Good i a j) → ((a : A) → AllKeep extra (spell a))
    → (short : A) → Good short → ((i : Input) (e : Fault) → p i ≡ Err e → Mended extra spell Good i.rest e) → Whole extra spell Good p
whole_of sound keeps short good mends = record {
  sound = λ i j a here h. sound i j a h;
  next = λ i j a here h. tt;
  keeps = keeps;
  short = short;
  short_good = good;
  mends = λ i here e h. mends i e h;
}

-- what was taken within a limit was taken within a wider one
pub takes_wider : {A : Type 0} (spell : Spelling A) (Good More : A → Type 0) (i j : Input) (a : A) → (Good a → More a) → Takes spell Good i a j → Takes spell More i a j
takes_wider spell Good More i j a wider took = record { tokens = took.tokens; good = wider took.good }

-- a part that is the whole of another tree
wrap_then : {A B : Type 0} (extra : ℕ) (spell_a : Spelling A) (Good_a : A → Type 0) (p : Reader A) → Whole extra spell_a Good_a p → (spell : Spelling B) (Good : B → Type 0) (make : A → B)
    → ((a : A) → Good_a a → Good (make a)) → ((a : A) (rest : List Sym) → spell (make a) rest ≡ spell_a a rest) → (i : Input) (e : Fault) (o : Outcome A) → p i ≡ o
    → and_then o (λ a. pure (make a)) ≡ Err e → Mended extra spell Good i.rest e
wrap_then extra spell_a Good_a p part spell Good make good spells i e (Ok x) is h = absurd (cc)
wrap_then extra spell_a Good_a p part spell Good make good spells i e (Err d) is h =
    mended_as extra spell_a Good_a spell Good make i.rest d e (same_error d e h) good spells (part.mends i tt d is)

pub wrap_mends : {A B : Type 0} {extra : ℕ} {spell_a : Spelling A} {Good_a : A → Type 0} {p : Reader A} {spell : Spelling B} {Good : B → Type 0} → Whole extra spell_a Good_a p → (make : A → B)
    → ((a : A) → Good_a a → Good (make a)) → ((a : A) (rest : List Sym) → spell (make a) rest ≡ spell_a a rest) → (i : Input) (e : Fault) → (p >>= (λ a. pure (make a))) i ≡ Err e
    → Mended extra spell Good i.rest e
wrap_mends {extra = extra} {spell_a = spell_a} {Good_a = Good_a} {p = p} {spell = spell} {Good = Good} part make good spells i e h =
    wrap_then extra spell_a Good_a p part spell Good make good spells i e (p i) refl h

-- ---- lists with commas that may be empty

module _ {A : Type 0} (extra : ℕ) (spell : Spelling A) (Good : A → Type 0) (p : Reader A) (part : Whole extra spell Good p)
    (sound : (i j : Input) (as' : List A) → listed p i ≡ Ok (as', j) → Takes (spell_separated spell) (Each Good) i as' j) where
  same_part : (spent : ℕ) (i : Input) → Anywhere i → Whole extra spell Good p
  same_part spent i here = part

  anywhere : (spent : ℕ) (i j : Input) → i.room ≡ j.room → Anywhere i → Anywhere j
  anywhere spent i j same here = here

  abbrev SomeGood : Several A → Type 0
  SomeGood x = AllGood extra spell (λ a. 0) (λ spent. Good) (λ spent. Anywhere) p same_part anywhere 0 x

  each_good : (spent : ℕ) (as' : List A) → EachGood extra spell (λ a. 0) (λ spent. Good) (λ spent. Anywhere) p same_part anywhere spent as' → Each Good as'
  each_good spent [] goods = tt
  each_good spent (a ∷ as') goods = (goods.0, each_good (spent + 0) as' goods.1)

  listed_mends : (i : Input) (e : Fault) → listed p i ≡ Err e → Mended extra (spell_separated spell) (Each Good) i.rest e
  unfolding listed
  listed_mends i e h = elim (look_ok (is_mark m.Close) _ _ i (Err e) h) [
    | inl g ↦ absurd (let x = g.1 in cc)
    | inr g ↦ mended_as extra (spell_several spell) SomeGood (spell_separated spell) (Each Good) (λ x. x.0 ∷ x.1) i.rest e e refl (λ x goods. each_good 0 (x.0 ∷ x.1) goods) (λ x rest. refl)
        (separated_mends extra spell (λ a. 0) (λ spent. Good) (λ spent. Anywhere) p same_part anywhere (suc (left i)) 0 [] i tt e g.1)
  ]

  pub whole_listed : Whole extra (spell_separated spell) (Each Good) (listed p)
  whole_listed = whole_of sound (λ as' form n. keeps_separated (Goes extra form n) (one_more extra form n) spell (λ a. part.keeps a form n) as') [] tt listed_mends

-- ---- the last step of a rule, and steps that a symbol chooses

pub last : {A B C : Type 0} {extra : ℕ} {spell_a : Spelling A} {Good_a : A → Type 0} {spell : Spelling C} {Good : C → Type 0} {front : List Sym → List Sym} {q : Reader B} → (make : A → C)
    → ((a : A) → Good_a a → Good (make a)) → ((a : A) (rest : List Sym) → spell (make a) rest ≡ front (spell_a a rest)) → (short : A) → Good_a short → AllKeep extra front
    → ((i : Input) (e : Fault) → q i ≡ Err e → Mended extra spell_a Good_a i.rest e) → Closes extra spell Good front Anywhere q
last {extra = extra} {spell_a = spell_a} {spell = spell} {front = front} make good spells short short_good keeps mends = record {
  whole = make short;
  good = good short short_good;
  tail = λ rest. spell_a short rest;
  spells = λ rest. spells short rest;
  mend = λ i here e h. (
      let m = mends i e h in
      record {
        tree = make m.tree;
        good = good m.tree m.good;
        goes = λ rest. subst (λ ys. Goes extra e.form (place extra e) (front i.rest) ys) (sym (spells m.tree rest)) (keeps e.form (place extra e) i.rest (spell_a m.tree rest) (m.goes rest));
      });
}

pub either : {B C : Type 0} {extra : ℕ} {spell : Spelling C} {Good : C → Type 0} {front : List Sym → List Sym} {p q : Reader B} → (test : Option Sym → Bool) → Closes extra spell Good front Anywhere p
    → Closes extra spell Good front Anywhere q → Closes extra spell Good front Anywhere (look test p q)
either {extra = extra} {spell = spell} {Good = Good} {front = front} {p = p} {q = q} test first second = record {
  whole = first.whole;
  good = first.good;
  tail = first.tail;
  spells = first.spells;
  mend = λ i here e h. elim (look_ok test p q i (Err e) h) [
    | inl g ↦ first.mend i tt e g.1
    | inr g ↦ second.mend i tt e g.1
  ];
}
