-- A reader outside expressions against the spelling, and the rules of lists and of parts that may lack.
use Rattle.std.proofs.Common.{◌≡◌, ℕ, zero, suc, ◌<◌, ◌≤◌, inl, inr, Bool, true, false, List, [], ◌∷◌, ◌++◌, length, Option, None, Some, Ok, refl, ap, sym, ◌∙◌, subst, arith, append_assoc, append-nil}
use Rattle.sl_ast.specs.Spelling.{Spelling, spell_all, spell_commas, spell_separated, spell_option}
use Rattle.sl_ast.specs.Symbols.{Sym, mark}
use Rattle.sl_ast.specs.Validity.{Each, IfWritten}
use Rattle.sl_ast.specs.declared.symbols.Mark.TheVariants as m
use Rattle.sl_parse_grammar.specs.Lists.{many_from, many, separated_from, separated, listed}
use Rattle.sl_parse_grammar.specs.Parallel.{Local}
use Rattle.sl_parse_grammar.specs.Reader.{Input, at, left, first, Reader, pure, is_mark, same_mark, optional}
use Rattle.sl_parse_grammar.proofs.ListsTaken.{Takes, TookMany, many_ok, TookPart, TookParts, separated_ok}
use Rattle.sl_parse_grammar.proofs.LocalSteps.{local_pure, local_look, Shrinks, local_many, local_separated, local_optional}
use Rattle.sl_parse_grammar.proofs.Steps.{last_part, one_part}
use Rattle.sl_parse_grammar.proofs.Taken.{then_ok, along, look_ok}

-- each tree of a type has a symbol at least
abbrev pub Long : {A : Type 0} → Spelling A → Type 0
Long spell = (a : _) (rest : List Sym) → length rest < length (spell a rest)

-- What a good tree spells is read as that tree, where what follows may follow; what is read is a good tree
-- whose spelling was taken; and the reader is local.
pub record Rule {A : Type 0} (spell : Spelling A) (Good : A → Type 0) (May : List Sym → Type 0) (p : Reader A) : Type 0 where
  pub complete : (a : A) (rest : List Sym) (r : ℕ) → Good a → May rest → p (at (spell a rest) r) ≡ Ok (a, at rest r)
  pub sound : (i j : Input) (a : A) → p i ≡ Ok (a, j) → Takes spell Good i a j
  pub here : Local A p

-- anything may follow
abbrev pub Any : List Sym → Type 0
Any rest = Unit {0}

pub rule_shrinks : {A : Type 0} (spell : Spelling A) (Good : A → Type 0) (May : List Sym → Type 0) (p : Reader A) → Rule spell Good May p → Long spell → Shrinks p
rule_shrinks spell Good May p rule long i j a e =
    let took = rule.sound i j a e in
    let same = ap length took.tokens in
    omega (arith, long a j.rest)

-- ---- parts one behind the other

-- what is asked of a list's parts: each begins as the test says, and may follow another
pub record Parts {A : Type 0} (spell : Spelling A) (Good : A → Type 0) (May : List Sym → Type 0) (goes : Option Sym → Bool) : Type 0 where
  pub begins : (a : A) (rest : List Sym) → Good a → goes (first (spell a rest)) ≡ true
  pub follows : (a : A) (rest : List Sym) → Good a → May (spell a rest)

one_of_many : {A : Type 0} (goes : Option Sym → Bool) (p : Reader A) (n : ℕ) (found : List A) (a : A) (xs rest : List Sym) (r : ℕ) → goes (first xs) ≡ true
    → p (at xs r) ≡ Ok (a, at rest r) → many_from goes p (suc n) found (at xs r) ≡ many_from goes p n (found ++ a ∷ []) (at rest r)
unfolding many_from
one_of_many goes p n found a xs rest r on e = rw (on, e) refl

end_of_many : {A : Type 0} (goes : Option Sym → Bool) (p : Reader A) (n : ℕ) (found : List A) (xs : List Sym) (r : ℕ) → goes (first xs) ≡ false
    → many_from goes p (suc n) found (at xs r) ≡ Ok (found, at xs r)
unfolding many_from
end_of_many goes p n found xs r off = rw off refl

all_may : {A : Type 0} (spell : Spelling A) (Good : A → Type 0) (May : List Sym → Type 0) (goes : Option Sym → Bool) → Parts spell Good May goes
    → (as' : List A) (rest : List Sym) → Each Good as' → May rest → May (spell_all spell as' rest)
all_may spell Good May goes parts [] rest goods may = may
all_may spell Good May goes parts (a ∷ as') rest goods may = parts.follows a (spell_all spell as' rest) goods.0

pub long_all : {A : Type 0} (spell : Spelling A) → Long spell → (as' : List A) (rest : List Sym) → length rest ≤ length (spell_all spell as' rest)
long_all spell long [] rest = omega arith
long_all spell long (a ∷ as') rest = omega (arith, long a (spell_all spell as' rest), long_all spell long as' rest)

many_are : {A : Type 0} (spell : Spelling A) (Good : A → Type 0) (May : List Sym → Type 0) (goes : Option Sym → Bool) (p : Reader A) → Rule spell Good May p → Long spell
    → Parts spell Good May goes → (as' : List A) (n : ℕ) (found : List A) (rest : List Sym) (r : ℕ) → Each Good as' → goes (first rest) ≡ false → May rest
    → length (spell_all spell as' rest) < n → many_from goes p n found (at (spell_all spell as' rest) r) ≡ Ok (found ++ as', at rest r)
many_are spell Good May goes p rule long parts as' zero found rest r goods off may less = absurd (omega arith)
many_are spell Good May goes p rule long parts [] (suc n) found rest r goods off may less =
    end_of_many goes p n found rest r off ∙ ap (λ xs. Ok (xs, at rest r)) (sym (append-nil found))
many_are spell Good May goes p rule long parts (a ∷ as') (suc n) found rest r goods off may less =
    let after = spell_all spell as' rest in
    let short = long a after in
    one_of_many goes p n found a (spell a after) after r (parts.begins a after goods.0) (rule.complete a after r goods.0 (all_may spell Good May goes parts as' rest goods.1 may))
    ∙ many_are spell Good May goes p rule long parts as' n (found ++ a ∷ []) rest r goods.1 off may (omega arith)
    ∙ ap (λ xs. Ok (xs, at rest r)) (append_assoc found (a ∷ []) as')

many_takes : {A : Type 0} (spell : Spelling A) (Good : A → Type 0) (goes : Option Sym → Bool) (i : Input) (as' : List A) (j : Input) → TookMany spell Good goes [] i as' j
    → Takes (spell_all spell) (Each Good) i as' j
many_takes spell Good goes i as' j took = subst (λ bs. Takes (spell_all spell) (Each Good) i bs j) took.whole (record { tokens = took.tokens; good = took.goods })

-- May of the whole list: the part's, and that the list is at its end
abbrev pub Ends : (Option Sym → Bool) → (List Sym → Type 0) → List Sym → Type 0
Ends goes May rest = (goes (first rest) ≡ false) × May rest

pub many_rule : {A : Type 0} (spell : Spelling A) (Good : A → Type 0) (May : List Sym → Type 0) (goes : Option Sym → Bool) (p : Reader A) → Rule spell Good May p → Long spell
    → Parts spell Good May goes → Rule (spell_all spell) (Each Good) (Ends goes May) (many goes p)
many_rule spell Good May goes p rule long parts = record {
  complete = λ as' rest r goods may. many_are spell Good May goes p rule long parts as' (suc (length (spell_all spell as' rest))) [] rest r goods may.0 may.1 (omega arith);
  sound = λ i j as' e. many_takes spell Good goes i as' j (many_ok spell Good goes p rule.sound (suc (left i)) [] i j as' e);
  here = local_many goes p rule.here (rule_shrinks spell Good May p rule long);
}

-- ---- parts with commas between, up to a closing bracket

-- what is asked of a list's parts: none begins with a closing bracket, and a comma or that bracket may follow
pub record Separated {A : Type 0} (spell : Spelling A) (May : List Sym → Type 0) : Type 0 where
  pub begins : (a : A) (rest : List Sym) → is_mark m.Close (first (spell a rest)) ≡ false
  pub comma : (rest : List Sym) → May (mark m.Comma ∷ rest)
  pub close : (rest : List Sym) → May (mark m.Close ∷ rest)

close_no_comma : (rest : List Sym) → is_mark m.Comma (first (mark m.Close ∷ rest)) ≡ false
unfolding same_mark
close_no_comma rest = refl

count_commas : {A : Type 0} (spell : Spelling A) → Long spell → (as' : List A) (rest : List Sym) → length as' ≤ length (spell_commas spell as' rest)
count_commas spell long [] rest = omega arith
count_commas spell long (a ∷ as') rest = omega (arith, long a (spell_commas spell as' rest), count_commas spell long as' rest)

separated_are : {A : Type 0} (spell : Spelling A) (Good : A → Type 0) (May : List Sym → Type 0) (p : Reader A) → Rule spell Good May p → Separated spell May
    → (a : A) (as' : List A) (n : ℕ) (found : List A) (rest : List Sym) (r : ℕ) → Good a → Each Good as' → length as' < n
    → separated_from p n found (at (spell a (spell_commas spell as' (mark m.Close ∷ rest))) r) ≡ Ok (found ++ a ∷ as', at (mark m.Close ∷ rest) r)
separated_are spell Good May p rule parts a as' zero found rest r good goods less = absurd (omega arith)
separated_are spell Good May p rule parts a [] (suc n) found rest r good goods less =
    last_part p n found a (at (spell a (mark m.Close ∷ rest)) r) (mark m.Close ∷ rest) r (rule.complete a (mark m.Close ∷ rest) r good (parts.close rest)) (close_no_comma rest)
separated_are spell Good May p rule parts a (b ∷ bs) (suc n) found rest r good goods less =
    let after = spell b (spell_commas spell bs (mark m.Close ∷ rest)) in
    one_part p n found a (at (spell a (mark m.Comma ∷ after)) r) after r (rule.complete a (mark m.Comma ∷ after) r good (parts.comma after))
    ∙ separated_are spell Good May p rule parts b bs n (found ++ a ∷ []) rest r goods.0 goods.1 (omega arith)
    ∙ ap (λ xs. Ok (xs, at (mark m.Close ∷ rest) r)) (append_assoc found (a ∷ []) (b ∷ bs))

listed_none : {A : Type 0} (p : Reader A) (rest : List Sym) (r : ℕ) → listed p (at (mark m.Close ∷ rest) r) ≡ Ok ([], at (mark m.Close ∷ rest) r)
unfolding listed same_mark
listed_none p rest r = refl

listed_some : {A : Type 0} (p : Reader A) (xs : List Sym) (r : ℕ) → is_mark m.Close (first xs) ≡ false → listed p (at xs r) ≡ separated p (at xs r)
unfolding listed
listed_some p xs r h = rw h refl

-- a list that may be empty, before the closing bracket
pub listed_is : {A : Type 0} (spell : Spelling A) (Good : A → Type 0) (May : List Sym → Type 0) (p : Reader A) → Rule spell Good May p → Long spell → Separated spell May
    → (as' : List A) (rest : List Sym) (r : ℕ) → Each Good as'
    → listed p (at (spell_separated spell as' (mark m.Close ∷ rest)) r) ≡ Ok (as', at (mark m.Close ∷ rest) r)
listed_is spell Good May p rule long parts [] rest r goods = listed_none p rest r
listed_is spell Good May p rule long parts (a ∷ as') rest r goods =
    let after = spell_commas spell as' (mark m.Close ∷ rest) in
    let enough = count_commas spell long as' (mark m.Close ∷ rest) in
    let short = long a after in
    listed_some p (spell a after) r (parts.begins a after)
    ∙ separated_are spell Good May p rule parts a as' (suc (length (spell a after))) [] rest r goods.0 goods.1 (omega arith)

parts_take : {A : Type 0} (spell : Spelling A) (Good : A → Type 0) (i : Input) (as' : List A) (j : Input) → TookParts spell (λ _ s. s) Good [] i as' j → Takes (spell_separated spell) (Each Good) i as' j
parts_take spell Good i as' j took =
    subst (λ bs. Takes (spell_separated spell) (Each Good) i bs j) took.whole (record { tokens = took.tokens; good = (took.good, took.goods) })

pub listed_ok : {A : Type 0} (spell : Spelling A) (Good : A → Type 0) (p : Reader A) → ((i j : Input) (a : A) → p i ≡ Ok (a, j) → TookPart spell (λ _ s. s) Good i a j)
    → (i j : Input) (as' : List A) → listed p i ≡ Ok (as', j) → Takes (spell_separated spell) (Each Good) i as' j
unfolding listed
listed_ok spell Good p sound i j as' e = elim (look_ok (is_mark m.Close) _ _ i (Ok (as', j)) e) [
  | inl h ↦ along (λ bs k. Takes (spell_separated spell) (Each Good) i bs k) [] as' i j h.1 (record { tokens = refl; good = tt })
  | inr h ↦ parts_take spell Good i as' j (separated_ok spell (λ _ s. s) Good p sound (suc (left i)) [] i j as' h.1)
]

pub listed_local : {A : Type 0} (p : Reader A) → Local A p → Shrinks p → Local (List A) (listed p)
unfolding listed
listed_local p here shrinks = local_look (is_mark m.Close) (pure []) (separated p) (local_pure []) (local_separated p here shrinks)

-- ---- parts that may lack

optional_some : {A : Type 0} (test : Option Sym → Bool) (p : Reader A) (a : A) (xs rest : List Sym) (r : ℕ) → test (first xs) ≡ true → p (at xs r) ≡ Ok (a, at rest r)
    → optional test p (at xs r) ≡ Ok (Some a, at rest r)
optional_some test p a xs rest r on e = rw (on, e) refl

optional_none : {A : Type 0} (test : Option Sym → Bool) (p : Reader A) (xs : List Sym) (r : ℕ) → test (first xs) ≡ false → optional test p (at xs r) ≡ Ok (None, at xs r)
optional_none test p xs r off = rw off refl

pub optional_is : {A : Type 0} (spell : Spelling A) (Good : A → Type 0) (May : List Sym → Type 0) (test : Option Sym → Bool) (p : Reader A) → Rule spell Good May p
    → ((a : A) (rest : List Sym) → test (first (spell a rest)) ≡ true) → (x : Option A) (rest : List Sym) (r : ℕ) → IfWritten Good x → test (first rest) ≡ false → May rest
    → optional test p (at (spell_option spell x rest) r) ≡ Ok (x, at rest r)
optional_is spell Good May test p rule begins None rest r good off may = optional_none test p rest r off
optional_is spell Good May test p rule begins (Some a) rest r good off may = optional_some test p a (spell a rest) rest r (begins a rest) (rule.complete a rest r good may)

pub optional_ok : {A : Type 0} (spell : Spelling A) (Good : A → Type 0) (test : Option Sym → Bool) (p : Reader A) → ((i j : Input) (a : A) → p i ≡ Ok (a, j) → Takes spell Good i a j)
    → (i j : Input) (x : Option A) → optional test p i ≡ Ok (x, j) → Takes (spell_option spell) (IfWritten Good) i x j
optional_ok spell Good test p sound i j x e = elim (look_ok test _ _ i (Ok (x, j)) e) [
  | inl h ↦
      let a = then_ok (p i) _ x j h.1 in
      let took = sound i a.1 a.0 a.2 in
      along (λ y k. Takes (spell_option spell) (IfWritten Good) i y k) (Some a.0) x a.1 j a.3 (record { tokens = took.tokens; good = took.good })
  | inr h ↦ along (λ y k. Takes (spell_option spell) (IfWritten Good) i y k) None x i j h.1 (record { tokens = refl; good = tt })
]

pub optional_rule : {A : Type 0} (spell : Spelling A) (Good : A → Type 0) (May : List Sym → Type 0) (test : Option Sym → Bool) (p : Reader A) → Rule spell Good May p
    → ((a : A) (rest : List Sym) → test (first (spell a rest)) ≡ true) → Rule (spell_option spell) (IfWritten Good) (Ends test May) (optional test p)
optional_rule spell Good May test p rule begins = record {
  complete = λ x rest r good may. optional_is spell Good May test p rule begins x rest r good may.0 may.1;
  sound = optional_ok spell Good test p rule.sound;
  here = local_optional test p rule.here;
}
