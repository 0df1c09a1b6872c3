-- Lists of parts, and parts that may lack, as parts of rules.
use Rattle.std.proofs.Common.{◌≡◌, ℕ, zero, suc, ◌+◌, inl, inr, Bool, List, [], ◌∷◌, ◌++◌, Option, None, Some, Ok, Err, refl, sym, ◌∙◌, subst, ap}
use Rattle.sl_ast.specs.Spelling.{Spelling, spell_all, spell_commas, spell_option}
use Rattle.sl_ast.specs.Symbols.{Sym, mark}
use Rattle.sl_ast.specs.Validity.{Each, IfWritten}
use Rattle.sl_ast.specs.declared.symbols.Mark.TheVariants as m
use Rattle.sl_parse_grammar.specs.Lists.{many_from, many, separated_from}
use Rattle.sl_parse_grammar.specs.Reader.{Input, left, first, Fault, Outcome, Reader, and_then, pure, next, look, is_mark, optional}
use Rattle.sl_parse_grammar.proofs.Keeps.{keeps_all, keeps_option}
use Rattle.sl_parse_grammar.proofs.ListsTaken.{Takes, many_ok}
use Rattle.sl_parse_grammar.proofs.Rules.{optional_ok}
use Rattle.sl_parse_grammar.proofs.Taken.{look_ok, mark_first, took_next}
use Rattle.sl_parse_faults.proofs.Closes.{AllKeep, Mended, Part, same_error}
use Rattle.sl_parse_faults.proofs.Goes.{Goes, one_more, place}
use Rattle.sl_parse_faults.proofs.Leaves.{mended_refused}

-- nothing is asked of the input
abbrev pub Anywhere : Input → Type 0
Anywhere i = Unit {0}

abbrev pub Behind : {A : Type 0} → A → Input → Type 0
Behind a i = Unit {0}

-- a part outside expressions
abbrev pub Whole : {A : Type 0} → ℕ → Spelling A → (A → Type 0) → Reader A → Type 0
Whole extra spell Good p = Part extra spell Good Anywhere Behind p

-- a fault of the part itself, in a larger tree
pub mended_as : {A B : Type 0} (extra : ℕ) (spell : Spelling A) (Good : A → Type 0) (spell_b : Spelling B) (Good_b : B → Type 0) (make : A → B) (xs : List Sym) (d e : Fault) → d ≡ e
    → ((a : A) → Good a → Good_b (make a)) → ((a : A) (rest : List Sym) → spell_b (make a) rest ≡ spell a rest) → Mended extra spell Good xs d → Mended extra spell_b Good_b xs e
mended_as extra spell Good spell_b Good_b make xs d e same good spells m = subst (λ y. Mended extra spell_b Good_b xs y) same (record {
  tree = make m.tree;
  good = good m.tree m.good;
  goes = λ rest. subst (λ ys. Goes extra d.form (place extra d) xs ys) (sym (spells m.tree rest)) (m.goes rest);
})

-- a fault behind a part, in a larger tree
pub mended_behind : {A B C : Type 0} (extra : ℕ) (spell_a : Spelling A) (a : A) (spell_b : Spelling B) (Good_b : B → Type 0) (spell_c : Spelling C) (Good_c : C → Type 0) (make : B → C)
    (xs ys : List Sym) (e : Fault) → AllKeep extra (spell_a a) → xs ≡ spell_a a ys → ((b : B) → Good_b b → Good_c (make b))
    → ((b : B) (rest : List Sym) → spell_c (make b) rest ≡ spell_a a (spell_b b rest)) → Mended extra spell_b Good_b ys e → Mended extra spell_c Good_c xs e
mended_behind extra spell_a a spell_b Good_b spell_c Good_c make xs ys e keeps same good spells m = record {
  tree = make m.tree;
  good = good m.tree m.good;
  goes = λ rest. subst (λ zs. Goes extra e.form (place extra e) zs (spell_c (make m.tree) rest)) (sym same)
      (subst (λ zs. Goes extra e.form (place extra e) (spell_a a ys) zs) (sym (spells m.tree rest)) (keeps e.form (place extra e) ys (spell_b m.tree rest) (m.goes rest)));
}

-- ---- parts one behind the other

module _ {A : Type 0} (extra : ℕ) (spell : Spelling A) (Good : A → Type 0) (p : Reader A) (part : Whole extra spell Good p) where
  sound : (i j : Input) (a : A) → p i ≡ Ok (a, j) → Takes spell Good i a j
  sound i j a h = part.sound i j a tt h

  many_then : (goes : Option Sym → Bool) (n : ℕ) (found : List A) → ((more : List A) (j : Input) (e : Fault) → many_from goes p n more j ≡ Err e → Mended extra (spell_all spell) (Each Good) j.rest e)
      → (i : Input) (e : Fault) (o : Outcome A) → p i ≡ o → and_then o (λ a. many_from goes p n (found ++ a ∷ [])) ≡ Err e → Mended extra (spell_all spell) (Each Good) i.rest e
  many_then goes n found later i e (Ok x) is h =
      let took = sound i x.1 x.0 is in
      mended_behind extra spell x.0 (spell_all spell) (Each Good) (spell_all spell) (Each Good) (λ as'. x.0 ∷ as') i.rest x.1.rest e (part.keeps x.0) took.tokens (λ as' goods. (took.good, goods)) (λ as' rest. refl)
      (later (found ++ x.0 ∷ []) x.1 e h)
  many_then goes n found later i e (Err d) is h =
      mended_as extra spell Good (spell_all spell) (Each Good) (λ a. a ∷ []) i.rest d e (same_error d e h) (λ a good. (good, tt)) (λ a rest. refl) (part.mends i tt d is)

  many_mends : (goes : Option Sym → Bool) (n : ℕ) (found : List A) (i : Input) (e : Fault) → many_from goes p n found i ≡ Err e → Mended extra (spell_all spell) (Each Good) i.rest e
  unfolding many_from
  many_mends goes zero found i e h = mended_refused extra (spell_all spell) (Each Good) [] tt i e h
  many_mends goes (suc n) found i e h = elim (look_ok goes _ _ i (Err e) h) [
    | inl g ↦ many_then goes n found (many_mends goes n) i e (p i) refl g.1
    | inr g ↦ absurd (let f = g.1 in cc)
  ]

  all_takes : (goes : Option Sym → Bool) (i j : Input) (as' : List A) → many goes p i ≡ Ok (as', j) → Takes (spell_all spell) (Each Good) i as' j
  all_takes goes i j as' h =
      let took = many_ok spell Good goes p sound (suc (left i)) [] i j as' h in
      subst (λ bs. Takes (spell_all spell) (Each Good) i bs j) took.whole (record { tokens = took.tokens; good = took.goods })

  pub whole_many : (goes : Option Sym → Bool) → Whole extra (spell_all spell) (Each Good) (many goes p)
  whole_many goes = record {
    sound = λ i j as' here h. all_takes goes i j as' h;
    next = λ i j as' here h. tt;
    keeps = λ as' form n. keeps_all (Goes extra form n) (one_more extra form n) spell (λ a. part.keeps a form n) as';
    short = [];
    short_good = tt;
    mends = λ i here e h. many_mends goes (suc (left i)) [] i e h;
  }

  -- ---- parts that may lack

  optional_then : (i : Input) (e : Fault) (o : Outcome A) → p i ≡ o → and_then o (λ a. pure (Some a)) ≡ Err e → Mended extra (spell_option spell) (IfWritten Good) i.rest e
  optional_then i e (Ok x) is h = absurd (cc)
  optional_then i e (Err d) is h =
      mended_as extra spell Good (spell_option spell) (IfWritten Good) (λ a. Some a) i.rest d e (same_error d e h) (λ a good. good) (λ a rest. refl) (part.mends i tt d is)

  optional_mends : (test : Option Sym → Bool) (i : Input) (e : Fault) → optional test p i ≡ Err e → Mended extra (spell_option spell) (IfWritten Good) i.rest e
  optional_mends test i e h = elim (look_ok test _ _ i (Err e) h) [
    | inl g ↦ optional_then i e (p i) refl g.1
    | inr g ↦ absurd (let f = g.1 in cc)
  ]

  pub whole_optional : (test : Option Sym → Bool) → Whole extra (spell_option spell) (IfWritten Good) (optional test p)
  whole_optional test = record {
    sound = λ i j x here h. optional_ok spell Good test p sound i j x h;
    next = λ i j x here h. tt;
    keeps = λ x form n. keeps_option (Goes extra form n) (one_more extra form n) spell (λ a. part.keeps a form n) x;
    short = None;
    short_good = tt;
    mends = λ i here e h. optional_mends test i e h;
  }

-- ---- parts with commas between, of which each takes room

-- a list that isn't empty
abbrev pub Several : Type 0 → Type 0
Several A = A × List A

abbrev pub spell_several : {A : Type 0} → Spelling A → Spelling (Several A)
spell_several spell x rest = spell x.0 (spell_commas spell x.1 rest)

module _ {A : Type 0} (extra : ℕ) (spell : Spelling A) (weight : A → ℕ) (Good : ℕ → A → Type 0) (At : ℕ → Input → Type 0) (p : Reader A)
    (parts : (spent : ℕ) (i : Input) → At spent i → Part extra spell (Good spent) (At spent) (λ a j. At (spent + weight a) j) p)
    (stays : (spent : ℕ) (i j : Input) → i.room ≡ j.room → At spent i → At spent j) where
  -- each is good with what those before it took
  abbrev pub EachGood : ℕ → List A → Type 0
  EachGood spent [] = Unit {0}
  EachGood spent (a ∷ as') = Good spent a × EachGood (spent + weight a) as'

  abbrev pub AllGood : ℕ → Several A → Type 0
  AllGood spent x = EachGood spent (x.0 ∷ x.1)

  separated_behind : (spent n : ℕ) (found : List A)
      → ((now : ℕ) (more : List A) (j : Input) → At now j → (e : Fault) → separated_from p n more j ≡ Err e → Mended extra (spell_several spell) (AllGood now) j.rest e)
      → (a : A) (k : Input) → At (spent + weight a) k → (e : Fault)
      → look (is_mark m.Comma) (λ j. separated_from p n (found ++ a ∷ []) (next j)) (pure (found ++ a ∷ [])) k ≡ Err e
      → Good spent a → (i : Input) → i.rest ≡ spell a k.rest → AllKeep extra (spell a) → Mended extra (spell_several spell) (AllGood spent) i.rest e
  separated_behind spent n found later a k here e h good i same keeps = elim (look_ok (is_mark m.Comma) _ _ k (Err e) h) [
    | inl g ↦
        let comma = took_next k (mark m.Comma) (mark_first m.Comma (first k.rest) g.0) in
        mended_behind extra (λ b rest. spell b (mark m.Comma ∷ rest)) a (spell_several spell) (AllGood (spent + weight a)) (spell_several spell) (AllGood spent) (λ x. (a, x.0 ∷ x.1)) i.rest (next k).rest e
        (λ form n xs ys go. keeps form n _ _ (one_more extra form n (mark m.Comma) xs ys go)) (same ∙ ap (spell a) comma.tokens) (λ x goods. (good, goods)) (λ x rest. refl)
        (later (spent + weight a) (found ++ a ∷ []) (next k) (stays (spent + weight a) k (next k) refl here) e g.1)
    | inr g ↦ absurd (let f = g.1 in cc)
  ]

  separated_then : (spent n : ℕ) (found : List A)
      → ((now : ℕ) (more : List A) (j : Input) → At now j → (e : Fault) → separated_from p n more j ≡ Err e → Mended extra (spell_several spell) (AllGood now) j.rest e)
      → (i : Input) → At spent i → (e : Fault) (o : Outcome A) → p i ≡ o
      → and_then o (λ a. look (is_mark m.Comma) (λ j. separated_from p n (found ++ a ∷ []) (next j)) (pure (found ++ a ∷ []))) ≡ Err e
      → Mended extra (spell_several spell) (AllGood spent) i.rest e
  separated_then spent n found later i here e (Ok x) is h =
      let part = parts spent i here in
      let took = part.sound i x.1 x.0 here is in
      separated_behind spent n found later x.0 x.1 (part.next i x.1 x.0 here is) e h took.good i took.tokens (part.keeps x.0)
  separated_then spent n found later i here e (Err d) is h =
      mended_as extra spell (Good spent) (spell_several spell) (AllGood spent) (λ a. (a, [])) i.rest d e (same_error d e h) (λ a good. (good, tt)) (λ a rest. refl) ((parts spent i here).mends i here d is)

  pub separated_mends : (n spent : ℕ) (found : List A) (i : Input) → At spent i → (e : Fault) → separated_from p n found i ≡ Err e → Mended extra (spell_several spell) (AllGood spent) i.rest e
  unfolding separated_from
  separated_mends zero spent found i here e h =
      let part = parts spent i here in mended_refused extra (spell_several spell) (AllGood spent) (part.short, []) (part.short_good, tt) i e h
  separated_mends (suc n) spent found i here e h = separated_then spent n found (λ now more j known d g. separated_mends n now more j known d g) i here e (p i) refl h
