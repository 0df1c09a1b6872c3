-- Trees that complete what a reader took before it refused, by steps.
--
-- A part of a rule is read behind a front of symbols. Wherever its reader refuses, some tree of the whole rule goes on
-- as the symbols do up to the place of the fault: the part's own tree there, and short trees for the parts behind it.
use Rattle.std.proofs.Common.{◌≡◌, ℕ, zero, suc, ◌+◌, ◌≤◌, List, ◌∷◌, drop, Some, Ok, Err, refl, ap, sym, ◌∙◌, subst, arith}
use Rattle.sl_ast.specs.Spelling.{Spelling}
use Rattle.sl_ast.specs.Symbols.{Sym}
use Rattle.sl_parse_grammar.specs.Reader.{Form, nesting, Fault, fault, Input, at, left, first, Outcome, Reader, and_then, ◌>>=◌, ◌>>◌, pure, enter}
use Rattle.sl_parse_grammar.proofs.Keeps.{Keeps}
use Rattle.sl_parse_grammar.proofs.ListsTaken.{Takes}
use Rattle.sl_parse_grammar.proofs.Taken.{enter_ok}
use Rattle.sl_parse_faults.proofs.Goes.{Goes, one_more, place, ends_at_limit, goes_past_limit}

-- put before two lists, it keeps them together
abbrev pub AllKeep : ℕ → (List Sym → List Sym) → Type 0
AllKeep extra front = (form : Form) (n : ℕ) → Keeps (Goes extra form n) (one_more extra form n) front

-- a good tree that goes on as the symbols do, up to the place of the fault
pub record Mended {A : Type 0} (extra : ℕ) (spell : Spelling A) (Good : A → Type 0) (xs : List Sym) (e : Fault) : Type 0 where
  pub tree : A
  pub good : Good tree
  pub goes : (rest : List Sym) → Goes extra e.form (place extra e) xs (spell tree rest)

-- What is known of a part where it is read, and behind it.
pub record Part {A : Type 0} (extra : ℕ) (spell : Spelling A) (Good : A → Type 0) (At : Input → Type 0) (Next : A → Input → Type 0) (p : Reader A) : Type 0 where
  pub sound : (i j : Input) (a : A) → At i → p i ≡ Ok (a, j) → Takes spell Good i a j
  pub next : (i j : Input) (a : A) → At i → p i ≡ Ok (a, j) → Next a j
  pub keeps : (a : A) → AllKeep extra (spell a)
  pub short : A
  pub short_good : Good short
  pub mends : (i : Input) → At i → (e : Fault) → p i ≡ Err e → Mended extra spell Good i.rest e

-- What is read behind a front can be completed, at its beginning and wherever it refuses.
pub record Closes {B C : Type 0} (extra : ℕ) (spell : Spelling C) (Good : C → Type 0) (front : List Sym → List Sym) (At : Input → Type 0) (q : Reader B) : Type 0 where
  pub whole : C
  pub good : Good whole
  pub tail : List Sym → List Sym
  pub spells : (rest : List Sym) → spell whole rest ≡ front (tail rest)
  pub mend : (i : Input) → At i → (e : Fault) → q i ≡ Err e → Mended extra spell Good (front i.rest) e

pub same_error : {A : Type 0} (d e : Fault) → ◌≡◌ {A = Outcome A} (Err d) (Err e) → d ≡ e
same_error d e h = ap (λ o. error_or d o) h
  where
    error_or : {A : Type 0} → Fault → Outcome A → Fault
    error_or d (Ok p) = d
    error_or d (Err e) = e

-- ---- one step and then the others

-- the tree of a fault in the step itself
mended_here : {A B C : Type 0} (extra : ℕ) (spell_a : Spelling A) (Good_a : A → Type 0) (spell : Spelling C) (Good : C → Type 0) (front : List Sym → List Sym) (At : Input → Type 0) (q : Reader B)
    (xs : List Sym) (d e : Fault) → d ≡ e → AllKeep extra front → (m : Mended extra spell_a Good_a xs d) → Closes extra spell Good (λ rest. front (spell_a m.tree rest)) At q
    → Mended extra spell Good (front xs) e
mended_here extra spell_a Good_a spell Good front At q xs d e same keeps m later = subst (λ y. Mended extra spell Good (front xs) y) same (record {
  tree = later.whole;
  good = later.good;
  goes = λ rest. subst (λ ys. Goes extra d.form (place extra d) (front xs) ys) (sym (later.spells rest)) (keeps d.form (place extra d) xs (spell_a m.tree (later.tail rest)) (m.goes (later.tail rest)));
})

-- the front with one part more
pub keeps_more : {A : Type 0} (extra : ℕ) (spell : Spelling A) (front : List Sym → List Sym) (a : A) → AllKeep extra front → AllKeep extra (spell a) → AllKeep extra (λ rest. front (spell a rest))
keeps_more extra spell front a keeps part form n xs ys h = keeps form n (spell a xs) (spell a ys) (part form n xs ys h)

-- How the others go on behind each tree of the step.
abbrev pub Later : {A B C : Type 0} → ℕ → Spelling A → (A → Type 0) → Spelling C → (C → Type 0) → (List Sym → List Sym) → (A → Input → Type 0) → (A → Reader B) → Type 0
Later extra spell_a Good_a spell Good front Next go =
    (a : _) → Good_a a → AllKeep extra (λ rest. front (spell_a a rest)) → Closes extra spell Good (λ rest. front (spell_a a rest)) (Next a) (go a)

mended_then : {A B C : Type 0} (extra : ℕ) (spell_a : Spelling A) (Good_a : A → Type 0) (At : Input → Type 0) (Next : A → Input → Type 0) (p : Reader A) (spell : Spelling C) (Good : C → Type 0)
    (front : List Sym → List Sym) (go : A → Reader B) → Part extra spell_a Good_a At Next p → AllKeep extra front → Later extra spell_a Good_a spell Good front Next go
    → (i : Input) → At i → (e : Fault) (o : Outcome A) → p i ≡ o → and_then o go ≡ Err e → Mended extra spell Good (front i.rest) e
mended_then extra spell_a Good_a At Next p spell Good front go part keeps later i here e (Ok x) is h =
    let a = x.0 in
    let k = x.1 in
    let took = part.sound i k a here is in
    let m = (later a took.good (keeps_more extra spell_a front a keeps (part.keeps a))).mend k (part.next i k a here is) e h in
    record { tree = m.tree; good = m.good; goes = λ rest. subst (λ xs. Goes extra e.form (place extra e) (front xs) (spell m.tree rest)) (sym took.tokens) (m.goes rest) }
mended_then extra spell_a Good_a At Next p spell Good front go part keeps later i here e (Err d) is h =
    let m = part.mends i here d is in
    mended_here extra spell_a Good_a spell Good front (Next m.tree) (go m.tree) i.rest d e (same_error d e h) keeps m (later m.tree m.good (keeps_more extra spell_a front m.tree keeps (part.keeps m.tree)))

pub closes_then : {A B C : Type 0} (extra : ℕ) (spell_a : Spelling A) (Good_a : A → Type 0) (At : Input → Type 0) (Next : A → Input → Type 0) (p : Reader A) (spell : Spelling C) (Good : C → Type 0)
    (front : List Sym → List Sym) (go : A → Reader B) → Part extra spell_a Good_a At Next p → AllKeep extra front → Later extra spell_a Good_a spell Good front Next go
    → Closes extra spell Good front At (p >>= go)
closes_then extra spell_a Good_a At Next p spell Good front go part keeps later =
    let short = later part.short part.short_good (keeps_more extra spell_a front part.short keeps (part.keeps part.short)) in
    record {
      whole = short.whole;
      good = short.good;
      tail = λ rest. spell_a part.short (short.tail rest);
      spells = short.spells;
      mend = λ i here e h. mended_then extra spell_a Good_a At Next p spell Good front go part keeps later i here e (p i) refl h;
    }

-- the end of a rule
pub closes_pure : {B C : Type 0} {b : B} (extra : ℕ) (spell : Spelling C) (Good : C → Type 0) (front : List Sym → List Sym) (At : Input → Type 0) (c : C) → Good c
    → ((rest : List Sym) → spell c rest ≡ front rest) → Closes extra spell Good front At (pure b)
closes_pure extra spell Good front At c good spells = record {
  whole = c;
  good = good;
  tail = λ rest. rest;
  spells = spells;
  mend = λ i here e h. absurd (cc);
}

-- ---- a step into an operator or a bracket, where there may be no room

pub enter_err : (i : Input) (e : Fault) → enter i ≡ Err e → e ≡ fault nesting (left i)
unfolding enter
enter_err i e h = by_room i.room h
  where
    by_room : (r : ℕ) → elim r as (λ _. Outcome (Unit {0})) [ zero ↦ Err (fault nesting (left i)) | suc s ↦ Ok (tt, at (drop 1 i.rest) s) ] ≡ Err e → e ≡ fault nesting (left i)
    by_room zero f = sym (same_error (fault nesting (left i)) e f)
    by_room (suc s) f = absurd (cc)

mended_limit : {B C : Type 0} (extra : ℕ) (spell : Spelling C) (Good : C → Type 0) (front : List Sym → List Sym) (spent room : ℕ) (x : Sym) (q : Reader B)
    (whole : C) → Good whole → (tail : List Sym → List Sym) → ((rest : List Sym) → spell whole rest ≡ front (tail rest)) → AllKeep extra front
    → (suc spent ≤ extra + room → Closes extra spell Good (λ rest. front (x ∷ rest)) (λ j. suc spent + j.room ≡ room) q)
    → (i : Input) → first i.rest ≡ Some x → spent ≤ room → Mended extra spell Good (front i.rest) (fault nesting (left i))
mended_limit zero spell Good front spent room x q whole good tail spells keeps later i starts less = record {
  tree = whole;
  good = good;
  goes = λ rest. subst (λ ys. Goes zero nesting (place zero (fault nesting (left i))) (front i.rest) ys) (sym (spells rest))
      (keeps nesting (place zero (fault nesting (left i))) i.rest (tail rest) (ends_at_limit i x (tail rest) starts));
}
mended_limit (suc extra) spell Good front spent room x q whole good tail spells keeps later i starts less =
    let longer = later (omega (arith, less)) in
    record {
      tree = longer.whole;
      good = longer.good;
      goes = λ rest. subst (λ ys. Goes (suc extra) nesting (place (suc extra) (fault nesting (left i))) (front i.rest) ys) (sym (longer.spells rest))
          (keeps nesting (place (suc extra) (fault nesting (left i))) i.rest (x ∷ longer.tail rest) (goes_past_limit extra i x (longer.tail rest) starts));
    }

mended_enter : {B C : Type 0} (extra : ℕ) (spell : Spelling C) (Good : C → Type 0) (front : List Sym → List Sym) (spent room : ℕ) (x : Sym) (q : Reader B)
    (whole : C) → Good whole → (tail : List Sym → List Sym) → ((rest : List Sym) → spell whole rest ≡ front (tail rest)) → AllKeep extra front
    → (suc spent ≤ extra + room → Closes extra spell Good (λ rest. front (x ∷ rest)) (λ j. suc spent + j.room ≡ room) q)
    → (i : Input) → first i.rest ≡ Some x → spent + i.room ≡ room → (e : Fault) (o : Outcome (Unit {0})) → enter i ≡ o → and_then o (λ _. q) ≡ Err e → Mended extra spell Good (front i.rest) e
mended_enter extra spell Good front spent room x q whole good tail spells keeps later i starts counted e (Ok y) is h =
    let j = y.1 in
    let took = enter_ok i j x y.0 starts is in
    let here = took.room in
    let less : suc spent ≤ extra + room = omega (arith, here, counted) in
    let m = (later less).mend j (omega (arith, here, counted)) e h in
    record { tree = m.tree; good = m.good; goes = λ rest. subst (λ xs. Goes extra e.form (place extra e) (front xs) (spell m.tree rest)) (sym took.tokens) (m.goes rest) }
mended_enter extra spell Good front spent room x q whole good tail spells keeps later i starts counted e (Err d) is h =
    subst (λ y. Mended extra spell Good (front i.rest) y) (sym (enter_err i d is) ∙ same_error d e h)
    (mended_limit extra spell Good front spent room x q whole good tail spells keeps later i starts (omega (arith, counted)))

-- Where there is no room, a tree without the operator or bracket completes what was read.
pub closes_enter : {B C : Type 0} (extra : ℕ) (spell : Spelling C) (Good : C → Type 0) (front : List Sym → List Sym) (spent room : ℕ) (x : Sym) (q : Reader B)
    (whole : C) → Good whole → (tail : List Sym → List Sym) → ((rest : List Sym) → spell whole rest ≡ front (tail rest)) → AllKeep extra front
    → (suc spent ≤ extra + room → Closes extra spell Good (λ rest. front (x ∷ rest)) (λ j. suc spent + j.room ≡ room) q)
    → Closes extra spell Good front (λ i. (first i.rest ≡ Some x) × (spent + i.room ≡ room)) (enter >> q)
closes_enter extra spell Good front spent room x q whole good tail spells keeps later = record {
  whole = whole;
  good = good;
  tail = tail;
  spells = spells;
  mend = λ i here e h. mended_enter extra spell Good front spent room x q whole good tail spells keeps later i here.0 here.1 e (enter i) refl h;
}

-- the same symbols
pub mended_at : {A : Type 0} (extra : ℕ) (spell : Spelling A) (Good : A → Type 0) (xs ys : List Sym) (e : Fault) → xs ≡ ys → Mended extra spell Good ys e → Mended extra spell Good xs e
mended_at extra spell Good xs ys e same m = subst (λ zs. Mended extra spell Good zs e) (sym same) m
