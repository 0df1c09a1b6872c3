-- Faults of the reader of specifications.
use Rattle.std.proofs.Common.{◌≡◌, ℕ, suc, List, ◌∷◌, ◌++◌, length, Ok, Err, Result, ap, sym, ◌∙◌, arith}
use Rattle.sl_ast.specs.Spelling.{spell}
use Rattle.sl_ast.specs.Symbols.{Sym}
use Rattle.sl_ast.specs.Trees.{Item}
use Rattle.sl_ast.specs.Validity.{AreItems, AreItemsWithin, heaviest, deepest}
use Rattle.sl_parse_grammar.specs.Faults.{HasFault, reason_of, back_of}
use Rattle.sl_parse_grammar.specs.Reasons.{Reason}
use Rattle.sl_parse_grammar.specs.Items.{item, is_there, value_of, specification_within, specification}
use Rattle.sl_parse_grammar.specs.Laws.{EachTreeIsRead, FaultsStay, NoneBeginsWithAFault, OnlySpellingsAreRead, SpellsOneTree}
use Rattle.sl_parse_grammar.specs.Lists.{many}
use Rattle.sl_parse_grammar.specs.Reader.{Form, syntax, Fault, fault, at, Outcome}
use Rattle.sl_parse_grammar.proofs.ItemRules as rules
use Rattle.sl_parse_grammar.proofs.LocalSteps.{fault_stays}

fault_of : {A : Type 0} → Fault → Result A Fault → Fault
fault_of d (Ok a) = d
fault_of d (Err e) = e

pub refused : {A : Type 0} (o : Outcome A) (e : Fault) → value_of o ≡ Err e → o ≡ Err e
unfolding fault_of
refused (Ok p) e h = absurd (cc)
refused (Err d) e h = ap (λ x. Err x) (ap (fault_of d) h)

module _ (most : ℕ) (deep : ℕ) where
  pub stays_within : (form : Form) (x : Sym) (xs ys zs : List Sym) → specification_within most deep (xs ++ x ∷ ys) ≡ Err (fault form (suc (length ys)))
      → specification_within most deep (xs ++ x ∷ zs) ≡ Err (fault form (suc (length zs)))
  unfolding specification_within
  stays_within form x xs ys zs h =
      let first = many is_there (item most deep) (at (xs ++ x ∷ ys) 0) in
      let second = many is_there (item most deep) (at (xs ++ x ∷ zs) 0) in
      ap value_of (fault_stays form x ys zs first second ((rules.items_rule most deep).here.alike x xs ys zs 0) (refused first (fault form (suc (length ys))) h))

  pub none_begins_within : (form : Form) (x : Sym) (xs ys zs : List Sym) (items : List Item) → specification_within most deep (xs ++ x ∷ ys) ≡ Err (fault form (suc (length ys)))
      → AreItemsWithin most deep items → spell items ≡ xs ++ x ∷ zs → ⊥
  none_begins_within form x xs ys zs items h good e =
      let clash : ◌≡◌ {A = Result (List Item) Fault} (Err (fault form (suc (length zs)))) (Ok items) =
      sym (stays_within form x xs ys zs h) ∙ ap (specification_within most deep) (sym e) ∙ rules.complete most deep items good in
      absurd (cc)

-- ---- at the limits of the language

pub one_tree : SpellsOneTree
one_tree xs ys good also e = rules.one_tree heaviest deepest xs ys good also e

pub complete : EachTreeIsRead
unfolding specification
complete items good = rules.complete heaviest deepest items good

pub sound : OnlySpellingsAreRead
unfolding specification
sound symbols items h = rules.sound heaviest deepest symbols items h

pub faults_stay : FaultsStay
unfolding specification
faults_stay form x xs ys zs h = stays_within heaviest deepest form x xs ys zs h

pub none_begins : NoneBeginsWithAFault
unfolding specification
none_begins form x xs ys zs items h good e = none_begins_within heaviest deepest form x xs ys zs items h good e

-- ---- faults as they are told

no_fault : Fault
no_fault = fault syntax 0

same_fault : {A : Type 0} (e d : Fault) → ◌≡◌ {A = Result A Fault} (Err e) (Err d) → e ≡ d
unfolding fault_of
same_fault e d h = ap (fault_of e) h

-- Symbols have one fault at most.
pub one_fault : (symbols : List Sym) (r q : Reason) (k l : ℕ) → HasFault symbols r k → HasFault symbols q l → (r ≡ q) × (k ≡ l)
one_fault symbols r q k l a b =
    let same = same_fault (fault a.form a.left) (fault b.form b.left) (sym a.found ∙ b.found) in
    let form : a.form ≡ b.form = ap (λ e. e.form) same in
    let left : a.left ≡ b.left = ap (λ e. e.left) same in
    let back : back_of a.form ≡ back_of b.form = ap back_of form in
    let first = a.where_it_is in
    let second = b.where_it_is in
    (sym a.why ∙ ap reason_of form ∙ b.why, omega (arith, first, second, left, back))

-- What a tree spells has no fault.
pub tree_has_no_fault : (symbols : List Sym) (items : List Item) (r : Reason) (k : ℕ) → spell items ≡ symbols → AreItems items → HasFault symbols r k → ⊥
tree_has_no_fault symbols items r k spells good h =
    let clash : ◌≡◌ {A = Result (List Item) Fault} (Ok items) (Err (fault h.form h.left)) = sym (complete items good) ∙ ap specification spells ∙ h.found in
    absurd (cc)
