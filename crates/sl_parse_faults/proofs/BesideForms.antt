-- Where a form that the language leaves out begins, the reader finds its fault before it or tells the form.
use Rattle.std.proofs.Common.{◌≡◌, ℕ, zero, ◌+◌, ◌<◌, ◌⊎◌, inl, inr, List, [], ◌∷◌, ◌++◌, length, Result, Some, Ok, Err, refl, ap, sym, ◌∙◌, subst, arith, append_assoc}
use Rattle.sl_ast.specs.Operators.{missing_function, missing_statement}
use Rattle.sl_ast.specs.Spelling.{name, keyword}
use Rattle.sl_ast.specs.Symbols.{plain, quoted, Sym, number, word, mark}
use Rattle.sl_ast.specs.Trees.{Name, Item}
use Rattle.sl_ast.specs.declared.symbols.Feature.{Feature}
use Rattle.sl_ast.specs.declared.symbols.Keyword.TheVariants as k
use Rattle.sl_ast.specs.declared.symbols.Mark.TheVariants as m
use Rattle.sl_parse_grammar.specs.Items.{item, is_there, value_of, specification_within}
use Rattle.sl_parse_grammar.specs.Lists.{many}
use Rattle.sl_parse_grammar.specs.Reader.{Fault, at, Outcome}
use Rattle.sl_parse_faults.specs.Forms.{other, IsNameLike, BeginsAnyTree}
use Rattle.sl_parse_faults.proofs.Named.{IsNamed, IsEarlyOrNamed, NamesForm, NamesSymbol}
use Rattle.sl_parse_grammar.proofs.ItemRules as rules
use Rattle.sl_parse_faults.proofs.Wider.{wider_items}
use Rattle.sl_parse_faults.proofs.BesideSteps.{Pair, address, lone_name, lone_word, wide, opening, leading, calling, sizing, floating, lacking, Tells, Firm, NoMore, Abreast, both_ok, early, told, past, stuck, apart, beside_at}
use Rattle.sl_parse_faults.proofs.BesideItems.{items_beside}

-- ---- two outcomes

fault_of : {A : Type 0} → Fault → Result A Fault → Fault
fault_of d (Ok a) = d
fault_of d (Err e) = e

pub same_error : {A : Type 0} (d e : Fault) → ◌≡◌ {A = Result A Fault} (Err d) (Err e) → d ≡ e
unfolding fault_of
same_error d e g = ap (fault_of d) g

module _ {zs ys K W : List Sym} (h : Pair zs ys K W) where
  not_past : {A : Type 0} (p : Outcome A) (e : Fault) → NoMore (length ys) p → value_of p ≡ Err e → length ys < e.left → ⊥
  not_past (Ok x) e n q less = absurd (cc)
  not_past (Err d) e n q less = (let same : d.left ≡ e.left = ap (λ y. y.left) (same_error d e q) in absurd (omega (arith, same)))

  shown : {A : Type 0} (more t l r : ℕ) (a : A) (e : Fault) (o p : Outcome A) → Abreast h more Firm A t l r o p → value_of o ≡ Ok a → value_of p ≡ Err e → length ys < e.left
      → (length W < e.left) ⊎ IsNamed W e
  shown more t l r a e _ _ (both_ok b xs s fits le) is errs less = absurd (cc)
  shown more t l r a e _ _ (early o d x) is errs less = inl (subst (λ y. length W < y.left) (same_error d e errs) x)
  shown more t l r a e _ _ (told o d x) is errs less = inr (subst (λ y. IsNamed W y) (same_error d e errs) x)
  shown more t l r a e _ _ (past o p x) is errs less = absurd (not_past p e x errs less)
  shown more t l r a e _ _ (stuck x d p) is errs less = absurd (cc)
  shown more t l r a e _ _ (apart y b j p z) is errs less = absurd z

  -- where the same symbols are read twice
  shown_alone : {A : Type 0} (more t l r : ℕ) (e : Fault) (o p : Outcome A) → (Tells h → ⊥) → Abreast h more Firm A t l r o p → value_of p ≡ Err e → length ys < e.left → (length W < e.left) ⊎ IsNamed W e
  shown_alone more t l r e _ _ silent (both_ok b xs s fits le) errs less = absurd (cc)
  shown_alone more t l r e _ _ silent (early o d x) errs less = inl (subst (λ y. length W < y.left) (same_error d e errs) x)
  shown_alone more t l r e _ _ silent (told o d x) errs less = inr (subst (λ y. IsNamed W y) (same_error d e errs) x)
  shown_alone more t l r e _ _ silent (past o p x) errs less = absurd (not_past p e x errs less)
  shown_alone more t l r e _ _ silent (stuck x d p) errs less = absurd (silent x)
  shown_alone more t l r e _ _ silent (apart y b j p z) errs less = absurd z

  module _ (more most deeper deep : ℕ) (before : List Sym) where
    items_abreast : Abreast h zero Firm (List Item) zero (length before) zero (many is_there (item (more + most) (deeper + deep)) (at (before ++ K) 0)) (many is_there (item most deep) (at (before ++ W) 0))
    items_abreast =
        let none : zero + zero ≡ zero = omega arith in
        subst (λ n. Abreast h zero Firm (List Item) zero (length before) zero (many is_there (item (more + most) (deeper + deep)) (at (before ++ K) n)) (many is_there (item most deep) (at (before ++ W) 0))) none
        (beside_at h zero (many is_there (item (more + most) (deeper + deep))) (many is_there (item most deep)) (items_beside h more most 1 deeper deep) before zero (omega arith))

    named_form : (items : List Item) (e : Fault) → specification_within (more + most) (deeper + deep) (before ++ K) ≡ Ok items → specification_within most deep (before ++ W) ≡ Err e → length ys < e.left
        → (length W < e.left) ⊎ IsNamed W e
    unfolding specification_within
    named_form items e is errs less = shown zero zero (length before) zero items e _ _ items_abreast is errs less

    named_alone : (e : Fault) → (Tells h → ⊥) → specification_within most deep (before ++ W) ≡ Err e → length ys < e.left → (length W < e.left) ⊎ IsNamed W e
    unfolding specification_within
    named_alone e silent errs less = shown_alone zero zero (length before) zero e _ _ silent items_abreast errs less

by_pair : {zs ys K W : List Sym} (h : Pair zs ys K W) (known written : List Sym) → known ++ zs ≡ K → written ++ ys ≡ W → (most deep more deeper : ℕ) (before : List Sym) (items : List Item) (e : Fault)
    → specification_within (more + most) (deeper + deep) (before ++ known ++ zs) ≡ Ok items → specification_within most deep (before ++ written ++ ys) ≡ Err e → length ys < e.left
    → IsEarlyOrNamed written ys e
by_pair {zs = zs} {ys = ys} h known written same also most deep more deeper before items e is errs less =
    subst (λ xs. (length xs < e.left) ⊎ IsNamed xs e) (sym also)
    (named_form h more most deeper deep before items e
    (subst (λ xs. specification_within (more + most) (deeper + deep) xs ≡ Ok items) (append_assoc before known zs ∙ ap (λ xs. before ++ xs) same) is)
    (subst (λ xs. specification_within most deep xs ≡ Err e) (append_assoc before written ys ∙ ap (λ xs. before ++ xs) also) errs) less)

-- ---- the forms

pub floating_named : NamesSymbol (mark m.Floating)
floating_named most deep before ys e errs less = named_alone {zs = ys} {ys = ys} floating zero most zero deep before e (λ x. x) errs less

pub lacking_named : NamesSymbol (keyword k.InstNext2)
lacking_named most deep before ys e errs less = named_alone {zs = ys} {ys = ys} lacking zero most zero deep before e (λ x. x) errs less

pub address_named : NamesForm (mark m.Tilde ∷ []) (mark m.Ampersand ∷ [])
address_named most deep more deeper before zs ys items e is errs less = by_pair {zs = zs} {ys = ys} address _ _ refl refl most deep more deeper before items e is errs less

pub constraint_named : (x : Sym) → IsNameLike x → NamesForm (mark m.Tilde ∷ []) (x ∷ [])
constraint_named (word (plain w)) like most deep more deeper before zs ys items e is errs less = by_pair {zs = zs} {ys = ys} (lone_name w) _ _ refl refl most deep more deeper before items e is errs less
constraint_named (word (quoted k.InstNext2)) like most deep more deeper before zs ys items e is errs less = by_pair {zs = zs} {ys = ys} lone_word _ _ refl refl most deep more deeper before items e is errs less
constraint_named x like most deep more deeper before zs ys items e is errs less = absurd like

pub width_named : (n : ℕ) → NamesForm (number 0 ∷ []) (number n ∷ [])
width_named n most deep more deeper before zs ys items e is errs less = by_pair {zs = zs} {ys = ys} (wide n) _ _ refl refl most deep more deeper before items e is errs less

pub statement_named : (w : Name) (feature : Feature) → missing_statement w ≡ Some feature → NamesForm (name other ∷ []) (name w ∷ [])
statement_named w feature missing most deep more deeper before zs ys items e is errs less = by_pair {zs = zs} {ys = ys} (opening w feature missing) _ _ refl refl most deep more deeper before items e is errs less

pub function_named : (w : Name) (feature : Feature) → missing_function w ≡ Some feature → NamesForm (name other ∷ mark m.Open ∷ []) (name w ∷ mark m.Open ∷ [])
function_named w feature missing most deep more deeper before zs ys items e is errs less = by_pair {zs = zs} {ys = ys} (calling w feature missing) _ _ refl refl most deep more deeper before items e is errs less

pub leading_named : NamesForm (name other ∷ mark m.Ellipsis ∷ []) (mark m.Ellipsis ∷ [])
leading_named most deep more deeper before zs ys items e is errs less = by_pair {zs = zs} {ys = ys} leading _ _ refl refl most deep more deeper before items e is errs less

pub word_size_named : (n : ℕ) → NamesForm (keyword k.WordSize ∷ mark m.Equals ∷ number 1 ∷ []) (keyword k.WordSize ∷ mark m.Equals ∷ number n ∷ [])
word_size_named n most deep more deeper before zs ys items e is errs less = by_pair {zs = zs} {ys = ys} (sizing n) _ _ refl refl most deep more deeper before items e is errs less

-- ---- where a tree goes on with what is known, within any limits

pub named_in_tree : (known written : List Sym) → NamesForm known written → (most deep : ℕ) (before ys : List Sym) (e : Fault) → BeginsAnyTree (before ++ known)
    → specification_within most deep (before ++ written ++ ys) ≡ Err e → length ys < e.left → IsEarlyOrNamed written ys e
named_in_tree known written names most deep before ys e begins errs less =
    let more = begins.0 in
    let deeper = begins.1 in
    let tree = begins.2 in
    let good = wider_items more (more + most) deeper (deeper + deep) tree.items (omega arith) (omega arith) tree.good in
    let reads = rules.complete (more + most) (deeper + deep) tree.items good in
    names most deep more deeper before tree.rest ys tree.items e (subst (λ xs. specification_within (more + most) (deeper + deep) xs ≡ Ok tree.items) tree.spells reads) errs less
