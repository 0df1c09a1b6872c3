-- The fault that the reader finds stands where the definition says.
use Rattle.std.proofs.Common.{◌≡◌, ℕ, zero, suc, ◌+◌, ◌<◌, ◌≤◌, ◌⊎◌, inl, inr, Bool, true, false, nat_le, List, [], ◌∷◌, ◌++◌, length, Some, Ok, Err, Result, refl, ap, sym, ◌∙◌, subst, arith, append_assoc, append-nil, length-append}
use Rattle.sl_ast.specs.Spelling.{name, keyword, spell}
use Rattle.sl_ast.specs.Symbols.{Sym, number, mark}
use Rattle.sl_ast.specs.Trees.{Item}
use Rattle.sl_ast.specs.Validity.{AreItems, heaviest, deepest}
use Rattle.sl_ast.specs.declared.symbols.Feature.{Feature}
use Rattle.sl_ast.specs.declared.symbols.Feature.TheVariants as f
use Rattle.sl_ast.specs.declared.symbols.Keyword.TheVariants as k
use Rattle.sl_ast.specs.declared.symbols.Mark.TheVariants as m
use Rattle.sl_parse_grammar.specs.Faults.{reason_of, back_of, HasFault}
use Rattle.sl_parse_grammar.specs.Reasons.{no_spelling, too_deep, left_out}
use Rattle.sl_parse_grammar.specs.Reasons.{Reason}
use Rattle.sl_parse_grammar.specs.Items.{item, is_there, specification_within, specification}
use Rattle.sl_parse_grammar.specs.Lists.{many}
use Rattle.sl_parse_grammar.specs.Reader.{Form, syntax, nesting, unsupported, Fault, fault, at, first}
use Rattle.sl_parse_grammar.proofs.Faults.{refused, complete, sound}
use Rattle.sl_parse_grammar.proofs.Steps.{le_is}
use Rattle.sl_parse_faults.proofs.Begins.{split, Finds, never, none_within, begun, shorter, begins_up_to, reaches}
use Rattle.sl_parse_faults.proofs.BesideForms.{floating_named, lacking_named, address_named, constraint_named, width_named, statement_named, function_named, leading_named, word_size_named, named_in_tree}
use Rattle.sl_parse_faults.proofs.Constraints.{none_other, elsewhere}
use Rattle.sl_parse_faults.proofs.Features.{one_form}
use Rattle.sl_parse_faults.proofs.Fronts.{head_or, front_of, behind, gt_is}
use Rattle.sl_parse_faults.proofs.Goes.{known_as, Stands, place}
use Rattle.sl_parse_faults.proofs.Named.{IsEarlyOrNamed, NamesForm}
use Rattle.sl_parse_faults.proofs.Quiet.{name_there}
use Rattle.sl_parse_faults.specs.Causes.{Causes, form, symbol, ending, limit, IsOut, ComesFirst, IsFault}
use Rattle.sl_parse_faults.specs.Forms.{BeginsATree, BeginsAnyTree, StandsFor, other, IsLeftOut, floating_mark, lacking_word, function, statement, address, leading, constraint, width, word_size}
use Rattle.sl_parse_faults.specs.Laws.{AnyHaveTreeOrFault, FaultsAreOne, IsSpelled, TreesHaveNoFault}

-- the same, where the symbol is the last of several
moved : (before front : List Sym) (x : Sym) → BeginsAnyTree (before ++ (front ++ x ∷ [])) → BeginsAnyTree ((before ++ front) ++ x ∷ [])
moved before front x b = subst BeginsAnyTree (sym (append_assoc before front (x ∷ []))) b

-- ---- the cause of a fault

first_parts : (xs : List Sym) (x : Sym) → first xs ≡ Some x → (ys : List Sym) × (xs ≡ x ∷ ys)
first_parts [] x h = absurd (cc)
first_parts (y ∷ ys) x h = let same : y ≡ x = cc in (ys, ap (λ z. z ∷ ys) same)

syntax_is_none : syntax ≡ nesting → ⊥
syntax_is_none e = absurd (cc)

unsupported_is_none : (feature : Feature) (back : ℕ) → unsupported feature back ≡ nesting → ⊥
unsupported_is_none feature back e = absurd (cc)

-- what is known of a fault at a place
record Known (symbols : List Sym) (g : Form) (n : ℕ) (before after : List Sym) : Type 0 where
  finds : Finds symbols g n
  parts : symbols ≡ before ++ after
  counted : length after ≡ back_of g + n
  stands : Stands g after
  fits : BeginsAnyTree (before ++ known_as g (first after))

whole_is_no_fault : (symbols : List Sym) (g : Form) (n : ℕ) → Finds symbols g n → (items : List Item) → AreItems items → spell items ≡ symbols → ⊥
unfolding specification
whole_is_no_fault symbols g n finds items good spells =
    let clash : ◌≡◌ {A = Result (List Item) Fault} (Ok items) (Err (fault g n)) = sym (complete items good) ∙ ap specification spells ∙ finds in
    absurd (cc)

syntax_cause : (symbols : List Sym) (n : ℕ) (before after : List Sym) → Known symbols syntax n before after → Causes before no_spelling after
syntax_cause symbols n before [] known =
    ending (λ items good spells. whole_is_no_fault symbols syntax n known.finds items good (spells ∙ sym (append-nil before) ∙ sym known.parts))
syntax_cause symbols n before (x ∷ ys) known = let counted = known.counted in symbol (never symbols syntax n known.finds syntax_is_none x before ys known.parts (omega (arith, counted)))

limit_cause : (symbols : List Sym) (n : ℕ) (before after : List Sym) → Known symbols nesting n before after → Causes before too_deep after
limit_cause symbols n before [] known = let x = known.stands.1 in absurd (cc)
limit_cause symbols n before (x ∷ ys) known =
    let counted = known.counted in limit known.fits (none_within symbols nesting n known.finds x before ys known.parts (omega (arith, counted)))

-- ---- forms that are left out

-- a form that is decided at its first symbol
module _ (symbols : List Sym) (feature : Feature) (n : ℕ) (before after : List Sym) (known : Known symbols (unsupported feature 0) n before after) where
  -- no tree goes on with that symbol
  never_here : (x : Sym) → first after ≡ Some x → BeginsAnyTree (before ++ x ∷ []) → ⊥
  never_here x is =
      let f = first_parts after x is in
      let counted = known.counted in
      let long = ap length f.1 in
      never symbols (unsupported feature 0) n known.finds (unsupported_is_none feature 0) x before f.0 (known.parts ∙ ap (λ xs. before ++ xs) f.1) (omega (arith, counted, long))

  placed : (x : Sym) → first after ≡ Some x → ((ys : List Sym) → IsLeftOut before feature (x ∷ ys)) → Causes before (left_out feature) after
  placed x is out = let f = first_parts after x is in subst (λ xs. Causes before (left_out feature) xs) (sym f.1) (form (out f.0))

  instead : (x : Sym) → first after ≡ Some x → (known_symbols : List Sym) → BeginsAnyTree (before ++ known_symbols) → StandsFor before (x ∷ []) known_symbols
  instead x is known_symbols fits = record { fits = fits; never = never_here x is }

constraint_here : (symbols : List Sym) (n : ℕ) (before after : List Sym) → Known symbols name_there n before after → Causes before (left_out f.NameInConstraint) after
constraint_here symbols n before after known =
    let x = known.stands.0 in
    let is = known.stands.1 in
    let parts = first_parts after x is in
    let whole : symbols ≡ before ++ x ∷ parts.0 = known.parts ∙ ap (λ xs. before ++ xs) parts.1 in
    let counted = known.counted in
    let long = ap length parts.1 in
    placed symbols f.NameInConstraint n before after known x is (λ ys. constraint known.stands.2 (never_here symbols f.NameInConstraint n before after known x is) (record {
      fits = known.fits;
      never = none_other symbols before parts.0 x known.stands.2 n whole (omega (arith, counted, long)) known.finds;
    }))

lacking_here : (symbols : List Sym) (n : ℕ) (before after : List Sym) → Known symbols (unsupported f.InstNext2 0) n before after → Causes before (left_out f.InstNext2) after
lacking_here symbols n before after known =
    let x = keyword k.InstNext2 in
    let parts = first_parts after x known.stands in
    let whole : symbols ≡ before ++ x ∷ parts.0 = known.parts ∙ ap (λ xs. before ++ xs) parts.1 in
    let counted = known.counted in
    let long = ap length parts.1 in
    placed symbols f.InstNext2 n before after known x known.stands
    (λ ys. lacking_word (never_here symbols f.InstNext2 n before after known x known.stands) (elsewhere symbols before parts.0 n whole (omega (arith, counted, long)) known.finds))

form_here : (symbols : List Sym) (feature : Feature) (n : ℕ) (before after : List Sym) → Known symbols (unsupported feature 0) n before after → Causes before (left_out feature) after
form_here symbols f.FloatingPoint n before after known = placed symbols f.FloatingPoint n before after known (mark m.Floating) known.stands (λ ys. floating_mark (never_here symbols f.FloatingPoint n before after known (mark m.Floating) known.stands))
form_here symbols f.InstNext2 n before after known = lacking_here symbols n before after known
form_here symbols f.Crossbuild n before after known =
    let w = known.stands.0 in
    let is = known.stands.1 in
    placed symbols f.Crossbuild n before after known (name w) is (λ ys. statement known.stands.2 (instead symbols f.Crossbuild n before after known (name w) is (name other ∷ []) known.fits))
form_here symbols f.DelaySlot n before after known =
    let w = known.stands.0 in
    let is = known.stands.1 in
    placed symbols f.DelaySlot n before after known (name w) is (λ ys. statement known.stands.2 (instead symbols f.DelaySlot n before after known (name w) is (name other ∷ []) known.fits))
form_here symbols f.AddressOf n before after known =
    placed symbols f.AddressOf n before after known (mark m.Ampersand) known.stands (λ ys. address (instead symbols f.AddressOf n before after known (mark m.Ampersand) known.stands (mark m.Tilde ∷ []) known.fits))
form_here symbols f.NameInConstraint n before after known = constraint_here symbols n before after known
form_here symbols f.LeadingEllipsis n before after known =
    placed symbols f.LeadingEllipsis n before after known (mark m.Ellipsis) known.stands
    (λ ys. leading (instead symbols f.LeadingEllipsis n before after known (mark m.Ellipsis) known.stands (name other ∷ mark m.Ellipsis ∷ []) known.fits))
form_here symbols f.WideValue n before after known =
    let size = known.stands.0 in
    let is = known.stands.1 in
    placed symbols f.WideValue n before after known (number size) is (λ ys. width (instead symbols f.WideValue n before after known (number size) is (number 0 ∷ []) known.fits))
form_here symbols f.ConstantPool n before after known = absurd known.stands
form_here symbols f.NewObject n before after known = absurd known.stands
form_here symbols f.WordSize n before after known = absurd known.stands

-- a form that is decided one symbol later
form_before : (symbols : List Sym) (feature : Feature) (n : ℕ) (before after : List Sym) → Known symbols (unsupported feature 1) n before after → Causes before (left_out feature) after
form_before symbols feature n before after known =
    let w = known.stands.0 in
    let ys = known.stands.1 in
    let same = known.stands.2 in
    let counted = known.counted in
    let long = ap length same in
    let whole : symbols ≡ (before ++ name w ∷ []) ++ mark m.Open ∷ ys = known.parts ∙ ap (λ xs. before ++ xs) same ∙ sym (append_assoc before (name w ∷ []) (mark m.Open ∷ ys)) in
    subst (λ xs. Causes before (left_out feature) xs) (sym same) (form (function known.stands.3 (record {
      fits = known.fits;
      never = λ b. never symbols (unsupported feature 1) n known.finds (unsupported_is_none feature 1) (mark m.Open) (before ++ name w ∷ []) ys whole (omega (arith, counted, long))
          (moved before (name w ∷ []) (mark m.Open) b);
    })))

-- a form that is decided two symbols later
form_long_before : (symbols : List Sym) (feature : Feature) (c n : ℕ) (before after : List Sym) → Known symbols (unsupported feature (suc (suc c))) n before after → Causes before (left_out feature) after
form_long_before symbols feature c n before after known =
    let size = known.stands.0 in
    let ys = known.stands.1 in
    let same = known.stands.2 in
    let counted = known.counted in
    let none = known.stands.4 in
    let long = ap length same in
    let front = keyword k.WordSize ∷ mark m.Equals ∷ [] in
    let whole : symbols ≡ (before ++ front) ++ number size ∷ ys = known.parts ∙ ap (λ xs. before ++ xs) same ∙ sym (append_assoc before front (number size ∷ ys)) in
    let out : IsLeftOut before f.WordSize (keyword k.WordSize ∷ mark m.Equals ∷ number size ∷ ys) = word_size (record {
      fits = known.fits;
      never = λ b. never symbols (unsupported feature (suc (suc c))) n known.finds (unsupported_is_none feature (suc (suc c))) (number size) (before ++ front) ys whole (omega (arith, counted, long, none))
          (moved before front (number size) b);
    }) in
    subst (λ xs. Causes before (left_out feature) xs) (sym same) (form (subst (λ g. IsLeftOut before g (keyword k.WordSize ∷ mark m.Equals ∷ number size ∷ ys)) (sym known.stands.3) out))

cause : (symbols : List Sym) (g : Form) (n : ℕ) (before after : List Sym) → Known symbols g n before after → Causes before (reason_of g) after
cause symbols syntax n before after known = syntax_cause symbols n before after known
cause symbols nesting n before after known = limit_cause symbols n before after known
cause symbols (unsupported feature zero) n before after known = form_here symbols feature n before after known
cause symbols (unsupported feature (suc zero)) n before after known = form_before symbols feature n before after known
cause symbols (unsupported feature (suc (suc c))) n before after known = form_long_before symbols feature c n before after known

-- ---- no form that is left out comes before

-- a single symbol in the middle
straight : (front : List Sym) (x : Sym) (ys : List Sym) (e : Fault) → specification_within heaviest deepest (front ++ x ∷ [] ++ ys) ≡ Err e → specification_within heaviest deepest (front ++ x ∷ ys) ≡ Err e
straight front x ys e h = ap (specification_within heaviest deepest) (sym (append_assoc front (x ∷ []) ys)) ∙ h

-- a form that is left out, by its symbols
record Out (symbols front back : List Sym) : Type 0 where
  written : List Sym
  rest : List Sym
  is : back ≡ written ++ rest
  never : BeginsAnyTree (front ++ written) → ⊥
  named : (e : Fault) → specification_within heaviest deepest (front ++ written ++ rest) ≡ Err e → length rest < e.left → IsEarlyOrNamed written rest e

stands_out : (symbols front known written rest : List Sym) → NamesForm known written → StandsFor front written known → Out symbols front (written ++ rest)
stands_out symbols front known written rest names stands = record {
  written = written;
  rest = rest;
  is = refl;
  never = stands.never;
  named = λ e errs less. named_in_tree known written names heaviest deepest front rest e stands.fits errs less;
}

out_is : (symbols front back : List Sym) (feature : Feature) → IsLeftOut front feature back → Out symbols front back
out_is symbols front _ _ (floating_mark {ys = ys} none) = record { written = mark m.Floating ∷ []; rest = ys; is = refl; never = none; named = λ e errs less. floating_named heaviest deepest front ys e (straight front (mark m.Floating) ys e errs) less }
out_is symbols front _ _ (lacking_word {ys = ys} none elsewhere_too) = record { written = keyword k.InstNext2 ∷ []; rest = ys; is = refl; never = none; named = λ e errs less. lacking_named heaviest deepest front ys e (straight front (keyword k.InstNext2) ys e errs) less }
out_is symbols front _ _ (function {feature = g} {w = w} {ys = ys} missing stands) = stands_out symbols front _ _ ys (function_named w g missing) stands
out_is symbols front _ _ (statement {feature = g} {w = w} {ys = ys} missing stands) = stands_out symbols front _ _ ys (statement_named w g missing) stands
out_is symbols front _ _ (address {ys = ys} stands) = stands_out symbols front _ _ ys address_named stands
out_is symbols front _ _ (leading {ys = ys} stands) = stands_out symbols front _ _ ys leading_named stands
out_is symbols front _ _ (constraint {x = x} {ys = ys} like none inside) =
    stands_out symbols front _ _ ys (constraint_named x like) (record { fits = inside.fits; never = none })
out_is symbols front _ _ (width {n = n} {ys = ys} stands) = stands_out symbols front _ _ ys (width_named n) stands
out_is symbols front _ _ (word_size {n = n} {ys = ys} stands) = stands_out symbols front _ _ ys (word_size_named n) stands

told_here : (symbols front : List Sym) (g : Form) (left : ℕ) (reason : Reason) (at_index : ℕ) → reason_of g ≡ reason → at_index + (back_of g + left) ≡ length symbols → (feature : Feature) (c : ℕ)
    → g ≡ unsupported feature c → length symbols ≡ length front + (c + left) → (at_index < length front) ⊎ ((at_index ≡ length front) × IsOut reason)
told_here symbols front g left reason at_index why placed_so feature c same counted =
    let back : back_of g ≡ c = ap back_of same in
    inr (omega (arith, placed_so, counted, back), subst IsOut (sym (ap reason_of same) ∙ why) tt)

comes_first : (symbols : List Sym) (reason : Reason) (at_index : ℕ) → HasFault symbols reason at_index → ComesFirst symbols reason at_index
unfolding specification
comes_first symbols reason at_index h feature front back parts is =
    let out = out_is symbols front back feature is in
    let e = fault h.form h.left in
    let whole : symbols ≡ front ++ out.written ++ out.rest = parts ∙ ap (λ xs. front ++ xs) out.is ∙ sym (append_assoc front out.written out.rest) in
    let errs : specification_within heaviest deepest (front ++ out.written ++ out.rest) ≡ Err e = ap (specification_within heaviest deepest) (sym whole) ∙ h.found in
    let placed_so = h.where_it_is in
    let long = ap length parts in
    let total = length-append front back in
    let same = ap length out.is in
    elim (out.named e errs (reaches symbols e h.found front out.written out.rest whole out.never)) [
      | inl less ↦ inl (omega (arith, less, placed_so, long, total, same))
      | inr named ↦ told_here symbols front h.form h.left reason at_index h.why placed_so named.0 named.1 named.2 (omega (arith, named.3, long, total, same))
    ]

pub faults_have_causes : (symbols : List Sym) (reason : Reason) (at_index : ℕ) → HasFault symbols reason at_index → IsFault symbols reason at_index
unfolding specification specification_within
faults_have_causes symbols reason at_index h =
    let e = fault h.form h.left in
    let wide = begun 1 symbols e (refused (many is_there (item heaviest deepest) (at symbols 0)) e h.found) in
    let t = split (wide.goes []) in
    let longer : BeginsAnyTree (t.before ++ known_as h.form (first t.after)) = (
      1 + heaviest,
      1 + deepest,
      record {
        items = wide.tree;
        good = wide.good;
        rest = t.rest;
        spells = t.goes ∙ sym (append_assoc t.before (known_as h.form (first t.after)) t.rest);
      },
    ) in
    let counted = t.counted in
    let placed_so = h.where_it_is in
    let long = ap length t.parts in
    let total = length-append t.before t.after in
    let why : Causes t.before reason t.after = subst (λ r. Causes t.before r t.after) h.why (cause symbols h.form h.left t.before t.after (record {
      finds = h.found;
      parts = t.parts;
      counted = t.counted;
      stands = t.stands;
      fits = longer;
    })) in
    let up = begins_up_to symbols e h.found in
    let up_counted = up.3 in
    let front = front_of up.0 up.1 t.before t.after (sym up.2 ∙ t.parts) (omega (arith, up_counted, counted)) in
    record {
      before = t.before;
      after = t.after;
      parts = t.parts;
      counted = omega (arith, counted, placed_so, long, total);
      cause = why;
      least = shorter heaviest deepest t.before front.0 (subst BeginsATree front.1 up.4);
      comes_first = comes_first symbols reason at_index h;
    }

-- ---- any symbols have a tree or a fault, and no more than one

fault_of : (symbols : List Sym) (e : Fault) → specification symbols ≡ Err e → (reason : Reason) × (at_index : ℕ) × IsFault symbols reason at_index
unfolding specification specification_within
fault_of symbols e h =
    let t = split ((begun 1 symbols e (refused (many is_there (item heaviest deepest) (at symbols 0)) e h)).goes []) in
    let counted = t.counted in
    let long = ap length t.parts in
    let total = length-append t.before t.after in (
      reason_of e.form,
      length t.before,
      faults_have_causes symbols (reason_of e.form) (length t.before)
          (record { form = e.form; left = e.left; found = h; why = refl; where_it_is = omega (arith, counted, long, total) }),
    )

tree_or_fault : (symbols : List Sym) (o : Result (List Item) Fault) → specification symbols ≡ o → IsSpelled symbols ⊎ ((reason : Reason) × (at_index : ℕ) × IsFault symbols reason at_index)
tree_or_fault symbols (Ok items) h = let s = sound symbols items h in inl (items, s.1, sym s.0)
tree_or_fault symbols (Err e) h = inr (fault_of symbols e h)

pub any_have : AnyHaveTreeOrFault
any_have symbols = tree_or_fault symbols (specification symbols) refl

-- what begins a tree within the limits begins any
within_any : (xs : List Sym) → BeginsATree xs → BeginsAnyTree xs
within_any xs b = (heaviest, deepest, b)

-- what is known where symbols beyond a place begin a tree: there is no cause at it
no_cause : (before after : List Sym) (reason : Reason) → Causes before reason after → (x : Sym) (xs : List Sym) → after ≡ x ∷ xs → BeginsATree (before ++ x ∷ []) → IsOut reason
unfolding head_or
no_cause before _ _ (form is) x xs same begins = tt
no_cause before _ _ (symbol {x = y} none) x xs same begins = let front : y ≡ x = ap (head_or x) same in absurd (none (within_any (before ++ y ∷ []) (subst (λ z. BeginsATree (before ++ z ∷ [])) (sym front) begins)))
no_cause before _ _ (ending none) x xs same begins = absurd (cc)
no_cause before _ _ (limit {x = y} fits none) x xs same begins = let front : y ≡ x = ap (head_or x) same in absurd (none (subst (λ z. BeginsATree (before ++ z ∷ [])) (sym front) begins))

-- the form that a cause is, where its reason is one
form_of : (before after : List Sym) (reason : Reason) → Causes before reason after → IsOut reason → (feature : Feature) × IsLeftOut before feature after
form_of before _ _ (form {feature = g} is) out = (g, is)
form_of before _ _ (symbol none) out = absurd out
form_of before _ _ (ending none) out = absurd out
form_of before _ _ (limit fits none) out = absurd out

-- ---- trees have none

-- a front of what a tree spells
front_begins : (symbols front more : List Sym) → IsSpelled symbols → symbols ≡ front ++ more → BeginsATree front
front_begins symbols front more tree parts = record { items = tree.0; good = tree.1; rest = more; spells = tree.2 ∙ parts }

no_tree : (symbols before after : List Sym) (reason : Reason) → IsSpelled symbols → symbols ≡ before ++ after → Causes before reason after → ⊥
no_tree symbols before _ _ tree parts (form {feature = g} {after = after} is) =
    let out = out_is symbols before after g is in
    let whole : symbols ≡ (before ++ out.written) ++ out.rest = parts ∙ ap (λ xs. before ++ xs) out.is ∙ sym (append_assoc before out.written out.rest) in
    out.never (within_any (before ++ out.written) (front_begins symbols (before ++ out.written) out.rest tree whole))
no_tree symbols before _ _ tree parts (symbol {x = x} {after = ys} none) =
    none (within_any (before ++ x ∷ []) (front_begins symbols (before ++ x ∷ []) ys tree (parts ∙ sym (append_assoc before (x ∷ []) ys))))
no_tree symbols before _ _ tree parts (ending none) = none tree.0 tree.1 (tree.2 ∙ parts ∙ append-nil before)
no_tree symbols before _ _ tree parts (limit {x = x} {after = ys} fits none) = none (front_begins symbols (before ++ x ∷ []) ys tree (parts ∙ sym (append_assoc before (x ∷ []) ys)))

pub trees_have_none : TreesHaveNoFault
trees_have_none symbols reason at_index tree h = no_tree symbols h.before h.after reason tree h.parts h.cause

-- ---- faults are one

-- no fault stands before another
module _ (symbols : List Sym) (r q : Reason) (k l : ℕ) (a : IsFault symbols r k) (b : IsFault symbols q l) where
  -- what the second has before it, behind the first
  between : k ≤ l → (more : List Sym) × (b.before ≡ a.before ++ more)
  between less =
      let first_counted = a.counted in
      let second_counted = b.counted in
      let first_long = ap length a.parts in
      let second_long = ap length b.parts in
      let first_total = length-append a.before a.after in
      let second_total = length-append b.before b.after in
      front_of b.before b.after a.before a.after (sym b.parts ∙ a.parts) (omega (arith, less, first_counted, second_counted, first_long, second_long, first_total, second_total))

  by_more : (more : List Sym) → b.before ≡ a.before ++ more → k < l → ⊥
  by_more [] same less =
      let first_counted = a.counted in
      let second_counted = b.counted in
      let long = ap length same in
      let total = length-append a.before [] in
      absurd (omega (arith, less, first_counted, second_counted, long, total))
  by_more (x ∷ xs) same less =
      let after : a.after ≡ x ∷ (xs ++ b.after) =
      behind a.before a.after (x ∷ (xs ++ b.after)) (sym a.parts ∙ b.parts ∙ ap (λ ys. ys ++ b.after) same ∙ append_assoc a.before (x ∷ xs) b.after) in
      let begins = shorter heaviest deepest (a.before ++ x ∷ []) xs (subst BeginsATree (same ∙ sym (append_assoc a.before (x ∷ []) xs)) b.least) in
      let out = form_of a.before a.after r a.cause (no_cause a.before a.after r a.cause x (xs ++ b.after) after begins) in
      let counted = a.counted in
      elim (b.comes_first out.0 a.before a.after a.parts out.1) [
        | inl h ↦ absurd (omega (arith, h, counted, less))
        | inr h ↦ let place = h.0 in absurd (omega (arith, place, counted, less))
      ]

  pub none_before : k < l → ⊥
  none_before less = let m = between (omega (arith, less)) in by_more m.0 m.1 less

  -- where one says that a form is left out, so does the other
  both_out : k ≡ l → IsOut r → IsOut q
  both_out same out =
      let f = form_of a.before a.after r a.cause out in
      let counted = a.counted in
      elim (b.comes_first f.0 a.before a.after a.parts f.1) [
        | inl h ↦ absurd (omega (arith, h, counted, same))
        | inr h ↦ h.1
      ]

  by_none : (more : List Sym) → b.before ≡ a.before ++ more → k ≡ l → b.before ≡ a.before
  by_none [] same equal = same ∙ append-nil a.before
  by_none (x ∷ xs) same equal =
      let first_counted = a.counted in
      let second_counted = b.counted in
      let long = ap length same in
      let total = length-append a.before (x ∷ xs) in
      absurd (omega (arith, equal, first_counted, second_counted, long, total))

  same_before : k ≡ l → b.before ≡ a.before
  same_before equal = let m = between (omega (arith, equal)) in by_none m.0 m.1 equal

  same_after : k ≡ l → b.after ≡ a.after
  same_after equal = behind a.before b.after a.after (ap (λ xs. xs ++ b.after) (sym (same_before equal)) ∙ sym b.parts ∙ a.parts)

  -- the second cause, at the place of the first
  same_cause : k ≡ l → Causes a.before q a.after
  same_cause equal = subst (λ ys. Causes a.before q ys) (same_after equal) (subst (λ xs. Causes xs q b.after) (same_before equal) b.cause)

-- the form, where that is the reason
is_out : (before after : List Sym) (feature : Feature) → Causes before (left_out feature) after → IsLeftOut before feature after
is_out before _ _ (form is) = is

-- a symbol with which trees go on
goes_on : (before after : List Sym) → Causes before too_deep after → (x : Sym) × (ys : List Sym) × (after ≡ x ∷ ys) × BeginsAnyTree (before ++ x ∷ [])
goes_on before _ (limit {x = x} {after = ys} fits none) = (x, ys, refl, fits)

-- the end, or a symbol with which none goes on
ends_or_stops : (before after : List Sym) → Causes before no_spelling after → (x : Sym) (ys : List Sym) → after ≡ x ∷ ys → BeginsAnyTree (before ++ x ∷ []) → ⊥
unfolding head_or
ends_or_stops before _ (symbol {x = y} none) x ys same begins = let front : y ≡ x = ap (head_or x) same in none (subst (λ z. BeginsAnyTree (before ++ z ∷ [])) (sym front) begins)
ends_or_stops before _ (ending none) x ys same begins = absurd (cc)

clash : (before after : List Sym) → Causes before no_spelling after → Causes before too_deep after → ⊥
clash before after a b = let g = goes_on before after b in ends_or_stops before after a g.0 g.1 g.2 g.3

-- two causes at one place are one, but that a form is told wherever one begins
same_reason : (before after : List Sym) (r q : Reason) → Causes before r after → Causes before q after → (IsOut r → IsOut q) → (IsOut q → IsOut r) → r ≡ q
same_reason before after no_spelling no_spelling a b first_out second_out = refl
same_reason before after no_spelling too_deep a b first_out second_out = absurd (clash before after a b)
same_reason before after no_spelling (left_out g) a b first_out second_out = absurd (second_out tt)
same_reason before after too_deep no_spelling a b first_out second_out = absurd (clash before after b a)
same_reason before after too_deep too_deep a b first_out second_out = refl
same_reason before after too_deep (left_out g) a b first_out second_out = absurd (second_out tt)
same_reason before after (left_out g) no_spelling a b first_out second_out = absurd (first_out tt)
same_reason before after (left_out g) too_deep a b first_out second_out = absurd (first_out tt)
same_reason before after (left_out g) (left_out h) a b first_out second_out = ap left_out (one_form before after g h (is_out before after g a) (is_out before after h b))

same_place : (k l : ℕ) → (k < l → ⊥) → (l < k → ⊥) → k ≡ l
same_place k l less more = by_order (nat_le k l) refl (nat_le l k) refl
  where
    by_order : (b : Bool) → nat_le k l ≡ b → (c : Bool) → nat_le l k ≡ c → k ≡ l
    by_order false is c also = absurd (more (gt_is k l is))
    by_order true is false also = absurd (less (gt_is l k also))
    by_order true is true also = let low = le_is k l is in let high = le_is l k also in omega (arith, low, high)

pub faults_are_one : FaultsAreOne
faults_are_one symbols r q k l a b =
    let same = same_place k l (none_before symbols r q k l a b) (none_before symbols q r l k b a) in
    (same, same_reason a.before a.after r q a.cause (same_cause symbols r q k l a b same) (both_out symbols r q k l a b same) (both_out symbols q r l k b a (sym same)))

-- A form that is left out began among the symbols.
pub place_within : (symbols : List Sym) (e : Fault) → specification symbols ≡ Err e → place 1 e ≤ length symbols
unfolding specification specification_within
place_within symbols e h =
    let t = split ((begun 1 symbols e (refused (many is_there (item heaviest deepest) (at symbols 0)) e h)).goes []) in
    let counted = t.counted in
    let long = ap length t.parts in
    let total = length-append t.before t.after in
    omega (arith, counted, long, total)
