-- Which form that is left out begins at a place is told by its symbols, and by whether the place is in a constraint.
use Rattle.std.proofs.Common.{◌≡◌, ℕ, ◌⊎◌, inl, inr, ◌==◌, Bool, true, false, cond, List, [], ◌∷◌, ◌++◌, Option, None, Some, refl, ap, sym, ◌∙◌, codes, append_assoc}
use Rattle.std.proofs.lemmas.Bool.{eqb-true}
use Rattle.sl_ast.specs.Operators.{missing_function, missing_statement}
use Rattle.sl_ast.specs.Spelling.{name}
use Rattle.sl_ast.specs.Symbols.{plain, quoted, same_bytes, Sym, number, word, mark}
use Rattle.sl_ast.specs.Trees.{Name}
use Rattle.sl_ast.specs.declared.symbols.Feature.{Feature}
use Rattle.sl_ast.specs.declared.symbols.Feature.TheVariants as f
use Rattle.sl_ast.specs.declared.symbols.Keyword.TheVariants as k
use Rattle.sl_ast.specs.declared.symbols.Mark.TheVariants as m
use Rattle.sl_parse_grammar.proofs.Taken.{both_true}
use Rattle.sl_parse_faults.specs.Forms.{BeginsAnyTree, other, IsNameLike, IsInConstraint, IsLeftOut, floating_mark, lacking_word, function, statement, address, leading, constraint, width, word_size}

-- ---- no word is missing as a function and as a statement

same_are : (a b : List ℕ) → same_bytes a b ≡ true → a ≡ b
same_are [] [] e = refl
same_are [] (b ∷ bs) e = absurd (cc)
same_are (a ∷ as') [] e = absurd (cc)
same_are (a ∷ as') (b ∷ bs) e =
    let both = both_true (a == b) (same_bytes as' bs) e in
    let first : a ≡ b = eqb-true a b both.0 in
    let later : as' ≡ bs = same_are as' bs both.1 in
    cc

-- a word of statements is the name of no function
no_function : (w v : Name) (feature : Feature) → same_bytes w v ≡ true → missing_function v ≡ None → missing_function w ≡ Some feature → ⊥
no_function w v feature same none is =
    let clash : ◌≡◌ {A = Option Feature} None (Some feature) = sym none ∙ ap missing_function (sym (same_are w v same)) ∙ is in
    absurd (cc)

crossbuild_is_none : missing_function (codes "crossbuild") ≡ None
unfolding missing_function
crossbuild_is_none = refl

delayslot_is_none : missing_function (codes "delayslot") ≡ None
unfolding missing_function
delayslot_is_none = refl

by_tests : (w : Name) (feature other_feature : Feature) (b c : Bool) → same_bytes w (codes "crossbuild") ≡ b → same_bytes w (codes "delayslot") ≡ c → missing_function w ≡ Some feature
    → cond b (Some f.Crossbuild) (cond c (Some f.DelaySlot) None) ≡ Some other_feature → ⊥
by_tests w feature other_feature true c e d is also = no_function w (codes "crossbuild") feature e crossbuild_is_none is
by_tests w feature other_feature false true e d is also = no_function w (codes "delayslot") feature d delayslot_is_none is
by_tests w feature other_feature false false e d is also = absurd (cc)

never_both : (w : Name) (feature other_feature : Feature) → missing_function w ≡ Some feature → missing_statement w ≡ Some other_feature → ⊥
unfolding missing_statement
never_both w feature other_feature is also = by_tests w feature other_feature (same_bytes w (codes "crossbuild")) (same_bytes w (codes "delayslot")) refl refl is also

-- ---- by the first symbol

-- what is left out at a name: it is in a constraint, or another name may stand
abbrev AtName : List Sym → Name → Feature → Type 0
AtName before w feature =
    ((feature ≡ f.NameInConstraint) × IsInConstraint before) ⊎ (BeginsAnyTree (before ++ name other ∷ []) × ((missing_function w ≡ Some feature) ⊎ (missing_statement w ≡ Some feature)))

abbrev AtWord : List Sym → Feature → Type 0
AtWord before feature = ((feature ≡ f.NameInConstraint) × IsInConstraint before) ⊎ ((feature ≡ f.InstNext2) × (IsInConstraint before → ⊥))

abbrev IsTold : List Sym → List Sym → Feature → Type 0
IsTold before (mark m.Floating ∷ ys) feature = feature ≡ f.FloatingPoint
IsTold before (mark m.Ampersand ∷ ys) feature = feature ≡ f.AddressOf
IsTold before (mark m.Ellipsis ∷ ys) feature = feature ≡ f.LeadingEllipsis
IsTold before (number n ∷ ys) feature = feature ≡ f.WideValue
IsTold before (word (quoted k.WordSize) ∷ ys) feature = feature ≡ f.WordSize
IsTold before (word (quoted k.InstNext2) ∷ ys) feature = AtWord before feature
IsTold before (word (plain w) ∷ ys) feature = AtName before w feature
IsTold before xs feature = ⊥

-- where a name with more behind it begins a tree, the name does
name_alone : (before more : List Sym) → BeginsAnyTree (before ++ name other ∷ more) → BeginsAnyTree (before ++ name other ∷ [])
name_alone before more b = (
  b.0,
  b.1,
  record {
    items = b.2.items;
    good = b.2.good;
    rest = more ++ b.2.rest;
    spells = b.2.spells ∙ append_assoc before (name other ∷ more) b.2.rest ∙ sym (append_assoc before (name other ∷ []) (more ++ b.2.rest));
  },
)

in_constraint_told : (before : List Sym) (x : Sym) (ys : List Sym) → IsNameLike x → IsInConstraint before → IsTold before (x ∷ ys) f.NameInConstraint
in_constraint_told before (word (plain w)) ys like there = inl (refl, there)
in_constraint_told before (word (quoted k.InstNext2)) ys like there = inl (refl, there)
in_constraint_told before x ys like there = absurd like

is_told : (before after : List Sym) (feature : Feature) → IsLeftOut before feature after → IsTold before after feature
is_told before _ _ (floating_mark never) = refl
is_told before _ _ (lacking_word never elsewhere) = inr (refl, elsewhere)
is_told before _ _ (function {ys = ys} missing stands) = inr (name_alone before (mark m.Open ∷ []) stands.fits, inl missing)
is_told before _ _ (statement missing stands) = inr (stands.fits, inr missing)
is_told before _ _ (address stands) = refl
is_told before _ _ (leading stands) = refl
is_told before _ _ (constraint {x = x} {ys = ys} like never there) = in_constraint_told before x ys like there
is_told before _ _ (width stands) = refl
is_told before _ _ (word_size stands) = refl

same_found : (o : Option Feature) (g h : Feature) → o ≡ Some g → o ≡ Some h → g ≡ h
same_found o g h e d = let both : ◌≡◌ {A = Option Feature} (Some g) (Some h) = sym e ∙ d in cc

same_word : (before : List Sym) (g h : Feature) → AtWord before g → AtWord before h → g ≡ h
same_word before g h (inl a) (inl b) = a.0 ∙ sym b.0
same_word before g h (inl a) (inr b) = absurd (b.1 a.1)
same_word before g h (inr a) (inl b) = absurd (a.1 b.1)
same_word before g h (inr a) (inr b) = a.0 ∙ sym b.0

same_missing : (w : Name) (g h : Feature) → (missing_function w ≡ Some g) ⊎ (missing_statement w ≡ Some g) → (missing_function w ≡ Some h) ⊎ (missing_statement w ≡ Some h) → g ≡ h
same_missing w g h (inl a) (inl b) = same_found (missing_function w) g h a b
same_missing w g h (inl a) (inr b) = absurd (never_both w g h a b)
same_missing w g h (inr a) (inl b) = absurd (never_both w h g b a)
same_missing w g h (inr a) (inr b) = same_found (missing_statement w) g h a b

same_name : (before : List Sym) (w : Name) (g h : Feature) → AtName before w g → AtName before w h → g ≡ h
same_name before w g h (inl a) (inl b) = a.0 ∙ sym b.0
same_name before w g h (inl a) (inr b) = absurd (a.1.never b.0)
same_name before w g h (inr a) (inl b) = absurd (b.1.never a.0)
same_name before w g h (inr a) (inr b) = same_missing w g h a.1 b.1

same_told : (before after : List Sym) (g h : Feature) → IsTold before after g → IsTold before after h → g ≡ h
same_told before (mark m.Floating ∷ ys) g h a b = a ∙ sym b
same_told before (mark m.Ampersand ∷ ys) g h a b = a ∙ sym b
same_told before (mark m.Ellipsis ∷ ys) g h a b = a ∙ sym b
same_told before (number n ∷ ys) g h a b = a ∙ sym b
same_told before (word (quoted k.WordSize) ∷ ys) g h a b = a ∙ sym b
same_told before (word (quoted k.InstNext2) ∷ ys) g h a b = same_word before g h a b
same_told before (word (plain w) ∷ ys) g h a b = same_name before w g h a b
same_told before xs g h a b = absurd a

-- At each place one form at most is left out.
pub one_form : (before after : List Sym) (g h : Feature) → IsLeftOut before g after → IsLeftOut before h after → g ≡ h
one_form before after g h a b = same_told before after g h (is_told before after g a) (is_told before after h b)
