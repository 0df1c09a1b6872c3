-- Where a name is refused in a constraint no name may stand; and where none may, though an operand is due, each word
-- that is a name or lacks is refused so.
use Rattle.std.proofs.Common.{◌≡◌, ℕ, suc, ◌<◌, inl, inr, List, [], ◌∷◌, ◌++◌, length, None, Some, Option, Ok, Err, Result, refl, ap, sym, ◌∙◌, subst, arith, append_assoc}
use Rattle.sl_ast.specs.Operators.{missing_statement}
use Rattle.sl_ast.specs.Spelling.{name, keyword}
use Rattle.sl_ast.specs.Symbols.{plain, quoted, Sym, word, mark}
use Rattle.sl_ast.specs.Trees.{Name, Item}
use Rattle.sl_ast.specs.Validity.{heaviest, deepest}
use Rattle.sl_ast.specs.declared.symbols.Feature.{Feature}
use Rattle.sl_ast.specs.declared.symbols.Feature.TheVariants as f
use Rattle.sl_ast.specs.declared.symbols.Keyword.TheVariants as k
use Rattle.sl_ast.specs.declared.symbols.Mark.TheVariants as m
use Rattle.sl_parse_grammar.specs.Faults.{back_of}
use Rattle.sl_parse_grammar.specs.Items.{item, is_there, specification_within, specification}
use Rattle.sl_parse_grammar.specs.Lists.{many}
use Rattle.sl_parse_grammar.specs.Reader.{nesting, unsupported, Fault, fault, at}
use Rattle.sl_parse_grammar.proofs.Faults.{refused, sound}
use Rattle.sl_parse_faults.specs.Forms.{BeginsATree, BeginsAnyTree, other, IsNameLike, IsInConstraint}
use Rattle.sl_parse_faults.proofs.Begins.{split, Finds, never, none_within, begun, shorter, begins_up_to, reaches}
use Rattle.sl_parse_faults.proofs.BesideForms.{same_error, constraint_named, named_in_tree}
use Rattle.sl_parse_faults.proofs.Fronts.{front_of, same_rest}
use Rattle.sl_parse_faults.proofs.Goes.{StandsHere, Stands}
use Rattle.sl_parse_faults.proofs.Named.{IsEarlyOrNamed}
use Rattle.sl_parse_faults.proofs.Quiet.{name_there}
use Rattle.sl_parse_faults.proofs.Renamed.{renamed}

no_nesting : name_there ≡ nesting → ⊥
no_nesting e = absurd (cc)

renamed_other : (before ys : List Sym) (x : Sym) → IsNameLike x → Finds (before ++ x ∷ ys) name_there (suc (length ys)) → Finds (before ++ name other ∷ ys) name_there (suc (length ys))
renamed_other before ys (word (plain w)) like finds = renamed (plain w) (plain other) ys tt tt heaviest deepest before finds
renamed_other before ys (word (quoted k.InstNext2)) like finds = renamed (quoted k.InstNext2) (plain other) ys tt tt heaviest deepest before finds
renamed_other before ys x like finds = absurd like

-- where one is refused, no other may stand
pub none_other : (symbols before ys : List Sym) (x : Sym) → IsNameLike x → (n : ℕ) → symbols ≡ before ++ x ∷ ys → n ≡ suc (length ys) → Finds symbols name_there n → BeginsAnyTree (before ++ name other ∷ []) → ⊥
none_other symbols before ys x like n whole count finds =
    let found : Finds (before ++ x ∷ ys) name_there (suc (length ys)) = ap (specification_within heaviest deepest) (sym whole) ∙ finds ∙ ap (λ l. Err (fault name_there l)) count in
    never (before ++ name other ∷ ys) name_there (suc (length ys)) (renamed_other before ys x like found) no_nesting (name other) before ys refl refl

-- ---- where none may stand, though an operand is due

other_is_none : missing_statement other ≡ None
unfolding missing_statement
other_is_none = refl

name_or : Name → Option Sym → Name
name_or d (Some (word (plain w))) = w
name_or d o = d

-- `other` begins no statement that is left out
no_statement : (feature : Feature) (w : Name) → Some (name other) ≡ Some (name w) → missing_statement w ≡ Some feature → ⊥
unfolding name_or
no_statement feature w same is =
    let clash : ◌≡◌ {A = Option Feature} None (Some feature) = sym other_is_none ∙ ap (λ o. missing_statement (name_or other o)) same ∙ is in
    absurd (cc)

-- a name that is told where it stands
only_there : (feature : Feature) → StandsHere feature (Some (name other)) → feature ≡ f.NameInConstraint
only_there f.FloatingPoint h = absurd (cc)
only_there f.InstNext2 h = absurd (cc)
only_there f.Crossbuild h = absurd (no_statement f.Crossbuild h.0 h.1 h.2)
only_there f.DelaySlot h = absurd (no_statement f.DelaySlot h.0 h.1 h.2)
only_there f.AddressOf h = absurd (cc)
only_there f.NameInConstraint h = refl
only_there f.LeadingEllipsis h = absurd (cc)
only_there f.WideValue h = absurd (let e = h.1 in cc)
only_there feature h = absurd h

module _ (before : List Sym) (least : BeginsATree before) (inside : IsInConstraint before) (ys : List Sym) where
  abbrev symbols : List Sym
  symbols = before ++ name other ∷ ys

  alone : symbols ≡ (before ++ name other ∷ []) ++ ys
  alone = sym (append_assoc before (name other ∷ []) ys)

  -- no fault before the place
  early_by : (e : Fault) → Finds symbols e.form e.left → suc (length ys) < e.left → (xs zs : List Sym) → symbols ≡ xs ++ zs → length zs ≡ e.left → ⊥
  early_by e finds early xs [] parts counted = absurd (omega (arith, early, counted))
  early_by e finds early xs (z ∷ zs) parts counted =
      let more = front_of before (name other ∷ ys) (xs ++ z ∷ []) zs (parts ∙ sym (append_assoc xs (z ∷ []) zs)) (omega (arith, early, counted)) in
      none_within symbols e.form e.left finds z xs zs parts (sym counted) (shorter heaviest deepest (xs ++ z ∷ []) more.0 (subst BeginsATree more.1 least))

  reads_on : (e : Fault) → specification symbols ≡ Err e → suc (length ys) < e.left → ⊥
  unfolding specification
  reads_on e finds early = let up = begins_up_to symbols e finds in early_by e finds early up.0 up.1 up.2 up.3

  -- what the symbols at the place are, where it is told as a form that is left out
  stands_there : (e : Fault) (feature : Feature) → specification symbols ≡ Err e → e.form ≡ unsupported feature 0 → e.left ≡ suc (length ys) → feature ≡ f.NameInConstraint
  unfolding specification specification_within
  stands_there e feature finds form count =
      let t = split ((begun 1 symbols e (refused (many is_there (item heaviest deepest) (at symbols 0)) e finds)).goes []) in
      let counted = t.counted in
      let back : back_of e.form ≡ 0 = ap back_of form in
      let rest : t.after ≡ name other ∷ ys = same_rest t.before t.after before (name other ∷ ys) (sym t.parts) (omega (arith, counted, back, count)) in
      only_there feature (subst (λ g. Stands g (name other ∷ ys)) form (subst (λ xs. Stands e.form xs) rest t.stands))

  told_by : (e : Fault) → specification symbols ≡ Err e → IsEarlyOrNamed (name other ∷ []) ys e → length ys < e.left → e ≡ fault name_there (suc (length ys))
  told_by e finds (inl early) less = absurd (reads_on e finds early)
  told_by e finds (inr named) less =
      let counted = named.3 in
      let back : named.1 ≡ 0 = omega (arith, counted, less) in
      let count : e.left ≡ suc (length ys) = omega (arith, counted, less) in
      let form : e.form ≡ unsupported named.0 0 = named.2 ∙ ap (λ b. unsupported named.0 b) back in
      let feature = stands_there e named.0 finds form count in
      ap (λ g. fault g e.left) (form ∙ ap (λ x. unsupported x 0) feature) ∙ ap (λ l. fault name_there l) count

  other_told : (o : Result (List Item) Fault) → specification symbols ≡ o → specification symbols ≡ Err (fault name_there (suc (length ys)))
  unfolding specification
  other_told (Ok items) reads =
      let known = sound symbols items reads in
      absurd (inside.never (heaviest, deepest, record { items = items; good = known.1; rest = ys; spells = sym known.0 ∙ alone }))
  other_told (Err e) finds =
      let less = reaches symbols e finds before (name other ∷ []) ys alone inside.never in
      let named = named_in_tree (mark m.Tilde ∷ []) (name other ∷ []) (constraint_named (name other) tt) heaviest deepest before ys e inside.fits
      (ap (specification_within heaviest deepest) (sym alone) ∙ finds) less in
      finds ∙ ap (λ x. Err x) (told_by e finds named less)

-- Where the lacking word is told by itself, it stands in no constraint.
pub elsewhere : (symbols before ys : List Sym) (n : ℕ) → symbols ≡ before ++ keyword k.InstNext2 ∷ ys → n ≡ suc (length ys) → Finds symbols (unsupported f.InstNext2 0) n → IsInConstraint before → ⊥
unfolding specification
elsewhere symbols before ys n whole count finds inside =
    let x = keyword k.InstNext2 in
    let up = begins_up_to symbols (fault (unsupported f.InstNext2 0) n) finds in
    let counted = up.3 in
    let front = front_of up.0 up.1 before (x ∷ ys) (sym up.2 ∙ whole) (omega (arith, counted, count)) in
    let least = shorter heaviest deepest before front.0 (subst BeginsATree front.1 up.4) in
    let told = renamed (plain other) (quoted k.InstNext2) ys tt tt heaviest deepest before (other_told before least inside ys (specification (before ++ name other ∷ ys)) refl) in
    let same = same_error (fault (unsupported f.InstNext2 0) n) (fault name_there (suc (length ys))) (sym finds ∙ ap (specification_within heaviest deepest) whole ∙ told) in
    let form : unsupported f.InstNext2 0 ≡ name_there = ap (λ e. e.form) same in
    absurd (cc)
