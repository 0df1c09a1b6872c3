-- Readers of single symbols and of lists, in two readings side by side.
use Rattle.std.proofs.Common.{◌≡◌, ℕ, zero, suc, ◌+◌, ◌<◌, ◌≤◌, Bool, true, false, cond, nat_le, List, [], ◌∷◌, ◌++◌, length, Option, None, Some, Ok, refl, subst, arith, length-append}
use Rattle.sl_ast.specs.Operators.{widest}
use Rattle.sl_ast.specs.Spelling.{keyword}
use Rattle.sl_ast.specs.Symbols.{plain, Sym, number, word, mark}
use Rattle.sl_ast.specs.Trees.{Name}
use Rattle.sl_ast.specs.declared.symbols.Feature.TheVariants as f
use Rattle.sl_ast.specs.declared.symbols.Keyword.{Keyword}
use Rattle.sl_ast.specs.declared.symbols.Keyword.TheVariants as k
use Rattle.sl_ast.specs.declared.symbols.Mark.{Mark}
use Rattle.sl_ast.specs.declared.symbols.Mark.TheVariants as m
use Rattle.sl_parse_grammar.specs.Lists.{many_from, many}
use Rattle.sl_parse_grammar.specs.Reader.{nesting, unsupported, fault, Input, at, first, Outcome, Reader, ◌>>=◌, ◌>>◌, pure, skip, enter, unsupport, refuse, look, is_mark, is_keyword, same_mark, same_keyword, expect, expect_keyword, number_by, integer_here, name_by, name_here, size_by, size_here, optional, size_option}
use Rattle.sl_parse_faults.proofs.BesideSteps.{Pair, address, lone_name, lone_word, wide, opening, leading, calling, sizing, floating, lacking, Untaken, tilde, other_dots, bracket, dots, Firm, NoMore, Abreast, both_ok, early, told_here, past, stuck, apart, Begun, Beside, IsClosed, Closed, Common, Closing, closed_if, closed_look, closed_pure, closed_refuse, closed_then, then_no_more, less_left, weaker, then_abreast, begun_then, beside_then, begun_fault, begun_skip, begun_skips, begun_refuse, nothing_left, beside_pure, begun_less, begun_peek, beside_peek, begun_if, look_none}

-- ---- at the place

pub refuse_here : {zs ys K W : List Sym} {L : List Sym → Type 0} {A : Type 0} (h : Pair zs ys K W) (more t r : ℕ) → Abreast h more L A t zero r (refuse (at K (more + r))) (refuse (at W r))
refuse_here address more t r = stuck tt _ _
refuse_here (lone_name x) more t r = stuck tt _ _
refuse_here lone_word more t r = stuck tt _ _
refuse_here (wide x) more t r = stuck tt _ _
refuse_here (opening x missing e) more t r = stuck tt _ _
refuse_here leading more t r = stuck tt _ _
refuse_here (calling x missing e) more t r = stuck tt _ _
refuse_here (sizing x) more t r = stuck tt _ _
refuse_here floating more t r = told_here f.FloatingPoint refl
refuse_here lacking more t r = told_here f.InstNext2 refl

tilde_not : (k : Mark) → Common k → is_mark k (Some (mark m.Tilde)) ≡ false
unfolding same_mark
tilde_not m.Tilde usual = absurd usual
tilde_not k usual = refl

ampersand_not : (k : Mark) → Common k → is_mark k (Some (mark m.Ampersand)) ≡ false
unfolding same_mark
ampersand_not m.Ampersand usual = absurd usual
ampersand_not k usual = refl

floating_not : (k : Mark) → Common k → is_mark k (Some (mark m.Floating)) ≡ false
unfolding same_mark
floating_not m.Floating usual = absurd usual
floating_not k usual = refl

dots_not : (k : Mark) → Common k → is_mark k (Some (mark m.Ellipsis)) ≡ false
unfolding same_mark
dots_not m.Ellipsis usual = absurd usual
dots_not k usual = refl

pub no_mark : {zs ys K W : List Sym} (h : Pair zs ys K W) (k : Mark) → Common k → (is_mark k (first K) ≡ false) × (is_mark k (first W) ≡ false)
no_mark address k usual = (tilde_not k usual, ampersand_not k usual)
no_mark (lone_name x) k usual = (tilde_not k usual, refl)
no_mark lone_word k usual = (tilde_not k usual, refl)
no_mark (wide x) k usual = (refl, refl)
no_mark (opening x missing e) k usual = (refl, refl)
no_mark leading k usual = (refl, dots_not k usual)
no_mark (calling x missing e) k usual = (refl, refl)
no_mark (sizing x) k usual = (refl, refl)
no_mark floating k usual = (floating_not k usual, floating_not k usual)
no_mark lacking k usual = (refl, refl)

-- a word that stands at no such place
abbrev pub Usual : Keyword → Type 0
Usual k.InstNext2 = ⊥
Usual k.WordSize = ⊥
Usual k = Unit {0}

pub lacking_not : (l : Keyword) → Usual l → is_keyword l (Some (keyword k.InstNext2)) ≡ false
unfolding same_keyword
lacking_not k.InstNext2 usual = absurd usual
lacking_not l usual = refl

sizing_not : (l : Keyword) → Usual l → is_keyword l (Some (keyword k.WordSize)) ≡ false
unfolding same_keyword
sizing_not k.WordSize usual = absurd usual
sizing_not l usual = refl

pub no_keyword : {zs ys K W : List Sym} (h : Pair zs ys K W) (k : Keyword) → Usual k → (is_keyword k (first K) ≡ false) × (is_keyword k (first W) ≡ false)
no_keyword address k usual = (refl, refl)
no_keyword (lone_name x) k usual = (refl, refl)
no_keyword lone_word k usual = (refl, lacking_not k usual)
no_keyword (wide x) k usual = (refl, refl)
no_keyword (opening x missing e) k usual = (refl, refl)
no_keyword leading k usual = (refl, refl)
no_keyword (calling x missing e) k usual = (refl, refl)
no_keyword (sizing x) k usual = (sizing_not k usual, sizing_not k usual)
no_keyword floating k usual = (refl, refl)
no_keyword lacking k usual = (lacking_not k usual, lacking_not k usual)

number_by_here : {zs ys K W : List Sym} {L : List Sym → Type 0} (h : Pair zs ys K W) (more t r : ℕ) → Abreast h more L ℕ t zero r (number_by (first K) (at K (more + r))) (number_by (first W) (at W r))
number_by_here address more t r = stuck tt _ _
number_by_here (lone_name x) more t r = stuck tt _ _
number_by_here lone_word more t r = stuck tt _ _
number_by_here (wide x) more t r = past _ _ (omega arith)
number_by_here (opening x missing e) more t r = stuck tt _ _
number_by_here leading more t r = stuck tt _ _
number_by_here (calling x missing e) more t r = stuck tt _ _
number_by_here (sizing x) more t r = stuck tt _ _
number_by_here floating more t r = told_here f.FloatingPoint refl
number_by_here lacking more t r = told_here f.InstNext2 refl

name_by_here : {zs ys K W : List Sym} (h : Pair zs ys K W) (more t r : ℕ) → Abreast h more (Untaken zs true) Name t zero r (name_by (first K) (at K (more + r))) (name_by (first W) (at W r))
name_by_here address more t r = stuck tt _ _
name_by_here (lone_name x) more t r = stuck tt _ _
name_by_here lone_word more t r = stuck tt _ _
name_by_here (wide x) more t r = stuck tt _ _
name_by_here (opening x missing e) more t r = past _ _ (omega arith)
name_by_here leading more t r = apart tt _ _ _ dots
name_by_here (calling x missing e) more t r = apart tt _ _ _ bracket
name_by_here (sizing x) more t r = stuck tt _ _
name_by_here floating more t r = told_here f.FloatingPoint refl
name_by_here lacking more t r = told_here f.InstNext2 refl

wide_here : {zs ys : List Sym} {L : List Sym → Type 0} (more t r n : ℕ) (b : Bool) (o : Outcome ℕ)
    → Abreast {zs = zs} {ys = ys} (wide n) more L ℕ t zero r o (cond {A = Reader ℕ} b (skip >> pure n) (unsupport f.WideValue 0) (at (number n ∷ ys) r))
wide_here more t r n true o = past _ _ (omega arith)
wide_here more t r n false o = told_here f.WideValue refl

size_by_here : {zs ys K W : List Sym} {L : List Sym → Type 0} (h : Pair zs ys K W) (more t r : ℕ) → Abreast h more L ℕ t zero r (size_by (first K) (at K (more + r))) (size_by (first W) (at W r))
size_by_here address more t r = stuck tt _ _
size_by_here (lone_name x) more t r = stuck tt _ _
size_by_here lone_word more t r = stuck tt _ _
size_by_here (wide x) more t r = wide_here more t r x (nat_le x widest) _
size_by_here (opening x missing e) more t r = stuck tt _ _
size_by_here leading more t r = stuck tt _ _
size_by_here (calling x missing e) more t r = stuck tt _ _
size_by_here (sizing x) more t r = stuck tt _ _
size_by_here floating more t r = told_here f.FloatingPoint refl
size_by_here lacking more t r = told_here f.InstNext2 refl

-- ---- where something is untaken

name_by_closed : (zs : List Sym) (b : Bool) (xs : List Sym) (r : ℕ) → Untaken zs b xs → IsClosed (Untaken zs true) (name_by (first xs) (at xs r))
name_by_closed zs b _ r tilde = tt
name_by_closed zs b _ r other_dots = dots
name_by_closed zs b _ r bracket = tt
name_by_closed zs b _ r dots = tt

pub closed_name : {zs : List Sym} {b : Bool} → Closed (Untaken zs b) (Untaken zs true) name_here
unfolding name_here
closed_name {zs} {b} = record { closed = λ xs r u. name_by_closed zs b xs r u }

pub closed_optional : {zs : List Sym} {b : Bool} {A : Type 0} (k : Mark) (p : Reader A) → Closing k → Closed (Untaken zs b) (Untaken zs b) (optional (is_mark k) p)
closed_optional k p usual = closed_look k usual (closed_pure None)

pub many_from_closed : {L : List Sym → Type 0} {A : Type 0} (goes : Option Sym → Bool) (p : Reader A) → Closed L L p → (n : ℕ) (found : List A) → Closed L L (many_from goes p n found)
unfolding many_from
many_from_closed goes p here zero found = closed_refuse
many_from_closed goes p here (suc n) found = record {
  closed = λ xs r u. (closed_if (goes (first xs)) (closed_then here (λ a. many_from_closed goes p here n (found ++ a ∷ []))) (closed_pure found)).closed xs r u;
}

pub closed_many : {L : List Sym → Type 0} {A : Type 0} (goes : Option Sym → Bool) {p : Reader A} → Closed L L p → Closed L L (many goes p)
closed_many goes {p = p} here = record { closed = λ xs r u. (many_from_closed goes p here (suc (length xs)) []).closed xs r u }

-- ---- behind a name an opening bracket

opens_here : {zs ys K W : List Sym} {L : List Sym → Type 0} {A : Type 0} (h : Pair zs ys K W) (more t r : ℕ) (go to : Name → Reader A) → ((w : Name) (i : Input) → NoMore (length i.rest) (to w i))
    → ((w : Name) (i : Input) → NoMore (length i.rest) ((expect m.Open >> to w) i))
    → Abreast h more L A t zero r ((name_here >>= (λ w. expect m.Open >> go w)) (at K (more + r))) ((name_here >>= (λ w. expect m.Open >> to w)) (at W r))
unfolding name_here expect same_mark
opens_here address more t r go to onward also = stuck tt _ _
opens_here (lone_name x) more t r go to onward also = stuck tt _ _
opens_here lone_word more t r go to onward also = stuck tt _ _
opens_here (wide x) more t r go to onward also = stuck tt _ _
opens_here {ys = ys} (opening x missing e) more t r go to onward also = past _ _ (also x (at ys r))
opens_here leading more t r go to onward also = stuck tt _ _
opens_here {ys = ys} (calling x missing e) more t r go to onward also = past _ _ (onward x (at ys r))
opens_here (sizing x) more t r go to onward also = stuck tt _ _
opens_here floating more t r go to onward also = told_here f.FloatingPoint refl
opens_here lacking more t r go to onward also = told_here f.InstNext2 refl

-- ---- readers

module _ {zs ys K W : List Sym} (h : Pair zs ys K W) (more : ℕ) where
  pub beside_refuse : {L : List Sym → Type 0} {A : Type 0} {t n : ℕ} → Beside h more L t n {A = A} refuse refuse
  beside_refuse {t = t} = record { begun = begun_refuse h more; here = λ r less. refuse_here h more t r }

  pub look_mark : {L : List Sym → Type 0} {A : Type 0} {t n : ℕ} (k : Mark) {p q p' q' : Reader A} → Common k → Begun h more L t n p p' → Beside h more L t n q q' → Beside h more L t n (look (is_mark k) p q) (look (is_mark k) p' q')
  look_mark k usual there not_there = look_none h more (is_mark k) (no_mark h k usual).0 (no_mark h k usual).1 there not_there

  pub beside_expect : {L : List Sym → Type 0} {n : ℕ} (k : Mark) → Common k → Beside h more L 1 n (expect k) (expect k)
  unfolding expect
  beside_expect k usual = look_mark k usual (begun_skip h more) beside_refuse

  pub beside_expect_keyword : {L : List Sym → Type 0} {n : ℕ} (k : Keyword) → Usual k → Beside h more L 1 n (expect_keyword k) (expect_keyword k)
  unfolding expect_keyword
  beside_expect_keyword k usual = look_none h more (is_keyword k) (no_keyword h k usual).0 (no_keyword h k usual).1 (begun_skip h more) beside_refuse

  number_by_begun : {L : List Sym → Type 0} {n : ℕ} (o : Option Sym) → Begun h more L 1 n (number_by o) (number_by o)
  number_by_begun (Some (number x)) = begun_skips h more (beside_pure h more x)
  number_by_begun o = begun_refuse h more

  pub beside_integer : {L : List Sym → Type 0} {n : ℕ} → Beside h more L 1 n integer_here integer_here
  unfolding integer_here
  beside_integer = beside_peek h more number_by_begun (λ r less. number_by_here h more 1 r)

  name_by_begun : {L : List Sym → Type 0} {n : ℕ} (o : Option Sym) → Begun h more L 1 n (name_by o) (name_by o)
  name_by_begun (Some (word (plain w))) = begun_skips h more (beside_pure h more w)
  name_by_begun o = begun_refuse h more

  pub beside_name : {n : ℕ} → Beside h more (Untaken zs true) 1 n name_here name_here
  unfolding name_here
  beside_name = beside_peek h more name_by_begun (λ r less. name_by_here h more 1 r)

  size_by_begun : {L : List Sym → Type 0} {n : ℕ} (o : Option Sym) → Begun h more L 1 n (size_by o) (size_by o)
  size_by_begun (Some (number x)) = begun_if h more (nat_le x widest) (begun_skips h more (beside_pure h more x)) (begun_fault h more (unsupported f.WideValue 0))
  size_by_begun o = begun_refuse h more

  pub beside_size : {L : List Sym → Type 0} {n : ℕ} → Beside h more L 1 n size_here size_here
  unfolding size_here
  beside_size = beside_peek h more size_by_begun (λ r less. size_by_here h more 1 r)

  -- what may lack, behind a mark
  pub beside_optional : {n : ℕ} {L : List Sym → Type 0} {A : Type 0} (k : Mark) {p q : Reader A} → Common k → Begun h more Firm 1 n p q → Beside h more L zero n (optional (is_mark k) p) (optional (is_mark k) q)
  beside_optional k usual here = look_mark k usual (begun_less h more zero (omega arith) (begun_then h more here (λ a. beside_pure h more (Some a)))) (beside_pure h more None)

  name_begun : {n : ℕ} → Begun h more Firm 1 n name_here name_here
  unfolding name_here
  name_begun = begun_peek h more name_by_begun

  -- a name, and behind it an opening bracket
  pub opens_then : {L : List Sym → Type 0} {A : Type 0} {t n : ℕ} {go to : Name → Reader A} → ((w : Name) → Beside h more L t n (go w) (to w))
      → Beside h more L 1 n (name_here >>= (λ w. expect m.Open >> go w)) (name_here >>= (λ w. expect m.Open >> to w))
  opens_then {L = L} {n = n} {go = go} {to = to} later = record {
    begun = begun_then h more name_begun (λ w. marked w);
    here = λ r less. opens_here h more 1 r go to (λ w. (later w).begun.onward) (λ w. (marked w).begun.onward);
  }
    where
      marked : (w : Name) → Beside h more L 1 n (expect m.Open >> go w) (expect m.Open >> to w)
      marked w = beside_then h more (beside_expect m.Open tt) (λ _. later w)

  pub beside_size_option : {L : List Sym → Type 0} {n : ℕ} → Beside h more L zero n size_option size_option
  unfolding size_option
  beside_size_option = beside_optional m.Colon tt (begun_skips h more beside_size)

  -- ---- an operator or a bracket

  enter_takes : (xs : List Sym) (r : ℕ) → Abreast h more Firm (Unit {0}) 1 (suc (length xs)) r (Ok (tt, at (xs ++ K) (more + r))) (Ok (tt, at (xs ++ W) r))
  enter_takes xs r = both_ok tt xs r (omega arith) (omega arith)

  enters_ahead : {L : List Sym → Type 0} {A : Type 0} {t n : ℕ} (p q : Reader A) → Beside h more L t n p q → (x : Sym) (xs : List Sym) (r : ℕ) → r < suc n
      → Abreast h more L A 1 (suc (length xs)) r ((enter >> p) (at (x ∷ (xs ++ K)) (more + r))) ((enter >> q) (at (x ∷ (xs ++ W)) r))
  unfolding enter
  enters_ahead p q later x xs zero less = (let sum = length-append xs W in early _ (fault nesting (suc (length (xs ++ W)))) (omega arith))
  enters_ahead {L = L} {A = A} {t = t} {n = n} p q later x xs (suc r) less =
      let e : suc (more + r) ≡ more + suc r = omega arith in
      subst (λ d. Abreast h more L A 1 (suc (length xs)) (suc r) ((enter >> p) (at (x ∷ (xs ++ K)) d)) ((enter >> q) (at (x ∷ (xs ++ W)) (suc r)))) e
      (weaker h more 1 1 _ _ r (suc r) _ _ (λ d e. e) (omega arith) (λ d x. x)
      (then_abreast h more 1 t 1 _ r n (Ok (tt, at (xs ++ K) (more + r))) (Ok (tt, at (xs ++ W) r)) (λ _. p) (λ _. q) (omega arith) (omega arith) (λ _. later) (λ _. nothing_left) (enter_takes xs r)))

  -- where the others are known by the room
  pub enter_goes_on : {L : List Sym → Type 0} {A : Type 0} (p q : Reader A) (x : Sym) (xs : List Sym) (r : ℕ)
      → ((s : ℕ) → r ≡ suc s → Abreast h more L A zero (length xs) s (p (at (xs ++ K) (more + s))) (q (at (xs ++ W) s)))
      → Abreast h more L A 1 (suc (length xs)) r ((enter >> p) (at (x ∷ (xs ++ K)) (more + r))) ((enter >> q) (at (x ∷ (xs ++ W)) r))
  unfolding enter
  enter_goes_on p q x xs zero later = (let sum = length-append xs W in early _ (fault nesting (suc (length (xs ++ W)))) (omega arith))
  enter_goes_on {L = L} {A = A} p q x xs (suc r) later =
      let e : suc (more + r) ≡ more + suc r = omega arith in
      subst (λ d. Abreast h more L A 1 (suc (length xs)) (suc r) ((enter >> p) (at (x ∷ (xs ++ K)) d)) ((enter >> q) (at (x ∷ (xs ++ W)) (suc r)))) e
      (weaker h more zero 1 _ _ r (suc r) _ _ (λ d e. omega arith) (omega arith) (λ d x. x) (later r refl))

  pub enter_onward : (i : Input) (r : ℕ) → NoMore (length i.rest) (enter (at i.rest r))
  unfolding enter
  enter_onward i zero = omega arith
  enter_onward i (suc r) = less_left i.rest

  pub begun_enters : {L : List Sym → Type 0} {A : Type 0} {t n : ℕ} {p q : Reader A} → Beside h more L t n p q → Begun h more L 1 (suc n) (enter >> p) (enter >> q)
  begun_enters {p = p} {q = q} later = record {
    ahead = enters_ahead p q later;
    onward = λ i. then_no_more (length i.rest) (enter i) (λ _. q) (λ _ j. later.begun.onward j) (enter_onward i i.room);
  }

  -- for fewer rooms
  pub fewer_rooms : {L : List Sym → Type 0} {A : Type 0} {t n : ℕ} (l : ℕ) {p q : Reader A} → l ≤ n → Begun h more L t n p q → Begun h more L t l p q
  fewer_rooms l le b = record { ahead = λ x xs r less. b.ahead x xs r (omega arith); onward = b.onward }
