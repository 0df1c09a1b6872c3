-- How many parts conditions have.
use Rattle.std.proofs.Common.{◌≡◌, ◌==◌, ℕ, zero, suc, ◌+◌, ◌<◌, ◌≤◌, Bool, true, false, cond, List, [], ◌∷◌, length, take, drop, Option, None, Some, refl, ap, ◌∙◌, arith, length-drop}
use Rattle.std.proofs.lemmas.List.{length-take}
use Rattle.std.proofs.lemmas.Slice.Eq.{bytes_eq-Decides}
use Rattle.std.specs.List.{prefix_len}
use Rattle.std.specs.Prelude.{codes, option_map}
use Rattle.std.specs.Str.{bytes_eq}
use Rattle.sl_preproc_directives.specs.Bytes.{is_blank, is_name_byte, is_inside}
use Rattle.sl_preproc_directives.specs.Conditions.{Reader, Value, Verdict, and_or_xor, behind_defined, both_levels, chain_at, closed_at, closed_or_simple, compared_at, comparison_at, defined_at, defined_or_compared, equal_or_not, grouped_at, joined, level_at, loose_at, named_or_quoted, not_or_plain, simple_at, tight_at, unary_at, under_not, unless_joined, value_at}
use Rattle.sl_preproc_directives.specs.Definitions.{Values}
use Rattle.sl_preproc_directives.specs.Parts.{Part, ◌>>=◌, begins_with_letter, behind, closed_by, mark_at, name_at, quoted_at, run, skip_blanks}
use Rattle.sl_preproc_directives.specs.declared.condition.Operator.{Operator}
use Rattle.sl_preproc_directives.specs.declared.condition.Operator.TheVariants.{And, Xor, Or}
use Rattle.sl_test_laws.specs.Conditions.{MoreRoomReadsTheSame}

-- ---- what is left

-- what a reader leaves is no longer than what it was given; what one of marks leaves is shorter
abbrev Leaves : {X : Type 0} → (List ℕ → Option (X × List ℕ)) → Type 0
Leaves p = (s : List ℕ) (x : _) → p s ≡ Some x → length x.1 ≤ length s

abbrev LeavesLess : {X : Type 0} → (List ℕ → Option (X × List ℕ)) → Type 0
LeavesLess p = (s : List ℕ) (x : _) → p s ≡ Some x → length x.1 < length s

bound : {A B : Type 0} (o : Option A) (go : A → Option B) (y : B) → (o >>= go) ≡ Some y → (x : A) × (o ≡ Some x) × (go x ≡ Some y)
bound (Some x) go y e = (x, refl, e)
bound None go y e = absurd (cc)

value_or : {A : Type 0} → A → Option A → A
value_or d (Some a) = a
value_or d None = d

same_some : {A : Type 0} (a b : A) → ◌≡◌ {A = Option A} (Some a) (Some b) → a ≡ b
unfolding value_or
same_some a b e = ap (value_or a) e

fewer : (n : ℕ) (s : List ℕ) → length (drop n s) ≤ length s
fewer n s = let count = length-drop n s in omega (arith, count)

mark_by : (b : Bool) (mark s rest : List ℕ) → bytes_eq (take (length mark) (skip_blanks s)) mark ≡ b → 0 < length mark
    → cond {A = Option (List ℕ)} b (Some (drop (length mark) (skip_blanks s))) None ≡ Some rest → length rest < length s
mark_by true mark s rest is some e =
    let same : take (length mark) (skip_blanks s) ≡ mark = (bytes_eq-Decides (take (length mark) (skip_blanks s)) mark).0 is in
    let taken = length-take (length mark) (skip_blanks s) in
    let long = ap length same in
    let blanks = fewer (prefix_len is_blank s) s in
    let left = length-drop (length mark) (skip_blanks s) in
    let last = ap length (same_some (drop (length mark) (skip_blanks s)) rest e) in
    omega (arith, taken, long, blanks, left, last, some)
mark_by false mark s rest is some e = absurd (cc)

mark_left : (mark s rest : List ℕ) → 0 < length mark → mark_at mark s ≡ Some rest → length rest < length s
unfolding mark_at
mark_left mark s rest some e = mark_by (bytes_eq (take (length mark) (skip_blanks s)) mark) mark s rest refl some e

name_by : (b : Bool) (s : List ℕ) (p : List ℕ × List ℕ) → cond {A = Part} b (Some (run is_name_byte s, behind is_name_byte s)) None ≡ Some p → length p.1 ≤ length s
name_by true s p e = let less = fewer (prefix_len is_name_byte s) s in let last = ap (λ q. length q.1) (same_some (run is_name_byte s, behind is_name_byte s) p e) in omega (arith, less, last)
name_by false s p e = absurd (cc)

name_left : Leaves name_at
unfolding name_at
name_left s p e = name_by (begins_with_letter s) s p e

closed_left : (text s : List ℕ) (p : List ℕ × List ℕ) → closed_by text s ≡ Some p → length p.1 ≤ length s
closed_left text [] p e = absurd (cc)
closed_left text (q ∷ rest) p e = let last = ap (λ r. length r.1) (same_some (text, rest) p e) in omega (arith, last)

opened_left : (b : Bool) (s : List ℕ) (p : List ℕ × List ℕ) → cond {A = Part} b (closed_by (run is_inside s) (behind is_inside s)) None ≡ Some p → length p.1 ≤ length s
opened_left true s p e = let left = closed_left (run is_inside s) (behind is_inside s) p e in let less = fewer (prefix_len is_inside s) s in omega (arith, left, less)
opened_left false s p e = absurd (cc)

quoted_left : Leaves quoted_at
unfolding quoted_at
quoted_left [] p e = absurd (cc)
quoted_left (b ∷ s) p e = let left = opened_left (b == 34) s p e in omega (arith, left)

-- ---- simple conditions

value_by : (defs : Values) (n q : Part) (s : List ℕ) (x : Value × List ℕ) → ((p : List ℕ × List ℕ) → n ≡ Some p → length p.1 ≤ length s) → ((p : List ℕ × List ℕ) → q ≡ Some p → length p.1 ≤ length s)
    → named_or_quoted defs n q ≡ Some x → length x.1 ≤ length s
value_by defs (Some n) q s x name quote e = let left = name n refl in let last = ap (λ y. length y.1) (same_some (defs n.0, n.1) x e) in omega (arith, left, last)
value_by defs None (Some t) s x name quote e = let left = quote t refl in let last = ap (λ y. length y.1) (same_some (Some t.0, t.1) x e) in omega (arith, left, last)
value_by defs None None s x name quote e = absurd (cc)

value_left : (defs : Values) → Leaves (value_at defs)
unfolding value_at
value_left defs s x e =
    let t = skip_blanks s in
    let left = value_by defs (name_at t) (quoted_at t) t x (name_left t) (quoted_left t) e in
    let blanks = fewer (prefix_len is_blank s) s in
    omega (arith, left, blanks)

comparison_by : (a b : Option (List ℕ)) (s : List ℕ) (x : Bool × List ℕ) → ((r : List ℕ) → a ≡ Some r → length r < length s) → ((r : List ℕ) → b ≡ Some r → length r < length s) → equal_or_not a b ≡ Some x → length x.1 < length s
comparison_by (Some r) b s x equal differ e = let left = equal r refl in let last = ap (λ y. length y.1) (same_some (true, r) x e) in omega (arith, left, last)
comparison_by None (Some r) s x equal differ e = let left = differ r refl in let last = ap (λ y. length y.1) (same_some (false, r) x e) in omega (arith, left, last)
comparison_by None None s x equal differ e = absurd (cc)

comparison_left : LeavesLess comparison_at
unfolding comparison_at
comparison_left s x e =
    comparison_by (mark_at (codes "==") s) (mark_at (codes "!=") s) s x (λ r h. mark_left (codes "==") s r (omega arith) h) (λ r h. mark_left (codes "!=") s r (omega arith) h) e

compared_left : (defs : Values) → Leaves (compared_at defs)
unfolding compared_at
compared_left defs s x e =
    let a = bound (value_at defs s) _ x e in
    let b = bound (comparison_at a.0.1) _ x a.2 in
    let c = bound (value_at defs b.0.1) _ x b.2 in
    let first = value_left defs s a.0 a.1 in
    let second = comparison_left a.0.1 b.0 b.1 in
    let third = value_left defs b.0.1 c.0 c.1 in
    let last = ap (λ y. length y.1) (same_some _ x c.2) in
    omega (arith, first, second, third, last)

if_left : (b : Bool) (o : Option (List ℕ)) (r : List ℕ) → cond {A = Option (List ℕ)} b o None ≡ Some r → o ≡ Some r
if_left true o r e = e
if_left false o r e = absurd (cc)

behind_left : (s r : List ℕ) → behind_defined s ≡ Some r → length r < length s
unfolding behind_defined
behind_left s r e =
    let a = bound (name_at (skip_blanks s)) _ r e in
    let name = name_left (skip_blanks s) a.0 a.1 in
    let blanks = fewer (prefix_len is_blank s) s in
    let mark = mark_left (codes "(") a.0.1 r (omega arith) (if_left (bytes_eq a.0.0 (codes "defined")) (mark_at (codes "(") a.0.1) r a.2) in
    omega (arith, name, blanks, mark)

defined_left : (defs : Values) → Leaves (defined_at defs)
unfolding defined_at
defined_left defs s x e =
    let a = bound (name_at (skip_blanks s)) _ x e in
    let b = bound (mark_at (codes ")") a.0.1) _ x a.2 in
    let name = name_left (skip_blanks s) a.0 a.1 in
    let blanks = fewer (prefix_len is_blank s) s in
    let mark = mark_left (codes ")") a.0.1 b.0 (omega arith) b.1 in
    let last = ap (λ y. length y.1) (same_some _ x b.2) in
    omega (arith, name, blanks, mark, last)

simple_by : (defs : Values) (s : List ℕ) (o : Option (List ℕ)) (x : Verdict × List ℕ) → behind_defined s ≡ o → defined_or_compared defs s o ≡ Some x → length x.1 ≤ length s
simple_by defs s (Some inside) x is e = let left = behind_left s inside is in let more = defined_left defs inside x e in omega (arith, left, more)
simple_by defs s None x is e = compared_left defs s x e

simple_left : (defs : Values) → Leaves (simple_at defs)
unfolding simple_at
simple_left defs s x e = simple_by defs s (behind_defined s) x refl e

-- ---- operators

operator_by : (a b : Option (List ℕ)) (s : List ℕ) (x : Operator × List ℕ) → ((r : List ℕ) → a ≡ Some r → length r < length s) → ((r : List ℕ) → b ≡ Some r → length r < length s) → and_or_xor a b ≡ Some x → length x.1 < length s
operator_by (Some r) b s x first second e = let left = first r refl in let last = ap (λ y. length y.1) (same_some (And, r) x e) in omega (arith, left, last)
operator_by None (Some r) s x first second e = let left = second r refl in let last = ap (λ y. length y.1) (same_some (Xor, r) x e) in omega (arith, left, last)
operator_by None None s x first second e = absurd (cc)

tight_left : LeavesLess tight_at
unfolding tight_at
tight_left s x e = operator_by (mark_at (codes "&&") s) (mark_at (codes "^^") s) s x (λ r h. mark_left (codes "&&") s r (omega arith) h) (λ r h. mark_left (codes "^^") s r (omega arith) h) e

loose_by : (o : Option (List ℕ)) (s : List ℕ) (x : Operator × List ℕ) → ((r : List ℕ) → o ≡ Some r → length r < length s) → option_map (λ rest. (Or, rest)) o ≡ Some x → length x.1 < length s
loose_by (Some r) s x mark e = let left = mark r refl in let last = ap (λ y. length y.1) (same_some (Or, r) x e) in omega (arith, left, last)
loose_by None s x mark e = absurd (cc)

loose_left : LeavesLess loose_at
unfolding loose_at
loose_left s x e = loose_by (mark_at (codes "||") s) s x (λ r h. mark_left (codes "||") s r (omega arith) h) e

-- ---- levels of operators

-- two readers of what is no longer than this
abbrev Alike : {X : Type 0} → ℕ → (List ℕ → Option X) → (List ℕ → Option X) → Type 0
Alike n p q = (s : List ℕ) → length s ≤ n → p s ≡ q s

same_bind : {A B : Type 0} (o p : Option A) (f g : A → Option B) → o ≡ p → ((a : A) → o ≡ Some a → f a ≡ g a) → (o >>= f) ≡ (p >>= g)
same_bind (Some a) p f g e later = later a refl ∙ ap (λ o. o >>= g) e
same_bind None p f g e later = ap (λ o. o >>= g) e

module _ (joint : Reader Operator) (joints : LeavesLess joint) where
  -- what is done behind an operator
  abbrev onward : Reader Verdict → ℕ → Verdict → Operator × List ℕ → Option (Verdict × List ℕ)
  onward part most left j = part j.1 >>= λ right. chain_at joint part most (joined j.0 left right.0) right.1

  chain_by : (part : Reader Verdict) (most : ℕ) (left : Verdict) (s : List ℕ) (o : Option (Operator × List ℕ)) (x : Verdict × List ℕ) → Leaves part → ((l : Verdict) → Leaves (chain_at joint part most l)) → joint s ≡ o
      → unless_joined left s (onward part most left) o ≡ Some x → length x.1 ≤ length s
  chain_by part most left s None x parts again is e = let last = ap (λ y. length y.1) (same_some (left, s) x e) in omega (arith, last)
  chain_by part most left s (Some j) x parts again is e =
      let b = bound (part j.1) _ x e in
      let first = joints s j is in
      let second = parts j.1 b.0 b.1 in
      let third = again (joined j.0 left b.0.0) b.0.1 x b.2 in
      omega (arith, first, second, third)

  chain_left : (part : Reader Verdict) → Leaves part → (most : ℕ) (left : Verdict) → Leaves (chain_at joint part most left)
  unfolding chain_at
  chain_left part parts zero left s x e = absurd (cc)
  chain_left part parts (suc most) left s x e = chain_by part most left s (joint s) x parts (chain_left part parts most) refl e

  level_left : (part : Reader Verdict) → Leaves part → (most : ℕ) → Leaves (level_at joint part most)
  unfolding level_at
  level_left part parts most s x e =
      let a = bound (part s) _ x e in
      let first = parts s a.0 a.1 in
      let others = chain_left part parts most a.0.0 a.0.1 x a.2 in
      omega (arith, first, others)

  -- more rounds than bytes are enough
  abbrev ChainsAlike : Reader Verdict → Reader Verdict → ℕ → ℕ → Type 0
  ChainsAlike part other m n = (left : Verdict) (s : List ℕ) → length s < m → length s < n → Alike (length s) part other → chain_at joint part m left s ≡ chain_at joint other n left s

  chain_same_by : (part other : Reader Verdict) → Leaves part → (m n : ℕ) (left : Verdict) (s : List ℕ) (o : Option (Operator × List ℕ)) → joint s ≡ o → length s < suc m → length s < suc n → Alike (length s) part other
      → ChainsAlike part other m n → unless_joined left s (onward part m left) o ≡ unless_joined left s (onward other n left) o
  chain_same_by part other parts m n left s None is less also alike again = refl
  chain_same_by part other parts m n left s (Some j) is less also alike again =
      let first = joints s j is in
      same_bind (part j.1) (other j.1) _ _ (alike j.1 (omega (arith, first)))
      (λ right read. (let second = parts j.1 right read in
      again (joined j.0 left right.0) right.1 (omega (arith, first, second, less)) (omega (arith, first, second, also)) (λ t short. alike t (omega (arith, first, second, short)))))

  chain_same : (part other : Reader Verdict) → Leaves part → (m n : ℕ) → ChainsAlike part other m n
  unfolding chain_at
  chain_same part other parts zero n left s less also alike = absurd (omega (arith, less))
  chain_same part other parts (suc m) zero left s less also alike = absurd (omega (arith, also))
  chain_same part other parts (suc m) (suc n) left s less also alike = chain_same_by part other parts m n left s (joint s) refl less also alike (chain_same part other parts m n)

  level_same : (part other : Reader Verdict) → Leaves part → (m n k : ℕ) → k < m → k < n → Alike k part other → Alike k (level_at joint part m) (level_at joint other n)
  unfolding level_at
  level_same part other parts m n k less also alike s short =
      same_bind (part s) (other s) _ _ (alike s short)
      (λ first read. (let left = parts s first read in
      chain_same part other parts m n first.0 first.1 (omega (arith, left, short, less)) (omega (arith, left, short, also)) (λ t shorter. alike t (omega (arith, left, short, shorter)))))

both_left : (unary : Reader Verdict) → Leaves unary → (most : ℕ) → Leaves (both_levels unary most)
unfolding both_levels
both_left unary parts most = level_left loose_at loose_left (level_at tight_at unary most) (level_left tight_at tight_left unary parts most) most

both_same : (unary other : Reader Verdict) → Leaves unary → (m n k : ℕ) → k < m → k < n → Alike k unary other → Alike k (both_levels unary m) (both_levels other n)
unfolding both_levels
both_same unary other parts m n k less also alike =
    level_same loose_at loose_left (level_at tight_at unary m) (level_at tight_at other n) (level_left tight_at tight_left unary parts m) m n k less also
    (level_same tight_at tight_left unary other parts m n k less also alike)

-- ---- conditions in parentheses and behind `!`

closed_part_left : (inner : Reader Verdict) → Leaves inner → Leaves (closed_at inner)
unfolding closed_at
closed_part_left inner parts s x e =
    let a = bound (inner s) _ x e in
    let b = bound (mark_at (codes ")") a.0.1) _ x a.2 in
    let first = parts s a.0 a.1 in
    let mark = mark_left (codes ")") a.0.1 b.0 (omega arith) b.1 in
    let last = ap (λ y. length y.1) (same_some _ x b.2) in
    omega (arith, first, mark, last)

grouped_by : (defs : Values) (inner : Reader Verdict) (s : List ℕ) (o : Option (List ℕ)) (x : Verdict × List ℕ) → Leaves inner → mark_at (codes "(") s ≡ o → closed_or_simple defs inner s o ≡ Some x → length x.1 ≤ length s
grouped_by defs inner s (Some inside) x parts is e =
    let mark = mark_left (codes "(") s inside (omega arith) is in
    let left = closed_part_left inner parts inside x e in
    omega (arith, mark, left)
grouped_by defs inner s None x parts is e = simple_left defs s x e

grouped_left : (defs : Values) (inner : Reader Verdict) → Leaves inner → Leaves (grouped_at defs inner)
unfolding grouped_at
grouped_left defs inner parts s x e = grouped_by defs inner s (mark_at (codes "(") s) x parts refl e

turned_left : (o : Option (Verdict × List ℕ)) (s : List ℕ) (x : Verdict × List ℕ) → ((y : Verdict × List ℕ) → o ≡ Some y → length y.1 ≤ length s) → under_not o ≡ Some x → length x.1 ≤ length s
turned_left (Some y) s x left e = let less = left y refl in let last = ap (λ z. length z.1) (same_some _ x e) in omega (arith, less, last)
turned_left None s x left e = absurd (cc)

not_by : (again plain : Reader Verdict) (s : List ℕ) (o : Option (List ℕ)) (x : Verdict × List ℕ) → Leaves again → Leaves plain → mark_at (codes "!") s ≡ o → not_or_plain again plain s o ≡ Some x → length x.1 ≤ length s
not_by again plain s (Some operand) x more parts is e =
    let mark = mark_left (codes "!") s operand (omega arith) is in
    let left = turned_left (again operand) operand x (more operand) e in
    omega (arith, mark, left)
not_by again plain s None x more parts is e = parts s x e

unary_left : (defs : Values) (most : ℕ) → Leaves (unary_at defs most)
unfolding unary_at
unary_left defs zero s x e = absurd (cc)
unary_left defs (suc most) s x e =
    let more = unary_left defs most in
    not_by (unary_at defs most) (grouped_at defs (both_levels (unary_at defs most) most)) s (mark_at (codes "!") s) x more (grouped_left defs (both_levels (unary_at defs most) most) (both_left (unary_at defs most) more most)) refl e

closed_same : (inner other : Reader Verdict) (s : List ℕ) → inner s ≡ other s → closed_at inner s ≡ closed_at other s
unfolding closed_at
closed_same inner other s e = same_bind (inner s) (other s) _ _ e (λ a read. refl)

-- each part round another takes a byte
abbrev UnaryAlike : Values → ℕ → ℕ → Type 0
UnaryAlike defs m n = (k : ℕ) → k < m → k < n → Alike k (unary_at defs m) (unary_at defs n)

grouped_same_by : (defs : Values) (m n : ℕ) (s : List ℕ) (o : Option (List ℕ)) → mark_at (codes "(") s ≡ o → length s ≤ m → length s ≤ n → UnaryAlike defs m n
    → closed_or_simple defs (both_levels (unary_at defs m) m) s o ≡ closed_or_simple defs (both_levels (unary_at defs n) n) s o
grouped_same_by defs m n s (Some inside) is less also again =
    let mark = mark_left (codes "(") s inside (omega arith) is in
    closed_same (both_levels (unary_at defs m) m) (both_levels (unary_at defs n) n) inside
    (both_same (unary_at defs m) (unary_at defs n) (unary_left defs m) m n (length inside) (omega (arith, mark, less)) (omega (arith, mark, also))
    (again (length inside) (omega (arith, mark, less)) (omega (arith, mark, also))) inside (omega arith))
grouped_same_by defs m n s None is less also again = refl

grouped_same : (defs : Values) (m n : ℕ) (s : List ℕ) → length s ≤ m → length s ≤ n → UnaryAlike defs m n
    → grouped_at defs (both_levels (unary_at defs m) m) s ≡ grouped_at defs (both_levels (unary_at defs n) n) s
unfolding grouped_at
grouped_same defs m n s less also again = grouped_same_by defs m n s (mark_at (codes "(") s) refl less also again

not_same : (defs : Values) (m n : ℕ) (s : List ℕ) (o : Option (List ℕ)) → mark_at (codes "!") s ≡ o → length s ≤ m → length s ≤ n → UnaryAlike defs m n
    → not_or_plain (unary_at defs m) (grouped_at defs (both_levels (unary_at defs m) m)) s o ≡ not_or_plain (unary_at defs n) (grouped_at defs (both_levels (unary_at defs n) n)) s o
not_same defs m n s (Some operand) is less also again =
    let mark = mark_left (codes "!") s operand (omega arith) is in
    ap under_not (again (length operand) (omega (arith, mark, less)) (omega (arith, mark, also)) operand (omega arith))
not_same defs m n s None is less also again = grouped_same defs m n s less also again

unary_same : (defs : Values) (m n : ℕ) → UnaryAlike defs m n
unfolding unary_at
unary_same defs zero n k less also s short = absurd (omega (arith, less))
unary_same defs (suc m) zero k less also s short = absurd (omega (arith, also))
unary_same defs (suc m) (suc n) k less also s short = not_same defs m n s (mark_at (codes "!") s) refl (omega (arith, less, short)) (omega (arith, also, short)) (unary_same defs m n)

pub more_room : MoreRoomReadsTheSame
more_room defs text more =
    let m = more + suc (length text) in
    let n = suc (length text) in
    both_same (unary_at defs m) (unary_at defs n) (unary_left defs m) m n (length text) (omega arith) (omega arith) (unary_same defs m n (length text) (omega arith) (omega arith)) text (omega arith)
