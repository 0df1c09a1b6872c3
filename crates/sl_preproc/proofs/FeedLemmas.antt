-- No line feed stands in a line, nor in what a directive or a reference has of it.
use Rattle.std.proofs.Common.{◌≡◌, ℕ, zero, suc, Bool, true, false, List, [], ◌∷◌, take, drop, Option, Some, None, refl, subst}
use Rattle.std.specs.Prelude.{◌==◌, IfSome, option_map, if◌then◌else◌}
use Rattle.std.specs.List.{AllByRecursion, prefix_len}
use Rattle.sl_preproc_directives.specs.Bytes.{is_blank, is_name_byte, is_inside, is_value_byte}
use Rattle.sl_preproc_directives.specs.Parts.{◌>>=◌, begins_with_letter, name_at, byte_at, closed_by, quoted_at, skip_blanks, run, behind, is_ended}
use Rattle.sl_preproc_directives.specs.Lines.{lines, on_first_line}
use Rattle.sl_preproc_directives.specs.Definitions.{Values, with_value, without}
use Rattle.sl_preproc_directives.specs.Directives.{Directive, Includes, Defines, Undefines, include_at, quoted_or_bare, value_part, define_at, lone_name_at, directive_at, keyword_or_none, keyword_at}
use Rattle.sl_preproc_directives.specs.Replacement.{Piece, Byte, Name, reference_at, name_or_byte, pieces}
use Rattle.sl_preproc_directives.specs.declared.directive.Keyword.{Keyword}
use Rattle.sl_preproc_directives.specs.declared.directive.Keyword.TheVariants.{Include, Define, Undef, If, Ifdef, Ifndef, Elif, Else, Endif, Unknown}
use Rattle.std.specs.Str.{bytes_eq}
use Rattle.sl_preproc.specs.Whole.{NoFeed, AreOnLines}

take_free : (n : ℕ) (s : List ℕ) → NoFeed s → NoFeed (take n s)
take_free zero s h = tt
take_free (suc n) [] h = tt
take_free (suc n) (b ∷ s) h = (h.0, take_free n s h.1)

drop_free : (n : ℕ) (s : List ℕ) → NoFeed s → NoFeed (drop n s)
drop_free zero s h = h
drop_free (suc n) [] h = tt
drop_free (suc n) (b ∷ s) h = drop_free n s h.1

-- ---- lines

first_free : (b : ℕ) (ls : List (List ℕ)) → (b == 10) ≡ false → AllByRecursion NoFeed ls → AllByRecursion NoFeed (on_first_line b ls)
first_free b [] h k = ((h, tt), tt)
first_free b (line ∷ ls) h k = ((h, k.0), k.1)

lines_by : (b : ℕ) (ls : List (List ℕ)) (feed : Bool) → (b == 10) ≡ feed → AllByRecursion NoFeed ls → AllByRecursion NoFeed (let all : List (List ℕ) = if feed then [] ∷ ls else on_first_line b ls in all)
lines_by b ls true h k = (tt, k)
lines_by b ls false h k = first_free b ls h k

lines_free : (s : List ℕ) → AllByRecursion NoFeed (lines s)
lines_free [] = tt
lines_free (b ∷ s) = lines_by b (lines s) (b == 10) refl (lines_free s)

pub line_free : (s line : List ℕ) (ls : List (List ℕ)) → lines s ≡ line ∷ ls → NoFeed line
line_free s line ls h = (subst (λ (all : List (List ℕ)). AllByRecursion NoFeed all) h (lines_free s)).0

-- ---- parts

some_bind : {A B : Type 0} (o : Option A) (f : A → Option B) (P : A → Type 0) (Q : B → Type 0) → IfSome o P → ((x : A) → P x → IfSome (f x) Q) → IfSome (o >>= f) Q
some_bind None f P Q h k = tt
some_bind (Some x) f P Q h k = k x h

some_if : {A : Type 0} (b : Bool) (o : Option A) (P : A → Type 0) → IfSome o P → IfSome (let r : Option A = if b then o else None in r) P
some_if true o P h = h
some_if false o P h = tt

some_map : {A B : Type 0} (o : Option A) (f : A → B) (Q : B → Type 0) → IfSome o (λ x. Q (f x)) → IfSome (option_map f o) Q
some_map None f Q h = tt
some_map (Some x) f Q h = h

some_any : {A : Type 0} (o : Option A) → IfSome o (λ _. Unit {0})
some_any None = tt
some_any (Some x) = tt

abbrev Both : List ℕ × List ℕ → Type 0
Both p = NoFeed p.0 × NoFeed p.1

split_free : (test : ℕ → Bool) (s : List ℕ) → NoFeed s → Both (run test s, behind test s)
split_free test s h = (take_free (prefix_len test s) s h, drop_free (prefix_len test s) s h)

skip_free : (s : List ℕ) → NoFeed s → NoFeed (skip_blanks s)
skip_free s h = drop_free (prefix_len is_blank s) s h

name_free : (s : List ℕ) → NoFeed s → IfSome (name_at s) Both
unfolding name_at
name_free s h = some_if (begins_with_letter s) (Some (run is_name_byte s, behind is_name_byte s)) Both (split_free is_name_byte s h)

byte_free : (byte : ℕ) (s : List ℕ) → NoFeed s → IfSome (byte_at byte s) NoFeed
byte_free byte [] h = tt
byte_free byte (b ∷ s) h = some_if (b == byte) (Some s) NoFeed h.1

closed_free : (text rest : List ℕ) → NoFeed text → NoFeed rest → IfSome (closed_by text rest) Both
closed_free text [] h k = tt
closed_free text (quote ∷ rest) h k = (h, k.1)

quoted_free : (s : List ℕ) → NoFeed s → IfSome (quoted_at s) Both
unfolding quoted_at
quoted_free [] h = tt
quoted_free (b ∷ s) h = some_if (b == 34) (closed_by (run is_inside s) (behind is_inside s)) Both (closed_free (run is_inside s) (behind is_inside s) (split_free is_inside s h.1).0 (split_free is_inside s h.1).1)

-- ---- references

reference_free : (s : List ℕ) → NoFeed s → IfSome (reference_at s) Both
unfolding reference_at
reference_free s h =
    some_bind (byte_at 36 s) _ NoFeed Both (byte_free 36 s h) (λ a ha.
    some_bind (byte_at 40 a) _ NoFeed Both (byte_free 40 a ha) (λ b hb.
    some_bind (name_at b) _ Both Both (name_free b hb) (λ n hn.
    some_bind (byte_at 41 n.1) _ NoFeed Both (byte_free 41 n.1 hn.1) (λ r hr. (hn.0, hr)))))

abbrev pub IsOnLine : Piece → Type 0
IsOnLine (Byte b) = (b == 10) ≡ false
IsOnLine (Name name) = NoFeed name

piece_free : (b : ℕ) (s : List ℕ) (o : Option (List ℕ × List ℕ)) → NoFeed (b ∷ s) → IfSome o Both → IsOnLine (name_or_byte b s o).0 × NoFeed (name_or_byte b s o).1
piece_free b s (Some r) h k = k
piece_free b s None h k = h

pub pieces_free : (most : ℕ) (s : List ℕ) → NoFeed s → AllByRecursion IsOnLine (pieces most s)
unfolding pieces
pieces_free zero s h = tt
pieces_free (suc most) [] h = tt
pieces_free (suc most) (b ∷ s) h =
    let first = piece_free b s (reference_at (b ∷ s)) h (reference_free (b ∷ s) h) in
    (first.0, pieces_free most (name_or_byte b s (reference_at (b ∷ s))).1 first.1)

-- ---- directives

bare_free : (s : List ℕ) (o : Option (List ℕ × List ℕ)) → NoFeed s → IfSome o Both → Both (quoted_or_bare s o)
bare_free s (Some quoted) h k = k
bare_free s None h k = split_free is_value_byte s h

define_free : (s : List ℕ) → NoFeed s → IfSome (define_at s) (λ d. NoFeed d.1)
unfolding define_at value_part
define_free s h =
    some_bind (name_at (skip_blanks s)) _ Both (λ d. NoFeed d.1) (name_free (skip_blanks s) (skip_free s h)) (λ n hn.
    some_if (is_ended (value_part n.1).1) (Some (n.0, (value_part n.1).0)) (λ d. NoFeed d.1)
    (bare_free (skip_blanks n.1) (quoted_at (skip_blanks n.1)) (skip_free n.1 hn.1) (quoted_free (skip_blanks n.1) (skip_free n.1 hn.1))).0)

abbrev pub DefinesOnLine : Directive → Type 0
DefinesOnLine (Includes name) = Unit {0}
DefinesOnLine (Defines name value) = NoFeed value
DefinesOnLine (Undefines name) = Unit {0}

pub directive_free : (word : Keyword) (s : List ℕ) → NoFeed s → IfSome (directive_at word s) DefinesOnLine
unfolding directive_at
directive_free Include s h = some_map (include_at s) Includes DefinesOnLine (some_any (include_at s))
directive_free Define s h = some_map (define_at s) (λ d. Defines d.0 d.1) DefinesOnLine (define_free s h)
directive_free Undef s h = some_map (lone_name_at s) Undefines DefinesOnLine (some_any (lone_name_at s))
directive_free If s h = tt
directive_free Ifdef s h = tt
directive_free Ifndef s h = tt
directive_free Elif s h = tt
directive_free Else s h = tt
directive_free Endif s h = tt
directive_free Unknown s h = tt

word_free : (s : List ℕ) (o : Option (List ℕ × List ℕ)) → NoFeed s → IfSome o Both → NoFeed (keyword_or_none s o).1
word_free s (Some word) h k = k.1
word_free s None h k = h

pub keyword_free : (s : List ℕ) → NoFeed s → NoFeed (keyword_at s).1
unfolding keyword_at
keyword_free s h = word_free (skip_blanks s) (name_at (skip_blanks s)) (skip_free s h) (name_free (skip_blanks s) (skip_free s h))

pub behind_free : (s rest : List ℕ) → byte_at 64 s ≡ Some rest → NoFeed s → NoFeed rest
behind_free s rest e h = subst (λ (o : Option (List ℕ)). IfSome o NoFeed) e (byte_free 64 s h)

-- ---- definitions

value_by : (value : List ℕ) (old : Option (List ℕ)) (same : Bool) (v : List ℕ) → NoFeed value → ((w : List ℕ) → old ≡ Some w → NoFeed w) → (let o : Option (List ℕ) = if same then Some value else old in o) ≡ Some v → NoFeed v
value_by value old true v h k e = let same : value ≡ v = cc in subst NoFeed same h
value_by value old false v h k e = k v e

pub defined_free : (name value : List ℕ) (defs : Values) → NoFeed value → AreOnLines defs → AreOnLines (with_value name value defs)
defined_free name value defs h k = λ other v e. value_by value (defs other) (bytes_eq name other) v h (λ w. k other w) e

gone_by : (old : Option (List ℕ)) (same : Bool) (v : List ℕ) → ((w : List ℕ) → old ≡ Some w → NoFeed w) → (let o : Option (List ℕ) = if same then None else old in o) ≡ Some v → NoFeed v
gone_by old true v k e = absurd (cc)
gone_by old false v k e = k v e

pub undefined_free : (name : List ℕ) (defs : Values) → AreOnLines defs → AreOnLines (without name defs)
undefined_free name defs k = λ other v e. gone_by (defs other) (bytes_eq name other) v (λ w. k other w) e
