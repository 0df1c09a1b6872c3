-- The least number of blocks, by halves.
use Rattle.std.proofs.Common.{◌≡◌, ℕ, ◌+◌, ◌-◌, ◌*◌, ◌/◌, ◌%◌, ◌<◌, ◌≤◌, ◌^◌, ◌⊎◌, suc, zero, nat_eq, eq-eqb, List, [], ◌∷◌, ◌++◌, length, Bool, true, false, arith, sym, ◌∙◌, ap, refl, inl, inr, subst, length-append, append_assoc, IsTrue, ◌↔◌}
use mathlib.Core.Bool.{not}
use Rattle.std.proofs.lemmas.List.{append-nil}
use borrow.Author.Tests.{eqb-true}
use Rattle.std.proofs.lemmas.Nat.{shr-shr, shr_split, pow_pos, div-mul-add}
use Rattle.std.proofs.lemmas.Bool.{cases_lt, cases_eq, false≢true}
use Rattle.sl_shape_blocks.specs.declared.Block.{Block}
use Rattle.sl_shape_blocks.specs.declared.Codes.{Codes}
use Rattle.sl_shape_blocks.specs.Blocks.{InBlock, Among, Apart, IsCover, IsCut, IsShortest, AddsShortest, AllSatisfy, NoneSatisfy, IsBetween, IsFull, IsEmpty, block, between_or_not, Satisfies}

-- ---- codes and halves

half_cases : (m q : ℕ) → m / 2 ≡ q → (m ≡ 2 * q) ⊎ (m ≡ 2 * q + 1)
half_cases m q e = elim (cases_eq (m % 2) 0) [ inl even ↦ inl (omega arith) | inr odd ↦ inr (omega arith) ]

up_one : (n j : ℕ) → n / 2 ^ j / 2 ≡ n / 2 ^ suc j
up_one n j =
    let e : j + 1 ≡ suc j = omega arith in
    shr-shr n j 1 ∙ ap (λ (k : ℕ). n / 2 ^ k) e

pub in_halves : (q j n : ℕ) → InBlock (block q (suc j)) n → InBlock (block (2 * q) j) n ⊎ InBlock (block (2 * q + 1) j) n
in_halves q j n h = half_cases (n / 2 ^ j) q (up_one n j ∙ h)

double_half : (m q : ℕ) → m ≡ 2 * q → m / 2 ≡ q
double_half m q e = omega arith

double_half_one : (m q : ℕ) → m ≡ 2 * q + 1 → m / 2 ≡ q
double_half_one m q e = omega arith

pub from_low : (q j n : ℕ) → InBlock (block (2 * q) j) n → InBlock (block q (suc j)) n
from_low q j n h = sym (up_one n j) ∙ double_half (n / 2 ^ j) q h

pub from_high : (q j n : ℕ) → InBlock (block (2 * q + 1) j) n → InBlock (block q (suc j)) n
from_high q j n h = sym (up_one n j) ∙ double_half_one (n / 2 ^ j) q h

not_both : (m q : ℕ) → m ≡ 2 * q → m ≡ 2 * q + 1 → ⊥
not_both m q e f = omega arith

-- a greater block tells of its codes what a smaller one does
coarser : (n m a b : ℕ) → a ≤ b → n / 2 ^ a ≡ m / 2 ^ a → n / 2 ^ b ≡ m / 2 ^ b
coarser n m a b le e =
    let sum : a + (b - a) ≡ b = omega arith in
    ap (λ (k : ℕ). n / 2 ^ k) (sym sum) ∙ sym (shr-shr n a (b - a)) ∙ ap (λ (x : ℕ). x / 2 ^ (b - a)) e ∙ shr-shr m a (b - a) ∙ ap (λ (k : ℕ). m / 2 ^ k) sum

abbrev first_of : Block → ℕ
first_of b = b.index * 2 ^ b.size

first_in : (b : Block) → InBlock b (first_of b)
first_in b =
    let e : b.index * 2 ^ b.size ≡ b.index * 2 ^ b.size + 0 = omega arith in
    ap (λ (x : ℕ). x / 2 ^ b.size) e ∙ div-mul-add b.index (2 ^ b.size) 0 (pow_pos b.size)

-- ---- lists of blocks

among_append : (b : Block) (xs ys : List Block) → Among b (xs ++ ys) → Among b xs ⊎ Among b ys
among_append b [] ys h = inr h
among_append b (x ∷ xs) ys (inl e) = inl (inl e)
among_append b (x ∷ xs) ys (inr h) = elim (among_append b xs ys h) [ inl l ↦ inl (inr l) | inr r ↦ inr r ]

among_left : (b : Block) (xs ys : List Block) → Among b xs → Among b (xs ++ ys)
among_left b [] ys h = absurd h
among_left b (x ∷ xs) ys (inl e) = inl e
among_left b (x ∷ xs) ys (inr h) = inr (among_left b xs ys h)

among_right : (b : Block) (xs ys : List Block) → Among b ys → Among b (xs ++ ys)
among_right b [] ys h = h
among_right b (x ∷ xs) ys h = inr (among_right b xs ys h)

apart_append : (xs ys : List Block) → Apart xs → Apart ys → ((b c : Block) (n : ℕ) → Among b xs → Among c ys → InBlock b n → InBlock c n → ⊥) → Apart (xs ++ ys)
apart_append [] ys f g h = g
apart_append (x ∷ xs) ys f g h = (
  λ c n there in_x in_c. elim (among_append c xs ys there) [ inl l ↦ f.0 c n l in_x in_c | inr r ↦ h x c n (inl refl) r in_x in_c ],
  apart_append xs ys f.1 g (λ b c n l r in_b in_c. h b c n (inr l) r in_b in_c),
)

abbrev keep_if : Bool → Block → List Block → List Block
keep_if true b rest = b ∷ rest
keep_if false b rest = rest

abbrev keep : (Block → Bool) → List Block → List Block
keep p [] = []
keep p (b ∷ bs) = keep_if (p b) b (keep p bs)

among_if : (t : Bool) (b c : Block) (rest : List Block) → Among c (keep_if t b rest) → ((c ≡ b) × (t ≡ true)) ⊎ Among c rest
among_if true b c rest (inl e) = inl (e, refl)
among_if true b c rest (inr h) = inr h
among_if false b c rest h = inr h

among_kept : (p : Block → Bool) (bs : List Block) (c : Block) → Among c (keep p bs) → Among c bs × (p c ≡ true)
among_kept p [] c h = absurd h
among_kept p (b ∷ bs) c h = elim (among_if (p b) b c (keep p bs) h) [
  | inl here ↦ (inl here.0, ap p here.0 ∙ here.1)
  | inr rest ↦ let found = among_kept p bs c rest in (inr found.0, found.1)
]

here_if : (t : Bool) (b : Block) (rest : List Block) → t ≡ true → Among b (keep_if t b rest)
here_if true b rest e = inl refl
here_if false b rest e = absurd (false≢true e)

more_if : (t : Bool) (b c : Block) (rest : List Block) → Among c rest → Among c (keep_if t b rest)
more_if true b c rest h = inr h
more_if false b c rest h = h

kept_among : (p : Block → Bool) (bs : List Block) (c : Block) → Among c bs → p c ≡ true → Among c (keep p bs)
kept_among p [] c h e = absurd h
kept_among p (b ∷ bs) c (inl same) e = subst (λ (x : Block). Among x (keep_if (p b) b (keep p bs))) (sym same) (here_if (p b) b (keep p bs) (ap p (sym same) ∙ e))
kept_among p (b ∷ bs) c (inr h) e = more_if (p b) b c (keep p bs) (kept_among p bs c h e)

apart_if : (t : Bool) (b : Block) (rest : List Block) → ((c : Block) (n : ℕ) → Among c rest → InBlock b n → InBlock c n → ⊥) → Apart rest → Apart (keep_if t b rest)
apart_if true b rest f g = (f, g)
apart_if false b rest f g = g

apart_kept : (p : Block → Bool) (bs : List Block) → Apart bs → Apart (keep p bs)
apart_kept p [] f = tt
apart_kept p (b ∷ bs) f = apart_if (p b) b (keep p bs) (λ c n there in_b in_c. f.0 c n (among_kept p bs c there).0 in_b in_c) (apart_kept p bs f.1)

both_if : (t : Bool) (b : Block) (xs ys : List Block) → length (keep_if t b xs) + length (keep_if (not t) b ys) ≡ suc (length xs + length ys)
both_if true b xs ys = omega arith
both_if false b xs ys = omega arith

both_kept : (p : Block → Bool) (bs : List Block) → length (keep p bs) + length (keep (λ b. not (p b)) bs) ≡ length bs
both_kept p [] = refl
both_kept p (b ∷ bs) = both_if (p b) b (keep p bs) (keep (λ x. not (p x)) bs) ∙ ap suc (both_kept p bs)

-- ---- the least number

one_at_least : (b : Block) (bs : List Block) → Among b bs → 1 ≤ length bs
one_at_least b [] h = absurd h
one_at_least b (c ∷ cs) h = omega arith

pub least_full : (P : ℕ → Type 0) (w : Block) → AllSatisfy P w → IsShortest P w (w ∷ [])
least_full P w full = record {
  is_cut = record {
    cover = record {
      only = λ b n there inside. elim there [
        | inl e ↦
            let moved = subst (λ (x : Block). InBlock x n) e inside in
            (moved, full n moved)
        | inr none ↦ absurd none
      ];
      all = λ n inside holds. (w, inl refl, inside);
    };
    apart = (λ c n there. absurd there, tt);
  };
  least = λ bs cut. let found = cut.cover.all (first_of w) (first_in w) (full (first_of w) (first_in w)) in one_at_least found.0 bs found.1;
}

pub least_none : (P : ℕ → Type 0) (w : Block) → NoneSatisfy P w → IsShortest P w []
least_none P w none = record {
  is_cut = record { cover = record { only = λ b n there. absurd there; all = λ n inside holds. absurd (none n inside holds) }; apart = tt };
  least = λ bs cut. omega arith;
}

module _ (P : ℕ → Type 0) (q j : ℕ) (some_out : ((n : ℕ) → InBlock (block q (suc j)) n → P n) → ⊥) (bs : List Block) (cut : IsCut P (block q (suc j)) bs) where
  -- a block of the cut lies in one half, since not all codes of the whole are in the cut
  same_half : (b : Block) (n m : ℕ) → Among b bs → InBlock b n → InBlock b m → n / 2 ^ j ≡ m / 2 ^ j
  same_half b n m there in_n in_m = elim (cases_lt j b.size) [
    | inr small ↦ coarser n m b.size j small (in_n ∙ sym in_m)
    | inl great ↦
        let inside = (cut.cover.only b n there in_n).0 in
        absurd (some_out (λ k whole. (cut.cover.only b k there (coarser k n (suc j) b.size (omega (arith, great)) (whole ∙ sym inside) ∙ in_n)).1))
  ]

  cut_side : (r : ℕ) (p : Block → Bool) → ((n : ℕ) → InBlock (block r j) n → InBlock (block q (suc j)) n)
      → ((b : Block) → Among b bs → p b ≡ true → first_of b / 2 ^ j ≡ r) → ((b : Block) → Among b bs → first_of b / 2 ^ j ≡ r → p b ≡ true)
      → IsCut P (block r j) (keep p bs)
  cut_side r p out to from = record {
    cover = record {
      only = λ b n there inside.
          let kept = among_kept p bs b there in
          (same_half b n (first_of b) kept.0 inside (first_in b) ∙ to b kept.0 kept.1, (cut.cover.only b n kept.0 inside).1);
      all = λ n inside holds.
          let found = cut.cover.all n (out n inside) holds in
          (found.0, kept_among p bs found.0 found.1 (from found.0 found.1 (same_half found.0 (first_of found.0) n found.1 (first_in found.0) found.2 ∙ inside)), found.2);
    };
    apart = apart_kept p bs cut.apart;
  }

  abbrev is_low : Block → Bool
  is_low b = nat_eq (first_of b / 2 ^ j) (2 * q)

  not_low : (t : Bool) → not t ≡ true → t ≡ true → ⊥
  not_low true e f = false≢true e
  not_low false e f = false≢true f

  low_or_not : (t : Bool) → (t ≡ true → ⊥) → not t ≡ true
  low_or_not true e = absurd (e refl)
  low_or_not false e = refl

  lower_cut : IsCut P (block (2 * q) j) (keep is_low bs)
  lower_cut = cut_side (2 * q) is_low (λ n h. from_low q j n h) (λ b there e. eqb-true _ _ e) (λ b there e. eq-eqb _ _ e)

  upper_cut : IsCut P (block (2 * q + 1) j) (keep (λ b. not (is_low b)) bs)
  upper_cut = cut_side (2 * q + 1) (λ b. not (is_low b)) (λ n h. from_high q j n h)
      (λ b there e. elim (in_halves q j (first_of b) (cut.cover.only b (first_of b) there (first_in b)).0) [
        | inl low ↦ absurd (not_low (is_low b) e (eq-eqb _ _ low))
        | inr high ↦ high
      ])
      (λ b there e. low_or_not (is_low b) (λ f. not_both (first_of b / 2 ^ j) q (eqb-true _ _ f) e))

  pub no_fewer : (a b : ℕ) → ((xs : List Block) → IsCut P (block (2 * q) j) xs → a ≤ length xs) → ((xs : List Block) → IsCut P (block (2 * q + 1) j) xs → b ≤ length xs)
      → a + b ≤ length bs
  no_fewer a b f g =
      let low = f (keep is_low bs) lower_cut in
      let high = g (keep (λ x. not (is_low x)) bs) upper_cut in
      omega (arith, low, high, both_kept is_low bs)

pub least_halves : (P : ℕ → Type 0) (q j : ℕ) (l h : List Block) → (AllSatisfy P (block q (suc j)) → ⊥) → IsShortest P (block (2 * q) j) l → IsShortest P (block (2 * q + 1) j) h
    → IsShortest P (block q (suc j)) (l ++ h)
least_halves P q j l h some_out low high = record {
  is_cut = record {
    cover = record {
      only = λ c n there inside. elim (among_append c l h there) [
        | inl left ↦ let found = low.is_cut.cover.only c n left inside in (from_low q j n found.0, found.1)
        | inr right ↦ let found = high.is_cut.cover.only c n right inside in (from_high q j n found.0, found.1)
      ];
      all = λ n inside holds. elim (in_halves q j n inside) [
        | inl in_low ↦ let found = low.is_cut.cover.all n in_low holds in (found.0, among_left found.0 l h found.1, found.2)
        | inr in_high ↦ let found = high.is_cut.cover.all n in_high holds in (found.0, among_right found.0 l h found.1, found.2)
      ];
    };
    apart = apart_append l h low.is_cut.apart high.is_cut.apart (λ c d n left right in_c in_d.
        not_both (n / 2 ^ j) q (low.is_cut.cover.only c n left in_c).0 (high.is_cut.cover.only d n right in_d).0);
  };
  least = λ bs cut. simp length-append (no_fewer P q j some_out bs cut (length l) (length h) low.least high.least);
}

-- ---- blocks of codes from one number to another

split_sum : (d w r n q : ℕ) → d ≡ q → d * w + r ≡ n → r < w → (q * w ≤ n) × (n < q * w + w)
split_sum d w r n q e sum less =
    let moved : q * w + r ≡ n = subst (λ (x : ℕ). x * w + r ≡ n) e sum in
    (omega arith, omega arith)

pub bounds : (index size n : ℕ) → InBlock (block index size) n → (index * 2 ^ size ≤ n) × (n < index * 2 ^ size + 2 ^ size)
bounds index size n h = split_sum (n / 2 ^ size) (2 ^ size) (n % 2 ^ size) n index h (shr_split n size) (mod_less n (2 ^ size) (pow_pos size))
  where
    mod_less : (n w : ℕ) → 0 < w → n % w < w
    mod_less n w pos = omega arith

pub full_from_ends : (low high index size : ℕ) → low ≤ index * 2 ^ size → index * 2 ^ size + (2 ^ size - 1) ≤ high → IsFull low high index size
full_from_ends low high index size below above = λ n inside.
    let b = bounds index size n inside in
    (omega (arith, b.0), omega (arith, b.1))

last_in : (index size : ℕ) → InBlock (block index size) (index * 2 ^ size + (2 ^ size - 1))
last_in index size =
    let less : 2 ^ size - 1 < 2 ^ size = omega (arith, pow_pos size) in
    div-mul-add index (2 ^ size) (2 ^ size - 1) less

pub ends_from_full : (low high index size : ℕ) → IsFull low high index size → (low ≤ index * 2 ^ size) × (index * 2 ^ size + (2 ^ size - 1) ≤ high)
ends_from_full low high index size full = ((full (index * 2 ^ size) (first_in (block index size))).0, (full (index * 2 ^ size + (2 ^ size - 1)) (last_in index size)).1)

pub empty_below : (low high index size : ℕ) → index * 2 ^ size + (2 ^ size - 1) < low → IsEmpty low high index size
empty_below low high index size below = λ n inside between. let b = bounds index size n inside in omega (arith, b.1, between.0)

pub empty_above : (low high index size : ℕ) → high < index * 2 ^ size → IsEmpty low high index size
empty_above low high index size above = λ n inside between. let b = bounds index size n inside in omega (arith, b.0, between.1)

-- a block without a code from low to high
pub empty_turned : (low high index size : ℕ) → high < low → IsEmpty low high index size
empty_turned low high index size turned = λ n inside between. omega (arith, between)

-- a code that is in the block and not below either first one
pub meets_from : (low high index size : ℕ) → low ≤ high → low ≤ index * 2 ^ size + (2 ^ size - 1) → index * 2 ^ size ≤ high → IsEmpty low high index size → ⊥
meets_from low high index size order reaches begins empty = elim (cases_lt low (index * 2 ^ size)) [
  | inl before ↦ empty (index * 2 ^ size) (first_in (block index size)) (omega (arith, before), begins)
  | inr after ↦ empty low (in_between low index (2 ^ size) (pow_pos size) after reaches) (omega arith, order)
]
  where
    in_between : (n q w : ℕ) → 0 < w → q * w ≤ n → n ≤ q * w + (w - 1) → n / w ≡ q
    in_between n q w pos le most =
        let less : n - q * w < w = omega arith in
        let sum : n ≡ q * w + (n - q * w) = omega arith in
        ap (λ (x : ℕ). x / w) sum ∙ div-mul-add q w (n - q * w) less

-- ---- a block of codes

one_code : (index n m : ℕ) → InBlock (block index 0) n → InBlock (block index 0) m → n ≡ m
one_code index n m a b =
    let c = bounds index 0 n a in
    let d = bounds index 0 m b in
    omega (arith, c, d)

pub none_single : (P : ℕ → Type 0) (index size : ℕ) → size ≡ 0 → (AllSatisfy P (block index size) → ⊥) → NoneSatisfy P (block index size)
none_single P index zero e out = λ n inside holds. out (λ m other. subst P (one_code index n m inside other) holds)
none_single P index (suc j) e out = absurd (omega arith)

pub all_inside : (codes : Codes) (index size : ℕ) (r : Bool) → codes.inside ≡ true → IsTrue r ↔ IsFull codes.low codes.high index size
    → IsTrue r ↔ AllSatisfy (Satisfies codes) (block index size)
all_inside codes index size r e iff = subst (λ (b : Bool). IsTrue r ↔ AllSatisfy (between_or_not b codes.low codes.high) (block index size)) (sym e) iff

pub all_outside : (codes : Codes) (index size : ℕ) (r : Bool) → codes.inside ≡ false → IsTrue r ↔ IsEmpty codes.low codes.high index size
    → IsTrue r ↔ AllSatisfy (Satisfies codes) (block index size)
all_outside codes index size r e iff = subst (λ (b : Bool). IsTrue r ↔ AllSatisfy (between_or_not b codes.low codes.high) (block index size)) (sym e) iff

pub none_inside : (codes : Codes) (index size : ℕ) → codes.inside ≡ true → IsEmpty codes.low codes.high index size → NoneSatisfy (Satisfies codes) (block index size)
none_inside codes index size e empty = subst (λ (b : Bool). NoneSatisfy (between_or_not b codes.low codes.high) (block index size)) (sym e) empty

pub none_outside : (codes : Codes) (index size : ℕ) → codes.inside ≡ false → IsFull codes.low codes.high index size → NoneSatisfy (Satisfies codes) (block index size)
none_outside codes index size e full = subst (λ (b : Bool). NoneSatisfy (between_or_not b codes.low codes.high) (block index size)) (sym e)
    (λ n inside out. out (full n inside))

pub adds_halves : (P : ℕ → Type 0) (index size : ℕ) (old mid new : List Block) → 0 < size → (AllSatisfy P (block index size) → ⊥)
    → AddsShortest P (block (index * 2) (size - 1)) old mid → AddsShortest P (block (index * 2 + 1) (size - 1)) mid new → AddsShortest P (block index size) old new
adds_halves P index zero old mid new pos out l h = absurd (omega arith)
adds_halves P index (suc j) old mid new pos out l h =
    let twice : index * 2 ≡ 2 * index = omega arith in
    let same : suc j - 1 ≡ j = omega arith in
    let low_half = subst (λ (x : ℕ). IsShortest P (block x j) l.0) twice (subst (λ (x : ℕ). IsShortest P (block (index * 2) x) l.0) same l.2) in
    let high_half = subst (λ (x : ℕ). IsShortest P (block (x + 1) j) h.0) twice (subst (λ (x : ℕ). IsShortest P (block (index * 2 + 1) x) h.0) same h.2) in
    (l.0 ++ h.0, h.1 ∙ ap (λ (xs : List Block). xs ++ h.0) l.1 ∙ append_assoc old l.0 h.0, least_halves P index j l.0 h.0 out low_half high_half)

pub adds_none : (P : ℕ → Type 0) (whole : Block) (old : List Block) → NoneSatisfy P whole → AddsShortest P whole old old
adds_none P whole old none = ([], sym (append-nil old), least_none P whole none)

pub adds_one : (P : ℕ → Type 0) (whole : Block) (old new : List Block) → new ≡ old ++ whole ∷ [] → AllSatisfy P whole → AddsShortest P whole old new
adds_one P whole old new pushed full = (whole ∷ [], pushed, least_full P whole full)

-- an index of a block that fits is less than the limit
pub index_fits : (index size limit : ℕ) → index * 2 ^ size + 2 ^ size ≤ limit → index < limit
index_fits index size limit fits = below_product index (2 ^ size) limit (pow_pos size) fits
  where
    below_product : (i w limit : ℕ) → 0 < w → i * w + w ≤ limit → i < limit
    below_product i w limit pos fits = grind arith

-- halves of a block that fits fit, and their widths make up its own
pub half_width : (size : ℕ) → 0 < size → 2 ^ size ≡ 2 * 2 ^ (size - 1)
half_width zero pos = absurd (omega arith)
half_width (suc j) pos =
    let same : suc j - 1 ≡ j = omega arith in
    pow-suc_of j ∙ ap (λ (x : ℕ). 2 * 2 ^ x) (sym same)
  where
    pow-suc_of : (j : ℕ) → 2 ^ suc j ≡ 2 * 2 ^ j
    pow-suc_of j = omega arith

product : (i w v : ℕ) → w ≡ 2 * v → (i * 2 * v ≡ i * w) × ((i * 2 + 1) * v ≡ i * w + v)
product i w v e = (grind arith, grind arith)

pub half_fits : (index size limit : ℕ) → 0 < size → index * 2 ^ size + 2 ^ size ≤ limit
    → (index * 2 * 2 ^ (size - 1) + 2 ^ (size - 1) ≤ limit) × ((index * 2 + 1) * 2 ^ (size - 1) + 2 ^ (size - 1) ≤ limit)
half_fits index size limit pos fits =
    let e = half_width size pos in
    let p = product index (2 ^ size) (2 ^ (size - 1)) e in
    (omega (arith, e, p.0), omega (arith, e, p.1))

pub from_nothing : (P : ℕ → Type 0) (whole : Block) (old new : List Block) → old ≡ [] → AddsShortest P whole old new → IsShortest P whole new
from_nothing P whole old new none a = subst (λ (xs : List Block). IsShortest P whole xs) (sym (a.1 ∙ ap (λ (xs : List Block). xs ++ a.0) none)) a.2
