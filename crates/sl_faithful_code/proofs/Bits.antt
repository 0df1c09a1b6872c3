-- Bits of a value are taken, and put into another.
use Rattle.std.proofs.Common.{◌≡◌, ℕ, ◌+◌, ◌-◌, ◌*◌, ◌/◌, ◌%◌, ◌^◌, ◌<◌, ◌≤◌, Bool, true, false, List, [], ◌∷◌, ◌++◌, length, Some, None, Ok, refl, sym, ap, ◌∙◌, subst, arith, pos, length-append, bit_or, ◌⊎◌, inl, inr}
use Rattle.std.specs.Prelude.{◌-ℤ◌, ◌==◌, ◌&&◌, if◌then◌else◌, is_none, nat_le, nat_lt, not}
use Rattle.std.specs.List.{All}
use Rattle.std.proofs.lemmas.Bool.Decides.{nat_tests}
use Rattle.std.proofs.lemmas.Nat.{mod_below, pow_pos}
use Rattle.std.proofs.Math.IntN.{+ℤ-neg_ℤ_cancel}
use Rattle.std.proofs.Math.Nat.{div-le_self, div-one, mod-eq_of_lt, pow-le-pow_right}
use Rattle.sl_faithful_code.specs.Bits.{bits_by_mask, bits_by_shifts, bits_into, bits_put, clear, clear_above, cleared, has_mask, has_more, join, lower, lowered, mask, moved, number_at, number_put, ones, others, put_by_mask, put_by_shifts, raise, raise_and_join, raised, shorten, shortened, taken, value_put, widen, widened}
use Rattle.sl_faithful_code.specs.Operations.{Operation, amount, at_temp, binary, constant, temporary, unary}
use Rattle.sl_faithful_code.specs.Runs.{Final}
use Rattle.sl_faithful_code.proofs.Base.{HasAt, from}
use Rattle.sl_faithful_code.proofs.Bytes.{Same, read_at, read_same, same_below, same_refl, same_trans}
use Rattle.sl_faithful_code.proofs.Lands.{Lands, lands_at, placed}
use Rattle.sl_faithful_code.proofs.Masks.{all_set, cut_lowest, joined, lowest, none_set, others_are, raised_cut, raised_few, raised_top, top_field}
use Rattle.sl_faithful_code.proofs.Numbers.{bits_below, bits_placed, bits_read, four, placed_below, with_bits_below}
use Rattle.sl_faithful_code.proofs.Operators.{Has, binary_goes, binary_temp, piece_goes, right_true, same_number, unary_temp}
use Rattle.sl_meaning_sections.specs.References.{Setting}
use Rattle.sl_meaning_sections.specs.Values.{bits_of, with_bits}
use Rattle.sl_pcode.specs.Machine.{Temporaries, value_at, value_of}
use Rattle.sl_pcode.specs.WellFormed.{IsWellFormedOp}
use Rattle.sl_pcode.specs.declared.operation.Op.{Op}
use Rattle.sl_pcode.specs.declared.varnode.Place2.{Place2}
use Rattle.sl_pcode.specs.declared.varnode.Place2.TheVariants.{Const, Unique, In}
use Rattle.sl_pcode.specs.declared.varnode.Varnode.{Varnode}
use Rattle.sl_word.specs.Memories.{Memory}
use Rattle.sl_word.specs.Numbers.{residue}
use Rattle.sl_word.specs.declared.operation.Op1.TheVariants.{IntZext}
use Rattle.sl_word.specs.declared.operation.Op2.TheVariants.{IntAdd, IntAnd, IntLeft, IntOr, IntRight, IntSub, Subpiece}
use Rattle.sl_word.specs.declared.word.Size.{Size}
use Rattle.sl_word.proofs.Powers.{bytes-bits, bytes_mono, bytes_pos}

minus : (a b : ℕ) → b ≤ a → pos a -ℤ pos b ≡ pos (a - b)
minus a b le =
    let e : a ≡ a - b + b = omega arith in
    ap (λ x. pos x -ℤ pos b) e ∙ +ℤ-neg_ℤ_cancel (pos (a - b)) (pos b)

-- a difference that isn't below 0
residue_minus : (n a b : ℕ) → b ≤ a → a < 256 ^ n → residue n (pos a -ℤ pos b) ≡ a - b
residue_minus n a b le lt = ap (residue n) (minus a b le) ∙ mod-eq_of_lt (omega arith)

amount_low : (v : ℕ) → v ≤ 128 → v < 256 ^ (amount v).size.bytes
amount_low v le = subst (λ k. v < 256 ^ k) (sym four) (omega arith)

pub ones_low : (n count : ℕ) → count ≤ 8 * n → ones count < 256 ^ n
ones_low n count le =
    let more : 2 ^ count ≤ 2 ^ (8 * n) = pow-le-pow_right (omega arith) le in
    let some = pow_pos count in
    omega (arith, bytes-bits n)

-- where a value is after an operation that may be left out
pub moved_size : (b : Bool) (new at : Varnode) (n : ℕ) → new.size.bytes ≡ n → (b ≡ false → at.size.bytes ≡ n) → (moved b new at).size.bytes ≡ n
moved_size true new at n e e' = e
moved_size false new at n e e' = e' refl

-- the bits that are above a field are cut with the rest, or there are none
uncut : (w n v low count : ℕ) → low + count ≤ 8 * w → count ≤ 8 * n → v < 256 ^ w → (low + count ≡ 8 * w) ⊎ (count ≡ 8 * n) → (v / 2 ^ low) % 256 ^ n ≡ bits_of low count v
uncut w n v low count fits few lt (inl top) =
    let small : v / 2 ^ low < 2 ^ count = top_field w v low count top lt in
    let more : 2 ^ count ≤ 2 ^ (8 * n) = pow-le-pow_right (omega arith) few in
    mod-eq_of_lt (omega (arith, bytes-bits n)) ∙ sym (mod-eq_of_lt small)
uncut w n v low count fits few lt (inr whole) = ap (λ m. (v / 2 ^ low) % m) (bytes-bits n ∙ ap (λ k. 2 ^ k) (sym whole))

-- what is put: of a value that is said to have no other bits, as it is
pub put_value : Bool → (n low count y x : ℕ) → ℕ
put_value true n low count y x = bit_or (y - bits_of low count y * 2 ^ low) ((x * 2 ^ low) % 256 ^ n)
put_value false n low count y x = with_bits low count y x

pub plain_value : (n low count y x : ℕ) → put_value false n low count y x ≡ with_bits low count y x
unfolding put_value
plain_value n low count y x = refl

pub put_value_is : (b : Bool) (n low count y x : ℕ) → low + count ≤ 8 * n → y < 256 ^ n → (b ≡ true → x < 2 ^ count) → put_value b n low count y x ≡ with_bits low count y x
unfolding put_value
put_value_is false n low count y x fits hy few = refl
put_value_is true n low count y x fits hy few = ap (bit_or (y - bits_of low count y * 2 ^ low)) (raised_few n x low count fits (few refl)) ∙ joined n y x low count fits hy

-- the value is put as it is
abbrev pub is_loose : Bool → Size → Varnode → (low count : ℕ) → Bool
is_loose below n v low count = below && (has_mask n low count && is_none (number_at v.place v.offset))

no_mask : (b c d : Bool) → c ≡ false → (b && (c && d)) ≡ false
no_mask true c d e = ap (λ i. i && d) e
no_mask false c d e = refl

no_value : (b c d : Bool) → d ≡ false → (b && (c && d)) ≡ false
no_value true true d e = e
no_value true false d e = refl
no_value false c d e = refl

all_value : (b c d : Bool) → c ≡ true → d ≡ true → (b && (c && d)) ≡ b
all_value true c d e e' = ap (λ i. i && d) e ∙ e'
all_value false c d e e' = refl

number_value : (g : Setting) (m : Memory) (u : Temporaries) (place : Place2) (offset count k : ℕ) → number_at place offset ≡ Some k → value_at g.endian g.sizes place offset count m u ≡ k
number_value g m u Const offset count k e = cc
number_value g m u Unique offset count k e = absurd (let no : ⊥ = cc in no)
number_value g m u (In space) offset count k e = absurd (let no : ⊥ = cc in no)

-- how a value comes to its place: cut where it may have more bits, and moved
more_value : (below : Bool) (n s low count x y : ℕ) → low + count ≤ 8 * n → x < 256 ^ s → y < 256 ^ n → (c d : Bool) → nat_lt count (8 * s) ≡ c → nat_lt (low + count) (8 * n) ≡ d
    → bit_or (y - bits_of low count y * 2 ^ low) (((if not below && (c && d) then x % 2 ^ count else x) * 2 ^ low) % 256 ^ n) ≡ put_value below n low count y x
unfolding put_value
more_value true n s low count x y fits hx hy c d few top = refl
more_value false n s low count x y fits hx hy true true few top =
    ap (bit_or (y - bits_of low count y * 2 ^ low)) (raised_cut n x low count fits) ∙ joined n y x low count fits hy
more_value false n s low count x y fits hx hy true false few top =
    let at_top : low + count ≡ 8 * n = grind (arith, nat_tests) in
    ap (bit_or (y - bits_of low count y * 2 ^ low)) (raised_top n x low count at_top) ∙ joined n y x low count fits hy
more_value false n s low count x y fits hx hy false d few top =
    let within : 8 * s ≤ count = grind (arith, nat_tests) in
    let more : 2 ^ (8 * s) ≤ 2 ^ count = pow-le-pow_right (omega arith) within in
    let small : x < 2 ^ count = omega (arith, bytes-bits s) in
    ap (bit_or (y - bits_of low count y * 2 ^ low)) (raised_few n x low count fits small) ∙ joined n y x low count fits hy

module _ (g : Setting) (code : List Op) (well : All (IsWellFormedOp g.sizes) code) (top : ℕ) where
  -- a value is read, as long as what lies below stays
  abbrev pub Reads : (t : ℕ) → Varnode → Memory → Temporaries → (w : ℕ) → Type 0
  Reads t a m u w = (u' : Temporaries) → Same t u u' → value_of g.endian g.sizes a m u' ≡ w

  reads_later : (t t' : ℕ) (a : Varnode) (m : Memory) (u u' : Temporaries) (w : ℕ) → t ≤ t' → Same t u u' → Reads t a m u w → Reads t' a m u' w
  reads_later t t' a m u u' w le same reads u'' same' = reads u'' (same_trans t t' u u' u'' le same same')

  -- where the list of operations stands, and a value lands behind it, so ends the run
  abbrev Does : (p left t : ℕ) → Varnode → Memory → Temporaries → Temporaries → (ℕ → Final) → (w : ℕ) → List Operation → Type 0
  Does p left t out m u u' go w ops = HasAt g code p ops → Lands g code left (p + length ops) t out m u go → from g code left p m u' ≡ go w

  -- an operation that is taken where it is wanted
  taken_run : (b : Bool) (o : Operation) (t : ℕ) (n : Size) (at : Varnode) (rest : List Operation) (w : Bool → ℕ) (p left : ℕ) (m : Memory) (u : Temporaries) (end : Final)
      → (b ≡ true → Has g code well p o → ((u' : Temporaries) → Same t u u' → read_at g.endian u' t n.bytes ≡ w true → from g code left (p + 1) m u' ≡ end) → from g code left p m u ≡ end)
      → (b ≡ false → Reads (t + 16) at m u (w false)) → HasAt g code p (taken b o ++ rest)
      → ((q : ℕ) (u' : Temporaries) → q ≡ p + length (taken b o) → Same t u u' → Reads (t + 16) (moved b (temporary t n) at) m u' (w b) → HasAt g code q rest → from g code left q m u' ≡ end)
      → from g code left p m u ≡ end
  taken_run true o t n at rest w p left m u end puts reads has next =
      puts refl has.0 (λ u' same is. next (p + 1) u' (omega arith) same
      (λ u'' same'. read_same g.endian (t + 16) t n.bytes u' u'' (omega (arith, n.at_most_16)) same' ∙ is) has.1)
  taken_run false o t n at rest w p left m u end puts reads has next =
      next p u (omega arith) (same_refl t u) (reads refl) has

  -- ---- bits that are taken

  lowered_size : (b : Bool) (t : ℕ) (from : Varnode) → (moved b (temporary t from.size) from).size ≡ from.size
  lowered_size true t from = refl
  lowered_size false t from = refl

  module _ (a : Varnode) (low count t : ℕ) (place : Place2) (offset : ℕ) (n : Size) (p left : ℕ) (m : Memory) (u u' : Temporaries) (go : ℕ → Final) (v : ℕ)
      (fits : low + count ≤ 8 * a.size.bytes) (few : count ≤ 8 * n.bytes) (lt : v < 256 ^ a.size.bytes) (reads : Reads (top + t * 16 + 16) a m u' v) (same : Same (top + t * 16) u u') where
    abbrev T : ℕ
    T = top + t * 16

    abbrev out : Varnode
    out = placed place offset n

    abbrev Comes : List Operation → Type 0
    Comes ops = Does p left T out m u u' go (bits_of low count v) ops

    low_small : low ≤ 128
    low_small = omega (arith, a.size.at_most_16)

    first_low : v / 2 ^ low < 256 ^ a.size.bytes
    first_low = let d = div-le_self v (2 ^ low) in omega arith

    -- moved down, where that is wanted
    lower_run : (rest : List Operation) → HasAt g code p (lower top t a low ++ rest)
        → ((q : ℕ) (u1 : Temporaries) → q ≡ p + length (lower top t a low) → Same T u' u1 → Reads (T + 16) (lowered top t a low) m u1 (v / 2 ^ low) → HasAt g code q rest → from g code left q m u1 ≡ go (bits_of low count v))
        → from g code left p m u' ≡ go (bits_of low count v)
    lower_run rest has next =
        taken_run (nat_lt 0 low) (binary IntRight (at_temp top t a.size) a (amount low)) T a.size a rest (λ b. v / 2 ^ low) p left m u' (go (bits_of low count v))
        (λ yes there follows. binary_temp g code well IntRight T a.size a (amount low) v low (v / 2 ^ low) p left m u' (go (bits_of low count v)) (reads u' (same_refl (T + 16) u')) refl lt (amount_low low low_small) refl first_low there follows)
        (λ no u'' same'. let none : low ≡ 0 = grind (arith, nat_tests) in reads u'' same' ∙ sym (div-one v) ∙ ap (λ k. v / 2 ^ k) (sym none)) has next

    by_cut : (c : Bool) → nat_lt n.bytes a.size.bytes ≡ c → n.bytes ≤ a.size.bytes → (low + count ≡ 8 * a.size.bytes) ⊎ (count ≡ 8 * n.bytes)
        → Comes (if c then lower top t a low ++ binary Subpiece out (lowered top t a low) (amount 0) ∷ [] else binary IntRight out a (amount low) ∷ [])
    by_cut true e narrower above has lands =
        let len : p + length (lower top t a low ++ binary Subpiece out (lowered top t a low) (amount 0) ∷ []) ≡ p + length (lower top t a low) + 1 = omega (arith, length-append (lower top t a low) (binary Subpiece out (lowered top t a low) (amount 0) ∷ [])) in
        lower_run (binary Subpiece out (lowered top t a low) (amount 0) ∷ []) has
        (λ q u1 here same1 reads1 there.
        piece_goes g code well out (lowered top t a low) (v / 2 ^ low) 0 q left m u1 go (reads1 u1 (same_refl (T + 16) u1))
        (subst (λ (k : Size). v / 2 ^ low < 256 ^ k.bytes) (sym (lowered_size (nat_lt 0 low) T a)) first_low) there.0
        (λ w small. lands_at g code left _ (q + 1) T out m u go (len ∙ ap (λ k. k + 1) (sym here)) lands w u1 (same_trans T T u u' u1 (omega arith) same same1) small)
        ∙ ap (λ x. go (x % 256 ^ n.bytes)) (div-one (v / 2 ^ low)) ∙ ap go (uncut a.size.bytes n.bytes v low count fits few lt above))
    by_cut false e narrower above has lands =
        let wide : a.size.bytes ≡ n.bytes = grind (arith, nat_tests) in
        let whole : v / 2 ^ low < 256 ^ n.bytes = subst (λ k. v / 2 ^ low < 256 ^ k) wide first_low in
        binary_goes g code well IntRight out a (amount low) v low p left m u' go (reads u' (same_refl (T + 16) u')) refl lt (amount_low low low_small) has.0
        (λ w small. lands w u' same small)
        ∙ ap go (sym (mod-eq_of_lt whole) ∙ uncut a.size.bytes n.bytes v low count fits few lt above)

    by_clear : n.bytes ≤ a.size.bytes → Comes (lower top t a low ++ clear_above top t (lowered top t a low) count out)
    by_clear narrower has lands =
        let a1 = lowered top t a low in
        let a2 = shortened top t a1 n in
        let w1 : ℕ = v / 2 ^ low in
        let w2 : ℕ = w1 % 256 ^ n.bytes in
        let one : a1.size ≡ a.size = lowered_size (nat_lt 0 low) T a in
        let less : n.bytes ≤ a1.size.bytes = subst (λ (k : Size). n.bytes ≤ k.bytes) (sym one) narrower in
        let size2 : a2.size.bytes ≡ n.bytes = moved_size (nat_lt n.bytes a1.size.bytes) (temporary T n) a1 n.bytes refl (λ no. grind (arith, nat_tests, less)) in
        let low1 : w1 < 256 ^ a1.size.bytes = subst (λ (k : Size). w1 < 256 ^ k.bytes) (sym one) first_low in
        let low2 : w2 < 256 ^ n.bytes = mod_below w1 (256 ^ n.bytes) (bytes_pos n.bytes) in
        let last = binary IntAnd out a2 (constant (ones count) n) ∷ [] in
        let len : p + length (lower top t a low ++ (shorten top t a1 n ++ last)) ≡ p + length (lower top t a low) + length (shorten top t a1 n) + 1 = omega (arith, length-append (lower top t a low) (shorten top t a1 n ++ last), length-append (shorten top t a1 n) last) in
        let end = go (bits_of low count v) in
        lower_run (shorten top t a1 n ++ last) has
        (λ q u1 here same1 reads1 there.
        taken_run (nat_lt n.bytes a1.size.bytes) (binary Subpiece (at_temp top t n) a1 (amount 0)) T n a1 last (λ b. w2) q left m u1 end
        (λ yes first follows. binary_temp g code well Subpiece T n a1 (amount 0) w1 0 w2 q left m u1 end (reads1 u1 (same_refl (T + 16) u1)) refl low1 (amount_low 0 (omega arith)) (ap (λ x. Ok (x % 256 ^ n.bytes)) (div-one w1)) low2 first follows)
        (λ no u'' same'.
        let more : a1.size.bytes ≤ n.bytes = grind (arith, nat_tests) in
        let small : w1 < 256 ^ n.bytes = (let mono = bytes_mono a1.size.bytes n.bytes more in omega (arith, low1)) in
        reads1 u'' same' ∙ sym (mod-eq_of_lt small)) there
        (λ r u2 here2 same2 reads2 there2.
        binary_goes g code well IntAnd out a2 (constant (ones count) n) w2 (ones count) r left m u2 go (reads2 u2 (same_refl (T + 16) u2)) refl
        (subst (λ k. w2 < 256 ^ k) (sym size2) low2) (ones_low n.bytes count few) there2.0
        (λ w small. lands_at g code left _ (r + 1) T out m u go (len ∙ ap (λ k. k + length (shorten top t a1 n) + 1) (sym here) ∙ ap (λ k. k + 1) (sym here2)) lands w u2 (same_trans T T u u1 u2 (omega arith) (same_trans T T u u' u1 (omega arith) same same1) same2) small)
        ∙ ap go (lowest w2 count ∙ cut_lowest w1 n.bytes count few)))

    by_mask : (c d : Bool) → nat_lt (low + count) (8 * a.size.bytes) ≡ c → nat_lt count (8 * n.bytes) ≡ d → n.bytes ≤ a.size.bytes
        → Comes (if c && d then lower top t a low ++ clear_above top t (lowered top t a low) count out
        else if nat_lt n.bytes a.size.bytes then lower top t a low ++ binary Subpiece out (lowered top t a low) (amount 0) ∷ [] else binary IntRight out a (amount low) ∷ [])
    by_mask true true e e' narrower = by_clear narrower
    by_mask true false e e' narrower = by_cut (nat_lt n.bytes a.size.bytes) refl narrower (inr (grind (arith, nat_tests)))
    by_mask false d e e' narrower = by_cut (nat_lt n.bytes a.size.bytes) refl narrower (inl (grind (arith, nat_tests)))

    by_shifts : Comes (bits_by_shifts top t a low count out)
    by_shifts has lands =
        let w = a.size.bytes in
        let up : ℕ = 8 * w - (low + count) in
        let down : ℕ = 8 * w - count in
        let x : ℕ = (v * 2 ^ up) % 256 ^ w in
        let y : ℕ = x / 2 ^ down in
        let tmp = at_temp top t a.size in
        let wide : w ≤ 16 = a.size.at_most_16 in
        let x_low : x < 256 ^ w = mod_below (v * 2 ^ up) (256 ^ w) (bytes_pos w) in
        let y_is : y ≡ bits_of low count v = bits_read w v low count fits in
        let y_low : y < 256 ^ w = let d = div-le_self x (2 ^ down) in omega arith in
        let b_low = bits_below n.bytes v low count few in
        let last : y / 1 % 256 ^ n.bytes ≡ bits_of low count v = ap (λ q. q % 256 ^ n.bytes) (div-one y ∙ y_is) ∙ mod-eq_of_lt b_low in
        let end = go (bits_of low count v) in
        binary_temp g code well IntLeft T a.size a (amount up) v up x p left m u' end (reads u' (same_refl (T + 16) u')) refl lt (amount_low up (omega arith)) refl x_low has.0
        (λ u1 same1 read1. binary_temp g code well IntRight T a.size tmp (amount down) x down y (p + 1) left m u1 end read1 refl x_low (amount_low down (omega arith)) refl y_low has.1.0
        (λ u2 same2 read2. piece_goes g code well out tmp y 0 (p + 1 + 1) left m u2 go read2 y_low has.1.1.0
        (λ q small. lands_at g code left (p + 3) (p + 1 + 1 + 1) T out m u go (omega arith) lands q u2 (same_trans T T u u1 u2 (omega arith) (same_trans T T u u' u1 (omega arith) same same1) same2) small)
        ∙ ap go last))

    into_is : (c : Bool) → (has_mask a.size low count && nat_le n.bytes a.size.bytes) ≡ c → bits_into top t a low count out ≡ (if c then bits_by_mask top t a low count out else bits_by_shifts top t a low count out)
    unfolding bits_into
    into_is c e = ap (λ b. if b then bits_by_mask top t a low count out else bits_by_shifts top t a low count out) e

    into_comes : (c : Bool) → (has_mask a.size low count && nat_le n.bytes a.size.bytes) ≡ c → Comes (bits_into top t a low count out)
    into_comes true e =
        let test = right_true (has_mask a.size low count) (nat_le n.bytes a.size.bytes) e in
        let narrower : n.bytes ≤ a.size.bytes = grind (arith, nat_tests) in
        subst Comes (sym (into_is true e)) (by_mask (nat_lt (low + count) (8 * a.size.bytes)) (nat_lt count (8 * n.bytes)) refl refl narrower)
    into_comes false e = subst Comes (sym (into_is false e)) by_shifts

    pub bits_land : HasAt g code p (bits_into top t a low count out) → Lands g code left (p + length (bits_into top t a low count out)) T out m u go → from g code left p m u' ≡ go (bits_of low count v)
    bits_land = into_comes (has_mask a.size low count && nat_le n.bytes a.size.bytes) refl

  -- ---- bits that are put

  module _ (t : ℕ) (n : Size) (old v : Varnode) (below : Bool) (low count : ℕ) (place : Place2) (offset : ℕ) (p left : ℕ) (m : Memory) (u u' : Temporaries) (go : ℕ → Final) (x y : ℕ)
      (so : old.size ≡ n) (sv : v.size.bytes ≤ n.bytes) (fits : low + count ≤ 8 * n.bytes) (hx : x < 256 ^ v.size.bytes) (hy : y < 256 ^ n.bytes)
      (reads_v : Reads (top + t * 16) v m u' x) (reads_old : Reads (top + t * 16) old m u' y) (same : Same (top + t * 16) u u') where
    abbrev S : ℕ
    S = top + t * 16

    abbrev next_of : ℕ
    next_of = top + (t + 1) * 16

    abbrev to : Varnode
    to = placed place offset n

    -- the bits that stay, and the mask of all others
    abbrev kept : ℕ
    kept = y - bits_of low count y * 2 ^ low

    abbrev keep : ℕ
    keep = 256 ^ n.bytes - 1 - mask low count

    abbrev Puts : (w : ℕ) → List Operation → Type 0
    Puts w ops = Does p left S to m u u' go w ops

    next_is : next_of ≡ S + 16
    next_is = omega arith

    keep_low : keep < 256 ^ n.bytes
    keep_low = let some = bytes_pos n.bytes in omega arith

    kept_low : kept < 256 ^ n.bytes
    kept_low = omega (arith, hy)

    old_low : y < 256 ^ old.size.bytes
    old_low = subst (λ (k : Size). y < 256 ^ k.bytes) (sym so) hy

    low_fits : low ≤ 128
    low_fits = omega (arith, n.at_most_16)

    x_low : x < 256 ^ n.bytes
    x_low = let mono = bytes_mono v.size.bytes n.bytes sv in omega (arith, hx)

    -- the other bits are kept, and others joined
    join_run : (at : Varnode) (w q : ℕ) (u1 : Temporaries) → at.size.bytes ≡ n.bytes → w < 256 ^ n.bytes → Same S u' u1 → Reads next_of at m u1 w
        → HasAt g code q (join top t n old at low count to) → Lands g code left (q + 2) S to m u go → from g code left q m u1 ≡ go (bit_or kept w)
    join_run at w q u1 size small same1 reads has lands =
        binary_temp g code well IntAnd next_of n old (others n low count) y keep kept q left m u1 (go (bit_or kept w)) (reads_old u1 same1) refl old_low keep_low (ap Ok (others_are n.bytes y low count fits hy)) kept_low has.0
        (λ u2 same2 field.
        binary_goes g code well IntOr to (at_temp top (t + 1) n) at kept w (q + 1) left m u2 go field (reads u2 same2) kept_low (subst (λ k. w < 256 ^ k) (sym size) small) has.1.0
        (λ z low_z. lands_at g code left (q + 2) (q + 1 + 1) S to m u go (omega arith) lands z u2 (same_trans S S u u1 u2 (omega arith) (same_trans S S u u' u1 (omega arith) same same1) (same_below S next_of u1 u2 (omega arith) same2)) low_z))

    -- ---- bits of a number

    number_put_run : (k : ℕ) (zero all : Bool) → (k == 0) ≡ zero → (k == mask low count) ≡ all → k ≡ x % 2 ^ count * 2 ^ low
        → Puts (with_bits low count y x) (if zero then binary IntAnd to old (others n low count) ∷ []
        else if all then binary IntOr to old (constant k n) ∷ []
        else binary IntAnd (at_temp top (t + 1) n) old (others n low count) ∷ binary IntOr to (at_temp top (t + 1) n) (constant k n) ∷ [])
    number_put_run k true all e e' is has lands =
        binary_goes g code well IntAnd to old (others n low count) y keep p left m u' go (reads_old u' (same_refl S u')) refl old_low keep_low has.0 (λ z low_z. lands z u' same low_z)
        ∙ ap go (none_set n.bytes y x low count fits hy (sym is ∙ same_number k 0 e))
    number_put_run k false true e e' is has lands =
        let small : k < 256 ^ n.bytes = subst (λ q. q < 256 ^ n.bytes) (sym is) (placed_below n.bytes x low count fits) in
        binary_goes g code well IntOr to old (constant k n) y k p left m u' go (reads_old u' (same_refl S u')) refl old_low small has.0 (λ z low_z. lands z u' same low_z)
        ∙ ap (λ q. go (bit_or y q)) is ∙ ap go (all_set n.bytes y x low count fits hy (sym is ∙ same_number k (mask low count) e'))
    number_put_run k false false e e' is has lands =
        let small : k < 256 ^ n.bytes = subst (λ q. q < 256 ^ n.bytes) (sym is) (placed_below n.bytes x low count fits) in
        join_run (constant k n) k p u' refl small (same_refl S u') (λ u'' same'. refl) has lands
        ∙ ap (λ q. go (bit_or kept q)) is ∙ ap go (joined n.bytes y x low count fits hy)

    -- ---- bits of a value

    later : (at : Varnode) (w : ℕ) (u1 : Temporaries) → Reads (S + 16) at m u1 w → Reads next_of at m u1 w
    later at w u1 reads = subst (λ k. Reads k at m u1 w) (sym next_is) reads

    -- the value is moved up, where that is wanted, and joined
    raise_run : (at : Varnode) (w q : ℕ) (u1 : Temporaries) → at.size.bytes ≡ n.bytes → w < 256 ^ n.bytes → Same S u' u1 → Reads (S + 16) at m u1 w
        → HasAt g code q (raise_and_join top t n old at low count to) → Lands g code left (q + length (raise_and_join top t n old at low count to)) S to m u go
        → from g code left q m u1 ≡ go (bit_or kept ((w * 2 ^ low) % 256 ^ n.bytes))
    raise_run at w q u1 size small same1 reads has lands =
        let w' : ℕ = (w * 2 ^ low) % 256 ^ n.bytes in
        let small' : w' < 256 ^ n.bytes = mod_below (w * 2 ^ low) (256 ^ n.bytes) (bytes_pos n.bytes) in
        let rest = join top t n old (raised top t n at low) low count to in
        let len : q + length (raise top t n at low ++ rest) ≡ q + length (raise top t n at low) + 2 = omega (arith, length-append (raise top t n at low) rest) in
        taken_run (nat_lt 0 low) (binary IntLeft (at_temp top t n) at (amount low)) S n at rest (λ b. w') q left m u1 (go (bit_or kept w'))
        (λ yes there follows. binary_temp g code well IntLeft S n at (amount low) w low w' q left m u1 (go (bit_or kept w')) (reads u1 (same_refl (S + 16) u1)) refl
        (subst (λ k. w < 256 ^ k) (sym size) small) (amount_low low low_fits) (ap (λ k. Ok ((w * 2 ^ low) % 256 ^ k)) size) small' there follows)
        (λ no u'' same'.
        let none : low ≡ 0 = grind (arith, nat_tests) in
        let one : w * 1 ≡ w = omega arith in
        reads u'' same' ∙ sym (ap (λ k. (w * 2 ^ k) % 256 ^ n.bytes) none ∙ ap (λ k. k % 256 ^ n.bytes) one ∙ mod-eq_of_lt small)) has
        (λ r u2 here same2 reads2 there.
        join_run (raised top t n at low) w' r u2 (moved_size (nat_lt 0 low) (temporary S n) at n.bytes refl (λ no. size)) small' (same_trans S S u' u1 u2 (omega arith) same1 same2) (later (raised top t n at low) w' u2 reads2) there
        (lands_at g code left _ (r + 2) S to m u go (len ∙ ap (λ k. k + 2) (sym here)) lands))

    abbrev more : Bool
    more = has_more n v below low count

    abbrev cut_value : Bool → ℕ
    cut_value b = if b then x % 2 ^ count else x

    cut_low : (b : Bool) → cut_value b < 256 ^ n.bytes
    cut_low true =
        let few : 2 ^ count ≤ 2 ^ (8 * n.bytes) = pow-le-pow_right (omega arith) (omega (arith, fits)) in
        let less = mod_below x (2 ^ count) (pow_pos count) in
        omega (arith, bytes-bits n.bytes)
    cut_low false = x_low

    value_put_run : Puts (bit_or kept ((cut_value more * 2 ^ low) % 256 ^ n.bytes)) (value_put top t n old v below low count to)
    value_put_run has lands =
        let v1 = widened top t n v in
        let v2 = cleared top more t n v1 in
        let end = go (bit_or kept ((cut_value more * 2 ^ low) % 256 ^ n.bytes)) in
        let size1 : v1.size.bytes ≡ n.bytes = moved_size (nat_lt v.size.bytes n.bytes) (temporary S n) v n.bytes refl (λ no. grind (arith, nat_tests, sv)) in
        let few : count ≤ 8 * n.bytes = omega (arith, fits) in
        let first = widen top t n v in
        let second = clear top more t n v1 count in
        let rest = raise_and_join top t n old v2 low count to in
        let len : p + length (first ++ (second ++ rest)) ≡ p + length first + length second + length rest = omega (arith, length-append first (second ++ rest), length-append second rest) in
        taken_run (nat_lt v.size.bytes n.bytes) (unary IntZext (at_temp top t n) v) S n v (second ++ rest) (λ b. x) p left m u' end
        (λ yes there follows. unary_temp g code well IntZext S n v x x p left m u' end (reads_v u' (same_refl S u')) hx refl x_low there follows)
        (λ no u'' same'. reads_v u'' (same_below S (S + 16) u' u'' (omega arith) same')) has
        (λ q u1 here same1 reads1 there1.
        taken_run more (binary IntAnd (at_temp top t n) v1 (constant (ones count) n)) S n v1 rest cut_value q left m u1 end
        (λ yes there follows. binary_temp g code well IntAnd S n v1 (constant (ones count) n) x (ones count) (x % 2 ^ count) q left m u1 end (reads1 u1 (same_refl (S + 16) u1)) refl
        (subst (λ k. x < 256 ^ k) (sym size1) x_low) (ones_low n.bytes count few) (ap Ok (lowest x count)) (cut_low true) there follows)
        (λ no. reads1) there1
        (λ r u2 here2 same2 reads2 there2.
        raise_run v2 (cut_value more) r u2 (moved_size more (temporary S n) v1 n.bytes refl (λ no. size1)) (cut_low more) (same_trans S S u' u1 u2 (omega arith) same1 same2) reads2 there2
        (lands_at g code left _ (r + length rest) S to m u go (len ∙ ap (λ k. k + length second + length rest) (sym here) ∙ ap (λ k. k + length rest) (sym here2)) lands)))

    -- ---- by shifts

    shifts_run : Puts (with_bits low count y x) (put_by_shifts top t n old v low count to)
    shifts_run has lands =
        let w = n.bytes in
        let W : ℕ = 256 ^ w in
        let new = at_temp top t n in
        let field = at_temp top (t + 1) n in
        let up : ℕ = 8 * w - (low + count) in
        let down : ℕ = 8 * w - count in
        let wide : w ≤ 16 = n.at_most_16 in
        let end = go (with_bits low count y x) in
        let x2 : ℕ = (x * 2 ^ down) % W in
        let x2_low : x2 < W = mod_below (x * 2 ^ down) W (bytes_pos w) in
        let x3 : ℕ = (x % 2 ^ count) * 2 ^ low in
        let x3_is : x2 / 2 ^ up ≡ x3 = bits_placed w x low count fits in
        let x3_low : x3 < W = placed_below w x low count fits in
        let y4 : ℕ = (y * 2 ^ up) % W in
        let y4_low : y4 < W = mod_below (y * 2 ^ up) W (bytes_pos w) in
        let y5 : ℕ = bits_of low count y in
        let y5_is : y4 / 2 ^ down ≡ y5 = bits_read w y low count fits in
        let y5_low : y5 < W = (let d = div-le_self y4 (2 ^ down) in omega arith) in
        let all = with_bits_below w y x low count fits hy in
        let y6 : ℕ = y5 * 2 ^ low in
        let y6_low : y6 < W = (let le = all.0 in omega arith) in
        let y6_is : y5 * 2 ^ low % W ≡ y6 = mod-eq_of_lt y6_low in
        let y7_is : residue w (pos y -ℤ pos y6) ≡ kept = residue_minus w y y6 all.0 hy in
        let up_low = amount_low up (omega arith) in
        let down_low = amount_low down (omega arith) in
        let sum_is : (kept + x3) % W ≡ with_bits low count y x = mod-eq_of_lt all.1 in
        unary_temp g code well IntZext S n v x x p left m u' end (reads_v u' (same_refl S u')) hx refl x_low has.0
        (λ u1 s1 r1. binary_temp g code well IntLeft S n new (amount down) x down x2 (p + 1) left m u1 end r1 refl x_low down_low refl x2_low has.1.0
        (λ u2 s2 r2. binary_temp g code well IntRight S n new (amount up) x2 up x3 (p + 1 + 1) left m u2 end r2 refl x2_low up_low (ap Ok x3_is) x3_low has.1.1.0
        (λ u3 s3 r3.
        let k3 : Same S u' u3 = same_trans S S u' u2 u3 (omega arith) (same_trans S S u' u1 u2 (omega arith) s1 s2) s3 in
        binary_temp g code well IntLeft next_of n old (amount up) y up y4 (p + 1 + 1 + 1) left m u3 end (reads_old u3 k3) refl old_low up_low (ap (λ (k : Size). Ok ((y * 2 ^ up) % 256 ^ k.bytes)) so) y4_low has.1.1.1.0
        (λ u4 s4 r4. binary_temp g code well IntRight next_of n field (amount down) y4 down y5 (p + 1 + 1 + 1 + 1) left m u4 end r4 refl y4_low down_low (ap Ok y5_is) y5_low has.1.1.1.1.0
        (λ u5 s5 r5. binary_temp g code well IntLeft next_of n field (amount low) y5 low y6 (p + 1 + 1 + 1 + 1 + 1) left m u5 end r5 refl y5_low (amount_low low low_fits) (ap Ok y6_is) y6_low has.1.1.1.1.1.0
        (λ u6 s6 r6.
        let t6 : Same next_of u3 u6 = same_trans next_of next_of u3 u5 u6 (omega arith) (same_trans next_of next_of u3 u4 u5 (omega arith) s4 s5) s6 in
        let k6 : Same S u' u6 = same_trans S next_of u' u3 u6 (omega arith) k3 t6 in
        binary_temp g code well IntSub next_of n old field y y6 kept (p + 1 + 1 + 1 + 1 + 1 + 1) left m u6 end (reads_old u6 k6) r6 old_low y6_low
        (ap (λ (k : Size). Ok (residue k.bytes (pos y -ℤ pos y6))) so ∙ ap Ok y7_is) kept_low has.1.1.1.1.1.1.0
        (λ u7 s7 r7.
        let t7 : Same next_of u3 u7 = same_trans next_of next_of u3 u6 u7 (omega arith) t6 s7 in
        let new7 : read_at g.endian u7 S w ≡ x3 = read_same g.endian next_of S w u3 u7 (omega arith) t7 ∙ r3 in
        let k7 : Same S u u7 = same_trans S S u u' u7 (omega arith) same (same_trans S next_of u' u3 u7 (omega arith) k3 t7) in
        binary_goes g code well IntAdd to field new kept x3 (p + 1 + 1 + 1 + 1 + 1 + 1 + 1) left m u7 go r7 new7 kept_low x3_low has.1.1.1.1.1.1.1.0
        (λ z low_z. lands_at g code left (p + 8) _ S to m u go (omega arith) lands z u7 k7 low_z)
        ∙ ap go sum_is)))))))

    -- ---- all

    by_number : (k : _) → number_at v.place v.offset ≡ k → has_mask n low count ≡ true → Puts (put_value (is_loose below n v low count) n.bytes low count y x) (put_by_mask top k t n old v below low count to)
    by_number (Some k) e masked =
        let is : k ≡ x = sym (number_value g m u' v.place v.offset v.size.bytes k e) ∙ reads_v u' (same_refl S u') in
        let placed_is : k % 2 ^ count * 2 ^ low ≡ x % 2 ^ count * 2 ^ low = ap (λ q. q % 2 ^ count * 2 ^ low) is in
        let none : is_none (number_at v.place v.offset) ≡ false = ap is_none e in
        let plain : with_bits low count y x ≡ put_value (is_loose below n v low count) n.bytes low count y x =
        sym (ap (λ b. put_value b n.bytes low count y x) (no_value below (has_mask n low count) (is_none (number_at v.place v.offset)) none) ∙ plain_value n.bytes low count y x) in
        subst (λ w. Puts w (number_put top t n old low count (k % 2 ^ count * 2 ^ low) to)) plain
        (number_put_run (k % 2 ^ count * 2 ^ low) (k % 2 ^ count * 2 ^ low == 0) (k % 2 ^ count * 2 ^ low == mask low count) refl refl placed_is)
    by_number None e masked =
        let none : is_none (number_at v.place v.offset) ≡ true = ap is_none e in
        let as_said : put_value below n.bytes low count y x ≡ put_value (is_loose below n v low count) n.bytes low count y x =
        sym (ap (λ b. put_value b n.bytes low count y x) (all_value below (has_mask n low count) (is_none (number_at v.place v.offset)) masked none)) in
        subst (λ w. Puts w (value_put top t n old v below low count to))
        (more_value below n.bytes v.size.bytes low count x y fits hx hy (nat_lt count (8 * v.size.bytes)) (nat_lt (low + count) (8 * n.bytes)) refl refl ∙ as_said) value_put_run

    put_is : (c : Bool) → has_mask n low count ≡ c → bits_put top t n old v below low count to ≡ (if c then put_by_mask top (number_at v.place v.offset) t n old v below low count to else put_by_shifts top t n old v low count to)
    unfolding bits_put
    put_is c e = ap (λ b. if b then put_by_mask top (number_at v.place v.offset) t n old v below low count to else put_by_shifts top t n old v low count to) e

    put_lands : (c : Bool) → has_mask n low count ≡ c → Puts (put_value (is_loose below n v low count) n.bytes low count y x) (bits_put top t n old v below low count to)
    put_lands true e = subst (Puts (put_value (is_loose below n v low count) n.bytes low count y x)) (sym (put_is true e)) (by_number (number_at v.place v.offset) refl e)
    put_lands false e =
        let plain : with_bits low count y x ≡ put_value (is_loose below n v low count) n.bytes low count y x =
        sym (ap (λ b. put_value b n.bytes low count y x) (no_mask below (has_mask n low count) (is_none (number_at v.place v.offset)) e) ∙ plain_value n.bytes low count y x) in
        subst (Puts (put_value (is_loose below n v low count) n.bytes low count y x)) (sym (put_is false e))
        (subst (λ w. Puts w (put_by_shifts top t n old v low count to)) plain shifts_run)

    -- what is put, by what is said of the value
    pub bits_put_lands : HasAt g code p (bits_put top t n old v below low count to) → Lands g code left (p + length (bits_put top t n old v below low count to)) S to m u go
        → from g code left p m u' ≡ go (put_value (is_loose below n v low count) n.bytes low count y x)
    bits_put_lands = put_lands (has_mask n low count) refl
