-- What a tree of runs tells at an address is the context there.
use Rattle.std.proofs.Common.{◌≡◌, ℕ, ◌<◌, ◌≤◌, ◌+◌, ◌%◌, ◌==◌, ◌&&◌, Bool, true, false, cond, min, max, Option, Some, None, List, nat_le, nat_lt, refl, sym, ap, ap₂, ◌∙◌, arith, subst, ◌⊎◌, inl, inr}
use Rattle.std.proofs.lemmas.Bool.Decides.{nat_tests}
use Rattle.std.proofs.lemmas.Nat.Bits.{bit_at_and, bit_at_or, bit_at_xor, bit_at-lt}
use Rattle.std.specs.Int.{bit_at}
use Rattle.sl_decode_contexts.specs.declared.commits.Commit.{Commit}
use Rattle.sl_decode_contexts.specs.declared.runs.Run.{Run}
use Rattle.sl_decode_contexts.specs.declared.tree.Tree.{Tree, Leaf, Fork'}
use Rattle.sl_decode_contexts.specs.Commits.{latest, counts, Greatest, given, not_given, IsContextAt}
use Rattle.sl_decode_contexts.specs.AtAddress.{put, without, merged, passed}
use Rattle.sl_decode_contexts.specs.Runs.{is_here, flows_here, bit_of, flow_told, told, Tells, TellsAll}
use Rattle.sl_decode_contexts.specs.Trees.{first_of, last_of, fixed_of, flow_of, sum_of, onward, seen, run_at, IsSound}
use Rattle.sl_decode_contexts.proofs.LatestLemmas.{latest_holds, latest_alike, latest_same, latest_nothing, Among}

pub bit_cases : (n i : ℕ) → (bit_at n i ≡ 0) ⊎ (bit_at n i ≡ 1)
bit_cases n i = let h = bit_at-lt n i in grind arith

merge_bits : (o n m : ℕ) → o < 2 → n < 2 → m < 2 → (o + min ((o + n) % 2) m) % 2 ≡ cond (m == 1) n o
merge_bits o n m a b c = grind (arith, nat_tests)

pub put_bit : (o m n i : ℕ) → bit_at (put o m n) i ≡ cond (bit_at m i == 1) (bit_at n i) (bit_at o i)
put_bit o m n i = rw (bit_at_xor, bit_at_and, bit_at_xor) (merge_bits (bit_at o i) (bit_at n i) (bit_at m i) (bit_at-lt o i) (bit_at-lt n i) (bit_at-lt m i))

without_bits : (a b : ℕ) → a < 2 → b < 2 → (a + min a b) % 2 ≡ cond (b == 1) 0 a
without_bits a b h g = grind (arith, nat_tests)

pub without_bit : (a b i : ℕ) → bit_at (without a b) i ≡ cond (bit_at b i == 1) 0 (bit_at a i)
without_bit a b i = rw (bit_at_xor, bit_at_and) (without_bits (bit_at a i) (bit_at b i) (bit_at-lt a i) (bit_at-lt b i))

-- a flowing commit with this bit below an address
abbrev pub flows_under : ℕ → ℕ → Commit → Bool
flows_under lo i c = c.flows && ((bit_at c.mask i == 1) && nat_lt c.address lo)

pub greatest_same : (p q : Commit → Bool) (start : ℕ) (cs : List Commit) (i b : ℕ) → ((c : Commit) → Among c cs → p c ≡ q c) → Greatest p start cs i b → Greatest q start cs i b
greatest_same p q start cs i b h (given d e n) =
    given d (sym (latest_same (λ c. p c && (c.address == d.address)) (λ c. q c && (c.address == d.address)) cs (λ c a. ap (λ t. t && (c.address == d.address)) (h c a))) ∙ e)
    (sym (latest_same (λ c. p c && nat_lt d.address c.address) (λ c. q c && nat_lt d.address c.address) cs (λ c a. ap (λ t. t && nat_lt d.address c.address) (h c a))) ∙ n)
greatest_same p q start cs i b h (not_given n) = not_given (sym (latest_same p q cs h) ∙ n)

here_false : (m x : ℕ) → (m == 1) && (x == x) ≡ false → m ≡ 1 → ⊥
here_false m x h e = grind (arith, nat_tests)

-- no commit among them has the bit at an address where none is found
absent : (c : Commit) (cs : List Commit) (i : ℕ) → Among c cs → latest (is_here c.address i) cs ≡ None → bit_at c.mask i ≡ 1 → ⊥
absent c cs i a n e = here_false (bit_at c.mask i) c.address (a (is_here c.address i) n) e

-- the two tests of a commit with the bit below an address at or below the place, or above it
agree : (f : Bool) (m x lo a : ℕ) → lo ≤ a → (m ≡ 1 → (x < lo) ⊎ (a < x)) → (f && ((m == 1) && nat_lt x lo)) ≡ ((m == 1) && cond f (nat_le x a) (x == a))
agree true m x lo a h g = grind (arith, nat_tests)
agree false m x lo a h g = grind (arith, nat_tests)

agree_up : (f : Bool) (m x lo up : ℕ) → lo ≤ up → (f ≡ true → m ≡ 1 → (x < lo) ⊎ (up ≤ x)) → (f && ((m == 1) && nat_lt x lo)) ≡ (f && ((m == 1) && nat_lt x up))
agree_up true m x lo up h g = let k = g refl in grind (arith, nat_tests)
agree_up false m x lo up h g = refl

bit_some : (i : ℕ) (o : Option Commit) (v : ℕ) → Some v ≡ bit_of i o → (d : Commit) × (o ≡ Some d) × (v ≡ bit_at d.value i)
bit_some i None v h = absurd (cc)
bit_some i (Some d) v h = (d, refl, cc)

bit_none : (i : ℕ) (o : Option Commit) → None ≡ bit_of i o → o ≡ None
bit_none i None h = refl
bit_none i (Some d) h = absurd (cc)

-- what a run tells, by the bits of its masks
flow_some : (r : Run) (i : ℕ) → bit_at r.fixed i ≡ 1 → flow_told i (Some r) ≡ Some (bit_at r.flow i)
flow_some r i e = ap (λ f. cond (f == 1) (Some (bit_at r.flow i)) None) e

flow_none : (r : Run) (i : ℕ) → bit_at r.fixed i ≡ 0 → flow_told i (Some r) ≡ None
flow_none r i e = ap (λ f. cond (f == 1) (Some (bit_at r.flow i)) None) e

told_own : (r : Run) (i : ℕ) → bit_at r.own i ≡ 1 → told i (Some r) ≡ Some (bit_at r.own_value i)
told_own r i e = ap (λ f. cond (f == 1) (Some (bit_at r.own_value i)) (flow_told i (Some r))) e

told_flow : (r : Run) (i : ℕ) → bit_at r.own i ≡ 0 → told i (Some r) ≡ flow_told i (Some r)
told_flow r i e = ap (λ f. cond (f == 1) (Some (bit_at r.own_value i)) (flow_told i (Some r))) e

-- the bits of a number that is put over another
put_over : (o m n i : ℕ) → bit_at m i ≡ 1 → bit_at (put o m n) i ≡ bit_at n i
put_over o m n i e = put_bit o m n i ∙ ap (λ f. cond (f == 1) (bit_at n i) (bit_at o i)) e

put_under : (o m n i : ℕ) → bit_at m i ≡ 0 → bit_at (put o m n) i ≡ bit_at o i
put_under o m n i e = put_bit o m n i ∙ ap (λ f. cond (f == 1) (bit_at n i) (bit_at o i)) e

-- where no commit with the bit stands from the address on up to the other
abbrev Empty : ℕ → List Commit → ℕ → ℕ → Type 0
Empty i cs lo up = (a : ℕ) → lo ≤ a → a < up → latest (is_here a i) cs ≡ None

pub below_or_not : (x lo : ℕ) → (x < lo) ⊎ (lo ≤ x)
below_or_not x lo = grind arith

outside : (i : ℕ) (cs : List Commit) (lo a : ℕ) (c : Commit) → Empty i cs lo (a + 1) → Among c cs → bit_at c.mask i ≡ 1 → (c.address < lo) ⊎ (a < c.address)
outside i cs lo a c empty m e =
    elim (below_or_not c.address lo) [
      | inl h ↦ inl h
      | inr h ↦ elim (below_or_not c.address (a + 1)) [
        | inl k ↦ absurd (absent c cs i m (empty c.address h k) e)
        | inr k ↦ inr (omega arith)
      ]
    ]

-- what flows below an address is what counts at a place from it on, where no commit stands up to the place
settled : (i : ℕ) (cs : List Commit) (start lo a b : ℕ) → lo ≤ a → Empty i cs lo (a + 1) → Greatest (flows_under lo i) start cs i b → Greatest (counts a i) start cs i b
settled i cs start lo a b h empty g =
    greatest_same (flows_under lo i) (counts a i) start cs i b (λ c m. agree c.flows (bit_at c.mask i) c.address lo a h (λ e. outside i cs lo a c empty m e)) g

-- what flows below an address flows below a greater one, where no flowing commit stands between
raised : (i : ℕ) (cs : List Commit) (start lo up b : ℕ) → lo ≤ up → ((c : Commit) → Among c cs → c.flows ≡ true → bit_at c.mask i ≡ 1 → (c.address < lo) ⊎ (up ≤ c.address))
    → Greatest (flows_under lo i) start cs i b → Greatest (flows_under up i) start cs i b
raised i cs start lo up b h g = greatest_same (flows_under lo i) (flows_under up i) start cs i b (λ c m. agree_up c.flows (bit_at c.mask i) c.address lo up h (g c m))

-- tests at an address that one commit has
same_at : (f : Bool) (m x lo y : ℕ) → x < lo → ((f && ((m == 1) && nat_lt y lo)) && (y == x)) ≡ (f && ((m == 1) && (y == x)))
same_at true m x lo y h = grind (arith, nat_tests)
same_at false m x lo y h = refl

none_at : (f : Bool) (m x y : ℕ) → ((f && ((m == 1) && nat_lt y (x + 1))) && nat_lt x y) ≡ false
none_at true m x y = grind (arith, nat_tests)
none_at false m x y = refl

here_at : (f : Bool) (m x y : ℕ) → (((m == 1) && cond f (nat_le y x) (y == x)) && (y == x)) ≡ ((m == 1) && (y == x))
here_at true m x y = grind (arith, nat_tests)
here_at false m x y = grind (arith, nat_tests)

none_above : (f : Bool) (m x y : ℕ) → (((m == 1) && cond f (nat_le y x) (y == x)) && nat_lt x y) ≡ false
none_above true m x y = grind (arith, nat_tests)
none_above false m x y = grind (arith, nat_tests)

flows_at : (f : Bool) (m x y : ℕ) → (f && ((m == 1) && (y == x))) ≡ true → x ≡ y
flows_at true m x y h = grind (arith, nat_tests)
flows_at false m x y h = absurd (cc)

is_at : (m x y : ℕ) → ((m == 1) && (y == x)) ≡ true → x ≡ y
is_at m x y h = grind (arith, nat_tests)

-- the bit that flowing commits give at an address flows on
from_run : (i : ℕ) (cs : List Commit) (start x b : ℕ) (d : Commit) → latest (flows_here x i) cs ≡ Some d → b ≡ bit_at d.value i → Greatest (flows_under (x + 1) i) start cs i b
from_run i cs start x b d e v =
    let at : x ≡ d.address = flows_at d.flows (bit_at d.mask i) x d.address (latest_holds (flows_here x i) cs d e) in
    let first : latest (λ c. flows_under (x + 1) i c && (c.address == d.address)) cs ≡ Some d =
    ap (λ y. latest (λ c. flows_under (x + 1) i c && (c.address == y)) cs) (sym at)
    ∙ latest_alike (λ c. flows_under (x + 1) i c && (c.address == x)) (flows_here x i) cs (λ c. same_at c.flows (bit_at c.mask i) x (x + 1) c.address (omega arith)) ∙ e in
    let above : latest (λ c. flows_under (x + 1) i c && nat_lt d.address c.address) cs ≡ None =
    ap (λ y. latest (λ c. flows_under (x + 1) i c && nat_lt y c.address) cs) (sym at)
    ∙ latest_alike (λ c. flows_under (x + 1) i c && nat_lt x c.address) (λ c. false) cs (λ c. none_at c.flows (bit_at c.mask i) x c.address) ∙ latest_nothing cs in
    subst (Greatest (flows_under (x + 1) i) start cs i) (sym v) (given d first above)

-- the bit that commits give at an address is the one there
at_run : (i : ℕ) (cs : List Commit) (start x b : ℕ) (d : Commit) → latest (is_here x i) cs ≡ Some d → b ≡ bit_at d.value i → Greatest (counts x i) start cs i b
at_run i cs start x b d e v =
    let at : x ≡ d.address = is_at (bit_at d.mask i) x d.address (latest_holds (is_here x i) cs d e) in
    let first : latest (λ c. counts x i c && (c.address == d.address)) cs ≡ Some d =
    ap (λ y. latest (λ c. counts x i c && (c.address == y)) cs) (sym at)
    ∙ latest_alike (λ c. counts x i c && (c.address == x)) (is_here x i) cs (λ c. here_at c.flows (bit_at c.mask i) x c.address) ∙ e in
    let above : latest (λ c. counts x i c && nat_lt d.address c.address) cs ≡ None =
    ap (λ y. latest (λ c. counts x i c && nat_lt y c.address) cs) (sym at)
    ∙ latest_alike (λ c. counts x i c && nat_lt x c.address) (λ c. false) cs (λ c. none_above c.flows (bit_at c.mask i) x c.address) ∙ latest_nothing cs in
    subst (Greatest (counts x i) start cs i) (sym v) (given d first above)

-- where no commit stands at the run's address nothing has changed there
joined : (i : ℕ) (cs : List Commit) (lo x : ℕ) → Empty i cs lo x → latest (is_here x i) cs ≡ None → Empty i cs lo (x + 1)
joined i cs lo x empty n a h g =
    elim (below_or_not a x) [
      | inl k ↦ empty a h k
      | inr k ↦ let e : a ≡ x = omega arith in rw e n
    ]

-- the context at a run's address
before_run : (i : ℕ) (cs : List Commit) (start lo before : ℕ) (r : Run) → lo ≤ r.address → Empty i cs lo r.address → Tells i cs r.address (Some r)
    → Greatest (flows_under lo i) start cs i (bit_at before i) → Greatest (counts r.address i) start cs i (bit_at (merged before r) i)
before_run i cs start lo before r h empty t g =
    elim (bit_cases r.own i) [
      | inr own ↦ let s = bit_some i (latest (is_here r.address i) cs) (bit_at r.own_value i) (sym (told_own r i own) ∙ t.here) in
          at_run i cs start r.address (bit_at (merged before r) i) s.0 s.1 (put_over (passed before r) r.own r.own_value i own ∙ s.2)
      | inl own ↦ elim (bit_cases r.fixed i) [
        | inr fixed ↦ let s = bit_some i (latest (is_here r.address i) cs) (bit_at r.flow i) (sym (told_flow r i own ∙ flow_some r i fixed) ∙ t.here) in
            at_run i cs start r.address (bit_at (merged before r) i) s.0 s.1 (put_under (passed before r) r.own r.own_value i own ∙ put_over before r.fixed r.flow i fixed ∙ s.2)
        | inl fixed ↦
            let n = bit_none i (latest (is_here r.address i) cs) (sym (told_flow r i own ∙ flow_none r i fixed) ∙ t.here) in
            subst (Greatest (counts r.address i) start cs i) (sym (put_under (passed before r) r.own r.own_value i own ∙ put_under before r.fixed r.flow i fixed))
            (settled i cs start lo r.address (bit_at before i) h (joined i cs lo r.address empty n) g)
      ]
    ]

flows_false : (f : Bool) (m x : ℕ) → (f && ((m == 1) && (x == x))) ≡ false → f ≡ true → m ≡ 1 → ⊥
flows_false true m x h f e = grind (arith, nat_tests)
flows_false false m x h f e = absurd (cc)

up_to : (i : ℕ) (cs : List Commit) (lo x : ℕ) (c : Commit) → Empty i cs lo x → latest (flows_here x i) cs ≡ None → Among c cs → c.flows ≡ true → bit_at c.mask i ≡ 1 → (c.address < lo) ⊎ (x + 1 ≤ c.address)
up_to i cs lo x c empty n m f e =
    elim (below_or_not c.address lo) [
      | inl h ↦ inl h
      | inr h ↦ elim (below_or_not c.address x) [
        | inl k ↦ absurd (absent c cs i m (empty c.address h k) e)
        | inr k ↦ elim (below_or_not x c.address) [
          | inl j ↦ inr (omega arith)
          | inr j ↦ let at : x ≡ c.address = omega arith in
              let n2 : latest (flows_here c.address i) cs ≡ None = subst (λ y. latest (flows_here y i) cs ≡ None) at n in
              absurd (flows_false c.flows (bit_at c.mask i) c.address (m (flows_here c.address i) n2) f e)
        ]
      ]
    ]

-- what flows on from a run
behind_run : (i : ℕ) (cs : List Commit) (start lo before : ℕ) (r : Run) → lo ≤ r.address → Empty i cs lo r.address → Tells i cs r.address (Some r)
    → Greatest (flows_under lo i) start cs i (bit_at before i) → Greatest (flows_under (r.address + 1) i) start cs i (bit_at (passed before r) i)
behind_run i cs start lo before r h empty t g =
    elim (bit_cases r.fixed i) [
      | inr fixed ↦ let s = bit_some i (latest (flows_here r.address i) cs) (bit_at r.flow i) (sym (flow_some r i fixed) ∙ t.flow) in
          from_run i cs start r.address (bit_at (passed before r) i) s.0 s.1 (put_over before r.fixed r.flow i fixed ∙ s.2)
      | inl fixed ↦
          let n = bit_none i (latest (flows_here r.address i) cs) (sym (flow_none r i fixed) ∙ t.flow) in
          subst (Greatest (flows_under (r.address + 1) i) start cs i) (sym (put_under before r.fixed r.flow i fixed))
          (raised i cs start lo (r.address + 1) (bit_at before i) (omega arith) (λ c m fl e. up_to i cs lo r.address c empty n m fl e) g)
    ]

pub lt_true : (a b : ℕ) → a < b → nat_lt a b ≡ true
lt_true a b h = grind (arith, nat_tests)

pub lt_false : (a b : ℕ) → b ≤ a → nat_lt a b ≡ false
lt_false a b h = grind (arith, nat_tests)

pub eq_true : (a b : ℕ) → a ≡ b → (a == b) ≡ true
eq_true a b h = grind (arith, nat_tests)

pub eq_false : (a b : ℕ) → (a ≡ b → ⊥) → (a == b) ≡ false
eq_false a b h = grind (arith, nat_tests)

-- ---- trees

-- from an address on up to another one the tree tells all
abbrev TellsFrom : ℕ → List Commit → ℕ → ℕ → Tree → Type 0
TellsFrom i cs lo up t = (a : ℕ) → lo ≤ a → a < up → Tells i cs a (run_at t a)

-- a tree in order has no run below its first or above its last
pub in_order : (t : Tree) → IsSound t → first_of t ≤ last_of t
in_order (Leaf r) h = omega arith
in_order (Fork' p l s q r) h =
    let a = in_order l h.0 in
    let b = in_order r h.1 in
    let low = h.2 in
    let high = h.3 in
    rw (h.4) (omega (arith, a, b, low, high))

pub none_below : (t : Tree) (a : ℕ) → IsSound t → a < first_of t → run_at t a ≡ None
none_below (Leaf r) a h g = rw (eq_false r.address a (λ e. omega arith)) refl
none_below (Fork' p l s q r) a h g =
    let first : s.first ≡ first_of l = ap (λ x. x.first) h.4 in
    let up = in_order l h.0 in
    let low = h.2 in
    let k : a < first_of l = omega (arith, first, g) in
    rw (lt_true a s.split (omega (arith, k, up, low))) (none_below l a h.0 k)

pub none_above_last : (t : Tree) (a : ℕ) → IsSound t → last_of t < a → run_at t a ≡ None
none_above_last (Leaf r) a h g = rw (eq_false r.address a (λ e. omega arith)) refl
none_above_last (Fork' p l s q r) a h g =
    let last : s.last ≡ last_of r = ap (λ x. x.last) h.4 in
    let up = in_order r h.1 in
    let high = h.3 in
    let k : last_of r < a = omega (arith, last, g) in
    rw (lt_false a s.split (omega (arith, k, up, high))) (none_above_last r a h.1 k)

-- where it has no run there are no commits
no_commit : (i : ℕ) (cs : List Commit) (a : ℕ) (o : Option Run) → o ≡ None → Tells i cs a o → latest (is_here a i) cs ≡ None
no_commit i cs a None e t = bit_none i (latest (is_here a i) cs) t.here
no_commit i cs a (Some r) e t = absurd (cc)

no_flow : (i : ℕ) (cs : List Commit) (a : ℕ) (c : Commit) → latest (is_here a i) cs ≡ None → Among c cs → c.address ≡ a → bit_at c.mask i ≡ 1 → ⊥
no_flow i cs a c n m e b = absent c cs i m (subst (λ x. latest (is_here x i) cs ≡ None) (sym e) n) b

-- what flows below an address flows below a greater one, where no commit stands between
lifted : (i : ℕ) (cs : List Commit) (start lo up b : ℕ) → lo ≤ up → Empty i cs lo up → Greatest (flows_under lo i) start cs i b → Greatest (flows_under up i) start cs i b
lifted i cs start lo up b h empty g = raised i cs start lo up b h (λ c m f e.
    elim (below_or_not c.address lo) [
      | inl k ↦ inl k
      | inr k ↦ elim (below_or_not c.address up) [
        | inl j ↦ absurd (absent c cs i m (empty c.address k j) e)
        | inr j ↦ inr j
      ]
    ]) g

-- the sum of a fork flows on as its sides do
sum_bit : (b f g v w : ℕ) → f < 2 → g < 2 → cond (max f g == 1) (cond (g == 1) w v) b ≡ cond (g == 1) w (cond (f == 1) v b)
sum_bit b f g v w h k = grind (arith, nat_tests)

onward_both : (before : ℕ) (l r : Tree) (split i : ℕ)
    → bit_at (put before (sum_of l split r).fixed (sum_of l split r).flow) i ≡ bit_at (onward (onward before l) r) i
onward_both before l r split i =
    put_bit before (sum_of l split r).fixed (sum_of l split r).flow i
    ∙ ap₂ (λ m v. cond (m == 1) v (bit_at before i)) (bit_at_or (fixed_of l) (fixed_of r) i) (put_bit (flow_of l) (fixed_of r) (flow_of r) i)
    ∙ sum_bit (bit_at before i) (bit_at (fixed_of l) i) (bit_at (fixed_of r) i) (bit_at (flow_of l) i) (bit_at (flow_of r) i) (bit_at-lt (fixed_of l) i) (bit_at-lt (fixed_of r) i)
    ∙ sym (put_bit (onward before l) (fixed_of r) (flow_of r) i ∙ ap (λ b. cond (bit_at (fixed_of r) i == 1) (bit_at (flow_of r) i) b) (put_bit before (fixed_of l) (flow_of l) i))

-- a side of a fork tells what the fork does
left_tells : (i : ℕ) (cs : List Commit) (lo up : ℕ) (l r : Tree) (split : ℕ) → ((a : ℕ) → lo ≤ a → a < up → Tells i cs a (cond (nat_lt a split) (run_at l a) (run_at r a)))
    → up ≤ split → TellsFrom i cs lo up l
left_tells i cs lo up l r split t h a low high =
    subst (λ b. Tells i cs a (cond b (run_at l a) (run_at r a))) (lt_true a split (omega arith)) (t a low high)

right_tells : (i : ℕ) (cs : List Commit) (lo up : ℕ) (l r : Tree) (split : ℕ) → ((a : ℕ) → lo ≤ a → a < up → Tells i cs a (cond (nat_lt a split) (run_at l a) (run_at r a)))
    → lo ≤ split → TellsFrom i cs split up r
right_tells i cs lo up l r split t h a low high =
    subst (λ b. Tells i cs a (cond b (run_at l a) (run_at r a))) (lt_false a split low) (t a (omega arith) high)

empty_below : (i : ℕ) (cs : List Commit) (t : Tree) (lo up to : ℕ) → IsSound t → TellsFrom i cs lo up t → to ≤ first_of t → to ≤ up → Empty i cs lo to
empty_below i cs t lo up to h tells g k a low high = no_commit i cs a (run_at t a) (none_below t a h (omega arith)) (tells a low (omega arith))

empty_above : (i : ℕ) (cs : List Commit) (t : Tree) (lo up from : ℕ) → IsSound t → TellsFrom i cs lo up t → last_of t < from → lo ≤ from → Empty i cs from up
empty_above i cs t lo up from h tells g k a low high = no_commit i cs a (run_at t a) (none_above_last t a h (omega arith)) (tells a (omega arith) high)

-- what flows on from a tree, up to an address above it
behind_tree : (i : ℕ) (cs : List Commit) (start : ℕ) (t : Tree) (lo up before : ℕ) → IsSound t → lo ≤ first_of t → last_of t < up → TellsFrom i cs lo up t
    → Greatest (flows_under lo i) start cs i (bit_at before i) → Greatest (flows_under up i) start cs i (bit_at (onward before t) i)
behind_tree i cs start (Leaf r) lo up before h low high tells g =
    let here : Tells i cs r.address (Some r) = subst (λ b. Tells i cs r.address (cond b (Some r) None)) (eq_true r.address r.address refl) (tells r.address low high) in
    let one = behind_run i cs start lo before r low (empty_below i cs (Leaf r) lo up r.address h tells (omega arith) (omega arith)) here g in
    lifted i cs start (r.address + 1) up (bit_at (passed before r) i) (omega arith) (empty_above i cs (Leaf r) lo up (r.address + 1) h tells (omega arith) (omega arith)) one
behind_tree i cs start (Fork' p l s q r) lo up before h low high tells g =
    let first : s.first ≡ first_of l = ap (λ x. x.first) h.4 in
    let last : s.last ≡ last_of r = ap (λ x. x.last) h.4 in
    let a = in_order l h.0 in
    let b = in_order r h.1 in
    let under = h.2 in
    let over = h.3 in
    let from : lo ≤ first_of l = omega (arith, first, low) in
    let to : last_of r < up = omega (arith, last, high) in
    let one = behind_tree i cs start l lo s.split before h.0 from under (left_tells i cs lo s.split l r s.split (λ x j k. tells x j (omega (arith, k, over, b, to))) (omega arith)) g in
    let two = behind_tree i cs start r s.split up (onward before l) h.1 over to (right_tells i cs lo up l r s.split tells (omega (arith, from, a, under))) one in
    subst (Greatest (flows_under up i) start cs i) (sym (ap (λ x. bit_at (put before x.fixed x.flow) i) h.4 ∙ onward_both before l r s.split i)) two

-- what the tree tells at an address is the bit there
pub seen_right : (i : ℕ) (cs : List Commit) (start : ℕ) (t : Tree) (lo before a : ℕ) → IsSound t → lo ≤ first_of t → lo ≤ a → TellsFrom i cs lo (a + 1) t
    → Greatest (flows_under lo i) start cs i (bit_at before i) → Greatest (counts a i) start cs i (bit_at (seen before t a) i)
seen_right i cs start (Leaf r) lo before a h low at tells g =
    elim (below_or_not a r.address) [
      | inl k ↦ rw (lt_true a r.address k) (settled i cs start lo a (bit_at before i) at (empty_below i cs (Leaf r) lo (a + 1) (a + 1) h tells (omega arith) (omega arith)) g)
      | inr k ↦ elim (below_or_not r.address a) [
        | inl m ↦
            let one = behind_tree i cs start (Leaf r) lo (r.address + 1) before h low (omega arith) (λ x j n. tells x j (omega arith)) g in
            rw (lt_false a r.address k, lt_true r.address a m)
            (settled i cs start (r.address + 1) a (bit_at (passed before r) i) (omega arith) (empty_above i cs (Leaf r) lo (a + 1) (r.address + 1) h tells (omega arith) (omega arith)) one)
        | inr m ↦
            let e : r.address ≡ a = omega arith in
            let here : Tells i cs r.address (Some r) = subst (λ b. Tells i cs r.address (cond b (Some r) None)) (eq_true r.address r.address refl) (tells r.address low (omega arith)) in
            rw (lt_false a r.address k, lt_false r.address a m)
            (subst (λ x. Greatest (counts x i) start cs i (bit_at (merged before r) i)) e
            (before_run i cs start lo before r low (empty_below i cs (Leaf r) lo (a + 1) r.address h tells (omega arith) (omega arith)) here g))
      ]
    ]
seen_right i cs start (Fork' p l s q r) lo before a h low at tells g =
    let first : s.first ≡ first_of l = ap (λ x. x.first) h.4 in
    let x = in_order l h.0 in
    let under = h.2 in
    let from : lo ≤ first_of l = omega (arith, first, low) in
    elim (below_or_not a s.first) [
      | inl k ↦ rw (lt_true a s.first k) (settled i cs start lo a (bit_at before i) at (empty_below i cs (Fork' p l s q r) lo (a + 1) (a + 1) h tells (omega arith) (omega arith)) g)
      | inr k ↦ elim (below_or_not s.last a) [
        | inl m ↦
            let one = behind_tree i cs start (Fork' p l s q r) lo (s.last + 1) before h low (omega arith) (λ y j n. tells y j (omega arith)) g in
            rw (lt_false a s.first k, lt_true s.last a m)
            (settled i cs start (s.last + 1) a (bit_at (put before s.fixed s.flow) i) (omega arith)
            (empty_above i cs (Fork' p l s q r) lo (a + 1) (s.last + 1) h tells (omega arith) (let y = in_order (Fork' p l s q r) h in omega (arith, y, low))) one)
        | inr m ↦ elim (below_or_not a s.split) [
          | inl n ↦ rw (lt_false a s.first k, lt_false s.last a m, lt_true a s.split n)
              (seen_right i cs start l lo before a h.0 from at (left_tells i cs lo (a + 1) l r s.split tells (omega arith)) g)
          | inr n ↦
              let one = behind_tree i cs start l lo s.split before h.0 from under (left_tells i cs lo s.split l r s.split (λ y j o. tells y j (omega arith)) (omega arith)) g in
              rw (lt_false a s.first k, lt_false s.last a m, lt_false a s.split n)
              (seen_right i cs start r s.split (onward before l) a h.1 h.3 n (right_tells i cs lo (a + 1) l r s.split tells (omega (arith, from, x, under))) one)
        ]
      ]
    ]

none_under : (f : Bool) (m x : ℕ) → (f && ((m == 1) && nat_lt x 0)) ≡ false
none_under true m x = grind (arith, nat_tests)
none_under false m x = refl

none_flows_under : (i : ℕ) (cs : List Commit) → latest (flows_under 0 i) cs ≡ None
none_flows_under i cs = latest_alike (flows_under 0 i) (λ c. false) cs (λ c. none_under c.flows (bit_at c.mask i) c.address) ∙ latest_nothing cs

-- what a tree that tells all tells at an address is the context there
pub tree_right : (cs : List Commit) (start : ℕ) (t : Tree) (a : ℕ) → IsSound t → TellsAll cs (Some t) → IsContextAt start cs a (seen start t a)
tree_right cs start t a h tells i low =
    seen_right i cs start t 0 start a h (omega arith) (omega arith) (λ x j k. tells i low x) (not_given (none_flows_under i cs))

-- without any run the context is the starting value
pub nothing_right : (cs : List Commit) (start a : ℕ) → TellsAll cs None → IsContextAt start cs a start
nothing_right cs start a tells i low =
    settled i cs start 0 a (bit_at start i) (omega arith) (λ x j k. bit_none i (latest (is_here x i) cs) (tells i low x).here) (not_given (none_flows_under i cs))
