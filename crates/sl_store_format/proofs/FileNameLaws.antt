-- Names of files: their reader is exact, and takes UTF-8.
use Rattle.std.proofs.Common.{◌≡◌, ◌≢◌, ℕ, zero, suc, ◌<◌, ◌≤◌, ◌+◌, ◌-◌, ◌*◌, ◌/◌, ◌%◌, ◌==◌, ◌&&◌, ◌||◌, ◌⊎◌, inl, inr, nat_le, Bool, true, false, if◌then◌else◌, List, [], ◌∷◌, ◌++◌, length, refl, ap, sym, ◌∙◌, subst, arith, append_assoc}
use Rattle.std.specs.Str.{IsUtf8}
use Rattle.std.proofs.Math.Utf8.{scalar, scalars, next, encode, encodes, low_scalar, scalar_cases}
use Rattle.sl_store_format.specs.FileNames.{Due, due, none_due, leads, led, goes_on, then_due, file_name, GoesOn, IsReadName}
use Rattle.sl_store_format.specs.Packed.{IsFileName}
use Rattle.sl_store_bytes.specs.Exact.{Exact}
use Rattle.sl_store_bytes.specs.Lexemes.{write_bytes}
use Rattle.sl_store_bytes.specs.Lists.{AreGood, IsListed}
use Rattle.sl_store_bytes.specs.Numbers.{write_number, greatest}
use Rattle.sl_store_bytes.specs.Reader.{byte}
use Rattle.sl_store_bytes.proofs.Chains.{alone, exact_byte, exact_as, exact_for}
use Rattle.sl_store_bytes.proofs.LexemeLaws.{bytes_are}
use Rattle.sl_store_bytes.proofs.PartLaws.{exact_listed}
use Rattle.sl_store_format.proofs.CharacterLaws.{Scalar, Follows, Shape, of1, of2, of3, of4, shape, order, one, two, three, four, high_scalar}
use Rattle.sl_store_format.proofs.Goods.{and_left, and_right, both_true, le_true, true_le}

le_false : (m n : ℕ) → n < m → nat_le m n ≡ false
le_false m n h = grind arith

eq_true : (m n : ℕ) → m ≡ n → (m == n) ≡ true
eq_true m n h = grind arith

eq_false : (m n : ℕ) → m ≢ n → (m == n) ≡ false
eq_false m n h = grind arith

-- ---- what a first byte asks for

-- the byte, and what follows it
pub data Lead (b : ℕ) : Type 0 where
  lead1 : b ≤ 127 → led b ≡ none_due → Lead b
  lead2 : 128 ≤ b → b ≤ 223 → led b ≡ due 1 128 191 → Lead b
  first3 : b ≡ 224 → led b ≡ due 2 160 191 → Lead b
  last3 : b ≡ 237 → led b ≡ due 2 128 159 → Lead b
  lead3 : 224 < b → b ≢ 237 → b ≤ 239 → led b ≡ due 2 128 191 → Lead b
  first4 : b ≡ 240 → led b ≡ due 3 144 191 → Lead b
  last4 : b ≡ 244 → led b ≡ due 3 128 143 → Lead b
  lead4 : 240 < b → b ≢ 244 → led b ≡ due 3 128 191 → Lead b

led1 : (b : ℕ) → b ≤ 127 → led b ≡ none_due
unfolding led
led1 b h = let e1 = le_true b 127 h in rw e1 refl

led2 : (b : ℕ) → 128 ≤ b → b ≤ 223 → led b ≡ due 1 128 191
unfolding led
led2 b l h = let e1 = le_false b 127 (omega arith) in let e2 = le_true b 223 h in rw (e1, e2) refl

led_first3 : (b : ℕ) → b ≡ 224 → led b ≡ due 2 160 191
unfolding led
led_first3 b e = rw e refl

led_last3 : (b : ℕ) → b ≡ 237 → led b ≡ due 2 128 159
unfolding led
led_last3 b e = rw e refl

led3 : (b : ℕ) → 224 < b → b ≢ 237 → b ≤ 239 → led b ≡ due 2 128 191
unfolding led
led3 b l other h =
    let e1 = le_false b 127 (omega arith) in
    let e2 = le_false b 223 (omega arith) in
    let e3 = eq_false b 224 (λ e. omega arith) in
    let e4 = eq_false b 237 other in
    let e5 = le_true b 239 h in
    rw (e1, e2, e3, e4, e5) refl

led_first4 : (b : ℕ) → b ≡ 240 → led b ≡ due 3 144 191
unfolding led
led_first4 b e = rw e refl

led_last4 : (b : ℕ) → b ≡ 244 → led b ≡ due 3 128 143
unfolding led
led_last4 b e = rw e refl

led4 : (b : ℕ) → 240 < b → b ≢ 244 → led b ≡ due 3 128 191
unfolding led
led4 b l other =
    let e1 = le_false b 127 (omega arith) in
    let e2 = le_false b 223 (omega arith) in
    let e3 = eq_false b 224 (λ e. omega arith) in
    let e4 = eq_false b 237 (λ e. omega arith) in
    let e5 = le_false b 239 (omega arith) in
    let e6 = eq_false b 240 (λ e. omega arith) in
    let e7 = eq_false b 244 other in
    rw (e1, e2, e3, e4, e5, e6, e7) refl

lead : (b : ℕ) → Lead b
lead b = by (order b 128) (order b 224) (order b 225) (order b 237) (order b 238) (order b 240) (order b 241) (order b 244) (order b 245)
  where
    by : (b < 128) ⊎ (128 ≤ b) → (b < 224) ⊎ (224 ≤ b) → (b < 225) ⊎ (225 ≤ b) → (b < 237) ⊎ (237 ≤ b) → (b < 238) ⊎ (238 ≤ b) → (b < 240) ⊎ (240 ≤ b) → (b < 241) ⊎ (241 ≤ b)
        → (b < 244) ⊎ (244 ≤ b) → (b < 245) ⊎ (245 ≤ b) → Lead b
    by (inl h) h1 h2 h3 h4 h5 h6 h7 h8 = lead1 (omega arith) (led1 b (omega arith))
    by (inr l) (inl h) h2 h3 h4 h5 h6 h7 h8 = lead2 l (omega arith) (led2 b l (omega arith))
    by (inr l) (inr l1) (inl h) h3 h4 h5 h6 h7 h8 = first3 (omega arith) (led_first3 b (omega arith))
    by (inr l) (inr l1) (inr l2) (inl h) h4 h5 h6 h7 h8 = lead3 (omega arith) (λ e. omega arith) (omega arith) (led3 b (omega arith) (λ e. omega arith) (omega arith))
    by (inr l) (inr l1) (inr l2) (inr l3) (inl h) h5 h6 h7 h8 = last3 (omega arith) (led_last3 b (omega arith))
    by (inr l) (inr l1) (inr l2) (inr l3) (inr l4) (inl h) h6 h7 h8 = lead3 (omega arith) (λ e. omega arith) (omega arith) (led3 b (omega arith) (λ e. omega arith) (omega arith))
    by (inr l) (inr l1) (inr l2) (inr l3) (inr l4) (inr l5) (inl h) h7 h8 = first4 (omega arith) (led_first4 b (omega arith))
    by (inr l) (inr l1) (inr l2) (inr l3) (inr l4) (inr l5) (inr l6) (inl h) h8 = lead4 (omega arith) (λ e. omega arith) (led4 b (omega arith) (λ e. omega arith))
    by (inr l) (inr l1) (inr l2) (inr l3) (inr l4) (inr l5) (inr l6) (inr l7) (inl h) = last4 (omega arith) (led_last4 b (omega arith))
    by (inr l) (inr l1) (inr l2) (inr l3) (inr l4) (inr l5) (inr l6) (inr l7) (inr l8) = lead4 (omega arith) (λ e. omega arith) (led4 b (omega arith) (λ e. omega arith))

-- ---- the reader is exact

pub record Fine (n : ℕ) (s : Due) : Type 0 where
  pub fits : s.owed ≤ n
  pub some : s.low ≤ s.high

none_fine : (n : ℕ) → Fine n none_due
none_fine n = record { fits = omega arith; some = omega arith }

led_some : (b : ℕ) → (led b).low ≤ (led b).high
led_some b = by (lead b) where
  by : Lead b → (led b).low ≤ (led b).high
  by (lead1 h e) = rw e (omega arith)
  by (lead2 l h e) = rw e (omega arith)
  by (first3 h e) = rw e (omega arith)
  by (last3 h e) = rw e (omega arith)
  by (lead3 l o h e) = rw e (omega arith)
  by (first4 h e) = rw e (omega arith)
  by (last4 h e) = rw e (omega arith)
  by (lead4 l o e) = rw e (omega arith)

-- at the beginning of a character
goes_first : (n : ℕ) (s : Due) (b : ℕ) → s.owed ≡ 0 → goes_on n s b ≡ leads b && nat_le (led b).owed n
unfolding goes_on
goes_first n s b e = let on = eq_true s.owed 0 e in rw on refl

goes_inside : (n : ℕ) (s : Due) (b : ℕ) → s.owed ≢ 0 → goes_on n s b ≡ nat_le s.low b && nat_le b s.high
unfolding goes_on
goes_inside n s b e = let off = eq_false s.owed 0 e in rw off refl

then_first : (s : Due) (b : ℕ) → s.owed ≡ 0 → then_due s b ≡ led b
unfolding then_due
then_first s b e = let on = eq_true s.owed 0 e in rw on refl

then_inside : (s : Due) (b : ℕ) → s.owed ≢ 0 → then_due s b ≡ due (s.owed - 1) 128 191
unfolding then_due
then_inside s b e = let off = eq_false s.owed 0 e in rw off refl

zero_or : (n : ℕ) → (n ≡ 0) ⊎ (n ≢ 0)
zero_or zero = inl refl
zero_or (suc n) = inr (λ e. omega arith)

zero_leads : (n : ℕ) → leads 0 && nat_le (led 0).owed n ≡ true
zero_leads n = let e = led1 0 (omega arith) in let low = le_true 0 n (omega arith) in rw (e, low) refl

some_byte : (n : ℕ) (s : Due) → Fine (suc n) s → Exact alone (GoesOn n s) (byte (goes_on n s))
some_byte n s fine = by (zero_or s.owed) where
  by : (s.owed ≡ 0) ⊎ (s.owed ≢ 0) → Exact alone (GoesOn n s) (byte (goes_on n s))
  by (inl e) = exact_byte (goes_on n s) 0 (goes_first n s 0 e ∙ zero_leads n)
  by (inr e) = exact_byte (goes_on n s) s.low (goes_inside n s s.low e ∙ both_true (nat_le s.low s.low) (nat_le s.low s.high) (le_true s.low s.low (omega arith)) (le_true s.low s.high fine.some))

keeps : (n : ℕ) (s : Due) (b : ℕ) → Fine (suc n) s → GoesOn n s b → Fine n (then_due s b)
keeps n s b fine on = by (zero_or s.owed) where
  by : (s.owed ≡ 0) ⊎ (s.owed ≢ 0) → Fine n (then_due s b)
  by (inl e) = subst (Fine n) (sym (then_first s b e))
      (record { fits = true_le (led b).owed n (and_right (leads b) (nat_le (led b).owed n) (sym (goes_first n s b e) ∙ on)); some = led_some b })
  by (inr e) = let fits = fine.fits in subst (Fine n) (sym (then_inside s b e)) (record { fits = omega arith; some = omega arith })

exact_read : Exact write_bytes IsReadName file_name
unfolding file_name
exact_read = exact_as
    (exact_listed 0 greatest (omega arith) (omega arith) (omega arith) GoesOn (λ left s. byte (goes_on left s)) then_due Fine some_byte keeps none_due (λ n within. none_fine n))
    (λ w. ap (λ zs. write_number (length w) ++ zs) (bytes_are w))

-- ---- what is read is UTF-8

leads_one : (c : ℕ) → c < 128 → leads c ≡ true
leads_one c h = grind arith

leads_more : (b : ℕ) → 194 ≤ b → b ≤ 244 → leads b ≡ true
leads_more b l h = grind arith

led_by : (b : ℕ) → leads b ≡ true → (b ≤ 127) ⊎ ((194 ≤ b) × (b ≤ 244))
led_by b on = by (order b 128) where
  by : (b < 128) ⊎ (128 ≤ b) → (b ≤ 127) ⊎ ((194 ≤ b) × (b ≤ 244))
  by (inl h) = inl (omega arith)
  by (inr l) = inr (grind arith)

-- a character in front of UTF-8
in_front : (c : ℕ) (bs : List ℕ) → scalar c ≡ true → IsUtf8 bs → IsUtf8 (encode c ++ bs)
in_front c bs s u = (c ∷ u.0, (both_true (scalar c) (scalars u.0) s u.1.0, ap (λ zs. encode c ++ zs) u.1.1))

front_of : (c : ℕ) (front bs : List ℕ) → scalar c ≡ true → encode c ≡ front → IsUtf8 bs → IsUtf8 (front ++ bs)
front_of c front bs s e u = subst (λ zs. IsUtf8 (zs ++ bs)) e (in_front c bs s u)

scalar_by : (c : ℕ) → (c < 55296) ⊎ (57344 ≤ c) → c < 1114112 → scalar c ≡ true
scalar_by c (inl h) t = low_scalar c h
scalar_by c (inr l) t = high_scalar c l t

two_text : (x y : ℕ) (bs : List ℕ) → 194 ≤ x → x ≤ 223 → 128 ≤ y → y ≤ 191 → IsUtf8 bs → IsUtf8 (x ∷ y ∷ bs)
two_text x y bs l h l1 h1 u =
    let c = (x - 192) * 64 + (y - 128) in
    let p : 192 + c / 64 ≡ x = omega arith in
    let q : next c ≡ y = omega arith in
    front_of c (x ∷ y ∷ []) bs (low_scalar c (omega arith)) (two c (omega arith) (omega arith) ∙ ap (λ a. a ∷ next c ∷ []) p ∙ ap (λ b. x ∷ b ∷ []) q) u

three_text : (x y z : ℕ) (bs : List ℕ) → 224 ≤ x → x ≤ 239 → 128 ≤ y → y ≤ 191 → 128 ≤ z → z ≤ 191
    → let c = (x - 224) * 4096 + (y - 128) * 64 + (z - 128) in 2048 ≤ c → (c < 55296) ⊎ (57344 ≤ c) → IsUtf8 bs → IsUtf8 (x ∷ y ∷ z ∷ bs)
three_text x y z bs l h l1 h1 l2 h2 low s u =
    let c = (x - 224) * 4096 + (y - 128) * 64 + (z - 128) in
    let p : 224 + c / 4096 ≡ x = omega arith in
    let q : next (c / 64) ≡ y = omega arith in
    let r : next c ≡ z = omega arith in
    front_of c (x ∷ y ∷ z ∷ []) bs (scalar_by c s (omega arith)) (three c low (omega arith) ∙ ap (λ a. a ∷ next (c / 64) ∷ next c ∷ []) p ∙ ap (λ b. x ∷ b ∷ next c ∷ []) q ∙ ap (λ d. x ∷ y ∷ d ∷ []) r) u

four_text : (x y z w : ℕ) (bs : List ℕ) → 240 ≤ x → x ≤ 244 → 128 ≤ y → y ≤ 191 → 128 ≤ z → z ≤ 191 → 128 ≤ w → w ≤ 191
    → let c = (x - 240) * 262144 + (y - 128) * 4096 + (z - 128) * 64 + (w - 128) in 65536 ≤ c → c < 1114112 → IsUtf8 bs → IsUtf8 (x ∷ y ∷ z ∷ w ∷ bs)
four_text x y z w bs l h l1 h1 l2 h2 l3 h3 low top u =
    let c = (x - 240) * 262144 + (y - 128) * 4096 + (z - 128) * 64 + (w - 128) in
    let p : 240 + c / 262144 ≡ x = omega arith in
    let q : next (c / 4096) ≡ y = omega arith in
    let r : next (c / 64) ≡ z = omega arith in
    let t : next c ≡ w = omega arith in
    front_of c (x ∷ y ∷ z ∷ w ∷ []) bs (scalar_by c (inr (omega arith)) top)
    (four c low ∙ ap (λ a. a ∷ next (c / 4096) ∷ next (c / 64) ∷ next c ∷ []) p ∙ ap (λ b. x ∷ b ∷ next (c / 64) ∷ next c ∷ []) q ∙ ap (λ d. x ∷ y ∷ d ∷ next c ∷ []) r ∙ ap (λ e. x ∷ y ∷ z ∷ e ∷ []) t) u

abbrev Runs : ℕ → Due → List ℕ → Type 0
Runs = AreGood GoesOn then_due

-- one byte more inside a character
pub record Inside (n l h : ℕ) (bs : List ℕ) : Type 0 where
  pub head : ℕ
  pub tail : List ℕ
  pub is : bs ≡ head ∷ tail
  pub low : l ≤ head
  pub high : head ≤ h
  pub count : ℕ
  pub others : Runs count (due n 128 191) tail
  pub fewer : length tail < length bs

inside : (count n l h : ℕ) (bs : List ℕ) → Runs count (due (suc n) l h) bs → suc n ≤ count → Inside n l h bs
inside zero n l h bs run fits = absurd (omega arith)
inside (suc count) n l h [] run fits = absurd run
inside (suc count) n l h (b ∷ bs) run fits =
    let other : suc n ≢ 0 = λ e. omega arith in
    let on : (nat_le l b && nat_le b h) ≡ true = sym (goes_inside count (due (suc n) l h) b other) ∙ run.0 in
    let left : suc n - 1 ≡ n = omega arith in
    record {
      head = b;
      tail = bs;
      is = refl;
      low = true_le l b (and_left (nat_le l b) (nat_le b h) on);
      high = true_le b h (and_right (nat_le l b) (nat_le b h) on);
      count = count;
      others = subst (λ s. Runs count s bs) (then_inside (due (suc n) l h) b other ∙ ap (λ k. due k 128 191) left) run.1;
      fewer = omega arith;
    }

-- a run is as long as it says
run_long : (n : ℕ) (s : Due) (bs : List ℕ) → Runs n s bs → n ≡ length bs
run_long zero s [] run = refl
run_long zero s (b ∷ bs) run = absurd run
run_long (suc n) s [] run = absurd run
run_long (suc n) s (b ∷ bs) run = ap suc (run_long n (then_due s b) bs run.1)

-- the two last bytes of three
pub record TwoLeft (l h : ℕ) (bs : List ℕ) : Type 0 where
  pub first : ℕ
  pub second : ℕ
  pub rest : List ℕ
  pub is : bs ≡ first ∷ second ∷ rest
  pub low : l ≤ first
  pub high : first ≤ h
  pub low2 : 128 ≤ second
  pub high2 : second ≤ 191
  pub count : ℕ
  pub others : Runs count none_due rest
  pub fewer : length rest < length bs

two_left : (n l h : ℕ) (bs : List ℕ) → Runs n (due 2 l h) bs → 2 ≤ n → TwoLeft l h bs
two_left n l h bs run fits =
    let i = inside n 1 l h bs run (omega arith) in
    let long = run_long n (due 2 l h) bs run in
    let long1 = run_long i.count (due 1 128 191) i.tail i.others in
    let is : length bs ≡ suc (length i.tail) = ap length i.is in
    let j = inside i.count 0 128 191 i.tail i.others (omega arith) in
    let less = i.fewer in
    let less1 = j.fewer in
    record {
      first = i.head;
      second = j.head;
      rest = j.tail;
      is = i.is ∙ ap (λ zs. i.head ∷ zs) j.is;
      low = i.low;
      high = i.high;
      low2 = j.low;
      high2 = j.high;
      count = j.count;
      others = j.others;
      fewer = omega arith;
    }

-- the three last bytes of four
pub record ThreeLeft (l h : ℕ) (bs : List ℕ) : Type 0 where
  pub first : ℕ
  pub low : l ≤ first
  pub high : first ≤ h
  pub tail : List ℕ
  pub is : bs ≡ first ∷ tail
  pub two : TwoLeft 128 191 tail
  pub fewer : length tail < length bs

three_left : (n l h : ℕ) (bs : List ℕ) → Runs n (due 3 l h) bs → 3 ≤ n → ThreeLeft l h bs
three_left n l h bs run fits =
    let i = inside n 2 l h bs run (omega arith) in
    let long = run_long n (due 3 l h) bs run in
    let long1 = run_long i.count (due 2 128 191) i.tail i.others in
    let is : length bs ≡ suc (length i.tail) = ap length i.is in
    record { first = i.head; low = i.low; high = i.high; tail = i.tail; is = i.is; two = two_left i.count 128 191 i.tail i.others (omega arith); fewer = i.fewer }

-- the text of what is left of a name, where shorter ones are UTF-8
module _ (b n : ℕ) (bs : List ℕ) (on : leads b ≡ true) (fits : (led b).owed ≤ n) (run : Runs n (led b) bs) (shorter : (m : ℕ) (cs : List ℕ) → length cs ≤ length bs → Runs m none_due cs → IsUtf8 cs) where
  three_front : (l h : ℕ) → led b ≡ due 2 l h → ((y z : ℕ) (rest : List ℕ) → l ≤ y → y ≤ h → 128 ≤ z → z ≤ 191 → IsUtf8 rest → IsUtf8 (b ∷ y ∷ z ∷ rest)) → IsUtf8 (b ∷ bs)
  three_front l h e make =
      let two : 2 ≤ n = subst (λ (s : Due). s.owed ≤ n) e fits in
      let t = two_left n l h bs (subst (λ s. Runs n s bs) e run) two in
      let less = t.fewer in
      subst (λ zs. IsUtf8 (b ∷ zs)) (sym t.is) (make t.first t.second t.rest t.low t.high t.low2 t.high2 (shorter t.count t.rest (omega arith) t.others))

  four_front : (l h : ℕ) → led b ≡ due 3 l h → ((y z w : ℕ) (rest : List ℕ) → l ≤ y → y ≤ h → 128 ≤ z → z ≤ 191 → 128 ≤ w → w ≤ 191 → IsUtf8 rest → IsUtf8 (b ∷ y ∷ z ∷ w ∷ rest)) → IsUtf8 (b ∷ bs)
  four_front l h e make =
      let three : 3 ≤ n = subst (λ (s : Due). s.owed ≤ n) e fits in
      let q = three_left n l h bs (subst (λ s. Runs n s bs) e run) three in
      let t = q.two in
      let less = t.fewer in
      let less1 = q.fewer in
      subst (λ zs. IsUtf8 (b ∷ zs)) (sym (q.is ∙ ap (λ zs. q.first ∷ zs) t.is)) (make q.first t.first t.second t.rest q.low q.high t.low t.high t.low2 t.high2 (shorter t.count t.rest (omega arith) t.others))

  one_front : b ≤ 127 → led b ≡ none_due → IsUtf8 (b ∷ bs)
  one_front h e = front_of b (b ∷ []) bs (low_scalar b (omega arith)) (one b (omega arith)) (shorter n bs (omega arith) (subst (λ s. Runs n s bs) e run))

  more_leads : 128 ≤ b → (194 ≤ b) × (b ≤ 244)
  more_leads l = by (led_by b on) where
    by : (b ≤ 127) ⊎ ((194 ≤ b) × (b ≤ 244)) → (194 ≤ b) × (b ≤ 244)
    by (inl h) = absurd (omega arith)
    by (inr h) = h

  two_front : 128 ≤ b → b ≤ 223 → led b ≡ due 1 128 191 → IsUtf8 (b ∷ bs)
  two_front l h e =
      let fit : 1 ≤ n = subst (λ (s : Due). s.owed ≤ n) e fits in
      let i = inside n 0 128 191 bs (subst (λ s. Runs n s bs) e run) fit in
      let less = i.fewer in
      let range = more_leads l in
      subst (λ zs. IsUtf8 (b ∷ zs)) (sym i.is) (two_text b i.head i.tail range.0 h i.low i.high (shorter i.count i.tail (omega arith) i.others))

  by_lead : Lead b → IsUtf8 (b ∷ bs)
  by_lead (lead1 h e) = one_front h e
  by_lead (lead2 l h e) = two_front l h e
  by_lead (first3 h e) = three_front 160 191 e (λ y z rest l1 h1 l2 h2 u. three_text b y z rest (omega arith) (omega arith) (omega arith) h1 l2 h2 (omega arith) (inl (omega arith)) u)
  by_lead (last3 h e) = three_front 128 159 e (λ y z rest l1 h1 l2 h2 u. three_text b y z rest (omega arith) (omega arith) l1 (omega arith) l2 h2 (omega arith) (inl (omega arith)) u)
  by_lead (lead3 l o h e) = three_front 128 191 e (λ y z rest l1 h1 l2 h2 u. three_text b y z rest (omega arith) h l1 h1 l2 h2 (omega arith) (side y z l1 h1 l2 h2 (order b 238)) u) where
    side : (y z : ℕ) → 128 ≤ y → y ≤ 191 → 128 ≤ z → z ≤ 191 → (b < 238) ⊎ (238 ≤ b)
        → ((b - 224) * 4096 + (y - 128) * 64 + (z - 128) < 55296) ⊎ (57344 ≤ (b - 224) * 4096 + (y - 128) * 64 + (z - 128))
    side y z l1 h1 l2 h2 (inl low) = let less : b ≤ 236 = grind arith in inl (omega arith)
    side y z l1 h1 l2 h2 (inr high) = inr (omega arith)
  by_lead (first4 h e) = four_front 144 191 e (λ y z w rest l1 h1 l2 h2 l3 h3 u. four_text b y z w rest (omega arith) (omega arith) (omega arith) h1 l2 h2 l3 h3 (omega arith) (omega arith) u)
  by_lead (last4 h e) = four_front 128 143 e (λ y z w rest l1 h1 l2 h2 l3 h3 u. four_text b y z w rest (omega arith) (omega arith) l1 (omega arith) l2 h2 l3 h3 (omega arith) (omega arith) u)
  by_lead (lead4 l o e) = let top = (more_leads (omega arith)).1 in let less : b ≤ 243 = grind arith in
      four_front 128 191 e (λ y z w rest l1 h1 l2 h2 l3 h3 u. four_text b y z w rest (omega arith) top l1 h1 l2 h2 l3 h3 (omega arith) (omega arith) u)

run_text : (fuel n : ℕ) (bs : List ℕ) → length bs < fuel → Runs n none_due bs → IsUtf8 bs
run_text zero n bs less run = absurd (omega arith)
run_text (suc fuel) n [] less run = ([], (refl, refl))
run_text (suc fuel) zero (b ∷ bs) less run = absurd run
run_text (suc fuel) (suc n) (b ∷ bs) less run =
    let on : (leads b && nat_le (led b).owed n) ≡ true = sym (goes_first n none_due b refl) ∙ run.0 in
    by_lead b n bs (and_left (leads b) (nat_le (led b).owed n) on) (true_le (led b).owed n (and_right (leads b) (nat_le (led b).owed n) on))
    (subst (λ s. Runs n s bs) (then_first none_due b refl) run.1) (λ m cs h r. run_text fuel m cs (omega arith) r) (lead b)

-- ---- UTF-8 is read

inside_run : (count n l h b : ℕ) (bs : List ℕ) → l ≤ b → b ≤ h → Runs count (due n 128 191) bs → Runs (suc count) (due (suc n) l h) (b ∷ bs)
inside_run count n l h b bs low high run =
    let other : suc n ≢ 0 = λ e. omega arith in
    let left : n ≡ suc n - 1 = omega arith in (
      goes_inside count (due (suc n) l h) b other ∙ both_true (nat_le l b) (nat_le b h) (le_true l b low) (le_true b h high),
      subst (λ s. Runs count s bs) (ap (λ k. due k 128 191) left ∙ sym (then_inside (due (suc n) l h) b other)) run,
    )

first_run : (count b : ℕ) (s : Due) (bs : List ℕ) → leads b ≡ true → led b ≡ s → s.owed ≤ count → Runs count s bs → Runs (suc count) none_due (b ∷ bs)
first_run count b s bs on e fits run = (
  goes_first count none_due b refl ∙ both_true (leads b) (nat_le (led b).owed count) on (ap (λ (t : Due). nat_le t.owed count) e ∙ le_true s.owed count fits),
  subst (λ t. Runs count t bs) (sym (then_first none_due b refl ∙ e)) run,
)

module _ (c : ℕ) (rest : List ℕ) (run : Runs (length rest) none_due rest) (sc : Scalar c) where
  abbrev Ran : List ℕ → Type 0
  Ran bs = Runs (length bs) none_due bs

  top : Scalar c → c < 1114112
  top (inl h) = omega arith
  top (inr h) = h.1

  past1 : (a b : ℕ) (bs : List ℕ) → encode c ≡ a ∷ b ∷ bs → 128 ≤ c
  past1 a b bs e = by (order c 128) where
    by : (c < 128) ⊎ (128 ≤ c) → 128 ≤ c
    by (inl h) = let same : c ∷ [] ≡ a ∷ b ∷ bs = sym (one c h) ∙ e in let long : 1 ≡ suc (suc (length bs)) = ap length same in absurd (omega arith)
    by (inr l) = l

  past2 : (a b d : ℕ) (bs : List ℕ) → encode c ≡ a ∷ b ∷ d ∷ bs → 2048 ≤ c
  past2 a b d bs e = by (order c 2048) where
    by : (c < 2048) ⊎ (2048 ≤ c) → 2048 ≤ c
    by (inl h) =
        let same = sym (two c (past1 a b (d ∷ bs) e) h) ∙ e in
        let long : 2 ≡ suc (suc (suc (length bs))) = ap length same in absurd (omega arith)
    by (inr l) = l

  past3 : (a b d x : ℕ) (bs : List ℕ) → encode c ≡ a ∷ b ∷ d ∷ x ∷ bs → 65536 ≤ c
  past3 a b d x bs e = by (order c 65536) where
    by : (c < 65536) ⊎ (65536 ≤ c) → 65536 ≤ c
    by (inl h) =
        let same = sym (three c (past2 a b d (x ∷ bs) e) h) ∙ e in
        let long : 3 ≡ suc (suc (suc (suc (length bs)))) = ap length same in absurd (omega arith)
    by (inr l) = l

  three_runs : (a b d l h : ℕ) → led a ≡ due 2 l h → leads a ≡ true → l ≤ b → b ≤ h → 128 ≤ d → d ≤ 191 → Ran (a ∷ b ∷ d ∷ rest)
  three_runs a b d l h e on low high low2 high2 = first_run (suc (suc (length rest))) a (due 2 l h) (b ∷ d ∷ rest) on e (omega arith)
      (inside_run (suc (length rest)) 1 l h b (d ∷ rest) low high (inside_run (length rest) 0 128 191 d rest low2 high2 run))

  four_runs : (a b d x l h : ℕ) → led a ≡ due 3 l h → leads a ≡ true → l ≤ b → b ≤ h → 128 ≤ d → d ≤ 191 → 128 ≤ x → x ≤ 191 → Ran (a ∷ b ∷ d ∷ x ∷ rest)
  four_runs a b d x l h e on low high low2 high2 low3 high3 = first_run (suc (suc (suc (length rest)))) a (due 3 l h) (b ∷ d ∷ x ∷ rest) on e (omega arith)
      (inside_run (suc (suc (length rest))) 2 l h b (d ∷ x ∷ rest) low high (inside_run (suc (length rest)) 1 128 191 d (x ∷ rest) low2 high2 (inside_run (length rest) 0 128 191 x rest low3 high3 run)))

  three_by : (a b d : ℕ) → 224 ≤ a → a < 240 → Follows b → Follows d → c + 925824 ≡ a * 4096 + b * 64 + d → 2048 ≤ c → Scalar c → Lead a → Ran (a ∷ b ∷ d ∷ rest)
  three_by a b d l u f g s least sc (lead1 h e) = absurd (omega arith)
  three_by a b d l u f g s least sc (lead2 l1 h e) = absurd (omega arith)
  three_by a b d l u f g s least sc (first3 h e) = three_runs a b d 160 191 e (leads_more a (omega arith) (omega arith)) (omega (arith, f, g)) (omega (arith, f)) g.0 (omega (arith, g))
  three_by a b d l u f g s least (inl low) (last3 h e) = three_runs a b d 128 159 e (leads_more a (omega arith) (omega arith)) f.0 (omega (arith, f, g)) g.0 (omega (arith, g))
  three_by a b d l u f g s least (inr high) (last3 h e) = absurd (omega (arith, f, g, high))
  three_by a b d l u f g s least sc (lead3 l1 o h e) = three_runs a b d 128 191 e (leads_more a (omega arith) (omega arith)) f.0 (omega (arith, f)) g.0 (omega (arith, g))
  three_by a b d l u f g s least sc (first4 h e) = absurd (omega arith)
  three_by a b d l u f g s least sc (last4 h e) = absurd (omega arith)
  three_by a b d l u f g s least sc (lead4 l1 o e) = absurd (omega arith)

  four_by : (a b d x : ℕ) → 240 ≤ a → Follows b → Follows d → Follows x → c + 63447168 ≡ a * 262144 + b * 4096 + d * 64 + x → 65536 ≤ c → c < 1114112 → Lead a → Ran (a ∷ b ∷ d ∷ x ∷ rest)
  four_by a b d x l f g k s least most (lead1 h e) = absurd (omega arith)
  four_by a b d x l f g k s least most (lead2 l1 h e) = absurd (omega arith)
  four_by a b d x l f g k s least most (first3 h e) = absurd (omega arith)
  four_by a b d x l f g k s least most (last3 h e) = absurd (omega arith)
  four_by a b d x l f g k s least most (lead3 l1 o h e) = absurd (omega arith)
  four_by a b d x l f g k s least most (first4 h e) =
      four_runs a b d x 144 191 e (leads_more a (omega arith) (omega arith)) (omega (arith, f, g, k)) (omega (arith, f)) g.0 (omega (arith, g)) k.0 (omega (arith, k))
  four_by a b d x l f g k s least most (last4 h e) =
      four_runs a b d x 128 143 e (leads_more a (omega arith) (omega arith)) f.0 (omega (arith, f, g, k)) g.0 (omega (arith, g)) k.0 (omega (arith, k))
  four_by a b d x l f g k s least most (lead4 l1 o e) =
      four_runs a b d x 128 191 e (leads_more a (omega arith) (omega (arith, f, g, k))) f.0 (omega (arith, f)) g.0 (omega (arith, g)) k.0 (omega (arith, k))

  shape_runs : Shape c → Ran (encode c ++ rest)
  shape_runs (of1 h e) = subst (λ p. Ran (p ++ rest)) (sym e) (first_run (length rest) c none_due rest (leads_one c h) (led1 c (omega arith)) (omega arith) run)
  shape_runs (of2 a b l u f s e) =
      let least = past1 a b [] e in
      subst (λ p. Ran (p ++ rest)) (sym e) (first_run (suc (length rest)) a (due 1 128 191) (b ∷ rest) (leads_more a (omega (arith, f)) (omega arith)) (led2 a (omega arith) (omega arith)) (omega arith)
      (inside_run (length rest) 0 128 191 b rest f.0 (omega (arith, f)) run))
  shape_runs (of3 a b d l u f g s e) = subst (λ p. Ran (p ++ rest)) (sym e) (three_by a b d l u f g s (past2 a b d [] e) sc (lead a))
  shape_runs (of4 a b d x l u f g k s e) = subst (λ p. Ran (p ++ rest)) (sym e) (four_by a b d x l f g k s (past3 a b d x [] e) (top sc) (lead a))

text_runs : (cs : List ℕ) → scalars cs ≡ true → Runs (length (encodes cs)) none_due (encodes cs)
text_runs [] on = tt
text_runs (c ∷ cs) on =
    let sc = scalar_cases c (and_left (scalar c) (scalars cs) on) in
    shape_runs c (encodes cs) (text_runs cs (and_right (scalar c) (scalars cs) on)) sc (shape c sc)

read_name : (name : List ℕ) → IsReadName name → IsFileName name
read_name name read = (run_text (suc (length name)) (length name) name (omega arith) read.good, read.long.high)

name_read : (name : List ℕ) → IsFileName name → IsReadName name
name_read name good = record {
  long = record { low = omega arith; high = good.1 };
  good = subst (λ bs. Runs (length bs) none_due bs) good.0.1.1 (text_runs good.0.0 good.0.1.0);
}

pub exact_file_name : Exact write_bytes IsFileName file_name
exact_file_name = exact_for exact_read read_name name_read
