-- A reader is exact where it takes the bytes of each good value and nothing else, and is steady.
use Rattle.std.proofs.Common.{◌≡◌, ◌≢◌, ℕ, suc, ◌==◌, Bool, true, false, if◌then◌else◌, List, [], ◌∷◌, ◌++◌, length, Option, None, Some, Ok, Err, refl, ap, sym, ◌∙◌, subst, arith, append_assoc, append-nil}
use Rattle.sl_store_bytes.specs.Exact.{Steady, Spelt, Exact, AreApart}
use Rattle.sl_store_bytes.specs.Reader.{cut, damaged, Outcome, Reader, ◌>>=◌, pure, choose, if_passes, byte}
use Rattle.sl_store_bytes.proofs.Steady.{steady_pure, steady_then, steady_choose, choose_yes, choose_no, choose_cut, choose_took, then_ok, then_err, same_rest, same_value}

-- Behind these bytes the reader takes what completes the bytes of a good value, and is steady.
pub record Behind {A : Type 0} (write : A → List ℕ) (Good : A → Type 0) (front : List ℕ) (p : Reader A) : Type 0 where
  pub sound : (xs rest : List ℕ) (a : A) → p xs ≡ Ok (a, rest) → Spelt write Good (front ++ xs) a rest
  pub steady : Steady p

-- ---- the chain of a rule: its parts one behind the other, and then the tree

pub behind_done : {A : Type 0} (write : A → List ℕ) (Good : A → Type 0) (front : List ℕ) (a : A) → Good a → front ≡ write a → Behind write Good front (pure a)
behind_done write Good front a good e = record {
  sound = λ xs rest b h. (let same : a ≡ b = same_value h in
      record { good = subst Good same good; bytes = ap (λ zs. front ++ zs) (same_rest h) ∙ ap (λ zs. zs ++ rest) (e ∙ ap write same) });
  steady = steady_pure a;
}

module _ {A B : Type 0} (write : A → List ℕ) (Good : A → Type 0) (front : List ℕ) {part : B → List ℕ} {Fit : B → Type 0} {p : Reader B} (exact : Exact part Fit p)
    (q : B → Reader A) (behind : (b : B) → Fit b → Behind write Good (front ++ part b) (q b)) where
  behind_sound : (xs : List ℕ) (o : Outcome B) → p xs ≡ o → (rest : List ℕ) (a : A) → (p >>= q) xs ≡ Ok (a, rest) → Spelt write Good (front ++ xs) a rest
  behind_sound xs (Ok (b, mid)) e rest a h =
      let first = exact.sound xs mid b e in
      let s = (behind b first.good).sound mid rest a (sym (then_ok p q xs mid b e) ∙ h) in
      record { good = s.good; bytes = ap (λ zs. front ++ zs) first.bytes ∙ sym (append_assoc front (part b) mid) ∙ s.bytes }
  behind_sound xs (Err f) e rest a h = let same = then_err p q xs f e in absurd (cc)

  pub behind_then : Behind write Good front (p >>= q)
  behind_then = record {
    sound = λ xs rest a h. behind_sound xs (p xs) refl rest a h;
    steady = steady_then p q exact.steady Fit (λ xs rest b e. (exact.sound xs rest b e).good) (λ b good. (behind b good).steady);
  }

-- the last part, as it is
pub behind_end : {A : Type 0} (write : A → List ℕ) (Good : A → Type 0) (front : List ℕ) {part : A → List ℕ} {Fit : A → Type 0} {p : Reader A} → Exact part Fit p
    → ((a : A) → Fit a → Good a × (front ++ part a ≡ write a)) → Behind write Good front p
behind_end write Good front {part} exact last = record {
  sound = λ xs rest a e. (let s = exact.sound xs rest a e in let l = last a s.good in
      record { good = l.0; bytes = ap (λ zs. front ++ zs) s.bytes ∙ sym (append_assoc front (part a) rest) ∙ ap (λ zs. zs ++ rest) l.1 });
  steady = exact.steady;
}

-- ---- the byte of an alternative

test_yes : {A : Type 0} (b n : ℕ) (p q : A) → b ≡ n → (if b == n then p else q) ≡ p
test_yes b n p q e = rw e (grind arith)

branch : {A : Type 0} (write : A → List ℕ) (Good : A → Type 0) (front : List ℕ) (b n : ℕ) (v : Bool) → (b == n) ≡ v → (p q : Reader A)
    → (n ≡ b → Behind write Good (front ++ n ∷ []) p) → (b ≢ n → Behind write Good (front ++ b ∷ []) q) → Behind write Good (front ++ b ∷ []) (if v then p else q)
branch write Good front b n true e p q this other = let same : n ≡ b = grind arith in subst (λ k. Behind write Good (front ++ k ∷ []) p) same (this same)
branch write Good front b n false e p q this other = other (λ same. grind arith)

-- one alternative of several, by its byte
pub behind_if : {A : Type 0} (write : A → List ℕ) (Good : A → Type 0) (front : List ℕ) (b n : ℕ) {p q : Reader A}
    → (n ≡ b → Behind write Good (front ++ n ∷ []) p) → (b ≢ n → Behind write Good (front ++ b ∷ []) q) → Behind write Good (front ++ b ∷ []) (if b == n then p else q)
behind_if write Good front b n {p} {q} this other = branch write Good front b n (b == n) refl p q this other

pub behind_last : {A : Type 0} (write : A → List ℕ) (Good : A → Type 0) (front : List ℕ) (b n : ℕ) {p : Reader A} → n ≡ b → Behind write Good (front ++ n ∷ []) p → Behind write Good (front ++ b ∷ []) p
behind_last write Good front b n {p} same last = subst (λ k. Behind write Good (front ++ k ∷ []) p) same last

-- ---- exact readers

pub exact_from : {A : Type 0} {write : A → List ℕ} {Good : A → Type 0} {p : Reader A} → Behind write Good [] p
    → ((a : A) (rest : List ℕ) → Good a → p (write a ++ rest) ≡ Ok (a, rest)) → Exact write Good p
exact_from behind complete = record { complete = complete; sound = behind.sound; steady = behind.steady }

module _ {A : Type 0} (pick : Option ℕ → Option A) (none : pick None ≡ None) (write : A → List ℕ) (Good : A → Type 0) (code : A → ℕ)
    (written : (a : A) → write a ≡ code a ∷ []) (there : (a : A) → Good a → pick (Some (code a)) ≡ Some a)
    (back : (b : ℕ) (a : A) → pick (Some b) ≡ Some a → Good a × (code a ≡ b)) (b : ℕ) (a : A) (on : pick (Some b) ≡ Some a) where
  choose_sound : (xs rest : List ℕ) (d : A) → choose pick xs ≡ Ok (d, rest) → Spelt write Good xs d rest
  choose_sound [] rest d e = let h = choose_cut pick none in absurd (cc)
  choose_sound (c ∷ xs) rest d e =
      let t = choose_took pick none c xs rest d e in
      let k = back c d t.0 in
      record { good = k.0; bytes = ap (λ n. n ∷ xs) (sym k.1) ∙ ap (λ zs. code d ∷ zs) t.1 ∙ ap (λ zs. zs ++ rest) (sym (written d)) }

  -- a byte that stands for something
  pub exact_choose : Exact write Good (choose pick)
  exact_choose = record {
    complete = λ d rest good. ap (λ zs. choose pick (zs ++ rest)) (written d) ∙ choose_yes pick (code d) d rest (there d good);
    sound = choose_sound;
    steady = steady_choose pick none b a on;
  }

-- a byte by itself
abbrev pub alone : ℕ → List ℕ
alone b = b ∷ []

passed_by : (ok : ℕ → Bool) (b a : ℕ) (v : Bool) → ok b ≡ v → (if v then Some b else None) ≡ Some a → (ok a ≡ true) × (a ≡ b)
passed_by ok b a true on e = let same : b ≡ a = cc in (ap ok (sym same) ∙ on, sym same)
passed_by ok b a false on e = absurd (cc)

passes : (ok : ℕ → Bool) (b : ℕ) → ok b ≡ true → if_passes ok (Some b) ≡ Some b
passes ok b on = rw on refl

passed : (ok : ℕ → Bool) (b a : ℕ) → if_passes ok (Some b) ≡ Some a → (ok a ≡ true) × (a ≡ b)
passed ok b a e = passed_by ok b a (ok b) refl e

pub byte_yes : (ok : ℕ → Bool) (b : ℕ) (rest : List ℕ) → ok b ≡ true → byte ok (b ∷ rest) ≡ Ok (b, rest)
unfolding byte
byte_yes ok b rest on = choose_yes (if_passes ok) b b rest (passes ok b on)

pub byte_no : (ok : ℕ → Bool) (b : ℕ) (rest : List ℕ) → ok b ≡ false → byte ok (b ∷ rest) ≡ Err (damaged (suc (length rest)))
unfolding byte
byte_no ok b rest off = choose_no (if_passes ok) b rest (rw off refl)

pub byte_cut : (ok : ℕ → Bool) → byte ok [] ≡ Err cut
unfolding byte
byte_cut ok = choose_cut (if_passes ok) refl

pub exact_byte : (ok : ℕ → Bool) (some : ℕ) → ok some ≡ true → Exact alone (λ b. ok b ≡ true) (byte ok)
unfolding byte
exact_byte ok some on = exact_choose (if_passes ok) refl alone (λ b. ok b ≡ true) (λ b. b) (λ b. refl) (passes ok) (passed ok) some some (passes ok some on)

-- what a part gives when it is read before others
pub reads_then : {A B : Type 0} {part : B → List ℕ} {Fit : B → Type 0} {p : Reader B} (exact : Exact part Fit p) (q : B → Reader A) (b : B) → Fit b → (ys : List ℕ)
    → (p >>= q) (part b ++ ys) ≡ q b ys
reads_then {p = p} exact q b good ys = then_ok p q _ ys b (exact.complete b ys good)

-- the same bytes, written otherwise
pub exact_as : {A : Type 0} {write again : A → List ℕ} {Good : A → Type 0} {p : Reader A} → Exact write Good p → ((a : A) → write a ≡ again a) → Exact again Good p
exact_as {p = p} exact same = record {
  complete = λ a rest good. ap (λ zs. p (zs ++ rest)) (sym (same a)) ∙ exact.complete a rest good;
  sound = λ xs rest a e. (let s = exact.sound xs rest a e in record { good = s.good; bytes = s.bytes ∙ ap (λ zs. zs ++ rest) (same a) });
  steady = exact.steady;
}

-- the same values, told otherwise
pub exact_for : {A : Type 0} {write : A → List ℕ} {Good Other : A → Type 0} {p : Reader A} → Exact write Good p → ((a : A) → Good a → Other a) → ((a : A) → Other a → Good a) → Exact write Other p
exact_for exact there back = record {
  complete = λ a rest good. exact.complete a rest (back a good);
  sound = λ xs rest a e. (let s = exact.sound xs rest a e in record { good = there a s.good; bytes = s.bytes });
  steady = exact.steady;
}

-- what is read exactly has one spelling, which begins no other
pub are_apart : {A : Type 0} {write : A → List ℕ} {Good : A → Type 0} {p : Reader A} → Exact write Good p → AreApart write Good
are_apart {write = write} {p = p} exact a b rest good_a good_b e =
    let same : ◌≡◌ {A = Outcome _} (Ok (b, [])) (Ok (a, rest)) = sym (exact.complete b [] good_b) ∙ ap p (append-nil (write b) ∙ e) ∙ exact.complete a rest good_a in
    (sym (same_value same), sym (same_rest same))
