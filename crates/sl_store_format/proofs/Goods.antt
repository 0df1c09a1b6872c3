-- Conditions in two halves, and numbers.
use Rattle.std.proofs.Common.{◌≡◌, ℕ, suc, ◌≤◌, Bool, true, false, ◌&&◌, nat_le, List, [], ◌∷◌, length, Option, None, Some, ◌++◌, Ok, Err, refl, ap, sym, ◌∙◌, subst, append_assoc, arith}
use Rattle.sl_ast.specs.Operators.{widest}
use Rattle.sl_ast.specs.Validity.{Each, IfWritten, IsWidth}
use Rattle.sl_store_format.specs.Expressions.{width}
use Rattle.sl_store_bytes.specs.Exact.{Exact, Spelt}
use Rattle.sl_store_bytes.specs.Lists.{write_list, write_option, write_separated, option, list_of, separated, AreEach, AreSeparated}
use Rattle.sl_store_bytes.specs.Numbers.{write_number, number, greatest, IsWithin}
use Rattle.sl_store_bytes.specs.Reader.{Reader, Outcome, ◌>>=◌, pure}
use Rattle.sl_store_bytes.proofs.Chains.{Behind, exact_for}
use Rattle.sl_store_bytes.proofs.Steady.{steady_pure, steady_then, then_ok, then_err, same_rest, same_value}
use Rattle.sl_store_bytes.proofs.NumberLaws.{exact_numbers}
use Rattle.sl_store_bytes.proofs.PartLaws.{exact_list, exact_option, exact_separated}

pub and_left : (a b : Bool) → (a && b) ≡ true → a ≡ true
and_left true b e = refl
and_left false b e = absurd (cc)

pub and_right : (a b : Bool) → (a && b) ≡ true → b ≡ true
and_right true b e = e
and_right false b e = absurd (cc)

pub both_true : (a b : Bool) → a ≡ true → b ≡ true → (a && b) ≡ true
both_true a b e f = rw (e, f) refl

pub le_true : (m n : ℕ) → m ≤ n → nat_le m n ≡ true
le_true m n h = grind arith

pub true_le : (m n : ℕ) → nat_le m n ≡ true → m ≤ n
true_le m n e = grind arith

-- ---- numbers

pub exact_any : Exact write_number (λ n. n ≤ greatest) (number 0 greatest)
exact_any = exact_for (exact_numbers 0 greatest (omega arith) (omega arith) (omega arith)) (λ n within. within.high) (λ n high. record { low = omega arith; high = high })

pub exact_width : Exact write_number IsWidth width
exact_width = exact_for (exact_numbers 0 widest (omega arith) (omega arith) (omega arith)) (λ n within. within.high) (λ n high. record { low = omega arith; high = high })

pub exact_one : Exact write_number (λ n. n ≡ 1) (number 1 1)
exact_one = exact_for (exact_numbers 1 1 (omega arith) (omega arith) (omega arith))
    (λ n within. (let low = within.low in let high = within.high in omega arith)) (λ n same. record { low = omega arith; high = omega arith })

-- ---- conditions in two halves

module _ {A : Type 0} (V L : A → Type 0) where
  each_halves : (xs : List A) → Each (λ x. V x × L x) xs → Each V xs × Each L xs
  each_halves [] each = (tt, tt)
  each_halves (x ∷ xs) each = let deep = each_halves xs each.1 in ((each.0.0, deep.0), (each.0.1, deep.1))

  halves_each : (xs : List A) → Each V xs → Each L xs → Each (λ x. V x × L x) xs
  halves_each [] v l = tt
  halves_each (x ∷ xs) v l = ((v.0, l.0), halves_each xs v.1 l.1)

  list_halves : (xs : List A) → AreEach (λ x. V x × L x) xs → Each V xs × AreEach L xs
  list_halves xs each = let both = each_halves xs each.1 in (both.0, (each.0, both.1))

  halves_list : (xs : List A) → Each V xs × AreEach L xs → AreEach (λ x. V x × L x) xs
  halves_list xs halves = (halves.1.0, halves_each xs halves.0 halves.1.1)

  separated_halves : (xs : List A) → AreSeparated (λ x. V x × L x) xs → Each V xs × AreSeparated L xs
  separated_halves [] good = (tt, tt)
  separated_halves (x ∷ xs) good = let others = list_halves xs good.1 in ((good.0.0, others.0), (good.0.1, others.1))

  halves_separated : (xs : List A) → Each V xs × AreSeparated L xs → AreSeparated (λ x. V x × L x) xs
  halves_separated [] halves = tt
  halves_separated (x ∷ xs) halves = ((halves.0.0, halves.1.0), halves_list xs (halves.0.1, halves.1.1))

  option_halves : (o : Option A) → IfWritten (λ x. V x × L x) o → IfWritten V o × IfWritten L o
  option_halves None good = (tt, tt)
  option_halves (Some x) good = good

  halves_option : (o : Option A) → IfWritten V o × IfWritten L o → IfWritten (λ x. V x × L x) o
  halves_option None halves = tt
  halves_option (Some x) halves = halves

module _ {A : Type 0} {V L : A → Type 0} {write : A → List ℕ} {p : Reader A} (exact : Exact write (λ x. V x × L x) p) where
  pub exact_list_halves : Exact (write_list write) (λ xs. Each V xs × AreEach L xs) (list_of p)
  exact_list_halves = exact_for (exact_list exact) (list_halves V L) (halves_list V L)

  pub exact_separated_halves : Exact (write_separated write) (λ xs. Each V xs × AreSeparated L xs) (separated p)
  exact_separated_halves = exact_for (exact_separated exact) (separated_halves V L) (halves_separated V L)

  pub exact_option_halves : Exact (write_option write) (λ o. IfWritten V o × IfWritten L o) (option p)
  exact_option_halves = exact_for (exact_option exact) (option_halves V L) (halves_option V L)

-- the same bytes after the front, of values told otherwise
pub behind_for : {A : Type 0} {write : A → List ℕ} {Good Other : A → Type 0} {front : List ℕ} {p : Reader A} → Behind write Good front p → ((a : A) → Good a → Other a) → Behind write Other front p
behind_for behind there = record {
  sound = λ xs rest a e. (let s = behind.sound xs rest a e in record { good = there a s.good; bytes = s.bytes });
  steady = behind.steady;
}

-- a part that is made into a whole
module _ {A B : Type 0} {write : A → List ℕ} {Good : A → Type 0} {front : List ℕ} {q : Reader A} (behind : Behind write Good front q) (make : A → B) (whole : B → List ℕ) (Other : B → Type 0) (before : List ℕ)
    (good : (a : A) → Good a → Other (make a)) (bytes : (a : A) → Good a → before ++ write a ≡ whole (make a)) where
  map_sound : (xs : List ℕ) (o : Outcome A) → q xs ≡ o → (rest : List ℕ) (b : B) → (q >>= (λ a. pure (make a))) xs ≡ Ok (b, rest) → Spelt whole Other ((before ++ front) ++ xs) b rest
  map_sound xs (Ok (a, mid)) e rest b h =
      let s = behind.sound xs mid a e in
      let same : ◌≡◌ {A = Outcome B} (Ok (make a, mid)) (Ok (b, rest)) = sym (then_ok q (λ a. pure (make a)) xs mid a e) ∙ h in
      let it : make a ≡ b = same_value same in
      let end : mid ≡ rest = same_rest same in
      record {
        good = subst Other it (good a s.good);
        bytes = append_assoc before front xs ∙ ap (λ zs. before ++ zs) s.bytes ∙ sym (append_assoc before (write a) mid) ∙ ap (λ zs. zs ++ mid) (bytes a s.good ∙ ap whole it) ∙ ap (λ zs. whole b ++ zs) end;
      }
  map_sound xs (Err f) e rest b h = let same = then_err q (λ a. pure (make a)) xs f e in absurd (cc)

  pub behind_map : Behind whole Other (before ++ front) (q >>= (λ a. pure (make a)))
  behind_map = record {
    sound = λ xs rest b h. map_sound xs (q xs) refl rest b h;
    steady = steady_then q (λ a. pure (make a)) behind.steady (λ a. Unit {0}) (λ xs rest a e. tt) (λ a any. steady_pure (make a));
  }
