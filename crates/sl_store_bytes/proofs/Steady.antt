-- The laws of readers, proved once for a byte, for a value and for one reader after another.
use Rattle.std.proofs.Common.{◌≡◌, ℕ, suc, List, [], ◌∷◌, ◌++◌, length, Option, None, Some, Ok, Err, refl, ap, sym, ◌∙◌, subst, append_assoc, append-nil}
use Rattle.sl_store_bytes.specs.Exact.{Taken, Refusal, Completed, Steady}
use Rattle.sl_store_bytes.specs.Reader.{Fault, cut, damaged, Outcome, Reader, ◌>>=◌, pure, choose}

rest_of : {A : Type 0} → Outcome A → List ℕ
rest_of (Ok p) = p.1
rest_of (Err e) = []

value_of : {A : Type 0} → A → Outcome A → A
value_of a (Ok p) = p.0
value_of a (Err e) = a

pub same_rest : {A : Type 0} {a b : A} {xs ys : List ℕ} → ◌≡◌ {A = Outcome A} (Ok (a, xs)) (Ok (b, ys)) → xs ≡ ys
unfolding rest_of
same_rest e = ap rest_of e

pub same_value : {A : Type 0} {a b : A} {xs ys : List ℕ} → ◌≡◌ {A = Outcome A} (Ok (a, xs)) (Ok (b, ys)) → a ≡ b
unfolding value_of
same_value {a = a} e = ap (value_of a) e

-- ---- a value

pub steady_pure : {A : Type 0} (a : A) → Steady (pure a)
steady_pure a = record {
  taken = λ xs rest b e. record { front = []; all = same_rest e; stays = λ ys. ap (λ c. Ok (c, ys)) (same_value e) };
  refused = λ xs n e. absurd (cc);
  completed = λ xs e. absurd (cc);
  some = record { more = []; value = a; reads = refl };
}

-- ---- a byte

module _ {A : Type 0} (pick : Option ℕ → Option A) where
  pub choose_yes : (b : ℕ) (a : A) (rest : List ℕ) → pick (Some b) ≡ Some a → choose pick (b ∷ rest) ≡ Ok (a, rest)
  unfolding choose
  choose_yes b a rest e = rw e refl

  pub choose_no : (b : ℕ) (rest : List ℕ) → pick (Some b) ≡ None → choose pick (b ∷ rest) ≡ Err (damaged (suc (length rest)))
  unfolding choose
  choose_no b rest e = rw e refl

  module _ (none : pick None ≡ None) where
    pub choose_cut : choose pick [] ≡ Err cut
    unfolding choose
    choose_cut = rw none refl

    took_by : (b : ℕ) (rest : List ℕ) (v : Option A) → pick (Some b) ≡ v → (a : A) (left : List ℕ) → choose pick (b ∷ rest) ≡ Ok (a, left)
        → (pick (Some b) ≡ Some a) × (rest ≡ left)
    took_by b rest (Some c) on a left e =
        let same : ◌≡◌ {A = Outcome A} (Ok (c, rest)) (Ok (a, left)) = sym (choose_yes b c rest on) ∙ e in
        (on ∙ ap (λ d. Some d) (same_value same), same_rest same)
    took_by b rest None off a left e = let same = choose_no b rest off in absurd (cc)

    -- what a byte that is taken stands for
    pub choose_took : (b : ℕ) (rest left : List ℕ) (a : A) → choose pick (b ∷ rest) ≡ Ok (a, left) → (pick (Some b) ≡ Some a) × (rest ≡ left)
    choose_took b rest left a e = took_by b rest (pick (Some b)) refl a left e

    choose_taken : (xs left : List ℕ) (a : A) → choose pick xs ≡ Ok (a, left) → Taken (choose pick) xs a left
    choose_taken [] left a e = let h = choose_cut in absurd (cc)
    choose_taken (b ∷ rest) left a e =
        let t = choose_took b rest left a e in
        record { front = b ∷ []; all = ap (λ zs. b ∷ zs) t.1; stays = λ ys. choose_yes b a ys t.0 }

    refusal_by : (b : ℕ) (rest : List ℕ) (v : Option A) → pick (Some b) ≡ v → (n : ℕ) → choose pick (b ∷ rest) ≡ Err (damaged n) → Refusal (choose pick) (b ∷ rest) n
    refusal_by b rest (Some c) on n e = let same = choose_yes b c rest on in absurd (cc)
    refusal_by b rest None off n e =
        let same = choose_no b rest off in
        record { front = []; wrong = b; rest = rest; all = refl; left = (cc); before = choose_cut; stays = λ ys. choose_no b ys off }

    choose_refused : (xs : List ℕ) (n : ℕ) → choose pick xs ≡ Err (damaged n) → Refusal (choose pick) xs n
    choose_refused [] n e = let h = choose_cut in absurd (cc)
    choose_refused (b ∷ rest) n e = refusal_by b rest (pick (Some b)) refl n e

    module _ (b : ℕ) (a : A) (on : pick (Some b) ≡ Some a) where
      choose_some : Completed (choose pick) []
      choose_some = record { more = b ∷ []; value = a; reads = choose_yes b a [] on }

      full_by : (c : ℕ) (rest : List ℕ) (v : Option A) → pick (Some c) ≡ v → choose pick (c ∷ rest) ≡ Err cut → Completed (choose pick) (c ∷ rest)
      full_by c rest (Some d) here e = let same = choose_yes c d rest here in absurd (cc)
      full_by c rest None off e = let same = choose_no c rest off in absurd (cc)

      choose_completed : (xs : List ℕ) → choose pick xs ≡ Err cut → Completed (choose pick) xs
      choose_completed [] e = choose_some
      choose_completed (c ∷ rest) e = full_by c rest (pick (Some c)) refl e

      -- some byte passes
      pub steady_choose : Steady (choose pick)
      steady_choose = record { taken = choose_taken; refused = choose_refused; completed = choose_completed; some = choose_some }

-- ---- one after another

module _ {A B : Type 0} (p : Reader A) (q : A → Reader B) where
  pub then_ok : (xs mid : List ℕ) (a : A) → p xs ≡ Ok (a, mid) → (p >>= q) xs ≡ q a mid
  then_ok xs mid a e = rw e refl

  pub then_err : (xs : List ℕ) (e : Fault) → p xs ≡ Err e → (p >>= q) xs ≡ Err e
  then_err xs e h = rw h refl

  module _ (steady : Steady p) (Good : A → Type 0) (sound : (xs rest : List ℕ) (a : A) → p xs ≡ Ok (a, rest) → Good a) (after : (a : A) → Good a → Steady (q a)) where
    -- after what the first took
    along : (xs mid : List ℕ) (a : A) (t : Taken p xs a mid) (zs : List ℕ) → (p >>= q) (t.front ++ zs) ≡ q a zs
    along xs mid a t zs = then_ok (t.front ++ zs) zs a (t.stays zs)

    then_taken : (xs : List ℕ) (o : Outcome A) → p xs ≡ o → (rest : List ℕ) (b : B) → (p >>= q) xs ≡ Ok (b, rest) → Taken (p >>= q) xs b rest
    then_taken xs (Ok (a, mid)) e rest b h =
        let t = steady.taken xs mid a e in
        let s = (after a (sound xs mid a e)).taken mid rest b (sym (then_ok xs mid a e) ∙ h) in
        record {
          front = t.front ++ s.front;
          all = t.all ∙ ap (λ zs. t.front ++ zs) s.all ∙ sym (append_assoc t.front s.front rest);
          stays = λ ys. ap (p >>= q) (append_assoc t.front s.front ys) ∙ along xs mid a t (s.front ++ ys) ∙ s.stays ys;
        }
    then_taken xs (Err f) e rest b h = let same = then_err xs f e in absurd (cc)

    then_refused : (xs : List ℕ) (o : Outcome A) → p xs ≡ o → (n : ℕ) → (p >>= q) xs ≡ Err (damaged n) → Refusal (p >>= q) xs n
    then_refused xs (Ok (a, mid)) e n h =
        let t = steady.taken xs mid a e in
        let s = (after a (sound xs mid a e)).refused mid n (sym (then_ok xs mid a e) ∙ h) in
        record {
          front = t.front ++ s.front;
          wrong = s.wrong;
          rest = s.rest;
          all = t.all ∙ ap (λ zs. t.front ++ zs) s.all ∙ sym (append_assoc t.front s.front (s.wrong ∷ s.rest));
          left = s.left;
          before = along xs mid a t s.front ∙ s.before;
          stays = λ ys. ap (p >>= q) (append_assoc t.front s.front (s.wrong ∷ ys)) ∙ along xs mid a t (s.front ++ s.wrong ∷ ys) ∙ s.stays ys;
        }
    then_refused xs (Err cut) e n h = let same = then_err xs cut e in absurd (cc)
    then_refused xs (Err (damaged m)) e n h =
        let same = then_err xs (damaged m) e in
        let one : m ≡ n = cc in
        let s = steady.refused xs n (subst (λ k. p xs ≡ Err (damaged k)) one e) in
        record {
          front = s.front;
          wrong = s.wrong;
          rest = s.rest;
          all = s.all;
          left = s.left;
          before = then_err s.front cut s.before;
          stays = λ ys. then_err (s.front ++ s.wrong ∷ ys) (damaged (suc (length ys))) (s.stays ys);
        }

    -- bytes that complete the first, and then some of the second
    both : (xs : List ℕ) → Completed p xs → Completed (p >>= q) xs
    both xs c =
        let t = steady.taken (xs ++ c.more) [] c.value c.reads in
        let s = (after c.value (sound (xs ++ c.more) [] c.value c.reads)).some in
        let whole : xs ++ c.more ≡ t.front = t.all ∙ append-nil t.front in
        record {
          more = c.more ++ s.more;
          value = s.value;
          reads = ap (p >>= q) (sym (append_assoc xs c.more s.more) ∙ ap (λ zs. zs ++ s.more) whole) ∙ along (xs ++ c.more) [] c.value t s.more ∙ s.reads;
        }

    then_completed : (xs : List ℕ) (o : Outcome A) → p xs ≡ o → (p >>= q) xs ≡ Err cut → Completed (p >>= q) xs
    then_completed xs (Ok (a, mid)) e h =
        let t = steady.taken xs mid a e in
        let s = (after a (sound xs mid a e)).completed mid (sym (then_ok xs mid a e) ∙ h) in
        record {
          more = s.more;
          value = s.value;
          reads = ap (p >>= q) (ap (λ zs. zs ++ s.more) t.all ∙ append_assoc t.front mid s.more) ∙ along xs mid a t (mid ++ s.more) ∙ s.reads;
        }
    then_completed xs (Err cut) e h = both xs (steady.completed xs e)
    then_completed xs (Err (damaged m)) e h = let same = then_err xs (damaged m) e in absurd (cc)

    pub steady_then : Steady (p >>= q)
    steady_then = record {
      taken = λ xs rest b h. then_taken xs (p xs) refl rest b h;
      refused = λ xs n h. then_refused xs (p xs) refl n h;
      completed = λ xs h. then_completed xs (p xs) refl h;
      some = both [] steady.some;
    }
