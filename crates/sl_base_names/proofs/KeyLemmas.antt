-- What a change at a key of bytes leaves at other keys.
use Rattle.std.proofs.Common.{◌≡◌, Ordering, ℕ, Bool, true, false, cond, List, Option, sym, subst, ◌∙◌, ⊎_elim}
use Rattle.std.specs.Global.{Vec}
use Rattle.std.specs.Str.{bytes_eq}
use Rattle.std.specs.Cmp.Lexicographic.{bytes_decides, nat_list_eq_equiv, slice_cmp}
use Rattle.std.specs.Ordering.{eq_by_cmp, is_eq, nat_cmp}
use Rattle.std.proofs.lemmas.Map.Text.{is_eq-slice_cmp}
use Rattle.std.specs.BTreeMap.{BTreeMap, UpdatesBy, get_by, is_at}
use Rattle.std.specs.Map.{lookup, KeepsOthers, IsKeyTest, AreApart}
use Rattle.std.proofs.lemmas.Bool.{cases_Bool, cond-true, cond-false}

apart : (bs cs ks : List ℕ) → bytes_eq bs cs ≡ false → bytes_eq bs ks ≡ true → bytes_eq cs ks ≡ false
apart bs cs ks n y = nat_list_eq_equiv.symm cs ks ∙ sym (nat_list_eq_equiv.congr bs ks cs y) ∙ n

module _ {K : Type 0} (eq : K → K → Bool) (test : K → Bool) where
  other_entries : {X : Type 0} (old new : List (K × X)) → KeepsOthers eq test old new → (other : K → Bool) → IsKeyTest eq other → AreApart test other → lookup other new ≡ lookup other old
  unfolding KeepsOthers
  other_entries old new h = h

-- g is w at bs, and f at other bytes
by_bytes : {W : Type 0} (f g : List ℕ → W) (bs : List ℕ) (w : W) → g bs ≡ w → ((cs : List ℕ) → bytes_eq bs cs ≡ false → g cs ≡ f cs) → (cs : List ℕ) → g cs ≡ cond (bytes_eq bs cs) w (f cs)
by_bytes f g bs w here other cs =
    ⊎_elim
    (λ y. subst (λ l. g l ≡ w) ((bytes_decides bs cs).0 y) here ∙ sym (cond-true (bytes_eq bs cs) w (f cs) y))
    (λ n. other cs n ∙ sym (cond-false (bytes_eq bs cs) w (f cs) n))
    (cases_Bool (bytes_eq bs cs))

-- the order of the bytes
abbrev pub bytes_cmp : List ℕ → Vec ℕ → Ordering
bytes_cmp bs k = slice_cmp nat_cmp bs k.items

abbrev pub key_cmp : Vec ℕ → Vec ℕ → Ordering
key_cmp x y = slice_cmp nat_cmp x.items y.items

-- a search for bytes finds one of two equal keys where it finds the other
same_key : (bs xs ys : List ℕ) → is_eq (slice_cmp nat_cmp bs xs) ≡ true → is_eq (slice_cmp nat_cmp bs ys) ≡ is_eq (slice_cmp nat_cmp xs ys)
same_key bs xs ys h = is_eq-slice_cmp bs ys ∙ nat_list_eq_equiv.congr bs xs ys (sym (is_eq-slice_cmp bs xs) ∙ h) ∙ sym (is_eq-slice_cmp xs ys)

apart_key : (bs cs ks : List ℕ) → bytes_eq bs cs ≡ false → is_eq (slice_cmp nat_cmp bs ks) ≡ true → is_eq (slice_cmp nat_cmp cs ks) ≡ false
apart_key bs cs ks n y = is_eq-slice_cmp cs ks ∙ apart bs cs ks n (sym (is_eq-slice_cmp bs ks) ∙ y)

abbrev pub at_bytes : {X : Type 0} → BTreeMap (Vec ℕ) X → List ℕ → Option X
at_bytes m name = get_by (bytes_cmp name) m

pub at_key : (bs : List ℕ) {X : Type 0} (m n : BTreeMap (Vec ℕ) X) (w : Option X) → UpdatesBy key_cmp (bytes_cmp bs) m n w
    → (cs : List ℕ) → at_bytes n cs ≡ cond (bytes_eq bs cs) w (at_bytes m cs)
at_key bs m n w h =
    by_bytes (at_bytes m) (at_bytes n) bs w h.1
    (λ cs e. other_entries (eq_by_cmp key_cmp) (is_at (bytes_cmp bs)) m.entries n.entries h.3 (is_at (bytes_cmp cs)) (λ x y. same_key cs x.items y.items) (λ k. apart_key bs cs k.items e))
