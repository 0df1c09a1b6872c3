-- The longest mark at the front of a text.
use Rattle.std.proofs.Common.{◌||◌, ◌⊎◌, ◌≡◌, ℕ, ◌+◌, ◌<◌, ◌≤◌, inl, inr, Bool, true, false, not, cond, max, map, List, [], ◌∷◌, ◌++◌, take, drop, length, arith, refl, ap, sym, ◌∙◌, subst, zero, suc, get_or, nat_eq}
use Rattle.std.specs.Prelude.{Contains}
use Rattle.std.specs.List.{list_all, starts_with}
use Rattle.std.proofs.Math.Seq.{take-append_seam}
use Rattle.std.proofs.lemmas.Bool.{cases_lt}
use Rattle.std.proofs.lemmas.Bool.Decides.{Decides-eqb}
use denote.Ref.{Bor}
use Rattle.std.proofs.lemmas.List.{length-append, map_more}
use Rattle.std.proofs.lemmas.List.Elements.{Contains-append_left, Contains-append_right, Contains-append_cases, Contains-push, Contains-push_cases}
use Rattle.std.proofs.lemmas.Slice.Eq.{starts_is}
use Rattle.sl_lex.specs.Bytes.{is_among, is_letter}
use Rattle.sl_lex.specs.Found.{IsLongestMark}
use Rattle.sl_lex.specs.Marks.{long_marks, mark_bytes, common_marks, section_marks, section_marks_of, marks_of}
use Rattle.sl_lex.specs.declared.mode.Mode.{Mode}
use Rattle.sl_lex.specs.declared.mode.Mode.TheVariants.{Top, Head, Plain, Body, Display, Pattern}
use Rattle.sl_lex.proofs.RunLemmas.{both_true, not_false}

or_left : (a b : Bool) → a ≡ true → (a || b) ≡ true
or_left true b h = refl
or_left false b h = absurd (cc)

or_right : (a b : Bool) → b ≡ true → (a || b) ≡ true
or_right true b h = refl
or_right false b h = h

either : (a b : Bool) → (a || b) ≡ true → (a ≡ true) ⊎ (b ≡ true)
either true b h = inl refl
either false b h = inr h

-- What holds of each mark by a test holds of one.
pub all_pass : (test : List ℕ → Bool) (marks : List (List ℕ)) (mark : List ℕ) → list_all test marks ≡ true → Contains marks mark → test mark ≡ true
all_pass test [] mark h (k, less, at) = absurd (omega arith)
all_pass test (m ∷ ms) mark h (zero, less, at) = sym (ap test at) ∙ (both_true (test m) (list_all test ms) h).0
all_pass test (m ∷ ms) mark h (suc k, less, at) = all_pass test ms mark (both_true (test m) (list_all test ms) h).1 (k, omega arith, at)

-- the first byte passes
abbrev pub begins : (ℕ → Bool) → List ℕ → Bool
begins test [] = false
begins test (b ∷ bs) = test b

pub front_begins : (test : ℕ → Bool) (b : ℕ) (bs front rest : List ℕ) → b ∷ bs ≡ front ++ rest → begins test front ≡ true → test b ≡ true
front_begins test b bs [] rest e h = absurd (cc)
front_begins test b bs (c ∷ cs) rest e h = let here : b ≡ c = cc in ap test here ∙ h

-- No mark stands at the front where the first byte begins none.
pub none_begins : (test : ℕ → Bool) (marks : List (List ℕ)) (b : ℕ) (bs : List ℕ) → list_all (begins test) marks ≡ true → test b ≡ false
    → IsLongestMark marks (b ∷ bs) 0
none_begins test marks b bs h fails = record {
  within = omega arith;
  found = λ some. absurd (omega arith);
  longest = λ front rest among e. absurd (not_false (test b) (front_begins test b bs front rest e (all_pass (begins test) marks front h among)) fails);
}

pub no_marks : (text : List ℕ) → IsLongestMark [] text 0
no_marks text = record { within = omega arith; found = λ some. absurd (omega arith); longest = λ front rest (k, less, at) e. absurd (omega arith) }

-- The longest mark of two lists, where one of the two has none.
pub first_of_two : (ms ns : List (List ℕ)) (text : List ℕ) (n : ℕ) → IsLongestMark ms text n → IsLongestMark ns text 0 → IsLongestMark (ms ++ ns) text n
first_of_two ms ns text n h none = record {
  within = h.within;
  found = λ some. Contains-append_left ms ns _ (h.found some);
  longest = λ front rest among e. elim (Contains-append_cases ms ns front among) [
    | inl x ↦ h.longest front rest x e
    | inr y ↦ let short : length front ≤ 0 = none.longest front rest y e in omega arith
  ];
}

pub second_of_two : (ms ns : List (List ℕ)) (text : List ℕ) (n : ℕ) → IsLongestMark ms text 0 → IsLongestMark ns text n → IsLongestMark (ms ++ ns) text n
second_of_two ms ns text n none h = record {
  within = h.within;
  found = λ some. Contains-append_right ms ns _ (h.found some);
  longest = λ front rest among e. elim (Contains-append_cases ms ns front among) [
    | inl x ↦ let short : length front ≤ 0 = none.longest front rest x e in omega arith
    | inr y ↦ h.longest front rest y e
  ];
}

-- One mark more, which stands at the front.
mark_here : (ms : List (List ℕ)) (m text : List ℕ) (n : ℕ) → IsLongestMark ms text n → starts_with nat_eq text m ≡ true
    → IsLongestMark (ms ++ m ∷ []) text (max (length m) n)
mark_here ms m text n h starts =
    let split : text ≡ m ++ drop (length m) text = (starts_is Decides-eqb text m _ refl).0 starts in
    let front_is : take (length m) text ≡ m = ap (take (length m)) split ∙ take-append_seam m (drop (length m) text) in
    let old : n ≤ length text = h.within in
    let more : length m ≤ n → IsLongestMark (ms ++ m ∷ []) text n = λ short. record {
      within = h.within;
      found = λ some. Contains-append_left ms (m ∷ []) _ (h.found some);
      longest = λ front rest among e. elim (Contains-push_cases ms m front among) [
        | inl x ↦ h.longest front rest x e
        | inr same ↦ omega (arith, ap length same)
      ];
    } in
    let longer : n < length m → IsLongestMark (ms ++ m ∷ []) text (length m) = λ long. record {
      within = omega (arith, ap length split, length-append m (drop (length m) text));
      found = λ some. subst (λ (t : List ℕ). Contains (ms ++ m ∷ []) t) (sym front_is) (Contains-push ms m);
      longest = λ front rest among e. elim (Contains-push_cases ms m front among) [
        | inl x ↦ let short : length front ≤ n = h.longest front rest x e in omega arith
        | inr same ↦ omega (arith, ap length same)
      ];
    } in
    elim (cases_lt n (length m)) [
      | inl long ↦ let is : length m ≡ max (length m) n = omega arith in subst (λ (k : ℕ). IsLongestMark (ms ++ m ∷ []) text k) is (longer long)
      | inr short ↦
          let is : n ≡ max (length m) n = omega arith in
          subst (λ (k : ℕ). IsLongestMark (ms ++ m ∷ []) text k) is (more short)
    ]

-- One mark more, which does not stand at the front.
mark_elsewhere : (ms : List (List ℕ)) (m text : List ℕ) (n : ℕ) → IsLongestMark ms text n → starts_with nat_eq text m ≡ false
    → IsLongestMark (ms ++ m ∷ []) text n
mark_elsewhere ms m text n h fails = record {
  within = h.within;
  found = λ some. Contains-append_left ms (m ∷ []) _ (h.found some);
  longest = λ front rest among e. elim (Contains-push_cases ms m front among) [
    | inl x ↦ h.longest front rest x e
    | inr same ↦ absurd (not_false (starts_with nat_eq text m)
        ((starts_is Decides-eqb text m _ refl).1 rest (e ∙ ap (λ (t : List ℕ). t ++ rest) (sym same))) fails)
  ];
}

pub one_mark_more : (ms : List (List ℕ)) (m text : List ℕ) (n : ℕ) (b : Bool) → starts_with nat_eq text m ≡ b → IsLongestMark ms text n
    → IsLongestMark (ms ++ m ∷ []) text (max (cond b (length m) 0) n)
one_mark_more ms m text n true e h = mark_here ms m text n h e
one_mark_more ms m text n false e h =
    let is : n ≡ max 0 n = omega arith in
    subst (λ (k : ℕ). IsLongestMark (ms ++ m ∷ []) text k) is (mark_elsewhere ms m text n h e)

-- the same in a walk over slices
pub next_mark : (marks : List (Bor (List ℕ))) (i : ℕ) (text : List ℕ) (n r s : ℕ) (d : Bor (List ℕ)) → i < length marks
    → IsLongestMark (map (λ m. m.now) (take i marks)) text n
    → r ≡ cond (starts_with nat_eq text (get_or marks i d).now) (length (get_or marks i d).now) 0 → s ≡ max r n
    → IsLongestMark (map (λ m. m.now) (take (i + 1) marks)) text s
next_mark marks i text n r s d less h is greatest =
    let m : List ℕ = (get_or marks i d).now in
    let more = one_mark_more (map (λ k. k.now) (take i marks)) m text n (starts_with nat_eq text m) refl h in
    subst (λ (k : ℕ). IsLongestMark (map (λ x. x.now) (take (i + 1) marks)) text k) (ap (λ (k : ℕ). max k n) (sym is) ∙ sym greatest)
    (subst (λ (ms : List (List ℕ)). IsLongestMark ms text (max (cond (starts_with nat_eq text m) (length m) 0) n)) (sym (map_more (λ x. x.now) marks i d less)) more)

single_is : (bytes front : List ℕ) → Contains (map (λ (b : ℕ). b ∷ []) bytes) front → (c : ℕ) × (front ≡ c ∷ []) × (is_among bytes c ≡ true)
single_is [] front (k, less, at) = absurd (omega arith)
single_is (c ∷ cs) front (zero, less, at) = (c, sym at, or_left (nat_eq c c) (is_among cs c) ((Decides-eqb c c).1 refl))
single_is (c ∷ cs) front (suc k, less, at) =
    let more = single_is cs front (k, omega arith, at) in (more.0, more.1, or_right (nat_eq more.0 c) (is_among cs more.0) more.2)

single_among : (bytes : List ℕ) (b : ℕ) → is_among bytes b ≡ true → Contains (map (λ (c : ℕ). c ∷ []) bytes) (b ∷ [])
single_among [] b h = absurd (cc)
single_among (c ∷ cs) b h = elim (either (nat_eq b c) (is_among cs b) h) [
  | inl same ↦ (0, omega arith, ap (λ (x : ℕ). x ∷ []) (sym ((Decides-eqb b c).0 same)))
  | inr more ↦
      let there = single_among cs b more in
      let less : there.0 < length (map (λ (x : ℕ). x ∷ []) cs) = there.1 in
      (suc there.0, omega arith, there.2)
]

abbrev singles : List (List ℕ)
singles = map (λ b. b ∷ []) mark_bytes

-- A mark of more bytes is longer than any of one.
pub long_here : (text : List ℕ) (n : ℕ) → 0 < n → IsLongestMark long_marks text n → IsLongestMark common_marks text n
long_here text n some h = record {
  within = h.within;
  found = λ more. Contains-append_left long_marks singles _ (h.found more);
  longest = λ front rest among e. elim (Contains-append_cases long_marks singles front among) [
    | inl x ↦ h.longest front rest x e
    | inr y ↦ omega (arith, ap length (single_is mark_bytes front y).1)
  ];
}

pub single_here : (text : List ℕ) (n : ℕ) → 0 < length text → n ≤ 0 → is_among mark_bytes (get_or text 0 0) ≡ true → IsLongestMark long_marks text n
    → IsLongestMark common_marks text 1
single_here [] n some none m h = absurd (omega arith)
single_here (b ∷ bs) n some none m h = record {
  within = omega arith;
  found = λ more. Contains-append_right long_marks singles (b ∷ []) (single_among mark_bytes b m);
  longest = λ front rest among e. elim (Contains-append_cases long_marks singles front among) [
    | inl x ↦ let short : length front ≤ n = h.longest front rest x e in omega arith
    | inr y ↦ omega (arith, ap length (single_is mark_bytes front y).1)
  ];
}

pub neither_here : (text : List ℕ) (n : ℕ) → 0 < length text → n ≤ 0 → is_among mark_bytes (get_or text 0 0) ≡ false → IsLongestMark long_marks text n
    → IsLongestMark common_marks text 0
neither_here [] n some none m h = absurd (omega arith)
neither_here (b ∷ bs) n some none m h = record {
  within = omega arith;
  found = λ more. absurd (omega arith);
  longest = λ front rest among e. elim (Contains-append_cases long_marks singles front among) [
    | inl x ↦ let short : length front ≤ n = h.longest front rest x e in omega arith
    | inr y ↦
        let is = single_is mark_bytes front y in
        let begins_so : b ∷ bs ≡ is.0 ∷ rest = e ∙ ap (λ (t : List ℕ). t ++ rest) is.1 in
        let here : b ≡ is.0 = cc in
        absurd (not_false (is_among mark_bytes b) (ap (is_among mark_bytes) here ∙ is.2) m)
  ];
}

-- A text that begins with no letter has the longest of the common marks as its longest.
pub unlettered : (mode : Mode) (text : List ℕ) (n : ℕ) → (mode ≡ Display → ⊥) → 0 < length text → is_letter (get_or text 0 0) ≡ false
    → IsLongestMark common_marks text n → IsLongestMark (marks_of mode) text n
unlettered mode [] n outside some h found = absurd (omega arith)
unlettered Top (b ∷ bs) n outside some h found = found
unlettered Head (b ∷ bs) n outside some h found = found
unlettered Plain (b ∷ bs) n outside some h found = found
unlettered Body (b ∷ bs) n outside some h found = first_of_two common_marks section_marks (b ∷ bs) n found (none_begins is_letter section_marks b bs refl h)
unlettered Display (b ∷ bs) n outside some h found = absurd (outside refl)
unlettered Pattern (b ∷ bs) n outside some h found = found

no_common : (b : ℕ) (bs : List ℕ) → is_letter b ≡ true → IsLongestMark common_marks (b ∷ bs) 0
no_common b bs h = none_begins (λ c. not (is_letter c)) common_marks b bs refl (rw h refl)

lettered_common : (b n : ℕ) (bs : List ℕ) → is_letter b ≡ true → IsLongestMark [] (b ∷ bs) n → IsLongestMark common_marks (b ∷ bs) n
lettered_common b zero bs h found = no_common b bs h
lettered_common b (suc n) bs h found = let among : Contains [] (take (suc n) (b ∷ bs)) = found.found (omega arith) in absurd (omega (arith, among.1))

-- One that begins with a letter has the longest of the section's marks.
pub lettered : (mode : Mode) (text : List ℕ) (n : ℕ) → (mode ≡ Display → ⊥) → 0 < length text → is_letter (get_or text 0 0) ≡ true
    → IsLongestMark (section_marks_of mode) text n → IsLongestMark (marks_of mode) text n
lettered mode [] n outside some h found = absurd (omega arith)
lettered Top (b ∷ bs) n outside some h found = lettered_common b n bs h found
lettered Head (b ∷ bs) n outside some h found = lettered_common b n bs h found
lettered Plain (b ∷ bs) n outside some h found = lettered_common b n bs h found
lettered Body (b ∷ bs) n outside some h found = second_of_two common_marks section_marks (b ∷ bs) n (no_common b bs h) found
lettered Display (b ∷ bs) n outside some h found = absurd (outside refl)
lettered Pattern (b ∷ bs) n outside some h found = lettered_common b n bs h found
