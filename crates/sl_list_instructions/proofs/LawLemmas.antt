-- That a listing is one, that there is one, and that what is begun can be completed.
use Rattle.std.proofs.Common.{◌⊎◌, inl, inr, ◌≡◌, ℕ, zero, suc, ◌+◌, ◌-◌, ◌^◌, ◌<◌, ◌≤◌, ◌%◌, List, [], ◌++◌, Result, Ok, Err, refl, sym, ap, subst, ◌∙◌, append_assoc, arith}
use Rattle.std.specs.Prelude.{IfOk, codes}
use Rattle.std.proofs.Math.Nat.{mod-lt}
use Rattle.sl_decode_contexts.specs.Commits.{IsContextAt}
use Rattle.sl_decode_contexts.proofs.LawLemmas.{one_context, some_context}
use Rattle.sl_decode_contexts.specs.declared.commits.Commit.{Commit}
use Rattle.sl_decode_meaning.specs.declared.faults.Fault.{Fault}
use Rattle.sl_list_instructions.specs.Instructions.{Listed, Subject, Told, instruction, line_at, mark_of, misaligned, told_at, undecoded}
use Rattle.sl_list_instructions.specs.Laws.{BeginsListing, GoesOn, ListingIsOne, SomeListing}
use Rattle.sl_list_instructions.specs.Listings.{Lists, Shows, ended, shown}
use Rattle.sl_list_instructions.specs.Fronts.{begun, stopped}
use Rattle.sl_list_instructions.specs.Fronts.{Begins}

below_or_not : (a b : ℕ) → (a < b) ⊎ (b ≤ a)
below_or_not a b = grind arith

zero_or_not : (n : ℕ) → (n ≡ 0) ⊎ (1 ≤ n)
zero_or_not n = grind arith

mod_below : (n m : ℕ) → 1 ≤ m → n % m < m
mod_below n m some = mod-lt n some

-- ---- whatever is shown

-- something can be shown at each position
pub record IsShown (shows : Shows) (at : ℕ) (cs : List Commit) : Type 0 where
  pub text : List ℕ
  pub count : ℕ
  pub made : List Commit
  pub shows_it : shows at cs text count made
  pub some : 1 ≤ count

-- two that are shown are one
record AreOne (text other : List ℕ) (n m : ℕ) (ds es : List Commit) : Type 0 where
  texts : text ≡ other
  counts : n ≡ m
  commits : ds ≡ es

abbrev IsFunction : Shows → Type 0
IsFunction shows = (at : ℕ) (cs : List Commit) (text other : List ℕ) (n m : ℕ) (ds es : List Commit)
    → shows at cs text n ds → shows at cs other m es → AreOne text other n m ds es

module _ (shows : Shows) (end : ℕ) (one : IsFunction shows) where
  -- a listing that begins with this text
  record IsAfter (at : ℕ) (cs : List Commit) (text whole : List ℕ) (n : ℕ) (ds : List Commit) : Type 0 where
    rest : List ℕ
    goes_on : Lists shows end (at + n) (cs ++ ds) rest
    whole_is : whole ≡ text ++ rest

  from_end : (at : ℕ) (cs : List Commit) (b : List ℕ) → end ≤ at → Lists shows end at cs b → b ≡ []
  from_end at cs b past (ended h) = refl
  from_end at cs b past (shown within s more) = absurd (omega (arith, past, within))

  from_shown : (at : ℕ) (cs : List Commit) (text b : List ℕ) (n : ℕ) (ds : List Commit) → at < end → shows at cs text n ds → Lists shows end at cs b → IsAfter at cs text b n ds
  from_shown at cs text b n ds within s (ended past) = absurd (omega (arith, past, within))
  from_shown at cs text b n ds within s (shown {n = m} {ds = es} {text = other} {rest = rest} w t more) =
      let o = one at cs other text m n es ds t s in record {
        rest = rest;
        goes_on = subst (λ (k : ℕ). Lists shows end (at + k) (cs ++ ds) rest) o.counts (subst (λ (fs : List Commit). Lists shows end (at + m) (cs ++ fs) rest) o.commits more);
        whole_is = ap (λ (l : List ℕ). l ++ rest) o.texts;
      }

  lists_one : (at : ℕ) (cs : List Commit) (a b : List ℕ) → Lists shows end at cs a → Lists shows end at cs b → a ≡ b
  lists_one at cs a b (ended past) y = sym (from_end at cs b past y)
  lists_one at cs a b (shown {n = n} {ds = ds} {text = text} {rest = rest} within s more) y =
      let other = from_shown at cs text b n ds within s y in
      ap (λ (l : List ℕ). text ++ l) (lists_one (at + n) (cs ++ ds) rest other.rest more other.goes_on) ∙ sym other.whole_is

pub has_listing : (shows : Shows) (end : ℕ) → ((at : ℕ) (cs : List Commit) → at < end → IsShown shows at cs) → (left at : ℕ) (cs : List Commit) → end ≤ at + left → (text : List ℕ) × Lists shows end at cs text
has_listing shows end all zero at cs h = ([], ended (omega arith))
has_listing shows end all (suc left) at cs h =
    elim (below_or_not at end) [
      | inr over ↦ ([], ended over)
      | inl within ↦
          let s = all at cs within in
          let more = has_listing shows end all left (at + s.count) (cs ++ s.made) (let c = s.some in omega arith) in
          (s.text ++ more.0, shown within s.shows_it more.1)
    ]

pub completed : (shows : Shows) (end : ℕ) → ((at : ℕ) (cs : List Commit) → at < end → IsShown shows at cs) → (at : ℕ) (cs : List Commit) (text : List ℕ) → Begins shows end at cs text
    → (rest : List ℕ) × Lists shows end at cs (text ++ rest)
completed shows end all at cs text (stopped) = has_listing shows end all end at cs (omega arith)
completed shows end all at cs text (begun {at = a} {n = n} {cs = b} {ds = ds} {text = t} {rest = r} within s more) =
    let m = completed shows end all (a + n) (b ++ ds) r more in
    (m.0, subst (Lists shows end a b) (sym (append_assoc t r m.0)) (shown within s m.1))

-- ---- of a listing of instructions

module _ (s : Subject) where
  same_context : (at : ℕ) (cs : List Commit) (x y : ℕ) → x < 2 ^ 64 → y < 2 ^ 64 → IsContextAt s.start cs (s.base + at) x → IsContextAt s.start cs (s.base + at) y → x ≡ y
  same_context at cs x y a b is other = one_context s.start cs (s.base + at) x y a b is other

  -- the other one is the same instruction
  told_one : (at x y : ℕ) (r : Told) (q : Result Told Fault) → x ≡ y → told_at s at x ≡ Ok r → told_at s at y ≡ q → q ≡ Ok r
  told_one at x y r q e a b = sym b ∙ ap (told_at s at) (sym e) ∙ a

  failed_one : (at x y : ℕ) (r : Fault) (q : Result Told Fault) → x ≡ y → told_at s at x ≡ Err r → told_at s at y ≡ q → q ≡ Err r
  failed_one at x y r q e a b = sym b ∙ ap (told_at s at) (sym e) ∙ a

  -- what is shown where an instruction stands
  by_instruction : (at x : ℕ) (cs : List Commit) (r : Told) (other : List ℕ) (m : ℕ) (es : List Commit)
      → (s.base + at) % s.alignment ≡ 0 → x < 2 ^ 64 → IsContextAt s.start cs (s.base + at) x → told_at s at x ≡ Ok r
      → Listed s at cs other m es → AreOne (line_at s at r.length r.text) other r.length m r.commits es
  by_instruction at x cs r other m es aligned most is told (instruction {context = y} {told = q} a b c d) =
      let e : Ok q ≡ Ok r = told_one at x y r (Ok q) (same_context at cs x y most b is c) told d in
      let same : r ≡ q = cc in
      record { texts = ap (λ (t : Told). line_at s at t.length t.text) same; counts = ap (λ (t : Told). t.length) same; commits = ap (λ (t : Told). t.commits) same }
  by_instruction at x cs r other m es aligned most is told (undecoded {context = y} {fault = f} a b c d) =
      let e : Err f ≡ Ok r = told_one at x y r (Err f) (same_context at cs x y most b is c) told d in absurd (cc)
  by_instruction at x cs r other m es aligned most is told (misaligned a b) = absurd (omega (arith, aligned, a, b))

  by_failure : (at x : ℕ) (cs : List Commit) (r : Fault) (other : List ℕ) (m : ℕ) (es : List Commit)
      → (s.base + at) % s.alignment ≡ 0 → x < 2 ^ 64 → IsContextAt s.start cs (s.base + at) x → told_at s at x ≡ Err r
      → Listed s at cs other m es → AreOne (line_at s at s.alignment (mark_of r)) other s.alignment m [] es
  by_failure at x cs r other m es aligned most is told (instruction {context = y} {told = q} a b c d) =
      let e : Ok q ≡ Err r = failed_one at x y r (Ok q) (same_context at cs x y most b is c) told d in absurd (cc)
  by_failure at x cs r other m es aligned most is told (undecoded {context = y} {fault = f} a b c d) =
      let e : Err f ≡ Err r = failed_one at x y r (Err f) (same_context at cs x y most b is c) told d in
      let same : r ≡ f = cc in
      record { texts = ap (λ (g : Fault). line_at s at s.alignment (mark_of g)) same; counts = refl; commits = refl }
  by_failure at x cs r other m es aligned most is told (misaligned a b) = absurd (omega (arith, aligned, a, b))

  beyond_one : (at k : ℕ) (cs : List Commit) (other : List ℕ) (m : ℕ) (es : List Commit) → (s.base + at) % s.alignment ≡ k → 1 ≤ k
      → Listed s at cs other m es → AreOne (line_at s at (s.alignment - k) (codes "?align")) other (s.alignment - k) m [] es
  beyond_one at k cs other m es is some (instruction a b c d) = absurd (omega (arith, is, some, a))
  beyond_one at k cs other m es is some (undecoded a b c d) = absurd (omega (arith, is, some, a))
  beyond_one at k cs other m es is some (misaligned {beyond = j} a b) =
      let same : k ≡ j = sym is ∙ a in
      record { texts = ap (λ (i : ℕ). line_at s at (s.alignment - i) (codes "?align")) same; counts = ap (λ (i : ℕ). s.alignment - i) same; commits = refl }

  listed_one : IsFunction (Listed s)
  listed_one at cs text other n m ds es (instruction {context = x} {told = r} a b c d) y = by_instruction at x cs r other m es a b c d y
  listed_one at cs text other n m ds es (undecoded {context = x} {fault = r} a b c d) y = by_failure at x cs r other m es a b c d y
  listed_one at cs text other n m ds es (misaligned {beyond = k} a b) y = beyond_one at k cs other m es a b y

  -- ---- something is shown at each position

  module _ (g : GoesOn s) (at : ℕ) (cs : List Commit) where
    by_result : (x : ℕ) (q : Result Told Fault) → (s.base + at) % s.alignment ≡ 0 → x < 2 ^ 64 → IsContextAt s.start cs (s.base + at) x → told_at s at x ≡ q → IfOk q (λ told. 1 ≤ told.length)
        → IsShown (Listed s) at cs
    by_result x (Ok r) aligned most is told some =
        record { text = line_at s at r.length r.text; count = r.length; made = r.commits; shows_it = instruction aligned most is told; some = some }
    by_result x (Err f) aligned most is told some =
        record { text = line_at s at s.alignment (mark_of f); count = s.alignment; made = []; shows_it = undecoded aligned most is told; some = g.alignment }

    aligned_shown : (s.base + at) % s.alignment ≡ 0 → IsShown (Listed s) at cs
    aligned_shown aligned =
        let x = some_context s.start cs (s.base + at) in
        by_result x.0 (told_at s at x.0) aligned x.1 x.2 refl (g.lengths _ _ _)

    pub is_shown : IsShown (Listed s) at cs
    is_shown = elim (zero_or_not ((s.base + at) % s.alignment)) [
      | inl aligned ↦ aligned_shown aligned
      | inr beyond ↦ record {
        text = line_at s at (s.alignment - (s.base + at) % s.alignment) (codes "?align");
        count = s.alignment - (s.base + at) % s.alignment;
        made = [];
        shows_it = misaligned refl beyond;
        some = omega (arith, mod_below (s.base + at) s.alignment g.alignment);
      }
    ]

pub listing_is_one : ListingIsOne
listing_is_one s end a b x y = lists_one (Listed s) end (listed_one s) 0 [] a b x y

pub some_listing : SomeListing
some_listing s end g = has_listing (Listed s) end (λ at cs within. is_shown s g at cs) end 0 [] (omega arith)

pub begins_listing : BeginsListing
begins_listing s end text g b = completed (Listed s) end (λ at cs within. is_shown s g at cs) 0 [] text b
