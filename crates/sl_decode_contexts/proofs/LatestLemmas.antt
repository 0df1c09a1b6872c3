-- The latest commit of which a test holds.
use Rattle.std.proofs.Common.{◌≡◌, Bool, true, false, cond, Option, Some, None, List, [], ◌∷◌, ◌++◌, refl, sym, ap, ◌∙◌, subst, ◌⊎◌, inl, inr}
use Rattle.sl_decode_contexts.specs.declared.commits.Commit.{Commit}
use Rattle.sl_decode_contexts.specs.Commits.{latest, or_else}

or_else_is : (a b : Option Commit) (d : Commit) → or_else a b ≡ Some d → (a ≡ Some d) ⊎ (b ≡ Some d)
or_else_is None b d h = inr h
or_else_is (Some c) b d h = inl h

cond_is : (b : Bool) (c d : Commit) → cond b (Some c) None ≡ Some d → (b ≡ true) × (c ≡ d)
cond_is true c d h = (refl, cc)
cond_is false c d h = absurd (cc)

-- the test holds of it
pub latest_holds : (p : Commit → Bool) (cs : List Commit) (d : Commit) → latest p cs ≡ Some d → p d ≡ true
latest_holds p [] d h = absurd (cc)
latest_holds p (c ∷ cs) d h =
    elim (or_else_is (latest p cs) (cond (p c) (Some c) None) d h) [
      | inl a ↦ latest_holds p cs d a
      | inr b ↦ let e = cond_is (p c) c d b in subst (λ x. p x ≡ true) e.1 e.0
    ]

-- where one test holds of a commit among them, its latest isn't none
or_else_none : (a b : Option Commit) → or_else a b ≡ None → (a ≡ None) × (b ≡ None)
or_else_none None b h = (refl, h)
or_else_none (Some c) b h = absurd (cc)

cond_none : (b : Bool) (c : Commit) → cond b (Some c) None ≡ None → b ≡ false
cond_none true c h = absurd (cc)
cond_none false c h = refl

pub latest_some : (p q : Commit → Bool) (cs : List Commit) (d : Commit) → latest p cs ≡ Some d → latest q cs ≡ None → q d ≡ false
latest_some p q [] d h n = absurd (cc)
latest_some p q (c ∷ cs) d h n =
    let m = or_else_none (latest q cs) (cond (q c) (Some c) None) n in
    elim (or_else_is (latest p cs) (cond (p c) (Some c) None) d h) [
      | inl a ↦ latest_some p q cs d a m.0
      | inr b ↦ let e = cond_is (p c) c d b in subst (λ x. q x ≡ false) e.1 (cond_none (q c) c m.1)
    ]

-- tests that agree have the same latest commit
pub latest_alike : (p q : Commit → Bool) (cs : List Commit) → ((c : Commit) → p c ≡ q c) → latest p cs ≡ latest q cs
latest_alike p q [] h = refl
latest_alike p q (c ∷ cs) h = ap (λ l. or_else l (cond (p c) (Some c) None)) (latest_alike p q cs h) ∙ ap (λ b. or_else (latest q cs) (cond b (Some c) None)) (h c)

none_or : (o : Option Commit) → or_else o None ≡ o
none_or None = refl
none_or (Some c) = refl

or_else_assoc : (a b c : Option Commit) → or_else a (or_else b c) ≡ or_else (or_else a b) c
or_else_assoc None b c = refl
or_else_assoc (Some x) b c = refl

-- with one more commit at the end
pub latest_more : (p : Commit → Bool) (cs : List Commit) (d : Commit) → latest p (cs ++ d ∷ []) ≡ or_else (cond (p d) (Some d) None) (latest p cs)
latest_more p [] d = sym (none_or (cond (p d) (Some d) None))
latest_more p (c ∷ cs) d = ap (λ l. or_else l (cond (p c) (Some c) None)) (latest_more p cs d) ∙ sym (or_else_assoc (cond (p d) (Some d) None) (latest p cs) (cond (p c) (Some c) None))

none_of : (o : Option Commit) → ((d : Commit) → o ≡ Some d → ⊥) → o ≡ None
none_of None h = refl
none_of (Some d) h = absurd (h d refl)

-- none, where it holds of none
pub latest_none : (p : Commit → Bool) (cs : List Commit) → ((d : Commit) → latest p cs ≡ Some d → ⊥) → latest p cs ≡ None
latest_none p cs h = none_of (latest p cs) h

-- each test whose latest commit is none fails of it
abbrev pub Among : Commit → List Commit → Type 0
Among c cs = (q : Commit → Bool) → latest q cs ≡ None → q c ≡ false

-- tests that agree on the commits have the same latest one
pub latest_same : (p q : Commit → Bool) (cs : List Commit) → ((c : Commit) → Among c cs → p c ≡ q c) → latest p cs ≡ latest q cs
latest_same p q [] h = refl
latest_same p q (c ∷ cs) h =
    let here : p c ≡ q c = h c (λ t n. cond_none (t c) c (or_else_none (latest t cs) (cond (t c) (Some c) None) n).1) in
    let rest : latest p cs ≡ latest q cs = latest_same p q cs (λ d a. h d (λ t n. a t (or_else_none (latest t cs) (cond (t c) (Some c) None) n).0)) in
    ap (λ l. or_else l (cond (p c) (Some c) None)) rest ∙ ap (λ b. or_else (latest q cs) (cond b (Some c) None)) here

pub latest_nothing : (cs : List Commit) → latest (λ c. false) cs ≡ None
latest_nothing [] = refl
latest_nothing (c ∷ cs) = ap (λ l. or_else l None) (latest_nothing cs)
