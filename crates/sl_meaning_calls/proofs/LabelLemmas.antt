-- Labels that are there, and labels that aren't.
use Rattle.std.proofs.Common.{◌≡◌, ◌==◌, ◌&&◌, ◌||◌, Bool, true, false, List, [], ◌∷◌, ◌++◌, refl, ap, ◌∙◌, arith}
use Rattle.std.specs.Prelude.{if◌then◌else◌}
use Rattle.std.specs.List.{list_any}
use Rattle.std.specs.Str.{bytes_eq}
use Rattle.std.proofs.lemmas.Bool.{false≢true}
use Rattle.std.proofs.lemmas.Bool.Decides.{nat_tests}
use Rattle.sl_meaning_calls.proofs.StretchLemmas.{Any, LeadsSo, StepUses, Uses}
use Rattle.sl_meaning_calls.specs.Laws.{HaveNoLabels}
use Rattle.sl_meaning_sections.specs.Statements.{behind, is_label, same_label}
use Rattle.sl_section_flat.specs.Sections as s
use Rattle.sl_section_flat.specs.Sections.{Direct, Label, Step}

-- ---- what is known of labels in two ways

module _ {Q P Q' P' Q'' P'' : Label → Type 0} (placed : (l : Label) → Q l → Q' l → Q'' l)
    (used : (l : Label) → P l → P' l → P'' l) where
  direct_joined : (to : Direct) → LeadsSo Q P to → LeadsSo Q' P' to → LeadsSo Q'' P'' to
  direct_joined (s.to_label l) h k = used l h k
  direct_joined (s.to_place a) h k = tt

  step_joined : (a : Step) → StepUses Q P a → StepUses Q' P' a → StepUses Q'' P'' a
  step_joined (s.declare x n) h k = tt
  step_joined (s.set a t) h k = tt
  step_joined (s.set_bits a low count t) h k = tt
  step_joined (s.store space n pointer x t) h k = tt
  step_joined (s.run_user op ts) h k = tt
  step_joined (s.build i) h k = tt
  step_joined (s.label l) h k = placed l h k
  step_joined (s.branch to) h k = direct_joined to h k
  step_joined (s.branch_if t to) h k = direct_joined to h k
  step_joined (s.branch_to t) h k = tt
  step_joined (s.call a) h k = tt
  step_joined (s.call_to t) h k = tt
  step_joined (s.return t) h k = tt
  step_joined (s.export what) h k = tt

  pub uses_joined : (ss : List Step) → Uses Q P ss → Uses Q' P' ss → Uses Q'' P'' ss
  uses_joined [] h k = tt
  uses_joined (a ∷ ss) h k = (step_joined a h.0 k.0, uses_joined ss h.1 k.1)

pub uses_more : {Q P Q' P' : Label → Type 0} → ((l : Label) → Q l → Q' l) → ((l : Label) → P l → P' l)
    → (ss : List Step) → Uses Q P ss → Uses Q' P' ss
uses_more placed used ss h = uses_joined (λ l q k. placed l q) (λ l p k. used l p) ss h h

-- ---- labels that are there

abbrev pub IsThere : Label → List Step → Type 0
IsThere l ss = list_any (λ a. is_label a l) ss ≡ true

or_last : (a b : Bool) → b ≡ true → (a || b) ≡ true
or_last true b h = refl
or_last false b h = h

or_kept : (a b c : Bool) → (b ≡ true → c ≡ true) → (a || b) ≡ true → (a || c) ≡ true
or_kept true b c more h = refl
or_kept false b c more h = more h

pub there_later : (l : Label) (xs ys : List Step) → IsThere l ys → IsThere l (xs ++ ys)
there_later l [] ys h = h
there_later l (x ∷ xs) ys h =
    or_last (is_label x l) (list_any (λ a. is_label a l) (xs ++ ys)) (there_later l xs ys h)

pub there_first : (l : Label) (xs ys : List Step) → IsThere l xs → IsThere l (xs ++ ys)
there_first l [] ys h = absurd (false≢true h)
there_first l (x ∷ xs) ys h =
    or_kept (is_label x l) (list_any (λ a. is_label a l) xs) (list_any (λ a. is_label a l) (xs ++ ys))
    (there_first l xs ys) h

picked : (b any : Bool) (ss rest more less : List Step) → (b || any) ≡ true → (any ≡ true → more ≡ less ++ rest)
    → (if b then ss ++ rest else more) ≡ (if b then ss else less) ++ rest
picked true any ss rest more less h later = refl
picked false any ss rest more less h later = later h

-- what stands behind a label that is there
pub behind_there : (l : Label) (ss rest : List Step) → IsThere l ss → behind l (ss ++ rest) ≡ behind l ss ++ rest
behind_there l [] rest h = absurd (false≢true h)
behind_there l (a ∷ ss) rest h =
    picked (is_label a l) (list_any (λ a. is_label a l) ss) ss rest (behind l (ss ++ rest)) (behind l ss) h
    (behind_there l ss rest)

-- ---- labels that aren't

abbrev pub Differs : Label → Label → Type 0
Differs l x = same_label x l ≡ false

not_label : (l : Label) (a : Step) → StepUses (Differs l) Any a → is_label a l ≡ false
not_label l (s.declare x n) h = refl
not_label l (s.set a t) h = refl
not_label l (s.set_bits a low count t) h = refl
not_label l (s.store space n pointer x t) h = refl
not_label l (s.run_user op ts) h = refl
not_label l (s.build i) h = refl
not_label l (s.label x) h = h
not_label l (s.branch to) h = refl
not_label l (s.branch_if t to) h = refl
not_label l (s.branch_to t) h = refl
not_label l (s.call a) h = refl
not_label l (s.call_to t) h = refl
not_label l (s.return t) h = refl
not_label l (s.export what) h = refl

pub behind_others : (l : Label) (front rest : List Step) → Uses (Differs l) Any front → behind l (front ++ rest) ≡ behind l rest
behind_others l [] rest h = refl
behind_others l (a ∷ front) rest h =
    ap (λ (b : Bool). if b then front ++ rest else behind l (front ++ rest)) (not_label l a h.0)
    ∙ behind_others l front rest h.1

pub other_call : (x l : Label) → (x.call ≡ l.call → ⊥) → Differs l x
other_call x l apart = ap (λ (b : Bool). b && bytes_eq x.name l.name) (let e : (x.call == l.call) ≡ false = grind (arith, nat_tests) in e)

-- where no label is placed
abbrev pub Never : Label → Type 0
Never l = ⊥

pub no_labels : (ss : List Step) → HaveNoLabels ss → Uses Never Any ss
no_labels [] h = tt
no_labels (s.declare x n ∷ ss) h = (tt, no_labels ss h)
no_labels (s.set a t ∷ ss) h = (tt, no_labels ss h)
no_labels (s.set_bits a low count t ∷ ss) h = (tt, no_labels ss h)
no_labels (s.store space n pointer x t ∷ ss) h = (tt, no_labels ss h)
no_labels (s.run_user op ts ∷ ss) h = (tt, no_labels ss h)
no_labels (s.build i ∷ ss) h = (tt, no_labels ss h)
no_labels (s.label l ∷ ss) h = absurd h
no_labels (s.branch (s.to_label l) ∷ ss) h = (tt, no_labels ss h)
no_labels (s.branch (s.to_place a) ∷ ss) h = (tt, no_labels ss h)
no_labels (s.branch_if t (s.to_label l) ∷ ss) h = (tt, no_labels ss h)
no_labels (s.branch_if t (s.to_place a) ∷ ss) h = (tt, no_labels ss h)
no_labels (s.branch_to t ∷ ss) h = (tt, no_labels ss h)
no_labels (s.call a ∷ ss) h = (tt, no_labels ss h)
no_labels (s.call_to t ∷ ss) h = (tt, no_labels ss h)
no_labels (s.return t ∷ ss) h = (tt, no_labels ss h)
no_labels (s.export what ∷ ss) h = (tt, no_labels ss h)
