-- Contexts after steps.
use Rattle.std.proofs.Common.{◌≡◌, ℕ, ◌+◌, ◌<◌, ◌≤◌, List, [], ◌∷◌, ◌++◌, length, get_or, drop, drop-cons, suc, Option, Result, Ok, Err, ap, arith, refl, sym, subst, ◌∙◌}
use Rattle.std.specs.Prelude.{Vec}
use Rattle.std.specs.declared.alloc.Global.{Global}
use Rattle.std.specs.declared.rc.Rc.{Rc}
use Rattle.std.proofs.lemmas.List.{drop_all}
use Rattle.sl_asm_bounds.specs.Bounds.{Fits, IsEarlySite}
use Rattle.sl_asm_fit.specs.declared.Cell.{Cell}
use Rattle.sl_asm_known.specs.declared.Frame.{Frame}
use Rattle.sl_decode_meaning.specs.Actions.{Changed, changed}
use Rattle.sl_decode_meaning.specs.Outcomes.{◌>>=◌, in_turn}
use Rattle.sl_decode_meaning.specs.Values.{Site}
use Rattle.sl_decode_meaning.specs.declared.faults.Fault.{Fault}
use Rattle.sl_decode_meaning.specs.declared.notes.Noted.{Noted}
use Rattle.sl_decode_plan.specs.Rows.{all_steps}
use Rattle.sl_decode_plan.specs.Steps.{early_step}
use Rattle.sl_decode_plan.specs.declared.early.Early.{Early}
use Rattle.sl_spec.specs.declared.tables.Tables.{Tables}

pub came : {A B : Type 0} (r : Result A Fault) (f : A → Result B Fault) (b : B) → (r >>= f) ≡ Ok b → (a : A) × (r ≡ Ok a) × (f a ≡ Ok b)
came (Ok a) f b e = (a, refl, e)
came (Err x) f b e = absurd cc

turn_append : {A X : Type 0} (f : A → X → Result X Fault) (xs ys : List A) (x : X) → in_turn f (xs ++ ys) x ≡ (in_turn f xs x >>= in_turn f ys)
turn_append f [] ys x = refl
turn_append f (a ∷ as') ys x = elim (f a x) as (λ r. (r >>= in_turn f (as' ++ ys)) ≡ ((r >>= in_turn f as') >>= in_turn f ys)) [
  | Ok y ↦ turn_append f as' ys y
  | Err e ↦ refl
]

abbrev pub Shared : Type 0
Shared = Rc (Vec Early Global) Global

same_context : (x y : ℕ) (m n : List Noted) → ◌≡◌ {A = Result Changed Fault} (Ok (changed x m)) (Ok (changed y n)) → x ≡ y
same_context x y m n e = cc

module _ (t : Tables) (f : Frame) (region : List Cell) where
  -- Whatever the context was, if it is the known one: the steps that are left lead from the known one now to the end.
  abbrev pub Leads : Option ℕ → Option ℕ → List Early → List Early → Type 0
  Leads context known all left = (s : Site) (x y : ℕ) (before behind : List Noted) → IsEarlySite f region s → Fits context x
      → in_turn (early_step t s) all (changed x before) ≡ Ok (changed y behind)
      → (z : ℕ) × (notes : List Noted) × Fits known z × (in_turn (early_step t s) left (changed z notes) ≡ Ok (changed y behind))

  pub leads_none : (context : Option ℕ) (all : List Early) → Leads context context all all
  leads_none context all = λ s x y before behind early fits is. (x, before, fits, is)

  -- steps of which it is known what they leave
  abbrev pub LeadTo : Option ℕ → List Early → Option ℕ → Type 0
  LeadTo context row after = (s : Site) (x y : ℕ) (before behind : List Noted) → IsEarlySite f region s → Fits context x
      → in_turn (early_step t s) row (changed x before) ≡ Ok (changed y behind) → Fits after y

  after_some : (s : Site) (row left : List Early) (known after : Option ℕ) (z y : ℕ) (notes behind : List Noted) (c : Changed)
      → IsEarlySite f region s → LeadTo known row after → Fits known z → in_turn (early_step t s) row (changed z notes) ≡ Ok c
      → in_turn (early_step t s) left c ≡ Ok (changed y behind)
      → (w : ℕ) × (more : List Noted) × Fits after w × (in_turn (early_step t s) left (changed w more) ≡ Ok (changed y behind))
  after_some s row left known after z y notes behind (changed w more) early leads fits one rest = (w, more, leads s z w notes more early fits one, rest)

  pub leads_more : (context known after : Option ℕ) (all row left : List Early) → LeadTo known row after → Leads context known all (row ++ left)
      → Leads context after all left
  leads_more context known after all row left leads h = λ s x y before behind early fits is.
      let mid = h s x y before behind early fits is in
      let split = sym (turn_append (early_step t s) row left (changed mid.0 mid.1)) ∙ mid.3 in
      let one = came (in_turn (early_step t s) row (changed mid.0 mid.1)) (in_turn (early_step t s) left) (changed y behind) split in
      after_some s row left known after mid.0 y mid.1 behind one.0 early leads mid.2 one.1 one.2

  -- a step of which it is known what it leaves
  abbrev pub StepsTo : Option ℕ → Early → Option ℕ → Type 0
  StepsTo context step after = (s : Site) (x y : ℕ) (before behind : List Noted) → IsEarlySite f region s → Fits context x
      → early_step t s step (changed x before) ≡ Ok (changed y behind) → Fits after y

  one_step : (context after : Option ℕ) (step : Early) → StepsTo context step after → LeadTo context (step ∷ []) after
  one_step context after step steps = λ s x y before behind early fits is.
      let one = came (early_step t s step (changed x before)) (in_turn (early_step t s) []) (changed y behind) is in
      steps s x y before behind early fits (one.1 ∙ one.2)

  pub leads_all : (context known : Option ℕ) (all : List Early) → Leads context known all [] → LeadTo context all known
  leads_all context known all h = λ s x y before behind early fits is.
      let mid = h s x y before behind early fits is in
      subst (λ (n : ℕ). Fits known n) (same_context mid.0 y mid.1 behind mid.3) mid.2

  -- ---- steps of a row

  there : (all : List Early) (index : ℕ) (step : Early) → index < length all → step ≡ get_or all index step → drop index all ≡ step ∷ drop (index + 1) all
  there all index step below is =
      let next : suc index ≡ index + 1 = omega arith in
      drop-cons all index step below ∙ ap (λ (e : Early). e ∷ drop (suc index) all) (sym is) ∙ ap (λ (n : ℕ). step ∷ drop n all) next

  pub steps_more : (context known after : Option ℕ) (all : List Early) (index : ℕ) (step : Early) → index < length all → step ≡ get_or all index step
      → StepsTo known step after → Leads context known all (drop index all) → Leads context after all (drop (index + 1) all)
  steps_more context known after all index step below is steps h =
      leads_more context known after all (step ∷ []) (drop (index + 1) all) (one_step known after step steps)
      (subst (λ (l : List Early). Leads context known all l) (there all index step below is) h)

  pub steps_all : (context known : Option ℕ) (all : List Early) (index : ℕ) → length all ≤ index → Leads context known all (drop index all)
      → LeadTo context all known
  steps_all context known all index past h = leads_all context known all (subst (λ (l : List Early). Leads context known all l) (drop_all index all past) h)

  -- ---- rows

  rest_there : (rows : List Shared) (index : ℕ) (r : Shared) → index < length rows → r ≡ get_or rows index r → drop index rows ≡ r ∷ drop (index + 1) rows
  rest_there rows index r below is =
      let next : suc index ≡ index + 1 = omega arith in
      drop-cons rows index r below ∙ ap (λ (e : Shared). e ∷ drop (suc index) rows) (sym is) ∙ ap (λ (n : ℕ). r ∷ drop n rows) next

  pub rows_more : (context known after : Option ℕ) (rows : List Shared) (index : ℕ) (r : Shared) (row : List Early) → index < length rows → r ≡ get_or rows index r
      → row ≡ r.value.items → LeadTo known row after → Leads context known (all_steps rows) (all_steps (drop index rows))
      → Leads context after (all_steps rows) (all_steps (drop (index + 1) rows))
  rows_more context known after rows index r row below is row_is leads h =
      leads_more context known after (all_steps rows) r.value.items (all_steps (drop (index + 1) rows))
      (subst (λ (l : List Early). LeadTo known l after) row_is leads)
      (subst (λ (l : List Shared). Leads context known (all_steps rows) (all_steps l)) (rest_there rows index r below is) h)

  pub rows_all : (context known : Option ℕ) (rows : List Shared) (index : ℕ) (steps : List Early) → length rows ≤ index → all_steps rows ≡ steps
      → Leads context known (all_steps rows) (all_steps (drop index rows)) → LeadTo context steps known
  rows_all context known rows index steps past is h =
      subst (λ (l : List Early). LeadTo context l known) is
      (leads_all context known (all_steps rows)
      (subst (λ (l : List Shared). Leads context known (all_steps rows) (all_steps l)) (drop_all index rows past) h))
