-- Templates of constructors, one behind the other.
use Rattle.std.proofs.Common.{◌≡◌, ℕ, zero, suc, ◌<◌, ◌≤◌, ◌+◌, List, [], ◌∷◌, ◌++◌, length, get_or, Option, None, Some, slice_get, refl, sym, ap, subst, ◌∙◌, arith, inl, inr, length-append}
use Rattle.std.proofs.lemmas.Bool.{cases_lt}
use Rattle.std.proofs.lemmas.Option.{slice_get-map, slice_get_past, slice_get_read}
use Rattle.std.specs.Option.{option_map}
use Rattle.std.specs.Prelude.{Vec, unwrap_or}
use Rattle.std.specs.declared.alloc.Global.{Global}
use Rattle.sl_build.specs.Views.{AreTemplates, form_by, form_of_sizes, template_at, templates_of}
use Rattle.sl_section_all.specs.FlatSections.{Flat}
use Rattle.sl_section_all.specs.Views.{flat_of, flats_of}
use Rattle.sl_meaning_instruction.specs.Instructions.{no_steps, section_by}
use Rattle.sl_section_flat.specs.Sections.{Step}
use Rattle.sl_section_flat.specs.Views.{steps_of}
use Rattle.sl_section_flat.specs.declared.section.Section.{Section}
use Rattle.sl_build_template.specs.Pieces.{Form, Part}
use Rattle.sl_build_template.specs.Views.{IsTemplateOf, parts_of}
use Rattle.sl_build_template.specs.declared.piece.Part as declared
use Rattle.sl_word.specs.Sizes.{byte_counts}
use Rattle.sl_word.specs.declared.word.AddressSize.{AddressSize}
use Rattle.sl_word.specs.declared.word.Size.{Size}

template_before : (ts : List (List Part)) (t : List Part) (i : ℕ) → i < length ts → template_at (ts ++ t ∷ []) i ≡ template_at ts i
template_before [] t i h = absurd (omega (arith, h))
template_before (x ∷ xs) t zero h = refl
template_before (x ∷ xs) t (suc i) h = template_before xs t i (omega (arith, h))

template_last : (ts : List (List Part)) (t : List Part) → template_at (ts ++ t ∷ []) (length ts) ≡ t
template_last [] t = refl
template_last (x ∷ xs) t = template_last xs t

none_is : (h : Form) → IsTemplateOf h [] []
none_is h top g f children sizes default size = refl

module _ (sizes : List ℕ) (default : ℕ) (flats : List Flat) (lists : List (List Size)) where
  abbrev IsAt : ℕ → List Part → Type 0
  IsAt i t = IsTemplateOf (form_by sizes default (section_by flats lists i)) (section_by flats lists i).steps t

  -- The templates that are made are those of the first constructors.
  pub record AreFirstOf (ts : List (List Part)) (count : ℕ) : Type 0 where
    pub size : length ts ≡ count
    pub each : (i : ℕ) → i < count → IsAt i (template_at ts i)

  pub no_templates : (ts : List (List Part)) → ts ≡ [] → AreFirstOf ts 0
  no_templates ts e = record { size = ap length e; each = λ i below. absurd (omega (arith, below)) }

  one_template : (ts : List (List Part)) (count : ℕ) (t : List Part) → AreFirstOf ts count → IsAt count t → AreFirstOf (ts ++ t ∷ []) (count + 1)
  one_template ts count t first is = record {
    size = length-append ts (t ∷ []) ∙ ap (λ k. k + 1) first.size;
    each = λ i below. elim (cases_lt i count) [
      | inl before ↦ subst (λ (x : List Part). IsAt i x) (sym (template_before ts t i (omega (arith, before, first.size)))) (first.each i before)
      | inr past ↦
          let this : i ≡ length ts = omega (arith, below, past, first.size) in
          let last : template_at (ts ++ t ∷ []) i ≡ t = ap (template_at (ts ++ t ∷ [])) this ∙ template_last ts t in
          subst (λ (x : List Part). IsAt i x) (sym last) (subst (λ k. IsAt k t) (sym (this ∙ first.size)) is)
    ];
  }

  pub next_template : (old new : List (List Part)) (count : ℕ) (t : List Part) → AreFirstOf old count → IsAt count t → new ≡ old ++ t ∷ [] → AreFirstOf new (count + 1)
  next_template old new count t first is e = subst (λ (ts : List (List Part)). AreFirstOf ts (count + 1)) (sym e) (one_template old count t first is)

  past_is : (i : ℕ) (t : List Part) (f : Option Flat) → f ≡ None → t ≡ []
      → IsTemplateOf (form_by sizes default (section_by flats lists i)) (unwrap_or f no_steps).steps t
  past_is i t f none e =
      subst (λ (x : List Part). IsTemplateOf (form_by sizes default (section_by flats lists i)) (unwrap_or f no_steps).steps x) (sym e)
      (subst (λ (o : Option Flat). IsTemplateOf (form_by sizes default (section_by flats lists i)) (unwrap_or o no_steps).steps []) (sym none) (none_is (form_by sizes default (section_by flats lists i))))

  pub all_templates_by : (ts : List (List Part)) (count : ℕ) → AreFirstOf ts count → length flats ≤ count → AreTemplates sizes default flats lists ts
  all_templates_by ts count first end = λ i. elim (cases_lt i count) [
    | inl before ↦ first.each i before
    | inr past ↦ past_is i (template_at ts i) (slice_get flats i) (slice_get_past flats i (omega (arith, end, past))) (ap (λ (o : Option (List Part)). unwrap_or o []) (slice_get_past ts i (omega (arith, past, first.size))))
  ]

-- the template of the section at an index
pub template_here : (sizes : List ℕ) (default : ℕ) (xs : List Section) (lists : List (List Size)) (i : ℕ) (x : Section) (ns : List Size) (ss : List Step) (t : List Part)
    → i < length xs → x ≡ get_or xs i x → ns ≡ unwrap_or (slice_get lists i) [] → ss ≡ steps_of x.steps.items → IsTemplateOf (form_of_sizes sizes default ns) ss t
    → IsTemplateOf (form_by sizes default (section_by (flats_of xs) lists i)) (section_by (flats_of xs) lists i).steps t
template_here sizes default xs lists i x ns ss t within is sized read template =
    let there : slice_get (flats_of xs) i ≡ Some (flat_of x) =
    slice_get-map flat_of xs i ∙ ap (option_map flat_of) (slice_get_read xs (length xs) i x refl within is) in
    let steps : ss ≡ (section_by (flats_of xs) lists i).steps = read ∙ ap (λ (o : Option Flat). (unwrap_or o no_steps).steps) (sym there) in
    subst (λ (l : List Step). IsTemplateOf (form_by sizes default (section_by (flats_of xs) lists i)) l t) steps
    (subst (λ (l : List Size). IsTemplateOf (form_of_sizes sizes default l) ss t) sized template)

-- one template more
pub pushed : (old new : List (Vec declared.Part Global)) (t : Vec declared.Part Global) → new ≡ old ++ t ∷ [] → templates_of new ≡ templates_of old ++ parts_of t.items ∷ []
pushed old new t e = ap templates_of e ∙ behind old
  where
    behind : (ts : List (Vec declared.Part Global)) → templates_of (ts ++ t ∷ []) ≡ templates_of ts ++ parts_of t.items ∷ []
    behind [] = refl
    behind (x ∷ xs) = ap (λ us. parts_of x.items ∷ us) (behind xs)

-- the same of what slices show
pub templates_there : (default : ℕ) (lists : List (List Size)) (ts : List (List Part)) (ns ms : List AddressSize) (xs ys : List Section) → ns ≡ ms → xs ≡ ys
    → AreTemplates (byte_counts ns) default (flats_of xs) lists ts → AreTemplates (byte_counts ms) default (flats_of ys) lists ts
templates_there default lists ts ns ms xs ys e d h =
    subst (λ (l : List Section). AreTemplates (byte_counts ms) default (flats_of l) lists ts) d
    (subst (λ (l : List AddressSize). AreTemplates (byte_counts l) default (flats_of xs) lists ts) e h)
