-- Templates of constructors, one behind the other.
use Rattle.std.proofs.Common.{◌≡◌, ℕ, zero, suc, ◌<◌, ◌≤◌, ◌+◌, List, [], ◌∷◌, ◌++◌, length, get_or, Option, None, Some, slice_get, refl, sym, ap, ◌∙◌, arith, inl, inr, length-append}
use Rattle.std.proofs.Math.ListN.{get_or-append}
use Rattle.std.proofs.Math.Seq.{get_or-append_seam}
use Rattle.std.proofs.lemmas.Bool.{cases_lt}
use Rattle.std.proofs.lemmas.Option.{slice_get-get_or, slice_get-map, slice_get_past, slice_get_read}
use Rattle.std.specs.Option.{option_map}
use Rattle.sl_ast.specs.Trees.{Constructor}
use Rattle.sl_ast.specs.Unfolding.{Placed}
use Rattle.sl_show.specs.Templates.{AreTemplates, parts_of, parts_text, template_text}
use Rattle.sl_show.specs.Texts.{Spot, node_text, node_text_by}
use Rattle.sl_show.specs.declared.templates.Template.{Template}
use Rattle.sl_show.proofs.PartLemmas.{no_parts}
use Rattle.sl_spec.specs.Tables.{Ctor}
use Rattle.sl_spec.specs.Unfolded.{all_placed, placed}
use Rattle.sl_spec.specs.declared.tables.Tables.{Tables}
use Rattle.sl_spec.specs.declared.unfolded.Unfolded.{Unfolded}

-- The templates that are made show the nodes of the first constructors.
pub record AreFirst (t : Tables) (constructors : List (Placed Constructor)) (made : List Template) (count : ℕ) : Type 0 where
  pub size : length made ≡ count
  pub each : (number : ℕ) (s : Spot) → number < count → template_text t made number s ≡ node_text t constructors number s

pub none_first : (t : Tables) (constructors : List (Placed Constructor)) (made : List Template) → made ≡ [] → AreFirst t constructors made 0
none_first t constructors made e = record { size = ap length e; each = λ number s below. absurd (omega (arith, below)) }

-- a constructor at an index, as it is written there
pub node_at : (t : Tables) (us : List Unfolded) (i : ℕ) (ctor : Ctor) (u : Unfolded) (s : Spot) → slice_get t.constructors i ≡ Some ctor → i < length us → u ≡ get_or us i u
    → node_text_by t (Some ctor) (Some (placed u)) s ≡ node_text t (all_placed us) i s
node_at t us i ctor u s there within is =
    sym (ap (λ c. node_text_by t c (slice_get (all_placed us) i) s) there
    ∙ ap (λ w. node_text_by t (Some ctor) w s) (slice_get-map placed us i ∙ ap (option_map placed) (slice_get_read us (length us) i u refl within is)))

pub none_past : {X : Type 0} (xs : List X) (i : ℕ) → slice_get xs i ≡ None → length xs ≤ i
none_past [] i h = omega arith
none_past (x ∷ xs) zero h = absurd (cc)
none_past (x ∷ xs) (suc i) h = let rest = none_past xs i h in omega (arith, rest)

nothing_by : (t : Tables) (c : Option Ctor) (s : Spot) → node_text_by t c None s ≡ []
nothing_by t None s = refl
nothing_by t (Some c) s = refl

module _ (t : Tables) (constructors : List (Placed Constructor)) (made : List Template) (count : ℕ) (first : AreFirst t constructors made count) where
  pub template_next : (template : Template) (more : List Template) → more ≡ made ++ template ∷ []
      → ((s : Spot) → parts_text t s template.parts.items ≡ node_text t constructors count s) → AreFirst t constructors more (count + 1)
  template_next template more e shows = record {
    size = ap length e ∙ length-append made (template ∷ []) ∙ ap (λ n. n + 1) first.size;
    each = λ number s below. elim (cases_lt number count) [
      | inl before ↦
          let there : number < length made = omega (arith, before, first.size) in
          let long : number < length (made ++ template ∷ []) = omega (arith, there, length-append made (template ∷ [])) in
          let old : slice_get more number ≡ slice_get made number =
          ap (λ l. slice_get l number) e ∙ slice_get-get_or (made ++ template ∷ []) number template long
          ∙ ap Some (get_or-append made (template ∷ []) template number there) ∙ sym (slice_get-get_or made number template there) in
          ap (λ o. parts_text t s (parts_of o)) old ∙ first.each number s before
      | inr past ↦
          let this : number ≡ length made = omega (arith, below, past, first.size) in
          let long : length made < length (made ++ template ∷ []) = omega (arith, length-append made (template ∷ [])) in
          let new : slice_get more number ≡ Some template =
          ap (λ l. slice_get l number) e ∙ ap (slice_get (made ++ template ∷ [])) this ∙ slice_get-get_or (made ++ template ∷ []) (length made) template long
          ∙ ap Some (get_or-append_seam made template [] template) in
          ap (λ o. parts_text t s (parts_of o)) new ∙ shows s ∙ ap (λ n. node_text t constructors n s) (sym (this ∙ first.size))
    ];
  }

  past_one : (number : ℕ) (s : Spot) → count ≤ number → template_text t made number s ≡ []
  past_one number s past = ap (λ o. parts_text t s (parts_of o)) (slice_get_past made number (omega (arith, past, first.size))) ∙ no_parts t s

  all_by : ((number : ℕ) (s : Spot) → count ≤ number → node_text t constructors number s ≡ []) → AreTemplates t constructors made
  all_by none number s = elim (cases_lt number count) [
    | inl before ↦ first.each number s before
    | inr past ↦ past_one number s past ∙ sym (none number s past)
  ]

  pub out_of_constructors : length t.constructors ≤ count → AreTemplates t constructors made
  out_of_constructors end = all_by (λ number s past. ap (λ c. node_text_by t c (slice_get constructors number) s) (slice_get_past t.constructors number (omega (arith, end, past))))

  pub out_of_written : length constructors ≤ count → AreTemplates t constructors made
  out_of_written end = all_by (λ number s past. ap (λ w. node_text_by t (slice_get t.constructors number) w s) (slice_get_past constructors number (omega (arith, end, past))) ∙ nothing_by t (slice_get t.constructors number) s)
