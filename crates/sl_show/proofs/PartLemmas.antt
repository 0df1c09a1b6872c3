-- Parts of templates, and what they show.
use Rattle.std.proofs.Common.{◌≡◌, ℕ, ◌+◌, ◌<◌, ◌/◌, ◌^◌, List, [], ◌∷◌, ◌++◌, length, drop, take, get_or, add-one, min, max, append-nil, append_assoc, refl, sym, ap, ◌∙◌, arith, Option, Some, None, inl, inr}
use Rattle.std.specs.Prelude.{if◌then◌else◌, slice_get}
use Rattle.std.specs.List.{flat_map}
use Rattle.std.proofs.Math.Path.{fun_ext}
use Rattle.std.proofs.lemmas.Bool.{cases_lt, lt-leb}
use Rattle.std.proofs.lemmas.Grind.{flat_map-append}
use Rattle.std.proofs.Math.Seq.{take-suc}
use Rattle.sl_ast.specs.Trees.{Constructor}
use Rattle.sl_ast.specs.Unfolding.{Placed}
use Rattle.sl_decode_meaning.specs.Lookups.{is_whole}
use Rattle.sl_decode_meaning.specs.Trees.{Node, Trees}
use Rattle.sl_show.specs.Templates.{AreTemplates, part_text, parts_text, template_text}
use Rattle.sl_show.specs.Texts.{Spot, field_text, field_text_by, field_text_if, first_text, shown_text, texts_by}
use Rattle.sl_show.specs.declared.templates.Part.{Part}
use Rattle.sl_show.specs.declared.templates.Template.{Template}
use Rattle.sl_spec.specs.FieldValues.{number_in, token_of}
use Rattle.sl_spec.specs.Tables.{Field, Token}
use Rattle.sl_spec.specs.declared.tables.Tables.{Tables}

module _ (t : Tables) (s : Spot) where
  pub no_parts : parts_text t s [] ≡ []
  unfolding parts_text
  no_parts = refl

  pub parts_more : (parts new : List Part) (p : Part) → new ≡ parts ++ p ∷ [] → parts_text t s new ≡ parts_text t s parts ++ part_text t s p
  unfolding parts_text
  parts_more parts new p e =
      ap (flat_map (part_text t s)) e ∙ flat_map-append (part_text t s) parts (p ∷ []) ∙ ap (λ l. flat_map (part_text t s) parts ++ l) (append-nil (part_text t s p))

  -- nothing was made yet
  pub none_made : (parts : List Part) (text : List ℕ) → parts ≡ [] → text ≡ [] → parts_text t s parts ++ text ≡ []
  none_made parts text p e = ap (λ ps. parts_text t s ps ++ text) p ∙ ap (λ l. parts_text t s [] ++ l) e ∙ append-nil (parts_text t s []) ∙ no_parts

  -- another part
  pub part_added : (parts new : List Part) (p : Part) (text whole : List ℕ) → new ≡ parts ++ p ∷ [] → text ≡ [] → parts_text t s parts ≡ whole → parts_text t s new ++ text ≡ whole ++ part_text t s p
  part_added parts new p text whole e none so_far =
      ap (λ l. parts_text t s new ++ l) none ∙ append-nil (parts_text t s new) ∙ parts_more parts new p e ∙ ap (λ l. l ++ part_text t s p) so_far

  -- one more part of a list
  pub part_shown : (parts : List Part) (i : ℕ) (p : Part) (old now new : List ℕ) → i < length parts → p ≡ get_or parts i p
      → now ≡ old ++ parts_text t s (take i parts) → new ≡ now ++ part_text t s p → new ≡ old ++ parts_text t s (take (i + 1) parts)
  part_shown parts i p old now new below is so_far one =
      let next : take (i + 1) parts ≡ take i parts ++ get_or parts i p ∷ [] = rw add-one (take-suc parts i p below) in
      let more : take (i + 1) parts ≡ take i parts ++ p ∷ [] = next ∙ ap (λ (q : Part). take i parts ++ q ∷ []) (sym is) in
      one ∙ ap (λ l. l ++ part_text t s p) so_far ∙ append_assoc old (parts_text t s (take i parts)) (part_text t s p)
      ∙ ap (λ l. old ++ l) (sym (parts_more (take i parts) (take (i + 1) parts) p more))

-- ---- places

-- a token behind the end of the bytes isn't whole
far_by : (o : Option Token) (bytes : List ℕ) (context p q : ℕ) → length bytes < p → length bytes < q
    → (if is_whole o p (length bytes) then number_in o (drop p bytes) context else 0) ≡ (if is_whole o q (length bytes) then number_in o (drop q bytes) context else 0)
far_by None bytes context p q past beyond = refl
far_by (Some token) bytes context p q past beyond =
    ap (λ b. if b then number_in (Some token) (drop p bytes) context else 0) (lt-leb (p + token.bits / 8) (length bytes) (omega (arith, past)))
    ∙ sym (ap (λ b. if b then number_in (Some token) (drop q bytes) context else 0) (lt-leb (q + token.bits / 8) (length bytes) (omega (arith, beyond))))

far_if : (t : Tables) (id : ℕ) (o : Option Field) (bytes : List ℕ) (context p q : ℕ) → length bytes < p → length bytes < q → field_text_if t id o bytes p context ≡ field_text_if t id o bytes q context
far_if t id None bytes context p q past beyond = refl
far_if t id (Some f) bytes context p q past beyond = ap (field_text_by t f _) (far_by (token_of t.tokens f) bytes context p q past beyond)

-- a place that is reckoned up to the greatest number
pub same_place : (t : Tables) (id : ℕ) (bytes : List ℕ) (context at x n r : ℕ) → length bytes < 2 ^ 63 → n ≡ min x 18446744073709551615 → r ≡ min (at + n) 18446744073709551615
    → field_text t id bytes r context ≡ field_text t id bytes (at + x) context
same_place t id bytes context at x n r few is whole = elim (cases_lt (at + x) 18446744073709551615) [
  | inl near ↦ let same : r ≡ at + x = grind (arith, is, whole, near) in ap (λ p. field_text t id bytes p context) same
  | inr far ↦ let most : r ≡ 18446744073709551615 = grind (arith, is, whole, far) in
      far_if t id (slice_get t.fields id) bytes context r (at + x) (omega (arith, few, most)) (omega (arith, few, far))
]

pub capped_sum : (m a b x y r : ℕ) → x ≡ min a m → y ≡ min b m → r ≡ min (x + y) m → r ≡ min (a + b) m
capped_sum m a b x y r p q e = grind (arith, p, q, e)

pub capped_max : (m a b x y r : ℕ) → x ≡ min a m → y ≡ min b m → r ≡ max x y → r ≡ min (max a b) m
capped_max m a b x y r p q e = grind (arith, p, q, e)

-- ---- the whole

-- templates that show each node as the constructors do show trees as they do
pub shown_is : (t : Tables) (templates : List Template) (constructors : List (Placed Constructor)) (bytes : List ℕ) (f : Trees Node) → AreTemplates t constructors templates
    → first_text (texts_by (template_text t templates) bytes f) ≡ shown_text t constructors bytes f
unfolding shown_text
shown_is t templates constructors bytes f are =
    ap (λ (shows : ℕ → Spot → List ℕ). first_text (texts_by shows bytes f)) (fun_ext (λ number. fun_ext (λ s. are number s)))
