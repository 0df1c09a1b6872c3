-- Texts of fields and of action names, and the lists that have them.
use Rattle.std.proofs.Common.{◌≡◌, ℕ, zero, suc, ◌⊎◌, inl, inr, ◌+◌, ◌≤◌, ℤ, List, [], ◌∷◌, ◌++◌, length, Option, Some, None, false, Ok, refl, sym, ap, subst, ◌∙◌, arith}
use Rattle.std.specs.Prelude.{IfSome, MatchOption, option_map, slice_get}
use Rattle.std.proofs.lemmas.Option.{same_Some}
use denote.Ref.{Bor}
use Rattle.sl_asm_bounds.specs.Bounds.{AreBetween, Fits, IsAsLong, IsOfSome}
use Rattle.sl_asm_bounds.specs.Texts.{AreTexts}
use Rattle.sl_asm_bounds.specs.declared.operands.Lengths.{Lengths}
use Rattle.sl_asm_fit.specs.Regions.{IsOf}
use Rattle.sl_asm_fit.specs.Windows.{with_zeros}
use Rattle.sl_asm_fit.specs.declared.Cell.{Cell}
use Rattle.sl_asm_bits.specs.declared.Known.{Known}
use Rattle.sl_asm_known.specs.FieldBits.{HasFieldBits, HasKnownBits, IsLeftWhere}
use Rattle.sl_asm_known.specs.Frames.{AreOf, IsSiteOf}
use Rattle.sl_asm_known.specs.declared.Frame.{Frame}
use Rattle.sl_asm_narrow.specs.Candidates.{Candidate, input_of}
use Rattle.sl_asm_narrow.specs.Nodes.{IsRead, IsWithinAll, spot_in}
use Rattle.sl_asm_narrow.specs.declared.operands.Operands.{Operands}
use Rattle.sl_asm_narrow.specs.Readers.{tables_of}
use Rattle.sl_asm_narrow.specs.Spots.{AreNamesTexts, IsSpotIn, IsTextOfName, KeepsField, KeepsPart, KeepsParts}
use Rattle.sl_asm_narrow.specs.declared.reader.Node.{Node}
use Rattle.sl_asm_narrow.specs.declared.reader.Reader.{Reader}
use Rattle.sl_asm_narrow.specs.declared.reader.Setting.{Setting}
use Rattle.sl_asm_values.specs.Names as v
use Rattle.sl_decode_leaves.specs.Extents.{extent}
use Rattle.sl_decode_leaves.specs.Looks.{look_step}
use Rattle.sl_decode_leaves.specs.declared.extents.Extent.{Extent}
use Rattle.sl_decode_leaves.specs.declared.looks.Look.{Look}
use Rattle.sl_decode_meaning.specs.Actions.{Own, own}
use Rattle.sl_decode_meaning.specs.Decoding.{site_at}
use Rattle.sl_decode_meaning.specs.Lookups.{number_at, shown}
use Rattle.sl_decode_meaning.specs.Outcomes.{in_turn}
use Rattle.sl_decode_meaning.specs.Values.{Site, value_or_zero}
use Rattle.sl_decode_plan.specs.Steps.{late_step}
use Rattle.sl_decode_plan.specs.declared.late.Late.{Late}
use Rattle.sl_faithful_reach.proofs.OutcomeLemmas.{came, same_ok}
use Rattle.sl_show.specs.Numbers.{number_text}
use Rattle.sl_show.specs.Templates.{part_text}
use Rattle.sl_show.specs.Texts.{Spot, field_text, field_text_by}
use Rattle.sl_show.specs.declared.templates.Part.{Part}
use Rattle.sl_show.specs.declared.templates.Part.TheVariants as p
use Rattle.sl_spec.specs.Attachments.{attached_to}
use Rattle.sl_spec.specs.Tables.{Field}
use Rattle.sl_spec.specs.declared.tables.Tables.{Tables}

-- ---- fields

if_known : (o : Option ℕ) (x : ℕ) → Fits o x → IfSome o (λ c. c ≡ x)
if_known None x fits = tt
if_known (Some c) x fits = fits

-- lists in which a field has a text, by what that says of its bits
module _ (t : Tables) (id : ℕ) (f : Field) (at : ℕ) (context : Option ℕ) (text : List ℕ) (region : List Cell) (near : at ≤ 255) (f_is : Some f ≡ slice_get t.fields id) where
  shown_by : (bytes : List ℕ) (from : ℕ) → field_text t id (with_zeros bytes) at from ≡ text
      → field_text_by t f (attached_to id t.attached) (number_at t f (with_zeros bytes) at from) ≡ text
  shown_by bytes from shows = rw (sym f_is) at shows

  pub field_nowhere : ((n : ℕ) → field_text_by t f (attached_to id t.attached) n ≡ text → ⊥) → KeepsField t region id at context text None
  field_nowhere none = λ bytes from inside fits shows. none (number_at t f (with_zeros bytes) at from) (shown_by bytes from shows)

  pub field_left : (k : Known) (found : Option (List Cell)) → ((n : ℕ) → field_text_by t f (attached_to id t.attached) n ≡ text → HasKnownBits f k n)
      → IsLeftWhere (HasFieldBits t f at context k) region found → KeepsField t region id at context text found
  field_left k found known left = λ bytes from inside fits shows.
      is_left found left bytes inside (record {
        place = at;
        place_is = omega (arith, near);
        from = from;
        known = if_known context from fits;
        has = known (number_at t f (with_zeros bytes) at from) (shown_by bytes from shows);
      })
    where
      is_left : (found : Option (List Cell)) → IsLeftWhere (HasFieldBits t f at context k) region found → (bytes : List ℕ) → IsOf region bytes
          → HasFieldBits t f at context k bytes → IsOfSome found bytes
      is_left None none bytes inside has = none bytes inside has
      is_left (Some narrow) keeps bytes inside has = keeps.stays bytes inside has

  pub field_long : (k : Known) (found : Option (List Cell)) → IsLeftWhere (HasFieldBits t f at context k) region found → IsAsLong (length region) found
  field_long k None none = tt
  field_long k (Some narrow) keeps = keeps.long

pub no_field : (t : Tables) (id at : ℕ) (context : Option ℕ) (text : List ℕ) (region : List Cell) → KeepsField t region id at context text (Some region)
no_field t id at context text region = λ bytes from inside fits shows. inside

-- ---- parts, one by one

module _ (t : Tables) (lengths : Lengths) (at : ℕ) (known : Option ℕ) where
  pub by_place : (region : List Cell) (id place : ℕ) (e : Extent) (text : List ℕ) (found : Option (List Cell))
      → ((those : List ℕ) → AreBetween lengths.leasts.items lengths.mosts.items those → at + extent e those ≡ place)
      → KeepsField t region id place known text found → KeepsPart t region lengths at known (p.Field id e) text found
  by_place region id place e text found place_is keeps = λ bytes s inside spot shows.
      let there : s.at + extent e s.lengths ≡ place = ap (λ (n : ℕ). n + extent e s.lengths) spot.place ∙ place_is s.lengths spot.between in
      keeps bytes s.context inside spot.from
      (ap (λ (l : List ℕ). field_text t id l place s.context) (sym spot.reads)
      ∙ ap (λ (n : ℕ). field_text t id s.bytes n s.context) (sym there) ∙ sym shows)

  module _ (parts : List Part) (texts : List (Bor (List ℕ))) (whole : List Cell) where
    -- the lists stay in the region in which the parts have their texts
    abbrev pub StayIn : List Cell → Type 0
    StayIn region = (bytes : List ℕ) (s : Spot) → IsOf whole bytes → IsSpotIn lengths at known bytes s
        → AreTexts (part_text t s) parts texts → IsOf region bytes

    pub stay_whole : StayIn whole
    stay_whole = λ bytes s inside spot texts_are. inside

    pub stay_narrow : (region narrow : List Cell) (n : ℕ) (part : Part) (text : Bor (List ℕ)) → slice_get parts n ≡ Some part → slice_get texts n ≡ Some text
        → KeepsPart t region lengths at known part text.now (Some narrow) → StayIn region → StayIn narrow
    stay_narrow region narrow n part text part_is text_is keeps stay = λ bytes s inside spot texts_are.
        keeps bytes s (stay bytes s inside spot texts_are) spot (texts_are n part text part_is text_is)

    pub stay_nowhere : (region : List Cell) (n : ℕ) (part : Part) (text : Bor (List ℕ)) → slice_get parts n ≡ Some part → slice_get texts n ≡ Some text
        → KeepsPart t region lengths at known part text.now None → StayIn region → KeepsParts t whole lengths at known parts texts None
    stay_nowhere region n part text part_is text_is keeps stay = λ bytes s inside spot texts_are.
        keeps bytes s (stay bytes s inside spot texts_are) spot (texts_are n part text part_is text_is)

-- ---- action names

-- look-ups leave what is under way as it is
looks_keep : (t : Tables) (s : Site) (looks : List Look) (c after : Own) → in_turn (look_step t s) looks c ≡ Ok after → c ≡ after
looks_keep t s [] c after is = same_ok c after is
looks_keep t s (x ∷ looks) c after is =
    let first = came (look_step t s x c) _ after is in
    let found = came (shown t x.field s.bytes (s.at + extent x.place s.lengths) s.context) _ first.0 first.1 in
    same_ok c first.0 found.2 ∙ looks_keep t s looks first.0 after first.2

slice_push : {X : Type 0} (xs : List X) (x y : X) (k : ℕ) → slice_get (xs ++ x ∷ []) k ≡ Some y → (slice_get xs k ≡ Some y) ⊎ ((k ≡ length xs) × (x ≡ y))
slice_push [] x y zero e = inr (refl, same_Some x y e)
slice_push [] x y (suc k) e = absurd cc
slice_push (z ∷ xs) x y zero e = inl e
slice_push (z ∷ xs) x y (suc k) e = elim (slice_push xs x y k e) [
  | inl there ↦ inl there
  | inr last ↦ inr (ap suc last.0, last.1)
]

-- the text of one name more
pub one_name_more : (parts : List Part) (texts : List (Bor (List ℕ))) (wanted : List (Option (Bor (List ℕ)))) (n : ℕ) (found : Option (Bor (List ℕ))) → length wanted ≡ n
    → IfSome found (IsTextOfName parts texts n) → AreNamesTexts parts texts wanted → AreNamesTexts parts texts (wanted ++ found ∷ [])
one_name_more parts texts wanted n found long its are = λ number text is. elim (slice_push wanted found (Some text) number is) [
  | inl there ↦ are number text there
  | inr last ↦
      let at : n ≡ number = omega (arith, long, last.0) in
      subst (λ (k : ℕ). IsTextOfName parts texts k text) at (subst (λ (o : Option (Bor (List ℕ))). IfSome o (IsTextOfName parts texts n)) last.1 its)
]

module _ {r : Reader} {s : Setting} (c : Candidate r s) (node : Node) (context long : ℕ) (text : List ℕ) (after : ℕ)
    (n : IsRead c node context long text after) (are : AreTexts (part_text (tables_of r) (spot_in c n)) node.parts.now node.texts.now) where
  abbrev pub site : Site
  site = site_at (input_of c) n.ctor node.goal.at n.inner context c.next

  -- the node's names have the texts that are wanted of them
  pub names_are : (wanted : List (Option (Bor (List ℕ)))) → AreNamesTexts node.parts.now node.texts.now wanted → v.Names (tables_of r) node.plan.now.late wanted site
  names_are wanted wanted_are =
      let looked = came (in_turn (look_step (tables_of r) site) node.plan.now.looks.items (own n.notes [] n.commits)) _ (own n.others n.values n.more) n.late in
      let same = looks_keep (tables_of r) site node.plan.now.looks.items (own n.notes [] n.commits) looked.0 looked.1 in
      record {
        notes = n.notes;
        others = n.others;
        values = n.values;
        commits = n.commits;
        more = n.more;
        are = ap (λ (o : Own). in_turn (late_step (tables_of r) site) node.plan.now.late o) same ∙ looked.2;
        wanted_are = λ i wish z wish_is z_is.
            let its = wanted_are i wish wish_is in
            let shows = are its.index (p.Action i) wish its.part_is its.text_is in
            ap (λ (o : Option ℤ). number_text false (value_or_zero o)) (sym z_is) ∙ sym shows;
      }

  -- lists of a region in which the parts have these texts
  pub in_parts : (o : Operands) (found : Option (List Cell)) → IsWithinAll o c.bytes n.inner after → Fits node.goal.context context
      → KeepsParts (tables_of r) o.region.items o.lengths node.goal.at node.goal.context node.parts.now node.texts.now found → IsOfSome found c.bytes
  in_parts o found within known keeps = keeps c.bytes (spot_in c n) within.region (record { reads = refl; place = refl; from = known; between = within.between }) are

  abbrev pub site_is : (f : Frame) (region : List Cell) → IsOf region c.bytes → f.at ≡ node.goal.at → f.lengths.now ≡ n.inner → f.context ≡ context
      → f.start ≡ s.start → f.next ≡ c.next → f.names.now ≡ [] → IsSiteOf f region site
  site_is f region inside at_is lengths_is context_is start_is next_is names_is = record {
    bytes = c.bytes;
    of_region = inside;
    reads = refl;
    at = sym at_is;
    lengths = sym lengths_is;
    context = sym context_is;
    start = sym start_is;
    next = sym next_is;
    names = subst (λ (l : List Known). AreOf l []) (sym names_is) (record { long = refl; has = λ i k z e. absurd cc });
  }

-- where the names have wanted texts, the list is among those that are kept
pub names_keep : {V : Type 0} (items : V → List Cell) (found : Option V) (t : Tables) (f : Frame) (region : List Cell) (steps : List Late) (wanted : List (Option (Bor (List ℕ))))
    → MatchOption found (v.NamesNone t f region steps wanted) (λ x. v.KeepsNames t f region steps wanted (items x))
    → (s : Site) (is : IsSiteOf f region s) → v.Names t steps wanted s → IsOfSome (option_map items found) is.bytes
names_keep items None t f region steps wanted none s is names = none s is names
names_keep items (Some x) t f region steps wanted keeps s is names = keeps.stays s is names
