-- What is read of nodes, taken apart.
use Rattle.std.proofs.Common.{◌≡◌, ℕ, ◌+◌, List, [], ◌∷◌, ◌++◌, Option, Some, None, refl, sym, ap, subst, ◌∙◌}
use Rattle.std.specs.Prelude.{option_and_then}
use Rattle.sl_asm_encodings.specs.Readings.{Reading, node, no_more, one, one_more, operands, spot_of}
use Rattle.sl_asm_narrow.specs.Candidates.{Candidate, Says, input_of}
use Rattle.sl_asm_narrow.specs.Nodes.{IsNode}
use Rattle.sl_asm_narrow.specs.Readers.{tables_of, written_of}
use Rattle.sl_asm_narrow.specs.declared.reader.Reader.{Reader}
use Rattle.sl_asm_narrow.specs.declared.reader.Setting.{Setting}
use Rattle.sl_asm_fit.specs.Windows.{with_zeros}
use Rattle.sl_decode_meaning.specs.Decoding.{chosen, point_at, with_meaning}
use Rattle.sl_decode_meaning.specs.Meanings.{Meaning, Slot, says, slot}
use Rattle.sl_show.specs.Texts.{node_text}

-- ---- what is chosen

module _ (own_says : ℕ → Option Meaning) (ctor : ℕ) (m : Meaning) where
  with_from : (c : ℕ) (r : Option Meaning) → own_says c ≡ r → with_meaning c r ≡ Some (chosen ctor m) → (c ≡ ctor) × (own_says ctor ≡ Some m)
  with_from c None is e = absurd cc
  with_from c (Some other) is e =
      let ctor_is : c ≡ ctor = cc in
      let m_is : other ≡ m = cc in
      (ctor_is, ap own_says (sym ctor_is) ∙ is ∙ ap Some m_is)

  chosen_from : (found : Option ℕ) → option_and_then (λ c. with_meaning c (own_says c)) found ≡ Some (chosen ctor m) → (found ≡ Some ctor) × (own_says ctor ≡ Some m)
  chosen_from None e = absurd cc
  chosen_from (Some c) e = let both = with_from c (own_says c) refl e in (ap Some both.0, both.1)

module _ {r : Reader} {s : Setting} (c : Candidate r s) where
  -- a node, with its constructor, which its table chooses
  pub record Opened (table at before long : ℕ) (text : List ℕ) (after : ℕ) : Type 0 where
    pub ctor : ℕ
    pub choice : c.choose table (point_at (with_zeros c.bytes) at before) ≡ Some ctor
    pub is_node : IsNode c ctor at before long text after

  opened_if : (what : Reading) → Says c what → (table at before long : ℕ) (text : List ℕ) (after : ℕ)
      → what ≡ node table at before long text after → Opened table at before long text after
  opened_if what (one {table = its} {at = place} {x = x} {y = y} {ctor = ctor} {after = z} {m = m} {notes = notes} {others = others} {inner = inner} {texts = texts} {values = values} {commits = commits} {more = more} chosen_is early_is below late_is) table at before long text after e =
      let table_is : its ≡ table = cc in
      let at_is : place ≡ at = cc in
      let before_is : x ≡ before = cc in
      let long_is : m.length inner ≡ long = cc in
      let text_is : node_text (tables_of r) (written_of r) ctor (spot_of (input_of c) place y values inner texts) ≡ text = cc in
      let after_is : z ≡ after = cc in
      let both = chosen_from (says (tables_of r) (written_of r)) ctor m (c.choose its (point_at (with_zeros c.bytes) place x)) chosen_is in
      let own : Opened its place x (m.length inner) (node_text (tables_of r) (written_of r) ctor (spot_of (input_of c) place y values inner texts)) z = record {
        ctor = ctor;
        choice = both.0;
        is_node = record {
          context = y;
          meaning = m;
          notes = notes;
          others = others;
          inner = inner;
          texts = texts;
          values = values;
          commits = commits;
          more = more;
          means = both.1;
          early = early_is;
          below = below;
          late = late_is;
          length = refl;
          shows = refl;
        };
      } in
      subst (λ (a : ℕ). Opened table at before long text a) after_is
      (subst (λ (w : List ℕ). Opened table at before long w z) text_is
      (subst (λ (n : ℕ). Opened table at before n (node_text (tables_of r) (written_of r) ctor (spot_of (input_of c) place y values inner texts)) z) long_is
      (subst (λ (b : ℕ). Opened table at b (m.length inner) (node_text (tables_of r) (written_of r) ctor (spot_of (input_of c) place y values inner texts)) z) before_is
      (subst (λ (a : ℕ). Opened table a x (m.length inner) (node_text (tables_of r) (written_of r) ctor (spot_of (input_of c) place y values inner texts)) z) at_is
      (subst (λ (b : ℕ). Opened b place x (m.length inner) (node_text (tables_of r) (written_of r) ctor (spot_of (input_of c) place y values inner texts)) z) table_is own)))))
  opened_if what no_more table at before long text after e = absurd cc
  opened_if what (one_more first rest) table at before long text after e = absurd cc

  pub opened : (table at before long : ℕ) (text : List ℕ) (after : ℕ) → Says c (node table at before long text after) → Opened table at before long text after
  opened table at before long text after is = opened_if (node table at before long text after) is table at before long text after refl

  -- the operands from one on, one by one
  ended_if : (what : Reading) → Says c what → (at : ℕ) (lengths : List ℕ) (before : ℕ) (all : List ℕ) (texts : List (List ℕ)) (after : ℕ)
      → what ≡ operands [] at lengths before all texts after → (all ≡ lengths) × (after ≡ before)
  ended_if what (one chosen_is early_is below late_is) at lengths before all texts after e = absurd cc
  ended_if what (no_more {at = place} {x = x} {lengths = those}) at lengths before all texts after e =
      let first : those ≡ lengths = cc in
      let second : those ≡ all = cc in
      let third : x ≡ before = cc in
      let fourth : x ≡ after = cc in
      (sym second ∙ first, sym fourth ∙ third)
  ended_if what (one_more first rest) at lengths before all texts after e = absurd cc

  pub ended_row : (at : ℕ) (lengths : List ℕ) (before : ℕ) (all : List ℕ) (texts : List (List ℕ)) (after : ℕ)
      → Says c (operands [] at lengths before all texts after) → (all ≡ lengths) × (after ≡ before)
  ended_row at lengths before all texts after is = ended_if (operands [] at lengths before all texts after) is at lengths before all texts after refl

  pub record More (table : ℕ) (place : List ℕ → ℕ) (slots : List Slot) (at : ℕ) (lengths : List ℕ) (before : ℕ) (all : List ℕ) (texts : List (List ℕ)) (after : ℕ) : Type 0 where
    pub long : ℕ
    pub text : List ℕ
    pub context : ℕ
    pub others : List (List ℕ)
    pub texts_are : texts ≡ text ∷ others
    pub first : Says c (node table (at + place lengths) before long text context)
    pub rest : Says c (operands slots at (lengths ++ long ∷ []) context all others after)

  more_if : (what : Reading) → Says c what → (table : ℕ) (place : List ℕ → ℕ) (slots : List Slot) (at : ℕ) (lengths : List ℕ) (before : ℕ) (all : List ℕ) (texts : List (List ℕ)) (after : ℕ)
      → what ≡ operands (slot table place ∷ slots) at lengths before all texts after → More table place slots at lengths before all texts after
  more_if what (one chosen_is early_is below late_is) table place slots at lengths before all texts after e = absurd cc
  more_if what no_more table place slots at lengths before all texts after e = absurd cc
  more_if what (one_more {table = its} {at = there} {x = x} {y = y} {after = z} {long = long} {place = its_place} {slots = others} {lengths = those} {all = every} {text = text} {texts = rest_texts} first rest) table place slots at lengths before all texts after e =
      let table_is : its ≡ table = cc in
      let place_is : its_place ≡ place = cc in
      let slots_is : others ≡ slots = cc in
      let at_is : there ≡ at = cc in
      let lengths_is : those ≡ lengths = cc in
      let before_is : x ≡ before = cc in
      let all_is : every ≡ all = cc in
      let texts_is : text ∷ rest_texts ≡ texts = cc in
      let after_is : z ≡ after = cc in
      subst (λ (f : List ℕ → ℕ). More table f slots at lengths before all texts after) place_is
      (subst (λ (b : ℕ). More b its_place slots at lengths before all texts after) table_is
      (subst (λ (l : List Slot). More its its_place l at lengths before all texts after) slots_is
      (subst (λ (a : ℕ). More its its_place others a lengths before all texts after) at_is
      (subst (λ (l : List ℕ). More its its_place others there l before all texts after) lengths_is
      (subst (λ (b : ℕ). More its its_place others there those b all texts after) before_is
      (subst (λ (l : List ℕ). More its its_place others there those x l texts after) all_is
      (subst (λ (l : List (List ℕ)). More its its_place others there those x every l after) texts_is
      (subst (λ (a : ℕ). More its its_place others there those x every (text ∷ rest_texts) a) after_is
      (record { long = long; text = text; context = y; others = rest_texts; texts_are = refl; first = first; rest = rest })))))))))

  pub more_row : (table : ℕ) (place : List ℕ → ℕ) (slots : List Slot) (at : ℕ) (lengths : List ℕ) (before : ℕ) (all : List ℕ) (texts : List (List ℕ)) (after : ℕ)
      → Says c (operands (slot table place ∷ slots) at lengths before all texts after) → More table place slots at lengths before all texts after
  more_row table place slots at lengths before all texts after is =
      more_if (operands (slot table place ∷ slots) at lengths before all texts after) is table place slots at lengths before all texts after refl
