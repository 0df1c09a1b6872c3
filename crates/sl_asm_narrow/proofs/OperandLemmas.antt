-- The operands of a node, one by one.
use Rattle.std.proofs.Common.{◌≡◌, ℕ, zero, suc, ◌+◌, ◌≤◌, List, [], ◌∷◌, ◌++◌, length, map, drop, get_or, Option, Some, None, refl, sym, ap, subst, arith}
use Rattle.std.specs.Prelude.{slice_get}
use denote.Ref.{Bor}
use Rattle.sl_asm_bounds.specs.Bounds.{Fits, Holds}
use Rattle.sl_asm_bounds.specs.Texts.{AreTexts}
use Rattle.sl_asm_bounds.specs.declared.bounds.Bounds.{Bounds}
use Rattle.sl_asm_encodings.specs.Readings.{operands}
use Rattle.sl_asm_fit.specs.Regions.{IsOf}
use Rattle.sl_asm_fit.specs.declared.Cell.{Cell}
use Rattle.sl_asm_narrow.proofs.ReadingLemmas.{ended_row, more_row}
use Rattle.sl_asm_narrow.specs.Candidates.{Candidate, Says, text_of}
use Rattle.sl_asm_narrow.specs.Nodes.{BoundsOperand, BoundsOperands, IsRead, IsWithinAll, spot_in}
use Rattle.sl_asm_narrow.specs.Readers.{tables_of}
use Rattle.sl_asm_narrow.specs.declared.operands.Operands.{Operands}
use Rattle.sl_asm_narrow.specs.declared.reader.Node.{Node}
use Rattle.sl_asm_narrow.specs.declared.reader.Reader.{Reader}
use Rattle.sl_asm_narrow.specs.declared.reader.Setting.{Setting}
use Rattle.sl_decode_leaves.specs.Extents.{extent}
use Rattle.sl_decode_plan.specs.Plans.{done_slot}
use Rattle.sl_decode_plan.specs.declared.plans.Slot.{Slot}
use Rattle.sl_show.specs.Templates.{part_text}
use Rattle.sl_show.specs.declared.templates.Part.{Part}
use Rattle.sl_show.specs.declared.templates.Part.TheVariants.{Table as table_part}

module _ (r : Reader) (s : Setting) (region : List Cell) (node : Node) where
  -- the first operands of a planned node are as known, and the others follow them
  pub record Reached (n : ℕ) (o : Operands) (c : Candidate r s) (all : List ℕ) (node_texts : List (List ℕ)) (after : ℕ) : Type 0 where
    pub lengths : List ℕ
    pub before : ℕ
    pub within : IsWithinAll o c.bytes lengths before
    pub rest : Says c (operands (map done_slot (drop n node.plan.now.slots.items)) node.goal.at lengths before all (drop n node_texts) after)

  -- they are, wherever a node is read so
  abbrev pub ReachesAll : ℕ → Operands → Type 0
  ReachesAll n o = (c : Candidate r s) → IsOf region c.bytes → (context long : ℕ) (text : List ℕ) (after : ℕ)
      → Fits node.goal.context context → (planned : IsRead c node context long text after)
      → AreTexts (part_text (tables_of r) (spot_in c planned)) node.parts.now node.texts.now → Reached n o c planned.inner planned.texts after

  pub reaches_none : (o : Operands) → ((bytes : List ℕ) (before : ℕ) → IsOf region bytes → Fits node.goal.context before → IsWithinAll o bytes [] before) → ReachesAll 0 o
  reaches_none o within = λ c inside context long text after known planned texts_are. record {
    lengths = [];
    before = context;
    within = within c.bytes context inside known;
    rest = planned.below;
  }

  -- the text of the next operand, where it is known
  next_text : (xs : List (List ℕ)) (n : ℕ) (text : List ℕ) (others : List (List ℕ)) → drop n xs ≡ text ∷ others → (get_or xs n [] ≡ text) × (drop (suc n) xs ≡ others)
  next_text [] zero text others e = absurd cc
  next_text [] (suc n) text others e = absurd cc
  next_text (x ∷ xs) zero text others e = let first : x ≡ text = cc in let rest : xs ≡ others = cc in (first, rest)
  next_text (x ∷ xs) (suc n) text others e = next_text xs n text others e

  next_slot : (xs : List Slot) (n : ℕ) (slot : Slot) → slice_get xs n ≡ Some slot → drop n xs ≡ slot ∷ drop (suc n) xs
  next_slot [] n slot e = absurd cc
  next_slot (x ∷ xs) zero slot e = let same : x ≡ slot = cc in ap (λ (y : Slot). y ∷ xs) same
  next_slot (x ∷ xs) (suc n) slot e = next_slot xs n slot e

  module _ (n : ℕ) (slot : Slot) (there : slice_get node.plan.now.slots.items n ≡ Some slot) (o : Operands) (wanted : Option (Bor (List ℕ)))
      (wanted_is : (shows : Part → List ℕ) → AreTexts shows node.parts.now node.texts.now → Fits (text_of wanted) (shows (table_part n)))
      (found : Option Bounds) (bounds : BoundsOperand r s o slot node.goal.at wanted found) (reaches : ReachesAll n o) where
    -- the next operand is read after them, within what was found
    pub record Next (c : Candidate r s) (all : List ℕ) (node_texts : List (List ℕ)) (after : ℕ) : Type 0 where
      pub lengths : List ℕ
      pub before : ℕ
      pub long : ℕ
      pub context : ℕ
      pub within : IsWithinAll o c.bytes lengths before
      pub holds : Holds found c.bytes long context
      pub rest : Says c (operands (map done_slot (drop (n + 1) node.plan.now.slots.items)) node.goal.at (lengths ++ long ∷ []) context all (drop (n + 1) node_texts) after)

    pub next_operand : (c : Candidate r s) → IsOf region c.bytes → (context long : ℕ) (text : List ℕ) (after : ℕ)
        → Fits node.goal.context context → (planned : IsRead c node context long text after)
        → AreTexts (part_text (tables_of r) (spot_in c planned)) node.parts.now node.texts.now → Next c planned.inner planned.texts after
    next_operand c inside context long text after known planned texts_are =
        let here = reaches c inside context long text after known planned texts_are in
        let one : suc n ≡ n + 1 = omega arith in
        let row = subst (λ (l : List Slot). Says c (operands (map done_slot l) node.goal.at here.lengths here.before planned.inner (drop n planned.texts) after))
        (next_slot node.plan.now.slots.items n slot there) here.rest in
        let more = more_row c slot.table (λ lengths. extent slot.place lengths) (map done_slot (drop (suc n) node.plan.now.slots.items)) node.goal.at here.lengths here.before planned.inner (drop n planned.texts) after row in
        let texts_so = next_text planned.texts n more.text more.others more.texts_are in
        let shown : Fits (text_of wanted) more.text = subst (λ (l : List ℕ). Fits (text_of wanted) l) texts_so.0 (wanted_is (part_text (tables_of r) (spot_in c planned)) texts_are) in
        record {
          lengths = here.lengths;
          before = here.before;
          long = more.long;
          context = more.context;
          within = here.within;
          holds = bounds c here.lengths here.before more.long more.text more.context here.within shown more.first;
          rest = subst (λ (k : ℕ). Says c (operands (map done_slot (drop k node.plan.now.slots.items)) node.goal.at (here.lengths ++ more.long ∷ []) more.context planned.inner (drop k planned.texts) after)) one
              (subst (λ (l : List (List ℕ)). Says c (operands (map done_slot (drop (suc n) node.plan.now.slots.items)) node.goal.at (here.lengths ++ more.long ∷ []) more.context planned.inner l after)) (sym texts_so.1) more.rest);
        }

  -- one more of them
  pub reaches_more : (n : ℕ) (slot : Slot) → slice_get node.plan.now.slots.items n ≡ Some slot → (o new : Operands) (wanted : Option (Bor (List ℕ)))
      → ((shows : Part → List ℕ) → AreTexts shows node.parts.now node.texts.now → Fits (text_of wanted) (shows (table_part n)))
      → (b : Bounds) → BoundsOperand r s o slot node.goal.at wanted (Some b)
      → ((bytes lengths : List ℕ) (before long after : ℕ) → IsWithinAll o bytes lengths before → Holds (Some b) bytes long after → IsWithinAll new bytes (lengths ++ long ∷ []) after)
      → ReachesAll n o → ReachesAll (n + 1) new
  reaches_more n slot there o new wanted wanted_is b bounds adds reaches = λ c inside context long text after known planned texts_are.
      let next = next_operand n slot there o wanted wanted_is (Some b) bounds reaches c inside context long text after known planned texts_are in record {
        lengths = next.lengths ++ next.long ∷ [];
        before = next.context;
        within = adds c.bytes next.lengths next.before next.long next.context next.within next.holds;
        rest = next.rest;
      }

  -- there is no such node where nothing is found of an operand
  pub reaches_nothing : (n : ℕ) (slot : Slot) → slice_get node.plan.now.slots.items n ≡ Some slot → (o : Operands) (wanted : Option (Bor (List ℕ)))
      → ((shows : Part → List ℕ) → AreTexts shows node.parts.now node.texts.now → Fits (text_of wanted) (shows (table_part n)))
      → BoundsOperand r s o slot node.goal.at wanted None → ReachesAll n o → BoundsOperands r s region node None
  reaches_nothing n slot there o wanted wanted_is bounds reaches = λ c inside context long text after known planned texts_are.
      (next_operand n slot there o wanted wanted_is None bounds reaches c inside context long text after known planned texts_are).holds

  past_end : (xs : List Slot) (n : ℕ) → length xs ≤ n → drop n xs ≡ []
  past_end [] zero whole = refl
  past_end [] (suc n) whole = refl
  past_end (x ∷ xs) zero whole = absurd (omega (arith, whole))
  past_end (x ∷ xs) (suc n) whole = past_end xs n (omega (arith, whole))

  pub reaches_all : (n : ℕ) (o : Operands) → length node.plan.now.slots.items ≤ n → ReachesAll n o → BoundsOperands r s region node (Some o)
  reaches_all n o whole reaches = λ c inside context long text after known planned texts_are.
      let here = reaches c inside context long text after known planned texts_are in
      let row = subst (λ (l : List Slot). Says c (operands (map done_slot l) node.goal.at here.lengths here.before planned.inner (drop n planned.texts) after)) (past_end node.plan.now.slots.items n whole) here.rest in
      let ends = ended_row c node.goal.at here.lengths here.before planned.inner (drop n planned.texts) after row in
      subst (λ (l : List ℕ). IsWithinAll o c.bytes l after) (sym ends.0) (subst (λ (x : ℕ). IsWithinAll o c.bytes here.lengths x) (sym ends.1) here.within)
