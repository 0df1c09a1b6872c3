-- Nodes of a table: by the places of its sets, by plans and parts, and by the ways to cut a text.
use Rattle.std.proofs.Common.{◌≡◌, ℕ, zero, suc, ◌+◌, ◌%◌, ◌^◌, ◌<◌, ◌≤◌, List, [], ◌∷◌, length, map, get_or, below_more, Option, Some, None, Bool, true, false, Vec, Global, Ok, inl, inr, refl, sym, ap, subst, ◌∙◌, arith}
use Rattle.std.specs.Prelude.{All, Contains, option_map, slice_get}
use Rattle.std.specs.List.{flat_map, range_with_len}
use Rattle.std.proofs.lemmas.Bool.{both_ways, cases_lt}
use Rattle.std.proofs.lemmas.List.{append-nil}
use Rattle.std.proofs.lemmas.Option.{none-some, same_Some, slice_get-map, slice_get_within}
use denote.Ref.{Bor}
use Rattle.sl_asm_bounds.specs.Bounds.{Fits, Holds, IsInCubes}
use Rattle.sl_asm_bounds.specs.Texts.{AreTexts}
use Rattle.sl_asm_bounds.specs.declared.bounds.Bounds.{Bounds}
use Rattle.sl_asm_encodings.specs.Readings.{operands, spot_of}
use Rattle.sl_asm_fit.proofs.WindowLemmas as window
use Rattle.sl_asm_fit.specs.Regions.{IsOf}
use Rattle.sl_asm_fit.specs.Windows.{with_zeros}
use Rattle.sl_asm_fit.specs.declared.Cell.{Cell}
use Rattle.sl_asm_narrow.proofs.ReadingLemmas.{opened}
use Rattle.sl_asm_narrow.specs.Candidates.{Candidate, Says, input_of, text_of}
use Rattle.sl_cube_sets.specs.Unions.{has_set}
use Rattle.sl_cube_sets.specs.declared.CubeSet.{CubeSet}
use Rattle.sl_asm_narrow.specs.Nodes.{ActsOn, BoundsConstructor, BoundsPlanned, BoundsTable, HasPlace, IsNode, IsPlanned, spot_in}
use Rattle.sl_asm_narrow.specs.Readers.{IsReader, parts_at, tables_of, written_of}
use Rattle.sl_asm_narrow.specs.declared.reader.Goal.{Goal}
use Rattle.sl_asm_narrow.specs.declared.reader.Reader.{Reader}
use Rattle.sl_asm_narrow.specs.declared.reader.Setting.{Setting}
use Rattle.sl_conflict.specs.Soundness.{has_in, numbers}
use Rattle.sl_cube_sets.specs.Sets.{IsChoice}
use Rattle.sl_conflict.specs.Kept.{IsPaired}
use Rattle.sl_conflict.specs.declared.table_sets.TableSets.{TableSets}
use Rattle.sl_cube.specs.Points.{InRange}
use Rattle.sl_cube.specs.declared.Point.{Point}
use Rattle.sl_decode_choices.specs.Choices.{Chooses, in_range}
use Rattle.sl_asm_print.specs.Splits.{HasSplit, KeepsTexts, pieces}
use Rattle.sl_decode_meaning.specs.Actions.{changed, own}
use Rattle.sl_decode_meaning.specs.Decoding.{point_at, site_at}
use Rattle.sl_decode_meaning.specs.Meanings.{Meaning, says}
use Rattle.sl_decode_meaning.specs.declared.notes.Noted.{Noted}
use Rattle.sl_decode_plan.specs.Plans.{done}
use Rattle.sl_decode_plan.specs.declared.plans.Plan.{Plan}
use Rattle.sl_show.specs.Templates.{part_text, parts_text}
use Rattle.sl_show.specs.Texts.{Spot, node_text}
use Rattle.sl_show.specs.declared.templates.Part.{Part}

-- ---- points

-- a place in a list of bytes is a point, whose context has 64 bits
pub cut_point : (xs : List ℕ) (at x : ℕ) → at ≤ 255 → All (λ b. b < 256) xs → in_range (point_at (with_zeros xs) at x) ≡ point_at (with_zeros xs) at (x % 2 ^ 64)
cut_point xs at x place all =
    let range = window.in_range xs at (x % 2 ^ 64) place all (omega arith) in
    let small : (point_at (with_zeros xs) at x).bytes < 2 ^ 128 = range.0 in
    let same : (point_at (with_zeros xs) at x).bytes % 2 ^ 128 ≡ (point_at (with_zeros xs) at x).bytes = omega (arith, small) in
    ap (λ (b : ℕ). record { bytes = b; context = x % 2 ^ 64 }) same

-- ---- places of a table's sets

module _ (r : Reader) (s : Setting) (region : List Cell) (kept : TableSets) (goal : Goal) where
  -- the bounds hold for nodes of the constructors at the first places
  abbrev pub FirstPlaces : ℕ → Option Bounds → Type 0
  FirstPlaces n all = (place : ℕ) → place < n → BoundsConstructor r s region kept place goal all

  pub no_places : (all : Option Bounds) → FirstPlaces 0 all
  no_places all = λ place below. absurd (omega (arith, below))

  pub more_places : (n : ℕ) (old one new : Option Bounds)
      → ((xs : List ℕ) (long after : ℕ) → length xs ≡ length region → Holds old xs long after → Holds new xs long after)
      → ((xs : List ℕ) (long after : ℕ) → length xs ≡ length region → Holds one xs long after → Holds new xs long after)
      → BoundsConstructor r s region kept n goal one → FirstPlaces n old → FirstPlaces (n + 1) new
  more_places n old one new first second its f = below_more (λ k. BoundsConstructor r s region kept k goal new) n
      (λ k lt c inside ctor before long text after ctor_is has known shown is_node.
      first c.bytes long after inside.long (f k lt c inside ctor before long text after ctor_is has known shown is_node))
      (λ c inside ctor before long text after ctor_is has known shown is_node.
      second c.bytes long after inside.long (its c inside ctor before long text after ctor_is has known shown is_node))

module _ (r : Reader) (ready : IsReader r) (table : ℕ) (kept : TableSets) (kept_is : slice_get r.compiled.now.checked.tables.items table ≡ Some kept) (paired : IsPaired kept) where
  -- what the table chooses is at a place, whose set has the point
  pub record PlaceOf (ctor : ℕ) (p : Point) : Type 0 where
    pub place : ℕ
    pub ctor_is : slice_get kept.ctors.items place ≡ Some ctor
    pub has_place : HasPlace kept place p

  some_set : {X : Type 0} (xs : List X) (i : ℕ) → i < length xs → (x : X) × (slice_get xs i ≡ Some x)
  some_set [] i below = absurd (omega (arith, below))
  some_set (x ∷ xs) zero below = (x, refl)
  some_set (x ∷ xs) (suc i) below = some_set xs i (omega (arith, below))

  number_at : (a n i x : ℕ) → slice_get (range_with_len a n) i ≡ Some x → x ≡ a + i
  number_at a zero i x e = absurd cc
  number_at a (suc n) zero x e = sym (same_Some a x e) ∙ omega arith
  number_at a (suc n) (suc i) x e = number_at (a + 1) n i x e ∙ omega arith

  place_of : (ctor : ℕ) (p : Point) → InRange p → IsChoice (has_in (tables_of r) (written_of r) table) (numbers (tables_of r)) p ctor → PlaceOf ctor p
  place_of ctor p range h =
      let has = h.has_point in
      let is : has.0 ≡ ctor = number_at 0 (length (tables_of r).constructors) ctor has.0 has.1 ∙ omega arith in
      let are = ready.compiled.sets in
      let a = are.all table kept has.0 kept_is has.2.0 in
      let within = slice_get_within kept.ctors.items a.0 has.0 a.1 in
      let set = some_set kept.sets.items a.0 (omega (arith, paired, within)) in
      record {
        place = a.0;
        ctor_is = a.1 ∙ ap Some is;
        has_place = record { set = set.0; set_is = set.1; has = ((are.sets table kept a.0 has.0 set.0 kept_is a.1 set.1).union p range).1 has.2.1 };
      }

  module _ (s : Setting) (region : List Cell) (goal : Goal) (near : goal.at ≤ 255) where
    pub all_places : (n : ℕ) (all : Option Bounds) → length kept.ctors.items ≤ n → FirstPlaces r s region kept goal n all → BoundsTable r s region table goal all
    all_places n all whole f = λ c inside before long text after known shown says.
        let found = opened c table goal.at before long text after says in
        let p = point_at (with_zeros c.bytes) goal.at before in
        let q = point_at (with_zeros c.bytes) goal.at (before % 2 ^ 64) in
        let cut = cut_point c.bytes goal.at before near inside.are_bytes in
        let chooses : Chooses (tables_of r) (written_of r) table (in_range p) (Some found.ctor) =
        subst (λ (o : Option ℕ). Chooses (tables_of r) (written_of r) table (in_range p) o) found.choice (c.is_choice table p) in
        let at_place = place_of found.ctor q (window.in_range c.bytes goal.at (before % 2 ^ 64) near inside.are_bytes (omega arith))
        (subst (λ (x : Point). IsChoice (has_in (tables_of r) (written_of r) table) (numbers (tables_of r)) x found.ctor) cut chooses) in
        let within = slice_get_within kept.ctors.items at_place.place found.ctor at_place.ctor_is in
        f at_place.place (omega (arith, within, whole)) c inside found.ctor before long text after at_place.ctor_is at_place.has_place known shown found.is_node

-- ---- plans and parts

module _ (r : Reader) (ready : IsReader r) {s : Setting} (c : Candidate r s) where
  -- a plan does what the node's constructor says
  planned_so : (number : ℕ) (plan : Plan) (m : Meaning) → slice_get r.plans.items number ≡ Some plan → says (tables_of r) (written_of r) number ≡ Some m → done (tables_of r) plan ≡ m
  planned_so number plan m plan_is m_is =
      same_Some (done (tables_of r) plan) m (sym (ap (λ (o : Option Plan). option_map (done (tables_of r)) o) plan_is) ∙ ready.plans number ∙ m_is)

  pub unplanned : (number : ℕ) (m : Meaning) → slice_get r.plans.items number ≡ None → says (tables_of r) (written_of r) number ≡ Some m → ⊥
  unplanned number m none m_is =
      none-some m (sym (ap (λ (o : Option Plan). option_map (done (tables_of r)) o) none) ∙ ready.plans number ∙ m_is)

  -- the text of a node is that of its parts
  pub shown_so : (number : ℕ) (spot : Spot) → node_text (tables_of r) (written_of r) number spot ≡ flat_map (part_text (tables_of r) spot) (parts_at r number)
  unfolding parts_text
  shown_so number spot = sym (ready.stands.shows number spot)

  -- a node by its plan and its parts, with the context after its own actions
  pub record ByPlan (plan : Plan) (number at before long : ℕ) (text : List ℕ) (after : ℕ) : Type 0 where
    pub context : ℕ
    pub notes : List Noted
    pub early : (done (tables_of r) plan).early (site_at (input_of c) number at [] before 0) (changed before []) ≡ Ok (changed context notes)
    pub planned : IsPlanned c plan (parts_at r number) at context long text after

  pub by_plan : (number at before long : ℕ) (text : List ℕ) (after : ℕ) (plan : Plan) → slice_get r.plans.items number ≡ Some plan
      → IsNode c number at before long text after → ByPlan plan number at before long text after
  by_plan number at before long text after plan plan_is n =
      let same = planned_so number plan n.meaning plan_is n.means in record {
        context = n.context;
        notes = n.notes;
        early = subst (λ (m : Meaning). m.early (site_at (input_of c) number at [] before 0) (changed before []) ≡ Ok (changed n.context n.notes)) (sym same) n.early;
        planned = record {
          ctor = number;
          notes = n.notes;
          others = n.others;
          inner = n.inner;
          texts = n.texts;
          values = n.values;
          commits = n.commits;
          more = n.more;
          below = subst (λ (m : Meaning). Says c (operands m.slots at [] n.context n.inner n.texts after)) (sym same) n.below;
          late = subst (λ (m : Meaning). m.late (site_at (input_of c) number at n.inner n.context c.next) (own n.notes [] n.commits) ≡ Ok (own n.others n.values n.more)) (sym same) n.late;
          length = n.length ∙ ap (λ (m : Meaning). m.length n.inner) (sym same);
          shows = n.shows ∙ shown_so number (spot_of (input_of c) at n.context n.values n.inner n.texts);
        };
      }

-- parts that are texts stand for themselves
pub keeps_texts : (r : Reader) (spot : Spot) → KeepsTexts (part_text (tables_of r) spot)
keeps_texts r spot = λ text. refl

-- ---- the constructor at a place

module _ (r : Reader) (ready : IsReader r) (s : Setting) (region : List Cell) (kept : TableSets) (place : ℕ) (goal : Goal)
    (number : ℕ) (number_is : slice_get kept.ctors.items place ≡ Some number) (parts : List Part) (parts_are : parts ≡ parts_at r number) where
  own_node : (c : Candidate r s) (ctor before long : ℕ) (text : List ℕ) (after : ℕ) → slice_get kept.ctors.items place ≡ Some ctor
      → IsNode c ctor goal.at before long text after → IsNode c number goal.at before long text after
  own_node c ctor before long text after ctor_is n =
      subst (λ (k : ℕ). IsNode c k goal.at before long text after) (same_Some ctor number (sym ctor_is ∙ number_is)) n

  -- a node with a text that the parts can't show isn't there
  pub not_shown : (may : Bool) → may ≡ false
      → ((shows : Part → List ℕ) → KeepsTexts shows → Fits (text_of goal.text) (flat_map shows parts) → may ≡ true)
      → BoundsConstructor r s region kept place goal None
  not_shown may never shows_so = λ c inside ctor before long text after ctor_is has known shown n.
      let own = own_node c ctor before long text after ctor_is n in
      let spot = spot_of (input_of c) goal.at own.context own.values own.inner own.texts in
      let same : text ≡ flat_map (part_text (tables_of r) spot) parts =
      own.shows ∙ shown_so r ready c number spot ∙ ap (λ (l : List Part). flat_map (part_text (tables_of r) spot) l) (sym parts_are) in
      let yes_so = shows_so (part_text (tables_of r) spot) (keeps_texts r spot) (subst (λ (l : List ℕ). Fits (text_of goal.text) l) same shown) in
      both_ways may never yes_so

  module _ (set : CubeSet) (set_is : slice_get kept.sets.items place ≡ Some set) where
    in_set : (c : Candidate r s) (before : ℕ) → IsOf region c.bytes → Fits goal.context before
        → HasPlace kept place (point_at (with_zeros c.bytes) goal.at (before % 2 ^ 64)) → IsInCubes region goal.at goal.context set.cubes.items c.bytes
    in_set c before inside known has = record {
      of_region = inside;
      from = before;
      known = known;
      inside = subst (λ (x : CubeSet). has_set x (point_at (with_zeros c.bytes) goal.at (before % 2 ^ 64))) (same_Some has.set set (sym has.set_is ∙ set_is)) has.has;
    }

    pub nowhere : ((bytes : List ℕ) → IsInCubes region goal.at goal.context set.cubes.items bytes → ⊥) → BoundsConstructor r s region kept place goal None
    nowhere none = λ c inside ctor before long text after ctor_is has known shown n. none c.bytes (in_set c before inside known has)

    pub by_constructor : (cells : List Cell) (plan : Plan) (acted : Goal) (found : Option Bounds) → slice_get r.plans.items number ≡ Some plan
        → ((bytes : List ℕ) → IsInCubes region goal.at goal.context set.cubes.items bytes → IsOf cells bytes)
        → acted.at ≡ goal.at → acted.text ≡ goal.text → ActsOn r s cells plan goal acted.context
        → BoundsPlanned r s cells plan parts acted found → BoundsConstructor r s region kept place goal found
    by_constructor cells plan acted found plan_is narrow at_is text_is acts bounds = λ c inside ctor before long text after ctor_is has known shown n.
        let own = own_node c ctor before long text after ctor_is n in
        let within = narrow c.bytes (in_set c before inside known has) in
        let b = by_plan r ready c number goal.at before long text after plan plan_is own in
        let context_known = acts c within number before b.context b.notes known b.early in
        let planned = subst (λ (l : List Part). IsPlanned c plan l acted.at b.context long text after) (sym parts_are)
        (subst (λ (a : ℕ). IsPlanned c plan (parts_at r number) a b.context long text after) (sym at_is) b.planned) in
        bounds c within b.context long text after context_known (subst (λ (o : Option (Bor (List ℕ))). Fits (text_of o) text) (sym text_is) shown) planned

-- ---- the ways to cut a text

read_at : {X : Type 0} (xs : List X) (i : ℕ) (x : X) → i < length xs → get_or xs i x ≡ x → slice_get xs i ≡ Some x
read_at [] i x below e = absurd (omega (arith, below))
read_at (y ∷ ys) zero x below e = ap Some e
read_at (y ∷ ys) (suc i) x below e = read_at ys i x (omega (arith, below)) e

index_of : {X : Type 0} (xs : List X) (x : X) → Contains xs x → (i : ℕ) × (slice_get xs i ≡ Some x)
index_of xs x h = (h.0, read_at xs h.0 x h.1 h.2)

-- the pieces of a way are the texts of the parts
pub pieces_are : (shows : Part → List ℕ) (parts : List Part) (texts : List (Bor (List ℕ))) → pieces texts ≡ map shows parts → AreTexts shows parts texts
pieces_are shows parts texts e = λ k part text part_is text_is.
    let left = slice_get-map (λ (t : Bor (List ℕ)). t.now) texts k ∙ ap (λ (o : Option (Bor (List ℕ))). option_map (λ t. t.now) o) text_is in
    let right = slice_get-map shows parts k ∙ ap (λ (o : Option Part). option_map shows o) part_is in
    same_Some text.now (shows part) (sym left ∙ ap (λ (l : List (List ℕ)). slice_get l k) e ∙ right)

pub no_texts : (shows : Part → List ℕ) (parts : List Part) → AreTexts shows parts []
no_texts shows parts = λ k part text part_is text_is. absurd cc

-- a part that is alone shows the whole text
alone : (shows : Part → List ℕ) (parts : List Part) (text : Bor (List ℕ)) → length parts ≡ 1 → flat_map shows parts ≡ text.now → pieces (text ∷ []) ≡ map shows parts
alone shows [] text one e = absurd (omega (arith, one))
alone shows (part ∷ []) text one e = ap (λ (l : List ℕ). l ∷ []) (sym e ∙ append-nil (shows part))
alone shows (part ∷ other ∷ parts) text one e = absurd (omega (arith, one))

module _ (r : Reader) (s : Setting) (region : List Cell) (plan : Plan) (parts : List Part) (goal : Goal) where
  -- the bounds hold for nodes whose parts have these texts
  abbrev pub BoundsTexts : List (Bor (List ℕ)) → Option Bounds → Type 0
  BoundsTexts texts found = (c : Candidate r s) → IsOf region c.bytes → (context long : ℕ) (text : List ℕ) (after : ℕ)
      → Fits goal.context context → (n : IsPlanned c plan parts goal.at context long text after)
      → AreTexts (part_text (tables_of r) (spot_in c n)) parts texts → Holds found c.bytes long after

  -- so they do for those that have the texts of one of the first ways
  abbrev pub FirstWays : List (Vec (Bor (List ℕ)) Global) → ℕ → Option Bounds → Type 0
  FirstWays ways n all = (k : ℕ) (way : Vec (Bor (List ℕ)) Global) → k < n → slice_get ways k ≡ Some way → BoundsTexts way.items all

  pub no_ways : (ways : List (Vec (Bor (List ℕ)) Global)) (all : Option Bounds) → FirstWays ways 0 all
  no_ways ways all = λ k way below. absurd (omega (arith, below))

  pub more_ways : (ways : List (Vec (Bor (List ℕ)) Global)) (n : ℕ) (texts : List (Bor (List ℕ))) (old one new : Option Bounds)
      → ((way : Vec (Bor (List ℕ)) Global) → slice_get ways n ≡ Some way → way.items ≡ texts)
      → ((xs : List ℕ) (long after : ℕ) → length xs ≡ length region → Holds old xs long after → Holds new xs long after)
      → ((xs : List ℕ) (long after : ℕ) → length xs ≡ length region → Holds one xs long after → Holds new xs long after)
      → BoundsTexts texts one → FirstWays ways n old → FirstWays ways (n + 1) new
  more_ways ways n texts old one new way_is first second its f = λ k way below there c inside context long text after known n' texts_are.
      elim (cases_lt k n) [
        | inl lt ↦ first c.bytes long after inside.long (f k way lt there c inside context long text after known n' texts_are)
        | inr past ↦
            let same : k ≡ n = omega (arith, below, past) in
            let items = way_is way (subst (λ (i : ℕ). slice_get ways i ≡ Some way) same there) in
            second c.bytes long after inside.long (its c inside context long text after known n' (subst (λ (l : List (Bor (List ℕ))). AreTexts (part_text (tables_of r) (spot_in c n')) parts l) items texts_are))
      ]

  pub whole_text : (wanted : Bor (List ℕ)) (found : Option Bounds) → goal.text ≡ Some wanted → length parts ≡ 1 → BoundsTexts (wanted ∷ []) found
      → BoundsPlanned r s region plan parts goal found
  whole_text wanted found text_is one f = λ c inside context long text after known shown n.
      let shows = part_text (tables_of r) (spot_in c n) in
      let text_fits : wanted.now ≡ text = subst (λ (o : Option (Bor (List ℕ))). Fits (text_of o) text) text_is shown in
      f c inside context long text after known n (pieces_are shows parts (wanted ∷ []) (alone shows parts wanted one (sym n.shows ∙ sym text_fits)))

  -- where all ways are gone over, one of them has the texts of the parts
  pub all_ways : (ways : List (Vec (Bor (List ℕ)) Global)) (n : ℕ) (wanted : Bor (List ℕ)) (all : Option Bounds) → goal.text ≡ Some wanted → length ways ≤ n
      → ((shows : Part → List ℕ) → KeepsTexts shows → flat_map shows parts ≡ wanted.now → HasSplit (map shows parts) ways)
      → FirstWays ways n all → BoundsPlanned r s region plan parts goal all
  all_ways ways n wanted all text_is whole splits f = λ c inside context long text after known shown n'.
      let shows = part_text (tables_of r) (spot_in c n') in
      let text_fits : wanted.now ≡ text = subst (λ (o : Option (Bor (List ℕ))). Fits (text_of o) text) text_is shown in
      let split = splits shows (keeps_texts r (spot_in c n')) (sym n'.shows ∙ sym text_fits) in
      let at = index_of ways split.0 split.1 in
      let within = slice_get_within ways at.0 split.0 at.1 in
      f at.0 split.0 (omega (arith, within, whole)) at.1 c inside context long text after known n' (pieces_are shows parts split.0.items split.2)

  -- where no text is known, none of the parts has one
  pub without_text : (all : Option Bounds) → BoundsTexts [] all → BoundsPlanned r s region plan parts goal all
  without_text all its = λ c inside context long text after known shown n'. its c inside context long text after known n' (no_texts (part_text (tables_of r) (spot_in c n')) parts)
