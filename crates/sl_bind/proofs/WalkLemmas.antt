-- What each item keeps holds of the tables of a text that keeps the rules.
use Rattle.std.proofs.Common.{◌≡◌, ℕ, Bool, true, false, List, [], ◌∷◌, ◌++◌, Option, Some, None, Result, Ok, Err, refl, sym, ap, subst, ◌∙◌, append_assoc, append-nil}
use Rattle.sl_ast.specs.Trees.{Constructor, Item, Macro, constructor, block, define, attach_list, attach_one, macro}
use Rattle.sl_ast.specs.Unfolding.{Placed, unfolded}
use Rattle.sl_bind.proofs.GrowLemmas.{begins_as, came_of, is_kept, known_in, put}
use Rattle.sl_bind.proofs.KeptLemmas.{kept}
use Rattle.sl_bind.specs.Verdict as verdict
use Rattle.sl_bind.specs.Verdict.{Broken, at, beginning, item_step, known_behind, last_operands, macro_step, macro_taken, placed_step, section_step, single_step, unless_late, with_call_of, with_constructor_of, with_known, with_macro}
use Rattle.sl_bind.specs.declared.items.Progress.{Progress}
use Rattle.sl_spec_constructors.specs.ConstructorRules.{is_of_root}
use Rattle.sl_spec_constructors.specs.Steps.{constructor_step}
use Rattle.sl_spec_constructors.specs.WholeText.{all_tables, table_name}
use Rattle.sl_spec_definitions.specs.Beginning.{begin, is_endian, no_tables}
use Rattle.sl_spec_definitions.specs.Items.{definition_step, taken, with_tables}
use Rattle.sl_spec_definitions.specs.declared.known.Known.{Known}
use Rattle.sl_spec_registers.specs.NewNames.{is_new}
use Rattle.sl_spec_rules.specs.Demands.{Demand, first_broken, run}
use Rattle.sl_spec_rules.specs.Names.{Name}
use Rattle.sl_section_rules.specs.Macros.{Signature}
use Rattle.sl_section_rules.specs.SectionRules.{macro_demands, section_demands}
use Rattle.sl_section_rules.specs.WholeText.{Whole, whole_of}
use Rattle.sl_spec.specs.ConstructorItems.{constructor_at, constructors_in}
use Rattle.sl_spec.specs.declared.tables.Tables.{Tables}
use Rattle.sl_spec_tables.specs.TableRules.{late_fault}
use Rattle.sl_spec_tables.specs.declared.faults.LateFault.{LateFault}

-- ---- the constructors among items

constructors_both : (xs ys : List (Placed Item)) → constructors_in (xs ++ ys) ≡ constructors_in xs ++ constructors_in ys
unfolding constructors_in
constructors_both [] ys = refl
constructors_both (x ∷ xs) ys =
    ap (λ (l : List (Placed Constructor)). constructor_at x.0 x.1 ++ l) (constructors_both xs ys)
    ∙ sym (append_assoc (constructor_at x.0 x.1) (constructors_in xs) (constructors_in ys))

pub constructors_last : (xs : List (Placed Item)) (x : Placed Item) → constructors_in (xs ++ x ∷ []) ≡ constructors_in xs ++ constructor_at x.0 x.1
unfolding constructors_in
constructors_last xs x = constructors_both xs (x ∷ []) ∙ ap (λ (l : List (Placed Constructor)). constructors_in xs ++ l) (append-nil (constructor_at x.0 x.1))

pub constructors_around : (xs ys : List (Placed Item)) (n : ℕ) (c : Constructor) → constructors_in (xs ++ (n, constructor c) ∷ ys) ≡ constructors_in xs ++ (n, c) ∷ constructors_in ys
unfolding constructors_in
constructors_around xs ys n c = constructors_both xs ((n, constructor c) ∷ ys)

-- ---- what is known in a progress

abbrev progress_in : Progress → Result Progress ℕ → Progress
progress_in p (Ok next) = next
progress_in p (Err rule) = p

-- what is known is put
pub put_known : (p next : Progress) (r : Result Known ℕ) → with_known p r ≡ Ok next → (k : Known) × (r ≡ Ok k) × (k ≡ next.known)
put_known p next r is =
    let c = came_of r (λ k. Ok (record p { known = k })) next is in
    (c.0, c.1, ap (λ r. (progress_in next r).known) c.2)

abbrev rule_of : Result Progress Broken → Result Progress ℕ
rule_of (Ok x) = Ok x
rule_of (Err e) = Err e.0

pub unplaced : (n : ℕ) (r : Result Progress ℕ) (p : Progress) → at n r ≡ Ok p → r ≡ Ok p
unplaced n (Ok x) p is = ap rule_of is
unplaced n (Err e) p is = absurd (cc)

-- ---- items

-- whether it is a definition, an attached list or a block
abbrev pub is_plain : Item → Bool
is_plain (constructor c) = false
is_plain (macro m) = false
is_plain _ = true

-- rules 3 and 26 to 31 of a macro
abbrev pub rules_of_macro : Whole → Tables → List Signature → ℕ → Macro → List Demand
rules_of_macro w t ms n m = (3, is_new t m.name) ∷ macro_demands w (with_macro t n m.name) ms m

-- rules 26 to 31 of the section of a constructor that was added last
abbrev pub rules_of_section : Whole → Tables → List Signature → Constructor → List Demand
rules_of_section w t ms c = section_demands w t ms (last_operands t) (is_of_root (table_name c)) c.section

module _ (w : Whole) (items : List (Placed Item)) (Holds : List (Placed Item) → Tables → Type 0) where
  -- Each of the items keeps it.
  pub record EachKeeps : Type 0 where
    pub plain : (done : List (Placed Item)) (n : ℕ) (item : Item) (k next : Known) → is_plain item ≡ true
        → taken k item ≡ Ok next
        → Holds done k.tables → Holds (done ++ (n, item) ∷ []) next.tables
    pub macros : (done : List (Placed Item)) (n : ℕ) (m : Macro) (ms : List Signature) (t : Tables)
        → first_broken (rules_of_macro w t ms n m) ≡ None
        → Holds done t → Holds (done ++ (n, macro m) ∷ []) (with_macro t n m.name)
    pub constructors : (done rest : List (Placed Item)) (n : ℕ) (c : Constructor) (ms : List Signature) (t next : Tables)
        → items ≡ done ++ (n, constructor c) ∷ rest → constructor_step w.tables t n c ≡ Ok next
        → first_broken (rules_of_section w next ms c) ≡ None → Holds done t
        → Holds (done ++ (n, constructor c) ∷ []) next

  module _ (keeps : EachKeeps) (done rest : List (Placed Item)) (p next : Progress) (n : ℕ) where
    abbrev KeptBy : Item → Type 0
    KeptBy item = Holds done p.known.tables → Holds (done ++ (n, item) ∷ []) next.known.tables

    -- a definition, an attached list or a block
    plain_kept : (item : Item) → is_plain item ≡ true → with_known p (definition_step p.known item) ≡ Ok next
        → KeptBy item
    unfolding definition_step
    plain_kept item plain is holds =
        let k = put_known p next (definition_step p.known item) is in
        let c = came_of (begin p.known (is_endian item)) (λ b. taken b item) k.0 k.1 in
        subst (λ (l : Known). Holds (done ++ (n, item) ∷ []) l.tables) k.2
        (keeps.plain done n item c.0 k.0 plain c.2
        (subst (Holds done) (begins_as p.known c.0 (is_endian item) c.1) holds))

    -- a macro
    macro_begun : (m : Macro) (k : Known) → definition_step p.known (macro m) ≡ Ok k → p.known.tables ≡ k.tables
    unfolding definition_step
    macro_begun m k is =
        let c = came_of (begin p.known (is_endian (macro m))) (λ b. taken b (macro m)) k is in
        begins_as p.known c.0 (is_endian (macro m)) c.1 ∙ ap (λ r. (known_in k r).tables) c.2

    macro_put : (m : Macro) (q : Progress) → macro_taken w q n m ≡ Ok next → Holds done q.known.tables
        → Holds (done ++ (n, macro m) ∷ []) next.known.tables
    macro_put m q is holds =
        let t = q.known.tables in
        let with_it = with_tables q.known (macro_step w q.macros t n m) in
        let c = came_of (with_known q with_it) (λ r. Ok (with_call_of m r)) next is in
        let k = put_known q c.0 with_it c.1 in
        let r = put q.known k.0 (macro_step w q.macros t n m) k.1 in
        let e = is_kept (rules_of_macro w t q.macros n m) (with_macro t n m.name) r.0 r.1 in
        subst (Holds (done ++ (n, macro m) ∷ []))
        (e.1 ∙ r.2 ∙ ap (λ (l : Known). l.tables) (k.2 ∙ ap (λ x. (progress_in next x).known) c.2))
        (keeps.macros done n m q.macros t e.0 holds)

    macro_kept : (m : Macro) → single_step w p n (macro m) ≡ Ok next → KeptBy (macro m)
    macro_kept m is holds =
        let c = came_of (with_known p (definition_step p.known (macro m))) (λ q. macro_taken w q n m) next is in
        let k = put_known p c.0 (definition_step p.known (macro m)) c.1 in
        macro_put m c.0 c.2 (subst (Holds done) (macro_begun m k.0 k.1 ∙ ap (λ (l : Known). l.tables) k.2) holds)

    -- a constructor
    constructor_put : (c : Constructor) (k : Known) → with_constructor_of w.tables p.known n c ≡ Ok k
        → constructor_step w.tables p.known.tables n c ≡ Ok k.tables
    constructor_put c k is =
        let b = came_of (begin p.known false) (λ b. with_tables b (constructor_step w.tables b.tables n c)) k is in
        let q = put b.0 k (constructor_step w.tables b.0.tables n c) b.2 in
        subst (λ (u : Tables). constructor_step w.tables u n c ≡ Ok k.tables) (sym (begins_as p.known b.0 false b.1))
        (subst (λ (u : Tables). constructor_step w.tables b.0.tables n c ≡ Ok u) q.2 q.1)

    constructor_kept : (c : Constructor) → items ≡ done ++ (n, constructor c) ∷ rest
        → item_step w p (n, constructor c) ≡ Ok next → KeptBy (constructor c)
    constructor_kept c parts is holds =
        let more = with_constructor_of w.tables p.known n c in
        let s = came_of (with_known p more) (section_step w c) next is in
        let k = put_known p s.0 more s.1 in
        let step =
        subst (λ (l : Known). constructor_step w.tables p.known.tables n c ≡ Ok l.tables) k.2
        (constructor_put c k.0 k.1) in
        let e = is_kept (rules_of_section w s.0.known.tables s.0.macros c) s.0 next s.2 in
        subst (Holds (done ++ (n, constructor c) ∷ [])) (ap (λ (x : Progress). x.known.tables) e.1)
        (keeps.constructors done rest n c s.0.macros p.known.tables s.0.known.tables parts step e.0 holds)

    item_kept : (item : Item) → items ≡ done ++ (n, item) ∷ rest → item_step w p (n, item) ≡ Ok next → KeptBy item
    item_kept (constructor c) parts is holds = constructor_kept c parts is holds
    item_kept (macro m) parts is holds = macro_kept m is holds
    item_kept (define d) parts is holds = plain_kept (define d) refl is holds
    item_kept (attach_list kind names members) parts is holds = plain_kept (attach_list kind names members) refl is holds
    item_kept (attach_one kind names member) parts is holds = plain_kept (attach_one kind names member) refl is holds
    item_kept (block h inside) parts is holds = plain_kept (block h inside) refl is holds

  -- so it holds behind all items
  all_kept : EachKeeps → (last : Progress) → run (placed_step w) beginning items ≡ Ok last → Holds [] no_tables
      → Holds items last.known.tables
  all_kept keeps last is none =
      kept (placed_step w) items (λ done p. Holds done p.known.tables)
      (λ done rest x p next parts stepped holds. item_kept keeps done rest p next x.0 x.1 parts
      (unplaced x.0 (item_step w p x) next stepped) holds)
      [] items beginning last refl is none

-- ---- constructors alone

module _ (w : Whole) (items : List (Placed Item)) (Holds : List (Placed Constructor) → Tables → Type 0) where
  -- Each definition and each macro keeps it, and each constructor is one more of which it holds.
  pub record EachAdds : Type 0 where
    pub plain : (cs : List (Placed Constructor)) (k next : Known) (item : Item) → taken k item ≡ Ok next
        → Holds cs k.tables → Holds cs next.tables
    pub macros : (cs : List (Placed Constructor)) (t : Tables) (n : ℕ) (name : Name) → Holds cs t
        → Holds cs (with_macro t n name)
    pub constructors : (done rest : List (Placed Item)) (n : ℕ) (c : Constructor) (t next : Tables)
        → items ≡ done ++ (n, constructor c) ∷ rest → constructor_step w.tables t n c ≡ Ok next
        → Holds (constructors_in done) t → Holds (constructors_in done ++ (n, c) ∷ []) next

  module _ (adds : EachAdds) where
    behind : (done : List (Placed Item)) (x : Placed Item) (t : Tables)
        → Holds (constructors_in done ++ constructor_at x.0 x.1) t → Holds (constructors_in (done ++ x ∷ [])) t
    behind done x t holds = subst (λ (cs : List (Placed Constructor)). Holds cs t) (sym (constructors_last done x)) holds

    -- where an item is no constructor
    no_more : (done : List (Placed Item)) (n : ℕ) (item : Item) (t : Tables) → constructor_at n item ≡ []
        → Holds (constructors_in done) t → Holds (constructors_in (done ++ (n, item) ∷ [])) t
    no_more done n item t none holds = behind done (n, item) t (subst (λ (cs : List (Placed Constructor)). Holds cs t)
        (sym (append-nil (constructors_in done)) ∙ ap (λ (l : List (Placed Constructor)). constructors_in done ++ l) (sym none)) holds)

    plain_none : (n : ℕ) (item : Item) → is_plain item ≡ true → constructor_at n item ≡ []
    plain_none n (constructor c) plain = absurd (cc)
    plain_none n (macro m) plain = refl
    plain_none n (define d) plain = refl
    plain_none n (attach_list kind names members) plain = refl
    plain_none n (attach_one kind names member) plain = refl
    plain_none n (block h inside) plain = refl

    pub each_keeps : EachKeeps w items (λ done t. Holds (constructors_in done) t)
    each_keeps = record {
      plain = λ done n item k next plain is holds.
          no_more done n item next.tables (plain_none n item plain) (adds.plain (constructors_in done) k next item is holds);
      macros = λ done n m ms t rules holds.
          no_more done n (macro m) (with_macro t n m.name) refl (adds.macros (constructors_in done) t n m.name holds);
      constructors = λ done rest n c ms t next parts is rules holds.
          behind done (n, constructor c) next (adds.constructors done rest n c t next parts is holds);
    }

-- ---- a text

pub none_late : (late : Option LateFault) (t next : Tables) → unless_late late t ≡ Ok next → (late ≡ None) × (t ≡ next)
none_late None t next is = (refl, ap (tables_or t) is)
  where
    tables_or : {E : Type 0} → Tables → Result Tables E → Tables
    tables_or t (Ok u) = u
    tables_or t (Err e) = t
none_late (Some late) t next is = absurd (let e : ⊥ = cc in e)

abbrev pub known_or : {E : Type 0} → Known → Result Known E → Known
known_or k (Ok next) = next
known_or k (Err e) = k

abbrev pub whole_text : List Item → Whole
whole_text items = whole_of (all_tables (constructors_in (unfolded items))) items

-- All items were taken, and no rule over the whole is broken.
record ComesFrom (items : List Item) (t : Tables) : Type 0 where
  last : Progress
  ends : run (placed_step (whole_text items)) beginning (unfolded items) ≡ Ok last
  tables : last.known.tables ≡ t
  none : late_fault t (constructors_in (unfolded items)) ≡ None

comes_from : (items : List Item) (t : Tables) → verdict.taken items ≡ Ok t → ComesFrom items t
unfolding verdict.taken
comes_from items t is =
    let cs = constructors_in (unfolded items) in
    let c = came_of (known_behind (whole_text items) items) (λ k. unless_late (late_fault k.tables cs) k.tables) t is in
    let p = came_of (run (placed_step (whole_text items)) beginning (unfolded items)) (λ p. Ok p.known) c.0 c.1 in
    let known : p.0.known ≡ c.0 = ap (known_or c.0) p.2 in
    let n = none_late (late_fault c.0.tables cs) c.0.tables t c.2 in
    record {
      last = p.0;
      ends = p.1;
      tables = ap (λ (k : Known). k.tables) known ∙ n.1;
      none = subst (λ (u : Tables). late_fault u cs ≡ None) n.1 n.0;
    }

module _ (items : List Item) (t : Tables) (is : verdict.taken items ≡ Ok t) where
  -- rules 32 to 37
  pub none_broken : late_fault t (constructors_in (unfolded items)) ≡ None
  none_broken = (comes_from items t is).none

  -- what each item keeps
  pub taken_keeps : (Holds : List (Placed Item) → Tables → Type 0) → EachKeeps (whole_text items) (unfolded items) Holds
      → Holds [] no_tables → Holds (unfolded items) t
  taken_keeps Holds keeps none =
      let from = comes_from items t is in
      subst (Holds (unfolded items)) from.tables (all_kept (whole_text items) (unfolded items) Holds keeps from.last from.ends none)

  -- what holds of constructors
  pub taken_adds : (Holds : List (Placed Constructor) → Tables → Type 0) → EachAdds (whole_text items) (unfolded items) Holds
      → Holds [] no_tables → Holds (constructors_in (unfolded items)) t
  unfolding constructors_in
  taken_adds Holds adds none =
      taken_keeps (λ done u. Holds (constructors_in done) u)
      (each_keeps (whole_text items) (unfolded items) Holds adds) none
