-- Tables are used as rules 38 and 39 say.
use Rattle.std.proofs.Common.{◌≡◌, ℕ, zero, suc, ◌<◌, ◌==◌, ◌&&◌, ◌||◌, ◌⊎◌, inl, inr, Bool, true, false, not, List, [], ◌∷◌, ◌++◌, length, map, Option, Some, None, refl, sym, ap, ◌∙◌, subst, arith}
use Rattle.std.specs.Prelude.{find, if◌then◌else◌, option_map, slice_get, unwrap_or}
use Rattle.std.specs.List.{Contains, list_any}
use Rattle.std.proofs.lemmas.Bool.Decides.{nat_tests}
use Rattle.std.proofs.lemmas.List.FromFn.{get_or-map-range_with_len}
use Rattle.sl_ast.specs.Trees.{Constructor}
use Rattle.sl_ast.specs.Unfolding.{Placed}
use Rattle.sl_faithful_code.proofs.FitLemmas.{both_true}
use Rattle.sl_section_equations.specs.Equations.{is_bare}
use Rattle.sl_section_equations.specs.Uses as q
use Rattle.sl_section_equations.specs.declared.exports.ExportKind.{ExportKind}
use Rattle.sl_section_equations.specs.declared.exports.ExportKind.TheVariants as kind
use Rattle.sl_section_exports.specs.Exports as e
use Rattle.sl_section_exports.specs.Exports.{Row, default_space_index, exporting, first_place, graph_with, if_so, is_assigned, is_no_target, keeps_38, keeps_39, misused_place, operand_flags, operand_tables, passes, re_exported, re_exports, rows, storages, constants, swapped, assigned_tables, unexported_place}
use Rattle.sl_section_exports.specs.Spreading.{is_one_of, is_reached}
use Rattle.sl_section_exports.specs.Spreads.{Follows}
use Rattle.sl_section_exports.proofs.SpreadLemmas.{follows_one, some_passes}
use Rattle.sl_section_exports.proofs.SpreadLemmas as spread
use Rattle.sl_faithful_keeping.specs.Keeping.{IsPlaceExport, IsTargetExport, first_export}
use Rattle.sl_faithful_keeping.specs.Kinds.{IsAssigned, IsTarget, Kind, table}
use Rattle.sl_faithful_keeping.specs.KeepingLaws.{AreAssigned, UsesTables}
use Rattle.sl_base_graphs.specs.Reaching.{Graph, reaches_over, successors}
use Rattle.sl_base_graphs.proofs.Closure as closure
use Rattle.sl_spec_rules.specs.Gathered.{gathered}
use Rattle.sl_section_flat.specs.Sections as s
use Rattle.sl_section_flat.specs.Sections.{Export, Step, Symbol}
use Rattle.sl_spec.specs.Tables.{Ctor, Operand}
use Rattle.sl_spec.specs.declared.constructors.Means.{Means}
use Rattle.sl_spec.specs.declared.constructors.Means.TheVariants as means
use Rattle.sl_spec.specs.declared.tables.Tables.{Tables}
use Rattle.sl_faithful_sections.specs.UseLaws.{IsUsed, KeepUses, NamesPlace, TablesAreUsed, exports_of, targets_of, uses_of}
use Rattle.sl_spec_tables.specs.Rows as all
use Rattle.sl_spec_tables.specs.declared.faults.Place.TheVariants.{Item}
use Rattle.sl_faithful_instructions.specs.Sound.{Uses, kind_of, kinds_of}

-- ---- tests of lists

not_true : (b : Bool) → not b ≡ true → b ≡ false
not_true true h = absurd (let no : ⊥ = cc in no)
not_true false h = refl

not_false : (b : Bool) → not b ≡ false → b ≡ true
not_false true h = refl
not_false false h = absurd (let no : ⊥ = cc in no)

or_first : (a b : Bool) → a ≡ true → (a || b) ≡ true
or_first true b h = refl
or_first false b h = absurd (let no : ⊥ = cc in no)

or_second : (a b : Bool) → b ≡ true → (a || b) ≡ true
or_second true b h = refl
or_second false b h = h

or_either : (a b : Bool) → (a || b) ≡ true → (a ≡ true) ⊎ (b ≡ true)
or_either true b h = inl refl
or_either false b h = inr h

itself : (n : ℕ) → (n == n) ≡ true
itself n = grind (arith, nat_tests)

equal : (m n : ℕ) → (m == n) ≡ true → m ≡ n
equal m n h = grind (arith, nat_tests)

any_append : {X : Type 0} (p : X → Bool) (xs ys : List X) → (list_any p xs ≡ true) ⊎ (list_any p ys ≡ true) → list_any p (xs ++ ys) ≡ true
any_append p [] ys (inl h) = absurd (let no : ⊥ = cc in no)
any_append p [] ys (inr h) = h
any_append p (x ∷ xs) ys (inl h) = by (or_either (p x) (list_any p xs) h) (λ k. any_append p xs ys (inl k))
  where
    by : (p x ≡ true) ⊎ (list_any p xs ≡ true) → (list_any p xs ≡ true → list_any p (xs ++ ys) ≡ true) → list_any p ((x ∷ xs) ++ ys) ≡ true
    by (inl k) rest = or_first (p x) (list_any p (xs ++ ys)) k
    by (inr k) rest = or_second (p x) (list_any p (xs ++ ys)) (rest k)
any_append p (x ∷ xs) ys (inr h) = or_second (p x) (list_any p (xs ++ ys)) (any_append p xs ys (inr h))

-- what a member gives passes
pub any_gathered : {X Y : Type 0} (p : Y → Bool) (f : X → List Y) (xs : List X) → list_any (λ x. list_any p (f x)) xs ≡ true → list_any p (gathered f xs) ≡ true
unfolding gathered
any_gathered p f [] h = absurd (let no : ⊥ = cc in no)
any_gathered p f (x ∷ xs) h = by (or_either (list_any p (f x)) (list_any (λ x. list_any p (f x)) xs) h) (any_gathered p f xs)
  where
    by : (list_any p (f x) ≡ true) ⊎ (list_any (λ x. list_any p (f x)) xs ≡ true) → (list_any (λ x. list_any p (f x)) xs ≡ true → list_any p (gathered f xs) ≡ true) → list_any p (f x ++ gathered f xs) ≡ true
    by (inl k) rest = any_append p (f x) (gathered f xs) (inl k)
    by (inr k) rest = any_append p (f x) (gathered f xs) (inr (rest k))

pub any_at : {X : Type 0} (p : X → Bool) (xs : List X) (k : ℕ) (x : X) → slice_get xs k ≡ Some x → p x ≡ true → list_any p xs ≡ true
any_at p [] k x is h = absurd (let no : ⊥ = cc in no)
any_at p (y ∷ xs) zero x is h = let same : y ≡ x = cc in or_first (p y) (list_any p xs) (ap p same ∙ h)
any_at p (y ∷ xs) (suc k) x is h = or_second (p y) (list_any p xs) (any_at p xs k x is h)

-- where none is found, each fails
found_cons : (p : Row → Bool) (x : Row) (rs : List Row) (k : ℕ) (r : Row) → p x ≡ false → ((j : ℕ) → slice_get rs j ≡ Some r → p r ≡ false) → slice_get (x ∷ rs) k ≡ Some r → p r ≡ false
found_cons p x rs zero r same rest is = let here : x ≡ r = cc in ap p (sym here) ∙ same
found_cons p x rs (suc j) r same rest is = rest j is

pub found_none : (p : Row → Bool) (rs : List Row) (k : ℕ) (r : Row) → first_place p rs ≡ None → slice_get rs k ≡ Some r → p r ≡ false
found_none p [] k r h is = absurd (let no : ⊥ = cc in no)
found_none p (x ∷ rs) k r h is = by (p x) refl h (λ rest j is'. found_none p rs j r rest is')
  where
    by : (b : Bool) → p x ≡ b → option_map (λ r. Item r.0.0.item) (if b then Some x else find p rs) ≡ None → (first_place p rs ≡ None → (j : ℕ) → slice_get rs j ≡ Some r → p r ≡ false) → p r ≡ false
    by true same h rest = absurd (let no : ⊥ = cc in no)
    by false same h rest = found_cons p x rs k r same (rest h) is

-- ---- reached tables

reached_follows : (g : Graph) (starts : List ℕ) (v : ℕ) → is_reached g starts v ≡ true → Follows g starts v
reached_follows g starts v h = by (some_passes (λ s. (s == v) || reaches_over g (length g) s v) starts h)
  where
    by : ((s : ℕ) × Contains starts s × (((s == v) || reaches_over g (length g) s v) ≡ true)) → Follows g starts v
    by (s, c, k) = elim (or_either (s == v) (reaches_over g (length g) s v) k) [
      | inl e ↦ (s, c, inl (equal s v e))
      | inr r ↦ (s, c, inr (closure.is_reached g (length g) s v r))
    ]

follows_reached : (g : Graph) (starts : List ℕ) (v : ℕ) → Follows g starts v → is_reached g starts v ≡ true
follows_reached g starts v (s, c, inl e) =
    spread.passes (λ s. (s == v) || reaches_over g (length g) s v) starts s c (or_first (s == v) (reaches_over g (length g) s v) (ap (λ n. n == v) e ∙ itself v))
follows_reached g starts v (s, c, inr r) =
    spread.passes (λ s. (s == v) || reaches_over g (length g) s v) starts s c (or_second (s == v) (reaches_over g (length g) s v) (closure.finds_reached g s v r))

contained : (xs : List ℕ) (w : ℕ) → list_any (λ x. x == w) xs ≡ true → Contains xs w
contained xs w h = by (some_passes (λ x. x == w) xs h)
  where
    by : ((y : ℕ) × Contains xs y × ((y == w) ≡ true)) → Contains xs w
    by (y, c, k) = subst (Contains xs) (equal y w k) c

-- along an edge
reached_one : (g : Graph) (starts : List ℕ) (v w : ℕ) → is_reached g starts v ≡ true → list_any (λ x. x == w) (successors g v) ≡ true → is_reached g starts w ≡ true
reached_one g starts v w h edge = follows_reached g starts w (follows_one g starts v w (reached_follows g starts v h) (contained (successors g v) w edge))

start_reached : (g : Graph) (starts : List ℕ) (v : ℕ) → list_any (λ s. s == v) starts ≡ true → is_reached g starts v ≡ true
start_reached g starts v h = follows_reached g starts v (v, contained starts v h, inl refl)

edge_there : (count : ℕ) (edges : List (ℕ × ℕ)) (v w : ℕ) → v < count → list_any (λ edge. list_any (λ x. x == w) (if_so (edge.0 == v) edge.1)) edges ≡ true → list_any (λ x. x == w) (successors (graph_with count edges) v) ≡ true
edge_there count edges v w lt h =
    let f : ℕ → List ℕ = λ v. gathered (λ edge. if_so (edge.0 == v) edge.1) edges in
    let at : successors (graph_with count edges) v ≡ f v = get_or-map-range_with_len f 0 count v v [] lt (omega arith) in
    ap (list_any (λ x. x == w)) at ∙ any_gathered (λ x. x == w) (λ (edge : ℕ × ℕ). if_so (edge.0 == v) edge.1) edges h

if_found : (v w : ℕ) → list_any (λ x. x == w) (if_so (v == v) w) ≡ true
if_found v w = ap (λ b. list_any (λ x. x == w) (if_so b w)) (itself v) ∙ or_first (w == w) false (itself w)

-- ---- operands

-- an operand that passes a test of tables is one
record Flagged (test : ℕ → Bool) (os : List Operand) (i : ℕ) : Type 0 where
  pub operand : Operand
  pub is : slice_get os i ≡ Some operand
  pub number : ℕ
  pub meant : operand.means ≡ means.Table number
  pub passes : test number ≡ true

flagged : (test : ℕ → Bool) (os : List Operand) (i : ℕ) → unwrap_or (slice_get (map (λ o. passes test o.means) os) i) false ≡ true → Flagged test os i
flagged test [] i h = absurd (let no : ⊥ = cc in no)
flagged test (o ∷ os) zero h = by o.means refl h
  where
    by : (m : Means) → o.means ≡ m → passes test m ≡ true → Flagged test (o ∷ os) zero
    by (means.Table id) same h = record { operand = o; is = refl; number = id; meant = same; passes = h }
    by (means.Field id) same h = absurd (let no : ⊥ = cc in no)
    by (means.Action k) same h = absurd (let no : ⊥ = cc in no)
flagged test (o ∷ os) (suc i) h = let r = flagged test os i h in record { operand = r.operand; is = r.is; number = r.number; meant = r.meant; passes = r.passes }

-- the test of the operand of a table
flag_of : (test : ℕ → Bool) (os : List Operand) (i b : ℕ) (o : Operand) → slice_get os i ≡ Some o → o.means ≡ means.Table b → unwrap_or (slice_get (map (λ o. passes test o.means) os) i) false ≡ test b
flag_of test [] i b o is meant = absurd (let no : ⊥ = cc in no)
flag_of test (p ∷ os) zero b o is meant = let same : p ≡ o = cc in ap (λ (p : Operand). passes test p.means) same ∙ ap (passes test) meant
flag_of test (p ∷ os) (suc i) b o is meant = flag_of test os i b o is meant

kind_at : (t : Tables) (u : Uses) (os : List Operand) (i : ℕ) (o : Operand) → slice_get os i ≡ Some o → slice_get (map (kind_of t u) (map (λ o. o.means) os)) i ≡ Some (kind_of t u o.means)
kind_at t u [] i o is = absurd (let no : ⊥ = cc in no)
kind_at t u (p ∷ os) zero o is = let same : p ≡ o = cc in ap (λ (p : Operand). Some (kind_of t u p.means)) same
kind_at t u (p ∷ os) (suc i) o is = kind_at t u os i o is

-- ---- a section

-- each of these passes
abbrev Each : (p : ℕ → Bool) → List ℕ → Type 0
Each p [] = Unit {0}
Each p (i ∷ is) = (p i ≡ true) × Each p is

each_append : (p : ℕ → Bool) (is js : List ℕ) → Each p is → Each p js → Each p (is ++ js)
each_append p [] js h k = k
each_append p (i ∷ is) js h k = (h.0, each_append p is js h.1 k)

table_passes : (p : ℕ → Bool) (a : Symbol) → q.symbol_passes p a ≡ true → Each p (q.table_of a)
table_passes p (s.table i) h = (h, tt)
table_passes p (s.register space offset n) h = tt
table_passes p (s.bit_range space offset n low count) h = tt
table_passes p (s.local x) h = tt
table_passes p (s.attached i n) h = tt
table_passes p (s.value i) h = tt
table_passes p s.start h = tt
table_passes p s.next h = tt
table_passes p (s.integer v) h = tt

step_passes : (p : ℕ → Bool) (a : Step) → q.step_passes p a ≡ true → Each p (q.step_assigned a)
step_passes p (s.set a t) h = table_passes p a (both_true (q.symbol_passes p a) (q.term_passes p t) h).0
step_passes p (s.set_bits a low count t) h = table_passes p a (both_true (q.symbol_passes p a) (q.term_passes p t) h).0
step_passes p (s.declare x n) h = tt
step_passes p (s.store space n pointer x t) h = tt
step_passes p (s.run_user op ts) h = tt
step_passes p (s.build i) h = tt
step_passes p (s.label l) h = tt
step_passes p (s.branch to) h = tt
step_passes p (s.branch_if t to) h = tt
step_passes p (s.branch_to t) h = tt
step_passes p (s.call a) h = tt
step_passes p (s.call_to t) h = tt
step_passes p (s.return t) h = tt
step_passes p (s.export what) h = tt

assigned_pass : (p : ℕ → Bool) (ss : List Step) → q.each_used_passes p ss ≡ true → Each p (q.assigned ss)
assigned_pass p [] h = tt
assigned_pass p (a ∷ ss) h =
    let parts = both_true (q.step_passes p a) (q.each_used_passes p ss) h in
    each_append p (q.step_assigned a) (q.assigned ss) (step_passes p a parts.0) (assigned_pass p ss parts.1)

-- the export of a section, and that it is used
record Exported (p : ℕ → Bool) (default : ℕ) (ss : List Step) (what : Export) : Type 0 where
  pub kind : q.export_kind default ss ≡ q.kind_of default what
  pub used : q.export_passes p what ≡ true

exported : (p : ℕ → Bool) (default : ℕ) (ss : List Step) (what : Export) → first_export ss ≡ Some what → q.each_used_passes p ss ≡ true → Exported p default ss what
exported p default [] what is h = absurd (let no : ⊥ = cc in no)
exported p default (s.export other ∷ ss) what is h =
    let same : other ≡ what = cc in
    record {
      kind = ap (q.kind_of default) same;
      used = ap (q.export_passes p) (sym same) ∙ (both_true (q.export_passes p other) (q.each_used_passes p ss) h).0;
    }
exported p default (s.declare x n ∷ ss) what is h =
    let r = exported p default ss what is (both_true (q.step_passes p (s.declare x n)) (q.each_used_passes p ss) h).1 in
    record { kind = r.kind; used = r.used }
exported p default (s.set a t ∷ ss) what is h =
    let r = exported p default ss what is (both_true (q.step_passes p (s.set a t)) (q.each_used_passes p ss) h).1 in
    record { kind = r.kind; used = r.used }
exported p default (s.set_bits a low count t ∷ ss) what is h =
    let r = exported p default ss what is (both_true (q.step_passes p (s.set_bits a low count t)) (q.each_used_passes p ss) h).1 in
    record { kind = r.kind; used = r.used }
exported p default (s.store space n pointer x t ∷ ss) what is h =
    let r = exported p default ss what is (both_true (q.step_passes p (s.store space n pointer x t)) (q.each_used_passes p ss) h).1 in
    record { kind = r.kind; used = r.used }
exported p default (s.run_user op ts ∷ ss) what is h =
    let r = exported p default ss what is (both_true (q.step_passes p (s.run_user op ts)) (q.each_used_passes p ss) h).1 in
    record { kind = r.kind; used = r.used }
exported p default (s.build i ∷ ss) what is h =
    let r = exported p default ss what is (both_true (q.step_passes p (s.build i)) (q.each_used_passes p ss) h).1 in
    record { kind = r.kind; used = r.used }
exported p default (s.label l ∷ ss) what is h =
    let r = exported p default ss what is (both_true (q.step_passes p (s.label l)) (q.each_used_passes p ss) h).1 in
    record { kind = r.kind; used = r.used }
exported p default (s.branch to ∷ ss) what is h =
    let r = exported p default ss what is (both_true (q.step_passes p (s.branch to)) (q.each_used_passes p ss) h).1 in
    record { kind = r.kind; used = r.used }
exported p default (s.branch_if t to ∷ ss) what is h =
    let r = exported p default ss what is (both_true (q.step_passes p (s.branch_if t to)) (q.each_used_passes p ss) h).1 in
    record { kind = r.kind; used = r.used }
exported p default (s.branch_to t ∷ ss) what is h =
    let r = exported p default ss what is (both_true (q.step_passes p (s.branch_to t)) (q.each_used_passes p ss) h).1 in
    record { kind = r.kind; used = r.used }
exported p default (s.call a ∷ ss) what is h =
    let r = exported p default ss what is (both_true (q.step_passes p (s.call a)) (q.each_used_passes p ss) h).1 in
    record { kind = r.kind; used = r.used }
exported p default (s.call_to t ∷ ss) what is h =
    let r = exported p default ss what is (both_true (q.step_passes p (s.call_to t)) (q.each_used_passes p ss) h).1 in
    record { kind = r.kind; used = r.used }
exported p default (s.return t ∷ ss) what is h =
    let r = exported p default ss what is (both_true (q.step_passes p (s.return t)) (q.each_used_passes p ss) h).1 in
    record { kind = r.kind; used = r.used }

-- ---- each constructor

module _ (t : Tables) (cs : List (Placed Constructor)) (sections : List (List Step)) (last : List (Option ℕ)) (keep : KeepUses t cs sections last) where
  abbrev rs : List Row
  rs = rows t cs sections

  abbrev default : ℕ
  default = default_space_index t

  abbrev count : ℕ
  count = length t.tables

  abbrev uses : Uses
  uses = uses_of t rs last

  module _ (k : ℕ) (r : Row) (there : slice_get rs k ≡ Some r) where
    abbrev c : Ctor
    c = r.0.0

    abbrev kinds : List Kind
    kinds = kinds_of t uses c

    abbrev exports : ℕ → Bool
    exports = exports_of (all.rows t cs) c

    abbrev targets : ℕ → Bool
    targets = targets_of t rs c

    keeps_exports : keeps_38 (all.rows t cs) r ≡ true
    unfolding unexported_place
    keeps_exports = not_false (keeps_38 (all.rows t cs) r) (found_none (λ r. not (keeps_38 (all.rows t cs) r)) rs k r keep.exported there)

    keeps_uses : keeps_39 default count rs r ≡ true
    unfolding misused_place
    keeps_uses = not_false (keeps_39 default count rs r) (found_none (λ r. not (keeps_39 default count rs r)) rs k r keep.used there)

    used : q.each_used_passes exports r.1 ≡ true
    used = (both_true (e.all_or_none (all.rows t cs) c.table) (e.uses_exports (all.rows t cs) r) keeps_exports).1

    -- a table operand that exports
    record At (i : ℕ) : Type 0 where
      pub operand : Operand
      pub is : slice_get c.operands i ≡ Some operand
      pub number : ℕ
      pub meant : operand.means ≡ means.Table number
      pub size : ℕ
      pub kind : slice_get kinds i ≡ Some (table (Some size) (uses.target number) (uses.assigned number))

    at : (i : ℕ) → exports i ≡ true → At i
    at i h =
        let f = flagged (is_one_of (exporting (all.rows t cs))) c.operands i h in
        let z = keep.sized f.number f.passes in
        record {
          operand = f.operand;
          is = f.is;
          number = f.number;
          meant = f.meant;
          size = z.size;
          kind = kind_at t uses c.operands i f.operand f.is ∙ ap (λ m. Some (kind_of t uses m)) f.meant ∙ ap (λ o. Some (table o (uses.target f.number) (uses.assigned f.number))) z.is;
        }

    tables_at : (i : ℕ) (a : At i) → operand_tables c i ≡ a.number ∷ []
    tables_at i a = ap e.tables_meant a.is ∙ ap all.table_of a.meant

    is_target : (i : ℕ) (a : At i) → uses.target a.number ≡ true → IsTarget kinds i
    is_target i a h = record { size = a.size; assigned = uses.assigned a.number; is = a.kind ∙ ap (λ b. Some (table (Some a.size) b (uses.assigned a.number))) h }

    is_place : (i : ℕ) (a : At i) → uses.assigned a.number ≡ true → IsAssigned kinds i
    is_place i a h = record { size = a.size; target = uses.target a.number; is = a.kind ∙ ap (λ b. Some (table (Some a.size) (uses.target a.number) b)) h }

    uses_tables : UsesTables kinds exports targets
    uses_tables = record {
      exporting = λ i h. let a = at i h in record { size = a.size; target = uses.target a.number; assigned = uses.assigned a.number; is = a.kind };
      target = λ i h h'.
          let a = at i h in
          is_target i a (sym (flag_of (λ b. not (is_no_target default count rs b)) c.operands i a.number a.operand a.is a.meant) ∙ h');
    }

    -- ---- what is assigned

    abbrev starts : List ℕ
    starts = gathered assigned_tables rs

    -- a table that this section assigns is assigned
    one_assigned : (i : ℕ) (a : At i) → list_any (λ j. j == i) (q.assigned r.1) ≡ true → uses.assigned a.number ≡ true
    one_assigned i a among =
        start_reached (graph_with count (re_exports default rs)) starts a.number
        (any_gathered (λ x. x == a.number) assigned_tables rs
        (any_at (λ r. list_any (λ x. x == a.number) (assigned_tables r)) rs k r there
        (any_gathered (λ x. x == a.number) (operand_tables c) (q.assigned r.1) (each (q.assigned r.1) among))))
      where
        passes_one : (j : ℕ) → (j == i) ≡ true → list_any (λ x. x == a.number) (operand_tables c j) ≡ true
        passes_one j h =
            ap (λ j. list_any (λ x. x == a.number) (operand_tables c j)) (equal j i h)
            ∙ ap (list_any (λ x. x == a.number)) (tables_at i a) ∙ or_first (a.number == a.number) false (itself a.number)

        each : (is : List ℕ) → list_any (λ j. j == i) is ≡ true → list_any (λ j. list_any (λ x. x == a.number) (operand_tables c j)) is ≡ true
        each [] h = absurd (let no : ⊥ = cc in no)
        each (j ∷ is) h = elim (or_either (j == i) (list_any (λ j. j == i) is) h) [
          | inl e ↦ or_first _ (list_any (λ j. list_any (λ x. x == a.number) (operand_tables c j)) is) (passes_one j e)
          | inr e ↦ or_second (list_any (λ x. x == a.number) (operand_tables c j)) _ (each is e)
        ]

    all_assigned : (is : List ℕ) → Each exports is → ((i : ℕ) → list_any (λ j. j == i) is ≡ true → list_any (λ j. j == i) (q.assigned r.1) ≡ true) → AreAssigned kinds is
    all_assigned [] h among = tt
    all_assigned (i ∷ is) h among =
        let a = at i h.0 in (
          is_place i a (one_assigned i a (among i (or_first (i == i) (list_any (λ j. j == i) is) (itself i)))),
          all_assigned is h.1 (λ j e. among j (or_second (i == j) (list_any (λ k. k == j) is) e)),
        )

    -- ---- what is exported

    -- what is handed on is an edge
    edge_of : (i : ℕ) (a : At i) → e.kind default rs r ≡ kind.Table i → (p : ℕ × ℕ → Bool) → p (c.table, a.number) ≡ true → list_any p (re_exports default rs) ≡ true
    edge_of i a same p h =
        any_gathered p (λ r. map (λ u. (r.0.0.table, u)) (re_exported r.0.0 (e.kind default rs r))) rs
        (any_at (λ r. list_any p (map (λ u. (r.0.0.table, u)) (re_exported r.0.0 (e.kind default rs r)))) rs k r there
        (ap (λ x. list_any p (map (λ u. (c.table, u)) (re_exported c x))) same
        ∙ ap (λ l. list_any p (map (λ u. (c.table, u)) l)) (tables_at i a)
        ∙ or_first (p (c.table, a.number)) false h))

    -- storage of a section's own is no target
    storage_reached : e.kind default rs r ≡ kind.Storage → is_no_target default count rs c.table ≡ true
    storage_reached same =
        start_reached (graph_with count (map swapped (re_exports default rs))) (storages default rs) c.table
        (any_gathered (λ x. x == c.table) (λ r. if_so (e.is_storage (e.kind default rs r)) r.0.0.table) rs
        (any_at (λ r. list_any (λ x. x == c.table) (if_so (e.is_storage (e.kind default rs r)) r.0.0.table)) rs k r there
        (ap (λ x. list_any (λ y. y == c.table) (if_so (e.is_storage x) c.table)) same ∙ or_first (c.table == c.table) false (itself c.table))))

    constant_there : e.kind default rs r ≡ kind.Constant → is_one_of (constants default rs) c.table ≡ true
    constant_there same =
        any_gathered (λ x. x == c.table) (λ r. if_so (e.is_constant (e.kind default rs r)) r.0.0.table) rs
        (any_at (λ r. list_any (λ x. x == c.table) (if_so (e.is_constant (e.kind default rs r)) r.0.0.table)) rs k r there
        (ap (λ x. list_any (λ y. y == c.table) (if_so (e.is_constant x) c.table)) same ∙ or_first (c.table == c.table) false (itself c.table)))

    -- a table that is handed on is a target where this one is
    target_on : (i : ℕ) (a : At i) → e.kind default rs r ≡ kind.Table i → uses.target c.table ≡ true → uses.target a.number ≡ true
    target_on i a same h = by (is_no_target default count rs a.number) refl
      where
        swapped_edge : (edges : List (ℕ × ℕ)) → list_any (λ edge. list_any (λ x. x == c.table) (if_so (edge.1 == a.number) edge.0)) edges ≡ true
            → list_any (λ edge. list_any (λ x. x == c.table) (if_so (edge.0 == a.number) edge.1)) (map swapped edges) ≡ true
        swapped_edge [] h = h
        swapped_edge (edge ∷ edges) h =
            let first : Bool = list_any (λ x. x == c.table) (if_so (edge.1 == a.number) edge.0) in
            let old : Bool = list_any (λ (edge : ℕ × ℕ). list_any (λ x. x == c.table) (if_so (edge.1 == a.number) edge.0)) edges in
            let new : Bool = list_any (λ (edge : ℕ × ℕ). list_any (λ x. x == c.table) (if_so (edge.0 == a.number) edge.1)) (map swapped edges) in
            elim (or_either first old h) [
              | inl k ↦ or_first first new k
              | inr k ↦ or_second first new (swapped_edge edges k)
            ]

        by : (b : Bool) → is_no_target default count rs a.number ≡ b → not b ≡ true
        by false is = refl
        by true is =
            let lt = keep.operands k r i a.operand a.number there a.is a.meant in
            let edge = edge_there count (map swapped (re_exports default rs)) a.number c.table lt (swapped_edge (re_exports default rs) (edge_of i a same (λ edge. list_any (λ x. x == c.table) (if_so (edge.1 == a.number) edge.0)) (if_found a.number c.table))) in
            let reached : is_no_target default count rs c.table ≡ true = reached_one (graph_with count (map swapped (re_exports default rs))) (storages default rs) a.number c.table is edge in
            absurd (let other : is_no_target default count rs c.table ≡ false = not_true (is_no_target default count rs c.table) h in let no : ⊥ = cc in no)

    place_on : (i : ℕ) (a : At i) → e.kind default rs r ≡ kind.Table i → uses.assigned c.table ≡ true → uses.assigned a.number ≡ true
    place_on i a same h =
        let lt = keep.owners k r there in
        reached_one (graph_with count (re_exports default rs)) starts c.table a.number h
        (edge_there count (re_exports default rs) c.table a.number lt (edge_of i a same (λ edge. list_any (λ x. x == a.number) (if_so (edge.0 == c.table) edge.1)) (if_found c.table a.number)))

    no_storage : uses.target c.table ≡ true → e.kind default rs r ≡ kind.Storage → ⊥
    no_storage h same =
        let is = storage_reached same in
        let other = not_true (is_no_target default count rs c.table) h in
        let no : ⊥ = cc in no

    -- the export of this section
    module _ (what : Export) (is : first_export r.1 ≡ Some what) where
      own : Exported exports default r.1 what
      own = exported exports default r.1 what is used

      target_export : uses.target c.table ≡ true → IsTargetExport kinds what
      target_export h = by what own.kind own.used
        where
          pointed : (b : Bool) (x : ExportKind) → e.kind default rs r ≡ (if b then kind.Place else kind.Storage) → b ≡ true
          pointed true x same = refl
          pointed false x same = absurd (no_storage h same)

          by : (w : Export) → e.kind default rs r ≡ q.kind_of default w → q.export_passes exports w ≡ true → IsTargetExport kinds w
          by (s.exports (s.table i) x) same pass = let a = at i pass in is_target i a (target_on i a same h)
          by (s.exports (s.register space offset n) x) same pass = absurd (no_storage h same)
          by (s.exports (s.bit_range space offset n low n') x) same pass = absurd (no_storage h same)
          by (s.exports (s.local y) x) same pass = absurd (no_storage h same)
          by (s.exports (s.attached i n) x) same pass = absurd (no_storage h same)
          by (s.exports (s.value i) x) same pass = absurd (no_storage h same)
          by (s.exports s.start x) same pass = absurd (no_storage h same)
          by (s.exports s.next x) same pass = absurd (no_storage h same)
          by (s.exports (s.integer v) x) same pass = absurd (no_storage h same)
          by (s.exports_constant n t x) same pass = tt
          by (s.exports_memory space n t x) same pass = (both_true (q.is_default default space) (is_bare t) (pointed (q.is_default default space && is_bare t) kind.Place same)).1

      no_constant : uses.assigned c.table ≡ true → e.kind default rs r ≡ kind.Constant → ⊥
      no_constant h same =
          let there' = constant_there same in
          let whole = (both_true (e.is_assignable default count rs c.table) (e.has_targets default count rs r) keeps_uses).0 in
          let other = not_true (is_assigned default count rs c.table && is_one_of (constants default rs) c.table) whole in
          let both : (is_assigned default count rs c.table && is_one_of (constants default rs) c.table) ≡ true = ap (λ b. b && is_one_of (constants default rs) c.table) h ∙ there' in
          let no : ⊥ = cc in no

      place_export : uses.assigned c.table ≡ true → IsPlaceExport kinds what
      place_export h = by what own.kind own.used (keep.places k r what there is)
        where
          by : (w : Export) → e.kind default rs r ≡ q.kind_of default w → q.export_passes exports w ≡ true → NamesPlace w → IsPlaceExport kinds w
          by (s.exports (s.table i) x) same pass place = let a = at i pass in is_place i a (place_on i a same h)
          by (s.exports (s.register space offset n) x) same pass place = tt
          by (s.exports (s.local y) x) same pass place = tt
          by (s.exports (s.attached i n) x) same pass place = tt
          by (s.exports (s.bit_range space offset n low n') x) same pass place = absurd place
          by (s.exports (s.value i) x) same pass place = absurd place
          by (s.exports s.start x) same pass place = absurd place
          by (s.exports s.next x) same pass place = absurd place
          by (s.exports (s.integer v) x) same pass place = absurd place
          by (s.exports_constant n t x) same pass place = absurd (no_constant h same)
          by (s.exports_memory space n t x) same pass place = tt

    is_used : IsUsed t rs (all.rows t cs) last r
    is_used = record {
      uses = uses_tables;
      assigns = all_assigned (q.assigned r.1) (assigned_pass exports r.1 used) (λ i h. h);
      target = target_export;
      place = place_export;
    }

pub tables_are_used : TablesAreUsed
tables_are_used t cs sections last k r keep there = is_used t cs sections last keep k r there
