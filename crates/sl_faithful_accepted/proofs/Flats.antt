-- The flat sections of a text, constructor by constructor: each is there, is that of what is written, exports where
-- that does, and has no more size variables than rule 38 lets it weigh.
use Rattle.std.proofs.Common.{◌≡◌, ℕ, zero, suc, ◌+◌, ◌≤◌, true, ◌||◌, List, [], ◌∷◌, ◌++◌, length, map}
use Rattle.std.proofs.Common.{slice_get, Some, refl, ap, subst, length-append, arith}
use Rattle.std.specs.Prelude.{fold}
use Rattle.std.specs.List.{Contains, list_any, zip}
use Rattle.std.proofs.lemmas.List.{length-map}
use Rattle.std.proofs.lemmas.Slice.Zip.{length-zip}
use Rattle.sl_ast.specs.Trees as ast
use Rattle.sl_ast.specs.Trees.{Constructor, Item, Section, Statement, statements, unimplemented}
use Rattle.sl_ast.specs.Unfolding.{Placed, unfolded}
use Rattle.sl_section_exports.specs.Exports.{does_export, is_export}
use Rattle.sl_section_all.specs.FlatSections.{Flat, flat_section, flat_sections, row_section}
use Rattle.sl_section_all.specs.Scopes.{Scopes, behind_item, behind_items, nothing_defined, scopes_of}
use Rattle.sl_section_resolve.specs.Macros.{Body}
use Rattle.sl_section_resolve.specs.Steps.{Calls, after, all_taken, calls_of, exported, opening, taken, unplaced, with_built}
use Rattle.sl_section_terms.specs.declared.reach.Reach.{Reach}
use Rattle.sl_section_resolve.specs.declared.state.State.{State}
use Rattle.sl_section_flat.specs.Sections as s
use Rattle.sl_section_flat.specs.Sections.{Export, Step}
use Rattle.sl_faithful_limits.proofs.StepParts.{parts_take_tokens}
use Rattle.sl_faithful_sections.specs.SoundLaws.{HasExport}
use Rattle.sl_spec.specs.Tables.{Ctor, Operand}
use Rattle.sl_spec.specs.ConstructorItems.{constructor_at, constructors_in}
use Rattle.sl_spec.specs.declared.tables.Tables.{Tables}
use Rattle.sl_spec_tables.specs.Rows.{Row, rows}
use Rattle.sl_spec_tables.proofs.RowLemmas.{zipped}
use Rattle.sl_faithful_limits.proofs.Limits.{row_light}
use Rattle.sl_faithful_limits.specs.TreeLaws.{KeepLimits}
use Rattle.sl_section_weights.specs.Weights.{macro_weights, section_weight}

-- ---- what is there

-- both sides of a pair at a place
pub unzipped : {X Y : Type 0} (xs : List X) (ys : List Y) (k : ℕ) (r : X × Y) → slice_get (zip xs ys) k ≡ Some r
    → (slice_get xs k ≡ Some r.0) × (slice_get ys k ≡ Some r.1)
unzipped [] ys k r e = absurd (let no : ⊥ = cc in no)
unzipped (a ∷ xs) [] k r e = absurd (let no : ⊥ = cc in no)
unzipped (a ∷ xs) (b ∷ ys) zero r e =
    let same : (a, b) ≡ r = cc in
    (ap (λ z. Some z.0) same, ap (λ z. Some z.1) same)
unzipped (a ∷ xs) (b ∷ ys) (suc k) r e = unzipped xs ys k r e

-- what is mapped to what stands at a place
pub of_map : {X Y : Type 0} (f : X → Y) (xs : List X) (k : ℕ) (y : Y) → slice_get (map f xs) k ≡ Some y
    → (x : X) × (slice_get xs k ≡ Some x) × (f x ≡ y)
of_map f [] k y e = absurd (let no : ⊥ = cc in no)
of_map f (x ∷ xs) zero y e = (x, refl, cc)
of_map f (x ∷ xs) (suc k) y e = of_map f xs k y e

-- a member at its place
pub placed_at : {X : Type 0} (xs : List X) (x : X) → Contains xs x → (k : ℕ) × (slice_get xs k ≡ Some x)
placed_at [] x (k, inside, here) = absurd (let no : ⊥ = omega (arith, inside) in no)
placed_at (y ∷ xs) x (zero, inside, here) = (0, ap Some here)
placed_at (y ∷ xs) x (suc k, inside, here) = let r = placed_at xs x (k, omega (arith, inside), here) in (suc r.0, r.1)

-- ---- what is defined before each constructor is told

one_reach : (z : Scopes) (n : ℕ) (item : Item)
    → length (behind_item z item).reaches ≡ length z.reaches + length (constructor_at n item)
one_reach z n (ast.define d) = omega arith
one_reach z n (ast.macro m) = omega arith
one_reach z n (ast.constructor c) = length-append z.reaches (z.reach ∷ [])
one_reach z n (ast.attach_list kind names members) = omega arith
one_reach z n (ast.attach_one kind names member) = omega arith
one_reach z n (ast.block h inside) = omega arith

all_reaches : (z : Scopes) (items : List (Placed Item))
    → length (behind_items z items).reaches ≡ length z.reaches + length (constructors_in items)
unfolding constructors_in
all_reaches z [] = omega arith
all_reaches z (x ∷ items) =
    let rest = all_reaches (behind_item z x.1) items in
    let here = one_reach z x.0 x.1 in
    omega (arith, rest, here, length-append (constructor_at x.0 x.1) (constructors_in items))

reaches_long : (items : List Item) → length (scopes_of items).reaches ≡ length (constructors_in (unfolded items))
unfolding scopes_of
reaches_long items = let h = all_reaches nothing_defined (unfolded items) in omega (arith, h)

-- ---- each flat section is that of a constructor

pub ctor_of : (t : Tables) (z : Scopes) (cs : List (Placed Constructor)) (number : ℕ) (f : Flat)
    → slice_get (flat_sections t z cs) number ≡ Some f
    → (c : Ctor) × (slice_get t.constructors number ≡ Some c)
unfolding flat_sections
ctor_of t z cs number f is =
    let row = of_map (row_section t z.macros) (zip (rows t cs) z.reaches) number f is in
    let first = unzipped (rows t cs) z.reaches number row.0 row.1 in
    (row.0.0.0, (unzipped t.constructors cs number row.0.0 first.0).0)

-- ---- each constructor has a flat section

pub flats_long : (items : List Item) (t : Tables) → length t.constructors ≡ length (constructors_in (unfolded items))
    → length t.constructors ≤ length (flat_sections t (scopes_of items) (constructors_in (unfolded items)))
unfolding flat_sections
flats_long items t counted =
    let z = scopes_of items in
    let cs = constructors_in (unfolded items) in
    let long = length-map (zip (rows t cs) z.reaches) (row_section t z.macros) in
    let outer = length-zip (rows t cs) z.reaches in
    let inner = length-zip t.constructors cs in
    let reaches = reaches_long items in
    omega (arith, counted, long, outer, inner, reaches)

-- It is that of what is written, by what is defined before it.
pub record IsFlatOf (t : Tables) (macros : List Body) (cs : List (Placed Constructor)) (number : ℕ) (c : Ctor)
    (f : Flat) : Type 0 where
  pub written : Placed Constructor
  pub there : slice_get cs number ≡ Some written
  pub reach : Reach
  pub is : flat_section t macros reach c.operands written.1.section ≡ f

pub flat_at : (t : Tables) (z : Scopes) (cs : List (Placed Constructor)) (number : ℕ) (c : Ctor) (f : Flat)
    → slice_get t.constructors number ≡ Some c
    → slice_get (flat_sections t z cs) number ≡ Some f → IsFlatOf t z.macros cs number c f
unfolding flat_sections
flat_at t z cs number c f there is = at t.constructors cs z.reaches number there is
  where
    at : (ctors : List Ctor) (ps : List (Placed Constructor)) (reaches : List Reach) (k : ℕ)
        → slice_get ctors k ≡ Some c
        → slice_get (map (row_section t z.macros) (zip (zip ctors ps) reaches)) k ≡ Some f
        → IsFlatOf t z.macros ps k c f
    at [] ps reaches k e e' = absurd (let no : ⊥ = cc in no)
    at (x ∷ ctors) [] reaches k e e' = absurd (let no : ⊥ = cc in no)
    at (x ∷ ctors) (p ∷ ps) [] k e e' = absurd (let no : ⊥ = cc in no)
    at (x ∷ ctors) (p ∷ ps) (r ∷ reaches) zero e e' =
        let same : x ≡ c = cc in
        let here : flat_section t z.macros r x.operands p.1.section ≡ f = cc in
        let its = subst (λ (y : Ctor). flat_section t z.macros r y.operands p.1.section ≡ f) same here in
        record { written = p; there = refl; reach = r; is = its }
    at (x ∷ ctors) (p ∷ ps) (r ∷ reaches) (suc k) e e' =
        let h = at ctors ps reaches k e e' in
        record { written = h.written; there = h.there; reach = h.reach; is = h.is }

-- ---- it exports where what is written does

further : (x : Step) (ss : List Step) → HasExport ss → HasExport (x ∷ ss)
further (s.declare x k) ss h = record { what = h.what; is = h.is }
further (s.set a e) ss h = record { what = h.what; is = h.is }
further (s.set_bits a l c e) ss h = record { what = h.what; is = h.is }
further (s.store p k e x v) ss h = record { what = h.what; is = h.is }
further (s.run_user u es) ss h = record { what = h.what; is = h.is }
further (s.build i) ss h = record { what = h.what; is = h.is }
further (s.label l) ss h = record { what = h.what; is = h.is }
further (s.branch to) ss h = record { what = h.what; is = h.is }
further (s.branch_if e to) ss h = record { what = h.what; is = h.is }
further (s.branch_to e) ss h = record { what = h.what; is = h.is }
further (s.call a) ss h = record { what = h.what; is = h.is }
further (s.call_to e) ss h = record { what = h.what; is = h.is }
further (s.return e) ss h = record { what = h.what; is = h.is }
further (s.export w) ss h = record { what = w; is = refl }

behind : (before ss : List Step) → HasExport ss → HasExport (before ++ ss)
behind [] ss h = h
behind (x ∷ before) ss h = further x (before ++ ss) (behind before ss h)

module _ (t : Tables) (c : Calls) where
  rest_exports : (x : Statement) (body : List Statement) (st : State) → HasExport (all_taken t c (after t c st x) body)
      → HasExport (taken t c st x ++ all_taken t c (after t c st x) body)
  rest_exports x body st h = behind (taken t c st x) (all_taken t c (after t c st x) body) h

  taken_exports : (body : List Statement) (st : State) → list_any is_export body ≡ true
      → HasExport (all_taken t c st body)
  taken_exports [] st h = absurd (let no : ⊥ = cc in no)
  taken_exports (x ∷ body) st h = by x h (taken_exports body (after t c st x))
    where
      by : (x : Statement) → (is_export x || list_any is_export body) ≡ true
          → (list_any is_export body ≡ true → HasExport (all_taken t c (after t c st x) body))
          → HasExport (taken t c st x ++ all_taken t c (after t c st x) body)
      by (ast.local w size value) h later = rest_exports (ast.local w size value) body st (later h)
      by (ast.declare w n e) h later = rest_exports (ast.declare w n e) body st (later h)
      by (ast.assign left e) h later = rest_exports (ast.assign left e) body st (later h)
      by (ast.goto to) h later = rest_exports (ast.goto to) body st (later h)
      by (ast.branch e to) h later = rest_exports (ast.branch e to) body st (later h)
      by (ast.call_to to) h later = rest_exports (ast.call_to to) body st (later h)
      by (ast.return e) h later = rest_exports (ast.return e) body st (later h)
      by (ast.build w) h later = rest_exports (ast.build w) body st (later h)
      by (ast.export what) h later = record { what = exported t st what; is = refl }
      by (ast.invoke w es) h later = rest_exports (ast.invoke w es) body st (later h)
      by (ast.label w) h later = rest_exports (ast.label w) body st (later h)

pub flat_exports : (t : Tables) (macros : List Body) (reach : Reach) (os : List Operand) (sec : Section)
    → does_export sec ≡ true
    → HasExport (flat_section t macros reach os sec).steps
flat_exports t macros reach os (statements body) h =
    let c = calls_of t macros reach.macros in
    behind (unplaced (fold with_built [] body) 0 os) (all_taken t c (opening t reach os) body)
    (taken_exports t c body (opening t reach os) h)
flat_exports t macros reach os unimplemented h = absurd (let no : ⊥ = cc in no)

-- ---- it has few size variables

variables_within : (t : Tables) (macros : List Body) (reach : Reach) (os : List Operand) (sec : Section)
    → (flat_section t macros reach os sec).variables ≤ section_weight macros (macro_weights macros) sec
variables_within t macros reach os (statements body) = (parts_take_tokens t macros reach os body).variables
variables_within t macros reach os unimplemented = omega arith

pub variables_few : (t : Tables) (z : Scopes) (cs : List (Placed Constructor)) → KeepLimits t cs z.macros
    → (number : ℕ) (c : Ctor) (f : Flat)
    → slice_get t.constructors number ≡ Some c → slice_get (flat_sections t z cs) number ≡ Some f → f.variables ≤ 65536
variables_few t z cs keep number c f there is =
    let of = flat_at t z cs number c f there is in
    let r : Row = (c, of.written) in
    let light = row_light t cs z.macros keep number r (zipped t.constructors cs number c of.written there of.there) in
    let within = variables_within t z.macros of.reach c.operands of.written.1.section in
    let same : (flat_section t z.macros of.reach c.operands of.written.1.section).variables ≡ f.variables =
    ap (λ (g : Flat). g.variables) of.is in
    omega (arith, light, within, same)
