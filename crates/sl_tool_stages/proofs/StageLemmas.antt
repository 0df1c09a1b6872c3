-- Each stage has one result, and it can't be that it has none.
use Rattle.std.proofs.Common.{◌≡◌, ℕ, ◌+◌, ◌^◌, ◌<◌, ◌≤◌, ◌⊎◌, inl, inr, List, Option, Some, None, Result, Ok, Err, refl, sym, ap, subst, ◌∙◌, length, arith}
use Rattle.std.proofs.lemmas.Bool.{cases_lt}
use Rattle.std.specs.Prelude.{IsSome}
use Rattle.sl_ast.specs.Trees.{Item}
use Rattle.sl_bind_compile.specs.Outcomes as outcome
use Rattle.sl_bind_compile.specs.AtTokens.{at_tokens}
use Rattle.sl_bind_compile.proofs.OutcomeLemmas.{compiles_one as outcome_one, some_compiles}
use Rattle.sl_tool_contexts.specs.Words.{starting_context}
use Rattle.sl_decode_meaning.specs.Actions.{address_bytes}
use Rattle.sl_parse_grammar.proofs.Faults.{one_tree}
use Rattle.sl_lex.specs.Faults.{Fault}
use Rattle.sl_lex.specs.Reading.{Token}
use Rattle.sl_lex.specs.Laws.{HasReading}
use Rattle.sl_lex.proofs.OneReading.{one_bad_place, one_reading, reads_well}
use Rattle.sl_lex.proofs.SomeReading.{each_text_reads}
use Rattle.sl_list_instructions.specs.Listing.{Image}
use Rattle.sl_outside.specs.Folder.{Folder, IsTooLong, size_limit}
use Rattle.sl_parse_faults.specs.Causes.{IsFault, Reason}
use Rattle.sl_parse_faults.specs.Laws.{IsSpelled}
use Rattle.sl_parse_faults.proofs.Places.{any_have, faults_are_one, trees_have_none}
use Rattle.sl_preproc.specs.Expanded.{expanded}
use Rattle.sl_tool_request.specs.Requests.{PackedFile, SpecFile, Target, TextFile}
use Rattle.sl_store.proofs.StoreLaws.{file_not_cut, file_not_damaged, has_mark, one_specification, torn, verdicts}
use Rattle.sl_store.specs.Laws.{Verdict, file_of, is_cut, is_damaged, not_packed}
use Rattle.sl_store_bytes.proofs.VerdictLaws.{one_place}
use Rattle.sl_store_format.specs.Packed.{IsPackable, pack}
use Rattle.sl_base_surely.specs.Surely.{Surely}
use Rattle.sl_base_surely.proofs.SurelyLemmas.{surely, surely_map}
use Rattle.sl_spec.specs.declared.tables.Tables as spec
use Rattle.sl_parse_terminals.specs.Symbols.{symbols_of}
use Rattle.sl_tool_stages.specs.Places.{indexes_in}
use Rattle.sl_tool_stages.specs.Problems.{refusal}
use Rattle.sl_tool_stages.specs.Stage.{HasOneResult, HasSomeResult, Then}
use Rattle.sl_tool_stages.specs.Stages.{Compiles, Expands, Tokenizes, Parses, Unpacks, Reads, Fetches, Decodes, Fits, Images, Loads, Readies, Specifies, Starts, decoded, image_in, opened, refused_byte, refused_token, refusal_told, source_of, started, stored_tree}
use Rattle.sl_tool_stages.specs.Stages.Reads.{of_packed, of_text}
use Rattle.sl_tool_stages.specs.Values.{Source, Tokens, InText, Origin, Tree, Compiled, Loaded, compiled, loaded, tokens, tree}
use Rattle.sl_tool_stages.specs.declared.problem.Problem.TheVariants.{Cut, Damaged, NoFile, NotPacked, TooLong}
use Rattle.sl_tool_stages.specs.declared.refusal.Refusal.{Refusal}
use Rattle.sl_tool_stages.proofs.Thens.{err_is, none_is, not_both, ok_is, some_is, then_one, then_some}

-- ---- values by their parts

tokens_is : (k l : Tokens) → k.source ≡ l.source → k.tokens ≡ l.tokens → k ≡ l
tokens_is k l e f = ap (λ (s : Source). tokens s k.tokens) e ∙ ap (λ (ts : List Token). tokens l.source ts) f

tree_is : (t u : Tree) → t.origin ≡ u.origin → t.items ≡ u.items → t ≡ u
tree_is t u e f = ap (λ (o : Origin). tree o t.items) e ∙ ap (λ (xs : List Item). tree u.origin xs) f

loaded_is : (i j : Loaded) → i.compiled ≡ j.compiled → i.image ≡ j.image → i ≡ j
loaded_is i j e f = ap (λ (c : Compiled). loaded c i.image) e ∙ ap (λ (x : Image). loaded j.compiled x) f

-- ---- 1: expansions

expands_one : (folder : Folder) → HasOneResult (Expands (Some folder))
expands_one folder name r q h g = h ∙ sym g

expands_some : (told : Option Folder) (name : List ℕ) → HasSomeResult (Expands told) name
expands_some (Some folder) name = surely (let p : (r : Result Source Refusal) × Expands (Some folder) name r = (source_of name (expanded folder name), refl) in p)
expands_some None name = surely (let p : (r : Result Source Refusal) × Expands None name r = (Err (refusal name 0 NoFile), tt) in p)

-- ---- 2: tokens

tokenizes_one : HasOneResult Tokenizes
tokenizes_one s (Ok k) (Ok l) h g = ap Ok (tokens_is k l (h.0 ∙ sym g.0) (one_reading s.text.bytes k.tokens l.tokens h.1 g.1))
tokenizes_one s (Ok k) (Err x) h g = absurd (reads_well s.text.bytes k.tokens g.0 g.1 h.1 g.2)
tokenizes_one s (Err x) (Ok k) h g = absurd (reads_well s.text.bytes k.tokens h.0 h.1 g.1 h.2)
tokenizes_one s (Err x) (Err y) h g =
    let one = one_bad_place s.text.bytes h.0 g.0 h.1 g.1 h.2 g.2 in
    ap Err (h.3 ∙ ap (λ (f : Fault). refused_byte s f h.1) one.0
    ∙ ap (λ (n : ℕ). refused_byte s g.0 n) one.1 ∙ sym g.3)

tokenizes_by : (s : Source) → HasReading s.text.bytes → (r : Result Tokens Refusal) × Tokenizes s r
tokenizes_by s (inl t) = (Ok (tokens s t.0), (refl, t.1))
tokenizes_by s (inr f) = (Err (refused_byte s f.0 f.1), (f.0, f.1, f.2, refl))

tokenizes_some : (s : Source) → HasSomeResult Tokenizes s
tokenizes_some s = surely (tokenizes_by s (each_text_reads s.text.bytes))

-- ---- 3: trees

parses_one : HasOneResult Parses
parses_one k (Ok t) (Ok u) h g = ap Ok (tree_is t u (h.0 ∙ sym g.0) (one_tree t.items u.items h.2 g.2 (sym h.1 ∙ g.1)))
parses_one k (Ok t) (Err x) h g = absurd (trees_have_none (symbols_of k.tokens) g.0 g.1 (t.items, h.2, sym h.1) g.2)
parses_one k (Err x) (Ok t) h g = absurd (trees_have_none (symbols_of k.tokens) h.0 h.1 (t.items, g.2, sym g.1) h.2)
parses_one k (Err x) (Err y) h g =
    let one = faults_are_one (symbols_of k.tokens) h.0 g.0 h.1 g.1 h.2 g.2 in
    ap Err (h.3 ∙ ap (λ (r : Reason). refused_token k r h.1) one.1
    ∙ ap (λ (n : ℕ). refused_token k g.0 n) one.0 ∙ sym g.3)

parses_by : (k : Tokens) → IsSpelled (symbols_of k.tokens) ⊎ ((reason : Reason) × (index : ℕ) × IsFault (symbols_of k.tokens) reason index) → (r : Result Tree Refusal) × Parses k r
parses_by k (inl t) = (Ok (tree (InText k) t.0), (refl, sym t.2, t.1))
parses_by k (inr f) = (Err (refused_token k f.0 f.1), (f.0, f.1, f.2, refl))

parses_some : (k : Tokens) → HasSomeResult Parses k
parses_some k = surely (parses_by k (any_have (symbols_of k.tokens)))

-- ---- packed files

unpacks_one : (name : List ℕ) → HasOneResult (Unpacks name)
unpacks_one name bytes (Ok t) (Ok u) h g = ap Ok (h.2 ∙ ap stored_tree (one_specification h.0 g.0 bytes h.1 g.1) ∙ sym g.2)
unpacks_one name bytes (Ok t) (Err x) h (inl g) = absurd (g.0 (has_mark h.0 bytes h.1))
unpacks_one name bytes (Ok t) (Err x) h (inr (inl g)) = absurd (file_not_cut h.0 bytes h.1 g.0)
unpacks_one name bytes (Ok t) (Err x) h (inr (inr g)) = absurd (file_not_damaged h.0 bytes g.0 h.1 g.1)
unpacks_one name bytes (Err x) (Ok u) (inl h) g = absurd (h.0 (has_mark g.0 bytes g.1))
unpacks_one name bytes (Err x) (Ok u) (inr (inl h)) g = absurd (file_not_cut g.0 bytes g.1 h.0)
unpacks_one name bytes (Err x) (Ok u) (inr (inr h)) g = absurd (file_not_damaged g.0 bytes h.0 g.1 h.1)
unpacks_one name bytes (Err x) (Err y) (inl h) (inl g) = ap Err (h.1 ∙ sym g.1)
unpacks_one name bytes (Err x) (Err y) (inl h) (inr (inl g)) = absurd (h.0 g.0.0)
unpacks_one name bytes (Err x) (Err y) (inl h) (inr (inr g)) = absurd (h.0 g.1.0)
unpacks_one name bytes (Err x) (Err y) (inr (inl h)) (inl g) = absurd (g.0 h.0.0)
unpacks_one name bytes (Err x) (Err y) (inr (inl h)) (inr (inl g)) = ap Err (h.1 ∙ sym g.1)
unpacks_one name bytes (Err x) (Err y) (inr (inl h)) (inr (inr g)) = absurd (torn bytes g.0 h.0 g.1)
unpacks_one name bytes (Err x) (Err y) (inr (inr h)) (inl g) = absurd (g.0 h.1.0)
unpacks_one name bytes (Err x) (Err y) (inr (inr h)) (inr (inl g)) = absurd (torn bytes h.0 g.0 h.1)
unpacks_one name bytes (Err x) (Err y) (inr (inr h)) (inr (inr g)) =
    ap Err (h.2 ∙ ap (λ (n : ℕ). refusal name 0 (Damaged n)) (one_place pack IsPackable bytes h.0 g.0 h.1.1 g.1.1) ∙ sym g.2)

unpacks_by : (name bytes : List ℕ) → Verdict bytes → (r : Result Tree Refusal) × Unpacks name bytes r
unpacks_by name bytes (not_packed h) = (Err (refusal name 0 NotPacked), inl (h, refl))
unpacks_by name bytes (file_of p h) = (Ok (stored_tree p), (p, h, refl))
unpacks_by name bytes (is_cut h) = (Err (refusal name 0 Cut), inr (inl (h, refl)))
unpacks_by name bytes (is_damaged at h) = (Err (refusal name 0 (Damaged at)), inr (inr (at, h, refl)))

unpacks_some : (name bytes : List ℕ) → HasSomeResult (Unpacks name) bytes
unpacks_some name bytes = surely (unpacks_by name bytes (verdicts bytes))

-- ---- 4: tables

compiled_is : (b c : Compiled) → b.tree ≡ c.tree → b.tables ≡ c.tables → b ≡ c
compiled_is b c e f = ap (λ (t : Tree). compiled t b.tables) e ∙ ap (λ (s : spec.Tables). compiled c.tree s) f

pub compiles_one : HasOneResult Compiles
compiles_one t (Ok b) (Ok c) h g =
    ap Ok (compiled_is b c (h.0 ∙ sym g.0) (ok_is outcome.Refusal b.tables c.tables (outcome_one t.items (Ok b.tables) (Ok c.tables) h.1 g.1)))
compiles_one t (Ok b) (Err x) h g = absurd (not_both g.0 b.tables (outcome_one t.items (Err g.0) (Ok b.tables) g.1 h.1))
compiles_one t (Err x) (Ok b) h g = absurd (not_both h.0 b.tables (outcome_one t.items (Err h.0) (Ok b.tables) h.1 g.1))
compiles_one t (Err x) (Err y) h g =
    ap Err (h.2 ∙ ap (λ (w : outcome.Refusal). refusal_told t.origin (at_tokens (indexes_in t.origin t.items) w))
    (err_is spec.Tables h.0 g.0 (outcome_one t.items (Err h.0) (Err g.0) h.1 g.1)) ∙ sym g.2)

compiles_by : (t : Tree) → (r : outcome.Compilation) × outcome.Compiles t.items r → (r : Result Compiled Refusal) × Compiles t r
compiles_by t (Ok b, h) = (Ok (compiled t b), (refl, h))
compiles_by t (Err why, h) = (Err (refusal_told t.origin (at_tokens (indexes_in t.origin t.items) why)), (why, h, refl))

pub compiles_some : (t : Tree) → HasSomeResult Compiles t
compiles_some t = surely_map (compiles_by t) (some_compiles t.items)

-- ---- 5: images

no_long : (folder : Folder) (name : List ℕ) → folder name ≡ None → IsTooLong (folder name) → ⊥
no_long folder name e h = subst IsTooLong e h

held_long : (folder : Folder) (name bytes : List ℕ) → folder name ≡ Some bytes → length bytes ≤ size_limit → IsTooLong (folder name) → ⊥
held_long folder name bytes e within h =
    let more : size_limit < length bytes = subst IsTooLong e h in
    absurd (omega (arith, within, more))

fetches_one : (folder : Folder) → HasOneResult (Fetches (Some folder))
fetches_one folder name (Ok xs) (Ok ys) h g = ap Ok (some_is xs ys (sym h.0 ∙ g.0))
fetches_one folder name (Ok xs) (Err x) h (inl g) = absurd (none_is xs (sym g.0 ∙ h.0))
fetches_one folder name (Ok xs) (Err x) h (inr g) = absurd (held_long folder name xs h.0 h.1 g.0)
fetches_one folder name (Err x) (Ok ys) (inl h) g = absurd (none_is ys (sym h.0 ∙ g.0))
fetches_one folder name (Err x) (Ok ys) (inr h) g = absurd (held_long folder name ys g.0 g.1 h.0)
fetches_one folder name (Err x) (Err y) (inl h) (inl g) = ap Err (h.1 ∙ sym g.1)
fetches_one folder name (Err x) (Err y) (inr h) (inr g) = ap Err (h.1 ∙ sym g.1)
fetches_one folder name (Err x) (Err y) (inl h) (inr g) = absurd (no_long folder name h.0 g.0)
fetches_one folder name (Err x) (Err y) (inr h) (inl g) = absurd (no_long folder name g.0 h.0)

abbrev Fetched : Option Folder → List ℕ → Type 0
Fetched told name = (r : Result (List ℕ) Refusal) × Fetches told name r

held_by : (folder : Folder) (name bytes : List ℕ) → folder name ≡ Some bytes → (size_limit < length bytes) ⊎ (length bytes ≤ size_limit) → Fetched (Some folder) name
held_by folder name bytes e (inl long) = (Err (refusal name 0 TooLong), inr (subst IsTooLong (sym e) long, refl))
held_by folder name bytes e (inr within) = (Ok bytes, (e, within))

held : (folder : Folder) (name : List ℕ) (o : Option (List ℕ)) → folder name ≡ o → Fetched (Some folder) name
held folder name None e = (Err (refusal name 0 NoFile), inl (e, refl))
held folder name (Some bytes) e = held_by folder name bytes e (cases_lt size_limit (length bytes))

fetches_by : (told : Option Folder) (name : List ℕ) → Fetched told name
fetches_by None name = (Err (refusal name 0 NoFile), inl (tt, refl))
fetches_by (Some folder) name = held folder name (folder name) refl

pub fetches_some : (told : Option Folder) (name : List ℕ) → HasSomeResult (Fetches told) name
fetches_some told name = surely (fetches_by told name)

pub fetches_told : (told : Option Folder) → IsSome told → HasOneResult (Fetches told)
fetches_told None is = absurd (let no : ⊥ = cc in no)
fetches_told (Some folder) is = fetches_one folder

decodes_one : (t : Target) → HasOneResult (Decodes t)
decodes_one t bytes r q h g = h ∙ sym g

decodes_some : (t : Target) (bytes : List ℕ) → HasSomeResult (Decodes t) bytes
decodes_some t bytes = surely (let p : (r : Result (List ℕ) Refusal) × Decodes t bytes r = (decoded t.image (image_in t.is_hex bytes), refl) in p)

fits_one : (addresses : ℕ) (t : Target) → HasOneResult (Fits addresses t)
fits_one addresses t image (Ok xs) (Ok ys) h g = ap Ok (h.0 ∙ sym g.0)
fits_one addresses t image (Ok xs) (Err x) h g = absurd (g.0 h.1)
fits_one addresses t image (Err x) (Ok ys) h g = absurd (h.0 g.1)
fits_one addresses t image (Err x) (Err y) h g = ap Err (h.1 ∙ sym g.1)

fits_by : (addresses : ℕ) (t : Target) (image : List ℕ) → (base : (addresses ≤ t.base) ⊎ (t.base < addresses)) → (end : (addresses < t.base + length image) ⊎ (t.base + length image ≤ addresses))
    → (r : Result (List ℕ) Refusal) × Fits addresses t image r
fits_by addresses t image (inr begins) (inr ends) = (Ok image, (refl, record { begins = begins; ends = ends }))
fits_by addresses t image (inl past) end = (Err (refusal t.image 0 TooLong), (λ room. omega (arith, past, room.begins), refl))
fits_by addresses t image (inr begins) (inl past) = (Err (refusal t.image 0 TooLong), (λ room. omega (arith, past, room.ends), refl))

base_by : (addresses base : ℕ) → (addresses ≤ base) ⊎ (base < addresses)
base_by addresses base = elim (cases_lt base addresses) [
  | inl less ↦ inr less
  | inr most ↦ inl most
]

fits_some : (addresses : ℕ) (t : Target) (image : List ℕ) → HasSomeResult (Fits addresses t) image
fits_some addresses t image = surely (fits_by addresses t image (base_by addresses t.base) (cases_lt addresses (t.base + length image)))

images_one : (folder : Folder) (addresses : ℕ) (t : Target) → HasOneResult (Images (Some folder) addresses t)
images_one folder addresses t = then_one _ _ (fetches_one folder) (then_one _ _ (decodes_one t) (fits_one addresses t))

images_some : (told : Option Folder) (addresses : ℕ) (t : Target) → HasSomeResult (Images told addresses t) t.image
images_some told addresses t =
    then_some _ _ t.image (fetches_some told t.image) (λ bytes h.
    then_some _ _ bytes (decodes_some t bytes) (λ image i. fits_some addresses t image))

starts_one : (tables : spec.Tables) (t : Target) → HasOneResult (Starts tables t)
starts_one tables t bytes r q h g = h ∙ sym g

starts_some : (tables : spec.Tables) (t : Target) (bytes : List ℕ) → HasSomeResult (Starts tables t) bytes
starts_some tables t bytes = surely (let p : (r : Result Image Refusal) × Starts tables t bytes r = (started bytes t.base (opened (starting_context tables t.context)), refl) in p)

readies_one : (folder : Folder) (t : Target) (b : spec.Tables) (r q : Result Image Refusal) → Readies (Some folder) t b r → Readies (Some folder) t b q → r ≡ q
readies_one folder t b = then_one _ _ (images_one folder (256 ^ address_bytes b) t) (starts_one b t) t.image

readies_some : (told : Option Folder) (t : Target) (b : spec.Tables) → Surely ((r : Result Image Refusal) × Readies told t b r)
readies_some told t b = then_some _ _ t.image (images_some told (256 ^ address_bytes b) t) (λ bytes h. starts_some b t bytes)

loads_one : (folder : Folder) (t : Target) → HasOneResult (Loads (Some folder) t)
loads_one folder t c (Ok i) (Ok j) h g =
    ap Ok (loaded_is i j (h.0 ∙ sym g.0) (ok_is Refusal i.image j.image (readies_one folder t c.tables _ _ h.1 g.1)))
loads_one folder t c (Ok i) (Err x) h g = absurd (not_both x i.image (readies_one folder t c.tables _ _ g h.1))
loads_one folder t c (Err x) (Ok i) h g = absurd (not_both x i.image (readies_one folder t c.tables _ _ h g.1))
loads_one folder t c (Err x) (Err y) h g = ap Err (err_is Image x y (readies_one folder t c.tables _ _ h g))

loads_by : (told : Option Folder) (t : Target) (c : Compiled) → (r : Result Image Refusal) × Readies told t c.tables r → (r : Result Loaded Refusal) × Loads told t c r
loads_by told t c (Ok image, h) = (Ok (loaded c image), (refl, h))
loads_by told t c (Err x, h) = (Err x, h)

pub loads_some : (told : Option Folder) (t : Target) (c : Compiled) → HasSomeResult (Loads told t) c
loads_some told t c = surely_map (loads_by told t c) (readies_some told t c.tables)

-- ---- several stages

pub reads_one : (folder : Folder) → HasOneResult (Reads (Some folder))
reads_one folder (TextFile name) r q (of_text h) (of_text g) = then_one _ _ (expands_one folder) (then_one _ _ tokenizes_one parses_one) name r q h g
reads_one folder (PackedFile name) r q (of_packed h) (of_packed g) = then_one _ _ (fetches_one folder) (unpacks_one name) name r q h g

text_some : (told : Option Folder) (name : List ℕ) → HasSomeResult (Then (Expands told) (Then Tokenizes Parses)) name
text_some told name =
    then_some _ _ name (expands_some told name) (λ s h.
    then_some _ _ s (tokenizes_some s) (λ k i. parses_some k))

packed_some : (told : Option Folder) (name : List ℕ) → HasSomeResult (Then (Fetches told) (Unpacks name)) name
packed_some told name = then_some _ _ name (fetches_some told name) (λ bytes h. unpacks_some name bytes)

pub reads_some : (told : Option Folder) (file : SpecFile) → HasSomeResult (Reads told) file
reads_some told (TextFile name) =
    surely_map (λ (p : (r : Result Tree Refusal) × Then (Expands told) (Then Tokenizes Parses) name r).
    let q : (r : Result Tree Refusal) × Reads told (TextFile name) r = (p.0, of_text p.1) in q) (text_some told name)
reads_some told (PackedFile name) =
    surely_map (λ (p : (r : Result Tree Refusal) × Then (Fetches told) (Unpacks name) name r).
    let q : (r : Result Tree Refusal) × Reads told (PackedFile name) r = (p.0, of_packed p.1) in q) (packed_some told name)

pub specifies_one : (folder : Folder) → HasOneResult (Specifies (Some folder))
specifies_one folder = then_one _ _ (reads_one folder) compiles_one

pub specifies_some : (told : Option Folder) (file : SpecFile) → HasSomeResult (Specifies told) file
specifies_some told file = then_some _ _ file (reads_some told file) (λ u h. compiles_some u)

-- ---- of a folder that is told

pub loads_told : (told : Option Folder) (t : Target) → IsSome told → HasOneResult (Loads told t)
loads_told None t is = absurd (let no : ⊥ = cc in no)
loads_told (Some folder) t is = loads_one folder t

pub specifies_told : (told : Option Folder) → IsSome told → HasOneResult (Specifies told)
specifies_told None is = absurd (let no : ⊥ = cc in no)
specifies_told (Some folder) is = specifies_one folder
