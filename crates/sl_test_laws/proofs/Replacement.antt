-- Pieces of texts, and what they are replaced by.
use Rattle.std.proofs.Common.{◌≡◌, ℕ, zero, suc, ◌+◌, ◌≤◌, ◌==◌, ◌⊎◌, inl, inr, Bool, true, false, cond, List, [], ◌∷◌, ◌++◌, length, take, drop, Option, None, Some, Ok, Err, refl, ap, sym, ◌∙◌, subst, arith, append_assoc, length-append}
use Rattle.std.proofs.lemmas.Bool.{eqb-true}
use Rattle.std.proofs.lemmas.List.{take-append-drop}
use Rattle.std.specs.List.{prefix_len}
use Rattle.sl_preproc_directives.specs.Bytes.{is_name_byte}
use Rattle.sl_preproc_directives.specs.Definitions.{Values}
use Rattle.sl_preproc_directives.specs.Outcomes.{◌>>◌}
use Rattle.sl_preproc_directives.specs.Parts.{Part, ◌>>=◌, begins_with_letter, byte_at, name_at}
use Rattle.sl_preproc_directives.specs.Replacement.{Page, Written, Piece, Byte, Name, all_pieces, name_or_byte, piece_by, pieces, put, put_all, reference_at, value_or_stays, write_name, write_pieces}
use Rattle.sl_preproc_directives.specs.declared.fault.Cause.TheVariants.{ReplaceDepth}
use Rattle.sl_test_laws.specs.Replacement.{HasNoName, LevelsOnlyRefuse, PiecesAreTheText, TextsWithoutNamesStay, joined}

-- ---- parts at the front

-- a step that gives something, and the one before it
bound : {A B : Type 0} (o : Option A) (go : A → Option B) (y : B) → (o >>= go) ≡ Some y → (x : A) × (o ≡ Some x) × (go x ≡ Some y)
bound (Some x) go y e = (x, refl, e)
bound None go y e = absurd (cc)

byte_by : (b byte : ℕ) (s rest : List ℕ) (t : Bool) → (b == byte) ≡ t → cond {A = Option (List ℕ)} t (Some s) None ≡ Some rest → b ∷ s ≡ byte ∷ rest
byte_by b byte s rest true is e = let same : b ≡ byte = eqb-true b byte is in let later : s ≡ rest = cc in cc
byte_by b byte s rest false is e = absurd (cc)

byte_is : (byte : ℕ) (s rest : List ℕ) → byte_at byte s ≡ Some rest → s ≡ byte ∷ rest
byte_is byte [] rest e = absurd (cc)
byte_is byte (b ∷ s) rest e = byte_by b byte s rest (b == byte) refl e

first_or : Part → List ℕ
first_or (Some p) = p.0
first_or None = []

second_or : Part → List ℕ
second_or (Some p) = p.1
second_or None = []

name_by : (t : Bool) (s name rest : List ℕ) → cond {A = Part} t (Some (take (prefix_len is_name_byte s) s, drop (prefix_len is_name_byte s) s)) None ≡ Some (name, rest) → s ≡ name ++ rest
unfolding first_or second_or
name_by true s name rest e =
    let first : take (prefix_len is_name_byte s) s ≡ name = ap first_or e in
    let second : drop (prefix_len is_name_byte s) s ≡ rest = ap second_or e in
    sym (take-append-drop (prefix_len is_name_byte s) s) ∙ ap (λ xs. xs ++ drop (prefix_len is_name_byte s) s) first ∙ ap (λ xs. name ++ xs) second
name_by false s name rest e = absurd (cc)

name_is : (s name rest : List ℕ) → name_at s ≡ Some (name, rest) → s ≡ name ++ rest
unfolding name_at
name_is s name rest e = name_by (begins_with_letter s) s name rest e

-- `$(NAME)` at the front
reference_is : (s name rest : List ℕ) → reference_at s ≡ Some (name, rest) → s ≡ 36 ∷ 40 ∷ (name ++ 41 ∷ rest)
unfolding reference_at first_or second_or
reference_is s name rest e =
    let a = bound (byte_at 36 s) _ (name, rest) e in
    let b = bound (byte_at 40 a.0) _ (name, rest) a.2 in
    let n = bound (name_at b.0) _ (name, rest) b.2 in
    let c = bound (byte_at 41 n.0.1) _ (name, rest) n.2 in
    let same : n.0.0 ≡ name = ap first_or c.2 in
    let last : c.0 ≡ rest = ap second_or c.2 in
    byte_is 36 s a.0 a.1
    ∙ ap (λ xs. 36 ∷ xs) (byte_is 40 a.0 b.0 b.1)
    ∙ ap (λ xs. 36 ∷ 40 ∷ xs) (name_is b.0 n.0.0 n.0.1 n.1)
    ∙ ap (λ xs. 36 ∷ 40 ∷ (xs ++ n.0.1)) same
    ∙ ap (λ xs. 36 ∷ 40 ∷ (name ++ xs)) (byte_is 41 n.0.1 c.0 c.1 ∙ ap (λ xs. 41 ∷ xs) last)

-- ---- pieces

first_joined : (most b : ℕ) (s : List ℕ) → length s ≤ most → ((r : List ℕ) → length r ≤ most → joined (pieces most r) ≡ r) → (o : Part) → reference_at (b ∷ s) ≡ o
    → joined ((name_or_byte b s o).0 ∷ pieces most (name_or_byte b s o).1) ≡ b ∷ s
first_joined most b s less again (Some r) e =
    let is = reference_is (b ∷ s) r.0 r.1 e in
    let long = ap length is in
    let sum = length-append r.0 (41 ∷ r.1) in
    ap (λ xs. (36 ∷ 40 ∷ (r.0 ++ 41 ∷ [])) ++ xs) (again r.1 (omega (arith, less, long, sum)))
    ∙ ap (λ xs. 36 ∷ 40 ∷ xs) (append_assoc r.0 (41 ∷ []) r.1) ∙ sym is
first_joined most b s less again None e = ap (λ xs. b ∷ xs) (again s less)

pieces_joined : (most : ℕ) (s : List ℕ) → length s ≤ most → joined (pieces most s) ≡ s
unfolding pieces
pieces_joined zero [] less = refl
pieces_joined zero (b ∷ s) less = absurd (omega arith)
pieces_joined (suc most) [] less = refl
pieces_joined (suc most) (b ∷ s) less = first_joined most b s (omega arith) (pieces_joined most) (reference_at (b ∷ s)) refl

pub pieces_are : PiecesAreTheText
pieces_are text = pieces_joined (length text) text (omega arith)

-- ---- texts without names

then_same : (r : Written) (f g : Page → Written) → ((page : Page) → f page ≡ g page) → (r >> f) ≡ (r >> g)
then_same (Ok page) f g h = h page
then_same (Err cause) f g h = refl

no_name_behind : (b : ℕ) (s : List ℕ) → HasNoName (b ∷ s) → HasNoName s
no_name_behind b s none before after e = none (b ∷ before) after (ap (λ xs. b ∷ xs) e)

-- the rest of a text that has none is written as it is
abbrev PutAlike : ℕ → (List ℕ → Page → Written) → Type 0
PutAlike most named = (s : List ℕ) (page : Page) → length s ≤ most → HasNoName s → write_pieces named (pieces most s) page ≡ put_all s page

first_put : (most : ℕ) (named : List ℕ → Page → Written) (b : ℕ) (s : List ℕ) (page : Page) → length s ≤ most → HasNoName (b ∷ s) → PutAlike most named → (o : Part) → reference_at (b ∷ s) ≡ o
    → (piece_by named (name_or_byte b s o).0 page >> write_pieces named (pieces most (name_or_byte b s o).1)) ≡ (put b page >> put_all s)
first_put most named b s page less none again (Some r) e = absurd (none [] (r.0 ++ 41 ∷ r.1) (reference_is (b ∷ s) r.0 r.1 e))
first_put most named b s page less none again None e =
    then_same (put b page) (write_pieces named (pieces most s)) (put_all s) (λ p. again s p less (no_name_behind b s none))

pieces_put : (most : ℕ) (named : List ℕ → Page → Written) → PutAlike most named
unfolding pieces write_pieces put_all
pieces_put zero named [] page less none = refl
pieces_put zero named (b ∷ s) page less none = absurd (omega arith)
pieces_put (suc most) named [] page less none = refl
pieces_put (suc most) named (b ∷ s) page less none = first_put most named b s page (omega arith) none (pieces_put most named) (reference_at (b ∷ s)) refl

pub stays_as_it_is : TextsWithoutNamesStay
stays_as_it_is left defs text page none = pieces_put (length text) (write_name left defs) text page (omega arith) none

-- ---- levels

-- the first was refused for want of levels, or the second is the same
abbrev Same : Written → Written → Type 0
Same o p = (o ≡ Err ReplaceDepth) ⊎ (p ≡ o)

same_then : (o p : Written) (f g : Page → Written) → Same o p → ((page : Page) → Same (f page) (g page)) → Same (o >> f) (p >> g)
same_then o p f g (inl e) later = inl (ap (λ r. r >> f) e)
same_then o p f g (inr e) later = subst (λ q. Same (o >> f) (q >> g)) (sym e) (by_outcome o)
  where
    by_outcome : (r : Written) → Same (r >> f) (r >> g)
    by_outcome (Ok page) = later page
    by_outcome (Err cause) = inr refl

same_piece : (f g : List ℕ → Page → Written) → ((name : List ℕ) (page : Page) → Same (f name page) (g name page)) → (piece : Piece) (page : Page) → Same (piece_by f piece page) (piece_by g piece page)
same_piece f g names (Byte b) page = inr refl
same_piece f g names (Name name) page = names name page

same_pieces : (f g : List ℕ → Page → Written) → ((name : List ℕ) (page : Page) → Same (f name page) (g name page)) → (ps : List Piece) (page : Page) → Same (write_pieces f ps page) (write_pieces g ps page)
unfolding write_pieces
same_pieces f g names [] page = inr refl
same_pieces f g names (p ∷ ps) page = same_then _ _ _ _ (same_piece f g names p page) (same_pieces f g names ps)

same_value : (f g : List ℕ → Page → Written) → ((name : List ℕ) (page : Page) → Same (f name page) (g name page)) → (name : List ℕ) (page : Page) (o : Option (List ℕ))
    → Same (value_or_stays f name page o) (value_or_stays g name page o)
same_value f g names name page (Some value) = same_pieces f g names (all_pieces value) page
same_value f g names name page None = inr refl

same_name : (left more : ℕ) (defs : Values) (name : List ℕ) (page : Page) → Same (write_name left defs name page) (write_name (more + left) defs name page)
unfolding write_name
same_name zero more defs name page = inl refl
same_name (suc left) more defs name page =
    let e : suc (more + left) ≡ more + suc left = omega arith in
    subst (λ n. Same (write_name (suc left) defs name page) (write_name n defs name page)) e
    (same_value (write_name left defs) (write_name (more + left) defs) (same_name left more defs) name page (defs name))

pub levels_refuse : LevelsOnlyRefuse
levels_refuse left more defs text page = same_pieces (write_name left defs) (write_name (more + left) defs) (same_name left more defs) (all_pieces text) page
