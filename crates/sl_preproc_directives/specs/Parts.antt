-- meaning: the parts of a directive: each reader gives the part at the front of the bytes and what stands behind it.
use Rattle.std.specs.Prelude.{◌≡◌, ℕ, ◌==◌, Bool, true, false, List, [], ◌∷◌, length, take, drop, Option, Some, None, if◌then◌else◌}
use Rattle.std.specs.List.{prefix_len}
use Rattle.std.specs.Str.{bytes_eq}
use Rattle.sl_preproc_directives.specs.Bytes.{is_blank, is_letter, is_name_byte, is_inside}

infixl 10 ◌>>=◌
abbrev pub ◌>>=◌ : {A B : Type 0} → Option A → (A → Option B) → Option B
(Some x) >>= f = f x
None >>= f = None

-- What a function returned, seen by view, is what reading gives.
abbrev pub Reads : {X Y : Type 0} → (X → Y) → Option X → Option Y → Type 0
Reads view (Some x) read = read ≡ Some (view x)
Reads view None read = read ≡ None

abbrev pub Part : Type 0
Part = Option (List ℕ × List ℕ)

-- the bytes behind a run of those that pass the test
abbrev pub behind : (ℕ → Bool) → List ℕ → List ℕ
behind test s = drop (prefix_len test s) s

abbrev pub run : (ℕ → Bool) → List ℕ → List ℕ
run test s = take (prefix_len test s) s

abbrev pub skip_blanks : List ℕ → List ℕ
skip_blanks s = behind is_blank s

abbrev pub begins_with_letter : List ℕ → Bool
begins_with_letter [] = false
begins_with_letter (b ∷ s) = is_letter b

-- a name: a letter or `_`, and as many letters, digits and `_` as follow
unfoldable pub name_at : List ℕ → Part
name_at s = if begins_with_letter s then Some (run is_name_byte s, behind is_name_byte s) else None

-- what stands behind this byte at the front
abbrev pub byte_at : ℕ → List ℕ → Option (List ℕ)
byte_at byte [] = None
byte_at byte (b ∷ s) = if b == byte then Some s else None

abbrev pub closed_by : List ℕ → List ℕ → Part
closed_by text [] = None
closed_by text (quote ∷ rest) = Some (text, rest)

abbrev pub opened_by : List ℕ → Part
opened_by [] = None
opened_by (b ∷ s) = if b == 34 then closed_by (run is_inside s) (behind is_inside s) else None

-- a quoted text, without its quotes
unfoldable pub quoted_at : List ℕ → Part
quoted_at s = opened_by s

abbrev pub at_comment : List ℕ → Bool
at_comment [] = true
at_comment (b ∷ s) = b == 35

-- nothing but blanks and a comment
unfoldable pub is_ended : List ℕ → Bool
is_ended s = at_comment (skip_blanks s)

-- what stands behind the blanks and this mark
unfoldable pub mark_at : List ℕ → List ℕ → Option (List ℕ)
mark_at mark s = if bytes_eq (take (length mark) (skip_blanks s)) mark then Some (drop (length mark) (skip_blanks s)) else None
