-- Laws of packing and unpacking.
use Rattle.std.proofs.Common.{◌≡◌, ℕ, ◌-◌, ◌==◌, Bool, true, false, List, [], ◌∷◌, ◌++◌, length, Result, Ok, Err, refl, ap, sym, ◌∙◌, append-nil, arith}
use Rattle.sl_store_write.specs.Packs.{IsFileOf}
use Rattle.sl_store_write.specs.Parts.{packed_of}
use Rattle.sl_store_write.specs.declared.packed.Packed as program
use Rattle.sl_store_format.specs.Packed.{Written, Packed, IsPackable, IsPacked, apart, mark, pack, write_written, written_here}
use Rattle.sl_store_bytes.specs.Reader.{Fault, cut, damaged}
use Rattle.sl_store_bytes.specs.Verdicts.{HasMark, at_end}
use Rattle.sl_store.specs.Answers.{Answers, Opens}
use Rattle.sl_store.specs.Damage.{IsCut, IsDamagedAt}
use Rattle.sl_store.specs.Laws.{HasFile, AreOneToOne, AnswersAgree, Verdict, not_packed, file_of, is_cut, is_damaged, EachHasAVerdict}
use Rattle.sl_store.specs.Reads.{IsWhole}
use Rattle.sl_store.specs.declared.opening.UnpackError as u
use Rattle.sl_store.specs.declared.opening.UnpackError.TheVariants as uv
use Rattle.sl_store_format.proofs.ConditionLaws.{conditions_exact}
use Rattle.sl_store_format.proofs.PackedLaws.{exact_written, apart_one}
use Rattle.sl_store_format.proofs.ValidLaws.{packs_apart, whole_not_cut}
use Rattle.sl_store_bytes.proofs.MarkLaws.{right_value, right_cut, right_damaged}
use Rattle.sl_store_bytes.proofs.VerdictLaws.{cut_not_damaged, whole_not_damaged, one_place}

-- ---- one to one

some_file : (p : Packed) → IsPacked p → HasFile p
some_file p good =
    let may = conditions_exact.0 p good in
    record { bytes = pack may.written; file = record { written = may.written; is = may.is; are = record { good = may.packable; bytes = refl } } }

may_be_packed : (p : Packed) (bytes : List ℕ) → IsFileOf p bytes → IsPacked p
may_be_packed p bytes f = conditions_exact.1 p (record { written = f.written; packable = f.are.good; is = f.is })

one_file : (p : Packed) (bytes others : List ℕ) → IsFileOf p bytes → IsFileOf p others → bytes ≡ others
one_file p bytes others f g =
    f.are.bytes ∙ ap pack (apart_one f.written g.written f.are.good g.are.good (f.is ∙ sym g.is)) ∙ sym g.are.bytes

pub one_specification : (p q : Packed) (bytes : List ℕ) → IsFileOf p bytes → IsFileOf q bytes → p ≡ q
one_specification p q bytes f g =
    let same : f.written ≡ g.written =
    (packs_apart f.written g.written [] f.are.good g.are.good (sym g.are.bytes ∙ f.are.bytes ∙ sym (append-nil (pack f.written)))).0 in
    sym f.is ∙ ap apart same ∙ g.is

pub one_to_one : AreOneToOne
one_to_one = record { some_file = some_file; may_be_packed = may_be_packed; one_file = one_file; one_specification = one_specification }

-- ---- answers agree

pub has_mark : (p : Packed) (bytes : List ℕ) → IsFileOf p bytes → HasMark mark bytes
has_mark p bytes f = record { rest = write_written f.written; bytes_are = f.are.bytes }

pub file_not_cut : (p : Packed) (bytes : List ℕ) → IsFileOf p bytes → IsCut bytes → ⊥
file_not_cut p bytes f c = whole_not_cut bytes f.written f.are c.1

pub file_not_damaged : (p : Packed) (bytes : List ℕ) (at : ℕ) → IsFileOf p bytes → IsDamagedAt bytes at → ⊥
file_not_damaged p bytes at f d = whole_not_damaged pack IsPackable bytes f.written at f.are d.1

pub torn : (bytes : List ℕ) (at : ℕ) → IsCut bytes → IsDamagedAt bytes at → ⊥
torn bytes at c d = cut_not_damaged pack IsPackable bytes at c.1 d.1

pub agree : AnswersAgree
agree bytes (Err uv.NoMemory) s a b = tt
agree bytes (Ok p) (Err uv.NoMemory) a b = tt
agree bytes (Err uv.NotPacked) (Err uv.NoMemory) a b = tt
agree bytes (Err uv.Cut) (Err uv.NoMemory) a b = tt
agree bytes (Err (uv.Damaged at)) (Err uv.NoMemory) a b = tt
agree bytes (Ok p) (Ok q) a b = one_specification (packed_of p) (packed_of q) bytes a b
agree bytes (Ok p) (Err uv.NotPacked) a b = absurd (b (has_mark (packed_of p) bytes a))
agree bytes (Ok p) (Err uv.Cut) a b = absurd (file_not_cut (packed_of p) bytes a b)
agree bytes (Ok p) (Err (uv.Damaged at)) a b = absurd (file_not_damaged (packed_of p) bytes at a b)
agree bytes (Err uv.NotPacked) (Ok q) a b = absurd (a (has_mark (packed_of q) bytes b))
agree bytes (Err uv.NotPacked) (Err uv.NotPacked) a b = tt
agree bytes (Err uv.NotPacked) (Err uv.Cut) a b = absurd (a b.0)
agree bytes (Err uv.NotPacked) (Err (uv.Damaged at)) a b = absurd (a b.0)
agree bytes (Err uv.Cut) (Ok q) a b = absurd (file_not_cut (packed_of q) bytes b a)
agree bytes (Err uv.Cut) (Err uv.NotPacked) a b = absurd (b a.0)
agree bytes (Err uv.Cut) (Err uv.Cut) a b = tt
agree bytes (Err uv.Cut) (Err (uv.Damaged at)) a b = absurd (torn bytes at a b)
agree bytes (Err (uv.Damaged at)) (Ok q) a b = absurd (file_not_damaged (packed_of q) bytes at b a)
agree bytes (Err (uv.Damaged at)) (Err uv.NotPacked) a b = absurd (b a.0)
agree bytes (Err (uv.Damaged at)) (Err uv.Cut) a b = absurd (torn bytes at b a)
agree bytes (Err (uv.Damaged at)) (Err (uv.Damaged other)) a b = one_place pack IsPackable bytes at other a.1 b.1

-- ---- each list of bytes is one of these

-- the front is there, or it isn't
pub data Fronted (front bytes : List ℕ) : Type 0 where
  fronted : (rest : List ℕ) → bytes ≡ front ++ rest → Fronted front bytes
  unfronted : (HasMark front bytes → ⊥) → Fronted front bytes

front_of : (front bytes : List ℕ) → Fronted front bytes
front_of [] bytes = fronted bytes refl
front_of (b ∷ front) [] = unfronted (λ m. (let e = m.bytes_are in cc))
front_of (b ∷ front) (c ∷ bytes) = by (b == c) refl (front_of front bytes)
  where
    by : (v : Bool) → (b == c) ≡ v → Fronted front bytes → Fronted (b ∷ front) (c ∷ bytes)
    by false off there = unfronted (λ m. (let e : c ≡ b = (let h = m.bytes_are in cc) in let off2 = off in absurd (grind arith)))
    by true on (fronted rest e) = let same : c ≡ b = grind arith in fronted rest (ap (λ k. k ∷ bytes) same ∙ ap (λ xs. b ∷ xs) e)
    by true on (unfronted no_mark) = unfronted (λ m. no_mark (record { rest = m.rest; bytes_are = (let h = m.bytes_are in cc) }))

judged : (bytes xs : List ℕ) → bytes ≡ mark ++ xs → (o : Result Written Fault) → at_end (written_here xs) ≡ o → Verdict bytes
judged bytes xs e (Ok w) h = file_of (apart w) (record { written = w; is = refl; are = right_value mark exact_written bytes xs w e h })
judged bytes xs e (Err cut) h = is_cut (right_cut mark exact_written bytes xs e h)
judged bytes xs e (Err (damaged n)) h = is_damaged (length bytes - n) (right_damaged mark exact_written bytes xs n (length bytes - n) e refl h)

verdict_by : (bytes : List ℕ) → Fronted mark bytes → Verdict bytes
verdict_by bytes (fronted xs e) = judged bytes xs e (at_end (written_here xs)) refl
verdict_by bytes (unfronted no_mark) = not_packed no_mark

pub verdicts : EachHasAVerdict
verdicts bytes = verdict_by bytes (front_of mark bytes)

-- ---- what `unpack` answers where the mark is at the front

pub opened_file : (bytes xs : List ℕ) (p : program.Packed) → bytes ≡ mark ++ xs → IsWhole (at_end (written_here xs)) p → IsFileOf (packed_of p) bytes
opened_file bytes xs p e w = record { written = w.written; is = w.is; are = right_value mark exact_written bytes xs w.written e w.ends }

-- what is answered where it is due is what opens each file
pub opens_by : (bytes : List ℕ) (r : Result program.Packed u.UnpackError) → Answers bytes r → (p : Packed) → IsFileOf p bytes → Opens p r
opens_by bytes (Ok q) a p f = one_specification (packed_of q) p bytes a f
opens_by bytes (Err uv.NoMemory) a p f = tt
opens_by bytes (Err uv.NotPacked) a p f = absurd (a (has_mark p bytes f))
opens_by bytes (Err uv.Cut) a p f = absurd (file_not_cut p bytes f a)
opens_by bytes (Err (uv.Damaged at)) a p f = absurd (file_not_damaged p bytes at f a)
