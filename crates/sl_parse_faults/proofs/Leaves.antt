-- The readers of single symbols as parts of rules. They leave the room as it is.
use Rattle.std.proofs.Common.{◌≡◌, ℕ, zero, suc, inl, inr, Bool, true, false, cond, nat_le, List, ◌∷◌, Option, None, Some, Ok, Err, refl, sym, subst, arith}
use Rattle.sl_ast.specs.Spelling.{Spelling, name, keyword, spell_name, spell_option, spell_size}
use Rattle.sl_ast.specs.Symbols.{plain, Sym, number, word, mark}
use Rattle.sl_ast.specs.Validity.{IfWritten, IsWidth}
use Rattle.sl_ast.specs.declared.symbols.Feature.TheVariants as f
use Rattle.sl_ast.specs.declared.symbols.Keyword.{Keyword}
use Rattle.sl_ast.specs.declared.symbols.Mark.{Mark}
use Rattle.sl_ast.specs.declared.symbols.Mark.TheVariants as m
use Rattle.sl_parse_grammar.specs.Reader.{Input, left, first, Fault, fault, unsupported, Outcome, Reader, and_then, refused_as, refuse, skip, is_mark, is_keyword, expect, expect_keyword, number_by, integer_here, name_by, name_here, size_by, size_here, size_option, next, unsupport, pure}
use Rattle.sl_parse_grammar.proofs.PartRules.{Free}
use Rattle.sl_parse_grammar.proofs.Keeps.{keeps_size, keeps_option}
use Rattle.sl_parse_grammar.proofs.Taken.{look_ok, mark_first, took_next, expect_ok, expect_keyword_ok, integer_ok, name_ok, size_ok, size_option_ok}
use Rattle.sl_parse_faults.proofs.Closes.{AllKeep, Mended, Part, same_error}
use Rattle.sl_parse_faults.proofs.Goes.{Goes, one_more, place, goes_refused, at_place}
use Rattle.sl_parse_faults.specs.Forms.{other}

abbrev pub spell_mark : Mark → Spelling (Unit {0})
spell_mark k u rest = mark k ∷ rest

abbrev pub spell_keyword : Keyword → Spelling (Unit {0})
spell_keyword k u rest = keyword k ∷ rest

abbrev pub spell_number : Spelling ℕ
spell_number n rest = number n ∷ rest

-- Where a reader refuses before it takes a symbol, any good tree will do.
pub mended_refused : {A B : Type 0} (extra : ℕ) (spell : Spelling A) (Good : A → Type 0) (a : A) → Good a → (i : Input) (e : Fault) → refuse {A = B} i ≡ Err e → Mended extra spell Good i.rest e
mended_refused extra spell Good a good i e h =
    subst (λ y. Mended extra spell Good i.rest y) (same_error (fault (refused_as (first i.rest)) (left i)) e h)
    (record { tree = a; good = good; goes = λ rest. goes_refused extra i (spell a rest) })

-- one symbol in front
pub keeps_one : (extra : ℕ) (x : Sym) → AllKeep extra (λ rest. x ∷ rest)
keeps_one extra x form n xs ys h = one_more extra form n x xs ys h

mark_mends : (extra : ℕ) (k : Mark) (i : Input) (e : Fault) → expect k i ≡ Err e → Mended extra (spell_mark k) Free i.rest e
unfolding expect
mark_mends extra k i e h = elim (look_ok (is_mark k) skip refuse i (Err e) h) [
  | inl g ↦ absurd (let f = g.1 in cc)
  | inr g ↦ mended_refused extra (spell_mark k) Free tt tt i e g.1
]

pub part_mark : (extra : ℕ) (P : ℕ → Type 0) (k : Mark) → Part extra (spell_mark k) Free (λ i. P i.room) (λ u j. P j.room) (expect k)
part_mark extra P k = record {
  sound = λ i j u here h. record { tokens = (expect_ok k i j u h).tokens; good = tt };
  next = λ i j u here h. subst P (expect_ok k i j u h).room here;
  keeps = λ u. keeps_one extra (mark k);
  short = tt;
  short_good = tt;
  mends = λ i here e h. mark_mends extra k i e h;
}

keyword_mends : (extra : ℕ) (k : Keyword) (i : Input) (e : Fault) → expect_keyword k i ≡ Err e → Mended extra (spell_keyword k) Free i.rest e
unfolding expect_keyword
keyword_mends extra k i e h = elim (look_ok (is_keyword k) skip refuse i (Err e) h) [
  | inl g ↦ absurd (let f = g.1 in cc)
  | inr g ↦ mended_refused extra (spell_keyword k) Free tt tt i e g.1
]

pub part_keyword : (extra : ℕ) (P : ℕ → Type 0) (k : Keyword) → Part extra (spell_keyword k) Free (λ i. P i.room) (λ u j. P j.room) (expect_keyword k)
part_keyword extra P k = record {
  sound = λ i j u here h. record { tokens = (expect_keyword_ok k i j u h).tokens; good = tt };
  next = λ i j u here h. subst P (expect_keyword_ok k i j u h).room here;
  keeps = λ u. keeps_one extra (keyword k);
  short = tt;
  short_good = tt;
  mends = λ i here e h. keyword_mends extra k i e h;
}

number_mends : (extra : ℕ) (o : Option Sym) (i : Input) (e : Fault) → number_by o i ≡ Err e → Mended extra spell_number Free i.rest e
number_mends extra (Some (number n)) i e h = absurd (cc)
number_mends extra o i e h = mended_refused extra spell_number Free 0 tt i e h

integer_mends : (extra : ℕ) (i : Input) (e : Fault) → integer_here i ≡ Err e → Mended extra spell_number Free i.rest e
unfolding integer_here
integer_mends extra i e h = number_mends extra (first i.rest) i e h

pub part_integer : (extra : ℕ) (P : ℕ → Type 0) → Part extra spell_number Free (λ i. P i.room) (λ n j. P j.room) integer_here
part_integer extra P = record {
  sound = λ i j n here h. record { tokens = (integer_ok i j n h).tokens; good = tt };
  next = λ i j n here h. subst P (integer_ok i j n h).room here;
  keeps = λ n. keeps_one extra (number n);
  short = 0;
  short_good = tt;
  mends = λ i here e h. integer_mends extra i e h;
}

name_by_mends : (extra : ℕ) (o : Option Sym) (i : Input) (e : Fault) → name_by o i ≡ Err e → Mended extra spell_name Free i.rest e
name_by_mends extra (Some (word (plain w))) i e h = absurd (cc)
name_by_mends extra o i e h = mended_refused extra spell_name Free other tt i e h

name_mends : (extra : ℕ) (i : Input) (e : Fault) → name_here i ≡ Err e → Mended extra spell_name Free i.rest e
unfolding name_here
name_mends extra i e h = name_by_mends extra (first i.rest) i e h

pub part_name : (extra : ℕ) (P : ℕ → Type 0) → Part extra spell_name Free (λ i. P i.room) (λ w j. P j.room) name_here
part_name extra P = record {
  sound = λ i j w here h. record { tokens = (name_ok i j w h).tokens; good = tt };
  next = λ i j w here h. subst P (name_ok i j w h).room here;
  keeps = λ w. keeps_one extra (name w);
  short = other;
  short_good = tt;
  mends = λ i here e h. name_mends extra i e h;
}

-- ---- sizes

wide_goes : (extra n : ℕ) (i : Input) (rest : List Sym) → first i.rest ≡ Some (number n) → Goes extra (unsupported f.WideValue 0) (place extra (fault (unsupported f.WideValue 0) (left i))) i.rest (number 0 ∷ rest)
wide_goes zero n i rest is = at_place refl (number 0 ∷ rest, refl) tt
wide_goes (suc extra) n i rest is = at_place (omega arith) (rest, refl) (n, is)

wide_mends : (extra n : ℕ) (b : Bool) (i : Input) (e : Fault) → first i.rest ≡ Some (number n)
    → cond {A = Reader ℕ} b (λ k. Ok (n, next k)) (unsupport f.WideValue 0) i ≡ Err e → Mended extra spell_number IsWidth i.rest e
wide_mends extra n true i e is h = absurd (cc)
wide_mends extra n false i e is h =
    subst (λ y. Mended extra spell_number IsWidth i.rest y) (same_error (fault (unsupported f.WideValue 0) (left i)) e h)
    (record { tree = 0; good = omega arith; goes = λ rest. wide_goes extra n i rest is })

size_by_mends : (extra : ℕ) (o : Option Sym) (i : Input) (e : Fault) → first i.rest ≡ o → size_by o i ≡ Err e → Mended extra spell_number IsWidth i.rest e
size_by_mends extra (Some (number n)) i e is h = wide_mends extra n (nat_le n 16) i e is h
size_by_mends extra o i e is h = mended_refused extra spell_number IsWidth 0 (omega arith) i e h

size_mends : (extra : ℕ) (i : Input) (e : Fault) → size_here i ≡ Err e → Mended extra spell_number IsWidth i.rest e
unfolding size_here
size_mends extra i e h = size_by_mends extra (first i.rest) i e refl h

pub part_size : (extra : ℕ) (P : ℕ → Type 0) → Part extra spell_number IsWidth (λ i. P i.room) (λ n j. P j.room) size_here
part_size extra P = record {
  sound = λ i j n here h. (let took = size_ok i j n h in record { tokens = took.took.tokens; good = took.fits });
  next = λ i j n here h. subst P (size_ok i j n h).took.room here;
  keeps = λ n. keeps_one extra (number n);
  short = 0;
  short_good = omega arith;
  mends = λ i here e h. size_mends extra i e h;
}

-- ---- a size that may lack

size_option_mends : (extra : ℕ) (i : Input) (e : Fault) → size_option i ≡ Err e → Mended extra (spell_option spell_size) (IfWritten IsWidth) i.rest e
unfolding size_option
size_option_mends extra i e h = elim (look_ok (is_mark m.Colon) _ _ i (Err e) h) [
  | inl g ↦
      let colon = took_next i (mark m.Colon) (mark_first m.Colon (first i.rest) g.0) in
      size_then i (next i) e colon.tokens (size_here (next i)) refl g.1
  | inr g ↦ absurd (let x = g.1 in cc)
]
  where
    size_then : (i j : Input) (e : Fault) → i.rest ≡ mark m.Colon ∷ j.rest → (o : Outcome ℕ) → size_here j ≡ o → and_then o (λ n. pure (Some n)) ≡ Err e
        → Mended extra (spell_option spell_size) (IfWritten IsWidth) i.rest e
    size_then i j e same (Ok x) is h = absurd (cc)
    size_then i j e same (Err d) is h =
        let inner = size_mends extra j d is in
        subst (λ y. Mended extra (spell_option spell_size) (IfWritten IsWidth) i.rest y) (same_error d e h) (record {
          tree = Some inner.tree;
          good = inner.good;
          goes = λ rest. subst (λ xs. Goes extra d.form (place extra d) xs (mark m.Colon ∷ number inner.tree ∷ rest)) (sym same)
              (one_more extra d.form (place extra d) (mark m.Colon) j.rest (number inner.tree ∷ rest) (inner.goes rest));
        })

pub part_size_option : (extra : ℕ) (P : ℕ → Type 0) → Part extra (spell_option spell_size) (IfWritten IsWidth) (λ i. P i.room) (λ x j. P j.room) size_option
part_size_option extra P = record {
  sound = λ i j x here h. (let took = size_option_ok i j x h in record { tokens = took.tokens; good = took.good });
  next = λ i j x here h. subst P (size_option_ok i j x h).room here;
  keeps = λ x form n. keeps_option (Goes extra form n) (one_more extra form n) spell_size (keeps_size (Goes extra form n) (one_more extra form n)) x;
  short = None;
  short_good = tt;
  mends = λ i here e h. size_option_mends extra i e h;
}
