-- The tokens of a text are slices of it, in its order.
use Rattle.std.proofs.Common.{◌≡◌, ℕ, ◌+◌, ◌<◌, ◌≤◌, List, [], ◌∷◌, ◌++◌, length, take, drop, All, Option, None, Some, arith, refl, ap, sym, ◌∙◌, subst, length-append}
use Rattle.std.proofs.lemmas.List.{drop-drop}
use Rattle.std.proofs.lemmas.List.Elements.{All-nil, All-cons, All-head, All-tail, All-weaker}
use Rattle.std.proofs.Math.Seq.{drop-append_seam, take-append_seam}
use Rattle.sl_lex.specs.Faults.{Fault}
use Rattle.sl_lex.specs.Laws.{IsSliceOf, LieInOrder}
use Rattle.sl_lex.specs.Reading.{Token, Piece, Reads, ReadsTo, ReadsAs, IsPieceAt, mode_after, kept, tokens_of}
use Rattle.sl_lex.specs.Views.{view, views}
use Rattle.sl_lex.specs.declared.Tok.{Tok}
use Rattle.sl_lex.specs.declared.TokKind.{TokKind}
use Rattle.sl_lex.specs.declared.mode.Mode.{Mode}
use Rattle.sl_lex.specs.declared.mode.Mode.TheVariants.{Top}
use Rattle.sl_lex.proofs.ReadingLemmas.{lexeme_some}

-- The text from a place on, and what it is in the whole text.
record IsRestAt (whole : List ℕ) (from : ℕ) (text : List ℕ) : Type 0 where
  bytes : drop from whole ≡ text
  ends : from + length text ≡ length whole

rest_on : (whole : List ℕ) (from : ℕ) (text front after : List ℕ) → IsRestAt whole from text → text ≡ front ++ after → IsRestAt whole (from + length front) after
rest_on whole from text front after h e = record {
  bytes = sym (drop-drop (length front) from whole) ∙ ap (drop (length front)) (h.bytes ∙ e) ∙ drop-append_seam front after;
  ends = let lengths : length text ≡ length front + length after = ap length e ∙ length-append front after in
      omega (arith, h.ends);
}

-- The bytes of a piece, as a token of some kind would have them.
record IsSlice (whole : List ℕ) (from : ℕ) (bytes : List ℕ) : Type 0 where
  some : 0 < length bytes
  within : from + length bytes ≤ length whole
  bytes_there : take (length bytes) (drop from whole) ≡ bytes

piece_slice : (whole : List ℕ) (mode : Mode) (from : ℕ) (text : List ℕ) (p : Piece) (rest : List ℕ) → IsRestAt whole from text → IsPieceAt mode from text p rest
    → IsSlice whole p.from p.text
piece_slice whole mode from text p rest h here =
    let lengths : length text ≡ length p.text + length rest = ap length here.split ∙ length-append p.text rest in
    record {
      some = lexeme_some mode p.kind p.text rest here.longest.lexeme;
      within = omega (arith, here.place, h.ends);
      bytes_there = ap (λ (n : ℕ). take (length p.text) (drop n whole)) here.place
          ∙ ap (take (length p.text)) (h.bytes ∙ here.split) ∙ take-append_seam p.text rest;
    }

earlier : (a b : ℕ) (ts : List Token) → a ≤ b → LieInOrder b ts → LieInOrder a ts
earlier a b [] less h = tt
earlier a b (t ∷ ts) less h = (omega (arith, h.0), h.1)

slices_kept : (whole : List ℕ) (from : ℕ) (kind : Option TokKind) (p : Piece) (ts : List Token) → IsSlice whole p.from p.text → p.from ≡ from
    → All (IsSliceOf whole) ts × LieInOrder (from + length p.text) ts → All (IsSliceOf whole) (kept kind p ts) × LieInOrder from (kept kind p ts)
slices_kept whole from None p ts slice place more = (more.0, earlier from (from + length p.text) ts (omega arith) more.1)
slices_kept whole from (Some kind) p ts slice place more =
    let token : Token = record { kind = kind; text = p.text; from = p.from } in (
      All-cons (IsSliceOf whole) token ts (record { some = slice.some; within = slice.within; bytes = slice.bytes_there }) more.0,
      (omega arith, earlier (p.from + length p.text) (from + length p.text) ts (omega arith) more.1),
    )

slices_from : (whole : List ℕ) (mode : Mode) (from : ℕ) (text : List ℕ) (ps : List Piece) (end : Option (Fault × ℕ)) → IsRestAt whole from text → Reads mode from text ps end
    → All (IsSliceOf whole) (tokens_of ps) × LieInOrder from (tokens_of ps)
slices_from whole mode from text [] end h reads = (All-nil (IsSliceOf whole), tt)
slices_from whole mode from text (p ∷ ps) end h (rest, here, later) =
    let next = rest_on whole from text p.text rest h here.split in
    slices_kept whole from p.kind p (tokens_of ps) (piece_slice whole mode from text p rest h here) here.place
    (slices_from whole (mode_after mode p.kind p.text) (from + length p.text) rest ps end next later)

pub slices : (text : List ℕ) (ts : List Token) (end : Option (Fault × ℕ)) → ReadsTo text ts end → All (IsSliceOf text) ts × LieInOrder 0 ts
slices text ts end (ps, reads, e) =
    let all = slices_from text Top 0 text ps end (record { bytes = refl; ends = omega arith }) reads in
    subst (λ (us : List Token). All (IsSliceOf text) us × LieInOrder 0 us) e all

-- Each token begins before the text's end.
pub begins_within : (text : List ℕ) (ts : List Token) → ReadsAs text ts → All (λ t. t.from < length text) ts
begins_within text ts reads =
    All-weaker (IsSliceOf text) (λ t. t.from < length text) (λ t h. omega (arith, h.some, h.within)) ts (slices text ts None reads).0

begin_within : (place : ℕ) (toks : List Tok) → All (λ (t : Token). t.from < place) (views toks) → All (λ (t : Tok). t.from < place) toks
begin_within place [] h = All-nil (λ (t : Tok). t.from < place)
begin_within place (t ∷ ts) h =
    All-cons (λ (t : Tok). t.from < place) t ts (All-head (λ (t : Token). t.from < place) (view t) (views ts) h)
    (begin_within place ts (All-tail (λ (t : Token). t.from < place) (view t) (views ts) h))

-- The same of the tokens as the program has them.
pub toks_begin_within : (text : List ℕ) (toks : List Tok) → ReadsAs text (views toks) → All (λ (t : Tok). t.from < length text) toks
toks_begin_within text toks reads = begin_within (length text) toks (begins_within text (views toks) reads)
