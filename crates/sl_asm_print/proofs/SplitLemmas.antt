-- Cuts of a text, by where its first part ends.
use Rattle.std.proofs.Common.{◌≡◌, ℕ, ◌+◌, ◌<◌, ◌≤◌, min, List, [], ◌∷◌, ◌++◌, length, take, drop, map, false, IsTrue, ap, arith, refl, sym, subst, ◌∙◌, below_more, append_assoc}
use Rattle.std.specs.Prelude.{Contains, Vec}
use Rattle.std.specs.List.{flat_map}
use Rattle.std.specs.declared.alloc.Global.{Global}
use denote.Ref.{Bor}
use Rattle.std.proofs.Math.Seq.{drop-append_seam, take-append_seam}
use Rattle.std.proofs.lemmas.Bool.{false≢true}
use Rattle.std.proofs.lemmas.List.{length-take, map-append, take-append-drop}
use Rattle.std.proofs.lemmas.List.Elements.{Contains-append_left, Contains-push}
use Rattle.sl_asm_print.specs.Splits.{AddsSplits, HasSplit, KeepsTexts, pieces}
use Rattle.sl_show.specs.declared.templates.Part.{Part}

abbrev pub Split : Type 0
Split = Vec (Bor (List ℕ)) Global

has_more : (texts : List (List ℕ)) (old new : List Split) → ((s : Split) → Contains old s → Contains new s) → HasSplit texts old → HasSplit texts new
has_more texts old new kept h = (h.0, kept h.0 h.1, h.2)

-- Where the first part ends before an index, the cuts are there.
pub record CutFirst (first : Part) (rest : List Part) (text : List ℕ) (front : List (List ℕ)) (n : ℕ) (old new : List Split) : Type 0 where
  pub kept : (s : Split) → Contains old s → Contains new s
  pub cuts : (k : ℕ) → k < n → (shows : Part → List ℕ) → KeepsTexts shows → take k text ≡ shows first → flat_map shows rest ≡ drop k text
      → HasSplit (front ++ (shows first ∷ map shows rest)) new

-- no part ends before the least length
pub cut_none : (first : Part) (rest : List Part) (text : List ℕ) (front : List (List ℕ)) (least : ℕ) (old : List Split)
    → ((shows : Part → List ℕ) → KeepsTexts shows → flat_map shows (first ∷ rest) ≡ text → least ≤ length (shows first)) → CutFirst first rest text front least old old
cut_none first rest text front least old is_least = record {
  kept = λ s h. h;
  cuts = λ k below shows keeps here behind.
      let e : flat_map shows (first ∷ rest) ≡ text = ap (λ (l : List ℕ). l ++ flat_map shows rest) (sym here) ∙ ap (λ (l : List ℕ). take k text ++ l) behind ∙ take-append-drop k text in
      let long : length (shows first) ≡ min k (length text) = ap length (sym here) ∙ length-take k text in
      absurd (omega (arith, below, long, is_least shows keeps e));
}

pub cut_more : (first : Part) (rest : List Part) (text : List ℕ) (front : List (Bor (List ℕ))) (n : ℕ) (old middle new : List Split) (piece : Bor (List ℕ))
    → piece.now ≡ take n text → CutFirst first rest text (pieces front) n old middle → AddsSplits rest (drop n text) (pieces (front ++ piece ∷ [])) middle new
    → CutFirst first rest text (pieces front) (n + 1) old new
cut_more first rest text front n old middle new piece is f adds = record {
  kept = λ s h. adds.kept s (f.kept s h);
  cuts = below_more (λ k. (shows : Part → List ℕ) → KeepsTexts shows → take k text ≡ shows first → flat_map shows rest ≡ drop k text
      → HasSplit (pieces front ++ (shows first ∷ map shows rest)) new) n
      (λ k lt shows keeps here behind. has_more (pieces front ++ (shows first ∷ map shows rest)) middle new adds.kept (f.cuts k lt shows keeps here behind))
      (λ shows keeps here behind.
      let whole : pieces (front ++ piece ∷ []) ++ map shows rest ≡ pieces front ++ (shows first ∷ map shows rest) =
      ap (λ (l : List (List ℕ)). l ++ map shows rest) (map-append (λ (s : Bor (List ℕ)). s.now) front (piece ∷ []))
      ∙ append_assoc (pieces front) (piece.now ∷ []) (map shows rest)
      ∙ ap (λ (l : List ℕ). pieces front ++ (l ∷ map shows rest)) (is ∙ here) in
      subst (λ (l : List (List ℕ)). HasSplit l new) whole (adds.all shows keeps behind));
}

pub cut_step : (first : Part) (rest : List Part) (text : List ℕ) (front : List (Bor (List ℕ))) (n : ℕ) (old middle new : List Split) (piece : Bor (List ℕ))
    (pushed now : List (Bor (List ℕ))) (more : List ℕ)
    → piece.now ≡ take n text → more ≡ drop n text → now ≡ front → pushed ≡ now ++ piece ∷ [] → CutFirst first rest text (pieces front) n old middle
    → AddsSplits rest more (pieces pushed) middle new → CutFirst first rest text (pieces front) (n + 1) old new
cut_step first rest text front n old middle new piece pushed now more is more_is same pushed_is f adds =
    let at_front : pushed ≡ front ++ piece ∷ [] = pushed_is ∙ ap (λ (l : List (Bor (List ℕ))). l ++ piece ∷ []) same in
    cut_more first rest text front n old middle new piece is f
    (subst (λ (l : List ℕ). AddsSplits rest l (pieces (front ++ piece ∷ [])) middle new) more_is
    (subst (λ (l : List (Bor (List ℕ))). AddsSplits rest more (pieces l) middle new) at_front adds))

-- a front that is cut off again after a piece
pub back_to : {X : Type 0} (front now pushed again cut : List X) (piece : X) (depth : ℕ) → depth ≡ length front → now ≡ front → pushed ≡ now ++ piece ∷ []
    → again ≡ pushed → cut ≡ take depth again → cut ≡ front
back_to front now pushed again cut piece depth deep same pushed_is again_is cut_is =
    cut_is ∙ ap (take depth) (again_is ∙ pushed_is ∙ ap (λ l. l ++ piece ∷ []) same) ∙ ap (λ (k : ℕ). take k (front ++ piece ∷ [])) deep
    ∙ take-append_seam front (piece ∷ [])

pub cut_other : (first : Part) (rest : List Part) (text : List ℕ) (front : List (List ℕ)) (n : ℕ) (old new : List Split) (piece more : List ℕ) → piece ≡ take n text → more ≡ drop n text
    → ((shows : Part → List ℕ) → KeepsTexts shows → shows first ≡ piece → more ≡ flat_map shows rest → IsTrue false) → CutFirst first rest text front n old new
    → CutFirst first rest text front (n + 1) old new
cut_other first rest text front n old new piece more is more_is not f = record {
  kept = f.kept;
  cuts = below_more (λ k. (shows : Part → List ℕ) → KeepsTexts shows → take k text ≡ shows first → flat_map shows rest ≡ drop k text
      → HasSplit (front ++ (shows first ∷ map shows rest)) new) n f.cuts
      (λ shows keeps here behind. absurd (false≢true (not shows keeps (sym here ∙ sym is) (more_is ∙ sym behind))));
}

pub cut_all : (first : Part) (rest : List Part) (text : List ℕ) (front : List (List ℕ)) (n : ℕ) (old new : List Split)
    → ((shows : Part → List ℕ) → KeepsTexts shows → flat_map shows (first ∷ rest) ≡ text → length (shows first) < n)
    → CutFirst first rest text front n old new → AddsSplits (first ∷ rest) text front old new
cut_all first rest text front n old new whole f = record {
  kept = f.kept;
  all = λ shows keeps e.
      let one = shows first in
      let others = flat_map shows rest in
      f.cuts (length one) (whole shows keeps e) shows keeps
      (ap (take (length one)) (sym e) ∙ take-append_seam one others)
      (sym (drop-append_seam one others) ∙ ap (drop (length one)) e);
}

nothing_more : (l : List (List ℕ)) → l ++ [] ≡ l
nothing_more [] = refl
nothing_more (x ∷ l) = ap (λ (r : List (List ℕ)). x ∷ r) (nothing_more l)

pub cut_ended : (text : List ℕ) (front : List (Bor (List ℕ))) (old : List Split) (split : Split) → split.items ≡ front
    → AddsSplits [] text (pieces front) old (old ++ split ∷ [])
cut_ended text front old split is = record {
  kept = λ s h. Contains-append_left old (split ∷ []) s h;
  all = λ shows keeps e. (split, Contains-push old split, ap pieces is ∙ sym (nothing_more (pieces front)));
}

pub cut_unended : (text : List ℕ) (front : List (List ℕ)) (old : List Split) → ([] ≡ text → ⊥) → AddsSplits [] text front old old
cut_unended text front old other = record { kept = λ s h. h; all = λ shows keeps e. absurd (other e) }
