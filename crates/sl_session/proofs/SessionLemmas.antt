-- What counts after an answer.
use Rattle.std.proofs.Common.{◌≡◌, ℕ, List, [], ◌++◌, take, Result, Ok, Err, sym, subst, append-nil}
use Rattle.std.specs.Prelude.{IfOk, OnErr, OnOk}
use Rattle.sl_decode_contexts.specs.Kept.{Kept}
use Rattle.sl_decode_contexts.specs.Runs.{Stands}
use Rattle.sl_decode_contexts.specs.declared.commits.Commit.{Commit}
use Rattle.sl_session.proofs.AnswerLemmas.{read_answers}
use Rattle.sl_session.specs.Answers.{IsAnswer, window_of}
use Rattle.sl_session.specs.Operations.{IsTranslated}
use Rattle.sl_session.specs.Readers.{IsRead, choice_in, specification_in}
use Rattle.sl_session.specs.Sessions.{Answers, GoesOn, HasMade, IsCutShort, Translates}
use Rattle.sl_session.specs.declared.answer.Answer.{Answer}
use Rattle.sl_session.specs.declared.answer.Translated.{Translated}
use Rattle.sl_session.specs.declared.buffers.Buffers.{Buffers}
use Rattle.sl_session.specs.declared.reader.Reader.{Reader}
use Rattle.sl_session.specs.declared.session.Session.{Session}

-- ---- what holds of an outcome

pub map_ok : {T E : Type 0} {P Q : T → Type 0} (r : Result T E) → ((x : T) → P x → Q x)
    → IfOk r P → IfOk r Q
map_ok (Ok x) f h = f x h
map_ok (Err e) f h = h

pub on_ok : {T E P Q : Type 0} (r : Result T E) → (P → Q) → OnOk r P → OnOk r Q
on_ok (Ok x) f h = f h
on_ok (Err e) f h = h

pub on_err : {T E P Q : Type 0} (r : Result T E) → (P → Q) → OnErr r P → OnErr r Q
on_err (Ok x) f h = h
on_err (Err e) f h = f h

-- ---- commits

module _ (start : ℕ) (made given : List Commit) (new : Session)
    (same : given ≡ new.buffers.commits.items) (is : new.start ≡ start) where
  -- all that the last answer gives count
  pub all_count : Stands new.contexts start (made ++ given) → GoesOn start made new
  all_count stands = record {
    start_is = is;
    counts = subst (λ (k : ℕ). Stands new.contexts k (made ++ new.buffers.commits.items)) (sym is)
        (subst (λ (cs : List Commit). Stands new.contexts start (made ++ cs)) same stands);
  }

  -- some first ones of them do
  pub some_count : (k : ℕ) → Stands new.contexts start (made ++ take k given)
      → IsCutShort start made new
  some_count k stands = record {
    start_is = is;
    some = k;
    counts =
        subst (λ (n : ℕ). Stands new.contexts n (made ++ take k new.buffers.commits.items)) (sym is)
        (subst (λ (cs : List Commit). Stands new.contexts start (made ++ take k cs)) same stands);
  }

-- none of them does
pub none_counts : (start : ℕ) (made : List Commit) (new : Session) → new.start ≡ start
    → HasMade new made → IsCutShort start made new
none_counts start made new is counts = record {
  start_is = is;
  some = 0;
  counts = subst (λ (cs : List Commit). HasMade new cs) (sym (append-nil made)) counts;
}

-- ---- answers

-- a session whose contexts stay
pub still_made : (old new : Session) (made : List Commit) → new.start ≡ old.start
    → new.contexts ≡ old.contexts → HasMade old made → HasMade new made
still_made old new made start contexts counts =
    subst (λ (k : ℕ). Stands new.contexts k made) (sym start)
    (subst (λ (m : Kept). Stands m old.start made) (sym contexts) counts)

module _ (x : Reader) (made : List Commit) (bytes : List ℕ) (address : ℕ) (old between new : Session)
    (start : between.start ≡ old.start) (buffers : new.buffers ≡ between.buffers)
    (goes : GoesOn between.start made new) where
  goes_on : GoesOn old.start made new
  goes_on = subst (λ (k : ℕ). GoesOn k made new) start goes

  -- what was read is answered
  pub answered : (answer : Answer)
      → IsRead (specification_in x) (choice_in x) old.start made (window_of bytes) address answer
      between.buffers
      → Answers x old.start made bytes address answer new
  answered answer read = record {
    is = subst (λ (b : Buffers). IsAnswer (specification_in x).tables (specification_in x).constructors
        (choice_in x) old.start made (window_of bytes) address answer b.text.items b.commits.items)
        (sym buffers)
        (read_answers (specification_in x) (choice_in x) old.start made (window_of bytes) address answer
        between.buffers read);
    goes_on = goes_on;
  }

  pub translated : (y : Translated)
      → IsTranslated (specification_in x) (choice_in x) old.start made (window_of bytes) address
      y.answer y.built between.buffers.text.items between.buffers.commits.items
      → Translates x old.start made bytes address y new
  translated y is = record {
    is = subst (λ (b : Buffers). IsTranslated (specification_in x) (choice_in x) old.start made
        (window_of bytes) address y.answer y.built b.text.items b.commits.items) (sym buffers) is;
    goes_on = goes_on;
  }

pub cut_short : (made : List Commit) (old between new : Session) → between.start ≡ old.start
    → IsCutShort between.start made new → IsCutShort old.start made new
cut_short made old between new start cut = subst (λ (k : ℕ). IsCutShort k made new) start cut
