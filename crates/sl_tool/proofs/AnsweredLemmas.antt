-- Stages that stop, what was written by then, and the names that were asked for.
use Rattle.std.proofs.Common.{ℕ, ◌+◌, ◌^◌, ◌<◌, ◌≤◌, List, [], ◌++◌, Option, Some, None, Result, Ok, Err, refl, sym, ap, subst, ◌∙◌, length, take, min, inl, inr, append-nil, append_assoc, arith}
use Rattle.std.proofs.KnownBytes.{Appends-nil}
use Rattle.std.proofs.Math.Seq.{take-append-add}
use Rattle.std.proofs.lemmas.List.{take-append-le, take_min}
use Rattle.sl_outside.proofs.Counts.{rose_more}
use Rattle.sl_outside.specs.Causes.{Rose}
use Rattle.sl_outside.specs.Folder.{Folder}
use Rattle.sl_outside.specs.Uses.{Names, Asks, AsksFront, UsesFiles, UsesSink}
use Rattle.sl_base_surely.specs.Surely.{Surely}
use Rattle.sl_base_surely.proofs.SurelyLemmas.{surely, surely_map}
use Rattle.sl_tool.specs.Answers.{AnswersFrom, AsksForFile, AsksFrom, Due, Follows, Shows, UsesFilesFor, asked_after}
use Rattle.sl_tool.specs.Answers.AsksFrom.{sound, unsound}
use Rattle.sl_tool.specs.Asking.{AsksAfter}
use Rattle.sl_tool.specs.Asking.AsksAfter.{asks_none, asks_rest}
use Rattle.sl_tool.specs.Streams.{RanNone, Streams, Writes, WritesFront}
use Rattle.sl_tool.specs.Growth.{Grew}
use Rattle.sl_tool.specs.Request.{Request, spec_of}
use Rattle.sl_tool.specs.Endings.{Shown, shown}
use Rattle.sl_tool.specs.declared.status.Ending.{Ending}
use Rattle.sl_tool.specs.declared.status.Ending.TheVariants.{Done}
use Rattle.sl_tool.specs.Writing.{IsOfWriting}
use Rattle.sl_list_instructions.specs.Fronts.{AppendsFront}
use Rattle.sl_tool_stages.specs.Outcomes.{FailsToRead, FailsToWrite, Gives, IsEarly, IsReadFault, Obtains}
use Rattle.sl_tool_stages.specs.Stage.{Then}
use Rattle.sl_tool_stages.specs.Stage.Then.{goes, stops}
use Rattle.sl_tool_stages.specs.Stages.{Compiles, Reads, Specifies}
use Rattle.sl_tool_stages.specs.Values.{Compiled, Tree}
use Rattle.sl_tool_stages.specs.declared.halt.Halt.{Halt}
use Rattle.sl_tool_stages.specs.declared.halt.Halt.TheVariants.{Refused, ReadFault, WriteFault, NoMemory}
use Rattle.sl_tool_stages.specs.declared.refusal.Refusal.{Refusal}
use Rattle.sl_tool_stages.proofs.StageLemmas.{compiles_some, specifies_some}

-- ---- what was written, and how many operations ran

-- a count stays where no operation ran
pub grew_none : (c ran : ℕ) → c < 2 ^ 64 → RanNone ran → Grew c c ran
grew_none c ran small none = omega (arith, small, none)

-- a stage that stops, before anything was written
pub stop_writes : {T B : Type 0} (S : Result B Refusal → Type 0) (view : T → B) (R : Result Shown Refusal → Type 0) (a : Option (List ℕ)) (G : ℕ → Type 0) (h : Halt)
    → ((e : Refusal) → S (Err e) → R (Err e)) → G 0 → Obtains S view (Err h) → Writes R a a G (Err h)
stop_writes S view R a G (Refused x) f n g = (f x g, Appends-nil a, n)
stop_writes S view R a G ReadFault f n g = (Appends-nil a, n)
stop_writes S view R a G WriteFault f n g = absurd g
stop_writes S view R a G NoMemory f n g = inl (Appends-nil a)

front_map : (S R : Result Shown Refusal → Type 0) (a b : Option (List ℕ)) (G : ℕ → Type 0) → ((r : Result Shown Refusal) → S r → R r) → WritesFront S a b G → WritesFront R a b G
front_map S R a b G f w = (w.0, w.1, f (Ok w.0) w.2, w.3, w.4)

-- what was written of one stage was written of a row of stages that comes to the same
pub writes_map : (S R : Result Shown Refusal → Type 0) (a b : Option (List ℕ)) (G : ℕ → Type 0) (x : Result Ending Halt)
    → ((r : Result Shown Refusal) → S r → R r) → Writes S a b G x → Writes R a b G x
writes_map S R a b G (Ok e) f g = (g.0, g.1, f (Ok (shown e g.0 g.1)) g.2, g.3, g.4)
writes_map S R a b G (Err (Refused x)) f g = (f (Err x) g.0, g.1, g.2)
writes_map S R a b G (Err ReadFault) f g = g
writes_map S R a b G (Err WriteFault) f g = front_map S R a b G f g
writes_map S R a b G (Err NoMemory) f (inl w) = inl w
writes_map S R a b G (Err NoMemory) f (inr w) = inr (front_map S R a b G f w)

-- a command that writes what is due
pub show_writes : {A : Type 0} (due : A → Due) (l : A) (a b : Option (List ℕ)) (G : ℕ → Type 0) (x : Result Ending Halt)
    → Streams (due l) a b G x → Writes (Shows due l) a b G x
show_writes due l a b G (Ok e) g = g
show_writes due l a b G (Err (Refused x)) g = absurd g
show_writes due l a b G (Err ReadFault) g = absurd g
show_writes due l a b G (Err WriteFault) g = g
show_writes due l a b G (Err NoMemory) (inl w) = inl w
show_writes due l a b G (Err NoMemory) (inr g) = inr g

-- a text as it is shown
abbrev pub text_shown : List ℕ → Shown
text_shown text = shown Done text 0

-- a text whose writing stopped
pub front_writes : (S : Result Shown Refusal → Type 0) (a b : Option (List ℕ)) (text : List ℕ) (h : Halt) → S (Ok (text_shown text)) → IsOfWriting h → AppendsFront a b text
    → Writes S a b RanNone (Err h)
front_writes S a b text (Refused x) s w f = absurd w
front_writes S a b text ReadFault s w f = absurd w
front_writes S a b text WriteFault s w f = (text_shown text, f.0, s, f.1, refl)
front_writes S a b text NoMemory s w f = inr (text_shown text, f.0, s, f.1, refl)

-- writing reads nothing
pub writing_reads : (h : Halt) → IsOfWriting h → IsReadFault h → ⊥
writing_reads (Refused x) w f = f
writing_reads ReadFault w f = w
writing_reads WriteFault w f = f
writing_reads NoMemory w f = f

-- what is written without a runner leaves the count of each as it was
pub streams_alike : (due : Due) (a b : Option (List ℕ)) (c : ℕ) (x : Result Ending Halt) → c < 2 ^ 64 → Streams due a b RanNone x → Streams due a b (Grew c c) x
streams_alike due a b c (Ok e) small g = (g.0, g.1, g.2, g.3, grew_none c g.1 small g.4)
streams_alike due a b c (Err (Refused x)) small g = g
streams_alike due a b c (Err ReadFault) small g = g
streams_alike due a b c (Err WriteFault) small g = (g.0, g.1, g.2, g.3, grew_none c g.0.ran small g.4)
streams_alike due a b c (Err NoMemory) small (inl w) = inl w
streams_alike due a b c (Err NoMemory) small (inr g) = inr (g.0, g.1, g.2, g.3, grew_none c g.0.ran small g.4)

-- the same of a result of a stage
pub writes_alike : (S : Result Shown Refusal → Type 0) (a b : Option (List ℕ)) (c : ℕ) (x : Result Ending Halt) → c < 2 ^ 64 → Writes S a b RanNone x → Writes S a b (Grew c c) x
writes_alike S a b c (Ok e) small g = (g.0, g.1, g.2, g.3, grew_none c g.1 small g.4)
writes_alike S a b c (Err (Refused x)) small g = (g.0, g.1, grew_none c 0 small g.2)
writes_alike S a b c (Err ReadFault) small g = (g.0, grew_none c 0 small g.1)
writes_alike S a b c (Err WriteFault) small g = (g.0, g.1, g.2, g.3, grew_none c g.0.ran small g.4)
writes_alike S a b c (Err NoMemory) small (inl w) = inl w
writes_alike S a b c (Err NoMemory) small (inr g) = inr (g.0, g.1, g.2, g.3, grew_none c g.0.ran small g.4)

-- a stage that stops doesn't use the sink
pub stop_sink : {T B K : Type 0} (S : Result B Refusal → Type 0) (view : T → B) (faults calls : K → ℕ) (out : K) (h : Halt) → Obtains S view (Err h)
    → UsesSink faults calls out out (FailsToWrite {T = Ending} (Err h))
stop_sink S view faults calls out (Refused x) g = record { never_falls = omega arith; failed = λ f. absurd f; goes_on = omega arith }
stop_sink S view faults calls out ReadFault g = record { never_falls = omega arith; failed = λ f. absurd f; goes_on = omega arith }
stop_sink S view faults calls out WriteFault g = absurd g
stop_sink S view faults calls out NoMemory g = record { never_falls = omega arith; failed = λ f. absurd f; goes_on = omega arith }

-- what writes reads nothing
pub never_reads : (due : Due) (a b : Option (List ℕ)) (G : ℕ → Type 0) (x : Result Ending Halt) → Streams due a b G x → FailsToRead x → ⊥
never_reads due a b G (Ok s) g f = f
never_reads due a b G (Err (Refused x)) g f = f
never_reads due a b G (Err ReadFault) g f = g
never_reads due a b G (Err WriteFault) g f = f
never_reads due a b G (Err NoMemory) g f = f

pub show_unwritten : {P : Type 0} (due : Due) (a b : Option (List ℕ)) (G : ℕ → Type 0) (x : Result Ending Halt) → Streams due a b G x → FailsToRead x → P
show_unwritten due a b G x g f = absurd (never_reads due a b G x g f)

-- ---- names

pub Asks-nil : (a : Names) → Asks a a []
Asks-nil None = tt
Asks-nil (Some x) = sym (append-nil x)

Asks-trans : (a b c : Names) (xs ys : List (List ℕ)) → Asks a b xs → Asks b c ys → Asks a c (xs ++ ys)
Asks-trans None b c xs ys h k = tt
Asks-trans (Some x) None c xs ys h k = absurd h
Asks-trans (Some x) (Some y) None xs ys h k = absurd k
Asks-trans (Some x) (Some y) (Some z) xs ys h k = k ∙ ap (λ (l : List (List ℕ)). l ++ ys) h ∙ append_assoc x xs ys

-- the first of some names are the first of more
front_more : (a b : Names) (names more : List (List ℕ)) → AsksFront a b names → AsksFront a b (names ++ more)
front_more a b names more w =
    let count : ℕ = min w.0 (length names) in
    let within : min w.0 (length names) ≤ length names = omega arith in (
      count,
      subst (λ (l : List (List ℕ)). Asks a b l) (sym (take_min w.0 names) ∙ sym (take-append-le count names more within)) w.1,
    )

-- all of some names, and then the first of others
front_after : (a b c : Names) (names more : List (List ℕ)) → Asks a b names → AsksFront b c more → AsksFront a c (names ++ more)
front_after a b c names more all w = (
  length names + w.0,
  subst (λ (l : List (List ℕ)). Asks a c l) (sym (take-append-add names more w.0)) (Asks-trans a b c names (take w.0 more) all w.1),
)

abbrev pub FrontDue : (List (List ℕ) → Type 0) → Names → Names → Type 0
FrontDue due a b = (names : List (List ℕ)) × due names × AsksFront a b names

-- what was asked for by now is the front of what is due, whatever becomes of the specification
front_by : (told : Option Folder) (r : Request) (names : List (List ℕ)) (a b : Names) → AsksForFile told (spec_of r) names → AsksFront a b names
    → (q : Result Compiled Refusal) × Specifies told (spec_of r) q → FrontDue (AsksFrom told r) a b
front_by told r names a b text front (Err x, j) = (names, unsound text j, front)
front_by told r names a b text front (Ok u, j) = (names ++ asked_after r, sound names text j, front_more a b names (asked_after r) front)

pub front_due : (told : Option Folder) (r : Request) (names : List (List ℕ)) (a b : Names) → AsksForFile told (spec_of r) names → AsksFront a b names
    → Surely (FrontDue (AsksFrom told r) a b)
front_due told r names a b text front = surely_map (front_by told r names a b text front) (specifies_some told (spec_of r))

-- the names of a specification, and those that are asked for then
names_joined : (told : Option Folder) (r : Request) (t : Tree) (names more : List (List ℕ)) → Reads told (spec_of r) (Ok t) → AsksForFile told (spec_of r) names
    → AsksAfter r t more → AsksFrom told r (names ++ more)
names_joined told r t names more read text (asks_none h) = subst (AsksFrom told r) (sym (append-nil names)) (unsound text (goes read h))
names_joined told r t names more read text (asks_rest h) = sound names text (goes read h)

-- nothing was asked for once the tree is there, whatever becomes of it
after_by : (r : Request) (t : Tree) (a : Names) → (q : Result Compiled Refusal) × Compiles t q → FrontDue (AsksAfter r t) a a
after_by r t a (Err x, h) = ([], asks_none h, (0, Asks-nil a))
after_by r t a (Ok u, h) = (asked_after r, asks_rest h, (0, Asks-nil a))

-- what becomes of the tree becomes of the request
pub from_tree : (told : Option Folder) (r : Request) (t : Tree) (x : Result Shown Refusal) → Reads told (spec_of r) (Ok t) → Then Compiles (Follows told r) t x → AnswersFrom told r x
from_tree told r t x read (stops h) = stops (goes read h)
from_tree told r t x read (goes h k) = goes (goes read h) k

module _ {F : Type 0} (told : F → Option Folder) (faults : F → ℕ) (asked : F → Names) where
  abbrev Uses : F → F → List (List ℕ) → Type 0 → Type 0 → Type 0
  Uses = UsesFiles told faults asked

  abbrev UsesFor : (List (List ℕ) → Type 0) → F → F → Type 0 → Type 0 → Type 0
  UsesFor = UsesFilesFor told faults asked

  -- a command that reads nothing asks for nothing
  pub idle : (old : F) (early fails : Type 0) → (fails → ⊥) → Uses old old [] early fails
  idle old early fails never = record {
    same_folder = refl;
    never_falls = omega arith;
    failed = λ f. absurd (never f);
    asks_front = (0, Asks-nil (asked old));
    asks_all = λ n. Asks-nil (asked old);
  }

  -- files were read, and nothing more
  pub read_before : (old new : F) (names : List (List ℕ)) (early fails : Type 0) (q : Result Ending Halt) → Uses old new names early fails → (early → ⊥) → (FailsToRead q → ⊥)
      → Uses old new names (IsEarly q) (FailsToRead q)
  read_before old new names early fails q v also never = record {
    same_folder = v.same_folder;
    never_falls = v.never_falls;
    failed = λ h. absurd (never h);
    asks_front = v.asks_front;
    asks_all = λ n. v.asks_all also;
  }

  -- files were read, and a command that writes reads nothing more
  pub read_all : (old new : F) (names : List (List ℕ)) (early fails : Type 0) (due : Due) (x y : Option (List ℕ)) (G : ℕ → Type 0) (q : Result Ending Halt)
      → Uses old new names early fails → (early → ⊥) → Streams due x y G q → Uses old new names (IsEarly q) (FailsToRead q)
  read_all old new names early fails due x y G q v also s = read_before old new names early fails q v also (never_reads due x y G q s)

  -- ---- the specification, and what is asked for after it

  module _ (r : Request) where
    -- the names of the specification were asked for
    abbrev AsksText : F → F → Type 0 → Type 0 → Type 0
    AsksText old new early fails = (names : List (List ℕ)) × AsksForFile (told old) (spec_of r) names × Uses old new names early fails

    refuses : (old new : F) (early fails f : Type 0) (x : Refusal) → Specifies (told old) (spec_of r) (Err x) → AsksText old new early fails → (early → ⊥) → (f → ⊥)
        → UsesFor (AsksFrom (told old) r) old new ⊥ f
    refuses old new early fails f x j w never no_fault = record {
      same_folder = w.2.same_folder;
      never_falls = w.2.never_falls;
      failed = λ h. absurd (no_fault h);
      asks_front = surely (let p : FrontDue (AsksFrom (told old) r) (asked old) (asked new) = (w.0, unsound w.1 j, w.2.asks_front) in p);
      asks_all = λ n. (w.0, unsound w.1 j, w.2.asks_all never);
    }

    stops_early : (old new : F) (early fails f : Type 0) → AsksText old new early fails → (f → Rose (faults old) (faults new)) → UsesFor (AsksFrom (told old) r) old new (Unit {0}) f
    stops_early old new early fails f w failed = record {
      same_folder = w.2.same_folder;
      never_falls = w.2.never_falls;
      failed = failed;
      asks_front = front_due (told old) r w.0 (asked old) (asked new) w.1 w.2.asks_front;
      asks_all = λ n. absurd (n tt);
    }

    -- the file could not be had, or was refused
    pub stop_first : {T B : Type 0} (S : Result B Refusal → Type 0) (view : T → B) (old new : F) (h : Halt)
        → ((e : Refusal) → S (Err e) → Specifies (told old) (spec_of r) (Err e)) → Obtains S view (Err h)
        → AsksText old new (IsEarly {T = T} (Err h)) (FailsToRead {T = T} (Err h))
        → UsesFor (AsksFrom (told old) r) old new (IsEarly {T = Ending} (Err h)) (FailsToRead {T = Ending} (Err h))
    stop_first S view old new (Refused x) f g w = refuses old new _ _ _ x (f x g) w (λ e. e) (λ e. e)
    stop_first S view old new ReadFault f g w = stops_early old new _ _ _ w (λ e. w.2.failed e)
    stop_first S view old new WriteFault f g w = absurd g
    stop_first S view old new NoMemory f g w = stops_early old new _ _ _ w (λ e. absurd e)

    -- the file was read and has no tree
    pub stop_second : {T B : Type 0} (S : Result B Refusal → Type 0) (view : T → B) (old new : F) (early fails : Type 0) (h : Halt)
        → ((e : Refusal) → S (Err e) → Specifies (told old) (spec_of r) (Err e)) → Gives S view (Err h) → AsksText old new early fails → (early → ⊥)
        → UsesFor (AsksFrom (told old) r) old new (IsEarly {T = Ending} (Err h)) (FailsToRead {T = Ending} (Err h))
    stop_second S view old new early fails (Refused x) f g w never = refuses old new early fails _ x (f x g) w never (λ e. e)
    stop_second S view old new early fails ReadFault f g w never = absurd g
    stop_second S view old new early fails WriteFault f g w never = absurd g
    stop_second S view old new early fails NoMemory f g w never = stops_early old new early fails _ w (λ e. absurd e)

    -- the tree is there, and what follows asks for its own names
    pub after_tree : (old mid new : F) (t : Tree) (early fails e f : Type 0) → Reads (told old) (spec_of r) (Ok t) → AsksText old mid early fails → (early → ⊥)
        → UsesFor (AsksAfter r t) mid new e f → UsesFor (AsksFrom (told old) r) old new e f
    after_tree old mid new t early fails e f read w never v =
        let all = w.2.asks_all never in
        record {
          same_folder = v.same_folder ∙ w.2.same_folder;
          never_falls = omega (arith, w.2.never_falls, v.never_falls);
          failed = λ h. rose_more _ _ _ w.2.never_falls (v.failed h);
          asks_front = surely_map (λ (q : FrontDue (AsksAfter r t) (asked mid) (asked new)).
              let p : FrontDue (AsksFrom (told old) r) (asked old) (asked new) =
              (w.0 ++ q.0, names_joined (told old) r t w.0 q.0 read w.1 q.1, front_after (asked old) (asked mid) (asked new) w.0 q.0 all q.2) in p) v.asks_front;
          asks_all = λ n.
              let q = v.asks_all n in
              (w.0 ++ q.0, names_joined (told old) r t w.0 q.0 read w.1 q.1, Asks-trans (asked old) (asked mid) (asked new) w.0 q.0 all q.2);
        }

    -- ---- what follows the tree

    -- the tree isn't sound, or memory ran out
    pub stop_after : {U : Type 0} (t : Tree) (view : U → Compiled) (old : F) (h : Halt) → Gives (Compiles t) view (Err h)
        → UsesFor (AsksAfter r t) old old (IsEarly {T = Ending} (Err h)) (FailsToRead {T = Ending} (Err h))
    stop_after t view old (Refused x) g = record {
      same_folder = refl;
      never_falls = omega arith;
      failed = λ n. absurd n;
      asks_front = surely (let p : FrontDue (AsksAfter r t) (asked old) (asked old) = ([], asks_none g, (0, Asks-nil (asked old))) in p);
      asks_all = λ n. ([], asks_none g, Asks-nil (asked old));
    }
    stop_after t view old ReadFault g = absurd g
    stop_after t view old WriteFault g = absurd g
    stop_after t view old NoMemory g = record {
      same_folder = refl;
      never_falls = omega arith;
      failed = λ n. absurd n;
      asks_front = surely_map (after_by r t (asked old)) (compiles_some t);
      asks_all = λ n. absurd (n tt);
    }

    -- the tree is sound
    pub follows : (old new : F) (t : Tree) (u : Compiled) (e f : Type 0) → Compiles t (Ok u) → Uses old new (asked_after r) e f → UsesFor (AsksAfter r t) old new e f
    follows old new t u e f h v = record {
      same_folder = v.same_folder;
      never_falls = v.never_falls;
      failed = v.failed;
      asks_front = surely (let p : FrontDue (AsksAfter r t) (asked old) (asked new) = (asked_after r, asks_rest h, v.asks_front) in p);
      asks_all = λ n. (asked_after r, asks_rest h, v.asks_all n);
    }
