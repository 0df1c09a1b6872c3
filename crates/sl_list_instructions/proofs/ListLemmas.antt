-- A listing that is under way.
use Rattle.std.proofs.Common.{ℕ, ◌+◌, ◌<◌, ◌≤◌, List, [], ◌++◌, length, take, Option, Some, None, sym, subst, ◌∙◌, append_assoc, append-nil}
use Rattle.std.proofs.Math.Seq.{take-length, take-append-add}
use Rattle.std.proofs.KnownBytes.{Appends-trans}
use Rattle.std.specs.Io.KnownBytes.{Appends}
use Rattle.sl_decode_contexts.specs.Kept.{Kept}
use Rattle.sl_decode_contexts.specs.Runs.{Stands}
use Rattle.sl_decode_contexts.specs.declared.commits.Commit.{Commit}
use Rattle.sl_list_instructions.specs.Listings.{Lists, Shows, ended, shown}
use Rattle.sl_list_instructions.specs.Fronts.{begun, stopped}
use Rattle.sl_list_instructions.specs.Fronts.{AppendsFront, Begins, IsBegun, IsListed}
use Rattle.sl_list_instructions.specs.UnderWay.{IsCut, IsNext, IsUnderWay, cut, unwritten}

pub nothing_more : (old : Option (List ℕ)) → Appends old old []
nothing_more None = tt
nothing_more (Some xs) = sym (append-nil xs)

module _ (shows : Shows) (end : ℕ) where
  -- nothing was listed yet
  pub at_first : (start : ℕ) (contexts : Kept) (old : Option (List ℕ)) → Stands contexts start [] → IsUnderWay shows end 0 start contexts old old
  at_first start contexts old s = record {
    made = [];
    stands = s;
    text = [];
    goes_on = λ rest h. h;
    begins = λ rest h. h;
    written = nothing_more old;
  }

  -- one more position
  pub one_line : (at start n : ℕ) (contexts more : Kept) (old now new : Option (List ℕ))
      → (u : IsUnderWay shows end at start contexts old now) → at < end → IsNext shows at n u.made start more now new → IsUnderWay shows end (at + n) start more old new
  one_line at start n contexts more old now new u within x = record {
    made = u.made ++ x.made;
    stands = x.stands;
    text = u.text ++ x.text;
    goes_on = λ rest h. subst (Lists shows end 0 []) (sym (append_assoc u.text x.text rest)) (u.goes_on (x.text ++ rest) (shown within x.shows_it h));
    begins = λ rest h. subst (Begins shows end 0 []) (sym (append_assoc u.text x.text rest)) (u.begins (x.text ++ rest) (begun within x.shows_it h));
    written = Appends-trans old now new u.text x.text u.written x.written;
  }

  -- the end
  pub all_listed : (at start : ℕ) (contexts : Kept) (old now : Option (List ℕ)) → IsUnderWay shows end at start contexts old now → end ≤ at → IsListed shows end old now
  all_listed at start contexts old now u h =
      (u.text, subst (Lists shows end 0 []) (append-nil u.text) (u.goes_on [] (ended h)), u.written)

  -- a front of one more position
  pub cut_line : (at start : ℕ) (contexts : Kept) (old now new : Option (List ℕ))
      → (u : IsUnderWay shows end at start contexts old now) → at < end → IsCut shows at u.made now new → IsBegun shows end old new
  cut_line at start contexts old now new u within (unwritten w) = (
    u.text,
    subst (Begins shows end 0 []) (append-nil u.text) (u.begins [] stopped),
    (length u.text, subst (Appends old new) (append-nil u.text ∙ sym (take-length u.text)) (Appends-trans old now new u.text [] u.written w)),
  )
  cut_line at start contexts old now new u within (cut {n = n} {text = text} {ds = ds} s w) = (
    u.text ++ text,
    u.begins text (subst (Begins shows end at u.made) (append-nil text) (begun within s stopped)),
    (
      length u.text + w.0,
      subst (Appends old new) (sym (take-append-add u.text text w.0)) (Appends-trans old now new u.text (take w.0 text) u.written w.1),
    ),
  )

module _ (shows : Shows) (at n : ℕ) (cs : List Commit) (text : List ℕ) (ds : List Commit) (old new : Option (List ℕ)) where
  pub next_of : (start : ℕ) (contexts : Kept) → shows at cs text n ds → Stands contexts start (cs ++ ds) → Appends old new text → IsNext shows at n cs start contexts old new
  next_of start contexts s stands w = record { text = text; made = ds; shows_it = s; stands = stands; written = w }

  pub cut_of : shows at cs text n ds → AppendsFront old new text → IsCut shows at cs old new
  cut_of s w = cut s w

pub whole_front : (old new : Option (List ℕ)) (text : List ℕ) → Appends old new text → AppendsFront old new text
whole_front old new text w = (length text, subst (Appends old new) (sym (take-length text)) w)
