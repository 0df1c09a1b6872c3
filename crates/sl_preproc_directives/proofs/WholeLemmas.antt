-- Replacement writes the whole value of a name.
use Rattle.std.proofs.Common.{◌≡◌, Bool, true, false, cond, max, IfSome, nat_lt, ◌⊎◌, inl, inr, ℕ, zero, suc, ◌+◌, ◌-◌, ◌<◌, ◌≤◌, List, [], ◌∷◌, ◌++◌, length, get_or, take, drop, Option, Some, None, Ok, Err, arith, refl, sym, ap, ◌∙◌, subst}
use Rattle.std.proofs.lemmas.List.{append_assoc, append-nil, take_all}
use Rattle.std.specs.Str.{bytes_eq}
use Rattle.std.specs.Cmp.Lexicographic.{bytes_decides}
use Rattle.sl_outside.specs.Folder.{size_limit}
use Rattle.sl_preproc_directives.specs.declared.fault.Cause.TheVariants.{TooLong}
use Rattle.sl_preproc_directives.specs.Parts.{◌>>=◌}
use Rattle.sl_preproc_directives.specs.Outcomes.{◌>>◌}
use Rattle.sl_preproc_directives.specs.Definitions.{Values}
use Rattle.sl_preproc_directives.specs.Replacement.{Page, Written, Piece, Byte, Name, put, put_all, with_byte, piece_by, pieces, all_pieces, reference_at, write_pieces, write_name, value_or_stays}
use Rattle.sl_preproc_directives.specs.Wholes.{piece_whole, whole_pieces, whole, Wholes, nothing_known, with_whole, joined, AreWholes, IsWholeText, IsWholeName, IsWholeValue}

-- ---- options

then_some : {A B : Type 0} (o : Option A) (f : A → Option B) (y : B) → (o >>= f) ≡ Some y → (x : A) × (o ≡ Some x) × (f x ≡ Some y)
then_some None f y h = absurd (cc)
then_some (Some x) f y h = (x, refl, h)

-- ---- more levels

-- a function from names gives at least what another gives
abbrev GivesAll : (List ℕ → Option (List ℕ)) → (List ℕ → Option (List ℕ)) → Type 0
GivesAll f g = (name bytes : List ℕ) → f name ≡ Some bytes → g name ≡ Some bytes

more_piece : (f g : List ℕ → Option (List ℕ)) (piece : Piece) (bytes : List ℕ) → GivesAll f g → piece_whole f piece ≡ Some bytes → piece_whole g piece ≡ Some bytes
more_piece f g (Byte b) bytes h e = e
more_piece f g (Name name) bytes h e = h name bytes e

more_pieces : (f g : List ℕ → Option (List ℕ)) (ps : List Piece) (bytes : List ℕ) → GivesAll f g → whole_pieces f ps ≡ Some bytes → whole_pieces g ps ≡ Some bytes
unfolding whole_pieces
more_pieces f g [] bytes h e = e
more_pieces f g (piece ∷ ps) bytes h e =
    let a = then_some (piece_whole f piece) _ bytes e in
    let b = then_some (whole_pieces f ps) _ bytes a.2 in
    rw (more_piece f g piece a.0 h a.1, more_pieces f g ps b.0 h b.1) b.2

one_more : (left : ℕ) (defs : Values) → GivesAll (whole left defs) (whole (suc left) defs)
unfolding whole
one_more zero defs name bytes e = absurd (cc)
one_more (suc left) defs name bytes e =
    let a = then_some (defs name) _ bytes e in
    rw a.1 (more_pieces (whole left defs) (whole (suc left) defs) (all_pieces a.0) bytes (one_more left defs) a.2)

many_more : (n left : ℕ) (defs : Values) → GivesAll (whole left defs) (whole (n + left) defs)
many_more zero left defs name bytes e = subst (λ m. whole m defs name ≡ Some bytes) (omega arith) e
many_more (suc n) left defs name bytes e =
    let k : suc (n + left) ≡ suc n + left = omega arith in
    subst (λ m. whole m defs name ≡ Some bytes) k (one_more (n + left) defs name bytes (many_more n left defs name bytes e))

pub more_levels : (few many : ℕ) (defs : Values) → few ≤ many → GivesAll (whole few defs) (whole many defs)
more_levels few many defs h name bytes e =
    let k : (many - few) + few ≡ many = omega arith in
    subst (λ m. whole m defs name ≡ Some bytes) k (many_more (many - few) few defs name bytes e)

-- ---- what is written

some_is : {A : Type 0} (a b : A) → Some a ≡ Some b → a ≡ b
some_is a b h = cc

then_nothing : (w : Written) → (w >> put_all []) ≡ w
unfolding put_all
then_nothing (Ok page) = refl
then_nothing (Err e) = refl

then_alike : (w : Written) (f g : Page → Written) → ((page : Page) → f page ≡ g page) → (w >> f) ≡ (w >> g)
then_alike (Ok page) f g h = h page
then_alike (Err e) f g h = refl

then_then : (w : Written) (f g : Page → Written) → (w >> λ page. f page >> g) ≡ ((w >> f) >> g)
then_then (Ok page) f g = refl
then_then (Err e) f g = refl

put_both : (a b : List ℕ) (page : Page) → put_all (a ++ b) page ≡ (put_all a page >> put_all b)
unfolding put_all
put_both [] b page = refl
put_both (x ∷ a) b page = then_alike (put x page) (put_all (a ++ b)) (λ p. put_all a p >> put_all b) (λ p. put_both a b p) ∙ then_then (put x page) (put_all a) (put_all b)

put_piece : (named : List ℕ → Page → Written) (f : List ℕ → Option (List ℕ)) (piece : Piece) (bytes : List ℕ) (page : Page)
    → ((name bytes : List ℕ) (page : Page) → f name ≡ Some bytes → named name page ≡ put_all bytes page)
    → piece_whole f piece ≡ Some bytes → piece_by named piece page ≡ put_all bytes page
unfolding put_all
put_piece named f (Byte b) bytes page h e = sym (then_nothing (put b page)) ∙ ap (λ s. put_all s page) (some_is (b ∷ []) bytes e)
put_piece named f (Name name) bytes page h e = h name bytes page e

-- the pieces are written as their whole
writes_pieces : (named : List ℕ → Page → Written) (f : List ℕ → Option (List ℕ)) (ps : List Piece) (bytes : List ℕ) (page : Page)
    → ((name bytes : List ℕ) (page : Page) → f name ≡ Some bytes → named name page ≡ put_all bytes page)
    → whole_pieces f ps ≡ Some bytes → write_pieces named ps page ≡ put_all bytes page
unfolding whole_pieces write_pieces put_all
writes_pieces named f [] bytes page h e = ap (λ s. put_all s page) (some_is [] bytes e)
writes_pieces named f (piece ∷ ps) bytes page h e =
    let a = then_some (piece_whole f piece) _ bytes e in
    let b = then_some (whole_pieces f ps) _ bytes a.2 in
    ap (λ (w : Written). w >> write_pieces named ps) (put_piece named f piece a.0 page h a.1)
    ∙ then_alike (put_all a.0 page) (write_pieces named ps) (put_all b.0) (λ p. writes_pieces named f ps b.0 p h b.1)
    ∙ sym (put_both a.0 b.0 page) ∙ ap (λ s. put_all s page) (some_is (a.0 ++ b.0) bytes b.2)

writes_name : (left : ℕ) (defs : Values) (name bytes : List ℕ) (page : Page) → whole left defs name ≡ Some bytes → write_name left defs name page ≡ put_all bytes page
unfolding whole write_name
writes_name zero defs name bytes page e = absurd (cc)
writes_name (suc left) defs name bytes page e =
    let a = then_some (defs name) _ bytes e in
    ap (value_or_stays (write_name left defs) name page) a.1 ∙ writes_pieces (write_name left defs) (whole left defs) (all_pieces a.0) bytes page (writes_name left defs) a.2

-- what is known of a name is what is written for it
pub writes_known : (left : ℕ) (defs : Values) (known : Wholes) (name : List ℕ) (w : ℕ × List ℕ) (page : Page) → AreWholes defs known → known name ≡ Some w → w.0 ≤ left
    → write_name left defs name page ≡ put_all w.1 page
writes_known left defs known name w page are e h = writes_name left defs name w.1 page (more_levels w.0 left defs h name w.1 (are name w e))

-- ---- what stands on the page behind

ok_is : (p q : Page) → ◌≡◌ {A = Written} (Ok p) (Ok q) → p ≡ q
ok_is p q h = cc

pub after_put : (b : ℕ) (page new : Page) → put b page ≡ Ok new → new.text ≡ page.text ++ b ∷ []
unfolding put
after_put b page new h = fits (nat_lt (length page.text) size_limit) h
  where
    fits : (t : Bool) → cond t (Ok (with_byte b page)) (Err TooLong) ≡ Ok new → new.text ≡ page.text ++ b ∷ []
    fits true h = ap (λ (p : Page). p.text) (sym (ok_is (with_byte b page) new h))
    fits false h = absurd (cc)

pub after_put_all : (bytes : List ℕ) (page new : Page) → put_all bytes page ≡ Ok new → new.text ≡ page.text ++ bytes
unfolding put_all
after_put_all [] page new h = let e : page ≡ new = cc in ap (λ (p : Page). p.text) (sym e) ∙ sym (append-nil page.text)
after_put_all (b ∷ bytes) page new h =
    let a = then_ok (put b page) (put_all bytes) new h in
    after_put_all bytes a.0 new a.2 ∙ ap (λ s. s ++ bytes) (after_put b page a.0 a.1) ∙ append_assoc page.text (b ∷ []) bytes
  where
    then_ok : (w : Written) (f : Page → Written) (new : Page) → (w >> f) ≡ Ok new → (p : Page) × (w ≡ Ok p) × (f p ≡ Ok new)
    then_ok (Ok p) f new h = (p, refl, h)
    then_ok (Err e) f new h = absurd (cc)

-- ---- the pieces of a text, as a loop reads them

-- What is left has a whole where the text has one, and what is done is in front of it.
abbrev pub Goes : Values → List ℕ → ℕ → List ℕ → ℕ → List ℕ → Type 0
Goes defs text levels done n rest = (left : ℕ) → levels ≤ left → (bytes : List ℕ) → whole_pieces (whole left defs) (pieces n rest) ≡ Some bytes
    → whole_pieces (whole left defs) (all_pieces text) ≡ Some (done ++ bytes)

-- how far the loop is
pub record IsAlong (defs : Values) (left : ℕ) (text : List ℕ) (n : ℕ) (rest old new : List ℕ) (levels : ℕ) : Type 0 where
  pub bytes : List ℕ
  pub grown : new ≡ old ++ bytes
  pub within : levels ≤ left
  pub goes : Goes defs text levels bytes n rest

pub goes_first : (defs : Values) (text : List ℕ) → Goes defs text 0 [] (length text) text
goes_first defs text left h bytes e = e

name_whole : (f : List ℕ → Option (List ℕ)) (n : ℕ) (s name behind a b : List ℕ) → 1 ≤ length s → reference_at s ≡ Some (name, behind)
    → f name ≡ Some a → whole_pieces f (pieces n behind) ≡ Some b → whole_pieces f (pieces (suc n) s) ≡ Some (a ++ b)
unfolding whole_pieces pieces
name_whole f n [] name behind a b some h e g = absurd (omega arith)
name_whole f n (x ∷ s) name behind a b some h e g = rw (h, e, g) refl

byte_whole : (f : List ℕ → Option (List ℕ)) (n : ℕ) (s b : List ℕ) (d : ℕ) → 1 ≤ length s → reference_at s ≡ None
    → whole_pieces f (pieces n (take (length s - 1) (drop 1 s))) ≡ Some b → whole_pieces f (pieces (suc n) s) ≡ Some (get_or s 0 d ∷ b)
unfolding whole_pieces pieces
byte_whole f n [] b d some h g = absurd (omega arith)
byte_whole f n (x ∷ s) b d some h g =
    let k : suc (length s) - 1 ≡ length s = omega arith in
    let all : take (length s) s ≡ s = take_all (length s) s (omega arith) in
    let rest : whole_pieces f (pieces n s) ≡ Some b = subst (λ r. whole_pieces f (pieces n r) ≡ Some b) all (subst (λ m. whole_pieces f (pieces n (take m s)) ≡ Some b) k g) in
    rw (h, rest) refl

pub goes_name : (defs : Values) (text : List ℕ) (levels more : ℕ) (done : List ℕ) (n : ℕ) (rest name behind bytes : List ℕ) → 1 ≤ length rest
    → reference_at rest ≡ Some (name, behind) → whole more defs name ≡ Some bytes → Goes defs text levels done (suc n) rest → Goes defs text (max levels more) (done ++ bytes) n behind
goes_name defs text levels more done n rest name behind bytes some h e g left le b k =
    g left (omega arith) (bytes ++ b) (name_whole (whole left defs) n rest name behind bytes b some h (more_levels more left defs (omega arith) name bytes e) k)
    ∙ ap Some (sym (append_assoc done bytes b))

pub goes_byte : (defs : Values) (text : List ℕ) (levels : ℕ) (done : List ℕ) (n : ℕ) (rest : List ℕ) (d : ℕ) → 1 ≤ length rest
    → reference_at rest ≡ None → Goes defs text levels done (suc n) rest → Goes defs text levels (done ++ get_or rest 0 d ∷ []) n (take (length rest - 1) (drop 1 rest))
goes_byte defs text levels done n rest d some h g left le b k =
    g left le (get_or rest 0 d ∷ b) (byte_whole (whole left defs) n rest b d some h k) ∙ ap Some (sym (append_assoc done (get_or rest 0 d ∷ []) b))

nothing_whole : (f : List ℕ → Option (List ℕ)) (n : ℕ) (s : List ℕ) → (length s < 1) ⊎ (n ≡ 0) → whole_pieces f (pieces n s) ≡ Some []
unfolding whole_pieces pieces
nothing_whole f zero s h = refl
nothing_whole f (suc n) [] h = refl
nothing_whole f (suc n) (x ∷ s) (inl h) = absurd (omega arith)
nothing_whole f (suc n) (x ∷ s) (inr h) = absurd (omega arith)

pub goes_out : (defs : Values) (text : List ℕ) (levels : ℕ) (done : List ℕ) (n : ℕ) (rest : List ℕ) → (length rest < 1) ⊎ (n ≡ 0) → Goes defs text levels done n rest → IsWholeText defs text levels done
goes_out defs text levels done n rest h g left le = g left le [] (nothing_whole (whole left defs) n rest h) ∙ ap Some (append-nil done)

-- the whole value of a name, from that of the text of its value
pub value_whole : (levels : ℕ) (defs : Values) (name value bytes : List ℕ) → defs name ≡ Some value → IsWholeText defs value levels bytes → whole (levels + 1) defs name ≡ Some bytes
unfolding whole
value_whole levels defs name value bytes h w =
    let k : suc levels ≡ levels + 1 = omega arith in
    let one : whole (suc levels) defs name ≡ Some bytes = rw h (w levels (omega arith)) in
    subst (λ m. whole m defs name ≡ Some bytes) k one

-- one more is known
pub more_known : (defs : Values) (known : Wholes) (name : List ℕ) (w : ℕ × List ℕ) → AreWholes defs known → whole w.0 defs name ≡ Some w.1 → AreWholes defs (with_whole name w known)
more_known defs known name w are e other x h = by_name (bytes_eq name other) refl h
  where
    by_name : (t : Bool) → bytes_eq name other ≡ t → cond t (Some w) (known other) ≡ Some x → whole x.0 defs other ≡ Some x.1
    by_name true same h =
        let n : name ≡ other = (bytes_decides name other).0 same in
        subst (λ y. whole y.0 defs other ≡ Some y.1) (some_is w x h) (subst (λ m. whole w.0 defs m ≡ Some w.1) n e)
    by_name false same h = are other x h

-- ---- the loop

pub along_first : (defs : Values) (left : ℕ) (text page : List ℕ) → IsAlong defs left text (length text) text page page 0
along_first defs left text page = record { bytes = []; grown = sym (append-nil page); within = omega arith; goes = goes_first defs text }

pub along_name : (defs : Values) (left : ℕ) (text : List ℕ) (most i : ℕ) (rest name behind old page new : List ℕ) (levels more : Option ℕ) → i < most → 1 ≤ length rest
    → reference_at rest ≡ Some (name, behind) → IfSome levels (IsAlong defs left text (most - i) rest old page)
    → IfSome more (λ m. IsWholeName defs left name m page new)
    → IfSome (joined levels more) (IsAlong defs left text (most - (i + 1)) behind old new)
along_name defs left text most i rest name behind old page new None more lt some h a w = tt
along_name defs left text most i rest name behind old page new (Some levels) None lt some h a w = tt
along_name defs left text most i rest name behind old page new (Some levels) (Some more) lt some h a w =
    let next : most - i ≡ suc (most - (i + 1)) = omega arith in
    let one = a.within in
    let two = w.within in record {
      bytes = a.bytes ++ w.bytes;
      grown = w.grown ∙ ap (λ s. s ++ w.bytes) a.grown ∙ append_assoc old a.bytes w.bytes;
      within = omega (arith, one, two);
      goes = goes_name defs text levels more a.bytes (most - (i + 1)) rest name behind w.bytes some h w.is (subst (λ n. Goes defs text levels a.bytes n rest) next a.goes);
    }

pub along_byte : (defs : Values) (left : ℕ) (text : List ℕ) (most i : ℕ) (rest old page new : List ℕ) (d : ℕ) (levels : Option ℕ) → i < most → 1 ≤ length rest
    → reference_at rest ≡ None → IfSome levels (IsAlong defs left text (most - i) rest old page) → new ≡ page ++ get_or rest 0 d ∷ []
    → IfSome levels (IsAlong defs left text (most - (i + 1)) (take (length rest - 1) (drop 1 rest)) old new)
along_byte defs left text most i rest old page new d None lt some h a e = tt
along_byte defs left text most i rest old page new d (Some levels) lt some h a e =
    let next : most - i ≡ suc (most - (i + 1)) = omega arith in record {
      bytes = a.bytes ++ get_or rest 0 d ∷ [];
      grown = e ∙ ap (λ s. s ++ get_or rest 0 d ∷ []) a.grown ∙ append_assoc old a.bytes (get_or rest 0 d ∷ []);
      within = a.within;
      goes = goes_byte defs text levels a.bytes (most - (i + 1)) rest d some h (subst (λ n. Goes defs text levels a.bytes n rest) next a.goes);
    }

pub along_out : (defs : Values) (left : ℕ) (text : List ℕ) (n : ℕ) (rest old new : List ℕ) (levels : Option ℕ) → (length rest < 1) ⊎ (n ≡ 0)
    → IfSome levels (IsAlong defs left text n rest old new) → IfSome levels (λ m. IsWholeValue defs left text m old new)
along_out defs left text n rest old new None h a = tt
along_out defs left text n rest old new (Some levels) h a = record {
  bytes = a.bytes;
  grown = a.grown;
  within = a.within;
  is = goes_out defs text levels a.bytes n rest h a.goes;
}

-- what stands behind the old text is what was written
pub written_behind : (old new bytes : List ℕ) → new ≡ old ++ bytes → drop (length old) new ≡ bytes
written_behind old new bytes e = ap (drop (length old)) e ∙ behind old bytes
  where
    behind : (a b : List ℕ) → drop (length a) (a ++ b) ≡ b
    behind [] b = refl
    behind (x ∷ a) b = behind a b

-- a name whose value was written as a whole
pub named_whole : (defs : Values) (left : ℕ) (name value old new : List ℕ) (levels : ℕ) → defs name ≡ Some value → IsWholeValue defs left value levels old new
    → IsWholeName defs (left + 1) name (levels + 1) old new
named_whole defs left name value old new levels h w = let le = w.within in record {
  bytes = w.bytes;
  grown = w.grown;
  within = omega (arith, le);
  is = value_whole levels defs name value w.bytes h w.is;
}

-- a name that is known was written as a whole
pub known_whole : (defs : Values) (left : ℕ) (known : Wholes) (name : List ℕ) (w : ℕ × List ℕ) (page new : Page) → AreWholes defs known → known name ≡ Some w → w.0 ≤ left
    → put_all w.1 page ≡ Ok new → IsWholeName defs left name w.0 page.text new.text
known_whole defs left known name w page new are e le h = record { bytes = w.1; grown = after_put_all w.1 page new h; within = le; is = are name w e }

-- nothing is known once all is forgotten
pub forgotten : (defs : Values) (known : Wholes) → known ≡ nothing_known → AreWholes defs known
forgotten defs known e = subst (AreWholes defs) (sym e) (λ name w h. absurd (cc))

-- what is known once the whole of a name is added
pub known_after : (defs : Values) (known new : Wholes) (left : ℕ) (name text old page : List ℕ) (levels : ℕ) → AreWholes defs known → IsWholeName defs left name levels old page
    → text ≡ drop (length old) page → new ≡ with_whole name (levels, text) known → AreWholes defs new
known_after defs known new left name text old page levels are w e is =
    let same : w.bytes ≡ text = sym (written_behind old page w.bytes w.grown) ∙ sym e in
    subst (AreWholes defs) (sym is) (more_known defs known name (levels, text) are (w.is ∙ ap Some same))
