-- Shapes of the tables below while lists are added, and shapes of joined patterns.
use Rattle.std.proofs.Common.{◌≡◌, ℕ, inl, inr, Bool, true, false, cond, List, [], ◌∷◌, map, length, Option, Some, None, refl, sym, ap, ◌∙◌, subst, arith}
use Rattle.std.proofs.lemmas.List.{append-nil, length-append}
use Rattle.std.specs.List.{AllByRecursion}
use Rattle.std.specs.Prelude.{option_and_then, option_map}
use Rattle.sl_ast.specs.Trees.{Pattern, bare, constraint, group, ellipsis, joined}
use Rattle.sl_ast.specs.Trees as trees
use Rattle.sl_ast.specs.declared.patterns.PatternOp.{PatternOp}
use Rattle.sl_ast.specs.declared.patterns.PatternOp.TheVariants.{And, Then, Or}
use Rattle.sl_ast.specs.declared.patterns.Relation.{Relation}
use Rattle.sl_shape.specs.Below.{AreSized, Gets, IsJoined, IsShaped, IsSide, Shows}
use Rattle.sl_shape.specs.Faults.{BehindTells, DifferTells, JoinTells, OrElse, ShapeTells}
use Rattle.sl_shape.specs.PatternShapes.{fixed_bytes, joined_both, list_bytes, joined_shape, name_shape, pattern_bytes, shape_by, shape_of}
use Rattle.sl_shape.specs.Stops.{Stops}
use Rattle.sl_shape.specs.declared.below.Below.{Below}
use Rattle.sl_shape.specs.declared.below.TokenLists.{TokenLists}
use Rattle.sl_shape.specs.declared.faults.Fault.{Fault}
use Rattle.sl_shape.specs.declared.faults.Fault.TheVariants as fault
use Rattle.sl_shape.specs.declared.stop.Stop.{Stop}
use Rattle.sl_shape.specs.declared.stop.Stop.TheVariants as stop
use Rattle.sl_shape_tokens.specs.Bytes.{Knows}
use Rattle.sl_shape_tokens.specs.Lists.{IsAmong, IsThere, Keeps, seen}
use Rattle.sl_shape_tokens.specs.Shapes.{Shape, both, either, extended, followed, is_fixed}
use Rattle.sl_shape_tokens.specs.declared.shapes.Shape as code
use Rattle.sl_shape_tokens.proofs.ListLemmas.{keeps_at, keeps_more}
use Rattle.sl_spec.specs.Named.{named}

-- ---- lists are added

pub keeps_same : (a : List (List ℕ)) → Keeps a a
keeps_same a = record { more = []; is = sym (append-nil a) }

-- a list that was there is there
pub keeps_there : (old now : List (List ℕ)) → Keeps old now → (l : Option ℕ) → IsAmong old l → IsAmong now l
keeps_there old now keeps None among = tt
keeps_there old now keeps (Some i) among =
    let e = ap (λ (l : List (List ℕ)). length l) keeps.is in
    let f = length-append old keeps.more in
    omega arith

pub seen_more : (old now : List (List ℕ)) → Keeps old now → (s : code.Shape) → IsThere old s → seen now s ≡ seen old s
seen_more old now keeps s there = λ i. record { kind = s.kind; tokens = keeps_at old now keeps s.tokens.0 there i }

pub all_there : (old now : List (List ℕ)) → Keeps old now → (ss : List code.Shape) → AllByRecursion (IsThere old) ss → AllByRecursion (IsThere now) ss
all_there old now keeps [] all = tt
all_there old now keeps (s ∷ ss) all = (keeps_there old now keeps s.tokens.0 all.0, all_there old now keeps ss all.1)

pub all_seen : (old now : List (List ℕ)) → Keeps old now → (ss : List code.Shape) → AllByRecursion (IsThere old) ss → map (seen now) ss ≡ map (seen old) ss
all_seen old now keeps [] all = refl
all_seen old now keeps (s ∷ ss) all = λ i. seen_more old now keeps s all.0 i ∷ all_seen old now keeps ss all.1 i

module _ (b : Below) where
  pub sized_more : (old new : TokenLists) → new.bytes ≡ old.bytes → Keeps old.all new.all → AreSized b old → AreSized b new
  sized_more old new e keeps s = record {
    sizes = ap (λ x. x.sizes.items) e ∙ s.sizes;
    old = s.old;
    knows = subst (λ x. Knows x s.old) (sym e) s.knows;
    keeps = keeps_more s.old old.all new.all s.keeps keeps;
  }

  pub shows_more : (old new : TokenLists) (shapes : List Shape) → Keeps old.all new.all → Shows b old shapes → Shows b new shapes
  shows_more old new shapes keeps s = record {
    there = all_there old.all new.all keeps b.shapes.now s.there;
    are = all_seen old.all new.all keeps b.shapes.now s.there ∙ s.are;
  }

  pub gets_more : (old new : TokenLists) (shapes : List Shape) (want : Shape) (s : code.Shape) → Keeps old.all new.all → IsThere new.all s → seen new.all s ≡ want
      → Shows b old shapes → Gets b shapes old new want s
  gets_more old new shapes want s keeps there is shows =
      record { shows = shows_more old new shapes keeps shows; keeps = keeps; there = there; is = is }

  pub gets_same : (l : TokenLists) (shapes : List Shape) (want : Shape) (s : code.Shape) → IsThere l.all s → seen l.all s ≡ want → Shows b l shapes → Gets b shapes l l want s
  gets_same l shapes want s there is shows = gets_more l l shapes want s (keeps_same l.all) there is shows

  -- ---- joined patterns

  pub side_more : (old new : TokenLists) (shapes : List Shape) (p : Pattern) (s : code.Shape) → Keeps old.all new.all → IsSide b old shapes p s → IsSide b new shapes p s
  side_more old new shapes p s keeps side = record {
    there = keeps_there old.all new.all keeps s.tokens.0 side.there;
    shape = side.shape ∙ ap (λ x. Some x) (sym (seen_more old.all new.all keeps s side.there));
  }

  pub shaped_side : (old new : TokenLists) (shapes : List Shape) (p : Pattern) (s : code.Shape) → IsShaped b shapes old new p s → IsSide b new shapes p s
  shaped_side old new shapes p s i = record { there = i.gets.there; shape = i.shape ∙ ap (λ x. Some x) (sym i.gets.is) }

  module _ (shapes : List Shape) where
    joined_is : (op : PatternOp) (p q : Pattern) (x y : Shape) (r : Option Shape) → shape_of b.tables.now shapes p ≡ Some x
        → shape_of b.tables.now shapes q ≡ Some y → joined_both op x y ≡ r → shape_of b.tables.now shapes (joined op p q) ≡ r
    unfolding shape_of
    joined_is op p q x y r e f g = (λ i. joined_shape op (e i) (f i)) ∙ g

    -- `P & Q` and `P | Q`, whose shapes need no list more
    module _ (l : TokenLists) (p q : Pattern) (first second : code.Shape) (shows : Shows b l shapes)
        (left : IsSide b l shapes p first) (right : IsSide b l shapes q second) where
      together : (op : PatternOp) (r : Option Shape) → joined_both op (seen l.all first) (seen l.all second) ≡ r → shape_of b.tables.now shapes (joined op p q) ≡ r
      together op r e = joined_is op p q (seen l.all first) (seen l.all second) r left.shape right.shape e

      pub both_goes : (s : code.Shape) → IsThere l.all s → Some (seen l.all s) ≡ both (seen l.all first) (seen l.all second) → IsJoined b shapes l l And p q s
      both_goes s there e = record {
        want = seen l.all s;
        gets = gets_same l shapes (seen l.all s) s there refl shows;
        shape = together And (Some (seen l.all s)) (sym e);
        sound = subst (λ (o : Option Shape). DifferTells o None) (sym (together And (Some (seen l.all s)) (sym e))) refl;
      }

      pub either_goes : (s : code.Shape) → IsThere l.all s → Some (seen l.all s) ≡ either (seen l.all first) (seen l.all second) → IsJoined b shapes l l Or p q s
      either_goes s there e = record {
        want = seen l.all s;
        gets = gets_same l shapes (seen l.all s) s there refl shows;
        shape = together Or (Some (seen l.all s)) (sym e);
        sound = subst (λ (o : Option Shape). DifferTells o None) (sym (together Or (Some (seen l.all s)) (sym e))) refl;
      }

      pub both_differ : None ≡ both (seen l.all first) (seen l.all second) → JoinTells b.tables.now shapes b.hulls.now And p q (Some fault.TokensDiffer)
      both_differ e = subst (λ (o : Option Shape). DifferTells o (Some fault.TokensDiffer)) (sym (together And None (sym e))) refl

      pub either_differ : None ≡ either (seen l.all first) (seen l.all second) → JoinTells b.tables.now shapes b.hulls.now Or p q (Some fault.TokensDiffer)
      either_differ e = subst (λ (o : Option Shape). DifferTells o (Some fault.TokensDiffer)) (sym (together Or None (sym e))) refl

    pub followed_goes : (old new : TokenLists) (p q : Pattern) (first second s : code.Shape) → Shows b old shapes → IsSide b old shapes p first → IsSide b old shapes q second
        → Keeps old.all new.all → IsThere new.all s → seen new.all s ≡ followed (seen old.all first) (seen old.all second)
        → JoinTells b.tables.now shapes b.hulls.now Then p q None → IsJoined b shapes old new Then p q s
    followed_goes old new p q first second s shows left right keeps there is sound = record {
      want = followed (seen old.all first) (seen old.all second);
      gets = gets_more old new shapes (followed (seen old.all first) (seen old.all second)) s keeps there is shows;
      shape = joined_is Then p q (seen old.all first) (seen old.all second) (Some (followed (seen old.all first) (seen old.all second))) left.shape right.shape refl;
      sound = sound;
    }

    -- whether `P` has a fixed number of bytes
    bytes_are : (p : Pattern) (x : Shape) → shape_of b.tables.now shapes p ≡ Some x → pattern_bytes b.tables.now shapes p ≡ fixed_bytes b.tables.now x
    bytes_are p x e = ap (λ (o : Option Shape). option_and_then (fixed_bytes b.tables.now) o) e

    fixed_by : (x : Shape) (f : Bool) → is_fixed x.kind ≡ f → (q : Pattern) (found : Option Fault)
        → cond f (found ≡ None) (BehindTells b.tables.now shapes b.hulls.now None q found) → BehindTells b.tables.now shapes b.hulls.now (fixed_bytes b.tables.now x) q found
    fixed_by x true e q found h = subst (λ (c : Bool). BehindTells b.tables.now shapes b.hulls.now (cond c (Some (list_bytes b.tables.now x.tokens)) None) q found) (sym e) h
    fixed_by x false e q found h = subst (λ (c : Bool). BehindTells b.tables.now shapes b.hulls.now (cond c (Some (list_bytes b.tables.now x.tokens)) None) q found) (sym e) h

    pub behind_fixed : (l : TokenLists) (p q : Pattern) (s : code.Shape) → IsSide b l shapes p s → is_fixed s.kind ≡ true → JoinTells b.tables.now shapes b.hulls.now Then p q None
    behind_fixed l p q s side e = subst (λ (o : Option ℕ). BehindTells b.tables.now shapes b.hulls.now o q None) (sym (bytes_are p (seen l.all s) side.shape))
        (fixed_by (seen l.all s) true e q None refl)

    pub behind_open : (l : TokenLists) (p q : Pattern) (s : code.Shape) → IsSide b l shapes p s → is_fixed s.kind ≡ false → (found : Option Fault)
        → BehindTells b.tables.now shapes b.hulls.now None q found → JoinTells b.tables.now shapes b.hulls.now Then p q found
    behind_open l p q s side e found h = subst (λ (o : Option ℕ). BehindTells b.tables.now shapes b.hulls.now o q found) (sym (bytes_are p (seen l.all s) side.shape))
        (fixed_by (seen l.all s) false e q found h)

    -- ---- one level of a pattern

    abbrev Sound : Pattern → Option Fault → Type 0
    Sound p found = ShapeTells b.tables.now shapes b.hulls.now p found

    module _ (old new : TokenLists) (s : code.Shape) where
      pub shaped_name : (name : trees.Name) → Gets b shapes old new (name_shape b.tables.now shapes name) s → IsShaped b shapes old new (bare name) s
      unfolding shape_of ShapeTells
      shaped_name name gets = record { want = name_shape b.tables.now shapes name; gets = gets; shape = refl; sound = refl }

      pub shaped_constraint : (name : trees.Name) (r : Relation) (x : trees.Expression) → Gets b shapes old new (shape_by shapes (named (λ f. f.name) name b.tables.now.fields) None) s
          → IsShaped b shapes old new (constraint name r x) s
      unfolding shape_of ShapeTells
      shaped_constraint name r x gets = record { want = shape_by shapes (named (λ f. f.name) name b.tables.now.fields) None; gets = gets; shape = refl; sound = refl }

      pub shaped_group : (p : Pattern) → IsShaped b shapes old new p s → IsShaped b shapes old new (group p) s
      unfolding shape_of ShapeTells
      shaped_group p i = record { want = i.want; gets = i.gets; shape = i.shape; sound = i.sound }

      pub shaped_ellipsis : (p : Pattern) (r : code.Shape) → seen new.all r ≡ extended (seen new.all s) → IsThere new.all r → IsShaped b shapes old new p s
          → IsShaped b shapes old new (ellipsis p) r
      unfolding shape_of ShapeTells
      shaped_ellipsis p r e there i = record {
        want = extended i.want;
        gets = record { shows = i.gets.shows; keeps = i.gets.keeps; there = there; is = e ∙ ap extended i.gets.is };
        shape = ap (option_map extended) i.shape;
        sound = i.sound;
      }

    pub told_group : (p : Pattern) (x : Stop) → Stops (Sound p) x → Stops (Sound (group p)) x
    unfolding ShapeTells
    told_group p x h = h

    pub told_ellipsis : (p : Pattern) (x : Stop) → Stops (Sound p) x → Stops (Sound (ellipsis p)) x
    unfolding ShapeTells
    told_ellipsis p x h = h

    -- ---- joined patterns, side after side

    pub or_else_first : (P Q : Option Fault → Type 0) (x : Stop) → Stops P x → Stops (OrElse P Q) x
    or_else_first P Q (stop.Fault f) h = inl h
    or_else_first P Q stop.NoMemory h = tt

    pub or_else_second : (P Q : Option Fault → Type 0) (x : Stop) → P None → Stops Q x → Stops (OrElse P Q) x
    or_else_second P Q (stop.Fault f) none h = inr (none, h)
    or_else_second P Q stop.NoMemory none h = tt

    module _ (op : PatternOp) (p q : Pattern) where
      abbrev Joins : Option Fault → Type 0
      Joins found = JoinTells b.tables.now shapes b.hulls.now op p q found

      pub told_joined : (x : Stop) → Stops (OrElse (Sound p) (OrElse (Sound q) Joins)) x → Stops (Sound (joined op p q)) x
      unfolding ShapeTells
      told_joined (stop.Fault f) h = h
      told_joined stop.NoMemory h = tt

      pub told_left : (x : Stop) → Stops (Sound p) x → Stops (Sound (joined op p q)) x
      told_left x h = told_joined x (or_else_first (Sound p) (OrElse (Sound q) Joins) x h)

      pub told_right : (x : Stop) → Sound p None → Stops (Sound q) x → Stops (Sound (joined op p q)) x
      told_right x none h = told_joined x (or_else_second (Sound p) (OrElse (Sound q) Joins) x none (or_else_first (Sound q) Joins x h))

      pub told_both : (x : Stop) → Sound p None → Sound q None → Stops Joins x → Stops (Sound (joined op p q)) x
      told_both x none none' h = told_joined x (or_else_second (Sound p) (OrElse (Sound q) Joins) x none (or_else_second (Sound q) Joins x none' h))

      joined_sound : Sound p None → Sound q None → Joins None → Sound (joined op p q) None
      unfolding ShapeTells
      joined_sound x y z = (x, (y, z))

      pub shaped_joined : (old mid late new : TokenLists) (first second s : code.Shape) → IsShaped b shapes old mid p first → IsShaped b shapes mid late q second
          → IsJoined b shapes late new op p q s → IsShaped b shapes old new (joined op p q) s
      shaped_joined old mid late new first second s i j k = record {
        want = k.want;
        gets = record {
          shows = k.gets.shows;
          keeps = keeps_more old.all mid.all new.all i.gets.keeps (keeps_more mid.all late.all new.all j.gets.keeps k.gets.keeps);
          there = k.gets.there;
          is = k.gets.is;
        };
        shape = k.shape;
        sound = joined_sound i.sound j.sound k.sound;
      }
