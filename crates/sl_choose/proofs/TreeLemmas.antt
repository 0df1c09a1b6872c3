-- A tree of fewer entries, among which are all that have the point, is a tree of all.
use Rattle.std.proofs.Common.{◌≡◌, ℕ, List, Bool, true, false, inl, inr, refl}
use Rattle.std.specs.Prelude.{Contains}
use Rattle.sl_cube.specs.declared.Point.{Point}
use Rattle.sl_cube.specs.Points.{IsIn}
use Rattle.sl_cube_sets.specs.declared.CubeSet.{CubeSet}
use Rattle.sl_choose.specs.Order.{IsOrdered}
use Rattle.sl_choose.specs.declared.Entry.{Entry}
use Rattle.sl_choose.specs.declared.Node.{Node, Leaf, Test'}
use Rattle.sl_choose.specs.Sides.{IsSides, IsForced, HasNoForced, byte_bit, context_bit, may_have, may_lack}
use Rattle.sl_choose.specs.Splits.{HasEntry, IsSplit, TellsApart}
use Rattle.sl_choose.specs.Trees.{IsTreeOf, IsLeafOf, IsTest}
use Rattle.sl_choose.proofs.CountLemmas.{clear_from, lack_none, set_from, some_fails}
use Rattle.sl_choose.proofs.SideLemmas.{none_from_lacking, lacking_from_clear}

module _ (sets : List CubeSet) (few entries : List Entry) (p : Point) (among : (e : Entry) → Contains few e → Contains entries e)
    (all : (e : Entry) → Contains entries e → IsIn p e.cube → Contains few e) where
  pub wider : (node : Node) → IsTreeOf sets node few p → IsTreeOf sets node entries p
  wider (Leaf es) t = record {
    among = λ e h. among e (t.among e h);
    all = λ e h inside. t.all e (all e h inside) inside;
    in_order = t.in_order;
    no_forced = t.no_forced;
  }
  wider (Test' bits a low b high) t = (λ lacks. wider low (t.0 lacks), λ has. wider high (t.1 has))

pub tree_from : (sets : List CubeSet) (entries : List Entry) (bits p : Point) (few many : List Entry) (low high node : Node) → IsSides entries bits few many → IsTest bits low high node
    → IsTreeOf sets low few p → IsTreeOf sets high many p → IsTreeOf sets node entries p
tree_from sets entries bits p few many low high node s t l h = t.tree sets entries p
    (λ lacks. wider sets few entries p s.low_among (λ e there inside. s.low_all e there (none_from_lacking e.cube bits p inside lacks)) low l)
    (λ has. wider sets many entries p s.high_among (λ e there inside. s.high_all e there (λ both. has (lacking_from_clear e.cube bits p both.0 both.1 inside))) high h)

-- ---- a test of bits that split the entries

module _ (entries : List Entry) (bits : Point) (few many : List Entry) (low high node : Node) (s : IsSides entries bits few many) (t : IsTest bits low high node)
    (l : (e : Entry) → Contains few e → HasEntry low e) (h : (e : Entry) → Contains many e → HasEntry high e) where
  pub all_from : (e : Entry) → Contains entries e → HasEntry node e
  all_from e there = by (may_lack bits e.cube) refl
    where
      by : (b : Bool) → may_lack bits e.cube ≡ b → HasEntry node e
      by true is = t.has e (inl (l e (s.low_all e there (lack_none bits e.cube is))))
      by false is = t.has e (inr (h e (s.high_all e there (λ both. set_from bits e.cube is both.0))))

  pub apart_from : (room : ℕ) → IsSplit entries bits room → TellsApart bits low high
  apart_from room split =
      let one = some_fails (λ (e : Entry). may_have bits e.cube) entries split.high_fewer in
      let other = some_fails (λ (e : Entry). may_lack bits e.cube) entries split.low_fewer in
      let clear = clear_from bits one.0.cube one.2 in
      let set = set_from bits other.0.cube other.2 in
      record {
        clear = (one.0, l one.0 (s.low_all one.0 one.1 clear.0), clear.0, clear.1);
        set = (other.0, h other.0 (s.high_all other.0 other.1 (λ both. set both.0)), set);
      }

-- ---- a leaf

forced_moved : (xs ys : List Entry) (bits : Point) → ((e : Entry) → Contains ys e → Contains xs e) → ((e : Entry) → Contains xs e → Contains ys e) → IsForced ys bits → IsForced xs bits
forced_moved xs ys bits from to f = record {
  all = λ e h. f.all e (to e h);
  clear = (f.clear.0, from f.clear.0 f.clear.1, f.clear.2);
  set = (f.set.0, from f.set.0 f.set.1, f.set.2);
}

pub leaf_tree : (sets : List CubeSet) (entries out : List Entry) (p : Point) → IsOrdered sets entries out → HasNoForced entries → IsLeafOf sets entries p out
leaf_tree sets entries out p o none = record {
  among = o.among;
  all = λ e h inside. o.all e h;
  in_order = o.in_order;
  no_forced = record {
    bytes = λ k lt f. none.bytes k lt (forced_moved entries out (byte_bit k) o.among o.all f);
    context = λ k lt f. none.context k lt (forced_moved entries out (context_bit k) o.among o.all f);
  };
}
