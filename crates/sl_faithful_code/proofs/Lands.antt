-- What follows in a list where a value is put into a varnode, or is read from one.
use Rattle.std.proofs.Common.{◌≡◌, ℕ, ◌+◌, ◌^◌, ◌<◌, List, ap, ◌∙◌, subst, arith}
use Rattle.sl_faithful_code.specs.Operations.{temporary}
use Rattle.sl_faithful_code.specs.Runs.{Final}
use Rattle.sl_faithful_code.proofs.Base.{At, from, step}
use Rattle.sl_faithful_code.proofs.Bytes.{Same, put_at, read_put, read_same, same_put, same_trans}
use Rattle.sl_meaning_sections.specs.References.{Setting}
use Rattle.sl_pcode.specs.Machine.{Ending, Temporaries, does, put, value_of}
use Rattle.sl_pcode.specs.declared.effect.Effect.{Effect}
use Rattle.sl_pcode.specs.declared.operation.Op.{Op}
use Rattle.sl_pcode.specs.declared.varnode.Place2.{Place2}
use Rattle.sl_pcode.specs.declared.varnode.Varnode.{Varnode}
use Rattle.sl_word.specs.Memories.{Memory}
use Rattle.sl_word.specs.declared.word.Size.{Size}

-- a varnode of this size
abbrev pub placed : Place2 → (offset : ℕ) → Size → Varnode
placed place offset n = record { place = place; offset = offset; size = n }

-- ---- a list, and what follows in it

module _ (g : Setting) (code : List Op) where
  -- from a place on, where a value is put into a varnode, the run ends so
  abbrev pub Lands : (left q t : ℕ) → Varnode → Memory → Temporaries → (ℕ → Final) → Type 0
  Lands left q t out m u go =
      (v : ℕ) (u' : Temporaries) → Same t u u' → v < 256 ^ out.size.bytes → put g.endian g.sizes out v m u' (from g code left q) ≡ go v

  -- from a place on, where a varnode has a value of n bytes, the run ends so
  abbrev pub Uses : (left q t : ℕ) → Varnode → (n : ℕ) → Memory → Temporaries → (ℕ → Final) → Type 0
  Uses left q t a n m u go =
      (v : ℕ) (u' : Temporaries) → Same t u u' → v < 256 ^ n → ((u'' : Temporaries) → Same (t + 16) u' u'' → value_of g.endian g.sizes a m u'' ≡ v) → from g code left q m u' ≡ go v

  -- an operation that puts a value into a varnode
  pub put_run : (e : Effect) (out : Varnode) (x p left t : ℕ) (m : Memory) (u u' : Temporaries) (go : ℕ → Final) → At g code p e
      → ((next : Memory → Temporaries → Final) (jump : ℕ → Final) (leave fault : Ending → Final) → does g.endian g.sizes e m u' next jump leave fault ≡ put g.endian g.sizes out x m u' next)
      → x < 256 ^ out.size.bytes → Same t u u' → Lands left (p + 1) t out m u go → from g code left p m u' ≡ go x
  put_run e out x p left t m u u' go has is lt same lands =
      step g code e left p m u' has ∙ is _ _ _ _ ∙ lands x u' same lt

  -- what uses a temporary follows where a value is put there
  pub lands_of_uses : (left q o : ℕ) (n : Size) (m : Memory) (u : Temporaries) (go : ℕ → Final) → Uses left q o (temporary o n) n.bytes m u go → Lands left q o (temporary o n) m u go
  lands_of_uses left q o n m u go uses v u' same lt =
      uses v (put_at g.endian u' o n.bytes v) (same_trans o o u u' _ (omega arith) same (same_put g.endian o n.bytes v u')) lt
      (λ u'' same'. read_same g.endian (o + 16) o n.bytes (put_at g.endian u' o n.bytes v) u'' (omega (arith, n.at_most_16)) same' ∙ read_put g.endian o n.bytes v u' lt)

  -- the same place
  pub at_place : (left p q : ℕ) (m : Memory) (u : Temporaries) → p ≡ q → from g code left p m u ≡ from g code left q m u
  at_place left p q m u e = ap (λ r. from g code left r m u) e

  pub lands_at : (left q q' t : ℕ) (out : Varnode) (m : Memory) (u : Temporaries) (go : ℕ → Final) → q ≡ q' → Lands left q t out m u go → Lands left q' t out m u go
  lands_at left q q' t out m u go e lands = subst (λ r. Lands left r t out m u go) e lands
