-- What a change at a key of bytes leaves at other keys.
use Rattle.std.proofs.Common.{◌≡◌, ℕ, Bool, true, false, cond, List, Option, Some, ap, ◌∙◌, refl, ap₂}
use Rattle.std.specs.Prelude.{option_map}
use Rattle.std.specs.Global.{Vec}
use Rattle.std.specs.Str.{bytes_eq}
use Rattle.std.specs.BTreeMap.{BTreeMap, UpdatesBy}
use Rattle.std.proofs.Math.Path.{fun_ext}
use Rattle.sl_base_names.proofs.KeyLemmas.{at_bytes, at_key, bytes_cmp, key_cmp}

option_cond : {A B : Type 0} (f : A → B) (b : Bool) (x y : Option A) → option_map f (cond b x y) ≡ cond b (option_map f x) (option_map f y)
option_cond f true x y = refl
option_cond f false x y = refl

module _ {X Y : Type 0} (view : X → Y) where
  abbrev held : BTreeMap (Vec ℕ) X → List ℕ → Option Y
  held m name = option_map view (at_bytes m name)

  abbrev changed : BTreeMap (Vec ℕ) X → List ℕ → Option Y → List ℕ → Option Y
  changed m bs w name = cond (bytes_eq bs name) w (held m name)

  -- what is held after a change at a key
  pub held_after : (bs : List ℕ) (m n : BTreeMap (Vec ℕ) X) (w : Option X) → UpdatesBy key_cmp (bytes_cmp bs) m n w
      → held n ≡ changed m bs (option_map view w)
  held_after bs m n w h = fun_ext (λ name. ap (option_map view) (at_key bs m n w h name) ∙ option_cond view (bytes_eq bs name) w (at_bytes m name))

  pub held_more : (bs : List ℕ) (value : Y) (m n : BTreeMap (Vec ℕ) X) (k : Vec ℕ) (v : X) → k.items ≡ bs → view v ≡ value
      → UpdatesBy key_cmp (key_cmp k) m n (Some v) → held n ≡ changed m bs (Some value)
  held_more bs value m n k v e f h = held_after k.items m n (Some v) h ∙ ap₂ (λ (b : List ℕ) (w : Y). changed m b (Some w)) e f

-- the values after a change at a key
pub values_after : (bs : List ℕ) (m n : BTreeMap (Vec ℕ) (Vec ℕ)) (w : Option (Vec ℕ)) → UpdatesBy key_cmp (bytes_cmp bs) m n w
    → held (λ (v : Vec ℕ). v.items) n ≡ changed (λ (v : Vec ℕ). v.items) m bs (option_map (λ (v : Vec ℕ). v.items) w)
values_after bs m n w h = held_after (λ (v : Vec ℕ). v.items) bs m n w h

pub values_defined : (bs value : List ℕ) (m n : BTreeMap (Vec ℕ) (Vec ℕ)) (k v : Vec ℕ) → k.items ≡ bs → v.items ≡ value
    → UpdatesBy key_cmp (key_cmp k) m n (Some v) → held (λ (v : Vec ℕ). v.items) n ≡ changed (λ (v : Vec ℕ). v.items) m bs (Some value)
values_defined bs value m n k v e f h = held_more (λ (v : Vec ℕ). v.items) bs value m n k v e f h
