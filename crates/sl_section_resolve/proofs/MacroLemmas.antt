-- Macros, as definitions see them.
use Rattle.std.proofs.Common.{◌≡◌, ℕ, Bool, List, [], ◌∷◌, Option, map, length, position, refl, sym}
use Rattle.std.specs.List.{position_or_len}
use Rattle.std.proofs.lemmas.List.{length-map}
use Rattle.sl_section_resolve.specs.MacroViews.{bodies_of}
use Rattle.sl_section_resolve.specs.Steps.{macro_name}
use Rattle.sl_section_resolve.specs.declared.macros.MacroBody.{MacroBody}
use Rattle.sl_spec.specs.Named.{index_named}

place_in_map : {A B : Type 0} (p : B → Bool) (f : A → B) (xs : List A) → position_or_len p (map f xs) ≡ position_or_len (λ x. p (f x)) xs
place_in_map p f [] = refl
place_in_map p f (x ∷ xs) = rw (place_in_map p f xs) refl

position_in_map : {A B : Type 0} (p : B → Bool) (f : A → B) (xs : List A) → position p (map f xs) ≡ position (λ x. p (f x)) xs
position_in_map p f xs = rw (place_in_map p f xs, length-map xs f) refl

-- a macro is found by its name
pub found_by_name : (w : List ℕ) (ms : List MacroBody) → index_named (λ m. m.of.now.name.now) w ms ≡ index_named macro_name w (bodies_of ms)
found_by_name w ms = sym (position_in_map _ _ ms)
