-- Solutions of the first equations of a list.
use Rattle.std.proofs.Common.{◌≡◌, ◌↔◌, ℕ, ◌+◌, ◌<◌, ◌≤◌, List, [], ◌∷◌, ◌++◌, take, length, get_or, arith, sym, ◌∙◌, ap, subst}
use Rattle.std.specs.List.{All}
use Rattle.std.proofs.lemmas.List.{take_more}
use Rattle.std.proofs.lemmas.List.Elements.{All-head, All-tail}
use Rattle.sl_sizes.specs.declared.Equation.{Equation}
use Rattle.sl_sizes.specs.declared.Equation.TheVariants.{Is, Equal, Less}
use Rattle.sl_sizes.specs.declared.SizeError.{SizeError}
use Rattle.sl_sizes.specs.declared.SizeError.TheVariants.{Clash, Unfixed, NoMemory}
use Rattle.sl_sizes.specs.declared.nodes.Node.{Node}
use Rattle.sl_sizes.specs.Solutions.{IsAbout, Holds, Meets, Solves, IsOnlySolution, IsFirstClash, IsReason}
use Rattle.sl_sizes.specs.Nodes.{Restricts, Refutes, StandFor, IsFixed, IsUnfixedReason}
use Rattle.sl_sizes.proofs.TreeLemmas.{some_allowed}

-- An equation that holds after others that are met makes a list that is met, and the other way round.
pub meets_more : (size : ℕ → ℕ) (equations : List Equation) (equation : Equation)
    → Meets size (equations ++ equation ∷ []) ↔ (Meets size equations × Holds size equation)
meets_more size [] equation = (λ h. (tt, h.0), λ h. (h.1, tt))
meets_more size (first ∷ rest) equation =
    let more = meets_more size rest equation in
    (λ h. ((h.0, (more.0 h.1).0), (more.0 h.1).1), λ h. (h.0.0, more.1 (h.0.1, h.1)))

pub solves_more : (n : ℕ) (size : ℕ → ℕ) (equations : List Equation) (equation : Equation)
    → Solves n (equations ++ equation ∷ []) size ↔ (Solves n equations size × Holds size equation)
solves_more n size equations equation = (
  λ h. (
    record { at_least_1 = h.at_least_1; at_most_16 = h.at_most_16; meets = ((meets_more size equations equation).0 h.meets).0 },
    ((meets_more size equations equation).0 h.meets).1,
  ),
  λ h. record { at_least_1 = h.0.at_least_1; at_most_16 = h.0.at_most_16; meets = (meets_more size equations equation).1 (h.0.meets, h.1) },
)

-- Whether equations are met depends only on the variables that they name.
holds_same : (n : ℕ) (size other : ℕ → ℕ) (equation : Equation) → ((v : ℕ) → v < n → size v ≡ other v) → IsAbout n equation → Holds size equation → Holds other equation
holds_same n size other (Is x m) same about h = sym (same x about) ∙ h
holds_same n size other (Equal x y) same about h = sym (same x about.0) ∙ h ∙ same y about.1
holds_same n size other (Less x y m) same about h =
    let first : size x ≡ other x = same x about.0 in
    let second : size y ≡ other y = same y about.1 in
    omega arith

meets_same : (n : ℕ) (size other : ℕ → ℕ) (equations : List Equation) → ((v : ℕ) → v < n → size v ≡ other v) → All (IsAbout n) equations
    → Meets size equations → Meets other equations
meets_same n size other [] same about h = tt
meets_same n size other (equation ∷ rest) same about h = (
  holds_same n size other equation same (All-head (IsAbout n) equation rest about) h.0,
  meets_same n size other rest same (All-tail (IsAbout n) equation rest about) h.1,
)

-- ---- equations taken into nodes

pub stand_more : (n : ℕ) (old new : ℕ → Node) (equations : List Equation) (i : ℕ) (equation : Equation) → i < length equations → equation ≡ get_or equations i equation
    → StandFor n old (take i equations) → Restricts n old new (λ size. Holds size equation) → StandFor n new (take (i + 1) equations)
stand_more n old new equations i equation below is stand r =
    let longer : take (i + 1) equations ≡ take i equations ++ equation ∷ [] =
    take_more equations i equation below ∙ ap (λ e. take i equations ++ e ∷ []) (sym is)
    in
    record {
      trees = r.trees;
      solves = λ size.
          let more = solves_more n size (take i equations) equation in (
            λ a.
                let both = (r.allows size).0 a in
                subst (λ es. Solves n es size) (sym longer) (more.1 ((stand.solves size).0 both.0, both.1)),
            λ s.
                let both = more.0 (subst (λ es. Solves n es size) longer s) in
                (r.allows size).1 ((stand.solves size).1 both.0, both.1),
          );
    }

pub first_clash : (n : ℕ) (node : ℕ → Node) (equations : List Equation) (i : ℕ) (equation : Equation) → i < length equations → equation ≡ get_or equations i equation
    → StandFor n node (take i equations) → Refutes n node (λ size. Holds size equation) → IsFirstClash n equations i
first_clash n node equations i equation below is stand refuted =
    let longer : take (i + 1) equations ≡ take i equations ++ equation ∷ [] =
    take_more equations i equation below ∙ ap (λ e. take i equations ++ e ∷ []) (sym is)
    in
    let some = some_allowed n node stand.trees in
    record {
      in_list = below;
      none = λ size s.
          let both = (solves_more n size (take i equations) equation).0 (subst (λ es. Solves n es size) longer s) in
          refuted size ((stand.solves size).1 both.0) both.1;
      before = (some.0, (stand.solves some.0).0 some.1);
    }

-- ---- the answer

pub only_solution : (n : ℕ) (node : ℕ → Node) (equations : List Equation) (size : ℕ → ℕ) → All (IsAbout n) equations → StandFor n node equations
    → ((v : ℕ) → v < n → IsFixed n node v (size v)) → IsOnlySolution n equations size
only_solution n node equations size about stand fixed =
    let some = some_allowed n node stand.trees in
    let solved : Solves n equations some.0 = (stand.solves some.0).0 some.1 in
    let same = λ (v : ℕ) (below : v < n). fixed v below some.0 some.1 in
    record {
      solves = record {
        at_least_1 = λ v below. subst (λ x. 1 ≤ x) (same v below) (solved.at_least_1 v below);
        at_most_16 = λ v below. subst (λ x. x ≤ 16) (same v below) (solved.at_most_16 v below);
        meets = meets_same n some.0 size equations same about solved.meets;
      };
      only = λ other s v below. fixed v below other ((stand.solves other).1 s);
    }

pub reason : (n : ℕ) (node : ℕ → Node) (equations : List Equation) (error : SizeError) → StandFor n node equations → IsUnfixedReason n node error → IsReason n equations error
reason n node equations (Clash index) stand h = absurd h
reason n node equations (Unfixed v) stand h = record {
  in_range = h.0;
  one = (h.1.one, (stand.solves h.1.one).0 h.1.allows_one);
  other = (h.1.other, (stand.solves h.1.other).0 h.1.allows_other);
  differ = h.1.differ;
  before = λ size other s t u below.
      let value = h.2 u below in
      value.1 size ((stand.solves size).1 s) ∙ sym (value.1 other ((stand.solves other).1 t));
}
reason n node equations NoMemory stand h = tt
