-- What more is said of each refusal of a specification is lines.
use Rattle.std.proofs.Common.{◌≡◌, ℕ, inl, inr, List, [], ◌++◌, Option, Some, None, Result, Ok, Err, refl, sym, ap, subst}
use Rattle.sl_bind_compile.specs.Ambiguity.{Ambiguity}
use Rattle.sl_bind_compile.specs.AtTokens.{at_tokens}
use Rattle.sl_bind_compile.specs.Outcomes as outcome
use Rattle.sl_bind_compile.specs.Outcomes.{ambiguous, flawed}
use Rattle.sl_bind_compile.specs.declared.error.Flaw.{Flaw}
use Rattle.sl_explain.proofs.LineLemmas.{facts}
use Rattle.sl_explain_lines.proofs.ShownLemmas.{lines_both}
use Rattle.sl_explain_lines.specs.Laws.{AreLines}
use Rattle.sl_explain_lines.specs.Laws.AreLines.{no_line}
use Rattle.sl_outside.specs.Folder.{Folder}
use Rattle.sl_preproc.specs.Expanded.{Text, expanded}
use Rattle.sl_preproc.specs.Expansion as preproc
use Rattle.sl_preproc_directives.specs.declared.fault.Cause.{Cause}
use Rattle.sl_tool_request.specs.Requests.{PackedFile, SpecFile, TextFile}
use Rattle.sl_tool_stages.specs.Laws.{ExplainsInLines}
use Rattle.sl_tool_stages.specs.Places.{indexes_in}
use Rattle.sl_tool_stages.specs.Problems.{cause_of, facts_of_cause, more_of}
use Rattle.sl_tool_stages.specs.Stage.Then.{goes, stops}
use Rattle.sl_tool_stages.specs.Stages.{Compiles, Fetches, Parses, Reads, Specifies, Tokenizes, Unpacks, ambiguity_lines, flaw_lines, refusal_told, source_of}
use Rattle.sl_tool_stages.specs.Stages.Reads.{of_packed, of_text}
use Rattle.sl_tool_stages.specs.Values.{InText, Origin, Source, Stored, Tokens, Tree}
use Rattle.sl_tool_stages.specs.declared.refusal.Refusal.{Refusal}

abbrev HasLines : Refusal → Type 0
HasLines x = AreLines x.facts

-- ---- the text

facts_in : Result Source Refusal → List ℕ
facts_in (Ok s) = []
facts_in (Err x) = x.facts

expansion_lines : (x : Refusal) (name : List ℕ) (r : Result Text preproc.Refusal) → Err x ≡ source_of name r → HasLines x
unfolding facts_in
expansion_lines x name (Ok t) e = subst AreLines (sym (ap facts_in e)) no_line
expansion_lines x name (Err r) e = subst AreLines (sym (ap facts_in e)) no_line

token_lines : (s : Source) (x : Refusal) → Tokenizes s (Err x) → HasLines x
token_lines s x h = subst HasLines (sym h.3) (facts.of_bytes s.text h.0 h.1)

tree_lines : (k : Tokens) (x : Refusal) → Parses k (Err x) → HasLines x
tree_lines k x h = subst HasLines (sym h.3) (facts.of_tokens k.source.text k.tokens h.0 h.1)

-- ---- packed files

file_lines : (folder : Folder) (name : List ℕ) (x : Refusal) → Fetches (Some folder) name (Err x) → HasLines x
file_lines folder name x (inl h) = subst HasLines (sym h.1) no_line
file_lines folder name x (inr h) = subst HasLines (sym h.1) no_line

packed_lines : (name bytes : List ℕ) (x : Refusal) → Unpacks name bytes (Err x) → HasLines x
packed_lines name bytes x (inl h) = subst HasLines (sym h.1) no_line
packed_lines name bytes x (inr (inl h)) = subst HasLines (sym h.1) no_line
packed_lines name bytes x (inr (inr h)) = subst HasLines (sym h.2) no_line

read_lines : (folder : Folder) (spec : SpecFile) (x : Refusal) → Reads (Some folder) spec (Err x) → HasLines x
read_lines folder (TextFile name) x (of_text (stops h)) = expansion_lines x name (expanded folder name) h
read_lines folder (TextFile name) x (of_text (goes {b = s} h (stops k))) = token_lines s x k
read_lines folder (TextFile name) x (of_text (goes {b = s} h (goes {b = k} g t))) = tree_lines k x t
read_lines folder (PackedFile name) x (of_packed (stops h)) = file_lines folder name x h
read_lines folder (PackedFile name) x (of_packed (goes {b = bytes} h k)) = packed_lines name bytes x k

-- ---- the tree

lines_of_flaw : (o : Origin) (f : Flaw) (index : Option ℕ) → AreLines (flaw_lines o f index)
lines_of_flaw (InText k) f index = facts.of_items k.source.text k.tokens f index
lines_of_flaw (Stored files places) f index = facts.of_flaws [] f index

lines_of_ambiguity : (o : Origin) (a : Ambiguity) → AreLines (ambiguity_lines o a)
lines_of_ambiguity (InText k) a = facts.of_tables k.source.text k.tokens a
lines_of_ambiguity (Stored files places) a = facts.of_points a.apart

told_lines : (o : Origin) (why : outcome.Refusal) → HasLines (refusal_told o why)
told_lines o (flawed f index) = lines_of_flaw o f index
told_lines o (ambiguous a) = lines_of_ambiguity o a

compile_lines : (t : Tree) (x : Refusal) → Compiles t (Err x) → HasLines x
compile_lines t x h = subst HasLines (sym h.2) (told_lines t.origin (at_tokens (indexes_in t.origin t.items) h.0))

refused_lines : (folder : Folder) (spec : SpecFile) (x : Refusal) → Specifies (Some folder) spec (Err x) → HasLines x
refused_lines folder spec x (stops h) = read_lines folder spec x h
refused_lines folder spec x (goes {b = t} h k) = compile_lines t x k

-- ---- what is printed

cause_lines : (cause : Option Cause) → AreLines (facts_of_cause cause)
cause_lines None = no_line
cause_lines (Some cause) = facts.of_causes cause

pub explained : ExplainsInLines
explained = λ folder spec x h.
    (x.facts ++ more_of x.problem, lines_both x.facts (more_of x.problem) (refused_lines folder spec x h) (cause_lines (cause_of x.problem)), refl)
