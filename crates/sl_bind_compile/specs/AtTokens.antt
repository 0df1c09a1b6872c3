-- meaning: refusals with first tokens in place of items.
use Rattle.std.specs.Prelude.{ℕ, List}
use Rattle.sl_bind.specs.BindFaults.{token_of}
use Rattle.sl_bind_compile.specs.Ambiguity.{Ambiguity}
use Rattle.sl_bind_compile.specs.Outcomes.{Refusal, ambiguous, flawed}
use Rattle.sl_bind_compile.specs.declared.error.Flaw.TheVariants as flaw

-- with first tokens in place of items, by the first tokens of all items
abbrev pub by_tokens : List ℕ → Ambiguity → Ambiguity
by_tokens indexes a = record {
  table = a.table;
  first = token_of indexes a.first;
  second = token_of indexes a.second;
  both = a.both;
  apart = a.apart;
}

abbrev pub at_tokens : List ℕ → Refusal → Refusal
at_tokens indexes (flawed flaw item) = flawed flaw (token_of indexes item)
at_tokens indexes (ambiguous a) = ambiguous (by_tokens indexes a)
