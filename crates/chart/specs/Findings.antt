-- What is kept of the faults that are noted. Assumes nothing.
use Rattle.std.specs.Prelude.{◌≡◌, List, [], ◌∷◌, map, Option, MatchOption}
use Rattle.faults.specs.declared.ChartFault.{ChartFault}
use Rattle.text.specs.declared.token.Token.{Token}
use Rattle.lines.specs.declared.shape.Number.{Number}
use Rattle.chart.specs.declared.set.NumberSet.{NumberSet}
use Rattle.chart.specs.declared.findings.Findings.{Findings}
use Rattle.chart.specs.Checks.{noted, undeclared_step}
use Rattle.chart.specs.Sets.{unknown}

-- the same steps are declared, and more faults are noted
abbrev pub noting : Findings → List ChartFault → Findings
noting old fs = record old { first = noted old.first fs }

-- 8: the steps that the set lacks
abbrev pub uses_by : NumberSet → List Number → List ChartFault
uses_by set ns = map undeclared_step (unknown set ns)

-- what may be answered for a token is the number that it names, if it names one
abbrev pub Named : (Token → Option Number → Type 0) → (Token → List Number) → Type 0
Named Answers numbers = (t : Token) (o : Option Number) → Answers t o → MatchOption o (numbers t ≡ []) (λ n. numbers t ≡ n ∷ [])
