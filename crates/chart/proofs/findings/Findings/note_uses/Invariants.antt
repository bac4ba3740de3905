use Rattle.std.proofs.Common.{◌≡◌, List, drop}
use Rattle.std.specs.List.{flat_map}
use Rattle.text.specs.declared.token.Token.{Token}
use Rattle.lines.specs.declared.shape.Number.{Number}
use Rattle.chart.specs.Findings.{Named, noting, uses_by}
use Rattle.chart.proofs.findings.Findings.note_uses.Given as goal

abbrev pub invariant-loop-t : goal.invariant-loop-t
invariant-loop-t g l =
    (numbers : Token → List Number) → Named (goal.F-post g l.named) numbers →
    noting l.self (uses_by l.self.declared.now (flat_map numbers (drop l.t-index l.tokens))) ≡ noting l.initial.self (uses_by l.initial.self.declared.now (flat_map numbers l.tokens))
