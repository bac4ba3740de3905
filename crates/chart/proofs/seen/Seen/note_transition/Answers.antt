use Rattle.std.proofs.Common.{List, [], ◌∷◌, ◌++◌, ap, ◌∙◌}
use Rattle.text.specs.declared.token.Token.{Token}
use Rattle.lines.specs.declared.shape.Number.{Number}
use Rattle.lines.specs.Grammar.{items}
use Rattle.lines.specs.Scan.{refs}
use Rattle.lines.specs.Scan as lines
use Rattle.lines.specs.Parts.{counted}
use Rattle.chart.specs.declared.findings.Findings.{Findings}
use Rattle.chart.specs.Said.{transitions_of, all}
use Rattle.chart.specs.Checks.{noted, declarations, repetitions, lists}
use Rattle.chart.specs.Findings.{noting, uses_by}
use Rattle.chart.proofs.Noting.{transition_noted, uses_known, numbers_flat, refs_flat, knows_more}
use Rattle.chart.proofs.seen.Seen.note_transition.Goals as goal

pub returns : goal.returns
returns c = λ tree before shown mem.
    let t = c.args.t in
    let f = c.args.findings.now in
    let fs = items shown.0 in
    let ts = items shown.1 in
    let us = refs t.condition.now in
    let ns₀ = all transitions_of before in
    let using = λ (g : Findings) (l : List Number). noting g (uses_by g.declared.now l) in
    let counts = λ (t : Token). counted t.place t.kind in
    let names = λ (t : Token). lines.noted t.place t.kind in
    let is = transition_noted ns₀ t.number c.add.result fs ts us
    f c.note_if.new.self c.note_uses.new.self c.note_uses-2.new.self c.note_uses-3.new.self c.note_list.new.self c.note_list-2.new.self
    (c.add.ensures.was_there ∙ mem.transitions t.number) c.note_if.ensures
    (c.note_uses.ensures counts (λ t o p. p.1) ∙ ap (using c.note_if.new.self) (numbers_flat t.from.now ∙ shown.4))
    (c.note_uses-2.ensures counts (λ t o p. p.1) ∙ ap (using c.note_uses.new.self) (numbers_flat t.to.now ∙ shown.5))
    (c.note_uses-3.ensures names (λ t o p. p.1) ∙ ap (using c.note_uses-2.new.self) (refs_flat t.condition.now))
    (c.note_list.ensures ∙ ap (λ l. noting c.note_uses-3.new.self (repetitions l)) shown.4)
    (c.note_list-2.ensures ∙ ap (λ l. noting c.note_list.new.self (repetitions l)) shown.5) in
    rw shown.3 (record {
      declared = ap (λ g. g.declared) is;
      faults = λ ns knows. ap (λ g. g.first) is ∙ ap (λ l. noted f.first (declarations ns₀ (t.number ∷ []) ++ (l ++ (lists (fs ∷ ts ∷ []) ++ [])))) (uses_known f.declared.now ns knows (fs ++ (ts ++ us)));
      remembers = record { steps = mem.steps; transitions = knows_more c.args.self.now.transitions c.add.new.self t.number ns₀ c.add.ensures.numbers mem.transitions; held = mem.held };
    })
