use Rattle.std.proofs.Common.{◌≡◌, sym, ap, ap₂, ◌∙◌, subst}
use Rattle.words.specs.Emitted.{pushed}
use Rattle.lines.specs.declared.shape.Line.{Line}
use Rattle.lines.specs.declared.shape.Line.TheVariants as line
use Rattle.lines.specs.Grammar.{Tree}
use Rattle.lines.specs.Scan.{refs}
use Rattle.lines.specs.Parts.{Shows}
use Rattle.translation.specs.Drafts.{sketch_of, with_switches, noted}
use Rattle.translation.proofs.Noting.{noted_empty, noted_step, noted_trans, noted_hold, noted_enter}
use Rattle.translation.proofs.draft.Draft.note.Goals as goal

shows : (l : Tree) (x y : Line) → x ≡ y → Shows x l → Shows y l
shows l x y e s = let P : Line → Type 0 = λ x. Shows x l in subst P e s

pub returns-in-Empty : goal.returns-in-Empty
returns-in-Empty c = λ l s.
    let d = sketch_of c.args.self.now in
    noted_empty d ∙ ap (noted d) (sym (shows l c.args.line line.Empty c.in-Empty.is s))

pub returns-in-Step : goal.returns-in-Step
returns-in-Step c = λ l s.
    let d = sketch_of c.args.self.now in
    let n = c.in-Step.step in
    noted_step d n c.in-Step.initial _ c.starting-self.ensures
    ∙ ap (noted d) (sym (shows l c.args.line (line.Step n c.in-Step.initial) c.in-Step.is s))

pub returns-in-Trans : goal.returns-in-Trans
returns-in-Trans c = λ l s.
    let d = sketch_of c.args.self.now in
    let t = c.in-Trans.t in
    let n = t.number in
    let h = shows l c.args.line (line.Trans t) c.in-Trans.is s in
    c.note_switches.ensures
    ∙ ap₂ (λ fs ts. with_switches d n.value fs ts) h.4 h.5
    ∙ noted_trans d n h.0 h.1 h.2 (refs t.condition.now)
    ∙ ap (noted d) (sym h.3)

pub returns-in-Hold : goal.returns-in-Hold
returns-in-Hold c = λ l s.
    let d = sketch_of c.args.self.now in
    noted_hold d c.in-Hold.step c.in-Hold.output _ (c.emit_all.ensures ∙ ap (pushed d.hold) c.holding.ensures)
    ∙ ap (noted d) (sym (shows l c.args.line (line.Hold c.in-Hold.step c.in-Hold.output) c.in-Hold.is s))

pub returns-in-Enter : goal.returns-in-Enter
returns-in-Enter c = λ l s.
    let d = sketch_of c.args.self.now in
    noted_enter d c.in-Enter.step c.in-Enter.action c.in-Enter.output _ (c.emit_all-in-Enter.ensures ∙ ap (pushed d.enter) c.entering.ensures)
    ∙ ap (noted d) (sym (shows l c.args.line (line.Enter c.in-Enter.step c.in-Enter.action c.in-Enter.output) c.in-Enter.is s))
