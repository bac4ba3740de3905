-- The plain chart has one answer. Assumes nothing.
use Rattle.std.proofs.Common.{◌≡◌, ℕ, Bool, Some, None, Option, refl, sym, ap, ◌∙◌}
use Rattle.faults.specs.declared.Fault.{Fault}
use Rattle.frames.specs.declared.edges.Edges.{Edges}
use Rattle.evolution.specs.declared.state.State.{State}
use Rattle.verdict.specs.declared.outcome.Outcome.{Outcome}
use Rattle.verdict.specs.declared.outcome.Verdict.{Verdict}
use Rattle.verdict.specs.declared.outcome.Verdict.TheVariants.{Stable, Circling, Overlong}
use Rattle.verdict.specs.Scans.{Rules, states, settled, Scanned}
use Rattle.verdict.specs.Verdicts.{Verdicts}
use Rattle.plain.specs.declared.calls.Call.{Call}
use Rattle.plain.specs.declared.calls.Call.TheVariants.{Sample, Work, Deliver, Abandon, Restart, Advance}
use Rattle.plain.specs.declared.calls.Answer.{Answer}
use Rattle.plain.specs.declared.calls.Answer.TheVariants.{Found}
use Rattle.plain.specs.Behaviours.{Behaviour}
use Rattle.plain.specs.Stages.{Stage, idle, sampled, worked, halted, refusal}
use Rattle.plain.specs.Charts.{Plain, at, Works, Delivers, Takes, Judged, Answers}

verdict_once : {stable : State → Bool} {s : ℕ → State} (v w : Verdict) → Verdicts stable s v → Verdicts stable s w → w ≡ v
verdict_once (Stable m) w h k = (k.is_stable m).1 ((h.is_stable m).0 refl)
verdict_once (Circling i j) w h k = (k.is_circling i j).1 ((h.is_circling i j).0 refl)
verdict_once Overlong w h k = k.is_overlong.1 (h.is_overlong.0 refl)

pub scanned_once : {rules : Rules} {edges : Edges} {s : State} (o r : Outcome) → Scanned rules edges s o → Scanned rules edges s r → r ≡ o
scanned_once {rules} {edges} {s} o r h k =
    let same : r.verdict ≡ o.verdict = verdict_once o.verdict r.verdict h.verdict k.verdict in
    let state : r.state ≡ o.state = k.state ∙ ap (λ v. settled v (states rules edges s)) same ∙ sym h.state in
    λ t. record { verdict = same t; state = state t }

-- two answers, each with the plain chart after it, are one
abbrev Same : Answer → Plain → Answer → Plain → Type 0
Same answer q other r = (other ≡ answer) × (r ≡ q)

abbrev Once : (Answer → Plain → Type 0) → Type 0
Once T = (answer : Answer) (q : Plain) (other : Answer) (r : Plain) → T answer q → T other r → Same answer q other r

equations : (a : Answer) (p : Plain) → Once (λ answer q. (answer ≡ a) × (q ≡ p))
equations a p answer q other r h k = (k.0 ∙ sym h.0, k.1 ∙ sym h.1)

works_once : (b : Behaviour) (s : Stage) (p : Plain) → Once (Works b s p)
works_once b idle p answer q other r h k = absurd h
works_once b (sampled frame) p answer q other r h k =
    let one = scanned_once h.0 k.0 h.1.0 k.1.0 in
    (k.1.1 ∙ ap (λ o. Found o.verdict) one ∙ sym h.1.1, k.1.2 ∙ ap (λ o. at (worked frame o) p) one ∙ sym h.1.2)
works_once b (worked frame o) p answer q other r h k = absurd h
works_once b halted p answer q other r h k = absurd h

delivers_once : (b : Behaviour) (s : Stage) (p : Plain) → Once (Delivers b s p)
delivers_once b idle p answer q other r h k = absurd h
delivers_once b (sampled frame) p answer q other r h k = absurd h
delivers_once b (worked frame o) p answer q other r h k = equations _ _ answer q other r h k
delivers_once b halted p answer q other r h k = absurd h

takes_once : (b : Behaviour) (call : Call) (inputs : ℕ) (p : Plain) → Once (Takes b call inputs p)
takes_once b Sample inputs p answer q other r h k = equations _ _ answer q other r h k
takes_once b Work inputs p answer q other r h k = works_once b p.stage p answer q other r h k
takes_once b Deliver inputs p answer q other r h k = delivers_once b p.stage p answer q other r h k
takes_once b Abandon inputs p answer q other r h k = equations _ _ answer q other r h k
takes_once b Restart inputs p answer q other r h k = equations _ _ answer q other r h k
takes_once b Advance inputs p answer q other r h k = equations _ _ answer q other r h k

judged_once : (f : Option Fault) (T : Answer → Plain → Type 0) (p : Plain) → Once T → Once (Judged f T p)
judged_once (Some f) T p once answer q other r h k = equations _ _ answer q other r h k
judged_once None T p once answer q other r h k = once answer q other r h k

pub answers_once : (b : Behaviour) (call : Call) (live : Bool) (inputs : ℕ) (p : Plain) → Once (Answers b call live inputs p)
answers_once b call live inputs p = judged_once (refusal call p.stage live) (Takes b call inputs p) p (takes_once b call inputs p)
