-- Scans of the plain chart, from the first states of each. Assumes nothing.
use Rattle.std.proofs.Common.{◌≡◌, ℕ, zero, suc, ◌<◌, ◌≤◌, true, false, Some, Option, refl, sym, ap, ◌∙◌, arith}
use Rattle.frames.specs.Edges.{no_edges, edges_between}
use Rattle.evolution.specs.declared.state.State.{State}
use Rattle.evolution.specs.Chart.{Chart}
use Rattle.evolution.specs.Rules.{evolved, stable, output_frame}
use Rattle.verdict.specs.declared.outcome.Outcome.{Outcome}
use Rattle.verdict.specs.declared.outcome.Verdict.{Verdict}
use Rattle.verdict.specs.declared.outcome.Verdict.TheVariants.{Stable, Circling}
use Rattle.verdict.specs.Rules as verdict
use Rattle.verdict.specs.Scans.{states}
use Rattle.verdict.specs.Verdicts.{Verdicts}
use Rattle.verdict.proofs.Judging.{Judged, verdicts}
use Rattle.verdict.proofs.Looping.{Before, before_first, before_next, found_stable, found_circle}
use Rattle.verdict.proofs.Scanning.{by_rules}
use Rattle.plain.specs.declared.calls.Answer.TheVariants.{Delivered}
use Rattle.plain.specs.Behaviours.{by_chart}
use Rattle.plain.specs.Stages.{idle, sampled, worked, halted}
use Rattle.plain.specs.Charts.{Plain, at, ComesTo, delivered_frame, landed}
use Rattle.plain.specs.PlainScans.{scan, PlainScan}
use Rattle.plain.proofs.Telling.{landed_outputs}

-- no scan is open
abbrev pub idle_in : State → Option ℕ → ℕ → Plain
idle_in s previous outputs = record { stage = idle; state = s; previous = previous; outputs = outputs }

module _ (c : Chart) (s : State) (previous : Option ℕ) (before frame outputs : ℕ) where
  -- ---- a scan of the frame, by what the frame comes to
  abbrev begins_in : Plain
  begins_in = idle_in s previous before

  abbrev ends_in : Outcome → Plain
  ends_in o = landed o.verdict o.state frame outputs (at (worked frame o) begins_in)

  made : (o : Outcome) → ComesTo (by_chart c) s previous frame o → delivered_frame (by_chart c) frame o ≡ outputs → PlainScan c begins_in (scan frame o.verdict outputs (ends_in o).state.active (ends_in o).stage) (ends_in o)
  made o h e = record {
    with_frame = at (sampled frame) begins_in;
    with_verdict = at (worked frame o) begins_in;
    samples = (refl, refl);
    works = (o, (h, refl, refl));
    delivers = (
      ap (λ x. Delivered x) (sym e),
      ap (λ x. landed o.verdict o.state frame x (at (worked frame o) begins_in)) (sym e),
    );
    outputs = landed_outputs o.verdict o.state frame outputs _;
    active = refl;
    stage = refl;
  }

  -- ---- its states
  abbrev all : ℕ → State
  all = states (verdict.by_chart c frame) (edges_between previous frame) s

  -- the evolution to s(1), and a later one
  abbrev pub Begins : State → Type 0
  Begins t = evolved c frame (edges_between previous frame) s ≡ t

  abbrev pub Follow : State → State → Type 0
  Follow t u = evolved c frame no_edges t ≡ u

  judged : (v : Verdict) → Judged (stable c frame) all v → Verdicts (stable c frame) all v
  judged v h = verdicts (by_rules c frame (edges_between previous frame) s) v h

  second : (t u : State) → Begins t → Follow t u → all 2 ≡ u
  second t u e f = ap (evolved c frame no_edges) e ∙ f

  one : (t : State) → Begins t → stable c frame t ≡ false → Before (stable c frame) all 2
  one t e q = before_next (before_first _ _) (ap (stable c frame) e ∙ q) (λ i low l. absurd (omega arith))

  two : (t u : State) → Begins t → stable c frame t ≡ false → Follow t u → stable c frame u ≡ false → (t ≡ u → ⊥) → Before (stable c frame) all 3
  two t u e q f r new = before_next (one t e q) (ap (stable c frame) (second t u e f) ∙ r) apart
    where
      apart : (i : ℕ) → 1 ≤ i → i < 2 → all i ≡ all 2 → ⊥
      apart zero low l h = omega arith
      apart (suc zero) low l h = new (sym e ∙ h ∙ second t u e f)
      apart (suc (suc i)) low l h = omega arith

  -- ---- scans by their first states
  pub stable_1 : (t : State) → Begins t → stable c frame t ≡ true → output_frame c t ≡ outputs → PlainScan c begins_in (scan frame (Stable 1) outputs t.active idle) (idle_in t (Some frame) outputs)
  stable_1 t e q x = made (record { verdict = Stable 1; state = t }) (record { verdict = judged (Stable 1) (found_stable (before_first _ _) (omega arith) (omega arith) (ap (stable c frame) e ∙ q)); state = sym e }) x

  pub stable_2 : (t u : State) → Begins t → stable c frame t ≡ false → Follow t u → stable c frame u ≡ true → output_frame c u ≡ outputs → PlainScan c begins_in (scan frame (Stable 2) outputs u.active idle) (idle_in u (Some frame) outputs)
  stable_2 t u e q f r x = made (record { verdict = Stable 2; state = u }) (record { verdict = judged (Stable 2) (found_stable (one t e q) (omega arith) (omega arith) (ap (stable c frame) (second t u e f) ∙ r)); state = sym (second t u e f) }) x

  -- the states and the previous frame stay, and no output is on
  abbrev pub halted_in : Plain
  halted_in = record { stage = halted; state = s; previous = previous; outputs = outputs }

  pub circling_2 : (t : State) → 0 ≡ outputs → Begins t → stable c frame t ≡ false → Follow t t → PlainScan c begins_in (scan frame (Circling 1 2) outputs s.active halted) halted_in
  circling_2 t z e q f = made (record { verdict = Circling 1 2; state = s }) (record { verdict = judged (Circling 1 2) (found_circle (by_rules c frame (edges_between previous frame) s) (one t e q) (omega arith) (ap (stable c frame) (second t t e f) ∙ q) (omega arith) (omega arith) (e ∙ sym (second t t e f))); state = refl }) z

  pub circling_3 : (t u : State) → 0 ≡ outputs → Begins t → stable c frame t ≡ false → Follow t u → stable c frame u ≡ false → (t ≡ u → ⊥) → Follow u t → PlainScan c begins_in (scan frame (Circling 1 3) outputs s.active halted) halted_in
  circling_3 t u z e q f r new b = made (record { verdict = Circling 1 3; state = s }) (record { verdict = judged (Circling 1 3) (found_circle (by_rules c frame (edges_between previous frame) s) (two t u e q f r new) (omega arith) (ap (stable c frame) third ∙ q) (omega arith) (omega arith) (e ∙ sym third)); state = refl }) z
    where
      third : all 3 ≡ t
      third = ap (evolved c frame no_edges) (second t u e f) ∙ b
