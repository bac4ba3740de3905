-- A campaign of a whole scan and an advance over a carriage. Assumes nothing.
use Rattle.std.proofs.Common.{◌≡◌, ℕ, ◌≤◌, min, None, List, [], ◌∷◌, ◌++◌, length, take, drop, map, get_or, refl, sym, ap, ◌∙◌, subst, arith}
use Rattle.image.specs.Meaning.{Touch, delivering, advancing}
use Rattle.image.specs.Track.{Track, sensors, shown, moved, driven}
use Rattle.evolution.specs.declared.state.State.{State}
use Rattle.verdict.specs.declared.outcome.Outcome.{Outcome}
use Rattle.verdict.specs.declared.outcome.Verdict.{Verdict}
use Rattle.verdict.specs.declared.outcome.Verdict.TheVariants.{Stable, Circling, Overlong}
use Rattle.plain.specs.declared.calls.Call.TheVariants.{Sample, Work, Deliver, Advance}
use Rattle.plain.specs.declared.calls.Answer.TheVariants.{Found}
use Rattle.plain.specs.declared.calls.Entry.{Entry}
use Rattle.plain.specs.Behaviours.{Behaviour}
use Rattle.plain.specs.Stages.{worked}
use Rattle.plain.specs.Charts.{begun, at, ComesTo, delivered_frame, landed as plain_landed, Answers}
use Rattle.plain.specs.Moments.{entry_of, DeliveredInTurn}
use Rattle.plain.specs.Campaigns.{begun_over, Campaign}
use Rattle.controller.specs.Standing.{standing}
use Rattle.controller.specs.Calls.{landed, open_scan}
use Rattle.controller.specs.declared.scans.OpenScan.TheVariants.{Nothing}
use Rattle.controller.specs.declared.controller.Controller.{Controller}
use Rattle.controller.proofs.Resting.{at_rest}
use Rattle.callers.specs.Restarts.{restarted, FoundAndDelivered}
use Rattle.callers.proofs.Alike.{same_controller}
use Rattle.callers.proofs.Calling.{Made, made, second_entry}

-- a carriage's own rule
abbrev pub rule : Track → Touch → Track → Type 0
rule s touch t = t ≡ driven touch s

-- a delivery leaves what it leaves of the plain chart
landed_at : (b : Behaviour) (c d : Controller) (v : Verdict) (s : State) (frame outputs x y : ℕ) (o : Outcome) → d.program ≡ c.program → standing d y ≡ plain_landed v s frame outputs (at (worked frame o) (begun b.begins x)) → d ≡ landed v s frame (restarted b c)
landed_at b c d (Stable m) s frame outputs x y o p h = same_controller d (landed (Stable m) s frame (restarted b c)) y outputs p h
landed_at b c d (Circling j k) s frame outputs x y o p h = same_controller d (landed (Circling j k) s frame (restarted b c)) y outputs p h
landed_at b c d Overlong s frame outputs x y o p h = same_controller d (landed Overlong s frame (restarted b c)) y outputs p h

-- and no scan open
pub landed_closed : (v : Verdict) (s : State) (frame : ℕ) (c : Controller) → open_scan (landed v s frame c).phase ≡ Nothing
landed_closed (Stable m) s frame c = refl
landed_closed (Circling j k) s frame c = refl
landed_closed Overlong s frame c = refl

module _ (b : Behaviour) (c : Controller) (i : Track) where
  -- what the campaign comes to: its log, the controller and the carriage
  pub record Driven (log : List Entry) (none : Entry) (d : Controller) (j : Track) : Type 0 where
    pub outcome : Outcome
    pub comes : ComesTo b b.begins None (sensors i.position) outcome
    pub found : (get_or log 1 none).answer ≡ Found outcome.verdict
    pub controller : d ≡ landed outcome.verdict outcome.state (sensors i.position) (restarted b c)
    pub track : j ≡ driven advancing (driven (delivering (delivered_frame b (sensors i.position) outcome)) i)

  four_moments : (old log : List Entry) (none : Entry) (entries : List Entry) (n : ℕ) (d : Controller) (j : Track) → d.program ≡ c.program → log ≡ entries ++ drop n old → Made shown rule b (begun_over shown b i) i (Sample ∷ Work ∷ Deliver ∷ Advance ∷ []) entries (standing d j.outputs) j → Driven log none d j
  four_moments old log none entries n d j p e (x, (xh, (xs, (xe, (y, (yh, (ys, (ye, (z, (zh, (zs, (ze, (a, (ah, (rest, (ae, (f, (q, g)))))))))))))))))) =
      let w = subst (λ r. Answers b Work (shown x.after).live (shown x.after).inputs r y.answer y.plain) xh.answered.1 yh.answered in
      let brought = delivered_frame b (sensors i.position) w.0 in
      let v = subst (λ r. Answers b Deliver (shown y.after).live (shown y.after).inputs r z.answer z.plain) w.1.2 zh.answered in
      let t = subst (λ r. DeliveredInTurn rule b r.stage y.after z.after) w.1.2 zh.touched in
      record {
        outcome = w.0;
        comes = w.1.0;
        found = ap (λ m. m.answer) (second_entry (entry_of x) (entry_of y) none xs ys (drop n old) log (e ∙ ap (λ l. l ++ drop n old) xe) ye) ∙ w.1.1;
        controller = landed_at b c d w.0.verdict w.0.state (sensors i.position) brought i.outputs j.outputs w.0 p (q ∙ ah.answered.1 ∙ v.1);
        track = g ∙ ah.touched ∙ ap (driven advancing) (t ∙ ap (driven (delivering brought)) (yh.touched ∙ xh.touched));
      }

  -- all four calls are made
  pub four_calls : (old log : List Entry) (none : Entry) (n : ℕ) (d : Controller) (j : Track) → n ≡ min 4 (length old) → 4 ≤ length old → d.program ≡ c.program → Campaign shown rule b i (take n (Sample ∷ Work ∷ Deliver ∷ Advance ∷ [])) old log (standing d j.outputs) j → Driven log none d j
  four_calls old log none n d j count room p whole =
      let all : n ≡ 4 = omega arith in
      let k = subst (λ m. Campaign shown rule b i (take m (Sample ∷ Work ∷ Deliver ∷ Advance ∷ [])) old log (standing d j.outputs) j) all whole in
      let m = made shown rule b (Sample ∷ Work ∷ Deliver ∷ Advance ∷ []) (begun_over shown b i) i k.moments j k.calls_made k.linked k.alike in
      four_moments old log none (map entry_of k.moments) (length k.moments) d j p k.log_kept
      (subst (λ q. Made shown rule b (begun_over shown b i) i (Sample ∷ Work ∷ Deliver ∷ Advance ∷ []) (map entry_of k.moments) q j) (sym k.ends) m)

-- so the work was answered the verdict, and that was delivered
pub driven_found : {b : Behaviour} {c : Controller} {i : Track} {log : List Entry} {none : Entry} {d : Controller} {j : Track} → Driven b c i log none d j → FoundAndDelivered b c (sensors i.position) d j.outputs (get_or log 1 none).answer
driven_found {b} {c} {i} {d = d} {j} w =
    subst (FoundAndDelivered b c (sensors i.position) d j.outputs) (sym w.found)
    (record {
      outcome = w.outcome;
      comes = w.comes;
      verdict = refl;
      controller = w.controller;
      shown = ap (λ t. t.outputs) w.track;
      rest =
          at_rest b (restarted b c) d b.begins None (sensors i.position) j.outputs w.outcome w.comes w.controller
          (ap (λ t. t.outputs) w.track);
    })

-- and it has moved by the outputs that it then has
pub driven_moves : {b : Behaviour} {c : Controller} {i : Track} {log : List Entry} {none : Entry} {d : Controller} {j : Track} → Driven b c i log none d j → j.position ≡ moved j.outputs i.position
driven_moves {i = i} w =
    ap (λ t. t.position) w.track ∙ ap (λ t. moved t i.position) (sym (ap (λ t. t.outputs) w.track))
