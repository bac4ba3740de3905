-- A campaign of a sample and a work. Assumes nothing.
use Rattle.std.proofs.Common.{◌≡◌, ℕ, ◌≤◌, min, Bool, true, false, None, List, [], ◌∷◌, ◌++◌, length, take, drop, map, get_or, refl, sym, ap, ◌∙◌, subst, arith}
use Rattle.faults.specs.declared.Fault.{Fault}
use Rattle.image.specs.Meaning.{Meaning, Touch}
use Rattle.verdict.specs.declared.outcome.Outcome.{Outcome}
use Rattle.plain.specs.declared.calls.Call.TheVariants.{Sample, Work}
use Rattle.plain.specs.declared.calls.Answer.{Answer}
use Rattle.plain.specs.declared.calls.Answer.TheVariants.{Found, Refused}
use Rattle.plain.specs.declared.calls.Entry.{Entry}
use Rattle.plain.specs.Behaviours.{Behaviour}
use Rattle.plain.specs.Stages.{worked, is_halted}
use Rattle.plain.specs.Charts.{Plain, begun, at, ComesTo, Answers}
use Rattle.plain.specs.Moments.{entry_of}
use Rattle.plain.specs.Campaigns.{begun_over, Campaign}
use Rattle.controller.specs.Standing.{stage_of, standing}
use Rattle.controller.specs.Calls.{open_scan}
use Rattle.controller.specs.declared.phase.Phase.{Phase}
use Rattle.controller.specs.declared.phase.Phase.TheVariants as phase
use Rattle.controller.specs.declared.controller.Controller.{Controller}
use Rattle.controller.specs.Closing.{closed}
use Rattle.callers.specs.Restarts.{restarted, FoundIfLive}
use Rattle.callers.proofs.Calling.{Made, made, second_entry}

-- the plain chart after a sample and a work from the beginning, and what the work answers
abbrev pub Ended : Behaviour → Bool → ℕ → ℕ → Answer → Plain → Type 0
Ended b true inputs outputs answer q =
    (o : Outcome) × (ComesTo b b.begins None inputs o × ((answer ≡ Found o.verdict) × (q ≡ at (worked inputs o) (begun b.begins outputs))))
Ended b false inputs outputs answer q = (f : Fault) × ((answer ≡ Refused f) × (q ≡ begun b.begins outputs))

both_answers : (b : Behaviour) (l : Bool) (live : Bool) (inputs : ℕ) (outputs : ℕ) (other : ℕ) (x y : Answer) (p q : Plain) → Answers b Sample l inputs (begun b.begins outputs) x p → Answers b Work live other p y q → Ended b l inputs outputs y q
both_answers b true live inputs outputs other x y p q h k =
    let w = subst (λ r. Answers b Work live other r y q) h.1 k in
    (w.0, (w.1.0, (w.1.1, w.1.2)))
both_answers b false live inputs outputs other x y p q h k =
    let w = subst (λ r. Answers b Work live other r y q) h.1 k in
    (_, w)

outputs_kept : (b : Behaviour) (l : Bool) (inputs outputs : ℕ) (answer : Answer) (q : Plain) → Ended b l inputs outputs answer q → q.outputs ≡ outputs
outputs_kept b true inputs outputs answer q h = ap (λ p. p.outputs) h.1.1.1
outputs_kept b false inputs outputs answer q h = ap (λ p. p.outputs) h.1.1

-- left like this, a controller is closed as one that is restarted
closed_at : (b : Behaviour) (c d : Controller) (p : Phase) → d.program ≡ c.program → d.state ≡ b.begins → d.previous ≡ None → d.phase ≡ p → is_halted (stage_of p) ≡ false → closed (open_scan p) d ≡ restarted b c
closed_at b c d phase.Idle e s f p h = λ t. record { program = e t; state = s t; previous = f t; phase = p t }
closed_at b c d (phase.Sampled frame) e s f p h = cc
closed_at b c d (phase.Worked frame o) e s f p h = cc
closed_at b c d phase.Halted e s f p h = cc

module _ {I : Type 0} (meaning : I → Meaning) (becomes : I → Touch → I → Type 0) (b : Behaviour) (c : Controller) (i : I) where
  pub record Two (log : List Entry) (none : Entry) (d : Controller) (j : I) : Type 0 where
    pub told : FoundIfLive b c (meaning i) (get_or log 1 none).answer
    pub restarts : closed (open_scan d.phase) d ≡ restarted b c
    pub image : meaning j ≡ meaning i

  ended : (l : Bool) (log : List Entry) (none : Entry) (d : Controller) (j : I) (answer : Answer) → (meaning i).live ≡ l → (get_or log 1 none).answer ≡ answer → d.program ≡ c.program → Ended b l (meaning i).inputs (meaning i).outputs answer (standing d (meaning j).outputs) → meaning j ≡ meaning i → Two log none d j
  ended true log none d j answer live e p h k = record {
    told = subst (FoundIfLive b c (meaning i)) (sym (e ∙ h.1.1.0)) (live, (h.0, (h.1.0, refl)));
    restarts =
        closed_at b c d d.phase p (ap (λ q. q.state) h.1.1.1) (ap (λ q. q.previous) h.1.1.1) refl
        (ap (λ q. is_halted q.stage) h.1.1.1);
    image = k;
  }
  ended false log none d j answer live e p h k = record {
    told = subst (FoundIfLive b c (meaning i)) (sym (e ∙ h.1.0)) live;
    restarts =
        closed_at b c d d.phase p (ap (λ q. q.state) h.1.1) (ap (λ q. q.previous) h.1.1) refl
        (ap (λ q. is_halted q.stage) h.1.1);
    image = k;
  }

  same_meaning : (m n : Meaning) → n.live ≡ m.live → n.inputs ≡ m.inputs → n.outputs ≡ m.outputs → n ≡ m
  same_meaning m n l e o = λ t. record { live = l t; inputs = e t; outputs = o t }

  two_moments : (old log : List Entry) (none : Entry) (entries : List Entry) (n : ℕ) (d : Controller) (j : I) → d.program ≡ c.program → log ≡ entries ++ drop n old → Made meaning becomes b (begun_over meaning b i) i (Sample ∷ Work ∷ []) entries (standing d (meaning j).outputs) j → Two log none d j
  two_moments old log none entries n d j p e (x, (s, (xs, (k, (y, (w, (ys, (l, (f, (q, g)))))))))) =
      let both = both_answers b (meaning i).live (meaning x.after).live (meaning i).inputs (meaning i).outputs (meaning x.after).inputs x.answer y.answer x.plain y.plain s.answered w.answered in
      let answer = ap (λ z. z.answer) (second_entry (entry_of x) (entry_of y) none xs ys (drop n old) log (e ∙ ap (λ z. z ++ drop n old) k) l) in
      let stays = ap meaning (g ∙ w.touched) in
      ended (meaning i).live log none d j y.answer refl answer p
      (subst (Ended b (meaning i).live (meaning i).inputs (meaning i).outputs y.answer) (sym q) both)
      (same_meaning (meaning i) (meaning j) (ap (λ m. m.live) stays ∙ s.kept.0) (ap (λ m. m.inputs) stays ∙ s.kept.1) (ap (λ m. (meaning m).outputs) g ∙ w.outputs ∙ outputs_kept b (meaning i).live (meaning i).inputs (meaning i).outputs y.answer y.plain both))

  -- both calls are made
  pub two_calls : (old log : List Entry) (none : Entry) (n : ℕ) (d : Controller) (j : I) → n ≡ min 2 (length old) → 2 ≤ length old → d.program ≡ c.program → Campaign meaning becomes b i (take n (Sample ∷ Work ∷ [])) old log (standing d (meaning j).outputs) j → Two log none d j
  two_calls old log none n d j count room p whole =
      let all : n ≡ 2 = omega arith in
      let k = subst (λ m. Campaign meaning becomes b i (take m (Sample ∷ Work ∷ [])) old log (standing d (meaning j).outputs) j) all whole in
      let m = made meaning becomes b (Sample ∷ Work ∷ []) (begun_over meaning b i) i k.moments j k.calls_made k.linked k.alike in
      two_moments old log none (map entry_of k.moments) (length k.moments) d j p k.log_kept
      (subst (λ q. Made meaning becomes b (begun_over meaning b i) i (Sample ∷ Work ∷ []) (map entry_of k.moments) q j) (sym k.ends) m)
