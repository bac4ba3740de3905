-- Scans over an image, one after the other. Assumes nothing.
use Rattle.std.specs.Prelude.{◌≡◌, ℕ, zero, suc, ◌<◌, Some, Ok, Err, Result}
use Rattle.image.specs.Meaning.{Meaning, Touch, advancing}
use Rattle.verdict.specs.declared.outcome.Verdict.{Verdict}
use Rattle.plain.specs.declared.calls.Call.TheVariants.{Sample}
use Rattle.plain.specs.Behaviours.{Behaviour}
use Rattle.plain.specs.Moments.{SampledInTurn}
use Rattle.plain.specs.Stages.{refusal}
use Rattle.controller.specs.Standing.{stage_of}
use Rattle.controller.specs.declared.controller.Controller.{Controller}
use Rattle.callers.specs.declared.task.Stopped.{Stopped}
use Rattle.callers.specs.Scans.{Cycled, Answering}

-- the scan of a controller c over an image i, and then an advance: they become d and j
pub record Round {I : Type 0} (meaning : I → Meaning) (becomes : I → Touch → I → Type 0) (b : Behaviour) (c : Controller) (i : I) (v : Verdict) (d : Controller) (j : I) : Type 0 where
  pub delivered : I
  pub scan : Cycled b c (meaning i).inputs v d (meaning j).outputs
  pub answering : Answering becomes (meaning j).outputs i delivered
  pub advanced : becomes delivered advancing j

-- so many rounds, one after the other
abbrev pub Rounds : {I : Type 0} → (I → Meaning) → (I → Touch → I → Type 0) → Behaviour → ℕ → Controller → I → Controller → I → Type 0
Rounds meaning becomes b zero c i d j = (d ≡ c) × (j ≡ i)
Rounds {I} meaning becomes b (suc n) c i d j =
    (e : Controller) × ((k : I) × ((v : Verdict) × (Rounds meaning becomes b n c i e k × Round meaning becomes b e k v d j)))

-- the sample behind the rounds that are made is refused, and that alters nothing
pub record Stops {I : Type 0} (meaning : I → Meaning) (becomes : I → Touch → I → Type 0) (b : Behaviour) (rounds : ℕ) (c : Controller) (i : I) (s : Stopped) (d : Controller) (j : I) : Type 0 where
  pub image : I
  pub made : Rounds meaning becomes b s.scans c i d image
  pub few : s.scans < rounds
  pub fault : refusal Sample (stage_of d.phase) (meaning image).live ≡ Some s.fault
  pub unchanged : meaning j ≡ meaning image
  pub touched : SampledInTurn becomes (stage_of d.phase) image j

-- all the rounds are made, or they stop
abbrev pub Ran : {I : Type 0} → (I → Meaning) → (I → Touch → I → Type 0) → Behaviour → ℕ → Controller → I → Result (Unit {0}) Stopped → Controller → I → Type 0
Ran meaning becomes b rounds c i (Ok _) d j = Rounds meaning becomes b rounds c i d j
Ran meaning becomes b rounds c i (Err s) d j = Stops meaning becomes b rounds c i s d j
