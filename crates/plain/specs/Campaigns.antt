-- A whole campaign. Assumes nothing.
use Rattle.std.specs.Prelude.{◌≡◌, ℕ, List, ◌++◌, map, take, drop, length}
use Rattle.image.specs.Meaning.{Meaning, Touch}
use Rattle.verdict.specs.declared.outcome.Verdict.{Verdict}
use Rattle.plain.specs.declared.calls.Call.{Call}
use Rattle.plain.specs.declared.calls.Entry.{Entry}
use Rattle.plain.specs.Behaviours.{Behaviour}
use Rattle.plain.specs.Charts.{Plain, begun}
use Rattle.plain.specs.Moments.{Moment, call_of, entry_of, Linked, last_of, Alike}
use Rattle.plain.specs.Laws.{Counted, OffUnstable, Circles}

-- the plain chart with which a campaign begins, over this image
abbrev pub begun_over : {I : Type 0} → (I → Meaning) → Behaviour → I → Plain
begun_over meaning b i = begun b.begins (meaning i).outputs

-- these calls, one after the other, from the image i to the image j, with the plain chart p in the end; what is written
-- down of them takes the place of as many entries of the old log
pub record Campaign {I : Type 0} (meaning : I → Meaning) (becomes : I → Touch → I → Type 0) (b : Behaviour) (i : I) (calls : List Call) (old log : List Entry) (p : Plain) (j : I) : Type 0 where
  pub moments : List (Moment I)
  pub calls_made : map call_of moments ≡ calls
  pub log_kept : log ≡ map entry_of moments ++ drop (length moments) old
  pub linked : Linked i moments j
  pub alike : Alike meaning becomes b (begun_over meaning b i) moments
  pub ends : p ≡ last_of (begun_over meaning b i) moments
  pub counted : (n : ℕ) → Counted (take n moments) (last_of (begun_over meaning b i) (take n moments)).stage
  pub off : (v : Verdict) → OffUnstable meaning v moments
  pub circles : Circles b (begun_over meaning b i) moments
