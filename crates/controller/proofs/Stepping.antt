-- A campaign so far, and the controller's next call. Assumes nothing.
use Rattle.std.proofs.Common.{◌≡◌, ℕ, ◌+◌, ◌<◌, List, length, take, get_or, set, refl}
use Rattle.std.proofs.lemmas.List.{take_more, take_more_set}
use Rattle.image.specs.Meaning.{Meaning, Touch}
use Rattle.plain.specs.declared.calls.Call.{Call}
use Rattle.plain.specs.declared.calls.Entry.{Entry}
use Rattle.plain.specs.Behaviours.{Behaviour}
use Rattle.plain.proofs.Once.{answers_once}
use Rattle.plain.proofs.Moments.{Sofar, one_more_is}
use Rattle.controller.specs.Standing.{standing}
use Rattle.controller.specs.Beside.{Makes}
use Rattle.controller.specs.declared.controller.Controller.{Controller}

module _ {I : Type 0} (meaning : I → Meaning) (becomes : I → Touch → I → Type 0) (b : Behaviour) where
  -- call k is made, and written down as entry k
  pub makes_one_more : (i : I) (calls : List Call) (log : List Entry) (k : ℕ) (d : Call) (c : Controller) (j : I) (entry : Entry) (e : Controller) (n : I) → entry.active ≡ e.state.active → k < length calls → k < length log → Sofar meaning becomes b i (take k calls) (take k log) (standing c (meaning j).outputs) j → Makes meaning becomes b (get_or calls k d) c j entry.answer e n → Sofar meaning becomes b i (take (k + 1) calls) (take (k + 1) (set log k entry)) (standing e (meaning n).outputs) n
  makes_one_more i calls log k d c j entry e n same few room s m =
      one_more_is meaning becomes b
      (record { call = get_or calls k d; before = j; answer = entry.answer; active = entry.active; after = n; plain = standing e (meaning n).outputs })
      s
      (record {
        answered = m.answered;
        only = λ a q h. answers_once b (get_or calls k d) (meaning j).live (meaning j).inputs (standing c (meaning j).outputs) entry.answer (standing e (meaning n).outputs) a q m.answered h;
        outputs = refl;
        steps = same;
        kept = m.kept;
        touched = m.touched;
      })
      refl
      _ _ (take_more calls k d few) (take_more_set log k entry room)
