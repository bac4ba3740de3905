-- One call of a controller and its image, beside the plain chart that they stand for. Assumes nothing.
use Rattle.image.specs.Meaning.{Meaning, Touch}
use Rattle.plain.specs.declared.calls.Call.{Call}
use Rattle.plain.specs.declared.calls.Answer.{Answer}
use Rattle.plain.specs.Behaviours.{Behaviour}
use Rattle.plain.specs.Charts.{Answers}
use Rattle.plain.specs.Moments.{Kept, Touched}
use Rattle.controller.specs.Standing.{stage_of, standing}
use Rattle.controller.specs.declared.controller.Controller.{Controller}

-- by a call the controller c and the image i become d and j
pub record Makes {I : Type 0} (meaning : I → Meaning) (becomes : I → Touch → I → Type 0) (b : Behaviour) (call : Call) (c : Controller) (i : I) (answer : Answer) (d : Controller) (j : I) : Type 0 where
  pub answered :
      Answers b call (meaning i).live (meaning i).inputs (standing c (meaning i).outputs) answer
      (standing d (meaning j).outputs)
  pub kept : Kept call (meaning i) (meaning j)
  pub touched : Touched becomes b call (stage_of c.phase) i j
