-- What a restarted controller's first calls come to. Assumes nothing.
use Rattle.std.specs.Prelude.{◌≡◌, ℕ, Bool, true, false, not, ◌&&◌, List, length, nat_le}
use Rattle.image.specs.Meaning.{Meaning}
use Rattle.plain.specs.declared.calls.Answer.{Answer}
use Rattle.plain.specs.declared.calls.Answer.TheVariants.{Done, Found, Delivered, Refused}
use Rattle.plain.specs.declared.calls.Entry.{Entry}
use Rattle.plain.specs.Behaviours.{Behaviour}
use Rattle.plain.specs.Stages.{scan_open}
use Rattle.controller.specs.declared.controller.Controller.{Controller}
use Rattle.controller.specs.Standing.{stage_of}
use Rattle.controller.specs.Calls.{begun_from}
use Rattle.callers.specs.Scans.{FoundBy, Cycled}

abbrev pub restarted : Behaviour → Controller → Controller
restarted b c = begun_from b.begins c

-- no scan is open, and the log has room for two entries
abbrev pub begins : Controller → List Entry → Bool
begins c log = not (scan_open (stage_of c.phase)) && nat_le 2 (length log)

-- what is answered to a work after a sample: a live image's frame is found, and else there is no verdict
abbrev pub FoundIfLive : Behaviour → Controller → Meaning → Answer → Type 0
FoundIfLive b c m Done = ⊥
FoundIfLive b c m (Found v) = (m.live ≡ true) × FoundBy b (restarted b c) m.inputs v
FoundIfLive b c m (Delivered frame) = ⊥
FoundIfLive b c m (Refused f) = m.live ≡ false

-- what is answered to it where the frame is also delivered
abbrev pub FoundAndDelivered : Behaviour → Controller → ℕ → Controller → ℕ → Answer → Type 0
FoundAndDelivered b c frame d outputs Done = ⊥
FoundAndDelivered b c frame d outputs (Found v) = Cycled b (restarted b c) frame v d outputs
FoundAndDelivered b c frame d outputs (Delivered shown) = ⊥
FoundAndDelivered b c frame d outputs (Refused f) = ⊥
