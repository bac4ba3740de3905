-- An operator panel. Assumes nothing.
use Rattle.std.specs.Prelude.{ℕ, true}
use Rattle.image.specs.Meaning.{Meaning, Touch, sampling, delivering, advancing}

-- the frame of its switches, and the frame of its lamps
pub record Board : Type 0 where
  pub switches : ℕ
  pub lamps : ℕ

-- all off
abbrev pub dark : Board
dark = record { switches = 0; lamps = 0 }

-- the switches, set by hand
abbrev pub set_to : ℕ → Board → Board
set_to frame panel = record panel { switches = frame }

-- always live; the switches are the inputs, and the lamps the outputs
abbrev pub shown : Board → Meaning
shown panel = record { live = true; inputs = panel.switches; outputs = panel.lamps }

-- a delivery gives the lamps, and no call moves a switch
abbrev pub lit : Touch → Board → Board
lit sampling panel = panel
lit (delivering frame) panel = record panel { lamps = frame }
lit advancing panel = panel
