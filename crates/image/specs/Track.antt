-- A carriage on its track. Assumes nothing.
use Rattle.std.specs.Prelude.{ℕ, zero, suc, ◌+◌, ◌-◌, min, if◌then◌else◌, true, not, ◌&&◌, ◌||◌, ◌==◌}
use Rattle.frames.specs.Bits.{bit, pack}
use Rattle.image.specs.Meaning.{Meaning, Touch, sampling, delivering, advancing}

-- a carriage: its position, 0 to 100, and the outputs
pub record Track : Type 0 where
  pub position : ℕ
  pub outputs : ℕ

-- I0 tells the lower end and I1 the upper one; no other input is ever on
abbrev pub sensors : ℕ → ℕ
sensors position = pack 64 (λ n. (n == 0 && position == 0) || (n == 1 && position == 100))

-- always live
abbrev pub shown : Track → Meaning
shown carriage = record { live = true; inputs = sensors carriage.position; outputs = carriage.outputs }

-- with Q0 on and Q1 off one up, with Q1 on and Q0 off one down, within 0 to 100; otherwise it stays
abbrev pub moved : ℕ → ℕ → ℕ
moved outputs position =
    if bit 0 outputs && not (bit 1 outputs) then min (position + 1) 100
    else (if bit 1 outputs && not (bit 0 outputs) then position - 1
    else position)

-- an advance moves it, and a delivery gives the outputs
abbrev pub driven : Touch → Track → Track
driven sampling carriage = carriage
driven (delivering frame) carriage = record carriage { outputs = frame }
driven advancing carriage = record carriage { position = moved carriage.outputs carriage.position }

abbrev pub at_start : Track
at_start = record { position = 0; outputs = 0 }

-- a carriage that has advanced n times
abbrev pub advanced : ℕ → Track → Track
advanced zero carriage = carriage
advanced (suc n) carriage = driven advancing (advanced n carriage)

-- these outputs delivered, then n advances
abbrev pub under : ℕ → ℕ → Track → Track
under outputs n carriage = advanced n (driven (delivering outputs) carriage)
