-- What an image shows at a moment, and what sample and deliver make of it. Assumes nothing.
use Rattle.std.specs.Prelude.{ℕ, Bool, if◌then◌else◌, Ok, Err, Result}
use Rattle.faults.specs.declared.ImageFault.{ImageFault}
use Rattle.faults.specs.declared.ImageFault.TheVariants.{NotLive}

pub record Meaning : Type 0 where
  pub live : Bool
  pub inputs : ℕ
  pub outputs : ℕ

-- what is done to an image: it is sampled, a frame is delivered to it, or it advances
pub data Touch : Type 0 where
  sampling : Touch
  delivering : ℕ → Touch
  advancing : Touch

-- a live image answers its inputs
abbrev pub sampled : Meaning → Result ℕ ImageFault
sampled m = if m.live then Ok m.inputs else Err NotLive

-- a live image takes the frame
abbrev pub delivered : Meaning → Result (Unit {0}) ImageFault
delivered m = if m.live then Ok tt else Err NotLive

-- a live image then has the frame as its outputs; nothing else changes
abbrev pub showing : ℕ → Meaning → Meaning
showing frame m = record m { outputs = if m.live then frame else m.outputs }
