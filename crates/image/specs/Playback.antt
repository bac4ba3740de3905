-- The frames of a trace, and how they are played back. Assumes nothing.
use Rattle.std.specs.Prelude.{ℕ, zero, suc, ◌+◌, ◌*◌, ◌/◌, ◌%◌, min, if◌then◌else◌, ◌&&◌, ◌==◌, nat_lt, nat_le, Bool}
use Rattle.std.specs.Prelude.{List, [], ◌∷◌, length, take, drop, slice_index_or, Ok, Err, Result}
use Rattle.faults.specs.declared.TraceFault.{TraceFault}
use Rattle.faults.specs.declared.TraceFault.TheVariants.{BadLength}
use Rattle.image.specs.Meaning.{Meaning, Touch, sampling, delivering, advancing}

-- the number that some bytes spell, the least significant first
abbrev pub number_of : List ℕ → ℕ
number_of [] = 0
number_of (b ∷ bytes) = b + 256 * number_of bytes

-- the frame that some bytes begin with
abbrev pub frame_of : List ℕ → ℕ
frame_of bytes = number_of (take 8 bytes)

-- the first n frames of some bytes: each eight bytes are one
abbrev pub frames_in : ℕ → List ℕ → List ℕ
frames_in zero bytes = []
frames_in (suc n) bytes = frame_of bytes ∷ frames_in n (drop 8 bytes)

abbrev pub frames_of : List ℕ → List ℕ
frames_of trace = frames_in (length trace / 8) trace

-- what a frame list holds
pub record Playback : Type 0 where
  pub frames : List ℕ
  pub position : ℕ
  pub outputs : ℕ

abbrev pub is_left : Playback → Bool
is_left list = nat_lt list.position (length list.frames)

-- live while a frame is left; behind the trace no input is on
abbrev pub shown : Playback → Meaning
shown list =
    record { live = is_left list; inputs = slice_index_or list.frames list.position 0; outputs = list.outputs }

-- an advance counts up to the number of frames; a delivery while a frame is left gives the outputs
abbrev pub played : Touch → Playback → Playback
played sampling list = list
played (delivering frame) list = record list { outputs = if is_left list then frame else list.outputs }
played advancing list = record list { position = min (list.position + 1) (length list.frames) }

-- a list that has advanced n times
abbrev pub advanced : ℕ → Playback → Playback
advanced zero list = list
advanced (suc n) list = played advancing (advanced n list)

-- a trace is at most 65,536 bytes long, and consists of whole frames
abbrev pub is_trace_length : ℕ → Bool
is_trace_length n = nat_le n 65536 && n % 8 == 0

-- the list of a trace, at its first frame and with every output off
abbrev pub from_first : List ℕ → Playback
from_first trace = record { frames = frames_of trace; position = 0; outputs = 0 }

-- the list of some bytes, or their refusal
abbrev pub list_of : List ℕ → Result Playback TraceFault
list_of bytes = if is_trace_length (length bytes) then Ok (from_first bytes) else Err BadLength

-- n advances from the beginning: the frame at byte 8 * n, and past the last byte none
abbrev pub shown_from : ℕ → List ℕ → Meaning
shown_from n trace =
    record {
      live = nat_lt (8 * n) (length trace);
      inputs = frame_of (drop (8 * n) trace);
      outputs = 0;
    }
