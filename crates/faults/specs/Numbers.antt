-- The layer, the number and the place of each fault. Assumes nothing.
use Rattle.std.specs.Prelude.{ℕ}
use Rattle.faults.specs.declared.Layer.{Layer}
use Rattle.faults.specs.declared.Layer.TheVariants as layer
use Rattle.faults.specs.declared.TextFault.{TextFault}
use Rattle.faults.specs.declared.TextFault.TheVariants.{TooLong, NoToken, TooManyDigits, Unexpected, EighthBracket}
use Rattle.faults.specs.declared.TextFault.TheVariants.{NumberTooLarge}
use Rattle.faults.specs.declared.ChartFault.{ChartFault}
use Rattle.faults.specs.declared.ChartFault.TheVariants.{Text, DeclaredTwice, UndeclaredStep, ListedTwice, HeldTwice}
use Rattle.faults.specs.declared.ChartFault.TheVariants.{NoInitialStep}
use Rattle.faults.specs.declared.CodeFault.{CodeFault}
use Rattle.faults.specs.declared.CodeFault.TheVariants.{Chart, TooManyWords, BufferTooShort}
use Rattle.faults.specs.declared.Section.{Section}
use Rattle.faults.specs.declared.Section.TheVariants.{Initial, Clear, Enter, Hold}
use Rattle.faults.specs.declared.FileFault.{FileFault}
use Rattle.faults.specs.declared.FileFault.TheVariants as file
use Rattle.faults.specs.declared.ControllerFault.{ControllerFault}
use Rattle.faults.specs.declared.ControllerFault.TheVariants.{ScanOpen, Halted, WrongPhase}
use Rattle.faults.specs.declared.Fault.{Fault}
use Rattle.faults.specs.declared.Fault.TheVariants.{Code, File, Trace, Controller, Image}

abbrev pub text_number : TextFault → ℕ
text_number TooLong = 1
text_number (NoToken p) = 2
text_number (TooManyDigits p) = 3
text_number (Unexpected p) = 4
text_number (EighthBracket p) = 5
text_number (NumberTooLarge p) = 6

abbrev pub text_place : TextFault → ℕ
text_place TooLong = 32768
text_place (NoToken p) = p
text_place (TooManyDigits p) = p
text_place (Unexpected p) = p
text_place (EighthBracket p) = p
text_place (NumberTooLarge p) = p

abbrev pub chart_layer : ChartFault → Layer
chart_layer (Text e) = layer.Text
chart_layer (DeclaredTwice p) = layer.Chart
chart_layer (UndeclaredStep p) = layer.Chart
chart_layer (ListedTwice p) = layer.Chart
chart_layer (HeldTwice p) = layer.Chart
chart_layer (NoInitialStep p) = layer.Chart

abbrev pub chart_number : ChartFault → ℕ
chart_number (Text e) = text_number e
chart_number (DeclaredTwice p) = 7
chart_number (UndeclaredStep p) = 8
chart_number (ListedTwice p) = 9
chart_number (HeldTwice p) = 10
chart_number (NoInitialStep p) = 11

abbrev pub chart_place : ChartFault → ℕ
chart_place (Text e) = text_place e
chart_place (DeclaredTwice p) = p
chart_place (UndeclaredStep p) = p
chart_place (ListedTwice p) = p
chart_place (HeldTwice p) = p
chart_place (NoInitialStep p) = p

abbrev pub code_layer : CodeFault → Layer
code_layer (Chart e) = chart_layer e
code_layer (TooManyWords p) = layer.Code
code_layer (BufferTooShort p) = layer.Code

abbrev pub code_number : CodeFault → ℕ
code_number (Chart e) = chart_number e
code_number (TooManyWords p) = 12
code_number (BufferTooShort p) = 13

abbrev pub code_place : CodeFault → ℕ
code_place (Chart e) = chart_place e
code_place (TooManyWords p) = p
code_place (BufferTooShort p) = p

-- the byte at which a section's pair stands in the directory
abbrev pub pair_place : Section → ℕ
pair_place Initial = 4
pair_place Clear = 12
pair_place Enter = 20
pair_place Hold = 28

abbrev pub file_number : FileFault → ℕ
file_number file.TooShort = 14
file_number file.NoMark = 15
file_number (file.BadPair s) = 16
file_number file.TooManyWords = 17
file_number (file.UnlawfulWord p) = 18
file_number (file.Unbalanced p) = 19

abbrev pub file_place : FileFault → ℕ
file_place file.TooShort = 0
file_place file.NoMark = 0
file_place (file.BadPair s) = pair_place s
file_place file.TooManyWords = 0
file_place (file.UnlawfulWord p) = p
file_place (file.Unbalanced p) = p

abbrev pub controller_number : ControllerFault → ℕ
controller_number ScanOpen = 21
controller_number Halted = 22
controller_number WrongPhase = 23

abbrev pub layer_of : Fault → Layer
layer_of (Code e) = code_layer e
layer_of (File e) = layer.File
layer_of (Trace e) = layer.Trace
layer_of (Controller e) = layer.Controller
layer_of (Image e) = layer.Image

abbrev pub number_of : Fault → ℕ
number_of (Code e) = code_number e
number_of (File e) = file_number e
number_of (Trace e) = 20
number_of (Controller e) = controller_number e
number_of (Image e) = 24

abbrev pub place_of : Fault → ℕ
place_of (Code e) = code_place e
place_of (File e) = file_place e
place_of (Trace e) = 0
place_of (Controller e) = 0
place_of (Image e) = 0
