-- The text of a fault: layer, number and place, with blanks between them. Assumes nothing.
use Rattle.std.specs.Prelude.{ℕ, List, ◌++◌, codes, decimal}
use Rattle.faults.specs.declared.Layer.{Layer}
use Rattle.faults.specs.declared.Layer.TheVariants.{Text, Chart, Code, File, Trace, Controller, Image}
use Rattle.faults.specs.declared.Fault.{Fault}
use Rattle.faults.specs.Numbers.{layer_of, number_of, place_of}

abbrev pub layer_name : Layer → List ℕ
layer_name Text = codes "text"
layer_name Chart = codes "chart"
layer_name Code = codes "code"
layer_name File = codes "file"
layer_name Trace = codes "trace"
layer_name Controller = codes "controller"
layer_name Image = codes "image"

abbrev pub fault_text : Fault → List ℕ
fault_text e = layer_name (layer_of e) ++ (codes " " ++ (decimal (number_of e) ++ (codes " " ++ decimal (place_of e))))
