-- How a call ends: its number and its text.
use Rattle.std.specs.Prelude.{ℕ, List, [], ◌++◌, codes, decimal}
use Rattle.geo_layer.specs.declared.layer.LayerFault.{LayerFault}
use Rattle.geo_layer.specs.declared.layer.LayerFault.TheVariants as layer
use Rattle.feature_reader.specs.declared.feature.FeatureFault.{FeatureFault}
use Rattle.feature_reader.specs.declared.feature.FeatureFault.TheVariants as feature
use Rattle.session_text.specs.declared.why.Why.{Why}
use Rattle.session_text.specs.declared.why.Why.TheVariants.{Long, Utf8, Head, Word, Form, Lang, Layer, Number, Feed, Feature, Asks}
use Rattle.session_text.specs.declared.status.Status.{Status}
use Rattle.session_text.specs.declared.status.Status.TheVariants.{Done, Usage, BadLine, Unended, TooMuch, ReadFault, WriteFault, Memory}

-- the number and the name of a layer's fault
abbrev pub layer_fault_text : LayerFault → List ℕ
layer_fault_text layer.Json = codes "1 Json"
layer_fault_text layer.Name = codes "2 Name"
layer_fault_text layer.Zoom = codes "3 Zoom"
layer_fault_text layer.Falling = codes "4 Falling"
layer_fault_text layer.Stack = codes "5 Stack"
layer_fault_text layer.Tokens = codes "6 Tokens"
layer_fault_text layer.TooMany = codes "7 TooMany"
layer_fault_text layer.ScoreMax = codes "8 ScoreMax"

-- the number and the name of a feature's fault
abbrev pub feature_fault_text : FeatureFault → List ℕ
feature_fault_text feature.Json = codes "1 Json"
feature_fault_text feature.Id = codes "2 Id"
feature_fault_text feature.Text = codes "3 Text"
feature_fault_text feature.Zxy = codes "4 Zxy"
feature_fault_text feature.Zoom = codes "5 Zoom"
feature_fault_text feature.Score = codes "6 Score"
feature_fault_text feature.Relev = codes "7 Relev"

-- the number and the name of a line's fault, and of the layer's or the feature's fault in it
abbrev pub why_text : Why → List ℕ
why_text Long = codes "1 Long"
why_text Utf8 = codes "2 Utf8"
why_text Head = codes "3 Head"
why_text Word = codes "4 Word"
why_text Form = codes "5 Form"
why_text Lang = codes "6 Lang"
why_text (Layer fault) = codes "7 Layer " ++ layer_fault_text fault
why_text Number = codes "8 Number"
why_text Feed = codes "9 Feed"
why_text (Feature fault) = codes "10 Feature " ++ feature_fault_text fault
why_text Asks = codes "11 Asks"

-- the exit status of the process
abbrev pub exit_number : Status → ℕ
exit_number Done = 0
exit_number Usage = 1
exit_number (BadLine line why) = 2
exit_number Unended = 3
exit_number TooMuch = 4
exit_number ReadFault = 5
exit_number WriteFault = 6
exit_number Memory = 7

-- what is told of the status, in one line without its line feed
abbrev pub status_text : Status → List ℕ
status_text Done = []
status_text Usage = codes "carmen: usage"
status_text (BadLine line why) = codes "carmen: line " ++ decimal line ++ codes ": " ++ why_text why
status_text Unended = codes "carmen: no end line"
status_text TooMuch = codes "carmen: too much input"
status_text ReadFault = codes "carmen: read fault"
status_text WriteFault = codes "carmen: write fault"
status_text Memory = codes "carmen: out of memory"
