-- A model from plain numbers, and a root mean square that is less as one number.
use Rattle.std.specs.Prelude.{Option, Some, None, Float}
use Rattle.std.specs.Float.{nan}
use Rattle.sheet.specs.declared.model.Model.{Model}

abbrev pub model_of : (h0 h1 h2 h3 h4 h5 h6 h7 h8 : Float) → Model
model_of h0 h1 h2 h3 h4 h5 h6 h7 h8 = record { h0 = h0; h1 = h1; h2 = h2; h3 = h3; h4 = h4; h5 = h5; h6 = h6; h7 = h7; h8 = h8 }

-- a NaN where it is not below the other
abbrev pub below_of : Option Float → Float
below_of (Some rms) = rms
below_of None = nan
