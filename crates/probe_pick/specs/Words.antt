-- A sheet's state as 25 words and a trial's answer as 29, as `words` has them.
use Rattle.std.specs.Prelude.{List, [], ℕ}
use Rattle.sheet.specs.Sheets.{sheet, no_camera}
use Rattle.sheet.specs.declared.model.Model.{Model}
use Rattle.sheet.specs.declared.model.Sheet.{Sheet}
use Rattle.pick.specs.Run.{Run, Answer}
use Rattle.words.specs.Words.{run_words, tried_words, run_in}

-- a sheet has no numbers of its own
abbrev pub state_words : Run Sheet Model → List ℕ
state_words r = run_words sheet (λ e. []) r

abbrev pub answer_words : Answer Sheet Model → List ℕ
answer_words t = tried_words sheet (λ e. []) t

abbrev pub state_in : List ℕ → Run Sheet Model
state_in l = run_in sheet no_camera l
