-- A form's state as 32 words and a trial's answer as 36, as `words` has them: the camera's numbers stand behind the ratio.
use Rattle.std.specs.Prelude.{List, ℕ}
use Rattle.form.specs.Distance.{camera_of, camera_numbers}
use Rattle.form.specs.Forms.{form}
use Rattle.form.specs.declared.model.Model.{Model}
use Rattle.form.specs.declared.model.Camera.{Camera}
use Rattle.pick.specs.Run.{Run, Answer}
use Rattle.words.specs.Words.{run_words, tried_words, numbers_from, run_in}

abbrev pub state_words : Run Camera Model → List ℕ
state_words r = run_words form camera_numbers r

abbrev pub answer_words : Answer Camera Model → List ℕ
answer_words t = tried_words form camera_numbers t

abbrev pub state_in : List ℕ → Run Camera Model
state_in l = run_in form (camera_of (numbers_from 28 4 l)) l
