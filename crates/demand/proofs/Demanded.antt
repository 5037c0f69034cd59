-- The customer's third demand, proved: `demand_3`. What it says is `Demand3` of specs/Demand.antt, each clause beside the demand's words. Assumes nothing.
use mathlib.Core.Path.{sym, ap, ◌∙◌}
use mathlib.Core.List.{List, ◌∷◌}
use Prim.Native.Nat.{ℕ}
use lib.ListN.{length}
use lib.Ieee.{Float}
use Rattle.std.specs.Prelude.{Ok}
use Rattle.rule.specs.Answer.{gives}
use Rattle.rule.specs.Order.{first_failed}
use Rattle.rule.proofs.Order.{decided-gives, decided-none, first_passed}
use Rattle.sheet.specs.Sheets.{sheet}
use Rattle.sheet.specs.Owed as Sheets
use Rattle.form.specs.Marks.{marks_of}
use Rattle.form.specs.Forms.{form}
use Rattle.form.specs.Owed as Forms
use Rattle.form.specs.declared.model.Camera.{Camera}
use Rattle.form.specs.declared.model.Model.{Model}
use Rattle.records.specs.Options.{options_record, options_of}
use Rattle.pick.specs.Opening.{fresh_run, opening_tests, opening_answer}
use Rattle.pick.specs.declared.run_state.State.{State}
use Rattle.form_records.specs.Camera.{camera_record, camera_in, records_tests, records_answer}
use Rattle.demand.specs.Demand.{Opening, OpensByRecords, Demand3}
use Rattle.demand.proofs.Listed.{calls_kept}
use Rattle.demand.proofs.Whole.{run_after}

-- a form's run by two records
records_open : (options camera : List ℕ) (marks : List Float) (stops : List ℕ) (s₀ : State Camera Model) → OpensByRecords options camera marks stops (Ok s₀)
    → Opening form (camera_in camera) (options_of options) marks stops s₀
unfolding records_answer records_tests opening_answer options_record camera_record
records_open options camera marks stops s₀ opens =
    let c = camera_in camera in
    let o = options_of options in
    let d = decided-gives (first_failed (options_record options ∷ camera_record camera ∷ opening_tests form c o marks stops)) opens in
    let p = first_passed (options_record options) (camera_record camera ∷ opening_tests form c o marks stops) tt d.0 in
    let q = first_passed (camera_record camera) (opening_tests form c o marks stops) tt p.1 in
    ap gives d.1 ∙ decided-none (fresh_run c o (length (marks_of marks))) (sym q.1)

pub demand_3 : Demand3
demand_3 =
    record {
      sheets = calls_kept sheet 4 Sheets.wide Sheets.counts;
      forms = calls_kept form 5 Forms.wide Forms.counts;
      forms_by_records = records_open;
      after_run = λ f r winner indices winner' indices' ran. run_after f r winner indices winner' indices' ran;
    }
