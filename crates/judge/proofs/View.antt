-- The views of an answer can be taken back, so they tell any two answers apart, and the contracts fix the answer. Assumes nothing.
use mathlib.Core.Path.{◌≡◌, refl, sym, ap₂, ◌∙◌}
use Prim.Native.Nat.{ℕ}
use Rattle.std.specs.Prelude.{Result, Ok, Err}
use Rattle.rule.specs.declared.Refusal.{Refusal}
use Rattle.rule.specs.Answer.{Answer, refused, gives, told}
use Rattle.rule.proofs.Views.{told_one}
use Rattle.book.specs.Score as Score
use Rattle.judge.specs.Judging.{judged_as, answer_as, beyond_in, standing_of, supported, OneJudgement}
use Rattle.judge.specs.declared.Judgement.{Judgement}
use Rattle.judge.specs.declared.Verdict.{Verdict}
use Rattle.judge.specs.declared.Verdict.TheVariants.{Empty, Few, Scored}

module _ {S M : Type 0} (view : S → Score.Standing M) (back : Score.Standing M → S) (undone : (s : S) → back (view s) ≡ s) where
  -- both views of an answer that is given, and what they are of
  both : Judgement S → Score.Judgement M
  both j = record { worth = judged_as view j.verdict; beyond = j.beyond }

  verdict_of : Score.Judged M → Verdict S
  verdict_of (Score.turned_down k) = Empty
  verdict_of Score.empty = Empty
  verdict_of (Score.few count) = Few count
  verdict_of (Score.scored s) = Scored (back s)

  judgement_of : Score.Judgement M → Judgement S
  judgement_of j = record { verdict = verdict_of j.worth; beyond = j.beyond }

  judgement_back : (j : Judgement S) → judgement_of (both j) ≡ j
  unfolding judgement_of both verdict_of
  judgement_back j = ap₂ (λ v b. record { verdict = v; beyond = b }) (go j.verdict) refl
    where
      go : (v : Verdict S) → verdict_of (judged_as view v) ≡ v
      go Empty = refl
      go (Few count) = refl
      go (Scored s) = λ i. Scored (undone s i)

  told_by : Score.Judged M → ℕ → Answer (Score.Judgement M)
  told_by (Score.turned_down k) beyond = refused k
  told_by Score.empty beyond = gives (record { worth = Score.empty; beyond = beyond })
  told_by (Score.few count) beyond = gives (record { worth = Score.few count; beyond = beyond })
  told_by (Score.scored s) beyond = gives (record { worth = Score.scored s; beyond = beyond })

  told_is : (r : Result (Judgement S) Refusal) → told both r ≡ told_by (answer_as view r) (beyond_in r)
  unfolding both told_by
  told_is (Err e) = refl
  told_is (Ok j) = go j.verdict
    where
      go : (v : Verdict S) → ◌≡◌ {A = Answer (Score.Judgement M)} (gives (record { worth = judged_as view v; beyond = j.beyond })) (told_by (judged_as view v) j.beyond)
      go Empty = refl
      go (Few count) = refl
      go (Scored s) = refl

  one : (x y : Result (Judgement S) Refusal) → answer_as view x ≡ answer_as view y → beyond_in x ≡ beyond_in y → x ≡ y
  one x y h b = told_one both judgement_of judgement_back x y (told_is x ∙ ap₂ told_by h b ∙ sym (told_is y))

pub answer_one : {M : Type 0} → OneJudgement M
unfolding standing_of
answer_one = record {
  verdict = one standing_of (λ s. record { support = record { model = s.model; count = s.count; stop = s.stop }; rms = s.rms }) (λ s. refl);
  finding = λ rms. one (supported rms) (λ s. record { model = s.model; count = s.count; stop = s.stop }) (λ s. refl);
}
