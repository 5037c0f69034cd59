-- Document 01, 'Trials': the numbers of a candidate where they stand in a record. Marked they are finite, unmarked they are zero bytes (so −0 is none).
use Rattle.std.specs.Prelude.{Bool, cond, List, map, ℕ, eqb, Float, Option, Some, None}
use Rattle.std.specs.List.{range_with_len}
use Rattle.std.specs.Float.{binary64}
use Rattle.std.specs.Float.Ieee.{to_bits}
use Rattle.rule.specs.Lists.{every}
use Rattle.numbers.specs.Finite.{all_finite}
use Rattle.fields.specs.Fields.{double_at}
use Rattle.estimator.specs.Family.{Family}

-- whether numbers may stand there
unfoldable pub doubles_formed : (mark : Bool) → List Float → Bool
doubles_formed mark l = cond mark (all_finite l) (every (λ x. eqb (to_bits binary64 x) 0) l)

-- the numbers at the front of some bytes
unfoldable pub numbers_at : (k : ℕ) → List ℕ → List Float
numbers_at k l = map (λ i. double_at l i) (range_with_len 0 k)

-- the candidate that stands there, none where its numbers may not
unfoldable pub model_read : {E M K : Type 0} → Family E M K → (mark : Bool) → List ℕ → Option M
model_read f mark l = cond (doubles_formed mark (numbers_at f.size l)) (Some (f.model_of (numbers_at f.size l))) None
