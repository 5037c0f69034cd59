-- Document 01, 'Quadratic': the real roots of a·x² + b·x + c, ascending, each operation once and in 01's order. Refusal 15 for a coefficient that
-- is not finite or of magnitude above 1e100.
use Rattle.std.specs.Prelude.{Bool, cond, ◌&&◌, List, [], ◌∷◌, Float}
use Rattle.std.specs.Float.Ieee.{lt, neg}
use Rattle.rule.specs.Refusal.{NUMBER}
use Rattle.rule.specs.Answer.{Answer, refused, gives}
use Rattle.rule.specs.Arith.{◌⊕◌, ◌⊖◌, ◌⊗◌, ◌⊘◌}
use Rattle.root.specs.Root.{root_of}
use Rattle.numbers.specs.Constants.{zero', two, four, tiny, near, most}
use Rattle.numbers.specs.Finite.{abs_of, within}
use Rattle.numbers.specs.declared.quadratic.Quadratic.{Quadratic}
use Rattle.numbers.specs.declared.quadratic.Quadratic.TheVariants.{NoRoot, One, Two}

-- what counts as 0: of magnitude below 1e-12
unfoldable pub counts0 : Float → Bool
counts0 x = lt (abs_of x) tiny

-- |a| < e: none if |b| < e, else -c / b
unfoldable pub linear : Float → Float → List Float
linear b c = cond (counts0 b) [] (neg c ⊘ b ∷ [])

-- b·b - (4·a)·c
unfoldable pub discriminant : Float → Float → Float → Float
discriminant a b c = b ⊗ b ⊖ four ⊗ a ⊗ c

-- the plus root alone if the two differ by less than 1e-8, else both, ascending
unfoldable pub ascending : Float → Float → List Float
ascending plus minus = cond (lt (abs_of (plus ⊖ minus)) near) (plus ∷ []) (cond (lt minus plus) (minus ∷ plus ∷ []) (plus ∷ minus ∷ []))

-- |disc| < e: one, -b / (2·a); negative: none; otherwise (-b ± root) / (2·a)
unfoldable pub curved : Float → Float → Float → List Float
curved a b disc =
    cond (counts0 disc) (neg b ⊘ (two ⊗ a) ∷ [])
    (cond (lt disc zero') []
    (ascending ((neg b ⊕ root_of disc) ⊘ (two ⊗ a)) ((neg b ⊖ root_of disc) ⊘ (two ⊗ a))))

unfoldable pub roots_of : Float → Float → Float → List Float
roots_of a b c = cond (counts0 a) (linear b c) (curved a b (discriminant a b c))

-- what each case of the code's roots stands for
unfoldable pub view_quadratic : Quadratic → List Float
view_quadratic NoRoot = []
view_quadratic (One x) = x ∷ []
view_quadratic (Two x y) = x ∷ y ∷ []

-- ---- the entry

unfoldable pub quadratic_answer : Float → Float → Float → Answer (List Float)
quadratic_answer a b c = cond (within most a && (within most b && within most c)) (gives (roots_of a b c)) (refused NUMBER)
