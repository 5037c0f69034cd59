-- The whole square root, one binary digit at a time (document 02, order 4): the rule of a digit, what is so after each, and what the digit loop holds.
--
-- 'The root is to come digit by digit, multiplying in that loop by constants alone and carrying a remainder. After each digit the remainder is shown
-- to be the part of the scaled number taken so far less the square of the root so far, and at most twice that root.' The digits are those of
-- `after_digits`. That the sentence is so of them is `AfterEachDigit`, which a function of src/lib.rt promises. The loop there has two promises, for each
-- number of digits: it carries just these roots and remainders (`AllHold`), and the sentence is so of what it carries (`AllExtracted`).
use Rattle.std.specs.Prelude.{◌≡◌, cond, ℕ, zero, suc, ◌+◌, ◌*◌, ◌/◌, ◌-◌, ◌%◌, ◌^◌, ◌≤◌, ◌<◌, leb, List, length, get_or}
use Rattle.root.specs.declared.Digits.{Digits}

-- `root` is the whole root of `part`, and `rem` what `part` has beyond its square.
pub record Extracted (part root rem : ℕ) : Type 0 where
  pub square : part ≡ root * root + rem
  pub small : rem ≤ 2 * root

-- The part of a scaled number of 108 binary digits that is taken after i of the 54 digits of its root: its leading 2 * i digits.
unfoldable pub taken : ℕ → ℕ → ℕ
taken scaled i = scaled / 4 ^ (54 - i)

-- A partial root and its remainder.
pub record Partial : Type 0 where
  pub root : ℕ
  pub rem : ℕ

-- One digit more, with two more digits taken. It is 1 where what that adds to the root's square, 4 * root + 1, is still there.
unfoldable pub one_more : Partial → ℕ → Partial
one_more p two =
    let here = 4 * p.rem + two in
    let more = 4 * p.root + 1 in
    let one = leb more here in
    record { root = 2 * p.root + cond one 1 0; rem = here - cond one more 0 }

-- What there is after i digits.
unfoldable pub after_digits : ℕ → ℕ → Partial
after_digits scaled zero = record { root = 0; rem = 0 }
after_digits scaled (suc i) = one_more (after_digits scaled i) (taken scaled (suc i) % 4)

-- The sentence, of every number of at most 108 digits, before the first of the 54 digits of its root and after each.
abbrev pub AfterEachDigit : Type 0
AfterEachDigit = (scaled i : ℕ) → scaled < 4 ^ 54 → i ≤ 54 → Extracted (taken scaled i) (after_digits scaled i).root (after_digits scaled i).rem

-- The whole root of a number below 4 ^ 54.
unfoldable pub whole_root : ℕ → ℕ
whole_root scaled = (after_digits scaled 54).root

-- ---- the loop

-- What the loop holds after i digits, in place: the root times the unit; what is left, that is the remainder times the unit and behind it, on the same
-- scale, the scaled number's digits still to come; and the unit, which halves with each digit. Said without a quotient: what is left times 2 ^ (54 - i)
-- is twice the remainder and those digits, as they stand in the scaled number.
pub record Holds (scaled i root left unit : ℕ) : Type 0 where
  pub in_units : root ≡ (after_digits scaled i).root * unit
  pub remains : left * 2 ^ (54 - i) ≡ 2 * ((after_digits scaled i).rem * 4 ^ (54 - i) + scaled % 4 ^ (54 - i))
  pub halved : unit ≡ 2 ^ (55 - i)

-- The state before a digit is within these bounds.
pub record Ready (root left unit : ℕ) : Type 0 where
  pub root_short : root < 2 ^ 55
  pub left_short : left < 2 ^ 57
  pub unit_short : unit ≤ 2 ^ 55
  pub quarters : unit % 4 ≡ 0

-- One digit more, in units. The trial for it is the root with a quarter of the unit.
pub record NextDigit (root left unit root' left' unit' : ℕ) : Type 0 where
  pub one : root + unit / 4 ≤ left → (root' ≡ root + unit / 2) × (left' + 2 * (root + unit / 4) ≡ 2 * left)
  pub none : left < root + unit / 4 → (root' ≡ root) × (left' ≡ 2 * left)
  pub halved : unit' ≡ unit / 2

-- `r` is `one` where the trial is not above what is left, else `none`.
pub record Chosen (left trial none one r : ℕ) : Type 0 where
  pub yes : trial ≤ left → r ≡ one
  pub no : left < trial → r ≡ none

-- ---- several numbers side by side

-- each has at most 54 digits
abbrev pub AllShort : List ℕ → Type 0
AllShort numbers = (k : ℕ) → get_or numbers k 0 < 2 ^ 54

-- what the loop holds of the one at place k, after i digits
abbrev pub HoldsAt : (numbers : List ℕ) (i : ℕ) (states : List Digits) (unit k : ℕ) → Type 0
HoldsAt numbers i states unit k = (d : Digits) → Holds (get_or numbers k 0 * 2 ^ 54) i (get_or states k d).root (get_or states k d).left unit

abbrev pub AllHold : (numbers : List ℕ) (i : ℕ) (states : List Digits) (unit : ℕ) → Type 0
AllHold numbers i states unit = (k : ℕ) → k < length numbers → HoldsAt numbers i states unit k

-- The sentence, of what the loop holds of the one at place k: in whole units, its root and its remainder are those of the part that is taken of the number
-- times 2 ^ 54.
abbrev pub ExtractedAt : (numbers : List ℕ) (i : ℕ) (states : List Digits) (unit k : ℕ) → Type 0
ExtractedAt numbers i states unit k =
    (d : Digits) → Extracted (taken (get_or numbers k 0 * 2 ^ 54) i) ((get_or states k d).root / unit) ((get_or states k d).left / unit)

abbrev pub AllExtracted : (numbers : List ℕ) (i : ℕ) (states : List Digits) (unit : ℕ) → Type 0
AllExtracted numbers i states unit = (k : ℕ) → k < length numbers → ExtractedAt numbers i states unit k
