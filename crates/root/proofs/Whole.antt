-- The digits of the whole root: after each the remainder and the root are what they should be (`after_each_digit`), and after all 54 the root is the whole root
-- (`whole_is`). Then the same digits as the loop finds them. Assumes nothing.
use mathlib.Core.Path.{◌≡◌, refl, sym, ap, ◌∙◌}
use mathlib.Core.Logic.{⊎_elim}
use Prim.Native.Nat.{ℕ, zero, suc, ◌+◌, ◌-◌, ◌*◌, ◌/◌, ◌%◌, ◌^◌, ◌≤◌, ◌<◌}
use native.Mathlib.Nat.{lt_of_mul-lt-mul_right, le_of_mul-le-mul_right, mul-lt-mul_of_pos_right, mod-lt, mul-add, add-mul, mul-one, one-mul, mul_assoc, mul_comm, mul_right_comm, mul-mul-mul_comm, mul-le-mul_right, one-le-pow, pow-suc, div-div-eq-div-mul, div-eq_of_lt, div-eq_of_lt-le, div-eq_of_eq-mul_left, div-one}
use native.Mathlib.Omega.{arith}
use borrow.Author.Tests.{le-leb, lt-leb}
use lib.Dec.{lit<}
use lib.Pow.{pow_pos, pow-add}
use lib.Arith.{mod-mul}
use Rattle.std.proofs.Common.{List, [], ◌∷◌, get_or}
use Rattle.rule.proofs.Tests.{le_or_gt}
use Rattle.root.specs.Digits.{Extracted, taken, Partial, one_more, after_digits, AfterEachDigit, whole_root, Holds, Ready, NextDigit, Chosen}

-- ---- squares

pub square_next : (r : ℕ) → (r + 1) * (r + 1) ≡ r * r + (2 * r + 1)
square_next r =
    let e : (r + 1) * (r + 1) ≡ r * r + r * 1 + (1 * r + 1 * 1) = simp (add-mul, mul-add) in
    let a : r * 1 ≡ r = mul-one r in
    let b : 1 * r ≡ r = one-mul r in
    omega arith

pub square-double : (r : ℕ) → r * 2 * (r * 2) ≡ 4 * (r * r)
square-double r = let e : r * 2 * (r * 2) ≡ r * r * 4 = mul-mul-mul_comm r 2 r 2 in omega arith

-- ---- one digit more

-- The digit is 1, or it is 0.
pub record One (p : Partial) (two : ℕ) : Type 0 where
  pub there : 4 * p.root + 1 ≤ 4 * p.rem + two
  pub root_is : (one_more p two).root ≡ 2 * p.root + 1
  pub rem_is : (one_more p two).rem ≡ 4 * p.rem + two - (4 * p.root + 1)

pub record None (p : Partial) (two : ℕ) : Type 0 where
  pub gone : 4 * p.rem + two < 4 * p.root + 1
  pub root_is : (one_more p two).root ≡ 2 * p.root
  pub rem_is : (one_more p two).rem ≡ 4 * p.rem + two

pub digit_one : (p : Partial) (two : ℕ) → 4 * p.root + 1 ≤ 4 * p.rem + two → One p two
unfolding one_more
digit_one p two h = let e = le-leb (4 * p.root + 1) (4 * p.rem + two) h in record { there = h; root_is = rw e refl; rem_is = rw e refl }

pub digit_none : (p : Partial) (two : ℕ) → 4 * p.rem + two < 4 * p.root + 1 → None p two
unfolding one_more
digit_none p two h = let e = lt-leb (4 * p.root + 1) (4 * p.rem + two) h in record { gone = h; root_is = rw e (omega arith); rem_is = rw e (omega arith) }

extracted_more : (part part' two : ℕ) (p : Partial) → part' ≡ part * 4 + two → two ≤ 3 → Extracted part p.root p.rem → Extracted part' (one_more p two).root (one_more p two).rem
extracted_more part part' two p next small e = ⊎_elim one none (le_or_gt (4 * p.root + 1) (4 * p.rem + two))
  where
    d : p.root * 2 * (p.root * 2) ≡ 4 * (p.root * p.root)
    d = square-double p.root

    one : 4 * p.root + 1 ≤ 4 * p.rem + two → Extracted part' (one_more p two).root (one_more p two).rem
    one h =
        let o = digit_one p two h in
        let sq = e.square in
        let sm = e.small in
        let s : (p.root * 2 + 1) * (p.root * 2 + 1) ≡ p.root * 2 * (p.root * 2) + (2 * (p.root * 2) + 1) = square_next (p.root * 2) in
        let x : 2 * p.root + 1 ≡ p.root * 2 + 1 = omega arith in
        rw (o.root_is, o.rem_is, x) (record { square = omega arith; small = omega arith })

    none : 4 * p.rem + two < 4 * p.root + 1 → Extracted part' (one_more p two).root (one_more p two).rem
    none h =
        let o = digit_none p two h in
        let sq = e.square in
        let x : 2 * p.root ≡ p.root * 2 = omega arith in
        rw (o.root_is, o.rem_is, x) (record { square = omega arith; small = omega arith })

-- ---- after each digit

taken_none : (scaled : ℕ) → scaled < 4 ^ 54 → taken scaled 0 ≡ 0
unfolding taken
taken_none scaled h = div-eq_of_lt h

taken_next : (scaled i : ℕ) → i < 54 → taken scaled (suc i) ≡ taken scaled i * 4 + taken scaled (suc i) % 4
unfolding taken
taken_next scaled i h =
    let k = 54 - suc i in
    let e : 54 - i ≡ suc k = omega arith in
    let x : scaled / 4 ^ (54 - i) ≡ scaled / 4 ^ k / 4 = rw (e, pow-suc 4 k) (sym (div-div-eq-div-mul scaled (4 ^ k) 4)) in
    omega arith

taken-all : (scaled : ℕ) → taken scaled 54 ≡ scaled
unfolding taken
taken-all scaled = div-one scaled

pub after_each_digit : AfterEachDigit
unfolding after_digits
after_each_digit scaled zero h l = record { square = taken_none scaled h; small = omega arith }
after_each_digit scaled (suc i) h l =
    extracted_more (taken scaled i) (taken scaled (suc i)) (taken scaled (suc i) % 4) (after_digits scaled i) (taken_next scaled i (omega arith)) (omega arith) (after_each_digit scaled i h (omega arith))

pub whole_is : (scaled : ℕ) → scaled < 4 ^ 54 → Extracted scaled (whole_root scaled) (after_digits scaled 54).rem
unfolding whole_root
whole_is scaled h = rw (taken-all scaled) at (after_each_digit scaled 54 h (omega arith))

-- ---- one turn of the loop, for any unit. With w for a quarter of it, what is left times w is on the scale of w * w, where two more digits are taken

module _ (w two tail : ℕ) (p : Partial) (root left unit root' left' unit' : ℕ) (short : tail < w * w) (quarters : unit ≡ w * 4)
    (in_units : root ≡ p.root * unit) (remains : left * (w * 2) ≡ 2 * (p.rem * (w * w * 4) + (two * (w * w) + tail))) (d : NextDigit root left unit root' left' unit') where
  times : (a b : ℕ) → (4 * a + b) * (w * w) ≡ 4 * (a * (w * w)) + b * (w * w)
  times a b = add-mul (4 * a) b (w * w) ∙ ap (λ (x : ℕ). x + b * (w * w)) (mul_assoc 4 a (w * w))

  left_is : left * w ≡ (4 * p.rem + two) * (w * w) + tail
  left_is =
      let a : left * (w * 2) ≡ left * w * 2 = sym (mul_assoc left w 2) in
      let b : p.rem * (w * w * 4) ≡ p.rem * (w * w) * 4 = sym (mul_assoc p.rem (w * w) 4) in
      let t = times p.rem two in
      omega arith

  root_is : root ≡ p.root * w * 4
  root_is = in_units ∙ ap (λ (x : ℕ). p.root * x) quarters ∙ sym (mul_assoc p.root w 4)

  -- the trial is 4 * root + 1, in place
  trial : (root + unit / 4) * w ≡ (4 * p.root + 1) * (w * w)
  trial =
      let q : root + unit / 4 ≡ 4 * (p.root * w) + w = let r = root_is in omega arith in
      let e : (4 * (p.root * w) + w) * w ≡ 4 * (p.root * w) * w + w * w = add-mul (4 * (p.root * w)) w w in
      let f : 4 * (p.root * w) * w ≡ 4 * (p.root * w * w) = mul_assoc 4 (p.root * w) w in
      let g : p.root * w * w ≡ p.root * (w * w) = mul_assoc p.root w w in
      let t = times p.root 1 in
      let o : 1 * (w * w) ≡ w * w = one-mul (w * w) in
      ap (λ (x : ℕ). x * w) q ∙ (omega arith)

  -- and it is tried as the rule tries it
  there : root + unit / 4 ≤ left → 4 * p.root + 1 ≤ 4 * p.rem + two
  there h =
      let l : (root + unit / 4) * w ≤ left * w = mul-le-mul_right w h in
      let a = trial in
      let b = left_is in
      let x = add-mul (4 * p.root) 1 (w * w) in
      let o : 1 * (w * w) ≡ w * w = one-mul (w * w) in
      let c : 4 * p.root * (w * w) < (4 * p.rem + two) * (w * w) = omega arith in
      let e : 4 * p.root < 4 * p.rem + two = lt_of_mul-lt-mul_right (w * w) c in
      omega arith

  gone : 0 < w → left < root + unit / 4 → 4 * p.rem + two < 4 * p.root + 1
  gone pos h =
      let l : left * w < (root + unit / 4) * w = mul-lt-mul_of_pos_right h pos in
      let a = trial in
      let b = left_is in
      lt_of_mul-lt-mul_right (w * w) (omega arith)

  record Turned : Type 0 where
    root_next : root' ≡ (one_more p two).root * (w * 2)
    left_next : left' * w ≡ 2 * ((one_more p two).rem * (w * w) + tail)
    unit_next : unit' ≡ w * 2

  turned_one : root + unit / 4 ≤ left → Turned
  turned_one h =
      let o = digit_one p two (there h) in
      let n = d.one h in
      let g = there h in
      let r = root_is in
      let u = d.halved in
      let a : (2 * p.root + 1) * (w * 2) ≡ 2 * p.root * (w * 2) + 1 * (w * 2) = add-mul (2 * p.root) 1 (w * 2) in
      let b : 2 * p.root * (w * 2) ≡ 2 * (p.root * w) * 2 = sym (mul_assoc (2 * p.root) w 2) ∙ ap (λ (x : ℕ). x * 2) (mul_assoc 2 p.root w) in
      let x : (left' + 2 * (root + unit / 4)) * w ≡ left' * w + 2 * ((root + unit / 4) * w) = add-mul left' (2 * (root + unit / 4)) w ∙ ap (λ (y : ℕ). left' * w + y) (mul_assoc 2 (root + unit / 4) w) in
      let y : (left' + 2 * (root + unit / 4)) * w ≡ 2 * (left * w) = ap (λ (z : ℕ). z * w) n.1 ∙ mul_assoc 2 left w in
      let m = 4 * p.rem + two - (4 * p.root + 1) in
      let s : m + (4 * p.root + 1) ≡ 4 * p.rem + two = omega arith in
      let z : m * (w * w) + (4 * p.root + 1) * (w * w) ≡ (4 * p.rem + two) * (w * w) = sym (add-mul m (4 * p.root + 1) (w * w)) ∙ ap (λ (k : ℕ). k * (w * w)) s in
      let t = trial in
      let l = left_is in
      let q = n.0 in
      record { root_next = rw o.root_is (omega arith); left_next = rw o.rem_is (omega arith); unit_next = omega arith }

  turned_none : 0 < w → left < root + unit / 4 → Turned
  turned_none pos h =
      let o = digit_none p two (gone pos h) in
      let n = d.none h in
      let r = root_is in
      let u = d.halved in
      let b : 2 * p.root * (w * 2) ≡ 2 * (p.root * w) * 2 = sym (mul_assoc (2 * p.root) w 2) ∙ ap (λ (x : ℕ). x * 2) (mul_assoc 2 p.root w) in
      let y : left' * w ≡ 2 * (left * w) = ap (λ (z : ℕ). z * w) n.1 ∙ mul_assoc 2 left w in
      let l = left_is in
      let q = n.0 in
      record { root_next = rw o.root_is (omega arith); left_next = rw o.rem_is (omega arith); unit_next = omega arith }

  turned : 0 < w → Turned
  turned pos = ⊎_elim turned_one (turned_none pos) (le_or_gt (root + unit / 4) left)

-- ---- the loop

four-power : (k : ℕ) → 4 ^ k ≡ 2 ^ k * 2 ^ k
four-power zero = refl
four-power (suc k) = pow-suc 4 k ∙ ap (λ (x : ℕ). x * 4) (four-power k) ∙ sym (mul-mul-mul_comm (2 ^ k) 2 (2 ^ k) 2) ∙ ap (λ (x : ℕ). x * x) (sym (pow-suc 2 k))

four_pos : (k : ℕ) → 0 < 4 ^ k
four_pos k = one-le-pow k 4 (lit< tt)

pub begun : (n : ℕ) → n < 2 ^ 54 → Holds (n * 2 ^ 54) 0 0 (n * 2) (2 ^ 55)
unfolding after_digits
begun n h = record { in_units = refl; remains = omega arith; halved = refl }

-- the digits still to come are two and those after them
coming_next : (scaled k : ℕ) → scaled % 4 ^ suc k ≡ scaled / 4 ^ k % 4 * 4 ^ k + scaled % 4 ^ k
coming_next scaled k = rw (pow-suc 4 k, mul_comm (4 ^ k) 4) (mod-mul scaled (lit< tt) (four_pos k))

pub holds_next : (scaled i root left unit root' left' unit' : ℕ) → i < 54 → Holds scaled i root left unit → NextDigit root left unit root' left' unit'
    → Holds scaled (suc i) root' left' unit'
unfolding after_digits taken
holds_next scaled i root left unit root' left' unit' h a d =
    let k = 54 - suc i in
    let p = after_digits scaled i in
    let x : 54 - i ≡ suc k = omega arith in
    let y : 55 - i ≡ suc (suc k) = omega arith in
    let z : 55 - suc i ≡ suc k = omega arith in
    let u : unit ≡ 2 ^ k * 4 = a.halved ∙ ap (λ (j : ℕ). 2 ^ j) y ∙ (let e = pow-suc 2 (suc k) in let f = pow-suc 2 k in omega arith) in
    let l : left * (2 ^ k * 2) ≡ 2 * (p.rem * (2 ^ k * 2 ^ k * 4) + (scaled / 4 ^ k % 4 * (2 ^ k * 2 ^ k) + scaled % 4 ^ k))
    = rw (← four-power k, ← pow-suc 2 k, ← pow-suc 4 k, ← coming_next scaled k, ← x) a.remains in
    let s : scaled % 4 ^ k < 2 ^ k * 2 ^ k = rw (← four-power k) (mod-lt scaled (four_pos k)) in
    let t = turned (2 ^ k) (scaled / 4 ^ k % 4) (scaled % 4 ^ k) p root left unit root' left' unit' s u a.in_units l d (pow_pos k) in
    record {
      in_units = t.root_next ∙ ap (λ (j : ℕ). (one_more p (scaled / 4 ^ k % 4)).root * j) (sym t.unit_next);
      remains = t.left_next ∙ ap (λ (j : ℕ). 2 * ((one_more p (scaled / 4 ^ k % 4)).rem * j + scaled % 4 ^ k)) (sym (four-power k));
      halved = rw (z, pow-suc 2 k) t.unit_next;
    }

pub ended : (scaled root left unit : ℕ) → Holds scaled 54 root left unit → root / 2 ≡ whole_root scaled
unfolding whole_root
ended scaled root left unit a = let r : root ≡ (after_digits scaled 54).root * 2 = a.in_units ∙ ap (λ (j : ℕ). (after_digits scaled 54).root * j) a.halved in omega arith

-- ---- the sentence, of what the loop holds

-- what is left is the remainder in units, and less than a unit more
module _ (scaled i root left unit : ℕ) (h : i ≤ 54) (a : Holds scaled i root left unit) where
  abbrev w : ℕ
  w = 2 ^ (54 - i)

  abbrev rem : ℕ
  rem = (after_digits scaled i).rem

  units : (k : ℕ) → k * unit * w ≡ 2 * (k * (w * w))
  units k =
      let u : unit ≡ w * 2 = a.halved ∙ ap (λ (j : ℕ). 2 ^ j) (let y : 55 - i ≡ suc (54 - i) = omega arith in y) ∙ pow-suc 2 (54 - i) in
      ap (λ (x : ℕ). k * x * w) u ∙ mul_assoc k (w * 2) w ∙ ap (λ (x : ℕ). k * x) (mul_right_comm w 2 w) ∙ sym (mul_assoc k (w * w) 2) ∙ mul_comm (k * (w * w)) 2

  left-units : left * w ≡ 2 * (rem * (w * w) + scaled % 4 ^ (54 - i))
  left-units = rw (← four-power (54 - i)) a.remains

  rem-least : rem * unit ≤ left
  rem-least = le_of_mul-le-mul_right (let e = units rem in let l = left-units in omega arith) (pow_pos (54 - i))

  rem-most : left < (rem + 1) * unit
  rem-most =
      let e = units (rem + 1) in
      let l = left-units in
      let t : scaled % 4 ^ (54 - i) < w * w = rw (← four-power (54 - i)) (mod-lt scaled (four_pos (54 - i))) in
      let g : (rem + 1) * (w * w) ≡ rem * (w * w) + 1 * (w * w) = add-mul rem 1 (w * w) in
      let o : 1 * (w * w) ≡ w * w = one-mul (w * w) in
      lt_of_mul-lt-mul_right w (omega arith)

root-held : (scaled i root left unit : ℕ) → Holds scaled i root left unit → root / unit ≡ (after_digits scaled i).root
root-held scaled i root left unit a = div-eq_of_eq-mul_left (rw a.halved (pow_pos (55 - i))) a.in_units

pub carried : (scaled i root left unit : ℕ) → scaled < 4 ^ 54 → i ≤ 54 → Holds scaled i root left unit → Extracted (taken scaled i) (root / unit) (left / unit)
carried scaled i root left unit s h a =
    let r : left / unit ≡ (after_digits scaled i).rem = div-eq_of_lt-le unit (rem-least scaled i root left unit h a) (rem-most scaled i root left unit h a) in
    rw (root-held scaled i root left unit a, r) (after_each_digit scaled i s h)

-- ---- nothing overflows

one_or_none : (p : Partial) (two : ℕ) → (one_more p two).root ≤ 2 * p.root + 1
one_or_none p two = ⊎_elim (λ h. let o = (digit_one p two h).root_is in omega arith) (λ h. let o = (digit_none p two h).root_is in omega arith) (le_or_gt (4 * p.root + 1) (4 * p.rem + two))

root_short : (scaled i : ℕ) → (after_digits scaled i).root < 2 ^ i
unfolding after_digits
root_short scaled zero = omega arith
root_short scaled (suc i) =
    let h = root_short scaled i in
    let o = one_or_none (after_digits scaled i) (taken scaled (suc i) % 4) in
    let e = pow-suc 2 i in
    omega arith

-- the root in units, and a unit beyond it
root-room : (scaled i root left unit : ℕ) → i ≤ 54 → Holds scaled i root left unit → root + unit ≤ 2 ^ 55
root-room scaled i root left unit h a =
    let r = (after_digits scaled i).root in
    let l : (r + 1) * unit ≤ 2 ^ i * unit = mul-le-mul_right unit (let s = root_short scaled i in omega arith) in
    let e : (r + 1) * unit ≡ r * unit + 1 * unit = add-mul r 1 unit in
    let o : 1 * unit ≡ unit = one-mul unit in
    let q : 2 ^ i * unit ≡ 2 ^ 55 = ap (λ (x : ℕ). 2 ^ i * x) a.halved ∙ sym (pow-add 2 i (55 - i)) ∙ ap (λ (j : ℕ). 2 ^ j) (let z : i + (55 - i) ≡ 55 = omega arith in z) in
    let u = a.in_units in
    omega arith

-- the remainder is at most twice the root
left-room : (scaled i root left unit : ℕ) → scaled < 4 ^ 54 → i ≤ 54 → Holds scaled i root left unit → left < 2 * root + unit
left-room scaled i root left unit s h a =
    let r = (after_digits scaled i).root in
    let m = rem-most scaled i root left unit h a in
    let l : ((after_digits scaled i).rem + 1) * unit ≤ (2 * r + 1) * unit = mul-le-mul_right unit (let k = (after_each_digit scaled i s h).small in omega arith) in
    let e : (2 * r + 1) * unit ≡ 2 * r * unit + 1 * unit = add-mul (2 * r) 1 unit in
    let f : 2 * r * unit ≡ 2 * (r * unit) = mul_assoc 2 r unit in
    let o : 1 * unit ≡ unit = one-mul unit in
    let u = a.in_units in
    omega arith

-- before each of the 54 digits the state is within what `next_digit` asks
pub ready : (scaled i root left unit : ℕ) → scaled < 4 ^ 54 → i < 54 → Holds scaled i root left unit → Ready root left unit
ready scaled i root left unit s h a =
    let k = 53 - i in
    let y : 55 - i ≡ suc (suc k) = omega arith in
    let u : unit ≡ 2 ^ k * 4 = a.halved ∙ ap (λ (j : ℕ). 2 ^ j) y ∙ (let e = pow-suc 2 (suc k) in let f = pow-suc 2 k in omega arith) in
    let r = root-room scaled i root left unit (omega arith) a in
    let l = left-room scaled i root left unit s (omega arith) a in
    let p = pow_pos k in
    record { root_short = omega arith; left_short = omega arith; unit_short = omega arith; quarters = omega arith }

-- ---- one digit of the loop

pub chosen_cut : (root left unit r : ℕ) → unit % 4 ≡ 0 → Chosen left (root + unit / 2 / 2) 0 (root + (root + unit / 2)) r → r ≤ left * 2
chosen_cut root left unit r q c = ⊎_elim (λ h. let e = c.yes h in omega arith) (λ h. let e = c.no h in omega arith) (le_or_gt (root + unit / 2 / 2) left)

pub digit_step : {root left unit grown cut : ℕ} → unit % 4 ≡ 0 → Chosen left (root + unit / 2 / 2) root (root + unit / 2) grown
    → Chosen left (root + unit / 2 / 2) 0 (root + (root + unit / 2)) cut → NextDigit root left unit grown (left * 2 - cut) (unit / 2)
digit_step {root} {left} {unit} {grown} {cut} q g c = record {
  one = λ h. let a = g.yes (omega arith) in let b = c.yes (omega arith) in (a, omega arith);
  none = λ h. let a = g.no (omega arith) in let b = c.no (omega arith) in (a, omega arith);
  halved = refl;
}

-- ---- lists of numbers and of states

pub short_none : (k : ℕ) → get_or [] k 0 < 2 ^ 54
short_none k = omega arith

pub short_more : (n : ℕ) (l : List ℕ) → n < 2 ^ 54 → ((k : ℕ) → get_or l k 0 < 2 ^ 54) → (k : ℕ) → get_or (n ∷ l) k 0 < 2 ^ 54
short_more n l h a zero = h
short_more n l h a (suc k) = a k
